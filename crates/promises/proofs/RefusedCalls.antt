-- The refusals of a feed, a finish and an opening, in their order, said once of any reader (rules 1.4, 5.2, 5.3).
use Prim.Native.Nat.{ℕ, ◌*◌, ◌≤◌, ◌<◌}
use mathlib.Core.Bool.{Bool, true, false, cond, true≢false}
use mathlib.Core.List.{List}
use mathlib.Core.Logic.{◌↔◌, ◌⊎◌}
use mathlib.Core.Option.{Option, none, some}
use mathlib.Core.Path.{◌≡◌, refl, sym, ap, ◌∙◌, subst}
use native.Mathlib.Omega.{arith}
use lib.Dec.{ltb}
use Rattle.canvas.specs.Picture.{Area, rows_of, fits}
use Rattle.meaning.specs.Drawing.{Setting}
use Rattle.meaning.specs.Payload.{Finished, turned_down}
use Rattle.meaning.specs.Reader.{Step, refuse, How, read_all, stopped, halted, refused_by, is_refused, Run, call}
use Rattle.meaning.specs.Calls.{Session, Status, Answer, told, refused, Fed, session_after, tells, answered, first_of, misfits, feed_refusal, finish_session, feed}
use Rattle.promises.proofs.Choices.{Tells, tells-itself, tells-less, tells-most, tells-equal, tells-not, tells-or, tells-and, first-case, later-case}
use Rattle.promises.proofs.RefusedRuns.{RunRefused, run-exactly}

-- what is said of one of two equal things
along : {A B : Type 0} {x y z : A} → x ≡ y → (y ≡ z) ↔ B → (x ≡ z) ↔ B
along e k = (λ h. k.0 (sym e ∙ h), λ b. e ∙ k.1 b)

module _ {S : Type 0} (area_of : S → Area) (s : Session S) (length : ℕ) where
  -- another length than at the opening, or a picture that does not fit
  abbrev pub Misfits : Type 0
  Misfits =
      (¬ (length ≡ s.length))
      ⊎ (¬ (((area_of s.state).width ≤ s.setting.stride) × ((area_of s.state).height ≤ rows_of length s.setting.stride)))

  pub tells-misfits : Tells (misfits area_of s length) Misfits
  unfolding misfits fits
  tells-misfits = tells-or (tells-not (tells-equal _ _)) (tells-not (tells-and (tells-most _ _) (tells-most _ _)))

  -- ---- finish

  module _ (finish_state : Setting → S → Finished) where
    -- 9 and 12 are given by nothing else
    abbrev pub NeitherNor : Type 0
    NeitherNor = (n : ℕ) → finish_state s.setting s.state ≡ turned_down n → (¬ (n ≡ 9)) × (¬ (n ≡ 12))

    ends : Option ℕ → Finished
    ends o = elim o [ none ↦ finish_state s.setting s.state | some n ↦ turned_down n ]

    abbrev pub finishes : Finished
    finishes = finish_session area_of finish_state s length

    by_tests : finishes
        ≡ cond s.failed (turned_down 9) (cond (misfits area_of s length) (turned_down 12) (finish_state s.setting s.state))
    unfolding finish_session first_of ends
    by_tests = go s.failed (misfits area_of s length)
      where
        go : (t u : Bool)
            → ends (cond t (some 9) (cond u (some 12) none))
            ≡ cond t (turned_down 9) (cond u (turned_down 12) (finish_state s.setting s.state))
        go true u = refl
        go false true = refl
        go false false = refl

    -- A finish is 9 exactly when the session has failed.
    pub finish-nine : NeitherNor → (finishes ≡ turned_down 9) ↔ (s.failed ≡ true)
    finish-nine own = along by_tests (first-case tells-itself (λ e. go (misfits area_of s length) e))
      where
        go : (u : Bool) → cond u (turned_down 12) (finish_state s.setting s.state) ≡ turned_down 9 → ⊥
        go true e = let number : ◌≡◌ {A = ℕ} 12 9 = cc in omega arith
        go false e = (own 9 e).0 refl

    -- It is 12 exactly when it has not, and the canvas's length differs from the opening's or the picture does not fit.
    pub finish-twelve : NeitherNor → (finishes ≡ turned_down 12) ↔ ((¬ (s.failed ≡ true)) × Misfits)
    finish-twelve own =
        along by_tests
        (later-case tells-itself (λ e. let number : ◌≡◌ {A = ℕ} 9 12 = cc in omega arith)
        (first-case tells-misfits (λ e. (own 12 e).1 refl)))

    -- Any other number is what the state is refused with.
    pub finish-own : (n : ℕ) → ¬ (n ≡ 9) → ¬ (n ≡ 12)
        → (finishes ≡ turned_down n) ↔ ((¬ (s.failed ≡ true)) × ((¬ Misfits) × (finish_state s.setting s.state ≡ turned_down n)))
    finish-own n not-nine not-twelve =
        along by_tests
        (later-case tells-itself (λ e. not-nine (cc)) (later-case tells-misfits (λ e. not-twelve (cc)) (λ e. e, λ e. e)))

-- ---- feed

-- a call's answer is a refusal exactly when its bytes are refused
pub answered-exactly : {S E : Type 0} (end : S → Option E) (s : Session S) (r : Run S) (n : ℕ)
    → ((answered end s r).answer ≡ refused n) ↔ (r.how ≡ refused_by n)
unfolding answered tells is_refused
answered-exactly {S} {E} end s r n = go r.how
  where
    of : How → Fed S E
    of how = answered end s (record { state = r.state; consumed = r.consumed; ink = r.ink; how = how })

    counts : {X : Type 0} {c i : ℕ} {x : Status E} → told c i x ≡ refused n → X
    counts e = let never : ◌≡◌ {A = ℕ} 0 1 = cc in absurd (omega arith)

    other : {h : How} {X : Type 0} → h ≡ refused_by n → is_refused h ≡ false → X
    other e q = let never : true ≡ false = ap is_refused (sym e) ∙ q in absurd (true≢false never)

    go : (how : How) → ((of how).answer ≡ refused n) ↔ (how ≡ refused_by n)
    go read_all = (counts, λ e. other e refl)
    go stopped = (counts, λ e. other e refl)
    go halted = (counts, λ e. other e refl)
    go (refused_by m) = (λ e. cc, λ e. cc)

answered-fails : {S E : Type 0} (end : S → Option E) (s : Session S) (r : Run S) (n : ℕ) → r.how ≡ refused_by n
    → (answered end s r).session ≡ session_after s r.state true
unfolding answered
answered-fails {S} {E} end s r n e = ap (λ (how : How). (of how).session) e
  where
    of : How → Fed S E
    of how = answered end s (record { state = r.state; consumed = r.consumed; ink = r.ink; how = how })

module _ {S E : Type 0} (area_of : S → Area) (step : Setting → S → ℕ → Step S) (rest : Setting → S → S) (end : S → Option E)
    (numbers : (c : Setting) (t u : S) (b n : ℕ) → step c t b ≡ refuse u n → (1 ≤ n) × (n ≤ 7)) (s : Session S) (length a : ℕ)
    (bs : List ℕ) where
  -- what the call comes to, and what its bytes do
  abbrev pub fed : Fed S E
  fed = feed area_of step rest end s length a bs

  abbrev pub ran : Run S
  ran = call (step s.setting) (rest s.setting) a s.state bs

  -- by 9, 12 and 13, else by the bytes
  abbrev ordered : Bool → Bool → Bool → Fed S E
  ordered t u v =
      cond t (record { answer = refused 9; session = s })
      (cond u (record { answer = refused 12; session = s })
      (cond v (record { answer = refused 13; session = s }) (answered end s ran)))

  by_order : fed ≡ ordered s.failed (misfits area_of s length) (ltb a (6 * s.setting.limits.width))
  unfolding feed feed_refusal first_of
  by_order = go s.failed (misfits area_of s length) (ltb a (6 * s.setting.limits.width))
    where
      of : Option ℕ → Fed S E
      of o = elim o [ none ↦ answered end s ran | some n ↦ record { answer = refused n; session = s } ]

      go : (t u v : Bool) → of (cond t (some 9) (cond u (some 12) (cond v (some 13) none))) ≡ ordered t u v
      go true u v = refl
      go false true v = refl
      go false false true = refl
      go false false false = refl

  answers : fed.answer
      ≡ cond s.failed (refused 9)
      (cond (misfits area_of s length) (refused 12) (cond (ltb a (6 * s.setting.limits.width)) (refused 13) (answered end s ran).answer))
  answers = ap (λ (x : Fed S E). x.answer) by_order ∙ go s.failed (misfits area_of s length) (ltb a (6 * s.setting.limits.width))
    where
      go : (t u v : Bool)
          → (ordered t u v).answer ≡ cond t (refused 9) (cond u (refused 12) (cond v (refused 13) (answered end s ran).answer))
      go true u v = refl
      go false true v = refl
      go false false true = refl
      go false false false = refl

  -- the bytes are refused with 1 to 7 alone
  pub run-numbers : {n : ℕ} → ran.how ≡ refused_by n → (1 ≤ n) × (n ≤ 7)
  run-numbers {n} e =
      let h = (run-exactly (step s.setting) (rest s.setting) a s.state bs ran.state n).0 (e, refl) in
      numbers s.setting _ ran.state h.byte n h.refuses

  not-run : {n : ℕ} → 8 ≤ n → (answered end s ran).answer ≡ refused n → ⊥
  not-run {n} high e = let range : (1 ≤ n) × (n ≤ 7) = run-numbers ((answered-exactly end s ran n).0 e) in omega arith

  refused-differ : {m n : ℕ} → ¬ (m ≡ n) → ◌≡◌ {A = Answer E} (refused m) (refused n) → ⊥
  refused-differ differ e = differ (cc)

  -- 9 is given exactly when the session has already been refused by 1-7.
  pub nine-exactly : (fed.answer ≡ refused 9) ↔ (s.failed ≡ true)
  nine-exactly = along answers (first-case tells-itself (λ e. go (misfits area_of s length) (ltb a (6 * s.setting.limits.width)) e))
    where
      go : (u v : Bool) → cond u (refused 12) (cond v (refused 13) (answered end s ran).answer) ≡ refused 9 → ⊥
      go true v e = refused-differ (λ q. omega arith) e
      go false true e = refused-differ (λ q. omega arith) e
      go false false e = not-run (omega arith) e

  -- 12 is given exactly when it has not, and the canvas length differs from the opening's or the picture does not fit it.
  pub twelve-exactly : (fed.answer ≡ refused 12) ↔ ((¬ (s.failed ≡ true)) × Misfits area_of s length)
  twelve-exactly =
      along answers
      (later-case tells-itself (refused-differ (λ q. omega arith))
      (first-case (tells-misfits area_of s length) (λ e. go (ltb a (6 * s.setting.limits.width)) e)))
    where
      go : (v : Bool) → cond v (refused 13) (answered end s ran).answer ≡ refused 12 → ⊥
      go true e = refused-differ (λ q. omega arith) e
      go false e = not-run (omega arith) e

  -- 13 is given exactly when neither holds, and the allowance is below 6W.
  pub thirteen-exactly : (fed.answer ≡ refused 13)
      ↔ ((¬ (s.failed ≡ true)) × ((¬ Misfits area_of s length) × (a < 6 * s.setting.limits.width)))
  thirteen-exactly =
      along answers
      (later-case tells-itself (refused-differ (λ q. omega arith))
      (later-case (tells-misfits area_of s length) (refused-differ (λ q. omega arith))
      (first-case (tells-less _ _) (not-run (omega arith)))))

  -- 1 to 7 are given exactly when none of these holds and a byte is refused so.
  pub bytes-exactly : (n : ℕ) → n ≤ 7
      → (fed.answer ≡ refused n)
      ↔ ((¬ (s.failed ≡ true))
      × ((¬ Misfits area_of s length)
      × ((¬ (a < 6 * s.setting.limits.width))
      × RunRefused (step s.setting) a s.state bs ran.state n)))
  bytes-exactly n low =
      along answers
      (later-case tells-itself (refused-differ (λ q. omega arith))
      (later-case (tells-misfits area_of s length) (refused-differ (λ q. omega arith))
      (later-case (tells-less _ _) (refused-differ (λ q. omega arith)) own)))
    where
      own : ((answered end s ran).answer ≡ refused n) ↔ RunRefused (step s.setting) a s.state bs ran.state n
      own =
          let k = answered-exactly end s ran n in
          let r = run-exactly (step s.setting) (rest s.setting) a s.state bs ran.state n in
          (λ e. r.0 (k.0 e, refl), λ h. k.1 (r.1 h).0)

  -- 9, 12 and 13 come of the tests before the bytes
  pub refused-first : (n : ℕ) → 8 ≤ n → fed.answer ≡ refused n → feed_refusal area_of s length a ≡ some n
  unfolding feed
  refused-first n high = go (feed_refusal area_of s length a)
    where
      of : Option ℕ → Fed S E
      of o = elim o [ none ↦ answered end s ran | some m ↦ record { answer = refused m; session = s } ]

      go : (o : Option ℕ) → (of o).answer ≡ refused n → o ≡ some n
      go none e = absurd (not-run high e)
      go (some m) e = cc

  -- After 9, 12 and 13 the session is as it was.
  pub refused-keeps : (n : ℕ) → 8 ≤ n → fed.answer ≡ refused n → fed.session ≡ s
  refused-keeps n high =
      subst (λ (x : Fed S E). x.answer ≡ refused n → x.session ≡ s) (sym by_order)
      (go s.failed (misfits area_of s length) (ltb a (6 * s.setting.limits.width)))
    where
      go : (t u v : Bool) → (ordered t u v).answer ≡ refused n → (ordered t u v).session ≡ s
      go true u v e = refl
      go false true v e = refl
      go false false true e = refl
      go false false false e = absurd (not-run high e)

  -- 1 to 7 fail the session, which has come to the state before the refused byte or command.
  pub refused-fails : (n : ℕ) → n ≤ 7 → fed.answer ≡ refused n → fed.session ≡ session_after s ran.state true
  refused-fails n low =
      subst (λ (x : Fed S E). x.answer ≡ refused n → x.session ≡ session_after s ran.state true) (sym by_order)
      (go s.failed (misfits area_of s length) (ltb a (6 * s.setting.limits.width)))
    where
      go : (t u v : Bool) → (ordered t u v).answer ≡ refused n → (ordered t u v).session ≡ session_after s ran.state true
      go true u v e = absurd (refused-differ (λ q. omega arith) e)
      go false true v e = absurd (refused-differ (λ q. omega arith) e)
      go false false true e = absurd (refused-differ (λ q. omega arith) e)
      go false false false e = answered-fails end s ran n ((answered-exactly end s ran n).0 e)
