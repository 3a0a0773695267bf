-- What the answers of any calls tell of the definition's session: that it has failed, and that its end has come (rules 5.1, 5.6).
use Prim.Native.Nat.{ℕ, ◌-◌, ◌*◌, ◌≤◌}
use mathlib.Core.Bool.{Bool, true, false, cond, ◌&&◌, ◌||◌, true≢false}
use mathlib.Core.List.{List, [], ◌∷◌}
use mathlib.Core.Logic.{◌↔◌, ◌⊎◌, inl, inr}
use mathlib.Core.Option.{Option, none, some}
use mathlib.Core.Path.{◌≡◌, refl, sym, ap, ◌∙◌}
use native.Mathlib.Omega.{arith}
use borrow.Author.Tests.{le-leb, lt-leb}
use lib.Dec.{leb, ltb}
use Rattle.colours.specs.declared.Palette.{Palette}
use Rattle.canvas.specs.Picture.{Area}
use Rattle.meaning.specs.Drawing.{Setting}
use Rattle.meaning.specs.Reader.{Step, next, halt, refuse, How, read_all, stopped, halted, refused_by, Run, still, after, follow, call}
use Rattle.meaning.specs.Sessions.{Reading, payload_step, rested, End, Phase, start, introduced, header, within, after_escape, over, dcs_step, dcs_rested}
use Rattle.meaning.specs.Calls.{Session, stopped_for_ink, Answer, told, refused, Fed, at_end, session_after, tells, answered, first_of, misfits, feed_refusal, feed, dcs_end, feed_payload, feed_dcs}
use Rattle.meaning.specs.Callers.{Feed, Past, fed_all, Ask}
use Rattle.meaning.specs.Demands.{fails, have_failed, tells_end, have_ended}
use Rattle.meaning.proofs.CallLaws.{call-stopped-at}
use Rattle.payload.specs.History as payload
use Rattle.dcs.specs.History as dcs
use Rattle.promises.proofs.RefusedBytes.{DcsRefused, dcs-byte-exactly}
use Rattle.promises.proofs.RefusedCalls.{run-numbers}
use Rattle.promises.proofs.RefusedHeaders.{Cuts}
use Rattle.promises.proofs.RefusedRuns.{run-exactly}
use Rattle.promises.proofs.RefusedSessions.{payload_area, dcs_area, payload-numbers, dcs-numbers}

-- ---- any calls of any feed

or-false : (t : Bool) → t ≡ (t || false)
or-false true = refl
or-false false = refl

or_later : (t u v : Bool) → ((t || u) || v) ≡ (t || (u || v))
or_later true u v = refl
or_later false u v = refl

module _ {M A : Type 0} (feed : Feed M A) where
  -- what each call keeps is kept
  pub all_keep : {X : Type 0} (of : M → X) → ((m : M) (bs : List ℕ) (a : ℕ) → of (feed m bs a).0 ≡ of m)
      → (m : M) (cs : List Ask) → of (fed_all feed m cs).state ≡ of m
  unfolding fed_all
  all_keep of each m [] = refl
  all_keep of each m (c ∷ cs) = all_keep of each (feed m c.bytes c.allowance).0 cs ∙ each m c.bytes c.allowance

  -- what is brought about by an answer alone has been told by one of the answers, or held before
  pub all_told : (holds : M → Bool) (brings : A → Bool) (one : List A → Bool) → one [] ≡ false → ((x : A) (xs : List A) → one (x ∷ xs) ≡ (brings x || one xs))
      → ((m : M) (bs : List ℕ) (a : ℕ) → holds (feed m bs a).0 ≡ (holds m || brings (feed m bs a).1))
      → (m : M) (cs : List Ask) → holds (fed_all feed m cs).state ≡ (holds m || one (fed_all feed m cs).answers)
  unfolding fed_all
  all_told holds brings one nothing more each m [] = or-false (holds m) ∙ ap (λ (t : Bool). holds m || t) (sym nothing)
  all_told holds brings one nothing more each m (c ∷ cs) =
      let x : M × A = feed m c.bytes c.allowance in
      all_told holds brings one nothing more each x.0 cs
      ∙ ap (λ (t : Bool). t || one (fed_all feed x.0 cs).answers) (each m c.bytes c.allowance)
      ∙ or_later (holds m) (brings x.1) (one (fed_all feed x.0 cs).answers)
      ∙ ap (λ (t : Bool). holds m || t) (sym (more x.1 (fed_all feed x.0 cs).answers))

-- ---- one call of any session

-- whether there is an end
unfoldable pub has_ended : {E : Type 0} → Option E → Bool
has_ended none = false
has_ended (some e) = true

pub ended-exactly : {E : Type 0} (o : Option E) → (o ≡ none) ↔ (has_ended o ≡ false)
unfolding has_ended
ended-exactly none = (λ _. refl, λ _. refl)
ended-exactly (some e) = (λ z. let never : ◌≡◌ {A = ℕ} 0 1 = cc in absurd (omega arith), λ z. absurd (true≢false z))

tells-ended : {E : Type 0} (c i : ℕ) (o : Option E) → has_ended o ≡ tells_end (told c i (at_end o))
unfolding has_ended tells_end at_end
tells-ended c i none = refl
tells-ended c i (some e) = refl

-- 1 to 7 fail a session, and the numbers from 8 on do not
fails-low : (E : Type 0) (n : ℕ) → 1 ≤ n → n ≤ 7 → fails {E = E} (refused n) ≡ true
unfolding fails
fails-low E n low high = ap (λ (t : Bool). t && leb n 7) (le-leb 1 n low) ∙ le-leb n 7 high

fails-high : (E : Type 0) (n : ℕ) → 8 ≤ n → fails {E = E} (refused n) ≡ false
unfolding fails
fails-high E n high = ap (λ (t : Bool). t && leb n 7) (le-leb 1 n (omega arith)) ∙ lt-leb n 7 (omega arith)

module _ {S E : Type 0} (area_of : S → Area) (step : Setting → S → ℕ → Step S) (rest : Setting → S → S) (end : S → Option E)
    (numbers : (c : Setting) (t u : S) (b n : ℕ) → step c t b ≡ refuse u n → (1 ≤ n) × (n ≤ 7)) (s : Session S) (length a : ℕ) (bs : List ℕ) where
  abbrev fed : Fed S E
  fed = feed area_of step rest end s length a bs

  abbrev ran : Run S
  ran = call (step s.setting) (rest s.setting) a s.state bs

  -- a call is refused by 9, 12 or 13 and leaves the session; or the session is live, and its bytes are read
  fed-case : (P : Fed S E → Type 0) → ((n : ℕ) → 8 ≤ n → P (record { answer = refused n; session = s })) → (s.failed ≡ false → P (answered end s ran)) → P fed
  unfolding feed feed_refusal first_of
  fed-case P first reads = go s.failed (misfits area_of s length) (ltb a (6 * s.setting.limits.width)) refl
    where
      of : Option ℕ → Fed S E
      of o = elim o [ none ↦ answered end s ran | some n ↦ record { answer = refused n; session = s } ]

      go : (t u v : Bool) → s.failed ≡ t → P (of (cond t (some 9) (cond u (some 12) (cond v (some 13) none))))
      go true u v e = first 9 (omega arith)
      go false true v e = first 12 (omega arith)
      go false false true e = first 13 (omega arith)
      go false false false e = reads e

  -- what reading came to: it stopped, or was refused, or did neither
  read-case : (P : Fed S E → Type 0) → (ran.how ≡ stopped → P (tells s ran stopped_for_ink)) → P (tells s ran (at_end (end ran.state)))
      → ((n : ℕ) → ran.how ≡ refused_by n → P (record { answer = refused n; session = session_after s ran.state true })) → P (answered end s ran)
  unfolding answered
  read-case P stop fine refusal = go ran.how refl
    where
      of : How → Fed S E
      of how = answered end s (record { state = ran.state; consumed = ran.consumed; ink = ran.ink; how = how })

      go : (how : How) → ran.how ≡ how → P (of how)
      go read_all e = fine
      go stopped e = stop e
      go halted e = fine
      go (refused_by n) e = refusal n e

  -- The setting and the length stay.
  pub feed-keeps : (fed.session.setting ≡ s.setting) × (fed.session.length ≡ s.length)
  unfolding tells session_after
  feed-keeps = fed-case Keeps (λ n high. (refl, refl)) (λ live. read-case Keeps (λ e. (refl, refl)) (refl, refl) (λ n e. (refl, refl)))
    where
      Keeps : Fed S E → Type 0
      Keeps x = (x.session.setting ≡ s.setting) × (x.session.length ≡ s.length)

  -- A session has failed after a call exactly when it had, or the answer is 1 to 7.
  pub feed-fails : fed.session.failed ≡ (s.failed || fails fed.answer)
  unfolding tells session_after fails
  feed-fails =
      fed-case Fails (λ n high. or-false s.failed ∙ ap (λ (t : Bool). s.failed || t) (sym (fails-high E n high)))
      (λ live.
      read-case Fails (λ e. ap (λ (t : Bool). t || false) (sym live)) (ap (λ (t : Bool). t || false) (sym live))
      (λ n e.
      let range : (1 ≤ n) × (n ≤ 7) = run-numbers area_of step rest end numbers s length a bs e in
      sym (fails-low E n range.0 range.1) ∙ ap (λ (t : Bool). t || fails {E = E} (refused n)) (sym live)))
    where
      Fails : Fed S E → Type 0
      Fails x = x.session.failed ≡ (s.failed || fails x.answer)

  -- an end stays, a stop comes at none, and a refusal at none
  module _ (stays : (c : Setting) (t : S) (b : ℕ) → has_ended (end t) ≡ true → step c t b ≡ halt t)
      (rests : (c : Setting) (t u : S) (b i : ℕ) → step c t b ≡ next u i → end (rest c t) ≡ none)
      (refuses : (c : Setting) (t u : S) (b n : ℕ) → step c t b ≡ refuse u n → end u ≡ none) where
    ended-still : (xs : List ℕ) → has_ended (end s.state) ≡ true → (call (step s.setting) (rest s.setting) a s.state xs).state ≡ s.state
    unfolding call follow still
    ended-still [] e = refl
    ended-still (b ∷ xs) e =
        ap
        (λ (x : Step S).
        (follow x
        (λ t i. cond (leb i a) (after 1 i (call (step s.setting) (rest s.setting) (a - i) t xs)) (still (rest s.setting s.state) stopped))
        ).state)
        (stays s.setting s.state b e)

    abbrev Ends : Fed S E → Type 0
    Ends x = has_ended (end x.session.state) ≡ (has_ended (end s.state) || tells_end x.answer)

    answered-state : (answered end s ran).session.state ≡ ran.state
    unfolding tells session_after
    answered-state = read-case (λ x. x.session.state ≡ ran.state) (λ e. refl) refl (λ n e. refl)

    read-ends : (t : Bool) → has_ended (end s.state) ≡ t → has_ended (end (answered end s ran).session.state) ≡ (t || tells_end (answered end s ran).answer)
    unfolding tells session_after tells_end has_ended
    read-ends true e = ap (λ (t : S). has_ended (end t)) (answered-state ∙ ended-still bs e) ∙ e
    read-ends false e =
        read-case (λ x. has_ended (end x.session.state) ≡ tells_end x.answer)
        (λ h.
        let p = call-stopped-at (step s.setting) (rest s.setting) a s.state bs h in
        ap (λ (t : S). has_ended (end t)) p.rested ∙ ap has_ended (rests s.setting p.last p.reached p.byte p.cost p.reads))
        (tells-ended ran.consumed ran.ink (end ran.state))
        (λ n h.
        let p = (run-exactly (step s.setting) (rest s.setting) a s.state bs ran.state n).0 (h, refl) in
        ap has_ended (refuses s.setting _ ran.state p.byte n p.refuses))

    -- The end has come after a call exactly when it had, or the answer tells it.
    pub feed-ends : has_ended (end fed.session.state) ≡ (has_ended (end s.state) || tells_end fed.answer)
    unfolding tells_end
    feed-ends = fed-case Ends (λ n high. or-false (has_ended (end s.state))) (λ live. read-ends (has_ended (end s.state)) refl)

-- ---- any calls of the two kinds

module _ (size : ℕ) (m : Session Reading) (cs : List Ask) where
  abbrev payload_past : Past (Session Reading) (Answer ℕ)
  payload_past = fed_all (payload.feed_meant size) m cs

  -- A payload session has failed exactly when it had, or one of the answers is 1 to 7.
  pub payload-failed : payload_past.state.failed ≡ (m.failed || have_failed payload_past.answers)
  unfolding have_failed feed_payload
  payload-failed =
      all_told (payload.feed_meant size) (λ t. t.failed) fails have_failed refl (λ x xs. refl)
      (λ t bs a. feed-fails payload_area payload_step rested (λ r. r.over) payload-numbers t size a bs) m cs

  pub payload-kept-setting : payload_past.state.setting ≡ m.setting
  unfolding feed_payload
  payload-kept-setting =
      all_keep (payload.feed_meant size) (λ t. t.setting)
      (λ t bs a. (feed-keeps payload_area payload_step rested (λ r. r.over) payload-numbers t size a bs).0) m cs

  pub payload-kept-length : payload_past.state.length ≡ m.length
  unfolding feed_payload
  payload-kept-length =
      all_keep (payload.feed_meant size) (λ t. t.length)
      (λ t bs a. (feed-keeps payload_area payload_step rested (λ r. r.over) payload-numbers t size a bs).1) m cs

-- the three laws of a DCS sequence's end
end_stays : (p : Palette) (c : Setting) (t : Phase) (b : ℕ) → has_ended (dcs_end t) ≡ true → dcs_step c p t b ≡ halt t
unfolding has_ended dcs_end dcs_step
end_stays p c start b e = absurd (true≢false (sym e))
end_stays p c introduced b e = absurd (true≢false (sym e))
end_stays p c (header bs) b e = absurd (true≢false (sym e))
end_stays p c (within r) b e = absurd (true≢false (sym e))
end_stays p c (after_escape r) b e = absurd (true≢false (sym e))
end_stays p c (over x r) b e = refl

end-rests : (p : Palette) (c : Setting) (t u : Phase) (b i : ℕ) → dcs_step c p t b ≡ next u i → dcs_end (dcs_rested c t) ≡ none
unfolding dcs_end dcs_rested dcs_step
end-rests p c start u b i e = refl
end-rests p c introduced u b i e = refl
end-rests p c (header bs) u b i e = refl
end-rests p c (within r) u b i e = refl
end-rests p c (after_escape r) u b i e = refl
end-rests p c (over x r) u b i e = let never : ◌≡◌ {A = ℕ} 0 1 = cc in absurd (omega arith)

end-refuses : (p : Palette) (c : Setting) (t u : Phase) (b n : ℕ) → dcs_step c p t b ≡ refuse u n → dcs_end u ≡ none
unfolding dcs_end
end-refuses p c t u b n e = go t ((dcs-byte-exactly c p b u n t).0 e)
  where
    go : (t : Phase) → DcsRefused c t b u n → dcs_end u ≡ none
    go start h = ap dcs_end h.1.1.0
    go introduced h = ap dcs_end h.1.0
    go (header bs) h = among h.1.1.1
      where
        among : (Cuts b × ((u ≡ header bs) × (n ≡ 2))) ⊎ ((¬ Cuts b) × ((u ≡ header bs) × (n ≡ 3))) → dcs_end u ≡ none
        among (inl k) = ap dcs_end k.1.0
        among (inr k) = ap dcs_end k.1.0
    go (within r) h = ap dcs_end h.1
    go (after_escape r) h = absurd h
    go (over x r) h = absurd h

module _ (p : Palette) (size : ℕ) (m : Session Phase) (cs : List Ask) where
  abbrev dcs_past : Past (Session Phase) (Answer End)
  dcs_past = fed_all (dcs.feed_meant p size) m cs

  -- A DCS session has failed exactly when it had, or one of the answers is 1 to 7.
  pub dcs-failed : dcs_past.state.failed ≡ (m.failed || have_failed dcs_past.answers)
  unfolding have_failed feed_dcs
  dcs-failed =
      all_told (dcs.feed_meant p size) (λ t. t.failed) fails have_failed refl (λ x xs. refl)
      (λ t bs a. feed-fails dcs_area (λ c. dcs_step c p) dcs_rested dcs_end (dcs-numbers p) t size a bs) m cs

  -- Its end has come exactly when it had, or one of the answers tells it.
  pub dcs-ended : has_ended (dcs_end dcs_past.state.state) ≡ (has_ended (dcs_end m.state) || have_ended dcs_past.answers)
  unfolding have_ended feed_dcs
  dcs-ended =
      all_told (dcs.feed_meant p size) (λ t. has_ended (dcs_end t.state)) tells_end have_ended refl (λ x xs. refl)
      (λ t bs a. feed-ends dcs_area (λ c. dcs_step c p) dcs_rested dcs_end (dcs-numbers p) t size a bs (end_stays p) (end-rests p) (end-refuses p)) m cs

  pub dcs-kept-setting : dcs_past.state.setting ≡ m.setting
  unfolding feed_dcs
  dcs-kept-setting =
      all_keep (dcs.feed_meant p size) (λ t. t.setting)
      (λ t bs a. (feed-keeps dcs_area (λ c. dcs_step c p) dcs_rested dcs_end (dcs-numbers p) t size a bs).0) m cs
