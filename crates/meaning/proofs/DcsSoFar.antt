-- After each call of a DCS session, stopped or not, its drawing is what exactly the bytes consumed so far mean (rule 6.5).
use Prim.Native.Nat.{ℕ, ◌*◌, ◌≤◌, ◌<◌}
use native.Mathlib.Omega.{arith}
use mathlib.Core.Path.{◌≡◌, refl, sym, ap, ◌∙◌, subst}
use mathlib.Core.Bool.{true, false, true≢false}
use mathlib.Core.Option.{none, some}
use mathlib.Core.List.{List}
use lib.ListN.{take}
use Rattle.colours.specs.declared.Palette.{Palette}
use Rattle.meaning.specs.Drawing.{Setting, Outcome}
use Rattle.meaning.specs.Payload.{Parameters}
use Rattle.meaning.specs.Reader.{Step, next, halt, How, read_all, stopped, halted, refused_by, is_refused, is_ongoing, Run, after, Turn, stream, ran_by}
use Rattle.meaning.specs.Sessions.{Reading, settled, rested, ended_at, payload_step, End, Phase, start, introduced, header, within, after_escape, over, dcs_step, dcs_rested}
use Rattle.meaning.specs.OneShot.{Found, found, lacking, refused_with, find_payload}
use Rattle.meaning.specs.Sequence.{sequence_payload, sequence_ink}
use Rattle.meaning.specs.Calls.{drawing_of, drawing_at_finish, drawing_settled, drawing_found, dcs_end, dcs_turns, proper_dcs}
use Rattle.meaning.proofs.AreaLaws.{option-case, payload-case, Before, DcsDoes, advances, begins, turns, reads, refuses, escapes, closes, breaks, completes, lapses, remains, dcs-does}
use Rattle.meaning.proofs.InkLaws.{read_byte-case, Inks, Halts, went_on-halts, inked-settled}
use Rattle.meaning.proofs.SoFarLaws.{LeftBy, all_read, stopped_at, SoFar, so-far-read, HaltedAt, halted-at}
use Rattle.meaning.proofs.PayloadLaws.{read_payload, reading-settled, settled-none, rested-settled, halted-settled}
use Rattle.meaning.proofs.DcsParts.{framed-settled, no_end, before-open, Agrees, sequence-agrees}
use Rattle.meaning.proofs.DcsLaws.{read_sequence, sequence-found, sequence-lacking, sequence-refused-before, sequence-refused-drawing, sequence-over, sequence-drawing, sequence-ink}
use Rattle.meaning.proofs.Demand3.{dcs-outcome}
use Rattle.meaning.proofs.SequenceLaws.{before-drawing}
use Rattle.meaning.proofs.EachCall.{dcs-so-far}

-- ---- the drawing with its pending command carried out

-- before the payload there is none
before-settled : (s : Setting) (t : Phase) → Before t → drawing_settled s t ≡ none
unfolding drawing_settled
before-settled s start h = refl
before-settled s introduced h = refl
before-settled s (header bs) h = refl
before-settled s (within r) h = absurd h
before-settled s (after_escape r) h = absurd h
before-settled s (over e r) h = absurd h

-- a payload's end has carried it out
ended-keeps : (s : Setting) (r : Reading) (b : ℕ) → Halts (λ t. (settled s t).drawing ≡ (settled s r).drawing) (ended_at b r (settled s r))
unfolding ended_at
ended-keeps s r b =
    option-case (Halts (λ t. (settled s t).drawing ≡ (settled s r).drawing)) (settled s r).refusal
    (λ _. ap (λ (out : Outcome). out.drawing) (settled-none s _ refl))
    (λ _ _. tt)

end-keeps : (s : Setting) (r : Reading) (b : ℕ) {t : Reading} → payload_step s r b ≡ halt t → (settled s t).drawing ≡ (settled s r).drawing
end-keeps s r b e =
    subst Keeps e
    (payload-case Keeps s r b
    (λ _. read_byte-case Keeps s r b (ended-keeps s r b) (λ c _. went_on-halts _ r c _) (λ c _ _. went_on-halts _ r c _))
    (λ _. refl))
  where
    Keeps : Step Reading → Type 0
    Keeps = Halts (λ t. (settled s t).drawing ≡ (settled s r).drawing)

module _ (s : Setting) (p : Palette) (b : ℕ) where
  -- a stop before a byte with ink has carried it out
  abbrev Rests : Phase → ℕ → Type 0
  Rests t i = 0 < i → (drawing_of (dcs_rested s t) ≡ drawing_settled s t) × (drawing_settled s (dcs_rested s t) ≡ drawing_settled s t)

  does-rests : {t : Phase} {x : Step Phase} → DcsDoes s p b t x → Inks (Rests t) x
  unfolding drawing_of drawing_settled dcs_rested rested
  does-rests (advances h k) = λ z. absurd (omega arith)
  does-rests (begins h o) = λ z. absurd (omega arith)
  does-rests (turns h) = tt
  does-rests (reads r e) = λ z. (refl, ap (λ (out : Outcome). some out.drawing) (rested-settled s r (inked-settled s r b e z)))
  does-rests (refuses r e) = tt
  does-rests (escapes r e) = λ z. absurd (omega arith)
  does-rests (closes r e) = λ z. absurd (omega arith)
  does-rests (breaks r e) = tt
  does-rests completes = λ z. absurd (omega arith)
  does-rests lapses = tt
  does-rests remains = tt

  -- and a byte at which the sequence ends, unread, changes nothing more
  does-end : {t : Phase} {x : Step Phase} → DcsDoes s p b t x → Halts (λ u. drawing_settled s u ≡ drawing_settled s t) x
  unfolding drawing_settled
  does-end (advances h k) = tt
  does-end (begins h o) = tt
  does-end (turns h) = tt
  does-end (reads r e) = tt
  does-end (refuses r e) = tt
  does-end (escapes r e) = tt
  does-end (closes r e) = tt
  does-end (breaks r e) = ap some (end-keeps s r b e)
  does-end completes = tt
  does-end lapses = refl
  does-end remains = refl

  stop-settles : (t : Phase) {u : Phase} {i : ℕ} → dcs_step s p t b ≡ next u i → Rests t i
  stop-settles t e = subst (Inks (Rests t)) e (does-rests (dcs-does s p b t))

  halt-settled : (t : Phase) {u : Phase} → dcs_step s p t b ≡ halt u → drawing_settled s u ≡ drawing_settled s t
  halt-settled t e = subst (Halts (λ u. drawing_settled s u ≡ drawing_settled s t)) e (does-end (dcs-does s p b t))

-- ---- reading at once

module _ (s : Setting) (p : Palette) (bs : List ℕ) where
  -- not refused: the drawing of the sequence's payload
  pub sequence-settled : is_refused (read_sequence s p bs).how ≡ false
      → drawing_settled s (read_sequence s p bs).state ≡ drawing_found s p (sequence_payload bs)
  unfolding drawing_found after
  sequence-settled fine = go (sequence_payload bs) refl
    where
      go : (f : Found) → sequence_payload bs ≡ f → drawing_settled s (read_sequence s p bs).state ≡ drawing_found s p f
      go (found o part) q =
          let whole = (sequence-found s p bs q).1 in
          let h = framed-settled s p (read_payload s o p part) part (sym (ap (λ (x : Run Phase). is_refused x.how) whole) ∙ fine) in
          ap (λ (x : Run Phase). drawing_settled s x.state) whole ∙ h.1
          ∙ ap (λ (out : Outcome). some out.drawing) (reading-settled s o p part h.0)
      go lacking q = before-settled s (read_sequence s p bs).state (sequence-lacking s p bs q).0
      go (refused_with n) q = before-settled s (read_sequence s p bs).state (sequence-refused-before s p bs q).0

  -- refused: what came before
  pub sequence-refused-settled : {n : ℕ} → (read_sequence s p bs).how ≡ refused_by n
      → drawing_of (read_sequence s p bs).state ≡ drawing_found s p (sequence_payload bs)
  unfolding drawing_found
  sequence-refused-settled {n} r = go (sequence_payload bs) refl
    where
      go : (f : Found) → sequence_payload bs ≡ f → drawing_of (read_sequence s p bs).state ≡ drawing_found s p f
      go (found o part) q = (sequence-refused-drawing s p bs q r).1
      go lacking q = before-drawing (read_sequence s p bs).state (sequence-lacking s p bs q).0
      go (refused_with m) q = before-drawing (read_sequence s p bs).state (sequence-refused-before s p bs q).0

  module _ {e : End} (z : dcs_end (read_sequence s p bs).state ≡ some e) where
    -- at an end there is a payload, and a one-shot finds the same
    at-end : (o : Parameters) × (part : List ℕ) × (sequence_payload bs ≡ found o part) × (find_payload bs ≡ found o part)
    at-end = go (sequence_payload bs) refl (sequence-agrees bs)
      where
        go : (f : Found) → sequence_payload bs ≡ f → Agrees bs f
            → (o : Parameters) × (part : List ℕ) × (sequence_payload bs ≡ found o part) × (find_payload bs ≡ found o part)
        go (found o part) q same = (o, part, q, same)
        go lacking q same = absurd (no_end (sym (before-open (read_sequence s p bs).state (sequence-lacking s p bs q).0) ∙ z))
        go (refused_with n) q same =
            absurd (no_end (sym (before-open (read_sequence s p bs).state (sequence-refused-before s p bs q).0) ∙ z))

    -- no command is pending there
    pub sequence-end-settled : drawing_of (read_sequence s p bs).state ≡ drawing_settled s (read_sequence s p bs).state
    unfolding drawing_of drawing_settled
    sequence-end-settled =
        let h = at-end in
        let ends = sequence-over s p bs h.2 z in
        let r : Reading = (read_payload s h.0 p h.1).state in
        ap drawing_of ends.1
        ∙ ap (λ (out : Outcome). some out.drawing) (sym (settled-none s r (halted-settled s h.0 p h.1 ends.0)))
        ∙ sym (ap (drawing_settled s) ends.1)

    -- and finishing leaves what reading all at once does
    pub sequence-finish-drawing : drawing_at_finish s (read_sequence s p bs).state ≡ drawing_found s p (find_payload bs)
    unfolding drawing_found
    sequence-finish-drawing = let h = at-end in sequence-drawing s p bs h.2 z ∙ sym (ap (drawing_found s p) h.3)

-- ---- callers

-- what a stop leaves
left-settled : (s : Setting) (p : Palette) {h : How} {here state : Phase} {unread : List ℕ}
    → LeftBy (dcs_step s p) (dcs_rested s) h here state unread → drawing_settled s state ≡ drawing_settled s here
left-settled s p all_read = refl
left-settled s p (stopped_at {here} {b = b} e inked) = (stop-settles s p b here e inked).1

left-drawn : (s : Setting) (p : Palette) {h : How} {here state : Phase} {unread : List ℕ}
    → LeftBy (dcs_step s p) (dcs_rested s) h here state unread → h ≡ stopped → drawing_of state ≡ drawing_settled s here
left-drawn s p all_read q = cc
left-drawn s p (stopped_at {here} {b = b} e inked) q = (stop-settles s p b here e inked).0

module _ (s : Setting) (p : Palette) (A : ℕ) (ts : List Turn) (fits : 6 * s.limits.width ≤ A) (ok : proper_dcs s p A ts ≡ true) where
  -- the bytes consumed so far
  abbrev read : List ℕ
  read = take (dcs_turns s p ts).consumed (stream ts)

  -- what is said of where the calls led
  abbrev SettledSoFar : Type 0
  SettledSoFar =
      (drawing_settled s (dcs_turns s p ts).state ≡ drawing_found s p (sequence_payload read)) × ((dcs_turns s p ts).ink ≡ sequence_ink s p read)

  ongoing-settled : is_ongoing (dcs_turns s p ts).how ≡ true → SettledSoFar
  unfolding is_refused
  ongoing-settled going =
      let f : SoFar (dcs_step s p) (dcs_rested s) start (stream ts) (dcs_turns s p ts) = dcs-so-far s p A ts fits ok going in
      let same : f.read ≡ read = so-far-read (dcs_step s p) (dcs_rested s) f in (
        left-settled s p f.left
            ∙ sym (ap (λ (q : Run Phase). drawing_settled s q.state) f.ran)
            ∙ sequence-settled s p f.read (ap (λ (q : Run Phase). is_refused q.how) f.ran)
            ∙ ap (λ (us : List ℕ). drawing_found s p (sequence_payload us)) same,
        sym (ap (λ (q : Run Phase). q.ink) f.ran) ∙ sequence-ink s p f.read ∙ ap (sequence_ink s p) same,
      )

  halted-settled-so-far : (dcs_turns s p ts).how ≡ halted → SettledSoFar
  unfolding is_refused ran_by
  halted-settled-so-far e = subst Said (dcs-outcome s p A ts ok (λ z. let never : ◌≡◌ {A = ℕ} 0 1 = cc in omega arith)) said
    where
      whole : Run Phase
      whole = read_sequence s p (stream ts)

      Said : Run Phase → Type 0
      Said q =
          (drawing_settled s q.state ≡ drawing_found s p (sequence_payload (take q.consumed (stream ts))))
          × (q.ink ≡ sequence_ink s p (take q.consumed (stream ts)))

      said : Said whole
      said =
          let how : whole.how ≡ halted =
          ap (λ (q : Run Phase). q.how) (dcs-outcome s p A ts ok (λ z. let never : ◌≡◌ {A = ℕ} 0 1 = cc in omega arith)) ∙ e in
          let h : HaltedAt (dcs_step s p) start (stream ts) whole = halted-at (dcs_step s p) start (stream ts) how in
          let us : List ℕ = take whole.consumed (stream ts) in (
            halt-settled s p h.byte h.last h.halts
                ∙ sym (ap (λ (q : Run Phase). drawing_settled s q.state) h.before)
                ∙ sequence-settled s p us (ap (λ (q : Run Phase). is_refused q.how) h.before),
            sym (ap (λ (q : Run Phase). q.ink) h.before) ∙ sequence-ink s p us,
          )

  -- After each call that is not refused: with its pending command carried out, the session's drawing is what the bytes consumed so
  -- far mean, and the ink so far is theirs.
  pub dcs-settled-so-far : is_refused (dcs_turns s p ts).how ≡ false → SettledSoFar
  unfolding is_refused is_ongoing
  dcs-settled-so-far fine = go (dcs_turns s p ts).how refl
    where
      go : (h : How) → (dcs_turns s p ts).how ≡ h → SettledSoFar
      go read_all e = ongoing-settled (ap is_ongoing e)
      go stopped e = ongoing-settled (ap is_ongoing e)
      go halted e = halted-settled-so-far e
      go (refused_by n) e = absurd (true≢false (sym (ap is_refused e) ∙ fine))

  -- After a stop no command is pending.
  pub dcs-stopped-drawn : (dcs_turns s p ts).how ≡ stopped → drawing_of (dcs_turns s p ts).state ≡ drawing_settled s (dcs_turns s p ts).state
  unfolding is_ongoing
  dcs-stopped-drawn e =
      let f : SoFar (dcs_step s p) (dcs_rested s) start (stream ts) (dcs_turns s p ts) = dcs-so-far s p A ts fits ok (ap is_ongoing e) in
      left-drawn s p f.left e ∙ sym (left-settled s p f.left)

  -- Nor is one after an end,
  pub dcs-ended-drawn : ((dcs_turns s p ts).how ≡ stopped → ⊥) → {e : End} → dcs_end (dcs_turns s p ts).state ≡ some e
      → drawing_of (dcs_turns s p ts).state ≡ drawing_settled s (dcs_turns s p ts).state
  unfolding ran_by
  dcs-ended-drawn going {e} =
      subst (λ (q : Run Phase). dcs_end q.state ≡ some e → drawing_of q.state ≡ drawing_settled s q.state)
      (dcs-outcome s p A ts ok going) (λ z. sequence-end-settled s p (stream ts) z)

  -- and a finish there leaves the drawing of reading the whole stream at once.
  pub dcs-finish-drawing : ((dcs_turns s p ts).how ≡ stopped → ⊥) → {e : End} → dcs_end (dcs_turns s p ts).state ≡ some e
      → drawing_at_finish s (dcs_turns s p ts).state ≡ drawing_found s p (find_payload (stream ts))
  unfolding ran_by
  dcs-finish-drawing going {e} =
      subst (λ (q : Run Phase). dcs_end q.state ≡ some e → drawing_at_finish s q.state ≡ drawing_found s p (find_payload (stream ts)))
      (dcs-outcome s p A ts ok going) (λ z. sequence-finish-drawing s p (stream ts) z)

  -- A refusal leaves what the stream draws before it.
  pub dcs-refused-drawn : {n : ℕ} → (dcs_turns s p ts).how ≡ refused_by n
      → drawing_of (dcs_turns s p ts).state ≡ drawing_found s p (sequence_payload (stream ts))
  unfolding ran_by
  dcs-refused-drawn {n} e =
      subst (λ (q : Run Phase). q.how ≡ refused_by n → drawing_of q.state ≡ drawing_found s p (sequence_payload (stream ts)))
      (dcs-outcome s p A ts ok (λ z. let never : ◌≡◌ {A = ℕ} 0 1 = cc in omega arith)) (λ r. sequence-refused-settled s p (stream ts) r) e
