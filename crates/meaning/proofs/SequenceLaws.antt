-- Reading a DCS sequence from its first byte comes to what the sequence means, whole: its drawing, its refusal, its end, the bytes consumed
-- and what finishing answers.
use Prim.Native.Nat.{ℕ, suc, ◌+◌, ◌-◌, ◌≤◌}
use native.Mathlib.Omega.{arith}
use mathlib.Core.Path.{◌≡◌, refl, sym, ap, ap₂, ◌∙◌}
use mathlib.Core.Bool.{Bool, true, false, cond, ◌||◌, true≢false}
use mathlib.Core.Logic.{◌↔◌}
use mathlib.Core.Option.{Option, none, some}
use mathlib.Core.List.{List, [], ◌∷◌}
use lib.Dec.{eqb}
use lib.ListN.{length, drop, length-drop}
use Rattle.numbers.specs.Bytes.{ends}
use Rattle.colours.specs.declared.Palette.{Palette}
use Rattle.meaning.specs.Commands.{body, end_of}
use Rattle.meaning.specs.Drawing.{Setting, Drawing}
use Rattle.meaning.specs.Payload.{Parameters, drawn_so_far, Finished, turned_down}
use Rattle.meaning.specs.Reader.{Step, next, halt, refuse, How, read_all, stopped, halted, refused_by, is_refused, Run, still, after, follow, read_from}
use Rattle.meaning.specs.Sessions.{escape, Reading, opened, End, complete, cancelled, Phase, start, introduced, header, within, after_escape, over, end_step, escape_step, dcs_step, finish_dcs}
use Rattle.meaning.specs.OneShot.{Found, found, lacking, refused_with, find_payload, answer_of, one_shot}
use Rattle.meaning.specs.Sequence.{sequence_payload, Closing, closed_after_escape, closing, after_body, sequence_end, sequence_consumed, sequence_refusal, sequence_drawn, sequence_finish}
use Rattle.meaning.specs.Calls.{drawing_of, dcs_end}
use Rattle.meaning.proofs.Framing.{in_payload, read_end, framed}
use Rattle.meaning.proofs.AreaLaws.{Before}
use Rattle.meaning.proofs.PayloadLaws.{ReadBody, reading-body, how_at, read_payload}
use Rattle.meaning.proofs.WholeLaws.{reading-drawn, reading-refusal}
use Rattle.meaning.proofs.RunLaws.{read-all}
use Rattle.meaning.proofs.DcsParts.{framed-refused, framed-in, no_end, before-open, Agrees, sequence-agrees}
use Rattle.meaning.proofs.DcsLaws.{read_sequence, sequence-found as sequence-through, sequence-lacking, sequence-refused-before, sequence-finish}

-- ---- the end

-- both cases of a test that two things share
pub cond_both : {A B : Type 0} (P : A → B → Type 0) (t : Bool) {x y : A} {u v : B} → (t ≡ true → P x u) → (t ≡ false → P y v)
    → P (cond t x y) (cond t u v)
cond_both P true f g = f refl
cond_both P false f g = g refl

-- a run that reads an end closes the sequence so, and keeps the reading's drawing
record Closes (t : Reading) (c : Closing) (x : Run Phase) : Type 0 where
  drawing : drawing_of x.state ≡ some t.drawing
  end : dcs_end x.state ≡ c.end
  consumed : x.consumed ≡ c.consumed
  fine : is_refused x.how ≡ false

module _ (s : Setting) (p : Palette) (t : Reading) where
  -- at an end nothing more is read
  over-closes : (e : End) (bs : List ℕ) → Closes t (record { end = some e; consumed = 0 }) (read_from (dcs_step s p) (over e t) bs)
  unfolding read_from dcs_step still follow is_refused drawing_of dcs_end
  over-closes e [] = record { drawing = refl; end = refl; consumed = refl; fine = refl }
  over-closes e (b ∷ bs) = record { drawing = refl; end = refl; consumed = refl; fine = refl }

  -- a byte of the end before it
  closes-on : {c : Closing} {x : Run Phase} → Closes t c x → Closes t (record { end = c.end; consumed = 1 + c.consumed }) (after 1 0 x)
  unfolding after
  closes-on h = record { drawing = h.drawing; end = h.end; consumed = ap (λ (n : ℕ). 1 + n) h.consumed; fine = h.fine }

  escape-closes : (bs : List ℕ) → Closes t (closed_after_escape bs) (after 1 0 (read_from (dcs_step s p) (after_escape t) bs))
  unfolding closed_after_escape read_from dcs_step escape_step still after follow is_refused drawing_of dcs_end
  escape-closes [] = record { drawing = refl; end = refl; consumed = refl; fine = refl }
  escape-closes (b ∷ bs) =
      cond_both
      (λ (c : Closing) (x : Step Phase). Closes t c (after 1 0 (follow x (λ u i. after 1 i (read_from (dcs_step s p) u bs)))))
      (eqb b 0x5C)
      (λ _. closes-on (closes-on (over-closes complete bs)))
      (λ _. record { drawing = refl; end = refl; consumed = refl; fine = refl })

  -- from the byte on that ends the payload
  end-closes : (bs : List ℕ) → Closes t (closing bs) (read_end s p t bs)
  unfolding closing read_end end_step still after follow is_refused drawing_of dcs_end
  end-closes [] = record { drawing = refl; end = refl; consumed = refl; fine = refl }
  end-closes (b ∷ bs) =
      cond_both Good (eqb b escape) (λ _. escape-closes bs)
      λ _. cond_both Good (eqb b 0x9C) (λ _. closes-on (over-closes complete bs))
      λ _. cond_both Good (eqb b 0x18 || eqb b 0x1A) (λ _. closes-on (over-closes (cancelled b) bs))
      (λ _. record { drawing = refl; end = refl; consumed = refl; fine = refl })
    where
      Good : Closing → Step Phase → Type 0
      Good c x = Closes t c (follow x (λ u i. after 1 i (read_from (dcs_step s p) u bs)))

-- ---- the bytes after the payload's

-- they are what is left of it
pub drop-body : (bs : List ℕ) → drop (length (body bs)) bs ≡ after_body bs
unfolding body after_body
drop-body [] = refl
drop-body (b ∷ bs) =
    cond_both (λ (us vs : List ℕ). drop (length us) (b ∷ bs) ≡ vs) (ends b) (λ _. refl) (λ _. drop-body bs)

-- where the payload has no end there are none
pub body_open : (bs : List ℕ) → end_of bs ≡ none → after_body bs ≡ []
unfolding end_of after_body
body_open [] = λ _. refl
body_open (b ∷ bs) =
    cond_both (λ (o : Option ℕ) (us : List ℕ). o ≡ none → us ≡ []) (ends b)
    (λ _ e. absurd (let never : ◌≡◌ {A = ℕ} 0 1 = cc in omega arith)) (λ _. body_open bs)

-- ---- the payload and its end

-- reading has come to no end
read-open : (o : Option ℕ) → read_all ≡ how_at o → o ≡ none
unfolding how_at
read-open none e = refl
read-open (some b) e = cc

-- no reading without an allowance stops
never-stops : (o : Option ℕ) → stopped ≡ how_at o → ⊥
unfolding how_at
never-stops none e = let never : ◌≡◌ {A = ℕ} 0 1 = cc in omega arith
never-stops (some b) e = let never : ◌≡◌ {A = ℕ} 0 1 = cc in omega arith

module _ (s : Setting) (p : Palette) (q : Run Reading) (part : List ℕ) where
  -- the payload's run, had it come to its end so
  ran_to : How → Run Reading
  ran_to h = record { state = q.state; consumed = q.consumed; ink = q.ink; how = h }

  -- the drawing is the payload's, refused or not
  framed-drawing : drawing_of (framed s p q part).state ≡ some q.state.drawing
  unfolding framed in_payload after ran_to drawing_of
  framed-drawing = go q.how
    where
      go : (h : How) → drawing_of (framed s p (ran_to h) part).state ≡ some q.state.drawing
      go read_all = refl
      go stopped = refl
      go halted = (end-closes s p q.state (drop q.consumed part)).drawing
      go (refused_by n) = refl

  -- a refusal is the payload's
  framed-refusal : (n : ℕ) → ((framed s p q part).how ≡ refused_by n) ↔ (q.how ≡ refused_by n)
  unfolding in_payload
  framed-refusal n = (λ e. framed-refused s p q part e, λ e. ap (λ (x : Run Phase). x.how) (framed-in s p q part e) ∙ e)

  -- unless it is refused, the sequence closes as the bytes after the payload's say, and those are consumed besides the payload's
  framed-closes : (is_refused q.how ≡ false → ReadBody part q) → is_refused (framed s p q part).how ≡ false
      → (dcs_end (framed s p q part).state ≡ (closing (after_body part)).end)
      × ((framed s p q part).consumed ≡ length (body part) + (closing (after_body part)).consumed)
  unfolding framed in_payload after ran_to dcs_end is_refused closing
  framed-closes read = go q.how refl
    where
      go : (h : How) → q.how ≡ h → is_refused (framed s p (ran_to h) part).how ≡ false
          → (dcs_end (framed s p (ran_to h) part).state ≡ (closing (after_body part)).end)
          × ((framed s p (ran_to h) part).consumed ≡ length (body part) + (closing (after_body part)).consumed)
      go read_all e fine =
          let f : ReadBody part q = read (ap is_refused e) in
          let none_left : after_body part ≡ [] = body_open part (read-open (end_of part) (sym e ∙ f.how)) in
          (ap (λ (us : List ℕ). (closing us).end) (sym none_left), rw none_left (omega (arith, f.consumed)))
      go stopped e fine = absurd (never-stops (end_of part) (sym e ∙ (read (ap is_refused e)).how))
      go halted e fine =
          let f : ReadBody part q = read (ap is_refused e) in
          let left : drop q.consumed part ≡ after_body part = ap (λ (n : ℕ). drop n part) f.consumed ∙ drop-body part in
          let k = end-closes s p q.state (drop q.consumed part) in (
            k.end ∙ ap (λ (us : List ℕ). (closing us).end) left,
            ap₂ ◌+◌ f.consumed (k.consumed ∙ ap (λ (us : List ℕ). (closing us).consumed) left),
          )
      go (refused_by n) e fine = absurd (true≢false fine)

-- ---- before the payload

-- a run consumes no more bytes than it has
pub read-within : {S : Type 0} (step : S → ℕ → Step S) (s : S) (xs : List ℕ) → (read_from step s xs).consumed ≤ length xs
unfolding read_from still after follow
read-within step s [] = omega arith
read-within {S} step s (b ∷ bs) = go (step s b) (λ t. read-within step t bs)
  where
    go : (x : Step S) → ((t : S) → (read_from step t bs).consumed ≤ length bs)
        → (follow x (λ t i. after 1 i (read_from step t bs))).consumed ≤ suc (length bs)
    go (next t i) later = omega (arith, later t)
    go (halt t) later = omega arith
    go (refuse t n) later = omega arith

-- before the payload nothing is drawn
pub before-drawing : (t : Phase) → Before t → drawing_of t ≡ none
unfolding drawing_of
before-drawing start h = refl
before-drawing introduced h = refl
before-drawing (header bs) h = refl
before-drawing (within r) h = absurd h
before-drawing (after_escape r) h = absurd h
before-drawing (over e r) h = absurd h

-- finishing where the end has not come is 8
pub unended-finish : (s : Setting) (t : Phase) → dcs_end t ≡ none → finish_dcs s t ≡ turned_down 8
unfolding dcs_end finish_dcs
unended-finish s start e = refl
unended-finish s introduced e = refl
unended-finish s (header bs) e = refl
unended-finish s (within r) e = refl
unended-finish s (after_escape r) e = refl
unended-finish s (over x r) e = cc

-- ---- the whole sequence

-- where a sequence ends, reading it all at once finds the same payload
pub ended-found : (bs : List ℕ) {e : End} → sequence_end bs ≡ some e → find_payload bs ≡ sequence_payload bs
unfolding sequence_end
ended-found bs {e} = go (sequence_payload bs) (sequence-agrees bs)
  where
    go : (f : Found) → Agrees bs f
        → elim f as (λ _. Option End) [ found o part ↦ (closing (after_body part)).end | lacking ↦ none | refused_with n ↦ none ] ≡ some e
        → find_payload bs ≡ f
    go (found o part) same z = same
    go lacking same z = absurd (no_end z)
    go (refused_with n) same z = absurd (no_end z)

module _ (s : Setting) (p : Palette) (bs : List ℕ) where
  -- what has been drawn, refused or not
  pub sequence-drawn : drawing_of (read_sequence s p bs).state ≡ sequence_drawn s p bs
  unfolding sequence_drawn after
  sequence-drawn = go (sequence_payload bs) refl
    where
      go : (f : Found) → sequence_payload bs ≡ f
          → drawing_of (read_sequence s p bs).state
          ≡ elim f as (λ _. Option Drawing) [ found o part ↦ some (drawn_so_far s o p part).drawing | lacking ↦ none | refused_with n ↦ none ]
      go (found o part) e =
          ap (λ (x : Run Phase). drawing_of x.state) (sequence-through s p bs e).1 ∙ framed-drawing s p (read_payload s o p part) part
          ∙ ap some (reading-drawn s o p part)
      go lacking e = before-drawing (read_sequence s p bs).state (sequence-lacking s p bs e).0
      go (refused_with n) e = before-drawing (read_sequence s p bs).state (sequence-refused-before s p bs e).0

  -- it is refused exactly where its introducer, its header or its payload is
  pub sequence-refusal : (n : ℕ) → ((read_sequence s p bs).how ≡ refused_by n) ↔ (sequence_refusal s p bs ≡ some n)
  unfolding sequence_refusal after
  sequence-refusal n = go (sequence_payload bs) refl
    where
      go : (f : Found) → sequence_payload bs ≡ f
          → ((read_sequence s p bs).how ≡ refused_by n)
          ↔ (elim f as (λ _. Option ℕ) [ found o part ↦ (drawn_so_far s o p part).refusal | lacking ↦ none | refused_with m ↦ some m ] ≡ some n)
      go (found o part) e =
          let same = ap (λ (x : Run Phase). x.how) (sequence-through s p bs e).1 in
          let inner = framed-refusal s p (read_payload s o p part) part n in
          let iff = reading-refusal s o p part n in
          (λ r. iff.0 (inner.0 (sym same ∙ r)), λ r. same ∙ inner.1 (iff.1 r))
      go lacking e = let same = (sequence-lacking s p bs e).1 in (λ r. cc, λ r. cc)
      go (refused_with m) e = let same = (sequence-refused-before s p bs e).1 in (λ r. cc, λ r. cc)

  -- a payload that is found is read, and the bytes before it are consumed
  through : {o : Parameters} {part : List ℕ} → sequence_payload bs ≡ found o part → is_refused (read_sequence s p bs).how ≡ false
      → (dcs_end (read_sequence s p bs).state ≡ (closing (after_body part)).end)
      × ((read_sequence s p bs).consumed ≡ (length bs - length part) + (length (body part) + (closing (after_body part)).consumed))
  unfolding after opened
  through {o} {part} e fine =
      let h = sequence-through s p bs e in
      let q : Run Reading = read_payload s o p part in
      let x : Run Phase = framed s p q part in
      let k =
      framed-closes s p q part (reading-body s (opened o p) part refl) (sym (ap (λ (y : Run Phase). is_refused y.how) h.1) ∙ fine) in
      let n : ℕ = h.0 in
      let all : (read_sequence s p bs).consumed ≡ n + x.consumed = ap (λ (y : Run Phase). y.consumed) h.1 in
      let short : (read_sequence s p bs).consumed ≤ length bs = read-within (dcs_step s p) start bs in
      let rest : length part ≡ length bs - n = ap length (sym h.2) ∙ length-drop n bs in
      (ap (λ (y : Run Phase). dcs_end y.state) h.1 ∙ k.0, omega (arith, k.1, all, short, rest))

  module _ (fine : is_refused (read_sequence s p bs).how ≡ false) where
    -- unless it is refused, its end is the sequence's
    pub sequence-ended : dcs_end (read_sequence s p bs).state ≡ sequence_end bs
    unfolding sequence_end
    sequence-ended = go (sequence_payload bs) refl
      where
        go : (f : Found) → sequence_payload bs ≡ f
            → dcs_end (read_sequence s p bs).state
            ≡ elim f as (λ _. Option End) [ found o part ↦ (closing (after_body part)).end | lacking ↦ none | refused_with n ↦ none ]
        go (found o part) e = (through e fine).0
        go lacking e = before-open (read_sequence s p bs).state (sequence-lacking s p bs e).0
        go (refused_with n) e = before-open (read_sequence s p bs).state (sequence-refused-before s p bs e).0

    -- and so are the bytes consumed
    pub sequence-consumed : (read_sequence s p bs).consumed ≡ sequence_consumed bs
    unfolding sequence_consumed is_refused
    sequence-consumed = go (sequence_payload bs) refl
      where
        go : (f : Found) → sequence_payload bs ≡ f
            → (read_sequence s p bs).consumed
            ≡ elim f as (λ _. ℕ) [
              | found o part ↦ (length bs - length part) + (length (body part) + (closing (after_body part)).consumed)
              | lacking ↦ length bs
              | refused_with n ↦ length bs
            ]
        go (found o part) e = (through e fine).1
        go lacking e = read-all (dcs_step s p) start bs (sequence-lacking s p bs e).1
        go (refused_with n) e = absurd (true≢false (sym (ap is_refused (sequence-refused-before s p bs e).1) ∙ fine))

    -- and so is what finishing answers
    pub sequence-finished : finish_dcs s (read_sequence s p bs).state ≡ sequence_finish s p bs
    unfolding sequence_finish one_shot
    sequence-finished =
        go (dcs_end (read_sequence s p bs).state) refl
        ∙ ap (λ (o : Option End). elim o as (λ _. Finished) [ none ↦ turned_down 8 | some e ↦ answer_of s p (sequence_payload bs) ])
        sequence-ended
      where
        go : (o : Option End) → dcs_end (read_sequence s p bs).state ≡ o
            → finish_dcs s (read_sequence s p bs).state
            ≡ elim o as (λ _. Finished) [ none ↦ turned_down 8 | some e ↦ answer_of s p (sequence_payload bs) ]
        go none e = unended-finish s (read_sequence s p bs).state e
        go (some x) e = sequence-finish s p bs e ∙ ap (answer_of s p) (ended-found bs (sym sequence-ended ∙ e))
