-- Reading a DCS sequence: through the header as a one-shot goes, then through the payload as a payload session does, and at an end
-- finishing answers what a one-shot does.
use Prim.Native.Nat.{ℕ, ◌≤◌}
use native.Mathlib.Nat.{zero-add}
use native.Mathlib.Omega.{arith}
use mathlib.Core.Path.{◌≡◌, refl, sym, ap, ◌∙◌, subst}
use mathlib.Core.Logic.{◌↔◌}
use mathlib.Core.Option.{some}
use mathlib.Core.List.{List, ◌++◌}
use lib.ListN.{drop}
use Rattle.colours.specs.declared.Palette.{Palette}
use Rattle.meaning.specs.Drawing.{Setting, Outcome}
use Rattle.meaning.specs.Payload.{Parameters, payload, payload_ink, turned_down, finish}
use Rattle.meaning.specs.Reader.{read_all, halted, refused_by, is_refused, Run, after, read_from}
use Rattle.meaning.specs.Sessions.{Reading, End, Phase, start, within, over, dcs_step, finish_dcs}
use Rattle.meaning.specs.OneShot.{Found, found, lacking, refused_with, find_payload, answer_of, one_shot}
use Rattle.meaning.specs.Sequence.{sequence_payload, sequence_ink}
use Rattle.meaning.specs.Calls.{drawing_of, drawing_at_finish, dcs_end}
use Rattle.meaning.proofs.Framing.{Introducer, in_payload, framed}
use Rattle.meaning.proofs.AreaLaws.{Before}
use Rattle.meaning.proofs.InkLaws.{dcs_ink, before-ink, dcs-ink}
use Rattle.meaning.proofs.PayloadLaws.{read_payload, reading-settled, reading-finish, reading-refused, reading-numbers, reading-ink}
use Rattle.meaning.proofs.DcsParts.{within-reads, Leads, sequence-leads, framed-refused, framed-in, framed-over, framed-ink, no_end, before-open, introducer-found, introducer-sequence, Agrees, sequence-agrees}

-- bytes that were all read are not refused
read-not-refused : {n : ℕ} → read_all ≡ refused_by n → ⊥
read-not-refused e = let never : ◌≡◌ {A = ℕ} 0 1 = cc in omega arith

module _ (s : Setting) (p : Palette) (bs : List ℕ) where
  -- the reading of a DCS sequence from its first byte
  abbrev pub read_sequence : Run Phase
  read_sequence = read_from (dcs_step s p) start bs

  -- a sequence with a payload is read through its header, with no ink, then as a payload session reads the part after `q`, and then its end
  pub sequence-found : {o : Parameters} {part : List ℕ} → sequence_payload bs ≡ found o part
      → (n : ℕ) × (read_sequence ≡ after n 0 (framed s p (read_payload s o p part) part)) × (drop n bs ≡ part)
  sequence-found e =
      let h = subst (Leads s p start bs) e (sequence-leads s p bs) in
      (h.0, h.1 ∙ ap (after h.0 0) (within-reads s p _ _), h.2)

  -- where bytes are missing all are read, and the payload has not begun
  pub sequence-lacking : sequence_payload bs ≡ lacking → Before read_sequence.state × (read_sequence.how ≡ read_all)
  sequence-lacking e = subst (Leads s p start bs) e (sequence-leads s p bs)

  -- nor has it where introducer or header is refused
  pub sequence-refused-before : {n : ℕ} → sequence_payload bs ≡ refused_with n
      → Before read_sequence.state × (read_sequence.how ≡ refused_by n)
  sequence-refused-before e = subst (Leads s p start bs) e (sequence-leads s p bs)

  -- a refusal within the payload is the payload's
  pub sequence-refused-within : {o : Parameters} {part : List ℕ} {n : ℕ} → sequence_payload bs ≡ found o part
      → read_sequence.how ≡ refused_by n
      → ((read_payload s o p part).how ≡ refused_by n) × (read_sequence.state ≡ within (read_payload s o p part).state)
  unfolding after in_payload
  sequence-refused-within {o} {part} {n} e r =
      let h = sequence-found e in
      let q : Run Reading = read_payload s o p part in
      let inner : q.how ≡ refused_by n = framed-refused s p q part (sym (ap (λ (x : Run Phase). x.how) h.1) ∙ r) in
      (inner, ap (λ (x : Run Phase). x.state) h.1 ∙ ap (λ (x : Run Phase). x.state) (framed-in s p q part inner))

  -- with its drawing
  pub sequence-refused-drawing : {o : Parameters} {part : List ℕ} {n : ℕ} → sequence_payload bs ≡ found o part
      → read_sequence.how ≡ refused_by n
      → ((payload s o p part).refusal ≡ some n) × (drawing_of read_sequence.state ≡ some (payload s o p part).drawing)
  unfolding drawing_of
  sequence-refused-drawing {o} {part} e r =
      let h = sequence-refused-within e r in
      let whole = reading-refused s o p part h.0 in (
        ap (λ (out : Outcome). out.refusal) whole,
        ap drawing_of h.1 ∙ ap (λ (out : Outcome). some out.drawing) (sym whole),
      )

  -- refused with 1, 2 or 3 is exactly what introducer and header are refused with
  pub sequence-refused : (n : ℕ) → n ≤ 3 → (read_sequence.how ≡ refused_by n) ↔ (sequence_payload bs ≡ refused_with n)
  sequence-refused n small = (λ r. go (sequence_payload bs) refl r, λ e. (sequence-refused-before e).1)
    where
      go : (f : Found) → sequence_payload bs ≡ f → read_sequence.how ≡ refused_by n → f ≡ refused_with n
      go (found o part) e r =
          let range : (4 ≤ n) × (n ≤ 7) = reading-numbers s o p part (sequence-refused-within e r).0 in absurd (omega arith)
      go lacking e r = absurd (read-not-refused (sym (sequence-lacking e).1 ∙ r))
      go (refused_with m) e r = let same : refused_by m ≡ refused_by n = sym (sequence-refused-before e).1 ∙ r in cc

  -- at an end the payload has come to its end, and its reading is the one there
  pub sequence-over : {o : Parameters} {part : List ℕ} {e : End} → sequence_payload bs ≡ found o part → dcs_end read_sequence.state ≡ some e
      → ((read_payload s o p part).how ≡ halted) × (read_sequence.state ≡ over e (read_payload s o p part).state)
  unfolding after
  sequence-over {o} {part} f z =
      let same : read_sequence.state ≡ (framed s p (read_payload s o p part) part).state =
      ap (λ (x : Run Phase). x.state) (sequence-found f).1 in
      let h = framed-over s p (read_payload s o p part) part (ap dcs_end (sym same) ∙ z) in
      (h.0, same ∙ h.1)

  -- there finishing answers what a one-shot does
  pub sequence-finish : {e : End} → dcs_end read_sequence.state ≡ some e → finish_dcs s read_sequence.state ≡ one_shot s p bs
  unfolding one_shot finish_dcs is_refused
  sequence-finish {e} z = go (sequence_payload bs) refl (sequence-agrees bs)
    where
      go : (f : Found) → sequence_payload bs ≡ f → Agrees bs f → finish_dcs s read_sequence.state ≡ one_shot s p bs
      go (found o part) q same =
          let h = sequence-over q z in
          ap (finish_dcs s) h.1 ∙ reading-finish s o p part (rw h.0 refl) ∙ ap (answer_of s p) (sym same)
      go lacking q same = absurd (no_end (sym (before-open read_sequence.state (sequence-lacking q).0) ∙ z))
      go (refused_with n) q same = absurd (no_end (sym (before-open read_sequence.state (sequence-refused-before q).0) ∙ z))

  -- and it leaves the payload's drawing
  pub sequence-drawing : {o : Parameters} {part : List ℕ} {e : End} → sequence_payload bs ≡ found o part
      → dcs_end read_sequence.state ≡ some e
      → drawing_at_finish s read_sequence.state ≡ some (payload s o p part).drawing
  unfolding drawing_at_finish is_refused
  sequence-drawing {o} {part} f z =
      let h = sequence-over f z in
      ap (drawing_at_finish s) h.1 ∙ ap (λ (out : Outcome). some out.drawing) (reading-settled s o p part (rw h.0 refl))

  -- a refusal of the header or the payload, 2 to 7, is what a one-shot answers
  pub sequence-turned-down : {n : ℕ} → 2 ≤ n → read_sequence.how ≡ refused_by n → one_shot s p bs ≡ turned_down n
  unfolding one_shot finish
  sequence-turned-down {n} low r = go (sequence_payload bs) refl (sequence-agrees bs)
    where
      go : (f : Found) → sequence_payload bs ≡ f → Agrees bs f → one_shot s p bs ≡ turned_down n
      go (found o part) q same =
          ap (answer_of s p) same ∙ ap (finish o) (reading-refused s o p part (sequence-refused-within q r).0)
      go lacking q same = absurd (read-not-refused (sym (sequence-lacking q).1 ∙ r))
      go (refused_with m) q same =
          let how : refused_by m ≡ refused_by n = sym (sequence-refused-before q).1 ∙ r in
          let number : m ≡ n = cc in
          ap (answer_of s p) (same (omega arith)) ∙ ap turned_down number

  -- the ink is that of the payload's strokes, refused or not
  pub sequence-ink : read_sequence.ink ≡ sequence_ink s p bs
  unfolding sequence_ink after
  sequence-ink = go (sequence_payload bs) refl
    where
      dry : Before read_sequence.state → read_sequence.ink ≡ 0
      dry h =
          let none_yet : dcs_ink read_sequence.state ≡ 0 = before-ink read_sequence.state h in
          omega (arith, dcs-ink s p start bs)

      go : (f : Found) → sequence_payload bs ≡ f
          → read_sequence.ink ≡ elim f as (λ _. ℕ) [ found o part ↦ payload_ink s o p part | lacking ↦ 0 | refused_with n ↦ 0 ]
      go (found o part) q =
          ap (λ (x : Run Phase). x.ink) (sequence-found q).1
          ∙ zero-add _
          ∙ framed-ink s p (read_payload s o p part) part
          ∙ reading-ink s o p part
      go lacking q = dry (sequence-lacking q).0
      go (refused_with n) q = dry (sequence-refused-before q).0

-- with the introducer at the very start, a sequence is refused with 2 or 3 exactly where a one-shot is
pub introduced-refused : (s : Setting) (p : Palette) {i : List ℕ} → Introducer i → (later : List ℕ) (n : ℕ) → n ≤ 3
    → ((read_from (dcs_step s p) start (i ++ later)).how ≡ refused_by n) ↔ (find_payload (i ++ later) ≡ refused_with n)
introduced-refused s p {i} h later n small =
    let same : find_payload (i ++ later) ≡ sequence_payload (i ++ later) = introducer-found h later ∙ sym (introducer-sequence h later) in
    let iff = sequence-refused s p (i ++ later) n small in
    (λ r. same ∙ iff.0 r, λ e. iff.1 (sym same ∙ e))
