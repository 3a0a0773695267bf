-- What the promise asks of the definition: at an end there is a picture, and bytes after an end or a refusal make no difference.
use Prim.Native.Nat.{ℕ, ◌≤◌}
use native.Mathlib.Omega.{arith}
use mathlib.Core.Option.{none, some}
use mathlib.Core.List.{List, [], ◌∷◌, ◌++◌}
use mathlib.Core.Path.{◌≡◌, refl, sym, ap, ◌∙◌, subst}
use Rattle.numbers.proofs.Laws.{cond_no}
use Rattle.colours.specs.declared.Palette.{Palette}
use Rattle.meaning.specs.Calls as calls
use Rattle.meaning.specs.Drawing.{Setting, Outcome}
use Rattle.meaning.specs.OneShot.{Found, found, lacking, refused_with, find_payload, answer_of, one_shot}
use Rattle.meaning.specs.Payload as meant
use Rattle.meaning.specs.Reader.{read_all, stopped, refused_by, is_all, is_refused, Run, still, after, continued, follow, read_from, then_read}
use Rattle.meaning.specs.Sequence.{sequence_payload, sequence_ink}
use Rattle.meaning.specs.Sessions.{End, Phase, start, introduced, header, within, after_escape, over, dcs_step, finish_dcs}
use Rattle.meaning.proofs.AreaLaws.{outcome-reports}
use Rattle.meaning.proofs.Cases.{cond-case}
use Rattle.meaning.proofs.DcsLaws.{sequence-over, sequence-lacking, sequence-refused-before, sequence-finish, sequence-ink, sequence-refused, sequence-turned-down}
use Rattle.meaning.proofs.DcsParts.{Agrees, sequence-agrees, before-open, no_end}
use Rattle.meaning.proofs.DcsSoFar.{sequence-finish-drawing}
use Rattle.meaning.proofs.PayloadLaws.{read_payload, reading-settled, settled-none, halted-settled}
use Rattle.meaning.proofs.RunLaws.{read-append}
use Rattle.pieces.specs.declared.Standing.{Standing}
use Rattle.pieces.specs.declared.Standing.TheVariants as standings
use Rattle.pieces.specs.Stream.{how_stood}

-- ---- how a reader stands

-- no reader stands at a stop
pub stood-going : (t : Standing) → how_stood t ≡ stopped → ⊥
unfolding how_stood
stood-going standings.Reading e = let never : ◌≡◌ {A = ℕ} 0 1 = cc in omega arith
stood-going (standings.Ended d) e = let never : ◌≡◌ {A = ℕ} 0 1 = cc in omega arith
stood-going (standings.Refused n) e = let never : ◌≡◌ {A = ℕ} 0 1 = cc in omega arith

-- ---- at an end there is always a picture

pub ended-reports : (s : Setting) (p : Palette) (bs : List ℕ) {e : End}
    → calls.dcs_end (read_from (dcs_step s p) start bs).state ≡ some e
    → (r : meant.Report) × (one_shot s p bs ≡ meant.finished r)
unfolding one_shot answer_of is_refused
ended-reports s p bs {e} z = go (sequence_payload bs) refl (sequence-agrees bs)
  where
    go : (f : Found) → sequence_payload bs ≡ f → Agrees bs f → (r : meant.Report) × (one_shot s p bs ≡ meant.finished r)
    go (found o part) q same =
        let over-there = sequence-over s p bs q z in
        let fine : (meant.payload s o p part).refusal ≡ none =
        ap (λ (out : Outcome). out.refusal)
        (sym (reading-settled s o p part (ap is_refused over-there.0))
        ∙ settled-none s (read_payload s o p part).state (halted-settled s o p part over-there.0)) in
        (_, ap (answer_of s p) same ∙ outcome-reports o (meant.payload s o p part) fine)
    go lacking q same = absurd (no_end (sym (before-open _ (sequence-lacking s p bs q).0) ∙ z))
    go (refused_with n) q same = absurd (no_end (sym (before-open _ (sequence-refused-before s p bs q).0) ∙ z))

-- ---- bytes after an end or a refusal make no difference

module _ (s : Setting) (p : Palette) where
  -- the same state and counts
  abbrev Alike : Run Phase → Run Phase → Type 0
  Alike q r = (q.state ≡ r.state) × (q.consumed ≡ r.consumed) × (q.ink ≡ r.ink)

  over_reads : (t : Phase) {e : End} (ys : List ℕ) → calls.dcs_end t ≡ some e → Alike (read_from (dcs_step s p) t ys) (still t read_all)
  unfolding read_from still follow dcs_step calls.dcs_end
  over_reads start ys h = absurd (no_end h)
  over_reads introduced ys h = absurd (no_end h)
  over_reads (header bs) ys h = absurd (no_end h)
  over_reads (within r) ys h = absurd (no_end h)
  over_reads (after_escape r) ys h = absurd (no_end h)
  over_reads (over d r) [] h = (refl, refl, refl)
  over_reads (over d r) (b ∷ ys) h = (refl, refl, refl)

  -- reading some bytes from the start, and when that has come to an end
  abbrev ran : List ℕ → Run Phase
  ran bs = read_from (dcs_step s p) start bs

  abbrev EndsBy : End → List ℕ → Type 0
  EndsBy e bs = calls.dcs_end (ran bs).state ≡ some e

  module _ (xs ys : List ℕ) where
    further : ran (xs ++ ys) ≡ then_read (dcs_step s p) (ran xs) ys
    further = read-append (dcs_step s p) start xs ys

    refused-more : {n : ℕ} → (ran xs).how ≡ refused_by n → ran (xs ++ ys) ≡ ran xs
    unfolding then_read continued is_all
    refused-more h = further ∙ cond_no _ _ (ap is_all h)

    over-more : {e : End} → EndsBy e xs
        → Alike (ran (xs ++ ys)) (ran xs)
    unfolding then_read continued after still
    over-more h =
        let q : Run Phase = ran xs in
        let none_read = over_reads q.state ys h in
        subst (λ (r : Run Phase). Alike r q) (sym further)
        (cond-case (λ (r : Run Phase). Alike r q) (is_all q.how)
        (λ _. (none_read.0, omega (arith, none_read.1), omega (arith, none_read.2)))
        (λ _. (refl, refl, refl)))

    pub ended-ink : {e : End} → EndsBy e xs → sequence_ink s p (xs ++ ys) ≡ sequence_ink s p xs
    ended-ink h = sym (sequence-ink s p (xs ++ ys)) ∙ (over-more h).2 ∙ sequence-ink s p xs

    pub ended-state : {e : End} → EndsBy e xs
        → (ran (xs ++ ys)).state ≡ (ran xs).state
    ended-state h = (over-more h).0

    ended-end : {e : End} → EndsBy e xs → EndsBy e (xs ++ ys)
    ended-end h = ap calls.dcs_end (over-more h).0 ∙ h

    pub ended-consumed : {e : End} → EndsBy e xs
        → (ran (xs ++ ys)).consumed ≡ (ran xs).consumed
    ended-consumed h = (over-more h).1

    pub ended-answer : {e : End} → EndsBy e xs → one_shot s p (xs ++ ys) ≡ one_shot s p xs
    ended-answer h =
        sym (sequence-finish s p (xs ++ ys) (ended-end h))
        ∙ ap (finish_dcs s) (over-more h).0
        ∙ sequence-finish s p xs h

    pub ended-drawing : {e : End} → EndsBy e xs
        → calls.drawing_found s p (find_payload (xs ++ ys)) ≡ calls.drawing_found s p (find_payload xs)
    ended-drawing h =
        sym (sequence-finish-drawing s p (xs ++ ys) (ended-end h))
        ∙ ap (calls.drawing_at_finish s) (over-more h).0
        ∙ sequence-finish-drawing s p xs h

    pub refused-ink : {n : ℕ} → (ran xs).how ≡ refused_by n → sequence_ink s p (xs ++ ys) ≡ sequence_ink s p xs
    refused-ink h = sym (sequence-ink s p (xs ++ ys)) ∙ ap (λ (q : Run Phase). q.ink) (refused-more h) ∙ sequence-ink s p xs

    pub refused-state : {n : ℕ} → (ran xs).how ≡ refused_by n
        → (ran (xs ++ ys)).state ≡ (ran xs).state
    refused-state h = ap (λ (q : Run Phase). q.state) (refused-more h)

    -- a refusal is what introducer and header are refused with, or what reading the whole at once answers
    pub refused-answer : {n : ℕ} → (ran xs).how ≡ refused_by n
        → (n ≤ 3 → sequence_payload (xs ++ ys) ≡ refused_with n) × (2 ≤ n → one_shot s p (xs ++ ys) ≡ meant.turned_down n)
    refused-answer {n} h =
        let all : (ran (xs ++ ys)).how ≡ refused_by n = ap (λ (q : Run Phase). q.how) (refused-more h) ∙ h in
        (λ small. (sequence-refused s p (xs ++ ys) n small).0 all, λ low. sequence-turned-down s p (xs ++ ys) low all)
