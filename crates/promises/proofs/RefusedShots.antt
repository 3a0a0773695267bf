-- The refusals of a reading all at once, in their order: 11, then 2, 3 or 8, then the payload's; and what each leaves (rules 8.2 to
-- 8.4).
use Rattle.std.specs.Prelude.{Ok, Err}
use Prim.Native.Nat.{ℕ, ◌≤◌}
use mathlib.Core.List.{List, []}
use mathlib.Core.Logic.{◌↔◌, ◌⊎◌, inl, inr}
use mathlib.Core.Option.{some}
use mathlib.Core.Path.{◌≡◌, refl, sym, ap, ◌∙◌}
use native.Mathlib.Omega.{arith}
use lib.ListN.{length}
use Rattle.colours.specs.declared.Palette.{Palette}
use Rattle.frame.specs.Numbers.{number_of}
use Rattle.frame.specs.declared.Refusal.{Refusal}
use Rattle.meaning.specs.Commands.{commands}
use Rattle.meaning.specs.Drawing.{Limits, Setting, Drawing, Outcome, blank}
use Rattle.meaning.specs.OneShot.{Found, found, lacking, refused_with, find_payload, answer_of, one_shot}
use Rattle.meaning.specs.Payload.{Parameters, payload, Finished, turned_down}
use Rattle.meaning.specs.Calls.{setting_for, shown, read_one_shot, part_handed_back}
use Rattle.payload.specs.declared.Finished as coded
use Rattle.payload.specs.Results.{Finishing}
use Rattle.oneshot.specs.OneShot.{Read, palette_after, read_whole, read_part, read_outcome, read_meant}
use Rattle.payload.specs.Meant.{finish_meant}
use Rattle.oneshot.proofs.WholeLaws.{part-read, part-lacking, part-missing, part-unopened}
use Rattle.promises.proofs.Choices.{tells-fails, later-case, only-case}
use Rattle.promises.proofs.Meanings.{refusal-known}
use Rattle.promises.proofs.RefusedCommands.{RefusedAt, payload-exactly}
use Rattle.promises.proofs.RefusedHeaders.{header-numbers, shot-exactly, Unfound, short, turned}
use Rattle.promises.proofs.RefusedSessions.{Openable, tells-opens}
use Rattle.promises.proofs.RefusedFinishes.{finish-numbers, finish-exactly}

module _ (l : Limits) (stride : ℕ) (p : Palette) (canvas bs : List ℕ) where
  abbrev setting : Setting
  setting = setting_for l stride (length canvas)

  -- the answer of a reading all at once
  abbrev pub answer : Finished
  answer = read_one_shot l stride (length canvas) p bs

  -- a header is refused with 2 or 3
  pub found-numbers : {n : ℕ} → find_payload bs ≡ refused_with n → (2 ≤ n) × (n ≤ 3)
  found-numbers {n} e = let h = (shot-exactly bs (refused_with n) tt).0 e in header-numbers _ h.0 h.2

  -- bytes are turned down with 2 to 8
  shot-numbers : (n : ℕ) → one_shot setting p bs ≡ turned_down n → (2 ≤ n) × (n ≤ 8)
  unfolding one_shot answer_of payload
  shot-numbers n e = go (find_payload bs) refl e
    where
      go : (f : Found) → find_payload bs ≡ f → answer_of setting p f ≡ turned_down n → (2 ≤ n) × (n ≤ 8)
      go (found o part) q e =
          let range : (4 ≤ n) × (n ≤ 7) = finish-numbers setting o (commands part) (blank p o.p2) n e in (omega arith, omega arith)
      go lacking q e = let number : 8 ≡ n = cc in (omega arith, omega arith)
      go (refused_with m) q e =
          let number : m ≡ n = cc in let range : (2 ≤ m) × (m ≤ 3) = found-numbers q in (omega arith, omega arith)

  -- 11 is given exactly when an opening number is out of its range, or there is no whole row.
  pub shot-eleven : (answer ≡ turned_down 11) ↔ (¬ Openable l stride (length canvas))
  unfolding read_one_shot
  shot-eleven = (λ e. (k.0 e).0, λ h. k.1 (h, tt))
    where
      k : (answer ≡ turned_down 11) ↔ ((¬ Openable l stride (length canvas)) × Unit {0})
      k = later-case (tells-opens l stride (length canvas)) (λ e. let low : (2 ≤ 11) × (11 ≤ 8) = shot-numbers 11 e in omega arith) (λ e. tt, λ h. refl)

  -- any other number is what the bytes are turned down with
  shot-own : (n : ℕ) → ¬ (11 ≡ n) → (answer ≡ turned_down n) ↔ (Openable l stride (length canvas) × (one_shot setting p bs ≡ turned_down n))
  unfolding read_one_shot
  shot-own n differ = only-case (tells-opens l stride (length canvas)) (λ e. differ (cc)) (λ e. e, λ e. e)

  -- no payload, and the number that says so is none of a payload's
  unfound-other : {f : Found} {n : ℕ} → Unfound f n → (4 ≤ n) × (n ≤ 7) → ⊥
  unfound-other short k = omega arith
  unfound-other (turned low) k = omega arith

  unfound-answer : {f : Found} {n : ℕ} → Unfound f n → answer_of setting p f ≡ turned_down n
  unfolding answer_of
  unfound-answer short = refl
  unfound-answer (turned low) = refl

  unfound-only : {f : Found} {n : ℕ} → Unfound f n → (g : Found) → find_payload bs ≡ g → answer_of setting p g ≡ turned_down n → g ≡ f
  unfolding answer_of payload
  unfound-only {f} {n} u (found o part) q e = absurd (unfound-other u (finish-numbers setting o (commands part) (blank p o.p2) n e))
  unfound-only short lacking q e = refl
  unfound-only short (refused_with m) q e = let number : m ≡ 8 = cc in let range : (2 ≤ m) × (m ≤ 3) = found-numbers q in absurd (omega arith)
  unfound-only (turned {n} low) lacking q e = let number : 8 ≡ n = cc in absurd (omega arith)
  unfound-only (turned low) (refused_with m) q e = cc

  found-down : {f : Found} {n : ℕ} → Unfound f n → (one_shot setting p bs ≡ turned_down n) ↔ (find_payload bs ≡ f)
  unfolding one_shot
  found-down u = (λ e. unfound-only u (find_payload bs) refl e, λ e. ap (answer_of setting p) e ∙ unfound-answer u)

  -- 2, 3 and 8 are given exactly when it opens and the header after the first introducer is refused so.
  pub shot-header : {f : Found} {n : ℕ} → Unfound f n → (answer ≡ turned_down n) ↔ (Openable l stride (length canvas) × (find_payload bs ≡ f))
  shot-header {f} {n} u =
      let k = shot-own n (small u) in
      let h = found-down u in
      (λ e. ((k.0 e).0, h.0 (k.0 e).1), λ x. k.1 (x.0, h.1 x.1))
    where
      small : {g : Found} {m : ℕ} → Unfound g m → ¬ (11 ≡ m)
      small short q = omega arith
      small (turned low) q = omega arith

  -- a payload was found, and this is so of it
  abbrev pub Finds : (Parameters → List ℕ → Type 0) → Type 0
  Finds P = (o : Parameters) × (part : List ℕ) × (find_payload bs ≡ found o part) × P o part

  -- 4 to 7 are given exactly when it opens and a command of the payload that is found is refused so.
  pub shot-bytes : (n : ℕ) → (4 ≤ n) × (n ≤ 7)
      → (answer ≡ turned_down n)
      ↔ (Openable l stride (length canvas) × Finds (λ o part. (f : Drawing) × RefusedAt setting (commands part) (blank p o.p2) f n))
  unfolding one_shot answer_of payload
  shot-bytes n range = (λ e. let h = (shot-own n (λ q. omega arith)).0 e in (h.0, to (find_payload bs) refl h.1), from)
    where
      to : (f : Found) → find_payload bs ≡ f → answer_of setting p f ≡ turned_down n
          → Finds (λ o part. (f : Drawing) × RefusedAt setting (commands part) (blank p o.p2) f n)
      to (found o part) q e = (o, part, q, (finish-exactly setting o (commands part) (blank p o.p2) n).0 e)
      to lacking q e = let number : 8 ≡ n = cc in absurd (omega arith)
      to (refused_with m) q e = let number : m ≡ n = cc in let low : (2 ≤ m) × (m ≤ 3) = found-numbers q in absurd (omega arith)

      from : Openable l stride (length canvas) × Finds (λ o part. (f : Drawing) × RefusedAt setting (commands part) (blank p o.p2) f n)
          → answer ≡ turned_down n
      from (h, (o, part, q, k)) =
          (shot-own n (λ q. omega arith)).1
          (h, ap (answer_of setting p) q ∙ (finish-exactly setting o (commands part) (blank p o.p2) n).1 k)

  -- ---- what a refusal leaves

  -- the whole outcome: answer, palette and canvas
  abbrev pub outcome : Read
  outcome = read_whole l stride p canvas bs

  -- The palette stays the owner's.
  pub shot-palette : (n : ℕ) → answer ≡ turned_down n → outcome.palette ≡ p
  unfolding read_whole palette_after
  shot-palette n e = ap (λ (x : Finished). palette_after x p) e

  -- On 11, and on 2, 3 and 8, not a byte of the canvas is written.
  pub shot-unopened-canvas : answer ≡ turned_down 11 → outcome.canvas ≡ canvas
  shot-unopened-canvas e =
      ap (λ (x : Read). x.canvas) (part-unopened l stride p canvas bs ((tells-fails (tells-opens l stride (length canvas))).1 (shot-eleven.0 e))).1

  -- what is left then
  unfound-left : {f : Found} {n : ℕ} → Unfound f n → answer ≡ turned_down n → (part_handed_back l stride (length canvas) bs ≡ []) × (outcome.canvas ≡ canvas)
  unfound-left short e =
      let h = (shot-header short).0 e in
      let left = part-lacking l stride p canvas bs ((tells-opens l stride (length canvas)).1 h.0) h.1 in
      (left.0, ap (λ (x : Read). x.canvas) left.1)
  unfound-left (turned low) e =
      let h = (shot-header (turned low)).0 e in
      let left = part-missing l stride p canvas bs ((tells-opens l stride (length canvas)).1 h.0) h.1 in
      (left.0, ap (λ (x : Read). x.canvas) left.1)

  header-left : (n : ℕ) → (n ≤ 3) ⊎ (n ≡ 8) → answer ≡ turned_down n → (part_handed_back l stride (length canvas) bs ≡ []) × (outcome.canvas ≡ canvas)
  header-left n (inl low) e = unfound-left (turned low) e
  header-left n (inr eight) e = unfound-left short (e ∙ ap turned_down eight)

  pub shot-header-canvas : (n : ℕ) → (n ≤ 3) ⊎ (n ≡ 8) → answer ≡ turned_down n → outcome.canvas ≡ canvas
  shot-header-canvas n which e = (header-left n which e).1

  -- and the part handed back is empty
  pub shot-unopened-part : answer ≡ turned_down 11 → part_handed_back l stride (length canvas) bs ≡ []
  shot-unopened-part e = (part-unopened l stride p canvas bs ((tells-fails (tells-opens l stride (length canvas))).1 (shot-eleven.0 e))).0

  pub shot-header-part : (n : ℕ) → (n ≤ 3) ⊎ (n ≡ 8) → answer ≡ turned_down n → part_handed_back l stride (length canvas) bs ≡ []
  shot-header-part n which e = (header-left n which e).0

  -- On 4 to 7 the canvas shows what came before the refused command.
  pub shot-bytes-canvas : (n : ℕ) → (4 ≤ n) × (n ≤ 7) → answer ≡ turned_down n
      → Finds (λ o part. (f : Drawing) × RefusedAt setting (commands part) (blank p o.p2) f n × (outcome.canvas ≡ shown stride (some f) canvas))
  unfolding read_part read_outcome setting_for
  shot-bytes-canvas n range e = go ((shot-bytes n range).0 e)
    where
      go : Openable l stride (length canvas) × Finds (λ o part. (f : Drawing) × RefusedAt setting (commands part) (blank p o.p2) f n)
          → Finds (λ o part. (f : Drawing) × RefusedAt setting (commands part) (blank p o.p2) f n × (outcome.canvas ≡ shown stride (some f) canvas))
      go (h, (o, part, q, (f, k))) = (
        o,
        part,
        q,
        (
          f,
          k,
          ap (λ (x : Read). x.canvas) (part-read l stride p canvas bs ((tells-opens l stride (length canvas)).1 h) q).1
              ∙ ap (λ (x : Outcome). shown stride (some x.drawing) canvas) ((payload-exactly setting o p part f n).1 k),
        ),
      )

-- ---- of the code: its answer, palette and canvas mean the definition's

module _ (l : Limits) (stride : ℕ) (p : Palette) (canvas bs : List ℕ) (r : coded.Finished) (after : List ℕ)
    (e : read_meant r after ≡ read_whole l stride p canvas bs) where
  meant-answer : finish_meant r.answer r.palette ≡ answer l stride p canvas bs
  unfolding read_meant read_whole
  meant-answer = ap (λ (x : Read). x.answer) e

  down-exactly : (y : Finishing) (q : Palette) (x : Refusal) → (y ≡ Err x) ↔ (finish_meant y q ≡ turned_down (number_of x))
  unfolding finish_meant
  down-exactly (Ok z) q x =
      (λ e. let never : ◌≡◌ {A = ℕ} 0 1 = cc in absurd (omega arith), λ e. let never : ◌≡◌ {A = ℕ} 0 1 = cc in absurd (omega arith))
  down-exactly (Err y) q x =
      (λ e. let same : y ≡ x = cc in ap (λ (z : Refusal). turned_down (number_of z)) same, λ e. ap Err (refusal-known (cc)))

  -- The code's reading is refused with a number exactly when the definition's is.
  pub read-exactly : (x : Refusal) → (r.answer ≡ Err x) ↔ (answer l stride p canvas bs ≡ turned_down (number_of x))
  read-exactly x =
      let k = down-exactly r.answer r.palette x in (λ q. sym meant-answer ∙ k.0 q, λ q. k.1 (meant-answer ∙ q))

  -- Then the palette handed back is the owner's.
  pub read-palette : (x : Refusal) → r.answer ≡ Err x → r.palette ≡ p
  unfolding read_meant
  read-palette x q = ap (λ (z : Read). z.palette) e ∙ shot-palette l stride p canvas bs (number_of x) ((read-exactly x).0 q)

  -- And the canvas is what the definition says: unwritten on 2, 3, 8 and 11, and on 4 to 7 showing what came before.
  pub read-canvas : after ≡ (outcome l stride p canvas bs).canvas
  unfolding read_meant
  read-canvas = ap (λ (z : Read). z.canvas) e
