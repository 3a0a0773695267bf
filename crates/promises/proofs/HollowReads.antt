-- Hollow readings all at once are rejected too: one that refuses everything, and one of a fixed picture (docs/PROMISES.md).
use Rattle.std.specs.Prelude.{Err}
use Prim.Native.Nat.{ℕ}
use mathlib.Core.Bool.{Bool, true, false, true≢false}
use mathlib.Core.List.{List, [], ◌∷◌}
use mathlib.Core.Path.{◌≡◌, refl, sym, ap, ◌∙◌}
use native.Mathlib.Omega.{arith}
use lib.ListN.{get_or}
use Rattle.colours.specs.declared.Palette.{Palette}
use Rattle.colours.specs.Palette.{standard}
use Rattle.canvas.specs.Picture as pictures
use Rattle.frame.specs.declared.Refusal.{Refusal}
use Rattle.meaning.specs.Calls as calls
use Rattle.meaning.specs.Drawing.{Limits, house_limits}
use Rattle.meaning.specs.Payload as meant
use Rattle.meaning.proofs.Trials.{computed}
use Rattle.payload.specs.declared.Finished.{Finished}
use Rattle.oneshot.specs.OneShot.{Read, read_whole, read_meant}
use Rattle.payload.specs.Meant.{finish_meant}
use Rattle.promises.proofs.Hollow.{fresh}

-- a reading: of limits, a stride, a palette, a canvas and bytes it makes an answer with a palette, and a canvas
abbrev pub Reader : Type 0
Reader = Limits → ℕ → Palette → List ℕ → List ℕ → Finished × List ℕ

-- it has the contract of `read`
abbrev pub Meets : Reader → Type 0
Meets f =
    (l : Limits) (stride : ℕ) (p : Palette) (canvas bs : List ℕ)
    → read_meant (f l stride p canvas bs).0 (f l stride p canvas bs).1 ≡ read_whole l stride p canvas bs

-- ---- the smallest example: house limits, a canvas of 1 x 6 pixels whose bytes are 1, and the standard palette

read₀ : List ℕ → Read
read₀ bs = read_whole house_limits 1 standard fresh bs

is_down : meant.Finished → Bool
is_down (meant.finished r) = false
is_down (meant.turned_down n) = true

-- no bytes have a report; and the alpha of the pixel below the first is the opening's after them, and painted after `~`
empty-reported : is_down (read₀ []).answer ≡ false
unfolding is_down read₀ fresh read_whole calls.read_one_shot calls.opens calls.setting_for computed
empty-reported = refl

empty-alpha : get_or (read₀ []).canvas 7 0 ≡ 1
unfolding read₀ fresh read_whole calls.one_shot_shown calls.setting_for computed calls.shown pictures.picture pictures.replaced pictures.grid pictures.visible
empty-alpha = refl

sixel-alpha : get_or (read₀ (0x7E ∷ [])).canvas 7 0 ≡ 255
unfolding read₀ fresh read_whole calls.one_shot_shown calls.setting_for computed calls.shown pictures.picture pictures.replaced pictures.grid pictures.visible
sixel-alpha = refl

module _ (f : Reader) (meets : Meets f) where
  -- Refusing everything: the table says "exactly when".
  pub no-refusing-read : ((l : Limits) (stride : ℕ) (p : Palette) (canvas bs : List ℕ)
      → (x : Refusal) × ((f l stride p canvas bs).0.answer ≡ Err x))
      → ⊥
  unfolding read_meant finish_meant is_down read₀
  no-refusing-read refuses =
      let h = refuses house_limits 1 standard fresh [] in
      let down : is_down (finish_meant (f house_limits 1 standard fresh []).0.answer (f house_limits 1 standard fresh []).0.palette) ≡ true =
      ap (λ (x : _). is_down (finish_meant x (f house_limits 1 standard fresh []).0.palette)) h.1 in
      true≢false (sym down ∙ ap (λ (x : Read). is_down x.answer) (meets house_limits 1 standard fresh []) ∙ empty-reported)

  -- One fixed picture: the last-draw definition.
  pub no-fixed-read : (one : List ℕ) → ((l : Limits) (stride : ℕ) (p : Palette) (canvas bs : List ℕ) → (f l stride p canvas bs).1 ≡ one) → ⊥
  unfolding read_meant read₀
  no-fixed-read one fixed =
      let shows : (bs : List ℕ) → one ≡ (read₀ bs).canvas =
      λ bs. sym (fixed house_limits 1 standard fresh bs) ∙ ap (λ (x : Read). x.canvas) (meets house_limits 1 standard fresh bs) in
      let never : ◌≡◌ {A = ℕ} 1 255 =
      sym empty-alpha ∙ ap (λ (c : List ℕ). get_or c 7 0) (sym (shows []) ∙ shows (0x7E ∷ [])) ∙ sixel-alpha in
      omega arith
