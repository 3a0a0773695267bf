-- The round trip of a session through numbers and registers: read back it is the same session.
use Rattle.std.specs.Prelude.{◌≡◌, ℕ, ◌+◌, ◌-◌, ◌*◌, ◌/◌, ◌%◌, ◌<◌, List, [], ◌∷◌, ◌++◌, length, get_or, Some, None}
use native.Mathlib.Nat.{mod-eq_of_lt}
use native.Mathlib.Omega.{arith}
use mathlib.Core.Path.{refl, ap, ◌∙◌}
use borrow.Author.Tests.{lt-ltb, ne_eqb}
use Rattle.numbers.proofs.Laws.{cond_yes, cond_no}
use Rattle.numbers.proofs.MemoryLaws.{from-numbers}
use Rattle.numbers.specs.Memory as parameters
use Rattle.colours.specs.Packing.{packed}
use Rattle.colours.specs.Palette.{of_table}
use Rattle.frame.specs.declared.Kind.{Kind}
use Rattle.frame.specs.declared.Kind.TheVariants as kinds
use Rattle.payload.specs.Results.{Given}
use Rattle.payload.specs.declared.Life.{Life}
use Rattle.payload.specs.declared.Life.TheVariants as lives
use Rattle.payload.specs.declared.Session.{Session}
use Rattle.payload.specs.Codes.{given_number, given_from, life_number, life_from, kind_number, kind_from, color_number, color_from}
use Rattle.payload.specs.Memory.{ground_numbers, pen_numbers, area_numbers, extent_numbers, raster_numbers, command_numbers, frame_numbers, own_numbers, numbers_of, table_of, ground_from, settings_from, pen_from, area_from, extent_from, raster_from, nine_from, command_from, frame_from, session_from}
use Rattle.payload.specs.Ranges.{ColorRanged, GivenRanged, LifeRanged, Ranged}

-- ---- one number each

given_back : (g : Given) → GivenRanged g → given_from (given_number g) ≡ g
unfolding given_from given_number
given_back None h = refl
given_back (Some n) h = cond_yes _ _ (lt-ltb n 65536 h)

life-back : (x : Life) → LifeRanged x → life_from (life_number x) ≡ x
unfolding life_from life_number
life-back lives.Live h = refl
life-back (lives.Ended b) h =
    let back : (b + 2 - 2) % 256 ≡ b = omega arith in
    cond_no _ _ (ne_eqb (b + 2) 0 (λ e. omega arith)) ∙ cond_no _ _ (ne_eqb (b + 2) 1 (λ e. omega arith)) ∙ ap lives.Ended back
life-back lives.Failed h = refl

kind-back : (k : Kind) → kind_from (kind_number k) ≡ k
unfolding kind_from kind_number
kind-back kinds.Data = refl
kind-back kinds.Repeat = refl
kind-back kinds.Color = refl
kind-back kinds.Raster = refl

four-listed : (l : List ℕ) → length l ≡ 4 → get_or l 0 0 ∷ get_or l 1 0 ∷ get_or l 2 0 ∷ get_or l 3 0 ∷ [] ≡ l
four-listed [] h = cc
four-listed (a ∷ []) h = cc
four-listed (a ∷ b ∷ []) h = cc
four-listed (a ∷ b ∷ c ∷ []) h = cc
four-listed (a ∷ b ∷ c ∷ d ∷ []) h = refl
four-listed (a ∷ b ∷ c ∷ d ∷ e ∷ l) h = cc

module _ (r g b a : ℕ) (hr : r < 256) (hg : g < 256) (hb : b < 256) (ha : a < 256) where
  unpacked : (n : ℕ) → n ≡ a * 16777216 + (r * 65536 + g * 256 + b) → n / 65536 % 256 ∷ n / 256 % 256 ∷ n % 256 ∷ n / 16777216 % 256 ∷ [] ≡ r ∷ g ∷ b ∷ a ∷ []
  unpacked n e =
      let red : n / 65536 % 256 ≡ r = omega arith in
      let above : n / 256 ≡ a * 65536 + (r * 256 + g) = omega arith in
      let green : n / 256 % 256 ≡ g = rw above (omega arith) in
      let blue : n % 256 ≡ b = omega arith in
      let top : n / 16777216 ≡ a = omega arith in
      let alpha : n / 16777216 % 256 ≡ a = rw top (mod-eq_of_lt ha) in
      rw (red, green, blue, alpha) refl

color-back : (px : List ℕ) → ColorRanged px → color_from (color_number px) ≡ px
unfolding color_from color_number packed
color-back px h = unpacked _ _ _ _ h.red h.green h.blue h.alpha _ refl ∙ four-listed px h.four

-- ---- a session

-- whatever stands after its 34 numbers, but for the count, which is the eleventh of these
pub session-back : (s : Session) (rest : List ℕ) → get_or rest 10 0 ≡ s.frame.held → Ranged s → session_from (own_numbers s ++ rest) (table_of s) ≡ s
unfolding session_from ground_from settings_from frame_from pen_from area_from extent_from raster_from command_from nine_from of_table
    own_numbers ground_numbers frame_numbers pen_numbers area_numbers extent_numbers raster_numbers command_numbers parameters.numbers_of
session-back s rest held h =
    rw (
      held,
      color-back s.ground.background h.background,
      given_back s.settings.p1 h.settings.p1,
      given_back s.settings.p2 h.settings.p2,
      life-back s.life h.life,
      color-back s.frame.pen.color h.frame.color,
      mod-eq_of_lt h.frame.ratio,
      kind-back s.frame.command.kind,
      from-numbers s.frame.command.parameters h.frame.parameters,
    )
    refl

-- the law: a session in memory is the session
pub from-memory : (s : Session) → Ranged s → session_from (numbers_of s) (table_of s) ≡ s
unfolding numbers_of
from-memory s h = session-back s _ refl h
