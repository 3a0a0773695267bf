-- Laws of the declared size: what a finish reports of it follows from the commands alone, and lies inside the size.
use Prim.Native.Nat.{ℕ, ◌+◌, ◌≤◌, max}
use native.Mathlib.Omega.{arith}
use mathlib.Core.Path.{◌≡◌, refl, sym, ap₂}
use mathlib.Core.Option.{none}
use mathlib.Core.List.{List, [], ◌∷◌}
use borrow.Author.Tests.{eqb-true}
use lib.Dec.{eqb, ltb, lit≤}
use Rattle.numbers.specs.Values.{decimal, values}
use Rattle.colours.specs.declared.Palette.{Palette}
use Rattle.canvas.specs.Picture.{area_of, grown_to, reach}
use Rattle.meaning.specs.Commands.{repeat, colour, raster, Command, argued, return, line, draw, Placed}
use Rattle.meaning.specs.Drawing.{Setting, Raster, Drawing, Drawn, drawn, refused, blank, with_pen, repeated, coloured, with_raster, rastered, stretched, raster_after, stroked, sixelled, draw_command, and_then, draw_all}
use Rattle.meaning.specs.Payload.{Parameters, declared_of, report_of}
use Rattle.meaning.specs.DeclaredSizes.{side_after, side_by, declared_by, Declares}
use Rattle.meaning.proofs.Cases.{cond-case}
use Rattle.meaning.proofs.CommandLaws.{Gives, unless-case}

-- a drawing that keeps some width and height, which lie inside its area
record Keeps (w h : ℕ) (d : Drawing) : Type 0 where
  width : d.raster.width ≡ w
  height : d.raster.height ≡ h
  wide : w ≤ d.area.width
  tall : h ≤ d.area.height

-- a raster command keeps its own, and the area grows to them
rastered-keeps : (s : Setting) (r : Raster) (d : Drawing) → Gives (Keeps r.width r.height) (rastered s r d)
unfolding rastered stretched with_raster grown_to
rastered-keeps s r d =
    cond-case (Gives kept) (eqb (r.width + r.height) 0)
    (λ e. let empty : r.width + r.height ≡ 0 = eqb-true _ _ e in record { width = refl; height = refl; wide = omega arith; tall = omega arith })
    (λ _. unless-case (Gives kept) s d.area (max 1 r.width) (max 1 r.height) _ (λ n low high. (low, high))
    (λ _. record { width = refl; height = refl; wide = omega arith; tall = omega arith }))
  where
    kept : Drawing → Type 0
    kept = Keeps r.width r.height

-- what a command keeps of a width and a height: those after it
module _ (s : Setting) (w h : ℕ) where
  command-keeps : (c : Command) (d : Drawing) → Keeps w h d → Gives (Keeps (side_after 2 w c) (side_after 3 h c)) (draw_command s c d)
  unfolding side_after draw_command repeated with_pen coloured raster_after sixelled stroked reach grown_to
  command-keeps (argued repeat bs) d k =
      cond-case (Gives (Keeps w h)) (ltb s.limits.repeats (decimal bs)) (λ _. (lit≤ tt, lit≤ tt))
      (λ _. record { width = k.width; height = k.height; wide = k.wide; tall = k.tall })
  command-keeps (argued colour bs) d k = record { width = k.width; height = k.height; wide = k.wide; tall = k.tall }
  command-keeps (argued raster bs) d k =
      rw (sym k.width, sym k.height) (rastered-keeps s (raster_after d.raster (values 4 bs)) d)
  command-keeps return d k = record { width = k.width; height = k.height; wide = k.wide; tall = k.tall }
  command-keeps line d k = record { width = k.width; height = k.height; wide = k.wide; tall = k.tall }
  command-keeps (draw bits) d k =
      unless-case (Gives (Keeps w h)) s d.area _ _ _ (λ n low high. (low, high))
      (λ _. record { width = k.width; height = k.height; wide = omega (arith, k.wide); tall = omega (arith, k.tall) })

-- and so do all of them, where none is refused
draw_all-keeps : (s : Setting) (cs : List Placed) (w h : ℕ) (d : Drawing) → Keeps w h d → (draw_all s cs d).refusal ≡ none
    → Keeps (side_by 2 w cs) (side_by 3 h cs) (draw_all s cs d).drawing
unfolding side_by draw_all and_then
draw_all-keeps s [] w h d k ok = k
draw_all-keeps s (c ∷ cs) w h d k ok = go (draw_command s c.command d) (command-keeps s w h c.command d k) ok (λ e. draw_all-keeps s cs w' h' e)
  where
    w' : ℕ
    w' = side_after 2 w c.command

    h' : ℕ
    h' = side_after 3 h c.command

    go : (x : Drawn) → Gives (Keeps w' h') x → (and_then d x (draw_all s cs)).refusal ≡ none
        → ((e : Drawing) → Keeps w' h' e → (draw_all s cs e).refusal ≡ none → Keeps (side_by 2 w' cs) (side_by 3 h' cs) (draw_all s cs e).drawing)
        → Keeps (side_by 2 w' cs) (side_by 3 h' cs) (and_then d x (draw_all s cs)).drawing
    go (drawn e) one none-refused later = later e one none-refused
    go (refused n) one none-refused later = absurd (let never : ◌≡◌ {A = ℕ} 0 1 = cc in omega arith)

-- What is reported after some commands, none of them refused, follows from them.
pub outcome-declares : (s : Setting) (o : Parameters) (p : Palette) (cs : List Placed) → (draw_all s cs (blank p o.p2)).refusal ≡ none
    → Declares cs (report_of o (draw_all s cs (blank p o.p2)).drawing)
unfolding report_of declared_of declared_by blank
outcome-declares s o p cs ok =
    record {
      told = ap₂ area_of keeps.width keeps.height;
      width = rw keeps.width keeps.wide;
      height = rw keeps.height keeps.tall;
    }
  where
    keeps : Keeps (side_by 2 0 cs) (side_by 3 0 cs) (draw_all s cs (blank p o.p2)).drawing
    keeps = draw_all-keeps s cs 0 0 (blank p o.p2) (record { width = refl; height = refl; wide = lit≤ tt; tall = lit≤ tt }) ok
