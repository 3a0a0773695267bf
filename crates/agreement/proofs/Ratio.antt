-- A raster's ratio is never 0, so that the code's 0 can stand for none.
use Prim.Native.Nat.{ℕ, ◌+◌, ◌*◌, max}
use mathlib.Core.Path.{◌≡◌}
use mathlib.Core.List.{List}
use lib.Dec.{leb, ltb, eqb, lit≤}
use lib.ListN.{length, get_or}
use Rattle.numbers.specs.Values.{decimal, values}
use Rattle.meaning.specs.Commands.{Kind, repeat, colour, raster, argued}
use Rattle.meaning.specs.Drawing.{Setting, Raster, Drawing, drawn, quotient, ratio_after, raster_after, repeated, with_raster, stretched, rastered, draw_command}
use Rattle.meaning.proofs.AreaLaws.{cond-case, unless-case, Gives, given}
use Rattle.agreement.specs.Same.{Rated}

quotient-rated : (v h : ℕ) → Rated (quotient v h)
unfolding quotient
quotient-rated v h =
    cond-case Rated (eqb v h) (λ _. lit≤ tt)
    λ _. cond-case Rated (eqb v (2 * h)) (λ _. lit≤ tt)
    λ _. cond-case Rated (eqb v (3 * h)) (λ _. lit≤ tt)
    λ _. cond-case Rated (eqb v (5 * h)) (λ _. lit≤ tt) (λ _. tt)

raster-rated : (r : Raster) (vs : List ℕ) → Rated r.ratio → Rated (raster_after r vs).ratio
unfolding raster_after ratio_after
raster-rated r vs h = cond-case Rated (leb 2 (length vs)) (λ _. quotient-rated (max 1 (get_or vs 0 0)) (max 1 (get_or vs 1 0))) (λ _. h)

-- the drawing's ratio is one that can be
abbrev RatedIn : Drawing → Type 0
RatedIn d = Rated d.raster.ratio

rastered-rated : (s : Setting) (r : Raster) (d : Drawing) → Rated r.ratio → Gives RatedIn (rastered s r d)
unfolding rastered stretched with_raster
rastered-rated s r d h =
    cond-case (Gives RatedIn) (eqb (r.width + r.height) 0) (λ _. h)
    (λ _. unless-case (Gives RatedIn) s d.area (max 1 r.width) (max 1 r.height) _ (λ n low high. (low, high)) (λ _. h))

command-rates : (s : Setting) (k : Kind) (bs : List ℕ) (d : Drawing) → RatedIn d → Gives RatedIn (draw_command s (argued k bs) d)
unfolding draw_command repeated
command-rates s repeat bs d h = cond-case (Gives RatedIn) (ltb s.limits.repeats (decimal bs)) (λ _. (lit≤ tt, lit≤ tt)) (λ _. h)
command-rates s colour bs d h = h
command-rates s raster bs d h = rastered-rated s (raster_after d.raster (values 4 bs)) d (raster-rated d.raster (values 4 bs) h)

-- no command makes the ratio 0
pub command-rated : (s : Setting) (k : Kind) (bs : List ℕ) (d : Drawing) {e : Drawing} → draw_command s (argued k bs) d ≡ drawn e
    → Rated d.raster.ratio → Rated e.raster.ratio
command-rated s k bs d q h = given RatedIn (command-rates s k bs d h) q
