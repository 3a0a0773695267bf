-- The sizes that a picture can have. Each growth of the visible area has passed 5, 6 and 7 before it takes place, so that no finish
-- has a size to judge: what these definitions say of every size is proved (proofs/SizeHistories).
use Rattle.std.specs.Prelude.{ℕ, ◌≤◌, List, ◌↔◌, ◌≡◌}
use Rattle.std.proofs.Math.Option.{Option, none, some}
use Rattle.colours.specs.declared.Palette.{Palette}
use Rattle.canvas.specs.Picture.{Area}
use Rattle.meaning.specs.Drawing.{Setting, Drawing, pixels_of}
use Rattle.meaning.specs.Payload.{Finished, finished, turned_down}
use Rattle.meaning.specs.Calls.{Answer}
use Rattle.meaning.specs.Callers.{Ask, Feed, fed_all}
use Rattle.meaning.specs.Demands.{Concluded}

-- what the first visible area, a single pixel, needs: W, H, M and the stride are at least 1, and there is a whole row
pub record Roomy (s : Setting) : Type 0 where
  pub width : 1 ≤ s.limits.width
  pub height : 1 ≤ s.limits.height
  pub pixels : 1 ≤ s.limits.pixels
  pub stride : 1 ≤ s.stride
  pub rows : 1 ≤ s.rows

-- rule 4.3: an area of at least one pixel that keeps within W, H, M, the stride and the rows
pub record Fits (s : Setting) (a : Area) : Type 0 where
  pub wide : 1 ≤ a.width
  pub tall : 1 ≤ a.height
  pub width : a.width ≤ s.limits.width
  pub height : a.height ≤ s.limits.height
  pub pixels : pixels_of a ≤ s.limits.pixels
  pub stride : a.width ≤ s.stride
  pub rows : a.height ≤ s.rows

-- rule 4.4: an extent inside a size, of which neither side is 0 alone
pub record ExtentIn (x a : Area) : Type 0 where
  pub width : x.width ≤ a.width
  pub height : x.height ≤ a.height
  pub empty : (x.width ≡ 0) ↔ (x.height ≡ 0)

-- the visible area of what has been drawn is one; before the payload nothing has been
abbrev pub VisibleFits : Setting → Option Drawing → Type 0
VisibleFits s none = Unit {0}
VisibleFits s (some d) = Fits s d.area

-- rules 4.3, 4.4: the size that a finish reports is one, where it reports any, and the extent lies in it
abbrev pub ReportFits : Setting → Finished → Type 0
ReportFits s (finished r) = Fits s r.size × ExtentIn r.extent r.size
ReportFits s (turned_down n) = Unit {0}

-- Of any reader, as its caller meets it (Demands): so is what a finish reports after any calls, with any bytes and allowances, on
-- any canvas that is then lent to it.
abbrev pub SizesFit : {H E : Type 0} → Feed H (Answer E) → (H → List ℕ → H) → (H → Palette → Concluded) → Setting → H → List Ask → Type 0
SizesFit feed lend finish s h cs =
    (lent : List ℕ) (owner : Palette) → ReportFits s (finish (lend (fed_all feed h cs).state lent) owner).answer
