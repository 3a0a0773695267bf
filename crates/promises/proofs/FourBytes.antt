-- Every colour that a payload draws with is a pixel of four bytes, and so is its background.
use Prim.Native.Nat.{ℕ}
use mathlib.Core.List.{List, [], ◌∷◌, ◌++◌}
use mathlib.Core.Option.{Option}
use mathlib.Core.Path.{◌≡◌, refl, sym, ap, subst, ◌∙◌}
use lib.ListN.{length}
use Rattle.colours.specs.declared.Palette.{Palette}
use Rattle.colours.specs.Packing.{pixel_of}
use Rattle.colours.specs.Palette.{register_of}
use Rattle.colours.specs.Marks.{lasting}
use Rattle.canvas.specs.Picture.{Stroke}
use Rattle.meaning.specs.Commands.{Command, argued, return, line, draw, Placed, commands}
use Rattle.meaning.specs.Drawing.{Setting, Drawing, Drawn, drawn, refused, transparent, background_of, blank, stroke_of, stroked, sixelled, draw_command, and_then, draw_all}
use Rattle.meaning.specs.Payload.{Parameters, payload}
use Rattle.meaning.proofs.AreaLaws.{cond-case, unless-case, Gives, StrokesOf, quiet-command, draw_all-follows}
use Rattle.bins.specs.Facts.{FourStrokes}

register-four : (p : Palette) (n : ℕ) → length (register_of p n) ≡ 4
unfolding register_of pixel_of
register-four p n = refl

background-four : (p : Palette) (p2 : Option ℕ) → length (background_of p p2) ≡ 4
unfolding background_of
background-four p p2 = cond-case (λ (c : List ℕ). length c ≡ 4) (transparent p2) (λ _. refl) (λ _. register-four p 0)

append-four : (ks : List Stroke) (k : Stroke) → FourStrokes ks → length k.colour ≡ 4 → FourStrokes (ks ++ k ∷ [])
append-four [] k f four = (four, tt)
append-four (j ∷ ks) k f four = (f.0, append-four ks k f.1 four)

-- the strokes of a drawing
abbrev Four : Drawing → Type 0
Four d = FourStrokes d.strokes

-- a command that draws nothing leaves them
kept : (d : Drawing) (x : Drawn) → Four d → Gives (StrokesOf d) x → Gives Four x
kept d (drawn e) f g = subst FourStrokes (sym g) f
kept d (refused n) f g = g

-- and a sixel adds one in a register's colour
sixel-four : (s : Setting) (bits : ℕ) (d : Drawing) → Four d → Gives Four (sixelled s bits d)
unfolding sixelled stroked stroke_of
sixel-four s bits d f =
    unless-case (Gives Four) s d.area _ _ _ (λ n low high. (low, high))
    (λ _. append-four d.strokes (stroke_of bits d) f (register-four d.palette d.pen.register))

command-four : (s : Setting) (c : Command) (d : Drawing) → Four d → Gives Four (draw_command s c d)
unfolding draw_command
command-four s (argued k bs) d f = kept d (draw_command s (argued k bs) d) f (quiet-command s (argued k bs) d tt)
command-four s return d f = kept d (draw_command s return d) f (quiet-command s return d tt)
command-four s line d f = kept d (draw_command s line d) f (quiet-command s line d tt)
command-four s (draw bits) d f = sixel-four s bits d f

all-four : (s : Setting) (cs : List Placed) (d : Drawing) → Four d → Four (draw_all s cs d).drawing
unfolding draw_all and_then
all-four s [] d f = f
all-four s (c ∷ cs) d f = go (draw_command s c.command d) (command-four s c.command d f) (all-four s cs)
  where
    go : (x : Drawn) → Gives Four x → ((e : Drawing) → Four e → Four (draw_all s cs e).drawing) → Four (and_then d x (draw_all s cs)).drawing
    go (drawn e) g later = later e g
    go (refused n) g later = f

module _ (s : Setting) (o : Parameters) (p : Palette) (bs : List ℕ) where
  -- Each stroke of a payload has a colour of four bytes.
  pub payload-strokes-four : FourStrokes (payload s o p bs).drawing.strokes
  unfolding payload blank
  payload-strokes-four = all-four s (commands bs) (blank p o.p2) tt

  -- So has its background.
  pub payload-background-four : length (payload s o p bs).drawing.background ≡ 4
  unfolding payload blank
  payload-background-four =
      ap length (draw_all-follows s (commands bs) (blank p o.p2)).background ∙ background-four (lasting p) o.p2
