-- What a payload means, whole: the drawing of its commands, and what finishing it answers (docs/RULES.md, sections 3 and 4).
use Rattle.std.specs.Prelude.{ℕ, min, Bool, List}
use Rattle.std.proofs.Math.Option.{Option, none, some}
use Rattle.colours.specs.declared.Palette.{Palette}
use Rattle.colours.specs.Marks.{lasting, defined_count}
use Rattle.canvas.specs.Picture.{Area, area_of}
use Rattle.meaning.specs.Commands.{commands, ended_commands}
use Rattle.meaning.specs.Drawing.{Setting, Raster, Drawing, Outcome, transparent, blank, draw_all, ink_of_all, extent_of}

-- rule 1.5: P1 and P2, each a 16-bit number or none
pub record Parameters : Type 0 where
  pub p1 : Option ℕ
  pub p2 : Option ℕ

-- no P1 and no P2
abbrev pub no_parameters : Parameters
no_parameters = record { p1 = none; p2 = none }

-- Rule 3.11. The drawing of a payload from its first byte to its end, or to its first refusal. This is the payload as a whole;
-- Sessions says it byte by byte (`payload_step`), and the two are one: the law `reading-is-payload` of proofs/PayloadLaws.
unfoldable pub payload : Setting → Parameters → Palette → List ℕ → Outcome
payload s o p bs = draw_all s (commands bs) (blank p o.p2)

-- rule 6.5: what has been drawn once its bytes are read: a pending command is not yet carried out; with the refusal, if reading
-- them comes to one
unfoldable pub drawn_so_far : Setting → Parameters → Palette → List ℕ → Outcome
drawn_so_far s o p bs = draw_all s (ended_commands bs) (blank p o.p2)

-- rule 6.8: the ink of all that it draws, before a refusal too
unfoldable pub payload_ink : Setting → Parameters → Palette → List ℕ → ℕ
payload_ink s o p bs = ink_of_all (payload s o p bs).drawing.strokes

-- rule 4.5: the raster's ratio, as so many to 1, or else it is left to P1
pub data Ratio : Type 0 where
  by_raster : ℕ → Ratio
  left_to_p1 : Option ℕ → Ratio

-- rule 4.5: the raster's where there is one
unfoldable pub ratio_of : Option ℕ → Option ℕ → Ratio
ratio_of p1 none = left_to_p1 p1
ratio_of p1 (some n) = by_raster n

-- rule 4.7: the declared size: the width and the height that raster commands have kept, each 0 where none has been
unfoldable pub declared_of : Raster → Area
declared_of r = area_of r.width r.height

-- rule 9.10: no count is reported larger than this
abbrev pub largest_count : ℕ
largest_count = 18446744073709551615

-- rule 4.6: what finishing reports
pub record Report : Type 0 where
  pub size : Area
  pub ratio : Ratio
  pub clear : Bool
  pub extent : Area
  pub defined : ℕ
  pub declared : Area
  pub held : ℕ
  pub palette : Palette

-- rule 4.6: what is reported of a drawing
unfoldable pub report_of : Parameters → Drawing → Report
unfolding ratio_of transparent declared_of
report_of o d =
    record {
      size = d.area;
      ratio = ratio_of o.p1 d.raster.ratio;
      clear = transparent o.p2;
      extent = extent_of d.strokes;
      defined = defined_count d.palette;
      declared = declared_of d.raster;
      held = min d.held largest_count;
      palette = lasting d.palette;
    }

-- the answer of a finish: a report, or a refusal's number
pub data Finished : Type 0 where
  finished : Report → Finished
  turned_down : ℕ → Finished

-- rule 4.6: a command's refusal, or else a report
unfoldable pub finish : Parameters → Outcome → Finished
unfolding report_of
finish o out = elim out.refusal [ none ↦ finished (report_of o out.drawing) | some n ↦ turned_down n ]
