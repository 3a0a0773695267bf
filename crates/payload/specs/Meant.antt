-- What the code's answers mean: a payload session's parameters, limits, answers and report in the definition's terms. A refusal is known by its
-- number (`number_of`).
use Rattle.std.specs.Prelude.{ℕ, Ok, Err, Some, None}
use Rattle.std.proofs.Math.Option.{Option, none, some}
use Rattle.colours.specs.declared.Palette.{Palette}
use Rattle.canvas.specs.Picture.{area_of}
use Rattle.frame.specs.declared.Limits.{Limits}
use Rattle.frame.specs.Numbers.{number_of}
use Rattle.meaning.specs.Calls as calls
use Rattle.meaning.specs.Drawing as drawing
use Rattle.meaning.specs.Payload as meant
use Rattle.payload.specs.Results.{Answer, Finishing, Given}
use Rattle.payload.specs.declared.Answer.TheVariants as answers
use Rattle.payload.specs.declared.Ratio.{Ratio}
use Rattle.payload.specs.declared.Ratio.TheVariants as ratios
use Rattle.payload.specs.declared.Report.{Report}
use Rattle.payload.specs.declared.Settings.{Settings}

-- a parameter: some number, or none
unfoldable pub given_meant : Given → Option ℕ
given_meant None = none
given_meant (Some n) = some n

unfoldable pub parameters_meant : Settings → meant.Parameters
unfolding given_meant
parameters_meant o = record { p1 = given_meant o.p1; p2 = given_meant o.p2 }

unfoldable pub limits_meant : Limits → drawing.Limits
limits_meant l = record { width = l.width; height = l.height; repeats = l.repeats; pixels = l.pixels }

-- the code's limits of these numbers
abbrev pub limits_coded : drawing.Limits → Limits
limits_coded l = record { width = l.width; height = l.height; repeats = l.repeats; pixels = l.pixels }

-- what a session is opened with, on a canvas of so many bytes
unfoldable pub setting_meant : Limits → ℕ → ℕ → drawing.Setting
unfolding limits_meant
setting_meant l stride size = calls.setting_for (limits_meant l) stride size

-- a feed's answer: counts and a status, or a refusal's number
unfoldable pub answer_meant : Answer → calls.Answer ℕ
answer_meant (Ok (answers.More consumed ink)) = calls.told consumed ink calls.needs_more
answer_meant (Ok (answers.Stopped consumed ink)) = calls.told consumed ink calls.stopped_for_ink
answer_meant (Ok (answers.Ended consumed ink b)) = calls.told consumed ink (calls.ended b)
answer_meant (Err n) = calls.refused (number_of n)

unfoldable pub ratio_meant : Ratio → meant.Ratio
unfolding given_meant
ratio_meant (ratios.Raster n) = meant.by_raster n
ratio_meant (ratios.LeftToP1 p1) = meant.left_to_p1 (given_meant p1)

-- a report, with the palette that is handed back beside it
unfoldable pub report_meant : Report → Palette → meant.Report
unfolding ratio_meant
report_meant r p =
    record {
      size = area_of r.width r.height;
      ratio = ratio_meant r.ratio;
      clear = r.transparent;
      extent = area_of r.right r.bottom;
      defined = r.defined;
      declared = area_of r.declared_width r.declared_height;
      held = r.held;
      palette = p;
    }

-- a finish's answer, with that palette
unfoldable pub finish_meant : Finishing → Palette → meant.Finished
finish_meant (Ok r) p = meant.finished (report_meant r p)
finish_meant (Err n) p = meant.turned_down (number_of n)
