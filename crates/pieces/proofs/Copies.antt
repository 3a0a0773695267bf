-- A finish that reports leaves its picture on the canvas, and a copy of it has the picture's rows.
use Rattle.std.specs.Prelude.{Ok, Err}
use Prim.Native.Nat.{ℕ, ◌≤◌}
use native.Mathlib.Omega.{arith}
use mathlib.Core.Option.{Option, none, some}
use mathlib.Core.List.{List, ◌++◌}
use mathlib.Core.Path.{◌≡◌, refl, ◌∙◌, subst}
use borrow.Author.Tests.{le-leb, lt-ltb}
use lib.ListN.{length, drop}
use Rattle.numbers.proofs.Laws.{cond_yes}
use Rattle.canvas.specs.Copy.{has_picture, packed, size_of, copied}
use Rattle.canvas.specs.Picture.{Area, fits}
use Rattle.canvas.proofs.Covers.{and_both}
use Rattle.canvas.proofs.Pictures.{length-picture}
use Rattle.colours.specs.declared.Palette.{Palette}
use Rattle.frame.specs.declared.Refusal.{Refusal}
use Rattle.frame.specs.Numbers.{number_of}
use Rattle.meaning.specs.Calls as calls
use Rattle.meaning.specs.Drawing.{Setting, Drawing}
use Rattle.meaning.specs.OneShot.{one_shot}
use Rattle.meaning.specs.Payload as meant
use Rattle.meaning.specs.Sizes.{Roomy, Fits, ReportFits}
use Rattle.meaning.proofs.SizeHistories.{one-shot-reported}
use Rattle.payload.specs.declared.Finished.{Finished}
use Rattle.payload.specs.declared.Report.{Report}
use Rattle.payload.specs.History.{Finishes, pictures, declines}
use Rattle.payload.specs.Meant.{report_meant}

-- a finish that is refused with a number leaves the owner's palette and the canvas
pub record Declined (lent : List ℕ) (owner : Palette) (number : ℕ) (y : Finished × List ℕ) : Type 0 where
  pub refusal : Refusal
  pub numbered : number_of refusal ≡ number
  pub answers : y ≡ (record { answer = Err refusal; palette = owner }, lent)

pub declined : {picture lent : List ℕ} {owner : Palette} {y : Finished × List ℕ} {number : ℕ}
    → Finishes picture owner lent y (meant.turned_down number)
    → Declined lent owner number y
declined (declines n) = record { refusal = n; numbered = refl; answers = refl }

-- a finish with the definition's report, its palette committed and its picture on the canvas
pub record Reported (picture : List ℕ) (y : Finished × List ℕ) (z : meant.Finished) : Type 0 where
  pub report : Report
  pub palette : Palette
  pub answers : y ≡ (record { answer = Ok report; palette = palette }, picture)
  pub means : z ≡ meant.finished (report_meant report palette)

-- so is every finish where the definition reports
pub reported : {picture lent : List ℕ} {owner : Palette} {y : Finished × List ℕ} {z : meant.Finished} {r : meant.Report}
    → Finishes picture owner lent y z
    → z ≡ meant.finished r → Reported picture y z
reported (pictures {r} {p}) e = record { report = r; palette = p; answers = refl; means = refl }
reported (declines n) e = absurd (let never : ◌≡◌ {A = ℕ} 0 1 = cc in omega arith)

-- a size that is reported has room
pub report-fits : (s : Setting) (p : Palette) (bs : List ℕ) {r : meant.Report}
    → Roomy s → one_shot s p bs ≡ meant.finished r → Fits s r.size
report-fits s p bs roomy e = (subst (ReportFits s) e (one-shot-reported roomy p bs)).0

-- and so it is copied without gaps, where the other buffer has room
pub copy-rows : (s : Setting) {a : Area} (canvas : List ℕ)
    → Roomy s → Fits s a → s.rows ≡ (calls.setting_for s.limits s.stride (length canvas)).rows
    → (out : List ℕ) → size_of a ≤ length out
    → copied s.stride a canvas out ≡ (0, packed s.stride a.width a.height canvas ++ drop (size_of a) out)
unfolding copied has_picture fits calls.setting_for
copy-rows s {a} canvas roomy room rows out enough =
    cond_yes _ _
    (and_both (lt-ltb 0 s.stride (omega (arith, roomy.stride)))
    (and_both (lt-ltb 0 a.width (omega (arith, room.wide)))
    (and_both (lt-ltb 0 a.height (omega (arith, room.tall)))
    (and_both (le-leb a.width s.stride room.stride) (le-leb a.height _ (omega (arith, room.rows, rows)))))))
    ∙ cond_yes _ _ (le-leb (size_of a) (length out) enough)

-- what is shown has the opening's length
pub length-shown : (stride : ℕ) (d : Option Drawing) (opening : List ℕ) → length (calls.shown stride d opening) ≡ length opening
unfolding calls.shown
length-shown stride none opening = refl
length-shown stride (some d) opening = length-picture stride d.area d.background d.strokes opening
