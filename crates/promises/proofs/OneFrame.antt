-- Only one outcome, of every public function of `frame`, `reference`, `fast` and `reading` (One.antt).
use Prim.Native.Nat.{ℕ}
use mathlib.Core.List.{List}
use mathlib.Core.Path.{sym, ap, ap₂, ◌∙◌}
use Rattle.numbers.specs.Step.{finished}
use Rattle.colours.specs.declared.Palette.{Palette}
use Rattle.colours.specs.Palette.{of_table}
use Rattle.frame.specs.declared.commands.Selected.{Selected}
use Rattle.frame.specs.Commands.{Ended, selected_in}
use Rattle.reference.specs.Step.{Reached}
use Rattle.frame.proofs.commands.begin_command.Reads as begin-command
use Rattle.frame.proofs.commands.begin_command.Kinds as begin-command'
use Rattle.frame.proofs.commands.extend_by_digit.Reads as extend-by-digit
use Rattle.frame.proofs.commands.extend_by_digit.Kinds as extend-by-digit'
use Rattle.frame.proofs.commands.extend_by_semicolon.Reads as extend-by-semicolon
use Rattle.frame.proofs.commands.extend_by_semicolon.Kinds as extend-by-semicolon'
use Rattle.frame.proofs.commands.end_command.Reads as end-command
use Rattle.frame.proofs.commands.end_command.Kinds as end-command'
use Rattle.frame.proofs.commands.settled.Reads as settled
use Rattle.frame.proofs.commands.settled.Kinds as settled'
use Rattle.frame.proofs.commands.end_repeat.Reads as end-repeat
use Rattle.frame.proofs.commands.end_repeat.Kinds as end-repeat'
use Rattle.frame.proofs.commands.select.Reads as select
use Rattle.frame.proofs.commands.select.Kinds as select'
use Rattle.frame.proofs.commands.more_held.Reads as more-held
use Rattle.frame.proofs.commands.more_held.Kinds as more-held'
use Rattle.frame.proofs.commands.colored.Reads as colored
use Rattle.frame.proofs.commands.colored.Kinds as colored'
use Rattle.frame.proofs.commands.rastered.Reads as rastered
use Rattle.frame.proofs.commands.rastered.Kinds as rastered'
use Rattle.frame.proofs.rasters.sizeless.Reads as sizeless
use Rattle.frame.proofs.rasters.sizeless.Kinds as sizeless'
use Rattle.frame.proofs.number.Reads as number
use Rattle.frame.proofs.number.Kinds as number'
use Rattle.reading.proofs.process.Reads as process
use Rattle.reading.proofs.process.Kinds as process'
use Rattle.reading.proofs.renew.renewed.Reads as renewed
use Rattle.reading.proofs.renew.renewed.Kinds as renewed'
use Rattle.reading.proofs.renew.renewed_pen.Reads as renewed-pen
use Rattle.reading.proofs.renew.renewed_pen.Kinds as renewed-pen'
use Rattle.frame.proofs.sizes.exceeds.Reads as exceeds
use Rattle.frame.proofs.sizes.exceeds.Kinds as exceeds'
use Rattle.frame.proofs.sizes.reaches.Reads as reaches
use Rattle.frame.proofs.sizes.reaches.Kinds as reaches'
use Rattle.frame.proofs.sizes.raster_area.Reads as raster-area
use Rattle.frame.proofs.sizes.raster_area.Kinds as raster-area'
use Rattle.frame.proofs.sizes.sixel_area.Reads as sixel-area
use Rattle.frame.proofs.sizes.sixel_area.Kinds as sixel-area'
use Rattle.reference.proofs.after_sixel.Reads as after-sixel
use Rattle.reference.proofs.after_sixel.Kinds as after-sixel'
use Rattle.reference.proofs.passed.Reads as passed
use Rattle.reference.proofs.passed.Kinds as passed'
use Rattle.reference.proofs.extent.right_after.Reads as right-after
use Rattle.reference.proofs.extent.right_after.Kinds as right-after'
use Rattle.reference.proofs.extent.bottom_after.Reads as bottom-after
use Rattle.reference.proofs.extent.bottom_after.Kinds as bottom-after'
use Rattle.reference.proofs.step.Reads as step
use Rattle.reference.proofs.step.Kinds as step'
use Rattle.frame.proofs.commands.without_command.Reads as without-command
use Rattle.frame.proofs.commands.without_command.Kinds as without-command'
use Rattle.frame.proofs.commands.register_at.Reads as register-at
use Rattle.frame.proofs.commands.register_at.Kinds as register-at'
use Rattle.reference.proofs.grow.Reads as grow
use Rattle.reference.proofs.grow.Kinds as grow'
use Rattle.fast.proofs.nothing.Reads as nothing
use Rattle.fast.proofs.nothing.Kinds as nothing'
use Rattle.frame.proofs.commands.define.Reads as define
use Rattle.frame.proofs.commands.define.Kinds as define'
use Rattle.reference.proofs.row_below.Reads as row-below
use Rattle.reference.proofs.row_below.Kinds as row-below'
use Rattle.frame.proofs.rasters.raster_after.Reads as raster-after
use Rattle.frame.proofs.rasters.raster_after.Kinds as raster-after'
use Rattle.frame.proofs.rasters.measure.Reads as measure
use Rattle.frame.proofs.rasters.measure.Kinds as measure'
use Rattle.reference.proofs.read.Reads as read
use Rattle.reference.proofs.read.Kinds as read'
use Rattle.reference.proofs.unread.Reads as unread
use Rattle.reference.proofs.unread.Kinds as unread'
use Rattle.reference.proofs.own_effect.Reads as own-effect
use Rattle.reference.proofs.own_effect.Kinds as own-effect'
use Rattle.reference.proofs.parts_values.Reads as parts-values
use Rattle.reference.proofs.parts_values.Kinds as parts-values'
use Rattle.promises.proofs.Meanings.{table-known, told-table-known}
use Rattle.promises.proofs.One.{only, Seen, One, OneLent, OneWith}

pub begin-command-one : One begin-command'.ps begin-command'.r begin-command.Learnt
begin-command-one κs a z z' e e' p q = only p q

pub extend-by-digit-one : One extend-by-digit'.ps extend-by-digit'.r extend-by-digit.Learnt
extend-by-digit-one κs a z z' e e' p q = only p q

pub extend-by-semicolon-one : One extend-by-semicolon'.ps extend-by-semicolon'.r extend-by-semicolon.Learnt
extend-by-semicolon-one κs a z z' e e' p q = only p q

pub end-command-one : Seen end-command'.ps end-command'.r end-command.Learnt (λ κs. Ended)
    (λ κs z e. record { progress = z; palette = of_table e.1.1.0.now })
end-command-one κs a z z' e e' p q = only p q

pub number-one : One number'.ps number'.r number.Learnt
number-one κs a z z' e e' p q = only p q

pub process-one : Seen process'.ps process'.r process.Learnt (λ κs. Reached)
    (λ κs z e. record { progress = z; palette = of_table e.1.1.0.now; canvas = e.1.1.1.0.now })
process-one κs a z z' e e' p q = only p q

pub exceeds-one : One exceeds'.ps exceeds'.r exceeds.Learnt
exceeds-one κs a z z' e e' p q = only p q

pub reaches-one : One reaches'.ps reaches'.r reaches.Learnt
reaches-one κs a z z' e e' p q = only p q

pub raster-area-one : One raster-area'.ps raster-area'.r raster-area.Learnt
raster-area-one κs a z z' e e' p q = only p q

pub sixel-area-one : One sixel-area'.ps sixel-area'.r sixel-area.Learnt
sixel-area-one κs a z z' e e' p q = only p q

pub after-sixel-one : One after-sixel'.ps after-sixel'.r after-sixel.Learnt
after-sixel-one κs a z z' e e' p q = only p q

pub passed-one : One passed'.ps passed'.r passed.Learnt
passed-one κs a z z' e e' p q = only p q

pub right-after-one : One right-after'.ps right-after'.r right-after.Learnt
right-after-one κs a z z' e e' p q = only p q

pub bottom-after-one : One bottom-after'.ps bottom-after'.r bottom-after.Learnt
bottom-after-one κs a z z' e e' p q = only p q

pub step-one : Seen step'.ps step'.r step.Learnt (λ κs. Reached)
    (λ κs z e. record { progress = z; palette = of_table e.1.1.0.now; canvas = e.1.1.1.0.now })
step-one κs a z z' e e' p q = only p q

pub without-command-one : One without-command'.ps without-command'.r without-command.Learnt
without-command-one κs a z z' e e' p q = only p q

pub define-one : OneWith define'.ps define'.r define.Learnt (λ κs e. e.0.now)
define-one κs a z z' e e' p q = told-table-known (only p q)

pub row-below-one : One row-below'.ps row-below'.r row-below.Learnt
row-below-one κs a z z' e e' p q = only p q

pub register-at-one : One register-at'.ps register-at'.r register-at.Learnt
register-at-one κs a z z' e e' p q = only p q

pub grow-one : OneLent grow'.ps grow'.r grow.Learnt (λ κs e. e.1.1.0.now)
grow-one κs a z z' e e' p q = only p q

pub nothing-one : One nothing'.ps nothing'.r nothing.Learnt
nothing-one κs a z z' e e' p q = only p q

pub renewed-one : One renewed'.ps renewed'.r renewed.Learnt
renewed-one κs a z z' e e' p q = only p q

pub renewed-pen-one : One renewed-pen'.ps renewed-pen'.r renewed-pen.Learnt
renewed-pen-one κs a z z' e e' p q = only p q

pub raster-after-one : One raster-after'.ps raster-after'.r raster-after.Learnt
raster-after-one κs a z z' e e' p q = only p q

pub measure-one : One measure'.ps measure'.r measure.Learnt
measure-one κs a z z' e e' p q = only p q

pub read-one : One read'.ps read'.r read.Learnt
read-one κs a z z' e e' p q = only p q

pub unread-one : One unread'.ps unread'.r unread.Learnt
unread-one κs a z z' e e' p q = only p q

pub own-effect-one : One own-effect'.ps own-effect'.r own-effect.Learnt
own-effect-one κs a z z' e e' p q = only p q

pub parts-values-one : One parts-values'.ps parts-values'.r parts-values.Learnt
parts-values-one κs a z z' e e' p q = only p q

pub settled-one : One settled'.ps settled'.r settled.Learnt
settled-one κs a z z' e e' p q = only p q

pub end-repeat-one : One end-repeat'.ps end-repeat'.r end-repeat.Learnt
end-repeat-one κs a z z' e e' p q = only p q

pub more-held-one : One more-held'.ps more-held'.r more-held.Learnt
more-held-one κs a z z' e e' p q = only p q

pub colored-one : One colored'.ps colored'.r colored.Learnt
colored-one κs a z z' e e' p q = only p q

pub rastered-one : One rastered'.ps rastered'.r rastered.Learnt
rastered-one κs a z z' e e' p q = only p q

pub sizeless-one : One sizeless'.ps sizeless'.r sizeless.Learnt
sizeless-one κs a z z' e e' p q = only p q

pub select-one : OneWith select'.ps select'.r select.Learnt (λ κs e. e.1.0.now)
select-one κs a z z' e e' p q =
    let tables = only p.0 q.0 in
    ap₂ (λ (s : Selected) (t : List ℕ). (s, t)) (p.1 ∙ ap (λ (x : Palette). selected_in x (finished a.0)) tables ∙ sym q.1) (table-known tables)
