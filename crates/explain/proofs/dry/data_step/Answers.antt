-- `data_step` may draw: a sixel's byte is 63 at least, and has six bits above that.
use mathlib.Core.Path.{sym, ◌∙◌}
use borrow.Author.Rules.{rules}
use Rattle.reference.proofs.StepLaws.{sixel-least, sixel-bits}
use Rattle.explain.proofs.dry.data_step.Goals as goal

pub overflow_sub-byte : goal.overflow_sub-byte
overflow_sub-byte c = search (rules, sixel-least)

pub draw_sixel-requires : goal.draw_sixel-requires
draw_sixel-requires c =
    sixel-bits c.args.byte (sym c.is_sixel.ensures ∙ c.if-is_sixel.true)
