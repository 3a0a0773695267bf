-- `hls::hls_to_rgb` meets its contract: the callees' results, put together. Assumes nothing.
use Rattle.std.proofs.Common.{ap, ◌∙◌, arith, w32, to_z, of_z}
use lib.Ieee.{of_bits}
use mir.ValLaws.{to_z-of_z}
use Rattle.hls.specs.Percent.{held, percent_byte}
use Rattle.hls.specs.Turn.{modulo360}
use Rattle.hls.specs.Hls.{over, channel_byte}
use Rattle.hls.proofs.Whole.{modulo_lt}
use Rattle.hls.proofs.Steps.{grey-is, colour-is}
use Rattle.hls.proofs.Beside.{beside-too}
use Rattle.hls.proofs.hls_to_rgb.Goals as goal

pub returns-then-s-le0 : goal.returns-then-s-le0
returns-then-s-le0 c =
    let both = beside-too c.args.h c.args.l c.args.s
    (grey-is c.args.h c.args.l c.args.s (to_z-of_z w32 c.args.s c.ranges.s) c.if-s-le0.true
    (c.percent_byte-gray.ensures ∙ ap percent_byte (to_z-of_z w32 c.args.l c.ranges.l)))
    in record { value = both.0; all_beside = both.1 }

pub overflow_add-degrees : goal.overflow_add-degrees
overflow_add-degrees c = omega (arith, c.rem_euclid_360.ensures, modulo_lt (to_z w32 (of_z w32 c.args.h)))

pub returns : goal.returns
unfolding of_bits over channel_byte
returns c =
    let both = beside-too c.args.h c.args.l c.args.s
    (colour-is c.args.h c.args.l c.args.s (to_z-of_z w32 c.args.s c.ranges.s) c.if-s-le0.false
    (c.rem_euclid_360.ensures ∙ ap modulo360 (to_z-of_z w32 c.args.h c.ranges.h))
    (c.clamp_percent.ensures ∙ ap held (to_z-of_z w32 c.args.l c.ranges.l))
    (c.clamp_percent-2.ensures ∙ ap held (to_z-of_z w32 c.args.s c.ranges.s))
    c.upper_end-q.ensures
    c.hue_to_rgb-r.ensures c.hue_to_rgb-g.ensures c.hue_to_rgb-b.ensures
    c.floor_to_byte.ensures c.floor_to_byte-2.ensures c.floor_to_byte-3.ensures)
    in record { value = both.0; all_beside = both.1 }
