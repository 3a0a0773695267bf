-- `hls::percent_byte` meets its contract: a clamped percent is at most 100. Assumes nothing.
use Rattle.std.proofs.Common.{◌≡◌, ap, ◌∙◌, arith, w32}
use mir.ValLaws.{to_z-of_z}
use Rattle.hls.specs.Percent.{held}
use Rattle.hls.proofs.Whole.{held-le, percent-is}
use Rattle.hls.proofs.percent_byte.Goals as goal
use Rattle.hls.proofs.percent_byte.Goals.{After-clamp_percent}

-- what the callee gives is the percent held
clamped : (c : After-clamp_percent) → c.clamp_percent.result ≡ held c.args.value
clamped c = c.clamp_percent.ensures ∙ ap held (to_z-of_z w32 c.args.value c.ranges.value)

pub overflow_mul-result : goal.overflow_mul-result
overflow_mul-result c = omega (arith, held-le c.args.value, clamped c)

pub overflow_add-result : goal.overflow_add-result
overflow_add-result c = omega (arith, held-le c.args.value, clamped c)

pub overflow_cast-result : goal.overflow_cast-result
overflow_cast-result c = omega (arith, held-le c.args.value, clamped c)

pub returns : goal.returns
returns c = percent-is c.args.value (clamped c)
