use mathlib.Core.Path.{◌≡◌, refl, subst, sym, ◌∙◌}
use native.Mathlib.Omega.{arith}
use lib.ListN.{length}
use Rattle.frame.specs.declared.Frame.{Frame}
use Rattle.frame.specs.declared.Kind.TheVariants as kinds
use Rattle.reference.specs.Step.{Fits}
use Rattle.fast.proofs.RunLaws.{nothing-advances}
use Rattle.reading.proofs.LoopLaws.{still-idle, joined-ink, joined_end, joined-advances}
use Rattle.reading.proofs.read_idle.Goals as goal

pub loop-done-init : goal.loop-done-init
loop-done-init c =
    (nothing-advances _ _ _ _ _ _ _ c.requires.0 c.requires.2 c.nothing-done.ensures, refl)

pub overflow_sub-left : goal.overflow_sub-left
overflow_sub-left c = c.loop-done.invariant.0.ink

pub read_ahead-next-requires : goal.read_ahead-next-requires
read_ahead-next-requires c =
    let here = sym c.resume-now.ensures in (
      subst (λ (x : Frame). Fits x c.args.ground (length c.loop-done.canvas)) here c.loop-done.invariant.0.fits,
      subst (λ (x : Frame). x.command.kind ≡ kinds.Data) here (still-idle c.args.frame c.loop-done.done c.requires.1),
      omega (arith, c.loop-done-test.true),
    )

pub joined-done-requires : goal.joined-done-requires
joined-done-requires c =
    omega (arith, joined-ink c.loop-done.invariant.0 c.resume-now.ensures c.read_ahead-next.ensures, c.ranges.left)

pub shape_of-canvas-then-done-here : goal.shape_of-canvas-then-done-here
shape_of-canvas-then-done-here c =
    c.read_ahead-next.auto.canvas ∙ c.loop-done.invariant.1

pub returns-then-done-here : goal.returns-then-done-here
returns-then-done-here c =
    joined-advances c.loop-done.invariant.0 c.resume-now.ensures c.read_ahead-next.ensures c.joined-done.ensures

pub loop-done-smaller : goal.loop-done-smaller
loop-done-smaller c =
    omega (arith, c.read_ahead-next.ensures.onward, c.read_ahead-next.ensures.within, c.if-done-here.false, joined_end _ _ c.joined-done.ensures)

pub loop-done-preserved : goal.loop-done-preserved
loop-done-preserved c = (
  joined-advances c.loop-done.invariant.0 c.resume-now.ensures c.read_ahead-next.ensures c.joined-done.ensures,
  c.read_ahead-next.auto.canvas ∙ c.loop-done.invariant.1,
)

pub shape_of-canvas : goal.shape_of-canvas
shape_of-canvas c = c.loop-done.invariant.1

pub returns : goal.returns
returns c = c.loop-done.invariant.0
