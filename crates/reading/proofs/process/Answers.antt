use native.Mathlib.Nat.{lt_of_lt_of_le}
use native.Mathlib.Omega.{arith}
use borrow.Enum.Refused.{opened}
use borrow.Author.Rules.{rules}
use lib.ListN.{length}
use Rattle.colours.specs.Palette.{of_table}
use Rattle.reference.specs.Feed.{feed_from}
use Rattle.reference.proofs.FeedLaws.{going_done, step-ink, step-within, step_less, step-stops, going_on_lem, looping, left_over}
use Rattle.reading.proofs.LoopLaws.{AtByte, at_byte, at_pending, going-advanced, fits-anew, read-anew}
use Rattle.reading.proofs.process.Goals as goal
use Rattle.reading.proofs.process.Goals.{After-read_byte-read, in-Data+else-consumed-bytes, in_default}

-- at the byte that goes to the reference machine
reached-byte : (c : After-read_byte-read)
    → AtByte c.args.ground c.args.allowance c.args.bytes.now
    (feed_from c.args.ground c.args.allowance c.args.bytes.now 0 0 c.renewed-now.result
    (of_table c.args.colors.now)
    c.args.canvas.now)
    (length c.args.canvas.now)
    (left_over c.args.bytes.now c.loop-consumed.consumed c.loop-consumed.now)
    (of_table c.match-now.colors)
    c.match-now.canvas
    c.match-now.now
    c.match-now.consumed
    c.match-now.ink
reached-byte c =
    elim c.match-now.branch [
      | in-Data+else-consumed-bytes w ↦
          rw (w.colors-is, w.canvas-is, w.now-is, w.consumed-is, w.ink-is)
          (at_byte c.loop-consumed.invariant w.read_idle-fast.ensures w.resume-now.ensures w.read_idle-fast.auto.canvas
          (omega (arith, w.read_idle-fast.ensures.within, w.if-consumed-bytes.false)))
      | in_default w ↦
          rw (w.colors-is, w.canvas-is, w.now-is, w.consumed-is, w.ink-is)
          (at_pending c.loop-consumed.invariant c.loop-consumed-test.true)
    ]

pub loop-consumed-init : goal.loop-consumed-init
loop-consumed-init c = search (rules, looping, fits-anew)

pub returns-then-consumed-bytes : goal.returns-then-consumed-bytes
returns-then-consumed-bytes c =
    let i = c.loop-consumed.invariant in
    let done = going_done (going-advanced i c.read_idle-fast.ensures c.resume-now.ensures c.read_idle-fast.auto.canvas) (omega (arith, c.if-consumed-bytes.true)) c.reached.ensures in
    search (rules, read-anew, done, c.renewed-now.ensures)

pub overflow_add-consumed : goal.overflow_add-consumed
overflow_add-consumed c =
    let b = reached-byte (goal.at.overflow_add-consumed c).After-read_byte-read in
    omega (arith, step-within b.going c.read_byte-read.ensures b.more)

pub overflow_add-ink-in-Read : goal.overflow_add-ink-in-Read
overflow_add-ink-in-Read c =
    let b = reached-byte (goal.at.overflow_add-ink-in-Read c).After-read_byte-read in
    omega (arith, step-ink b.going c.read_byte-read.ensures, c.ranges.allowance)

pub loop-consumed-smaller : goal.loop-consumed-smaller
loop-consumed-smaller c =
    let b = reached-byte (goal.at.loop-consumed-smaller c).After-read_byte-read in
    lt_of_lt_of_le (step_less b.going c.read_byte-read.ensures b.more c.in-Read.is) b.left

pub loop-consumed-preserved : goal.loop-consumed-preserved
loop-consumed-preserved c =
    let b = reached-byte (goal.at.loop-consumed-preserved c).After-read_byte-read in
    going_on_lem b.going c.read_byte-read.ensures b.more c.read_byte-read.auto.canvas c.in-Read.is

pub returns-in_default-outcome : goal.returns-in_default-outcome
returns-in_default-outcome c =
    let b = reached-byte (goal.at.returns-in_default-outcome c).After-read_byte-read in
    let stops = step-stops b.going c.read_byte-read.ensures b.more (opened c.in_default-outcome.in_default-outcome-own.keys2) c.reached-in_default-outcome.ensures in
    search (rules, read-anew, stops, c.renewed-now.ensures)

pub returns : goal.returns
returns c = search (rules, looping, read-anew)
