use borrow.Author.Rules.{rules}
use Rattle.std.specs.Prelude.{◌≡◌, ℕ, ◌≤◌, length}
use native.Mathlib.Omega.{arith}
use mir.Syntax.{w64}
use mir.Val.{Fits}
use Rattle.payload.specs.Results.{Fed, Opened}
use Rattle.payload.specs.declared.Session.{Session}
use Rattle.colours.specs.Palette.{of_table}
use Rattle.payload.specs.Core.{over, opened_over, fed_over}
use Rattle.oneshot.proofs.FeedLaws.{answered, Piece, piece-end}
use Rattle.oneshot.proofs.ReadLaws.{opens-owned, Turn, stop-in, read-in, part-read, part-ended, part-refused, part-passes, parts-read}
use Rattle.oneshot.proofs.read_in_pieces.Goals as goal
use Rattle.oneshot.proofs.read_in_pieces.Goals.{After-frame-in-loop-consumed-1, After-piece_end-end}

-- the piece that a turn feeds
piece_of : (c : After-piece_end-end)
    → Piece c.loop-consumed.at c.piece_end-end.result (length c.args.part.now)
piece_of c = piece-end c.args.chunk c.loop-consumed.invariant.within c.piece_end-end.ensures

-- a turn of the loop, once its piece is fed
module _ (c : After-frame-in-loop-consumed-1) where
  -- what was opened, what the turn began with and what its feed came to, as sessions
  abbrev whole : Opened
  whole = opened_over c.open-opened.result (of_table c.begin.new.colors)

  abbrev held : Session
  held = over c.open-opened.result.setup c.loop-consumed.life c.loop-consumed.frame (of_table c.loop-consumed.colors)

  abbrev after : Fed
  after = fed_over c.open-opened.result.setup c.feed_anew-fed.result c.feed_anew-fed.new.colors

  turn : Turn c.args.limits c.args.stride c.args.settings (of_table c.args.colors.now)
      c.args.canvas.now c.args.part.now c.args.allowance
      whole c.open-opened.new.canvas
      held c.loop-consumed.canvas c.loop-consumed.at after c.feed_anew-fed.new.canvas
  turn =
      record {
        opens = c.requires.canvas_value;
        opened = opens-owned _ _ _ _ _ c.begin.ensures c.open-opened.ensures;
        enough = c.requires.width_bound;
        midway = c.loop-consumed.invariant;
        chunk = c.args.chunk;
        end = c.piece_end-end.result;
        ends = c.piece_end-end.ensures;
        fed = c.feed_anew-fed.ensures;
      }

  -- the canvas is as long as at the opening
  kept : length c.feed_anew-fed.new.canvas ≡ length c.args.canvas.now
  kept = search (rules, c.canvas-in-loop-consumed-1.given, c.loop-consumed.invariant.kept, c.canvas-1.given)

  -- no place in the part is above what a `usize` holds
  place-fits : {n : ℕ} → n ≤ length c.args.part.now → Fits w64 n
  place-fits h = omega (arith, h)

pub open-opened-requires : goal.open-opened-requires
open-opened-requires c = search (rules, parts-read)

pub loop-consumed-init : goal.loop-consumed-init
loop-consumed-init c = search (rules, parts-read)

pub piece_end-end-requires : goal.piece_end-end-requires
piece_end-end-requires c = search (rules, parts-read)

pub slice_bounds-bytes-count : goal.slice_bounds-bytes-count
slice_bounds-bytes-count c = (piece_of c).from

pub slice_bounds-bytes-start : goal.slice_bounds-bytes-start
slice_bounds-bytes-start c = search (rules, (piece_of c).from)

pub slice_bounds-bytes-end : goal.slice_bounds-bytes-end
slice_bounds-bytes-end c = search (rules, (piece_of c).to)

pub feed_anew-fed-requires : goal.feed_anew-fed-requires
feed_anew-fed-requires c =
    let opened = opens-owned _ _ _ _ _ c.begin.ensures c.open-opened.ensures in
    part-passes _ _ _ _ _ c.requires.canvas_value opened c.requires.width_bound c.loop-consumed.invariant

-- a stop

pub enum_known-answer : goal.enum_known-answer
enum_known-answer c = search (rules, parts-read)

pub overflow_add-at : goal.overflow_add-at
overflow_add-at c =
    let k = rw c.in-Ok-Stopped.is at c.in-Ok-Stopped.field-0-is in
    place-fits (goal.at.overflow_add-at c).After-frame-in-loop-consumed-1 (stop-in (turn (goal.at.overflow_add-at c).After-frame-in-loop-consumed-1) (answered c.in-Ok-Stopped.is k))

pub loop-consumed-smaller-in-Ok-Stopped : goal.loop-consumed-smaller-in-Ok-Stopped
loop-consumed-smaller-in-Ok-Stopped c =
    let k = rw c.in-Ok-Stopped.is at c.in-Ok-Stopped.field-0-is in
    search (rules, parts-read, answered c.in-Ok-Stopped.is k, turn (goal.at.loop-consumed-smaller-in-Ok-Stopped c).After-frame-in-loop-consumed-1)

pub loop-consumed-preserved-in-Ok-Stopped : goal.loop-consumed-preserved-in-Ok-Stopped
loop-consumed-preserved-in-Ok-Stopped c =
    let k = rw c.in-Ok-Stopped.is at c.in-Ok-Stopped.field-0-is in
    search (rules, parts-read, answered c.in-Ok-Stopped.is k, turn (goal.at.loop-consumed-preserved-in-Ok-Stopped c).After-frame-in-loop-consumed-1)

-- a piece that was all read

pub overflow_add-at-in-Ok-More : goal.overflow_add-at-in-Ok-More
overflow_add-at-in-Ok-More c =
    let k = rw c.in-Ok-More.is at c.in-Ok-More.field-0-is in
    place-fits (goal.at.overflow_add-at-in-Ok-More c).After-frame-in-loop-consumed-1 (read-in (turn (goal.at.overflow_add-at-in-Ok-More c).After-frame-in-loop-consumed-1) (answered c.in-Ok-More.is k))

pub finish_for-requires : goal.finish_for-requires
finish_for-requires c = search (rules, parts-read)

pub shape_of-canvas-then-at-part : goal.shape_of-canvas-then-at-part
shape_of-canvas-then-at-part c =
    search (rules, kept (goal.at.shape_of-canvas-then-at-part c).After-frame-in-loop-consumed-1, c.canvas-then-at-part-1.given)

pub returns-then-at-part : goal.returns-then-at-part
returns-then-at-part c =
    let k = rw c.in-Ok-More.is at c.in-Ok-More.field-0-is in
    part-read (turn (goal.at.returns-then-at-part c).After-frame-in-loop-consumed-1) (answered c.in-Ok-More.is k) c.if-at-part.true c.finish_for.ensures

pub loop-consumed-smaller : goal.loop-consumed-smaller
loop-consumed-smaller c =
    let k = rw c.in-Ok-More.is at c.in-Ok-More.field-0-is in
    search (rules, parts-read, answered c.in-Ok-More.is k, turn (goal.at.loop-consumed-smaller c).After-frame-in-loop-consumed-1)

pub loop-consumed-preserved : goal.loop-consumed-preserved
loop-consumed-preserved c =
    let k = rw c.in-Ok-More.is at c.in-Ok-More.field-0-is in
    search (rules, parts-read, answered c.in-Ok-More.is k, turn (goal.at.loop-consumed-preserved c).After-frame-in-loop-consumed-1)

-- an end

pub finish_for-requires-in-Ok-Ended : goal.finish_for-requires-in-Ok-Ended
finish_for-requires-in-Ok-Ended c = search (rules, parts-read)

pub shape_of-canvas-in-Ok-Ended : goal.shape_of-canvas-in-Ok-Ended
shape_of-canvas-in-Ok-Ended c = search (rules, parts-read)

pub returns-in-Ok-Ended : goal.returns-in-Ok-Ended
returns-in-Ok-Ended c =
    let k = rw c.in-Ok-Ended.is at c.in-Ok-Ended.field-0-is in
    part-ended (turn (goal.at.returns-in-Ok-Ended c).After-frame-in-loop-consumed-1) (answered c.in-Ok-Ended.is k) c.finish_for-in-Ok-Ended.ensures

-- a refusal

pub shape_of-canvas-in-Err : goal.shape_of-canvas-in-Err
shape_of-canvas-in-Err c = search (rules, parts-read)

pub returns-in-Err : goal.returns-in-Err
returns-in-Err c =
    part-refused (turn (goal.at.returns-in-Err c).After-frame-in-loop-consumed-1) c.in-Err.is
