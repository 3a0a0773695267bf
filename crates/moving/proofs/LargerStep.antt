-- One step on a larger canvas: what it lays on the smaller one it lays on the larger one too, at the same columns and rows, and may go on.
-- Assumes nothing.
use Rattle.std.specs.Prelude.{◌≡◌, ℕ, ◌+◌, ◌-◌, ◌*◌, ◌/◌, ◌%◌, ◌≤◌, max, Bool, true, false, not, ◌&&◌, eqb, ltb, leb, List, [], ◌∷◌}
use mathlib.Core.Path.{refl, ap}
use native.Mathlib.Omega.{arith}
use borrow.Author.Tests.{ltb-false, le-ltb}
use lib.Count.{ones}
use Rattle.numbers.specs.Bytes.{skipped, digit, sixel, ends, semicolon}
use Rattle.numbers.proofs.Laws.{cond_no}
use Rattle.colours.specs.declared.Palette.{Palette}
use Rattle.canvas.specs.Picture.{area_of, grid, visible, in_sixel}
use Rattle.canvas.specs.Paint.{fresh, grown, sixel_painted}
use Rattle.canvas.proofs.Bytes.{painted-none}
use Rattle.canvas.proofs.Covers.{by-test}
use Rattle.frame.specs.declared.Frame.{Frame}
use Rattle.frame.specs.declared.Ground.{Ground}
use Rattle.frame.specs.declared.Kind.{Kind}
use Rattle.frame.specs.declared.Kind.TheVariants as kinds
use Rattle.frame.specs.declared.Outcome.TheVariants as outcomes
use Rattle.frame.specs.declared.Pen.{Pen}
use Rattle.frame.specs.declared.Raster.{Raster}
use Rattle.frame.specs.declared.Refusal.TheVariants as refusals
use Rattle.frame.specs.declared.VisibleArea.{VisibleArea}
use Rattle.frame.specs.declared.Refusal.{Refusal}
use Rattle.std.specs.Prelude.{Result, Ok, Err}
use Rattle.frame.specs.Sizes.{room_for, grown_area, raster_area, sixel_area}
use Rattle.frame.specs.Commands.{with_command, by_digit, by_semicolon, unread_as, refused_as, repeat_ended, raster_by, raster_grown, raster_ended_by, finished_of, Ended, ended_in, ended}
use Rattle.reference.specs.Step.{Reached, read_as, area_grown, canvas_after, painted_on, drawn_in, drawn_by, own_of, data_step, takes_semicolon, settled_step, argument_step, step_in}
use Rattle.moving.proofs.Paints.{Paint, laid}
use Rattle.moving.proofs.Grows.{Grows, reached, grows_same, grows-still, grows-stops, grows-cond}

-- a ground with other sides, and the same limits and background
abbrev pub sided : Ground → ℕ → ℕ → Ground
sided g stride rows = record { limits = g.limits; stride = stride; rows = rows; background = g.background }

-- the paint that gives the background to the new pixels of a larger area
abbrev growth : Frame → Ground → ℕ → ℕ → Paint
growth f g w h = record { cover = fresh (area_of f.area.width f.area.height) (area_of w h); colour = g.background }

-- the paint of the next sixel
abbrev ink : Frame → ℕ → Paint
ink f bits = record { cover = in_sixel f.pen.column f.pen.row f.pen.repeat bits; colour = f.pen.color }

-- what a size needs on two grounds: the same, or the first has no room
data Needs : Result VisibleArea Refusal → Result VisibleArea Refusal → Type 0 where
  same : {x : Result VisibleArea Refusal} → Needs x x
  short : {x : Result VisibleArea Refusal} → Needs (Err refusals.Room) x

-- where ending a command leads on two grounds: to the same, or the first has no room
data Settles (f : Frame) (p : Palette) : Ended → Ended → Type 0 where
  alike : {e : Ended} → Settles f p e e
  roomless : {e : Ended} → Settles f p (record { progress = refused_as f refusals.Room; palette = p }) e

-- the canvas after a command's end, by where it leads
abbrev grown_for : Frame → Ground → Ended → List ℕ → Reached
grown_for f g e l = reached e.progress e.palette (area_grown f g e.progress.frame.area.width e.progress.frame.area.height l)

-- an area that does not grow has no new pixel
ungrown : (f : Frame) (g : Ground) (l : List ℕ) → area_grown f g f.area.width f.area.height l ≡ l
unfolding area_grown grown grid fresh
ungrown f g l =
    painted-none _ g.background l (λ k. none (visible (area_of f.area.width f.area.height) (k % g.stride) (k / g.stride)))
  where
    none : (t : Bool) → (t && not t) ≡ false
    none true = refl
    none false = refl

module _ (g : Ground) (stride' rows' : ℕ) (wider : g.stride ≤ stride') (taller : g.rows ≤ rows') where
  -- ---- sizes

  -- an area of a size
  room-needs : (w h : ℕ) → Needs (room_for g w h) (room_for (sided g stride' rows') w h)
  unfolding room_for
  room-needs w h =
      by-test (ltb g.limits.pixels (w * h)) (λ t. rw t same)
      (λ t. by-test (ltb g.stride w) (λ u. rw (t, u) short)
      (λ u. by-test (ltb g.rows h) (λ v. rw (t, u, v) short)
      (λ v.
      let wide : ltb stride' w ≡ false = le-ltb stride' w (omega (arith, ltb-false g.stride w u)) in
      let high : ltb rows' h ≡ false = le-ltb rows' h (omega (arith, ltb-false g.rows h v)) in
      rw (t, u, v, wide, high) same)))

  -- a raster's size
  raster-needs : (a : VisibleArea) (w h : ℕ) → Needs (raster_area a g w h) (raster_area a (sided g stride' rows') w h)
  unfolding raster_area grown_area
  raster-needs a w h =
      by-test (ltb g.limits.width w) (λ t. rw t same)
      (λ t. by-test (ltb g.limits.height h) (λ u. rw (t, u) same) (λ u. rw (t, u) (room-needs (max a.width w) (max a.height h))))

  -- the next sixel
  sixel-needs : (p : Pen) (a : VisibleArea) → Needs (sixel_area p a g) (sixel_area p a (sided g stride' rows'))
  unfolding sixel_area grown_area
  sixel-needs p a =
      by-test (leb (p.column + p.repeat) a.width && leb (p.row + 6) a.height) (λ t. rw t same)
      (λ t. by-test (leb (p.column + p.repeat) g.limits.width && leb (p.row + 6) g.limits.height)
      (λ u. rw (t, u) (room-needs (max a.width (p.column + p.repeat)) (max a.height (p.row + 6))))
      (λ u. rw (t, u) same))

  -- ---- a byte while no command is pending

  -- a sixel on an area that has room, with one allowance
  painted_same : (f : Frame) (bits left w h : ℕ) (p : Palette)
      → Grows g.stride stride' (painted_on f g bits left w h p) (painted_on f (sided g stride' rows') bits left w h p)
  unfolding painted_on canvas_after sixel_painted area_grown grown laid
  painted_same f bits left w h p =
      grows-cond g.stride stride' (ltb left (ones bits * f.pen.repeat))
      (λ t. grows-still g.stride stride' (unread_as f outcomes.Stopped) p)
      (λ t. grows_same g.stride stride' (growth f g w h ∷ ink f bits ∷ []) (λ l. refl) (λ l. refl))

  -- and with a larger one
  painted-grows : (f : Frame) (bits left left' w h : ℕ) (p : Palette) → left ≤ left'
      → Grows g.stride stride' (painted_on f g bits left w h p) (painted_on f (sided g stride' rows') bits left' w h p)
  unfolding painted_on unread_as canvas_after sixel_painted area_grown grown laid
  painted-grows f bits left left' w h p more =
      by-test (ltb left (ones bits * f.pen.repeat))
      (λ t.
      grows-stops g.stride stride'
      (record { progress = unread_as f outcomes.Stopped; palette = p; unread = λ e. let z : ◌≡◌ {A = ℕ} 0 1 = cc in omega arith; same = λ l. rw t })
      (painted_same f bits left' w h p))
      (λ t.
      let t' : ltb left' (ones bits * f.pen.repeat) ≡ false =
      le-ltb left' (ones bits * f.pen.repeat) (omega (arith, ltb-false left (ones bits * f.pen.repeat) t)) in
      grows_same g.stride stride' (growth f g w h ∷ ink f bits ∷ []) (λ l. cond_no _ _ t) (λ l. cond_no _ _ t'))

  -- a sixel, by the area that it needs
  drawn-alike : (x : Result VisibleArea Refusal) (f : Frame) (bits left left' : ℕ) (p : Palette) → left ≤ left'
      → Grows g.stride stride' (drawn_in x f g bits left p) (drawn_in x f (sided g stride' rows') bits left' p)
  unfolding drawn_in
  drawn-alike (Ok a) f bits left left' p more = painted-grows f bits left left' a.width a.height p more
  drawn-alike (Err r) f bits left left' p more = grows-still g.stride stride' (refused_as f r) p

  -- and where the first ground may have no room for it
  drawn-grows : {x x' : Result VisibleArea Refusal} (f : Frame) (bits left left' : ℕ) (p : Palette) → left ≤ left' → Needs x x'
      → Grows g.stride stride' (drawn_in x f g bits left p) (drawn_in x' f (sided g stride' rows') bits left' p)
  unfolding drawn_in refused_as unread_as
  drawn-grows {x} f bits left left' p more same = drawn-alike x f bits left left' p more
  drawn-grows {x' = x'} f bits left left' p more short =
      grows-stops g.stride stride'
      (record {
        progress = refused_as f refusals.Room;
        palette = p;
        unread = λ e. let z : ◌≡◌ {A = ℕ} 0 1 = cc in omega arith;
        same = λ l. refl;
      })
      (drawn-alike x' f bits left left' p more)

  -- any byte while no command is pending
  pub data-grows : (f : Frame) (b left left' : ℕ) (p : Palette) → left ≤ left'
      → Grows g.stride stride' (data_step f g b left p) (data_step f (sided g stride' rows') b left' p)
  unfolding data_step drawn_by
  data-grows f b left left' p more =
      grows-cond g.stride stride' (sixel b)
      (λ t. drawn-grows f (b - 63) left left' p more (sixel-needs f.pen f.area))
      (λ t.
      grows-cond g.stride stride' (ends b)
      (λ u. grows-still g.stride stride' (unread_as f (outcomes.Ended b)) p)
      (λ u. grows-still g.stride stride' (read_as (own_of f b) 0) p))

  -- ---- a byte while a command is pending

  -- a raster's end, by the area that it needs on each
  raster-settles : {x x' : Result VisibleArea Refusal} (f : Frame) (p : Palette) (r : Raster) → Needs x x'
      → Settles f p (record { progress = raster_grown f r x; palette = p }) (record { progress = raster_grown f r x'; palette = p })
  unfolding raster_grown
  raster-settles f p r same = alike
  raster-settles f p r short = roomless

  -- the end of whichever command is pending
  ended-settles : (k : Kind) (f : Frame) (p : Palette) → Settles f p (ended_in k f g p) (ended_in k f (sided g stride' rows') p)
  unfolding ended_in repeat_ended raster_ended_by
  ended-settles kinds.Data f p = alike
  ended-settles kinds.Repeat f p = alike
  ended-settles kinds.Color f p = alike
  ended-settles kinds.Raster f p =
      let r : Raster = raster_by f.raster (finished_of f) in
      by-test (eqb r.width 0 && eqb r.height 0) (λ t. rw t alike)
      (λ t. rw t (raster-settles f p r (raster-needs f.area (max 1 r.width) (max 1 r.height))))

  -- the area grows to the same size on both
  alike-grows : (f : Frame) (e : Ended) → Grows g.stride stride' (grown_for f g e) (grown_for f (sided g stride' rows') e)
  unfolding area_grown grown laid
  alike-grows f e =
      grows_same g.stride stride' (growth f g e.progress.frame.area.width e.progress.frame.area.height ∷ []) (λ l. refl) (λ l. refl)

  -- and where the first ground may have no room for it
  settled-grows : {e e' : Ended} (f : Frame) (p : Palette) → Settles f p e e'
      → Grows g.stride stride' (grown_for f g e) (grown_for f (sided g stride' rows') e')
  unfolding refused_as unread_as
  settled-grows {e} f p alike = alike-grows f e
  settled-grows {e' = e'} f p roomless =
      grows-stops g.stride stride'
      (record {
        progress = refused_as f refusals.Room;
        palette = p;
        unread = λ e. let z : ◌≡◌ {A = ℕ} 0 1 = cc in omega arith;
        same = λ l. ap (reached (refused_as f refusals.Room) p) (ungrown f g l);
      })
      (alike-grows f e')

  -- any byte while a command is pending
  argument-grows : (f : Frame) (b : ℕ) (p : Palette)
      → Grows g.stride stride' (argument_step f g b p) (argument_step f (sided g stride' rows') b p)
  unfolding argument_step settled_step ended
  argument-grows f b p =
      grows-cond g.stride stride' (digit b)
      (λ t. grows-still g.stride stride' (read_as (with_command f (by_digit f.command b)) 0) p)
      (λ t.
      grows-cond g.stride stride' (skipped b)
      (λ u. grows-still g.stride stride' (read_as f 0) p)
      (λ u.
      grows-cond g.stride stride' (eqb b semicolon && takes_semicolon f.command.kind)
      (λ v. grows-still g.stride stride' (read_as (with_command f (by_semicolon f.command)) 0) p)
      (λ v. settled-grows f p (ended-settles f.command.kind f p))))

  -- any byte, by what is pending
  pub step-grows : (k : Kind) (f : Frame) (b left left' : ℕ) (p : Palette) → left ≤ left'
      → Grows g.stride stride' (step_in k f g b left p) (step_in k f (sided g stride' rows') b left' p)
  unfolding step_in
  step-grows kinds.Data f b left left' p more = data-grows f b left left' p more
  step-grows kinds.Repeat f b left left' p more = argument-grows f b p
  step-grows kinds.Color f b left left' p more = argument-grows f b p
  step-grows kinds.Raster f b left left' p more = argument-grows f b p
