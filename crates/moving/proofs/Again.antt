-- A feed that was refused by 7 may be presented again on a larger canvas, with the picture carried over as the refused feed left it: what that had
-- painted is painted again, and the outcome is that of a move before the refused feed.
-- Assumes nothing.
use Rattle.std.specs.Prelude.{◌≡◌, ℕ, ◌+◌, ◌*◌, ◌/◌, ◌%◌, ◌<◌, ◌≤◌, Bool, true, false, cond, eqb, ltb, leb, List, [], ◌++◌, length, get_or, Ok, Err}
use mathlib.Core.Bool.{true≢false}
use mathlib.Core.Path.{refl, sym, ap, ◌∙◌}
use native.Mathlib.Nat.{zero-add}
use native.Mathlib.Omega.{arith}
use borrow.Author.Tests.{eqb-true, leb-true, ltb-false, le-ltb, le-leb, eq-eqb, not-false}
use lib.Arith.{digits_div, digits_mod}
use Rattle.canvas.specs.Picture.{Area, area_of, grid, visible, rows_of}
use Rattle.canvas.proofs.Bytes.{length-replaced, get_or-replaced}
use Rattle.canvas.proofs.Covers.{and_left, and_right, by-test}
use Rattle.canvas.proofs.Growth.{visible-column, visible-row, rectangle-room}
use Rattle.frame.specs.declared.Refusal.TheVariants as refusals
use Rattle.reference.specs.Step.{Reached}
use Rattle.reference.specs.Feed.{feed_from}
use Rattle.payload.specs.declared.Answer.TheVariants as answers
use Rattle.payload.specs.Results.{Fed, Verdict}
use Rattle.payload.specs.declared.Life.{Life}
use Rattle.payload.specs.declared.Life.TheVariants as lives
use Rattle.payload.specs.declared.Session.{Session}
use Rattle.payload.specs.Refusals.{is_failed, fitting, misfitting, feed_judged}
use Rattle.payload.specs.Session.{answered_by, fed_live, fed_in, fed_as, fed_by}
use Rattle.moving.specs.Carry.{pixel_byte, carried}
use Rattle.moving.specs.Session.{moved_to}
use Rattle.moving.proofs.Paints.{Paint, Paints, laid, touched, untouched-before, laid-untouched, laid-alike}
use Rattle.moving.proofs.LargerGround.{feed-grows, feed-paints}

-- where the session's feed leads to on a canvas
abbrev fed_on : Session → List ℕ → ℕ → List ℕ → Reached
fed_on s bs a = feed_from s.ground a bs 0 0 s.frame s.palette

-- two canvases which a feed of these bytes with this allowance makes one: they differ only in pixels that it paints
pub record FedAlike (s : Session) (bs : List ℕ) (a : ℕ) (l l' : List ℕ) : Type 0 where
  pub plan : List Paint
  pub paints : Paints s.ground.stride plan (feed_from s.ground a bs 0 0 s.frame s.palette)
  pub long : length l' ≡ length l
  pub agree : (k : ℕ) → k < length l → grid s.ground.stride (touched plan) (k / 4) ≡ false → get_or l' k 0 ≡ get_or l k 0

-- a canvas is like itself
pub alike_self : (s : Session) (bs : List ℕ) (a : ℕ) (l : List ℕ) → FedAlike s bs a l l
alike_self s bs a l =
    let e = feed-paints s.ground a bs 0 0 s.frame s.palette in
    record { plan = e.0; paints = e.1; long = refl; agree = λ k h free. refl }

-- the feed leads to one canvas from both, and to one answer
alike-reached : {s : Session} {bs : List ℕ} {a : ℕ} {l l' : List ℕ} → FedAlike s bs a l l' → fed_on s bs a l' ≡ fed_on s bs a l
alike-reached {s} {bs} {a} {l} {l'} e =
    e.paints l'
    ∙ ap (λ (m : List ℕ). record { progress = (fed_on s bs a []).progress; palette = (fed_on s bs a []).palette; canvas = m })
    (laid-alike s.ground.stride e.plan l l' e.long e.agree)
    ∙ sym (e.paints l)

-- ---- what a feed that passes reads

-- by the verdict, a feed of a live session reads
fed-live : (s : Session) (l bs : List ℕ) (a : ℕ) → feed_judged s (length l) a ≡ Ok tt → s.life ≡ lives.Live → fed_by s l bs a ≡ fed_live s l bs a
unfolding fed_by fed_as fed_in
fed-live s l bs a fine live = ap (λ (v : Verdict). fed_as v s l bs a) fine ∙ ap (λ (k : Life). fed_in k s l bs a) live

-- a feed makes one outcome of them, where it passes and reads
pub alike-fed : {s : Session} {bs : List ℕ} {a : ℕ} {l l' : List ℕ} → FedAlike s bs a l l' → feed_judged s (length l) a ≡ Ok tt
    → s.life ≡ lives.Live → fed_by s l' bs a ≡ fed_by s l bs a
unfolding fed_live
alike-fed {s} {bs} {a} {l} {l'} e fine live =
    fed-live s l' bs a (ap (λ (n : ℕ). feed_judged s n a) e.long ∙ fine) live
    ∙ ap (λ (r : Reached). (answered_by s r.progress r.palette, r.canvas)) (alike-reached e)
    ∙ sym (fed-live s l bs a fine live)

-- ---- a feed that is refused by 7 has passed, and reads

-- the verdict, by its three tests
abbrev judged : Bool → Bool → Bool → Verdict
judged failed misfits few =
    cond failed (Err refusals.Failed)
    (cond misfits (Err refusals.Canvas) (cond few (Err refusals.Allowance) (Ok tt)))

-- it is never 7
judged-other : (t u v : Bool) → judged t u v ≡ Err refusals.Room → ⊥
judged-other true u v e = let z : ◌≡◌ {A = ℕ} 0 1 = cc in omega arith
judged-other false true v e = let z : ◌≡◌ {A = ℕ} 0 1 = cc in omega arith
judged-other false false true e = let z : ◌≡◌ {A = ℕ} 0 1 = cc in omega arith
judged-other false false false e = let z : ◌≡◌ {A = ℕ} 0 1 = cc in omega arith

-- where it is fine each test fails
judged-fine : (t u v : Bool) → judged t u v ≡ Ok tt → (t ≡ false) × (u ≡ false) × (v ≡ false)
judged-fine true u v e = absurd (let z : ◌≡◌ {A = ℕ} 0 1 = cc in omega arith)
judged-fine false true v e = absurd (let z : ◌≡◌ {A = ℕ} 0 1 = cc in omega arith)
judged-fine false false true e = absurd (let z : ◌≡◌ {A = ℕ} 0 1 = cc in omega arith)
judged-fine false false false e = (refl, refl, refl)

-- a refusal that is not the verdict's comes from reading
verdict-fine : (v : Verdict) (s : Session) (l bs : List ℕ) (a : ℕ) → (v ≡ Err refusals.Room → ⊥)
    → (fed_as v s l bs a).0.answer ≡ Err refusals.Room → v ≡ Ok tt
unfolding fed_as
verdict-fine (Ok tt) s l bs a other e = refl
verdict-fine (Err n) s l bs a other e = absurd (other cc)

-- and an ended session does not read
life-live : (k : Life) (s : Session) (l bs : List ℕ) (a : ℕ) → (fed_in k s l bs a).0.answer ≡ Err refusals.Room → is_failed k ≡ false
    → k ≡ lives.Live
unfolding fed_in is_failed
life-live lives.Live s l bs a e f = refl
life-live (lives.Ended b) s l bs a e f = absurd (let z : ◌≡◌ {A = ℕ} 0 1 = cc in omega arith)
life-live lives.Failed s l bs a e f = absurd (true≢false f)

-- what a feed that passes has found
pub record Passed (s : Session) (n a : ℕ) : Type 0 where
  pub fine : feed_judged s n a ≡ Ok tt
  pub live : s.life ≡ lives.Live
  pub rows : s.ground.rows ≡ rows_of n s.ground.stride
  pub width : s.frame.area.width ≤ s.ground.stride
  pub height : s.frame.area.height ≤ s.ground.rows
  pub enough : 6 * s.ground.limits.width ≤ a

-- refused by 7, it had passed
pub room-passed : (s : Session) (l bs : List ℕ) (a : ℕ) → (fed_by s l bs a).0.answer ≡ Err refusals.Room → Passed s (length l) a
unfolding fed_by fed_as feed_judged misfitting fitting
room-passed s l bs a e =
    let few : Bool = ltb a (6 * s.ground.limits.width) in
    let other : feed_judged s (length l) a ≡ Err refusals.Room → ⊥ = judged-other (is_failed s.life) (misfitting s (length l)) few in
    let fine : feed_judged s (length l) a ≡ (Ok tt) = verdict-fine (feed_judged s (length l) a) s l bs a other e in
    let tests = judged-fine (is_failed s.life) (misfitting s (length l)) few fine in
    let fits : fitting s (length l) ≡ true = not-false (fitting s (length l)) tests.1 in
    let two = and_right (eqb (length l) s.length) _ fits in
    let three = and_right (eqb s.ground.rows (rows_of (length l) s.ground.stride)) _ two in
    record {
      fine = fine;
      live = life-live s.life s l bs a (ap (λ (v : Verdict). (fed_as v s l bs a).0.answer) (sym fine) ∙ e) tests.0;
      rows = eqb-true _ _ (and_left _ _ two);
      width = leb-true _ _ (and_left _ _ three);
      height = leb-true _ _ (and_right (leb s.frame.area.width s.ground.stride) _ three);
      enough = ltb-false _ _ tests.2;
    }

-- the moved session's feed passes on the other canvas, with at least the allowance
pub moved_passes : {s : Session} {n a : ℕ} (a' stride' n' : ℕ) → Passed s n a → a ≤ a' → s.ground.stride ≤ stride'
    → s.ground.rows ≤ rows_of n' stride' → feed_judged (moved_to s stride' n') n' a' ≡ Ok tt
unfolding feed_judged misfitting fitting is_failed moved_to
moved_passes {s} a' stride' n' passed more wider taller =
    let long : eqb n' n' ≡ true = eq-eqb n' n' refl in
    let rows : eqb (rows_of n' stride') (rows_of n' stride') ≡ true = eq-eqb (rows_of n' stride') (rows_of n' stride') refl in
    let width : leb s.frame.area.width stride' ≡ true = le-leb s.frame.area.width stride' (omega arith) in
    let height : leb s.frame.area.height (rows_of n' stride') ≡ true = le-leb s.frame.area.height (rows_of n' stride') (omega arith) in
    let few : ltb a' (6 * s.ground.limits.width) ≡ false = le-ltb a' (6 * s.ground.limits.width) (omega arith) in
    rw (passed.live, long, rows, width, height, few)

-- ---- carrying

-- the carried canvas is as long as the other
length-carried : (stride stride' : ℕ) (area : Area) (canvas other : List ℕ) → length (carried stride stride' area canvas other) ≡ length other
unfolding carried
length-carried stride stride' area canvas other = length-replaced 0 _ other

-- a byte of the carried canvas: in the area it is that of the same column and row, elsewhere the other canvas's
carried-byte : (stride stride' : ℕ) (area : Area) (canvas other : List ℕ) (k : ℕ) → k < length other
    → get_or (carried stride stride' area canvas other) k 0
    ≡ cond (grid stride' (visible area) (k / 4)) (grid stride' (pixel_byte stride canvas k) (k / 4)) (get_or other k 0)
unfolding carried
carried-byte stride stride' area canvas other k h =
    get_or-replaced 0 _ other k h
    ∙ ap (λ (n : ℕ). cond (grid stride' (visible area) (n / 4)) (grid stride' (pixel_byte stride canvas n) (n / 4)) (get_or other k 0)) (zero-add k)

-- a pixel of the canvas that no paint touches
pixel-kept : (stride : ℕ) (plan : List Paint) (l : List ℕ) (k x y : ℕ) → x < stride → 4 * (y * stride + stride) ≤ length l → touched plan x y ≡ false
    → pixel_byte stride (laid stride plan l) k x y ≡ pixel_byte stride l k x y
unfolding pixel_byte grid
pixel-kept stride plan l k x y below room free =
    let at : (4 * (y * stride + x) + k % 4) / 4 ≡ y * stride + x = omega arith in
    let column : (y * stride + x) % stride ≡ x = digits_mod y below in
    let row : (y * stride + x) / stride ≡ y = digits_div y below in
    laid-untouched stride plan l (4 * (y * stride + x) + k % 4) (omega arith) (rw (at, column, row) free)

module _ (stride stride' : ℕ) (area : Area) (plan more : List Paint) (l other : List ℕ) (columns : area.width ≤ stride)
    (rows : area.height ≤ rows_of (length l) stride) where
  -- a canvas and the one that paints make of it, carried over, agree where neither these nor later ones touch
  carried-agree : (k : ℕ) → k < length other → grid stride' (touched (plan ++ more)) (k / 4) ≡ false
      → get_or (carried stride stride' area (laid stride plan l) other) k 0 ≡ get_or (carried stride stride' area l other) k 0
  unfolding grid
  carried-agree k h free =
      let x : ℕ = k / 4 % stride' in
      let y : ℕ = k / 4 / stride' in
      carried-byte stride stride' area (laid stride plan l) other k h
      ∙ by-test
      {P = cond (visible area x y) (pixel_byte stride (laid stride plan l) k x y) (get_or other k 0)
      ≡ cond (visible area x y) (pixel_byte stride l k x y) (get_or other k 0)}
      (visible area x y)
      (λ t.
      let left : x < area.width = visible-column area x y t in
      let above : y < area.height = visible-row area x y t in
      rw t
      (pixel-kept stride plan l k x y (omega arith) (rectangle-room (length l) stride stride area.height y (omega arith) rows above)
      (untouched-before plan more x y free)))
      (λ t. rw t)
      ∙ sym (carried-byte stride stride' area l other k h)

-- refused by 7: on a canvas with at least the sides, and with at least the allowance, the carried pictures are alike again
pub alike_moved : {s : Session} {bs : List ℕ} {a a' : ℕ} {l l' : List ℕ} → FedAlike s bs a l l'
    → (fed_by s l bs a).0.answer ≡ Err refusals.Room
    → a ≤ a' → (stride' : ℕ) (other : List ℕ) → s.ground.stride ≤ stride' → s.ground.rows ≤ rows_of (length other) stride'
    → FedAlike (moved_to s stride' (length other)) bs a'
    (carried s.ground.stride stride' (area_of s.frame.area.width s.frame.area.height) l other)
    (carried s.ground.stride stride' (area_of s.frame.area.width s.frame.area.height) (fed_by s l' bs a).1 other)
unfolding moved_to fed_live
alike_moved {s} {bs} {a} {a'} {l} {l'} alike refused more stride' other wider taller =
    let passed : Passed s (length l) a = room-passed s l bs a refused in
    let stride : ℕ = s.ground.stride in
    let area : Area = area_of s.frame.area.width s.frame.area.height in
    let grows = feed-grows s.ground stride' (rows_of (length other) stride') wider taller a a' more bs 0 0 s.frame s.palette in
    let left : (fed_by s l' bs a).1 ≡ laid stride grows.0 l =
    ap (λ (o : Fed × List ℕ). o.1) (alike-fed alike passed.fine passed.live ∙ fed-live s l bs a passed.fine passed.live)
    ∙ ap (λ (r : Reached). r.canvas) (grows.2 l) in
    record {
      plan = grows.0 ++ grows.1;
      paints = grows.3;
      long = length-carried stride stride' area (fed_by s l' bs a).1 other ∙ sym (length-carried stride stride' area l other);
      agree = λ k h free.
          ap (λ (m : List ℕ). get_or (carried stride stride' area m other) k 0) left
          ∙ carried-agree stride stride' area grows.0 grows.1 l other passed.width (rw (← passed.rows) passed.height) k
          (rw (length-carried stride stride' area l other) at h) free;
    }

-- so the feed of the moved session is the same, whether the picture was carried over before the refused feed or after it
pub fed-again : (s : Session) (bs : List ℕ) {a a' : ℕ} (l : List ℕ) → (fed_by s l bs a).0.answer ≡ Err refusals.Room
    → a ≤ a' → (stride' : ℕ) (other : List ℕ) → s.ground.stride ≤ stride' → s.ground.rows ≤ rows_of (length other) stride'
    → fed_by (moved_to s stride' (length other))
    (carried s.ground.stride stride' (area_of s.frame.area.width s.frame.area.height) (fed_by s l bs a).1 other) bs a'
    ≡ fed_by (moved_to s stride' (length other))
    (carried s.ground.stride stride' (area_of s.frame.area.width s.frame.area.height) l other) bs a'
unfolding moved_to
fed-again s bs {a} {a'} l refused more stride' other wider taller =
    let passed : Passed s (length l) a = room-passed s l bs a refused in
    let area : Area = area_of s.frame.area.width s.frame.area.height in
    alike-fed (alike_moved (alike_self s bs a l) refused more stride' other wider taller)
    (rw (length-carried s.ground.stride stride' area l other) (moved_passes a' stride' (length other) passed more wider taller))
    passed.live
