-- What a session of the code that stands for one of the definition has, and the refusals that both give before a byte is read.
use Rattle.std.specs.Prelude.{◌≡◌, ℕ, ◌*◌, Bool, true, false, cond, not, ◌&&◌, ◌||◌, eqb, ltb, leb, List, [], ◌∷◌, length, Ok, Err}
use mathlib.Core.Option.{Option, none, some}
use mathlib.Core.Path.{refl, sym, ap, ap₂, ◌∙◌, subst}
use borrow.Author.Tests.{eqb-true, eq-eqb, le-leb}
use Rattle.canvas.specs.Picture.{rows_of, fits}
use Rattle.canvas.proofs.Covers.{by-test}
use Rattle.canvas.proofs.Pictures.{length-picture}
use Rattle.frame.specs.declared.Frame.{Frame}
use Rattle.frame.specs.declared.Ground.{Ground}
use Rattle.frame.specs.declared.Refusal.{Refusal}
use Rattle.frame.specs.declared.Refusal.TheVariants as refusals
use Rattle.frame.specs.Numbers.{number_of}
use Rattle.meaning.specs.Calls as calls
use Rattle.meaning.specs.Drawing as drawing
use Rattle.meaning.specs.Sessions.{Reading}
use Rattle.agreement.specs.Same as same
use Rattle.payload.specs.declared.Life.{Life}
use Rattle.payload.specs.declared.Life.TheVariants as lives
use Rattle.payload.specs.declared.Session.{Session}
use Rattle.payload.specs.Results.{Verdict}
use Rattle.payload.specs.Refusals.{is_failed, fitting, misfitting, feed_judged, finish_judged}
use Rattle.payload.specs.History.{SameLife, Stands}
use Rattle.payload.specs.Meant.{setting_meant}

module _ {opening : List ℕ} {s : Session} {l : List ℕ} {m : calls.Session Reading} (k : Stands opening s l m) where
  -- the canvas shows the drawing of its state on the bytes of the opening
  pub stands-shows : l ≡ calls.payload_shown m opening
  unfolding calls.payload_shown calls.shown same.canvas_of
  stands-shows = k.drawing.canvas

  -- it is as long as at the opening
  pub stands-long : length l ≡ length opening
  unfolding same.canvas_of
  stands-long =
      ap length k.drawing.canvas
      ∙ length-picture m.setting.stride m.state.drawing.area m.state.drawing.background m.state.drawing.strokes opening

  -- and the picture fits it
  pub stands-fit : calls.misfits (λ (r : Reading). r.drawing.area) m m.length ≡ false
  unfolding calls.misfits fits setting_meant calls.setting_for
  stands-fit =
      let rows : m.setting.rows ≡ rows_of m.length m.setting.stride =
      ap (λ (x : drawing.Setting). x.rows) k.setting
      ∙ ap₂ rows_of (sym k.long) (sym (ap (λ (x : drawing.Setting). x.stride) k.setting)) in
      let room = k.drawing.sound.fits in
      rw (
        eq-eqb m.length m.length refl,
        le-leb m.state.drawing.area.width m.setting.stride room.stride,
        ← rows,
        le-leb m.state.drawing.area.height m.setting.rows room.rows,
      )
      refl

-- ---- the refusals before a byte is read

failed-meant : (life : Life) (failed : Bool) (over : Option ℕ) → SameLife life failed over → is_failed life ≡ failed
unfolding is_failed
failed-meant lives.Live failed over h = sym h.0
failed-meant (lives.Ended b) failed over h = sym h.0
failed-meant lives.Failed failed over h = sym h

-- the code judges the canvas's rows besides its length, which comes to the same
misfit-at : (size long rows stride w h : ℕ) → rows ≡ rows_of long stride
    → not (eqb size long && (eqb rows (rows_of size stride) && (leb w stride && leb h rows)))
    ≡ (not (eqb size long) || not (leb w stride && leb h (rows_of size stride)))
misfit-at size long rows stride w h e =
    by-test (eqb size long)
    (λ t.
    let k : rows ≡ rows_of size stride = e ∙ ap (λ (n : ℕ). rows_of n stride) (sym (eqb-true size long t)) in
    rw (t, eq-eqb rows (rows_of size stride) k, k) refl)
    (λ t. rw t refl)

module _ {opening : List ℕ} {s : Session} {l : List ℕ} {m : calls.Session Reading} (k : Stands opening s l m) where
  same-stride : s.ground.stride ≡ m.setting.stride
  unfolding same.ground_of
  same-stride = ap (λ (g : Ground). g.stride) k.drawing.ground

  same_rows : s.ground.rows ≡ rows_of s.length s.ground.stride
  unfolding same.ground_of setting_meant calls.setting_for
  same_rows = ap (λ (g : Ground). g.rows) k.drawing.ground ∙ ap (λ (x : drawing.Setting). x.rows) k.setting

  same-limit : s.ground.limits.width ≡ m.setting.limits.width
  unfolding same.ground_of
  same-limit = ap (λ (g : Ground). g.limits.width) k.drawing.ground

  same_width : s.frame.area.width ≡ m.state.drawing.area.width
  unfolding same.frame_of same.code_area
  same_width = ap (λ (f : Frame). f.area.width) k.drawing.frame

  same-height : s.frame.area.height ≡ m.state.drawing.area.height
  unfolding same.frame_of same.code_area
  same-height = ap (λ (f : Frame). f.area.height) k.drawing.frame

  misfit-meant : (size : ℕ) → misfitting s size ≡ calls.misfits (λ (r : Reading). r.drawing.area) m size
  unfolding misfitting fitting calls.misfits fits
  misfit-meant size =
      misfit-at size s.length s.ground.rows s.ground.stride s.frame.area.width s.frame.area.height same_rows
      ∙ rw (same-stride, same_width, same-height, ← k.long) refl

-- a refusal as the definition has it
unfoldable pub judged_meant : Verdict → Option ℕ
judged_meant (Ok tt) = none
judged_meant (Err n) = some (number_of n)

judged-by : (t u : Bool) (n : Refusal) (j : Verdict) (o : Option ℕ) → t ≡ u → judged_meant j ≡ o
    → judged_meant (cond t (Err n) j) ≡ cond u (some (number_of n)) o
unfolding judged_meant
judged-by true u n j o e k = subst (λ (v : Bool). some (number_of n) ≡ cond v (some (number_of n)) o) e refl
judged-by false u n j o e k = subst (λ (v : Bool). judged_meant j ≡ cond v (some (number_of n)) o) e k

module _ {opening : List ℕ} {s : Session} {l : List ℕ} {m : calls.Session Reading} (k : Stands opening s l m) (size : ℕ) where
  -- the code's tests and the definition's
  pub failed-test : is_failed s.life ≡ m.failed
  failed-test = failed-meant s.life m.failed m.state.over k.life

  unfoldable pub misfit : Bool
  misfit = calls.misfits (λ (r : Reading). r.drawing.area) m size

  pub finish-judged : judged_meant (finish_judged s size) ≡ calls.first_of (record { holds = m.failed; number = 9 } ∷ record { holds = misfit; number = 12 } ∷ [])
  unfolding finish_judged calls.first_of number_of judged_meant misfit
  finish-judged =
      judged-by (is_failed s.life) m.failed refusals.Failed (cond (misfitting s size) (Err refusals.Canvas) (Ok tt))
      (cond misfit (some 12) none) failed-test
      (judged-by (misfitting s size) misfit refusals.Canvas (Ok tt) none (misfit-meant k size) refl)

  pub feed-judged : (allowance : ℕ) → judged_meant (feed_judged s size allowance) ≡ calls.feed_refusal (λ (r : Reading). r.drawing.area) m size allowance
  unfolding feed_judged calls.feed_refusal calls.first_of number_of judged_meant misfit
  feed-judged a =
      let low : Verdict = cond (ltb a (6 * s.ground.limits.width)) (Err refusals.Allowance) (Ok tt) in
      let few : Option ℕ = cond (ltb a (6 * m.setting.limits.width)) (some 13) none in
      judged-by (is_failed s.life) m.failed refusals.Failed (cond (misfitting s size) (Err refusals.Canvas) low)
      (cond misfit (some 12) few) failed-test
      (judged-by (misfitting s size) misfit refusals.Canvas low few (misfit-meant k size)
      (judged-by (ltb a (6 * s.ground.limits.width)) (ltb a (6 * m.setting.limits.width)) refusals.Allowance (Ok tt) none
      (ap (λ (w : ℕ). ltb a (6 * w)) (same-limit k)) refl))
