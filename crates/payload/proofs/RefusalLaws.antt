-- Laws of the refusals before a byte is read: one for each path through a function of `refusals`.
use Rattle.std.specs.Prelude.{◌≡◌, ℕ, ◌*◌, ◌/◌, ◌<◌, ◌≤◌, Bool, true, false, cond, ◌&&◌, eqb, leb, [], ◌∷◌, Ok, Err}
use mathlib.Core.Path.{refl, sym, ◌∙◌}
use native.Mathlib.Omega.{arith}
use denote.Enum.Declared.{tag_of}
use types.Run.{OneOf, miss}
use borrow.Author.Tests.{lt-ltb, le-ltb, leb-true, eqb-true, not-false}
use Rattle.numbers.proofs.Laws.{cond_yes, cond_no}
use Rattle.canvas.proofs.Covers.{and_left, and_right}
use Rattle.canvas.specs.Picture.{rows_of}
use Rattle.colours.specs.declared.Palette.{Palette}
use Rattle.colours.specs.Palette.{standard}
use Rattle.frame.specs.declared.Frame.{Frame}
use Rattle.frame.specs.declared.Refusal.{Refusal}
use Rattle.frame.specs.declared.Refusal.TheVariants as refusals
use Rattle.reference.specs.Step.{Fits}
use Rattle.payload.specs.declared.Life.{Life}
use Rattle.payload.specs.declared.Life.TheVariants as lives
use Rattle.payload.specs.contracts.Life as LifeType
use Rattle.payload.specs.declared.Session.{Session}
use Rattle.payload.specs.Results.{Verdict}
use Rattle.payload.specs.declared.kernel.Setup.{Setup}
use Rattle.payload.specs.Core.{over, Passed}
use Rattle.payload.specs.Refusals.{is_failed, fitting, misfitting, feed_judged, finish_judged}

-- ---- 9, 12, 13

pub is_failed-yes : {life : Life} → life ≡ lives.Failed → true ≡ is_failed life
unfolding is_failed
is_failed-yes e = rw e refl

pub is_failed-no : (life : Life) → OneOf (0 ∷ 1 ∷ []) (tag_of LifeType.the_type life) → false ≡ is_failed life
unfolding is_failed
is_failed-no lives.Live h = refl
is_failed-no (lives.Ended b) h = refl
is_failed-no lives.Failed h = absurd (miss (0 ∷ 1 ∷ []) 2 tt h)

-- a division that finds an allowance below 6W
pub below-six : (a w : ℕ) → a / 6 < w → a < 6 * w
below-six a w h = omega arith

pub from-six : (a w : ℕ) → w ≤ a / 6 → 6 * w ≤ a
from-six a w h = omega arith

module _ (s : Session) (size : ℕ) {t : Bool} (failed : t ≡ is_failed s.life) where
  pub finish-failed : t ≡ true → Err refusals.Failed ≡ finish_judged s size
  unfolding finish_judged
  finish-failed h = sym (cond_yes _ _ (sym failed ∙ h))

  module _ {m : Bool} (live : t ≡ false) (misfit : m ≡ misfitting s size) where
    pub finish-canvas : m ≡ true → Err refusals.Canvas ≡ finish_judged s size
    unfolding finish_judged
    finish-canvas h = sym (cond_no _ _ (sym failed ∙ live) ∙ cond_yes _ _ (sym misfit ∙ h))

    pub finish-fine : m ≡ false → Ok tt ≡ finish_judged s size
    unfolding finish_judged
    finish-fine h = sym (cond_no _ _ (sym failed ∙ live) ∙ cond_no _ _ (sym misfit ∙ h))

-- a test more after 9 and 12 does not show where these refuse, and is all where they do not
later-kept : (n : Refusal) (t m : Bool) (rest : Verdict)
    → ◌≡◌ {A = Verdict} (cond t (Err refusals.Failed) (cond m (Err refusals.Canvas) (Ok tt))) (Err n)
    → ◌≡◌ {A = Verdict} (Err n) (cond t (Err refusals.Failed) (cond m (Err refusals.Canvas) rest))
later-kept n true m rest e = sym e
later-kept n false true rest e = sym e
later-kept n false false rest e = cc

later-all : (t m : Bool) (rest : Verdict) → ◌≡◌ {A = Verdict} (cond t (Err refusals.Failed) (cond m (Err refusals.Canvas) (Ok tt))) (Ok tt)
    → rest ≡ cond t (Err refusals.Failed) (cond m (Err refusals.Canvas) rest)
later-all true m rest e = cc
later-all false true rest e = cc
later-all false false rest e = refl

module _ (s : Session) (size allowance : ℕ) {j : Verdict} (e : j ≡ finish_judged s size) where
  pub feed-refused : {n : Refusal} → j ≡ Err n → Err n ≡ feed_judged s size allowance
  unfolding feed_judged finish_judged
  feed-refused {n} h = later-kept n (is_failed s.life) (misfitting s size) _ (sym e ∙ h)

  pub feed-allowance : j ≡ Ok tt → allowance / 6 < s.ground.limits.width → Err refusals.Allowance ≡ feed_judged s size allowance
  unfolding feed_judged finish_judged
  feed-allowance h l =
      sym (cond_yes _ _ (lt-ltb _ _ (below-six allowance s.ground.limits.width l)))
      ∙ later-all (is_failed s.life) (misfitting s size) _ (sym e ∙ h)

  pub feed-fine : j ≡ Ok tt → s.ground.limits.width ≤ allowance / 6 → Ok tt ≡ feed_judged s size allowance
  unfolding feed_judged finish_judged
  feed-fine h l =
      sym (cond_no _ _ (le-ltb _ _ (from-six allowance s.ground.limits.width l)))
      ∙ later-all (is_failed s.life) (misfitting s size) _ (sym e ∙ h)

pub ruleset refusing =
    (is_failed-yes, is_failed-no, finish-failed, finish-canvas, finish-fine, feed-refused, feed-allowance, feed-fine)

-- ---- what is not refused

-- where a test refuses, what is fine has not met it
pub passes : (n : Refusal) (t : Bool) (y : Verdict) → cond t (Err n) y ≡ Ok tt → (t ≡ false) × (y ≡ Ok tt)
passes n true y h = (cc, cc)
passes n false y h = (refl, h)

-- a session that fits has room for its area
pub fitting-fits : (s : Session) (size : ℕ) → misfitting s size ≡ false → Fits s.frame s.ground size
unfolding misfitting fitting
fitting-fits s size e =
    let area = s.frame.area in
    let ground = s.ground in
    let rest : (eqb ground.rows (rows_of size ground.stride) && (leb area.width ground.stride && leb area.height ground.rows)) ≡ true =
    and_right (eqb size s.length) _ (not-false (fitting s size) e) in
    let room : (leb area.width ground.stride && leb area.height ground.rows) ≡ true =
    and_right (eqb ground.rows (rows_of size ground.stride)) _ rest in
    record {
      rows = eqb-true _ _ (and_left _ _ rest);
      width = leb-true _ _ (and_left _ _ room);
      height = leb-true _ _ (and_right (leb area.width ground.stride) _ room);
    }

-- whatever the palette: the standard one will do
pub finish-fits : {j : Verdict} (u : Setup) (life : Life) (f : Frame) (size : ℕ) → ((p : Palette) → j ≡ finish_judged (over u life f p) size) → j ≡ Ok tt
    → Fits f u.ground size
unfolding finish_judged
finish-fits u life f size j e =
    let s : Session = over u life f standard in
    fitting-fits s size
    (passes refusals.Canvas (misfitting s size) (Ok tt) (passes refusals.Failed (is_failed s.life) _ (sym (j standard) ∙ e)).1).0

pub feed-fits : (u : Setup) (life : Life) (f : Frame) (size allowance : ℕ) → Passed u life f size allowance → Fits f u.ground size
unfolding feed_judged
feed-fits u life f size allowance passed =
    let s : Session = over u life f standard in
    fitting-fits s size
    (passes refusals.Canvas (misfitting s size) _ (passes refusals.Failed (is_failed s.life) _ (sym (passed standard))).1).0
