-- A session in parts, as the loop over a part has it: it passes 9, 12 and 13 at every turn, and it is finished for the owner of the registers.
use Rattle.std.specs.Prelude.{◌≡◌, ℕ, ◌*◌, ◌≤◌, List, length, true, false, is_err, Ok, Err}
use mathlib.Core.Option.{none}
use mathlib.Core.Path.{refl, ◌∙◌}
use borrow.Author.Tests.{le-ltb}
use Rattle.numbers.proofs.Laws.{cond_no}
use Rattle.colours.specs.declared.Palette.{Palette}
use Rattle.colours.specs.Palette.{of_table}
use Rattle.frame.specs.declared.Frame.{Frame}
use Rattle.frame.specs.declared.Refusal.{Refusal}
use Rattle.meaning.specs.Calls as calls
use Rattle.meaning.specs.Drawing.{Setting}
use Rattle.meaning.specs.Sessions.{Reading}
use Rattle.payload.specs.declared.Finished.{Finished}
use Rattle.payload.specs.Results.{Finishing, Verdict}
use Rattle.payload.specs.declared.Life.{Life}
use Rattle.payload.specs.declared.Report.{Report}
use Rattle.payload.specs.declared.kernel.Setup.{Setup}
use Rattle.payload.specs.Core.{over, finished_over, Passed}
use Rattle.payload.specs.Refusals.{misfitting, fitting, feed_judged}
use Rattle.payload.specs.Session.{finished_by}
use Rattle.payload.proofs.CoreLaws.{finished-whole, handed-refused, handed-picture}
use Rattle.payload.proofs.Judgements.{judged_meant, feed-judged}
use Rattle.oneshot.proofs.StandLaws.{Lives, fitting-lives}

-- ---- a finish

module _ (u : Setup) (life : Life) (f : Frame) (p : Palette) (canvas : List ℕ) {a : Finishing} (colors owner : List ℕ) {later : List ℕ}
    (e : (finished_over a colors, later) ≡ finished_by (over u life f p) p canvas) where
  -- a refusal hands the owner's registers back
  pub owner-refused : {n : Refusal} → a ≡ Err n
      → ◌≡◌ {A = Finished × List ℕ} (finished_over (Err n) owner, later) (finished_by (over u life f p) (of_table owner) canvas)
  owner-refused told =
      finished-whole (over u life f p) refl refl refl refl colors (of_table owner) canvas e refl (handed-refused _ _ told)

  -- a picture those of the session
  pub owner-pictured : {r : Report} → a ≡ Ok r
      → ◌≡◌ {A = Finished × List ℕ} (finished_over (Ok r) colors, later) (finished_by (over u life f p) (of_table owner) canvas)
  owner-pictured told =
      finished-whole (over u life f p) refl refl refl refl colors (of_table owner) canvas e refl (handed-picture _ _ told)

-- the same by whether it is a refusal
module _ (u : Setup) (life : Life) (f : Frame) (p : Palette) (canvas colors owner : List ℕ) {later : List ℕ} where
  pub owner-lost : (a : Finishing) → (finished_over a colors, later) ≡ finished_by (over u life f p) p canvas → is_err a ≡ true
      → ◌≡◌ {A = Finished × List ℕ} (finished_over a owner, later) (finished_by (over u life f p) (of_table owner) canvas)
  owner-lost (Ok r) e h = cc
  owner-lost (Err n) e h = owner-refused u life f p canvas colors owner e refl

  pub owner-kept : (a : Finishing) → (finished_over a colors, later) ≡ finished_by (over u life f p) p canvas → is_err a ≡ false
      → ◌≡◌ {A = Finished × List ℕ} (finished_over a colors, later) (finished_by (over u life f p) (of_table owner) canvas)
  owner-kept (Ok r) e h = owner-pictured u life f p canvas colors owner e refl
  owner-kept (Err n) e h = cc

-- ---- a feed

-- what the definition does not refuse, the code does not
unrefused : (v : Verdict) → judged_meant v ≡ none → Ok tt ≡ v
unfolding judged_meant
unrefused (Ok tt) e = refl
unrefused (Err n) e = cc

-- a session that stands for a live one has not failed, its picture fits its canvas, and so with 6W it passes, whatever its palette
pub lives-pass : {opening : List ℕ} {t : Setting} {r : Reading} {u : Setup} {life : Life} {f : Frame} {p : Palette} {l : List ℕ} {a : ℕ}
    → Lives opening t r (over u life f p) l → 6 * t.limits.width ≤ a → Passed u life f (length l) a
unfolding calls.feed_refusal calls.first_of feed_judged misfitting fitting
lives-pass {opening} {t} {r} {u} {life} {f} {p} {l} {a} k enough q =
    unrefused (feed_judged (over u life f p) (length l) a)
    (feed-judged k.stands (length l) a
    ∙ cond_no _ _ (fitting-lives k.stands)
    ∙ cond_no _ _ (le-ltb a (6 * t.limits.width) enough))
