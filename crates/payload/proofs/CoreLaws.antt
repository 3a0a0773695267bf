-- A call by value is the call over the session's parts.
use Rattle.std.specs.Prelude.{◌≡◌, ℕ, List, length, Ok, Err}
use mathlib.Core.Path.{refl, sym, ap, ◌∙◌}
use Rattle.colours.specs.declared.Palette.{Palette}
use Rattle.colours.specs.Marks.{lasting}
use Rattle.colours.specs.Palette.{of_table}
use Rattle.frame.specs.declared.Frame.{Frame}
use Rattle.frame.specs.declared.Limits.{Limits}
use Rattle.frame.specs.declared.Outcome.{Outcome}
use Rattle.frame.specs.declared.Outcome.TheVariants as outcomes
use Rattle.frame.specs.declared.Refusal.{Refusal}
use Rattle.frame.specs.Commands.{Ended, ended}
use Rattle.payload.specs.Results as session
use Rattle.payload.specs.declared.Finished.{Finished}
use Rattle.payload.specs.Results.{Finishing, Verdict}
use Rattle.payload.specs.declared.Life.{Life}
use Rattle.payload.specs.declared.Report.{Report}
use Rattle.payload.specs.declared.Session.{Session}
use Rattle.payload.specs.declared.Settings.{Settings}
use Rattle.payload.specs.declared.kernel.Setup.{Setup}
use Rattle.payload.specs.declared.kernel.feeding.Fed.{Fed}
use Rattle.payload.specs.declared.kernel.opening.Opened.{Opened}
use Rattle.payload.specs.Core.{setup_of, over, opened_over, fed_over, finished_over, handed_back}
use Rattle.payload.specs.Refusals.{finish_judged}
use Rattle.payload.specs.Session.{opened_on, opened_by, fed_by, turned_away, pictured, finished_in, finished_live, finished_as, finished_by}

-- the parts of a session make it again
pub over-same : {u : Setup} {life : Life} {f : Frame} {p : Palette} (s : Session) → u ≡ setup_of s → life ≡ s.life → f ≡ s.frame → p ≡ s.palette
    → over u life f p ≡ s
over-same s eu el ef ep = rw (eu, el, ef, ep) refl

-- an opening over the parts, with a copy of the owner's palette: colours and marks
pub opened-whole : {x : Opened} {after : List ℕ} {q : Session} {own lent : Palette}
    (l : Limits) (stride : ℕ) (o : Settings) (owner : Palette) (canvas : List ℕ)
    → own ≡ lasting owner → lent ≡ own
    → (opened_over x lent, after) ≡ opened_on l stride o lent canvas → q ≡ over x.setup x.life x.frame own
    → ◌≡◌ {A = session.Opened × List ℕ} (record { answer = x.answer; session = q }, after) (opened_by l stride o owner canvas)
unfolding opened_by
opened-whole l stride o owner canvas eo el e eq = rw (eq, ← eo, ← el) e

module _ (s : Session) {u : Setup} {life : Life} {f : Frame} {p : Palette} (eu : u ≡ setup_of s) (el : life ≡ s.life) (ef : f ≡ s.frame)
    (ep : p ≡ s.palette) where
  pub fed-whole : {x : Fed} (colors : List ℕ) {later : List ℕ} {q : Session} {after : Palette} (canvas bytes : List ℕ) (allowance : ℕ)
      → (fed_over u x colors, later) ≡ fed_by (over u life f p) canvas bytes allowance → after ≡ of_table colors
      → q ≡ over u x.life x.frame after
      → ◌≡◌ {A = session.Fed × List ℕ} (record { answer = x.answer; session = q }, later) (fed_by s canvas bytes allowance)
  fed-whole colors canvas bytes allowance e ea eq =
      rw (eq, ea) (e ∙ ap (λ (x : Session). fed_by x canvas bytes allowance) (over-same s eu el ef ep))

-- ---- the owner of a palette

pub handed-refused : {a : Finishing} {n : Refusal} (owner after : Palette) → a ≡ Err n
    → ◌≡◌ {A = Finished} (record { answer = Err n; palette = owner }) (handed_back a owner after)
unfolding handed_back
handed-refused owner after e = rw e refl

pub handed-picture : {a : Finishing} {r : Report} (owner after : Palette) → a ≡ Ok r
    → ◌≡◌ {A = Finished} (record { answer = Ok r; palette = after }) (handed_back a owner after)
unfolding handed_back
handed-picture owner after e = rw e refl

-- a finish for one owner is that for another, but for what a refusal hands back
abbrev pub owned : Palette → Finished × List ℕ → Finished × List ℕ
owned owner x = (handed_back x.0.answer owner x.0.palette, x.1)

module _ (s : Session) (owner other : Palette) (canvas : List ℕ) where
  owned_in : (o : Outcome) (last : Frame) (p : Palette) → finished_in o s owner last p canvas ≡ owned owner (finished_in o s other last p canvas)
  unfolding finished_in pictured turned_away handed_back
  owned_in outcomes.Read last p = refl
  owned_in outcomes.Stopped last p = refl
  owned_in (outcomes.Ended b) last p = refl
  owned_in (outcomes.Refused n) last p = refl

  owned-as : (v : Verdict) → finished_as v s owner canvas ≡ owned owner (finished_as v s other canvas)
  unfolding finished_as finished_live turned_away handed_back
  owned-as (Ok tt) =
      let e : Ended = ended s.frame s.ground s.palette in
      owned_in e.progress.outcome e.progress.frame e.palette
  owned-as (Err n) = refl

  pub owned_by : finished_by s owner canvas ≡ owned owner (finished_by s other canvas)
  unfolding finished_by
  owned_by = owned-as (finish_judged s (length canvas))

module _ (s : Session) {u : Setup} {life : Life} {f : Frame} {p : Palette} (eu : u ≡ setup_of s) (el : life ≡ s.life) (ef : f ≡ s.frame)
    (ep : p ≡ s.palette) where
  pub finished-whole : {a : Finishing} (colors : List ℕ) {later : List ℕ} {x : Finished} {after : Palette} (owner : Palette) (canvas : List ℕ)
      → (finished_over a colors, later) ≡ finished_by (over u life f p) p canvas → after ≡ of_table colors → x ≡ handed_back a owner after
      → (x, later) ≡ finished_by s owner canvas
  finished-whole colors {later} owner canvas e ea ex =
      rw (ex, ea)
      (ap (owned owner) (e ∙ ap (λ (x : Session). finished_by x p canvas) (over-same s eu el ef ep)) ∙ sym (owned_by s owner p canvas))

pub ruleset wholes = (opened-whole, fed-whole, handed-refused, handed-picture, finished-whole)
