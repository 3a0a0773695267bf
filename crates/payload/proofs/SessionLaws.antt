-- Laws of a session: one for each path through a function.
use Rattle.std.specs.Option.{option_eq}
use Rattle.std.specs.Prelude.{◌≡◌, eqb, Some, None, ℕ, ◌/◌, ◌≤◌, Bool, true, false, cond, List, [], ◌∷◌, length, Ok, Err}
use mathlib.Core.Path.{refl, sym, ap, ◌∙◌}
use native.Mathlib.Nat.{div-le_self}
use native.Mathlib.Omega.{arith}
use borrow.Author.Tests.{eq-eqb, ne_eqb, leb-true}
use denote.Enum.Declared.{tag_of}
use types.Run.{OneOf, miss}
use Rattle.numbers.proofs.Laws.{cond_yes, cond_no}
use Rattle.numbers.specs.declared.Parameters.{Parameters}
use Rattle.numbers.specs.Step as numbers
use Rattle.colours.specs.declared.Palette.{Palette}
use Rattle.colours.specs.Palette.{register_of}
use Rattle.canvas.proofs.Covers.{and_right}
use Rattle.canvas.specs.Picture.{rows_of, span}
use Rattle.canvas.specs.Paint.{painted}
use Rattle.frame.specs.declared.Frame.{Frame}
use Rattle.frame.specs.declared.Kind.TheVariants as kinds
use Rattle.frame.specs.declared.Limits.{Limits}
use Rattle.frame.specs.declared.Outcome.{Outcome}
use Rattle.frame.specs.declared.Progress.{Progress}
use Rattle.frame.specs.declared.Raster.{Raster}
use Rattle.frame.specs.declared.Refusal.{Refusal}
use Rattle.frame.specs.declared.Refusal.TheVariants as refusals
use Rattle.reference.specs.Step.{Reached}
use Rattle.reference.specs.Feed.{feed_from}
use Rattle.payload.specs.Results.{Answer, Fed, Given, Opened, Opening, Verdict}
use Rattle.payload.specs.declared.Answer.TheVariants as answers
use Rattle.payload.specs.declared.Finished.{Finished}
use Rattle.payload.specs.declared.Life.{Life}
use Rattle.payload.specs.declared.Life.TheVariants as lives
use Rattle.payload.specs.declared.Ratio.{Ratio}
use Rattle.payload.specs.declared.Ratio.TheVariants as ratios
use Rattle.payload.specs.declared.Report.{Report}
use Rattle.payload.specs.declared.Session.{Session}
use Rattle.payload.specs.declared.Settings.{Settings}
use Rattle.payload.specs.declared.kernel.Setup.{Setup}
use Rattle.payload.specs.Core.{over, setup_for}
use Rattle.payload.specs.Refusals.{limits_fit, in_range, openable, feed_judged, finish_judged}
use Rattle.payload.specs.Session.{clear_for, background_for, blank_frame, ground_for, session_for, opening_for, first_life, opened_if, first_painted, opened_on, session_with, answer_of, life_after, answered_in, answered_by, fed_live, fed_in, fed_as, fed_by, ratio_for, reported_as, turned_away, finished_live, finished_as, finished_by}
use Rattle.payload.specs.contracts.Life as LifeType
use Rattle.payload.proofs.PendingLaws.{finish-last, finish-pictured}

-- ---- opening

pub clear-tested : (p : Given) → option_eq eqb p (Some 1) ≡ clear_for p
unfolding clear_for
clear-tested None = refl
clear-tested (Some n) = refl

pub background-clear : {t : Bool} (p : Palette) (o : Given) → t ≡ clear_for o → t ≡ true → 0 ∷ 0 ∷ 0 ∷ 0 ∷ [] ≡ background_for p o
unfolding background_for
background-clear p o e t = sym (cond_yes _ _ (sym e ∙ t))

pub background-kept : {t : Bool} {r : List ℕ} (p : Palette) (o : Given) → t ≡ clear_for o → t ≡ false → r ≡ register_of p 0 → r ≡ background_for p o
unfolding background_for
background-kept p o e t k = k ∙ sym (cond_no _ _ (sym e ∙ t))

pub blank-as : {px : List ℕ} {q : Parameters} (p : Palette) → px ≡ register_of p 0 → q ≡ numbers.opened 0
    → ◌≡◌ {A = Frame}
    (record {
      pen = record { column = 0; row = 0; repeat = 1; register = 0; color = px };
      area = record { width = 1; height = 1 };
      extent = record { right = 0; bottom = 0 };
      raster = record { ratio = 0; width = 0; height = 0 };
      held = 0;
      command = record { kind = kinds.Data; number = 0; parameters = q };
    })
    (blank_frame p)
unfolding blank_frame
blank-as p e k = rw (e, k) refl

-- a canvas on which a session opens has a pixel
pub pixel-there : {t : Bool} (l : Limits) (stride size : ℕ) → t ≡ openable l stride size → t ≡ true → 4 ≤ size
unfolding openable rows_of
pixel-there l stride size e t =
    let row : 1 ≤ size / 4 / stride =
    leb-true _ _ (and_right (in_range stride 1000000) _ (and_right (limits_fit l) _ (sym e ∙ t))) in
    omega (arith, div-le_self (size / 4) stride)

pub setup-as : {rows : ℕ} {background : List ℕ} (l : Limits) (stride size : ℕ) (o : Settings) (p : Palette)
    → background ≡ background_for p o.p2 → rows ≡ rows_of size stride
    → ◌≡◌ {A = Setup}
    (record {
      ground = record { limits = l; stride = stride; rows = rows; background = background };
      length = size;
      settings = o;
    })
    (setup_for l stride size o p)
unfolding setup_for ground_for
setup-as l stride size o p b r = rw (b, r) refl

module _ {t : Bool} where
  pub opening-yes : t ≡ true → Ok tt ≡ opening_for t
  unfolding opening_for
  opening-yes e = sym (cond_yes _ _ e)

  pub opening-no : t ≡ false → Err refusals.Opening ≡ opening_for t
  unfolding opening_for
  opening-no e = sym (cond_no _ _ e)

  pub life-yes : t ≡ true → lives.Live ≡ first_life t
  unfolding first_life
  life-yes e = sym (cond_yes _ _ e)

  pub life-no : t ≡ false → lives.Failed ≡ first_life t
  unfolding first_life
  life-no e = sym (cond_no _ _ e)

  pub painted-yes : {after : List ℕ} (px canvas : List ℕ) → t ≡ true → after ≡ painted (span 0 1) px canvas → after ≡ first_painted t px canvas
  unfolding first_painted
  painted-yes px canvas e k = k ∙ sym (cond_yes _ _ e)

  pub painted-no : (px canvas : List ℕ) → t ≡ false → canvas ≡ first_painted t px canvas
  unfolding first_painted
  painted-no px canvas e = sym (cond_no _ _ e)

pub opened-if : {a : Opening} {k : Life} {u : Setup} {f : Frame} (t : Bool) (l : Limits) (stride size : ℕ) (o : Settings) (p : Palette)
    → a ≡ opening_for t → k ≡ first_life t → u ≡ setup_for l stride size o p → f ≡ blank_frame p
    → ◌≡◌ {A = Opened} (record { answer = a; session = over u k f p }) (opened_if t l stride size o p)
unfolding opened_if session_for setup_for
opened-if t l stride size o p ea ek eu ef = rw (ea, ek, eu, ef) refl

module _ (l : Limits) (stride : ℕ) (o : Settings) (p : Palette) (canvas : List ℕ) where
  either : (t : Bool)
      → ◌≡◌ {A = Opened × List ℕ} (opened_if t l stride (length canvas) o p, first_painted t (background_for p o.p2) canvas)
      (cond t
      (record { answer = Ok tt; session = session_for l stride (length canvas) o p lives.Live }, painted (span 0 1) (background_for p o.p2) canvas)
      (record { answer = Err refusals.Opening; session = session_for l stride (length canvas) o p lives.Failed }, canvas))
  unfolding opened_if opening_for first_life first_painted
  either true = refl
  either false = refl

  pub opened-as : {t : Bool} {px after : List ℕ} {x : Opened} → t ≡ openable l stride (length canvas) → px ≡ background_for p o.p2
      → after ≡ first_painted t px canvas
      → x ≡ opened_if t l stride (length canvas) o p → (x, after) ≡ opened_on l stride o p canvas
  unfolding opened_on
  opened-as {t} e b a k = rw (k, a, b, e) (either (openable l stride (length canvas)))

pub ruleset openings-made = (
  clear-tested,
  background-clear,
  background-kept,
  blank-as,
  pixel-there,
  setup-as,
  opening-yes,
  opening-no,
  life-yes,
  life-no,
  painted-yes,
  painted-no,
  opened-if,
  opened-as,
)

-- ---- feeding

pub answer-as : {r : Answer} {o other : Outcome} (n i : ℕ) → o ≡ other → r ≡ answer_of other n i → r ≡ answer_of o n i
answer-as n i e k = k ∙ ap (λ (o : Outcome). answer_of o n i) (sym e)

pub life-as : {r : Life} {o other : Outcome} → o ≡ other → r ≡ life_after other → r ≡ life_after o
life-as e k = k ∙ ap life_after (sym e)

pub answered-as : {a : Answer} {l : Life} (s : Session) (r : Progress) (p : Palette)
    → a ≡ answer_of r.outcome r.consumed r.ink → l ≡ life_after r.outcome
    → ◌≡◌ {A = Fed} (record { answer = a; session = session_with s l r.frame p }) (answered_by s r p)
unfolding answered_by answered_in
answered-as s r p ea el = rw (ea, el) refl

-- a session that has not ended reads
not-ended : (s : Session) (canvas bytes : List ℕ) (allowance : ℕ) (life : Life) → OneOf (0 ∷ 2 ∷ []) (tag_of LifeType.the_type life)
    → fed_live s canvas bytes allowance ≡ fed_in life s canvas bytes allowance
unfolding fed_in
not-ended s canvas bytes allowance lives.Live h = refl
not-ended s canvas bytes allowance (lives.Ended b) h = absurd (miss (0 ∷ 2 ∷ []) 1 tt h)
not-ended s canvas bytes allowance lives.Failed h = refl

-- what reading made of a session's parts
pub fed-live : (u : Setup) (life : Life) (f : Frame) (p : Palette) (canvas bytes : List ℕ) (allowance : ℕ)
    {after : Palette} {pr : Progress} {later : List ℕ} {a : Answer} {l : Life}
    → ◌≡◌ {A = Reached} (record { progress = pr; palette = after; canvas = later }) (feed_from u.ground allowance bytes 0 0 f p canvas)
    → a ≡ answer_of pr.outcome pr.consumed pr.ink → l ≡ life_after pr.outcome
    → ◌≡◌ {A = Fed × List ℕ} (record { answer = a; session = over u l pr.frame after }, later) (fed_live (over u life f p) canvas bytes allowance)
unfolding fed_live session_with
fed-live u life f p canvas bytes allowance {after} {pr} {later} e ea el =
    let s : Session = over u life f p in
    ap (λ (y : Fed). (y, later)) (answered-as s pr after ea el)
    ∙ ap (λ (r : Reached). (answered_by s r.progress r.palette, r.canvas)) e

module _ (s : Session) (canvas bytes : List ℕ) (allowance : ℕ) where
  module _ {j : Verdict} (e : j ≡ feed_judged s (length canvas) allowance) where
    pub fed-refused : {n : Refusal} → j ≡ Err n
        → ◌≡◌ {A = Fed × List ℕ} (record { answer = Err n; session = s }, canvas) (fed_by s canvas bytes allowance)
    unfolding fed_by fed_as
    fed-refused h = ap (λ (k : Verdict). fed_as k s canvas bytes allowance) (sym h ∙ e)

    pub fed-ended : {b : ℕ} → j ≡ Ok tt → s.life ≡ lives.Ended b
        → ◌≡◌ {A = Fed × List ℕ} (record { answer = Ok (answers.Ended 0 0 b); session = s }, canvas) (fed_by s canvas bytes allowance)
    unfolding fed_by fed_as fed_in
    fed-ended h l =
        ap (λ (k : Life). fed_in k s canvas bytes allowance) (sym l)
        ∙ ap (λ (k : Verdict). fed_as k s canvas bytes allowance) (sym h ∙ e)

    pub fed-on : {x : Fed} {later : List ℕ} → j ≡ Ok tt → OneOf (0 ∷ 2 ∷ []) (tag_of LifeType.the_type s.life)
        → (x, later) ≡ fed_live s canvas bytes allowance → (x, later) ≡ fed_by s canvas bytes allowance
    unfolding fed_by fed_as
    fed-on h l k =
        k
        ∙ not-ended s canvas bytes allowance s.life l
        ∙ ap (λ (k : Verdict). fed_as k s canvas bytes allowance) (sym h ∙ e)

-- the same of a session's parts, whose life is known
pub fed-over : (u : Setup) (life : Life) (f : Frame) (p : Palette) (canvas bytes : List ℕ) (allowance : ℕ) {b : ℕ}
    → Ok tt ≡ feed_judged (over u life f p) (length canvas) allowance → life ≡ lives.Ended b
    → ◌≡◌ {A = Fed × List ℕ} (record { answer = Ok (answers.Ended 0 0 b); session = over u (lives.Ended b) f p }, canvas)
    (fed_by (over u life f p) canvas bytes allowance)
fed-over u life f p canvas bytes allowance {b} e l =
    ap (λ (k : Life). (record { answer = Ok (answers.Ended 0 0 b); session = over u k f p }, canvas)) (sym l)
    ∙ fed-ended (over u life f p) canvas bytes allowance e refl l

pub ruleset feedings = (fed-live, fed-refused, fed-ended, fed-on)

-- ---- finishing

pub ratio-left : (r : Raster) (p1 : Given) → r.ratio ≡ 0 → ratios.LeftToP1 p1 ≡ ratio_for r p1
unfolding ratio_for
ratio-left r p1 e = sym (cond_yes _ _ (eq-eqb _ _ e))

pub ratio-raster : (r : Raster) (p1 : Given) → (r.ratio ≡ 0 → ⊥) → ratios.Raster r.ratio ≡ ratio_for r p1
unfolding ratio_for
ratio-raster r p1 e = sym (cond_no _ _ (ne_eqb _ _ e))

pub reported-as : {r : Ratio} {t : Bool} (f : Frame) (o : Settings) (n : ℕ) → r ≡ ratio_for f.raster o.p1 → t ≡ clear_for o.p2
    → ◌≡◌ {A = Report}
    (record {
      width = f.area.width;
      height = f.area.height;
      right = f.extent.right;
      bottom = f.extent.bottom;
      ratio = r;
      transparent = t;
      defined = n;
      declared_width = f.raster.width;
      declared_height = f.raster.height;
      held = f.held;
    })
    (reported_as f o n)
unfolding reported_as
reported-as f o n e k = rw (e, k) refl

module _ (s : Session) (owner : Palette) (canvas : List ℕ) {j : Verdict} (e : j ≡ finish_judged s (length canvas)) where
  pub finish-refused : {n : Refusal} → j ≡ Err n
      → ◌≡◌ {A = Finished × List ℕ} (record { answer = Err n; palette = owner }, canvas) (finished_by s owner canvas)
  unfolding finished_by finished_as turned_away
  finish-refused h = ap (λ (i : Verdict). finished_as i s owner canvas) (sym h ∙ e)

  pub finish-on : {x : Finished} {later : List ℕ} → j ≡ Ok tt → (x, later) ≡ finished_live s owner canvas → (x, later) ≡ finished_by s owner canvas
  unfolding finished_by finished_as
  finish-on h y = y ∙ ap (λ (i : Verdict). finished_as i s owner canvas) (sym h ∙ e)

pub ruleset finishings =
    (ratio-left, ratio-raster, reported-as, finish-last, finish-pictured, finish-refused, finish-on)
