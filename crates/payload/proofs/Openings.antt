-- An opening of the code is the definition's.
use Rattle.std.specs.Prelude.{◌≡◌, ℕ, Bool, true, false, cond, ◌↔◌, List, [], ◌∷◌, length, Ok, Err, Some, None}
use native.Mathlib.Omega.{arith}
use mathlib.Core.Option.{some}
use mathlib.Core.Path.{refl, sym, ap, ◌∙◌, subst}
use Rattle.numbers.proofs.Laws.{cond_yes}
use Rattle.colours.specs.declared.Palette.{Palette}
use Rattle.colours.specs.Marks.{lasting}
use Rattle.colours.specs.Palette.{register_of}
use Rattle.canvas.specs.Picture.{span}
use Rattle.canvas.specs.Paint.{painted}
use Rattle.frame.specs.declared.Limits.{Limits}
use Rattle.frame.specs.declared.Refusal.TheVariants as refusals
use Rattle.frame.specs.Numbers.{number_of}
use Rattle.meaning.specs.Calls as calls
use Rattle.meaning.specs.Drawing as drawing
use Rattle.meaning.specs.Sessions.{opened}
use Rattle.meaning.proofs.Cases.{cond_map}
use Rattle.agreement.specs.Same as same
use Rattle.agreement.proofs.Finish.{opened-same}
use Rattle.payload.specs.Results.{Given, Opened, Opening}
use Rattle.payload.specs.declared.Life.TheVariants as lives
use Rattle.payload.specs.declared.Settings.{Settings}
use Rattle.payload.specs.Refusals.{in_range, limits_fit, openable}
use Rattle.payload.specs.Session.{clear_for, background_for, blank_frame, ground_for, session_for, opened_by}
use Rattle.payload.specs.History.{Stands, Opens, is_ready, is_refused}
use Rattle.payload.specs.Meant.{given_meant, parameters_meant, limits_meant, setting_meant}

pub clear-meant : (g : Given) → clear_for g ≡ drawing.transparent (given_meant g)
unfolding clear_for drawing.transparent given_meant
clear-meant None = refl
clear-meant (Some n) = refl

background-meant : (p : Palette) (g : Given) → background_for p g ≡ drawing.background_of p (given_meant g)
unfolding background_for drawing.background_of
background-meant p g = ap (λ (t : Bool). cond t (0 ∷ 0 ∷ 0 ∷ 0 ∷ []) (register_of p 0)) (clear-meant g)

-- what one test picks on both sides
chosen : {X Y : Type 0} (P : X → Y → Type 0) (t u : Bool) (a b : X) (c d : Y) → t ≡ u → (t ≡ true → P a c) → (t ≡ false → P b d) → P (cond t a b) (cond u c d)
chosen P true u a b c d e f g = subst (λ (v : Bool). P a (cond v c d)) e (f refl)
chosen P false u a b c d e f g = subst (λ (v : Bool). P b (cond v c d)) e (g refl)

-- what may be opened is the definition's
pub opens-meant : (l : Limits) (stride size : ℕ) → openable l stride size ≡ calls.opens (limits_meant l) stride size
unfolding openable limits_fit in_range calls.opens calls.limits_hold calls.ranges limits_meant
opens-meant l stride size = refl

-- an opening's answer by its test: ready where it holds, and else 11
abbrev pub opening_by : Bool → Opening
opening_by t = cond t (Ok tt) (Err refusals.Opening)

pub ready-exactly : (t : Bool) {a : Opening} → a ≡ opening_by t → (a ≡ Ok tt) ↔ (t ≡ true)
ready-exactly true e = (λ _. refl, λ _. e)
ready-exactly false e = (λ z. let never : ◌≡◌ {A = ℕ} 0 1 = cc in absurd (omega arith), λ z. let never : ◌≡◌ {A = ℕ} 0 1 = cc in absurd (omega arith))

pub refused-exactly : (t : Bool) {a : Opening} → a ≡ opening_by t → (a ≡ Err refusals.Opening) ↔ (t ≡ false)
refused-exactly true e = (λ z. let never : ◌≡◌ {A = ℕ} 0 1 = cc in absurd (omega arith), λ z. let never : ◌≡◌ {A = ℕ} 0 1 = cc in absurd (omega arith))
refused-exactly false e = (λ _. refl, λ _. e)

module _ (l : Limits) (stride : ℕ) (o : Settings) (p : Palette) (opening : List ℕ) where
  -- a session that is ready
  pub ready-stands : openable l stride (length opening) ≡ true
      → Stands opening (session_for l stride (length opening) o (lasting p) lives.Live) (painted (span 0 1) (background_for (lasting p) o.p2) opening)
      (record { setting = setting_meant l stride (length opening); length = length opening; state = opened (parameters_meant o) p; failed = false })
  unfolding session_for ground_for setting_meant limits_meant calls.setting_for opened parameters_meant blank_frame same.blank_frame same.ground_of
  ready-stands e =
      let k : same.Same _ _ _ _ _ _ _ =
      opened-same (limits_meant l) stride (length opening) (sym (opens-meant l stride (length opening)) ∙ e) (parameters_meant o) p {opening = opening}
      {g = ground_for l stride (length opening) (background_for (lasting p) o.p2)} {f = blank_frame (lasting p)}
      (ap (ground_for l stride (length opening)) (background-meant (lasting p) o.p2)) refl refl
      (ap (λ (px : List ℕ). painted (span 0 1) px opening) (background-meant (lasting p) o.p2)) in
      record { setting = refl; long = refl; parameters = refl; life = (refl, refl); drawing = k.drawing; begun = λ _. k.begun }

  -- an opening of the code is the definition's
  pub open-stands : Opens opening (opened_by l stride o p opening) (calls.open_payload (limits_meant l) stride (length opening) (parameters_meant o) p)
  unfolding opened_by calls.open_payload calls.open_with number_of setting_meant calls.setting_for
  open-stands =
      chosen (Opens opening) (openable l stride (length opening)) (calls.opens (limits_meant l) stride (length opening)) _ _ _ _
      (opens-meant l stride (length opening)) (λ e. is_ready (ready-stands e)) (λ e. is_refused refusals.Opening)

  -- it is 11 exactly when it may not be opened
  pub open-refused : ((opened_by l stride o p opening).0.answer ≡ Err refusals.Opening) ↔ (openable l stride (length opening) ≡ false)
  unfolding opened_by
  open-refused =
      refused-exactly (openable l stride (length opening))
      (cond_map (λ (x : Opened × List ℕ). x.0.answer) (openable l stride (length opening)) _ _)

  -- the session of one that succeeds stands for the definition's
  pub opened-stands : openable l stride (length opening) ≡ true
      → Stands opening (opened_by l stride o p opening).0.session (opened_by l stride o p opening).1
      (record { setting = setting_meant l stride (length opening); length = length opening; state = opened (parameters_meant o) p; failed = false })
  unfolding opened_by
  opened-stands e = rw e (ready-stands e)

  -- and the canvas then shows the blank drawing
  pub open-shows : openable l stride (length opening) ≡ true
      → (opened_by l stride o p opening).1 ≡ calls.shown stride (some (drawing.blank p (given_meant o.p2))) opening
  unfolding opened_by calls.shown same.canvas_of setting_meant calls.setting_for opened parameters_meant
  open-shows e = ap (λ (x : Opened × List ℕ). x.1) (cond_yes _ _ e) ∙ (ready-stands e).drawing.canvas
