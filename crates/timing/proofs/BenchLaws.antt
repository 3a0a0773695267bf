-- The benchmark's reading: one law for each path through it.
use Rattle.std.specs.Prelude.{Ok, Err}
use Prim.Native.Nat.{ℕ, ◌+◌, ◌*◌, ◌≤◌}
use native.Mathlib.Omega.{arith}
use mathlib.Core.Bool.{Bool, true, false}
use mathlib.Core.List.{List}
use mathlib.Core.Path.{◌≡◌, refl, sym, ap, subst, ◌∙◌}
use lib.ListN.{length}
use Rattle.numbers.proofs.Laws.{cond_yes, cond_no}
use Rattle.colours.specs.declared.Palette.{Palette}
use Rattle.colours.specs.Palette.{of_table, standard}
use Rattle.frame.specs.declared.Limits.{Limits}
use Rattle.frame.specs.declared.Refusal.{Refusal}
use Rattle.frame.specs.Numbers.{number_of}
use Rattle.meaning.specs.Calls.{setting_for, opens}
use Rattle.meaning.specs.Drawing.{house_limits, Setting, Outcome}
use Rattle.meaning.specs.Payload as meant
use Rattle.meaning.specs.Payload.{no_parameters}
use Rattle.meaning.specs.Sizes.{ReportFits}
use Rattle.meaning.proofs.AreaLaws.{opens-roomy, payload-sound, outcome_fits}
use Rattle.payload.specs.Results.{Finishing}
use Rattle.payload.specs.declared.Report.{Report}
use Rattle.payload.specs.declared.Settings.{Settings}
use Rattle.payload.specs.Core.{finished_over}
use Rattle.payload.specs.Deferred.{no_settings}
use Rattle.payload.specs.Meant.{limits_coded, given_meant, parameters_meant, limits_meant, setting_meant, report_meant, finish_meant}
use Rattle.payload.specs.Refusals.{openable}
use Rattle.oneshot.specs.OneShot.{Read, read_outcome, read_part, read_meant}
use Rattle.oneshot.proofs.PartLaws.{opens-meant}
use Rattle.timing.specs.Bench.{size_or_number, bench_decoded, SizeWithin}

-- ---- an answer's number

module _ {a : Finishing} (fits : SizeWithin a) where
  pub width_fits : {r : Report} → a ≡ Ok r → r.width ≤ 1024
  width_fits e = (subst SizeWithin e fits).0

  pub height-fits : {r : Report} → a ≡ Ok r → r.height ≤ 768
  height-fits e = (subst SizeWithin e fits).1

pub picture-number : {a : Finishing} {r : Report} (p : Palette) → a ≡ Ok r
    → r.width * 4294967296 + r.height ≡ size_or_number (finish_meant a p)
unfolding size_or_number finish_meant report_meant
picture-number p e = ap (λ (b : Finishing). size_or_number (finish_meant b p)) (sym e)

pub refused-number : {a : Finishing} {n : Refusal} {x : ℕ} (p : Palette) → a ≡ Err n → x ≡ number_of n
    → x ≡ size_or_number (finish_meant a p)
unfolding size_or_number finish_meant
refused-number p e k = k ∙ ap (λ (b : Finishing). size_or_number (finish_meant b p)) (sym e)

pub ruleset numbered = (width_fits, height-fits, picture-number, refused-number)

-- ---- what a finish answers

within-house : (s : Setting) (a : Finishing) (p : Palette) → s.limits ≡ house_limits → ReportFits s (finish_meant a p) → SizeWithin a
unfolding finish_meant report_meant
within-house s (Ok r) p e h =
    (subst (λ l. r.width ≤ l.width) e h.0.width, subst (λ l. r.height ≤ l.height) e h.0.height)
within-house s (Err n) p e h = tt

-- ---- the reading

module _ {t : Bool} (stride : ℕ) (canvas bytes : List ℕ) {l : Limits} (limits : l ≡ limits_coded house_limits)
    (e : t ≡ openable l stride (length canvas)) where
  known : opens house_limits stride (length canvas) ≡ t
  unfolding limits_meant
  known =
      sym
      (e
      ∙ ap (λ (k : Limits). openable k stride (length canvas)) limits
      ∙ opens-meant (limits_coded house_limits) stride (length canvas))

  pub bench-open : t ≡ true → openable l stride (length canvas) ≡ true
  bench-open h = sym e ∙ h

  -- 11
  pub bench-closed : t ≡ false → ◌≡◌ {A = ℕ × List ℕ} (11, canvas) (bench_decoded stride canvas bytes)
  unfolding bench_decoded
  bench-closed h = sym (cond_no _ _ (known ∙ h))

  module _ (h : t ≡ true) {o : Settings} (settings : o ≡ no_settings) {p lent : Palette} (palette : p ≡ standard) (table : lent ≡ p)
      (a : Finishing) (colors l₁ : List ℕ)
      (k : read_meant (finished_over a colors) l₁ ≡ read_part (setting_meant l stride (length canvas)) (parameters_meant o) lent canvas bytes) where
    abbrev setting : Setting
    setting = setting_for house_limits stride (length canvas)

    read : read_meant (finished_over a colors) l₁ ≡ read_part setting no_parameters standard canvas bytes
    unfolding no_settings setting_meant limits_meant parameters_meant given_meant
    read =
        k
        ∙ ap (λ (y : Settings). read_part (setting_meant l stride (length canvas)) (parameters_meant y) lent canvas bytes) settings
        ∙ ap (λ (y : Limits). read_part (setting_meant y stride (length canvas)) no_parameters lent canvas bytes) limits
        ∙ ap (λ (y : Palette). read_part setting no_parameters y canvas bytes) (table ∙ palette)

    abbrev outcome : Outcome
    outcome = meant.payload setting no_parameters standard bytes

    answer : finish_meant a (of_table colors) ≡ meant.finish no_parameters outcome
    unfolding read_meant read_part read_outcome
    answer = ap (λ (y : Read). y.answer) read

    pub bench-fits : SizeWithin a
    unfolding setting_for
    bench-fits =
        within-house setting a (of_table colors) refl
        (subst (ReportFits setting) (sym answer)
        (outcome_fits setting no_parameters outcome
        (payload-sound (opens-roomy house_limits stride (length canvas) (known ∙ h)) no_parameters standard bytes)))

    pub bench-read : {r : ℕ} → ((q : Palette) → r ≡ size_or_number (finish_meant a q))
        → (r, l₁) ≡ bench_decoded stride canvas bytes
    unfolding bench_decoded read_meant read_part read_outcome setting_for
    bench-read m =
        ap (λ (n : ℕ). (n, l₁)) (m (of_table colors))
        ∙ ap (λ (y : Read). (size_or_number y.answer, y.canvas)) read
        ∙ sym (cond_yes _ _ (known ∙ h))

-- the smallest allowance under the house's limits
pub house-least : {l : Limits} → l ≡ limits_coded house_limits → 6 * l.width ≤ 6144
house-least e = subst (λ (k : Limits). 6 * k.width ≤ 6144) (sym e) (omega arith)

pub ruleset benched = (house-least, bench-open, bench-closed, bench-fits, bench-read)
