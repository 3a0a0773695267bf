-- What the code's answers tell, in the definition's terms.
use Rattle.std.specs.Prelude as rust
use Rattle.std.specs.Prelude.{ℕ, cond, Result, Ok, Err, Some, None}
use Rattle.std.proofs.Math.Option.{Option, none, some}
use Rattle.bins.specs.declared.Shape.{Shape}
use Rattle.bins.specs.declared.Setting.{Setting}
use Rattle.bins.specs.declared.ColumnSpan.{ColumnSpan}
use Rattle.bins.specs.declared.Refusal.{Refusal}
use Rattle.bins.specs.Bins.{number_of, Answer, told, refused, picture_fits, setting_fits}

unfoldable pub bin_told : Result ℕ Refusal → Answer ℕ
unfolding number_of
bin_told (Ok n) = told n
bin_told (Err r) = refused (number_of r)

unfoldable pub columns_told : Result ColumnSpan Refusal → Answer (ℕ × ℕ)
unfolding number_of
columns_told (Ok c) = told (c.first, c.last)
columns_told (Err r) = refused (number_of r)

-- a row, or none
unfoldable pub row_told : rust.Option ℕ → Option ℕ
row_told (Some y) = some y
row_told None = none

unfoldable pub top_told : Result (rust.Option ℕ) Refusal → Answer (Option ℕ)
unfolding number_of row_told
top_told (Ok row) = told (row_told row)
top_told (Err r) = refused (number_of r)

-- ---- of the private functions: what is judged before a question is looked at

unfoldable pub judged_as : Result (Unit {0}) Refusal → Option ℕ
unfolding number_of
judged_as (Ok _) = none
judged_as (Err r) = some (number_of r)

-- 12, then 15
unfoldable pub judgement : Shape → ℕ → Setting → Option ℕ
judgement p length s =
    cond (picture_fits p length) (cond (setting_fits s p.width) none (some 15)) (some 12)
