-- Only one outcome, of every public function of `bins` (One.antt).
use Prim.Native.Nat.{ℕ}
use mathlib.Core.Bool.{cond}
use mathlib.Core.Option.{Option, none, some}
use mathlib.Core.Path.{◌≡◌, refl}
use lib.Dec.{eqb}
use Rattle.bins.specs.declared.Refusal.{Refusal}
use Rattle.bins.specs.declared.Refusal.TheVariants.{Misfit, Range, Outside}
use Rattle.bins.specs.declared.ColumnSpan.{ColumnSpan}
use Rattle.std.specs.Prelude as rust
use Rattle.std.specs.Prelude.{Result, Ok, Err, Some, None}
use Rattle.bins.specs.Bins.{number_of, Answer, told, refused}
use Rattle.bins.specs.Told.{bin_told, columns_told, row_told, top_told}
use Rattle.bins.proofs.number.Reads as number
use Rattle.bins.proofs.number.Kinds as number'
use Rattle.bins.proofs.bin.Reads as bin
use Rattle.bins.proofs.bin.Kinds as bin'
use Rattle.bins.proofs.columns.Reads as columns
use Rattle.bins.proofs.columns.Kinds as columns'
use Rattle.bins.proofs.top.Reads as top
use Rattle.bins.proofs.top.Kinds as top'
use Rattle.promises.proofs.Meanings.{known}
use Rattle.promises.proofs.One.{only, One}

-- ---- what is told says which answer it was

refusal_at : ℕ → Refusal
refusal_at n = cond (eqb n 12) Misfit (cond (eqb n 15) Range Outside)

refusal-back : (r : Refusal) → refusal_at (number_of r) ≡ r
unfolding number_of refusal_at
refusal-back Misfit = refl
refusal-back Range = refl
refusal-back Outside = refl

answer_from : {A B : Type 0} → (A → B) → Answer A → Result B Refusal
answer_from f (told a) = Ok (f a)
answer_from f (refused n) = Err (refusal_at n)

bin-back : (x : Result ℕ Refusal) → answer_from (λ n. n) (bin_told x) ≡ x
unfolding answer_from bin_told
bin-back (Ok n) = refl
bin-back (Err r) = rw (refusal-back r) refl

columns_from : ℕ × ℕ → ColumnSpan
columns_from x = record { first = x.0; last = x.1 }

columns-back : (x : Result ColumnSpan Refusal) → answer_from columns_from (columns_told x) ≡ x
unfolding answer_from columns_from columns_told
columns-back (Ok c) = refl
columns-back (Err r) = rw (refusal-back r) refl

row_from : Option ℕ → rust.Option ℕ
row_from none = None
row_from (some y) = Some y

top_back : (x : Result (rust.Option ℕ) Refusal) → answer_from row_from (top_told x) ≡ x
unfolding answer_from row_from top_told row_told
top_back (Ok (Some y)) = refl
top_back (Ok None) = refl
top_back (Err r) = rw (refusal-back r) refl

-- ---- the lines

pub number-one : One number'.ps number'.r number.Learnt
number-one κs a z z' e e' p q = only p q

pub bin-one : One bin'.ps bin'.r bin.Learnt
bin-one κs a z z' e e' p q = known (answer_from (λ n. n)) bin-back (only p q)

pub columns-one : One columns'.ps columns'.r columns.Learnt
columns-one κs a z z' e e' p q = known (answer_from columns_from) columns-back (only p q)

pub top-one : One top'.ps top'.r top.Learnt
top-one κs a z z' e e' p q = known (answer_from row_from) top_back (only p q)
