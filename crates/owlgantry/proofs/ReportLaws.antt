-- What a finish answers as numbers, and reading all at once: one law for each path.
use Rattle.std.specs.Prelude.{◌≡◌, ℕ, ◌-◌, ◌≤◌, Bool, true, false, cond, List, [], ◌∷◌, length, Ok, Err}
use native.Mathlib.Omega.{arith}
use mathlib.Core.Path.{refl, sym, ap, ap₂, subst, ◌∙◌}
use lib.ListN.{length-drop}
use mir.Val.{bool_byte}
use Rattle.colours.specs.declared.Palette.{Palette}
use Rattle.colours.specs.Palette.{of_table, standard}
use Rattle.frame.specs.declared.Limits.{Limits}
use Rattle.meaning.specs.Calls.{opens, part_handed_back}
use Rattle.meaning.specs.OneShot as meaning
use Rattle.meaning.specs.Payload as meant
use Rattle.meaning.proofs.AreaLaws.{cond-case}
use Rattle.payload.specs.Results.{Finishing}
use Rattle.payload.specs.declared.Report.{Report}
use Rattle.payload.specs.Core.{finished_over}
use Rattle.payload.specs.Meant.{ratio_meant, limits_meant, report_meant, finish_meant}
use Rattle.oneshot.specs.OneShot.{found_meant, Read, read_whole, read_meant}
use Rattle.oneshot.specs.Search.{Found, found_in}
use Rattle.oneshot.proofs.FoundLaws.{refused-part, found-meant}
use Rattle.owlgantry.specs.Reading.{ratio_kind, ratio_number, report_numbers, refusal_number, sixel_read}

-- ---- by the cases of an enum

-- what is told of a value is told of the case that it is: every number and every report is proved by this
pub by-case : {A B : Type 0} (f : A → B) {r : B} {x other : A} → x ≡ other → r ≡ f other → r ≡ f x
by-case f e k = k ∙ ap f (sym e)

-- a finish's number, whatever the owner's palette
pub refusal-as : {r : ℕ} {a other : Finishing} (p : Palette)
    → a ≡ other → r ≡ refusal_number (finish_meant other p) → r ≡ refusal_number (finish_meant a p)
refusal-as p = by-case (λ (x : Finishing). refusal_number (finish_meant x p))

-- ---- a report

as_number : (t : Bool) → bool_byte t ≡ cond t 1 0
as_number true = refl
as_number false = refl

-- a picture's numbers, by the ratio's two and the background's
abbrev picture-numbers : Report → ℕ → ℕ → ℕ → ℕ → ℕ → List ℕ
picture-numbers x kind number clear place part =
    x.width
    ∷ x.height
    ∷ x.right
    ∷ x.bottom
    ∷ kind
    ∷ number
    ∷ clear
    ∷ x.defined
    ∷ x.declared_width
    ∷ x.declared_height
    ∷ x.held
    ∷ place
    ∷ part
    ∷ []

pub report-picture : {a : Finishing} {x : Report} {k n : ℕ} (p : Palette) (place part : ℕ)
    → a ≡ Ok x → k ≡ ratio_kind (ratio_meant x.ratio) → n ≡ ratio_number (ratio_meant x.ratio)
    → picture-numbers x k n (bool_byte x.transparent) place part ≡ report_numbers (finish_meant a p) place part
unfolding report_numbers finish_meant report_meant
report-picture {x = x} p place part e k n =
    ap₂ (λ (i j : ℕ). picture-numbers x i j (bool_byte x.transparent) place part) k n
    ∙ ap (λ (b : ℕ). picture-numbers x (ratio_kind (ratio_meant x.ratio)) (ratio_number (ratio_meant x.ratio)) b place part)
    (as_number x.transparent)
    ∙ ap (λ (y : Finishing). report_numbers (finish_meant y p) place part) (sym e)

pub report-as : {r : List ℕ} {a other : Finishing} (p : Palette) (place part : ℕ)
    → a ≡ other → r ≡ report_numbers (finish_meant other p) place part
    → r ≡ report_numbers (finish_meant a p) place part
report-as p place part = by-case (λ (x : Finishing). report_numbers (finish_meant x p) place part)

pub ruleset reported = (report-picture, report-as)

-- ---- the standard palette

pub standard-table : (t : List ℕ) {p : Palette} → of_table t ≡ p → p ≡ standard → of_table t ≡ standard
standard-table t e k = e ∙ k

-- ---- reading all at once

found-short : (bytes : List ℕ) (f : Found) → length (meaning.part_of (found_meant bytes f)) ≤ length bytes
unfolding meaning.part_of found_meant
found-short bytes (Ok x) = rw (length-drop x.from bytes) (omega arith)
found-short bytes (Err n) = rw (refused-part bytes n) (omega arith)

-- the part is no longer than the bytes
pub part-short : (l : Limits) (stride size : ℕ) (bytes : List ℕ) {part : ℕ}
    → part ≡ length (part_handed_back (limits_meant l) stride size bytes) → part ≤ length bytes
unfolding part_handed_back
part-short l stride size bytes e =
    subst (λ (n : ℕ). n ≤ length bytes) (sym e)
    (cond-case (λ (us : List ℕ). length us ≤ length bytes) (opens (limits_meant l) stride size)
    (λ _. subst (λ (f : meaning.Found). length (meaning.part_of f) ≤ length bytes) (found-meant bytes)
    (found-short bytes (found_in bytes)))
    (λ _. omega arith))

-- the limits that the caller gave as four numbers
abbrev four : ℕ → ℕ → ℕ → ℕ → Limits
four w h m n = record { width = w; height = h; repeats = m; pixels = n }

pub read_out : (w h m n stride : ℕ) (canvas bytes table : List ℕ) {part : ℕ} (a : Finishing) (l₁ after : List ℕ) {r : ℕ} {report : List ℕ}
    → read_meant (finished_over a after) l₁ ≡ read_whole (limits_meant (four w h m n)) stride (of_table table) canvas bytes
    → part ≡ length (part_handed_back (limits_meant (four w h m n)) stride (length canvas) bytes)
    → ((p : Palette) → report ≡ report_numbers (finish_meant a p) (length bytes - part) part)
    → ((p : Palette) → r ≡ refusal_number (finish_meant a p))
    → (r, l₁, of_table after, report)
    ≡ sixel_read (record { width = w; height = h; repeats = m; pixels = n }) stride canvas bytes (of_table table)
unfolding sixel_read read_meant limits_meant
read_out w h m n stride canvas bytes table {part} a l₁ after {r} {report} read handed reports answers =
    ap (λ (i : ℕ). (i, l₁, of_table after, report)) (answers (of_table after))
    ∙ ap (λ (us : List ℕ). (number, l₁, of_table after, us)) (reports (of_table after))
    ∙ ap (λ (k : ℕ). (number, l₁, of_table after, with_part answer k)) handed
    ∙ ap (λ (y : Read). (refusal_number y.answer, y.canvas, y.palette, with_part y.answer (length given))) read
  where
    given : List ℕ
    given = part_handed_back (record { width = w; height = h; repeats = m; pixels = n }) stride (length canvas) bytes

    answer : meant.Finished
    answer = finish_meant a (of_table after)

    number : ℕ
    number = refusal_number answer

    -- the report with a part, which reaches to the end of the bytes
    with_part : meant.Finished → ℕ → List ℕ
    with_part y k = report_numbers y (length bytes - k) k
