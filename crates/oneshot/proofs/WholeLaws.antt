-- Reading all at once: one law for each path through it.
use Rattle.std.specs.Prelude.{◌≡◌, ℕ, ◌-◌, ◌*◌, ◌≤◌, Bool, true, false, cond, eqb, List, [], length, take, drop, Ok, Err}
use mathlib.Core.Path.{refl, sym, ap, ◌∙◌}
use native.Mathlib.Omega.{arith}
use borrow.Author.Tests.{eqb-true}
use Rattle.colours.specs.declared.Palette.{Palette}
use Rattle.colours.specs.Palette.{of_table}
use Rattle.frame.specs.Numbers.{number_of}
use Rattle.frame.specs.declared.Limits.{Limits}
use Rattle.frame.specs.declared.Refusal.{Refusal}
use Rattle.frame.specs.declared.Refusal.TheVariants as refusals
use Rattle.agreement.proofs.Finish.{opens-bounded}
use Rattle.meaning.specs.Calls.{opens, setting_for, shown, drawing_found, one_shot_shown, read_one_shot, part_handed_back}
use Rattle.meaning.specs.Drawing as drawing
use Rattle.meaning.specs.Drawing.{Setting}
use Rattle.meaning.specs.OneShot as meaning
use Rattle.meaning.specs.Payload as meant
use Rattle.meaning.proofs.AreaLaws.{cond-case}
use Rattle.payload.specs.Results.{Finishing}
use Rattle.payload.specs.Core.{finished_over}
use Rattle.payload.specs.Meant.{parameters_meant, limits_meant, setting_meant, finish_meant}
use Rattle.payload.specs.Refusals.{openable}
use Rattle.payload.proofs.Openings.{opens-meant}
use Rattle.oneshot.specs.declared.Reading.{Reading}
use Rattle.oneshot.specs.declared.search.Found as search
use Rattle.oneshot.specs.OneShot.{unfound_meant, found_meant, Read, palette_after, read_whole, read_outcome, read_part, read_meant}
use Rattle.oneshot.specs.Search.{Found, found_in}
use Rattle.oneshot.proofs.FoundLaws.{found-meant, payload-within}
use Rattle.oneshot.proofs.FeedLaws.{rest_all}

-- what was found, read
found_read : Setting → Palette → List ℕ → meaning.Found → Read
found_read s p canvas f =
    record {
      answer = meaning.answer_of s p f;
      palette = palette_after (meaning.answer_of s p f) p;
      canvas = shown s.stride (drawing_found s p f) canvas;
    }

-- a refusal, read: its number, and palette and canvas are as they were
unfound-read : (s : Setting) (p : Palette) (canvas : List ℕ) (n : ℕ)
    → found_read s p canvas (unfound_meant n) ≡ record { answer = meant.turned_down n; palette = p; canvas = canvas }
unfolding found_read unfound_meant meaning.answer_of drawing_found shown palette_after
unfound-read s p canvas n =
    cond-case (λ (f : meaning.Found). found_read s p canvas f ≡ left n) (eqb n 8) (λ e. ap left (sym (eqb-true n 8 e))) (λ _. refl)
  where
    left : ℕ → Read
    left m = record { answer = meant.turned_down m; palette = p; canvas = canvas }

-- where no session can be opened
not_opened : Palette → List ℕ → Read
not_opened p canvas = record { answer = meant.turned_down 11; palette = p; canvas = canvas }

-- what it comes to, by whether a session can be opened
module _ {t : Bool} (l : drawing.Limits) (stride : ℕ) (p : Palette) (canvas bytes : List ℕ) (e : opens l stride (length canvas) ≡ t) where
  by-opening : cond t (found_read (setting_for l stride (length canvas)) p canvas (meaning.find_payload bytes)) (not_opened p canvas)
      ≡ read_whole l stride p canvas bytes
  unfolding found_read not_opened read_whole read_one_shot one_shot_shown meaning.one_shot setting_for palette_after
  by-opening =
      go t
      ∙ ap (λ (u : Bool). read_in (cond u answered (meant.turned_down 11))
      (cond u (shown stride (drawing_found setting p found) canvas) canvas)) (sym e)
    where
      setting : Setting
      setting = setting_for l stride (length canvas)

      found : meaning.Found
      found = meaning.find_payload bytes

      answered : meant.Finished
      answered = meaning.answer_of setting p found

      read_in : meant.Finished → List ℕ → Read
      read_in a c = record { answer = a; palette = palette_after a p; canvas = c }

      go : (u : Bool) → cond u (found_read setting p canvas found) (not_opened p canvas)
          ≡ read_in (cond u answered (meant.turned_down 11)) (cond u (shown stride (drawing_found setting p found) canvas) canvas)
      go true = refl
      go false = refl

  handed : cond t (meaning.part_of (meaning.find_payload bytes)) [] ≡ part_handed_back l stride (length canvas) bytes
  unfolding part_handed_back
  handed = ap (λ (u : Bool). cond u (meaning.part_of (meaning.find_payload bytes)) []) (sym e)

-- ---- the part and the answer agree

module _ (l : drawing.Limits) (stride : ℕ) (p : Palette) (canvas bytes : List ℕ) where
  -- where a payload is found, the part that is handed back is the part that is read, with its parameters
  pub part-read : {o : meant.Parameters} {part : List ℕ}
      → opens l stride (length canvas) ≡ true → meaning.find_payload bytes ≡ meaning.found o part
      → (part_handed_back l stride (length canvas) bytes ≡ part)
      × (read_whole l stride p canvas bytes ≡ read_part (setting_for l stride (length canvas)) o p canvas part)
  unfolding found_read read_part read_outcome meaning.answer_of meaning.part_of drawing_found
  part-read e f = (
    sym (handed l stride p canvas bytes e) ∙ ap meaning.part_of f,
    sym (by-opening l stride p canvas bytes e) ∙ ap (found_read (setting_for l stride (length canvas)) p canvas) f,
  )

  -- where none is, or no session can be opened, the part is empty, the answer is the refusal, and palette and canvas are as they were
  pub part-lacking : opens l stride (length canvas) ≡ true → meaning.find_payload bytes ≡ meaning.lacking
      → (part_handed_back l stride (length canvas) bytes ≡ [])
      × (read_whole l stride p canvas bytes ≡ record { answer = meant.turned_down 8; palette = p; canvas = canvas })
  unfolding found_read palette_after shown meaning.answer_of meaning.part_of drawing_found
  part-lacking e f = (
    sym (handed l stride p canvas bytes e) ∙ ap meaning.part_of f,
    sym (by-opening l stride p canvas bytes e) ∙ ap (found_read (setting_for l stride (length canvas)) p canvas) f,
  )

  pub part-missing : {n : ℕ} → opens l stride (length canvas) ≡ true → meaning.find_payload bytes ≡ meaning.refused_with n
      → (part_handed_back l stride (length canvas) bytes ≡ [])
      × (read_whole l stride p canvas bytes ≡ record { answer = meant.turned_down n; palette = p; canvas = canvas })
  unfolding found_read palette_after shown meaning.answer_of meaning.part_of drawing_found
  part-missing e f = (
    sym (handed l stride p canvas bytes e) ∙ ap meaning.part_of f,
    sym (by-opening l stride p canvas bytes e) ∙ ap (found_read (setting_for l stride (length canvas)) p canvas) f,
  )

  pub part-unopened : opens l stride (length canvas) ≡ false
      → (part_handed_back l stride (length canvas) bytes ≡ [])
      × (read_whole l stride p canvas bytes ≡ record { answer = meant.turned_down 11; palette = p; canvas = canvas })
  unfolding not_opened
  part-unopened e = (sym (handed l stride p canvas bytes e), sym (by-opening l stride p canvas bytes e))

-- ---- one law for each path through the code

module _ {t : Bool} (l : Limits) (stride : ℕ) (p : Palette) (canvas bytes : List ℕ) (e : t ≡ openable l stride (length canvas)) where
  known : opens (limits_meant l) stride (length canvas) ≡ t
  known = sym (e ∙ opens-meant l stride (length canvas))

  -- the outcome, where a session can be opened and where it can't
  abbrev whether : Bool → Read
  whether u =
      cond u (found_read (setting_meant l stride (length canvas)) p canvas (meaning.find_payload bytes)) (not_opened p canvas)

  coded : whether t ≡ read_whole (limits_meant l) stride p canvas bytes
  unfolding setting_meant
  coded = by-opening (limits_meant l) stride p canvas bytes known

  pub open-known : t ≡ true → openable l stride (length canvas) ≡ true
  open-known h = sym e ∙ h

  -- the largest allowance is at least 6W
  pub open-wide : t ≡ true → 6 * l.width ≤ 18446744073709551615
  unfolding setting_for limits_meant
  open-wide h = omega (arith, (opens-bounded (limits_meant l) stride (length canvas) (known ∙ h)).width)

  -- 11
  pub whole-unopened : t ≡ false
      → read_meant (record { answer = Err refusals.Opening; palette = p }) canvas ≡ read_whole (limits_meant l) stride p canvas bytes
  unfolding read_meant finish_meant number_of not_opened
  whole-unopened h = ap whether (sym h) ∙ coded

  module _ {f : Found} (h : t ≡ true) (g : f ≡ found_in bytes) where
    found-whole : found_read (setting_meant l stride (length canvas)) p canvas (found_meant bytes f)
        ≡ read_whole (limits_meant l) stride p canvas bytes
    found-whole =
        ap (found_read (setting_meant l stride (length canvas)) p canvas) (ap (found_meant bytes) g ∙ found-meant bytes)
        ∙ ap whether (sym h)
        ∙ coded

    -- 2, 3 or 8
    pub whole-refused : {n : Refusal} → f ≡ Err n
        → read_meant (record { answer = Err n; palette = p }) canvas ≡ read_whole (limits_meant l) stride p canvas bytes
    unfolding read_meant finish_meant found_meant
    whole-refused {n} k =
        sym (unfound-read (setting_meant l stride (length canvas)) p canvas (number_of n))
        ∙ ap (λ (x : Found). found_read (setting_meant l stride (length canvas)) p canvas (found_meant bytes x)) (sym k)
        ∙ found-whole

    -- a payload
    pub whole-found : {y : search.Found} {x : Read} → f ≡ Ok y
        → x ≡ read_part (setting_meant l stride (length canvas)) (parameters_meant y.settings) p canvas
        (take (length bytes - y.from) (drop y.from bytes))
        → x ≡ read_whole (limits_meant l) stride p canvas bytes
    unfolding read_part read_outcome found_read found_meant meaning.answer_of drawing_found
    whole-found {y} k m =
        m
        ∙ ap (read_part (setting_meant l stride (length canvas)) (parameters_meant y.settings) p canvas) (rest_all bytes y.from)
        ∙ ap (λ (x : Found). found_read (setting_meant l stride (length canvas)) p canvas (found_meant bytes x)) (sym k)
        ∙ found-whole

-- a refusal, and no part
pub turned : {r : Reading} {n : Refusal} (colors canvas : List ℕ) {x : Read} {size : ℕ} → r ≡ record { answer = Err n; part = 0 }
    → read_meant (finished_over (Err n) colors) canvas ≡ x → 0 ≡ size
    → (read_meant (finished_over r.answer colors) canvas ≡ x) × (r.part ≡ size)
turned colors canvas e h k = rw e (h, k)

-- ---- a reading by value

-- is the reading over the registers of its palette
pub whole-value : (a : Finishing) (colors canvas : List ℕ) {p after lent : Palette} (l : Limits) (stride : ℕ) (opening bytes : List ℕ)
    → lent ≡ p → read_meant (finished_over a colors) canvas ≡ read_whole (limits_meant l) stride lent opening bytes → after ≡ of_table colors
    → read_meant (record { answer = a; palette = after }) canvas ≡ read_whole (limits_meant l) stride p opening bytes
whole-value a colors canvas l stride opening bytes lent e after = rw (after, ← lent) e

pub ruleset wholes = (payload-within, open-known, open-wide, whole-unopened, whole-refused, whole-found)
