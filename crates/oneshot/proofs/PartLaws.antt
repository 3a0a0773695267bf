-- The part that is handed back.
use Rattle.std.specs.Prelude.{◌≡◌, ℕ, ◌-◌, Bool, true, false, List, [], length, take, drop, Ok, Err}
use mathlib.Core.Path.{sym, ap, ◌∙◌}
use native.Mathlib.Omega.{arith}
use lib.ListN.{length-drop}
use lib.Seq.{take_all}
use Rattle.numbers.proofs.Laws.{cond_yes, cond_no}
use Rattle.frame.specs.declared.Limits.{Limits}
use Rattle.frame.specs.declared.Refusal.{Refusal}
use Rattle.meaning.specs.Calls.{part_handed_back}
use Rattle.meaning.specs.OneShot.{part_of}
use Rattle.payload.specs.Refusals.{openable}
pub use Rattle.payload.proofs.Openings.{opens-meant}
use Rattle.oneshot.specs.declared.search.Found as search
use Rattle.payload.specs.Meant.{limits_meant}
use Rattle.oneshot.specs.OneShot.{found_meant}
use Rattle.oneshot.specs.Search.{Found, found_in}
use Rattle.oneshot.proofs.FoundLaws.{refused-part, found-meant, payload-within}

module _ {t : Bool} (l : Limits) (stride size : ℕ) (bytes : List ℕ) (e : t ≡ openable l stride size) where
  pub part-closed : t ≡ false → [] ≡ part_handed_back (limits_meant l) stride size bytes
  unfolding part_handed_back
  part-closed h = sym (cond_no _ _ (sym (opens-meant l stride size) ∙ sym e ∙ h))

  module _ {f : Found} (h : t ≡ true) (k : f ≡ found_in bytes) where
    part-open : part_of (found_meant bytes f) ≡ part_handed_back (limits_meant l) stride size bytes
    unfolding part_handed_back
    part-open =
        ap (λ (x : Found). part_of (found_meant bytes x)) k
        ∙ ap part_of (found-meant bytes)
        ∙ sym (cond_yes _ _ (sym (opens-meant l stride size) ∙ sym e ∙ h))

    pub part-found : {x : search.Found} → f ≡ Ok x
        → take (length bytes - x.from) (drop x.from bytes) ≡ part_handed_back (limits_meant l) stride size bytes
    unfolding part_of found_meant
    part-found {x} m =
        take_all (length bytes - x.from) (drop x.from bytes) (rw (length-drop x.from bytes) (omega arith))
        ∙ ap (λ (x : Found). part_of (found_meant bytes x)) (sym m)
        ∙ part-open

    pub part-refused : {n : Refusal} → f ≡ Err n → [] ≡ part_handed_back (limits_meant l) stride size bytes
    part-refused {n} m = sym (refused-part bytes n) ∙ ap (λ (x : Found). part_of (found_meant bytes x)) (sym m) ∙ part-open

pub ruleset parts = (payload-within, part-closed, part-found, part-refused)

-- ---- its length

module _ {t : Bool} (l : Limits) (stride size : ℕ) (bytes : List ℕ) (e : t ≡ openable l stride size) where
  pub size-closed : t ≡ false → 0 ≡ length (part_handed_back (limits_meant l) stride size bytes)
  size-closed h = ap length (part-closed l stride size bytes e h)

  module _ {f : Found} (h : t ≡ true) (k : f ≡ found_in bytes) where
    pub size-found : {x : search.Found} → f ≡ Ok x
        → length bytes - x.from ≡ length (part_handed_back (limits_meant l) stride size bytes)
    size-found {x} m =
        sym (length-drop x.from bytes)
        ∙ ap length
        (sym (take_all (length bytes - x.from) (drop x.from bytes) (rw (length-drop x.from bytes) (omega arith)))
        ∙ part-found l stride size bytes e h k m)

    pub size-refused : {n : Refusal} → f ≡ Err n → 0 ≡ length (part_handed_back (limits_meant l) stride size bytes)
    size-refused m = ap length (part-refused l stride size bytes e h k m)

pub ruleset sizes = (size-closed, size-found, size-refused)
