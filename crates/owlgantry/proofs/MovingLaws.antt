-- Laws of moving over the caller's memory: the session that the memory holds then is the moved one.
use Rattle.std.specs.Prelude.{◌≡◌, ℕ, List, [], get_or, set, Ok, Err}
use mathlib.Core.Path.{sym, ap, ◌∙◌}
use Rattle.canvas.specs.Picture.{rows_of}
use Rattle.colours.specs.declared.Palette.{Palette}
use Rattle.colours.specs.Palette.{of_table}
use Rattle.frame.specs.declared.Frame.{Frame}
use Rattle.frame.specs.declared.Refusal.{Refusal}
use Rattle.payload.specs.declared.Life.{Life}
use Rattle.payload.specs.declared.kernel.Setup.{Setup}
use Rattle.payload.specs.Codes.{life_from}
use Rattle.payload.specs.Core as payload_parts
use Rattle.payload.specs.Memory as payload_memory
use Rattle.dcs.specs.declared.kernel.Core.{Core}
use Rattle.dcs.specs.Core as dcs_parts
use Rattle.dcs.specs.Memory as dcs_memory
use Rattle.frame.specs.declared.VisibleArea.{VisibleArea}
use Rattle.moving.specs.Session.{Moving}
use Rattle.moving.specs.Session as payload
use Rattle.moving.specs.DcsSession as dcs
use Rattle.owlgantry.specs.Sessions.{number_or_zero}
use Rattle.owlgantry.specs.Moving.{moving_report, placed, placed_as, moved_as, payload_moved, dcs_moved}
use Rattle.owlgantry.proofs.SessionCalls.{payload-held}

-- ---- the paths of the code

pub place-refused : {n : Refusal} (x : Moving) (ns : List ℕ) (stride length : ℕ) → x ≡ Err n → ns ≡ placed_as x ns stride length
unfolding placed_as
place-refused x ns stride length e = sym (ap (λ (y : Moving). placed_as y ns stride length) e)

pub place-done : {a : VisibleArea} {r : ℕ} (x : Moving) (ns : List ℕ) (stride length : ℕ) → x ≡ Ok a → r ≡ rows_of length stride
    → set (set (set ns 4 stride) 5 r) 7 length ≡ placed_as x ns stride length
unfolding placed_as placed
place-done x ns stride length e k =
    ap (λ (n : ℕ). set (set (set ns 4 stride) 5 n) 7 length) k ∙ sym (ap (λ (y : Moving). placed_as y ns stride length) e)

pub ruleset placing = (place-refused, place-done)

-- a move of the session that the memory holds, in parts
pub payload-moved : (ns : List ℕ) (stride length : ℕ) {u : Setup} {life : Life} {f : Frame} {x : Moving} {ns' report : List ℕ} {r : ℕ}
    → u ≡ payload_memory.setup_from ns → life ≡ life_from (get_or ns 10 0) → f ≡ payload_memory.frame_from ns
    → ((p : Palette) → x ≡ payload.move_answer (payload_parts.over u life f p) stride length)
    → ns' ≡ placed_as x ns stride length → report ≡ moving_report x → r ≡ number_or_zero x
    → (r, ns', report) ≡ payload_moved ns stride length
unfolding payload_moved moved_as of_table
payload-moved ns stride length eu el ef e en ep er =
    let told = e (of_table []) ∙ ap (λ s. payload.move_answer s stride length) (payload-held ns [] eu el ef) in
    rw (er, en, ep) (ap (λ (y : Moving). moved_as y ns stride length) told)

pub dcs-moved : (ns : List ℕ) (stride length : ℕ) {c : Core} {x : Moving} {ns' report : List ℕ} {r : ℕ} → c ≡ dcs_memory.core_from ns
    → ((p : Palette) → x ≡ dcs.move_answer (dcs_parts.over c p) stride length)
    → ns' ≡ placed_as x ns stride length → report ≡ moving_report x → r ≡ number_or_zero x
    → (r, ns', report) ≡ dcs_moved ns stride length
unfolding dcs_moved moved_as of_table dcs_memory.core_from dcs_memory.session_from payload_memory.session_from payload_memory.setup_from
dcs-moved ns stride length k e en ep er =
    let told = e (of_table []) ∙ ap (λ (c : Core). dcs.move_answer (dcs_parts.over c (of_table [])) stride length) k in
    rw (er, en, ep) (ap (λ (y : Moving). moved_as y ns stride length) told)
