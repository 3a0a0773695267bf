-- A session in numbers and registers: what the functions come to, and the round trip: a session read back is the same.
use Rattle.std.specs.Prelude.{◌≡◌, ℕ, ◌+◌, ◌%◌, ◌<◌, ◌≤◌, cond, ltb, List, get_or, set}
use native.Mathlib.Omega.{arith}
use mathlib.Core.Path.{refl, sym, ap, ◌∙◌}
use borrow.Author.Tests.{lt-ltb, le-ltb, ne_eqb}
use Rattle.numbers.specs.declared.Parameters.{Parameters}
use Rattle.numbers.specs.Memory as parameters
use Rattle.numbers.proofs.Laws.{cond_yes, cond_no}
use Rattle.numbers.proofs.MemoryLaws.{from-numbers}
use Rattle.frame.specs.declared.Frame.{Frame}
use Rattle.payload.specs.declared.Life.{Life}
use Rattle.payload.specs.declared.kernel.Setup.{Setup}
use Rattle.payload.specs.Codes.{life_from}
use Rattle.payload.specs.Memory as payload
use Rattle.payload.proofs.MemoryLaws.{session-back}
use Rattle.dcs.specs.declared.Ending.{Ending}
use Rattle.dcs.specs.declared.Ending.TheVariants as endings
use Rattle.dcs.specs.declared.Phase.{Phase}
use Rattle.dcs.specs.declared.Phase.TheVariants as phases
use Rattle.dcs.specs.declared.Session.{Session}
use Rattle.dcs.specs.declared.kernel.Core.{Core}
use Rattle.header.specs.declared.Place.{Place}
use Rattle.header.specs.declared.Place.TheVariants as places
use Rattle.dcs.specs.Memory.{place_number, ending_number, phase_number, phase_from, nine_written, numbers_of, table_of, core_from, session_from, EndingRanged, PhaseRanged, Ranged}

-- ---- what the functions come to

pub place-as : {r : ℕ} {x other : Place} → x ≡ other → r ≡ place_number other → r ≡ place_number x
place-as e k = k ∙ ap place_number (sym e)

pub ending-as : {r : ℕ} {x other : Ending} → x ≡ other → r ≡ ending_number other → r ≡ ending_number x
ending-as e k = k ∙ ap ending_number (sym e)

pub phase-as : {r : ℕ} {x other : Phase} → x ≡ other → r ≡ phase_number other → r ≡ phase_number x
phase-as e k = k ∙ ap phase_number (sym e)

pub ruleset codes_as = (place-as, ending-as, phase-as)

pub numbers-told : (s : Session) {a vs : List ℕ} {k : ℕ}
    → vs ≡ parameters.numbers_of s.header → a ≡ payload.numbers_of s.payload → k ≡ phase_number s.phase
    → nine_written (set a 34 k) 35 vs ≡ numbers_of s
unfolding numbers_of nine_written payload.numbers_of payload.own_numbers payload.ground_numbers payload.frame_numbers
    payload.pen_numbers payload.area_numbers payload.extent_numbers payload.raster_numbers payload.command_numbers parameters.numbers_of
numbers-told s ev ea ek = rw (ev, ea, ek) refl

pub core-of : (ns : List ℕ) {u : Setup} {life : Life} {f : Frame} {h : Parameters} {t : Phase}
    → h ≡ parameters.parameters_from (payload.nine_from ns 35) → t ≡ phase_from (get_or ns 34 0) → u ≡ payload.setup_from ns
    → life ≡ life_from (get_or ns 10 0) → f ≡ payload.frame_from ns
    → ◌≡◌ {A = Core} (record { setup = u; life = life; frame = f; header = h; phase = t }) (core_from ns)
unfolding core_from
core-of ns eh et eu el ef = rw (eh, et, eu, el, ef) refl

-- ---- the round trip

-- from 256 on a number is an ending with its byte
late : (n : ℕ) → 256 ≤ n
    → phase_from n ≡ cond (ltb n 512) (phases.Over (endings.Cancelled (n % 256))) (phases.Over (endings.Interrupted (n % 256)))
unfolding phase_from
late n h =
    cond_no _ _ (ne_eqb n 0 (λ e. omega arith))
    ∙ cond_no _ _ (ne_eqb n 1 (λ e. omega arith))
    ∙ cond_no _ _ (ne_eqb n 2 (λ e. omega arith))
    ∙ cond_no _ _ (ne_eqb n 3 (λ e. omega arith))
    ∙ cond_no _ _ (ne_eqb n 4 (λ e. omega arith))
    ∙ cond_no _ _ (le-ltb n 256 h)

cancelled-back : (b : ℕ) → b < 256 → phase_from (b + 256) ≡ phases.Over (endings.Cancelled b)
cancelled-back b h =
    let back : (b + 256) % 256 ≡ b = omega arith in
    late (b + 256) (omega arith)
    ∙ cond_yes _ _ (lt-ltb (b + 256) 512 (omega arith))
    ∙ ap (λ (n : ℕ). phases.Over (endings.Cancelled n)) back

interrupted-back : (b : ℕ) → b < 256 → phase_from (b + 512) ≡ phases.Over (endings.Interrupted b)
interrupted-back b h =
    let back : (b + 512) % 256 ≡ b = omega arith in
    late (b + 512) (omega arith)
    ∙ cond_no _ _ (le-ltb (b + 512) 512 (omega arith))
    ∙ ap (λ (n : ℕ). phases.Over (endings.Interrupted n)) back

before_back : (t : Place) → phase_from (place_number t) ≡ phases.Before t
unfolding phase_from place_number
before_back places.Start = refl
before_back places.Introduced = refl
before_back places.Header = refl

complete-back : phase_from 5 ≡ phases.Over endings.Complete
unfolding phase_from
complete-back = refl

over-back : (e : Ending) → EndingRanged e → phase_from (ending_number e) ≡ phases.Over e
unfolding ending_number
over-back endings.Complete h = complete-back
over-back (endings.Cancelled b) h = cancelled-back b h
over-back (endings.Interrupted b) h = interrupted-back b h

phase-back : (t : Phase) → PhaseRanged t → phase_from (phase_number t) ≡ t
unfolding phase_number phase_from
phase-back (phases.Before t) h = before_back t
phase-back phases.Within h = refl
phase-back phases.Escaped h = refl
phase-back (phases.Over e) h = over-back e h

-- the law: a session in memory is the session
pub from-memory : (s : Session) → Ranged s → session_from (numbers_of s) (table_of s) ≡ s
unfolding session_from numbers_of payload.nine_from payload.own_numbers payload.ground_numbers payload.frame_numbers
    payload.pen_numbers payload.area_numbers payload.extent_numbers payload.raster_numbers payload.command_numbers parameters.numbers_of
from-memory s h = rw (session-back s.payload _ refl h.payload, from-numbers s.header h.header, phase-back s.phase h.phase) refl
