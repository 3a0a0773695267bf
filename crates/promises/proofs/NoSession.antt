-- A session in the caller's memory, when it is none: 48 zeros, which is also what a finish leaves. Every call over it is 9.
use Prim.Native.Nat.{ℕ}
use mathlib.Core.List.{List, ◌++◌}
use mathlib.Core.Path.{◌≡◌, refl, ap, ◌∙◌}
use lib.ListN.{replicate}
use Rattle.numbers.specs.Memory as parameters
use Rattle.colours.specs.Packing.{packed}
use Rattle.colours.specs.Palette.{of_table}
use Rattle.frame.specs.declared.Refusal.TheVariants as refusals
use Rattle.frame.specs.Numbers.{number_of}
use Rattle.payload.specs.Codes.{given_from, life_from, given_number, life_number, color_number, color_from, kind_number, kind_from}
use Rattle.payload.specs.Refusals.{is_failed, feed_judged, finish_judged}
use Rattle.payload.specs.Memory.{numbers_of, own_numbers, ground_numbers, frame_numbers, pen_numbers, area_numbers, extent_numbers, raster_numbers, command_numbers, session_from, ground_from, settings_from, frame_from, pen_from, area_from, extent_from, raster_from, command_from, nine_from}
use Rattle.payload.specs.Session as payload_calls
use Rattle.dcs.specs.Memory as dcs_memory
use Rattle.dcs.specs.Session as dcs_calls
use Rattle.payload.specs.Meant.{finish_meant}
use Rattle.owlgantry.specs.Reading.{refusal_number}
use Rattle.owlgantry.specs.Sessions.{payload_fed_as, payload_fed, finished_as, payload_finished, dcs_fed_as, dcs_fed, dcs_finished}
use Rattle.owlgantry.proofs.SessionLaws.{payload-zeros, dcs-zeros}
use Rattle.promises.specs.Readers.{Told}

-- ---- no session

-- 48 zeros are a failed session, whose numbers are zeros again.
own-zeros : (ts : List ℕ) → own_numbers (session_from (replicate 48 0) ts) ≡ replicate 34 0
unfolding own_numbers ground_numbers frame_numbers pen_numbers area_numbers extent_numbers raster_numbers command_numbers
    parameters.numbers_of session_from ground_from settings_from frame_from pen_from area_from extent_from raster_from command_from nine_from
    parameters.parameters_from given_number given_from life_number life_from color_number color_from packed kind_number kind_from
own-zeros ts = refl

-- A feed, which is 9, leaves all as it was.
pub payload-zeros-stay : (ts canvas bytes : List ℕ) (allowance : ℕ)
    → ((payload_fed (replicate 48 0) ts canvas bytes allowance).1 ≡ replicate 48 0) × ((payload_fed (replicate 48 0) ts canvas bytes allowance).2 ≡ ts)
    × ((payload_fed (replicate 48 0) ts canvas bytes allowance).3 ≡ canvas)
unfolding payload_fed payload_fed_as payload_calls.fed_by payload_calls.fed_as feed_judged is_failed numbers_of session_from life_from of_table
payload-zeros-stay ts canvas bytes allowance = (ap (λ (ns : List ℕ). ns ++ replicate 14 0) (own-zeros ts), refl, refl)

pub dcs-zeros-stay : (ts canvas bytes : List ℕ) (allowance : ℕ)
    → ((dcs_fed (replicate 48 0) ts canvas bytes allowance).1 ≡ replicate 48 0) × ((dcs_fed (replicate 48 0) ts canvas bytes allowance).2 ≡ ts)
    × ((dcs_fed (replicate 48 0) ts canvas bytes allowance).3 ≡ canvas)
unfolding dcs_fed dcs_fed_as dcs_calls.fed_by dcs_calls.fed_as feed_judged is_failed
    dcs_memory.numbers_of dcs_memory.phase_number dcs_memory.place_number dcs_memory.session_from dcs_memory.phase_from
    parameters.numbers_of parameters.parameters_from nine_from session_from life_from of_table
dcs-zeros-stay ts canvas bytes allowance = (ap (λ (ns : List ℕ). ns ++ replicate 14 0) (own-zeros ts), refl, refl)

-- A finish is 9 too, and the owner's registers and the canvas are as they were.
payload-turned : (ts palette canvas : List ℕ)
    → payload_finished (replicate 48 0) ts palette canvas ≡ finished_as (payload_calls.turned_away (of_table palette) refusals.Failed canvas)
unfolding payload_finished payload_calls.finished_by payload_calls.finished_as finish_judged is_failed session_from life_from
payload-turned ts palette canvas = refl

dcs-turned : (ts palette canvas : List ℕ)
    → dcs_finished (replicate 48 0) ts palette canvas ≡ finished_as (payload_calls.turned_away (of_table palette) refusals.Failed canvas)
unfolding dcs_finished dcs_calls.finished_by dcs_calls.finished_as finish_judged is_failed dcs_memory.session_from session_from life_from
dcs-turned ts palette canvas = refl

pub payload-zeros-finish : (ts palette canvas : List ℕ) → (payload_finished (replicate 48 0) ts palette canvas).0 ≡ 9
unfolding finished_as payload_calls.turned_away finish_meant refusal_number number_of
payload-zeros-finish ts palette canvas = ap (λ (x : Told). x.0) (payload-turned ts palette canvas)

pub payload-zeros-leave : (ts palette canvas : List ℕ)
    → ((payload_finished (replicate 48 0) ts palette canvas).2 ≡ palette) × ((payload_finished (replicate 48 0) ts palette canvas).3 ≡ canvas)
unfolding finished_as payload_calls.turned_away of_table
payload-zeros-leave ts palette canvas =
    let e = payload-turned ts palette canvas in (ap (λ (x : Told). x.2) e, ap (λ (x : Told). x.3) e)

pub dcs-zeros-finish : (ts palette canvas : List ℕ) → (dcs_finished (replicate 48 0) ts palette canvas).0 ≡ 9
unfolding finished_as payload_calls.turned_away finish_meant refusal_number number_of
dcs-zeros-finish ts palette canvas = ap (λ (x : Told). x.0) (dcs-turned ts palette canvas)

pub dcs-zeros-leave : (ts palette canvas : List ℕ)
    → ((dcs_finished (replicate 48 0) ts palette canvas).2 ≡ palette) × ((dcs_finished (replicate 48 0) ts palette canvas).3 ≡ canvas)
unfolding finished_as payload_calls.turned_away of_table
dcs-zeros-leave ts palette canvas =
    let e = dcs-turned ts palette canvas in (ap (λ (x : Told). x.2) e, ap (λ (x : Told). x.3) e)

-- ---- after any finish, of whatever numbers

module _ (ns ts palette canvas : List ℕ) where
  -- its numbers are zeros
  pub payload-finish-clears : (payload_finished ns ts palette canvas).1 ≡ replicate 48 0
  unfolding payload_finished finished_as
  payload-finish-clears = refl

  pub dcs-finish-clears : (dcs_finished ns ts palette canvas).1 ≡ replicate 48 0
  unfolding dcs_finished finished_as
  dcs-finish-clears = refl

  -- so that a further call is 9, whatever registers and canvas are lent to it
  module _ (registers lent : List ℕ) where
    -- rule 5.8: a feed of a payload session
    pub payload-after-finish-feed : (bytes : List ℕ) (allowance : ℕ)
        → (payload_fed (payload_finished ns ts palette canvas).1 registers lent bytes allowance).0 ≡ 9
    payload-after-finish-feed bytes allowance =
        ap (λ (zs : List ℕ). (payload_fed zs registers lent bytes allowance).0) payload-finish-clears ∙ payload-zeros registers lent bytes allowance

    -- rule 5.8: its finish
    pub payload-after-finish-finish : (owner : List ℕ) → (payload_finished (payload_finished ns ts palette canvas).1 registers owner lent).0 ≡ 9
    payload-after-finish-finish owner =
        ap (λ (zs : List ℕ). (payload_finished zs registers owner lent).0) payload-finish-clears ∙ payload-zeros-finish registers owner lent

    -- rule 5.8: a feed of a DCS session
    pub dcs-after-finish-feed : (bytes : List ℕ) (allowance : ℕ) → (dcs_fed (dcs_finished ns ts palette canvas).1 registers lent bytes allowance).0 ≡ 9
    dcs-after-finish-feed bytes allowance =
        ap (λ (zs : List ℕ). (dcs_fed zs registers lent bytes allowance).0) dcs-finish-clears ∙ dcs-zeros registers lent bytes allowance

    -- rule 5.8: its finish
    pub dcs-after-finish-finish : (owner : List ℕ) → (dcs_finished (dcs_finished ns ts palette canvas).1 registers owner lent).0 ≡ 9
    dcs-after-finish-finish owner =
        ap (λ (zs : List ℕ). (dcs_finished zs registers owner lent).0) dcs-finish-clears ∙ dcs-zeros-finish registers owner lent
