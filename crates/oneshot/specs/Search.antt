-- Where the search for a payload comes to, on the code's own records.
use Rattle.std.specs.Prelude.{ℕ, ◌+◌, cond, ◌&&◌, List, [], ◌∷◌, drop, ◌==◌, nat_lt, slice_index, Option, Some, None, Result, Ok, Err}
use Rattle.numbers.specs.Step.{opened}
use Rattle.frame.specs.declared.Refusal.{Refusal}
use Rattle.frame.specs.declared.Refusal.TheVariants.{Unfinished}
use Rattle.payload.specs.Deferred.{no_settings}
use Rattle.header.specs.declared.Lead.{Lead}
use Rattle.header.specs.Results.{Led}
use Rattle.header.specs.declared.Led.TheVariants as leds
use Rattle.header.specs.declared.Place.TheVariants as places
use Rattle.header.specs.Lead.{lead_from}
use Rattle.header.specs.Settings.{settings_from}
use Rattle.oneshot.specs.declared.search.Found as search

-- what the search hands back, by name: the place of a header's first byte, or none; and what is found, or the header's refusal
abbrev pub Start : Type 0
Start = Option ℕ

abbrev pub Found : Type 0
Found = Result search.Found Refusal

-- how many bytes the introducer at the front has: 90, or 1B `P`; 0 where there is none
unfoldable pub introducer_at : List ℕ → ℕ
introducer_at [] = 0
introducer_at (b ∷ bs) = cond (b == 0x90) 1 (cond (b == 0x1B && slice_index bs 0 == 0x50) 2 0)

-- the place after the first introducer, of bytes that stand at a place
unfoldable pub start_from : ℕ → List ℕ → Start
unfolding introducer_at
start_from at [] = None
start_from at (b ∷ bs) = cond (nat_lt 0 (introducer_at (b ∷ bs))) (Some (at + introducer_at (b ∷ bs))) (start_from (at + 1) bs)

-- where a header led to: the payload begins after `q`, a byte is refused, or there is no `q`, which is 8
unfoldable pub led_to : Led → Lead → Found
led_to (Ok leds.On) l = Err Unfinished
led_to (Ok leds.Begins) l = Ok (record { from = l.consumed; settings = settings_from l.header })
led_to (Err n) l = Err n

-- a header that stands at a place
unfoldable pub header_from : ℕ → List ℕ → Found
unfolding led_to
header_from at bs = let l : Lead = lead_from bs at places.Header (opened 3) in led_to l.led l

-- without an introducer the whole input is payload, with no parameters
unfoldable pub found_at : Start → List ℕ → Found
unfolding header_from
found_at (Some n) bs = header_from n (drop n bs)
found_at None bs = Ok (record { from = 0; settings = no_settings })

unfoldable pub found_in : List ℕ → Found
unfolding start_from found_at
found_in bs = found_at (start_from 0 bs) bs
