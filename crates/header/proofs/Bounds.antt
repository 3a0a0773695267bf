-- Introducer and header consume no more bytes than there are.
use Prim.Native.Nat.{ℕ, suc, ◌+◌, ◌≤◌}
use mathlib.Core.List.{List, [], ◌∷◌}
use native.Mathlib.Omega.{arith}
use lib.ListN.{length}
use Rattle.numbers.specs.declared.Parameters.{Parameters}
use Rattle.header.specs.declared.Place.{Place}
use Rattle.std.specs.Prelude.{Ok, Err}
use Rattle.header.specs.Results.{Led}
use Rattle.header.specs.declared.Led.TheVariants as leds
use Rattle.header.specs.declared.Step.{Step}
use Rattle.header.specs.declared.Lead.{Lead}
use Rattle.header.specs.Lead.{lead_byte, lead_on, lead_from}

-- one byte, where the later ones keep to it
led-bound : (led : Led) (s : Step) (n m : ℕ) (later : ℕ → Place → Parameters → Lead)
    → ((t : Place) (h : Parameters) → (later (n + 1) t h).consumed ≤ n + 1 + m) → (lead_on led s n later).consumed ≤ n + suc m
unfolding lead_on
led-bound (Ok leds.On) s n m later k = omega (arith, k s.place s.header)
led-bound (Ok leds.Begins) s n m later k = omega arith
led-bound (Err r) s n m later k = omega arith

-- after `n` bytes, `n` and the others at most
pub lead-bound : (bs : List ℕ) (n : ℕ) (t : Place) (h : Parameters) → (lead_from bs n t h).consumed ≤ n + length bs
unfolding lead_from
lead-bound [] n t h = omega arith
lead-bound (b ∷ bs) n t h = led-bound (lead_byte t h b).led (lead_byte t h b) n (length bs) _ (λ t' h'. lead-bound bs (n + 1) t' h')
