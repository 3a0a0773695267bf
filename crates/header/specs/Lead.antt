-- What the code does with introducer and header, byte by byte, on its own records.
use Rattle.std.specs.Prelude.{ℕ, ◌+◌, cond, List, [], ◌∷◌, eqb, Ok, Err}
use Rattle.numbers.specs.declared.Parameters.{Parameters}
use Rattle.numbers.specs.Bytes.{skipped, digit, ends, semicolon}
use Rattle.numbers.specs.Step.{with_digit, with_semicolon}
use Rattle.frame.specs.declared.Refusal.TheVariants as refusals
use Rattle.header.specs.declared.Place.{Place}
use Rattle.header.specs.declared.Place.TheVariants as places
use Rattle.header.specs.Results.{Led}
use Rattle.header.specs.declared.Led.TheVariants.{On, Begins}
use Rattle.header.specs.declared.Step.{Step}
use Rattle.header.specs.declared.Lead.{Lead}

unfoldable pub led_to : Place → Parameters → Led → Step
led_to t h led = record { place = t; header = h; led = led }

-- the first byte is 1B or 90
unfoldable pub start_byte : Parameters → ℕ → Step
unfolding led_to
start_byte h b =
    cond (eqb b 0x1B) (led_to places.Introduced h (Ok On))
    (cond (eqb b 0x90) (led_to places.Header h (Ok On))
    (led_to places.Start h (Err refusals.Introducer)))

-- the byte after 1B is `P`
unfoldable pub introduced_byte : Parameters → ℕ → Step
unfolding led_to
introduced_byte h b = cond (eqb b 0x50) (led_to places.Header h (Ok On)) (led_to places.Introduced h (Err refusals.Introducer))

-- a header's byte is skipped, or belongs to a value, or is `q`; else it is 2 or 3
unfoldable pub header_byte : Parameters → ℕ → Step
unfolding led_to
header_byte h b =
    cond (skipped b) (led_to places.Header h (Ok On))
    (cond (digit b) (led_to places.Header (with_digit h b) (Ok On))
    (cond (eqb b semicolon) (led_to places.Header (with_semicolon h) (Ok On))
    (cond (eqb b 0x71) (led_to places.Header h (Ok Begins))
    (cond (ends b) (led_to places.Header h (Err refusals.HeaderEnded))
    (led_to places.Header h (Err refusals.HeaderByte))))))

unfoldable pub lead_byte : Place → Parameters → ℕ → Step
unfolding start_byte introduced_byte header_byte
lead_byte places.Start h b = start_byte h b
lead_byte places.Introduced h b = introduced_byte h b
lead_byte places.Header h b = header_byte h b

abbrev pub lead_at : Place → Parameters → ℕ → Led → Lead
lead_at t h n led = record { place = t; header = h; consumed = n; led = led }

-- `q` is consumed, a refused byte is not
unfoldable pub lead_on : Led → Step → ℕ → (ℕ → Place → Parameters → Lead) → Lead
lead_on (Ok On) s n later = later (n + 1) s.place s.header
lead_on (Ok Begins) s n later = lead_at s.place s.header (n + 1) (Ok Begins)
lead_on (Err r) s n later = lead_at s.place s.header n (Err r)

-- the bytes that are left, after `n` bytes
unfoldable pub lead_from : List ℕ → ℕ → Place → Parameters → Lead
unfolding lead_byte lead_on
lead_from [] n t h = lead_at t h n (Ok On)
lead_from (b ∷ bs) n t h =
    let s : Step = lead_byte t h b in
    lead_on s.led s n (λ n' t' h'. lead_from bs n' t' h')
