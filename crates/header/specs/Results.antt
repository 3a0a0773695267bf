-- What a byte of introducer and header came to, by name: on to the next, to the payload, or a refusal.
use Rattle.std.specs.Prelude.{Result}
use Rattle.frame.specs.declared.Refusal.{Refusal}
use Rattle.header.specs.declared.Led as led

abbrev pub Led : Type 0
Led = Result led.Led Refusal
