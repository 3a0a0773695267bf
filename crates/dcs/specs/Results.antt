-- What a session's functions hand back, by name.
use Rattle.std.specs.Prelude.{Result}
use Rattle.frame.specs.declared.Refusal.{Refusal}
use Rattle.payload.specs.declared.Answer as counts
use Rattle.payload.specs.declared.Fed as fed
use Rattle.payload.specs.declared.Opened as opened
use Rattle.dcs.specs.declared.Ending.{Ending}
use Rattle.dcs.specs.declared.Session.{Session}
use Rattle.dcs.specs.declared.kernel.Core.{Core}

-- an opening's answer, with the session, or its parts
abbrev pub Opened : Type 0
Opened = opened.Opened Session

abbrev pub OpenedCore : Type 0
OpenedCore = opened.Opened Core

-- a feed's answer, and with the session, or its parts: counts, and how the sequence ended where it has; or a refusal
abbrev pub Answer : Type 0
Answer = Result (counts.Answer Ending) Refusal

abbrev pub Fed : Type 0
Fed = fed.Fed Session Ending

abbrev pub FedCore : Type 0
FedCore = fed.Fed Core Ending
