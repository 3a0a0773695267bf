-- What a session's functions hand back, by name: Rust's options and results of these.
use Rattle.std.specs.Prelude.{ℕ, Option, Result}
use Rattle.frame.specs.declared.Refusal.{Refusal}
use Rattle.payload.specs.declared.Answer as counts
use Rattle.payload.specs.declared.Fed as fed
use Rattle.payload.specs.declared.Opened as opened
use Rattle.payload.specs.declared.Report.{Report}
use Rattle.payload.specs.declared.Session.{Session}

-- a parameter of a header, or none
abbrev pub Given : Type 0
Given = Option ℕ

-- nothing, or a refusal before a byte is read
abbrev pub Verdict : Type 0
Verdict = Result (Unit {0}) Refusal

-- an opening's answer, and with the session
abbrev pub Opening : Type 0
Opening = Result (Unit {0}) Refusal

abbrev pub Opened : Type 0
Opened = opened.Opened Session

-- a feed's answer, and with the session: counts, and the byte that ended the payload where one has; or a refusal
abbrev pub Answer : Type 0
Answer = Result (counts.Answer ℕ) Refusal

abbrev pub Fed : Type 0
Fed = fed.Fed Session ℕ

-- a finish's answer: a picture's report, or a refusal
abbrev pub Finishing : Type 0
Finishing = Result Report Refusal
