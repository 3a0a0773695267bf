-- From bytes to commands, each with its place in the input (docs/RULES.md, section 2).
-- Places are counted from 0. A command's place is that of its first byte.
use Rattle.std.specs.Prelude.{ℕ, suc, ◌-◌, Bool, false, cond, ◌||◌, List, [], ◌∷◌, ◌++◌, eqb}
use Rattle.std.proofs.Math.Option.{Option, none, some}
use Rattle.numbers.specs.Bytes.{skipped, digit, sixel, ends, semicolon, bang, quote, hash, dollar, dash}

-- rule 2.3: the commands that take an argument: `!`, `#` and `"`
pub data Kind : Type 0 where
  repeat colour raster : Kind

-- what a payload asks for, one thing at a time: a command with the digits and `;` of its argument, `$`, `-`, or a sixel with
-- its six bits
pub data Command : Type 0 where
  argued : Kind → List ℕ → Command
  return line : Command
  draw : ℕ → Command

pub record Placed : Type 0 where
  -- no answer reads it yet
  pub place : ℕ
  pub command : Command

-- a command that has begun and not ended: its argument so far
pub record Begun : Type 0 where
  -- no answer reads it yet
  pub place : ℕ
  pub kind : Kind
  pub argument : List ℕ

-- values are written in digits, with `;` between
unfoldable pub of_values : ℕ → Bool
of_values b = digit b || eqb b semicolon

-- rule 2.4: the bytes that lengthen a command
unfoldable pub lengthens : Kind → ℕ → Bool
unfolding of_values
lengthens repeat b = digit b
lengthens colour b = of_values b
lengthens raster b = of_values b

-- the begun command takes the byte
unfoldable pub taken : Option Begun → ℕ → Bool
unfolding lengthens
taken none b = false
taken (some c) b = lengthens c.kind b

-- the begun command with one byte more
unfoldable pub longer : Option Begun → ℕ → Option Begun
longer none b = none
longer (some c) b = some (record { place = c.place; kind = c.kind; argument = c.argument ++ (b ∷ []) })

-- what scanning has come to: the begun command, and the commands that ended, oldest first
pub record Scanned : Type 0 where
  pub begun : Option Begun
  pub ended : List Placed

-- the begun command ends
unfoldable pub closed : Option Begun → List Placed
closed none = []
closed (some c) = record { place = c.place; command = argued c.kind c.argument } ∷ []

-- a command begins at a place, after those that ended
unfoldable pub begins : ℕ → List Placed → Kind → Scanned
begins at before k = record { begun = some (record { place = at; kind = k; argument = [] }); ended = before }

-- a command that is one byte is ended with it
unfoldable pub does : ℕ → List Placed → Command → Scanned
does at before c = record { begun = none; ended = before ++ (record { place = at; command = c } ∷ []) }

-- rules 2.3, 2.6: a byte's own effect; other bytes do nothing
unfoldable pub own : ℕ → ℕ → List Placed → Scanned
unfolding begins does
own at b before =
    cond (eqb b bang) (begins at before repeat)
    (cond (eqb b hash) (begins at before colour)
    (cond (eqb b quote) (begins at before raster)
    (cond (eqb b dollar) (does at before return)
    (cond (eqb b dash) (does at before line)
    (cond (sixel b) (does at before (draw (b - 63)))
    (record { begun = none; ended = before }))))))

-- rule 2.5: one byte: skipped, or taken by the begun command, or else it ends that command and then has its own effect
unfoldable pub scan_byte : ℕ → Option Begun → ℕ → Scanned
unfolding taken longer closed own
scan_byte at c b =
    cond (skipped b) (record { begun = c; ended = [] })
    (cond (taken c b) (record { begun = longer c b; ended = [] })
    (own at b (closed c)))

-- rule 2.5: the bytes from a place on
unfoldable pub scan : ℕ → Option Begun → List ℕ → Scanned
unfolding scan_byte
scan at c [] = record { begun = c; ended = [] }
scan at c (b ∷ bs) =
    let s : Scanned = scan_byte at c b in
    let later : Scanned = scan (suc at) s.begun bs in
    record { begun = later.begun; ended = s.ended ++ later.ended }

-- rule 2.7: the bytes before the first that ends the payload
unfoldable pub body : List ℕ → List ℕ
body [] = []
body (b ∷ bs) = cond (ends b) [] (b ∷ body bs)

-- rule 2.7: the byte that ends the payload; it stays unread
unfoldable pub end_of : List ℕ → Option ℕ
end_of [] = none
end_of (b ∷ bs) = cond (ends b) (some b) (end_of bs)

-- rule 2.7: the commands of a payload, the one that its end cuts off with them
unfoldable pub commands : List ℕ → List Placed
unfolding scan body closed
commands bs = let s : Scanned = scan 0 none (body bs) in s.ended ++ closed s.begun

-- rule 6.5: the commands that have ended among some bytes: one that is still pending is not yet among them, and the payload's end
-- ends it too
unfoldable pub ended_commands : List ℕ → List Placed
unfolding scan end_of commands
ended_commands bs = elim (end_of bs) [ none ↦ (scan 0 none bs).ended | some b ↦ commands bs ]
