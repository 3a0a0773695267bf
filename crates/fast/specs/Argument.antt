-- What the code makes of an argument that stands whole among the bytes: where its bytes lead one by one.
use Rattle.std.specs.Prelude.{ℕ, ◌≤◌, ◌<◌, ◌≡◌, Bool, true, false, cond, List, [], ◌∷◌, eqb, length, get_or, drop}
use Rattle.numbers.specs.Bytes.{skipped, digit, sixel, semicolon}
use Rattle.numbers.specs.Step.{opened, with_semicolon}
use Rattle.numbers.specs.declared.Parameters.{Parameters}
use Rattle.colours.specs.declared.Palette.{Palette}
use Rattle.frame.specs.declared.Command.{Command}
use Rattle.frame.specs.declared.Frame.{Frame}
use Rattle.frame.specs.declared.Ground.{Ground}
use Rattle.frame.specs.declared.Kind.TheVariants as kinds
use Rattle.fast.specs.declared.argument.Number.{Number}
use Rattle.fast.specs.declared.argument.Definition.{Definition}
use Rattle.frame.specs.Commands.{with_command}
use Rattle.reference.specs.Step.{Reached}
use Rattle.reference.specs.Feed.{feed_from}

-- where the bytes from a place on lead
abbrev pub onwards : Ground → ℕ → List ℕ → ℕ → ℕ → Frame → Palette → List ℕ → Reached
onwards g allowance bytes i spent f p l = feed_from g allowance (drop i bytes) i spent f p l

-- the bytes from one place up to another turn one pending command into another, and change nothing else
pub record Passes (bytes : List ℕ) (i j : ℕ) (c d : Command) : Type 0 where
  pub onward : i ≤ j
  pub within : j ≤ length bytes
  pub same : (g : Ground) (allowance spent : ℕ) (f : Frame) (p : Palette) (l : List ℕ)
      → onwards g allowance bytes j spent (with_command f d) p l ≡ onwards g allowance bytes i spent (with_command f c) p l

-- a colour with these values so far, and a repeat with this number so far
unfoldable pub coloring : Parameters → Command
coloring v = record { kind = kinds.Color; number = 0; parameters = v }

unfoldable pub counting : ℕ → Command
counting n = record { kind = kinds.Repeat; number = n; parameters = opened 0 }

-- the values with a number that is still to be stored
unfoldable pub holding : Parameters → ℕ → Parameters
holding v n = record { values = v.values; count = v.count; current = n; pending = true; places = v.places }

-- a byte ends an argument, whichever it is
unfoldable pub closing : ℕ → Bool
closing b = cond (digit b) false (cond (skipped b) false (cond (eqb b semicolon) false true))

-- a number was read, in a colour or in a repeat
pub record Written (bytes : List ℕ) (from : ℕ) (r : Number) : Type 0 where
  pub small : r.value ≤ 1000000009
  pub color : (v : Parameters) → v.current ≡ 0 → Passes bytes from r.end (coloring v) (coloring (holding v r.value))
  pub repeat : Passes bytes from r.end (counting 0) (counting r.value)

-- and the argument ends after it
pub record Last (bytes : List ℕ) (from : ℕ) (r : Number) : Type 0 where
  pub written : Written bytes from r
  pub more : r.end < length bytes
  pub closes : closing (get_or bytes r.end 0) ≡ true

-- and a sixel stands after it
pub record Before (bytes : List ℕ) (from : ℕ) (r : Number) : Type 0 where
  pub last : Last bytes from r
  pub six : sixel (get_or bytes r.end 0) ≡ true

-- or a `;` follows it, and was read too
pub record Parted (bytes : List ℕ) (from : ℕ) (r : Number) : Type 0 where
  pub small : r.value ≤ 1000000009
  pub color : (v : Parameters) → v.current ≡ 0 → Passes bytes from r.end (coloring v) (coloring (with_semicolon (holding v r.value)))

-- the values of a definition before its end
unfoldable pub defining : Definition → Parameters
defining d =
    record { values = d.first ∷ d.space ∷ d.x ∷ d.y ∷ 0 ∷ []; count = 4; current = d.z; pending = true; places = 5 }

pub record Defined (bytes : List ℕ) (from : ℕ) (d : Definition) : Type 0 where
  pub passes : Passes bytes from d.end (coloring (opened 5)) (coloring (defining d))
  pub more : d.end < length bytes
  pub closes : closing (get_or bytes d.end 0) ≡ true
  pub first : d.first ≤ 1000000009
  pub space : d.space ≤ 1000000009
  pub x : d.x ≤ 1000000009
  pub y : d.y ≤ 1000000009
  pub z : d.z ≤ 1000000009
