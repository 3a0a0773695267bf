-- What reading standard input leaves: a reader and a canvas that have taken some pieces. Which bytes they were no contract can say.
use Rattle.std.specs.Prelude.{ℕ, List, ◌≡◌}
use Rattle.pieces.specs.declared.Reader.{Reader}
use Rattle.pieces.specs.Stream.{taken_all}

abbrev pub Taken : Reader → List ℕ → Reader → List ℕ → Type 0
Taken start canvas reader after = (zs : List (List ℕ)) × ((reader, after) ≡ taken_all start canvas zs)
