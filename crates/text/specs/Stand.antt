-- Where a cursor stands, and its buffer's bytes.
-- Assumes nothing.
use Rattle.std.specs.Prelude.{ℕ, List}
use Rattle.text.specs.declared.Cursor.{Cursor}

abbrev pub there : Cursor → ℕ × List ℕ
there c = (c.at, c.out.now)
