-- `text::Cursor::put_words` meets its contract. The loop's invariant: with the bytes that are left put, all are.
-- Assumes nothing.
use mathlib.Core.Path.{◌≡◌}
use lib.ListN.{drop}
use Rattle.text.specs.Text.{put}
use Rattle.text.specs.Stand.{there}
use Rattle.text.proofs.Cursor.put_words.Given as goal

abbrev pub invariant-loop-i : goal.invariant-loop-i
invariant-loop-i l =
    (put (drop l.i l.words) (there l.self) ≡ put l.words (there l.initial.self)) × (l.self.out.ghost_name ≡ l.initial.self.out.ghost_name)
