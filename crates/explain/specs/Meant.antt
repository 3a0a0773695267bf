-- What the code's tellings mean, in the definition's terms. A refusal is known by its number (`number_of`).
use Rattle.std.specs.Prelude as rust
use Rattle.std.specs.Prelude.{ℕ, Ok, Err, Some, None}
use Rattle.std.proofs.Math.Option.{Option, none, some}
use Rattle.frame.specs.Numbers.{number_of}
use Rattle.meaning.specs.Tellings as tellings
use Rattle.words.specs.declared.Shortage.{Shortage}
use Rattle.words.specs.declared.Telling.{Telling}
use Rattle.words.specs.declared.Thing.{Thing}
use Rattle.words.specs.declared.Thing.TheVariants as things
use Rattle.explain.specs.Explained.{Explained}
use Rattle.explain.specs.Need.{Need}

unfoldable pub thing_meant : Thing → tellings.Thing
thing_meant things.Repeats = tellings.repeats
thing_meant things.Columns = tellings.columns
thing_meant things.Rows = tellings.rows
thing_meant things.Pixels = tellings.pixels

unfoldable pub shortage_meant : Shortage → tellings.Shortage
unfolding thing_meant
shortage_meant k = record { thing = thing_meant k.thing; needed = k.needed; more = k.more; allowed = k.allowed }

unfoldable pub need_meant : Need → Option tellings.Shortage
unfolding shortage_meant
need_meant None = none
need_meant (Some k) = some (shortage_meant k)

unfoldable pub place_meant : rust.Option ℕ → Option ℕ
place_meant None = none
place_meant (Some n) = some n

unfoldable pub telling_meant : Telling → tellings.Telling
unfolding place_meant need_meant
telling_meant t = record { number = number_of t.refusal; place = place_meant t.place; need = need_meant t.need }

-- nothing is told of a call that is not refused
unfoldable pub explained_meant : Explained → Option tellings.Telling
unfolding telling_meant
explained_meant (Ok tt) = none
explained_meant (Err t) = some (telling_meant t)
