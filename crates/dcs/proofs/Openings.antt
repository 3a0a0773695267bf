-- When an opening is ready and when it is 11 (rule 1.4), and what its session stands for.
use Rattle.std.specs.Prelude.{◌≡◌, ℕ, true, false, ◌↔◌, List, length, Ok, Err}
use Rattle.numbers.proofs.Reading.{read_none}
use Rattle.colours.specs.declared.Palette.{Palette}
use Rattle.frame.specs.declared.Limits.{Limits}
use Rattle.frame.specs.declared.Refusal.TheVariants as refusals
use Rattle.meaning.specs.Sessions.{start}
use Rattle.meaning.proofs.Cases.{cond_map}
use Rattle.payload.specs.Results as payload_opened
use Rattle.payload.specs.Deferred.{reserved_by}
use Rattle.payload.specs.Refusals.{openable}
use Rattle.payload.proofs.Openings.{opening_by, ready-exactly, refused-exactly}
use Rattle.dcs.specs.Session.{opened_by}
use Rattle.dcs.specs.History.{at_start, held_at, Stands, before}

module _ (l : Limits) (stride : ℕ) (p : Palette) (size : ℕ) where
  answered : (opened_by l stride p size).answer ≡ opening_by (openable l stride size)
  unfolding opened_by reserved_by
  answered = cond_map (λ (o : payload_opened.Opened). o.answer) (openable l stride size) _ _

  -- An opening is ready exactly when its numbers are in their ranges and there is a whole row.
  pub open-ready : ((opened_by l stride p size).answer ≡ Ok tt) ↔ (openable l stride size ≡ true)
  open-ready = ready-exactly (openable l stride size) answered

  -- It is 11 exactly when they are not, or there is none.
  pub open-refused : ((opened_by l stride p size).answer ≡ Err refusals.Opening) ↔ (openable l stride size ≡ false)
  open-refused = refused-exactly (openable l stride size) answered

-- The session of one that succeeds waits for the introducer, and nothing is written.
pub opened-stands : (l : Limits) (stride : ℕ) (p : Palette) (opening : List ℕ) → openable l stride (length opening) ≡ true
    → Stands l stride p opening (opened_by l stride p (length opening)).session opening (held_at l stride (length opening) start false)
unfolding opened_by reserved_by
opened-stands l stride p opening opens = rw opens (before opens (at_start (read_none 3)))
