-- Only one outcome, of every public function of `dcs` (One.antt).
use Prim.Native.Nat.{ℕ}
use mathlib.Core.List.{List}
use mathlib.Core.Path.{ap}
use Rattle.numbers.specs.Step.{opened}
use Rattle.colours.specs.Palette.{of_table, standard}
use Rattle.payload.specs.declared.Finished.{Finished}
use Rattle.payload.specs.Results.{Finishing}
use Rattle.dcs.specs.Core.{core_of}
use Rattle.dcs.specs.Results as whole
use Rattle.dcs.specs.Results.{OpenedCore, FedCore}
use Rattle.dcs.proofs.kernel.core_of.Reads as core-of
use Rattle.dcs.proofs.kernel.core_of.Kinds as core-of'
use Rattle.dcs.proofs.kernel.palette_of.Reads as palette-of
use Rattle.dcs.proofs.kernel.palette_of.Kinds as palette-of'
use Rattle.dcs.proofs.kernel.with_palette.Reads as with-palette
use Rattle.dcs.proofs.kernel.with_palette.Kinds as with-palette'
use Rattle.dcs.proofs.kernel.opening.open.Reads as core-open
use Rattle.dcs.proofs.kernel.opening.open.Kinds as core-open'
use Rattle.dcs.proofs.kernel.feeding.feed.Reads as core-feed
use Rattle.dcs.proofs.kernel.feeding.feed.Kinds as core-feed'
use Rattle.dcs.proofs.kernel.finishing.finish.Reads as core-finish
use Rattle.dcs.proofs.kernel.finishing.finish.Kinds as core-finish'
use Rattle.dcs.proofs.open.Reads as opening
use Rattle.dcs.proofs.open.Kinds as opening'
use Rattle.dcs.proofs.feed.Reads as feed
use Rattle.dcs.proofs.feed.Kinds as feed'
use Rattle.dcs.proofs.finish.Reads as finish
use Rattle.dcs.proofs.finish.Kinds as finish'
use Rattle.dcs.proofs.abort.Reads as abort
use Rattle.dcs.proofs.abort.Kinds as abort'
use Rattle.dcs.proofs.memory.numbers_of.Reads as numbers-of
use Rattle.dcs.proofs.memory.numbers_of.Kinds as numbers-of'
use Rattle.dcs.proofs.memory.phase_from.Reads as phase-from
use Rattle.dcs.proofs.memory.phase_from.Kinds as phase-from'
use Rattle.dcs.proofs.memory.core_from.Reads as core-from
use Rattle.dcs.proofs.memory.core_from.Kinds as core-from'
use Rattle.promises.proofs.One.{only, Seen, One, OneWith}

-- the parts that a session was opened in
abbrev opened_parts : whole.Opened → OpenedCore
opened_parts o = record { answer = o.answer; session = core_of o.session }

-- the parts of a session after a call
abbrev fed_parts : whole.Fed → FedCore
fed_parts o = record { answer = o.answer; session = core_of o.session }

pub core-of-one : One core-of'.ps core-of'.r core-of.Learnt
core-of-one κs a z z' e e' p q = only p q

pub palette-of-one : One palette-of'.ps palette-of'.r palette-of.Learnt
palette-of-one κs a z z' e e' p q = only p q

pub with-palette-one : One with-palette'.ps with-palette'.r with-palette.Learnt
with-palette-one κs a z z' e e' p q = only p q

pub core-open-one : One core-open'.ps core-open'.r core-open.Learnt
core-open-one κs a z z' e e' p q = ap opened_parts (only p q)

-- the answer with the parts, the registers and the canvas
pub core-feed-one : Seen core-feed'.ps core-feed'.r core-feed.Learnt (λ κs. FedCore × List ℕ × List ℕ)
    (λ κs z e. (z, e.1.0.now, e.1.1.0.now))
unfolding of_table
core-feed-one κs a z z' e e' p q =
    ap (λ (o : whole.Fed × List ℕ). (fed_parts o.0, o.0.session.payload.palette.colors, o.1)) (only p q)

-- the answer, the registers and the canvas, whatever the header was
pub core-finish-one : Seen core-finish'.ps core-finish'.r core-finish.Learnt (λ κs. Finishing × List ℕ × List ℕ)
    (λ κs z e. (z, e.1.1.1.1.0.now, e.1.1.1.1.1.0.now))
unfolding of_table
core-finish-one κs a z z' e e' p q =
    ap (λ (o : Finished × List ℕ). (o.0.answer, o.0.palette.colors, o.1)) (only (p (opened 0)) (q (opened 0)))

pub opening-one : One opening'.ps opening'.r opening.Learnt
opening-one κs a z z' e e' p q = only p q

pub feed-one : OneWith feed'.ps feed'.r feed.Learnt (λ κs e. e.1.0.now)
feed-one κs a z z' e e' p q = only p q

pub finish-one : OneWith finish'.ps finish'.r finish.Learnt (λ κs e. e.1.1.0.now)
finish-one κs a z z' e e' p q = only p q

pub abort-one : One abort'.ps abort'.r abort.Learnt
abort-one κs a z z' e e' p q = only p q

pub numbers-of-one : One numbers-of'.ps numbers-of'.r numbers-of.Learnt
numbers-of-one κs a z z' e e' p q = only (p standard) (q standard)

pub phase-from-one : One phase-from'.ps phase-from'.r phase-from.Learnt
phase-from-one κs a z z' e e' p q = only p q

pub core-from-one : One core-from'.ps core-from'.r core-from.Learnt
core-from-one κs a z z' e e' p q = only p q
