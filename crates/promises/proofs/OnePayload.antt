-- Only one outcome, of every public function of `payload` (One.antt).
use Prim.Native.Nat.{ℕ}
use mathlib.Core.List.{List}
use mathlib.Core.Path.{ap}
use Rattle.colours.specs.Palette.{of_table, standard}
use Rattle.payload.specs.Core.{setup_of}
use Rattle.payload.specs.Session.{blank_frame}
use Rattle.payload.specs.Results as whole
use Rattle.payload.specs.declared.Finished.{Finished}
use Rattle.payload.specs.Results.{Finishing}
use Rattle.payload.specs.declared.Life.TheVariants as lives
use Rattle.payload.specs.declared.Session.{Session}
use Rattle.payload.specs.declared.kernel.feeding.Fed.{Fed}
use Rattle.payload.specs.declared.kernel.opening.Opened.{Opened}
use Rattle.payload.proofs.kernel.setup_of.Reads as setup-of
use Rattle.payload.proofs.kernel.setup_of.Kinds as setup-of'
use Rattle.payload.proofs.kernel.life_of.Reads as life-of
use Rattle.payload.proofs.kernel.life_of.Kinds as life-of'
use Rattle.payload.proofs.kernel.frame_of.Reads as frame-of
use Rattle.payload.proofs.kernel.frame_of.Kinds as frame-of'
use Rattle.payload.proofs.kernel.palette_of.Reads as palette-of
use Rattle.payload.proofs.kernel.palette_of.Kinds as palette-of'
use Rattle.payload.proofs.kernel.session_of.Reads as session-of
use Rattle.payload.proofs.kernel.session_of.Kinds as session-of'
use Rattle.payload.proofs.kernel.opening.blank_frame.Reads as blank-frame
use Rattle.payload.proofs.kernel.opening.blank_frame.Kinds as blank-frame'
use Rattle.payload.proofs.kernel.opening.open.Reads as core-open
use Rattle.payload.proofs.kernel.opening.open.Kinds as core-open'
use Rattle.payload.proofs.kernel.feeding.feed.Reads as core-feed
use Rattle.payload.proofs.kernel.feeding.feed.Kinds as core-feed'
use Rattle.payload.proofs.kernel.finishing.finish.Reads as core-finish
use Rattle.payload.proofs.kernel.finishing.finish.Kinds as core-finish'
use Rattle.payload.proofs.deferred.reserve.Reads as reserve
use Rattle.payload.proofs.deferred.reserve.Kinds as reserve'
use Rattle.payload.proofs.deferred.start.Reads as start
use Rattle.payload.proofs.deferred.start.Kinds as start'
use Rattle.payload.proofs.refusals.has_failed.Reads as has-failed
use Rattle.payload.proofs.refusals.has_failed.Kinds as has-failed'
use Rattle.payload.proofs.refusals.may_open.Reads as may-open
use Rattle.payload.proofs.refusals.may_open.Kinds as may-open'
use Rattle.payload.proofs.refusals.finish_refusal.Reads as finish-refusal
use Rattle.payload.proofs.refusals.finish_refusal.Kinds as finish-refusal'
use Rattle.payload.proofs.refusals.feed_refusal.Reads as feed-refusal
use Rattle.payload.proofs.refusals.feed_refusal.Kinds as feed-refusal'
use Rattle.payload.proofs.no_settings.Reads as no-settings
use Rattle.payload.proofs.no_settings.Kinds as no-settings'
use Rattle.payload.proofs.house_limits.Reads as house-limits
use Rattle.payload.proofs.house_limits.Kinds as house-limits'
use Rattle.payload.proofs.crate_limits.Reads as crate-limits
use Rattle.payload.proofs.crate_limits.Kinds as crate-limits'
use Rattle.payload.proofs.open.Reads as opening
use Rattle.payload.proofs.open.Kinds as opening'
use Rattle.payload.proofs.feed.Reads as feed
use Rattle.payload.proofs.feed.Kinds as feed'
use Rattle.payload.proofs.finish.Reads as finish
use Rattle.payload.proofs.finish.Kinds as finish'
use Rattle.payload.proofs.hand_back.Reads as hand-back
use Rattle.payload.proofs.hand_back.Kinds as hand-back'
use Rattle.payload.proofs.abort.Reads as abort
use Rattle.payload.proofs.abort.Kinds as abort'
use Rattle.payload.proofs.codes.given_number.Reads as given-number
use Rattle.payload.proofs.codes.given_number.Kinds as given-number'
use Rattle.payload.proofs.codes.given_from.Reads as given-from
use Rattle.payload.proofs.codes.given_from.Kinds as given-from'
use Rattle.payload.proofs.codes.life_number.Reads as life-number
use Rattle.payload.proofs.codes.life_number.Kinds as life-number'
use Rattle.payload.proofs.codes.life_from.Reads as life-from
use Rattle.payload.proofs.codes.life_from.Kinds as life-from'
use Rattle.payload.proofs.codes.kind_number.Reads as kind-number
use Rattle.payload.proofs.codes.kind_number.Kinds as kind-number'
use Rattle.payload.proofs.codes.kind_from.Reads as kind-from
use Rattle.payload.proofs.codes.kind_from.Kinds as kind-from'
use Rattle.payload.proofs.codes.color_number.Reads as color-number
use Rattle.payload.proofs.codes.color_number.Kinds as color-number'
use Rattle.payload.proofs.codes.color_from.Reads as color-from
use Rattle.payload.proofs.codes.color_from.Kinds as color-from'
use Rattle.payload.proofs.memory.numbers_of.Reads as numbers-of
use Rattle.payload.proofs.memory.numbers_of.Kinds as numbers-of'
use Rattle.payload.proofs.memory.setup_from.Reads as setup-from
use Rattle.payload.proofs.memory.setup_from.Kinds as setup-from'
use Rattle.payload.proofs.memory.frame_from.Reads as frame-from
use Rattle.payload.proofs.memory.frame_from.Kinds as frame-from'
use Rattle.promises.proofs.One.{only, Seen, One, OneWith}

-- the parts that a session was opened in
abbrev opened_parts : whole.Opened → Opened
opened_parts o = record { answer = o.answer; setup = setup_of o.session; life = o.session.life; frame = o.session.frame }

-- the parts of a session after a call
abbrev fed_parts : whole.Fed → Fed
fed_parts o = record { answer = o.answer; life = o.session.life; frame = o.session.frame }

pub setup-of-one : One setup-of'.ps setup-of'.r setup-of.Learnt
setup-of-one κs a z z' e e' p q = only p q

pub life-of-one : One life-of'.ps life-of'.r life-of.Learnt
life-of-one κs a z z' e e' p q = only p q

pub frame-of-one : One frame-of'.ps frame-of'.r frame-of.Learnt
frame-of-one κs a z z' e e' p q = only p q

pub palette-of-one : One palette-of'.ps palette-of'.r palette-of.Learnt
palette-of-one κs a z z' e e' p q = only p q

pub session-of-one : One session-of'.ps session-of'.r session-of.Learnt
session-of-one κs a z z' e e' p q = only p q

pub blank-frame-one : One blank-frame'.ps blank-frame'.r blank-frame.Learnt
blank-frame-one κs a z z' e e' p q = only p q

pub core-open-one : OneWith core-open'.ps core-open'.r core-open.Learnt (λ κs e. e.1.1.1.1.0.now)
core-open-one κs a z z' e e' p q = ap (λ (o : whole.Opened × List ℕ). (opened_parts o.0, o.1)) (only p q)

-- the answer with the parts, the registers and the canvas
pub core-feed-one : Seen core-feed'.ps core-feed'.r core-feed.Learnt (λ κs. Fed × List ℕ × List ℕ)
    (λ κs z e. (z, e.1.1.1.0.now, e.1.1.1.1.0.now))
unfolding of_table
core-feed-one κs a z z' e e' p q = ap (λ (o : whole.Fed × List ℕ). (fed_parts o.0, o.0.session.palette.colors, o.1)) (only p q)

-- the answer, the registers and the canvas
pub core-finish-one : Seen core-finish'.ps core-finish'.r core-finish.Learnt (λ κs. Finishing × List ℕ × List ℕ)
    (λ κs z e. (z, e.1.1.1.0.now, e.1.1.1.1.0.now))
unfolding of_table
core-finish-one κs a z z' e e' p q = ap (λ (o : Finished × List ℕ). (o.0.answer, o.0.palette.colors, o.1)) (only p q)

pub reserve-one : One reserve'.ps reserve'.r reserve.Learnt
reserve-one κs a z z' e e' p q = ap opened_parts (only p q)

pub has-failed-one : One has-failed'.ps has-failed'.r has-failed.Learnt
has-failed-one κs a z z' e e' p q = only p q

pub start-one : OneWith start'.ps start'.r start.Learnt (λ κs e. e.1.1.1.0.now)
start-one κs a z z' e e' p q =
    ap (λ (o : Session × List ℕ). (setup_of o.0, o.1)) (only (p lives.Live (blank_frame standard)) (q lives.Live (blank_frame standard)))

pub may-open-one : One may-open'.ps may-open'.r may-open.Learnt
may-open-one κs a z z' e e' p q = only p q

pub finish-refusal-one : One finish-refusal'.ps finish-refusal'.r finish-refusal.Learnt
finish-refusal-one κs a z z' e e' p q = only (p standard) (q standard)

pub feed-refusal-one : One feed-refusal'.ps feed-refusal'.r feed-refusal.Learnt
feed-refusal-one κs a z z' e e' p q = only (p standard) (q standard)

pub no-settings-one : One no-settings'.ps no-settings'.r no-settings.Learnt
no-settings-one κs a z z' e e' p q = only p q

pub house-limits-one : One house-limits'.ps house-limits'.r house-limits.Learnt
house-limits-one κs a z z' e e' p q = only p q

pub crate-limits-one : One crate-limits'.ps crate-limits'.r crate-limits.Learnt
crate-limits-one κs a z z' e e' p q = only p q

pub opening-one : OneWith opening'.ps opening'.r opening.Learnt (λ κs e. e.1.1.1.1.0.now)
opening-one κs a z z' e e' p q = only p q

pub feed-one : OneWith feed'.ps feed'.r feed.Learnt (λ κs e. e.1.0.now)
feed-one κs a z z' e e' p q = only p q

pub finish-one : OneWith finish'.ps finish'.r finish.Learnt (λ κs e. e.1.1.0.now)
finish-one κs a z z' e e' p q = only p q

pub hand-back-one : One hand-back'.ps hand-back'.r hand-back.Learnt
hand-back-one κs a z z' e e' p q = only p q

pub abort-one : One abort'.ps abort'.r abort.Learnt
abort-one κs a z z' e e' p q = only p q

pub given-number-one : One given-number'.ps given-number'.r given-number.Learnt
given-number-one κs a z z' e e' p q = only p q

pub given-from-one : One given-from'.ps given-from'.r given-from.Learnt
given-from-one κs a z z' e e' p q = only p q

pub life-number-one : One life-number'.ps life-number'.r life-number.Learnt
life-number-one κs a z z' e e' p q = only p q

pub life-from-one : One life-from'.ps life-from'.r life-from.Learnt
life-from-one κs a z z' e e' p q = only p q

pub kind-number-one : One kind-number'.ps kind-number'.r kind-number.Learnt
kind-number-one κs a z z' e e' p q = only p q

pub kind-from-one : One kind-from'.ps kind-from'.r kind-from.Learnt
kind-from-one κs a z z' e e' p q = only p q

pub color-number-one : One color-number'.ps color-number'.r color-number.Learnt
color-number-one κs a z z' e e' p q = only p q

pub color-from-one : One color-from'.ps color-from'.r color-from.Learnt
color-from-one κs a z z' e e' p q = only p q

pub numbers-of-one : One numbers-of'.ps numbers-of'.r numbers-of.Learnt
numbers-of-one κs a z z' e e' p q = only (p standard) (q standard)

pub setup-from-one : One setup-from'.ps setup-from'.r setup-from.Learnt
setup-from-one κs a z z' e e' p q = only p q

pub frame-from-one : One frame-from'.ps frame-from'.r frame-from.Learnt
frame-from-one κs a z z' e e' p q = only p q
