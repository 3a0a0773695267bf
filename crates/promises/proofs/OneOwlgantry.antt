-- Only one outcome, of every function that `owlgantry` exports (One.antt).
use Prim.Native.Nat.{ℕ}
use mathlib.Core.List.{List}
use Rattle.colours.specs.declared.Palette.{Palette}
use Rattle.colours.specs.Palette.{of_table}
use Rattle.owlgantry.proofs.owlgantry_raw_read.Reads as owlgantry-raw-read
use Rattle.owlgantry.proofs.owlgantry_raw_read.Kinds as owlgantry-raw-read'
use Rattle.owlgantry.proofs.owlgantry_raw_copy.Reads as owlgantry-raw-copy
use Rattle.owlgantry.proofs.owlgantry_raw_copy.Kinds as owlgantry-raw-copy'
use Rattle.owlgantry.proofs.owlgantry_raw_standard_palette.Reads as owlgantry-raw-standard-palette
use Rattle.owlgantry.proofs.owlgantry_raw_standard_palette.Kinds as owlgantry-raw-standard-palette'
use Rattle.owlgantry.proofs.payload_session.owlgantry_raw_payload_open.Reads as owlgantry-raw-payload-open
use Rattle.owlgantry.proofs.payload_session.owlgantry_raw_payload_open.Kinds as owlgantry-raw-payload-open'
use Rattle.owlgantry.proofs.payload_session.owlgantry_raw_payload_feed.Reads as owlgantry-raw-payload-feed
use Rattle.owlgantry.proofs.payload_session.owlgantry_raw_payload_feed.Kinds as owlgantry-raw-payload-feed'
use Rattle.owlgantry.proofs.payload_session.owlgantry_raw_payload_finish.Reads as owlgantry-raw-payload-finish
use Rattle.owlgantry.proofs.payload_session.owlgantry_raw_payload_finish.Kinds as owlgantry-raw-payload-finish'
use Rattle.owlgantry.proofs.dcs_session.owlgantry_raw_dcs_open.Reads as owlgantry-raw-dcs-open
use Rattle.owlgantry.proofs.dcs_session.owlgantry_raw_dcs_open.Kinds as owlgantry-raw-dcs-open'
use Rattle.owlgantry.proofs.dcs_session.owlgantry_raw_dcs_feed.Reads as owlgantry-raw-dcs-feed
use Rattle.owlgantry.proofs.dcs_session.owlgantry_raw_dcs_feed.Kinds as owlgantry-raw-dcs-feed'
use Rattle.owlgantry.proofs.dcs_session.owlgantry_raw_dcs_finish.Reads as owlgantry-raw-dcs-finish
use Rattle.owlgantry.proofs.dcs_session.owlgantry_raw_dcs_finish.Kinds as owlgantry-raw-dcs-finish'
use Rattle.owlgantry.proofs.explaining.owlgantry_raw_payload_explain.Reads as owlgantry-raw-payload-explain
use Rattle.owlgantry.proofs.explaining.owlgantry_raw_payload_explain.Kinds as owlgantry-raw-payload-explain'
use Rattle.owlgantry.proofs.explaining.owlgantry_raw_payload_explain_finish.Reads as owlgantry-raw-payload-explain-finish
use Rattle.owlgantry.proofs.explaining.owlgantry_raw_payload_explain_finish.Kinds as owlgantry-raw-payload-explain-finish'
use Rattle.owlgantry.proofs.explaining.owlgantry_raw_dcs_explain.Reads as owlgantry-raw-dcs-explain
use Rattle.owlgantry.proofs.explaining.owlgantry_raw_dcs_explain.Kinds as owlgantry-raw-dcs-explain'
use Rattle.owlgantry.proofs.explaining.owlgantry_raw_dcs_explain_finish.Reads as owlgantry-raw-dcs-explain-finish
use Rattle.owlgantry.proofs.explaining.owlgantry_raw_dcs_explain_finish.Kinds as owlgantry-raw-dcs-explain-finish'
use Rattle.owlgantry.proofs.explaining.owlgantry_raw_read_explain.Reads as owlgantry-raw-read-explain
use Rattle.owlgantry.proofs.explaining.owlgantry_raw_read_explain.Kinds as owlgantry-raw-read-explain'
use Rattle.owlgantry.proofs.explaining.owlgantry_raw_words.Reads as owlgantry-raw-words
use Rattle.owlgantry.proofs.explaining.owlgantry_raw_words.Kinds as owlgantry-raw-words'
use Rattle.promises.proofs.Meanings.{table-known}
use Rattle.promises.proofs.One.{only, Seen, OneLent, OneWith}

-- the answer, the canvas, the palette and the report
pub owlgantry-raw-read-one : Seen owlgantry-raw-read'.ps owlgantry-raw-read'.r owlgantry-raw-read.Learnt
    (λ κs. ℕ × List ℕ × Palette × List ℕ)
    (λ κs z e. (z, e.1.1.1.1.1.0.now, of_table e.1.1.1.1.1.1.1.0.now, e.1.1.1.1.1.1.1.1.0.now))
owlgantry-raw-read-one κs a z z' e e' p q = only p q

pub owlgantry-raw-copy-one : OneWith owlgantry-raw-copy'.ps owlgantry-raw-copy'.r owlgantry-raw-copy.Learnt (λ κs e. e.1.1.1.1.0.now)
owlgantry-raw-copy-one κs a z z' e e' p q = only p q

pub owlgantry-raw-standard-palette-one : OneLent owlgantry-raw-standard-palette'.ps owlgantry-raw-standard-palette'.r
    owlgantry-raw-standard-palette.Learnt (λ κs e. e.0.now)
owlgantry-raw-standard-palette-one κs a z z' e e' p q = table-known (only p q)

-- the answer, the session's numbers and registers, and the canvas
pub owlgantry-raw-payload-open-one : Seen owlgantry-raw-payload-open'.ps owlgantry-raw-payload-open'.r
    owlgantry-raw-payload-open.Learnt
    (λ κs. ℕ × List ℕ × List ℕ × List ℕ)
    (λ κs z e. (z, e.1.1.1.1.1.1.1.1.1.0.now, e.1.1.1.1.1.1.1.1.1.1.0.now, e.1.1.1.1.1.1.1.0.now))
owlgantry-raw-payload-open-one κs a z z' e e' p q = only p q

-- the answer, the session's numbers and registers, the canvas and the report
pub owlgantry-raw-payload-feed-one : Seen owlgantry-raw-payload-feed'.ps owlgantry-raw-payload-feed'.r
    owlgantry-raw-payload-feed.Learnt
    (λ κs. ℕ × List ℕ × List ℕ × List ℕ × List ℕ)
    (λ κs z e. (z, e.0.now, e.1.0.now, e.1.1.0.now, e.1.1.1.1.1.0.now))
owlgantry-raw-payload-feed-one κs a z z' e e' p q = only p q

-- the answer, the session's numbers, the owner's registers, the canvas and the report
pub owlgantry-raw-payload-finish-one : Seen owlgantry-raw-payload-finish'.ps owlgantry-raw-payload-finish'.r
    owlgantry-raw-payload-finish.Learnt
    (λ κs. ℕ × List ℕ × List ℕ × List ℕ × List ℕ)
    (λ κs z e. (z, e.0.now, e.1.1.1.0.now, e.1.1.0.now, e.1.1.1.1.0.now))
owlgantry-raw-payload-finish-one κs a z z' e e' p q = only p q

-- the answer, and the session's numbers and registers
pub owlgantry-raw-dcs-open-one : Seen owlgantry-raw-dcs-open'.ps owlgantry-raw-dcs-open'.r owlgantry-raw-dcs-open.Learnt
    (λ κs. ℕ × List ℕ × List ℕ)
    (λ κs z e. (z, e.1.1.1.1.1.1.1.0.now, e.1.1.1.1.1.1.1.1.0.now))
owlgantry-raw-dcs-open-one κs a z z' e e' p q = only p q

-- as of a payload session
pub owlgantry-raw-dcs-feed-one : Seen owlgantry-raw-dcs-feed'.ps owlgantry-raw-dcs-feed'.r owlgantry-raw-dcs-feed.Learnt
    (λ κs. ℕ × List ℕ × List ℕ × List ℕ × List ℕ)
    (λ κs z e. (z, e.0.now, e.1.0.now, e.1.1.0.now, e.1.1.1.1.1.0.now))
owlgantry-raw-dcs-feed-one κs a z z' e e' p q = only p q

-- as of a payload session
pub owlgantry-raw-dcs-finish-one : Seen owlgantry-raw-dcs-finish'.ps owlgantry-raw-dcs-finish'.r owlgantry-raw-dcs-finish.Learnt
    (λ κs. ℕ × List ℕ × List ℕ × List ℕ × List ℕ)
    (λ κs z e. (z, e.0.now, e.1.1.1.0.now, e.1.1.0.now, e.1.1.1.1.0.now))
owlgantry-raw-dcs-finish-one κs a z z' e e' p q = only p q

-- the answer and what is told; a session and its registers are only read
pub owlgantry-raw-payload-explain-one : OneWith owlgantry-raw-payload-explain'.ps owlgantry-raw-payload-explain'.r
    owlgantry-raw-payload-explain.Learnt (λ κs e. e.1.1.1.1.1.0.now)
owlgantry-raw-payload-explain-one κs a z z' e e' p q = only p q

pub owlgantry-raw-payload-explain-finish-one : OneWith owlgantry-raw-payload-explain-finish'.ps owlgantry-raw-payload-explain-finish'.r
    owlgantry-raw-payload-explain-finish.Learnt (λ κs e. e.1.1.1.0.now)
owlgantry-raw-payload-explain-finish-one κs a z z' e e' p q = only p q

pub owlgantry-raw-dcs-explain-one : OneWith owlgantry-raw-dcs-explain'.ps owlgantry-raw-dcs-explain'.r
    owlgantry-raw-dcs-explain.Learnt (λ κs e. e.1.1.1.1.1.0.now)
owlgantry-raw-dcs-explain-one κs a z z' e e' p q = only p q

pub owlgantry-raw-dcs-explain-finish-one : OneWith owlgantry-raw-dcs-explain-finish'.ps owlgantry-raw-dcs-explain-finish'.r
    owlgantry-raw-dcs-explain-finish.Learnt (λ κs e. e.1.1.1.0.now)
owlgantry-raw-dcs-explain-finish-one κs a z z' e e' p q = only p q

pub owlgantry-raw-read-explain-one : OneWith owlgantry-raw-read-explain'.ps owlgantry-raw-read-explain'.r
    owlgantry-raw-read-explain.Learnt (λ κs e. e.1.1.1.1.1.1.1.1.0.now)
owlgantry-raw-read-explain-one κs a z z' e e' p q = only p q

-- the answer and the buffer
pub owlgantry-raw-words-one : OneWith owlgantry-raw-words'.ps owlgantry-raw-words'.r owlgantry-raw-words.Learnt (λ κs e. e.1.0.now)
owlgantry-raw-words-one κs a z z' e e' p q = only p q
