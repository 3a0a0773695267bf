-- After an abort too the palette is the owner's (rule 1.8).
use mathlib.Core.Path.{◌≡◌}
use contract.Lifetimes.{Lfts}
use denote.Triple.Clauses.{AtExit}
use borrow.Fn.Kinds.{Dens, res_t, ended_of}
use Rattle.meaning.specs.Demands.{aborted}
use Rattle.payload.proofs.abort.Reads as payload
use Rattle.payload.proofs.abort.Kinds as payload'
use Rattle.dcs.proofs.abort.Reads as dcs
use Rattle.dcs.proofs.abort.Kinds as dcs'

-- Aborting a payload session hands back the palette that the owner gave with it.
pub payload-abort-keeps : (κs : Lfts 0) (a : Dens κs payload'.ps) (z : (res_t payload'.r κs).Denot) (e : AtExit (ended_of 0 payload'.ps payload'.r) κs)
    → payload.Learnt κs a z e → z ≡ aborted a.1.0
unfolding aborted
payload-abort-keeps κs a z e h = h

-- So does aborting a DCS session.
pub dcs-abort-keeps : (κs : Lfts 0) (a : Dens κs dcs'.ps) (z : (res_t dcs'.r κs).Denot) (e : AtExit (ended_of 0 dcs'.ps dcs'.r) κs)
    → dcs.Learnt κs a z e → z ≡ aborted a.1.0
unfolding aborted
dcs-abort-keeps κs a z e h = h
