-- A DCS session's finish is refused by 8, 9 and 12 alone: what its end has carried out is not judged again.
use Rattle.std.specs.Prelude.{Err}
use Prim.Native.Nat.{ℕ}
use mathlib.Core.Bool.{true}
use mathlib.Core.List.{List}
use mathlib.Core.Path.{◌≡◌, subst}
use native.Mathlib.Omega.{arith}
use lib.ListN.{length}
use Rattle.colours.specs.declared.Palette.{Palette}
use Rattle.frame.specs.Numbers.{number_of}
use Rattle.frame.specs.declared.Limits.{Limits}
use Rattle.frame.specs.declared.Refusal.{Refusal}
use Rattle.meaning.specs.Callers.{Ask, fed_all}
use Rattle.meaning.specs.Sessions.{over}
use Rattle.meaning.proofs.DcsEnds.{Settled, calls-settled, end-reports}
use Rattle.payload.specs.Refusals.{openable}
use Rattle.dcs.specs.Session.{finished_by}
use Rattle.dcs.specs.History.{fed_all_meant}
use Rattle.dcs.specs.History as coded
use Rattle.dcs.proofs.History as history
use Rattle.dcs.proofs.Openings.{opened-stands}
use Rattle.promises.proofs.DcsDemands as demands
use Rattle.promises.proofs.RefusedEnds.{dcs-end-pending}

-- what any calls of a session that was opened came to
abbrev past : Limits → ℕ → Palette → List ℕ → List Ask → coded.Past
past l stride p opening = coded.fed_all (demands.held l stride p opening).0 opening

-- After any calls of a session that was opened, a finish is refused by no other number than 8, 9 and 12.
pub dcs-end-few : (l : Limits) (stride : ℕ) (p : Palette) (opening : List ℕ) (opens : openable l stride (length opening) ≡ true)
    (cs : List Ask) (owner : Palette)
    (x : Refusal) → ¬ (number_of x ≡ 8) → ¬ (number_of x ≡ 9) → ¬ (number_of x ≡ 12)
    → ¬ ((finished_by (past l stride p opening cs).state.0 owner (past l stride p opening cs).state.1).0.answer ≡ Err x)
dcs-end-few l stride p opening opens cs owner x a b c e =
    let k = (history.history-stands l stride p opening (opened-stands l stride p opening opens) cs).state in
    let h = ((dcs-end-pending l stride p opening k owner x a b c).0 e).1.1 in
    let quiet : Settled (over h.0 h.1) = subst Settled h.2 (calls-settled p (length opening) (demands.opened_meant l stride p opening) cs tt) in
    let reports = end-reports (fed_all_meant p (demands.opened_meant l stride p opening) (length opening) cs).state.setting h.0 h.1 quiet in
    let never : ◌≡◌ {A = ℕ} 0 1 = cc (reports, h.3) in
    omega arith
