-- At the end of a DCS sequence no command is pending: the byte that ended its payload has carried it out. So a finish there reports.
use Prim.Native.Nat.{ℕ}
use native.Mathlib.Omega.{arith}
use mathlib.Core.Path.{◌≡◌, refl, subst, ap}
use mathlib.Core.Option.{none}
use mathlib.Core.List.{List}
use Rattle.numbers.specs.Bytes.{ends}
use Rattle.colours.specs.declared.Palette.{Palette}
use Rattle.meaning.specs.Commands.{Scanned, scan_byte}
use Rattle.meaning.specs.Drawing.{Setting, draw_all}
use Rattle.meaning.specs.Payload.{finished, report_of, finish}
use Rattle.meaning.specs.Reader.{Step}
use Rattle.meaning.specs.Sessions.{Reading, opened, settled, rested, ended_at, went_on, read_byte, payload_step, finish_reading, End, Phase, start, introduced, header, within, after_escape, over, dcs_step, dcs_rested}
use Rattle.meaning.specs.Calls.{Session, Fed, drawing_of, visible_area, dcs_end, feed_dcs}
use Rattle.meaning.specs.Callers.{Ask, fed_all}
use Rattle.meaning.proofs.Cases.{cond-case, option-case}
use Rattle.meaning.proofs.KeptLaws.{calls-kept}
use Rattle.meaning.proofs.PayloadLaws.{settled-none}
use Rattle.meaning.proofs.StepLaws as does
use Rattle.meaning.proofs.StepLaws.{OnStep, Leaves, Before, DcsDoes, dcs-does}

-- a payload that goes on has met no end, and after an end nothing is begun
abbrev pub Settled : Phase → Type 0
Settled start = Unit {0}
Settled introduced = Unit {0}
Settled (header bs) = Unit {0}
Settled (within r) = r.over ≡ none
Settled (after_escape r) = r.begun ≡ none
Settled (over e r) = r.begun ≡ none

before-settled : (t : Phase) → Before t → Settled t
before-settled start h = tt
before-settled introduced h = tt
before-settled (header bs) h = tt
before-settled (within r) h = absurd h
before-settled (after_escape r) h = absurd h
before-settled (over e r) h = absurd h

-- ---- a byte

abbrev Ends : Step Reading → Type 0
Ends = OnStep (λ t i. t.over ≡ none) (λ t. t.begun ≡ none) (λ t n. t.over ≡ none)

payload-ends : (s : Setting) (r : Reading) (b : ℕ) → r.over ≡ none → Ends (payload_step s r b)
unfolding payload_step read_byte ended_at went_on
payload-ends s r b h =
    option-case Ends r.over
    (λ _. cond-case Ends (ends b) (λ _. option-case Ends (settled s r).refusal (λ _. refl) (λ _ _. refl))
    (λ _. option-case Ends (draw_all s c.ended r.drawing).refusal (λ _. refl) (λ _ _. refl)))
    (λ e q. absurd (let never : ◌≡◌ {A = ℕ} 0 1 = cc in omega arith))
  where
    c : Scanned
    c = scan_byte r.passed r.begun b

module _ (s : Setting) (p : Palette) where
  does-settled : (b : ℕ) {t : Phase} {x : Step Phase} → DcsDoes s p b t x → Settled t → Leaves Settled x
  unfolding opened
  does-settled b (does.advances {u = u} h k) q = before-settled u k
  does-settled b (does.begins h o) q = refl
  does-settled b (does.turns h) q = q
  does-settled b (does.reads r e) q = subst Ends e (payload-ends s r b q)
  does-settled b (does.refuses r e) q = subst Ends e (payload-ends s r b q)
  does-settled b (does.escapes r e) q = subst Ends e (payload-ends s r b q)
  does-settled b (does.closes r e) q = subst Ends e (payload-ends s r b q)
  does-settled b (does.breaks r e) q = subst Ends e (payload-ends s r b q)
  does-settled b does.completes q = q
  does-settled b does.lapses q = q
  does-settled b does.remains q = q

  step-settled : (b : ℕ) (t : Phase) → Settled t → Leaves Settled (dcs_step s p t b)
  step-settled b t q = does-settled b (dcs-does s p b t) q

  rested-settled : (t : Phase) → Settled t → Settled (dcs_rested s t)
  unfolding dcs_rested rested
  rested-settled start q = q
  rested-settled introduced q = q
  rested-settled (header bs) q = q
  rested-settled (within r) q = q
  rested-settled (after_escape r) q = q
  rested-settled (over e r) q = q

-- ---- any calls

-- the calls of a session keep it so, refused or not
pub calls-settled : (p : Palette) (size : ℕ) (m : Session Phase) (cs : List Ask) → Settled m.state
    → Settled (fed_all (λ t bs a. let x : Fed Phase End = feed_dcs p t size a bs in (x.session, x.answer)) m cs).state.state
unfolding feed_dcs
calls-settled p size m cs q =
    (calls-kept (λ t. visible_area (drawing_of t)) (λ x. dcs_step x p) dcs_rested dcs_end m.setting Settled
    (λ t b. step-settled m.setting p b t) (rested-settled m.setting p) size m cs (refl, q)
    ).1

-- and at the end of a sequence a finish reports
pub end-reports : (s : Setting) (e : End) (r : Reading) → Settled (over e r)
    → finish_reading s r ≡ finished (report_of r.parameters r.drawing)
unfolding finish_reading finish
end-reports s e r q = ap (finish r.parameters) (settled-none s r q)
