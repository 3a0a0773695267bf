-- The refusals of a finish of a payload and of a DCS session, in their order: 9, 12, 8, the pending command's (rule 5.3).
use Prim.Native.Nat.{ℕ, ◌≤◌}
use mathlib.Core.Bool.{true}
use mathlib.Core.List.{List}
use mathlib.Core.Logic.{◌↔◌}
use mathlib.Core.Option.{Option, none, some}
use mathlib.Core.Path.{◌≡◌, refl, sym, ap, ◌∙◌, subst}
use native.Mathlib.Omega.{arith}
use Rattle.meaning.specs.Commands.{Placed, closed}
use Rattle.meaning.specs.Drawing.{Setting, Drawing, Outcome, draw_all}
use Rattle.meaning.specs.Payload.{Parameters, finished, turned_down, report_of, finish}
use Rattle.meaning.specs.Sessions.{Reading, settled, finish_reading, End, Phase, start, introduced, header, within, after_escape, over, finish_dcs}
use Rattle.meaning.specs.Calls.{Session, dcs_end, finish_payload, finish_dcs_session}
use Rattle.meaning.proofs.AreaLaws.{outcome-reports, ReportOr4To7}
use Rattle.meaning.proofs.AreaLaws as numbered
use Rattle.promises.proofs.RefusedCommands.{RefusedAt, commands-exactly}
use Rattle.promises.proofs.RefusedCalls as any
use Rattle.promises.proofs.RefusedSessions.{payload_area, dcs_area}

-- ---- what a state is refused with

-- any commands, then a finish
module _ (s : Setting) (o : Parameters) (cs : List Placed) (d : Drawing) (n : ℕ) where
  abbrev out : Outcome
  out = draw_all s cs d

  -- it is turned down with 4 to 7
  pub finish-numbers : finish o out ≡ turned_down n → (4 ≤ n) × (n ≤ 7)
  finish-numbers e = subst ReportOr4To7 e (numbered.finish-numbers s d o cs)

  -- It is turned down exactly when a command is refused.
  pub finish-exactly : (finish o out ≡ turned_down n) ↔ ((f : Drawing) × RefusedAt s cs d f n)
  unfolding finish
  finish-exactly = (λ e. to out.refusal refl e, λ h. ap (finish o) ((commands-exactly s cs d h.0 n).1 h.1))
    where
      to : (x : Option ℕ) → out.refusal ≡ x → finish o out ≡ turned_down n → (f : Drawing) × RefusedAt s cs d f n
      to none q e =
          let reports : finish o out ≡ finished (report_of o out.drawing) = outcome-reports o out q in
          let never : ◌≡◌ {A = ℕ} 0 1 = cc in absurd (omega arith)
      to (some m) q e =
          let known : out ≡ record { drawing = out.drawing; refusal = some m } =
          ap (λ (x : Option ℕ). record { drawing = out.drawing; refusal = x }) q in
          let down : turned_down m ≡ turned_down n = sym (ap (finish o) known) ∙ e in
          let number : m ≡ n = cc in
          let struck = known ∙ ap (λ (k : ℕ). record { drawing = out.drawing; refusal = some k }) number in
          (out.drawing, (commands-exactly s cs d out.drawing n).0 struck)

module _ (s : Setting) (r : Reading) where
  -- A reading is turned down exactly when its pending command is refused.
  pub pending-exactly : (n : ℕ) → (finish_reading s r ≡ turned_down n) ↔ ((f : Drawing) × RefusedAt s (closed r.begun) r.drawing f n)
  unfolding finish_reading settled
  pending-exactly n = finish-exactly s r.parameters (closed r.begun) r.drawing n

  reading-neither : (n : ℕ) → finish_reading s r ≡ turned_down n → (¬ (n ≡ 8)) × ((¬ (n ≡ 9)) × (¬ (n ≡ 12)))
  unfolding finish_reading settled
  reading-neither n e =
      let h = finish-numbers s r.parameters (closed r.begun) r.drawing n e in
      (λ q. omega arith, (λ q. omega arith, λ q. omega arith))

-- before the end 8 is given
ended-eight : (s : Setting) (t : Phase) → (finish_dcs s t ≡ turned_down 8) ↔ (dcs_end t ≡ none)
unfolding finish_dcs dcs_end
ended-eight s start = (λ e. refl, λ e. refl)
ended-eight s introduced = (λ e. refl, λ e. refl)
ended-eight s (header bs) = (λ e. refl, λ e. refl)
ended-eight s (within r) = (λ e. refl, λ e. refl)
ended-eight s (after_escape r) = (λ e. refl, λ e. refl)
ended-eight s (over e r) = (λ q. absurd ((reading-neither s r 8 q).0 refl), λ q. let never : ◌≡◌ {A = ℕ} 0 1 = cc in absurd (omega arith))

-- at an end, what the payload is turned down with
abbrev pub AtEnd : Phase → (Reading → Type 0) → Type 0
AtEnd t P = (e : End) × (r : Reading) × (t ≡ over e r) × P r

early : (t : Phase) (n : ℕ) {P : Reading → Type 0} → dcs_end t ≡ none → ¬ (n ≡ 8) → (turned_down 8 ≡ turned_down n) ↔ AtEnd t P
unfolding dcs_end
early t n q differ = (
  λ e. absurd (differ (cc)),
  λ h. let e : none ≡ some h.0 = sym q ∙ ap dcs_end h.2 in let never : ◌≡◌ {A = ℕ} 0 1 = cc in absurd (omega arith),
)

ended-own : (s : Setting) (t : Phase) (n : ℕ) → ¬ (n ≡ 8) → (finish_dcs s t ≡ turned_down n) ↔ AtEnd t (λ r. finish_reading s r ≡ turned_down n)
unfolding finish_dcs dcs_end
ended-own s start n differ = early start n refl differ
ended-own s introduced n differ = early introduced n refl differ
ended-own s (header bs) n differ = early (header bs) n refl differ
ended-own s (within r) n differ = early (within r) n refl differ
ended-own s (after_escape r) n differ = early (after_escape r) n refl differ
ended-own s (over e r) n differ = (λ q. (e, r, refl, q), λ h. let same : r ≡ h.1 = cc h.2 in ap (finish_reading s) same ∙ h.3)

dcs-neither : (s : Setting) (t : Phase) (n : ℕ) → finish_dcs s t ≡ turned_down n → (¬ (n ≡ 9)) × (¬ (n ≡ 12))
unfolding finish_dcs
dcs-neither s start n e = let number : 8 ≡ n = cc in (λ q. omega arith, λ q. omega arith)
dcs-neither s introduced n e = let number : 8 ≡ n = cc in (λ q. omega arith, λ q. omega arith)
dcs-neither s (header bs) n e = let number : 8 ≡ n = cc in (λ q. omega arith, λ q. omega arith)
dcs-neither s (within r) n e = let number : 8 ≡ n = cc in (λ q. omega arith, λ q. omega arith)
dcs-neither s (after_escape r) n e = let number : 8 ≡ n = cc in (λ q. omega arith, λ q. omega arith)
dcs-neither s (over x r) n e = (reading-neither s r n e).1

-- ---- a payload session: 9, 12, the pending command's

module _ (m : Session Reading) (length : ℕ) where
  pub payload-finish-nine : (finish_payload m length ≡ turned_down 9) ↔ (m.failed ≡ true)
  unfolding finish_payload
  payload-finish-nine = any.finish-nine payload_area m length finish_reading (λ n e. (reading-neither m.setting m.state n e).1)

  pub payload-finish-twelve : (finish_payload m length ≡ turned_down 12) ↔ ((¬ (m.failed ≡ true)) × any.Misfits payload_area m length)
  unfolding finish_payload
  payload-finish-twelve = any.finish-twelve payload_area m length finish_reading (λ n e. (reading-neither m.setting m.state n e).1)

  -- 4 to 7, exactly when the pending command is refused so; no other number comes
  pub payload-finish-pending : (n : ℕ) → ¬ (n ≡ 9) → ¬ (n ≡ 12)
      → (finish_payload m length ≡ turned_down n)
      ↔ ((¬ (m.failed ≡ true))
      × ((¬ any.Misfits payload_area m length)
      × ((f : Drawing) × RefusedAt m.setting (closed m.state.begun) m.state.drawing f n)))
  unfolding finish_payload
  payload-finish-pending n a b =
      let k = any.finish-own payload_area m length finish_reading n a b in
      let p = pending-exactly m.setting m.state n in
      (λ e. let h = k.0 e in (h.0, (h.1.0, p.0 h.1.1)), λ h. k.1 (h.0, (h.1.0, p.1 h.1.1)))

-- ---- a DCS session: 9, 12, 8, the pending command's

module _ (m : Session Phase) (length : ℕ) where
  pub dcs-finish-nine : (finish_dcs_session m length ≡ turned_down 9) ↔ (m.failed ≡ true)
  unfolding finish_dcs_session
  dcs-finish-nine = any.finish-nine dcs_area m length finish_dcs (λ n e. dcs-neither m.setting m.state n e)

  pub dcs-finish-twelve : (finish_dcs_session m length ≡ turned_down 12) ↔ ((¬ (m.failed ≡ true)) × any.Misfits dcs_area m length)
  unfolding finish_dcs_session
  dcs-finish-twelve = any.finish-twelve dcs_area m length finish_dcs (λ n e. dcs-neither m.setting m.state n e)

  -- 8 is given exactly when neither holds and the end has not come.
  pub dcs-finish-eight : (finish_dcs_session m length ≡ turned_down 8)
      ↔ ((¬ (m.failed ≡ true)) × ((¬ any.Misfits dcs_area m length) × (dcs_end m.state ≡ none)))
  unfolding finish_dcs_session
  dcs-finish-eight =
      let k = any.finish-own dcs_area m length finish_dcs 8 (λ q. omega arith) (λ q. omega arith) in
      let p = ended-eight m.setting m.state in
      (λ e. let h = k.0 e in (h.0, (h.1.0, p.0 h.1.1)), λ h. k.1 (h.0, (h.1.0, p.1 h.1.1)))

  -- any other number, exactly when the payload is turned down so at the end
  pub dcs-finish-pending : (n : ℕ) → ¬ (n ≡ 8) → ¬ (n ≡ 9) → ¬ (n ≡ 12)
      → (finish_dcs_session m length ≡ turned_down n)
      ↔ ((¬ (m.failed ≡ true)) × ((¬ any.Misfits dcs_area m length) × AtEnd m.state (λ r. finish_reading m.setting r ≡ turned_down n)))
  unfolding finish_dcs_session
  dcs-finish-pending n a b c =
      let k = any.finish-own dcs_area m length finish_dcs n b c in
      let p = ended-own m.setting m.state n a in
      (λ e. let h = k.0 e in (h.0, (h.1.0, p.0 h.1.1)), λ h. k.1 (h.0, (h.1.0, p.1 h.1.1)))
