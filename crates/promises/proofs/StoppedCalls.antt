-- A call that says it stopped for ink has read a byte and used its allowance but for less than 6W (rule 6.3).
use Prim.Native.Nat.{ℕ, ◌+◌, ◌*◌, ◌≤◌}
use mathlib.Core.Bool.{Bool, true, false, cond}
use mathlib.Core.List.{List}
use mathlib.Core.Option.{Option, none, some}
use mathlib.Core.Path.{◌≡◌, refl}
use native.Mathlib.Omega.{arith}
use borrow.Author.Tests.{ltb-false}
use lib.Dec.{ltb}
use Rattle.colours.specs.declared.Palette.{Palette}
use Rattle.canvas.specs.Picture.{Area}
use Rattle.meaning.specs.Drawing.{Setting}
use Rattle.meaning.specs.Reader.{Step, How, read_all, stopped, halted, refused_by, Run, call}
use Rattle.meaning.specs.Sessions.{Reading, rested, payload_step, Phase, dcs_step, dcs_rested}
use Rattle.meaning.specs.Calls.{Session, stopped_for_ink, told, refused, Fed, at_end, tells, answered, first_of, misfits, feed_refusal, feed, dcs_end, feed_payload, feed_dcs}
use Rattle.meaning.proofs.ReaderAsks.{CapLaw}
use Rattle.meaning.proofs.CallLaws.{call-stops, call-stop-reads}
use Rattle.meaning.proofs.Demand3.{payload-caps, dcs-caps}
use Rattle.promises.proofs.RefusedSessions.{payload_area, dcs_area}

-- what a stopped call says of itself: a byte consumed, and an ink of at least A - 6W + 1
pub record Worked (a cap n i : ℕ) : Type 0 where
  pub reads : 1 ≤ n
  pub inks : a + 1 ≤ i + cap

module _ {S E : Type 0} (area_of : S → Area) (step : Setting → S → ℕ → Step S) (rest : Setting → S → S) (end : S → Option E)
    (caps : (c : Setting) → CapLaw (step c) (6 * c.limits.width)) (s : Session S) (length a : ℕ) (bs : List ℕ) (n i : ℕ) where
  abbrev ran : Run S
  ran = call (step s.setting) (rest s.setting) a s.state bs

  -- it passed 13
  enough : feed_refusal area_of s length a ≡ none → 6 * s.setting.limits.width ≤ a
  unfolding feed_refusal first_of
  enough e = ltb-false a _ (go s.failed (misfits area_of s length) (ltb a (6 * s.setting.limits.width)) e)
    where
      go : (t u v : Bool) → ◌≡◌ {A = Option ℕ} (cond t (some 9) (cond u (some 12) (cond v (some 13) none))) none → v ≡ false
      go true u v e = let never : ◌≡◌ {A = ℕ} 0 1 = cc in absurd (omega arith)
      go false true v e = let never : ◌≡◌ {A = ℕ} 0 1 = cc in absurd (omega arith)
      go false false true e = let never : ◌≡◌ {A = ℕ} 0 1 = cc in absurd (omega arith)
      go false false false e = refl

  -- only a stopped run is answered so
  run-stopped : (answered end s ran).answer ≡ told n i stopped_for_ink → (ran.how ≡ stopped) × ((ran.consumed ≡ n) × (ran.ink ≡ i))
  unfolding answered tells at_end
  run-stopped = go ran.how
    where
      of : How → Fed S E
      of how = answered end s (record { state = ran.state; consumed = ran.consumed; ink = ran.ink; how = how })

      never-at-end : (x : Option E) {c d : ℕ} {X : Type 0} → told c d (at_end x) ≡ told n i stopped_for_ink → X
      never-at-end none e = let never : ◌≡◌ {A = ℕ} 0 1 = cc in absurd (omega arith)
      never-at-end (some x) e = let never : ◌≡◌ {A = ℕ} 0 1 = cc in absurd (omega arith)

      go : (how : How) → (of how).answer ≡ told n i stopped_for_ink → (how ≡ stopped) × ((ran.consumed ≡ n) × (ran.ink ≡ i))
      go read_all e = never-at-end (end ran.state) e
      go stopped e = (refl, (cc, cc))
      go halted e = never-at-end (end ran.state) e
      go (refused_by m) e = let never : ◌≡◌ {A = ℕ} 0 1 = cc in absurd (omega arith)

  -- A stopped call has read a byte, and its ink is at least A - 6W + 1.
  pub stop-works : (feed area_of step rest end s length a bs).answer ≡ told n i stopped_for_ink → Worked a (6 * s.setting.limits.width) n i
  unfolding feed
  stop-works e = go (feed_refusal area_of s length a) refl e
    where
      of : Option ℕ → Fed S E
      of o = elim o [ none ↦ answered end s ran | some m ↦ record { answer = refused m; session = s } ]

      go : (o : Option ℕ) → feed_refusal area_of s length a ≡ o → (of o).answer ≡ told n i stopped_for_ink
          → Worked a (6 * s.setting.limits.width) n i
      go none q e =
          let h = run-stopped e in
          let consumed : ran.consumed ≡ n = h.1.0 in
          let ink : ran.ink ≡ i = h.1.1 in
          let room : 6 * s.setting.limits.width ≤ a = enough q in
          record {
            reads =
                omega (arith, call-stop-reads (step s.setting) (rest s.setting) _ (caps s.setting) a s.state bs room h.0);
            inks = omega (arith, call-stops (step s.setting) (rest s.setting) _ (caps s.setting) a s.state bs h.0);
          }
      go (some m) q e = let never : ◌≡◌ {A = ℕ} 0 1 = cc in absurd (omega arith)

-- So it is for payload sessions,
pub payload-stop-works : (m : Session Reading) (length a : ℕ) (bs : List ℕ) (n i : ℕ)
    → (feed_payload m length a bs).answer ≡ told n i stopped_for_ink
    → Worked a (6 * m.setting.limits.width) n i
unfolding feed_payload
payload-stop-works m length a bs n i = stop-works payload_area payload_step rested (λ r. r.over) payload-caps m length a bs n i

-- and for DCS sessions.
pub dcs-stop-works : (p : Palette) (m : Session Phase) (length a : ℕ) (bs : List ℕ) (n i : ℕ)
    → (feed_dcs p m length a bs).answer ≡ told n i stopped_for_ink
    → Worked a (6 * m.setting.limits.width) n i
unfolding feed_dcs
dcs-stop-works p m length a bs n i = stop-works dcs_area (λ c. dcs_step c p) dcs_rested dcs_end (λ c. dcs-caps c p) m length a bs n i
