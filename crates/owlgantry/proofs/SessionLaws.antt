-- A session in memory is the session: what the memory holds after a call is what the call by value hands back, so that
-- histories over the exports are the histories of `payload` and `dcs`. And 48 zeros are a failed session, which answers 9.
use Rattle.std.specs.Prelude.{◌≡◌, ℕ, List, replicate}
use mathlib.Core.Path.{refl, ap, ap₂, ◌∙◌}
use Rattle.colours.specs.Palette.{of_table}
use Rattle.frame.specs.declared.Limits.{Limits}
use Rattle.frame.specs.Numbers.{number_of}
use Rattle.payload.specs.declared.Session as payload_session
use Rattle.payload.specs.declared.Settings.{Settings}
use Rattle.payload.specs.Codes.{given_from, life_from}
use Rattle.payload.specs.Refusals.{is_failed, feed_judged}
use Rattle.payload.specs.Memory as payload_memory
use Rattle.payload.specs.Ranges as payload_ranges
use Rattle.payload.specs.Session as payload
use Rattle.payload.proofs.MemoryLaws as payload_laws
use Rattle.payload.proofs.SessionRanges as payload_kept
use Rattle.dcs.specs.declared.Session as dcs_session
use Rattle.dcs.specs.Memory as dcs_memory
use Rattle.dcs.specs.Session as dcs
use Rattle.dcs.proofs.MemoryLaws as dcs_laws
use Rattle.dcs.proofs.SessionRanges as dcs_kept
use Rattle.owlgantry.specs.Sessions.{number_or_zero, payload_opened_as, payload_opened, payload_fed_as, payload_fed, finished_as, payload_finished}
use Rattle.owlgantry.specs.Sessions.{dcs_opened_as, dcs_opened, dcs_fed_as, dcs_fed, dcs_finished}

-- ---- a payload session

-- the memory holds this session, whose fields are in their ranges
pub record PayloadHeld (s : payload_session.Session) (ns ts : List ℕ) : Type 0 where
  pub numbers : ns ≡ payload_memory.numbers_of s
  pub registers : ts ≡ payload_memory.table_of s
  pub ranged : payload_ranges.Ranged s

payload-held : {s : payload_session.Session} {ns ts : List ℕ} → PayloadHeld s ns ts → payload_memory.session_from ns ts ≡ s
payload-held {s} h = ap₂ payload_memory.session_from h.numbers h.registers ∙ payload_laws.from-memory s h.ranged

-- after an opening it holds the session that was opened
pub payload-opens : (l : Limits) (stride p1 p2 : ℕ) (palette canvas : List ℕ)
    → PayloadHeld (payload.opened_by l stride (record { p1 = given_from p1; p2 = given_from p2 }) (of_table palette) canvas).0.session
    (payload_opened l stride p1 p2 palette canvas).1 (payload_opened l stride p1 p2 palette canvas).2
unfolding payload_opened payload_opened_as
payload-opens l stride p1 p2 palette canvas =
    let o : Settings = record { p1 = given_from p1; p2 = given_from p2 } in
    record {
      numbers = refl;
      registers = refl;
      ranged = payload_kept.opened-ranged-by l stride o (of_table palette) canvas
          (record { p1 = payload_kept.given-ranged p1; p2 = payload_kept.given-ranged p2 });
    }

module _ (s : payload_session.Session) (ns ts : List ℕ) (h : PayloadHeld s ns ts) where
  -- a feed over the memory is the feed of the session
  pub payload-feeds : (canvas bytes : List ℕ) (allowance : ℕ)
      → payload_fed ns ts canvas bytes allowance ≡ payload_fed_as (payload.fed_by s canvas bytes allowance)
  unfolding payload_fed
  payload-feeds canvas bytes allowance =
      ap (λ (x : payload_session.Session). payload_fed_as (payload.fed_by x canvas bytes allowance)) (payload-held h)

  -- and the memory then holds the session after it
  pub payload-feeds-on : (canvas bytes : List ℕ) (allowance : ℕ)
      → PayloadHeld (payload.fed_by s canvas bytes allowance).0.session
      (payload_fed ns ts canvas bytes allowance).1 (payload_fed ns ts canvas bytes allowance).2
  unfolding payload_fed_as
  payload-feeds-on canvas bytes allowance =
      let e = payload-feeds canvas bytes allowance in
      record {
        numbers = ap (λ (x : ℕ × List ℕ × List ℕ × List ℕ × List ℕ). x.1) e;
        registers = ap (λ (x : ℕ × List ℕ × List ℕ × List ℕ × List ℕ). x.2) e;
        ranged = payload_kept.fed-ranged s h.ranged canvas bytes allowance;
      }

  -- a finish over the memory is the finish of the session
  pub payload-finishes : (palette canvas : List ℕ)
      → payload_finished ns ts palette canvas ≡ finished_as (payload.finished_by s (of_table palette) canvas)
  unfolding payload_finished
  payload-finishes palette canvas =
      ap (λ (x : payload_session.Session). finished_as (payload.finished_by x (of_table palette) canvas)) (payload-held h)

-- ---- a DCS session

pub record DcsHeld (s : dcs_session.Session) (ns ts : List ℕ) : Type 0 where
  pub numbers : ns ≡ dcs_memory.numbers_of s
  pub registers : ts ≡ dcs_memory.table_of s
  pub ranged : dcs_memory.Ranged s

dcs-held : {s : dcs_session.Session} {ns ts : List ℕ} → DcsHeld s ns ts → dcs_memory.session_from ns ts ≡ s
dcs-held {s} h = ap₂ dcs_memory.session_from h.numbers h.registers ∙ dcs_laws.from-memory s h.ranged

pub dcs-opens : (l : Limits) (stride size : ℕ) (palette : List ℕ)
    → DcsHeld (dcs.opened_by l stride (of_table palette) size).session
    (dcs_opened l stride size palette).1 (dcs_opened l stride size palette).2
unfolding dcs_opened dcs_opened_as
dcs-opens l stride size palette =
    record { numbers = refl; registers = refl; ranged = dcs_kept.opened-ranged-by l stride (of_table palette) size }

module _ (s : dcs_session.Session) (ns ts : List ℕ) (h : DcsHeld s ns ts) where
  pub dcs-feeds : (canvas bytes : List ℕ) (allowance : ℕ)
      → dcs_fed ns ts canvas bytes allowance ≡ dcs_fed_as (dcs.fed_by s canvas bytes allowance)
  unfolding dcs_fed
  dcs-feeds canvas bytes allowance = ap (λ (x : dcs_session.Session). dcs_fed_as (dcs.fed_by x canvas bytes allowance)) (dcs-held h)

  pub dcs-feeds-on : (canvas bytes : List ℕ) (allowance : ℕ) → dcs_kept.Bytes bytes
      → DcsHeld (dcs.fed_by s canvas bytes allowance).0.session
      (dcs_fed ns ts canvas bytes allowance).1 (dcs_fed ns ts canvas bytes allowance).2
  unfolding dcs_fed_as
  dcs-feeds-on canvas bytes allowance k =
      let e = dcs-feeds canvas bytes allowance in
      record {
        numbers = ap (λ (x : ℕ × List ℕ × List ℕ × List ℕ × List ℕ). x.1) e;
        registers = ap (λ (x : ℕ × List ℕ × List ℕ × List ℕ × List ℕ). x.2) e;
        ranged = dcs_kept.fed-ranged-by s h.ranged canvas bytes allowance k;
      }

  pub dcs-finishes : (palette canvas : List ℕ)
      → dcs_finished ns ts palette canvas ≡ finished_as (dcs.finished_by s (of_table palette) canvas)
  unfolding dcs_finished
  dcs-finishes palette canvas =
      ap (λ (x : dcs_session.Session). finished_as (dcs.finished_by x (of_table palette) canvas)) (dcs-held h)

-- ---- zeros

pub payload-zeros : (ts canvas bytes : List ℕ) (allowance : ℕ) → (payload_fed (replicate 48 0) ts canvas bytes allowance).0 ≡ 9
unfolding payload_fed payload_fed_as payload.fed_by payload.fed_as feed_judged is_failed payload_memory.session_from life_from number_or_zero number_of
payload-zeros ts canvas bytes allowance = refl

pub dcs-zeros : (ts canvas bytes : List ℕ) (allowance : ℕ) → (dcs_fed (replicate 48 0) ts canvas bytes allowance).0 ≡ 9
unfolding dcs_fed dcs_fed_as dcs.fed_by dcs.fed_as feed_judged is_failed dcs_memory.session_from payload_memory.session_from life_from number_or_zero number_of
dcs-zeros ts canvas bytes allowance = refl
