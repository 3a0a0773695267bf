-- A call by value is the call over the session's parts.
use Rattle.std.specs.Prelude.{◌≡◌, ℕ, List}
use mathlib.Core.Path.{refl, sym, ap, ◌∙◌}
use Rattle.colours.specs.declared.Palette.{Palette}
use Rattle.colours.specs.Marks.{lasting}
use Rattle.colours.specs.Palette.{of_table}
use Rattle.frame.specs.declared.Frame.{Frame}
use Rattle.frame.specs.declared.Limits.{Limits}
use Rattle.payload.specs.declared.Finished.{Finished}
use Rattle.payload.specs.Results.{Finishing}
use Rattle.payload.specs.declared.Life.{Life}
use Rattle.payload.specs.declared.kernel.Setup.{Setup}
use Rattle.payload.specs.Core as payload
use Rattle.payload.proofs.CoreLaws as payload_laws
use Rattle.dcs.specs.Results as session
use Rattle.dcs.specs.declared.Session.{Session}
use Rattle.dcs.specs.declared.kernel.Core.{Core}
use Rattle.dcs.specs.Results.{OpenedCore, FedCore}
use Rattle.dcs.specs.Core.{core_of, over, opened_over, fed_over}
use Rattle.dcs.specs.Session.{session_of, opened_on, opened_by, fed_by, finished_by}
use Rattle.dcs.proofs.SessionLaws.{owned_by}

pub over-same : {c : Core} {p : Palette} (s : Session) → c ≡ core_of s → p ≡ s.payload.palette → over c p ≡ s
over-same s ec ep = rw (ec, ep) refl

pub core-as : {u : Setup} {life : Life} {f : Frame} (s : Session) → u ≡ payload.setup_of s.payload → life ≡ s.payload.life → f ≡ s.payload.frame
    → ◌≡◌ {A = Core} (record { setup = u; life = life; frame = f; header = s.header; phase = s.phase }) (core_of s)
core-as s eu el ef = rw (eu, el, ef) refl

-- an opening over the parts, with a copy of the owner's palette: colours and marks
pub opened-whole : {x : OpenedCore} {q : Session} {own lent : Palette} (l : Limits) (stride : ℕ) (owner : Palette) (size : ℕ)
    → own ≡ lasting owner → lent ≡ own → opened_over x lent ≡ opened_on l stride lent size → q ≡ over x.session own
    → ◌≡◌ {A = session.Opened} (record { answer = x.answer; session = q }) (opened_by l stride owner size)
unfolding opened_by
opened-whole l stride owner size eo el e eq = rw (eq, ← eo, ← el) e

pub fed-whole : {c : Core} {p : Palette} {x : FedCore} {later : List ℕ} {q : Session} {after lent : Palette} (s : Session)
    (canvas bytes : List ℕ) (allowance : ℕ) → c ≡ core_of s → p ≡ s.payload.palette
    → (fed_over x lent, later) ≡ fed_by (over c p) canvas bytes allowance → after ≡ lent → q ≡ over x.session after
    → ◌≡◌ {A = session.Fed × List ℕ} (record { answer = x.answer; session = q }, later) (fed_by s canvas bytes allowance)
fed-whole s canvas bytes allowance ec ep e ea eq =
    rw (eq, ea) (e ∙ ap (λ (x : Session). fed_by x canvas bytes allowance) (over-same s ec ep))

module _ (s : Session) {u : Setup} {life : Life} {f : Frame} {p : Palette} (eu : u ≡ payload.setup_of s.payload) (el : life ≡ s.payload.life)
    (ef : f ≡ s.payload.frame) (ep : p ≡ s.payload.palette) where
  pub finished-whole : {a : Finishing} (colors : List ℕ) {later : List ℕ} {x : Finished} {after : Palette} (owner : Palette) (canvas : List ℕ)
      → (payload.finished_over a colors, later) ≡ finished_by (session_of (payload.over u life f p) s.header s.phase) p canvas
      → after ≡ of_table colors → x ≡ payload.handed_back a owner after
      → (x, later) ≡ finished_by s owner canvas
  finished-whole colors {later} owner canvas e ea ex =
      let same : session_of (payload.over u life f p) s.header s.phase ≡ s = rw (payload_laws.over-same s.payload eu el ef ep) refl in
      rw (ex, ea) (ap (payload_laws.owned owner) (e ∙ ap (λ (x : Session). finished_by x p canvas) same) ∙ sym (owned_by s owner p canvas))
