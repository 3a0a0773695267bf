-- After a refusal in a feed the canvas holds what came before the refused byte or command (rule 5.6).
use Rattle.std.specs.Prelude.{Err}
use Prim.Native.Nat.{ℕ, ◌≤◌}
use mathlib.Core.List.{List}
use mathlib.Core.Logic.{inl, inr}
use mathlib.Core.Option.{Option, none, some}
use mathlib.Core.Path.{◌≡◌, ap, ◌∙◌}
use native.Mathlib.Omega.{arith}
use lib.ListN.{length}
use Rattle.colours.specs.declared.Palette.{Palette}
use Rattle.frame.specs.Numbers.{number_of}
use Rattle.frame.specs.declared.Limits.{Limits}
use Rattle.frame.specs.declared.Refusal.{Refusal}
use Rattle.meaning.specs.Calls as calls
use Rattle.meaning.specs.Drawing.{Setting, Drawing}
use Rattle.meaning.specs.Reader.{read_from}
use Rattle.meaning.specs.Sessions.{Reading, payload_step, Phase, start, introduced, header, within, after_escape, over, dcs_step}
use Rattle.payload.specs.declared.Answer.TheVariants as answers
use Rattle.payload.specs.declared.Session.{Session}
use Rattle.payload.specs.Session.{fed_by}
use Rattle.payload.specs.History.{Stands}
use Rattle.dcs.specs.declared.Session as dcs_session
use Rattle.dcs.specs.Session as dcs_coded
use Rattle.dcs.specs.History as dcs
use Rattle.promises.proofs.RefusedBytes.{commands_at, byte-exactly, DcsRefused, dcs-byte-exactly}
use Rattle.promises.proofs.RefusedCommands.{RefusedAt}
use Rattle.promises.proofs.RefusedDcs.{dcs-feed-shows}
use Rattle.promises.proofs.RefusedDcsBytes.{InPayload, Headed, headed-number, struck-number}
use Rattle.promises.proofs.RefusedPayload.{payload-feed-shows}
use Rattle.promises.proofs.RefusedRuns.{RunRefused, MeetsByte}
use Rattle.promises.proofs.RefusedSessions.{payload_ran, dcs_ran}

-- A payload feed that 4 to 7 refuse: a byte ends or is a refused command, and the canvas shows the drawing of the bytes and commands before it.
pub payload-feed-before : {opening : List ℕ} {s : Session} {l : List ℕ} {m : calls.Session Reading} → Stands opening s l m → (bs : List ℕ) (a : ℕ) (x : Refusal)
    → number_of x ≤ 7 → (fed_by s l bs a).0.answer ≡ Err x
    → (f : Drawing)
    × MeetsByte (payload_step m.setting) a m.state bs (λ r b. RefusedAt m.setting (commands_at r b) r.drawing f (number_of x))
    × ((fed_by s l bs a).1 ≡ calls.shown m.setting.stride (some f) opening)
payload-feed-before {opening} {s} {l} {m} k bs a x low e =
    let h = payload-feed-shows k bs a x low e in
    let r : RunRefused (payload_step m.setting) a m.state bs (payload_ran m (length l) a bs).state (number_of x) = h.0 in
    let there = (read_from (payload_step m.setting) m.state r.before).state in
    let b = (byte-exactly m.setting there r.byte (payload_ran m (length l) a bs).state (number_of x)).0 r.refuses in (
      (payload_ran m (length l) a bs).state.drawing,
      record { before = r.before; byte = r.byte; later = r.later; split = r.split; reads = r.reads; fits = r.fits; holds = b.command },
      h.1,
    )

-- what a refused byte of a DCS sequence leaves: no drawing before the payload, in it the drawing of the commands before the refused one
module _ (s : Setting) (b : ℕ) (u : Phase) (n : ℕ) where
  early : n ≤ 3 → (t : Phase) → DcsRefused s t b u n → calls.drawing_of u ≡ none
  unfolding calls.drawing_of
  early low start h = ap calls.drawing_of h.1.1.0
  early low introduced h = ap calls.drawing_of h.1.0
  early low (header bs) h = go h.1.1.1
    where
      go : Headed bs b u n → calls.drawing_of u ≡ none
      go (inl k) = ap calls.drawing_of k.1.0
      go (inr k) = ap calls.drawing_of k.1.0
  early low (within r) h = let range : (4 ≤ n) × (n ≤ 7) = struck-number s b h.2 in absurd (omega arith)
  early low (after_escape r) h = absurd h
  early low (over e r) h = absurd h

  late : 4 ≤ n → (t : Phase) → DcsRefused s t b u n
      → InPayload t (λ r. (f : Drawing) × (calls.drawing_of u ≡ some f) × RefusedAt s (commands_at r b) r.drawing f n)
  unfolding calls.drawing_of
  late high start h = let number : n ≡ 1 = h.1.1.1 in omega arith
  late high introduced h = let number : n ≡ 1 = h.1.1 in omega arith
  late high (header bs) h = let range : (2 ≤ n) × (n ≤ 3) = headed-number h.1.1.1 in omega arith
  late high (within r) h = (h.0.drawing, ap calls.drawing_of h.1, h.2.command)
  late high (after_escape r) h = h
  late high (over e r) h = h

module _ (l : Limits) (stride : ℕ) (p : Palette) (opening : List ℕ) {s : dcs_session.Session} {c : List ℕ} {m : calls.Session Phase}
    (k : dcs.Stands l stride p opening s c m)
    (bs : List ℕ) (a : ℕ) (x : Refusal) (e : (dcs_coded.fed_by s c bs a).0.answer ≡ Err x) where
  left : number_of x ≤ 7 → RunRefused (dcs_step m.setting p) a m.state bs (dcs_ran p m (length c) a bs).state (number_of x)
  left low = (dcs-feed-shows l stride p opening k bs a x low e).0

  -- the phase before the refused byte
  abbrev last : number_of x ≤ 7 → Phase
  last low = (read_from (dcs_step m.setting p) m.state (left low).before).state

  refused-there : (low : number_of x ≤ 7) → DcsRefused m.setting (last low) (left low).byte (dcs_ran p m (length c) a bs).state (number_of x)
  refused-there low = (dcs-byte-exactly m.setting p (left low).byte (dcs_ran p m (length c) a bs).state (number_of x) (last low)).0 (left low).refuses

  -- A DCS feed that 1, 2 or 3 refuse has written nothing since the opening.
  pub dcs-feed-unwritten : number_of x ≤ 3 → (dcs_coded.fed_by s c bs a).1 ≡ opening
  unfolding calls.shown
  dcs-feed-unwritten small =
      let low : number_of x ≤ 7 = omega arith in
      (dcs-feed-shows l stride p opening k bs a x low e).1
      ∙ ap (λ (o : Option Drawing). calls.shown m.setting.stride o opening)
      (early m.setting (left low).byte (dcs_ran p m (length c) a bs).state (number_of x) small (last low) (refused-there low))

  -- One that 4 to 7 refuse: a byte of the payload ends or is a refused command, and the canvas shows the drawing before it.
  pub dcs-feed-before : 4 ≤ number_of x → number_of x ≤ 7
      → MeetsByte (dcs_step m.setting p) a m.state bs
      (λ t b.
      InPayload t
      (λ r.
      (f : Drawing)
      × RefusedAt m.setting (commands_at r b) r.drawing f (number_of x)
      × ((dcs_coded.fed_by s c bs a).1 ≡ calls.shown m.setting.stride (some f) opening)))
  dcs-feed-before high low =
      record {
        before = (left low).before;
        byte = (left low).byte;
        later = (left low).later;
        split = (left low).split;
        reads = (left low).reads;
        fits = (left low).fits;
        holds = go (last low) (late m.setting (left low).byte (dcs_ran p m (length c) a bs).state (number_of x) high (last low) (refused-there low));
      }
    where
      go : (t : Phase)
          → InPayload t
          (λ r.
          (f : Drawing)
          × (calls.drawing_of (dcs_ran p m (length c) a bs).state ≡ some f)
          × RefusedAt m.setting (commands_at r (left low).byte) r.drawing f (number_of x))
          → InPayload t
          (λ r.
          (f : Drawing)
          × RefusedAt m.setting (commands_at r (left low).byte) r.drawing f (number_of x)
          × ((dcs_coded.fed_by s c bs a).1 ≡ calls.shown m.setting.stride (some f) opening))
      go start h = h
      go introduced h = h
      go (header hs) h = h
      go (within r) h =
          (h.0, h.2, (dcs-feed-shows l stride p opening k bs a x low e).1 ∙ ap (λ (o : Option Drawing). calls.shown m.setting.stride o opening) h.1)
      go (after_escape r) h = h
      go (over z r) h = h
