-- The refusals of the code's DCS feed, each in one sentence (rules 5.1, 5.2).
use Rattle.std.specs.Prelude.{Err}
use Prim.Native.Nat.{ℕ, ◌*◌, ◌≤◌, ◌<◌}
use mathlib.Core.Bool.{true}
use mathlib.Core.List.{List}
use mathlib.Core.Logic.Iff
use mathlib.Core.Logic.{◌↔◌}
use mathlib.Core.Path.{◌≡◌}
use native.Mathlib.Omega.{arith}
use lib.ListN.{length}
use Rattle.colours.specs.declared.Palette.{Palette}
use Rattle.frame.specs.Numbers.{number_of}
use Rattle.frame.specs.declared.Limits.{Limits}
use Rattle.frame.specs.declared.Refusal.{Refusal}
use Rattle.frame.specs.declared.Refusal.TheVariants.{Introducer, HeaderEnded, HeaderByte, Repeat, Size, Pixels, Room}
use Rattle.meaning.specs.Calls as calls
use Rattle.meaning.specs.Commands.{Command}
use Rattle.meaning.specs.Drawing.{Drawing, refused, draw_command}
use Rattle.meaning.specs.Reader.{refuse}
use Rattle.meaning.specs.Sessions.{Phase, dcs_step, dcs_rested}
use Rattle.payload.specs.declared.Answer.TheVariants as answers
use Rattle.dcs.specs.declared.Session.{Session}
use Rattle.dcs.specs.Session.{fed_by}
use Rattle.dcs.specs.History.{Stands}
use Rattle.promises.proofs.RefusedBytes.{DcsRefused, dcs-byte-exactly}
use Rattle.promises.proofs.RefusedCalls as any
use Rattle.promises.proofs.RefusedCommands.{AboveRepeats, asked_size, Asks, four-exactly, five-exactly, six-exactly, seven-exactly}
use Rattle.promises.proofs.RefusedDcs.{dcs-feed-exactly}
use Rattle.promises.proofs.RefusedDcsBytes.{NotIntroducing, InHeader, InPayload, Strange, one_byte, two-byte, three-byte, payload-byte}
use Rattle.promises.proofs.RefusedFeeds.{Strikes}
use Rattle.promises.proofs.RefusedHeaders.{Cuts}
use Rattle.promises.proofs.RefusedRuns.{RunRefused, MeetsByte, meets-exactly}
use Rattle.promises.proofs.RefusedSessions.{dcs_area, dcs_ran, dcs-bytes}
use Rattle.promises.proofs.RefusedSizes.{AboveLimits, SixNotFive, SevenNotSix}

module _ (l : Limits) (stride : ℕ) (p : Palette) (opening : List ℕ) {s : Session} {c : List ℕ} {m : calls.Session Phase}
    (k : Stands l stride p opening s c m) (bs : List ℕ) (a : ℕ) where
  -- the session has not failed, the canvas fits, the allowance is at least 6W, and the bytes come to one where this holds
  abbrev pub Comes : (Phase → ℕ → Type 0) → Type 0
  Comes P =
      (¬ (m.failed ≡ true))
      × ((¬ any.Misfits dcs_area m (length c)) × ((¬ (a < 6 * m.setting.limits.width)) × MeetsByte (dcs_step m.setting p) a m.state bs P))

  comes : (x : Refusal) (P : Phase → ℕ → Type 0) → number_of x ≤ 7 → ((t : Phase) (b : ℕ) → ((u : Phase) × DcsRefused m.setting t b u (number_of x)) ↔ P t b)
      → ((fed_by s c bs a).0.answer ≡ Err x) ↔ Comes P
  comes x P low f =
      Iff.trans (dcs-feed-exactly l stride p opening k bs a x)
      (Iff.trans (dcs-bytes p m (length c) a bs (number_of x) low)
      (λ h. (h.0, (h.1.0, (h.1.1.0, run.0 h.1.1.1))), λ h. (h.0, (h.1.0, (h.1.1.0, run.1 h.1.1.1)))))
    where
      byte : (t : Phase) (b : ℕ) → ((u : Phase) × (dcs_step m.setting p t b ≡ refuse u (number_of x))) ↔ P t b
      byte t b = (
        λ h. (f t b).0 (h.0, (dcs-byte-exactly m.setting p b h.0 (number_of x) t).0 h.1),
        λ h. let d = (f t b).1 h in (d.0, (dcs-byte-exactly m.setting p b d.0 (number_of x) t).1 d.1),
      )

      run : RunRefused (dcs_step m.setting p) a m.state bs (dcs_ran p m (length c) a bs).state (number_of x)
          ↔ MeetsByte (dcs_step m.setting p) a m.state bs P
      run = meets-exactly (dcs_step m.setting p) (dcs_rested m.setting) a m.state bs (number_of x) P byte

  -- 1 is given exactly when the first byte is not 1B or 90, or the byte after 1B is not `P`.
  pub dcs-feed-one : ((fed_by s c bs a).0.answer ≡ Err Introducer) ↔ Comes NotIntroducing
  unfolding number_of
  dcs-feed-one = comes Introducer NotIntroducing (omega arith) (λ t b. one_byte m.setting b t)

  -- 2 is given exactly when a header byte is 18, 1A, 1B or 80-9F.
  pub dcs-feed-two : ((fed_by s c bs a).0.answer ≡ Err HeaderEnded) ↔ Comes (λ t b. InHeader t (Cuts b))
  unfolding number_of
  dcs-feed-two = comes HeaderEnded (λ t b. InHeader t (Cuts b)) (omega arith) (λ t b. two-byte m.setting b t)

  -- 3 is given exactly when a header byte is any other than a digit, `;`, `q` or a skipped one.
  pub dcs-feed-three : ((fed_by s c bs a).0.answer ≡ Err HeaderByte) ↔ Comes (λ t b. InHeader t (Strange b × (¬ Cuts b)))
  unfolding number_of
  dcs-feed-three = comes HeaderByte (λ t b. InHeader t (Strange b × (¬ Cuts b))) (omega arith) (λ t b. three-byte m.setting b t)

  -- the bytes come to a command of the payload of which this holds
  abbrev pub ComesTo : (Command → Drawing → Type 0) → Type 0
  ComesTo P = Comes (λ t b. InPayload t (λ r. Strikes m.setting r b P))

  comes-to : (x : Refusal) (P : Command → Drawing → Type 0) → 4 ≤ number_of x → number_of x ≤ 7
      → ((d : Command) (e : Drawing) → (draw_command m.setting d e ≡ refused (number_of x)) ↔ P d e)
      → ((fed_by s c bs a).0.answer ≡ Err x) ↔ ComesTo P
  comes-to x P high low f =
      comes x (λ t b. InPayload t (λ r. Strikes m.setting r b P)) low (λ t b. payload-byte m.setting b (number_of x) high P f t)

  -- 4 is given exactly when a repeat command ends with a value above R.
  pub dcs-feed-four : ((fed_by s c bs a).0.answer ≡ Err Repeat) ↔ ComesTo (λ d e. AboveRepeats m.setting d)
  unfolding number_of
  dcs-feed-four = comes-to Repeat (λ d e. AboveRepeats m.setting d) (omega arith) (omega arith) (four-exactly m.setting)

  -- 5 is given exactly when a sixel or raster size exceeds W or H.
  pub dcs-feed-five : ((fed_by s c bs a).0.answer ≡ Err Size) ↔ ComesTo (λ d e. Asks (asked_size d e) (AboveLimits m.setting))
  unfolding number_of
  dcs-feed-five = comes-to Size (λ d e. Asks (asked_size d e) (AboveLimits m.setting)) (omega arith) (omega arith) (five-exactly m.setting)

  -- 6 is given exactly when it does not, and the visible area, or the raster size, would exceed M pixels.
  pub dcs-feed-six : ((fed_by s c bs a).0.answer ≡ Err Pixels) ↔ ComesTo (λ d e. Asks (asked_size d e) (SixNotFive m.setting e.area))
  unfolding number_of
  dcs-feed-six = comes-to Pixels (λ d e. Asks (asked_size d e) (SixNotFive m.setting e.area)) (omega arith) (omega arith) (six-exactly m.setting)

  -- 7 is given exactly when neither holds, and the width is above the stride or the height above the rows.
  pub dcs-feed-seven : ((fed_by s c bs a).0.answer ≡ Err Room) ↔ ComesTo (λ d e. Asks (asked_size d e) (SevenNotSix m.setting e.area))
  unfolding number_of
  dcs-feed-seven = comes-to Room (λ d e. Asks (asked_size d e) (SevenNotSix m.setting e.area)) (omega arith) (omega arith) (seven-exactly m.setting)
