-- The refusals of the code's reading all at once, each in one sentence (rules 5.1, 8.3).
use Rattle.std.specs.Prelude.{Err}
use Prim.Native.Nat.{ℕ, ◌≤◌}
use mathlib.Core.List.{List, [], ◌∷◌, ◌++◌}
use mathlib.Core.Logic.Iff
use mathlib.Core.Logic.{◌↔◌, ◌⊎◌, inl, inr}
use mathlib.Core.Option.{none, some}
use mathlib.Core.Path.{◌≡◌, refl}
use native.Mathlib.Omega.{arith}
use lib.ListN.{length}
use Rattle.colours.specs.declared.Palette.{Palette}
use Rattle.frame.specs.Numbers.{number_of}
use Rattle.frame.specs.declared.Refusal.{Refusal}
use Rattle.frame.specs.declared.Refusal.TheVariants.{HeaderEnded, HeaderByte, Repeat, Size, Pixels, Room, Unfinished, Opening}
use Rattle.meaning.specs.Calls.{setting_for}
use Rattle.meaning.specs.Commands.{Command, Placed, commands}
use Rattle.meaning.specs.Drawing.{Limits, Setting, Drawing, blank, refused, draw_command, draw_all}
use Rattle.meaning.specs.OneShot.{Found, after_introducer, header_from}
use Rattle.payload.specs.declared.Finished.{Finished}
use Rattle.oneshot.specs.OneShot.{read_whole, read_meant}
use Rattle.promises.proofs.RefusedCommands.{AboveRepeats, asked_size, Asks, RefusedAt, four-exactly, five-exactly, six-exactly, seven-exactly}
use Rattle.promises.proofs.RefusedHeaders.{Cuts, Other, first_other, two-exactly, three-exactly, eight-exactly, shot-exactly, Unfound, short, turned, unfound-none}
use Rattle.promises.proofs.RefusedSessions.{Openable}
use Rattle.promises.proofs.RefusedShots.{Finds, shot-eleven, shot-header, shot-bytes, read-exactly}
use Rattle.promises.proofs.RefusedSizes.{AboveLimits, SixNotFive, SevenNotSix}

-- among commands there is one of which this holds, and those before it are drawn
pub record Strikes (s : Setting) (cs : List Placed) (d : Drawing) (P : Command → Drawing → Type 0) : Type 0 where
  pub before : List Placed
  pub command : Placed
  pub later : List Placed
  pub split : cs ≡ before ++ (command ∷ later)
  pub drawing : Drawing
  pub made : draw_all s before d ≡ record { drawing = drawing; refusal = none }
  pub holds : P command.command drawing

strikes-exactly : (s : Setting) (cs : List Placed) (d : Drawing) (n : ℕ) (P : Command → Drawing → Type 0)
    → ((c : Command) (e : Drawing) → (draw_command s c e ≡ refused n) ↔ P c e) → ((f : Drawing) × RefusedAt s cs d f n) ↔ Strikes s cs d P
strikes-exactly s cs d n P k = (
  λ h.
      let r : RefusedAt s cs d h.0 n = h.1 in
      record {
        before = r.before;
        command = r.command;
        later = r.later;
        split = r.split;
        drawing = h.0;
        made = r.made;
        holds = (k r.command.command h.0).0 r.refuses;
      },
  λ h. (
    h.drawing,
    record {
      before = h.before;
      command = h.command;
      later = h.later;
      split = h.split;
      made = h.made;
      refuses = (k h.command.command h.drawing).1 h.holds;
    },
  ),
)

module _ (l : Limits) (stride : ℕ) (p : Palette) (canvas bs : List ℕ) (r : Finished) (after : List ℕ)
    (e : read_meant r after ≡ read_whole l stride p canvas bs) where
  -- it opens, and this holds
  abbrev pub Opens : Type 0 → Type 0
  Opens X = Openable l stride (length canvas) × X

  -- there is an introducer anywhere, and this holds of what comes after the first
  abbrev pub Introduced : (List ℕ → Type 0) → Type 0
  Introduced P = (later : List ℕ) × (after_introducer bs ≡ some later) × P later

  -- 11 is given exactly when an opening number is out of its range, or there is no whole row.
  pub read-eleven : (r.answer ≡ Err Opening) ↔ (¬ Openable l stride (length canvas))
  unfolding number_of
  read-eleven = Iff.trans (read-exactly l stride p canvas bs r after e Opening) (shot-eleven l stride p canvas bs)

  headed : (x : Refusal) (P : List ℕ → Type 0) {g : Found} → Unfound g (number_of x) → ((later : List ℕ) → (header_from [] later ≡ g) ↔ P later)
      → (r.answer ≡ Err x) ↔ Opens (Introduced P)
  headed x P {g} unfound f =
      let k = shot-exactly bs g (unfound-none unfound) in
      Iff.trans (read-exactly l stride p canvas bs r after e x)
      (Iff.trans (shot-header l stride p canvas bs unfound) (
        λ h. let q = k.0 h.1 in (h.0, (q.0, q.1, (f q.0).0 q.2)),
        λ h. (h.0, k.1 (h.1.0, h.1.1, (f h.1.0).1 h.1.2)),
      ))

  -- 2 is given exactly when the first byte of the header that is neither skipped nor a digit nor `;` is 18, 1A, 1B or 80-9F.
  pub read-two : (r.answer ≡ Err HeaderEnded) ↔ Opens (Introduced (λ later. Other later Cuts))
  unfolding number_of
  read-two = headed HeaderEnded (λ later. Other later Cuts) (turned (omega arith)) (two-exactly [])

  -- 3 is given exactly when that byte is any other than `q`.
  pub read-three : (r.answer ≡ Err HeaderByte) ↔ Opens (Introduced (λ later. Other later (λ b. (¬ (b ≡ 0x71)) × (¬ Cuts b))))
  unfolding number_of
  read-three = headed HeaderByte (λ later. Other later (λ b. (¬ (b ≡ 0x71)) × (¬ Cuts b))) (turned (omega arith)) (three-exactly [])

  -- 8 is given exactly when there is an introducer, and no such byte.
  pub read-eight : (r.answer ≡ Err Unfinished) ↔ Opens (Introduced (λ later. first_other later ≡ none))
  unfolding number_of
  read-eight = headed Unfinished (λ later. first_other later ≡ none) short (eight-exactly [])

  -- a payload is found, and it has a command of which this holds
  abbrev pub Draws : (Command → Drawing → Type 0) → Type 0
  Draws P = Finds l stride p canvas bs (λ o part. Strikes (setting_for l stride (length canvas)) (commands part) (blank p o.p2) P)

  struck : (x : Refusal) (P : Command → Drawing → Type 0) → (4 ≤ number_of x) × (number_of x ≤ 7)
      → ((c : Command) (d : Drawing) → (draw_command (setting_for l stride (length canvas)) c d ≡ refused (number_of x)) ↔ P c d)
      → (r.answer ≡ Err x) ↔ Opens (Draws P)
  struck x P range f =
      Iff.trans (read-exactly l stride p canvas bs r after e x)
      (Iff.trans (shot-bytes l stride p canvas bs (number_of x) range) (
        λ h. (h.0, (h.1.0, h.1.1, h.1.2, (strikes-exactly s (commands h.1.1) (blank p h.1.0.p2) (number_of x) P f).0 h.1.3)),
        λ h. (h.0, (h.1.0, h.1.1, h.1.2, (strikes-exactly s (commands h.1.1) (blank p h.1.0.p2) (number_of x) P f).1 h.1.3)),
      ))
    where
      s : Setting
      s = setting_for l stride (length canvas)

  -- 4 is given exactly when a repeat command ends with a value above R.
  pub read-four : (r.answer ≡ Err Repeat) ↔ Opens (Draws (λ c d. AboveRepeats (setting_for l stride (length canvas)) c))
  unfolding number_of
  read-four =
      struck Repeat (λ c d. AboveRepeats (setting_for l stride (length canvas)) c) (omega arith, omega arith)
      (four-exactly (setting_for l stride (length canvas)))

  -- 5 is given exactly when a sixel or raster size exceeds W or H.
  pub read-five : (r.answer ≡ Err Size) ↔ Opens (Draws (λ c d. Asks (asked_size c d) (AboveLimits (setting_for l stride (length canvas)))))
  unfolding number_of
  read-five =
      struck Size (λ c d. Asks (asked_size c d) (AboveLimits (setting_for l stride (length canvas)))) (omega arith, omega arith)
      (five-exactly (setting_for l stride (length canvas)))

  -- 6 is given exactly when it does not, and the visible area, or the raster size, would exceed M pixels.
  pub read-six : (r.answer ≡ Err Pixels)
      ↔ Opens (Draws (λ c d. Asks (asked_size c d) (SixNotFive (setting_for l stride (length canvas)) d.area)))
  unfolding number_of
  read-six =
      struck Pixels (λ c d. Asks (asked_size c d) (SixNotFive (setting_for l stride (length canvas)) d.area)) (omega arith, omega arith)
      (six-exactly (setting_for l stride (length canvas)))

  -- 7 is given exactly when neither holds, and the width is above the stride or the height above the rows.
  pub read-seven : (r.answer ≡ Err Room)
      ↔ Opens (Draws (λ c d. Asks (asked_size c d) (SevenNotSix (setting_for l stride (length canvas)) d.area)))
  unfolding number_of
  read-seven =
      struck Room (λ c d. Asks (asked_size c d) (SevenNotSix (setting_for l stride (length canvas)) d.area)) (omega arith, omega arith)
      (seven-exactly (setting_for l stride (length canvas)))
