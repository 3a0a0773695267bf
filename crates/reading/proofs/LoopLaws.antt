-- Laws of the loop: two advances are one, and how reading goes on after one.
use Prim.Native.Nat.{ℕ, ◌+◌, ◌-◌, ◌*◌, ◌≤◌, ◌<◌}
use mathlib.Core.Bool.{Bool, true, false, cond, ◌||◌}
use mathlib.Core.List.{List}
use mathlib.Core.Path.{◌≡◌, refl, sym, ap, ◌∙◌, subst}
use native.Mathlib.Omega.{arith}
use lib.ListN.{length}
use Rattle.colours.specs.declared.Palette.{Palette}
use Rattle.frame.specs.declared.Frame.{Frame}
use Rattle.frame.specs.declared.Ground.{Ground}
use Rattle.frame.specs.declared.Kind.TheVariants as kinds
use Rattle.fast.specs.declared.Advance.{Advance}
use Rattle.frame.specs.Commands.{with_command, no_command}
use Rattle.reference.specs.Step.{Reached, Fits}
use Rattle.reference.specs.Feed.{feed_from}
use Rattle.fast.specs.Argument.{onwards}
use Rattle.fast.specs.Advance.{after_advance, Advances}
use Rattle.reading.specs.Loop.{joined_to}
use Rattle.reference.proofs.FeedLaws.{Going, pending, left_over}

-- ---- the frame after an advance

-- `n` is the frame made anew
module _ {n : Frame} (f : Frame) (a : Advance) (same : n ≡ f) where
  pub resumed-yes : {r : Frame} → a.settled ≡ true
      → r ≡ with_command (record { pen = a.pen; area = a.area; extent = a.extent; raster = n.raster; held = a.held; command = n.command }) no_command
      → r ≡ after_advance f a
  unfolding after_advance with_command
  resumed-yes e h = h ∙ rw (same, e) refl

  pub resumed-no : a.settled ≡ false
      → ◌≡◌ {A = Frame} (record { pen = a.pen; area = a.area; extent = a.extent; raster = n.raster; held = a.held; command = n.command }) (after_advance f a)
  unfolding after_advance
  resumed-no e = rw (same, e) refl

pub ruleset resumes = (resumed-yes, resumed-no)

-- no command is pending after one either
pub still-idle : (f : Frame) (a : Advance) → f.command.kind ≡ kinds.Data → (after_advance f a).command.kind ≡ kinds.Data
unfolding after_advance no_command
still-idle f a e = go a.settled
  where
    go : (t : Bool) → (cond t no_command f.command).kind ≡ kinds.Data
    go true = refl
    go false = e

joined-frame : (f : Frame) (a b : Advance) → after_advance (after_advance f a) b ≡ after_advance f (joined_to a b)
unfolding after_advance joined_to
joined-frame f a b = go a.settled b.settled
  where
    go : (s t : Bool)
        → ◌≡◌ {A = Frame}
        (record { pen = b.pen; area = b.area; extent = b.extent; raster = f.raster; held = b.held; command = cond t no_command (cond s no_command f.command) })
        (record { pen = b.pen; area = b.area; extent = b.extent; raster = f.raster; held = b.held; command = cond (s || t) no_command f.command })
    go true true = refl
    go true false = refl
    go false true = refl
    go false false = refl

-- ---- two advances, one after the other

pub joined_end : {r : Advance} (a b : Advance) → r ≡ joined_to a b → r.end ≡ b.end
unfolding joined_to
joined_end a b e = ap (λ (x : Advance). x.end) e

module _ {g : Ground} {bytes : List ℕ} {i left : ℕ} {f now : Frame} {p q q' : Palette} {l m m' : List ℕ} {a b : Advance}
    (first : Advances g bytes i left f p l a q m) (here : now ≡ after_advance f a)
    (second : Advances g bytes a.end (left - a.ink) now q m b q' m') where
  pub joined-ink : a.ink + b.ink ≤ left
  joined-ink = omega (arith, first.ink, second.ink)

  pub joined-advances : {r : Advance} → r ≡ joined_to a b → Advances g bytes i left f p l r q' m'
  unfolding joined_to
  joined-advances e =
      let same-frame : after_advance now b ≡ after_advance f (joined_to a b) = ap (λ (x : Frame). after_advance x b) here ∙ joined-frame f a b in
      rw e
      (record {
        onward = omega (arith, first.onward, second.onward);
        within = second.within;
        ink = joined-ink;
        fits = subst (λ (x : Frame). Fits x g (length m')) same-frame second.fits;
        same = λ allowance spent few.
            let total : spent + (a.ink + b.ink) ≡ spent + a.ink + b.ink = omega arith in
            ap (λ (n : ℕ). onwards g allowance bytes b.end n (after_advance f (joined_to a b)) q' m') total
            ∙ ap (λ (x : Frame). onwards g allowance bytes b.end (spent + a.ink + b.ink) x q' m') (sym same-frame)
            ∙ second.same allowance (spent + a.ink) (omega (arith, first.ink))
            ∙ ap (λ (x : Frame). onwards g allowance bytes a.end (spent + a.ink) x q m) here
            ∙ first.same allowance spent few;
      })

-- ---- the loop over all bytes

-- the loop's turn where the reference machine takes a byte: the invariant, a byte, and no more to do than when the turn began
pub record AtByte (g : Ground) (allowance : ℕ) (bytes : List ℕ) (whole : Reached) (room before : ℕ) (p : Palette) (l : List ℕ) (f : Frame)
    (consumed ink : ℕ) : Type 0 where
  pub going : Going g allowance bytes whole room p l f consumed ink
  pub more : consumed < length bytes
  pub left : left_over bytes consumed f ≤ before

-- a command is pending: nothing was read before the byte
pub at_pending : {g : Ground} {allowance : ℕ} {bytes : List ℕ} {whole : Reached} {room : ℕ} {p : Palette} {l : List ℕ} {f : Frame} {consumed ink : ℕ}
    → Going g allowance bytes whole room p l f consumed ink → consumed < length bytes
    → AtByte g allowance bytes whole room (left_over bytes consumed f) p l f consumed ink
at_pending going more = record { going = going; more = more; left = omega arith }

module _ {g : Ground} {allowance : ℕ} {bytes : List ℕ} {whole : Reached} {room : ℕ} {p q : Palette} {l m : List ℕ} {f next : Frame} {i spent : ℕ}
    {r : Advance} (going : Going g allowance bytes whole room p l f i spent) (advances : Advances g bytes i (allowance - spent) f p l r q m)
    (after : next ≡ after_advance f r) where
  pub advance-ink : spent + r.ink ≤ allowance
  advance-ink = omega (arith, going.spent, advances.ink)

  pub going-advanced : length m ≡ length l → Going g allowance bytes whole room q m next r.end (spent + r.ink)
  going-advanced kept =
      subst (λ (x : Frame). Going g allowance bytes whole room q m x r.end (spent + r.ink)) (sym after)
      (record {
        same = advances.same allowance spent (omega (arith, going.spent)) ∙ going.same;
        within = advances.within;
        spent = advance-ink;
        fits = advances.fits;
        long = kept ∙ going.long;
      })

  -- it leaves no more to do
  pub advance-left : left_over bytes r.end next ≤ left_over bytes i f
  unfolding after_advance no_command pending
  advance-left =
      subst (λ (x : Frame). left_over bytes r.end x ≤ left_over bytes i f) (sym after)
      (go r.settled)
    where
      go : (t : Bool) → 2 * (length bytes - r.end) + pending (cond t no_command f.command).kind ≤ left_over bytes i f
      go true = omega (arith, advances.onward)
      go false = omega (arith, advances.onward)

  -- where bytes are left after it
  pub at_byte : length m ≡ length l → r.end < length bytes
      → AtByte g allowance bytes whole room (left_over bytes i f) q m next r.end (spent + r.ink)
  at_byte kept more = record { going = going-advanced kept; more = more; left = advance-left }

-- ---- a frame made anew

pub fits-anew : {f anew : Frame} {g : Ground} {room : ℕ} → anew ≡ f → Fits f g room → Fits anew g room
fits-anew {g = g} {room = room} same = subst (λ (x : Frame). Fits x g room) (sym same)

pub read-anew : (g : Ground) (allowance : ℕ) (bytes : List ℕ) (p : Palette) (l : List ℕ) {f anew : Frame} {r : Reached} → anew ≡ f
    → r ≡ feed_from g allowance bytes 0 0 anew p l → r ≡ feed_from g allowance bytes 0 0 f p l
read-anew g allowance bytes p l same read = read ∙ ap (λ (x : Frame). feed_from g allowance bytes 0 0 x p l) same
