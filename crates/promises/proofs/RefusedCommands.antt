-- 4 to 7 are given exactly when rule 5.1 says: of one command, of commands in their order, and of a byte of a payload.
use Prim.Native.Nat.{ℕ, ◌+◌, ◌<◌, max}
use mathlib.Core.Bool.{Bool, true, false, cond}
use mathlib.Core.List.{List, [], ◌∷◌, ◌++◌}
use mathlib.Core.Logic.Iff
use mathlib.Core.Logic.{◌↔◌}
use mathlib.Core.Option.{Option, none, some}
use mathlib.Core.Path.{◌≡◌, refl, sym, ap, ◌∙◌}
use native.Mathlib.Omega.{arith}
use lib.Dec.{ltb, eqb}
use Rattle.numbers.specs.Values.{decimal, values}
use Rattle.colours.specs.declared.Palette.{Palette}
use Rattle.canvas.specs.Picture.{Area, area_of, grown_to}
use Rattle.meaning.specs.Commands.{repeat, colour, raster, Command, argued, return, line, draw, Placed, commands}
use Rattle.meaning.specs.Drawing.{Setting, Raster, Drawing, Drawn, drawn, refused, repeated, unless, raster_after, with_raster, stretched, rastered, sixelled, draw_command, Outcome, and_then, draw_all, blank}
use Rattle.meaning.specs.Payload.{Parameters, payload}
use Rattle.meaning.proofs.AreaLaws.{draw_on-none, draw_all-append}
use Rattle.promises.proofs.Choices.{tells-less, first-case}
use Rattle.promises.proofs.RefusedSizes.{AboveLimits, SixNotFive, SevenNotSix, refusal_of, size-five, size-six, size-seven, size-numbers}

-- ---- one command

-- a repeat command with a value above R
abbrev pub AboveRepeats : Setting → Command → Type 0
AboveRepeats s (argued repeat bs) = s.limits.repeats < decimal bs
AboveRepeats s (argued colour bs) = ⊥
AboveRepeats s (argued raster bs) = ⊥
AboveRepeats s return = ⊥
AboveRepeats s line = ⊥
AboveRepeats s (draw bits) = ⊥

-- the size of a raster, a missing width or height counting 1; none where neither is kept
unfoldable pub raster_size : Raster → Option Area
raster_size r = cond (eqb (r.width + r.height) 0) none (some (area_of (max 1 r.width) (max 1 r.height)))

-- the size that a command asks for: a raster's, or a sixel's columns up to position + repeat and rows up to position + 6
unfoldable pub asked_size : Command → Drawing → Option Area
unfolding raster_size
asked_size (argued repeat bs) d = none
asked_size (argued colour bs) d = none
asked_size (argued raster bs) d = raster_size (raster_after d.raster (values 4 bs))
asked_size return d = none
asked_size line d = none
asked_size (draw bits) d = some (area_of (d.pen.column + d.pen.repeats) (d.pen.row + 6))

-- there is a size that is asked for, and this holds of it
abbrev pub Asks : Option Area → (Area → Type 0) → Type 0
Asks o P = (x : Area) × (o ≡ some x) × P x

asks-map : (o : Option Area) {P Q : Area → Type 0} → ((x : Area) → P x ↔ Q x) → Asks o P ↔ Asks o Q
asks-map o f = (λ h. (h.0, h.1, (f h.0).0 h.2), λ h. (h.0, h.1, (f h.0).1 h.2))

drawn-refused : {d : Drawing} {n : ℕ} {X : Type 0} → drawn d ≡ refused n → X
drawn-refused e = let never : ◌≡◌ {A = ℕ} 0 1 = cc in absurd (omega arith)

unless-refused : (o : Option ℕ) (d : Drawing) (n : ℕ) → (unless o d ≡ refused n) ↔ (o ≡ some n)
unfolding unless
unless-refused none d n = (drawn-refused, λ e. let never : ◌≡◌ {A = ℕ} 0 1 = cc in absurd (omega arith))
unless-refused (some m) d n = (λ e. cc, λ e. cc)

-- what asks for no size is not refused
asks_none : (e : Drawing) (n : ℕ) {P : Area → Type 0} → (drawn e ≡ refused n) ↔ Asks none P
asks_none e n = (drawn-refused, λ h. let q : none ≡ some h.0 = h.1 in let never : ◌≡◌ {A = ℕ} 0 1 = cc in absurd (omega arith))

module _ (s : Setting) (a : Area) (n : ℕ) where
  -- what asks for one is refused as the size is
  asks-some : (x : Area) (e : Drawing) → (unless (refusal_of s a x) e ≡ refused n) ↔ Asks (some x) (λ y. refusal_of s a y ≡ some n)
  asks-some x e = (
    λ h. (x, refl, (unless-refused (refusal_of s a x) e n).0 h),
    λ h. let q : x ≡ h.0 = cc h.1 in (unless-refused (refusal_of s a x) e n).1 (ap (λ (y : Area). refusal_of s a y) q ∙ h.2),
  )

  asks-if : (t : Bool) (x : Area) (e f : Drawing)
      → (cond t (drawn f) (unless (refusal_of s a x) e) ≡ refused n) ↔ Asks (cond t none (some x)) (λ y. refusal_of s a y ≡ some n)
  asks-if true x e f = asks_none f n
  asks-if false x e f = asks-some x e

raster-asks : (s : Setting) (n : ℕ) (d : Drawing) (r : Raster)
    → (rastered s r d ≡ refused n) ↔ Asks (raster_size r) (λ x. refusal_of s d.area x ≡ some n)
unfolding rastered stretched raster_size
raster-asks s n d r =
    asks-if s d.area n (eqb (r.width + r.height) 0) (area_of (max 1 r.width) (max 1 r.height))
    (with_raster d r (grown_to d.area (max 1 r.width) (max 1 r.height))) (with_raster d r d.area)

-- a command is refused with a number other than 4 exactly if its size is
pub size-exactly : (s : Setting) (c : Command) (d : Drawing) (n : ℕ) → (n ≡ 4 → ⊥)
    → (draw_command s c d ≡ refused n) ↔ Asks (asked_size c d) (λ x. refusal_of s d.area x ≡ some n)
unfolding draw_command repeated rastered stretched sixelled asked_size raster_size
size-exactly s (argued repeat bs) d n differ = go (ltb s.limits.repeats (decimal bs)) _
  where
    go : (t : Bool) (e : Drawing) → (cond t (refused 4) (drawn e) ≡ refused n) ↔ Asks none (λ x. refusal_of s d.area x ≡ some n)
    go true e =
        (λ h. absurd (differ (cc)), λ h. absurd (let q : none ≡ some h.0 = h.1 in let never : ◌≡◌ {A = ℕ} 0 1 = cc in omega arith))
    go false e = asks_none e n
size-exactly s (argued colour bs) d n differ = asks_none _ n
size-exactly s (argued raster bs) d n differ = raster-asks s n d (raster_after d.raster (values 4 bs))
size-exactly s return d n differ = asks_none _ n
size-exactly s line d n differ = asks_none _ n
size-exactly s (draw bits) d n differ = asks-some s d.area n (area_of _ _) _

-- no size is refused with 4
not-four : {A : Type 0} (s : Setting) (a : Area) (o : Option Area) → A ↔ Asks o (λ x. refusal_of s a x ≡ some 4) → A ↔ ⊥
not-four s a o k = (λ e. let h = k.0 e in size-numbers s a h.0 h.2 refl, λ h. absurd h)

-- 4 is given exactly when a repeat command ends with a value above R.
pub four-exactly : (s : Setting) (c : Command) (d : Drawing) → (draw_command s c d ≡ refused 4) ↔ AboveRepeats s c
unfolding draw_command repeated sixelled
four-exactly s (argued repeat bs) d = first-case (tells-less s.limits.repeats (decimal bs)) drawn-refused
four-exactly s (argued colour bs) d = (drawn-refused, λ h. absurd h)
four-exactly s (argued raster bs) d =
    let r : Raster = raster_after d.raster (values 4 bs) in not-four s d.area (raster_size r) (raster-asks s 4 d r)
four-exactly s return d = (drawn-refused, λ h. absurd h)
four-exactly s line d = (drawn-refused, λ h. absurd h)
four-exactly s (draw bits) d =
    let x : Area = area_of (d.pen.column + d.pen.repeats) (d.pen.row + 6) in not-four s d.area (some x)
    (asks-some s d.area 4 x _)

module _ (s : Setting) (c : Command) (d : Drawing) where
  -- 5 is given exactly when a sixel or raster size exceeds W or H.
  pub five-exactly : (draw_command s c d ≡ refused 5) ↔ Asks (asked_size c d) (AboveLimits s)
  five-exactly = Iff.trans (size-exactly s c d 5 (λ q. omega arith)) (asks-map (asked_size c d) (size-five s d.area))

  -- 6 is given exactly when it does not, and the visible area, or the raster size, would exceed M pixels.
  pub six-exactly : (draw_command s c d ≡ refused 6) ↔ Asks (asked_size c d) (SixNotFive s d.area)
  six-exactly = Iff.trans (size-exactly s c d 6 (λ q. omega arith)) (asks-map (asked_size c d) (size-six s d.area))

  -- 7 is given exactly when neither holds, and the width is above the stride or the height above the rows.
  pub seven-exactly : (draw_command s c d ≡ refused 7) ↔ Asks (asked_size c d) (SevenNotSix s d.area)
  seven-exactly = Iff.trans (size-exactly s c d 7 (λ q. omega arith)) (asks-map (asked_size c d) (size-seven s d.area))

-- ---- commands in their order

-- commands are refused: those before the refused one made a drawing, and it is refused there
pub record RefusedAt (s : Setting) (cs : List Placed) (d f : Drawing) (n : ℕ) : Type 0 where
  pub before : List Placed
  pub command : Placed
  pub later : List Placed
  pub split : cs ≡ before ++ (command ∷ later)
  pub made : draw_all s before d ≡ record { drawing = f; refusal = none }
  pub refuses : draw_command s command.command f ≡ refused n

-- Commands are refused exactly when one of them is, and the drawing left is that of the commands before it.
pub commands-exactly : (s : Setting) (cs : List Placed) (d f : Drawing) (n : ℕ)
    → (draw_all s cs d ≡ record { drawing = f; refusal = some n }) ↔ RefusedAt s cs d f n
unfolding draw_all and_then
commands-exactly s cs d f n = (to cs d, from)
  where
    from : RefusedAt s cs d f n → draw_all s cs d ≡ record { drawing = f; refusal = some n }
    from h =
        ap (λ (xs : List Placed). draw_all s xs d) h.split
        ∙ draw_all-append s h.before (h.command ∷ h.later) d
        ∙ draw_on-none s (draw_all s h.before d) (h.command ∷ h.later) (ap (λ (x : Outcome). x.refusal) h.made)
        ∙ ap (λ (x : Outcome). draw_all s (h.command ∷ h.later) x.drawing) h.made
        ∙ ap (λ (x : Drawn). and_then f x (draw_all s h.later)) h.refuses

    to : (cs : List Placed) (d : Drawing) → draw_all s cs d ≡ record { drawing = f; refusal = some n } → RefusedAt s cs d f n
    to [] d e =
        let q : none ≡ some n = ap (λ (x : Outcome). x.refusal) e in let never : ◌≡◌ {A = ℕ} 0 1 = cc in absurd (omega arith)
    to (c ∷ cs) d e = go (draw_command s c.command d) refl e (to cs)
      where
        go : (x : Drawn) → draw_command s c.command d ≡ x → and_then d x (draw_all s cs) ≡ record { drawing = f; refusal = some n }
            → ((b : Drawing) → draw_all s cs b ≡ record { drawing = f; refusal = some n } → RefusedAt s cs b f n)
            → RefusedAt s (c ∷ cs) d f n
        go (drawn b) q e later =
            let h : RefusedAt s cs b f n = later b e in
            record {
              before = c ∷ h.before;
              command = h.command;
              later = h.later;
              split = ap (λ (xs : List Placed). c ∷ xs) h.split;
              made = ap (λ (x : Drawn). and_then d x (draw_all s h.before)) q ∙ h.made;
              refuses = h.refuses;
            }
        go (refused m) q e later =
            let number : some m ≡ some n = ap (λ (x : Outcome). x.refusal) e in
            let left : d ≡ f = ap (λ (x : Outcome). x.drawing) e in
            record {
              before = [];
              command = c;
              later = cs;
              split = refl;
              made = ap (λ (x : Drawing). record { drawing = x; refusal = none }) left;
              refuses = ap (draw_command s c.command) (sym left) ∙ q ∙ ap refused (cc);
            }

-- So a payload is refused exactly when one of its commands is, and its drawing is that of the commands before it.
pub payload-exactly : (s : Setting) (o : Parameters) (p : Palette) (bs : List ℕ) (f : Drawing) (n : ℕ)
    → (payload s o p bs ≡ record { drawing = f; refusal = some n }) ↔ RefusedAt s (commands bs) (blank p o.p2) f n
unfolding payload
payload-exactly s o p bs = commands-exactly s (commands bs) (blank p o.p2)
