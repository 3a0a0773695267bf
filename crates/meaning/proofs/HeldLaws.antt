-- Laws of the count of held definitions: it is that of the commands alone, and nothing else that is drawn, refused or reported depends on it.
use Prim.Native.Nat.{ℕ, ◌+◌, min, max}
use native.Mathlib.Omega.{arith}
use mathlib.Core.Path.{◌≡◌, refl, ap}
use mathlib.Core.Bool.{Bool, true, false, cond, ◌&&◌, ◌||◌}
use mathlib.Core.Option.{Option, none, some}
use mathlib.Core.List.{List, [], ◌∷◌, ◌++◌}
use borrow.Author.Tests.{eq-eqb}
use lib.Dec.{eqb, ltb, lit≤}
use lib.IntN.{pos}
use lib.ListN.{length, get_or}
use Rattle.numbers.specs.Values.{decimal, values}
use Rattle.colours.specs.declared.Palette.{Palette}
use Rattle.colours.specs.Palette.{rgb_held, hls_held}
use Rattle.canvas.specs.Picture.{grown_to}
use Rattle.meaning.specs.Commands.{repeat, colour, raster, Command, argued, return, line, draw, Placed}
use Rattle.meaning.specs.Drawing.{Setting, Raster, Drawing, Drawn, drawn, refused, blank, with_pen, repeated, selected, holds, held_in, coloured, size_refusal, unless, with_raster, rastered, stretched, raster_after, stroke_of, stroked, sixelled, draw_command, Outcome, and_then, draw_all}
use Rattle.meaning.specs.Payload.{Parameters, Finished, finished, turned_down, largest_count, report_of, finish}
use Rattle.meaning.specs.Definitions.{values_define}
use Rattle.meaning.specs.HeldDefinitions.{defines_held, held_count, TellsHeld, recounted, SameButHeld, FinishesButHeld}
use Rattle.meaning.proofs.Cases.{cond-case}
use Rattle.meaning.proofs.CommandLaws.{Gives, rastered-gives, unless-case}

-- ---- the commands' own count

-- Of commands after one another it is the sum.
pub held-join : (xs ys : List Placed) → held_count (xs ++ ys) ≡ held_count xs + held_count ys
unfolding held_count
held-join [] ys = omega arith
held-join (c ∷ cs) ys = let later : held_count (cs ++ ys) ≡ held_count cs + held_count ys = held-join cs ys in omega arith

-- Values that hold define the register that they select.
pub held-defines : (vs : List ℕ) → holds vs ≡ true → values_define vs (selected vs) ≡ true
unfolding holds values_define
held-defines vs = go (eqb (length vs) 5) (eqb (get_or vs 1 0) 1) (eqb (get_or vs 1 0) 2)
  where
    by_hls : Bool
    by_hls = hls_held (pos (get_or vs 3 0)) (pos (get_or vs 4 0))

    by_rgb : Bool
    by_rgb = rgb_held (pos (get_or vs 2 0)) (pos (get_or vs 3 0)) (pos (get_or vs 4 0))

    go : (five one two : Bool) → cond five (cond one by_hls (cond two by_rgb false)) false ≡ true
        → (five && ((one || two) && eqb (selected vs) (selected vs))) ≡ true
    go true true two e = eq-eqb (selected vs) (selected vs) refl
    go true false true e = eq-eqb (selected vs) (selected vs) refl
    go true false false e = e
    go false one two e = e

-- ---- what is counted

-- a command counts where it is said to
command-counts : (s : Setting) (c : Command) (d : Drawing) → Gives (λ e. e.held ≡ d.held + cond (defines_held c) 1 0) (draw_command s c d)
unfolding defines_held draw_command repeated with_pen coloured held_in with_raster sixelled stroked
command-counts s (argued repeat bs) d =
    cond-case (Gives (λ e. e.held ≡ d.held + 0)) (ltb s.limits.repeats (decimal bs)) (λ _. (lit≤ tt, lit≤ tt)) (λ _. omega arith)
command-counts s (argued colour bs) d = refl
command-counts s (argued raster bs) d =
    rastered-gives (λ e. e.held ≡ d.held + 0) s (raster_after d.raster (values 4 bs)) d (λ a. omega arith)
command-counts s return d = omega arith
command-counts s line d = omega arith
command-counts s (draw bits) d =
    unless-case (Gives (λ e. e.held ≡ d.held + 0)) s d.area _ _ _ (λ n low high. (low, high)) (λ _. omega arith)

-- and so do all of them, where none is refused
draw_all-counts : (s : Setting) (cs : List Placed) (d : Drawing) → (draw_all s cs d).refusal ≡ none
    → (draw_all s cs d).drawing.held ≡ d.held + held_count cs
unfolding held_count draw_all and_then
draw_all-counts s [] d ok = omega arith
draw_all-counts s (c ∷ cs) d ok = go (draw_command s c.command d) (command-counts s c.command d) ok (λ e. draw_all-counts s cs e)
  where
    one : ℕ
    one = cond (defines_held c.command) 1 0

    go : (x : Drawn) → Gives (λ e. e.held ≡ d.held + one) x → (and_then d x (draw_all s cs)).refusal ≡ none
        → ((e : Drawing) → (draw_all s cs e).refusal ≡ none → (draw_all s cs e).drawing.held ≡ e.held + held_count cs)
        → (and_then d x (draw_all s cs)).drawing.held ≡ d.held + (one + held_count cs)
    go (drawn e) first none-refused later =
        let rest : (draw_all s cs e).drawing.held ≡ e.held + held_count cs = later e none-refused in omega (arith, first)
    go (refused n) first none-refused later = absurd (let never : ◌≡◌ {A = ℕ} 0 1 = cc in omega arith)

-- What is reported after some commands, none of them refused, is their count.
pub outcome-held : (s : Setting) (o : Parameters) (p : Palette) (cs : List Placed) → (draw_all s cs (blank p o.p2)).refusal ≡ none
    → TellsHeld cs (report_of o (draw_all s cs (blank p o.p2)).drawing)
unfolding report_of blank
outcome-held s o p cs ok =
    let count : (draw_all s cs (blank p o.p2)).drawing.held ≡ 0 + held_count cs = draw_all-counts s cs (blank p o.p2) ok in
    ap (λ (n : ℕ). min n largest_count) (omega (arith, count))

-- ---- nothing else depends on it

-- what a command makes of a drawing and of one with another count: such drawings again, or one refusal
data BothRecounted : Drawn → Drawn → Type 0 where
  both_drawn : {d : Drawing} (n : ℕ) → BothRecounted (drawn d) (drawn (recounted d n))
  both_refused : {n : ℕ} → BothRecounted (refused n) (refused n)

cond-recounted : (t : Bool) {x y v w : Drawn} → BothRecounted x y → BothRecounted v w → BothRecounted (cond t x v) (cond t y w)
cond-recounted true h k = h
cond-recounted false h k = k

unless-recounted : (o : Option ℕ) (d : Drawing) (n : ℕ) → BothRecounted (unless o d) (unless o (recounted d n))
unfolding unless
unless-recounted none d n = both_drawn n
unless-recounted (some k) d n = both_refused

command-recounted : (s : Setting) (c : Command) (d : Drawing) (n : ℕ) → BothRecounted (draw_command s c d) (draw_command s c (recounted d n))
unfolding draw_command repeated with_pen coloured rastered stretched with_raster sixelled stroke_of stroked recounted
command-recounted s (argued repeat bs) d n = cond-recounted (ltb s.limits.repeats (decimal bs)) both_refused (both_drawn n)
command-recounted s (argued colour bs) d n = both_drawn (n + held_in (values 5 bs))
command-recounted s (argued raster bs) d n =
    let r : Raster = raster_after d.raster (values 4 bs) in
    let w : ℕ = max 1 r.width in
    let h : ℕ = max 1 r.height in
    cond-recounted (eqb (r.width + r.height) 0) (both_drawn n)
    (unless-recounted (size_refusal s d.area w h) (with_raster d r (grown_to d.area w h)) n)
command-recounted s return d n = both_drawn n
command-recounted s line d n = both_drawn n
command-recounted s (draw bits) d n =
    unless-recounted (size_refusal s d.area (d.pen.column + d.pen.repeats) (d.pen.row + 6)) (stroked d (stroke_of bits d)) n

-- From any count on, commands draw, refuse and define the same.
pub held-apart : (s : Setting) (cs : List Placed) (d : Drawing) (n : ℕ) → SameButHeld (draw_all s cs d) (draw_all s cs (recounted d n))
unfolding draw_all and_then recounted
held-apart s [] d n =
    record { refusal = refl; pen = refl; strokes = refl; area = refl; raster = refl; palette = refl; background = refl }
held-apart s (c ∷ cs) d n = go (command-recounted s c.command d n) (held-apart s cs)
  where
    go : {x y : Drawn} → BothRecounted x y
        → ((e : Drawing) (k : ℕ) → SameButHeld (draw_all s cs e) (draw_all s cs (recounted e k)))
        → SameButHeld (and_then d x (draw_all s cs)) (and_then (recounted d n) y (draw_all s cs))
    go (both_drawn {d = e} k) later = later e k
    go both_refused later =
        record { refusal = refl; pen = refl; strokes = refl; area = refl; raster = refl; palette = refl; background = refl }

-- Outcomes that are the same but for the count finish so.
pub finish-apart : (o : Parameters) (x y : Outcome) → SameButHeld x y → FinishesButHeld (finish o x) (finish o y)
unfolding finish report_of
finish-apart o x y same = go x.refusal y.refusal same.refusal
  where
    ending : Option ℕ → Outcome → Finished
    ending a out = elim a [ none ↦ finished (report_of o out.drawing) | some n ↦ turned_down n ]

    go : (a b : Option ℕ) → a ≡ b → FinishesButHeld (ending a x) (ending b y)
    go none none e =
        record {
          size = same.area;
          ratio = rw same.raster refl;
          clear = refl;
          extent = rw same.strokes refl;
          defined = rw same.palette refl;
          declared = rw same.raster refl;
          palette = rw same.palette refl;
        }
    go none (some n) e = absurd (let never : ◌≡◌ {A = ℕ} 0 1 = cc in omega arith)
    go (some m) none e = absurd (let never : ◌≡◌ {A = ℕ} 0 1 = cc in omega arith)
    go (some m) (some n) e = cc
