-- The extent follows the ink: of the drawing of any payload it is the least box that every painted pixel lies in, it is 0 by 0 exactly where no
-- ink was drawn, and it lies inside the size. What a sixel adds is six bits, since its byte is 3F to 7E. Histories are in SizeHistories.
use Prim.Native.Nat.{ℕ, suc, ◌+◌, ◌-◌, ◌*◌, ◌≤◌, ◌<◌, max}
use native.Mathlib.Nat.{mul-le-mul}
use native.Mathlib.Omega.{arith}
use mathlib.Core.Path.{◌≡◌, sym, ap, subst}
use mathlib.Core.Bool.{true, true≢false}
use mathlib.Core.Option.{Option, none}
use mathlib.Core.List.{List, [], ◌∷◌}
use mathlib.Core.Logic.{◌↔◌}
use lib.Count.{ones}
use Rattle.colours.specs.declared.Palette.{Palette}
use Rattle.canvas.specs.Picture.{Stroke, Area, area_of, span, bit, depth, in_sixel, covers}
use Rattle.canvas.proofs.Covers.{and_left, and_right, and_both, or_left, or_right, or_case, split, span-low, span-high, span-in}
use Rattle.canvas.proofs.Depth.{depth-most, depth-above, depth-set, depth-ones}
use Rattle.meaning.specs.Commands.{Command, argued, return, line, draw, Placed, Begun, closed, scan_byte, scan, body, end_of, commands, ended_commands}
use Rattle.meaning.specs.Drawing.{Setting, Drawing, blank, stroke_of, stroked, sixelled, draw_command, draw_all, ink_of, ink_of_all, right_of, bottom_of, columns_painted, rows_painted, extent_of}
use Rattle.meaning.specs.Payload.{Parameters, payload, drawn_so_far}
use Rattle.meaning.specs.Sessions.{Reading, settled, rested, payload_step}
use Rattle.meaning.specs.Extents.{is_painted, LeastBox, FollowsInk}
use Rattle.meaning.specs.Sizes.{Roomy}
use Rattle.meaning.proofs.AreaLaws.{option-case, unless-case, Each, each_append, AllOnce, Sound, draw_all-sound, Gives, gives-map, quiet-command, AllOf, draw_all-keeps, blank-sound, extent-inside, Leaves, payload-leaves}
use Rattle.meaning.proofs.SizeLaws.{painted-case}
use Rattle.meaning.proofs.SixelLaws.{sixel-range, append-each, closed-each, scan-each}

-- ---- the least box

-- what a stroke covers lies left of its right and above its bottom
covered-inside : (k : Stroke) (x y : ℕ) → covers k x y ≡ true → (x < right_of k) × (y < bottom_of k)
unfolding covers in_sixel right_of bottom_of
covered-inside k x y t =
    let columns : span k.column (k.column + k.repeat) x ≡ true = and_left _ _ t in
    let below : _ = and_right (span k.column (k.column + k.repeat) x) _ t in
    let rows : span k.row (k.row + 6) y ≡ true = and_left _ _ below in
    let low : k.row ≤ y = span-low _ _ _ rows in
    let set : bit k.bits (y - k.row) ≡ true = and_right (span k.row (k.row + 6) y) _ below in
    let above : y - k.row < depth 6 k.bits = depth-above 6 k.bits (y - k.row) (omega (arith, span-high _ _ _ rows)) set in
    painted-case (λ r b. (x < r) × (y < b)) (depth 6 k.bits) (λ e. omega arith) (λ _. (span-high _ _ _ columns, omega arith))

-- and it covers the pixel in that corner, where it takes a column and paints anything
corner-covered : (k : Stroke) → 1 ≤ k.repeat → 0 < right_of k + bottom_of k → covers k (right_of k - 1) (bottom_of k - 1) ≡ true
unfolding covers in_sixel right_of bottom_of
corner-covered k once =
    painted-case (λ r b. 0 < r + b → covers k (r - 1) (b - 1) ≡ true) (depth 6 k.bits) (λ _ h. absurd (omega arith))
    (λ inked _.
    and_both (span-in _ _ _ (omega arith) (omega arith))
    (and_both (span-in _ _ _ (omega arith) (omega (arith, depth-most 6 k.bits)))
    (subst (λ (n : ℕ). bit k.bits n ≡ true) (omega arith) (depth-set 6 k.bits (depth 6 k.bits - 1) (omega arith)))))

-- every painted pixel lies in the extent
all-inside : (ks : List Stroke) (x y : ℕ) → is_painted ks x y ≡ true → (x < columns_painted ks) × (y < rows_painted ks)
unfolding is_painted columns_painted rows_painted
all-inside [] x y t = absurd (true≢false (sym t))
all-inside (k ∷ ks) x y t =
    or_case (covers k x y) (is_painted ks x y) t
    (λ here. let h : (x < right_of k) × (y < bottom_of k) = covered-inside k x y here in (omega arith, omega arith))
    (λ later. let h : (x < columns_painted ks) × (y < rows_painted ks) = all-inside ks x y later in (omega arith, omega arith))

-- one of some strokes reaches a number
record Farthest (f : Stroke → ℕ) (ks : List Stroke) (n : ℕ) : Type 0 where
  stroke : Stroke
  once : 1 ≤ stroke.repeat
  there : f stroke ≡ n
  among : (x y : ℕ) → covers stroke x y ≡ true → is_painted ks x y ≡ true

-- of a stroke and others one reaches the larger number
farther : (f : Stroke → ℕ) (k : Stroke) {ks : List Stroke} {n : ℕ} → 1 ≤ k.repeat → (0 < n → Farthest f ks n) → 0 < max (f k) n
    → Farthest f (k ∷ ks) (max (f k) n)
unfolding is_painted
farther f k {ks} {n} once later h =
    split (f k) n
    (λ less.
    let l : Farthest f ks n = later (omega arith) in
    record { stroke = l.stroke; once = l.once; there = omega (arith, l.there); among = λ x y t. or_right (covers k x y) _ (l.among x y t) })
    (λ more. record { stroke = k; once = once; there = omega arith; among = λ x y t. or_left (covers k x y) _ t })

farthest-right : (ks : List Stroke) → AllOnce ks → 0 < columns_painted ks → Farthest right_of ks (columns_painted ks)
unfolding columns_painted
farthest-right [] o h = absurd (omega arith)
farthest-right (k ∷ ks) o h = farther right_of k o.0 (farthest-right ks o.1) h

farthest-down : (ks : List Stroke) → AllOnce ks → 0 < rows_painted ks → Farthest bottom_of ks (rows_painted ks)
unfolding rows_painted
farthest-down [] o h = absurd (omega arith)
farthest-down (k ∷ ks) o h = farther bottom_of k o.0 (farthest-down ks o.1) h

-- The extent is the least box that every painted pixel lies in.
pub extent-least : (ks : List Stroke) → AllOnce ks → LeastBox ks (extent_of ks)
unfolding extent_of
extent-least ks o =
    record {
      holds = all-inside ks;
      last_column = λ h.
          let l : Farthest right_of ks (columns_painted ks) = farthest-right ks o h in
          record {
            row = bottom_of l.stroke - 1;
            painted = subst (λ (n : ℕ). is_painted ks (n - 1) (bottom_of l.stroke - 1) ≡ true) l.there
                (l.among _ _ (corner-covered l.stroke l.once (omega (arith, l.there))));
          };
      last_row = λ h.
          let l : Farthest bottom_of ks (rows_painted ks) = farthest-down ks o h in
          record {
            column = right_of l.stroke - 1;
            painted = subst (λ (n : ℕ). is_painted ks (right_of l.stroke - 1) (n - 1) ≡ true) l.there
                (l.among _ _ (corner-covered l.stroke l.once (omega (arith, l.there))));
          };
    }

-- ---- no ink

-- each stroke has six bits and no more
abbrev pub AllSix : List Stroke → Type 0
AllSix = Each (λ k. k.bits < 64)

-- no column is painted if and only if no ink is drawn
columns-ink : (ks : List Stroke) → AllOnce ks → AllSix ks → (columns_painted ks ≡ 0) ↔ (ink_of_all ks ≡ 0)
unfolding columns_painted ink_of_all right_of
columns-ink [] o six = (λ e. e, λ e. e)
columns-ink (k ∷ ks) o six =
    let later : (columns_painted ks ≡ 0) ↔ (ink_of_all ks ≡ 0) = columns-ink ks o.1 six.1 in
    let counts : (depth 6 k.bits ≤ 6 * ones k.bits) × (ones k.bits ≤ 6 * depth 6 k.bits) = depth-ones k.bits six.0 in
    painted-case (λ r b. (max r (columns_painted ks) ≡ 0) ↔ (ink_of k + ink_of_all ks ≡ 0)) (depth 6 k.bits) {b₀ = 0} {b = 0}
    (λ empty.
    let unset : ones k.bits ≡ 0 = omega arith in
    let own : k.repeat * ones k.bits ≡ 0 = rw unset (omega arith) in
    (λ e. omega (arith, later.0 (omega arith)), λ e. omega (arith, later.1 (omega arith))))
    (λ inked.
    let set : 1 ≤ ones k.bits = omega arith in
    let own : 1 * 1 ≤ k.repeat * ones k.bits = mul-le-mul o.0 set in
    (λ e. omega (arith, o.0), λ e. omega arith))

-- sound, and of strokes of six bits
abbrev pub SoundSix : Setting → Drawing → Type 0
SoundSix s d = Sound s d × AllSix d.strokes

-- The extent of such a drawing follows the ink.
pub follows-ink : {s : Setting} {d : Drawing} → SoundSix s d → FollowsInk d
unfolding extent_of
follows-ink {d = d} h =
    let inside = extent-inside h.0 in
    let ink : (columns_painted d.strokes ≡ 0) ↔ (ink_of_all d.strokes ≡ 0) = columns-ink d.strokes h.0.once h.1 in
    record {
      box = extent-least d.strokes h.0.once;
      none = (
        λ e. ink.0 (ap (λ (a : Area). a.width) e),
        λ e i. area_of (ink.1 e i) (inside.empty.0 (ink.1 e) i),
      );
      width = inside.width;
      height = inside.height;
    }

-- ---- six bits

-- a command's sixel, if it is one, has six bits
abbrev SixBits : Command → Type 0
SixBits (argued k bs) = Unit {0}
SixBits return = Unit {0}
SixBits line = Unit {0}
SixBits (draw bits) = bits < 64

-- so it is of every command that bytes can ask for
begun-six : (c : Option Begun) → AllOf SixBits (closed c)
begun-six = closed-each SixBits (λ k bs. tt) tt tt

byte-six : (at : ℕ) (c : Option Begun) (b : ℕ) → AllOf SixBits (scan_byte at c b).ended
byte-six at c b = scan-each SixBits (λ k bs. tt) tt tt at c b (λ e. let range : (63 ≤ b) × (b ≤ 126) = sixel-range b e in omega arith)

scan-six : (at : ℕ) (c : Option Begun) (bs : List ℕ) → AllOf SixBits (scan at c bs).ended
unfolding scan
scan-six at c [] = tt
scan-six at c (b ∷ bs) = append-each SixBits (scan_byte at c b).ended _ (byte-six at c b) (scan-six (suc at) (scan_byte at c b).begun bs)

commands-six : (bs : List ℕ) → AllOf SixBits (commands bs)
unfolding commands
commands-six bs = append-each SixBits (scan 0 none (body bs)).ended _ (scan-six 0 none (body bs)) (begun-six (scan 0 none (body bs)).begun)

ended-six : (bs : List ℕ) → AllOf SixBits (ended_commands bs)
unfolding ended_commands
ended-six bs = option-case (AllOf SixBits) (end_of bs) (λ _. scan-six 0 none bs) (λ b _. commands-six bs)

-- and such a command adds a stroke of six bits, or none
command-six : (s : Setting) (c : Command) (d : Drawing) → SixBits c → AllSix d.strokes → Gives (λ e. AllSix e.strokes) (draw_command s c d)
unfolding draw_command sixelled stroked stroke_of
command-six s (argued k bs) d h six =
    gives-map (λ e same. subst AllSix (sym same) six) (draw_command s (argued k bs) d) (quiet-command s (argued k bs) d tt)
command-six s return d h six = six
command-six s line d h six = six
command-six s (draw bits) d h six =
    unless-case (Gives (λ e. AllSix e.strokes)) s d.area _ _ _ (λ n low high. (low, high))
    (λ _. each_append (λ k. k.bits < 64) d.strokes (stroke_of bits d) six h)

-- ---- the drawing of a payload

-- commands of such bits keep a drawing sound and of such strokes
drawn-six : (s : Setting) (cs : List Placed) (d : Drawing) → AllOf SixBits cs → SoundSix s d → SoundSix s (draw_all s cs d).drawing
drawn-six s cs d q h = (draw_all-sound cs h.0, draw_all-keeps SixBits (λ e. AllSix e.strokes) s (command-six s) cs d q h.1)

-- the first one is so, a byte keeps it so, and so does a stop
pub blank-six : {s : Setting} → Roomy s → (p : Palette) (o : Parameters) → SoundSix s (blank p o.p2)
unfolding blank
blank-six roomy p o = (blank-sound roomy p o.p2, tt)

pub settled-six : (s : Setting) (r : Reading) → SoundSix s r.drawing → SoundSix s (settled s r).drawing
unfolding settled
settled-six s r h = drawn-six s (closed r.begun) r.drawing (begun-six r.begun) h

pub step-six : (s : Setting) (r : Reading) (b : ℕ) → SoundSix s r.drawing → Leaves (λ t. SoundSix s t.drawing) (payload_step s r b)
step-six s r b h =
    payload-leaves (SoundSix s) s r b h (settled-six s r h)
    (drawn-six s (scan_byte r.passed r.begun b).ended r.drawing (byte-six r.passed r.begun b) h)

pub rested-six : (s : Setting) (r : Reading) → SoundSix s r.drawing → SoundSix s (rested s r).drawing
unfolding rested
rested-six = settled-six

module _ {s : Setting} (roomy : Roomy s) (o : Parameters) (p : Palette) (bs : List ℕ) where
  pub payload-six : SoundSix s (payload s o p bs).drawing
  unfolding payload
  payload-six = drawn-six s (commands bs) (blank p o.p2) (commands-six bs) (blank-six roomy p o)

  -- Of what has been drawn once some bytes are read the extent follows the ink.
  pub drawn-extent : FollowsInk (drawn_so_far s o p bs).drawing
  unfolding drawn_so_far
  drawn-extent = follows-ink (drawn-six s (ended_commands bs) (blank p o.p2) (ended-six bs) (blank-six roomy p o))

  -- Of a payload's drawing the extent follows the ink.
  pub payload-extent : FollowsInk (payload s o p bs).drawing
  payload-extent = follows-ink payload-six
