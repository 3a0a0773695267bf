-- A byte while no command is pending does in the code what it does in the definition.
use Prim.Native.Nat.{ℕ, ◌+◌, ◌-◌, ◌*◌, ◌≤◌, ◌<◌, min}
use native.Mathlib.Omega.{arith}
use mathlib.Core.Path.{◌≡◌, refl, sym, ap, ◌∙◌, subst}
use mathlib.Core.Bool.{Bool, true, false, cond}
use mathlib.Core.Option.{Option, none, some}
use mathlib.Core.List.{List, [], ◌∷◌}
use borrow.Author.Tests.{ltb-true, ltb-false, eqb-true, ne_eqb, le-leb, lt-leb}
use lib.Count.{ones}
use lib.Dec.{ltb, eqb}
use Rattle.numbers.specs.Bytes.{skipped, sixel, ends, bang, quote, hash, dollar, dash}
use Rattle.numbers.proofs.Reading.{read_none}
use Rattle.numbers.proofs.Repeat.{counted_none}
use Rattle.canvas.specs.Picture.{reach}
use Rattle.canvas.proofs.Covers.{by-test}
use Rattle.frame.specs.declared.Command.{Command}
use Rattle.frame.specs.declared.Ground.{Ground}
use Rattle.frame.specs.declared.Kind.TheVariants as kinds
use Rattle.frame.specs.declared.Outcome.TheVariants as outcomes
use Rattle.frame.specs.declared.Refusal.{Refusal}
use Rattle.std.specs.Prelude.{Result}
use Rattle.frame.specs.declared.VisibleArea.{VisibleArea}
use Rattle.frame.specs.Numbers.{number_of}
use Rattle.frame.specs.Commands.{unread_as}
use Rattle.reference.specs.Step.{Reached, read_as, inked, canvas_after, painted_on, drawn_in, drawn_by, moved_to, data_step, row_ceiling}
use Rattle.meaning.specs.Commands.{does, scan_byte, closed}
use Rattle.meaning.specs.Drawing.{Setting, Drawing, with_pen, moved, unless, stroke_of, stroked, sixelled, draw_command, draw_all, and_then, ink_of, ink_of_all, strokes_since}
use Rattle.meaning.specs.Payload.{Parameters}
use Rattle.meaning.specs.Reader.{Step, next, halt, refuse}
use Rattle.meaning.specs.Sessions.{Reading, settled, rested, ended_at, went_on, read_byte, payload_step}
use Rattle.meaning.proofs.AreaLaws.{Allowed, Sound}
use Rattle.meaning.proofs.InkLaws.{since-appended, since-same, sixel-range, scan-sixel}
use Rattle.agreement.specs.Same.{ground_of, frame_of, canvas_of, Rated, Bounded, SameDrawing, Same}
use Rattle.agreement.proofs.Sizes.{Sized, allows, turns, sixel-sized}
use Rattle.agreement.proofs.Sixel.{stroke-same}

-- ---- what a byte comes to in the definition and in the code

-- the two stand for each other after a step
abbrev pub SameAfter : Setting → List ℕ → Reading → Ground → Reached → Type 0
SameAfter s opening r g t = Same s opening r g t.progress.frame t.palette t.canvas

-- the byte is read, with its ink; or its ink exceeds what is left, and the begun command alone has been carried out; or it ends the payload;
-- or it is refused
pub data Agrees (s : Setting) (opening : List ℕ) (r : Reading) (g : Ground) (b left : ℕ) : Step Reading → Reached → Type 0 where
  reads : {u : Reading} {i : ℕ} {t : Reached} → i ≤ left → u.over ≡ none → t.progress.outcome ≡ outcomes.Read
      → t.progress.consumed ≡ 1 → t.progress.ink ≡ i → SameAfter s opening u g t → Agrees s opening r g b left (next u i) t
  stops : {u : Reading} {i : ℕ} {t : Reached} → left < i → t.progress.outcome ≡ outcomes.Stopped → SameAfter s opening (rested s r) g t
      → Agrees s opening r g b left (next u i) t
  halts : {u : Reading} {t : Reached} → u.over ≡ some b → t.progress.outcome ≡ outcomes.Ended b → SameAfter s opening u g t
      → Agrees s opening r g b left (halt u) t
  refuses : {u : Reading} {n : ℕ} {t : Reached} (why : Refusal) → number_of why ≡ n → t.progress.outcome ≡ outcomes.Refused why
      → SameDrawing s opening u.drawing g t.progress.frame t.palette t.canvas → Agrees s opening r g b left (refuse u n) t

-- a reading with no begun command
abbrev pub plain : Parameters → ℕ → Drawing → Reading
plain o n d = record { parameters = o; passed = n; begun = none; drawing = d; over = none }

-- a byte that is read and draws nothing
pub quietly : {s : Setting} {opening : List ℕ} {r u : Reading} {g : Ground} {b left : ℕ} {t : Reached} (before now : Drawing)
    → now.strokes ≡ before.strokes → u.over ≡ none → t.progress.outcome ≡ outcomes.Read → t.progress.consumed ≡ 1
    → t.progress.ink ≡ 0 → SameAfter s opening u g t
    → Agrees s opening r g b left (next u (ink_of_all (strokes_since before now))) t
quietly before now still over e one ink same =
    let nothing : ink_of_all (strokes_since before now) ≡ 0 = since-same before now still in
    reads {i = ink_of_all (strokes_since before now)} (omega arith) over e one (ink ∙ sym nothing) same

-- one value whatever a test says
pub cond_same : {A : Type 0} (t : Bool) (x : A) → cond t x x ≡ x
cond_same true x = refl
cond_same false x = refl

-- a stroke's ink is what it adds
stroke-ink : (d : Drawing) (bits : ℕ) → ink_of_all (strokes_since d (stroked d (stroke_of bits d))) ≡ ones bits * d.pen.repeats
unfolding ink_of_all ink_of stroke_of stroked
stroke-ink d bits =
    let own : ink_of_all (strokes_since d (stroked d (stroke_of bits d))) ≡ d.pen.repeats * ones bits + 0 =
    ap ink_of_all (since-appended d (stroked d (stroke_of bits d)) (stroke_of bits d ∷ []) refl) in
    omega arith

-- no byte from 1C to 7F ends the payload
pub unended : (b : ℕ) → 0x1C ≤ b → b ≤ 0x7F → ends b ≡ false
unfolding ends
unended b p q = simp (ne_eqb b 0x18 (omega arith), le-leb 0x1A b (omega arith), lt-leb b 0x1B (omega arith), lt-leb 0x80 b (omega arith))

-- nor does a sixel
sixel-ends : (b : ℕ) → sixel b ≡ true → ends b ≡ false
sixel-ends b e = let p : (63 ≤ b) × (b ≤ 126) = sixel-range b e in unended b (omega arith) (omega arith)

module _ {s : Setting} (bounded : Bounded s) (opening : List ℕ) (o : Parameters) (n : ℕ) {d : Drawing} (sound : Sound s d)
    (rated : Rated d.raster.ratio) (c : Command) (idle : c.kind ≡ kinds.Data) where
  -- the code's ground and its step
  abbrev ground : Ground
  ground = ground_of s d.background

  abbrev step : ℕ → ℕ → Reached
  step b left = data_step (frame_of d c) ground b left d.palette (canvas_of s d opening)

  abbrev AgreesAt : ℕ → ℕ → Type 0
  AgreesAt b left = Agrees s opening (plain o n d) ground b left (payload_step s (plain o n d) b) (step b left)

  -- the drawing as it was
  kept : (k : Command) → SameDrawing s opening d ground (frame_of d k) d.palette (canvas_of s d opening)
  unfolding frame_of
  kept k = record { bounded = bounded; sound = sound; rated = rated; ground = refl; frame = refl; palette = refl; canvas = refl }

  -- a command begins
  hash-agrees : (left : ℕ) → AgreesAt hash left
  unfolding data_step payload_step read_byte scan_byte draw_all frame_of sixel ends skipped
  hash-agrees left = quietly _ _ refl refl refl refl refl (record { drawing = kept _; begun = (refl, read_none 5) })

  bang-agrees : (left : ℕ) → AgreesAt bang left
  unfolding data_step payload_step read_byte scan_byte draw_all frame_of sixel ends skipped
  bang-agrees left = quietly _ _ refl refl refl refl refl (record { drawing = kept _; begun = (refl, counted_none) })

  quote-agrees : (left : ℕ) → AgreesAt quote left
  unfolding data_step payload_step read_byte scan_byte draw_all frame_of sixel ends skipped
  quote-agrees left = quietly _ _ refl refl refl refl refl (record { drawing = kept _; begun = (refl, read_none 4) })

  -- the pen moves to column 0 and a row
  moved_same : (row held : ℕ) → held ≡ min row row_ceiling
      → SameDrawing s opening (with_pen d (moved d.pen 0 row)) ground (moved_to (frame_of d c) held) d.palette (canvas_of s d opening)
  unfolding with_pen moved moved_to frame_of canvas_of
  moved_same row held e =
      record {
        bounded = bounded;
        sound = record { fits = sound.fits; strokes = sound.strokes; once = sound.once; repeats = sound.repeats };
        rated = rated;
        ground = refl;
        frame = ap (moved_to (frame_of d c)) e;
        palette = refl;
        canvas = refl;
      }

  dollar-agrees : (left : ℕ) → AgreesAt dollar left
  unfolding data_step payload_step read_byte scan_byte draw_all and_then draw_command frame_of sixel ends skipped
  dollar-agrees left = quietly _ _ refl refl refl refl refl (record { drawing = moved_same _ _ refl; begun = idle })

  dash-agrees : (left : ℕ) → AgreesAt dash left
  unfolding data_step payload_step read_byte scan_byte draw_all and_then draw_command frame_of sixel ends skipped
  dash-agrees left =
      let held : min (min d.pen.row row_ceiling + 6) row_ceiling ≡ min (d.pen.row + 6) row_ceiling = omega arith in
      quietly _ _ refl refl refl refl refl (record { drawing = moved_same _ _ held; begun = idle })

  -- the end of the payload
  end-agrees : (b left : ℕ) → sixel b ≡ false → ends b ≡ true → AgreesAt b left
  unfolding data_step payload_step read_byte ended_at settled closed draw_all frame_of
  end-agrees b left e₁ e₂ = simp (e₁, e₂) (halts refl refl (record { drawing = kept c; begun = idle }))

  -- a byte that does nothing
  other-agrees : (b left : ℕ) → sixel b ≡ false → ends b ≡ false → eqb b hash ≡ false → eqb b bang ≡ false → eqb b dollar ≡ false → eqb b dash ≡ false
      → eqb b quote ≡ false → AgreesAt b left
  unfolding data_step payload_step read_byte scan_byte draw_all frame_of
  other-agrees b left e₁ e₂ e₃ e₄ e₅ e₆ e₇ =
      simp (e₁, e₂, e₃, e₄, e₅, e₆, e₇, cond_same) (quietly _ _ refl refl refl refl refl (record { drawing = kept c; begun = idle }))

  -- a stroke is painted where its ink is within what is left, else the call stops
  painted-agrees : (b bits left : ℕ) {w h : ℕ} → Allowed s d.area (d.pen.column + d.pen.repeats) (d.pen.row + 6)
      → w ≡ (reach d.area (stroke_of bits d)).width → h ≡ (reach d.area (stroke_of bits d)).height
      → Agrees s opening (plain o n d) ground b left
      (went_on (plain o n d) (record { begun = none; ended = [] }) (record { drawing = stroked d (stroke_of bits d); refusal = none }))
      (painted_on (frame_of d c) ground bits left w h d.palette (canvas_of s d opening))
  unfolding went_on painted_on rested settled closed draw_all stroked frame_of
  painted-agrees b bits left {w} {h} allowed p q = go (ltb left ink) refl
    where
      ink : ℕ
      ink = ones bits * d.pen.repeats

      added : ℕ
      added = ink_of_all (strokes_since d (stroked d (stroke_of bits d)))

      go : (t : Bool) → ltb left ink ≡ t
          → Agrees s opening (plain o n d) ground b left
          (went_on (plain o n d) (record { begun = none; ended = [] }) (record { drawing = stroked d (stroke_of bits d); refusal = none }))
          (cond t
          (record { progress = unread_as (frame_of d c) outcomes.Stopped; palette = d.palette; canvas = canvas_of s d opening })
          (record {
            progress = read_as (inked (frame_of d c) bits w h) ink;
            palette = d.palette;
            canvas = canvas_after (frame_of d c) ground bits w h (canvas_of s d opening);
          }))
      go true e =
          let beyond : left < added = omega (arith, ltb-true left ink e, stroke-ink d bits) in
          stops beyond refl (record { drawing = kept c; begun = idle })
      go false e =
          let within : added ≤ left = omega (arith, ltb-false left ink e, stroke-ink d bits) in
          reads within refl refl refl (sym (stroke-ink d bits))
          (record { drawing = stroke-same bounded opening sound bits allowed rated c p q; begun = idle })

  -- a sixel, with its size known
  drawn-agrees : (b bits left : ℕ) {x : Result VisibleArea Refusal} {y : Option ℕ}
      → Sized s d.area (d.pen.column + d.pen.repeats) (d.pen.row + 6) x y
      → Agrees s opening (plain o n d) ground b left
      (went_on (plain o n d) (record { begun = none; ended = [] }) (and_then d (unless y (stroked d (stroke_of bits d))) (draw_all s [])))
      (drawn_in x (frame_of d c) ground bits left d.palette (canvas_of s d opening))
  unfolding went_on and_then unless draw_all drawn_in reach
  drawn-agrees b bits left (allows allowed p q) = painted-agrees b bits left allowed p q
  drawn-agrees b bits left (turns why e) = refuses why e refl (kept c)

  -- a sixel
  sixel-agrees : (b left : ℕ) → sixel b ≡ true → AgreesAt b left
  unfolding payload_step read_byte does closed draw_all draw_command sixelled data_step drawn_by frame_of
  sixel-agrees b left e =
      rw (sixel-ends b e, scan-sixel n none b e, e) (drawn-agrees b (b - 63) left (sixel-sized sound d.background bounded d.pen))

  -- a byte while no command is pending
  pub data-agrees : (b left : ℕ) → AgreesAt b left
  data-agrees b left =
      by-test (sixel b) (sixel-agrees b left)
      λ e₁. by-test (ends b) (end-agrees b left e₁)
      λ e₂. by-test (eqb b hash) (λ e. known e (hash-agrees left))
      λ e₃. by-test (eqb b bang) (λ e. known e (bang-agrees left))
      λ e₄. by-test (eqb b dollar) (λ e. known e (dollar-agrees left))
      λ e₅. by-test (eqb b dash) (λ e. known e (dash-agrees left))
      λ e₆. by-test (eqb b quote) (λ e. known e (quote-agrees left)) (other-agrees b left e₁ e₂ e₃ e₄ e₅ e₆)
    where
      known : {k : ℕ} → eqb b k ≡ true → AgreesAt k left → AgreesAt b left
      known {k} e = subst (λ (m : ℕ). AgreesAt m left) (sym (eqb-true b k e))
