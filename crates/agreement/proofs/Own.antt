-- In the definition a byte that ends the begun command does what it does once that command has been carried out.
use Prim.Native.Nat.{ℕ, suc, ◌-◌}
use mathlib.Core.Path.{◌≡◌, refl, sym, ap, ap₂, ◌∙◌}
use mathlib.Core.Bool.{Bool, true, false, cond}
use mathlib.Core.Option.{Option, none, some}
use mathlib.Core.List.{List, [], ◌++◌, append-nil}
use lib.Dec.{eqb}
use Rattle.numbers.specs.Bytes.{skipped, sixel, ends, bang, quote, hash, dollar, dash}
use Rattle.meaning.specs.Commands.{repeat, colour, raster, return, line, draw, Placed, Begun, taken, longer, Scanned, closed, begins, does, own, scan_byte}
use Rattle.meaning.specs.Drawing.{Setting, Outcome, draw_all, ink_of_all, strokes_since}
use Rattle.meaning.specs.Reader.{Step, next, halt, refuse}
use Rattle.meaning.specs.Sessions.{Reading, settled, rested, ended_at, went_on, read_byte, payload_step}
use Rattle.meaning.proofs.AreaLaws.{draw_on, draw_on-none, draw_on-some, draw_all-append}
use Rattle.meaning.proofs.InkLaws.{went_on-rested}
use Rattle.agreement.proofs.Data.{cond_same}

-- some commands before what a byte scans to
abbrev pub after : List Placed → Scanned → Scanned
after before c = record { begun = c.begun; ended = before ++ c.ended }

-- a byte's own effect comes after what ended
pub own-after : (at b : ℕ) (before : List Placed) → own at b before ≡ after before (own at b [])
unfolding own begins does
own-after at b before = go (eqb b bang) (eqb b hash) (eqb b quote) (eqb b dollar) (eqb b dash) (sixel b)
  where
    none_more : (o : Option Begun) → ◌≡◌ {A = Scanned} (record { begun = o; ended = before }) (record { begun = o; ended = before ++ [] })
    none_more o = ap (λ (ps : List Placed). record { begun = o; ended = ps }) (sym (append-nil before))

    chosen : Bool → Bool → Bool → Bool → Bool → Bool → List Placed → Scanned
    chosen t₁ t₂ t₃ t₄ t₅ t₆ ps =
        cond t₁ (begins at ps repeat)
        (cond t₂ (begins at ps colour)
        (cond t₃ (begins at ps raster)
        (cond t₄ (does at ps return)
        (cond t₅ (does at ps line)
        (cond t₆ (does at ps (draw (b - 63))) (record { begun = none; ended = ps }))))))

    go : (t₁ t₂ t₃ t₄ t₅ t₆ : Bool) → chosen t₁ t₂ t₃ t₄ t₅ t₆ before ≡ after before (chosen t₁ t₂ t₃ t₄ t₅ t₆ [])
    go true t₂ t₃ t₄ t₅ t₆ = none_more _
    go false true t₃ t₄ t₅ t₆ = none_more _
    go false false true t₄ t₅ t₆ = none_more _
    go false false false true t₅ t₆ = refl
    go false false false false true t₆ = refl
    go false false false false false true = refl
    go false false false false false false = none_more _

-- what the begun command leaves where it is refused
unfoldable pub turned_at : Setting → Reading → Reading
turned_at s r = record { parameters = r.parameters; passed = r.passed; begun = none; drawing = (settled s r).drawing; over = none }

-- a byte that is neither skipped nor taken ends the payload, or goes on from the begun command's outcome
settling-step : (s : Setting) (r : Reading) (b : ℕ) → r.over ≡ none → skipped b ≡ false → taken r.begun b ≡ false
    → payload_step s r b
    ≡ cond (ends b) (ended_at b r (settled s r)) (went_on r (own r.passed b []) (draw_on s (settled s r) (own r.passed b []).ended))
unfolding payload_step read_byte went_on settled scan_byte
settling-step s r b going unskipped untaken =
    ap (λ (o : Option ℕ). elim o [ none ↦ read_byte s r b | some e ↦ halt r ]) going
    ∙ ap (λ (c : Scanned). went (went_on r c (draw_all s c.ended r.drawing))) scans
    ∙ ap (λ (out : Outcome). went (went_on r alone out)) (draw_all-append s (closed r.begun) alone.ended r.drawing)
  where
    alone : Scanned
    alone = own r.passed b []

    scans : scan_byte r.passed r.begun b ≡ after (closed r.begun) alone
    scans = rw (unskipped, untaken) (own-after r.passed b (closed r.begun))

    went : Step Reading → Step Reading
    went x = cond (ends b) (ended_at b r (settled s r)) x

module _ (s : Setting) (r : Reading) (b : ℕ) (going : r.over ≡ none) (unskipped : skipped b ≡ false) (untaken : taken r.begun b ≡ false) where
  -- where the begun command is carried out, the byte does what it does then
  pub payload-settles : (settled s r).refusal ≡ none → payload_step s r b ≡ payload_step s (rested s r) b
  unfolding rested settled closed draw_all taken ended_at draw_on
  payload-settles e =
      settling-step s r b going unskipped untaken
      ∙ ap₂ (cond (ends b)) (ap ended e)
      (ap (went_on r alone) (draw_on-none s (settled s r) alone.ended e)
      ∙ sym (went_on-rested s r alone alone (draw_all s alone.ended (settled s r).drawing) refl))
      ∙ sym (settling-step s (rested s r) b going unskipped refl)
    where
      alone : Scanned
      alone = own r.passed b []

      ended : Option ℕ → Step Reading
      ended o = ended_at b r (record { drawing = (settled s r).drawing; refusal = o })

  -- where it is refused, so is the byte
  pub payload-turns : {n : ℕ} → (settled s r).refusal ≡ some n → payload_step s r b ≡ refuse (turned_at s r) n
  unfolding ended_at went_on turned_at
  payload-turns {n} e =
      settling-step s r b going unskipped untaken
      ∙ ap₂ (cond (ends b)) (ap ended e) (ap (went_on r alone) (draw_on-some s (settled s r) alone.ended e) ∙ ap went e)
      ∙ cond_same (ends b) (refuse (turned_at s r) n)
    where
      alone : Scanned
      alone = own r.passed b []

      ended : Option ℕ → Step Reading
      ended o = ended_at b r (record { drawing = (settled s r).drawing; refusal = o })

      went : Option ℕ → Step Reading
      went o = went_on r alone (record { drawing = (settled s r).drawing; refusal = o })

-- ---- a byte that goes on with the begun command

-- one byte more, and this command has begun
unfoldable pub passed_with : Reading → Option Begun → Reading
passed_with r k = record { parameters = r.parameters; passed = suc r.passed; begun = k; drawing = r.drawing; over = none }

module _ (s : Setting) (r : Reading) (b : ℕ) (going : r.over ≡ none) (unended : ends b ≡ false) where
  -- a byte that ends no command draws nothing
  goes_on_lem : {k : Option Begun} → scan_byte r.passed r.begun b ≡ record { begun = k; ended = [] }
      → payload_step s r b ≡ next (passed_with r k) (ink_of_all (strokes_since r.drawing r.drawing))
  unfolding payload_step read_byte went_on draw_all passed_with
  goes_on_lem scans =
      ap (λ (o : Option ℕ). elim o [ none ↦ read_byte s r b | some e ↦ halt r ]) going
      ∙ ap (λ (t : Bool). cond t (ended_at b r (settled s r)) (went (scan_byte r.passed r.begun b))) unended
      ∙ ap went scans
    where
      went : Scanned → Step Reading
      went c = went_on r c (draw_all s c.ended r.drawing)

  -- a skipped byte
  pub payload-skips : skipped b ≡ true → payload_step s r b ≡ next (passed_with r r.begun) (ink_of_all (strokes_since r.drawing r.drawing))
  unfolding scan_byte
  payload-skips e = goes_on_lem (rw e)

  -- a byte that the begun command takes
  pub payload-takes : skipped b ≡ false → taken r.begun b ≡ true
      → payload_step s r b ≡ next (passed_with r (longer r.begun b)) (ink_of_all (strokes_since r.drawing r.drawing))
  unfolding scan_byte
  payload-takes e t = goes_on_lem (rw (e, t))
