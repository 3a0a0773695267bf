-- Reading some of a payload draws its commands that have ended, and is refused exactly where one of them is. A pending command is not yet
-- carried out.
use Prim.Native.Nat.{ℕ, suc}
use mathlib.Core.Path.{◌≡◌, refl, sym, ap, ◌∙◌}
use mathlib.Core.Bool.{Bool, true, false, cond}
use mathlib.Core.Logic.{◌↔◌}
use mathlib.Core.Option.{Option, none, some}
use mathlib.Core.List.{List, [], ◌∷◌, ◌++◌, append_assoc}
use Rattle.numbers.specs.Bytes.{ends}
use Rattle.colours.specs.declared.Palette.{Palette}
use Rattle.meaning.specs.Commands.{Placed, Scanned, closed, scan_byte, scan, body, end_of, commands, ended_commands}
use Rattle.meaning.specs.Drawing.{Setting, Drawing, Outcome, draw_all}
use Rattle.meaning.specs.Payload.{Parameters, drawn_so_far}
use Rattle.meaning.specs.Reader.{Step, How, read_all, stopped, halted, refused_by, Run, still, after, follow, read_from}
use Rattle.meaning.specs.Sessions.{Reading, opened, settled, ended_at, went_on, read_byte, payload_step}
use Rattle.meaning.proofs.AreaLaws.{option-case, draw_on, draw_on-none, draw_on-some, draw_all-append}
use Rattle.meaning.proofs.PayloadLaws.{unended, known, go_on_lem, read_payload}

-- ---- what reading has drawn, and its refusal

unfoldable pub refusal_in : How → Option ℕ
refusal_in read_all = none
refusal_in stopped = none
refusal_in halted = none
refusal_in (refused_by n) = some n

-- a run is refused exactly where it has a refusal
pub refusal-in : (h : How) (n : ℕ) → (h ≡ refused_by n) ↔ (refusal_in h ≡ some n)
unfolding refusal_in
refusal-in h n = (λ e. ap refusal_in e, back h)
  where
    back : (h : How) → refusal_in h ≡ some n → h ≡ refused_by n
    back read_all e = cc
    back stopped e = cc
    back halted e = cc
    back (refused_by m) e = cc

-- the pending command is left as it is
unfoldable pub drawn_by : Run Reading → Outcome
unfolding refusal_in
drawn_by q = record { drawing = q.state.drawing; refusal = refusal_in q.how }

-- ---- the commands that end from a reading on

-- where the payload has not come to its end, those that end among its bytes; else all that end in its body, and the one that the
-- end cuts off
ended_of : Reading → Option ℕ → List ℕ → List ℕ → List Placed
unfolding scan closed
ended_of r o bs cut =
    elim o [
      | none ↦ (scan r.passed r.begun bs).ended
      | some b ↦ let c : Scanned = scan r.passed r.begun cut in c.ended ++ closed c.begun
    ]

-- those that end among the bytes yet to come
ended_from : Reading → List ℕ → List Placed
unfolding ended_of body end_of
ended_from r bs = ended_of r (end_of bs) bs (body bs)

-- ---- a byte

module _ (s : Setting) (r : Reading) (b : ℕ) (bs : List ℕ) where
  -- the rest is drawn so
  abbrev Later : Type 0
  Later = (t : Reading) → t.over ≡ none → drawn_by (read_from (payload_step s) t bs) ≡ draw_all s (ended_from t bs) t.drawing

  ended-drawn : drawn_by (follow (ended_at b r (settled s r)) (go_on_lem s bs)) ≡ settled s r
  unfolding ended_at drawn_by follow still
  ended-drawn =
      option-case (λ (x : Step Reading). drawn_by (follow x (go_on_lem s bs)) ≡ settled s r) (settled s r).refusal
      (λ q. known (settled s r) q) (λ n q. known (settled s r) q)

  -- the reading after a byte that is read
  read-on : Scanned → Drawing → Reading
  read-on c d = record { parameters = r.parameters; passed = suc r.passed; begun = c.begun; drawing = d; over = none }

  went-drawn : (c : Scanned) (cs : List Placed) (out : Outcome) → Later → cs ≡ ended_from (read-on c out.drawing) bs
      → drawn_by (follow (went_on r c out) (go_on_lem s bs)) ≡ draw_on s out cs
  unfolding went_on drawn_by follow still go_on_lem after read-on
  went-drawn c cs out later e =
      option-case (λ (x : Step Reading). drawn_by (follow x (go_on_lem s bs)) ≡ draw_on s out cs) out.refusal
      (λ q. later _ refl ∙ ap (λ (us : List Placed). draw_all s us out.drawing) (sym e) ∙ sym (draw_on-none s out cs q))
      (λ n q. known out q ∙ sym (draw_on-some s out cs q))

  byte-drawn : Later → drawn_by (follow (read_byte s r b) (go_on_lem s bs)) ≡ draw_all s (ended_from r (b ∷ bs)) r.drawing
  unfolding read_byte ended_from ended_of settled draw_all read-on
  byte-drawn later = go (ends b)
    where
      c : Scanned
      c = scan_byte r.passed r.begun b

      out : Outcome
      out = draw_all s c.ended r.drawing

      -- the byte's commands come first
      first : (o : Option ℕ) → ended_of r o (b ∷ bs) (b ∷ body bs) ≡ c.ended ++ ended_of (read-on c out.drawing) o bs (body bs)
      first none = refl
      first (some e) = append_assoc c.ended _ _

      go : (x : Bool) → drawn_by (follow (cond x (ended_at b r (settled s r)) (went_on r c out)) (go_on_lem s bs))
          ≡ draw_all s (ended_of r (cond x (some b) (end_of bs)) (b ∷ bs) (cond x [] (b ∷ body bs))) r.drawing
      go true = ended-drawn
      go false =
          went-drawn c (ended_from (read-on c out.drawing) bs) out later refl
          ∙ sym (draw_all-append s c.ended (ended_from (read-on c out.drawing) bs) r.drawing)
          ∙ ap (λ (cs : List Placed). draw_all s cs r.drawing) (sym (first (end_of bs)))

-- ---- all bytes

-- reading a payload from anywhere before its end draws the commands that end
drawn-from : (s : Setting) (r : Reading) (bs : List ℕ) → r.over ≡ none
    → drawn_by (read_from (payload_step s) r bs) ≡ draw_all s (ended_from r bs) r.drawing
unfolding read_from still drawn_by ended_from ended_of draw_all go_on_lem
drawn-from s r [] e = refl
drawn-from s r (b ∷ bs) e =
    ap (λ (x : Step Reading). drawn_by (follow x (go_on_lem s bs))) (unended s r b e) ∙ byte-drawn s r b bs (λ t. drawn-from s t bs)

-- and so does reading it from its first byte, refused or not
pub reading-so-far : (s : Setting) (o : Parameters) (p : Palette) (bs : List ℕ) → drawn_by (read_payload s o p bs) ≡ drawn_so_far s o p bs
unfolding drawn_so_far ended_commands commands ended_from ended_of opened
reading-so-far s o p bs = drawn-from s (opened o p) bs refl

-- what has been drawn
pub reading-drawn : (s : Setting) (o : Parameters) (p : Palette) (bs : List ℕ)
    → (read_payload s o p bs).state.drawing ≡ (drawn_so_far s o p bs).drawing
unfolding drawn_by
reading-drawn s o p bs = ap (λ (out : Outcome). out.drawing) (reading-so-far s o p bs)

-- and the refusal, if there is one
pub reading-refusal : (s : Setting) (o : Parameters) (p : Palette) (bs : List ℕ) (n : ℕ)
    → ((read_payload s o p bs).how ≡ refused_by n) ↔ ((drawn_so_far s o p bs).refusal ≡ some n)
unfolding drawn_by
reading-refusal s o p bs n =
    let same = ap (λ (out : Outcome). out.refusal) (reading-so-far s o p bs) in
    let iff = refusal-in (read_payload s o p bs).how n in
    (λ e. sym same ∙ iff.0 e, λ e. iff.1 (same ∙ e))
