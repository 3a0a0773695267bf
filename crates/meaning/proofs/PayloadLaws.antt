-- Reading a payload byte by byte is what the payload means, whole.
use Prim.Native.Nat.{ℕ, suc, ◌+◌, ◌≤◌}
use native.Mathlib.Nat.{zero-add, add-zero}
use native.Mathlib.Omega.{arith}
use mathlib.Core.Path.{◌≡◌, refl, sym, ap, ap₂, ◌∙◌, subst}
use mathlib.Core.Bool.{Bool, true, false, cond, true≢false}
use mathlib.Core.Option.{Option, none, some}
use mathlib.Core.List.{List, [], ◌∷◌, ◌++◌, append_assoc}
use lib.ListN.{length, take}
use Rattle.numbers.specs.Bytes.{ends}
use Rattle.colours.specs.declared.Palette.{Palette}
use Rattle.meaning.specs.Commands.{Placed, Begun, Scanned, closed, scan_byte, scan, body, end_of, commands}
use Rattle.meaning.specs.Drawing.{Setting, blank, Outcome, draw_all, ink_of_all}
use Rattle.meaning.specs.Payload.{Parameters, payload, payload_ink, finish}
use Rattle.meaning.specs.Reader.{Step, halt, How, read_all, stopped, halted, refused_by, is_refused, Run, still, after, follow, read_from}
use Rattle.meaning.specs.Sessions.{Reading, opened, settled, rested, ended_at, went_on, read_byte, payload_step, finish_reading, outcome_of}
use Rattle.meaning.proofs.AreaLaws.{cond-case, option-case, Leaves, leaves_map, payload-case, read_from-keeps, draw_on, draw_on-none, draw_on-some, draw_all-append, FourToSeven, draw_all-numbers}
use Rattle.meaning.proofs.InkLaws.{settled-strokes, payload-ink}

-- ---- scanning

-- scanning xs and then ys, from the place after xs, is scanning xs ++ ys
pub scan-append : (at : ℕ) (c : Option Begun) (xs ys : List ℕ)
    → scan at c (xs ++ ys)
    ≡ record {
      begun = (scan (at + length xs) (scan at c xs).begun ys).begun;
      ended = (scan at c xs).ended ++ (scan (at + length xs) (scan at c xs).begun ys).ended;
    }
unfolding scan
scan-append at c [] ys = ap (λ (n : ℕ). scan n c ys) (sym (add-zero at))
scan-append at c (b ∷ xs) ys =
    let first : Scanned = scan_byte at c b in
    let later : Scanned = scan (suc at) first.begun xs in
    let place : suc at + length xs ≡ at + suc (length xs) = omega arith in
    ap (λ (k : Scanned). record { begun = k.begun; ended = first.ended ++ k.ended }) (scan-append (suc at) first.begun xs ys)
    ∙ ap₂ (λ (o : Option Begun) (cs : List Placed). record { begun = o; ended = cs })
    (ap (λ (n : ℕ). (scan n later.begun ys).begun) place)
    (sym (append_assoc first.ended later.ended _)
    ∙ ap (λ (n : ℕ). (first.ended ++ later.ended) ++ (scan n later.begun ys).ended) place)

-- ---- the commands from a reading on

-- the commands of the bytes that are yet to come, the begun one first among them
unfoldable pub commands_from : Reading → List ℕ → List Placed
unfolding scan body closed
commands_from r bs = let c : Scanned = scan r.passed r.begun (body bs) in c.ended ++ closed c.begun

-- what they come to, whole
unfoldable pub payload_from : Setting → Reading → List ℕ → Outcome
unfolding commands_from
payload_from s r bs = draw_all s (commands_from r bs) r.drawing

-- a payload that has not ended reads the byte
pub unended : (s : Setting) (r : Reading) (b : ℕ) → r.over ≡ none → payload_step s r b ≡ read_byte s r b
unfolding payload_step
unended s r b e = ap (λ (o : Option ℕ). elim o as (λ _. Step Reading) [ none ↦ read_byte s r b | some n ↦ halt r ]) e

-- an outcome with a known refusal
pub known : (out : Outcome) {o : Option ℕ} → out.refusal ≡ o → ◌≡◌ {A = Outcome} (record { drawing = out.drawing; refusal = o }) out
known out e = ap (λ (o : Option ℕ). record { drawing = out.drawing; refusal = o }) (sym e)

-- reading goes on after a byte
unfoldable pub go_on_lem : Setting → List ℕ → Reading → ℕ → Run Reading
go_on_lem s bs t i = after 1 i (read_from (payload_step s) t bs)

module _ (s : Setting) (r : Reading) (b : ℕ) (bs : List ℕ) where
  ended-outcome : outcome_of s (follow (ended_at b r (settled s r)) (go_on_lem s bs)) ≡ settled s r
  unfolding ended_at outcome_of closed follow still draw_all
  ended-outcome =
      option-case (λ (x : Step Reading). outcome_of s (follow x (go_on_lem s bs)) ≡ settled s r) (settled s r).refusal
      (λ q. known (settled s r) q) (λ n q. known (settled s r) q)

  went-outcome : (c : Scanned) (cs : List Placed) (out : Outcome)
      → ((t : Reading) → t.over ≡ none → outcome_of s (read_from (payload_step s) t bs) ≡ payload_from s t bs)
      → cs
      ≡ commands_from
      (record { parameters = r.parameters; passed = suc r.passed; begun = c.begun; drawing = out.drawing; over = none }) bs
      → outcome_of s (follow (went_on r c out) (go_on_lem s bs)) ≡ draw_on s out cs
  unfolding went_on outcome_of payload_from follow still go_on_lem after
  went-outcome c cs out later e =
      option-case (λ (x : Step Reading). outcome_of s (follow x (go_on_lem s bs)) ≡ draw_on s out cs) out.refusal
      (λ q. later _ refl ∙ ap (λ (us : List Placed). draw_all s us out.drawing) (sym e) ∙ sym (draw_on-none s out cs q))
      (λ n q. known out q ∙ sym (draw_on-some s out cs q))

  byte-outcome : ((t : Reading) → t.over ≡ none → outcome_of s (read_from (payload_step s) t bs) ≡ payload_from s t bs)
      → outcome_of s (follow (read_byte s r b) (go_on_lem s bs)) ≡ payload_from s r (b ∷ bs)
  unfolding read_byte payload_from commands_from
  byte-outcome later = go (ends b)
    where
      c : Scanned
      c = scan_byte r.passed r.begun b

      out : Outcome
      out = draw_all s c.ended r.drawing

      t : Reading
      t = record { parameters = r.parameters; passed = suc r.passed; begun = c.begun; drawing = out.drawing; over = none }

      whole : List ℕ → Outcome
      whole us = let k : Scanned = scan r.passed r.begun us in draw_all s (k.ended ++ closed k.begun) r.drawing

      go : (x : Bool)
          → outcome_of s (follow (cond x (ended_at b r (settled s r)) (went_on r c out)) (go_on_lem s bs)) ≡ whole (cond x [] (b ∷ body bs))
      go true = ended-outcome
      go false =
          went-outcome c (commands_from t bs) out later refl
          ∙ sym (draw_all-append s c.ended (commands_from t bs) r.drawing)
          ∙ ap (λ (cs : List Placed). draw_all s cs r.drawing) (sym (append_assoc c.ended _ _))

-- reading a payload from anywhere before its end comes to what its commands come to
pub reading-from : (s : Setting) (r : Reading) (bs : List ℕ) → r.over ≡ none
    → outcome_of s (read_from (payload_step s) r bs) ≡ payload_from s r bs
unfolding read_from outcome_of payload_from go_on_lem
reading-from s r [] e = refl
reading-from s r (b ∷ bs) e =
    ap (λ (x : Step Reading). outcome_of s (follow x (go_on_lem s bs))) (unended s r b e)
    ∙ byte-outcome s r b bs (λ t. reading-from s t bs)

-- reading a payload from its first byte comes to what it means, refused or not
pub reading-is-payload : (s : Setting) (o : Parameters) (p : Palette) (bs : List ℕ)
    → outcome_of s (read_from (payload_step s) (opened o p) bs) ≡ payload s o p bs
unfolding payload_from payload opened commands
reading-is-payload s o p bs = reading-from s (opened o p) bs refl

-- ---- what that says of a run that was not refused, and of one that was

-- not refused: the begun command carried out
pub outcome-settled : (s : Setting) (q : Run Reading) → is_refused q.how ≡ false → outcome_of s q ≡ settled s q.state
unfolding outcome_of is_refused
outcome-settled s q = go q.how
  where
    go : (h : How) → is_refused h ≡ false
        → elim h as (λ _. Outcome) [
          | read_all ↦ settled s q.state
          | stopped ↦ settled s q.state
          | halted ↦ settled s q.state
          | refused_by n ↦ record { drawing = q.state.drawing; refusal = some n }
        ]
        ≡ settled s q.state
    go read_all e = refl
    go stopped e = refl
    go halted e = refl
    go (refused_by n) e = absurd (true≢false e)

-- refused: the drawing that the refusal left, and its number
pub outcome-refused : (s : Setting) (q : Run Reading) {n : ℕ} → q.how ≡ refused_by n
    → outcome_of s q ≡ record { drawing = q.state.drawing; refusal = some n }
unfolding outcome_of
outcome-refused s q e = rw e

-- either way its strokes are those that were drawn
outcome-strokes : (s : Setting) (q : Run Reading) → (outcome_of s q).drawing.strokes ≡ q.state.drawing.strokes
unfolding outcome_of
outcome-strokes s q = go q.how
  where
    go : (h : How)
        → (elim h as (λ _. Outcome) [
          | read_all ↦ settled s q.state
          | stopped ↦ settled s q.state
          | halted ↦ settled s q.state
          | refused_by n ↦ record { drawing = q.state.drawing; refusal = some n }
        ]).drawing.strokes
        ≡ q.state.drawing.strokes
    go read_all = settled-strokes s q.state
    go stopped = settled-strokes s q.state
    go halted = settled-strokes s q.state
    go (refused_by n) = refl

-- the parameters stay
went_on-parameters : (r : Reading) (c : Scanned) (out : Outcome) → Leaves (λ t. t.parameters ≡ r.parameters) (went_on r c out)
unfolding went_on
went_on-parameters r c out = option-case (Leaves (λ t. t.parameters ≡ r.parameters)) out.refusal (λ _. refl) (λ _ _. refl)

ended-parameters : (b : ℕ) (r : Reading) (out : Outcome) → Leaves (λ t. t.parameters ≡ r.parameters) (ended_at b r out)
unfolding ended_at
ended-parameters b r out = option-case (Leaves (λ t. t.parameters ≡ r.parameters)) out.refusal (λ _. refl) (λ _ _. refl)

step-parameters : (s : Setting) (r : Reading) (b : ℕ) → Leaves (λ t. t.parameters ≡ r.parameters) (payload_step s r b)
unfolding read_byte
step-parameters s r b =
    payload-case Same s r b
    (λ _.
    cond-case Same (ends b)
    (λ _. ended-parameters b r (settled s r))
    (λ _. went_on-parameters r c (draw_all s c.ended r.drawing)))
    (λ _. refl)
  where
    c : Scanned
    c = scan_byte r.passed r.begun b

    Same : Step Reading → Type 0
    Same = Leaves (λ t. t.parameters ≡ r.parameters)

-- reading a payload leaves its parameters
pub reading-parameters : (s : Setting) (r : Reading) (bs : List ℕ) → (read_from (payload_step s) r bs).state.parameters ≡ r.parameters
reading-parameters s r bs =
    read_from-keeps (λ t. t.parameters ≡ r.parameters) (payload_step s)
    (λ t b h. leaves_map (λ u e. e ∙ h) (payload_step s t b) (step-parameters s t b)) r bs refl

-- where the end has come reading halts, and else it reads all
unfoldable pub how_at : Option ℕ → How
how_at none = read_all
how_at (some b) = halted

-- the bytes before the end were read, and no others
pub record ReadBody (bs : List ℕ) (q : Run Reading) : Type 0 where
  pub consumed : q.consumed ≡ length (body bs)
  pub over : q.state.over ≡ end_of bs
  pub how : q.how ≡ how_at (end_of bs)

module _ (s : Setting) (r : Reading) (b : ℕ) (bs : List ℕ) where
  -- unless it was refused
  abbrev BodyRead : List ℕ → Run Reading → Type 0
  BodyRead us q = is_refused q.how ≡ false → ReadBody us q

  ended-body : (out : Outcome) → ends b ≡ true → BodyRead (b ∷ bs) (follow (ended_at b r out) (go_on_lem s bs))
  unfolding ended_at follow still how_at body end_of is_refused
  ended-body out e =
      option-case (λ (x : Step Reading). BodyRead (b ∷ bs) (follow x (go_on_lem s bs))) out.refusal
      (λ _ _. record { consumed = rw e; over = rw e; how = rw e })
      (λ n _ no. absurd (true≢false no))

  went-body : (c : Scanned) (out : Outcome) → ends b ≡ false
      → ((t : Reading) → t.over ≡ none → BodyRead bs (read_from (payload_step s) t bs))
      → BodyRead (b ∷ bs) (follow (went_on r c out) (go_on_lem s bs))
  unfolding went_on follow still how_at body end_of is_refused go_on_lem after
  went-body c out e later =
      option-case (λ (x : Step Reading). BodyRead (b ∷ bs) (follow x (go_on_lem s bs))) out.refusal
      (λ _ going.
      let f = later _ refl going in
      record { consumed = rw e (omega (arith, f.consumed)); over = rw e f.over; how = rw e f.how })
      (λ n _ no. absurd (true≢false no))

  byte-body : ((t : Reading) → t.over ≡ none → BodyRead bs (read_from (payload_step s) t bs))
      → BodyRead (b ∷ bs) (follow (read_byte s r b) (go_on_lem s bs))
  unfolding read_byte
  byte-body later =
      cond-case (λ (x : Step Reading). BodyRead (b ∷ bs) (follow x (go_on_lem s bs))) (ends b) (ended-body (settled s r))
      (λ no. went-body c (draw_all s c.ended r.drawing) no later)
    where
      c : Scanned
      c = scan_byte r.passed r.begun b

-- reading a payload from anywhere before its end, unless it is refused, reads the bytes before the end
pub reading-body : (s : Setting) (r : Reading) (bs : List ℕ) → r.over ≡ none → is_refused (read_from (payload_step s) r bs).how ≡ false
    → ReadBody bs (read_from (payload_step s) r bs)
unfolding read_from still go_on_lem how_at body end_of
reading-body s r [] e = λ _. record { consumed = refl; over = e; how = refl }
reading-body s r (b ∷ bs) e =
    subst (λ (x : Step Reading). BodyRead s r b bs (b ∷ bs) (follow x (go_on_lem s bs))) (sym (unended s r b e))
    (byte-body s r b bs (λ t. reading-body s t bs))

module _ (s : Setting) (o : Parameters) (p : Palette) (bs : List ℕ) where
  -- the reading of a payload from its first byte
  abbrev pub read_payload : Run Reading
  read_payload = read_from (payload_step s) (opened o p) bs

  -- unless it is refused, its state with the begun command carried out is what the payload means
  pub reading-settled : is_refused read_payload.how ≡ false → settled s read_payload.state ≡ payload s o p bs
  reading-settled going = sym (outcome-settled s read_payload going) ∙ reading-is-payload s o p bs

  -- and finishing it answers what finishing the payload does
  pub reading-finish : is_refused read_payload.how ≡ false → finish_reading s read_payload.state ≡ finish o (payload s o p bs)
  unfolding finish_reading opened
  reading-finish going = ap₂ finish (reading-parameters s (opened o p) bs) (reading-settled going)

  -- the bytes before the end were read
  pub reading-consumed : is_refused read_payload.how ≡ false → read_payload.consumed ≡ length (body bs)
  unfolding opened
  reading-consumed going = (reading-body s (opened o p) bs refl going).consumed

  -- the end is the payload's
  pub reading-over : is_refused read_payload.how ≡ false → read_payload.state.over ≡ end_of bs
  unfolding opened
  reading-over going = (reading-body s (opened o p) bs refl going).over

  -- a refusal is the payload's, and leaves the payload's drawing
  pub reading-refused : {n : ℕ} → read_payload.how ≡ refused_by n
      → payload s o p bs ≡ record { drawing = read_payload.state.drawing; refusal = some n }
  reading-refused e = sym (reading-is-payload s o p bs) ∙ outcome-refused s read_payload e

  -- it is 4 to 7
  pub reading-numbers : {n : ℕ} → read_payload.how ≡ refused_by n → (4 ≤ n) × (n ≤ 7)
  unfolding payload
  reading-numbers e =
      subst FourToSeven (ap (λ (out : Outcome). out.refusal) (reading-refused e)) (draw_all-numbers s (commands bs) (blank p o.p2))

  -- its ink is that of the payload's strokes, refused or not
  pub reading-ink : read_payload.ink ≡ payload_ink s o p bs
  unfolding payload_ink opened blank ink_of_all
  reading-ink =
      sym (zero-add _) ∙ sym (payload-ink s (opened o p) bs)
      ∙ ap ink_of_all (sym (outcome-strokes s read_payload) ∙ ap (λ (out : Outcome). out.drawing.strokes) (reading-is-payload s o p bs))

-- ---- what a stop and an end leave

-- with no command begun there is none to carry out
pub settled-none : (s : Setting) (r : Reading) → r.begun ≡ none → settled s r ≡ record { drawing = r.drawing; refusal = none }
unfolding settled closed draw_all
settled-none s r e = ap (λ (c : Option Begun). draw_all s (closed c) r.drawing) e

-- a stop has carried the begun command out
pub rested-settled : (s : Setting) (r : Reading) → (settled s r).refusal ≡ none → settled s (rested s r) ≡ settled s r
unfolding rested
rested-settled s r e = settled-none s (rested s r) refl ∙ known (settled s r) e

-- and so has an end: an ended payload has no begun command
abbrev EndSettles : Reading → Type 0
EndSettles r = (b : ℕ) → r.over ≡ some b → r.begun ≡ none

went_on-end : (r : Reading) (c : Scanned) (out : Outcome) → Leaves EndSettles (went_on r c out)
unfolding went_on
went_on-end r c out = option-case (Leaves EndSettles) out.refusal (λ _ b q. cc) (λ _ _ b q. refl)

ended-end : (b : ℕ) (r : Reading) (out : Outcome) → Leaves EndSettles (ended_at b r out)
unfolding ended_at
ended-end b r out = option-case (Leaves EndSettles) out.refusal (λ _ _ _. refl) (λ _ _ _ _. refl)

step_end : (s : Setting) (r : Reading) (b : ℕ) → EndSettles r → Leaves EndSettles (payload_step s r b)
unfolding read_byte
step_end s r b h =
    payload-case (Leaves EndSettles) s r b
    (λ _.
    cond-case (Leaves EndSettles) (ends b)
    (λ _. ended-end b r (settled s r))
    (λ _. went_on-end r c (draw_all s c.ended r.drawing)))
    (λ _. h)
  where
    c : Scanned
    c = scan_byte r.passed r.begun b

halted-end : (o : Option ℕ) → how_at o ≡ halted → (b : ℕ) × (o ≡ some b)
unfolding how_at
halted-end none e = absurd (let never : ◌≡◌ {A = ℕ} 0 1 = cc in omega arith)
halted-end (some b) e = (b, refl)

-- a payload that has been read to its end has no begun command
pub halted-settled : (s : Setting) (o : Parameters) (p : Palette) (bs : List ℕ) → (read_payload s o p bs).how ≡ halted
    → (read_payload s o p bs).state.begun ≡ none
unfolding opened is_refused
halted-settled s o p bs e =
    let f : ReadBody bs (read_payload s o p bs) = reading-body s (opened o p) bs refl (ap is_refused e) in
    let z : (b : ℕ) × (end_of bs ≡ some b) = halted-end (end_of bs) (sym f.how ∙ e) in
    read_from-keeps EndSettles (payload_step s) (step_end s) (opened o p) bs (λ b q. refl) z.0 (f.over ∙ z.1)

-- ---- the bytes before the end are all that a payload means

take-body : (bs : List ℕ) → take (length (body bs)) bs ≡ body bs
unfolding body
take-body [] = refl
take-body (b ∷ bs) =
    cond-case (λ (us : List ℕ). take (length us) (b ∷ bs) ≡ us) (ends b)
    (λ _. refl)
    (λ _. ap (λ (us : List ℕ). b ∷ us) (take-body bs))

body-body : (bs : List ℕ) → body (body bs) ≡ body bs
unfolding body
body-body [] = refl
body-body (b ∷ bs) =
    cond-case (λ (us : List ℕ). body us ≡ us) (ends b) (λ _. refl) (λ e. rw e (ap (λ (us : List ℕ). b ∷ us) (body-body bs)))

-- a payload cut at its end means the same
pub payload-body : (s : Setting) (o : Parameters) (p : Palette) (bs : List ℕ)
    → payload s o p (take (length (body bs)) bs) ≡ payload s o p bs
unfolding payload commands
payload-body s o p bs = ap whole (ap body (take-body bs) ∙ body-body bs)
  where
    whole : List ℕ → Outcome
    whole us = let c : Scanned = scan 0 none us in draw_all s (c.ended ++ closed c.begun) (blank p o.p2)
