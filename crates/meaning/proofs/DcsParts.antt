-- Reading a DCS sequence part by part: what comes before the payload, the payload, and the end.
use Prim.Native.Nat.{ℕ, ◌+◌, ◌≤◌}
use native.Mathlib.Omega.{arith}
use mathlib.Core.Path.{◌≡◌, refl, sym, ap, ◌∙◌}
use mathlib.Core.Bool.{true, false, ◌||◌, true≢false}
use mathlib.Core.Option.{none, some}
use mathlib.Core.List.{List, [], ◌∷◌, ◌++◌}
use lib.Dec.{eqb}
use lib.ListN.{drop}
use borrow.Author.Tests.{eqb-true}
use Rattle.colours.specs.declared.Palette.{Palette}
use Rattle.meaning.specs.Drawing.{Setting}
use Rattle.meaning.specs.Reader.{Step, next, halt, refuse, How, read_all, stopped, halted, refused_by, is_refused, Run, still, after, follow, read_from}
use Rattle.meaning.specs.Sessions.{Reading, opened, settled, payload_step, End, Phase, start, introduced, header, within, after_escape, over, HeaderByte, goes_on, settles, wrong, header_byte, start_step, introduced_step, header_step, end_step, within_step, escape_step, dcs_step}
use Rattle.meaning.specs.OneShot.{Found, found, lacking, refused_with, header_from, find_payload}
use Rattle.meaning.specs.Sequence.{after_first_escape, sequence_payload}
use Rattle.meaning.specs.Calls.{dcs_end, drawing_settled}
use Rattle.meaning.proofs.Framing.{Introducer, c1, escaped, in_payload, read_end, framed}
use Rattle.meaning.proofs.RunLaws.{after-zero, after-after, read_as_lem}
use Rattle.meaning.proofs.CallLaws.{drop-one-more}
use Rattle.meaning.proofs.AreaLaws.{cond-case, Before}

-- ---- within the payload

module _ (s : Setting) (p : Palette) where
  after-framed : (b i : ℕ) (q : Run Reading) (bs : List ℕ) → after 1 i (framed s p q bs) ≡ framed s p (after 1 i q) (b ∷ bs)
  unfolding framed in_payload after
  after-framed b i q bs = go q.how
    where
      run : How → Run Reading
      run h = record { state = q.state; consumed = q.consumed; ink = q.ink; how = h }

      go : (h : How) → after 1 i (framed s p (run h) bs) ≡ framed s p (after 1 i (run h)) (b ∷ bs)
      go read_all = refl
      go stopped = refl
      go halted =
          sym (after-after 1 i q.consumed q.ink (read_end s p q.state (drop q.consumed bs)))
          ∙ ap (λ (us : List ℕ). after (1 + q.consumed) (i + q.ink) (read_end s p q.state us)) (sym (drop-one-more q.consumed b bs))
      go (refused_by n) = refl

  -- what a sequence makes of its payload's step
  stepped : ℕ → Step Reading → Step Phase
  unfolding end_step
  stepped b x = elim x [ next t i ↦ next (within t) i | halt t ↦ end_step t b | refuse t n ↦ refuse (within t) n ]

  within-as : (r : Reading) (b : ℕ) {x : Step Reading} → payload_step s r b ≡ x → dcs_step s p (within r) b ≡ stepped b x
  unfolding dcs_step within_step stepped
  within-as r b e = ap (stepped b) e

  -- within its payload a sequence reads as a payload session does, and where that has come to its end it reads the end
  pub within-reads : (r : Reading) (bs : List ℕ) → read_from (dcs_step s p) (within r) bs ≡ framed s p (read_from (payload_step s) r bs) bs
  unfolding read_from framed in_payload still stepped
  within-reads r [] = refl
  within-reads r (b ∷ bs) = go (payload_step s r b) refl (λ t. within-reads t bs)
    where
      inner : Reading → ℕ → Run Reading
      inner t i = after 1 i (read_from (payload_step s) t bs)

      go : (x : Step Reading) → payload_step s r b ≡ x
          → ((t : Reading) → read_from (dcs_step s p) (within t) bs ≡ framed s p (read_from (payload_step s) t bs) bs)
          → read_from (dcs_step s p) (within r) (b ∷ bs) ≡ framed s p (follow x inner) (b ∷ bs)
      go (next t i) e later =
          read_as_lem (dcs_step s p) (within r) b bs (within-as r b e) ∙ ap (after 1 i) (later t)
          ∙ after-framed b i (read_from (payload_step s) t bs) bs
      go (halt t) e later = read_as_lem (dcs_step s p) (within r) b bs (within-as r b e) ∙ sym (after-zero _)
      go (refuse t n) e later = read_as_lem (dcs_step s p) (within r) b bs (within-as r b e)

-- ---- before the payload

module _ (s : Setting) (p : Palette) where
  -- where reading from a phase on leads: through some bytes, with no ink, into the payload; or it comes to its end before the payload
  abbrev pub Leads : Phase → List ℕ → Found → Type 0
  Leads t bs (found o part) =
      (n : ℕ) × (read_from (dcs_step s p) t bs ≡ after n 0 (read_from (dcs_step s p) (within (opened o p)) part)) × (drop n bs ≡ part)
  Leads t bs lacking = Before (read_from (dcs_step s p) t bs).state × ((read_from (dcs_step s p) t bs).how ≡ read_all)
  Leads t bs (refused_with n) = Before (read_from (dcs_step s p) t bs).state × ((read_from (dcs_step s p) t bs).how ≡ refused_by n)

  -- a byte of no ink before it
  leads-on : (t u : Phase) (b : ℕ) (bs : List ℕ) (f : Found) → dcs_step s p t b ≡ next u 0 → Leads u bs f → Leads t (b ∷ bs) f
  unfolding after follow
  leads-on t u b bs (found o part) e h = (
    1 + h.0,
    read_as_lem (dcs_step s p) t b bs e ∙ ap (after 1 0) h.1 ∙ sym (after-after 1 0 h.0 0 _),
    drop-one-more h.0 b bs ∙ h.2,
  )
  leads-on t u b bs lacking e h = (rw (read_as_lem (dcs_step s p) t b bs e) h.0, rw (read_as_lem (dcs_step s p) t b bs e) h.1)
  leads-on t u b bs (refused_with n) e h = (rw (read_as_lem (dcs_step s p) t b bs e) h.0, rw (read_as_lem (dcs_step s p) t b bs e) h.1)

  -- a byte that is refused
  leads-wrong : (t : Phase) (b : ℕ) (bs : List ℕ) (n : ℕ) → Before t → dcs_step s p t b ≡ refuse t n → Leads t (b ∷ bs) (refused_with n)
  unfolding follow still
  leads-wrong t b bs n h e = (rw (read_as_lem (dcs_step s p) t b bs e) h, rw (read_as_lem (dcs_step s p) t b bs e) refl)

  header-as : (got : List ℕ) (b : ℕ) {x : HeaderByte} → header_byte got b ≡ x
      → dcs_step s p (header got) b
      ≡ elim x as (λ _. Step Phase) [
        | goes_on more ↦ next (header more) 0
        | settles o ↦ next (within (opened o p)) 0
        | wrong n ↦ refuse (header got) n
      ]
  unfolding dcs_step header_step
  header-as got b e =
      ap
      (λ (x : HeaderByte).
      elim x as (λ _. Step Phase) [
        | goes_on more ↦ next (header more) 0
        | settles o ↦ next (within (opened o p)) 0
        | wrong n ↦ refuse (header got) n
      ])
      e

  -- a header leads where a one-shot goes from it
  header-leads : (got bs : List ℕ) → Leads (header got) bs (header_from got bs)
  unfolding header_from read_from still
  header-leads got [] = (tt, refl)
  header-leads got (b ∷ bs) = go (header_byte got b) refl (λ more. header-leads more bs)
    where
      go : (x : HeaderByte) → header_byte got b ≡ x → ((more : List ℕ) → Leads (header more) bs (header_from more bs))
          → Leads (header got) (b ∷ bs) (elim x [ goes_on more ↦ header_from more bs | settles o ↦ found o bs | wrong n ↦ refused_with n ])
      go (goes_on more) e later = leads-on (header got) (header more) b bs (header_from more bs) (header-as got b e) (later more)
      go (settles o) e later = (1, read_as_lem (dcs_step s p) (header got) b bs (header-as got b e), refl)
      go (wrong n) e later = leads-wrong (header got) b bs n tt (header-as got b e)

  introduced-leads : (bs : List ℕ) → Leads introduced bs (after_first_escape bs)
  unfolding after_first_escape read_from still dcs_step introduced_step
  introduced-leads [] = (tt, refl)
  introduced-leads (b ∷ bs) =
      cond-case (Leads introduced (b ∷ bs)) (eqb b 0x50)
      (λ e. leads-on introduced (header []) b bs (header_from [] bs) (rw e) (header-leads [] bs))
      (λ e. leads-wrong introduced b bs 1 tt (rw e))

  -- a sequence leads where its introducer and header say
  pub sequence-leads : (bs : List ℕ) → Leads start bs (sequence_payload bs)
  unfolding sequence_payload read_from still dcs_step start_step
  sequence-leads [] = (tt, refl)
  sequence-leads (b ∷ bs) =
      cond-case (Leads start (b ∷ bs)) (eqb b 0x1B)
      (λ e. leads-on start introduced b bs (after_first_escape bs) (rw e) (introduced-leads bs))
      λ e. cond-case (Leads start (b ∷ bs)) (eqb b 0x90)
      (λ f. leads-on start (header []) b bs (header_from [] bs) (rw (e, f)) (header-leads [] bs))
      (λ f. leads-wrong start b bs 1 tt (rw (e, f)))

-- ---- the end

-- the reading of a payload that has ended is kept
abbrev Kept : Reading → Phase → Type 0
Kept t start = ⊥
Kept t introduced = ⊥
Kept t (header bs) = ⊥
Kept t (within r) = r ≡ t
Kept t (after_escape r) = r ≡ t
Kept t (over e r) = r ≡ t

-- it is kept by a run that is not refused and has no ink
record Closes (t : Reading) (x : Run Phase) : Type 0 where
  kept : Kept t x.state
  fine : is_refused x.how ≡ false
  dry : x.ink ≡ 0

module _ (s : Setting) (p : Palette) (t : Reading) where
  over-closes : (e : End) (bs : List ℕ) → Closes t (read_from (dcs_step s p) (over e t) bs)
  unfolding read_from dcs_step still follow is_refused
  over-closes e [] = record { kept = refl; fine = refl; dry = refl }
  over-closes e (b ∷ bs) = record { kept = refl; fine = refl; dry = refl }

  -- a byte of no ink before it
  closes-on : (x : Run Phase) → Closes t x → Closes t (after 1 0 x)
  unfolding after
  closes-on x h = record { kept = h.kept; fine = h.fine; dry = omega (arith, h.dry) }

  escape-closes : (bs : List ℕ) → Closes t (read_from (dcs_step s p) (after_escape t) bs)
  unfolding read_from dcs_step escape_step still follow is_refused
  escape-closes [] = record { kept = refl; fine = refl; dry = refl }
  escape-closes (b ∷ bs) =
      cond-case (λ (x : Step Phase). Closes t (follow x (λ u i. after 1 i (read_from (dcs_step s p) u bs)))) (eqb b 0x5C)
      (λ _. closes-on _ (over-closes _ bs))
      (λ _. record { kept = refl; fine = refl; dry = refl })

  end-closes : (bs : List ℕ) → Closes t (read_end s p t bs)
  unfolding read_end end_step still follow is_refused
  end-closes [] = record { kept = refl; fine = refl; dry = refl }
  end-closes (b ∷ bs) =
      cond-case Good (eqb b 0x1B) (λ _. closes-on _ (escape-closes bs))
      λ _. cond-case Good (eqb b 0x9C) (λ _. closes-on _ (over-closes _ bs))
      λ _.
      cond-case Good (eqb b 0x18 || eqb b 0x1A)
      (λ _. closes-on _ (over-closes _ bs))
      (λ _. record { kept = refl; fine = refl; dry = refl })
    where
      Good : Step Phase → Type 0
      Good x = Closes t (follow x (λ u i. after 1 i (read_from (dcs_step s p) u bs)))

-- at an end the phase is the end's, with that reading
kept-over : (t : Reading) (u : Phase) {e : End} → Kept t u → dcs_end u ≡ some e → u ≡ over e t
unfolding dcs_end
kept-over t start h q = absurd h
kept-over t introduced h q = absurd h
kept-over t (header bs) h q = absurd h
kept-over t (within r) h q = cc
kept-over t (after_escape r) h q = cc
kept-over t (over f r) h q = cc

-- and the drawing is that reading's
kept-settled : (s : Setting) (t : Reading) (u : Phase) → Kept t u → drawing_settled s u ≡ some (settled s t).drawing
unfolding drawing_settled
kept-settled s t start h = absurd h
kept-settled s t introduced h = absurd h
kept-settled s t (header bs) h = absurd h
kept-settled s t (within r) h = ap (λ (x : Reading). some (settled s x).drawing) h
kept-settled s t (after_escape r) h = ap (λ (x : Reading). some (settled s x).drawing) h
kept-settled s t (over e r) h = ap (λ (x : Reading). some (settled s x).drawing) h

-- an end is not none
pub no_end : {e : End} → none ≡ some e → ⊥
no_end z = let never : ◌≡◌ {A = ℕ} 0 1 = cc in omega arith

-- before the payload there is no end
pub before-open : (t : Phase) → Before t → dcs_end t ≡ none
unfolding dcs_end
before-open start h = refl
before-open introduced h = refl
before-open (header bs) h = refl
before-open (within r) h = absurd h
before-open (after_escape r) h = absurd h
before-open (over e r) h = absurd h

module _ (s : Setting) (p : Palette) (q : Run Reading) (bs : List ℕ) where
  -- the payload's run, had it come to its end so
  ran_to : How → Run Reading
  ran_to h = record { state = q.state; consumed = q.consumed; ink = q.ink; how = h }

  -- a refusal within the payload is the payload's
  pub framed-refused : {n : ℕ} → (framed s p q bs).how ≡ refused_by n → q.how ≡ refused_by n
  unfolding framed in_payload ran_to after is_refused
  framed-refused {n} = go q.how
    where
      go : (h : How) → (framed s p (ran_to h) bs).how ≡ refused_by n → h ≡ refused_by n
      go read_all e = e
      go stopped e = e
      go halted e = absurd (true≢false (sym (ap is_refused e) ∙ (end-closes s p q.state (drop q.consumed bs)).fine))
      go (refused_by m) e = e

  -- and such a run is the payload's
  pub framed-in : {n : ℕ} → q.how ≡ refused_by n → framed s p q bs ≡ in_payload q
  unfolding framed in_payload ran_to
  framed-in = go q.how
    where
      go : (h : How) {n : ℕ} → h ≡ refused_by n → framed s p (ran_to h) bs ≡ in_payload (ran_to h)
      go read_all e = refl
      go stopped e = refl
      go halted e = cc
      go (refused_by m) e = refl

  -- at an end the payload has come to its end, and its reading is the one there
  pub framed-over : {e : End} → dcs_end (framed s p q bs).state ≡ some e → (q.how ≡ halted) × ((framed s p q bs).state ≡ over e q.state)
  unfolding framed in_payload ran_to after dcs_end
  framed-over {e} = go q.how
    where
      go : (h : How) → dcs_end (framed s p (ran_to h) bs).state ≡ some e
          → (h ≡ halted) × ((framed s p (ran_to h) bs).state ≡ over e q.state)
      go read_all z = absurd (no_end z)
      go stopped z = absurd (no_end z)
      go halted z = (refl, kept-over q.state _ (end-closes s p q.state (drop q.consumed bs)).kept z)
      go (refused_by m) z = absurd (no_end z)

  -- where it is not refused, its drawing is the payload's, with the pending command carried out
  pub framed-settled : is_refused (framed s p q bs).how ≡ false
      → (is_refused q.how ≡ false) × (drawing_settled s (framed s p q bs).state ≡ some (settled s q.state).drawing)
  unfolding framed in_payload ran_to after is_refused drawing_settled
  framed-settled = go q.how
    where
      go : (h : How) → is_refused (framed s p (ran_to h) bs).how ≡ false
          → (is_refused h ≡ false) × (drawing_settled s (framed s p (ran_to h) bs).state ≡ some (settled s q.state).drawing)
      go read_all fine = (refl, refl)
      go stopped fine = (refl, refl)
      go halted fine =
          let left = drop q.consumed bs in
          (refl, kept-settled s q.state (read_end s p q.state left).state (end-closes s p q.state left).kept)
      go (refused_by n) fine = absurd (true≢false fine)

  -- the ink is the payload's
  pub framed-ink : (framed s p q bs).ink ≡ q.ink
  unfolding framed in_payload ran_to after
  framed-ink = go q.how
    where
      go : (h : How) → (framed s p (ran_to h) bs).ink ≡ q.ink
      go read_all = refl
      go stopped = refl
      go halted = omega (arith, (end-closes s p q.state (drop q.consumed bs)).dry)
      go (refused_by m) = refl

-- ---- the one-shot's payload is the sequence's

-- where the sequence has a payload, or its header is refused, a one-shot finds the same
abbrev pub Agrees : List ℕ → Found → Type 0
Agrees bs (found o part) = find_payload bs ≡ found o part
Agrees bs lacking = Unit {0}
Agrees bs (refused_with n) = 2 ≤ n → find_payload bs ≡ refused_with n

agrees-found : (bs : List ℕ) (f : Found) → find_payload bs ≡ f → Agrees bs f
agrees-found bs (found o part) e = e
agrees-found bs lacking e = tt
agrees-found bs (refused_with n) e = λ _. e

-- after the introducer a one-shot reads the header
pub introducer-found : {i : List ℕ} → Introducer i → (later : List ℕ) → find_payload (i ++ later) ≡ header_from [] later
unfolding find_payload
introducer-found c1 later = refl
introducer-found escaped later = refl

-- and so does a sequence
pub introducer-sequence : {i : List ℕ} → Introducer i → (later : List ℕ) → sequence_payload (i ++ later) ≡ header_from [] later
unfolding sequence_payload
introducer-sequence c1 later = refl
introducer-sequence escaped later = refl

escaped-agrees : (b : ℕ) (bs : List ℕ) → eqb b 0x1B ≡ true → Agrees (b ∷ bs) (after_first_escape bs)
unfolding after_first_escape
escaped-agrees b [] e = tt
escaped-agrees b (c ∷ bs) e =
    cond-case (Agrees (b ∷ c ∷ bs)) (eqb c 0x50)
    (λ f. agrees-found (b ∷ c ∷ bs) (header_from [] bs) (rw (eqb-true b 0x1B e, eqb-true c 0x50 f) (introducer-found escaped bs)))
    (λ _ low. absurd (omega arith))

-- so it is for every sequence
pub sequence-agrees : (bs : List ℕ) → Agrees bs (sequence_payload bs)
unfolding sequence_payload
sequence-agrees [] = tt
sequence-agrees (b ∷ bs) =
    cond-case (Agrees (b ∷ bs)) (eqb b 0x1B) (escaped-agrees b bs)
    λ _. cond-case (Agrees (b ∷ bs)) (eqb b 0x90)
    (λ f. agrees-found (b ∷ bs) (header_from [] bs) (rw (eqb-true b 0x90 f) (introducer-found c1 bs)))
    (λ _ low. absurd (omega arith))
