-- Bytes one after the other come to the same in the code and in the definition.
use Prim.Native.Nat.{ℕ, ◌+◌, ◌-◌, ◌≤◌}
use native.Mathlib.Nat.{add-zero}
use native.Mathlib.Omega.{arith}
use mathlib.Core.Path.{◌≡◌, refl, sym, ◌∙◌, subst}
use mathlib.Core.Bool.{cond}
use mathlib.Core.Option.{none, some}
use mathlib.Core.List.{List, [], ◌∷◌}
use borrow.Author.Tests.{le-leb, lt-leb}
use lib.Dec.{leb}
use Rattle.colours.specs.declared.Palette.{Palette}
use Rattle.frame.specs.declared.Frame.{Frame}
use Rattle.frame.specs.declared.Ground.{Ground}
use Rattle.frame.specs.declared.Outcome.{Outcome}
use Rattle.frame.specs.declared.Outcome.TheVariants as outcomes
use Rattle.frame.specs.declared.Refusal.{Refusal}
use Rattle.frame.specs.Numbers.{number_of}
use Rattle.reference.specs.Step.{Reached}
use Rattle.reference.specs.Feed.{go_on, feed_from}
use Rattle.meaning.specs.Drawing.{Setting}
use Rattle.meaning.specs.Reader.{Step, next, How, read_all, stopped, halted, refused_by, Run, still, after, follow, call}
use Rattle.meaning.specs.Sessions.{Reading, rested, payload_step}
use Rattle.agreement.specs.Same.{SameDrawing, Same}
use Rattle.agreement.proofs.Data.{Agrees, reads, stops, halts, refuses}
use Rattle.agreement.proofs.Bytes.{byte-agrees}

-- the two stand for each other where reading came to
abbrev pub SameReached : Setting → List ℕ → Reading → Ground → Reached → Type 0
SameReached s opening r g t = Same s opening r g t.progress.frame t.palette t.canvas

-- how reading came to its end, in the definition and in the code
pub data EndsAlike (s : Setting) (opening : List ℕ) (g : Ground) : How → Reading → Reached → Type 0 where
  all_read : {u : Reading} {t : Reached} → u.over ≡ none → t.progress.outcome ≡ outcomes.Read → SameReached s opening u g t
      → EndsAlike s opening g read_all u t
  stopped_early : {u : Reading} {t : Reached} → u.over ≡ none → t.progress.outcome ≡ outcomes.Stopped → SameReached s opening u g t
      → EndsAlike s opening g stopped u t
  at_end : {u : Reading} {t : Reached} (b : ℕ) → u.over ≡ some b → t.progress.outcome ≡ outcomes.Ended b → SameReached s opening u g t
      → EndsAlike s opening g halted u t
  turned_down : {u : Reading} {n : ℕ} {t : Reached} (why : Refusal) → number_of why ≡ n → t.progress.outcome ≡ outcomes.Refused why
      → SameDrawing s opening u.drawing g t.progress.frame t.palette t.canvas → EndsAlike s opening g (refused_by n) u t

-- after so many bytes and so much ink, a run of the definition and where the code came to
pub record FeedAgrees (s : Setting) (opening : List ℕ) (g : Ground) (n i : ℕ) (r : Run Reading) (t : Reached) : Type 0 where
  pub consumed : t.progress.consumed ≡ n + r.consumed
  pub ink : t.progress.ink ≡ i + r.ink
  pub ends : EndsAlike s opening g r.how r.state t

-- nothing was read
still-agrees : {s : Setting} {opening : List ℕ} {g : Ground} {n i : ℕ} {u : Reading} {how : How} {t : Reached} → t.progress.consumed ≡ n
    → t.progress.ink ≡ i → EndsAlike s opening g how u t → FeedAgrees s opening g n i (still u how) t
unfolding still
still-agrees p q e = record { consumed = p ∙ sym (add-zero _); ink = q ∙ sym (add-zero _); ends = e }

-- a run after a byte, counted on
after-agrees : {s : Setting} {opening : List ℕ} {g : Ground} {n i : ℕ} {r : Run Reading} {t : Reached} (j : ℕ)
    → FeedAgrees s opening g (n + 1) (i + j) r t → FeedAgrees s opening g n i (after 1 j r) t
unfolding after
after-agrees {n = n} {i} {r} j h =
    let bytes : n + 1 + r.consumed ≡ n + (1 + r.consumed) = omega arith in
    let ink : i + j + r.ink ≡ i + (j + r.ink) = omega arith in
    record { consumed = h.consumed ∙ bytes; ink = h.ink ∙ ink; ends = h.ends }

-- a call of the definition with what is left
abbrev call_of : Setting → ℕ → Reading → List ℕ → Run Reading
call_of s left r bs = call (payload_step s) (rested s) left r bs

module _ (s : Setting) (opening : List ℕ) (g : Ground) (a : ℕ) where
  -- the later bytes agree, from any state on
  abbrev Later : List ℕ → Type 0
  Later bs = (n i : ℕ) (r : Reading) (f : Frame) (p : Palette) (l : List ℕ) → i ≤ a → Same s opening r g f p l → r.over ≡ none
      → FeedAgrees s opening g n i (call_of s (a - i) r bs) (feed_from g a bs n i f p l)

  module _ (n i b : ℕ) (r : Reading) (bs : List ℕ) (within : i ≤ a) (going : r.over ≡ none) (later : Later bs) where
    -- the definition's run and the code's from a byte on
    follows : Step Reading → Run Reading
    unfolding follow
    follows x = follow x (λ u j. cond (leb j (a - i)) (after 1 j (call_of s (a - i - j) u bs)) (still (rested s r) stopped))

    goes_on : Outcome → Reached → Reached
    unfolding go_on
    goes_on o t = go_on o t n i (λ n' i' f' p' l'. feed_from g a bs n' i' f' p' l')

    -- the byte was read
    reads-agree : {u : Reading} {j : ℕ} (t : Reached) → j ≤ a - i → u.over ≡ none → t.progress.ink ≡ j
        → Same s opening u g t.progress.frame t.palette t.canvas → FeedAgrees s opening g n i (follows (next u j)) (goes_on outcomes.Read t)
    unfolding follows goes_on
    reads-agree {u} {j} t h over ink same =
        let rest : a - (i + j) ≡ a - i - j = omega arith in
        let here : FeedAgrees s opening g (n + 1) (i + j) (call_of s (a - (i + j)) u bs) (goes_on outcomes.Read t) =
        subst
        (λ (k : ℕ). FeedAgrees s opening g (n + 1) (i + j) (call_of s (a - (i + j)) u bs)
        (feed_from g a bs (n + 1) (i + k) t.progress.frame t.palette t.canvas))
        (sym ink)
        (later (n + 1) (i + j) u t.progress.frame t.palette t.canvas (omega arith) same over) in
        rw (le-leb j (a - i) h)
        (after-agrees j (subst (λ (k : ℕ). FeedAgrees s opening g (n + 1) (i + j) (call_of s k u bs) (goes_on outcomes.Read t)) rest here))

    byte-feeds : {x : Step Reading} {t : Reached} → Agrees s opening r g b (a - i) x t
        → FeedAgrees s opening g n i (follows x) (goes_on t.progress.outcome t)
    unfolding follows goes_on rested
    byte-feeds {x} {t} agrees = go agrees
      where
        known : {run : Run Reading} {o : Outcome} → t.progress.outcome ≡ o → FeedAgrees s opening g n i run (goes_on o t)
            → FeedAgrees s opening g n i run (goes_on t.progress.outcome t)
        known {run} e = subst (λ (o : Outcome). FeedAgrees s opening g n i run (goes_on o t)) (sym e)

        go : {x : Step Reading} → Agrees s opening r g b (a - i) x t → FeedAgrees s opening g n i (follows x) (goes_on t.progress.outcome t)
        go (reads h over e one ink same) = known e (reads-agree t h over ink same)
        go (stops {i = j} h e same) = known e (rw (lt-leb j (a - i) h) (still-agrees refl refl (stopped_early going refl same)))
        go (halts over e same) = known e (still-agrees refl refl (at_end b over refl same))
        go (refuses why m e same) = known e (still-agrees refl refl (turned_down why m refl same))

  feeds : (bs : List ℕ) → Later bs
  unfolding call feed_from follows goes_on
  feeds [] n i r f p l within same going = still-agrees refl refl (all_read going refl same)
  feeds (b ∷ bs) n i r f p l within same going = byte-feeds n i b r bs within going (feeds bs) (byte-agrees same going b (a - i))

-- a feed of the code is a call of the definition, after `n` bytes and ink `i` of the allowance
pub feed-agrees : {s : Setting} {opening : List ℕ} {r : Reading} {g : Ground} {f : Frame} {p : Palette} {l : List ℕ} (a : ℕ) (bs : List ℕ) (n i : ℕ)
    → i ≤ a → Same s opening r g f p l → r.over ≡ none
    → FeedAgrees s opening g n i (call (payload_step s) (rested s) (a - i) r bs) (feed_from g a bs n i f p l)
feed-agrees {s} {opening} {r} {g} {f} {p} {l} a bs n i = feeds s opening g a bs n i r f p l

-- a whole call: its counts are the code's
pub feed-call : {s : Setting} {opening : List ℕ} {r : Reading} {g : Ground} {f : Frame} {p : Palette} {l : List ℕ} (a : ℕ) (bs : List ℕ)
    → Same s opening r g f p l → r.over ≡ none → FeedAgrees s opening g 0 0 (call (payload_step s) (rested s) a r bs) (feed_from g a bs 0 0 f p l)
feed-call {s} {opening} {r} {g} {f} {p} {l} a bs same going =
    let all : a - 0 ≡ a = omega arith in
    subst (λ (left : ℕ). FeedAgrees s opening g 0 0 (call (payload_step s) (rested s) left r bs) (feed_from g a bs 0 0 f p l)) all
    (feed-agrees a bs 0 0 (omega arith) same going)
