-- The same bytes on a larger canvas: whatever they lay on the smaller one they lay on the larger one too, at the same columns and rows, and may go on.
-- Assumes nothing.
use Rattle.std.specs.Prelude.{◌≡◌, ℕ, ◌+◌, ◌-◌, ◌≤◌, eqb, List, [], ◌∷◌, ◌++◌}
use mathlib.Core.Path.{refl}
use native.Mathlib.Omega.{arith}
use Rattle.colours.specs.declared.Palette.{Palette}
use Rattle.frame.specs.declared.Frame.{Frame}
use Rattle.frame.specs.declared.Ground.{Ground}
use Rattle.frame.specs.declared.Outcome.{Outcome}
use Rattle.frame.specs.declared.Outcome.TheVariants as outcomes
use Rattle.frame.specs.declared.Progress.{Progress}
use Rattle.reference.specs.Step.{Reached, step_of}
use Rattle.reference.specs.Feed.{then_data, byte_step, reached_as, go_on, feed_from}
use Rattle.moving.proofs.Paints.{Paint, Paints, leads-paints}
use Rattle.moving.proofs.Grows.{Grows, reached, grows-still, grows_then, grows-cond}
use Rattle.moving.proofs.LargerStep.{sided, data-grows, step-grows}

module _ (g : Ground) (stride' rows' : ℕ) (wider : g.stride ≤ stride') (taller : g.rows ≤ rows') where
  -- ---- any byte

  -- the byte that ended a command is read itself
  then_grows : (o : Outcome) (r : Progress) (q : Palette) (b left left' : ℕ) → left ≤ left'
      → Grows g.stride stride' (λ l. then_data o (reached r q l) g b left) (λ l. then_data o (reached r q l) (sided g stride' rows') b left')
  unfolding then_data
  then_grows outcomes.Read r q b left left' more =
      grows-cond g.stride stride' (eqb r.consumed 0)
      (λ t. data-grows g stride' rows' wider taller r.frame b left left' q more)
      (λ t. grows-still g.stride stride' r q)
  then_grows outcomes.Stopped r q b left left' more = grows-still g.stride stride' r q
  then_grows (outcomes.Ended e) r q b left left' more = grows-still g.stride stride' r q
  then_grows (outcomes.Refused n) r q b left left' more = grows-still g.stride stride' r q

  -- after the end of reading no byte is read
  then-none : (o : Outcome) (t : Reached) (b left : ℕ) → (o ≡ outcomes.Read → ⊥) → then_data o t g b left ≡ t
  unfolding then_data
  then-none outcomes.Read t b left unread = absurd (unread refl)
  then-none outcomes.Stopped t b left unread = refl
  then-none (outcomes.Ended e) t b left unread = refl
  then-none (outcomes.Refused n) t b left unread = refl

  -- a byte, with the command that it may end
  byte-grows : (f : Frame) (b left left' : ℕ) (p : Palette) → left ≤ left'
      → Grows g.stride stride' (byte_step f g b left p) (byte_step f (sided g stride' rows') b left' p)
  unfolding byte_step step_of
  byte-grows f b left left' p more =
      grows_then g.stride stride'
      (step_of f g b left p) (step_of f (sided g stride' rows') b left' p)
      (λ t. then_data t.progress.outcome t g b left) (λ t. then_data t.progress.outcome t (sided g stride' rows') b left')
      (step-grows g stride' rows' wider taller f.command.kind f b left left' p more)
      (λ r q. then_grows r.outcome r q b left left' more)
      (λ r q unread. record { progress = r; palette = q; unread = unread; same = λ l. then-none r.outcome (reached r q l) b left unread })

  -- ---- bytes

  -- the later bytes, or none where the reading has ended
  on-grows : (o : Outcome) (r : Progress) (q : Palette) (n i : ℕ) (later later' : ℕ → ℕ → Frame → Palette → List ℕ → Reached)
      → ((n i : ℕ) (f : Frame) (p : Palette) → Grows g.stride stride' (later n i f p) (later' n i f p))
      → Grows g.stride stride' (λ l. go_on o (reached r q l) n i later) (λ l. go_on o (reached r q l) n i later')
  unfolding go_on reached_as
  on-grows outcomes.Read r q n i later later' e = e (n + 1) (i + r.ink) r.frame q
  on-grows outcomes.Stopped r q n i later later' e = grows-still g.stride stride' _ q
  on-grows (outcomes.Ended b) r q n i later later' e = grows-still g.stride stride' _ q
  on-grows (outcomes.Refused m) r q n i later later' e = grows-still g.stride stride' _ q

  -- after the end of reading no later byte is read
  on_none : (o : Outcome) (t : Reached) (n i : ℕ) (later : ℕ → ℕ → Frame → Palette → List ℕ → Reached) → (o ≡ outcomes.Read → ⊥)
      → go_on o t n i later ≡ reached_as t.progress.frame n i o t.palette t.canvas
  unfolding go_on
  on_none outcomes.Read t n i later unread = absurd (unread refl)
  on_none outcomes.Stopped t n i later unread = refl
  on_none (outcomes.Ended b) t n i later unread = refl
  on_none (outcomes.Refused m) t n i later unread = refl

  -- bytes one after the other
  pub bytes-grow : (a a' : ℕ) → a ≤ a' → (bs : List ℕ) (n i : ℕ) (f : Frame) (p : Palette)
      → Grows g.stride stride' (feed_from g a bs n i f p) (feed_from (sided g stride' rows') a' bs n i f p)
  unfolding feed_from reached_as
  bytes-grow a a' more [] n i f p = grows-still g.stride stride' _ p
  bytes-grow a a' more (b ∷ bs) n i f p =
      let left : a - i ≤ a' - i = omega arith in
      grows_then g.stride stride'
      (byte_step f g b (a - i) p) (byte_step f (sided g stride' rows') b (a' - i) p)
      (λ t. go_on t.progress.outcome t n i (feed_from g a bs))
      (λ t. go_on t.progress.outcome t n i (feed_from (sided g stride' rows') a' bs))
      (byte-grows f b (a - i) (a' - i) p left)
      (λ r q. on-grows r.outcome r q n i (feed_from g a bs) (feed_from (sided g stride' rows') a' bs) (bytes-grow a a' more bs))
      (λ r q unread.
      record {
        progress = record { frame = r.frame; consumed = n; ink = i; outcome = r.outcome };
        palette = q;
        unread = unread;
        same = λ l. on_none r.outcome (reached r q l) n i (feed_from g a bs) unread;
      })

  -- what a feed lays on a canvas, one with at least the allowance lays first on one with at least its sides
  pub feed-grows : (a a' : ℕ) → a ≤ a' → (bs : List ℕ) (n i : ℕ) (f : Frame) (p : Palette)
      → (plan : List Paint) × (more : List Paint)
      × Paints g.stride plan (feed_from g a bs n i f p)
      × Paints stride' (plan ++ more) (feed_from (sided g stride' rows') a' bs n i f p)
  feed-grows a a' enough bs n i f p =
      let e = bytes-grow a a' enough bs n i f p in (
        e.plan,
        e.more,
        leads-paints g.stride e.plan (feed_from g a bs n i f p) e.here,
        leads-paints stride' (e.plan ++ e.more) (feed_from (sided g stride' rows') a' bs n i f p) e.there,
      )

-- what a feed does to any canvas: it lays the same paints on each, and answers the same
pub feed-paints : (g : Ground) (a : ℕ) (bs : List ℕ) (n i : ℕ) (f : Frame) (p : Palette)
    → (plan : List Paint) × Paints g.stride plan (feed_from g a bs n i f p)
feed-paints g a bs n i f p =
    let e = feed-grows g g.stride g.rows (omega arith) (omega arith) a a (omega arith) bs n i f p in (e.0, e.2)
