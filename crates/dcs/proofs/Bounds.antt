-- No call of a payload session consumes more bytes than it has.
use Rattle.std.specs.Prelude.{ℕ, suc, ◌+◌, ◌-◌, ◌≤◌, List, [], ◌∷◌, length, Ok, Err}
use native.Mathlib.Omega.{arith}
use Rattle.colours.specs.declared.Palette.{Palette}
use Rattle.frame.specs.declared.Frame.{Frame}
use Rattle.frame.specs.declared.Ground.{Ground}
use Rattle.frame.specs.declared.Outcome.{Outcome}
use Rattle.frame.specs.declared.Outcome.TheVariants as outcomes
use Rattle.frame.specs.declared.Progress.{Progress}
use Rattle.reference.specs.Step.{Reached}
use Rattle.reference.specs.Feed.{byte_step, reached_as, go_on, feed_from}
use Rattle.payload.specs.Results.{Answer, Verdict}
use Rattle.payload.specs.declared.Answer.TheVariants as answers
use Rattle.payload.specs.declared.Life.{Life}
use Rattle.payload.specs.declared.Life.TheVariants as lives
use Rattle.payload.specs.declared.Session.{Session}
use Rattle.payload.specs.Refusals.{feed_judged}
use Rattle.payload.specs.Session.{answered_in, answered_by, fed_live, fed_in, fed_as, fed_by}

go_bound : (o : Outcome) (t : Reached) (n i m : ℕ) (later : ℕ → ℕ → Frame → Palette → List ℕ → Reached)
    → ((i : ℕ) (f : Frame) (p : Palette) (l : List ℕ) → (later (n + 1) i f p l).progress.consumed ≤ n + 1 + m)
    → (go_on o t n i later).progress.consumed ≤ n + suc m
unfolding go_on reached_as
go_bound outcomes.Read t n i m later k = omega (arith, k (i + t.progress.ink) t.progress.frame t.palette t.canvas)
go_bound outcomes.Stopped t n i m later k = omega arith
go_bound (outcomes.Ended b) t n i m later k = omega arith
go_bound (outcomes.Refused r) t n i m later k = omega arith

reached-bound : (g : Ground) (allowance : ℕ) (bs : List ℕ) (n i : ℕ) (f : Frame) (p : Palette) (l : List ℕ)
    → (feed_from g allowance bs n i f p l).progress.consumed ≤ n + length bs
unfolding feed_from reached_as
reached-bound g allowance [] n i f p l = omega arith
reached-bound g allowance (b ∷ bs) n i f p l =
    go_bound (byte_step f g b (allowance - i) p l).progress.outcome (byte_step f g b (allowance - i) p l) n i (length bs)
    (λ n' i' f' p' l'. feed_from g allowance bs n' i' f' p' l') (λ i' f' p' l'. reached-bound g allowance bs (n + 1) i' f' p' l')

-- an answer's count is at most this
abbrev pub AtMost : ℕ → Answer → Type 0
AtMost m (Ok (answers.More c i)) = c ≤ m
AtMost m (Ok (answers.Stopped c i)) = c ≤ m
AtMost m (Ok (answers.Ended c i b)) = c ≤ m
AtMost m (Err r) = Unit

answered-bound : (m : ℕ) (o : Outcome) (s : Session) (r : Progress) (p : Palette) → r.consumed ≤ m → AtMost m (answered_in o s r p).answer
unfolding answered_in
answered-bound m outcomes.Read s r p h = h
answered-bound m outcomes.Stopped s r p h = h
answered-bound m (outcomes.Ended b) s r p h = h
answered-bound m (outcomes.Refused n) s r p h = tt

module _ (s : Session) (canvas bs : List ℕ) (allowance : ℕ) where
  live-bound : AtMost (length bs) (fed_live s canvas bs allowance).0.answer
  unfolding fed_live answered_by
  live-bound =
      let r : Reached = feed_from s.ground allowance bs 0 0 s.frame s.palette canvas in
      answered-bound (length bs) r.progress.outcome s r.progress r.palette
      (omega (arith, reached-bound s.ground allowance bs 0 0 s.frame s.palette canvas))

  in-bound : (k : Life) → AtMost (length bs) (fed_in k s canvas bs allowance).0.answer
  unfolding fed_in
  in-bound lives.Live = live-bound
  in-bound (lives.Ended b) = omega arith
  in-bound lives.Failed = live-bound

  as-bound : (j : Verdict) → AtMost (length bs) (fed_as j s canvas bs allowance).0.answer
  unfolding fed_as
  as-bound (Ok tt) = in-bound s.life
  as-bound (Err n) = tt

  pub fed-bound : AtMost (length bs) (fed_by s canvas bs allowance).0.answer
  unfolding fed_by
  fed-bound = as-bound (feed_judged s (length canvas) allowance)
