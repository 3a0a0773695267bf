-- One step on two canvases of different strides: what the first lays, the second lays first, and may go on.
-- Assumes nothing.
use Rattle.std.specs.Prelude.{◌≡◌, ℕ, Bool, true, false, cond, List, [], ◌++◌}
use mathlib.Core.List.{append-nil, append_assoc}
use mathlib.Core.Path.{refl, sym, ap, ◌∙◌}
use native.Mathlib.Omega.{arith}
use Rattle.colours.specs.declared.Palette.{Palette}
use Rattle.frame.specs.declared.Outcome.{Outcome}
use Rattle.frame.specs.declared.Outcome.TheVariants as outcomes
use Rattle.frame.specs.declared.Progress.{Progress}
use Rattle.reference.specs.Step.{Reached}
use Rattle.moving.proofs.Paints.{Paint, Leads, laid, laid-append}

-- where a step led
abbrev pub reached : Progress → Palette → List ℕ → Reached
reached r q l = record { progress = r; palette = q; canvas = l }

-- what is done on a canvas, and on one of another stride: all paints of the first are the second's first ones, and where reading goes on all is the same
pub record Grows (stride stride' : ℕ) (F F' : List ℕ → Reached) : Type 0 where
  pub progress : Progress
  pub palette : Palette
  pub plan : List Paint
  pub here : Leads stride plan progress palette F
  pub onward : progress.outcome ≡ outcomes.Read → Leads stride' plan progress palette F'
  pub progress' : Progress
  pub palette' : Palette
  pub more : List Paint
  pub there : Leads stride' (plan ++ more) progress' palette' F'

-- the reading ends and no pixel is painted
pub record Stops (F : List ℕ → Reached) : Type 0 where
  pub progress : Progress
  pub palette : Palette
  pub unread : progress.outcome ≡ outcomes.Read → ⊥
  pub same : (l : List ℕ) → F l ≡ reached progress palette l

module _ (stride stride' : ℕ) where
  -- the same on both
  pub grows_same : {F F' : List ℕ → Reached} {r : Progress} {q : Palette} (plan : List Paint)
      → Leads stride plan r q F → Leads stride' plan r q F' → Grows stride stride' F F'
  grows_same {r = r} {q = q} plan e k =
      record {
        progress = r;
        palette = q;
        plan = plan;
        here = e;
        onward = λ o. k;
        progress' = r;
        palette' = q;
        more = [];
        there = λ l. rw append-nil (k l);
      }

  -- no pixel on either
  pub grows-still : (r : Progress) (q : Palette) → Grows stride stride' (reached r q) (reached r q)
  unfolding laid
  grows-still r q = grows_same [] (λ l. refl) (λ l. refl)

  -- the end of reading on the one, and on the other what some other step also leads to
  pub grows-stops : {F G F' : List ℕ → Reached} → Stops F → Grows stride stride' G F' → Grows stride stride' F F'
  unfolding laid
  grows-stops s e =
      record {
        progress = s.progress;
        palette = s.palette;
        plan = [];
        here = s.same;
        onward = λ o. absurd (s.unread o);
        progress' = e.progress';
        palette' = e.palette';
        more = e.plan ++ e.more;
        there = e.there;
      }

  -- by whether the reading goes on
  by-reading : {P : Type 0} (o : Outcome) → (o ≡ outcomes.Read → P) → ((o ≡ outcomes.Read → ⊥) → P) → P
  by-reading outcomes.Read f g = f refl
  by-reading outcomes.Stopped f g = g (λ e. let z : ◌≡◌ {A = ℕ} 0 1 = cc in omega arith)
  by-reading (outcomes.Ended b) f g = g (λ e. let z : ◌≡◌ {A = ℕ} 0 1 = cc in omega arith)
  by-reading (outcomes.Refused r) f g = g (λ e. let z : ◌≡◌ {A = ℕ} 0 1 = cc in omega arith)

  -- one step and then another, which has no part where the first ends the reading
  pub grows_then : (F F' : List ℕ → Reached) (K K' : Reached → Reached) → Grows stride stride' F F'
      → ((r : Progress) (q : Palette) → Grows stride stride' (λ l. K (reached r q l)) (λ l. K' (reached r q l)))
      → ((r : Progress) (q : Palette) → (r.outcome ≡ outcomes.Read → ⊥) → Stops (λ l. K (reached r q l)))
      → Grows stride stride' (λ l. K (F l)) (λ l. K' (F' l))
  grows_then F F' K K' e next stops =
      by-reading e.progress.outcome
      (λ o.
      let k = next e.progress e.palette in
      record {
        progress = k.progress;
        palette = k.palette;
        plan = e.plan ++ k.plan;
        here = λ l.
            ap K (e.here l)
            ∙ k.here (laid stride e.plan l)
            ∙ ap (reached k.progress k.palette) (sym (laid-append stride e.plan k.plan l));
        onward = λ p l.
            ap K' (e.onward o l)
            ∙ k.onward p (laid stride' e.plan l)
            ∙ ap (reached k.progress k.palette) (sym (laid-append stride' e.plan k.plan l));
        progress' = k.progress';
        palette' = k.palette';
        more = k.more;
        there = λ l.
            ap K' (e.onward o l)
            ∙ k.there (laid stride' e.plan l)
            ∙ ap (reached k.progress' k.palette')
            (sym (laid-append stride' e.plan (k.plan ++ k.more) l)
            ∙ ap (λ (plan : List Paint). laid stride' plan l) (sym (append_assoc e.plan k.plan k.more)));
      })
      (λ o.
      let s = stops e.progress e.palette o in
      let k = next e.progress' e.palette' in
      record {
        progress = s.progress;
        palette = s.palette;
        plan = e.plan;
        here = λ l. ap K (e.here l) ∙ s.same (laid stride e.plan l);
        onward = λ p. absurd (s.unread p);
        progress' = k.progress';
        palette' = k.palette';
        more = e.more ++ (k.plan ++ k.more);
        there = λ l.
            ap K' (e.there l)
            ∙ k.there (laid stride' (e.plan ++ e.more) l)
            ∙ ap (reached k.progress' k.palette')
            (sym (laid-append stride' (e.plan ++ e.more) (k.plan ++ k.more) l)
            ∙ ap (λ (plan : List Paint). laid stride' plan l) (append_assoc e.plan e.more (k.plan ++ k.more)));
      })

  -- both cases of a test that is the same for both
  pub grows-cond : {F G F' G' : List ℕ → Reached} (t : Bool) → (t ≡ true → Grows stride stride' F F') → (t ≡ false → Grows stride stride' G G')
      → Grows stride stride' (λ l. cond t (F l) (G l)) (λ l. cond t (F' l) (G' l))
  grows-cond true f g = f refl
  grows-cond false f g = g refl
