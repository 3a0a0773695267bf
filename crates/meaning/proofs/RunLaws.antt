-- Laws of any reader's runs: reading xs and then ys is reading xs ++ ys, so pieces do not matter.
use Prim.Native.Nat.{ℕ, suc, ◌+◌}
use native.Mathlib.Nat.{zero-add, add_assoc}
use native.Mathlib.Omega.{arith}
use mathlib.Core.Path.{◌≡◌, refl, sym, ap, ap₂, ◌∙◌}
use mathlib.Core.Bool.{false, cond}
use mathlib.Core.List.{List, [], ◌∷◌, ◌++◌}
use lib.ListN.{length, take, drop, take-append-drop}
use Rattle.meaning.specs.Reader.{Step, next, halt, refuse, How, read_all, stopped, halted, refused_by, is_all, Run, still, after, continued, follow, read_from, then_read}
use Rattle.meaning.proofs.Cases.{cond_map, cond_no}

-- ---- runs

-- two runs with the same counts
pub same-counts : {S : Type 0} (s : S) (h : How) {n m i j : ℕ} → n ≡ m → i ≡ j
    → ◌≡◌ {A = Run S} (record { state = s; consumed = n; ink = i; how = h }) (record { state = s; consumed = m; ink = j; how = h })
same-counts s h p q = ap₂ (λ (n i : ℕ). record { state = s; consumed = n; ink = i; how = h }) p q

-- nothing before a run changes nothing
pub after-zero : {S : Type 0} (r : Run S) → after 0 0 r ≡ r
unfolding after
after-zero r = same-counts r.state r.how (zero-add _) (zero-add _)

-- counts before a run add up
pub after-after : {S : Type 0} (n i m j : ℕ) (r : Run S) → after (n + m) (i + j) r ≡ after n i (after m j r)
unfolding after
after-after n i m j r = same-counts r.state r.how (add_assoc n m _) (add_assoc i j _)

-- counts before a continued run are those of its first part
pub after-continued : {S : Type 0} (n i : ℕ) (r : Run S) (later : S → Run S) → after n i (continued r later) ≡ continued (after n i r) later
unfolding continued after
after-continued n i r later =
    cond_map (after n i) (is_all r.how) _ _
    ∙ ap (λ q. cond (is_all r.how) q (after n i r)) (sym (after-after n i r.consumed r.ink (later r.state)))

-- what follows a byte is continued where the rest is
pub follow-continued : {S : Type 0} (x : Step S) (f g : S → ℕ → Run S) (later : S → Run S)
    → ((t : S) (i : ℕ) → f t i ≡ continued (g t i) later) → follow x f ≡ continued (follow x g) later
unfolding continued follow
follow-continued (next t i) f g later same = same t i
follow-continued (halt t) f g later same = refl
follow-continued (refuse t n) f g later same = refl

-- a run is continued alike by what is alike at its state
pub continued-same : {S : Type 0} (r : Run S) (f g : S → Run S) → f r.state ≡ g r.state → continued r f ≡ continued r g
unfolding continued
continued-same r f g same = ap (λ q. cond (is_all r.how) (after r.consumed r.ink q) r) same

-- any other way than all
pub not-all : (h : How) → (h ≡ read_all → ⊥) → is_all h ≡ false
unfolding is_all
not-all read_all ended = absurd (ended refl)
not-all stopped ended = refl
not-all halted ended = refl
not-all (refused_by n) ended = refl

-- ---- pieces do not matter

module _ {S : Type 0} (step : S → ℕ → Step S) where
  -- reading xs and then ys is reading xs ++ ys
  pub read-append : (s : S) (xs ys : List ℕ) → read_from step s (xs ++ ys) ≡ then_read step (read_from step s xs) ys
  unfolding read_from then_read
  read-append s [] ys = sym (after-zero (read_from step s ys))
  read-append s (b ∷ xs) ys =
      follow-continued (step s b) _ (λ t i. after 1 i (read_from step t xs)) (λ t. read_from step t ys)
      (λ t i. ap (after 1 i) (read-append t xs ys) ∙ after-continued 1 i (read_from step t xs) (λ u. read_from step u ys))

  -- two readings that share a prefix go on from one and the same reading of it
  pub shared-prefix : (s : S) (n : ℕ) (xs ys : List ℕ) → take n xs ≡ take n ys
      → (r : Run S) × (read_from step s xs ≡ then_read step r (drop n xs)) × (read_from step s ys ≡ then_read step r (drop n ys))
  shared-prefix s n xs ys same = (
    read_from step s (take n xs),
    rw take-append-drop at (read-append s (take n xs) (drop n xs)),
    rw same (rw take-append-drop at (read-append s (take n ys) (drop n ys))),
  )

  -- where reading a prefix came to an end or a refusal, what follows it does not matter
  pub ended-prefix : (s : S) (xs ys : List ℕ) → ((read_from step s xs).how ≡ read_all → ⊥) → read_from step s (xs ++ ys) ≡ read_from step s xs
  unfolding then_read continued
  ended-prefix s xs ys ended = read-append s xs ys ∙ cond_no _ _ _ (not-all (read_from step s xs).how ended)

  -- reading from a byte on, where it is known what the byte does
  pub read_as_lem : (s : S) (b : ℕ) (bs : List ℕ) {x : Step S} → step s b ≡ x
      → read_from step s (b ∷ bs) ≡ follow x (λ t i. after 1 i (read_from step t bs))
  unfolding read_from
  read_as_lem s b bs e = ap (λ (x : Step S). follow x (λ t i. after 1 i (read_from step t bs))) e

  -- a run that says it read all its bytes has consumed them all
  pub read-all : (s : S) (xs : List ℕ) → (read_from step s xs).how ≡ read_all → (read_from step s xs).consumed ≡ length xs
  unfolding read_from still after follow
  read-all s [] e = refl
  read-all s (b ∷ bs) e = go (step s b) (λ t. read-all t bs) e
    where
      on : S → ℕ → Run S
      on t i = after 1 i (read_from step t bs)

      go : (x : Step S) → ((t : S) → (read_from step t bs).how ≡ read_all → (read_from step t bs).consumed ≡ length bs)
          → (follow x on).how ≡ read_all → (follow x on).consumed ≡ suc (length bs)
      go (next t i) later e = omega (arith, later t e)
      go (halt t) later e = cc
      go (refuse t n) later e = cc
