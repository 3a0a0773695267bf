-- A record that has read some bytes holds their values: proved once, over the number of places.
use Prim.Native.Nat.{ℕ, zero, suc, ◌+◌, ◌-◌, ◌*◌, ◌≤◌, ◌<◌}
use mathlib.Core.Bool.{Bool, true, false, ◌||◌, cond, or-true}
use mathlib.Core.List.{List, [], ◌∷◌, ◌++◌, append_assoc}
use mathlib.Core.Path.{◌≡◌, refl, sym, ap, ap₂, subst, ◌∙◌}
use native.Mathlib.Decide.{dec_le}
use native.Mathlib.Nat.{lt_of_not-le}
use native.Mathlib.Numerals.{add-one}
use native.Mathlib.Omega.{arith}
use lib.Dec.{eqb}
use lib.ListN.{get_or, set, take, length, length-append, length-set}
use lib.Seq.{take_all, take_at, take-suc-set, length-take-le}
use Rattle.numbers.specs.Bytes.{skipped, digit, semicolon}
use Rattle.numbers.specs.Values.{extended, held, written, values}
use Rattle.numbers.specs.Step.{opened, emptied, filled, lengthened, stored, with_digit, with_semicolon, pushed, fed, finished, kept, value_at}
use Rattle.numbers.specs.Read.{Read}
use Rattle.numbers.specs.declared.Parameters.{Parameters}
use Rattle.numbers.proofs.Laws.{cond_yes, cond_no, store-full, store-room}
use Rattle.numbers.proofs.Fields.{Silent, digit-no-semicolon, skipped-silent, byte-cases, numbers_from, numbers-semicolon, numbers-other, numbers-silent, written-semicolon, written-digit, written-silent, values-from-left, values-small}

-- ---- what has been read

fed-more : (p : Parameters) (bs : List ℕ) (b : ℕ) → fed p (bs ++ b ∷ []) ≡ pushed (fed p bs) b
unfolding fed
fed-more p [] b = refl
fed-more p (c ∷ bs) b = fed-more (pushed p c) bs b

pushed-semicolon : (p : Parameters) (b : ℕ) → eqb b semicolon ≡ true → pushed p b ≡ with_semicolon p
unfolding pushed
pushed-semicolon p b h = cond_yes _ _ h

pushed-other : (p : Parameters) (b : ℕ) → eqb b semicolon ≡ false → pushed p b ≡ with_digit p b
unfolding pushed
pushed-other p b h = cond_no _ _ h

pushed-silent : (p : Parameters) (b : ℕ) → Silent b → pushed p b ≡ p
unfolding with_digit
pushed-silent p b h = pushed-other p b h.no-semicolon ∙ cond_no _ _ h.no_digit

-- a new record has read nothing
pub read_none : (places : ℕ) → Read places [] (opened places)
unfolding fed
read_none places = record { same = refl }

-- one more byte, of any kind
pub read-push : {places : ℕ} {bs : List ℕ} {p : Parameters} (b : ℕ) → Read places bs p → Read places (bs ++ b ∷ []) (pushed p b)
read-push {places} {bs} b h =
    record { same = ap (λ (r : Parameters). pushed r b) h.same ∙ sym (fed-more (opened places) bs b) }

-- one more digit
pub read-digit : {places : ℕ} {bs : List ℕ} {p : Parameters} (b : ℕ) → digit b ≡ true → Read places bs p
    → Read places (bs ++ b ∷ []) (with_digit p b)
read-digit {places} {bs} {p} b d h = subst (Read places (bs ++ b ∷ [])) (pushed-other p b (digit-no-semicolon b d)) (read-push b h)

-- one more `;`
pub read-semicolon : {places : ℕ} {bs : List ℕ} {p : Parameters} → Read places bs p
    → Read places (bs ++ semicolon ∷ []) (with_semicolon p)
read-semicolon {places} {bs} {p} h =
    subst (Read places (bs ++ semicolon ∷ [])) (pushed-semicolon p semicolon refl) (read-push semicolon h)

-- one more skipped byte
pub read-skipped : {places : ℕ} {bs : List ℕ} {p : Parameters} (b : ℕ) → skipped b ≡ true → Read places bs p
    → Read places (bs ++ b ∷ []) p
read-skipped {places} {bs} {p} b s h =
    subst (Read places (bs ++ b ∷ [])) (pushed-silent p b (skipped-silent b s)) (read-push b h)

-- ---- a record that is not damaged

record Sound (p : Parameters) : Type 0 where
  five : length p.values ≡ 5
  within : p.places ≤ 5
  below : p.count ≤ p.places

opened-sound : (places : ℕ) → places ≤ 5 → Sound (opened places)
unfolding opened
opened-sound places h = record { five = refl; within = h; below = omega arith }

-- where a place is left, and where none is
store-cases {ℓ} : (P : Parameters → Type ℓ) (p : Parameters) → Sound p → (p.count < p.places → P (filled p))
    → (p.count ≡ p.places → P (emptied p))
    → P (stored p)
store-cases P p s f g =
    elim (dec_le p.places p.count) [
      | yes h ↦ subst P (store-full p h) (g (omega (arith, s.below)))
      | no h ↦ subst P (store-room p (lt_of_not-le h) (omega (arith, s.within))) (f (lt_of_not-le h))
    ]

stored-places : (p : Parameters) → Sound p → (stored p).places ≡ p.places
stored-places p s = store-cases (λ (q : Parameters). q.places ≡ p.places) p s (λ h. refl) (λ e. refl)

stored-current : (p : Parameters) → Sound p → (stored p).current ≡ 0
stored-current p s = store-cases (λ (q : Parameters). q.current ≡ 0) p s (λ h. refl) (λ e. refl)

stored-sound : (p : Parameters) → Sound p → Sound (stored p)
stored-sound p s =
    store-cases Sound p s
    (λ h. record { five = length-set p.values p.count p.current ∙ s.five; within = s.within; below = omega arith })
    (λ e. record { five = s.five; within = s.within; below = s.below })

semicolon-sound : (p : Parameters) → Sound p → Sound (with_semicolon p)
unfolding with_semicolon
semicolon-sound p s =
    let t : Sound (stored p) = stored-sound p s in record { five = t.five; within = t.within; below = t.below }

semicolon-current : (p : Parameters) → Sound p → (with_semicolon p).current ≡ held 0
unfolding with_semicolon held
semicolon-current p s = stored-current p s

-- storing adds the number at the end, as far as there are places
kept-stored : (p : Parameters) → Sound p → kept (stored p) ≡ take p.places (kept p ++ p.current ∷ [])
unfolding kept
kept-stored p s =
    store-cases (λ (q : Parameters). take q.count q.values ≡ take p.places (take p.count p.values ++ p.current ∷ [])) p s
    room full
  where
    long : length (take p.count p.values) ≡ p.count
    long = length-take-le p.count p.values (omega (arith, s.below, s.within, s.five))

    room : p.count < p.places
        → take (p.count + 1) (set p.values p.count p.current) ≡ take p.places (take p.count p.values ++ p.current ∷ [])
    room h =
        rw (add-one p.count)
        (take-suc-set p.values p.count p.current (omega (arith, s.within, s.five))
        ∙ sym
        (take_all p.places (take p.count p.values ++ p.current ∷ [])
        (rw (length-append (take p.count p.values) (p.current ∷ [])) (omega (arith, long)))))

    full : p.count ≡ p.places → take p.count p.values ≡ take p.places (take p.count p.values ++ p.current ∷ [])
    full e = sym (take_at (take p.count p.values) (p.current ∷ []) p.places (long ∙ e))

-- ---- feeding a record

take_again : (k : ℕ) (xs ys : List ℕ) → take k (take k xs ++ ys) ≡ take k (xs ++ ys)
take_again zero xs ys = refl
take_again (suc k) [] ys = refl
take_again (suc k) (x ∷ xs) ys = ap (λ (l : List ℕ). x ∷ l) (take_again k xs ys)

-- what a record holds at the end, when it is fed some bytes after `n` has been read of its number
abbrev Holds : List ℕ → Parameters → ℕ → Type 0
Holds bs p n = kept (finished (fed p bs)) ≡ cond (p.pending || written bs) (take p.places (kept p ++ numbers_from n bs)) (kept p)

holds-end : (p : Parameters) (n : ℕ) → Sound p → p.current ≡ held n → Holds [] p n
unfolding finished fed written numbers_from
holds-end p n s e = go p.pending
  where
    go : (t : Bool) → kept (cond t (stored p) p) ≡ cond (t || false) (take p.places (kept p ++ held n ∷ [])) (kept p)
    go true = kept-stored p s ∙ ap (λ (m : ℕ). take p.places (kept p ++ m ∷ [])) e
    go false = refl

-- a byte that writes something leaves only the numbers
holds-written : (p : Parameters) (n b : ℕ) (bs : List ℕ) → written (b ∷ bs) ≡ true
    → kept (finished (fed (pushed p b) bs)) ≡ take p.places (kept p ++ numbers_from n (b ∷ bs)) → Holds (b ∷ bs) p n
unfolding fed
holds-written p n b bs w h = h ∙ sym (cond_yes _ _ (ap (λ (t : Bool). p.pending || t) w ∙ or-true p.pending))

holds-semicolon : (p : Parameters) (n b : ℕ) (bs : List ℕ) → Sound p → p.current ≡ held n → eqb b semicolon ≡ true
    → Holds bs (with_semicolon p) 0 → Holds (b ∷ bs) p n
unfolding kept with_semicolon
holds-semicolon p n b bs s e h next =
    holds-written p n b bs (written-semicolon b bs h)
    (ap (λ (q : Parameters). kept (finished (fed q bs))) (pushed-semicolon p b h)
    ∙ next
    ∙ ap (λ (k : ℕ). take k (kept (stored p) ++ numbers_from 0 bs)) (stored-places p s)
    ∙ ap (λ (l : List ℕ). take p.places (l ++ numbers_from 0 bs)) (kept-stored p s)
    ∙ take_again p.places (kept p ++ p.current ∷ []) (numbers_from 0 bs)
    ∙ ap (take p.places) (append_assoc (kept p) (p.current ∷ []) (numbers_from 0 bs))
    ∙ ap (λ (m : ℕ). take p.places (kept p ++ m ∷ numbers_from 0 bs)) e
    ∙ ap (λ (l : List ℕ). take p.places (kept p ++ l)) (sym (numbers-semicolon n b bs h)))

pushed-digit : (p : Parameters) (b : ℕ) → digit b ≡ true → pushed p b ≡ lengthened p (b - 0x30)
unfolding with_digit
pushed-digit p b h = pushed-other p b (digit-no-semicolon b h) ∙ cond_yes _ _ h

holds-digit : (p : Parameters) (n b : ℕ) (bs : List ℕ) → digit b ≡ true → Holds bs (lengthened p (b - 0x30)) (extended n b)
    → Holds (b ∷ bs) p n
unfolding kept
holds-digit p n b bs h next =
    holds-written p n b bs (written-digit b bs h)
    (ap (λ (q : Parameters). kept (finished (fed q bs))) (pushed-digit p b h)
    ∙ next
    ∙ ap (λ (l : List ℕ). take p.places (kept p ++ l)) (sym (numbers-other n b bs (digit-no-semicolon b h))))

holds-silent : (p : Parameters) (n b : ℕ) (bs : List ℕ) → Silent b → Holds bs p n → Holds (b ∷ bs) p n
unfolding fed
holds-silent p n b bs h next =
    ap (λ (q : Parameters). kept (finished (fed q bs))) (pushed-silent p b h)
    ∙ next
    ∙ ap₂ (λ (t : Bool) (l : List ℕ). cond (p.pending || t) (take p.places (kept p ++ l)) (kept p))
    (sym (written-silent [] b bs h)) (sym (numbers-silent n [] b bs h))

held-digit : (m n b : ℕ) → m ≡ held n → digit b ≡ true → held (m * 10 + (b - 0x30)) ≡ held (extended n b)
unfolding held extended
held-digit m n b e h = rw h (omega arith)

feeding : (bs : List ℕ) (p : Parameters) (n : ℕ) → Sound p → p.current ≡ held n → Holds bs p n
feeding [] p n s e = holds-end p n s e
feeding (b ∷ bs) p n s e =
    byte-cases b
    (λ h. holds-semicolon p n b bs s e h (feeding bs (with_semicolon p) 0 (semicolon-sound p s) (semicolon-current p s)))
    (λ h.
    let longer : Sound (lengthened p (b - 0x30)) = record { five = s.five; within = s.within; below = s.below } in
    holds-digit p n b bs h (feeding bs (lengthened p (b - 0x30)) (extended n b) longer (held-digit p.current n b e h)))
    (λ h. holds-silent p n b bs h (feeding bs p n s e))

-- ---- a record that was fed is not damaged

pushed-sound : (p : Parameters) (b : ℕ) → Sound p → Sound (pushed p b)
pushed-sound p b s =
    byte-cases b (λ h. subst Sound (sym (pushed-semicolon p b h)) (semicolon-sound p s))
    (λ h. subst Sound (sym (pushed-digit p b h)) (record { five = s.five; within = s.within; below = s.below }))
    (λ h. subst Sound (sym (pushed-silent p b h)) s)

fed-sound : (bs : List ℕ) (p : Parameters) → Sound p → Sound (fed p bs)
unfolding fed
fed-sound [] p s = s
fed-sound (b ∷ bs) p s = fed-sound bs (pushed p b) (pushed-sound p b s)

finished-sound : (p : Parameters) → Sound p → Sound (finished p)
unfolding finished
finished-sound p s = go p.pending
  where
    go : (t : Bool) → Sound (cond t (stored p) p)
    go true = stored-sound p s
    go false = s

-- ---- what a record has read is what it holds

-- at the end of the argument a record holds the values of the bytes that it has read
pub read-values : {places : ℕ} {bs : List ℕ} {p : Parameters} → places ≤ 5 → Read places bs p → kept (finished p) ≡ values places bs
unfolding opened kept held
read-values {places} {bs} h r =
    ap (λ (q : Parameters). kept (finished q)) r.same
    ∙ feeding bs (opened places) 0 (opened-sound places h) refl
    ∙ sym (values-from-left places bs)

-- so many are counted
pub read_count : {places : ℕ} {bs : List ℕ} {p : Parameters} → places ≤ 5 → Read places bs p
    → (finished p).count ≡ length (values places bs)
unfolding kept
read_count {places} {bs} {p} h r =
    let whole = finished-sound (fed (opened places) bs) (fed-sound bs (opened places) (opened-sound places h)) in
    let s : Sound (finished p) = subst (λ (q : Parameters). Sound (finished q)) (sym r.same) whole in
    sym (length-take-le (finished p).count (finished p).values (omega (arith, s.below, s.within, s.five)))
    ∙ ap length (read-values h r)

-- and each is read at its place
pub read-value : {places : ℕ} {bs : List ℕ} {p : Parameters} (i : ℕ) → places ≤ 5 → Read places bs p
    → value_at (finished p) i ≡ get_or (values places bs) i 0
unfolding value_at
read-value {places} {bs} i h r =
    ap (λ (l : List ℕ). held (get_or l i 0)) (read-values h r) ∙ omega (arith, values-small places bs i)

-- whatever the record, a value fits a signed number of 32 bits
pub value-small : (p : Parameters) (i : ℕ) → value_at p i ≤ 2147483647
unfolding value_at
value-small p i = omega arith
