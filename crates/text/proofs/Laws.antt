-- Laws of writing at a cursor, and of decimal digits.
-- Assumes nothing.
use mathlib.Core.Path.{◌≡◌, refl, sym, ap, ap₂, ◌∙◌}
use mathlib.Core.List.{List, [], ◌∷◌, ◌++◌, append_assoc}
use mathlib.Core.Bool.{Bool, true, false, cond}
use Prim.Native.Nat.{ℕ, zero, suc, ◌+◌, ◌*◌, ◌/◌, ◌%◌, ◌^◌, ◌<◌, ◌≤◌}
use native.Mathlib.Nat.{pow-suc}
use native.Mathlib.Numerals.{add-one}
use native.Mathlib.Omega.{arith}
use lib.Dec.{ltb}
use lib.ListN.{length, take, drop, get_or, set, length-set, drop_of_length-le}
use lib.Seq.{drop-cons, drop-drop, sets, sets-eq}
use borrow.Rule.Slice.PartMut.{put_mid}
use borrow.Author.Tests.{lt-ltb, le-ltb, ltb-false}
use Rattle.text.specs.Text.{put_byte, put, digits, decimal}

-- a byte where there is room
pub room : (byte at : ℕ) (out : List ℕ) → at < length out → (at + 1, set out at byte) ≡ put_byte byte (at, out)
unfolding put_byte
room byte at out h = rw (lt-ltb _ _ h)

-- putting xs and ys joined is putting xs, then ys
pub put-append : (xs ys : List ℕ) (there : ℕ × List ℕ) → put (xs ++ ys) there ≡ put ys (put xs there)
unfolding put
put-append [] ys there = refl
put-append (x ∷ xs) ys there = put-append xs ys (put_byte x there)

put-sets : (xs : List ℕ) (at : ℕ) (out : List ℕ) → at + length xs ≤ length out → put xs (at, out) ≡ (at + length xs, sets out at xs)
unfolding put
put-sets [] at out h = let same : at ≡ at + 0 = omega arith in ap (λ (n : ℕ). (n, out)) same
put-sets (x ∷ xs) at out h =
    let here : at < length out = omega arith in
    let more : at + 1 + length xs ≤ length (set out at x) = simp length-set (omega arith) in
    let count : at + 1 + length xs ≡ at + suc (length xs) = omega arith in
    ap (put xs) (sym (room x at out here)) ∙ put-sets xs (at + 1) (set out at x) more
    ∙ ap₂ (λ (n m : ℕ). (n, sets (set out at x) m xs)) count (add-one at)

-- where there is room for all of a text, its bytes stand from the cursor on, and the cursor stands after them
pub put-room : (xs : List ℕ) (at : ℕ) (out : List ℕ) → at + length xs ≤ length out
    → put xs (at, out) ≡ (at + length xs, take at out ++ xs ++ drop (at + length xs) out)
put-room xs at out h = put-sets xs at out h ∙ ap (λ (l : List ℕ). (at + length xs, l)) (sets-eq xs out at h)

-- and so they stand where a part of the buffer was filled with them
pub put_whole : (xs row : List ℕ) (at n : ℕ) (out : List ℕ) → at + length xs ≤ length out → row ≡ xs → n ≡ length xs
    → (at + length xs, put_mid at n out row) ≡ put xs (at, out)
put_whole xs row at n out h e m =
    rw (e, m)
    (ap (λ (l : List ℕ). (at + length xs, l))
    (sym (append_assoc (take at out) xs (drop (length xs) (drop at out)))
    ∙ ap (λ (l : List ℕ). take at out ++ xs ++ l) (drop-drop (length xs) at out))
    ∙ sym (put-room xs at out h))

-- one byte is a text
pub put_one : (byte : ℕ) (before : ℕ × List ℕ) {after : ℕ × List ℕ} → after ≡ put_byte byte before → after ≡ put (byte ∷ []) before
unfolding put
put_one byte before e = e

-- a byte, then text
pub put_next : (byte : ℕ) (rest : List ℕ) (before : ℕ × List ℕ) {between after : ℕ × List ℕ} → between ≡ put_byte byte before
    → after ≡ put rest between → after ≡ put (byte ∷ rest) before
unfolding put
put_next byte rest before e f = f ∙ ap (put rest) e

-- text, then text
pub put_then : (xs ys : List ℕ) (before : ℕ × List ℕ) {between after : ℕ × List ℕ} → between ≡ put xs before → after ≡ put ys between
    → after ≡ put (xs ++ ys) before
put_then xs ys before e f = f ∙ ap (put ys) e ∙ sym (put-append xs ys before)

-- one byte of a text more
pub one_more : (words : List ℕ) (i : ℕ) (before after whole : ℕ × List ℕ) → after ≡ put_byte (get_or words i 0) before
    → put (drop i words) before ≡ whole → i < length words → put (drop (i + 1) words) after ≡ whole
unfolding put
one_more words i before after whole e rest h = rw (e, add-one i) (rw (drop-cons words i 0 h) at rest)

-- where all are put, nothing is left
pub all-put : (words : List ℕ) (i : ℕ) (there whole : ℕ × List ℕ) → put (drop i words) there ≡ whole → length words ≤ i → there ≡ whole
unfolding put
all-put words i there whole rest h = rw (drop_of_length-le words h) at rest

-- digits of two counts of places are the same where those of the tenth are
same-places : (n : ℕ) (xs ys : List ℕ) (t : Bool) → ltb n 10 ≡ t → (10 ≤ n → xs ≡ ys)
    → cond t ((48 + n) ∷ []) (xs ++ ((48 + n % 10) ∷ [])) ≡ cond t ((48 + n) ∷ []) (ys ++ ((48 + n % 10) ∷ []))
same-places n xs ys true e f = refl
same-places n xs ys false e f = ap (λ (l : List ℕ). l ++ ((48 + n % 10) ∷ [])) (f (ltb-false n 10 e))

-- a place more than a number needs changes no digit
more-places : (k n : ℕ) → n < 10 ^ suc k → digits (suc (suc k)) n ≡ digits (suc k) n
unfolding digits
more-places zero n h = same-places n (digits 1 (n / 10)) [] (ltb n 10) refl (λ big. absurd {0} (omega arith))
more-places (suc k) n h =
    let few : n < 10 ^ suc k * 10 = rw (pow-suc 10 (suc k)) at h in
    same-places n (digits (suc (suc k)) (n / 10)) (digits (suc k) (n / 10)) (ltb n 10) refl (λ big. more-places k (n / 10) (omega arith))

-- the last digit of a number of ten or more
last-digit : (places n : ℕ) → 10 ≤ n → digits (suc places) n ≡ digits places (n / 10) ++ ((48 + n % 10) ∷ [])
unfolding digits
last-digit places n h = rw (le-ltb _ _ h)

-- a number below ten is one digit
pub one-digit : (n : ℕ) → n < 10 → decimal n ≡ (48 + n) ∷ []
unfolding decimal digits
one-digit n h = rw (lt-ltb _ _ h)

-- and is put as that
pub put-digit : (n : ℕ) (before after : ℕ × List ℕ) → n < 10 → after ≡ put_byte (48 + n % 10) before → after ≡ put (decimal n) before
put-digit n before after h e = let same : n % 10 ≡ n = omega arith in rw (one-digit n h) (put_one (48 + n) before (rw same at e))

-- any other of 64 bits is the digits of its tenth, and one more
pub more-digits : (n : ℕ) → 10 ≤ n → n < 2 ^ 64 → decimal n ≡ decimal (n / 10) ++ ((48 + n % 10) ∷ [])
unfolding decimal
more-digits n h m =
    let few : n / 10 < 10 ^ 19 = omega arith in
    last-digit 19 n h ∙ ap (λ (l : List ℕ). l ++ ((48 + n % 10) ∷ [])) (sym (more-places 18 (n / 10) few))

-- and is put as the digits of its tenth, then the last
pub put-digits : (n : ℕ) (before between after : ℕ × List ℕ) → 10 ≤ n → n < 2 ^ 64 → between ≡ put (decimal (n / 10)) before
    → after ≡ put_byte (48 + n % 10) between → after ≡ put (decimal n) before
put-digits n before between after h m e f =
    rw (more-digits n h m) (put_then (decimal (n / 10)) ((48 + n % 10) ∷ []) before e (put_one (48 + n % 10) between f))
