-- 1, 2, 3 and 4 to 7 by a DCS sequence's next byte: each number has its own claim (rule 5.1).
use Prim.Native.Nat.{ℕ, ◌≤◌}
use mathlib.Core.Bool.{true}
use mathlib.Core.List.{List}
use mathlib.Core.Logic.{◌↔◌, ◌⊎◌, inl, inr}
use mathlib.Core.Path.{◌≡◌, refl}
use native.Mathlib.Omega.{arith}
use Rattle.numbers.specs.Bytes.{between, skipped, digit}
use Rattle.meaning.specs.Commands.{Command, of_values}
use Rattle.meaning.specs.Drawing.{Setting, Drawing, refused, draw_command}
use Rattle.meaning.specs.Sessions.{Reading, escape, Phase, start, introduced, header, within, after_escape, over}
use Rattle.promises.proofs.Choices.{Tells, tells-most, tells-equal, tells-or, tells-and}
use Rattle.promises.proofs.RefusedBytes.{ByteRefused, byte-exactly, byte-numbers, DcsRefused}
use Rattle.promises.proofs.RefusedFeeds.{Strikes, strikes-exactly}
use Rattle.promises.proofs.RefusedHeaders.{Cuts, cut-not-q}

-- ---- the bytes before the payload

-- the first byte is not 1B or 90, or the byte after 1B is not `P`
abbrev pub NotIntroducing : Phase → ℕ → Type 0
NotIntroducing start b = (¬ (b ≡ escape)) × (¬ (b ≡ 0x90))
NotIntroducing introduced b = ¬ (b ≡ 0x50)
NotIntroducing (header bs) b = ⊥
NotIntroducing (within r) b = ⊥
NotIntroducing (after_escape r) b = ⊥
NotIntroducing (over e r) b = ⊥

-- the sequence is in its header, and this holds
abbrev pub InHeader : Phase → Type 0 → Type 0
InHeader start X = ⊥
InHeader introduced X = ⊥
InHeader (header bs) X = X
InHeader (within r) X = ⊥
InHeader (after_escape r) X = ⊥
InHeader (over e r) X = ⊥

-- it is in its payload, and this holds of that
abbrev pub InPayload : Phase → (Reading → Type 0) → Type 0
InPayload start P = ⊥
InPayload introduced P = ⊥
InPayload (header bs) P = ⊥
InPayload (within r) P = P r
InPayload (after_escape r) P = ⊥
InPayload (over e r) P = ⊥

-- a byte that is neither skipped nor a digit, `;` or `q`
abbrev pub Strange : ℕ → Type 0
Strange b = (¬ (skipped b ≡ true)) × ((¬ (of_values b ≡ true)) × (¬ (b ≡ 0x71)))

-- 18, 1A, 1B and 80-9F are such
cut-strange : {b : ℕ} → Cuts b → Strange b
unfolding skipped of_values digit between
cut-strange {b} h = (λ e. skip h (tells-skipped.0 e), (λ e. value h (tells-values.0 e), cut-not-q h))
  where
    tells-skipped : Tells (skipped b) ((b ≤ 0x17) ⊎ ((b ≡ 0x19) ⊎ (((0x1C ≤ b) × (b ≤ 0x1F)) ⊎ (b ≡ 0x7F))))
    tells-skipped =
        tells-or (tells-most b 0x17)
        (tells-or (tells-equal b 0x19) (tells-or (tells-and (tells-most 0x1C b) (tells-most b 0x1F)) (tells-equal b 0x7F)))

    tells-values : Tells (of_values b) (((0x30 ≤ b) × (b ≤ 0x39)) ⊎ (b ≡ 0x3B))
    tells-values = tells-or (tells-and (tells-most 0x30 b) (tells-most b 0x39)) (tells-equal b 0x3B)

    skip : Cuts b → (b ≤ 0x17) ⊎ ((b ≡ 0x19) ⊎ (((0x1C ≤ b) × (b ≤ 0x1F)) ⊎ (b ≡ 0x7F))) → ⊥
    skip (inl c) (inl d) = omega arith
    skip (inl c) (inr (inl d)) = omega arith
    skip (inl c) (inr (inr (inl d))) = omega arith
    skip (inl c) (inr (inr (inr d))) = omega arith
    skip (inr (inl c)) (inl d) = omega arith
    skip (inr (inl c)) (inr (inl d)) = omega arith
    skip (inr (inl c)) (inr (inr (inl d))) = omega arith
    skip (inr (inl c)) (inr (inr (inr d))) = omega arith
    skip (inr (inr c)) (inl d) = omega arith
    skip (inr (inr c)) (inr (inl d)) = omega arith
    skip (inr (inr c)) (inr (inr (inl d))) = omega arith
    skip (inr (inr c)) (inr (inr (inr d))) = omega arith

    value : Cuts b → ((0x30 ≤ b) × (b ≤ 0x39)) ⊎ (b ≡ 0x3B) → ⊥
    value (inl c) (inl d) = omega arith
    value (inl c) (inr d) = omega arith
    value (inr (inl c)) (inl d) = omega arith
    value (inr (inl c)) (inr d) = omega arith
    value (inr (inr c)) (inl d) = omega arith
    value (inr (inr c)) (inr d) = omega arith

-- ---- each number by the byte

-- what a header's byte is refused with
abbrev pub Headed : List ℕ → ℕ → Phase → ℕ → Type 0
Headed bs b u n = (Cuts b × ((u ≡ header bs) × (n ≡ 2))) ⊎ ((¬ Cuts b) × ((u ≡ header bs) × (n ≡ 3)))

pub headed-number : {bs : List ℕ} {b n : ℕ} {u : Phase} → Headed bs b u n → (2 ≤ n) × (n ≤ 3)
headed-number {n = n} (inl h) = let number : n ≡ 2 = h.1.1 in (omega arith, omega arith)
headed-number {n = n} (inr h) = let number : n ≡ 3 = h.1.1 in (omega arith, omega arith)

module _ (s : Setting) (b : ℕ) where
  pub struck-number : {r t : Reading} {n : ℕ} → ByteRefused s r b t n → (4 ≤ n) × (n ≤ 7)
  struck-number {r} {t} {n} h = byte-numbers s r b ((byte-exactly s r b t n).1 h)

  pub one_byte : (t : Phase) → ((u : Phase) × DcsRefused s t b u 1) ↔ NotIntroducing t b
  one_byte start = (λ h. (h.1.0, h.1.1.0), λ h. (start, (h.0, (h.1, (refl, refl)))))
  one_byte introduced = (λ h. h.1.0, λ h. (introduced, (h, (refl, refl))))
  one_byte (header bs) = (λ h. let range : (2 ≤ 1) × (1 ≤ 3) = headed-number h.1.1.1.1 in omega arith, λ h. absurd h)
  one_byte (within r) = (λ h. let range : (4 ≤ 1) × (1 ≤ 7) = struck-number h.1.2 in omega arith, λ h. absurd h)
  one_byte (after_escape r) = (λ h. h.1, λ h. absurd h)
  one_byte (over e r) = (λ h. h.1, λ h. absurd h)

  pub two-byte : (t : Phase) → ((u : Phase) × DcsRefused s t b u 2) ↔ InHeader t (Cuts b)
  two-byte start = (λ h. let number : ◌≡◌ {A = ℕ} 2 1 = h.1.1.1.1 in omega arith, λ h. absurd h)
  two-byte introduced = (λ h. let number : ◌≡◌ {A = ℕ} 2 1 = h.1.1.1 in omega arith, λ h. absurd h)
  two-byte (header bs) = (
    λ h. cut h.1.1.1.1,
    λ h. let o = cut-strange h in (header bs, (o.0, (o.1.0, (o.1.1, inl (h, (refl, refl)))))),
  )
    where
      cut : {u : Phase} → Headed bs b u 2 → Cuts b
      cut (inl h) = h.0
      cut (inr h) = let number : ◌≡◌ {A = ℕ} 2 3 = h.1.1 in absurd (omega arith)
  two-byte (within r) = (λ h. let range : (4 ≤ 2) × (2 ≤ 7) = struck-number h.1.2 in omega arith, λ h. absurd h)
  two-byte (after_escape r) = (λ h. h.1, λ h. absurd h)
  two-byte (over e r) = (λ h. h.1, λ h. absurd h)

  pub three-byte : (t : Phase) → ((u : Phase) × DcsRefused s t b u 3) ↔ InHeader t (Strange b × (¬ Cuts b))
  three-byte start = (λ h. let number : ◌≡◌ {A = ℕ} 3 1 = h.1.1.1.1 in omega arith, λ h. absurd h)
  three-byte introduced = (λ h. let number : ◌≡◌ {A = ℕ} 3 1 = h.1.1.1 in omega arith, λ h. absurd h)
  three-byte (header bs) = (
    λ h. ((h.1.0, (h.1.1.0, h.1.1.1.0)), uncut h.1.1.1.1),
    λ h. (header bs, (h.0.0, (h.0.1.0, (h.0.1.1, inr (h.1, (refl, refl)))))),
  )
    where
      uncut : {u : Phase} → Headed bs b u 3 → ¬ Cuts b
      uncut (inl h) c = let number : ◌≡◌ {A = ℕ} 3 2 = h.1.1 in omega arith
      uncut (inr h) c = h.0 c
  three-byte (within r) = (λ h. let range : (4 ≤ 3) × (3 ≤ 7) = struck-number h.1.2 in omega arith, λ h. absurd h)
  three-byte (after_escape r) = (λ h. h.1, λ h. absurd h)
  three-byte (over e r) = (λ h. h.1, λ h. absurd h)

  module _ (n : ℕ) (high : 4 ≤ n) (P : Command → Drawing → Type 0)
      (k : (c : Command) (d : Drawing) → (draw_command s c d ≡ refused n) ↔ P c d) where
    pub payload-byte : (t : Phase) → ((u : Phase) × DcsRefused s t b u n) ↔ InPayload t (λ r. Strikes s r b P)
    payload-byte start = (λ h. let number : n ≡ 1 = h.1.1.1.1 in omega arith, λ h. absurd h)
    payload-byte introduced = (λ h. let number : n ≡ 1 = h.1.1.1 in omega arith, λ h. absurd h)
    payload-byte (header bs) = (λ h. let range : (2 ≤ n) × (n ≤ 3) = headed-number h.1.1.1.1 in omega arith, λ h. absurd h)
    payload-byte (within r) = (
      λ h. (strikes-exactly s r b n P k).0 (h.1.0, (byte-exactly s r b h.1.0 n).1 h.1.2),
      λ h. let e = (strikes-exactly s r b n P k).1 h in (within e.0, (e.0, refl, (byte-exactly s r b e.0 n).0 e.1)),
    )
    payload-byte (after_escape r) = (λ h. h.1, λ h. absurd h)
    payload-byte (over e r) = (λ h. h.1, λ h. absurd h)
