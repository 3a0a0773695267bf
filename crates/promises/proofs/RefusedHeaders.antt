-- 1, 2, 3 and, without a `q`, 8 are given exactly when rule 5.1 says: of a header, of a DCS sequence and of an input read at
-- once.
use Prim.Native.Nat.{ℕ, ◌≤◌}
use mathlib.Core.Bool.{Bool, true, false, cond, ◌||◌}
use mathlib.Core.List.{List, [], ◌∷◌, ◌++◌}
use mathlib.Core.Logic.Iff
use mathlib.Core.Logic.{◌↔◌, ◌⊎◌, inl, inr}
use mathlib.Core.Option.{Option, none, some}
use mathlib.Core.Path.{◌≡◌, refl, sym, ap, ap₂, ◌∙◌, subst}
use native.Mathlib.Omega.{arith}
use borrow.Author.Tests.{eqb-true}
use lib.Dec.{eqb}
use Rattle.numbers.specs.Bytes.{between, skipped, ends}
use Rattle.colours.specs.declared.Palette.{Palette}
use Rattle.meaning.specs.Commands.{of_values}
use Rattle.meaning.specs.Drawing.{Setting}
use Rattle.meaning.specs.OneShot.{Found, found, lacking, refused_with, after_introducer, header_from, find_payload}
use Rattle.meaning.specs.Payload.{no_parameters}
use Rattle.meaning.specs.Reader.{refused_by}
use Rattle.meaning.specs.Sequence.{after_first_escape, sequence_payload}
use Rattle.meaning.specs.Sessions.{escape, HeaderByte, goes_on, settles, wrong, parameters_of, header_byte}
use Rattle.meaning.proofs.Framing.{Introducer, c1, escaped}
use Rattle.meaning.proofs.DcsParts.{introducer-sequence}
use Rattle.meaning.proofs.DcsLaws.{read_sequence, sequence-refused}
use Rattle.promises.proofs.Choices.{none-some, Tells, tells-most, tells-equal, tells-or, tells-and, first-case, later-case, either-case}

-- ---- a header

-- the first byte of a header that is neither skipped nor a digit nor `;`
unfoldable pub first_other : List ℕ → Option ℕ
first_other [] = none
first_other (b ∷ bs) = cond (skipped b || of_values b) (first_other bs) (some b)

-- 18, 1A, 1B or 80-9F
abbrev pub Cuts : ℕ → Type 0
Cuts b = (b ≡ 0x18) ⊎ (((0x1A ≤ b) × (b ≤ 0x1B)) ⊎ ((0x80 ≤ b) × (b ≤ 0x9F)))

pub tells-ends : (b : ℕ) → Tells (ends b) (Cuts b)
unfolding ends between
tells-ends b =
    tells-or (tells-equal b 0x18)
    (tells-or (tells-and (tells-most 0x1A b) (tells-most b 0x1B)) (tells-and (tells-most 0x80 b) (tells-most b 0x9F)))

-- there is such a byte, and this holds of it
abbrev pub Other : List ℕ → (ℕ → Type 0) → Type 0
Other bs P = (b : ℕ) × (first_other bs ≡ some b) × P b

-- what a search says, apart from where the payload is: it is there; bytes are missing; or a number refuses
data Verdict : Type 0 where
  there less : Verdict
  by : ℕ → Verdict

-- no two of them are the same
not_there : {n : ℕ} → there ≡ by n → ⊥
not_there e = let never : ◌≡◌ {A = ℕ} 0 1 = cc in omega arith

not-less : {n : ℕ} → less ≡ by n → ⊥
not-less e = let never : ◌≡◌ {A = ℕ} 0 1 = cc in omega arith

not-by : {m n : ℕ} → ¬ (m ≡ n) → by m ≡ by n → ⊥
not-by differ e = differ (cc)

-- what a first other byte says
verdict_at : Option ℕ → Verdict
verdict_at none = less
verdict_at (some b) = cond (eqb b 0x71) there (cond (ends b) (by 2) (by 3))

-- what was found says
verdict_of : Found → Verdict
verdict_of (found o part) = there
verdict_of lacking = less
verdict_of (refused_with n) = by n

refused-exactly : (f : Found) (n : ℕ) → (f ≡ refused_with n) ↔ (verdict_of f ≡ by n)
unfolding verdict_of
refused-exactly (found o part) n = (λ e. cc, λ e. cc)
refused-exactly lacking n = (λ e. cc, λ e. cc)
refused-exactly (refused_with m) n = (λ e. cc, λ e. cc)

lacking-exactly : (f : Found) → (f ≡ lacking) ↔ (verdict_of f ≡ less)
unfolding verdict_of
lacking-exactly (found o part) = (λ e. cc, λ e. cc)
lacking-exactly lacking = (λ e. refl, λ e. refl)
lacking-exactly (refused_with m) = (λ e. cc, λ e. cc)

header-verdict : (got bs : List ℕ) → verdict_of (header_from got bs) ≡ verdict_at (first_other bs)
unfolding header_from header_byte first_other verdict_of verdict_at
header-verdict got [] = refl
header-verdict got (b ∷ bs) = go (skipped b) (of_values b) (λ more. header-verdict more bs)
  where
    leads : HeaderByte → Found
    leads x = elim x [ goes_on more ↦ header_from more bs | settles o ↦ found o bs | wrong n ↦ refused_with n ]

    own : (v w : Bool)
        → verdict_of (leads (cond v (settles (parameters_of got)) (cond w (wrong 2) (wrong 3)))) ≡ cond v there (cond w (by 2) (by 3))
    own true w = refl
    own false true = refl
    own false false = refl

    go : (t u : Bool) → ((more : List ℕ) → verdict_of (header_from more bs) ≡ verdict_at (first_other bs))
        → verdict_of
        (leads
        (cond t (goes_on got)
        (cond u (goes_on (got ++ (b ∷ []))) (cond (eqb b 0x71) (settles (parameters_of got)) (cond (ends b) (wrong 2) (wrong 3))))))
        ≡ verdict_at (cond (t || u) (first_other bs) (some b))
    go true u later = later got
    go false true later = later (got ++ (b ∷ []))
    go false false later = own (eqb b 0x71) (ends b)

-- `q` is none of those
pub cut-not-q : {b : ℕ} → Cuts b → ¬ (b ≡ 0x71)
cut-not-q (inl e) q = omega arith
cut-not-q (inr (inl h)) q = omega arith
cut-not-q (inr (inr h)) q = omega arith

-- what a first other byte says of a number
other-exactly : (o : Option ℕ) (n : ℕ) (P : ℕ → Type 0) → ((b : ℕ) → (verdict_at (some b) ≡ by n) ↔ P b)
    → (verdict_at o ≡ by n) ↔ ((b : ℕ) × (o ≡ some b) × P b)
unfolding verdict_at
other-exactly none n P k = (λ e. absurd (not-less e), λ h. none-some h.1)
other-exactly (some b) n P k = (
  λ e. (b, refl, (k b).0 e),
  λ h. let same : b ≡ h.0 = cc h.1 in (k b).1 (subst P (sym same) h.2),
)

module _ (got bs : List ℕ) where
  header-as : {x : Found} {v : Verdict} {P : Type 0} → (header_from got bs ≡ x) ↔ (verdict_of (header_from got bs) ≡ v)
      → (verdict_at (first_other bs) ≡ v) ↔ P
      → (header_from got bs ≡ x) ↔ P
  header-as e k = (λ h. k.0 (sym (header-verdict got bs) ∙ e.0 h), λ h. e.1 (header-verdict got bs ∙ k.1 h))

  -- 2 is given exactly when the first byte that is neither skipped nor a digit nor `;` is 18, 1A, 1B or 80-9F.
  pub two-exactly : (header_from got bs ≡ refused_with 2) ↔ Other bs Cuts
  unfolding verdict_at
  two-exactly =
      header-as (refused-exactly (header_from got bs) 2)
      (other-exactly (first_other bs) 2 Cuts
      (λ b.
      let k : (verdict_at (some b) ≡ by 2) ↔ ((¬ (b ≡ 0x71)) × Cuts b) =
      later-case (tells-equal b 0x71) not_there (first-case (tells-ends b) (not-by (λ q. omega arith))) in
      (λ e. (k.0 e).1, λ h. k.1 (cut-not-q h, h))))

  -- 3 is given exactly when that byte is any other than `q`.
  pub three-exactly : (header_from got bs ≡ refused_with 3) ↔ Other bs (λ b. (¬ (b ≡ 0x71)) × (¬ Cuts b))
  unfolding verdict_at
  three-exactly =
      header-as (refused-exactly (header_from got bs) 3)
      (other-exactly (first_other bs) 3 (λ b. (¬ (b ≡ 0x71)) × (¬ Cuts b))
      (λ b.
      let k : (verdict_at (some b) ≡ by 3) ↔ ((¬ (b ≡ 0x71)) × ((¬ Cuts b) × Unit {0})) =
      later-case (tells-equal b 0x71) not_there (later-case (tells-ends b) (not-by (λ q. omega arith)) (λ e. tt, λ h. refl)) in
      (λ e. ((k.0 e).0, (k.0 e).1.0), λ h. k.1 (h.0, (h.1, tt)))))

  -- Bytes are missing, which reading at once answers by 8, exactly when there is no such byte.
  pub eight-exactly : (header_from got bs ≡ lacking) ↔ (first_other bs ≡ none)
  unfolding verdict_at
  eight-exactly = header-as (lacking-exactly (header_from got bs)) (go (first_other bs))
    where
      enough : (t u : Bool) → cond t there (cond u (by 2) (by 3)) ≡ less → ⊥
      enough true u e = let never : ◌≡◌ {A = ℕ} 0 1 = cc in omega arith
      enough false true e = not-less (sym e)
      enough false false e = not-less (sym e)

      go : (o : Option ℕ) → (verdict_at o ≡ less) ↔ (o ≡ none)
      go none = (λ e. refl, λ e. refl)
      go (some b) = (λ e. absurd (enough (eqb b 0x71) (ends b) e), λ e. none-some (sym e))

  -- and no other number
  pub header-numbers : {n : ℕ} → header_from got bs ≡ refused_with n → (2 ≤ n) × (n ≤ 3)
  unfolding verdict_at
  header-numbers {n} e = go (first_other bs) (sym (header-verdict got bs) ∙ (refused-exactly (header_from got bs) n).0 e)
    where
      byte : (t u : Bool) → cond t there (cond u (by 2) (by 3)) ≡ by n → (2 ≤ n) × (n ≤ 3)
      byte true u e = absurd (not_there e)
      byte false true e = let same : 2 ≡ n = cc in (omega arith, omega arith)
      byte false false e = let same : 3 ≡ n = cc in (omega arith, omega arith)

      go : (o : Option ℕ) → verdict_at o ≡ by n → (2 ≤ n) × (n ≤ 3)
      go none e = absurd (not-less e)
      go (some b) e = byte (eqb b 0x71) (ends b) e

-- ---- a DCS sequence

-- the byte after 1B is there, and is not `P`
abbrev pub NotP : List ℕ → Type 0
NotP [] = ⊥
NotP (b ∷ bs) = ¬ (b ≡ 0x50)

-- the first byte is there, and is not 1B or 90, or the byte after 1B is not `P`
abbrev pub NoIntroducer : List ℕ → Type 0
NoIntroducer [] = ⊥
NoIntroducer (b ∷ bs) = ((b ≡ escape) × NotP bs) ⊎ ((¬ (b ≡ escape)) × (¬ (b ≡ 0x90)))

not-one : (bs : List ℕ) → header_from [] bs ≡ refused_with 1 → ⊥
not-one bs e = let range : (2 ≤ 1) × (1 ≤ 3) = header-numbers [] bs e in omega arith

-- missing bytes are no refusal
not-lacking : {n : ℕ} {X : Type 0} → lacking ≡ refused_with n → X
not-lacking e = let never : ◌≡◌ {A = ℕ} 0 1 = cc in absurd (omega arith)

after-exactly : (bs : List ℕ) → (after_first_escape bs ≡ refused_with 1) ↔ NotP bs
unfolding after_first_escape
after-exactly [] = (not-lacking, λ h. absurd h)
after-exactly (b ∷ bs) =
    let k : (after_first_escape (b ∷ bs) ≡ refused_with 1) ↔ ((¬ (b ≡ 0x50)) × Unit {0}) =
    later-case (tells-equal b 0x50) (not-one bs) (λ e. tt, λ h. refl) in
    (λ e. (k.0 e).0, λ h. k.1 (h, tt))

-- 1 is given exactly when the first byte is not 1B or 90, or the byte after 1B is not `P`.
pub one-exactly : (bs : List ℕ) → (sequence_payload bs ≡ refused_with 1) ↔ NoIntroducer bs
unfolding sequence_payload
one-exactly [] = (not-lacking, λ h. absurd h)
one-exactly (b ∷ bs) =
    either-case (tells-equal b escape) (after-exactly bs)
    (λ e. (k.0 e).0, λ h. k.1 (h, tt))
  where
    k : (cond (eqb b 0x90) (header_from [] bs) (refused_with 1) ≡ refused_with 1) ↔ ((¬ (b ≡ 0x90)) × Unit {0})
    k = later-case (tells-equal b 0x90) (not-one bs) (λ e. tt, λ h. refl)

-- what follows an introducer at the very start
abbrev pub Introduced : List ℕ → (List ℕ → Type 0) → Type 0
Introduced bs P = (i later : List ℕ) × Introducer i × (bs ≡ i ++ later) × P later

introduced-map : (bs : List ℕ) {P Q : List ℕ → Type 0} → ((later : List ℕ) → P later ↔ Q later) → Introduced bs P ↔ Introduced bs Q
introduced-map bs f = (λ h. (h.0, h.1, h.2, h.3, (f h.1).0 h.4), λ h. (h.0, h.1, h.2, h.3, (f h.1).1 h.4))

-- 2 and 3 are given exactly when, after an introducer at the very start, the header is refused so.
pub sequence-exactly : (bs : List ℕ) (n : ℕ) → (2 ≤ n) × (n ≤ 3)
    → (sequence_payload bs ≡ refused_with n) ↔ Introduced bs (λ later. header_from [] later ≡ refused_with n)
unfolding sequence_payload after_first_escape
sequence-exactly bs n range = (to bs, λ h. ap sequence_payload h.3 ∙ introducer-sequence h.2 h.1 ∙ h.4)
  where
    not-one-here : {X : Type 0} → refused_with 1 ≡ refused_with n → X
    not-one-here e = let same : 1 ≡ n = cc in absurd (omega arith)

    second : (b c : ℕ) (cs : List ℕ) → b ≡ escape → (t : Bool) → eqb c 0x50 ≡ t → cond t (header_from [] cs) (refused_with 1) ≡ refused_with n
        → Introduced (b ∷ c ∷ cs) (λ later. header_from [] later ≡ refused_with n)
    second b c cs first true q e =
        (escape ∷ 0x50 ∷ [], cs, escaped, ap₂ (λ (x y : ℕ). x ∷ y ∷ cs) first (eqb-true c 0x50 q), e)
    second b c cs first false q e = not-one-here e

    first : (b : ℕ) (bs : List ℕ) (t u : Bool) → eqb b escape ≡ t → eqb b 0x90 ≡ u
        → cond t (after_first_escape bs) (cond u (header_from [] bs) (refused_with 1)) ≡ refused_with n
        → Introduced (b ∷ bs) (λ later. header_from [] later ≡ refused_with n)
    first b [] true u q r e = not-lacking e
    first b (c ∷ cs) true u q r e = second b c cs (eqb-true b escape q) (eqb c 0x50) refl e
    first b bs false true q r e = (0x90 ∷ [], bs, c1, ap (λ (x : ℕ). x ∷ bs) (eqb-true b 0x90 r), e)
    first b bs false false q r e = not-one-here e

    to : (bs : List ℕ) → sequence_payload bs ≡ refused_with n → Introduced bs (λ later. header_from [] later ≡ refused_with n)
    to [] e = not-lacking e
    to (b ∷ bs) e = first b bs (eqb b escape) (eqb b 0x90) refl refl e

module _ (s : Setting) (p : Palette) (bs : List ℕ) where
  -- So reading a DCS sequence from its first byte is refused with 1, 2 and 3.
  pub one-read : ((read_sequence s p bs).how ≡ refused_by 1) ↔ NoIntroducer bs
  one-read = Iff.trans (sequence-refused s p bs 1 (omega arith)) (one-exactly bs)

  pub two-read : ((read_sequence s p bs).how ≡ refused_by 2) ↔ Introduced bs (λ later. Other later Cuts)
  two-read =
      Iff.trans (sequence-refused s p bs 2 (omega arith))
      (Iff.trans (sequence-exactly bs 2 (omega arith, omega arith)) (introduced-map bs (λ later. two-exactly [] later)))

  pub three-read : ((read_sequence s p bs).how ≡ refused_by 3) ↔ Introduced bs (λ later. Other later (λ b. (¬ (b ≡ 0x71)) × (¬ Cuts b)))
  three-read =
      Iff.trans (sequence-refused s p bs 3 (omega arith))
      (Iff.trans (sequence-exactly bs 3 (omega arith, omega arith)) (introduced-map bs (λ later. three-exactly [] later)))

-- ---- an input read at once

-- it has no payload
abbrev pub NoPart : Found → Type 0
NoPart (found o part) = ⊥
NoPart lacking = Unit {0}
NoPart (refused_with n) = Unit {0}

-- and so it is exactly when there is an introducer anywhere and it is so of the header after the first.
pub shot-exactly : (bs : List ℕ) (f : Found) → NoPart f
    → (find_payload bs ≡ f) ↔ ((later : List ℕ) × (after_introducer bs ≡ some later) × (header_from [] later ≡ f))
unfolding find_payload
shot-exactly bs f none-there = go (after_introducer bs)
  where
    go : (o : Option (List ℕ)) → (elim o as (λ _. Found) [ none ↦ found no_parameters bs | some later ↦ header_from [] later ] ≡ f)
        ↔ ((later : List ℕ) × (o ≡ some later) × (header_from [] later ≡ f))
    go none = (
      λ e. absurd (subst NoPart (sym e) none-there),
      λ h. let q : none ≡ some h.0 = h.1 in let never : ◌≡◌ {A = ℕ} 0 1 = cc in absurd (omega arith),
    )
    go (some later) = (λ e. (later, refl, e), λ h. let same : later ≡ h.0 = cc h.1 in ap (header_from []) same ∙ h.2)

-- the number that is answered then: 8 where bytes are missing, else the header's
pub data Unfound : Found → ℕ → Type 0 where
  short : Unfound lacking 8
  turned : {n : ℕ} → n ≤ 3 → Unfound (refused_with n) n

pub unfound-none : {f : Found} {n : ℕ} → Unfound f n → NoPart f
unfound-none short = tt
unfound-none (turned low) = tt
