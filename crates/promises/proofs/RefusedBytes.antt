-- 1 to 7 of a session's next byte are given exactly when rule 5.1 says: by a payload, and by a DCS sequence.
use Prim.Native.Nat.{ℕ, ◌≤◌}
use mathlib.Core.Bool.{Bool, true, false, cond, ◌||◌}
use mathlib.Core.List.{List, [], ◌∷◌, ◌++◌}
use mathlib.Core.Logic.{◌↔◌, ◌⊎◌, inl, inr}
use mathlib.Core.Option.{Option, none, some}
use mathlib.Core.Path.{◌≡◌, refl, sym, ap, ap₂, ◌∙◌, subst}
use native.Mathlib.Omega.{arith}
use lib.Dec.{eqb}
use Rattle.numbers.specs.Bytes.{skipped, ends}
use Rattle.colours.specs.declared.Palette.{Palette}
use Rattle.meaning.specs.Commands.{Placed, Scanned, of_values, closed, scan_byte}
use Rattle.meaning.specs.Drawing.{Setting, Drawing, Outcome, draw_all}
use Rattle.meaning.specs.Reader.{Step, next, halt, refuse}
use Rattle.meaning.specs.Sessions.{HeaderByte, Reading, opened, settled, ended_at, went_on, read_byte, payload_step, complete, cancelled, interrupted, escape, Phase, start, introduced, header, within, after_escape, over, goes_on, settles, wrong, header_byte, parameters_of, start_step, introduced_step, header_step, end_step, within_step, escape_step, dcs_step}
use Rattle.meaning.proofs.AreaLaws.{FourToSeven, draw_all-numbers}
use Rattle.promises.proofs.Choices.{tells-itself, tells-equal, later-case, either-case}
use Rattle.promises.proofs.RefusedCommands.{RefusedAt, commands-exactly}
use Rattle.promises.proofs.RefusedHeaders.{Cuts, tells-ends}

-- a step that is no refusal
next-refused : {S X : Type 0} {t u : S} {i n : ℕ} → next t i ≡ refuse u n → X
next-refused e = let never : ◌≡◌ {A = ℕ} 0 1 = cc in absurd (omega arith)

halt-refused : {S X : Type 0} {t u : S} {n : ℕ} → halt t ≡ refuse u n → X
halt-refused e = let never : ◌≡◌ {A = ℕ} 0 1 = cc in absurd (omega arith)

-- ---- a payload

-- the commands that a byte ends or is: the begun one, and its own
unfoldable pub commands_at : Reading → ℕ → List Placed
commands_at r b = cond (ends b) (closed r.begun) (scan_byte r.passed r.begun b).ended

-- what a refused byte leaves: no begun command, and a drawing
unfoldable pub left_with : Reading → Drawing → Reading
left_with r f = record { parameters = r.parameters; passed = r.passed; begun = none; drawing = f; over = none }

-- a byte is refused: the payload goes on, and of the commands that the byte ends or is one is refused
pub record ByteRefused (s : Setting) (r : Reading) (b : ℕ) (t : Reading) (n : ℕ) : Type 0 where
  pub ongoing : r.over ≡ none
  pub leaves : t ≡ left_with r t.drawing
  pub command : RefusedAt s (commands_at r b) r.drawing t.drawing n

module _ (s : Setting) (r : Reading) (b : ℕ) where
  -- what an outcome of commands makes of the byte
  made : Option ℕ → Drawing → Step Reading → Step Reading
  made o d on = elim o [ none ↦ on | some m ↦ refuse (left_with r d) m ]

  -- the refused reading is what the drawing leaves
  abbrev Leaves : Outcome → Reading → ℕ → Type 0
  Leaves out t n = (t ≡ left_with r t.drawing) × (out ≡ record { drawing = t.drawing; refusal = some n })

  made-refused : (o : Option ℕ) (d : Drawing) (on : Step Reading) (t : Reading) (n : ℕ) → ¬ (on ≡ refuse t n)
      → (made o d on ≡ refuse t n) ↔ Leaves (record { drawing = d; refusal = o }) t n
  unfolding made left_with
  made-refused none d on t n other = (
    λ e. absurd (other e),
    λ h. let q : none ≡ some n = ap (λ (x : Outcome). x.refusal) h.1 in let never : ◌≡◌ {A = ℕ} 0 1 = cc in absurd (omega arith),
  )
  made-refused (some m) d on t n other = (
    λ e.
        let left : left_with r d ≡ t = cc in
        let number : m ≡ n = cc in
        let drawing : d ≡ t.drawing = ap (λ (x : Reading). x.drawing) left in
        (sym left ∙ ap (left_with r) drawing, ap₂ (λ (x : Drawing) (k : ℕ). record { drawing = x; refusal = some k }) drawing number),
    λ h.
        let number : some m ≡ some n = ap (λ (x : Outcome). x.refusal) h.1 in
        let drawing : d ≡ t.drawing = ap (λ (x : Outcome). x.drawing) h.1 in
        ap₂ refuse (ap (left_with r) drawing ∙ sym h.0) (cc),
  )

  read-refused : (t : Reading) (n : ℕ) → (read_byte s r b ≡ refuse t n) ↔ Leaves (draw_all s (commands_at r b) r.drawing) t n
  unfolding read_byte ended_at went_on settled commands_at made left_with
  read-refused t n = go (ends b)
    where
      c : Scanned
      c = scan_byte r.passed r.begun b

      go : (u : Bool)
          → (cond u (ended_at b r (draw_all s (closed r.begun) r.drawing)) (went_on r c (draw_all s c.ended r.drawing))
          ≡ refuse t n)
          ↔ Leaves (draw_all s (cond u (closed r.begun) c.ended) r.drawing) t n
      go true =
          let out : Outcome = draw_all s (closed r.begun) r.drawing in
          made-refused out.refusal out.drawing _ t n halt-refused
      go false = let out : Outcome = draw_all s c.ended r.drawing in made-refused out.refusal out.drawing _ t n next-refused

  -- A payload's byte is refused exactly when one of the commands that it ends or is has been refused, and what is left is the
  -- drawing of the commands before that one.
  pub byte-exactly : (t : Reading) (n : ℕ) → (payload_step s r b ≡ refuse t n) ↔ ByteRefused s r b t n
  unfolding payload_step
  byte-exactly t n = (λ e. to r.over refl e, from)
    where
      to : (o : Option ℕ) → r.over ≡ o → elim o as (λ _. Step Reading) [ none ↦ read_byte s r b | some e ↦ halt r ] ≡ refuse t n
          → ByteRefused s r b t n
      to none q e =
          let h = (read-refused t n).0 e in
          record { ongoing = q; leaves = h.0; command = (commands-exactly s (commands_at r b) r.drawing t.drawing n).0 h.1 }
      to (some x) q e = halt-refused e

      from : ByteRefused s r b t n → elim r.over as (λ _. Step Reading) [ none ↦ read_byte s r b | some e ↦ halt r ] ≡ refuse t n
      from h =
          ap (λ (o : Option ℕ). elim o as (λ _. Step Reading) [ none ↦ read_byte s r b | some e ↦ halt r ]) h.ongoing
          ∙ (read-refused t n).1 (h.leaves, (commands-exactly s (commands_at r b) r.drawing t.drawing n).1 h.command)

  -- by 4, 5, 6 or 7 alone
  pub byte-numbers : {t : Reading} {n : ℕ} → payload_step s r b ≡ refuse t n → (4 ≤ n) × (n ≤ 7)
  byte-numbers {t} {n} e =
      let h : ByteRefused s r b t n = (byte-exactly t n).0 e in
      subst FourToSeven (ap (λ (x : Outcome). x.refusal) ((commands-exactly s (commands_at r b) r.drawing t.drawing n).1 h.command))
      (draw_all-numbers s (commands_at r b) r.drawing)

-- ---- a DCS sequence

-- a header's byte that is refused: it is neither skipped nor a digit, `;` or `q`; 18, 1A, 1B or 80-9F is 2, any other 3
abbrev pub HeaderRefused : List ℕ → ℕ → Phase → ℕ → Type 0
HeaderRefused bs b u n =
    (¬ (skipped b ≡ true))
    × ((¬ (of_values b ≡ true))
    × ((¬ (b ≡ 0x71)) × ((Cuts b × ((u ≡ header bs) × (n ≡ 2))) ⊎ ((¬ Cuts b) × ((u ≡ header bs) × (n ≡ 3))))))

-- what a byte of a DCS sequence is refused with, and what that leaves: before the payload the sequence as it was, within it what
-- the payload's byte leaves
abbrev pub DcsRefused : Setting → Phase → ℕ → Phase → ℕ → Type 0
DcsRefused s start b u n = (¬ (b ≡ escape)) × ((¬ (b ≡ 0x90)) × ((u ≡ start) × (n ≡ 1)))
DcsRefused s introduced b u n = (¬ (b ≡ 0x50)) × ((u ≡ introduced) × (n ≡ 1))
DcsRefused s (header bs) b u n = HeaderRefused bs b u n
DcsRefused s (within r) b u n = (t : Reading) × (u ≡ within t) × ByteRefused s r b t n
DcsRefused s (after_escape r) b u n = ⊥
DcsRefused s (over e r) b u n = ⊥

refuse-exactly : (t u : Phase) (m n : ℕ) → (refuse t m ≡ refuse u n) ↔ ((u ≡ t) × (n ≡ m))
refuse-exactly t u m n = (λ e. (cc, cc), λ h. ap₂ refuse (sym h.0) (sym h.1))

-- a byte that ends a payload is not refused
end_read : (r : Reading) (b : ℕ) {u : Phase} {n : ℕ} → end_step r b ≡ refuse u n → ⊥
unfolding end_step
end_read r b {u} {n} e = go (eqb b escape) (eqb b 0x9C) (eqb b 0x18 || eqb b 0x1A) e
  where
    go : (t v w : Bool)
        → cond t (next (after_escape r) 0)
        (cond v (next (over complete r) 0) (cond w (next (over (cancelled b) r) 0) (halt (over (interrupted b) r))))
        ≡ refuse u n
        → ⊥
    go true v w e = next-refused e
    go false true w e = next-refused e
    go false false true e = next-refused e
    go false false false e = halt-refused e

module _ (s : Setting) (p : Palette) (b : ℕ) (u : Phase) (n : ℕ) where
  header-step : (bs : List ℕ) → header_step p bs b
      ≡ cond (skipped b) (next (header bs) 0)
      (cond (of_values b) (next (header (bs ++ (b ∷ []))) 0)
      (cond (eqb b 0x71) (next (within (opened (parameters_of bs) p)) 0)
      (cond (ends b) (refuse (header bs) 2) (refuse (header bs) 3))))
  unfolding header_step header_byte
  header-step bs = go (skipped b) (of_values b) (eqb b 0x71) (ends b)
    where
      leads : HeaderByte → Step Phase
      leads y = elim y [ goes_on more ↦ next (header more) 0 | settles o ↦ next (within (opened o p)) 0 | wrong m ↦ refuse (header bs) m ]

      go : (t v w x : Bool)
          → leads (cond t (goes_on bs) (cond v (goes_on (bs ++ (b ∷ []))) (cond w (settles (parameters_of bs)) (cond x (wrong 2) (wrong 3)))))
          ≡ cond t (next (header bs) 0)
          (cond v (next (header (bs ++ (b ∷ []))) 0)
          (cond w (next (within (opened (parameters_of bs) p)) 0) (cond x (refuse (header bs) 2) (refuse (header bs) 3))))
      go true v w x = refl
      go false true w x = refl
      go false false true x = refl
      go false false false true = refl
      go false false false false = refl

  header_refused : (bs : List ℕ) → (header_step p bs b ≡ refuse u n) ↔ HeaderRefused bs b u n
  header_refused bs =
      let k =
      later-case (tells-itself {t = skipped b}) next-refused
      (later-case (tells-itself {t = of_values b}) next-refused
      (later-case (tells-equal b 0x71) next-refused
      (either-case (tells-ends b) (refuse-exactly (header bs) u 2 n) (refuse-exactly (header bs) u 3 n)))) in
      (λ e. k.0 (sym (header-step bs) ∙ e), λ h. header-step bs ∙ k.1 h)

  within-refused : (r : Reading) → (within_step s r b ≡ refuse u n) ↔ ((t : Reading) × (u ≡ within t) × ByteRefused s r b t n)
  unfolding within_step
  within-refused r = (
    λ e. to (payload_step s r b) refl e,
    λ h. ap leads ((byte-exactly s r b h.0 n).1 h.2) ∙ ap (λ (x : Phase). refuse x n) (sym h.1),
  )
    where
      leads : Step Reading → Step Phase
      leads x = elim x [ next t i ↦ next (within t) i | halt t ↦ end_step t b | refuse t m ↦ refuse (within t) m ]

      to : (x : Step Reading) → payload_step s r b ≡ x → leads x ≡ refuse u n → (t : Reading) × (u ≡ within t) × ByteRefused s r b t n
      to (next t i) q e = next-refused e
      to (halt t) q e = absurd (end_read t b e)
      to (refuse t m) q e =
          let h = (refuse-exactly (within t) u m n).0 e in (t, h.0, (byte-exactly s r b t n).0 (q ∙ ap (refuse t) (sym h.1)))

  -- 1 is given exactly when the first byte is not 1B or 90, or the byte after 1B is not `P`; 2 and 3 exactly when it is a header's
  -- and so; 4 to 7 exactly when the payload's byte is refused.
  pub dcs-byte-exactly : (t : Phase) → (dcs_step s p t b ≡ refuse u n) ↔ DcsRefused s t b u n
  unfolding dcs_step start_step introduced_step escape_step
  dcs-byte-exactly start =
      later-case (tells-equal b escape) next-refused (later-case (tells-equal b 0x90) next-refused (refuse-exactly start u 1 n))
  dcs-byte-exactly introduced = later-case (tells-equal b 0x50) next-refused (refuse-exactly introduced u 1 n)
  dcs-byte-exactly (header bs) = header_refused bs
  dcs-byte-exactly (within r) = within-refused r
  dcs-byte-exactly (after_escape r) = (λ e. go (eqb b 0x5C) e, λ h. absurd h)
    where
      go : (t : Bool) → cond t (next (over complete r) 0) (halt (over (interrupted escape) r)) ≡ refuse u n → ⊥
      go true e = next-refused e
      go false e = halt-refused e
  dcs-byte-exactly (over e r) = (halt-refused, λ h. absurd h)

  -- by 1 to 7 alone
  pub dcs-byte-numbers : (t : Phase) → dcs_step s p t b ≡ refuse u n → (1 ≤ n) × (n ≤ 7)
  dcs-byte-numbers t e = go t ((dcs-byte-exactly t).0 e)
    where
      go : (t : Phase) → DcsRefused s t b u n → (1 ≤ n) × (n ≤ 7)
      go start h = let number : n ≡ 1 = h.1.1.1 in (omega arith, omega arith)
      go introduced h = let number : n ≡ 1 = h.1.1 in (omega arith, omega arith)
      go (header bs) h = among h.1.1.1
        where
          among : (Cuts b × ((u ≡ header bs) × (n ≡ 2))) ⊎ ((¬ Cuts b) × ((u ≡ header bs) × (n ≡ 3))) → (1 ≤ n) × (n ≤ 7)
          among (inl k) = let number : n ≡ 2 = k.1.1 in (omega arith, omega arith)
          among (inr k) = let number : n ≡ 3 = k.1.1 in (omega arith, omega arith)
      go (within r) h =
          let range : (4 ≤ n) × (n ≤ 7) = byte-numbers s r b ((byte-exactly s r b h.0 n).1 h.2) in (omega arith, range.1)
      go (after_escape r) h = absurd h
      go (over e r) h = absurd h
