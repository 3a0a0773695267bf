-- Where a call of a DCS sequence is refused first, phase by phase: before the payload, in it, and at and after its end.
use Rattle.std.specs.Prelude.{◌≡◌, ℕ, suc, ◌+◌, ◌-◌, Bool, true, false, cond, ◌||◌, eqb, List, [], ◌∷◌, drop, Ok, Err}
use native.Mathlib.Numerals.{add-one}
use mathlib.Core.Option.{Option, none, some}
use mathlib.Core.Path.{refl, sym, ap, ap₂, ◌∙◌, subst}
use lib.Seq.{drop-drop}
use Rattle.numbers.specs.declared.Parameters.{Parameters}
use Rattle.colours.specs.declared.Palette.{Palette}
use Rattle.frame.specs.declared.Refusal.{Refusal}
use Rattle.frame.specs.Numbers.{number_of}
use Rattle.meaning.specs.Drawing.{Setting}
use Rattle.meaning.specs.Payload as meant
use Rattle.meaning.specs.Reader.{Step, next, halt, refuse, How, read_all, stopped, halted, refused_by, is_refused, Run, still, after, follow, call}
use Rattle.meaning.specs.Sessions as sessions
use Rattle.meaning.specs.Sessions.{Reading, End, Phase, header, within, after_escape, over, complete, cancelled, interrupted}
use Rattle.meaning.specs.Sessions.{payload_step, end_step, within_step, escape_step, dcs_step, dcs_rested}
use Rattle.meaning.specs.Tellings.{Shortage, Telling, told_at, first_refused, byte_shortage}
use Rattle.meaning.specs.Tellings.{dcs_shortage}
use Rattle.meaning.proofs.Framing.{in_payload}
use Rattle.payload.specs.Meant as payload_meant
use Rattle.header.specs.declared.Lead.{Lead}
use Rattle.header.specs.Results.{Led}
use Rattle.header.specs.declared.Led.TheVariants as leds
use Rattle.header.specs.declared.Place.{Place}
use Rattle.header.specs.declared.Step as lead_step
use Rattle.header.specs.Lead.{lead_at, lead_on, lead_from}
use Rattle.header.specs.Settings.{settings_from}
use Rattle.dcs.specs.History.{SamePlace, at_start, at_introduced, in_header}
use Rattle.dcs.proofs.Leading as leading
use Rattle.dcs.proofs.Leading.{LeadAgrees, byte-leads}
use Rattle.dcs.proofs.Runs.{call-dry, call_halts, call-refuses, framed_call, end_call, within-call}
use Rattle.explain.proofs.PayloadTells.{call_of, first_of}

-- a call of a sequence, and where it is refused
abbrev pub dcs_call : Setting → Palette → ℕ → Phase → List ℕ → Run Phase
dcs_call s p a x bs = call (dcs_step s p) (dcs_rested s) a x bs

abbrev pub dcs_first : Setting → Palette → ℕ → Phase → List ℕ → Option Telling
dcs_first s p at x bs = first_refused (dcs_step s p) (dcs_shortage s) at x bs

abbrev pub refused_in : Run Phase → Bool
refused_in q = is_refused q.how

-- ---- at and after the end

-- what follows a byte, in the telling and in the call
abbrev first_after : Setting → Palette → ℕ → Option Shortage → Step Phase → List ℕ → Option Telling
first_after s p at need x bs =
    elim x as (λ _. Option Telling) [
      | next t i ↦ dcs_first s p (suc at) t bs
      | halt t ↦ none
      | refuse t n ↦ some (told_at at n need)
    ]

-- a step after which nothing is refused
data Quiet (s : Setting) (p : Palette) (bs : List ℕ) : Step Phase → Type 0 where
  goes_on : {t : Phase} → ((at : ℕ) → dcs_first s p at t bs ≡ none) → ((a : ℕ) → refused_in (dcs_call s p a t bs) ≡ false) → Quiet s p bs (next t 0)
  stays : {t : Phase} → Quiet s p bs (halt t)

module _ (s : Setting) (p : Palette) (x : Phase) (b : ℕ) (bs : List ℕ) where
  quiet-first : {y : Step Phase} (at : ℕ) → dcs_step s p x b ≡ y → Quiet s p bs y → dcs_first s p at x (b ∷ bs) ≡ none
  unfolding first_refused
  quiet-first at e (goes_on h k) = ap (λ (y : Step Phase). first_after s p at (dcs_shortage s x b) y bs) e ∙ h (suc at)
  quiet-first at e stays = ap (λ (y : Step Phase). first_after s p at (dcs_shortage s x b) y bs) e

  quiet-refused : {y : Step Phase} (a : ℕ) → dcs_step s p x b ≡ y → Quiet s p bs y → refused_in (dcs_call s p a x (b ∷ bs)) ≡ false
  unfolding after still is_refused
  quiet-refused a e (goes_on h k) = ap refused_in (call-dry (dcs_step s p) (dcs_rested s) a x b bs e) ∙ k a
  quiet-refused a e stays = ap refused_in (call_halts (dcs_step s p) (dcs_rested s) a x b bs e)

-- an ended sequence reads no more
pub over_first : (s : Setting) (p : Palette) (e : End) (r : Reading) (bs : List ℕ) (at : ℕ) → dcs_first s p at (over e r) bs ≡ none
unfolding first_refused dcs_step
over_first s p e r [] at = refl
over_first s p e r (b ∷ bs) at = refl

pub over-refused : (s : Setting) (p : Palette) (e : End) (r : Reading) (bs : List ℕ) (a : ℕ) → refused_in (dcs_call s p a (over e r) bs) ≡ false
unfolding call still is_refused follow dcs_step
over-refused s p e r [] a = refl
over-refused s p e r (b ∷ bs) a = refl

-- nor is a byte refused after the 1B that ended a payload
escape-quiet : (s : Setting) (p : Palette) (r : Reading) (b : ℕ) (bs : List ℕ) → Quiet s p bs (escape_step r b)
unfolding escape_step
escape-quiet s p r b bs = go (eqb b 0x5C)
  where
    go : (t : Bool) → Quiet s p bs (cond t (next (over complete r) 0) (halt (over (interrupted 0x1B) r)))
    go true = goes_on (over_first s p complete r bs) (over-refused s p complete r bs)
    go false = stays

pub escape-first : (s : Setting) (p : Palette) (r : Reading) (bs : List ℕ) (at : ℕ) → dcs_first s p at (after_escape r) bs ≡ none
unfolding first_refused dcs_step
escape-first s p r [] at = refl
escape-first s p r (b ∷ bs) at = quiet-first s p (after_escape r) b bs at refl (escape-quiet s p r b bs)

pub escape-refused : (s : Setting) (p : Palette) (r : Reading) (bs : List ℕ) (a : ℕ) → refused_in (dcs_call s p a (after_escape r) bs) ≡ false
unfolding call still is_refused dcs_step
escape-refused s p r [] a = refl
escape-refused s p r (b ∷ bs) a = quiet-refused s p (after_escape r) b bs a refl (escape-quiet s p r b bs)

-- nor the byte that ended a payload, nor what follows it
end_quiet : (s : Setting) (p : Palette) (r : Reading) (b : ℕ) (bs : List ℕ) → Quiet s p bs (end_step r b)
unfolding end_step
end_quiet s p r b bs = go (eqb b 0x1B) (eqb b 0x9C) (eqb b 0x18 || eqb b 0x1A)
  where
    go : (x y z : Bool) → Quiet s p bs
        (cond x (next (after_escape r) 0)
        (cond y (next (over complete r) 0)
        (cond z (next (over (cancelled b) r) 0) (halt (over (interrupted b) r)))))
    go true y z = goes_on (escape-first s p r bs) (escape-refused s p r bs)
    go false true z = goes_on (over_first s p complete r bs) (over-refused s p complete r bs)
    go false false true = goes_on (over_first s p (cancelled b) r bs) (over-refused s p (cancelled b) r bs)
    go false false false = stays

-- ---- in the payload

-- what a sequence makes of its payload's step
abbrev stepped : Reading → ℕ → Step Reading → Step Phase
stepped r b x = elim x as (λ _. Step Phase) [ next t i ↦ next (within t) i | halt t ↦ end_step t b | refuse t n ↦ refuse (within t) n ]

quiet-after : {s : Setting} {p : Palette} {bs : List ℕ} {y : Step Phase} (at : ℕ) (need : Option Shortage) → Quiet s p bs y → first_after s p at need y bs ≡ none
quiet-after at need (goes_on h k) = h (suc at)
quiet-after at need stays = refl

-- the first refused byte is the payload's
pub within_first : (s : Setting) (p : Palette) (bs : List ℕ) (at : ℕ) (r : Reading) → dcs_first s p at (within r) bs ≡ first_of s at r bs
unfolding first_refused dcs_step within_step dcs_shortage told_at
within_first s p [] at r = refl
within_first s p (b ∷ bs) at r = go (payload_step s r b) (within_first s p bs (suc at))
  where
    need : Option Shortage
    need = byte_shortage s r b

    told : Step Reading → Option Telling
    told x =
        elim x [
          | next t i ↦ first_of s (suc at) t bs
          | halt t ↦ none
          | refuse t n ↦ some (told_at at n need)
        ]

    go : (x : Step Reading) → ((t : Reading) → dcs_first s p (suc at) (within t) bs ≡ first_of s (suc at) t bs)
        → first_after s p at need (stepped r b x) bs ≡ told x
    go (next t i) later = later t
    go (halt t) later = quiet-after at need (end_quiet s p t b bs)
    go (refuse t n) later = refl

-- and so is whether a call is refused
quiet-follow : {s : Setting} {p : Palette} {bs : List ℕ} {y : Step Phase} (a : ℕ) → Quiet s p bs y
    → refused_in (follow y (λ u i. after 1 i (dcs_call s p a u bs))) ≡ false
unfolding follow after still is_refused
quiet-follow a (goes_on h k) = k a
quiet-follow a stays = refl

end_refused : (s : Setting) (p : Palette) (a : ℕ) (t : Reading) (us : List ℕ) → refused_in (end_call s p a t us) ≡ false
unfolding end_call still is_refused
end_refused s p a t [] = refl
end_refused s p a t (b ∷ bs) = quiet-follow a (end_quiet s p t b bs)

framed-refused : (s : Setting) (p : Palette) (a : ℕ) (bs : List ℕ) (q : Run Reading) (h : How)
    → refused_in (framed_call s p a (record { state = q.state; consumed = q.consumed; ink = q.ink; how = h }) bs) ≡ is_refused h
unfolding framed_call in_payload after is_refused
framed-refused s p a bs q read_all = refl
framed-refused s p a bs q stopped = refl
framed-refused s p a bs q halted = end_refused s p (a - q.ink) q.state (drop q.consumed bs)
framed-refused s p a bs q (refused_by n) = refl

pub within-refused : (s : Setting) (p : Palette) (a : ℕ) (r : Reading) (bs : List ℕ)
    → refused_in (dcs_call s p a (within r) bs) ≡ is_refused (call_of s a r bs).how
within-refused s p a r bs =
    let q : Run Reading = call_of s a r bs in
    ap refused_in (within-call s p a r bs) ∙ framed-refused s p a bs q q.how

-- ---- before the payload

-- the definition's payload, opened by a header
abbrev payload_by : Palette → Parameters → Reading
payload_by p h = sessions.opened (payload_meant.parameters_meant (settings_from h)) p

module _ (s : Setting) (p : Palette) (whole : List ℕ) (a : ℕ) where
  -- what introducer and header lead to, told: nothing, a refused byte, or what is told of the payload from there on
  pub data LeadTells : Lead → Option Telling → Bool → Type 0 where
    waits : {l : Lead} → l.led ≡ Ok leds.On → LeadTells l none false
    turns : {l : Lead} (why : Refusal) → l.led ≡ Err why → LeadTells l (some (told_at l.consumed (number_of why) none)) true
    begins : {l : Lead} → l.led ≡ Ok leds.Begins
        → LeadTells l (first_of s l.consumed (payload_by p l.header) (drop l.consumed whole))
        (is_refused (call_of s a (payload_by p l.header) (drop l.consumed whole)).how)

  -- where the bytes lead, if the one before them led to w
  abbrev on : Led → lead_step.Step → ℕ → List ℕ → Lead
  on w t n bs = lead_on w t n (λ n' t' h'. lead_from bs n' t' h')

  as-led : {w : Led} {o : Option Telling} {u : Bool} (t : lead_step.Step) (n : ℕ) (bs : List ℕ) → t.led ≡ w → LeadTells (on w t n bs) o u
      → LeadTells (on t.led t n bs) o u
  as-led {o = o} {u} t n bs e h = subst (λ (w : Led). LeadTells (on w t n bs) o u) (sym e) h

  -- one byte, where the later ones are known
  byte-lead : (n b : ℕ) (bs : List ℕ) (x : Phase) {t : lead_step.Step} {y : Step Phase} → drop n whole ≡ b ∷ bs → LeadAgrees p t y → dcs_step s p x b ≡ y
      → ((q : Place) (h : Parameters) (z : Phase) → SamePlace q h z
      → LeadTells (lead_from bs (n + 1) q h) (dcs_first s p (n + 1) z bs) (refused_in (dcs_call s p a z bs)))
      → (need : Option Shortage) → need ≡ none
      → LeadTells (on t.led t n bs) (first_after s p n need y bs) (refused_in (dcs_call s p a x (b ∷ bs)))
  unfolding lead_on after still is_refused
  byte-lead n b bs x {t} at (leading.goes_on {x = z} e same) step later need q =
      as-led t n bs e
      (subst (λ (k : ℕ). LeadTells (lead_from bs (n + 1) t.place t.header) (dcs_first s p k z bs) (refused_in (dcs_call s p a x (b ∷ bs)))) (add-one n)
      (subst (LeadTells (lead_from bs (n + 1) t.place t.header) (dcs_first s p (n + 1) z bs))
      (sym (ap refused_in (call-dry (dcs_step s p) (dcs_rested s) a x b bs step)))
      (later t.place t.header z same)))
  byte-lead n b bs x {t} at (leading.begins {o = o} e same) step later need q =
      as-led t n bs e
      (subst (λ (u : Bool). LeadTells here (dcs_first s p (suc n) (within (sessions.opened o p)) bs) u) (sym judged)
      (subst
      (λ (u : Option Telling). LeadTells here u (is_refused (call_of s a (payload_by p t.header) (drop (n + 1) whole)).how))
      (sym told)
      (begins refl)))
    where
      here : Lead
      here = lead_at t.place t.header (n + 1) (Ok leds.Begins)

      rest : drop (n + 1) whole ≡ bs
      rest = sym (drop-drop 1 n whole) ∙ ap (drop 1) at

      told : dcs_first s p (suc n) (within (sessions.opened o p)) bs ≡ first_of s (n + 1) (payload_by p t.header) (drop (n + 1) whole)
      told =
          within_first s p bs (suc n) (sessions.opened o p)
          ∙ ap₂ (λ (k : ℕ) (us : List ℕ). first_of s k (sessions.opened o p) us) (sym (add-one n)) (sym rest)
          ∙ ap (λ (v : meant.Parameters). first_of s (n + 1) (sessions.opened v p) (drop (n + 1) whole)) same

      judged : refused_in (dcs_call s p a x (b ∷ bs)) ≡ is_refused (call_of s a (payload_by p t.header) (drop (n + 1) whole)).how
      judged =
          ap refused_in (call-dry (dcs_step s p) (dcs_rested s) a x b bs step)
          ∙ within-refused s p a (sessions.opened o p) bs
          ∙ ap (λ (us : List ℕ). is_refused (call_of s a (sessions.opened o p) us).how) (sym rest)
          ∙ ap (λ (v : meant.Parameters). is_refused (call_of s a (sessions.opened v p) (drop (n + 1) whole)).how) same
  byte-lead n b bs x {t} at (leading.turns_down {x = z} {n = m} why e number same) step later need q =
      as-led t n bs e
      (subst (λ (u : Bool). LeadTells (lead_at t.place t.header n (Err why)) (some (told_at n m need)) u)
      (sym (ap refused_in (call-refuses (dcs_step s p) (dcs_rested s) a x b bs step)))
      (subst (λ (u : Option Telling). LeadTells (lead_at t.place t.header n (Err why)) u true)
      (ap₂ (λ (k : ℕ) (o : Option Shortage). some (told_at n k o)) number (sym q)) (turns why refl)))

  -- before the payload nothing is needed
  place-need : {t : Place} {h : Parameters} {x : Phase} (b : ℕ) → SamePlace t h x → dcs_shortage s x b ≡ none
  unfolding dcs_shortage
  place-need b (at_start r) = refl
  place-need b (at_introduced r) = refl
  place-need b (in_header r) = refl

  pub lead-tells : (bs : List ℕ) (t : Place) (h : Parameters) (x : Phase) → SamePlace t h x → (n : ℕ) → drop n whole ≡ bs
      → LeadTells (lead_from bs n t h) (dcs_first s p n x bs) (refused_in (dcs_call s p a x bs))
  unfolding lead_from first_refused call still is_refused
  lead-tells [] t h x same n e = waits refl
  lead-tells (b ∷ bs) t h x same n e =
      byte-lead n b bs x e (byte-leads s p b same) refl
      (λ q h' z k. lead-tells bs q h' z k (n + 1) (sym (drop-drop 1 n whole) ∙ ap (drop 1) e))
      (dcs_shortage s x b)
      (place-need b same)
