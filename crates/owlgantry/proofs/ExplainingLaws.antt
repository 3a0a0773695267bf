-- What is told of the calls over a session in memory: one law for each path.
use Rattle.std.specs.Prelude.{◌≡◌, ℕ, List, ◌∷◌, get_or, replicate, Ok, Err, Some, None}
use Rattle.std.specs.Prelude as rust
use native.Mathlib.Omega.{arith}
use mathlib.Core.Path.{refl, sym, ap, ◌∙◌}
use Rattle.colours.specs.Palette.{of_table}
use Rattle.frame.specs.declared.Frame.{Frame}
use Rattle.frame.specs.declared.Refusal.{Refusal}
use Rattle.frame.specs.Numbers.{number_of}
use Rattle.payload.specs.declared.Life.{Life}
use Rattle.payload.specs.declared.Session as payload_session
use Rattle.payload.specs.declared.kernel.Setup.{Setup}
use Rattle.payload.specs.Codes.{life_from}
use Rattle.payload.specs.Core as payload_parts
use Rattle.payload.specs.Memory as payload_memory
use Rattle.payload.specs.Refusals.{is_failed, feed_judged}
use Rattle.dcs.specs.declared.Session as dcs_session
use Rattle.dcs.specs.declared.kernel.Core.{Core}
use Rattle.dcs.specs.Core as dcs_parts
use Rattle.dcs.specs.Memory as dcs_memory
use Rattle.words.specs.declared.Telling.{Telling}
use Rattle.words.specs.Memory.{place_numbers, need_numbers, numbers_of, having, refusal_from, telling_from}
use Rattle.words.proofs.MemoryLaws.{refusal-at, telling-back}
use Rattle.explain.specs.Explained.{Explained, placeless_for, unless_judged, fed_explained, payload_feed_explained, payload_finish_explained, dcs_feed_explained}
use Rattle.explain.specs.Explained.{dcs_finish_explained}
use Rattle.owlgantry.specs.Explaining.{told_number, told_numbers, told_as, payload_feed_told, payload_finish_told, dcs_feed_told, dcs_finish_told}
use Rattle.owlgantry.proofs.SessionCalls.{payload-held, core-held}

-- the first of the seven is the number that is answered
first-told : (x : Explained) → get_or (told_numbers x) 0 0 ≡ told_number x
unfolding told_number told_numbers numbers_of
first-told (Ok tt) = refl
first-told (Err t) = refl

-- what is told of a call, as numbers
pub told_of_lem : {x y : Explained} {seven : List ℕ} → seven ≡ told_numbers x → x ≡ y → (get_or seven 0 0, seven) ≡ told_as y
unfolding told_as
told_of_lem {y = y} k e = rw (k, e) (ap (λ (n : ℕ). (n, told_numbers y)) (first-told y))

-- ---- what is told of a session is told of the memory that holds it

module _ (ns ts : List ℕ) {u : Setup} {life : Life} {f : Frame} (eu : u ≡ payload_memory.setup_from ns) (el : life ≡ life_from (get_or ns 10 0))
    (ef : f ≡ payload_memory.frame_from ns) {x : Explained} {seven : List ℕ} where
  pub payload-feed-told : (size : ℕ) (bytes : List ℕ) (allowance : ℕ)
      → x ≡ payload_feed_explained (payload_parts.over u life f (of_table ts)) size bytes allowance → seven ≡ told_numbers x
      → (get_or seven 0 0, seven) ≡ payload_feed_told ns ts size bytes allowance
  unfolding payload_feed_told
  payload-feed-told size bytes allowance e k =
      told_of_lem k (e ∙ ap (λ (s : payload_session.Session). payload_feed_explained s size bytes allowance) (payload-held ns ts eu el ef))

  pub payload-finish-told : (size : ℕ) → x ≡ payload_finish_explained (payload_parts.over u life f (of_table ts)) size → seven ≡ told_numbers x
      → (get_or seven 0 0, seven) ≡ payload_finish_told ns ts size
  unfolding payload_finish_told
  payload-finish-told size e k =
      told_of_lem k (e ∙ ap (λ (s : payload_session.Session). payload_finish_explained s size) (payload-held ns ts eu el ef))

module _ (ns ts : List ℕ) {c : Core} (ec : c ≡ dcs_memory.core_from ns) {x : Explained} {seven : List ℕ} where
  pub dcs-feed-told : (size : ℕ) (bytes : List ℕ) (allowance : ℕ)
      → x ≡ dcs_feed_explained (dcs_parts.over c (of_table ts)) size bytes allowance → seven ≡ told_numbers x
      → (get_or seven 0 0, seven) ≡ dcs_feed_told ns ts size bytes allowance
  unfolding dcs_feed_told
  dcs-feed-told size bytes allowance e k =
      told_of_lem k (e ∙ ap (λ (s : dcs_session.Session). dcs_feed_explained s size bytes allowance) (core-held ns ts ec))

  pub dcs-finish-told : (size : ℕ) → x ≡ dcs_finish_explained (dcs_parts.over c (of_table ts)) size → seven ≡ told_numbers x
      → (get_or seven 0 0, seven) ≡ dcs_finish_told ns ts size
  unfolding dcs_finish_told
  dcs-finish-told size e k = told_of_lem k (e ∙ ap (λ (s : dcs_session.Session). dcs_finish_explained s size) (core-held ns ts ec))

-- ---- what a caller learns of any of them

-- no refusal has the number 0
some_number : (r : Refusal) → number_of r ≡ 0 → ⊥
unfolding refusal_from having number_of
some_number r e =
    let found : ◌≡◌ {A = rust.Option Refusal} (Some r) None = refusal-at r 0 (sym e) in
    let never : ◌≡◌ {A = ℕ} 0 1 = cc in
    omega arith

-- where the answer is 0, all that is told is zeros
pub nothing-told : (x : Explained) → (told_as x).0 ≡ 0 → (told_as x).1 ≡ replicate 7 0
unfolding told_as told_number told_numbers
nothing-told (Ok tt) e = refl
nothing-told (Err t) e = absurd (some_number t.refusal e)

-- and else the seven give back what is told of the refusal
pub all_told : (x : Explained) (t : Telling) → x ≡ Err t → telling_from (told_as x).1 ≡ Some t
unfolding told_as told_numbers
all_told x t e = rw e (telling-back t)

-- 48 zeros are no session: 9, which has no place and no need
pub payload-zeros-told : (ts bytes : List ℕ) (size allowance : ℕ)
    → payload_feed_told (replicate 48 0) ts size bytes allowance ≡ (9, 9 ∷ replicate 6 0)
unfolding payload_feed_told told_as told_number told_numbers payload_feed_explained fed_explained unless_judged placeless_for feed_judged is_failed
    payload_memory.session_from life_from numbers_of place_numbers need_numbers number_of
payload-zeros-told ts bytes size allowance = refl

pub dcs-zeros-told : (ts bytes : List ℕ) (size allowance : ℕ)
    → dcs_feed_told (replicate 48 0) ts size bytes allowance ≡ (9, 9 ∷ replicate 6 0)
unfolding dcs_feed_told told_as told_number told_numbers dcs_feed_explained unless_judged placeless_for feed_judged is_failed
    dcs_memory.session_from payload_memory.session_from life_from numbers_of place_numbers need_numbers number_of
dcs-zeros-told ts bytes size allowance = refl
