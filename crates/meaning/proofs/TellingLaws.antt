-- What is told of a refusal is of the answer that it stands beside: its number is the answer's, and its place is where reading is refused.
use Prim.Native.Nat.{ℕ, suc, ◌+◌, ◌-◌}
use native.Mathlib.Nat.{add-zero}
use native.Mathlib.Omega.{arith}
use mathlib.Core.Bool.{Bool, true, false, cond}
use mathlib.Core.List.{List, [], ◌∷◌}
use mathlib.Core.Option.{Option, none, some}
use mathlib.Core.Path.{◌≡◌, refl, sym, ap, ◌∙◌, subst}
use lib.Dec.{leb}
use lib.ListN.{length}
use Rattle.colours.specs.declared.Palette.{Palette}
use Rattle.canvas.specs.Picture.{Area}
use Rattle.meaning.specs.Calls as calls
use Rattle.meaning.specs.Commands.{closed}
use Rattle.meaning.specs.Drawing as drawing
use Rattle.meaning.specs.Drawing.{Setting, Outcome}
use Rattle.meaning.specs.OneShot.{Found, found, refused_with, find_payload, header_from, after_introducer, answer_of, one_shot}
use Rattle.meaning.specs.Payload.{Parameters, no_parameters, Finished, finished, turned_down, report_of, finish, payload}
use Rattle.meaning.specs.Reader.{Step, next, halt, refuse, How, read_all, stopped, halted, refused_by, is_refused, Run, still, after, follow, read_from, call}
use Rattle.meaning.specs.Sessions as sessions
use Rattle.meaning.specs.Sessions.{Reading, opened, settled, rested, payload_step, finish_reading, outcome_of, Phase, start, introduced, header, within}
use Rattle.meaning.specs.Sessions.{after_escape, over, dcs_step, dcs_rested, finish_dcs, goes_on, settles, wrong, header_byte}
use Rattle.meaning.specs.Tellings.{Shortage, Telling, placeless, told_at, first_shortage, first_refused, call_telling, feed_telling, byte_shortage}
use Rattle.meaning.specs.Tellings.{pending_telling, finish_telling, payload_feed_telling, payload_finish_telling, dcs_shortage, dcs_feed_telling}
use Rattle.meaning.specs.Tellings.{dcs_end_telling, dcs_finish_telling, or_pending, part_telling, header_telling, input_telling, read_telling, TellsRun}
use Rattle.meaning.specs.Tellings.{untold, told, number_told, answer_number, finish_number}
use Rattle.meaning.proofs.PayloadLaws.{outcome-settled, outcome-refused, reading-is-payload}

-- ---- any reader

module _ {S : Type 0} (step : S → ℕ → Step S) (need_of : S → ℕ → Option Shortage) where
  -- a byte before a run
  one_more : {at : ℕ} {r : Run S} {t : Option Telling} (i : ℕ) → TellsRun (suc at) r t → TellsRun at (after 1 i r) t
  unfolding after
  one_more i (untold e) = untold e
  one_more {at} {r = r} i (told {n = n} need e) =
      subst (λ (k : ℕ). TellsRun at (after 1 i r) (some (told_at k n need))) (omega arith) (told need e)

  -- reading with no allowance: a refusal is told with its number, at the byte after those that were read
  pub first-tells : (at : ℕ) (s : S) (bs : List ℕ) → TellsRun at (read_from step s bs) (first_refused step need_of at s bs)
  unfolding read_from first_refused follow still is_refused
  first-tells at s [] = untold refl
  first-tells at s (b ∷ bs) = go (step s b) (λ t. first-tells (suc at) t bs)
    where
      go : (x : Step S) → ((t : S) → TellsRun (suc at) (read_from step t bs) (first_refused step need_of (suc at) t bs))
          → TellsRun at (follow x (λ t i. after 1 i (read_from step t bs)))
          (elim x as (λ _. Option Telling) [
            | next t i ↦ first_refused step need_of (suc at) t bs
            | halt t ↦ none
            | refuse t n ↦ some (told_at at n (need_of s b))
          ])
      go (next t i) later = one_more i (later t)
      go (halt t) later = untold refl
      go (refuse t n) later =
          subst (λ (k : ℕ). TellsRun at (still t (refused_by n)) (some (told_at k n (need_of s b)))) (add-zero at) (told (need_of s b) refl)

  module _ (rest : S → S) where
    -- a refused call is refused where reading is
    refused-tells : (a at : ℕ) (s : S) (bs : List ℕ) → is_refused (call step rest a s bs).how ≡ true
        → TellsRun at (call step rest a s bs) (first_refused step need_of at s bs)
    unfolding call first_refused follow still is_refused
    refused-tells a at s [] e = absurd (never e)
      where
        never : false ≡ true → ⊥
        never q = let z : ◌≡◌ {A = ℕ} 0 1 = cc in omega arith
    refused-tells a at s (b ∷ bs) e = go (step s b) (λ k t. refused-tells k (suc at) t bs) e
      where
        run : Step S → Run S
        run x = follow x (λ t i. cond (leb i a) (after 1 i (call step rest (a - i) t bs)) (still (rest s) stopped))

        told-by : Step S → Option Telling
        told-by x =
            elim x as (λ _. Option Telling) [
              | next t i ↦ first_refused step need_of (suc at) t bs
              | halt t ↦ none
              | refuse t n ↦ some (told_at at n (need_of s b))
            ]

        never : false ≡ true → ⊥
        never q = let z : ◌≡◌ {A = ℕ} 0 1 = cc in omega arith

        reads : (t : S) (i : ℕ) (u : Bool)
            → ((k : ℕ) (t : S) → is_refused (call step rest k t bs).how ≡ true
            → TellsRun (suc at) (call step rest k t bs) (first_refused step need_of (suc at) t bs))
            → is_refused (cond u (after 1 i (call step rest (a - i) t bs)) (still (rest s) stopped)).how ≡ true
            → TellsRun at (cond u (after 1 i (call step rest (a - i) t bs)) (still (rest s) stopped)) (first_refused step need_of (suc at) t bs)
        reads t i true later e = one_more i (later (a - i) t e)
        reads t i false later e = absurd (never e)

        go : (x : Step S)
            → ((k : ℕ) (t : S) → is_refused (call step rest k t bs).how ≡ true
            → TellsRun (suc at) (call step rest k t bs) (first_refused step need_of (suc at) t bs))
            → is_refused (run x).how ≡ true → TellsRun at (run x) (told-by x)
        go (next t i) later e = reads t i (leb i a) later e
        go (halt t) later e = absurd (never e)
        go (refuse t n) later e =
            subst (λ (k : ℕ). TellsRun at (still t (refused_by n)) (some (told_at k n (need_of s b)))) (add-zero at) (told (need_of s b) refl)

    -- A call's telling is of the call: its number, and the place of the byte after those that it read.
    pub call-tells : (a : ℕ) (s : S) (bs : List ℕ) → TellsRun 0 (call step rest a s bs) (call_telling step need_of rest a s bs)
    unfolding call_telling
    call-tells a s bs = go (is_refused (call step rest a s bs).how) refl
      where
        go : (u : Bool) → is_refused (call step rest a s bs).how ≡ u
            → TellsRun 0 (call step rest a s bs) (cond u (first_refused step need_of 0 s bs) none)
        go true e = refused-tells a 0 s bs e
        go false e = untold e

-- ---- the numbers

module _ {S E : Type 0} (end : S → Option E) (s : calls.Session S) where
  -- what a run answers, by how it came to its end
  answer_by : Run S → How → Option ℕ
  unfolding answer_number calls.answered calls.tells
  answer_by r h = answer_number (calls.answered end s (record { state = r.state; consumed = r.consumed; ink = r.ink; how = h })).answer

  unrefused-number : (r : Run S) (h : How) → is_refused h ≡ false → none ≡ answer_by r h
  unfolding answer_by is_refused
  unrefused-number r read_all e = refl
  unrefused-number r stopped e = refl
  unrefused-number r halted e = refl
  unrefused-number r (refused_by n) e = absurd (let z : ◌≡◌ {A = ℕ} 0 1 = cc in omega arith)

  -- a run's telling, and the answer that the run gives
  run-number : {at : ℕ} {r : Run S} {t : Option Telling} → TellsRun at r t → number_told t ≡ answer_number (calls.answered end s r).answer
  unfolding answer_by number_told told_at
  run-number {r = r} (untold e) = unrefused-number r r.how e
  run-number {r = r} (told need e) = ap (answer_by r) (sym e)

-- A feed's telling has the number of the feed's answer.
pub feed-number : {S E : Type 0} (area_of : S → Area) (step : Setting → S → ℕ → Step S) (rest : Setting → S → S) (end : S → Option E)
    (need_of : S → ℕ → Option Shortage) (s : calls.Session S) (size a : ℕ) (bs : List ℕ)
    → number_told (feed_telling (step s.setting) need_of area_of (rest s.setting) s size a bs)
    ≡ answer_number (calls.feed area_of step rest end s size a bs).answer
unfolding feed_telling calls.feed number_told answer_number placeless
feed-number {S} {E} area_of step rest end need_of s size a bs = go (calls.feed_refusal area_of s size a)
  where
    run : Run S
    run = call (step s.setting) (rest s.setting) a s.state bs

    go : (o : Option ℕ)
        → number_told
        (elim o as (λ _. Option Telling) [
          | none ↦ call_telling (step s.setting) need_of (rest s.setting) a s.state bs
          | some n ↦ some (placeless n)
        ])
        ≡ answer_number (elim o as (λ _. calls.Fed S E) [ none ↦ calls.answered end s run | some n ↦ record { answer = calls.refused n; session = s } ]).answer
    go none = run-number end s (call-tells (step s.setting) need_of (rest s.setting) a s.state bs)
    go (some n) = refl

pub payload-feed-number : (m : calls.Session Reading) (size a : ℕ) (bs : List ℕ)
    → number_told (payload_feed_telling m size a bs) ≡ answer_number (calls.feed_payload m size a bs).answer
unfolding payload_feed_telling calls.feed_payload
payload-feed-number m size a bs = feed-number (λ r. r.drawing.area) payload_step rested (λ r. r.over) (byte_shortage m.setting) m size a bs

pub dcs-feed-number : (p : Palette) (m : calls.Session Phase) (size a : ℕ) (bs : List ℕ)
    → number_told (dcs_feed_telling p m size a bs) ≡ answer_number (calls.feed_dcs p m size a bs).answer
unfolding dcs_feed_telling calls.feed_dcs
dcs-feed-number p m size a bs =
    feed-number (λ t. calls.visible_area (calls.drawing_of t)) (λ s. dcs_step s p) dcs_rested calls.dcs_end (dcs_shortage m.setting) m size a bs

-- ---- finishing

-- a finish's number hangs on its refusal alone
refusal-number : (v w : Parameters) (out : Outcome) → finish_number (finish v out) ≡ finish_number (finish w out)
unfolding finish finish_number
refusal-number v w out = go out.refusal
  where
    go : (o : Option ℕ)
        → finish_number (elim o as (λ _. Finished) [ none ↦ finished (report_of v out.drawing) | some n ↦ turned_down n ])
        ≡ finish_number (elim o as (λ _. Finished) [ none ↦ finished (report_of w out.drawing) | some n ↦ turned_down n ])
    go none = refl
    go (some n) = refl

-- the pending command's
pending-number : (s : Setting) (at : ℕ) (r : Reading) → number_told (pending_telling s at r) ≡ finish_number (finish_reading s r)
unfolding pending_telling finish_reading finish number_told finish_number told_at
pending-number s at r = go (settled s r).refusal
  where
    need : Option Shortage
    need = first_shortage s (closed r.begun) r.drawing

    go : (o : Option ℕ)
        → number_told (elim o as (λ _. Option Telling) [ none ↦ none | some n ↦ some (told_at at n need) ])
        ≡ finish_number (elim o as (λ _. Finished) [ none ↦ finished (report_of r.parameters (settled s r).drawing) | some n ↦ turned_down n ])
    go none = refl
    go (some n) = refl

-- 9, 12, and then what the state says
finish-number : {S : Type 0} (area_of : S → Area) (of_state : Setting → S → Option Telling) (finish_state : Setting → S → Finished)
    (s : calls.Session S) (size : ℕ)
    → number_told (of_state s.setting s.state) ≡ finish_number (finish_state s.setting s.state)
    → number_told (finish_telling area_of of_state s size) ≡ finish_number (calls.finish_session area_of finish_state s size)
unfolding finish_telling calls.finish_session number_told finish_number placeless
finish-number area_of of_state finish_state s size same =
    go (calls.first_of (record { holds = s.failed; number = 9 } ∷ record { holds = calls.misfits area_of s size; number = 12 } ∷ []))
  where
    go : (o : Option ℕ)
        → number_told (elim o as (λ _. Option Telling) [ none ↦ of_state s.setting s.state | some n ↦ some (placeless n) ])
        ≡ finish_number (elim o as (λ _. Finished) [ none ↦ finish_state s.setting s.state | some n ↦ turned_down n ])
    go none = same
    go (some n) = refl

-- A finish's telling has the number of the finish's answer.
pub payload-finish-number : (m : calls.Session Reading) (size : ℕ) → number_told (payload_finish_telling m size) ≡ finish_number (calls.finish_payload m size)
unfolding payload_finish_telling calls.finish_payload
payload-finish-number m size =
    finish-number (λ r. r.drawing.area) (λ s. pending_telling s 0) finish_reading m size (pending-number m.setting 0 m.state)

end-number : (s : Setting) (x : Phase) → number_told (dcs_end_telling s x) ≡ finish_number (finish_dcs s x)
unfolding dcs_end_telling finish_dcs number_told finish_number told_at
end-number s start = refl
end-number s introduced = refl
end-number s (header bs) = refl
end-number s (within r) = refl
end-number s (after_escape r) = refl
end-number s (over e r) = pending-number s 0 r

pub dcs-finish-number : (m : calls.Session Phase) (size : ℕ) → number_told (dcs_finish_telling m size) ≡ finish_number (calls.finish_dcs_session m size)
unfolding dcs_finish_telling calls.finish_dcs_session
dcs-finish-number m size =
    finish-number (λ t. calls.visible_area (calls.drawing_of t)) dcs_end_telling finish_dcs m size (end-number m.setting m.state)

-- ---- reading all at once

module _ (s : Setting) (p : Palette) where
  -- a payload read to its end
  part-number : (o : Parameters) (at : ℕ) (bs : List ℕ) → number_told (part_telling s p o at bs) ≡ finish_number (finish o (payload s o p bs))
  unfolding part_telling or_pending number_told finish_number finish finish_reading told_at
  part-number o at bs = go (first-tells (payload_step s) (byte_shortage s) at (opened o p) bs)
    where
      run : Run Reading
      run = read_from (payload_step s) (opened o p) bs

      later : Option Telling
      later = pending_telling s (at + length bs) run.state

      ending : Outcome → Option ℕ
      ending out = finish_number (finish o out)

      -- whatever the parameters
      by-refusal : (out : Outcome) (v : Parameters) → finish_number (finish v out) ≡ ending out
      by-refusal out v = refusal-number v o out

      go : {t : Option Telling} → TellsRun at run t → number_told (or_pending t later) ≡ ending (payload s o p bs)
      go (untold e) =
          pending-number s (at + length bs) run.state
          ∙ by-refusal (settled s run.state) run.state.parameters
          ∙ ap ending (sym (outcome-settled s run e) ∙ reading-is-payload s o p bs)
      go (told need e) = ap ending (sym (outcome-refused s run e)) ∙ ap ending (reading-is-payload s o p bs)

  -- a header
  header-number : (bs : List ℕ) (at : ℕ) (got : List ℕ) → number_told (header_telling s p at got bs) ≡ finish_number (answer_of s p (header_from got bs))
  unfolding header_telling header_from answer_of number_told finish_number told_at
  header-number [] at got = refl
  header-number (b ∷ bs) at got = go (header_byte got b) (λ k more. header-number bs k more)
    where
      go : (y : sessions.HeaderByte) → ((k : ℕ) (more : List ℕ) → number_told (header_telling s p k more bs) ≡ finish_number (answer_of s p (header_from more bs)))
          → number_told
          (elim y as (λ _. Option Telling) [
            | goes_on more ↦ header_telling s p (suc at) more bs
            | settles o ↦ part_telling s p o (suc at) bs
            | wrong n ↦ some (told_at at n none)
          ])
          ≡ finish_number (answer_of s p (elim y as (λ _. Found) [ goes_on more ↦ header_from more bs | settles o ↦ found o bs | wrong n ↦ refused_with n ]))
      go (goes_on more) later = later (suc at) more
      go (settles o) later = part-number o (suc at) bs
      go (wrong n) later = refl

  input-number : (bs : List ℕ) → number_told (input_telling s p bs) ≡ finish_number (one_shot s p bs)
  unfolding input_telling one_shot find_payload
  input-number bs = go (after_introducer bs)
    where
      go : (o : Option (List ℕ))
          → number_told
          (elim o as (λ _. Option Telling) [
            | none ↦ part_telling s p no_parameters 0 bs
            | some later ↦ header_telling s p (length bs - length later) [] later
          ])
          ≡ finish_number (answer_of s p (elim o as (λ _. Found) [ none ↦ found no_parameters bs | some later ↦ header_from [] later ]))
      go none = part-number no_parameters 0 bs
      go (some later) = header-number later (length bs - length later) []

-- The telling of a reading all at once has the number of its answer.
pub read_number_lem : (l : drawing.Limits) (stride size : ℕ) (p : Palette) (bs : List ℕ)
    → number_told (read_telling l stride size p bs) ≡ finish_number (calls.read_one_shot l stride size p bs)
unfolding read_telling calls.read_one_shot number_told finish_number placeless
read_number_lem l stride size p bs = go (calls.opens l stride size)
  where
    go : (u : Bool)
        → number_told (cond u (input_telling (calls.setting_for l stride size) p bs) (some (placeless 11)))
        ≡ finish_number (cond u (one_shot (calls.setting_for l stride size) p bs) (turned_down 11))
    go true = input-number (calls.setting_for l stride size) p bs
    go false = refl
