-- Demand 3 for payload and DCS sessions: under the premises of rule 6.7 (the unread bytes come next, the canvas comes back
-- unaltered) the number of calls is bounded, the outcome is the definition's, and the ink adds up to the definition's. A caller's
-- turns are proper for A where each call may be made and has an allowance of at least A.
use Prim.Native.Nat.{ℕ, ◌+◌, ◌-◌, ◌*◌, ◌/◌, ◌≤◌}
use native.Mathlib.Omega.{arith}
use mathlib.Core.Path.{◌≡◌, sym, ap, ◌∙◌, subst}
use mathlib.Core.Bool.{true, false}
use mathlib.Core.Option.{some}
use mathlib.Core.List.{List}
use lib.ListN.{length}
use Rattle.colours.specs.declared.Palette.{Palette}
use Rattle.meaning.specs.Commands.{body}
use Rattle.meaning.specs.Drawing.{Setting}
use Rattle.meaning.specs.Payload.{Parameters, payload, payload_ink, turned_down, finish}
use Rattle.meaning.specs.Reader.{How, stopped, refused_by, is_refused, Run, read_from, Turn, stream, pieces, ran_by, ready}
use Rattle.meaning.specs.Sessions.{Reading, opened, rested, payload_step, finish_reading, outcome_of, End, Phase, start, dcs_step, dcs_rested, finish_dcs}
use Rattle.meaning.specs.OneShot.{refused_with, one_shot}
use Rattle.meaning.specs.Sequence.{sequence_payload, sequence_ink}
use Rattle.meaning.specs.Calls.{dcs_end, payload_turns, proper_payload, dcs_turns, proper_dcs}
use Rattle.meaning.proofs.ReaderAsks.{RestLaw, HaltLaw, CapLaw}
use Rattle.meaning.proofs.Histories.{read_items, history, asks_of}
use Rattle.meaning.proofs.CallerLaws.{calls-outcome, calls-bound}
use Rattle.meaning.proofs.HistoryLaws.{history-plain}
use Rattle.meaning.proofs.InkLaws.{payload-cap, payload-rest, payload-halt, dcs-cap, dcs-rest, dcs-halt}
use Rattle.meaning.proofs.PayloadLaws.{outcome-refused, reading-is-payload, reading-finish, reading-consumed, reading-ink}
use Rattle.meaning.proofs.DcsLaws.{sequence-refused, sequence-finish, sequence-turned-down, sequence-ink}

-- a refused call did not stop
refused-going : {h : How} {n : ℕ} → h ≡ refused_by n → h ≡ stopped → ⊥
refused-going e z = let never : ◌≡◌ {A = ℕ} 0 1 = cc in omega arith

-- ---- what the laws of any reader ask holds of a payload and of a DCS sequence

pub payload-rests : (s : Setting) → RestLaw (payload_step s) (rested s)
payload-rests s r t b i = payload-rest s r b

pub payload-halts : (s : Setting) → HaltLaw (payload_step s)
payload-halts s r t b = payload-halt s r b

pub payload-caps : (s : Setting) → CapLaw (payload_step s) (6 * s.limits.width)
payload-caps s r t b i = payload-cap s r b

pub dcs-rests : (s : Setting) (p : Palette) → RestLaw (dcs_step s p) (dcs_rested s)
dcs-rests s p t u b i = dcs-rest s p t b

pub dcs-halts : (s : Setting) (p : Palette) → HaltLaw (dcs_step s p)
dcs-halts s p t u b = dcs-halt s p t b

pub dcs-caps : (s : Setting) (p : Palette) → CapLaw (dcs_step s p) (6 * s.limits.width)
dcs-caps s p t u b i = dcs-cap s p t b

-- ---- payload sessions

module _ (s : Setting) (o : Parameters) (p : Palette) where
  -- the calls are at most the pieces and I / (A - 6W + 1), rounded down, where I is the ink of the whole payload, of its draws
  -- before a refusal too
  pub payload-calls : (A : ℕ) (ts : List Turn) → 6 * s.limits.width ≤ A → proper_payload s o p A ts ≡ true
      → length ts ≤ pieces ts + payload_ink s o p (stream ts) / (A - 6 * s.limits.width + 1)
  payload-calls A ts fits ok =
      rw (sym (reading-ink s o p (stream ts)))
      (calls-bound (payload_step s) (rested s) (payload-rests s) (payload-halts s) (6 * s.limits.width) (payload-caps s) A
      (opened o p) ts fits ok)

  -- unless the last call stopped, the calls came to what reading the whole comes to
  pub payload-whole : (A : ℕ) (ts : List Turn) → proper_payload s o p A ts ≡ true → ((payload_turns s o p ts).how ≡ stopped → ⊥)
      → read_from (payload_step s) (opened o p) (stream ts) ≡ ran_by (payload_turns s o p ts)
  payload-whole A ts = calls-outcome (payload_step s) (rested s) (payload-rests s) (payload-halts s) A (opened o p) ts

  -- and so to what the whole payload means, refused or not
  pub payload-outcome : (A : ℕ) (ts : List Turn) → proper_payload s o p A ts ≡ true → ((payload_turns s o p ts).how ≡ stopped → ⊥)
      → outcome_of s (ran_by (payload_turns s o p ts)) ≡ payload s o p (stream ts)
  payload-outcome A ts ok going = ap (outcome_of s) (sym (payload-whole A ts ok going)) ∙ reading-is-payload s o p (stream ts)

  -- so with no refusal, finishing the session answers what the whole payload does
  pub payload-finishes : (A : ℕ) (ts : List Turn) → proper_payload s o p A ts ≡ true → ((payload_turns s o p ts).how ≡ stopped → ⊥)
      → is_refused (payload_turns s o p ts).how ≡ false
      → finish_reading s (payload_turns s o p ts).state ≡ finish o (payload s o p (stream ts))
  unfolding ran_by
  payload-finishes A ts ok going =
      subst (λ (q : Run Reading). is_refused q.how ≡ false → finish_reading s q.state ≡ finish o (payload s o p (stream ts)))
      (payload-whole A ts ok going) (reading-finish s o p (stream ts))

  -- and a refusal is the whole payload's, with its drawing
  pub payload-refused : (A : ℕ) (ts : List Turn) {n : ℕ} → proper_payload s o p A ts ≡ true → (payload_turns s o p ts).how ≡ refused_by n
      → payload s o p (stream ts) ≡ record { drawing = (payload_turns s o p ts).state.drawing; refusal = some n }
  unfolding ran_by
  payload-refused A ts ok e = sym (payload-outcome A ts ok (refused-going e)) ∙ outcome-refused s (ran_by (payload_turns s o p ts)) e

  -- the calls' ink adds up to I; that of a refused call, which reports none, is among it
  pub payload-all-ink : (A : ℕ) (ts : List Turn) → proper_payload s o p A ts ≡ true → ((payload_turns s o p ts).how ≡ stopped → ⊥)
      → (payload_turns s o p ts).ink ≡ payload_ink s o p (stream ts)
  unfolding ran_by
  payload-all-ink A ts ok going = ap (λ (q : Run Reading). q.ink) (sym (payload-whole A ts ok going)) ∙ reading-ink s o p (stream ts)

  -- with no refusal they have consumed the bytes before the payload's end
  pub payload-consumed : (A : ℕ) (ts : List Turn) → proper_payload s o p A ts ≡ true → ((payload_turns s o p ts).how ≡ stopped → ⊥)
      → is_refused (payload_turns s o p ts).how ≡ false → (payload_turns s o p ts).consumed ≡ length (body (stream ts))
  unfolding ran_by
  payload-consumed A ts ok going =
      subst (λ (q : Run Reading). is_refused q.how ≡ false → q.consumed ≡ length (body (stream ts)))
      (payload-whole A ts ok going) (reading-consumed s o p (stream ts))

  -- what the calls have read, marks of stops and all, is the whole stream
  pub payload-history : (A : ℕ) (ts : List Turn) → proper_payload s o p A ts ≡ true → ((payload_turns s o p ts).how ≡ stopped → ⊥)
      → read_items (payload_step s) (rested s) (opened o p)
      (history (payload_step s) (rested s) (opened o p) (asks_of (payload_step s) (rested s) (ready (opened o p)) ts))
      ≡ read_from (payload_step s) (opened o p) (stream ts)
  payload-history A ts = history-plain (payload_step s) (rested s) (payload-rests s) (payload-halts s) A (opened o p) ts

-- ---- DCS sessions

module _ (s : Setting) (p : Palette) where
  -- the calls are at most the pieces and I / (A - 6W + 1), rounded down, where I is the ink of the whole sequence, of its draws
  -- before a refusal too
  pub dcs-calls : (A : ℕ) (ts : List Turn) → 6 * s.limits.width ≤ A → proper_dcs s p A ts ≡ true
      → length ts ≤ pieces ts + sequence_ink s p (stream ts) / (A - 6 * s.limits.width + 1)
  dcs-calls A ts fits ok =
      rw (sym (sequence-ink s p (stream ts)))
      (calls-bound (dcs_step s p) (dcs_rested s) (dcs-rests s p) (dcs-halts s p) (6 * s.limits.width) (dcs-caps s p) A start ts fits ok)

  -- unless the last call stopped, the calls came to what reading the whole comes to
  pub dcs-outcome : (A : ℕ) (ts : List Turn) → proper_dcs s p A ts ≡ true → ((dcs_turns s p ts).how ≡ stopped → ⊥)
      → read_from (dcs_step s p) start (stream ts) ≡ ran_by (dcs_turns s p ts)
  dcs-outcome A ts = calls-outcome (dcs_step s p) (dcs_rested s) (dcs-rests s p) (dcs-halts s p) A start ts

  -- so at an end, finishing the session answers what reading the whole at once does
  pub dcs-finishes : (A : ℕ) (ts : List Turn) {e : End} → proper_dcs s p A ts ≡ true → ((dcs_turns s p ts).how ≡ stopped → ⊥)
      → dcs_end (dcs_turns s p ts).state ≡ some e → finish_dcs s (dcs_turns s p ts).state ≡ one_shot s p (stream ts)
  unfolding ran_by
  dcs-finishes A ts {e} ok going =
      subst (λ (q : Run Phase). dcs_end q.state ≡ some e → finish_dcs s q.state ≡ one_shot s p (stream ts))
      (dcs-outcome A ts ok going) (sequence-finish s p (stream ts))

  -- a refusal is what introducer and header are refused with, or what reading the whole at once answers
  pub dcs-refused : (A : ℕ) (ts : List Turn) {n : ℕ} → proper_dcs s p A ts ≡ true → (dcs_turns s p ts).how ≡ refused_by n
      → (n ≤ 3 → sequence_payload (stream ts) ≡ refused_with n) × (2 ≤ n → one_shot s p (stream ts) ≡ turned_down n)
  unfolding ran_by
  dcs-refused A ts {n} ok e =
      let whole : (read_from (dcs_step s p) start (stream ts)).how ≡ refused_by n =
      ap (λ (q : Run Phase). q.how) (dcs-outcome A ts ok (refused-going e)) ∙ e in
      (λ small. (sequence-refused s p (stream ts) n small).0 whole, λ low. sequence-turned-down s p (stream ts) low whole)

  -- the calls' ink adds up to I; that of a refused call, which reports none, is among it
  pub dcs-all-ink : (A : ℕ) (ts : List Turn) → proper_dcs s p A ts ≡ true → ((dcs_turns s p ts).how ≡ stopped → ⊥)
      → (dcs_turns s p ts).ink ≡ sequence_ink s p (stream ts)
  unfolding ran_by
  dcs-all-ink A ts ok going = ap (λ (q : Run Phase). q.ink) (sym (dcs-outcome A ts ok going)) ∙ sequence-ink s p (stream ts)

  -- what the calls have read, marks of stops and all, is the whole stream
  pub dcs-history : (A : ℕ) (ts : List Turn) → proper_dcs s p A ts ≡ true → ((dcs_turns s p ts).how ≡ stopped → ⊥)
      → read_items (dcs_step s p) (dcs_rested s) start
      (history (dcs_step s p) (dcs_rested s) start (asks_of (dcs_step s p) (dcs_rested s) (ready start) ts))
      ≡ read_from (dcs_step s p) start (stream ts)
  dcs-history A ts = history-plain (dcs_step s p) (dcs_rested s) (dcs-rests s p) (dcs-halts s p) A start ts
