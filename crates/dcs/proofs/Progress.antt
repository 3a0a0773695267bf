-- What a caller relies on to go on: a call that needs more has left nothing unread and a finish there is 8, a stop has consumed a
-- byte, and an end is the one told.
use Rattle.std.specs.Prelude.{◌≡◌, ℕ, ◌*◌, ◌<◌, ◌≤◌, true, false, List, [], ◌∷◌, ◌++◌, length, Ok}
use native.Mathlib.Omega.{arith}
use mathlib.Core.Option.{none, some}
use mathlib.Core.Path.{refl, sym, ap, ◌∙◌, subst}
use Rattle.colours.specs.declared.Palette.{Palette}
use Rattle.frame.specs.declared.Limits.{Limits}
use Rattle.meaning.specs.Calls as calls
use Rattle.meaning.specs.Callers as callers
use Rattle.meaning.specs.Drawing.{Setting}
use Rattle.meaning.specs.Reader.{Step, next, halt, refuse, How, read_all, stopped, halted, refused_by, is_refused, is_ongoing, Run, still, after, follow, read_from, Turn, piece_of, allowance_of, stream, Caller, ran_by, may_call, having, turn, turns}
use Rattle.meaning.specs.Payload.{turned_down}
use Rattle.meaning.specs.Sessions.{End, Phase, start, dcs_step, dcs_rested}
use Rattle.meaning.proofs.AreaLaws.{DcsDoes, advances, begins, turns as refused, reads, refuses, escapes, closes, breaks, completes, lapses, remains, dcs-does}
use Rattle.meaning.proofs.CallLaws.{call-stop-reads}
use Rattle.meaning.proofs.CallerLaws.{not-refused}
use Rattle.meaning.proofs.Demand3.{dcs-caps}
use Rattle.meaning.proofs.EachCall.{dcs-so-far}
use Rattle.meaning.proofs.InkLaws.{Halts}
use Rattle.meaning.proofs.SequenceLaws.{unended-finish}
use Rattle.meaning.proofs.SoFarLaws.{LeftBy, all_read, stopped_at}
use Rattle.meaning.proofs.ToldLaws.{end_told, told-stopped, told_more, answered-end, proper-one}
use Rattle.payload.specs.History.{Finishes}
use Rattle.payload.specs.Meant.{setting_meant}
use Rattle.payload.specs.Refusals.{openable}
use Rattle.payload.specs.declared.Answer.TheVariants as answers
use Rattle.dcs.specs.declared.Ending.{Ending}
use Rattle.dcs.specs.Session.{fed_by, finished_by}
use Rattle.dcs.specs.History.{Held, tell_held, called, proper_calls}
use Rattle.dcs.specs.Meant.{end_meant, answer_meant}
use Rattle.dcs.proofs.Callers.{CallerStands, session_at, fed-feeds, finish-there, may-there, calls-stand}
use Rattle.dcs.proofs.History as history
use Rattle.dcs.proofs.Standing.{finish-stands}

-- ---- calls of the definition

-- where a sequence halts it has come to its end
abbrev HasEnd : Phase → Type 0
HasEnd t = (e : End) × (calls.dcs_end t ≡ some e)

does-end : (s : Setting) (p : Palette) (b : ℕ) {t : Phase} {x : Step Phase} → DcsDoes s p b t x → Halts HasEnd x
unfolding calls.dcs_end
does-end s p b (advances h k) = tt
does-end s p b (begins h o) = tt
does-end s p b (refused h) = tt
does-end s p b (reads r e) = tt
does-end s p b (refuses r e) = tt
does-end s p b (escapes r e) = tt
does-end s p b (closes r e) = tt
does-end s p b (breaks r e) = (_, refl)
does-end s p b completes = tt
does-end s p b lapses = (_, refl)
does-end s p b remains = (_, refl)

reading-ends : (s : Setting) (p : Palette) (t : Phase) (bs : List ℕ)
    → (read_from (dcs_step s p) t bs).how ≡ halted → HasEnd (read_from (dcs_step s p) t bs).state
unfolding read_from still follow after
reading-ends s p t [] h = absurd (let never : ◌≡◌ {A = ℕ} 0 1 = cc in omega arith)
reading-ends s p t (b ∷ bs) h = go (dcs_step s p t b) (does-end s p b (dcs-does s p b t)) (λ u. reading-ends s p u bs) h
  where
    onward : Step Phase → Run Phase
    onward x = follow x (λ t i. after 1 i (read_from (dcs_step s p) t bs))

    go : (x : Step Phase) → Halts HasEnd x
        → ((u : Phase) → (read_from (dcs_step s p) u bs).how ≡ halted → HasEnd (read_from (dcs_step s p) u bs).state)
        → (onward x).how ≡ halted → HasEnd (onward x).state
    go (next u i) k later e = later u e
    go (halt u) k later e = k
    go (refuse u n) k later e = absurd (let never : ◌≡◌ {A = ℕ} 0 1 = cc in omega arith)

-- a call that needs more has left nothing
left-none : {S : Type 0} {step : S → ℕ → Step S} {rest : S → S} {h : How} {here state : S} {unread : List ℕ}
    → LeftBy step rest h here state unread
    → h ≡ read_all → unread ≡ []
left-none all_read e = refl
left-none (stopped_at q inked) e = absurd (let never : ◌≡◌ {A = ℕ} 0 1 = cc in omega arith)

all-going : read_all ≡ stopped → ⊥
all-going e = let never : ◌≡◌ {A = ℕ} 0 1 = cc in omega arith

-- ---- calls of the code

module _ (l : Limits) (stride : ℕ) (p : Palette) (opening : List ℕ) (opens : openable l stride (length opening) ≡ true)
    (A : ℕ) (ts : List Turn) (enough : 6 * l.width ≤ A) (ok : proper_calls A (history.opened l stride p opening opens) ts ≡ true) where
  abbrev setting : Setting
  setting = setting_meant l stride (length opening)

  abbrev now : Caller Held
  now = history.now l stride p opening opens A ts enough ok

  abbrev there : Caller Phase
  there = history.there l stride p opening opens A ts enough ok

  stood : CallerStands l stride p opening now there
  stood = history.stood l stride p opening opens A ts enough ok

  roomy : 6 * setting.limits.width ≤ A
  roomy = history.roomy l stride p opening opens A ts enough ok

  proper-there : calls.proper_dcs setting p A ts ≡ true
  proper-there = history.proper-there l stride p opening opens A ts enough ok

  -- A call that needs more has left nothing unread.
  pub nothing-unread : now.how ≡ read_all → now.unread ≡ []
  unfolding end_told is_refused is_ongoing ran_by
  nothing-unread e = go there.how refl
    where
      told : (h : How) → there.how ≡ h → read_all ≡ end_told h (calls.dcs_end there.state)
      told h q = sym e ∙ stood.learned.how ∙ ap (λ (h : How). end_told h (calls.dcs_end there.state)) q

      go : (h : How) → there.how ≡ h → now.unread ≡ []
      go read_all q =
          stood.learned.unread (ap is_refused q)
          ∙ left-none (dcs-so-far setting p A ts roomy proper-there (ap is_ongoing q)).left q
      go stopped q = let z : read_all ≡ stopped = told stopped q in absurd (let never : ◌≡◌ {A = ℕ} 0 1 = cc in omega arith)
      go halted q =
          let going : now.how ≡ stopped → ⊥ = λ z. all-going (sym e ∙ z) in
          let whole : read_from (dcs_step setting p) start (stream ts) ≡ ran_by there =
          history.whole-state l stride p opening opens A ts enough ok going in
          let at-end : HasEnd there.state =
          subst (λ (q : Run Phase). q.how ≡ halted → HasEnd q.state) whole (reading-ends setting p start (stream ts)) q in
          let z : read_all ≡ halted = told halted q ∙ ap (end_told halted) at-end.1 in
          absurd (let never : ◌≡◌ {A = ℕ} 0 1 = cc in omega arith)
      go (refused_by n) q =
          let z : read_all ≡ refused_by n = told (refused_by n) q in absurd (let never : ◌≡◌ {A = ℕ} 0 1 = cc in omega arith)

  -- So the end has not come.
  pub not-ended : now.how ≡ read_all → calls.dcs_end there.state ≡ none
  not-ended e = (told_more there.how (calls.dcs_end there.state) (sym stood.learned.how ∙ e)).0

  -- A finish is 8 there, which leaves the canvas as it was.
  pub unfinished : now.how ≡ read_all → (owner : Palette)
      → Finishes (calls.shown stride (calls.drawing_at_finish setting there.state) opening) owner now.state.1
      (finished_by now.state.0 owner now.state.1) (turned_down 8)
  unfolding calls.dcs_shown_at_finish setting_meant calls.setting_for
  unfinished e owner =
      let fine : is_refused there.how ≡ false = (told_more there.how (calls.dcs_end there.state) (sym stood.learned.how ∙ e)).1 in
      subst
      (Finishes (calls.shown stride (calls.drawing_at_finish setting there.state) opening) owner now.state.1
      (finished_by now.state.0 owner now.state.1))
      (finish-there l stride p opening stood fine ∙ unended-finish setting there.state (not-ended e))
      (finish-stands l stride p opening owner stood.session)

  module _ (t : Turn) (allowed : A ≤ allowance_of t) (may : may_call t now.how ≡ true) where
    live : is_refused there.how ≡ false
    live = not-refused t there.how (may-there l stride p opening now there stood t may)

    -- A stop has consumed a byte.
    pub stop-consumes : (called now t).how ≡ stopped → now.consumed < (called now t).consumed
    unfolding callers.calls_of turns turn having is_refused end_told
    stop-consumes e =
        let next_one = (calls-stand l stride p opening A roomy stood (t ∷ []) (proper-one tell_held A now t allowed may)).0 in
        let there-stops : (turn (dcs_step setting p) (dcs_rested setting) there t).how ≡ stopped =
        told-stopped _ _ (sym next_one.learned.how ∙ e) in
        omega (
          arith,
          stood.learned.consumed live,
          next_one.learned.consumed (ap is_refused there-stops),
          call-stop-reads (dcs_step setting p) (dcs_rested setting) (6 * setting.limits.width) (dcs-caps setting p)
              (allowance_of t) there.state (there.unread ++ piece_of t) (omega (arith, roomy)) there-stops,
        )

    -- An end that is told is the one that the definition has come to.
    pub end-told : {n i : ℕ} {e : Ending}
        → (fed_by now.state.0 now.state.1 (now.unread ++ piece_of t) (allowance_of t)).0.answer ≡ Ok (answers.Ended n i e)
        → calls.dcs_end (turn (dcs_step setting p) (dcs_rested setting) there t).state ≡ some (end_meant e)
    unfolding turn having answer_meant
    end-told {n} {i} {e} k =
        answered-end calls.dcs_end (session_at l stride p opening there) _
        (ap answer_meant (sym k) ∙ (fed-feeds l stride p opening stood (allowance_of t) (piece_of t) live (omega (arith, roomy))).answer)
