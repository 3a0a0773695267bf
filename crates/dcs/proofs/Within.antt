-- In the payload and at its end: what the code makes of the payload session's call is what the definition makes of the payload's.
use Rattle.std.specs.Prelude.{◌≡◌, ℕ, ◌+◌, ◌-◌, false, ◌||◌, eqb, List, [], ◌∷◌, length, drop, Ok, Err}
use native.Mathlib.Nat.{add-zero, zero-add}
use native.Mathlib.Omega.{arith}
use mathlib.Core.Bool.{true≢false}
use mathlib.Core.Option.{Option, none, some}
use mathlib.Core.Path.{refl, sym, ap, ap₂, subst, ◌∙◌}
use Rattle.numbers.specs.declared.Parameters.{Parameters}
use Rattle.colours.specs.declared.Palette.{Palette}
use Rattle.canvas.specs.Picture.{Area}
use Rattle.frame.specs.declared.Ground.{Ground}
use Rattle.frame.specs.declared.Limits.{Limits}
use Rattle.frame.specs.declared.Refusal.{Refusal}
use Rattle.reference.specs.Step.{Reached}
use Rattle.frame.specs.Numbers.{number_of}
use Rattle.meaning.specs.Calls as calls
use Rattle.meaning.specs.Drawing.{Setting}
use Rattle.meaning.specs.Reader.{Step, How, read_all, stopped, halted, refused_by, Run, still, after, follow, call}
use Rattle.meaning.specs.Sessions as sessions
use Rattle.meaning.proofs.Framing.{in_payload}
use Rattle.meaning.proofs.RunLaws.{after-after}
use Rattle.meaning.proofs.CallLaws.{called}
use Rattle.meaning.proofs.FeedingLaws.{fed-as}
use Rattle.agreement.proofs.Feed.{EndsAlike, all_read, stopped_early, at_end, turned_down}
use Rattle.payload.specs.Results as payload_answer
use Rattle.payload.specs.declared.Answer.TheVariants as payload_answers
use Rattle.payload.specs.declared.Session as payload_session
use Rattle.payload.specs.Refusals.{feed_judged}
use Rattle.payload.specs.Session as coded
use Rattle.payload.specs.History as payload
use Rattle.payload.specs.Meant as payload_meant
use Rattle.payload.proofs.Judgements as judgements
use Rattle.payload.proofs.Feedings as feedings
use Rattle.header.proofs.Cases.{both}
use Rattle.dcs.specs.declared.Ending.{Ending}
use Rattle.dcs.specs.declared.Ending.TheVariants as endings
use Rattle.dcs.specs.Results.{Fed}
use Rattle.dcs.specs.declared.Phase.{Phase}
use Rattle.dcs.specs.declared.Phase.TheVariants as phases
use Rattle.dcs.specs.declared.Session.{Session}
use Rattle.dcs.specs.Session.{session_of, moved_to, over_as, escaped_by, closed_by, passed_on, fed_payload}
use Rattle.dcs.specs.History.{held_at, inside, escaped, ended, Feeds}
use Rattle.dcs.specs.Meant.{end_meant, answer_meant}
use Rattle.dcs.proofs.Runs.{after_one, halted-at, end_call, framed_call, within-call, escape-call}

-- ---- what an answer of the payload session means, read back

more-from : (a : payload_answer.Answer) (c i : ℕ)
    → payload_meant.answer_meant a ≡ calls.told c i calls.needs_more → a ≡ Ok (payload_answers.More c i)
unfolding payload_meant.answer_meant
more-from (Ok (payload_answers.More c' i')) c i e = cc
more-from (Ok (payload_answers.Stopped c' i')) c i e = cc
more-from (Ok (payload_answers.Ended c' i' b)) c i e = cc
more-from (Err n) c i e = cc

stopped-from : (a : payload_answer.Answer) (c i : ℕ)
    → payload_meant.answer_meant a ≡ calls.told c i calls.stopped_for_ink → a ≡ Ok (payload_answers.Stopped c i)
unfolding payload_meant.answer_meant
stopped-from (Ok (payload_answers.More c' i')) c i e = cc
stopped-from (Ok (payload_answers.Stopped c' i')) c i e = cc
stopped-from (Ok (payload_answers.Ended c' i' b)) c i e = cc
stopped-from (Err n) c i e = cc

ended-from : (a : payload_answer.Answer) (c i b : ℕ)
    → payload_meant.answer_meant a ≡ calls.told c i (calls.ended b) → a ≡ Ok (payload_answers.Ended c i b)
unfolding payload_meant.answer_meant
ended-from (Ok (payload_answers.More c' i')) c i b e = cc
ended-from (Ok (payload_answers.Stopped c' i')) c i b e = cc
ended-from (Ok (payload_answers.Ended c' i' b')) c i b e = cc
ended-from (Err n) c i b e = cc

refused-from : (a : payload_answer.Answer) (n : ℕ) → payload_meant.answer_meant a ≡ calls.refused n
    → (why : Refusal) × (a ≡ Err why) × (number_of why ≡ n)
unfolding payload_meant.answer_meant
refused-from (Ok (payload_answers.More c i)) n e = let never : ◌≡◌ {A = ℕ} 0 1 = cc in absurd (omega arith)
refused-from (Ok (payload_answers.Stopped c i)) n e = let never : ◌≡◌ {A = ℕ} 0 1 = cc in absurd (omega arith)
refused-from (Ok (payload_answers.Ended c i b)) n e = let never : ◌≡◌ {A = ℕ} 0 1 = cc in absurd (omega arith)
refused-from (Err why) n e = (why, refl, cc)

-- whether a payload that came to its end so has an end
abbrev EndOf : How → Option ℕ → Type 0
EndOf read_all o = o ≡ none
EndOf stopped o = o ≡ none
EndOf halted o = (b : ℕ) × (o ≡ some b)
EndOf (refused_by n) o = Unit

end_of : {s : Setting} {opening : List ℕ} {g : Ground} {how : How} {u : sessions.Reading} {t : Reached}
    → EndsAlike s opening g how u t → EndOf how u.over
end_of (all_read over o d) = over
end_of (stopped_early over o d) = over
end_of (at_end b over o d) = (b, over)
end_of (turned_down why e o d) = tt

-- what is told with nothing more read
told-still : (n i : ℕ) (x : calls.Status sessions.End) → calls.told n i x ≡ calls.told (n + 0) (i + 0) x
told-still n i x = ap₂ (λ (m j : ℕ). calls.told m j x) (sym (add-zero n)) (sym (add-zero i))

-- the visible area of a phase
abbrev pub area_of : sessions.Phase → Area
area_of t = calls.visible_area (calls.drawing_of t)

module _ (l : Limits) (stride : ℕ) (p : Palette) (opening : List ℕ) where
  abbrev pub setting : Setting
  setting = payload_meant.setting_meant l stride (length opening)

  -- the definition's session in a phase, and its call
  abbrev pub here : sessions.Phase → calls.Session sessions.Phase
  here x = held_at l stride (length opening) x false

  abbrev pub dcs_call : ℕ → sessions.Phase → List ℕ → Run sessions.Phase
  dcs_call = call (sessions.dcs_step setting p) (sessions.dcs_rested setting)

  abbrev pub answered : sessions.Phase → Run sessions.Phase → calls.Fed sessions.Phase sessions.End
  answered x = calls.answered calls.dcs_end (here x)

  -- what the code's feed gives is what the definition's run from the phase x is answered with
  abbrev pub FeedsTo : sessions.Phase → Fed × List ℕ → Run sessions.Phase → Type 0
  FeedsTo x y q = Feeds l stride p opening y (answered x q)

  -- a payload session and its canvas stand for a reading, which is not refused
  abbrev pub PayloadStands : payload_session.Session → List ℕ → sessions.Reading → Type 0
  PayloadStands s c r = payload.Stands opening s c (held_at l stride (length opening) r false)

  -- ---- the end

  module _ {s : payload_session.Session} {c : List ℕ} {r : sessions.Reading} (k : PayloadStands s c r)
      (h : Parameters) (t : Phase) (x : sessions.Phase) where
    abbrev session : Session
    session = session_of s h t

    -- the definition's phase after an end
    abbrev over_with : Ending → sessions.Phase
    over_with e = sessions.over (end_meant e) r

    -- an end, at a byte or after all of them
    over-halted : (n i : ℕ) (e : Ending) → FeedsTo x (over_as session n i e, c) (after n i (still (over_with e) halted))
    unfolding over_as moved_to answer_meant after still calls.answered calls.tells calls.at_end calls.dcs_end calls.session_after
    over-halted n i e = record { answer = told-still n i (calls.ended (end_meant e)); session = ended k }

    over-read : (n i : ℕ) (e : Ending) → FeedsTo x (over_as session n i e, c) (after n i (still (over_with e) read_all))
    unfolding over_as moved_to answer_meant after still calls.answered calls.tells calls.at_end calls.dcs_end calls.session_after
    over-read n i e = record { answer = told-still n i (calls.ended (end_meant e)); session = ended k }

    -- an ended session repeats its end
    pub over-feeds : (n i a : ℕ) (bs : List ℕ) (e : Ending)
        → FeedsTo x (over_as session n i e, c) (after n i (dcs_call a (over_with e) bs))
    unfolding call sessions.dcs_step follow
    over-feeds n i a [] e = over-read n i e
    over-feeds n i a (b ∷ bs) e = over-halted n i e

    -- and with one byte more before it
    over-next : (n i a : ℕ) (bs : List ℕ) (e : Ending)
        → FeedsTo x (over_as session (n + 1) i e, c) (after n i (after 1 0 (dcs_call a (over_with e) bs)))
    over-next n i a bs e =
        subst (FeedsTo x (over_as session (n + 1) i e, c)) (sym (after_one n i (dcs_call a (over_with e) bs))) (over-feeds (n + 1) i a bs e)

    -- after the 1B that ended the payload
    pub escaped-feeds : (n i a : ℕ) (bs : List ℕ)
        → FeedsTo x (escaped_by session bs n i, c) (after n i (dcs_call a (sessions.after_escape r) bs))
    unfolding escaped_by moved_to over_as answer_meant end_meant call follow sessions.escape_step after still
        calls.answered calls.tells calls.at_end calls.dcs_end calls.session_after
    escaped-feeds n i a [] = record { answer = told-still n i calls.needs_more; session = escaped k }
    escaped-feeds n i a (b ∷ bs) =
        subst (λ (q : Run sessions.Phase). FeedsTo x (escaped_by session (b ∷ bs) n i, c) (after n i q))
        (sym (escape-call setting p a r b bs))
        (both goal (eqb b 0x5C) _ _ _ _ (λ _. over-next n i a bs endings.Complete) (λ _. over-halted n i (endings.Interrupted 0x1B)))
      where
        goal : Fed → Step sessions.Phase → Type 0
        goal f y = FeedsTo x (f, c) (after n i (follow y (λ u j. after 1 j (dcs_call a u bs))))

    escaped-next : (n i a : ℕ) (bs : List ℕ)
        → FeedsTo x (escaped_by session bs (n + 1) i, c) (after n i (after 1 0 (dcs_call a (sessions.after_escape r) bs)))
    escaped-next n i a bs =
        subst (FeedsTo x (escaped_by session bs (n + 1) i, c))
        (sym (after_one n i (dcs_call a (sessions.after_escape r) bs))) (escaped-feeds (n + 1) i a bs)

    -- at the byte that ended it
    closed-feeds : (n i a b : ℕ) (bs : List ℕ)
        → FeedsTo x (closed_by session (b ∷ bs) n i, c) (after n i (end_call setting p a r (b ∷ bs)))
    unfolding closed_by end_meant end_call sessions.end_step follow
    closed-feeds n i a b bs =
        both goal (eqb b 0x1B) _ _ _ _ (λ _. escaped-next n i a bs)
        (λ _. both goal (eqb b 0x9C) _ _ _ _ (λ _. over-next n i a bs endings.Complete)
        (λ _. both goal (eqb b 0x18 || eqb b 0x1A) _ _ _ _
        (λ _. over-next n i a bs (endings.Cancelled b)) (λ _. over-halted n i (endings.Interrupted b))))
      where
        goal : Fed → Step sessions.Phase → Type 0
        goal f y = FeedsTo x (f, c) (after n i (follow y (λ u j. after 1 j (dcs_call a u bs))))

  -- ---- in the payload

  module _ (r : sessions.Reading) (h : Parameters) (x : sessions.Phase) (y : payload_answer.Fed × List ℕ) (u : sessions.Reading)
      (c i a n : ℕ) (bs : List ℕ) where
    abbrev ran : How → Run sessions.Reading
    ran how = record { state = u; consumed = c; ink = i; how = how }

    -- the session with what the payload session's call left
    abbrev left : Session
    left = session_of y.0.session h phases.Within

    -- what the code makes of that call's answer, and the definition of its payload's
    abbrev PassesAs : payload_answer.Answer → How → Type 0
    PassesAs z how = FeedsTo x (passed_on z left bs n, y.1) (after n 0 (framed_call setting p a (ran how) bs))

    abbrev Passes : How → Type 0
    Passes = PassesAs y.0.answer

    abbrev Given : How → Type 0
    Given how =
        payload.Feeds opening y (calls.answered (λ (r : sessions.Reading). r.over) (held_at l stride (length opening) r false) (ran how))

    passed-as : {z : payload_answer.Answer} (how : How) → y.0.answer ≡ z → PassesAs z how → Passes how
    passed-as how e f = subst (λ (z : payload_answer.Answer). PassesAs z how) (sym e) f

    passed-feeds : (how : How) → EndOf how u.over → (how ≡ halted → (b : ℕ) × (later : List ℕ) × (drop c bs ≡ b ∷ later))
        → Given how → Passes how
    unfolding passed_on framed_call in_payload after answer_meant calls.answered calls.tells calls.at_end calls.dcs_end calls.session_after
    passed-feeds read_all none_yet at f =
        passed-as read_all (more-from y.0.answer c i (f.answer ∙ ap (λ (o : Option ℕ). calls.told c i (calls.at_end o)) none_yet))
        (record {
          answer = ap (λ (j : ℕ). calls.told (n + c) j calls.needs_more) (sym (zero-add i));
          session = inside f.session (λ _. none_yet);
        })
    passed-feeds stopped none_yet at f =
        passed-as stopped (stopped-from y.0.answer c i f.answer)
        (record {
          answer = ap (λ (j : ℕ). calls.told (n + c) j calls.stopped_for_ink) (sym (zero-add i));
          session = inside f.session (λ _. none_yet);
        })
    passed-feeds halted over at f =
        let rest = at refl in
        let end : List ℕ → Run sessions.Phase = end_call setting p (a - i) u in
        passed-as halted
        (ended-from y.0.answer c i over.0 (f.answer ∙ ap (λ (o : Option ℕ). calls.told c i (calls.at_end o)) over.1))
        (subst (FeedsTo x (closed_by left (drop c bs) (n + c) i, y.1))
        (ap (λ (j : ℕ). after (n + c) j (end (drop c bs))) (sym (zero-add i)) ∙ after-after n 0 c i (end (drop c bs)))
        (subst (λ (us : List ℕ). FeedsTo x (closed_by left us (n + c) i, y.1) (after (n + c) i (end us)))
        (sym rest.2) (closed-feeds f.session h phases.Within x (n + c) i (a - i) rest.0 rest.1)))
    passed-feeds (refused_by m) _ at f =
        let w = refused-from y.0.answer m f.answer in
        passed-as (refused_by m) w.1
        (record { answer = ap calls.refused w.2; session = inside f.session (λ z. absurd (true≢false z)) })

  module _ {s : payload_session.Session} {c : List ℕ} {r : sessions.Reading} (k : PayloadStands s c r) (going : r.over ≡ none)
      (h : Parameters) (x : sessions.Phase) where
    -- the payload's bytes, with a session that passes 9, 12 and 13
    pub payload-feeds : (n a : ℕ) (bs : List ℕ) → feed_judged s (length c) a ≡ Ok tt
        → FeedsTo x (fed_payload (session_of s h phases.Within) c bs n a) (after n 0 (dcs_call a (sessions.within r) bs))
    unfolding fed_payload judgements.judged_meant calls.feed_payload
    payload-feeds n a bs fine =
        let q : Run sessions.Reading = call (sessions.payload_step setting) (sessions.rested setting) a r bs in
        let y : payload_answer.Fed × List ℕ = coded.fed_by s c bs a in
        let m : calls.Session sessions.Reading = held_at l stride (length opening) r false in
        let f : payload.Feeds opening y (calls.answered (λ (r : sessions.Reading). r.over) m q) =
        subst (payload.Feeds opening y)
        (fed-as (λ (r : sessions.Reading). r.drawing.area) sessions.payload_step sessions.rested (λ (r : sessions.Reading). r.over) m
        (length c) a bs (sym (judgements.feed-judged k (length c) a) ∙ ap judgements.judged_meant fine))
        (feedings.feed-stands k bs a) in
        subst (λ (z : Run sessions.Phase). FeedsTo x (fed_payload (session_of s h phases.Within) c bs n a) (after n 0 z))
        (sym (within-call setting p a r bs))
        (passed-feeds r h x y q.state q.consumed q.ink a n bs q.how
        (end_of (feedings.live-agrees k a bs refl going).ends)
        (halted-at (called (sessions.payload_step setting) (sessions.rested setting) a r bs)) f)
