-- The refusals of the code's payload sessions are the definition's, and leave what rules 5.6 and 5.7 say.
use Rattle.std.specs.Prelude.{Ok, Err}
use Prim.Native.Nat.{ℕ, ◌≤◌}
use mathlib.Core.Bool.{Bool, true}
use mathlib.Core.List.{List, [], ◌∷◌}
use mathlib.Core.Logic.Iff
use mathlib.Core.Logic.{◌↔◌}
use mathlib.Core.Option.{some}
use mathlib.Core.Path.{◌≡◌, refl, sym, ap, ◌∙◌, subst}
use native.Mathlib.Omega.{arith}
use lib.ListN.{length}
use Rattle.colours.specs.declared.Palette.{Palette}
use Rattle.frame.specs.Numbers.{number_of}
use Rattle.frame.specs.declared.Frame.{Frame}
use Rattle.frame.specs.declared.Limits.{Limits}
use Rattle.frame.specs.declared.Outcome.{Outcome}
use Rattle.frame.specs.declared.Outcome.TheVariants as outcomes
use Rattle.frame.specs.declared.Refusal.{Refusal}
use Rattle.frame.specs.declared.Refusal.TheVariants.{Failed, Opening, Canvas}
use Rattle.frame.specs.Commands.{Ended, ended}
use Rattle.meaning.specs.Calls as calls
use Rattle.meaning.specs.Payload as meant
use Rattle.meaning.specs.Sessions.{Reading, payload_step}
use Rattle.payload.specs.Results.{Answer, Opened, Verdict}
use Rattle.payload.specs.declared.Answer.TheVariants as answers
use Rattle.payload.specs.declared.Finished.{Finished}
use Rattle.payload.specs.declared.Report.{Report}
use Rattle.payload.specs.declared.Session.{Session}
use Rattle.payload.specs.declared.Settings.{Settings}
use Rattle.payload.specs.Refusals.{openable, feed_judged, finish_judged}
use Rattle.payload.specs.Session.{opened_by, fed_as, fed_by, turned_away, pictured, finished_in, finished_live, finished_as, finished_by}
use Rattle.payload.specs.History.{Stands, Opens, is_ready, is_refused, Finishes, pictures, declines}
use Rattle.payload.specs.Meant.{limits_meant, answer_meant}
use Rattle.payload.proofs.Openings.{opens-meant, open-stands, open-refused}
use Rattle.payload.proofs.Judgements.{judged_meant, misfit, feed-judged, finish-judged, stands-shows}
use Rattle.payload.proofs.Feedings.{feed-stands}
use Rattle.payload.proofs.Finishings.{finish-stands}
use Rattle.promises.proofs.Choices.{Tells, tells-itself, tells-fails}
use Rattle.promises.proofs.Meanings.{refusal-known}
use Rattle.promises.proofs.RefusedCalls as any
use Rattle.promises.proofs.RefusedRuns.{RunRefused}
use Rattle.promises.proofs.RefusedSessions.{payload_area, Openable, tells-opens, payload_ran, payload-nine, payload-twelve, payload-first, payload-bytes, payload-fails}

-- ---- a refusal is known by its number

answer-known : (y : Answer) (x : Refusal) → answer_meant y ≡ calls.refused (number_of x) → y ≡ Err x
unfolding answer_meant
answer-known (Ok (answers.More n i)) x e = let never : ◌≡◌ {A = ℕ} 0 1 = cc in absurd (omega arith)
answer-known (Ok (answers.Stopped n i)) x e = let never : ◌≡◌ {A = ℕ} 0 1 = cc in absurd (omega arith)
answer-known (Ok (answers.Ended n i b)) x e = let never : ◌≡◌ {A = ℕ} 0 1 = cc in absurd (omega arith)
answer-known (Err y) x e = ap Err (refusal-known (cc))

pub judged-known : (j : Verdict) (x : Refusal) → judged_meant j ≡ some (number_of x) → j ≡ Err x
unfolding judged_meant
judged-known (Ok tt) x e = let never : ◌≡◌ {A = ℕ} 0 1 = cc in absurd (omega arith)
judged-known (Err y) x e = ap Err (refusal-known (cc))

module _ {opening : List ℕ} {s : Session} {l : List ℕ} {m : calls.Session Reading} (k : Stands opening s l m) (bs : List ℕ) (a : ℕ) where
  -- ---- feed

  -- The code's feed is refused with a number exactly when the definition's is.
  pub payload-feed-exactly : (x : Refusal)
      → ((fed_by s l bs a).0.answer ≡ Err x) ↔ ((calls.feed_payload m (length l) a bs).answer ≡ calls.refused (number_of x))
  unfolding answer_meant
  payload-feed-exactly x = (
    λ e. sym (feed-stands k bs a).answer ∙ ap answer_meant e,
    λ e. answer-known (fed_by s l bs a).0.answer x ((feed-stands k bs a).answer ∙ e),
  )

  -- refused before a byte is read, whichever canvas is lent
  refused-before : (lent : List ℕ) (x : Refusal) → calls.feed_refusal payload_area m (length lent) a ≡ some (number_of x)
      → fed_by s lent bs a ≡ (record { answer = Err x; session = s }, lent)
  unfolding fed_by fed_as
  refused-before lent x e =
      ap (λ (j : Verdict). fed_as j s lent bs a) (judged-known (feed_judged s (length lent) a) x (feed-judged k (length lent) a ∙ e))

  -- 9, 12 and 13 leave the session and every byte of the canvas as they were.
  pub payload-feed-keeps : (x : Refusal) → 8 ≤ number_of x → (fed_by s l bs a).0.answer ≡ Err x
      → fed_by s l bs a ≡ (record { answer = Err x; session = s }, l)
  payload-feed-keeps x high e = refused-before l x (payload-first m (length l) a bs (number_of x) high ((payload-feed-exactly x).0 e))

  -- A failed session is 9, whichever canvas is lent, and all stays as it was.
  pub payload-nine-keeps : (lent : List ℕ) → m.failed ≡ true → fed_by s lent bs a ≡ (record { answer = Err Failed; session = s }, lent)
  unfolding number_of
  payload-nine-keeps lent h = refused-before lent Failed (payload-first m (length lent) a bs 9 (omega arith) ((payload-nine m (length lent) a bs).1 h))

  -- Another is 12 on a canvas that does not fit, and all stays as it was.
  pub payload-twelve-keeps : (lent : List ℕ) → ¬ (m.failed ≡ true) → any.Misfits payload_area m (length lent)
      → fed_by s lent bs a ≡ (record { answer = Err Canvas; session = s }, lent)
  unfolding number_of
  payload-twelve-keeps lent h misfit =
      refused-before lent Canvas (payload-first m (length lent) a bs 12 (omega arith) ((payload-twelve m (length lent) a bs).1 (h, misfit)))

  -- 4 to 7 leave the canvas showing what came before the refused byte or command.
  pub payload-feed-shows : (x : Refusal) → number_of x ≤ 7 → (fed_by s l bs a).0.answer ≡ Err x
      → RunRefused (payload_step m.setting) a m.state bs (payload_ran m (length l) a bs).state (number_of x)
      × ((fed_by s l bs a).1 ≡ calls.shown m.setting.stride (some (payload_ran m (length l) a bs).state.drawing) opening)
  unfolding calls.payload_shown calls.session_after
  payload-feed-shows x low e =
      let d = (payload-feed-exactly x).0 e in (
        ((payload-bytes m (length l) a bs (number_of x) low).0 d).1.1.1,
        stands-shows (feed-stands k bs a).session
            ∙ ap (λ (t : calls.Session Reading). calls.payload_shown t opening) (payload-fails m (length l) a bs (number_of x) low d),
      )

-- ---- finish

-- a finish that is the definition's is refused exactly when it is
pub finishes-exactly : {picture l : List ℕ} {owner : Palette} {y : Finished × List ℕ} {z : meant.Finished} → Finishes picture owner l y z → (x : Refusal)
    → (y.0.answer ≡ Err x) ↔ (z ≡ meant.turned_down (number_of x))
finishes-exactly pictures x = (λ e. let never : ◌≡◌ {A = ℕ} 0 1 = cc in absurd (omega arith), λ e. let never : ◌≡◌ {A = ℕ} 0 1 = cc in absurd (omega arith))
finishes-exactly (declines n) x =
    (λ e. let same : n ≡ x = cc in ap (λ (y : Refusal). meant.turned_down (number_of y)) same, λ e. ap Err (refusal-known (cc)))

-- The code's finish is refused with a number exactly when the definition's is.
pub payload-finish-exactly : {opening : List ℕ} {s : Session} {l : List ℕ} {m : calls.Session Reading} → Stands opening s l m → (owner : Palette) (x : Refusal)
    → ((finished_by s owner l).0.answer ≡ Err x) ↔ (calls.finish_payload m (length l) ≡ meant.turned_down (number_of x))
payload-finish-exactly k owner = finishes-exactly (finish-stands k owner)

module _ {opening : List ℕ} {s : Session} {l : List ℕ} {m : calls.Session Reading} (k : Stands opening s l m) (owner : Palette) (lent : List ℕ) where
  -- refused before the pending command, whichever canvas is lent
  ended-before : (x : Refusal)
      → calls.first_of (record { holds = m.failed; number = 9 } ∷ record { holds = calls.misfits payload_area m (length lent); number = 12 } ∷ [])
      ≡ some (number_of x)
      → finished_by s owner lent ≡ (record { answer = Err x; palette = owner }, lent)
  unfolding finished_by finished_as turned_away misfit
  ended-before x e =
      ap (λ (j : Verdict). finished_as j s owner lent) (judged-known (finish_judged s (length lent)) x (finish-judged k (length lent) ∙ e))

  -- A finish of a failed session is 9, whichever canvas is lent.
  pub payload-finish-nine-keeps : m.failed ≡ true → finished_by s owner lent ≡ (record { answer = Err Failed; palette = owner }, lent)
  unfolding number_of calls.first_of
  payload-finish-nine-keeps h = ended-before Failed (rw h refl)

  -- One of another is 12 on a canvas that does not fit.
  pub payload-finish-twelve-keeps : ¬ (m.failed ≡ true) → any.Misfits payload_area m (length lent)
      → finished_by s owner lent ≡ (record { answer = Err Canvas; palette = owner }, lent)
  unfolding number_of calls.first_of calls.misfits
  payload-finish-twelve-keeps live misfits =
      ended-before Canvas (rw ((tells-fails tells-itself).1 live, (any.tells-misfits payload_area m (length lent)).1 misfits) refl)

-- a refused finish is this
abbrev pub Untouched : Palette → List ℕ → Finished × List ℕ → Type 0
Untouched owner canvas y = (x : Refusal) → y.0.answer ≡ Err x → (y.0.palette ≡ owner) × (y.1 ≡ canvas)

-- a picture is no refusal
pub picture-not : {r : Report} {x : Refusal} → ¬ (Ok r ≡ Err x)
picture-not e = let never : ◌≡◌ {A = ℕ} 0 1 = cc in omega arith

module _ (s : Session) (owner : Palette) (canvas : List ℕ) where
  outcome-keeps : (o : Outcome) (last : Frame) (p : Palette) → Untouched owner canvas (finished_in o s owner last p canvas)
  unfolding finished_in pictured turned_away
  outcome-keeps outcomes.Read last p x e = absurd (picture-not e)
  outcome-keeps outcomes.Stopped last p x e = absurd (picture-not e)
  outcome-keeps (outcomes.Ended b) last p x e = absurd (picture-not e)
  outcome-keeps (outcomes.Refused n) last p x e = (refl, refl)

  finish-keeps : (j : Verdict) → Untouched owner canvas (finished_as j s owner canvas)
  unfolding finished_as finished_live turned_away
  finish-keeps (Ok tt) =
      let e : Ended = ended s.frame s.ground s.palette in outcome-keeps e.progress.outcome e.progress.frame e.palette
  finish-keeps (Err n) = λ x e. (refl, refl)

  -- Every refused finish, of whichever session and canvas, hands back the owner's palette and writes nothing.
  pub payload-finish-keeps : Untouched owner canvas (finished_by s owner canvas)
  unfolding finished_by
  payload-finish-keeps = finish-keeps (finish_judged s (length canvas))

-- ---- opening

-- the code's test of an opening tells whether it may be opened
pub tells-openable : (l : Limits) (stride size : ℕ) → Tells (openable l stride size) (Openable (limits_meant l) stride size)
tells-openable l stride size =
    subst (λ (t : Bool). Tells t (Openable (limits_meant l) stride size)) (sym (opens-meant l stride size)) (tells-opens (limits_meant l) stride size)

-- The code's opening is 11 exactly when a number is out of its range or there is no whole row.
pub payload-open-exactly : (l : Limits) (stride : ℕ) (o : Settings) (p : Palette) (opening : List ℕ)
    → ((opened_by l stride o p opening).0.answer ≡ Err Opening) ↔ (¬ Openable (limits_meant l) stride (length opening))
payload-open-exactly l stride o p opening = Iff.trans (open-refused l stride o p opening) (tells-fails (tells-openable l stride (length opening)))

-- A refused opening writes nothing.
pub payload-open-keeps : (l : Limits) (stride : ℕ) (o : Settings) (p : Palette) (opening : List ℕ) (x : Refusal)
    → (opened_by l stride o p opening).0.answer ≡ Err x → (opened_by l stride o p opening).1 ≡ opening
payload-open-keeps l stride o p opening x = go (open-stands l stride o p opening)
  where
    go : {y : Opened × List ℕ} {z : calls.Opened Reading} → Opens opening y z → y.0.answer ≡ Err x → y.1 ≡ opening
    go (is_ready k) e = let never : ◌≡◌ {A = ℕ} 0 1 = cc in absurd (omega arith)
    go (is_refused n) e = refl
