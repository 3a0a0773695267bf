-- Hollow readers over many calls (docs/PROMISES.md): every reader that keeps the promise of a feed (`Meets`), which is
-- weaker than the contract, keeps demands 2 and 3. So the number of calls, the sum of the ink, every status and every canvas are fixed.
use Prim.Native.Nat.{ℕ, ◌*◌, ◌≤◌}
use mathlib.Core.Bool.{true}
use mathlib.Core.List.{List}
use mathlib.Core.Path.{◌≡◌, sym, ap, ◌∙◌, subst}
use lib.ListN.{length}
use Rattle.colours.specs.declared.Palette.{Palette}
use Rattle.frame.specs.declared.Limits.{Limits}
use Rattle.meaning.specs.Calls as calls
use Rattle.meaning.specs.Callers.{Feed, proper_calls}
use Rattle.meaning.specs.Demands.{concluded, DemandTwo, DemandThree}
use Rattle.meaning.specs.Reader.{Turn, ready}
use Rattle.meaning.specs.Sessions.{Reading, End, Phase}
use Rattle.payload.specs.declared.Settings.{Settings}
use Rattle.payload.specs.Meant.{limits_meant}
use Rattle.payload.specs.Session.{fed_by}
use Rattle.payload.specs.History as payload
use Rattle.payload.proofs.Openings as payload_openings
use Rattle.payload.proofs.Feedings as payload_feedings
use Rattle.payload.proofs.Finishings as payload_finishings
use Rattle.payload.proofs.Judgements as payload_standing
use Rattle.dcs.specs.Results as dcs_fed
use Rattle.dcs.specs.History as dcs
use Rattle.dcs.specs.Meant as dcs_meant
use Rattle.dcs.specs.Session as dcs_calls
use Rattle.dcs.proofs.Openings as dcs_openings
use Rattle.dcs.proofs.Standing as dcs_standing
use Rattle.promises.specs.Readers.{payload_feed, payload_canvas, payload_finish, dcs_feed, dcs_canvas, dcs_finish}
use Rattle.promises.proofs.Alike.{AlikeReaders, all-pieces, ready-alike, proper-alike, two-alike, three-alike}
use Rattle.promises.proofs.Concluding.{finishes-concluded}
use Rattle.promises.proofs.Demands as demands
use Rattle.promises.proofs.DcsDemands as dcs_demands
use Rattle.promises.proofs.MemoryReaders.{AnyBytes}
use Rattle.promises.proofs.Opened.{may-open}
use Rattle.promises.proofs.Hollow as hollow
use Rattle.promises.proofs.HollowDcs as hollow_dcs

-- ---- payload sessions

module _ (f : hollow.Reader) (meets : hollow.Meets f) where
  abbrev pub feed_by : Feed payload.Held (calls.Answer ℕ)
  feed_by = payload.tell_with f

  -- two callers hold what stands for one session of the definition
  abbrev Same : List ℕ → payload.Held → payload.Held → Type 0
  Same opening h k = (m : calls.Session Reading) × payload.Stands opening h.0 h.1 m × payload.Stands opening k.0 k.1 m

  alike : (opening : List ℕ) → AlikeReaders payload_feed feed_by payload_canvas payload_canvas payload_finish payload_finish (Same opening) AnyBytes
  alike opening =
      record {
        fed = λ {h} {k} l bs good a.
            let ours : payload.Feeds opening (fed_by h.0 h.1 bs a) (calls.feed_payload l.0 (length opening) a bs) =
            subst (λ (n : ℕ). payload.Feeds opening (fed_by h.0 h.1 bs a) (calls.feed_payload l.0 n a bs))
            (payload_standing.stands-long l.1) (payload_feedings.feed-stands l.1 bs a) in
            let theirs : payload.Feeds opening (f k.0 k.1 bs a) (calls.feed_payload l.0 (length opening) a bs) =
            subst (λ (n : ℕ). payload.Feeds opening (f k.0 k.1 bs a) (calls.feed_payload l.0 n a bs)) (payload_standing.stands-long l.2)
            (meets opening k.0 k.1 l.0 l.2 bs a) in
            (theirs.answer ∙ sym ours.answer, (_, ours.session, theirs.session));
        canvas = λ l. payload_standing.stands-shows l.2 ∙ sym (payload_standing.stands-shows l.1);
        finished = λ {h} {k} l owner.
            let same : k.1 ≡ h.1 = payload_standing.stands-shows l.2 ∙ sym (payload_standing.stands-shows l.1) in
            finishes-concluded (payload_finishings.finish-stands l.2 owner)
            ∙ ap (λ (c : List ℕ). concluded (calls.payload_shown_at_finish l.0 opening) owner c (calls.finish_payload l.0 (length c))) same
            ∙ sym (finishes-concluded (payload_finishings.finish-stands l.1 owner));
        good-nil = tt;
        good-append = λ h k. tt;
        good-drop = λ n h. tt;
      }

  module _ (l : Limits) (stride : ℕ) (o : Settings) (p : Palette) (opening : List ℕ) (opens : calls.opens (limits_meant l) stride (length opening) ≡ true)
      (A : ℕ) (ts : List Turn) (enough : 6 * l.width ≤ A) (ok : proper_calls feed_by A (ready (demands.held l stride o p opening)) ts ≡ true) where
    opened : Same opening (demands.held l stride o p opening) (demands.held l stride o p opening)
    opened = let k = payload_openings.opened-stands l stride o p opening (may-open l stride (length opening) opens) in (_, k, k)

    may-be-made : proper_calls payload_feed A (ready (demands.held l stride o p opening)) ts ≡ true
    may-be-made = sym (proper-alike (alike opening) A (ready-alike (alike opening) opened) ts (all-pieces AnyBytes (λ bs. tt) ts)) ∙ ok

    -- One fixed picture, painting in one call and pretence in the rest: every canvas, status and finish is the whole stream's.
    pub any-demand-two : DemandTwo feed_by payload_canvas payload_finish (demands.whole_of l stride o p opening) (demands.held l stride o p opening) ts
    any-demand-two =
        two-alike (alike opening) _ opened ts (all-pieces AnyBytes (λ bs. tt) ts) (demands.demand-two l stride o p opening opens A ts enough may-be-made)

    -- Consuming nothing and stopping: the number of calls. An invented ink figure: the sum.
    pub any-demand-three : DemandThree feed_by (demands.whole_of l stride o p opening) l.width A (demands.held l stride o p opening) ts
    any-demand-three =
        three-alike (alike opening) _ opened ts (all-pieces AnyBytes (λ bs. tt) ts) l.width A
        (demands.demand-three l stride o p opening opens A ts enough may-be-made)

-- ---- DCS sessions

module _ (f : hollow_dcs.Reader) (meets : hollow_dcs.Meets f) where
  abbrev pub dcs_feed_by : Feed dcs.Held (calls.Answer End)
  dcs_feed_by h bs a = let x : dcs_fed.Fed × List ℕ = f h.0 h.1 bs a in ((x.0.session, x.1), dcs_meant.answer_meant x.0.answer)

  module _ (l : Limits) (stride : ℕ) (p : Palette) (opening : List ℕ) where
    abbrev DcsSame : dcs.Held → dcs.Held → Type 0
    DcsSame h k = (m : calls.Session Phase) × dcs.Stands l stride p opening h.0 h.1 m × dcs.Stands l stride p opening k.0 k.1 m

    dcs-alike : AlikeReaders dcs_feed dcs_feed_by dcs_canvas dcs_canvas dcs_finish dcs_finish DcsSame AnyBytes
    dcs-alike =
        record {
          fed = λ {h} {k} q bs good a.
              let ours : dcs.Feeds l stride p opening (dcs_calls.fed_by h.0 h.1 bs a) (calls.feed_dcs p q.0 (length opening) a bs) =
              subst (λ (n : ℕ). dcs.Feeds l stride p opening (dcs_calls.fed_by h.0 h.1 bs a) (calls.feed_dcs p q.0 n a bs))
              (dcs_standing.stands-long l stride p opening q.1)
              (dcs_standing.feed-stands l stride p opening q.1 bs a) in
              let theirs : dcs.Feeds l stride p opening (f k.0 k.1 bs a) (calls.feed_dcs p q.0 (length opening) a bs) =
              subst (λ (n : ℕ). dcs.Feeds l stride p opening (f k.0 k.1 bs a) (calls.feed_dcs p q.0 n a bs))
              (dcs_standing.stands-long l stride p opening q.2)
              (meets l stride p opening k.0 k.1 q.0 q.2 bs a) in
              (theirs.answer ∙ sym ours.answer, (_, ours.session, theirs.session));
          canvas = λ q. dcs_standing.stands-shows l stride p opening q.2 ∙ sym (dcs_standing.stands-shows l stride p opening q.1);
          finished = λ {h} {k} q owner.
              let same : k.1 ≡ h.1 = dcs_standing.stands-shows l stride p opening q.2 ∙ sym (dcs_standing.stands-shows l stride p opening q.1) in
              finishes-concluded (dcs_standing.finish-stands l stride p opening owner q.2)
              ∙ ap (λ (c : List ℕ). concluded (calls.dcs_shown_at_finish q.0 opening) owner c (calls.finish_dcs_session q.0 (length c))) same
              ∙ sym (finishes-concluded (dcs_standing.finish-stands l stride p opening owner q.1));
          good-nil = tt;
          good-append = λ h k. tt;
          good-drop = λ n h. tt;
        }

    module _ (opens : calls.opens (limits_meant l) stride (length opening) ≡ true) (A : ℕ) (ts : List Turn) (enough : 6 * l.width ≤ A)
        (ok : proper_calls dcs_feed_by A (ready (dcs_demands.held l stride p opening)) ts ≡ true) where
      dcs-opened : DcsSame (dcs_demands.held l stride p opening) (dcs_demands.held l stride p opening)
      dcs-opened = let k = dcs_openings.opened-stands l stride p opening (may-open l stride (length opening) opens) in (_, k, k)

      dcs-may-be-made : proper_calls dcs_feed A (ready (dcs_demands.held l stride p opening)) ts ≡ true
      dcs-may-be-made = sym (proper-alike dcs-alike A (ready-alike dcs-alike dcs-opened) ts (all-pieces AnyBytes (λ bs. tt) ts)) ∙ ok

      pub any-dcs-demand-two : DemandTwo dcs_feed_by dcs_canvas dcs_finish (dcs_demands.whole_of l stride p opening) (dcs_demands.held l stride p opening) ts
      any-dcs-demand-two =
          two-alike dcs-alike _ dcs-opened ts (all-pieces AnyBytes (λ bs. tt) ts) (dcs_demands.demand-two l stride p opening opens A ts enough dcs-may-be-made)

      pub any-dcs-demand-three : DemandThree dcs_feed_by (dcs_demands.whole_of l stride p opening) l.width A (dcs_demands.held l stride p opening) ts
      any-dcs-demand-three =
          three-alike dcs-alike _ dcs-opened ts (all-pieces AnyBytes (λ bs. tt) ts) l.width A
          (dcs_demands.demand-three l stride p opening opens A ts enough dcs-may-be-made)
