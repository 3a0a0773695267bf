-- Before the payload: introducer and header lead code and definition to the same place, or to the payload.
use Rattle.std.specs.Prelude.{◌≡◌, ℕ, ◌+◌, true, List, [], ◌∷◌, length, drop, Ok, Err}
use native.Mathlib.Nat.{add-zero}
use mathlib.Core.Option.{Option, none}
use mathlib.Core.Path.{refl, sym, ap, ap₂, subst, ◌∙◌}
use borrow.Author.Tests.{le-leb}
use lib.Seq.{drop-drop}
use Rattle.numbers.specs.declared.Parameters.{Parameters}
use Rattle.numbers.proofs.Laws.{cond_yes}
use Rattle.colours.specs.declared.Palette.{Palette}
use Rattle.colours.specs.Marks.{lasting}
use Rattle.canvas.specs.Picture.{span}
use Rattle.canvas.specs.Paint.{painted}
use Rattle.canvas.proofs.Bytes.{length-painted}
use Rattle.frame.specs.declared.Limits.{Limits}
use Rattle.meaning.specs.Calls as calls
use Rattle.meaning.specs.Drawing.{Setting}
use Rattle.meaning.specs.Payload as meant
use Rattle.meaning.specs.Reader.{Step, Run, still, after, call}
use Rattle.meaning.specs.Sessions as sessions
use Rattle.payload.specs.declared.Life.TheVariants as lives
use Rattle.payload.specs.declared.Session as payload_session
use Rattle.payload.specs.declared.Settings.{Settings}
use Rattle.payload.specs.Deferred.{no_settings, with_background, begun_session, begun_by, failed_of}
use Rattle.payload.specs.Refusals.{openable, misfitting, fitting, feed_judged}
use Rattle.payload.specs.Session as coded
use Rattle.payload.specs.Meant as payload_meant
use Rattle.payload.proofs.SessionLaws.{pixel-there}
use Rattle.payload.proofs.Openings as openings
use Rattle.dcs.specs.declared.Phase.{Phase}
use Rattle.dcs.specs.declared.Phase.TheVariants as phases
use Rattle.header.specs.declared.Lead.{Lead}
use Rattle.header.specs.Results.{Led}
use Rattle.header.specs.declared.Led.TheVariants as leds
use Rattle.header.specs.declared.Place.{Place}
use Rattle.header.specs.declared.Step as lead_step
use Rattle.header.specs.Lead.{lead_at, lead_on, lead_from}
use Rattle.header.specs.Settings.{settings_from}
use Rattle.dcs.specs.Session.{session_of, fed_payload, led_to}
use Rattle.dcs.specs.History.{SamePlace, at_start, at_introduced, in_header, before, refused}
use Rattle.dcs.specs.Meant.{answer_meant}
use Rattle.dcs.proofs.Runs.{call-dry, call-refuses, after_one}
use Rattle.dcs.proofs.Leading.{LeadAgrees, goes_on, begins, turns_down, byte-leads}
use Rattle.dcs.proofs.Within as framed
use Rattle.dcs.proofs.Within.{FeedsTo, payload-feeds}

module _ (l : Limits) (stride : ℕ) (p : Palette) (opening : List ℕ) where
  abbrev setting : Setting
  setting = payload_meant.setting_meant l stride (length opening)

  -- the definition's call
  abbrev dcs_call : ℕ → sessions.Phase → List ℕ → Run sessions.Phase
  dcs_call = framed.dcs_call l stride p opening

  -- the payload session before `q`
  abbrev pub waiting : payload_session.Session
  waiting = coded.session_for l stride (length opening) no_settings (lasting p) lives.Live

  -- what it is at `q`, with the canvas
  abbrev begun : Settings → payload_session.Session
  begun o = coded.session_for l stride (length opening) o (lasting p) lives.Live

  abbrev begun_canvas : Settings → List ℕ
  begun_canvas o = painted (span 0 1) (coded.background_for (lasting p) o.p2) opening

  begun-ready : (o : Settings) → openable l stride (length opening) ≡ true → begun_by waiting o opening ≡ (begun o, begun_canvas o)
  unfolding begun_by begun_session with_background coded.session_for coded.ground_for
  begun-ready o opens =
      ap (λ (c : List ℕ). (begun o, c))
      (cond_yes _ _ (le-leb 4 (length opening) (pixel-there l stride (length opening) refl opens)))

  -- it passes what the waiting session passed
  fine-begun : (o : Settings) (a : ℕ) → feed_judged waiting (length opening) a ≡ Ok tt
      → feed_judged (begun o) (length (begun_canvas o)) a ≡ Ok tt
  unfolding feed_judged misfitting fitting coded.session_for coded.ground_for coded.blank_frame
  fine-begun o a e =
      subst (λ (n : ℕ). feed_judged (begun o) n a ≡ Ok tt)
      (sym (length-painted (span 0 1) (coded.background_for (lasting p) o.p2) opening)) e

  -- before the payload there is no end and no visible area, and finishing is 8
  pub place-open : {t : Place} {h : Parameters} {x : sessions.Phase} → SamePlace t h x → calls.dcs_end x ≡ none
  unfolding calls.dcs_end
  place-open (at_start r) = refl
  place-open (at_introduced r) = refl
  place-open (in_header r) = refl

  pub place-area : {t : Place} {h : Parameters} {x : sessions.Phase} → SamePlace t h x
      → calls.visible_area (calls.drawing_of x) ≡ record { width = 0; height = 0 }
  unfolding calls.drawing_of calls.visible_area
  place-area (at_start r) = refl
  place-area (at_introduced r) = refl
  place-area (in_header r) = refl

  pub place-unfinished : {t : Place} {h : Parameters} {x : sessions.Phase} → SamePlace t h x
      → sessions.finish_dcs setting x ≡ meant.turned_down 8
  unfolding sessions.finish_dcs
  place-unfinished (at_start r) = refl
  place-unfinished (at_introduced r) = refl
  place-unfinished (in_header r) = refl

  -- a call with these bytes, of a session before the payload that passes 9, 12 and 13
  module _ (opens : openable l stride (length opening) ≡ true) (h₀ : Parameters) (t₀ : Phase) (x₀ : sessions.Phase)
      (whole : List ℕ) (a : ℕ) (fine : feed_judged waiting (length opening) a ≡ Ok tt) where
    -- the place where the code's lead ends is answered as the definition's run is
    abbrev pub Leads : Lead → Run sessions.Phase → Type 0
    Leads z q = FeedsTo l stride p opening x₀ (led_to z.led z (session_of waiting h₀ t₀) opening whole a) q

    -- the definition's payload, opened by the header
    abbrev payload_by : Parameters → sessions.Phase
    payload_by h = sessions.within (sessions.opened (payload_meant.parameters_meant (settings_from h)) p)

    lead-begins : (t : Place) (h : Parameters) (n : ℕ) (bs : List ℕ) → drop n whole ≡ bs
        → Leads (lead_at t h n (Ok leds.Begins)) (after n 0 (dcs_call a (payload_by h) bs))
    unfolding led_to sessions.opened
    lead-begins t h n bs e =
        let o : Settings = settings_from h in
        subst (λ (us : List ℕ). Leads (lead_at t h n (Ok leds.Begins)) (after n 0 (dcs_call a (payload_by h) us))) e
        (subst
        (λ (b : payload_session.Session × List ℕ).
        FeedsTo l stride p opening x₀
        (fed_payload (session_of b.0 h phases.Within) b.1 (drop n whole) n a)
        (after n 0 (dcs_call a (payload_by h) (drop n whole))))
        (sym (begun-ready o opens))
        (payload-feeds l stride p opening (openings.ready-stands l stride o p opening opens) refl h x₀ n a (drop n whole)
        (fine-begun o a fine)))

    -- where the bytes lead, if the one before them led to w
    abbrev on : Led → lead_step.Step → ℕ → List ℕ → Lead
    on w s n bs = lead_on w s n (λ n' t' h'. lead_from bs n' t' h')

    as-led : {w : Led} (s : lead_step.Step) (n : ℕ) (bs : List ℕ) (q : Run sessions.Phase) → s.led ≡ w
        → Leads (on w s n bs) q → Leads (on s.led s n bs) q
    as-led s n bs q e f = subst (λ (w : Led). Leads (on w s n bs) q) (sym e) f

    -- one byte, where the later ones are known
    byte-feeds : (n b : ℕ) (bs : List ℕ) (x : sessions.Phase) {s : lead_step.Step} {y : Step sessions.Phase}
        → drop n whole ≡ b ∷ bs → LeadAgrees p s y → sessions.dcs_step setting p x b ≡ y
        → ((t : Place) (h : Parameters) (z : sessions.Phase) → SamePlace t h z
        → Leads (lead_from bs (n + 1) t h) (after (n + 1) 0 (dcs_call a z bs)))
        → Leads (on s.led s n bs) (after n 0 (dcs_call a x (b ∷ bs)))
    unfolding lead_on led_to failed_of coded.session_with coded.session_for after still answer_meant calls.answered calls.session_after
    byte-feeds n b bs x {s} at (goes_on {x = z} e same) step later =
        as-led s n bs (after n 0 (dcs_call a x (b ∷ bs))) e
        (subst (Leads (lead_from bs (n + 1) s.place s.header))
        (sym
        (ap (after n 0) (call-dry (sessions.dcs_step setting p) (sessions.dcs_rested setting) a x b bs step)
        ∙ after_one n 0 (dcs_call a z bs)))
        (later s.place s.header z same))
    byte-feeds n b bs x {s} at (begins {o = o} e same) step later =
        as-led s n bs (after n 0 (dcs_call a x (b ∷ bs))) e
        (subst (Leads (lead_at s.place s.header (n + 1) (Ok leds.Begins)))
        (sym
        (ap (after n 0) (call-dry (sessions.dcs_step setting p) (sessions.dcs_rested setting) a x b bs step)
        ∙ after_one n 0 (dcs_call a (sessions.within (sessions.opened o p)) bs)
        ∙ ap (λ (q : meant.Parameters). after (n + 1) 0 (dcs_call a (sessions.within (sessions.opened q p)) bs)) same))
        (lead-begins s.place s.header (n + 1) bs (sym (drop-drop 1 n whole) ∙ ap (drop 1) at)))
    byte-feeds n b bs x {s} at (turns_down {x = z} {n = m} why e number same) step later =
        as-led s n bs (after n 0 (dcs_call a x (b ∷ bs))) e
        (subst (Leads (lead_at s.place s.header n (Err why)))
        (sym (ap (after n 0) (call-refuses (sessions.dcs_step setting p) (sessions.dcs_rested setting) a x b bs step)))
        (record { answer = ap calls.refused number; session = refused same }))

    pub lead-feeds : (bs : List ℕ) (t : Place) (h : Parameters) (x : sessions.Phase) → SamePlace t h x → (n : ℕ) → drop n whole ≡ bs
        → Leads (lead_from bs n t h) (after n 0 (dcs_call a x bs))
    unfolding lead_from led_to call after still answer_meant calls.answered calls.tells calls.session_after
    lead-feeds [] t h x same n e =
        record {
          answer = ap₂ (λ (m : ℕ) (o : Option sessions.End). calls.told m 0 (calls.at_end o)) (sym (add-zero n)) (sym (place-open same));
          session = before opens same;
        }
    lead-feeds (b ∷ bs) t h x same n e =
        byte-feeds n b bs x e (byte-leads setting p b same) refl
        (λ t' h' x' k. lead-feeds bs t' h' x' k (n + 1) (sym (drop-drop 1 n whole) ∙ ap (drop 1) e))
