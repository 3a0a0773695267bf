-- After each call, stopped or not, a session holds what exactly the bytes consumed so far mean (rule 6.5).
use Prim.Native.Nat.{ℕ, ◌*◌, ◌≤◌}
use native.Mathlib.Omega.{arith}
use mathlib.Core.Path.{◌≡◌, refl, sym, ap, ◌∙◌}
use mathlib.Core.Bool.{true, false, true≢false}
use mathlib.Core.Option.{Option, none, some}
use mathlib.Core.List.{List, []}
use lib.ListN.{take}
use Rattle.colours.specs.declared.Palette.{Palette}
use Rattle.colours.specs.Marks.{lasting}
use Rattle.colours.proofs.MarkLaws.{lasting-register}
use Rattle.canvas.specs.Picture.{picture}
use Rattle.meaning.specs.Drawing.{Setting, Drawing, Outcome, blank, background_of, ink_of_all}
use Rattle.meaning.specs.Payload.{Parameters, payload, payload_ink}
use Rattle.meaning.specs.Reader.{How, read_all, stopped, halted, refused_by, is_all, is_refused, is_ongoing, Run, Turn, stream, ran_by}
use Rattle.meaning.specs.Sessions.{Reading, opened, settled, rested, payload_step, Phase, start, within, dcs_step, dcs_rested}
use Rattle.meaning.specs.Calls.{Session, drawing_of, shown, payload_shown, dcs_shown, payload_turns, proper_payload, dcs_turns, proper_dcs}
use Rattle.meaning.proofs.AreaLaws.{Before}
use Rattle.meaning.proofs.SoFarLaws.{LeftBy, all_read, stopped_at, SoFar, so-far-read, caller-so-far}
use Rattle.meaning.proofs.InkLaws.{inked-settled}
use Rattle.meaning.proofs.PayloadLaws.{outcome-settled, read_payload, reading-settled, reading-ink, rested-settled, settled-none, halted-settled, payload-body}
use Rattle.meaning.proofs.SequenceLaws.{before-drawing}
use Rattle.meaning.proofs.Demand3.{payload-rests, payload-halts, payload-caps, dcs-rests, dcs-halts, dcs-caps, payload-whole, payload-outcome, payload-all-ink, payload-consumed}

-- ---- at the start

-- the background is the owner's register 0, or transparent
background-lasts : (p : Palette) (p2 : Option ℕ) → background_of (lasting p) p2 ≡ background_of p p2
unfolding background_of
background-lasts p p2 = rw (lasting-register p 0)

-- a payload session opens with pixel (0,0) in the background, and nothing else of the canvas changed
pub opening-shown : (s : Session Reading) (o : Parameters) (p : Palette) (opening : List ℕ) → s.state ≡ opened o p
    → payload_shown s opening ≡ picture s.setting.stride (record { width = 1; height = 1 }) (background_of p o.p2) [] opening
unfolding payload_shown opened blank
opening-shown s o p opening e =
    ap (λ (r : Reading). shown s.setting.stride (some r.drawing) opening) e
    ∙ ap (λ (b : List ℕ). picture s.setting.stride (record { width = 1; height = 1 }) b [] opening) (background-lasts p o.p2)

-- a DCS session does so as its payload begins
pub begun-shown : (s : Session Phase) (o : Parameters) (p : Palette) (opening : List ℕ) → s.state ≡ within (opened o p)
    → dcs_shown s opening ≡ picture s.setting.stride (record { width = 1; height = 1 }) (background_of p o.p2) [] opening
unfolding dcs_shown opened blank
begun-shown s o p opening e =
    ap (λ (t : Phase). shown s.setting.stride (drawing_of t) opening) e
    ∙ ap (λ (b : List ℕ). picture s.setting.stride (record { width = 1; height = 1 }) b [] opening) (background-lasts p o.p2)

-- before the payload nothing is written
pub before-shown : (s : Session Phase) (opening : List ℕ) → Before s.state → dcs_shown s opening ≡ opening
unfolding dcs_shown
before-shown s opening h = ap (λ (d : Option Drawing). shown s.setting.stride d opening) (before-drawing s.state h)

-- a call that came to the end did not stop
ended-going : {h : How} → h ≡ halted → h ≡ stopped → ⊥
ended-going e z = let never : ◌≡◌ {A = ℕ} 0 1 = cc in omega arith

-- ---- payload sessions

-- a stop leaves the outcome with the begun command carried out
left-settled : (s : Setting) {h : How} {here state : Reading} {unread : List ℕ} → LeftBy (payload_step s) (rested s) h here state unread
    → settled s state ≡ settled s here
left-settled s all_read = refl
left-settled s (stopped_at {here} {b = b} e inked) = rested-settled s here (inked-settled s here b e inked)

-- and no begun command
left-begun : (s : Setting) {h : How} {here state : Reading} {unread : List ℕ} → LeftBy (payload_step s) (rested s) h here state unread
    → is_all h ≡ false → state.begun ≡ none
unfolding is_all rested
left-begun s all_read q = absurd (true≢false q)
left-begun s (stopped_at e inked) q = refl

module _ (s : Setting) (o : Parameters) (p : Palette) (A : ℕ) (ts : List Turn) (fits : 6 * s.limits.width ≤ A)
    (ok : proper_payload s o p A ts ≡ true) where
  stands : is_ongoing (payload_turns s o p ts).how ≡ true
      → SoFar (payload_step s) (rested s) (opened o p) (stream ts) (payload_turns s o p ts)
  stands =
      caller-so-far (payload_step s) (rested s) (payload-rests s) (payload-halts s) (6 * s.limits.width) (payload-caps s) A fits
      (opened o p) ts ok

  ongoing-settled : is_ongoing (payload_turns s o p ts).how ≡ true
      → settled s (payload_turns s o p ts).state ≡ payload s o p (take (payload_turns s o p ts).consumed (stream ts))
  unfolding is_refused
  ongoing-settled going =
      let f : SoFar (payload_step s) (rested s) (opened o p) (stream ts) (payload_turns s o p ts) = stands going in
      left-settled s f.left
      ∙ sym (ap (λ (q : Run Reading). settled s q.state) f.ran)
      ∙ reading-settled s o p f.read (ap (λ (q : Run Reading). is_refused q.how) f.ran)
      ∙ ap (payload s o p) (so-far-read (payload_step s) (rested s) f)

  -- after each call that is not refused, the session's state with its pending command carried out is what the bytes consumed so far mean
  pub payload-so-far : is_refused (payload_turns s o p ts).how ≡ false
      → settled s (payload_turns s o p ts).state ≡ payload s o p (take (payload_turns s o p ts).consumed (stream ts))
  unfolding is_refused is_ongoing ran_by
  payload-so-far fine = go (payload_turns s o p ts).how refl
    where
      go : (h : How) → (payload_turns s o p ts).how ≡ h
          → settled s (payload_turns s o p ts).state ≡ payload s o p (take (payload_turns s o p ts).consumed (stream ts))
      go read_all e = ongoing-settled (ap is_ongoing e)
      go stopped e = ongoing-settled (ap is_ongoing e)
      go halted e =
          let going : (payload_turns s o p ts).how ≡ stopped → ⊥ = ended-going e in
          sym (outcome-settled s (ran_by (payload_turns s o p ts)) fine)
          ∙ payload-outcome s o p A ts ok going
          ∙ sym
          (ap (λ (n : ℕ). payload s o p (take n (stream ts))) (payload-consumed s o p A ts ok going fine)
          ∙ payload-body s o p (stream ts))
      go (refused_by n) e = absurd (true≢false (sym (ap is_refused e) ∙ fine))

  -- after a stop and after an end no command is pending
  pub payload-settled : is_all (payload_turns s o p ts).how ≡ false → is_refused (payload_turns s o p ts).how ≡ false
      → (payload_turns s o p ts).state.begun ≡ none
  unfolding is_all is_refused is_ongoing ran_by
  payload-settled some_left fine = go (payload_turns s o p ts).how refl
    where
      go : (h : How) → (payload_turns s o p ts).how ≡ h → (payload_turns s o p ts).state.begun ≡ none
      go read_all e = absurd (true≢false (sym (ap is_all e) ∙ some_left))
      go stopped e = left-begun s (stands (ap is_ongoing e)).left some_left
      go halted e =
          let whole : read_payload s o p (stream ts) ≡ ran_by (payload_turns s o p ts) = payload-whole s o p A ts ok (ended-going e) in
          sym (ap (λ (q : Run Reading). q.state.begun) whole)
          ∙ halted-settled s o p (stream ts) (ap (λ (q : Run Reading). q.how) whole ∙ e)
      go (refused_by n) e = absurd (true≢false (sym (ap is_refused e) ∙ fine))

  -- so there the drawing is the one of the bytes consumed so far
  pub payload-drawn-so-far : is_all (payload_turns s o p ts).how ≡ false → is_refused (payload_turns s o p ts).how ≡ false
      → (payload_turns s o p ts).state.drawing ≡ (payload s o p (take (payload_turns s o p ts).consumed (stream ts))).drawing
  payload-drawn-so-far some_left fine =
      ap (λ (out : Outcome). out.drawing)
      (sym (settled-none s (payload_turns s o p ts).state (payload-settled some_left fine)) ∙ payload-so-far fine)

  ongoing-ink : is_ongoing (payload_turns s o p ts).how ≡ true
      → (payload_turns s o p ts).ink ≡ payload_ink s o p (take (payload_turns s o p ts).consumed (stream ts))
  ongoing-ink going =
      let f : SoFar (payload_step s) (rested s) (opened o p) (stream ts) (payload_turns s o p ts) = stands going in
      sym (ap (λ (q : Run Reading). q.ink) f.ran) ∙ reading-ink s o p f.read
      ∙ ap (payload_ink s o p) (so-far-read (payload_step s) (rested s) f)

  -- and the ink of the calls so far is the ink of the bytes consumed so far
  pub payload-ink-so-far : is_refused (payload_turns s o p ts).how ≡ false
      → (payload_turns s o p ts).ink ≡ payload_ink s o p (take (payload_turns s o p ts).consumed (stream ts))
  unfolding is_refused is_ongoing payload_ink
  payload-ink-so-far fine = go (payload_turns s o p ts).how refl
    where
      go : (h : How) → (payload_turns s o p ts).how ≡ h
          → (payload_turns s o p ts).ink ≡ payload_ink s o p (take (payload_turns s o p ts).consumed (stream ts))
      go read_all e = ongoing-ink (ap is_ongoing e)
      go stopped e = ongoing-ink (ap is_ongoing e)
      go halted e =
          payload-all-ink s o p A ts ok (ended-going e)
          ∙ ap (λ (out : Outcome). ink_of_all out.drawing.strokes)
          (sym
          (ap (λ (n : ℕ). payload s o p (take n (stream ts))) (payload-consumed s o p A ts ok (ended-going e) fine)
          ∙ payload-body s o p (stream ts)))
      go (refused_by n) e = absurd (true≢false (sym (ap is_refused e) ∙ fine))

-- ---- DCS sessions

-- after each call that came to no end and no refusal, a DCS session stands where reading the bytes consumed so far in one go leads,
-- and a stop has carried out the pending command
pub dcs-so-far : (s : Setting) (p : Palette) (A : ℕ) (ts : List Turn) → 6 * s.limits.width ≤ A → proper_dcs s p A ts ≡ true
    → is_ongoing (dcs_turns s p ts).how ≡ true → SoFar (dcs_step s p) (dcs_rested s) start (stream ts) (dcs_turns s p ts)
dcs-so-far s p A ts fits =
    caller-so-far (dcs_step s p) (dcs_rested s) (dcs-rests s p) (dcs-halts s p) (6 * s.limits.width) (dcs-caps s p) A fits start ts
