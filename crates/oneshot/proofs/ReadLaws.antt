-- Reading a part: opening, feeds of pieces until all is read, and the finish come to what the part means.
use Rattle.std.specs.Prelude.{◌≡◌, ℕ, ◌+◌, ◌-◌, ◌*◌, ◌<◌, ◌≤◌, true, false, List, [], length, take, drop, Ok, Err}
use mathlib.Core.Option.{Option, none, some}
use mathlib.Core.Path.{refl, sym, ap, ap₂, subst, ◌∙◌}
use native.Mathlib.Omega.{arith}
use Rattle.numbers.proofs.Laws.{cond_yes}
use Rattle.colours.specs.declared.Palette.{Palette}
use Rattle.colours.specs.Marks.{lasting}
use Rattle.frame.specs.declared.Frame.{Frame}
use Rattle.frame.specs.declared.Limits.{Limits}
use Rattle.frame.specs.declared.Refusal.{Refusal}
use Rattle.frame.specs.Numbers.{number_of}
use Rattle.meaning.specs.Calls as calls
use Rattle.meaning.specs.Callers.{how_told}
use Rattle.meaning.specs.Commands.{argued, Begun, closed}
use Rattle.meaning.specs.Drawing.{Setting, Drawing, Outcome, Drawn, drawn, refused, and_then, draw_command, draw_all}
use Rattle.meaning.specs.Payload as meant
use Rattle.meaning.specs.Reader.{How, read_all, stopped, refused_by, Run, after}
use Rattle.meaning.specs.Sessions.{Reading, opened, settled, finish_reading}
use Rattle.meaning.proofs.AreaLaws.{outcome-reports}
use Rattle.meaning.proofs.PayloadLaws.{read_payload, reading-settled, reading-finish, reading-refused}
use Rattle.payload.specs.Results.{Answer, Fed, Opened}
use Rattle.payload.specs.declared.Answer.TheVariants as answers
use Rattle.payload.specs.declared.Finished.{Finished}
use Rattle.payload.specs.declared.Life.{Life}
use Rattle.payload.specs.declared.Session.{Session}
use Rattle.payload.specs.declared.Settings.{Settings}
use Rattle.payload.specs.declared.kernel.Setup.{Setup}
use Rattle.payload.specs.Core.{over, Passed}
use Rattle.payload.specs.History.{Stands, Finishes, pictures, declines}
use Rattle.payload.specs.Meant.{parameters_meant, limits_meant, setting_meant, answer_meant, report_meant, finish_meant}
use Rattle.payload.specs.Refusals.{openable}
use Rattle.payload.specs.Session.{background_for, session_for, opened_on, opened_by, fed_by, finished_by}
use Rattle.payload.proofs.Finishings.{finish-stands}
use Rattle.payload.proofs.Judgements.{stands-shows}
use Rattle.payload.proofs.Openings.{ready-stands}
use Rattle.oneshot.specs.OneShot.{piece_end, palette_after, read_outcome, read_part, read_meant}
use Rattle.oneshot.proofs.StandLaws.{session_in, Lives, finish-lives}
use Rattle.oneshot.proofs.OwnerLaws.{lives-pass}
use Rattle.payload.specs.declared.Life.TheVariants as life
use Rattle.canvas.specs.Picture.{span}
use Rattle.canvas.specs.Paint.{painted}
use Rattle.oneshot.proofs.FeedLaws.{Piece, piece-end, Left, Midway, midway_start, Came, came-all, run, feeds, stop-more, stop-within, stop-left, read_whole_lem, read_left, whole, came-end}

-- a refused call neither stopped nor read all
refused-going : {h : How} {n : ℕ} → h ≡ refused_by n → h ≡ stopped → ⊥
refused-going e z = let never : ◌≡◌ {A = ℕ} 0 1 = cc in omega arith

refused-read : {h : How} {n : ℕ} → h ≡ refused_by n → h ≡ read_all → ⊥
refused-read e z = let never : ◌≡◌ {A = ℕ} 0 1 = cc in omega arith

-- ---- a finish

-- a refused pending command leaves the drawing
refused-keeps : (s : Setting) (d : Drawing) (x : Drawn) {n : ℕ}
    → (and_then d x (draw_all s [])).refusal ≡ some n → (and_then d x (draw_all s [])).drawing ≡ d
unfolding and_then draw_all
refused-keeps s d (drawn e) h = cc
refused-keeps s d (refused m) h = refl

settled-keeps : (s : Setting) (r : Reading) {n : ℕ} → (settled s r).refusal ≡ some n → (settled s r).drawing ≡ r.drawing
unfolding settled closed draw_all
settled-keeps s r = go r.begun
  where
    go : (c : Option Begun) {n : ℕ}
        → (draw_all s (closed c) r.drawing).refusal ≡ some n → (draw_all s (closed c) r.drawing).drawing ≡ r.drawing
    go none h = refl
    go (some c) h = refused-keeps s r.drawing (draw_command s (argued c.kind c.argument) r.drawing) h

-- so does a finish that is turned down
declined-keeps : (s : Setting) (r : Reading) {n : ℕ} → finish_reading s r ≡ meant.turned_down n → (settled s r).drawing ≡ r.drawing
unfolding finish_reading settled
declined-keeps s r {n} h = go (settled s r).refusal refl
  where
    go : (o : Option ℕ) → (settled s r).refusal ≡ o → (settled s r).drawing ≡ r.drawing
    go none e =
        let out = settled s r in
        let report = meant.report_of r.parameters out.drawing in
        let reports : meant.finish r.parameters out ≡ meant.finished report = outcome-reports r.parameters out e in
        cc
    go (some m) e = settled-keeps s r e

-- the code's finish and the definition's, whose drawing the canvas shows, whether it reports or not
finishes-read : {shows l : List ℕ} {owner : Palette} {y : Finished × List ℕ} {z : meant.Finished}
    (s : Setting) (o : meant.Parameters) (opening : List ℕ) (out : Outcome)
    → Finishes shows owner l y z → z ≡ meant.finish o out → shows ≡ calls.shown s.stride (some out.drawing) opening
    → ((n : ℕ) → z ≡ meant.turned_down n → l ≡ calls.shown s.stride (some out.drawing) opening)
    → read_meant y.0 y.1 ≡ read_outcome s o owner opening out
unfolding read_meant finish_meant read_outcome palette_after report_meant
finishes-read {owner = owner} s o opening out (pictures {r} {p}) e shows keeps =
    ap₂ (λ (a : meant.Finished) (c : List ℕ). record { answer = a; palette = palette_after a owner; canvas = c }) e shows
finishes-read {owner = owner} s o opening out (declines n) e shows keeps =
    ap₂ (λ (a : meant.Finished) (c : List ℕ). record { answer = a; palette = palette_after a owner; canvas = c })
    e (keeps (number_of n) refl)

-- ---- the finish of a session that has come to what its part comes to

module _ (s : Setting) (o : meant.Parameters) (p : Palette) (opening part : List ℕ) {z : Session} {l : List ℕ}
    (c : Came opening s (read_payload s o p part) z l) where
  -- the definition's session
  abbrev last : calls.Session Reading
  last = session_in opening s (read_payload s o p part).state false

  finishing : calls.finish_payload last (length l) ≡ finish_reading s (read_payload s o p part).state
  finishing = finish-lives c.stands

  settles : settled s (read_payload s o p part).state ≡ meant.payload s o p part
  settles = reading-settled s o p part c.fine

  -- the picture of the part
  painted-part : List ℕ
  painted-part = calls.shown s.stride (some (meant.payload s o p part).drawing) opening

  pictured : calls.payload_shown_at_finish last opening ≡ painted-part
  unfolding calls.payload_shown_at_finish painted-part
  pictured = ap (λ (out : Outcome). calls.shown s.stride (some out.drawing) opening) settles

  declined : (n : ℕ) → calls.finish_payload last (length l) ≡ meant.turned_down n → l ≡ painted-part
  unfolding painted-part calls.payload_shown
  declined n k =
      stands-shows c.stands
      ∙ ap (λ (d : Drawing). calls.shown s.stride (some d) opening)
      (sym (declined-keeps s (read_payload s o p part).state (sym finishing ∙ k)) ∙ ap (λ (out : Outcome). out.drawing) settles)

  finished-part : {r : Finished} {l₁ : List ℕ} → (r, l₁) ≡ finished_by z p l → read_meant r l₁ ≡ read_part s o p opening part
  unfolding read_part painted-part
  finished-part k =
      ap (λ (y : Finished × List ℕ). read_meant y.0 y.1) k
      ∙ finishes-read s o opening _ (finish-stands c.stands p)
      (finishing ∙ reading-finish s o p part c.fine) pictured declined

-- ---- a part

-- an opening with the registers that a frame starts from is one with their owner's
pub opens-owned : (l : Limits) (stride : ℕ) (o : Settings) (p : Palette) (opening : List ℕ) {own : Palette} {z : Opened × List ℕ}
    → own ≡ lasting p → z ≡ opened_on l stride o own opening → z ≡ opened_by l stride o p opening
unfolding opened_by
opens-owned l stride o p opening e k = k ∙ ap (λ (q : Palette). opened_on l stride o q opening) e

module _ (l : Limits) (stride : ℕ) (o : Settings) (p : Palette) (opening : List ℕ)
    (pre : openable l stride (length opening) ≡ true) {y : Opened} {l₀ : List ℕ} (e : (y, l₀) ≡ opened_by l stride o p opening) where
  -- the reading that the definition opens
  abbrev first : Reading
  first = opened (parameters_meant o) p

  ready : ◌≡◌ {A = Opened × List ℕ} (y, l₀) (
    record { answer = Ok tt; session = session_for l stride (length opening) o (lasting p) life.Live },
    painted (span 0 1) (background_for (lasting p) o.p2) opening,
  )
  unfolding opened_by
  ready = e ∙ cond_yes _ _ pre

  abbrev StandsOpened : Opened × List ℕ → Type 0
  StandsOpened z = Stands opening z.0.session z.1 (session_in opening (setting_meant l stride (length opening)) first false)

  first-lives : Lives opening (setting_meant l stride (length opening)) first y.session l₀
  unfolding opened
  first-lives =
      record {
        stands = subst StandsOpened (sym ready) (ready-stands l stride o p opening pre);
        going = λ z. let never : ◌≡◌ {A = ℕ} 0 1 = cc in omega arith;
      }

  -- such a session, fed without a refusal, passes 9, 12 and 13 again
  pub part-passes : {part lc : List ℕ} {u : Setup} {k : Life} {f : Frame} {q : Palette} {at a : ℕ}
      → 6 * l.width ≤ a → Midway a y.session l₀ part lc (over u k f q) at → Passed u k f (length lc) a
  unfolding setting_meant limits_meant calls.setting_for
  part-passes enough m = lives-pass (m.left first-lives enough).lives enough

-- one turn of the loop: a session `y` was opened and fed `at` bytes of the part, which left `s` and the canvas `lc`;
-- now it is fed one piece more, which answers `x` and leaves the canvas `l₁`
pub record Turn (l : Limits) (stride : ℕ) (o : Settings) (p : Palette) (opening part : List ℕ) (a : ℕ)
    (y : Opened) (l₀ : List ℕ) (s : Session) (lc : List ℕ) (at : ℕ) (x : Fed) (l₁ : List ℕ) : Type 0 where
  pub opens : openable l stride (length opening) ≡ true
  pub opened : (y, l₀) ≡ opened_by l stride o p opening
  pub enough : 6 * l.width ≤ a
  pub midway : Midway a y.session l₀ part lc s at
  pub chunk : ℕ
  pub end : ℕ
  pub ends : end ≡ piece_end at (length part) chunk
  pub fed : (x, l₁) ≡ fed_by s lc (take (end - at) (drop at part)) a

module _ {l : Limits} {stride : ℕ} {o : Settings} {p : Palette} {opening part : List ℕ} {a : ℕ}
    {y : Opened} {l₀ : List ℕ} {s : Session} {lc : List ℕ} {at : ℕ} {x : Fed} {l₁ : List ℕ}
    (u : Turn l stride o p opening part a y l₀ s lc at x l₁) where
  abbrev setting : Setting
  setting = setting_meant l stride (length opening)

  abbrev given : meant.Parameters
  given = parameters_meant o

  wide : 6 * setting.limits.width ≤ a
  unfolding setting_meant limits_meant calls.setting_for
  wide = u.enough

  piece : Piece at u.end (length part)
  piece = piece-end u.chunk u.midway.within u.ends

  left : Left opening part setting (opened given p) lc s at
  left = u.midway.left (first-lives l stride o p opening u.opens u.opened) wide

  -- a stop goes on
  pub stop-in : {n i : ℕ} → x.answer ≡ Ok (answers.Stopped n i) → at + n ≤ length part
  stop-in a = omega (arith, stop-within left wide piece u.fed a, piece.from, piece.to)

  pub stop-less : {n i : ℕ} → x.answer ≡ Ok (answers.Stopped n i) → length part - (at + n) < length part - at
  stop-less a = omega (arith, stop-more left wide piece u.fed a, stop-in a)

  pub stop-again : {n i : ℕ} → x.answer ≡ Ok (answers.Stopped n i) → length l₁ ≡ length lc
      → Midway a y.session l₀ part l₁ x.session (at + n)
  stop-again a kept =
      record {
        within = stop-in a;
        kept = kept ∙ u.midway.kept;
        left = λ {opening} {t} {first} h wide. stop-left (u.midway.left h wide) wide piece u.fed a;
      }

  -- so does a piece that was all read, unless nothing is left
  pub read-in : {n i : ℕ} → x.answer ≡ Ok (answers.More n i) → at + n ≤ length part
  read-in a = omega (arith, read_whole_lem left wide piece u.fed a, piece.from, piece.to)

  pub read-less : {n i : ℕ} → x.answer ≡ Ok (answers.More n i) → (at + n ≡ length part → ⊥)
      → length part - (at + n) < length part - at
  read-less a other =
      let more : at < u.end = piece.filled (omega (arith, read-in a)) in
      omega (arith, read_whole_lem left wide piece u.fed a, read-in a)

  pub read_again : {n i : ℕ} → x.answer ≡ Ok (answers.More n i) → length l₁ ≡ length lc
      → Midway a y.session l₀ part l₁ x.session (at + n)
  read_again a kept =
      record {
        within = read-in a;
        kept = kept ∙ u.midway.kept;
        left = λ {opening} {t} {first} h wide. read_left (u.midway.left h wide) wide piece u.fed a;
      }

  -- a refusal is the part's
  module _ {n : Refusal} (told : x.answer ≡ Err n) where
    refused-how : (run left wide piece u.fed).how ≡ refused_by (number_of n)
    unfolding how_told answer_meant
    refused-how = sym (feeds left wide piece u.fed).how ∙ ap (λ (b : Answer). how_told (answer_meant b)) told

    refused-came : read_payload setting given p part ≡ after left.consumed left.ink (run left wide piece u.fed)
    refused-came = whole left wide piece u.fed (refused-going refused-how) (refused-read refused-how)

    -- what a reading drew
    abbrev shown_by : Run Reading → List ℕ
    shown_by q = calls.shown setting.stride (some q.state.drawing) opening

    refused-shows : l₁ ≡ shown_by (read_payload setting given p part)
    unfolding after calls.payload_shown
    refused-shows = stands-shows (feeds left wide piece u.fed).stands ∙ ap shown_by (sym refused-came)

    pub part-refused : read_meant (record { answer = Err n; palette = p }) l₁ ≡ read_part setting given p opening part
    unfolding read_meant finish_meant read_part read_outcome palette_after meant.finish after
    part-refused =
        ap (λ (c : List ℕ). record { answer = meant.turned_down (number_of n); palette = p; canvas = c }) refused-shows
        ∙ ap (read_outcome setting given p opening)
        (sym (reading-refused setting given p part (ap (λ (q : Run Reading). q.how) refused-came ∙ refused-how)))

  -- after the last piece
  pub part-read : {n i : ℕ} {r : Finished} {l₂ : List ℕ} → x.answer ≡ Ok (answers.More n i) → at + n ≡ length part
      → (r, l₂) ≡ finished_by x.session p l₁ → read_meant r l₂ ≡ read_part setting given p opening part
  part-read a h = finished-part setting given p opening part (came-all (read_left left wide piece u.fed a) h)

  -- after an end
  pub part-ended : {n i b : ℕ} {r : Finished} {l₂ : List ℕ} → x.answer ≡ Ok (answers.Ended n i b)
      → (r, l₂) ≡ finished_by x.session p l₁ → read_meant r l₂ ≡ read_part setting given p opening part
  unfolding how_told answer_meant
  part-ended a =
      finished-part setting given p opening part
      (came-end left wide piece u.fed (ap (λ (b : Answer). how_told (answer_meant b)) a))

pub ruleset parts-read = (midway_start, stop-in, stop-less, stop-again, read-in, read-less, read_again)
