-- Refusal 10 is retired: no opening, feed, finish, reading, copy or export answers it, whatever session, canvas or memory it is lent.
use Rattle.std.specs.Prelude.{Ok, Err}
use Prim.Native.Nat.{ℕ, zero, suc, ◌≤◌}
use mathlib.Core.Bool.{false, true≢false}
use mathlib.Core.List.{List, [], ◌∷◌}
use mathlib.Core.Option.{Option, none, some}
use mathlib.Core.Path.{◌≡◌, refl, sym, ap, ◌∙◌, subst}
use native.Mathlib.Omega.{arith}
use lib.Dec.{leb, eqb}
use lib.ListN.{length, drop}
use Rattle.canvas.specs.Copy.{copied, has_picture, size_of}
use Rattle.canvas.specs.Picture.{Area}
use Rattle.colours.specs.declared.Palette.{Palette}
use Rattle.colours.specs.Palette.{standard, of_table}
use Rattle.frame.specs.Numbers.{number_of}
use Rattle.frame.specs.declared.Limits.{Limits}
use Rattle.frame.specs.declared.Refusal.TheVariants.{FinalSize}
use Rattle.meaning.specs.Calls as calls
use Rattle.meaning.specs.Commands.{commands}
use Rattle.meaning.specs.Drawing as drawing
use Rattle.meaning.specs.Payload as meant
use Rattle.meaning.specs.Payload.{no_parameters}
use Rattle.meaning.specs.Sizes.{ReportFits}
use Rattle.meaning.proofs.AreaLaws.{cond-case, opens-roomy, payload-sound, outcome_fits}
use Rattle.payload.specs.Results as payload_answer
use Rattle.payload.specs.declared.Answer.TheVariants as answers
use Rattle.payload.specs.declared.Finished.{Finished}
use Rattle.payload.specs.Results.{Finishing, Opening}
use Rattle.payload.specs.declared.Session.{Session}
use Rattle.payload.specs.declared.Settings.{Settings}
use Rattle.payload.specs.Codes.{given_from}
use Rattle.payload.specs.Meant.{finish_meant}
use Rattle.payload.specs.Memory as payload_memory
use Rattle.payload.specs.Session as payload
use Rattle.dcs.specs.Results as dcs_answer
use Rattle.dcs.specs.declared.Session as dcs_session
use Rattle.dcs.specs.Memory as dcs_memory
use Rattle.dcs.specs.Session as dcs
use Rattle.oneshot.specs.OneShot.{read_whole}
use Rattle.pieces.specs.declared.Reader.{Reader}
use Rattle.pieces.specs.declared.Standing.{Standing}
use Rattle.pieces.specs.declared.Standing.TheVariants as standings
use Rattle.pieces.specs.Pieces as pieces
use Rattle.pieces.specs.Stream.{taken_all}
use Rattle.owlgantry.specs.Reading.{refusal_number, sixel_read}
use Rattle.owlgantry.specs.Sessions as exported
use Rattle.timing.specs.Bench.{size_or_number, bench_decoded}
use Rattle.promises.specs.Refusals.{opening_number, payload_number, dcs_number, finish_number, read_number, or_zero, one_of, Only, opening_numbers, payload_feed_numbers, dcs_feed_numbers, payload_finish_numbers, dcs_finish_numbers, read_numbers, payload_finish_order, dcs_finish_order}
use Rattle.promises.proofs.AnySession.{payload-finish-order, dcs-finish-order}
use Rattle.promises.proofs.RefusedFinishes.{finish-numbers}
use Rattle.promises.proofs.RefusedOnly.{payload-opens-only, dcs-opens-only, payload-feeds-only, dcs-feeds-only, payload-finishes-only, dcs-finishes-only, reads_only}

-- 10 is the number of no answer that a list without it has
never : (ms : List ℕ) {x : Option ℕ} → one_of 10 ms ≡ false → Only ms x → ¬ (x ≡ some 10)
never ms out h e = true≢false (sym (subst (Only ms) e h) ∙ out)

-- ---- openings, feeds, finishes, of whichever session and canvas

module _ (l : Limits) (stride : ℕ) (p : Palette) where
  pub payload-open-retired : (o : Settings) (canvas : List ℕ) → ¬ ((payload.opened_by l stride o p canvas).0.answer ≡ Err FinalSize)
  unfolding one_of opening_number number_of
  payload-open-retired o canvas e = never opening_numbers refl (payload-opens-only l stride p o canvas) (ap opening_number e)

  pub dcs-open-retired : (size : ℕ) → ¬ ((dcs.opened_by l stride p size).answer ≡ Err FinalSize)
  unfolding one_of opening_number number_of
  dcs-open-retired size e = never opening_numbers refl (dcs-opens-only l stride p size) (ap opening_number e)

module _ (canvas : List ℕ) where
  pub payload-feed-retired : (s : Session) (bytes : List ℕ) (allowance : ℕ) → ¬ ((payload.fed_by s canvas bytes allowance).0.answer ≡ Err FinalSize)
  unfolding one_of payload_number number_of
  payload-feed-retired s bytes allowance e = never payload_feed_numbers refl (payload-feeds-only s canvas bytes allowance) (ap payload_number e)

  pub dcs-feed-retired : (s : dcs_session.Session) (bytes : List ℕ) (allowance : ℕ)
      → ¬ ((dcs.fed_by s canvas bytes allowance).0.answer ≡ Err FinalSize)
  unfolding one_of dcs_number number_of
  dcs-feed-retired s bytes allowance e = never dcs_feed_numbers refl (dcs-feeds-only canvas bytes allowance s) (ap dcs_number e)

  pub payload-finish-retired : (s : Session) (owner : Palette) → ¬ ((payload.finished_by s owner canvas).0.answer ≡ Err FinalSize)
  unfolding one_of finish_number number_of
  payload-finish-retired s owner e = never payload_finish_numbers refl (payload-finishes-only owner canvas s) (ap finish_number e)

  pub dcs-finish-retired : (s : dcs_session.Session) (owner : Palette) → ¬ ((dcs.finished_by s owner canvas).0.answer ≡ Err FinalSize)
  unfolding one_of finish_number number_of
  dcs-finish-retired s owner e = never dcs_finish_numbers refl (dcs-finishes-only owner canvas s) (ap finish_number e)

-- ---- a reading and a copy

pub read-retired : (l : drawing.Limits) (stride : ℕ) (p : Palette) (canvas bytes : List ℕ) → ¬ ((read_whole l stride p canvas bytes).answer ≡ meant.turned_down 10)
unfolding one_of read_number
read-retired l stride p canvas bytes e = never read_numbers refl (reads_only l stride p canvas bytes) (ap read_number e)

pub copy-retired : (stride : ℕ) (area : Area) (canvas out : List ℕ) → ¬ ((copied stride area canvas out).0 ≡ 10)
unfolding copied
copy-retired stride area canvas out =
    let P : ℕ × List ℕ → Type 0 = λ x. ¬ (x.0 ≡ 10) in
    cond-case P (has_picture stride (length canvas) area)
    (λ _. cond-case P (leb (size_of area) (length out)) (λ _ e. omega arith) (λ _ e. omega arith))
    (λ _ e. omega arith)

-- ---- a stream in pieces

-- its reader stands otherwise than refused by 10
abbrev Kept : Reader → Type 0
Kept r = ¬ (r.standing ≡ standings.Refused FinalSize)

told-kept : (a : dcs_answer.Answer) → ¬ (a ≡ Err FinalSize) → ¬ ((pieces.told_by a).standing ≡ standings.Refused FinalSize)
unfolding pieces.told_by
told-kept (Ok (answers.More c i)) h e = let zero_one : ◌≡◌ {A = ℕ} 0 1 = cc in omega arith
told-kept (Ok (answers.Stopped c i)) h e = let zero_one : ◌≡◌ {A = ℕ} 0 1 = cc in omega arith
told-kept (Ok (answers.Ended c i x)) h e = let zero_one : ◌≡◌ {A = ℕ} 0 1 = cc in omega arith
told-kept (Err n) h e = let same : n ≡ FinalSize = cc in h (ap (λ m. Err m) same)

called-kept : (r : Reader) (canvas bytes : List ℕ) → Kept (pieces.called_by r canvas bytes).0.reader
unfolding pieces.called_by pieces.called_as pieces.after_call
called-kept r canvas bytes =
    told-kept (dcs.fed_by r.session canvas bytes r.allowance).0.answer (dcs-feed-retired canvas r.session bytes r.allowance)

for-kept : (n : ℕ) (r : Reader) (canvas bytes : List ℕ) → Kept r → Kept (pieces.taken_for n r canvas bytes).0
unfolding pieces.taken_for
for-kept zero r canvas bytes h = h
for-kept (suc n) r canvas bytes h =
    let x = pieces.called_by r canvas bytes in
    cond-case (λ (y : Reader × List ℕ). Kept y.0) (eqb x.0.stopped 0)
    (λ _. called-kept r canvas bytes)
    (λ _. for-kept n x.0.reader x.1 (drop x.0.stopped bytes) (called-kept r canvas bytes))

taken-kept : (r : Reader) (canvas bytes : List ℕ) → Kept r → Kept (pieces.taken_by r canvas bytes).0
unfolding pieces.taken_by pieces.taken_as pieces.taken_in
taken-kept r canvas bytes h = go r.standing
  where
    go : (t : Standing) → Kept (pieces.taken_as t r canvas bytes).0
    go standings.Reading = for-kept (suc (length bytes)) r canvas bytes h
    go (standings.Ended e) = h
    go (standings.Refused n) = h

all-kept : (r : Reader) (canvas : List ℕ) (zs : List (List ℕ)) → Kept r → Kept (taken_all r canvas zs).0
unfolding taken_all
all-kept r canvas [] h = h
all-kept r canvas (z ∷ zs) h = all-kept (pieces.taken_by r canvas z).0 (pieces.taken_by r canvas z).1 zs (taken-kept r canvas z h)

opened-kept : (a : Opening) (s : dcs_session.Session) (w : ℕ) → ¬ (a ≡ Err FinalSize) → Kept (pieces.opened_as a s w)
unfolding pieces.opened_as pieces.began_as
opened-kept (Ok tt) s w h e = let zero_one : ◌≡◌ {A = ℕ} 0 1 = cc in omega arith
opened-kept (Err n) s w h e = let same : n ≡ FinalSize = cc in h (ap (λ m. Err m) same)

module _ (l : Limits) (stride : ℕ) (p : Palette) (size : ℕ) (canvas : List ℕ) (zs : List (List ℕ)) where
  abbrev reader : Reader
  reader = (taken_all (pieces.opened_by l stride p size) canvas zs).0

  -- After any pieces it has not been refused so,
  pub pieces-take-retired : ¬ (reader.standing ≡ standings.Refused FinalSize)
  unfolding pieces.opened_by
  pieces-take-retired =
      all-kept (pieces.opened_by l stride p size) canvas zs
      (opened-kept (dcs.opened_by l stride p size).answer (dcs.opened_by l stride p size).session l.width (dcs-open-retired l stride p size))

  -- nor is its finish, on any canvas.
  pub pieces-finish-retired : (owner : Palette) (lent : List ℕ) → ¬ ((pieces.finished_by reader owner lent).0.answer ≡ Err FinalSize)
  unfolding pieces.finished_by pieces.finished_as payload.turned_away
  pieces-finish-retired owner lent = go reader.standing pieces-take-retired
    where
      go : (t : Standing) → ¬ (t ≡ standings.Refused FinalSize) → ¬ ((pieces.finished_as t reader owner lent).0.answer ≡ Err FinalSize)
      go standings.Reading h = dcs-finish-retired lent reader.session owner
      go (standings.Ended e) h = dcs-finish-retired lent reader.session owner
      go (standings.Refused n) h = λ e. let same : n ≡ FinalSize = cc in h (ap (λ m. standings.Refused m) same)

-- ---- the exports, whatever the memory holds

never-exported : (ms : List ℕ) (x : Option ℕ) → one_of 10 ms ≡ false → Only ms x → ¬ (or_zero x ≡ 10)
unfolding or_zero
never-exported ms none out h e = omega arith
never-exported ms (some n) out h e = never ms out h (ap some e)

opening-exported : (a : Opening) → exported.number_or_zero a ≡ or_zero (opening_number a)
unfolding exported.number_or_zero opening_number or_zero
opening-exported (Ok tt) = refl
opening-exported (Err n) = refl

payload-exported : (a : payload_answer.Answer) → exported.number_or_zero a ≡ or_zero (payload_number a)
unfolding exported.number_or_zero payload_number or_zero
payload-exported (Ok (answers.More n i)) = refl
payload-exported (Ok (answers.Stopped n i)) = refl
payload-exported (Ok (answers.Ended n i b)) = refl
payload-exported (Err r) = refl

dcs-exported : (a : dcs_answer.Answer) → exported.number_or_zero a ≡ or_zero (dcs_number a)
unfolding exported.number_or_zero dcs_number or_zero
dcs-exported (Ok (answers.More n i)) = refl
dcs-exported (Ok (answers.Stopped n i)) = refl
dcs-exported (Ok (answers.Ended n i e)) = refl
dcs-exported (Err r) = refl

finish-exported : (a : Finishing) (p : Palette) → refusal_number (finish_meant a p) ≡ or_zero (finish_number a)
unfolding refusal_number finish_meant finish_number or_zero
finish-exported (Ok r) p = refl
finish-exported (Err n) p = refl

read-exported : (x : meant.Finished) → refusal_number x ≡ or_zero (read_number x)
unfolding refusal_number read_number or_zero
read-exported (meant.finished r) = refl
read-exported (meant.turned_down n) = refl

module _ (l : Limits) (stride : ℕ) (registers : List ℕ) where
  pub payload-open-export : (p1 p2 : ℕ) (canvas : List ℕ) → ¬ ((exported.payload_opened l stride p1 p2 registers canvas).0 ≡ 10)
  unfolding exported.payload_opened exported.payload_opened_as one_of
  payload-open-export p1 p2 canvas e =
      let o : Settings = record { p1 = given_from p1; p2 = given_from p2 } in
      never-exported opening_numbers _ refl (payload-opens-only l stride (of_table registers) o canvas)
      (sym (opening-exported (payload.opened_by l stride o (of_table registers) canvas).0.answer) ∙ e)

  pub dcs-open-export : (size : ℕ) → ¬ ((exported.dcs_opened l stride size registers).0 ≡ 10)
  unfolding exported.dcs_opened exported.dcs_opened_as one_of
  dcs-open-export size e =
      never-exported opening_numbers _ refl (dcs-opens-only l stride (of_table registers) size)
      (sym (opening-exported (dcs.opened_by l stride (of_table registers) size).answer) ∙ e)

module _ (numbers registers canvas : List ℕ) where
  abbrev payload_held : Session
  payload_held = payload_memory.session_from numbers registers

  abbrev dcs_held : dcs_session.Session
  dcs_held = dcs_memory.session_from numbers registers

  pub payload-feed-export : (bytes : List ℕ) (allowance : ℕ) → ¬ ((exported.payload_fed numbers registers canvas bytes allowance).0 ≡ 10)
  unfolding exported.payload_fed exported.payload_fed_as one_of
  payload-feed-export bytes allowance e =
      never-exported payload_feed_numbers _ refl (payload-feeds-only payload_held canvas bytes allowance)
      (sym (payload-exported (payload.fed_by payload_held canvas bytes allowance).0.answer) ∙ e)

  pub dcs-feed-export : (bytes : List ℕ) (allowance : ℕ) → ¬ ((exported.dcs_fed numbers registers canvas bytes allowance).0 ≡ 10)
  unfolding exported.dcs_fed exported.dcs_fed_as one_of
  dcs-feed-export bytes allowance e =
      never-exported dcs_feed_numbers _ refl (dcs-feeds-only canvas bytes allowance dcs_held)
      (sym (dcs-exported (dcs.fed_by dcs_held canvas bytes allowance).0.answer) ∙ e)

  pub payload-finish-export : (palette : List ℕ) → ¬ ((exported.payload_finished numbers registers palette canvas).0 ≡ 10)
  unfolding exported.payload_finished exported.finished_as one_of
  payload-finish-export palette e =
      let x : Finished = (payload.finished_by payload_held (of_table palette) canvas).0 in
      never-exported payload_finish_numbers _ refl (payload-finishes-only (of_table palette) canvas payload_held)
      (sym (finish-exported x.answer x.palette) ∙ e)

  pub dcs-finish-export : (palette : List ℕ) → ¬ ((exported.dcs_finished numbers registers palette canvas).0 ≡ 10)
  unfolding exported.dcs_finished exported.finished_as one_of
  dcs-finish-export palette e =
      let x : Finished = (dcs.finished_by dcs_held (of_table palette) canvas).0 in
      never-exported dcs_finish_numbers _ refl (dcs-finishes-only (of_table palette) canvas dcs_held)
      (sym (finish-exported x.answer x.palette) ∙ e)

  -- A finish's number in the order of any session's: 9, 12, the pending command's; and of a DCS session 9, 12, 8, the pending command's.
  pub payload-export-order : (palette : List ℕ)
      → (exported.payload_finished numbers registers palette canvas).0 ≡ or_zero (payload_finish_order payload_held (length canvas))
  unfolding exported.payload_finished exported.finished_as
  payload-export-order palette =
      let x : Finished = (payload.finished_by payload_held (of_table palette) canvas).0 in
      finish-exported x.answer x.palette ∙ ap or_zero (payload-finish-order payload_held (of_table palette) canvas)

  pub dcs-export-order : (palette : List ℕ) → (exported.dcs_finished numbers registers palette canvas).0 ≡ or_zero (dcs_finish_order dcs_held (length canvas))
  unfolding exported.dcs_finished exported.finished_as
  dcs-export-order palette =
      let x : Finished = (dcs.finished_by dcs_held (of_table palette) canvas).0 in
      finish-exported x.answer x.palette ∙ ap or_zero (dcs-finish-order dcs_held (of_table palette) canvas)

pub read-export : (l : drawing.Limits) (stride : ℕ) (canvas bytes : List ℕ) (p : Palette) → ¬ ((sixel_read l stride canvas bytes p).0 ≡ 10)
unfolding sixel_read one_of
read-export l stride canvas bytes p e =
    never-exported read_numbers _ refl (reads_only l stride p canvas bytes) (sym (read-exported (read_whole l stride p canvas bytes).answer) ∙ e)

-- the benchmark's answer is a size above 2^32, or a number
pub bench-export : (stride : ℕ) (canvas bytes : List ℕ) → ¬ ((bench_decoded stride canvas bytes).0 ≡ 10)
unfolding bench_decoded size_or_number meant.payload
bench-export stride canvas bytes =
    cond-case (λ (x : ℕ × List ℕ). ¬ (x.0 ≡ 10)) (calls.opens drawing.house_limits stride (length canvas))
    (λ opens.
    let out : drawing.Outcome = meant.payload setting no_parameters standard bytes in
    number (meant.finish no_parameters out) refl
    (outcome_fits setting no_parameters out (payload-sound (opens-roomy drawing.house_limits stride (length canvas) opens) no_parameters standard bytes)))
    (λ _ e. omega arith)
  where
    setting : drawing.Setting
    setting = calls.setting_for drawing.house_limits stride (length canvas)

    number : (x : meant.Finished) → meant.finish no_parameters (meant.payload setting no_parameters standard bytes) ≡ x → ReportFits setting x
        → ¬ (size_or_number x ≡ 10)
    number (meant.finished r) q fits e = let wide : 1 ≤ r.size.width = fits.0.wide in omega arith
    number (meant.turned_down n) q fits e =
        let low : (4 ≤ n) × (n ≤ 7) = finish-numbers setting no_parameters (commands bytes) (drawing.blank standard none) n q in omega arith
