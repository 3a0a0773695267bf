-- Laws of opening a reader, of one call and of the finish: one for each path through a function.
use Rattle.std.specs.Prelude.{Ok, Err}
use Prim.Native.Nat.{ℕ, ◌*◌, ◌≤◌}
use mathlib.Core.Bool.{true}
use mathlib.Core.List.{List, [], ◌∷◌}
use mathlib.Core.Path.{◌≡◌, refl, sym, ap, ◌∙◌}
use denote.Enum.Declared.{tag_of}
use types.Run.{OneOf, miss}
use Rattle.colours.specs.declared.Palette.{Palette}
use Rattle.frame.specs.declared.Limits.{Limits}
use Rattle.frame.specs.declared.Refusal.{Refusal}
use Rattle.meaning.specs.Calls.{setting_for}
use Rattle.agreement.proofs.Finish.{opens-bounded}
use Rattle.payload.specs.declared.Finished.{Finished}
use Rattle.payload.specs.Results.{Opening}
use Rattle.payload.specs.Meant.{limits_meant}
use Rattle.payload.specs.Refusals.{openable}
use Rattle.payload.specs.Session.{turned_away}
use Rattle.payload.proofs.Openings.{opens-meant}
use Rattle.dcs.specs.Results.{Fed, Opened}
use Rattle.dcs.specs.declared.Session.{Session}
use Rattle.dcs.specs.Session as dcs
use Rattle.dcs.proofs.Openings.{open-ready}
use Rattle.pieces.specs.declared.Called.{Called}
use Rattle.pieces.specs.declared.Counts.{Counts}
use Rattle.pieces.specs.declared.Reader.{Reader}
use Rattle.pieces.specs.declared.Standing.{Standing}
use Rattle.pieces.specs.declared.Standing.TheVariants as standings
use Rattle.pieces.specs.declared.Told.{Told}
use Rattle.pieces.specs.Pieces.{began_as, opened_as, opened_by, counted_as, after_call, told_by, called_as, called_by, finished_as, finished_by}
use Rattle.pieces.specs.contracts.Standing as StandingType

-- ---- counts

pub after-as : {k : Counts} (r : Reader) (s : Session) (t : Standing) (consumed ink : ℕ) → k ≡ counted_as r.counts consumed ink
    → ◌≡◌ {A = Reader} (record { session = s; standing = t; allowance = r.allowance; counts = k }) (after_call r s t consumed ink)
unfolding after_call
after-as r s t consumed ink e = ap (λ (k : Counts). record { session = s; standing = t; allowance = r.allowance; counts = k }) e

-- ---- opening

pub began-as : (s : Session) (t : Standing) (a : ℕ)
    → ◌≡◌ {A = Reader} (record { session = s; standing = t; allowance = a; counts = record { consumed = 0; ink = 0; calls = 0 } })
    (began_as s t a)
unfolding began_as
began-as s t a = refl

-- the width of an opening that succeeds is in its range
openable-width : (l : Limits) (stride size : ℕ) → openable l stride size ≡ true → l.width ≤ 1000000
unfolding limits_meant setting_for
openable-width l stride size e = (opens-bounded (limits_meant l) stride size (sym (opens-meant l stride size) ∙ e)).width

module _ {o : Opened} (l : Limits) (stride : ℕ) (p : Palette) (size : ℕ) (e : o ≡ dcs.opened_by l stride p size) where
  pub ready-width : o.answer ≡ Ok tt → l.width ≤ 1000000
  ready-width k = openable-width l stride size ((open-ready l stride p size).0 (sym (ap (λ (x : Opened). x.answer) e) ∙ k))

  opens_as : {a : Opening} {r : Reader} → o.answer ≡ a → r ≡ opened_as a o.session l.width → r ≡ opened_by l stride p size
  unfolding opened_by
  opens_as k h =
      h
      ∙ ap (λ (a : Opening). opened_as a o.session l.width) (sym k)
      ∙ ap (λ (x : Opened). opened_as x.answer x.session l.width) e

  pub opens-ready : {r : Reader}
      → o.answer ≡ Ok tt → r ≡ began_as o.session standings.Reading (6 * l.width) → r ≡ opened_by l stride p size
  unfolding opened_as
  opens-ready k h = opens_as k h

  pub opens-refused : {n : Refusal} {r : Reader}
      → o.answer ≡ Err n → r ≡ began_as o.session (standings.Refused n) 0 → r ≡ opened_by l stride p size
  unfolding opened_as
  opens-refused k h = opens_as k h

pub ruleset openings-laws = (opens-ready, opens-refused)

-- ---- one call

pub calls : (r : Reader) (canvas bytes : List ℕ) {f : Fed} {after : List ℕ} {t : Told} {k : Reader}
    → (f, after) ≡ dcs.fed_by r.session canvas bytes r.allowance
    → t ≡ told_by f.answer → k ≡ after_call r f.session t.standing t.consumed t.ink
    → ◌≡◌ {A = Called × List ℕ} (record { reader = k; stopped = t.stopped }, after) (called_by r canvas bytes)
unfolding called_by called_as
calls r canvas bytes {f} {after} {t} fed told read =
    ap (λ (k : Reader). (record { reader = k; stopped = t.stopped }, after)) read
    ∙ ap
    (λ (t : Told). (record { reader = after_call r f.session t.standing t.consumed t.ink; stopped = t.stopped }, after))
    told
    ∙ ap (λ (x : Fed × List ℕ). (called_as x.0.answer x.0.session r, x.1)) fed

-- ---- finishing

not-refused : (r : Reader) (owner : Palette) (canvas : List ℕ) (t : Standing) → OneOf (0 ∷ 1 ∷ []) (tag_of StandingType.the_type t)
    → dcs.finished_by r.session owner canvas ≡ finished_as t r owner canvas
unfolding finished_as
not-refused r owner canvas standings.Reading h = refl
not-refused r owner canvas (standings.Ended e) h = refl
not-refused r owner canvas (standings.Refused n) h = absurd (miss (0 ∷ 1 ∷ []) 2 tt h)

module _ (r : Reader) (owner : Palette) (canvas : List ℕ) where
  pub finish-refused : {n : Refusal} → r.standing ≡ standings.Refused n
      → ◌≡◌ {A = Finished × List ℕ} (record { answer = Err n; palette = owner }, canvas) (finished_by r owner canvas)
  unfolding finished_by finished_as turned_away
  finish-refused e = ap (λ (t : Standing). finished_as t r owner canvas) (sym e)

  pub finish-plain : {x : Finished} {after : List ℕ} → OneOf (0 ∷ 1 ∷ []) (tag_of StandingType.the_type r.standing)
      → (x, after) ≡ dcs.finished_by r.session owner canvas → (x, after) ≡ finished_by r owner canvas
  unfolding finished_by
  finish-plain k h = h ∙ not-refused r owner canvas r.standing k

pub ruleset finishings = (finish-refused, finish-plain)
