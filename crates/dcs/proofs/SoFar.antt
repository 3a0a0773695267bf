-- After every call of the code, stopped or not, the canvas holds the definition's picture of exactly the bytes consumed so far (rule 6.5).
use Rattle.std.specs.Prelude.{◌≡◌, ℕ, ◌*◌, ◌≤◌, true, false, List, length, take}
use native.Mathlib.Omega.{arith}
use mathlib.Core.Bool.{true≢false}
use mathlib.Core.Option.{Option, none, some}
use mathlib.Core.Path.{refl, sym, ap, ◌∙◌}
use Rattle.colours.specs.declared.Palette.{Palette}
use Rattle.frame.specs.declared.Limits.{Limits}
use Rattle.meaning.specs.Calls as calls
use Rattle.meaning.specs.Drawing.{Setting, Drawing}
use Rattle.meaning.specs.Reader.{How, read_all, stopped, halted, refused_by, is_all, is_refused, Turn, stream, Caller}
use Rattle.meaning.specs.Sequence.{sequence_payload, sequence_ink}
use Rattle.meaning.specs.Sessions.{End, Phase}
use Rattle.meaning.proofs.DcsSoFar.{dcs-settled-so-far, dcs-stopped-drawn, dcs-ended-drawn}
use Rattle.meaning.proofs.ToldLaws.{end_told}
use Rattle.payload.specs.Meant.{setting_meant}
use Rattle.payload.specs.Refusals.{openable}
use Rattle.dcs.specs.History.{Held, proper_calls}
use Rattle.dcs.proofs.Callers.{CallerStands}
use Rattle.dcs.proofs.History as history

module _ (l : Limits) (stride : ℕ) (p : Palette) (opening : List ℕ) (opens : openable l stride (length opening) ≡ true)
    (A : ℕ) (ts : List Turn) (enough : 6 * l.width ≤ A) (ok : proper_calls A (history.opened l stride p opening opens) ts ≡ true) where
  abbrev setting : Setting
  setting = setting_meant l stride (length opening)

  -- where the caller stands, and the definition's
  abbrev now : Caller Held
  now = history.now l stride p opening opens A ts enough ok

  abbrev there : Caller Phase
  there = history.there l stride p opening opens A ts enough ok

  abbrev stood : CallerStands l stride p opening now there
  stood = history.stood l stride p opening opens A ts enough ok

  roomy : 6 * setting.limits.width ≤ A
  roomy = history.roomy l stride p opening opens A ts enough ok

  proper-there : calls.proper_dcs setting p A ts ≡ true
  proper-there = history.proper-there l stride p opening opens A ts enough ok

  abbrev canvas : List ℕ
  canvas = now.state.1

  -- what the canvas shows of a drawing, if there is one
  abbrev pub shown_of : Option Drawing → List ℕ
  shown_of d = calls.shown stride d opening

  -- the bytes consumed so far, and the drawing of the payload among them, if they have come to one
  abbrev pub consumed : List ℕ
  consumed = take now.consumed (stream ts)

  abbrev pub so_far : Option Drawing
  so_far = calls.drawing_found setting p (sequence_payload consumed)

  fine-there : is_refused now.how ≡ false → is_refused there.how ≡ false
  fine-there = history.fine-there l stride p opening opens A ts enough ok

  -- the definition's caller has consumed as many
  same-consumed : is_refused now.how ≡ false → there.consumed ≡ now.consumed
  same-consumed fine = sym (stood.learned.consumed (fine-there fine))

  so-far-settled : is_refused now.how ≡ false → calls.drawing_settled setting there.state ≡ so_far
  so-far-settled fine =
      (dcs-settled-so-far setting p A ts roomy proper-there (fine-there fine)).0
      ∙ ap (λ (n : ℕ). calls.drawing_found setting p (sequence_payload (take n (stream ts)))) (same-consumed fine)

  -- After each call that is not refused: the canvas shows a drawing that, with the pending command carried out, is what the bytes
  -- consumed so far mean; before `q` it is the opening's.
  pub so-far-pending : is_refused now.how ≡ false
      → (canvas ≡ shown_of (calls.drawing_of there.state)) × (calls.drawing_settled setting there.state ≡ so_far)
  so-far-pending fine = (history.canvas-shows l stride p opening opens A ts enough ok, so-far-settled fine)

  -- no command is pending after a stop and after an end
  nothing-pending : is_all now.how ≡ false → is_refused now.how ≡ false
      → calls.drawing_of there.state ≡ calls.drawing_settled setting there.state
  unfolding is_all is_refused end_told
  nothing-pending left fine =
      go there.how (calls.dcs_end there.state) refl refl
      (sym (ap is_all stood.learned.how) ∙ left) (sym (ap is_refused stood.learned.how) ∙ fine)
    where
      ended : (there.how ≡ stopped → ⊥) → {e : End} → calls.dcs_end there.state ≡ some e
          → calls.drawing_of there.state ≡ calls.drawing_settled setting there.state
      ended going z =
          dcs-ended-drawn setting p A ts roomy proper-there going z

      go : (h : How) (o : Option End) → there.how ≡ h → calls.dcs_end there.state ≡ o → is_all (end_told h o) ≡ false
          → is_refused (end_told h o) ≡ false → calls.drawing_of there.state ≡ calls.drawing_settled setting there.state
      go read_all none q z more fine = absurd (true≢false more)
      go read_all (some e) q z more fine = ended (λ w. let never : ◌≡◌ {A = ℕ} 0 1 = cc in omega arith) z
      go stopped o q z more fine =
          dcs-stopped-drawn setting p A ts roomy proper-there q
      go halted none q z more fine = absurd (true≢false more)
      go halted (some e) q z more fine = ended (λ w. let never : ◌≡◌ {A = ℕ} 0 1 = cc in omega arith) z
      go (refused_by n) o q z more fine = absurd (true≢false fine)

  -- After a stop and after an end the canvas shows what the bytes consumed so far mean.
  pub so-far-shown : is_all now.how ≡ false → is_refused now.how ≡ false → canvas ≡ shown_of so_far
  so-far-shown left fine =
      history.canvas-shows l stride p opening opens A ts enough ok ∙ ap shown_of (nothing-pending left fine ∙ so-far-settled fine)

  -- The ink that the calls told is that of the bytes consumed so far.
  pub so-far-ink : is_refused now.how ≡ false → now.ink ≡ sequence_ink setting p consumed
  so-far-ink fine =
      stood.learned.ink (fine-there fine)
      ∙ (dcs-settled-so-far setting p A ts roomy proper-there (fine-there fine)).1
      ∙ ap (λ (n : ℕ). sequence_ink setting p (take n (stream ts))) (same-consumed fine)
