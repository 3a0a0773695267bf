-- What is told of a payload session's feed and finish is what the definition tells.
use Rattle.std.specs.Prelude.{◌≡◌, ℕ, ◌+◌, Bool, true, false, cond, List, [], ◌∷◌, Ok, Err}
use native.Mathlib.Nat.{sub-zero, add-zero}
use native.Mathlib.Omega.{arith}
use mathlib.Core.Bool.{true≢false}
use mathlib.Core.Option.{Option, none, some}
use mathlib.Core.Path.{refl, sym, ap, ap₂, ◌∙◌, subst}
use Rattle.colours.specs.declared.Palette.{Palette}
use Rattle.frame.specs.declared.Frame.{Frame}
use Rattle.frame.specs.declared.Ground.{Ground}
use Rattle.frame.specs.declared.Outcome.{Outcome}
use Rattle.frame.specs.declared.Outcome.TheVariants as outcomes
use Rattle.frame.specs.declared.Refusal.TheVariants as refusals
use Rattle.frame.specs.Numbers.{number_of}
use Rattle.frame.specs.Commands.{Ended}
use Rattle.reference.specs.Feed.{byte_step, feed_from}
use Rattle.meaning.specs.Calls as calls
use Rattle.meaning.specs.Drawing.{Setting}
use Rattle.meaning.specs.Reader.{Step, halt, is_refused, still, call}
use Rattle.meaning.specs.Sessions.{Reading, rested, read_byte, payload_step}
use Rattle.meaning.specs.Tellings.{Telling, placeless, call_telling, feed_telling, pending_telling, finish_telling}
use Rattle.meaning.specs.Tellings.{payload_feed_telling, payload_finish_telling}
use Rattle.payload.specs.declared.Life.{Life}
use Rattle.payload.specs.declared.Life.TheVariants as lives
use Rattle.payload.specs.declared.Session.{Session}
use Rattle.payload.specs.Results.{Verdict}
use Rattle.payload.specs.History.{SameLife, Stands}
use Rattle.payload.specs.Refusals.{is_failed, feed_judged, finish_judged}
use Rattle.payload.proofs.Judgements.{judged_meant, misfit, failed-test, feed-judged, finish-judged}
use Rattle.payload.proofs.RefusalLaws.{passes}
use Rattle.dcs.proofs.Runs.{call_halts}
use Rattle.explain.specs.Explained.{Explained}
use Rattle.explain.specs.declared.dry.Led.{Led}
use Rattle.explain.specs.Dry.{byte_dry, led_as, go_on_dry, dry_from}
use Rattle.explain.specs.Explained.{placeless_for, explained_in, part_explained, pending_explained, unless_judged, fed_explained_in, fed_explained}
use Rattle.explain.specs.Explained.{payload_feed_explained, payload_finish_explained}
use Rattle.explain.specs.Meant.{place_meant, need_meant, telling_meant, explained_meant}
use Rattle.explain.proofs.DryMeant.{byte-dry, feed-dry}
use Rattle.explain.proofs.PayloadTells.{told_of, call_of, first_of, told_if, call-tells, pending-tells}

-- ---- refusals before a byte is read

-- a verdict's telling, or what comes after it
pub judged-told : (v : Verdict) (later : Explained) (o : Option ℕ) (t : Option Telling) → judged_meant v ≡ o → (v ≡ Ok tt → explained_meant later ≡ t)
    → explained_meant (unless_judged v later) ≡ elim o as (λ _. Option Telling) [ none ↦ t | some n ↦ some (placeless n) ]
unfolding judged_meant unless_judged explained_meant placeless_for telling_meant place_meant need_meant placeless
judged-told (Ok tt) later o t e k =
    subst (λ (o : Option ℕ). explained_meant later ≡ elim o as (λ _. Option Telling) [ none ↦ t | some n ↦ some (placeless n) ]) e (k refl)
judged-told (Err n) later o t e k =
    subst (λ (o : Option ℕ). some (placeless (number_of n)) ≡ elim o as (λ _. Option Telling) [ none ↦ t | some n ↦ some (placeless n) ]) e refl

-- ---- bytes

-- an ended payload reads no more
over-halts : (s : Setting) (r : Reading) (x : ℕ) {b : ℕ} → r.over ≡ some b → payload_step s r x ≡ halt r
unfolding payload_step
over-halts s r x e = ap (λ (o : Option ℕ). elim o as (λ _. Step Reading) [ none ↦ read_byte s r x | some n ↦ halt r ]) e

-- and is not refused
pub over-unrefused : (s : Setting) (a : ℕ) (r : Reading) (bs : List ℕ) {b : ℕ} → r.over ≡ some b → is_refused (call_of s a r bs).how ≡ false
unfolding call still is_refused
over-unrefused s a r [] e = refl
over-unrefused s a r (x ∷ bs) e = ap (λ q. is_refused q.how) (call_halts (payload_step s) (rested s) a r x bs (over-halts s r x e))

-- reading without a canvas, told
pub dry-told : (g : Ground) (a from : ℕ) (bs : List ℕ) (f : Frame) (p : Palette) (l : List ℕ)
    → explained_meant (part_explained (dry_from true g bs 0 a f p) g from) ≡ told_of g from (feed_from g a bs 0 0 f p l)
unfolding part_explained led_as
dry-told g a from bs f p l =
    ap (λ (x : Led). explained_meant (explained_in x.outcome x.frame g (from + x.consumed)))
    (ap (λ (k : ℕ). dry_from true g bs 0 k f p) (sym (sub-zero a)) ∙ sym (feed-dry g a bs 0 0 f p l))

-- ---- the pending command

-- one byte that is not followed by another
one_told : (o : Outcome) (t : Ended) (g : Ground) (at : ℕ) (later : Frame → Palette → ℕ → Led)
    → ((f : Frame) (p : Palette) (i : ℕ) → (later f p i).outcome ≡ outcomes.Read)
    → explained_in (go_on_dry o t 0 later).outcome (go_on_dry o t 0 later).frame g at ≡ explained_in o t.progress.frame g at
unfolding go_on_dry led_as explained_in
one_told outcomes.Read t g at later h =
    let f : Frame = t.progress.frame in
    let i : ℕ = t.progress.ink in
    ap (λ (o : Outcome). explained_in o (later f t.palette i).frame g at) (h f t.palette i)
one_told outcomes.Stopped t g at later h = refl
one_told (outcomes.Ended b) t g at later h = refl
one_told (outcomes.Refused r) t g at later h = refl

-- a byte that ends the payload ends the pending command
pub pending-dry : (f : Frame) (g : Ground) (p : Palette) (at : ℕ)
    → pending_explained f g p at ≡ explained_in (byte_dry f g 0x1B 0 p).progress.outcome (byte_dry f g 0x1B 0 p).progress.frame g at
unfolding pending_explained dry_from led_as
pending-dry f g p at = let t : Ended = byte_dry f g 0x1B 0 p in one_told t.progress.outcome t g at _ (λ f' p' i. refl)

-- as the reference machine reads it, whatever the canvas
pub ending-told : (f : Frame) (g : Ground) (p : Palette) (l : List ℕ) (at : ℕ)
    → pending_explained f g p at ≡ explained_in (byte_step f g 0x1B 0 p l).progress.outcome (byte_step f g 0x1B 0 p l).progress.frame g at
ending-told f g p l at =
    pending-dry f g p at ∙ ap (λ (x : Ended). explained_in x.progress.outcome x.progress.frame g at) (sym (byte-dry f g 0x1B 0 p l))

module _ {opening : List ℕ} {s : Session} {l : List ℕ} {m : calls.Session Reading} (k : Stands opening s l m) where
  -- a live session's bytes, which stand at a place
  live-told : (a from : ℕ) (bs : List ℕ) → m.failed ≡ false → m.state.over ≡ none
      → explained_meant (part_explained (dry_from true s.ground bs 0 a s.frame s.palette) s.ground from)
      ≡ told_if (call_of m.setting a m.state bs).how (first_of m.setting from m.state bs)
  live-told a from bs h over =
      dry-told s.ground a from bs s.frame s.palette l
      ∙ sym (call-tells m.setting opening s.ground a from bs 0 0 m.state s.frame s.palette l (omega arith)
      (record { drawing = k.drawing; begun = k.begun h }) over)
      ∙ ap₂ (λ (x y : ℕ). told_if (call_of m.setting x m.state bs).how (first_of m.setting y m.state bs)) (sub-zero a) (add-zero from)

  -- a session that passes 9, 12 and 13, whatever its life
  pub passed-told : (a from size : ℕ) (bs : List ℕ) → feed_judged s size a ≡ Ok tt
      → explained_meant (fed_explained_in s.life s bs from a) ≡ told_if (call_of m.setting a m.state bs).how (first_of m.setting from m.state bs)
  unfolding fed_explained_in explained_meant feed_judged is_failed
  passed-told a from size bs e = go s.life refl
    where
      told : Option Telling
      told = told_if (call_of m.setting a m.state bs).how (first_of m.setting from m.state bs)

      life-as : {x : Life} → s.life ≡ x → SameLife x m.failed m.state.over
      life-as q = subst (λ (x : Life). SameLife x m.failed m.state.over) q k.life

      go : (x : Life) → s.life ≡ x → explained_meant (fed_explained_in x s bs from a) ≡ told
      go lives.Live q = live-told a from bs (life-as q).0 (life-as q).1
      go (lives.Ended b) q =
          ap (λ (t : Bool). cond t (first_of m.setting from m.state bs) none) (sym (over-unrefused m.setting a m.state bs (life-as q).1))
      go lives.Failed q = absurd (true≢false (ap is_failed (sym q) ∙ (passes refusals.Failed (is_failed s.life) _ e).0))

  -- What is told of a feed is what the definition tells: number, place and need.
  pub payload-feed-told : (size a : ℕ) (bs : List ℕ) → explained_meant (payload_feed_explained s size bs a) ≡ payload_feed_telling m size a bs
  unfolding payload_feed_explained fed_explained payload_feed_telling feed_telling call_telling
  payload-feed-told size a bs =
      judged-told (feed_judged s size a) (fed_explained_in s.life s bs 0 a) _ _ (feed-judged k size a) (passed-told a 0 size bs)

  -- the pending command, ended by a byte that ends the payload
  pub pending-told : (size at : ℕ) → finish_judged s size ≡ Ok tt
      → explained_meant (pending_explained s.frame s.ground s.palette at) ≡ pending_telling m.setting at m.state
  unfolding finish_judged
  pending-told size at e =
      let fine : is_failed s.life ≡ false = (passes refusals.Failed (is_failed s.life) _ e).0 in
      let unfailed : m.failed ≡ false = sym (failed-test k size) ∙ fine in
      ap explained_meant (ending-told s.frame s.ground s.palette l at)
      ∙ sym (pending-tells {r = m.state} (record { drawing = k.drawing; begun = k.begun unfailed }) at)

  -- What is told of a finish is what the definition tells.
  pub payload-finish-told : (size : ℕ) → explained_meant (payload_finish_explained s size) ≡ payload_finish_telling m size
  unfolding payload_finish_explained payload_finish_telling finish_telling calls.misfits misfit
  payload-finish-told size =
      judged-told (finish_judged s size) (pending_explained s.frame s.ground s.palette 0) _ _ (finish-judged k size) (pending-told size 0)
