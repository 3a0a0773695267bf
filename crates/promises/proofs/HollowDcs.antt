-- The five hollow readers (docs/PROMISES.md) are rejected of DCS sessions too.
use Rattle.std.specs.Prelude.{Ok, Err}
use Prim.Native.Nat.{ℕ, ◌*◌, ◌≤◌}
use mathlib.Core.Bool.{false}
use mathlib.Core.List.{List, [], ◌∷◌}
use mathlib.Core.Path.{◌≡◌, refl, sym, ap, ◌∙◌}
use native.Mathlib.Omega.{arith}
use lib.ListN.{length, get_or}
use Rattle.numbers.specs.Step as numbers
use Rattle.numbers.proofs.Reading.{read_none}
use Rattle.colours.specs.declared.Palette.{Palette}
use Rattle.colours.specs.Palette.{standard}
use Rattle.colours.specs.Marks.{lasting}
use Rattle.canvas.specs.Picture as pictures
use Rattle.frame.specs.declared.Limits.{Limits}
use Rattle.frame.specs.declared.Refusal.{Refusal}
use Rattle.meaning.specs.Calls as calls
use Rattle.meaning.specs.Callers.{ink_told}
use Rattle.meaning.specs.Sessions.{End, Phase, start}
use Rattle.meaning.proofs.Trials.{computed}
use Rattle.payload.specs.declared.Life.TheVariants as lives
use Rattle.payload.specs.Deferred.{no_settings}
use Rattle.payload.specs.Refusals.{in_range, limits_fit, openable}
use Rattle.payload.specs.Session.{session_for}
use Rattle.payload.specs.Meant.{limits_meant, setting_meant}
use Rattle.payload.specs.declared.Answer.TheVariants as answers
use Rattle.dcs.specs.Results.{Fed}
use Rattle.dcs.specs.declared.Phase.TheVariants as phases
use Rattle.dcs.specs.declared.Session.{Session}
use Rattle.header.specs.declared.Place.TheVariants as places
use Rattle.dcs.specs.Session.{session_of}
use Rattle.dcs.specs.History.{at_start, held_at, Stands, before, Feeds}
use Rattle.dcs.specs.Meant.{answer_meant}
use Rattle.dcs.proofs.Standing.{stands-shows}
use Rattle.promises.proofs.Hollow.{house, fresh}
use Rattle.promises.proofs.StoppedCalls.{Worked, dcs-stop-works}

-- a feed: of a session, a canvas, bytes and an allowance it makes an answer, a session and a canvas
abbrev pub Reader : Type 0
Reader = Session → List ℕ → List ℕ → ℕ → Fed × List ℕ

-- it keeps the promise: on every session that stands for one of the definition the answer is the definition's, and session and canvas stand for
-- the definition's session
abbrev pub Meets : Reader → Type 0
Meets f =
    (l : Limits) (stride : ℕ) (p : Palette) (opening : List ℕ) (s : Session) (c : List ℕ) (m : calls.Session Phase) → Stands l stride p opening s c m
    → (bs : List ℕ) (a : ℕ) → Feeds l stride p opening (f s c bs a) (calls.feed_dcs p m (length c) a bs)

module _ (f : Reader) (meets : Meets f) (l : Limits) (stride : ℕ) (p : Palette) (opening : List ℕ) {s : Session} {c : List ℕ} {m : calls.Session Phase}
    (k : Stands l stride p opening s c m) (bs : List ℕ) (a : ℕ) where
  -- Each call's answer is fixed: it is the definition's.
  pub dcs-answer-fixed : answer_meant (f s c bs a).0.answer ≡ (calls.feed_dcs p m (length c) a bs).answer
  dcs-answer-fixed = (meets l stride p opening s c m k bs a).answer

  -- Each call's canvas is fixed: it shows the drawing that the definition has come to.
  pub dcs-canvas-fixed : (f s c bs a).1 ≡ calls.dcs_shown (calls.feed_dcs p m (length c) a bs).session opening
  dcs-canvas-fixed = stands-shows l stride p opening (meets l stride p opening s c m k bs a).session

  -- Each call's ink is fixed.
  pub dcs-ink-fixed : ink_told (answer_meant (f s c bs a).0.answer) ≡ ink_told (calls.feed_dcs p m (length c) a bs).answer
  dcs-ink-fixed = ap ink_told (meets l stride p opening s c m k bs a).answer

  -- A stopped call has read a byte, and its ink is at least A - 6W + 1.
  pub dcs-stop-fixed : (n i : ℕ) → (f s c bs a).0.answer ≡ Ok (answers.Stopped n i) → Worked a (6 * m.setting.limits.width) n i
  unfolding answer_meant
  dcs-stop-fixed n i e = dcs-stop-works p m (length c) a bs n i (sym (meets l stride p opening s c m k bs a).answer ∙ ap answer_meant e)

  -- Consuming nothing and stopping: the stop rule. No call does it, of whichever session.
  pub dcs-no-idler : (i : ℕ) → ¬ ((f s c bs a).0.answer ≡ Ok (answers.Stopped 0 i))
  dcs-no-idler i e = let none_read : 1 ≤ 0 = (dcs-stop-fixed 0 i e).reads in omega arith

-- ---- the smallest example: house limits, a canvas of 1 x 6 pixels whose bytes are 1, the standard palette; the bytes are 90 `q~`

unfoldable pub sixel : List ℕ
sixel = 0x90 ∷ 0x71 ∷ 0x7E ∷ []

unfoldable pub s₀ : Session
s₀ = session_of (session_for house 1 (length fresh) no_settings (lasting standard) lives.Live) (numbers.opened 3) (phases.Before places.Start)

m₀ : calls.Session Phase
m₀ = held_at house 1 (length fresh) start false

k₀ : Stands house 1 standard fresh s₀ fresh m₀
unfolding s₀ m₀ openable limits_fit in_range fresh pictures.rows_of
k₀ = before refl (at_start (read_none 3))

fed₀ : List ℕ → calls.Fed Phase End
fed₀ bs = calls.feed_dcs standard m₀ (length fresh) 6144 bs

-- byte 7 of the canvas: the alpha of the pixel below the first
alpha₀ : List ℕ → ℕ
alpha₀ bs = get_or (calls.dcs_shown (fed₀ bs).session fresh) 7 0

empty-told : (fed₀ []).answer ≡ calls.told 0 0 calls.needs_more
unfolding fed₀ computed calls.feed_dcs calls.visible_area m₀ fresh setting_meant limits_meant calls.setting_for
empty-told = refl

sixel-told : (fed₀ sixel).answer ≡ calls.told 3 6 calls.needs_more
unfolding fed₀ sixel computed calls.feed_dcs calls.visible_area m₀ fresh setting_meant limits_meant calls.setting_for
sixel-told = refl

empty-alpha : alpha₀ [] ≡ 1
unfolding alpha₀ fed₀ computed calls.feed_dcs calls.visible_area m₀ fresh setting_meant limits_meant calls.setting_for
    calls.dcs_shown calls.shown pictures.picture pictures.replaced pictures.grid pictures.visible
empty-alpha = refl

sixel-alpha : alpha₀ sixel ≡ 255
unfolding alpha₀ fed₀ sixel computed calls.feed_dcs calls.visible_area m₀ fresh setting_meant limits_meant calls.setting_for
    calls.dcs_shown calls.shown pictures.picture pictures.replaced pictures.grid pictures.visible
sixel-alpha = refl

module _ (f : Reader) (meets : Meets f) where
  answer₀ : (bs : List ℕ) → answer_meant (f s₀ fresh bs 6144).0.answer ≡ (fed₀ bs).answer
  unfolding fed₀
  answer₀ bs = (meets house 1 standard fresh s₀ fresh m₀ k₀ bs 6144).answer

  canvas₀ : (bs : List ℕ) → get_or (f s₀ fresh bs 6144).1 7 0 ≡ alpha₀ bs
  unfolding alpha₀ fed₀
  canvas₀ bs = ap (λ (c : List ℕ). get_or c 7 0) (dcs-canvas-fixed f meets house 1 standard fresh k₀ bs 6144)

  -- Refusing everything: the table says "exactly when".
  pub dcs-no-refuser : ((s : Session) (l bs : List ℕ) (a : ℕ) → (x : Refusal) × ((f s l bs a).0.answer ≡ Err x)) → ⊥
  unfolding answer_meant
  dcs-no-refuser refuses =
      let h = refuses s₀ fresh [] 6144 in
      let e = sym (ap answer_meant h.1) ∙ answer₀ [] ∙ empty-told in
      let never : ◌≡◌ {A = ℕ} 0 1 = cc in omega arith

  -- One fixed picture: the last-draw definition.
  pub dcs-no-fixed-picture : (one : List ℕ) → ((s : Session) (l bs : List ℕ) (a : ℕ) → (f s l bs a).1 ≡ one) → ⊥
  dcs-no-fixed-picture one fixed =
      let same : (f s₀ fresh [] 6144).1 ≡ (f s₀ fresh sixel 6144).1 = fixed s₀ fresh [] 6144 ∙ sym (fixed s₀ fresh sixel 6144) in
      let never : ◌≡◌ {A = ℕ} 1 255 = sym empty-alpha ∙ sym (canvas₀ []) ∙ ap (λ (c : List ℕ). get_or c 7 0) same ∙ canvas₀ sixel ∙ sixel-alpha in
      omega arith

  -- All painting in one call, pretence in the rest: no call reads a sixel and leaves it to another to paint.
  pub dcs-no-pretender : ¬ ((f s₀ fresh sixel 6144).1 ≡ fresh)
  unfolding fresh
  dcs-no-pretender e =
      let never : ◌≡◌ {A = ℕ} 255 1 = sym sixel-alpha ∙ sym (canvas₀ sixel) ∙ ap (λ (c : List ℕ). get_or c 7 0) e in omega arith

  -- An invented ink figure: 90 `q~` has an ink of 6, and no other is told.
  pub dcs-no-inventor : (i : ℕ) → ¬ (i ≡ 6) → ¬ (ink_told (answer_meant (f s₀ fresh sixel 6144).0.answer) ≡ i)
  unfolding ink_told
  dcs-no-inventor i other e = other (sym e ∙ ap ink_told (answer₀ sixel ∙ sixel-told))
