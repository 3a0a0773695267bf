-- The five hollow readers (docs/PROMISES.md) are rejected: no function that behaves so keeps the promise of a feed.
use Rattle.std.specs.Prelude.{Some, None, Ok, Err}
use Prim.Native.Nat.{ℕ, ◌*◌, ◌≤◌}
use mathlib.Core.Bool.{false}
use mathlib.Core.List.{List, [], ◌∷◌}
use mathlib.Core.Option.{Option, none, some}
use mathlib.Core.Path.{◌≡◌, refl, sym, ap, ◌∙◌, subst}
use native.Mathlib.Omega.{arith}
use lib.ListN.{length, get_or}
use Rattle.colours.specs.Palette.{standard}
use Rattle.colours.specs.Marks.{lasting}
use Rattle.canvas.specs.Picture.{span}
use Rattle.canvas.specs.Picture as pictures
use Rattle.canvas.specs.Paint.{painted}
use Rattle.frame.specs.declared.Limits.{Limits}
use Rattle.frame.specs.declared.Refusal.{Refusal}
use Rattle.meaning.specs.Calls as calls
use Rattle.meaning.specs.Callers.{ink_told}
use Rattle.meaning.specs.Reader.{still, call}
use Rattle.meaning.specs.Sessions.{Reading, opened, rested, payload_step}
use Rattle.meaning.proofs.FeedingLaws.{fed-as}
use Rattle.meaning.proofs.Trials.{computed}
use Rattle.payload.specs.declared.Answer.TheVariants as answers
use Rattle.payload.specs.Results.{Fed}
use Rattle.payload.specs.declared.Life.TheVariants as lives
use Rattle.payload.specs.declared.Session.{Session}
use Rattle.payload.specs.declared.Settings.{Settings}
use Rattle.payload.specs.Refusals.{in_range, limits_fit, openable}
use Rattle.payload.specs.Session.{background_for, session_for, fed_by}
use Rattle.payload.specs.History.{Stands, Feeds}
use Rattle.meaning.specs.Drawing.{house_limits}
use Rattle.payload.specs.Meant.{limits_coded, given_meant, parameters_meant, limits_meant, setting_meant, answer_meant}
use Rattle.payload.proofs.Openings.{ready-stands}
use Rattle.payload.proofs.Judgements.{stands-shows, stands-long}
use Rattle.payload.proofs.Feedings.{feed-stands}
use Rattle.promises.proofs.StoppedCalls.{Worked, payload-stop-works}

-- a feed: of a session, a canvas, bytes and an allowance it makes an answer, a session and a canvas
abbrev pub Reader : Type 0
Reader = Session → List ℕ → List ℕ → ℕ → Fed × List ℕ

-- it keeps the promise: on every session that stands for one of the definition the answer is the definition's, and session and canvas stand for
-- the definition's session
abbrev pub Meets : Reader → Type 0
Meets f =
    (opening : List ℕ) (s : Session) (l : List ℕ) (m : calls.Session Reading) → Stands opening s l m → (bs : List ℕ) (a : ℕ)
    → Feeds opening (f s l bs a) (calls.feed_payload m (length l) a bs)

-- every function with the contract of `feed` does
pub contract-meets : (f : Reader) → ((s : Session) (l bs : List ℕ) (a : ℕ) → f s l bs a ≡ fed_by s l bs a) → Meets f
contract-meets f same opening s l m k bs a =
    subst (λ (x : Fed × List ℕ). Feeds opening x (calls.feed_payload m (length l) a bs)) (sym (same s l bs a)) (feed-stands k bs a)

-- ---- what the promise fixes of each call

module _ (f : Reader) (meets : Meets f) {opening : List ℕ} {s : Session} {l : List ℕ} {m : calls.Session Reading}
    (k : Stands opening s l m) (bs : List ℕ) (a : ℕ) where
  -- what the definition makes of the call
  abbrev meant : calls.Fed Reading ℕ
  meant = calls.feed_payload m (length l) a bs

  -- Each call's answer is fixed: it is the definition's.
  pub answer-fixed : answer_meant (f s l bs a).0.answer ≡ meant.answer
  answer-fixed = (meets opening s l m k bs a).answer

  -- Each call's canvas is fixed: it shows the drawing that the definition has come to.
  pub canvas-fixed : (f s l bs a).1 ≡ calls.payload_shown meant.session opening
  canvas-fixed = stands-shows (meets opening s l m k bs a).session

  -- Each call's ink is fixed.
  pub ink-fixed : ink_told (answer_meant (f s l bs a).0.answer) ≡ ink_told meant.answer
  ink-fixed = ap ink_told (meets opening s l m k bs a).answer

  -- A stopped call has read a byte, and its ink is at least A - 6W + 1.
  pub stop-fixed : (n i : ℕ) → (f s l bs a).0.answer ≡ Ok (answers.Stopped n i) → Worked a (6 * m.setting.limits.width) n i
  unfolding answer_meant
  stop-fixed n i e = payload-stop-works m (length l) a bs n i (sym (meets opening s l m k bs a).answer ∙ ap answer_meant e)

-- ---- the smallest example: house limits, a canvas of 1 x 6 pixels whose bytes are 1, the standard palette, and P2 is 1

abbrev pub house : Limits
house = limits_coded house_limits

unfoldable pub clear : Settings
clear = record { p1 = None; p2 = Some 1 }

unfoldable pub fresh : List ℕ
fresh = 1 ∷ 1 ∷ 1 ∷ 1 ∷ 1 ∷ 1 ∷ 1 ∷ 1 ∷ 1 ∷ 1 ∷ 1 ∷ 1 ∷ 1 ∷ 1 ∷ 1 ∷ 1 ∷ 1 ∷ 1 ∷ 1 ∷ 1 ∷ 1 ∷ 1 ∷ 1 ∷ 1 ∷ []

-- the session, its canvas and the definition's session at the opening
unfoldable pub s₀ : Session
s₀ = session_for house 1 (length fresh) clear (lasting standard) lives.Live

unfoldable pub l₀ : List ℕ
l₀ = painted (span 0 1) (background_for (lasting standard) clear.p2) fresh

m₀ : calls.Session Reading
m₀ = record { setting = setting_meant house 1 (length fresh); length = length fresh; state = opened (parameters_meant clear) standard; failed = false }

k₀ : Stands fresh s₀ l₀ m₀
unfolding s₀ l₀ m₀ openable limits_fit in_range fresh pictures.rows_of
k₀ = ready-stands house 1 clear standard fresh refl

-- what the definition makes of some bytes with an allowance of 6W
fed₀ : List ℕ → calls.Fed Reading ℕ
fed₀ bs = calls.feed_payload m₀ (length fresh) 6144 bs

at₀ : (bs : List ℕ) → calls.feed_payload m₀ (length l₀) 6144 bs ≡ fed₀ bs
unfolding fed₀
at₀ bs = ap (λ (n : ℕ). calls.feed_payload m₀ n 6144 bs) (stands-long k₀)

-- byte 7 of the canvas that it shows: the alpha of the pixel below the first
alpha₀ : List ℕ → ℕ
alpha₀ bs = get_or (calls.payload_shown (fed₀ bs).session fresh) 7 0

-- `~` is read, with an ink of 6, and paints that pixel; no bytes are read with none, and leave it as it was at the opening
empty-told : (fed₀ []).answer ≡ calls.told 0 0 calls.needs_more
unfolding fed₀ computed m₀ clear fresh setting_meant limits_meant parameters_meant given_meant calls.setting_for
empty-told = refl

sixel-told : (fed₀ (0x7E ∷ [])).answer ≡ calls.told 1 6 calls.needs_more
unfolding fed₀ computed m₀ clear fresh setting_meant limits_meant parameters_meant given_meant calls.setting_for
sixel-told = refl

empty-alpha : alpha₀ [] ≡ 1
unfolding alpha₀ fed₀ computed m₀ clear fresh setting_meant limits_meant parameters_meant given_meant calls.setting_for
    calls.payload_shown calls.shown pictures.picture pictures.replaced pictures.grid pictures.visible
empty-alpha = refl

sixel-alpha : alpha₀ (0x7E ∷ []) ≡ 255
unfolding alpha₀ fed₀ computed m₀ clear fresh setting_meant limits_meant parameters_meant given_meant calls.setting_for
    calls.payload_shown calls.shown pictures.picture pictures.replaced pictures.grid pictures.visible
sixel-alpha = refl

opening-alpha : get_or (calls.payload_shown m₀ fresh) 7 0 ≡ 1
unfolding computed m₀ clear fresh setting_meant limits_meant parameters_meant given_meant calls.setting_for
    calls.payload_shown calls.shown pictures.picture pictures.replaced pictures.grid pictures.visible
opening-alpha = refl

-- ---- the five

module _ (f : Reader) (meets : Meets f) where
  answer₀ : (bs : List ℕ) → answer_meant (f s₀ l₀ bs 6144).0.answer ≡ (fed₀ bs).answer
  answer₀ bs = (meets fresh s₀ l₀ m₀ k₀ bs 6144).answer ∙ ap (λ (x : calls.Fed Reading ℕ). x.answer) (at₀ bs)

  canvas₀ : (bs : List ℕ) → get_or (f s₀ l₀ bs 6144).1 7 0 ≡ alpha₀ bs
  unfolding alpha₀
  canvas₀ bs =
      ap (λ (c : List ℕ). get_or c 7 0) (canvas-fixed f meets k₀ bs 6144)
      ∙ ap (λ (x : calls.Fed Reading ℕ). get_or (calls.payload_shown x.session fresh) 7 0) (at₀ bs)

  -- Refusing everything: the table says "exactly when".
  pub no-refuser : ((s : Session) (l bs : List ℕ) (a : ℕ) → (x : Refusal) × ((f s l bs a).0.answer ≡ Err x)) → ⊥
  unfolding answer_meant
  no-refuser refuses =
      let h = refuses s₀ l₀ [] 6144 in
      let e = sym (ap answer_meant h.1) ∙ answer₀ [] ∙ empty-told in
      let never : ◌≡◌ {A = ℕ} 0 1 = cc in omega arith

  -- One fixed picture: the last-draw definition.
  pub no-fixed-picture : (one : List ℕ) → ((s : Session) (l bs : List ℕ) (a : ℕ) → (f s l bs a).1 ≡ one) → ⊥
  no-fixed-picture one fixed =
      let same : (f s₀ l₀ [] 6144).1 ≡ (f s₀ l₀ (0x7E ∷ []) 6144).1 = fixed s₀ l₀ [] 6144 ∙ sym (fixed s₀ l₀ (0x7E ∷ []) 6144) in
      let never : ◌≡◌ {A = ℕ} 1 255 =
      sym empty-alpha ∙ sym (canvas₀ []) ∙ ap (λ (c : List ℕ). get_or c 7 0) same ∙ canvas₀ (0x7E ∷ []) ∙ sixel-alpha in
      omega arith

  -- Consuming nothing and stopping: the stop rule. No call does it, of whichever session.
  pub no-idler : {opening : List ℕ} {s : Session} {l : List ℕ} {m : calls.Session Reading} → Stands opening s l m → (bs : List ℕ) (a i : ℕ)
      → ¬ ((f s l bs a).0.answer ≡ Ok (answers.Stopped 0 i))
  no-idler k bs a i e = let none_read : 1 ≤ 0 = (stop-fixed f meets k bs a 0 i e).reads in omega arith

  -- All painting in one call, pretence in the rest: each call's canvas is fixed. No call reads a sixel and leaves it to another to paint,
  pub no-pretender : ¬ ((f s₀ l₀ (0x7E ∷ []) 6144).1 ≡ l₀)
  no-pretender e =
      let never : ◌≡◌ {A = ℕ} 255 1 =
      sym sixel-alpha
      ∙ sym (canvas₀ (0x7E ∷ []))
      ∙ ap (λ (c : List ℕ). get_or c 7 0) (e ∙ stands-shows k₀)
      ∙ opening-alpha in
      omega arith

  -- and none paints without bytes.
  pub no-painting-ahead : {opening : List ℕ} {s : Session} {l : List ℕ} {m : calls.Session Reading} → Stands opening s l m → (a : ℕ) → (f s l [] a).1 ≡ l
  unfolding calls.payload_shown calls.feed_payload calls.answered calls.tells calls.session_after call still
  no-painting-ahead {opening} {s} {l} {m} k a =
      canvas-fixed f meets k [] a ∙ go (calls.feed_refusal (λ (r : Reading). r.drawing.area) m (length l) a) refl ∙ sym (stands-shows k)
    where
      go : (o : Option ℕ) → calls.feed_refusal (λ (r : Reading). r.drawing.area) m (length l) a ≡ o
          → calls.payload_shown (calls.feed_payload m (length l) a []).session opening ≡ calls.payload_shown m opening
      go none e =
          ap (λ (x : calls.Fed Reading ℕ). calls.payload_shown x.session opening)
          (fed-as (λ (r : Reading). r.drawing.area) payload_step rested (λ (r : Reading). r.over) m (length l) a [] e)
      go (some n) e =
          ap (λ (x : calls.Fed Reading ℕ). calls.payload_shown x.session opening)
          (fed-as (λ (r : Reading). r.drawing.area) payload_step rested (λ (r : Reading). r.over) m (length l) a [] e)

  -- An invented ink figure: `~` has an ink of 6, and no other is told.
  pub no-inventor : (i : ℕ) → ¬ (i ≡ 6) → ¬ (ink_told (answer_meant (f s₀ l₀ (0x7E ∷ []) 6144).0.answer) ≡ i)
  unfolding ink_told
  no-inventor i other e = other (sym e ∙ ap ink_told (answer₀ (0x7E ∷ []) ∙ sixel-told))
