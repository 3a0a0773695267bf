-- Two readers that are alike keep the same demands: where each answer, the canvas and the finish are the same whenever what is held
-- is alike, what is promised of the one is promised of the other.
use Prim.Native.Nat.{ℕ, ◌+◌, ◌*◌, ◌<◌}
use mathlib.Core.Bool.{Bool, true, false, ◌&&◌}
use mathlib.Core.Option.{Option, some}
use mathlib.Core.List.{List, [], ◌∷◌, ◌++◌}
use mathlib.Core.Logic.{◌↔◌}
use mathlib.Core.Path.{◌≡◌, refl, sym, ap, ap₂, ◌∙◌, subst}
use lib.Dec.{leb}
use lib.ListN.{length, take, drop}
use Rattle.colours.specs.declared.Palette.{Palette}
use Rattle.meaning.specs.Calls.{Status, Answer, refused}
use Rattle.meaning.specs.Callers.{Feed, fed_all, how_told, consumed_told, ink_told, status_told, after_feed, called, calls_of, last_status, proper_calls, Ask}
use Rattle.meaning.specs.Drawing.{Setting}
use Rattle.meaning.specs.Sizes.{ReportFits, SizesFit}
use Rattle.meaning.specs.Demands.{Concluded, concluded, Whole, DemandOne, DemandTwo, DemandThree, have_failed, have_ended, FeedRefusals, FinishRefusals, FinishedEarly}
use Rattle.meaning.specs.Payload.{Finished, turned_down}
use Rattle.meaning.specs.Reader.{How, stopped, refused_by, is_refused, Turn, piece_of, allowance_of, stream, Caller, ready, may_call}

-- what is exactly so of two values is so of their equals
exactly : {X Y : Type 0} (P : X → Type 0) (Q : Y → Type 0) {x x' : X} {y y' : Y} → x' ≡ x → y' ≡ y → P x ↔ Q y → P x' ↔ Q y'
exactly {X} {Y} P Q {x} {x'} {y} {y'} e f w = subst (λ (v : Y). P x' ↔ Q v) (sym f) (subst (λ (u : X). P u ↔ Q y) (sym e) w)

-- ---- bytes of which something is asked

module _ (Good : List ℕ → Type 0) where
  -- the bytes of each call are such
  abbrev pub GoodCalls : List Ask → Type 0
  GoodCalls [] = Unit {0}
  GoodCalls (c ∷ cs) = Good c.bytes × GoodCalls cs

  -- each piece is such
  abbrev pub GoodPieces : List Turn → Type 0
  GoodPieces [] = Unit {0}
  GoodPieces (t ∷ ts) = Good (piece_of t) × GoodPieces ts

  module _ (all : (bs : List ℕ) → Good bs) where
    pub all-calls : (cs : List Ask) → GoodCalls cs
    all-calls [] = tt
    all-calls (c ∷ cs) = (all c.bytes, all-calls cs)

    pub all-pieces : (ts : List Turn) → GoodPieces ts
    all-pieces [] = tt
    all-pieces (t ∷ ts) = (all (piece_of t), all-pieces ts)

-- ---- readers that are alike

module _ {H K E : Type 0} (f : Feed H (Answer E)) (g : Feed K (Answer E)) (canvas_of : H → List ℕ) (canvas_at : K → List ℕ)
    (finish : H → Palette → Concluded) (conclude : K → Palette → Concluded) where
  -- such bytes are fed to both alike, canvas and finish are the same; and such bytes may be joined and dropped
  pub record AlikeReaders (Alike : H → K → Type 0) (Good : List ℕ → Type 0) : Type 0 where
    pub fed : {h : H} {k : K} → Alike h k → (bs : List ℕ) → Good bs → (a : ℕ)
        → ((g k bs a).1 ≡ (f h bs a).1) × Alike (f h bs a).0 (g k bs a).0
    pub canvas : {h : H} {k : K} → Alike h k → canvas_at k ≡ canvas_of h
    pub finished : {h : H} {k : K} → Alike h k → (owner : Palette) → conclude k owner ≡ finish h owner
    pub good-nil : Good []
    pub good-append : {bs cs : List ℕ} → Good bs → Good cs → Good (bs ++ cs)
    pub good-drop : (n : ℕ) {bs : List ℕ} → Good bs → Good (drop n bs)

-- another canvas may be lent to both, and what is held of the one says what is held of the other
pub record AlikeLent {H K : Type 0} (lend : H → List ℕ → H) (give : K → List ℕ → K) (Alike : H → K → Type 0) : Type 0 where
  pub lent : {h : H} {k : K} → Alike h k → (canvas : List ℕ) → Alike (lend h canvas) (give k canvas)
  pub known : {h : H} {k k' : K} → Alike h k → Alike h k' → k ≡ k'

module _ {H K E : Type 0} {f : Feed H (Answer E)} {g : Feed K (Answer E)} {canvas_of : H → List ℕ} {canvas_at : K → List ℕ}
    {finish : H → Palette → Concluded} {conclude : K → Palette → Concluded}
    {Alike : H → K → Type 0} {Good : List ℕ → Type 0} (both : AlikeReaders f g canvas_of canvas_at finish conclude Alike Good) where
  -- ---- any calls

  pub calls-alike : {h : H} {k : K} → Alike h k → (cs : List Ask) → GoodCalls Good cs
      → ((fed_all g k cs).answers ≡ (fed_all f h cs).answers) × Alike (fed_all f h cs).state (fed_all g k cs).state
  unfolding fed_all
  calls-alike l [] good = (refl, l)
  calls-alike {h = h} {k = k} l (c ∷ cs) good =
      let first = both.fed l c.bytes good.0 c.allowance in
      let later = calls-alike {h = (f h c.bytes c.allowance).0} {k = (g k c.bytes c.allowance).0} first.1 cs good.1 in
      (ap₂ ◌∷◌ first.0 later.0, later.1)

  -- ---- a caller that presents what was left unread

  pub record CallersAlike (c : Caller H) (d : Caller K) : Type 0 where
    pub state : Alike c.state d.state
    pub unread : d.unread ≡ c.unread
    pub good : Good c.unread
    pub consumed : d.consumed ≡ c.consumed
    pub ink : d.ink ≡ c.ink
    pub how : d.how ≡ c.how

  pub ready-alike : {h : H} {k : K} → Alike h k → CallersAlike (ready h) (ready k)
  unfolding ready
  ready-alike l = record { state = l; unread = refl; good = both.good-nil; consumed = refl; ink = refl; how = refl }

  module _ {c : Caller H} {d : Caller K} (l : CallersAlike c d) (t : Turn) (good : Good (piece_of t)) where
    abbrev presented : List ℕ
    presented = c.unread ++ piece_of t

    -- the same is presented, and what it is answered is the same
    first : ((g d.state presented (allowance_of t)).1 ≡ (f c.state presented (allowance_of t)).1)
        × Alike (f c.state presented (allowance_of t)).0 (g d.state presented (allowance_of t)).0
    first = both.fed l.state presented (both.good-append l.good good) (allowance_of t)

    told-alike : (g d.state (d.unread ++ piece_of t) (allowance_of t)).1 ≡ (f c.state presented (allowance_of t)).1
    told-alike = ap (λ (us : List ℕ). (g d.state (us ++ piece_of t) (allowance_of t)).1) l.unread ∙ first.0

    called-alike : CallersAlike (called f c t) (called g d t)
    unfolding called after_feed
    called-alike =
        subst
        (λ (us : List ℕ).
        let x : K × Answer E = g d.state (us ++ piece_of t) (allowance_of t) in
        CallersAlike (called f c t) (after_feed d (us ++ piece_of t) x.0 x.1))
        (sym l.unread)
        (record {
          state = first.1;
          unread = ap (λ (x : Answer E). drop (consumed_told x) presented) first.0;
          good = both.good-drop (consumed_told (f c.state presented (allowance_of t)).1) (both.good-append l.good good);
          consumed = ap₂ ◌+◌ l.consumed (ap consumed_told first.0);
          ink = ap₂ ◌+◌ l.ink (ap ink_told first.0);
          how = ap how_told first.0;
        })

  pub turns-alike : {c : Caller H} {d : Caller K} → CallersAlike c d → (ts : List Turn) → GoodPieces Good ts
      → CallersAlike (calls_of f c ts) (calls_of g d ts)
  unfolding calls_of
  turns-alike l [] good = l
  turns-alike {c = c} {d = d} l (t ∷ ts) good =
      turns-alike {c = called f c t} {d = called g d t} (called-alike l t good.0) ts good.1

  -- the same status is told last
  pub status-alike : {c : Caller H} {d : Caller K} → CallersAlike c d → (ts : List Turn) → GoodPieces Good ts → {was is : Status E}
      → is ≡ was
      → last_status g is d ts ≡ last_status f was c ts
  unfolding last_status
  status-alike l [] good e = e
  status-alike {c = c} {d = d} l (t ∷ ts) good {was = was} {is = is} e =
      status-alike {c = called f c t} {d = called g d t} (called-alike l t good.0) ts good.1
      {was = status_told was (f c.state (c.unread ++ piece_of t) (allowance_of t)).1}
      {is = status_told is (g d.state (d.unread ++ piece_of t) (allowance_of t)).1}
      (ap₂ status_told e (told-alike l t good.0))

  -- and the same calls may be made
  pub proper-alike : (A : ℕ) {c : Caller H} {d : Caller K} → CallersAlike c d → (ts : List Turn) → GoodPieces Good ts
      → proper_calls g A d ts ≡ proper_calls f A c ts
  unfolding proper_calls
  proper-alike A l [] good = refl
  proper-alike A {c = c} {d = d} l (t ∷ ts) good =
      ap₂ (λ (may later : Bool). leb A (allowance_of t) && (may && later)) (ap (may_call t) l.how)
      (proper-alike A {c = called f c t} {d = called g d t} (called-alike l t good.0) ts good.1)

  -- ---- the demands

  module _ {M : Type 0} (feed_meant : Feed M (Answer E)) (shows settles : M → List ℕ) (finish_meant : M → Finished)
      {h : H} {k : K} (l : Alike h k) (m : M) (cs : List Ask) (good : GoodCalls Good cs) where
    pub one_alike : DemandOne f canvas_of finish feed_meant shows settles finish_meant h m cs
        → DemandOne g canvas_at conclude feed_meant shows settles finish_meant k m cs
    one_alike x =
        let past = calls-alike l cs good in
        let same : canvas_at (fed_all g k cs).state ≡ canvas_of (fed_all f h cs).state = both.canvas past.1 in
        record {
          answers = past.0 ∙ x.answers;
          canvas-shows = same ∙ x.canvas-shows;
          finishes = λ owner.
              both.finished past.1 owner
              ∙ x.finishes owner
              ∙ ap
              (λ (lent : List ℕ).
              concluded (settles (fed_all feed_meant m cs).state) owner lent (finish_meant (fed_all feed_meant m cs).state))
              (sym same);
        }

  module _ (meant : List ℕ → Whole E) {h : H} {k : K} (l : Alike h k) (ts : List Turn) (good : GoodPieces Good ts) where
    -- where each caller stands
    abbrev there : Caller H
    there = calls_of f (ready h) ts

    abbrev here : Caller K
    here = calls_of g (ready k) ts

    after : CallersAlike there here
    after = turns-alike (ready-alike l) ts good

    same-canvas : canvas_at here.state ≡ canvas_of there.state
    same-canvas = both.canvas after.state

    read-there : (here.how ≡ stopped → ⊥) → there.how ≡ stopped → ⊥
    read-there all e = all (after.how ∙ e)

    through-there : (here.how ≡ stopped → ⊥) × (is_refused here.how ≡ false)
        → (there.how ≡ stopped → ⊥) × (is_refused there.how ≡ false)
    through-there t = (read-there t.0, sym (ap is_refused after.how) ∙ t.1)

    pub two-alike : DemandTwo f canvas_of finish meant h ts → DemandTwo g canvas_at conclude meant k ts
    two-alike x =
        record {
          refusal =
              λ all n. exactly (λ (w : How). w ≡ refused_by n) (λ (o : Option ℕ). o ≡ some n) after.how refl
              (x.refusal (read-there all) n);
          status = λ t. status-alike (ready-alike l) ts good refl ∙ x.status (through-there t);
          consumed = λ t. after.consumed ∙ x.consumed (through-there t);
          canvas-read = λ all. same-canvas ∙ x.canvas-read (read-there all);
          canvas-stopped = λ e.
              same-canvas
              ∙ x.canvas-stopped (sym after.how ∙ e)
              ∙ ap (λ (n : ℕ). (meant (take n (stream ts))).settled) (sym after.consumed);
          finishes = λ t owner.
              both.finished after.state owner
              ∙ x.finishes (through-there t) owner
              ∙ ap (λ (lent : List ℕ). concluded (meant (stream ts)).settled owner lent (meant (stream ts)).finish) (sym same-canvas);
        }

    pub three-alike : (W A : ℕ) → DemandThree f meant W A h ts → DemandThree g meant W A k ts
    three-alike W A x = record { calls = x.calls; ink = λ t. after.ink ∙ x.ink (through-there t) }

  -- ---- sizes

  pub sizes-alike : {lend : H → List ℕ → H} {give : K → List ℕ → K} → AlikeLent lend give Alike → (s : Setting) {h : H} {k : K} → Alike h k
      → (cs : List Ask) → GoodCalls Good cs → SizesFit f lend finish s h cs → SizesFit g give conclude s k cs
  sizes-alike lends s l cs good x lent owner =
      subst (ReportFits s)
      (sym (ap (λ (z : Concluded). z.answer) (both.finished (lends.lent (calls-alike l cs good).1 lent) owner))) (x lent owner)

  -- ---- the refusals that come first

  module _ {lend : H → List ℕ → H} {give : K → List ℕ → K} (lends : AlikeLent lend give Alike) (size : ℕ)
      {h : H} {k : K} (l : Alike h k) (cs : List Ask) (good : GoodCalls Good cs) (canvas : List ℕ) where
    same-answers : (fed_all g k cs).answers ≡ (fed_all f h cs).answers
    same-answers = (calls-alike l cs good).0

    -- another canvas is lent to each
    lent_alike : Alike (lend (fed_all f h cs).state canvas) (give (fed_all g k cs).state canvas)
    lent_alike = lends.lent (calls-alike l cs good).1 canvas

    pub feeds-alike : (W : ℕ) (bs : List ℕ) → Good bs → (a : ℕ) → FeedRefusals f lend size h cs canvas W bs a
        → FeedRefusals g give size k cs canvas W bs a
    feeds-alike W bs fine a x =
        let told = both.fed lent_alike bs fine a in
        record {
          nine =
              exactly (λ (w : Answer E). w ≡ refused 9) (λ (ws : List (Answer E)). have_failed ws ≡ true) told.0 same-answers x.nine;
          twelve =
              exactly (λ (w : Answer E). w ≡ refused 12) (λ (ws : List (Answer E)). (have_failed ws ≡ false) × (¬ (length canvas ≡ size)))
              told.0 same-answers x.twelve;
          thirteen =
              exactly (λ (w : Answer E). w ≡ refused 13)
              (λ (ws : List (Answer E)). (have_failed ws ≡ false) × (length canvas ≡ size) × (a < 6 * W))
              told.0 same-answers x.thirteen;
          keeps = λ n most e.
              let stays : (f (lend (fed_all f h cs).state canvas) bs a).0 ≡ lend (fed_all f h cs).state canvas =
              x.keeps n most (sym told.0 ∙ e) in
              lends.known (subst (λ (w : H). Alike w (g (give (fed_all g k cs).state canvas) bs a).0) stays told.1) lent_alike;
        }

    pub finish-alike : (owner : Palette) → FinishRefusals f lend size h cs canvas finish owner
        → FinishRefusals g give size k cs canvas conclude owner
    finish-alike owner x =
        let same = both.finished lent_alike owner in
        let told = ap (λ (z : Concluded). z.answer) same in
        record {
          nine = exactly (λ (w : Finished). w ≡ turned_down 9) (λ (ws : List (Answer E)). have_failed ws ≡ true) told same-answers x.nine;
          twelve =
              exactly (λ (w : Finished). w ≡ turned_down 12) (λ (ws : List (Answer E)). (have_failed ws ≡ false) × (¬ (length canvas ≡ size)))
              told same-answers x.twelve;
          keeps = λ n e.
              let kept = x.keeps n (sym told ∙ e) in
              (ap (λ (z : Concluded). z.palette) same ∙ kept.0, ap (λ (z : Concluded). z.canvas) same ∙ kept.1);
        }

    pub early-alike : (owner : Palette) → FinishedEarly f lend size h cs canvas finish owner
        → FinishedEarly g give size k cs canvas conclude owner
    early-alike owner x =
        exactly (λ (w : Finished). w ≡ turned_down 8)
        (λ (ws : List (Answer E)). (have_failed ws ≡ false) × (length canvas ≡ size) × (have_ended ws ≡ false))
        (ap (λ (z : Concluded). z.answer) (both.finished lent_alike owner)) same-answers x
