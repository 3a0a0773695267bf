-- What a refused byte needed: the code's frame says what the definition says of the reading before the byte.
use Rattle.std.specs.Prelude.{◌≡◌, ℕ, ◌+◌, ◌-◌, ◌*◌, Bool, true, false, cond, ◌&&◌, eqb, ltb, List, [], ◌∷◌, ◌++◌}
use native.Mathlib.Omega.{arith}
use mathlib.Core.List.{append-nil}
use mathlib.Core.Option.{Option, none, some}
use mathlib.Core.Path.{refl, sym, ap, ◌∙◌, subst}
use lib.Count.{ones}
use Rattle.numbers.specs.Bytes.{skipped, digit, sixel, ends, semicolon}
use Rattle.numbers.proofs.Laws.{cond_yes, cond_no}
use Rattle.colours.specs.declared.Palette.{Palette}
use Rattle.canvas.proofs.Covers.{by-test}
use Rattle.frame.specs.declared.Command as code_command
use Rattle.frame.specs.declared.Frame.{Frame}
use Rattle.frame.specs.declared.Ground.{Ground}
use Rattle.frame.specs.declared.Kind.TheVariants as kinds
use Rattle.frame.specs.declared.Outcome.TheVariants as outcomes
use Rattle.frame.specs.declared.Refusal.{Refusal}
use Rattle.frame.specs.declared.VisibleArea.{VisibleArea}
use Rattle.std.specs.Prelude.{Result, Ok, Err}
use Rattle.frame.specs.Commands.{unread_as, refused_as, Ended, ended}
use Rattle.frame.specs.Sizes.{sixel_area}
use Rattle.reference.specs.Step.{Reached, read_as, inked, canvas_after, painted_on, drawn_in, drawn_by, data_step, takes_semicolon, settled_step, argument_step}
use Rattle.reference.specs.Step.{step_in, step_of}
use Rattle.reference.specs.Feed.{byte_step}
use Rattle.reference.proofs.FeedLaws.{byte-once, byte-twice}
use Rattle.meaning.specs.Commands.{Begun, argued, draw, Placed, taken, Scanned, closed, does, own, scan_byte}
use Rattle.meaning.specs.Drawing.{Setting, Drawing, Drawn, drawn, refused, unless, stroke_of, stroked, sixelled, size_refusal, draw_command, Outcome as Drew}
use Rattle.meaning.specs.Drawing.{and_then, draw_all}
use Rattle.meaning.specs.Sessions.{Reading, settled, rested}
use Rattle.meaning.specs.Tellings.{command_shortage, shortage_in, first_shortage, byte_shortage}
use Rattle.meaning.proofs.AreaLaws.{Sound}
use Rattle.meaning.proofs.InkLaws.{sixel-range, scan-sixel}
use Rattle.agreement.specs.Same.{ground_of, frame_of, canvas_of, Bounded, SameBegun, Same}
use Rattle.agreement.proofs.Bytes.{argument-step, untaken}
use Rattle.agreement.proofs.Data.{unended}
use Rattle.agreement.proofs.Own.{after, own-after}
use Rattle.agreement.proofs.Settle.{same-fact, EndsAs, settles, refuses, pending-ends, Settling, settling, refusing, settle-agrees}
use Rattle.agreement.proofs.Sizes.{Sized, allows, turns, sixel-sized}
use Rattle.explain.specs.Meant.{need_meant}
use Rattle.explain.specs.Need.{need_of}
use Rattle.explain.proofs.NeedMeant.{idle-meant, pending-meant}

-- ---- commands in their order

-- a command that is refused is the first
pub first-refused : (s : Setting) (c : Placed) (cs : List Placed) (d : Drawing) {n : ℕ} → draw_command s c.command d ≡ refused n
    → first_shortage s (c ∷ cs) d ≡ command_shortage s c.command d
unfolding first_shortage shortage_in
first-refused s c cs d e = ap (λ (x : Drawn). shortage_in x (command_shortage s c.command d) (first_shortage s cs)) e

-- after one that is drawn come the others
pub first-drawn : (s : Setting) (c : Placed) (cs : List Placed) (d : Drawing) {e : Drawing} → draw_command s c.command d ≡ drawn e
    → first_shortage s (c ∷ cs) d ≡ first_shortage s cs e
unfolding first_shortage shortage_in
first-drawn s c cs d q = ap (λ (x : Drawn). shortage_in x (command_shortage s c.command d) (first_shortage s cs)) q

-- ---- a byte while no command is pending

-- a sixel that has passed its limits is not refused
painted-unrefused : {A : Type 0} (f : Frame) (g : Ground) (bits left w h : ℕ) (p : Palette) (l : List ℕ) {why : Refusal}
    → (painted_on f g bits left w h p l).progress.outcome ≡ outcomes.Refused why → A
unfolding painted_on read_as unread_as
painted-unrefused {A} f g bits left w h p l {why} e = go (ltb left (ones bits * f.pen.repeat)) e
  where
    go : (t : Bool)
        → (cond {A = Reached} t
        (record { progress = unread_as f outcomes.Stopped; palette = p; canvas = l })
        (record {
          progress = read_as (inked f bits w h) (ones bits * f.pen.repeat);
          palette = p;
          canvas = canvas_after f g bits w h l;
        })
        ).progress.outcome
        ≡ outcomes.Refused why
        → A
    go true e = absurd (let z : ◌≡◌ {A = ℕ} 0 1 = cc in omega arith)
    go false e = absurd (let z : ◌≡◌ {A = ℕ} 0 1 = cc in omega arith)

-- the byte's own command, where no other is pending
abbrev own_commands : ℕ → ℕ → List Placed
own_commands at b = cond (ends b) [] (scan_byte at none b).ended

module _ {s : Setting} (bounded : Bounded s) {d : Drawing} (sound : Sound s d) (c : code_command.Command) (idle : c.kind ≡ kinds.Data)
    (background : List ℕ) (p : Palette) (l : List ℕ) (at b left : ℕ) where
  abbrev g : Ground
  g = ground_of s background

  abbrev f : Frame
  f = frame_of d c

  -- a sixel, with its size known
  drawn-need : {why : Refusal} (bits : ℕ) {x : Result VisibleArea Refusal} {y : Option ℕ}
      → size_refusal s d.area (d.pen.column + d.pen.repeats) (d.pen.row + 6) ≡ y
      → Sized s d.area (d.pen.column + d.pen.repeats) (d.pen.row + 6) x y
      → (drawn_in x f g bits left p l).progress.outcome ≡ outcomes.Refused why
      → first_shortage s (record { place = at; command = draw bits } ∷ []) d ≡ need_meant (need_of (drawn_in x f g bits left p l).progress.frame g)
  unfolding drawn_in refused_as unread_as draw_command sixelled unless
  drawn-need bits q (allows {m} {n} k v w) e = painted-unrefused f g bits left m n p l e
  drawn-need bits q (turns r {n} k) e =
      first-refused s (record { place = at; command = draw bits }) [] d {n = n} (ap (λ (o : Option ℕ). unless o (stroked d (stroke_of bits d))) q)
      ∙ sym (idle-meant bounded d background c bits idle)

  pub data-need : {why : Refusal} → (data_step f g b left p l).progress.outcome ≡ outcomes.Refused why
      → first_shortage s (own_commands at b) d ≡ need_meant (need_of (data_step f g b left p l).progress.frame g)
  unfolding data_step drawn_by unread_as read_as does closed frame_of
  data-need {why} e =
      by-test (sixel b) six
      (λ t. by-test (ends b) (λ u. absurd (ended t u)) (λ u. absurd (went t u)))
    where
      refusal : Reached → Type 0
      refusal t = t.progress.outcome ≡ outcomes.Refused why

      six : sixel b ≡ true → first_shortage s (own_commands at b) d ≡ need_meant (need_of (data_step f g b left p l).progress.frame g)
      six t =
          let range = sixel-range b t in
          let going : ends b ≡ false = unended b (omega (arith, range.0)) (omega (arith, range.1)) in
          let mine : own_commands at b ≡ (record { place = at; command = draw (b - 63) } ∷ []) =
          cond_no _ _ going ∙ ap (λ (x : Scanned). x.ended) (scan-sixel at none b t) in
          ap (λ (cs : List Placed). first_shortage s cs d) mine
          ∙ drawn-need (b - 63) refl (sixel-sized sound background bounded d.pen) (subst refusal (cond_yes _ _ t) e)
          ∙ ap (λ (x : Reached). need_meant (need_of x.progress.frame g)) (sym (cond_yes _ _ t))

      ended : sixel b ≡ false → ends b ≡ true → ⊥
      ended t u =
          let k : outcomes.Ended b ≡ outcomes.Refused why = subst refusal (cond_no _ _ t ∙ cond_yes _ _ u) e in
          let z : ◌≡◌ {A = ℕ} 0 1 = cc in
          omega arith

      went : sixel b ≡ false → ends b ≡ false → ⊥
      went t u =
          let k : outcomes.Read ≡ outcomes.Refused why = subst refusal (cond_no _ _ t ∙ cond_no _ _ u) e in
          let z : ◌≡◌ {A = ℕ} 0 1 = cc in
          omega arith

-- ---- a byte that ends the pending command

-- the commands that a byte ends or is, where it is neither skipped nor taken
byte-commands : (r : Reading) (b : ℕ) → skipped b ≡ false → taken r.begun b ≡ false
    → cond (ends b) (closed r.begun) (scan_byte r.passed r.begun b).ended ≡ closed r.begun ++ own_commands r.passed b
unfolding scan_byte taken
byte-commands r b unskipped untaken =
    by-test (ends b)
    (λ t. cond_yes _ _ t ∙ sym (append-nil (closed r.begun)) ∙ ap (λ (cs : List Placed). closed r.begun ++ cs) (sym (cond_yes _ _ t)))
    (λ t. cond_no _ _ t ∙ ap (λ (x : Scanned). x.ended) scans ∙ ap (λ (cs : List Placed). closed r.begun ++ cs) (sym (cond_no _ _ t ∙ alone)))
  where
    scans : scan_byte r.passed r.begun b ≡ after (closed r.begun) (own r.passed b [])
    scans = rw (unskipped, untaken) (own-after r.passed b (closed r.begun))

    alone : (scan_byte r.passed none b).ended ≡ (own r.passed b []).ended
    alone = rw unskipped

-- a begun command is one
closed-one : (k : Begun) → closed (some k) ≡ (record { place = k.place; command = argued k.kind k.argument } ∷ [])
unfolding closed
closed-one k = refl

-- what a command alone comes to
command-drawn : (s : Setting) (c : Placed) (d : Drawing) → (draw_all s (c ∷ []) d).refusal ≡ none
    → draw_command s c.command d ≡ drawn (draw_all s (c ∷ []) d).drawing
unfolding draw_all and_then
command-drawn s c d e = go (draw_command s c.command d) e
  where
    go : (x : Drawn) → (and_then d x (draw_all s [])).refusal ≡ none → x ≡ drawn (and_then d x (draw_all s [])).drawing
    go (drawn y) e = refl
    go (refused n) e = absurd (let z : ◌≡◌ {A = ℕ} 0 1 = cc in omega arith)

command-refused : (s : Setting) (c : Placed) (d : Drawing) {n : ℕ} → (draw_all s (c ∷ []) d).refusal ≡ some n → draw_command s c.command d ≡ refused n
unfolding draw_all and_then
command-refused s c d {n} e = go (draw_command s c.command d) e
  where
    go : (x : Drawn) → (and_then d x (draw_all s [])).refusal ≡ some n → x ≡ refused n
    go (drawn y) e = absurd (let z : ◌≡◌ {A = ℕ} 0 1 = cc in omega arith)
    go (refused m) e = ap refused (cc)

-- a command that ends and is refused leaves the frame
refused-frame : {s : Setting} {d : Drawing} {c : code_command.Command} {out : Drew} {e : Ended} {n : ℕ} → EndsAs s d c out e → out.refusal ≡ some n
    → e.progress.frame ≡ frame_of d c
unfolding refused_as unread_as
refused-frame (settles x follows same rates) q = absurd (let z : ◌≡◌ {A = ℕ} 0 1 = cc in omega arith)
refused-frame (refuses why k) q = refl

module _ {s : Setting} {opening : List ℕ} {r : Reading} {g : Ground} {f : Frame} {p : Palette} {l : List ℕ} (same : Same s opening r g f p l)
    {k : Begun} (has : r.begun ≡ some k) (b left : ℕ) (unskipped : skipped b ≡ false) (untaken' : taken r.begun b ≡ false) where
  abbrev pending : Placed
  pending = record { place = k.place; command = argued k.kind k.argument }

  abbrev d : Drawing
  d = r.drawing

  one : settled s r ≡ draw_all s (pending ∷ []) d
  unfolding settled
  one = ap (λ (o : Option Begun). draw_all s (closed o) d) has ∙ ap (λ (cs : List Placed). draw_all s cs d) (closed-one k)

  all-commands : byte_shortage s r b ≡ first_shortage s (pending ∷ own_commands r.passed b) d
  unfolding byte_shortage
  all-commands =
      ap (λ (cs : List Placed). first_shortage s cs d)
      (byte-commands r b unskipped untaken'
      ∙ ap (λ (cs : List Placed). cs ++ own_commands r.passed b) (ap closed has ∙ closed-one k))

  begun-as : SameBegun (some k) f.command
  begun-as = subst (λ (o : Option Begun). SameBegun o f.command) has same.begun

  -- the pending command is refused
  turned-need : {n : ℕ} → (settled s r).refusal ≡ some n → byte_shortage s r b ≡ need_meant (need_of (settled_step f g p l).progress.frame g)
  unfolding draw_all settled settled_step ended
  turned-need {n} e =
      all-commands
      ∙ first-refused s pending (own_commands r.passed b) d (command-refused s pending d (sym (ap (λ (x : Drew). x.refusal) one) ∙ e))
      ∙ same-fact (λ g f p l. command_shortage s pending.command d ≡ need_meant (need_of (settled_step f g p l).progress.frame g)) same.drawing canonical
    where
      ends_as : EndsAs s d f.command (draw_all s (closed r.begun) d) (ended (frame_of d f.command) (ground_of s d.background) d.palette)
      ends_as = pending-ends same.drawing.bounded same.drawing.sound d.background f.command r.begun same.begun

      canonical : command_shortage s pending.command d
          ≡ need_meant (need_of (settled_step (frame_of d f.command) (ground_of s d.background) d.palette (canvas_of s d opening)).progress.frame
          (ground_of s d.background))
      canonical =
          sym (pending-meant same.drawing.bounded d d.background f.command k begun-as)
          ∙ ap (λ (x : Frame). need_meant (need_of x (ground_of s d.background))) (sym (refused-frame ends_as e))

  -- it is carried out, and then the byte itself is judged
  settled-first : (settled s r).refusal ≡ none → byte_shortage s r b ≡ first_shortage s (own_commands r.passed b) (settled s r).drawing
  settled-first e =
      all-commands
      ∙ first-drawn s pending (own_commands r.passed b) d (command-drawn s pending d (sym (ap (λ (x : Drew). x.refusal) one) ∙ e))
      ∙ ap (λ (x : Drew). first_shortage s (own_commands r.passed b) x.drawing) (sym one)

-- ---- any byte

unread : {why : Refusal} → outcomes.Refused why ≡ outcomes.Read → ⊥
unread e = let z : ◌≡◌ {A = ℕ} 0 1 = cc in omega arith

-- where no command is pending, of any reading
pub rest-need : {s : Setting} {opening : List ℕ} {u : Reading} {g : Ground} {f : Frame} {p : Palette} {l : List ℕ} (at b left : ℕ) {why : Refusal}
    → Same s opening u g f p l → u.begun ≡ none → (data_step f g b left p l).progress.outcome ≡ outcomes.Refused why
    → first_shortage s (own_commands at b) u.drawing ≡ need_meant (need_of (data_step f g b left p l).progress.frame g)
rest-need {s} {opening} {u} {g} {f} {p} {l} at b left {why} same none-begun =
    same-fact
    (λ g f p l. (data_step f g b left p l).progress.outcome ≡ outcomes.Refused why
    → first_shortage s (own_commands at b) u.drawing ≡ need_meant (need_of (data_step f g b left p l).progress.frame g))
    same.drawing
    (data-need same.drawing.bounded same.drawing.sound f.command
    (subst (λ (o : Option Begun). SameBegun o f.command) none-begun same.begun)
    u.drawing.background
    u.drawing.palette
    (canvas_of s u.drawing opening)
    at
    b
    left)

-- a sixel that is read is consumed
drawn-once : (x : Result VisibleArea Refusal) (f : Frame) (g : Ground) (bits left : ℕ) (p : Palette) (l : List ℕ)
    → (drawn_in x f g bits left p l).progress.outcome ≡ outcomes.Read
    → (drawn_in x f g bits left p l).progress.consumed ≡ 1
unfolding drawn_in painted_on refused_as unread_as read_as
drawn-once (Err r) f g bits left p l e = absurd (let z : ◌≡◌ {A = ℕ} 0 1 = cc in omega arith)
drawn-once (Ok a) f g bits left p l e = by-test (ltb left (ones bits * f.pen.repeat)) (λ t. absurd (stopped (rw t at e))) (λ t. rw t)
  where
    stopped : outcomes.Stopped ≡ outcomes.Read → ⊥
    stopped k = let z : ◌≡◌ {A = ℕ} 0 1 = cc in omega arith

-- a byte that is read where no command is pending is consumed
data-once : (f : Frame) (g : Ground) (b left : ℕ) (p : Palette) (l : List ℕ) → (data_step f g b left p l).progress.outcome ≡ outcomes.Read
    → (data_step f g b left p l).progress.consumed ≡ 1
unfolding data_step drawn_by unread_as read_as
data-once f g b left p l e =
    by-test (sixel b) (λ t. rw t (six (sixel_area f.pen f.area g) (rw t at e)))
    (λ t. by-test (ends b) (λ u. absurd (ended (rw (t, u) at e))) (λ u. rw (t, u)))
  where
    ended : outcomes.Ended b ≡ outcomes.Read → ⊥
    ended k = let z : ◌≡◌ {A = ℕ} 0 1 = cc in omega arith

    six : (x : Result VisibleArea Refusal) → (drawn_in x f g (b - 63) left p l).progress.outcome ≡ outcomes.Read
        → (drawn_in x f g (b - 63) left p l).progress.consumed ≡ 1
    six x e = drawn-once x f g (b - 63) left p l e

module _ {s : Setting} {opening : List ℕ} {r : Reading} {g : Ground} {f : Frame} {p : Palette} {l : List ℕ} (same : Same s opening r g f p l)
    (b left : ℕ) {why : Refusal} (refusal : (byte_step f g b left p l).progress.outcome ≡ outcomes.Refused why) where
  -- what is to be shown, of where the byte led
  abbrev Needs : Reached → Type 0
  Needs t = byte_shortage s r b ≡ need_meant (need_of t.progress.frame g)

  -- no command is pending
  idle-need : r.begun ≡ none → Needs (byte_step f g b left p l)
  unfolding step_of step_in byte_shortage closed
  idle-need e =
      let kind : f.command.kind ≡ kinds.Data = subst (λ (o : Option Begun). SameBegun o f.command) e same.begun in
      let is : step_of f g b left p l ≡ data_step f g b left p l = ap (λ k. step_in k f g b left p l) kind in
      let all : byte_step f g b left p l ≡ data_step f g b left p l =
      byte-once f g b left p l
      (subst (λ (t : Reached). t.progress.outcome ≡ outcomes.Read → t.progress.consumed ≡ 1) (sym is) (data-once f g b left p l)) ∙ is in
      ap (λ (o : Option Begun). first_shortage s (cond (ends b) (closed o) (scan_byte r.passed o b).ended) r.drawing) e
      ∙ rest-need r.passed b left same e (subst (λ (t : Reached). t.progress.outcome ≡ outcomes.Refused why) all refusal)
      ∙ ap (λ (t : Reached). need_meant (need_of t.progress.frame g)) (sym all)

  module _ {k : Begun} (has : r.begun ≡ some k) where
    begun-is : SameBegun (some k) f.command
    begun-is = subst (λ (o : Option Begun). SameBegun o f.command) has same.begun

    of-begun : taken (some k) b ≡ false → taken r.begun b ≡ false
    of-begun e = ap (λ (o : Option Begun). taken o b) has ∙ e

    -- a byte of the argument is read
    read-on : (next : Frame) → step_of f g b left p l ≡ record { progress = read_as next 0; palette = p; canvas = l } → Needs (byte_step f g b left p l)
    unfolding read_as
    read-on next e =
        let once : byte_step f g b left p l ≡ record { progress = read_as next 0; palette = p; canvas = l } =
        byte-once f g b left p l (λ q. ap (λ (t : Reached). t.progress.consumed) e) ∙ e in
        let k : outcomes.Read ≡ outcomes.Refused why = sym (ap (λ (t : Reached). t.progress.outcome) once) ∙ refusal in
        absurd (let z : ◌≡◌ {A = ℕ} 0 1 = cc in omega arith)

    -- it ends the command
    settles-need : skipped b ≡ false → taken r.begun b ≡ false → step_of f g b left p l ≡ settled_step f g p l → Needs (byte_step f g b left p l)
    unfolding rested
    settles-need unskipped untaken' is = go (settle-agrees same) refl
      where
        go : {o : Option ℕ} → Settling s opening r g o (settled_step f g p l) → (settled s r).refusal ≡ o → Needs (byte_step f g b left p l)
        go (settling o unread after_same) q =
            let then : data_step (settled_step f g p l).progress.frame g b left (settled_step f g p l).palette (settled_step f g p l).canvas
            ≡ byte_step f g b left p l =
            byte-twice f g b left p l (sym is) o unread in
            settled-first same has b left unskipped untaken' q
            ∙ rest-need r.passed b left after_same refl (subst (λ (t : Reached). t.progress.outcome ≡ outcomes.Refused why) (sym then) refusal)
            ∙ ap (λ (t : Reached). need_meant (need_of t.progress.frame g)) then
        go (refusing w n o kept after_same) q =
            let once : byte_step f g b left p l ≡ settled_step f g p l =
            byte-once f g b left p l (λ e. absurd (unread (sym o ∙ ap (λ (t : Reached). t.progress.outcome) (sym is) ∙ e))) ∙ is in
            turned-need same has b left unskipped untaken' q ∙ ap (λ (t : Reached). need_meant (need_of t.progress.frame g)) (sym once)

  argument-need : {k : Begun} → r.begun ≡ some k → Needs (byte_step f g b left p l)
  unfolding argument_step
  argument-need {k} has =
      let is : step_of f g b left p l ≡ argument_step f g b p l = argument-step k f g b left p l (begun-is has) in
      by-test (digit b) (λ t. read-on has _ (is ∙ cond_yes _ _ t))
      (λ t. by-test (skipped b) (λ u. read-on has _ (is ∙ cond_no _ _ t ∙ cond_yes _ _ u))
      (λ u. by-test (eqb b semicolon && takes_semicolon f.command.kind) (λ v. read-on has _ (is ∙ cond_no _ _ t ∙ cond_no _ _ u ∙ cond_yes _ _ v))
      (λ v. settles-need has u (of-begun has (untaken k f.command b (begun-is has) t v)) (is ∙ cond_no _ _ t ∙ cond_no _ _ u ∙ cond_no _ _ v))))

-- what a refused byte needed
pub byte-need : {s : Setting} {opening : List ℕ} {r : Reading} {g : Ground} {f : Frame} {p : Palette} {l : List ℕ} → Same s opening r g f p l
    → (b left : ℕ) {why : Refusal} → (byte_step f g b left p l).progress.outcome ≡ outcomes.Refused why
    → byte_shortage s r b ≡ need_meant (need_of (byte_step f g b left p l).progress.frame g)
byte-need {s} {r = r} {g} {f} {p} {l} same b left e = go r.begun refl
  where
    go : (o : Option Begun) → r.begun ≡ o → byte_shortage s r b ≡ need_meant (need_of (byte_step f g b left p l).progress.frame g)
    go none q = idle-need same b left e q
    go (some k) q = argument-need same b left e q
