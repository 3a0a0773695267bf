-- Feeds of a part, piece by piece: what is left to read, and what one feed comes to.
use Rattle.std.specs.Prelude.{◌≡◌, ℕ, ◌+◌, ◌-◌, ◌*◌, ◌<◌, ◌≤◌, Bool, true, false, cond, eqb, leb, List, [], ◌++◌, length, take, drop, Ok}
use mathlib.Core.Path.{refl, sym, ap, subst, ◌∙◌}
use native.Mathlib.Omega.{arith}
use borrow.Author.Tests.{leb-false, eqb-false}
use lib.ListN.{length-drop, take-append-drop}
use lib.Seq.{drop-drop, take_all, length-take-le, drop-append-le, drop-length}
use Rattle.numbers.proofs.Laws.{cond_no}
use Rattle.meaning.specs.Callers.{how_told, consumed_told}
use Rattle.meaning.specs.Drawing.{Setting}
use Rattle.meaning.specs.Reader.{read_all, stopped, halted, is_refused, Run, still, after, read_from, call}
use Rattle.meaning.specs.Sessions.{Reading, rested, payload_step}
use Rattle.meaning.proofs.CallLaws.{onward, call-consumed, call-reads, call-plain, call-onward}
use Rattle.meaning.proofs.Demand3.{payload-rests, payload-halts}
use Rattle.meaning.proofs.RunLaws.{after-zero, after-after, ended-prefix}
use Rattle.payload.specs.Results.{Answer, Fed}
use Rattle.payload.specs.declared.Answer as counts
use Rattle.payload.specs.declared.Answer.TheVariants as answers
use Rattle.payload.specs.declared.Session.{Session}
use Rattle.payload.specs.History.{Stands}
use Rattle.payload.specs.Meant.{answer_meant}
use Rattle.payload.specs.Session.{fed_by}
use Rattle.oneshot.specs.OneShot.{piece_end}
use Rattle.oneshot.proofs.StandLaws.{session_in, Lives, Ran, read-on, stopped-on, ran, stop-consumes}

-- ---- an answer

pub answered : {a : Answer} {x y : counts.Answer ℕ} → a ≡ Ok x → x ≡ y → a ≡ Ok y
answered e k = e ∙ ap Ok k

-- ---- where a piece ends

-- from its place on and within all, and not empty where something is left
pub record Piece (at end size : ℕ) : Type 0 where
  pub from : at ≤ end
  pub to : end ≤ size
  pub filled : at < size → at < end

pub piece-end : {at size end : ℕ} (chunk : ℕ) → at ≤ size → end ≡ piece_end at size chunk → Piece at end size
unfolding piece_end
piece-end {at} {size} chunk h e = subst (λ (n : ℕ). Piece at n size) (sym e) (go (eqb chunk 0) refl (leb (size - at) chunk) refl)
  where
    go : (none : Bool) → eqb chunk 0 ≡ none → (last : Bool) → leb (size - at) chunk ≡ last
        → Piece at (cond none size (cond last size (at + chunk))) size
    go true z last y = record { from = h; to = omega arith; filled = λ n. n }
    go false z true y = record { from = h; to = omega arith; filled = λ n. n }
    go false z false y =
        record {
          from = omega arith;
          to = omega (arith, h, leb-false (size - at) chunk y);
          filled = λ n. omega (arith, eqb-false chunk 0 z);
        }

-- the rest of a slice is the rest of its list
pub rest_all : (part : List ℕ) (at : ℕ) → take (length part - at) (drop at part) ≡ drop at part
rest_all part at = take_all (length part - at) (drop at part) (rw (length-drop at part) (omega arith))

-- ---- what is left of a part

-- reading a part from a state on is reading what is left of it from another, after some bytes and ink
pub record Left (opening part : List ℕ) (t : Setting) (first : Reading) (l : List ℕ) (s : Session) (at : ℕ) : Type 0 where
  pub state : Reading
  pub lives : Lives opening t state s l
  pub consumed : ℕ
  pub ink : ℕ
  pub reads : read_from (payload_step t) first part ≡ after consumed ink (read_from (payload_step t) state (drop at part))

-- a loop over a part, with an allowance: whatever the first session and canvas stand for
pub record Midway (a : ℕ) (s₀ : Session) (l₀ part l : List ℕ) (s : Session) (at : ℕ) : Type 0 where
  pub within : at ≤ length part
  pub kept : length l ≡ length l₀
  pub left : {opening : List ℕ} {t : Setting} {first : Reading}
      → Lives opening t first s₀ l₀ → 6 * t.limits.width ≤ a → Left opening part t first l s at

pub midway_start : (a : ℕ) (s : Session) (l part : List ℕ) → Midway a s l part l s 0
midway_start a s l part =
    record {
      within = omega arith;
      kept = refl;
      left = λ {opening} {t} {first} h enough.
          record { state = first; lives = h; consumed = 0; ink = 0; reads = sym (after-zero _) };
    }

-- a session and its canvas stand for what a reading that was not refused came to
pub record Came (opening : List ℕ) (t : Setting) (q : Run Reading) (s : Session) (l : List ℕ) : Type 0 where
  pub fine : is_refused q.how ≡ false
  pub stands : Stands opening s l (session_in opening t q.state false)

-- where nothing is left, the session has come to what reading the part comes to
pub came-all : {opening part : List ℕ} {t : Setting} {first : Reading} {l : List ℕ} {s : Session} {at : ℕ}
    → Left opening part t first l s at → at ≡ length part
    → Came opening t (read_from (payload_step t) first part) s l
unfolding read_from still after is_refused
came-all {opening} {part} {t} {first} {l} {s} {at} k e =
    let all : drop at part ≡ [] = ap (λ (n : ℕ). drop n part) e ∙ drop-length part in
    let from-here : List ℕ → Run Reading = λ us. after k.consumed k.ink (read_from (payload_step t) k.state us) in
    subst (λ (q : Run Reading). Came opening t q s l) (sym (k.reads ∙ ap from-here all))
    (record { fine = refl; stands = k.lives.stands })

-- ---- one feed

module _ {opening part : List ℕ} {t : Setting} {first : Reading} {l : List ℕ} {s : Session} {at : ℕ}
    (k : Left opening part t first l s at) {a : ℕ} (enough : 6 * t.limits.width ≤ a)
    {end : ℕ} (g : Piece at end (length part))
    {x : Fed} {l₁ : List ℕ} (e : (x, l₁) ≡ fed_by s l (take (end - at) (drop at part)) a) where
  -- the piece and what comes after it
  abbrev piece : List ℕ
  piece = take (end - at) (drop at part)

  abbrev later : List ℕ
  later = drop (end - at) (drop at part)

  -- the definition's call
  abbrev pub run : Run Reading
  run = call (payload_step t) (rested t) a k.state piece

  pub feeds : Ran opening t run x l₁
  feeds = ran k.lives enough piece e

  split : piece ++ later ≡ drop at part
  split = take-append-drop (end - at) (drop at part)

  long : length piece ≡ end - at
  long = length-take-le (end - at) (drop at part) (rw (length-drop at part) (omega (arith, g.from, g.to)))

  consumes : run.consumed ≤ length piece
  consumes = call-consumed (payload_step t) (rested t) a k.state piece

  -- what a call that was not refused left is read next
  reads_on : is_refused run.how ≡ false
      → read_from (payload_step t) k.state (drop at part)
      ≡ after run.consumed run.ink (read_from (payload_step t) run.state (drop (at + run.consumed) part))
  unfolding onward
  reads_on fine =
      ap (read_from (payload_step t) k.state) (sym split)
      ∙ call-onward (payload_step t) (rested t) (payload-rests t) (payload-halts t) a k.state piece later
      ∙ cond_no _ _ fine
      ∙ ap (λ (us : List ℕ). after run.consumed run.ink (read_from (payload_step t) run.state us))
      (sym (drop-append-le run.consumed piece later consumes) ∙ ap (drop run.consumed) split ∙ drop-drop run.consumed at part)

  -- the session stands for what the call left
  pub ran-stands : {f : Bool} → is_refused run.how ≡ f → Stands opening x.session l₁ (session_in opening t run.state f)
  ran-stands h = subst (λ (f : Bool). Stands opening x.session l₁ (session_in opening t run.state f)) h feeds.stands

  module _ {n : ℕ} (fine : is_refused run.how ≡ false) (on : run.how ≡ halted → ⊥)
      (c : consumed_told (answer_meant x.answer) ≡ n) where
    count : run.consumed ≡ n
    count = sym (feeds.consumed fine) ∙ c

    left-on : Left opening part t first l₁ x.session (at + n)
    left-on =
        record {
          state = run.state;
          lives = record { stands = ran-stands fine; going = λ o. on (feeds.over o fine) };
          consumed = k.consumed + run.consumed;
          ink = k.ink + run.ink;
          reads =
              k.reads
              ∙ ap (after k.consumed k.ink) (reads_on fine)
              ∙ sym (after-after k.consumed k.ink run.consumed run.ink _)
              ∙ ap (λ (c : ℕ). after (k.consumed + run.consumed) (k.ink + run.ink)
              (read_from (payload_step t) run.state (drop (at + c) part))) count;
        }

    on-within : n ≤ end - at
    on-within = omega (arith, count, consumes, long)

  -- a stop
  module _ {n i : ℕ} (told : x.answer ≡ Ok (answers.Stopped n i)) where
    is_stop : run.how ≡ stopped
    unfolding how_told answer_meant
    is_stop = sym feeds.how ∙ ap (λ (b : Answer). how_told (answer_meant b)) told

    stop-told : consumed_told (answer_meant x.answer) ≡ n
    unfolding consumed_told answer_meant
    stop-told = ap (λ (b : Answer). consumed_told (answer_meant b)) told

    stop-fine : is_refused run.how ≡ false
    unfolding is_refused
    stop-fine = ap is_refused is_stop

    pub stop-more : 0 < n
    stop-more =
        subst (λ (c : ℕ). 0 < c) (count stop-fine (stopped-on is_stop) stop-told)
        (stop-consumes k.lives enough piece is_stop)

    pub stop-within : n ≤ end - at
    stop-within = on-within stop-fine (stopped-on is_stop) stop-told

    pub stop-left : Left opening part t first l₁ x.session (at + n)
    stop-left = left-on stop-fine (stopped-on is_stop) stop-told

  -- a piece that was all read
  module _ {n i : ℕ} (told : x.answer ≡ Ok (answers.More n i)) where
    is_read : run.how ≡ read_all
    unfolding how_told answer_meant
    is_read = sym feeds.how ∙ ap (λ (b : Answer). how_told (answer_meant b)) told

    read_told_lem : consumed_told (answer_meant x.answer) ≡ n
    unfolding consumed_told answer_meant
    read_told_lem = ap (λ (b : Answer). consumed_told (answer_meant b)) told

    read-fine : is_refused run.how ≡ false
    unfolding is_refused
    read-fine = ap is_refused is_read

    pub read_whole_lem : n ≡ end - at
    read_whole_lem =
        sym (count read-fine (read-on is_read) read_told_lem)
        ∙ call-reads (payload_step t) (rested t) a k.state piece is_read
        ∙ long

    pub read_left : Left opening part t first l₁ x.session (at + n)
    read_left = left-on read-fine (read-on is_read) read_told_lem

  -- an end or a refusal is that of the whole part
  pub whole : (run.how ≡ stopped → ⊥) → (run.how ≡ read_all → ⊥)
      → read_from (payload_step t) first part ≡ after k.consumed k.ink run
  whole going ended =
      let plain : read_from (payload_step t) k.state piece ≡ run = call-plain (payload_step t) (rested t) a k.state piece going in
      k.reads
      ∙ ap (after k.consumed k.ink)
      (ap (read_from (payload_step t) k.state) (sym split)
      ∙ ended-prefix (payload_step t) k.state piece later (λ z. ended (sym (ap (λ (q : Run Reading). q.how) plain) ∙ z))
      ∙ plain)

  pub came-end : how_told (answer_meant x.answer) ≡ halted
      → Came opening t (read_from (payload_step t) first part) x.session l₁
  unfolding after is_refused
  came-end told =
      let h : run.how ≡ halted = sym feeds.how ∙ told in
      subst (λ (q : Run Reading). Came opening t q x.session l₁) (sym (whole (λ z. stopped-on z h) (λ z. read-on z h)))
      (record { fine = ap is_refused h; stands = ran-stands (ap is_refused h) })
