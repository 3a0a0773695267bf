-- The three demands on a reader, in the definition's own terms. A reader is met as its caller meets it: by what the caller holds between
-- its calls (`H`: a session and its canvas, by value or in the caller's memory), its feed, the canvas among what is held, and its finish.
-- `E` is how its stream can end.
use Rattle.std.specs.Prelude.{ℕ, ◌+◌, ◌-◌, ◌*◌, ◌/◌, ◌≤◌, ◌<◌, Bool, true, false, ◌&&◌, ◌||◌, List, [], ◌∷◌, ◌↔◌, ◌≡◌, leb, length, take}
use Rattle.std.proofs.Math.Option.{Option, some}
use Rattle.colours.specs.declared.Palette.{Palette}
use Rattle.meaning.specs.Commands.{body, end_of}
use Rattle.meaning.specs.Drawing.{Setting}
use Rattle.meaning.specs.Payload.{Parameters, payload, drawn_so_far, payload_ink, Finished, finished, turned_down, finish}
use Rattle.meaning.specs.Reader.{stopped, refused_by, is_refused, Turn, stream, pieces, Caller, ready}
use Rattle.meaning.specs.Sessions.{End}
use Rattle.meaning.specs.Sequence.{sequence_payload, sequence_end, sequence_consumed, sequence_refusal, sequence_drawn, sequence_finish, sequence_ink}
use Rattle.meaning.specs.Calls.{needs_more, stopped_for_ink, ended, at_end, Answer, told, refused, shown, drawing_found}
use Rattle.meaning.specs.Callers.{Ask, Feed, Past, fed_all, calls_of, last_status}

-- ---- finishing

-- what a finish leaves: its answer, the owner's palette and the canvas
pub record Concluded : Type 0 where
  pub answer : Finished
  pub palette : Palette
  pub canvas : List ℕ

-- rules 1.8, 5.7: a report: its palette is the owner's now, and the canvas shows the picture; a refusal: the owner's palette and
-- the canvas are as they were
unfoldable pub concluded : List ℕ → Palette → List ℕ → Finished → Concluded
concluded picture owner canvas (finished r) = record { answer = finished r; palette = r.palette; canvas = picture }
concluded picture owner canvas (turned_down n) = record { answer = turned_down n; palette = owner; canvas = canvas }

-- rule 1.8: an abort commits nothing: the owner's palette is as it was
unfoldable pub aborted : Palette → Palette
aborted owner = owner

-- ---- what a stream means

-- the refusal that reading it comes to; else the end, if it has come, and the bytes consumed; the ink of all that it draws, before
-- a refusal too; the canvas once it is read; the canvas with the pending command carried out too; and what finishing it answers
pub record Whole (E : Type 0) : Type 0 where
  pub refusal : Option ℕ
  pub end : Option E
  pub consumed : ℕ
  pub ink : ℕ
  pub shown : List ℕ
  pub settled : List ℕ
  pub finish : Finished

-- of a payload session, on a canvas that had these bytes at the opening
unfoldable pub payload_whole : Setting → Parameters → Palette → List ℕ → List ℕ → Whole ℕ
payload_whole s o p opening bs =
    record {
      refusal = (drawn_so_far s o p bs).refusal;
      end = end_of bs;
      consumed = length (body bs);
      ink = payload_ink s o p bs;
      shown = shown s.stride (some (drawn_so_far s o p bs).drawing) opening;
      settled = shown s.stride (some (payload s o p bs).drawing) opening;
      finish = finish o (payload s o p bs);
    }

-- of a DCS session
unfoldable pub sequence_whole : Setting → Palette → List ℕ → List ℕ → Whole End
sequence_whole s p opening bs =
    record {
      refusal = sequence_refusal s p bs;
      end = sequence_end bs;
      consumed = sequence_consumed bs;
      ink = sequence_ink s p bs;
      shown = shown s.stride (sequence_drawn s p bs) opening;
      settled = shown s.stride (drawing_found s p (sequence_payload bs)) opening;
      finish = sequence_finish s p bs;
    }

-- ---- the demands

-- Demand 1. The definition has a feed too, over what stands for its session (`M`), and says what the canvas shows then, what a finish
-- answers, and what the canvas shows after it.
module _ {H M E : Type 0} (feed : Feed H (Answer E)) (canvas : H → List ℕ) (finish : H → Palette → Concluded)
    (feed_meant : Feed M (Answer E)) (shows settles : M → List ℕ) (finish_meant : M → Finished) (h : H) (m : M) (cs : List Ask) where
  -- after any calls, with any bytes and allowances
  abbrev pub past : Past H (Answer E)
  past = fed_all feed h cs

  abbrev pub past_meant : Past M (Answer E)
  past_meant = fed_all feed_meant m cs

  -- each answer is the definition's, the canvas shows what the definition's session has drawn, and a finish then is the definition's
  pub record DemandOne : Type 0 where
    pub answers : past.answers ≡ past_meant.answers
    pub canvas-shows : canvas past.state ≡ shows past_meant.state
    pub finishes : (owner : Palette)
        → finish past.state owner ≡ concluded (settles past_meant.state) owner (canvas past.state) (finish_meant past_meant.state)

-- Demands 2 and 3. The caller presents what was left unread first (`calls_of`).
module _ {H E : Type 0} (feed : Feed H (Answer E)) (h : H) (ts : List Turn) where
  abbrev pub now : Caller H
  now = calls_of feed (ready h) ts

  -- the last call has not stopped, and so all that was presented has been read, up to an end or a refusal
  abbrev pub AllRead : Type 0
  AllRead = now.how ≡ stopped → ⊥

  -- nor has it been refused
  abbrev pub Through : Type 0
  Through = AllRead × (is_refused now.how ≡ false)

-- Rule 6.7. However the stream is split. A refusal is given exactly when reading the whole comes to it; else the status told last,
-- the bytes consumed in all and the finish are the whole's. So is the canvas; after a stop it shows what the bytes consumed draw,
-- the command before the unread sixel with them.
pub record DemandTwo {H E : Type 0} (feed : Feed H (Answer E)) (canvas : H → List ℕ) (finish : H → Palette → Concluded)
    (meant : List ℕ → Whole E) (h : H) (ts : List Turn) : Type 0 where
  pub refusal : AllRead feed h ts → (n : ℕ) → ((now feed h ts).how ≡ refused_by n) ↔ ((meant (stream ts)).refusal ≡ some n)
  pub status : Through feed h ts → last_status feed needs_more (ready h) ts ≡ at_end (meant (stream ts)).end
  pub consumed : Through feed h ts → (now feed h ts).consumed ≡ (meant (stream ts)).consumed
  pub canvas-read : AllRead feed h ts → canvas (now feed h ts).state ≡ (meant (stream ts)).shown
  pub canvas-stopped : (now feed h ts).how ≡ stopped
      → canvas (now feed h ts).state ≡ (meant (take (now feed h ts).consumed (stream ts))).settled
  pub finishes : Through feed h ts → (owner : Palette)
      → finish (now feed h ts).state owner
      ≡ concluded (meant (stream ts)).settled owner (canvas (now feed h ts).state) (meant (stream ts)).finish

-- Rule 6.8. The calls are at most the pieces and I / (A - 6W + 1), rounded down, where A is the smallest allowance and I the ink
-- that the definition draws; and with no refusal the ink told adds up to I.
pub record DemandThree {H E : Type 0} (feed : Feed H (Answer E)) (meant : List ℕ → Whole E) (W A : ℕ) (h : H) (ts : List Turn) : Type 0 where
  pub calls : length ts ≤ pieces ts + (meant (stream ts)).ink / (A - 6 * W + 1)
  pub ink : Through feed h ts → (now feed h ts).ink ≡ (meant (stream ts)).ink

-- ---- the refusals that come first, after any calls

-- an answer that fails the session: a refusal by 1 to 7
unfoldable pub fails : {E : Type 0} → Answer E → Bool
fails (told consumed ink status) = false
fails (refused n) = leb 1 n && leb n 7

-- one of the answers did
unfoldable pub have_failed : {E : Type 0} → List (Answer E) → Bool
unfolding fails
have_failed [] = false
have_failed (x ∷ xs) = fails x || have_failed xs

-- an answer that tells an end
unfoldable pub tells_end : {E : Type 0} → Answer E → Bool
tells_end (told consumed ink needs_more) = false
tells_end (told consumed ink stopped_for_ink) = false
tells_end (told consumed ink (ended e)) = true
tells_end (refused n) = false

-- one of the answers did
unfoldable pub have_ended : {E : Type 0} → List (Answer E) → Bool
unfolding tells_end
have_ended [] = false
have_ended (x ∷ xs) = tells_end x || have_ended xs

-- The caller lends any canvas after its calls: `lend` puts it in the place of the one that it holds. `size` is the length at the opening.
module _ {H E : Type 0} (feed : Feed H (Answer E)) (lend : H → List ℕ → H) (size : ℕ) (h : H) (cs : List Ask) (lent : List ℕ) where
  abbrev pub held : H
  held = lend (fed_all feed h cs).state lent

  -- no answer was a refusal by 1 to 7
  abbrev pub Live : Type 0
  Live = have_failed (fed_all feed h cs).answers ≡ false

  abbrev pub Fits : Type 0
  Fits = length lent ≡ size

  -- Feed 9, 12, 13, each exactly when rule 5.1 says; and all is left as it was.
  pub record FeedRefusals (W : ℕ) (bs : List ℕ) (a : ℕ) : Type 0 where
    pub nine : ((feed held bs a).1 ≡ refused 9) ↔ (have_failed (fed_all feed h cs).answers ≡ true)
    pub twelve : ((feed held bs a).1 ≡ refused 12) ↔ (Live × ¬ Fits)
    pub thirteen : ((feed held bs a).1 ≡ refused 13) ↔ (Live × Fits × (a < 6 * W))
    pub keeps : (n : ℕ) → 8 ≤ n → (feed held bs a).1 ≡ refused n → (feed held bs a).0 ≡ held

  -- Finish 9, 12; and whatever refuses it, the owner's palette and the canvas are as they were.
  pub record FinishRefusals (finish : H → Palette → Concluded) (owner : Palette) : Type 0 where
    pub nine : ((finish held owner).answer ≡ turned_down 9) ↔ (have_failed (fed_all feed h cs).answers ≡ true)
    pub twelve : ((finish held owner).answer ≡ turned_down 12) ↔ (Live × ¬ Fits)
    pub keeps : (n : ℕ) → (finish held owner).answer ≡ turned_down n
        → ((finish held owner).palette ≡ owner) × ((finish held owner).canvas ≡ lent)

  -- And of a DCS session then 8: no answer has told an end.
  abbrev pub FinishedEarly : (H → Palette → Concluded) → Palette → Type 0
  FinishedEarly finish owner = ((finish held owner).answer ≡ turned_down 8) ↔ (Live × Fits × (have_ended (fed_all feed h cs).answers ≡ false))
