-- A reader over the caller's memory is alike the reader by value: the numbers that it answers say the same, and the memory holds the session.
use Rattle.std.specs.Prelude.{Ok, Err, Some, None}
use Prim.Native.Nat.{ℕ, zero, suc}
use mathlib.Core.Bool.{Bool, true, false, cond}
use mathlib.Core.List.{List, [], ◌∷◌, ◌++◌}
use mathlib.Core.Path.{◌≡◌, refl, sym, ap, ap₂, ◌∙◌, subst}
use lib.Dec.{eqb}
use lib.ListN.{drop}
use Rattle.numbers.proofs.Laws.{cond_no}
use Rattle.canvas.specs.Picture.{area_of}
use Rattle.colours.specs.declared.Palette.{Palette}
use Rattle.colours.specs.Palette.{of_table}
use Rattle.frame.specs.Numbers.{number_of}
use Rattle.frame.specs.declared.Refusal.{Refusal}
use Rattle.frame.specs.declared.Refusal.TheVariants.{Introducer, HeaderEnded, HeaderByte, Repeat, Size, Pixels, Room, Unfinished, Failed, FinalSize, Opening, Canvas, Allowance, Buffer}
use Rattle.meaning.specs.Calls as calls
use Rattle.meaning.specs.Callers.{Feed}
use Rattle.meaning.specs.Demands.{Concluded}
use Rattle.meaning.specs.Payload as meant
use Rattle.payload.specs.Results as payload_answer
use Rattle.payload.specs.declared.Answer.TheVariants as payload_answers
use Rattle.payload.specs.declared.Finished.{Finished}
use Rattle.payload.specs.Results.{Finishing}
use Rattle.payload.specs.declared.Ratio.{Ratio}
use Rattle.payload.specs.declared.Ratio.TheVariants as ratios
use Rattle.payload.specs.declared.Session as payload_session
use Rattle.payload.specs.History as payload
use Rattle.payload.specs.Meant as payload_meant
use Rattle.payload.specs.Session as payload_calls
use Rattle.dcs.specs.Results as dcs_answer
use Rattle.dcs.specs.declared.Ending.TheVariants as endings
use Rattle.dcs.specs.declared.Session as dcs_session
use Rattle.dcs.specs.History as dcs
use Rattle.dcs.specs.Meant as dcs_meant
use Rattle.dcs.specs.Session as dcs_calls
use Rattle.dcs.proofs.SessionRanges.{Bytes}
use Rattle.payload.specs.Meant.{finish_meant}
use Rattle.owlgantry.specs.Reading.{given_kind, given_number, ratio_kind, ratio_number, report_numbers, refusal_number}
use Rattle.owlgantry.specs.Sessions.{number_or_zero, payload_report, ending_kind, ending_byte, dcs_report, finish_report, payload_fed_as, payload_fed, finished_as, payload_finished, dcs_fed_as, dcs_fed, dcs_finished}
use Rattle.owlgantry.proofs.SessionLaws.{PayloadHeld, payload-feeds, payload-feeds-on, payload-finishes, DcsHeld, dcs-feeds, dcs-feeds-on, dcs-finishes}
use Rattle.promises.specs.Readers.{concluded_by, payload_feed, payload_canvas, payload_finish, payload_lend, dcs_feed, dcs_canvas, dcs_finish, dcs_lend, Memory, status_from, payload_end_from, dcs_end_from, answer_from, ratio_from, finished_from, Told, memory_after, memory_concluded, payload_memory_feed, payload_memory_finish, dcs_memory_feed, dcs_memory_finish, memory_canvas, memory_lend}
use Rattle.promises.proofs.Alike.{AlikeReaders, AlikeLent}

-- ---- what the numbers say

-- no refusal has the number 0
refusal-some : (n : Refusal) → eqb (number_of n) 0 ≡ false
unfolding number_of
refusal-some Introducer = refl
refusal-some HeaderEnded = refl
refusal-some HeaderByte = refl
refusal-some Repeat = refl
refusal-some Size = refl
refusal-some Pixels = refl
refusal-some Room = refl
refusal-some Unfinished = refl
refusal-some Failed = refl
refusal-some FinalSize = refl
refusal-some Opening = refl
refusal-some Canvas = refl
refusal-some Allowance = refl
refusal-some Buffer = refl

-- the numbers of a feed's answer say what it means
pub payload-told : (x : payload_answer.Answer) → answer_from payload_end_from (number_or_zero x) (payload_report x) ≡ payload_meant.answer_meant x
unfolding answer_from status_from payload_end_from number_or_zero payload_report payload_meant.answer_meant
payload-told (Ok (payload_answers.More n i)) = refl
payload-told (Ok (payload_answers.Stopped n i)) = refl
payload-told (Ok (payload_answers.Ended n i b)) = refl
payload-told (Err r) = cond_no _ _ (refusal-some r)

pub dcs-told : (x : dcs_answer.Answer) → answer_from dcs_end_from (number_or_zero x) (dcs_report x) ≡ dcs_meant.answer_meant x
unfolding answer_from status_from dcs_end_from number_or_zero dcs_report ending_kind ending_byte dcs_meant.answer_meant dcs_meant.end_meant
dcs-told (Ok (payload_answers.More n i)) = refl
dcs-told (Ok (payload_answers.Stopped n i)) = refl
dcs-told (Ok (payload_answers.Ended n i endings.Complete)) = refl
dcs-told (Ok (payload_answers.Ended n i (endings.Cancelled b))) = refl
dcs-told (Ok (payload_answers.Ended n i (endings.Interrupted b))) = refl
dcs-told (Err r) = cond_no _ _ (refusal-some r)

-- so do a ratio's
ratio-told : (r : Ratio) → ratio_from (ratio_kind (payload_meant.ratio_meant r)) (ratio_number (payload_meant.ratio_meant r)) ≡ payload_meant.ratio_meant r
unfolding ratio_from ratio_kind ratio_number given_kind given_number payload_meant.ratio_meant payload_meant.given_meant
ratio-told (ratios.Raster n) = refl
ratio-told (ratios.LeftToP1 None) = refl
ratio-told (ratios.LeftToP1 (Some n)) = refl

-- a background's
clear_told : (b : Bool) → eqb (cond b 1 0) 1 ≡ b
clear_told true = refl
clear_told false = refl

-- and those of a finish
pub finish-told : (y : Finishing) (p : Palette)
    → finished_from (refusal_number (finish_meant y p)) (finish_report (finish_meant y p)) p ≡ finish_meant y p
unfolding finished_from refusal_number finish_report report_numbers finish_meant payload_meant.report_meant
finish-told (Ok r) p =
    ap₂
    (λ (ratio : meant.Ratio) (clear : Bool).
    meant.finished
    (record {
      size = area_of r.width r.height;
      ratio = ratio;
      clear = clear;
      extent = area_of r.right r.bottom;
      defined = r.defined;
      declared = area_of r.declared_width r.declared_height;
      held = r.held;
      palette = p;
    }))
    (ratio-told r.ratio) (clear_told r.transparent)
finish-told (Err n) p = cond_no _ _ (refusal-some n)

concluded-told : (x : Finished × List ℕ) → memory_concluded (finished_as x) ≡ concluded_by x
unfolding memory_concluded finished_as concluded_by of_table
concluded-told x =
    ap (λ (z : meant.Finished). record { answer = z; palette = x.0.palette; canvas = x.1 }) (finish-told x.0.answer x.0.palette)

-- ---- a memory that holds a session

-- and its canvas
abbrev pub InMemory : {S : Type 0} → (S → List ℕ → List ℕ → Type 0) → S × List ℕ → Memory → Type 0
InMemory Held h m = Held h.0 m.numbers m.registers × (m.canvas ≡ h.1)

-- what a feed over the numbers, registers and a canvas comes to
pub record FedAlike {S E : Type 0} (Held : S → List ℕ → List ℕ → Type 0) (end_from : ℕ → ℕ → E) (x : Told) (y : (S × List ℕ) × calls.Answer E) : Type 0 where
  pub answer : answer_from end_from x.0 x.4 ≡ y.1
  pub held : Held y.0.0 x.1 x.2
  pub canvas : x.3 ≡ y.0.1

-- any reader of sessions that are so held
module _ {S E : Type 0} (Held : S → List ℕ → List ℕ → Type 0) (Good : List ℕ → Type 0) (end_from : ℕ → ℕ → E)
    (feed : Feed (S × List ℕ) (calls.Answer E)) (fed : List ℕ → List ℕ → List ℕ → List ℕ → ℕ → Told)
    (finish : S × List ℕ → Palette → Concluded) (finished : List ℕ → List ℕ → List ℕ → List ℕ → Told)
    (one : (s : S) (ns ts : List ℕ) → Held s ns ts → (canvas bs : List ℕ) → Good bs → (a : ℕ)
    → FedAlike Held end_from (fed ns ts canvas bs a) (feed (s, canvas) bs a))
    (last : (s : S) (ns ts : List ℕ) → Held s ns ts → (canvas : List ℕ) (owner : Palette)
    → memory_concluded (finished ns ts owner.colors canvas) ≡ finish (s, canvas) owner)
    (good-nil : Good []) (good-append : (bs cs : List ℕ) → Good bs → Good cs → Good (bs ++ cs))
    (good-drop : (n : ℕ) (bs : List ℕ) → Good bs → Good (drop n bs)) where
  abbrev feed_there : Feed Memory (calls.Answer E)
  feed_there m bs a =
      let x : Told = fed m.numbers m.registers m.canvas bs a in (memory_after x, answer_from end_from x.0 x.4)

  abbrev finish_there : Memory → Palette → Concluded
  finish_there m owner = memory_concluded (finished m.numbers m.registers owner.colors m.canvas)

  pub in_memory : AlikeReaders feed feed_there (λ h. h.1) memory_canvas finish finish_there (InMemory Held) Good
  unfolding memory_after
  in_memory =
      record {
        fed = λ {h} {k = m} l bs good a.
            let there : Told = fed m.numbers m.registers m.canvas bs a in
            let x : FedAlike Held end_from there (feed h bs a) =
            subst (λ (c : List ℕ). FedAlike Held end_from there (feed (h.0, c) bs a)) l.1
            (one h.0 m.numbers m.registers l.0 m.canvas bs good a) in
            (x.answer, (x.held, x.canvas));
        canvas = λ l. l.1;
        finished = λ {h} {k = m} l owner.
            last h.0 m.numbers m.registers l.0 m.canvas owner ∙ ap (λ (c : List ℕ). finish (h.0, c) owner) l.1;
        good-nil = good-nil;
        good-append = λ {bs} {cs} h k. good-append bs cs h k;
        good-drop = λ n {bs} h. good-drop n bs h;
      }

-- where the session says what the memory holds
module _ {S : Type 0} (Held : S → List ℕ → List ℕ → Type 0)
    (known : (s : S) (ns ts ns' ts' : List ℕ) → Held s ns ts → Held s ns' ts' → (ns ≡ ns') × (ts ≡ ts')) where
  pub lent-memory : AlikeLent {H = S × List ℕ} (λ h lent. (h.0, lent)) memory_lend (InMemory Held)
  lent-memory =
      record {
        lent = λ l canvas. (l.0, refl);
        known = λ {h} {k = m} {k' = m'} l l'.
            let same = known h.0 m.numbers m.registers m'.numbers m'.registers l.0 l'.0 in
            ap₂ (λ (ns ts : List ℕ). record { numbers = ns; registers = ts; canvas = m.canvas }) same.0 same.1
            ∙ ap (λ (c : List ℕ). record { numbers = m'.numbers; registers = m'.registers; canvas = c }) (l.1 ∙ sym l'.1);
      }

-- ---- a payload session

abbrev pub PayloadAlike : payload.Held → Memory → Type 0
PayloadAlike = InMemory PayloadHeld

-- nothing is asked of its bytes
abbrev pub AnyBytes : List ℕ → Type 0
AnyBytes bs = Unit {0}

payload-fed : (s : payload_session.Session) (ns ts : List ℕ) → PayloadHeld s ns ts → (canvas bs : List ℕ) → AnyBytes bs → (a : ℕ)
    → FedAlike PayloadHeld payload_end_from (payload_fed ns ts canvas bs a) (payload_feed (s, canvas) bs a)
unfolding payload_fed_as
payload-fed s ns ts k canvas bs good a =
    let y : payload_answer.Fed × List ℕ = payload_calls.fed_by s canvas bs a in
    let e : payload_fed ns ts canvas bs a ≡ payload_fed_as y = payload-feeds s ns ts k canvas bs a in
    record {
      answer = ap (λ (x : Told). answer_from payload_end_from x.0 x.4) e ∙ payload-told y.0.answer;
      held = payload-feeds-on s ns ts k canvas bs a;
      canvas = ap (λ (x : Told). x.3) e;
    }

payload-last : (s : payload_session.Session) (ns ts : List ℕ) → PayloadHeld s ns ts → (canvas : List ℕ) (owner : Palette)
    → memory_concluded (payload_finished ns ts owner.colors canvas) ≡ payload_finish (s, canvas) owner
unfolding of_table
payload-last s ns ts k canvas owner =
    ap memory_concluded (payload-finishes s ns ts k owner.colors canvas) ∙ concluded-told (payload_calls.finished_by s owner canvas)

pub payload-in-memory : AlikeReaders payload_feed payload_memory_feed payload_canvas memory_canvas payload_finish payload_memory_finish PayloadAlike AnyBytes
payload-in-memory =
    in_memory PayloadHeld AnyBytes payload_end_from payload_feed payload_fed payload_finish payload_finished payload-fed payload-last
    tt (λ bs cs h k. tt) (λ n bs h. tt)

pub payload-lent-memory : AlikeLent payload_lend memory_lend PayloadAlike
payload-lent-memory = lent-memory PayloadHeld (λ s ns ts ns' ts' k k'. (k.numbers ∙ sym k'.numbers, k.registers ∙ sym k'.registers))

-- ---- a DCS session, whose bytes are below 256

abbrev pub DcsAlike : dcs.Held → Memory → Type 0
DcsAlike = InMemory DcsHeld

dcs-fed : (s : dcs_session.Session) (ns ts : List ℕ) → DcsHeld s ns ts → (canvas bs : List ℕ) → Bytes bs → (a : ℕ)
    → FedAlike DcsHeld dcs_end_from (dcs_fed ns ts canvas bs a) (dcs_feed (s, canvas) bs a)
unfolding dcs_fed_as
dcs-fed s ns ts k canvas bs good a =
    let y : dcs_answer.Fed × List ℕ = dcs_calls.fed_by s canvas bs a in
    let e : dcs_fed ns ts canvas bs a ≡ dcs_fed_as y = dcs-feeds s ns ts k canvas bs a in
    record {
      answer = ap (λ (x : Told). answer_from dcs_end_from x.0 x.4) e ∙ dcs-told y.0.answer;
      held = dcs-feeds-on s ns ts k canvas bs a good;
      canvas = ap (λ (x : Told). x.3) e;
    }

dcs-last : (s : dcs_session.Session) (ns ts : List ℕ) → DcsHeld s ns ts → (canvas : List ℕ) (owner : Palette)
    → memory_concluded (dcs_finished ns ts owner.colors canvas) ≡ dcs_finish (s, canvas) owner
unfolding of_table
dcs-last s ns ts k canvas owner =
    ap memory_concluded (dcs-finishes s ns ts k owner.colors canvas) ∙ concluded-told (dcs_calls.finished_by s owner canvas)

bytes-append : (bs cs : List ℕ) → Bytes bs → Bytes cs → Bytes (bs ++ cs)
bytes-append [] cs h k = k
bytes-append (b ∷ bs) cs h k = (h.0, bytes-append bs cs h.1 k)

bytes_drop : (n : ℕ) (bs : List ℕ) → Bytes bs → Bytes (drop n bs)
bytes_drop zero bs h = h
bytes_drop (suc n) [] h = tt
bytes_drop (suc n) (b ∷ bs) h = bytes_drop n bs h.1

pub dcs-in-memory : AlikeReaders dcs_feed dcs_memory_feed dcs_canvas memory_canvas dcs_finish dcs_memory_finish DcsAlike Bytes
dcs-in-memory = in_memory DcsHeld Bytes dcs_end_from dcs_feed dcs_fed dcs_finish dcs_finished dcs-fed dcs-last tt bytes-append bytes_drop

pub dcs-lent-memory : AlikeLent dcs_lend memory_lend DcsAlike
dcs-lent-memory = lent-memory DcsHeld (λ s ns ts ns' ts' k k'. (k.numbers ∙ sym k'.numbers, k.registers ∙ sym k'.registers))
