-- What the calls over a session in memory come to: one law for each path.
use Rattle.std.specs.Prelude.{◌≡◌, ℕ, List, [], ◌∷◌, get_or, replicate, true, false, is_ok, Ok, Err}
use mathlib.Core.Path.{refl, sym, ap, ap₂, ◌∙◌}
use Rattle.colours.specs.declared.Palette.{Palette}
use Rattle.colours.specs.Marks.{lasting}
use Rattle.colours.specs.Palette.{of_table}
use Rattle.frame.specs.declared.Limits.{Limits}
use Rattle.meaning.specs.Payload as meant
use denote.Enum.Declared.{tag_of}
use types.Run.{OneOf, miss}
use Rattle.numbers.specs.Memory as parameters
use Rattle.frame.specs.declared.Frame.{Frame}
use Rattle.payload.specs.declared.Finished.{Finished}
use Rattle.payload.specs.Results.{Finishing, Given}
use Rattle.payload.specs.declared.Life.{Life}
use Rattle.payload.specs.declared.Session as payload_session
use Rattle.payload.specs.declared.Settings.{Settings}
use Rattle.payload.specs.declared.kernel.Setup.{Setup}
use Rattle.payload.specs.declared.kernel.feeding.Fed as payload_feeding
use Rattle.payload.specs.declared.kernel.opening.Opened as payload_opening
use Rattle.payload.specs.Codes.{given_from, life_from}
use Rattle.payload.specs.Core as payload_parts
use Rattle.payload.proofs.CoreLaws.{owned}
use Rattle.payload.specs.Memory as payload_memory
use Rattle.payload.specs.Session as payload
use Rattle.dcs.specs.Results as dcs_answer
use Rattle.payload.specs.declared.Answer.TheVariants as dcs_answers
use Rattle.dcs.specs.declared.Ending.{Ending}
use Rattle.dcs.specs.declared.Phase.{Phase}
use Rattle.dcs.specs.declared.Session as dcs_session
use Rattle.dcs.specs.declared.kernel.Core.{Core}
use Rattle.dcs.specs.Core as dcs_parts
use Rattle.dcs.specs.Memory as dcs_memory
use Rattle.dcs.specs.Session as dcs
use Rattle.payload.specs.Meant.{finish_meant}
use Rattle.owlgantry.specs.Reading.{report_numbers, refusal_number}
use Rattle.owlgantry.specs.Sessions.{number_or_zero, payload_report, ending_kind, ending_byte, dcs_report, finish_report}
use Rattle.owlgantry.specs.Sessions.{payload_opened_as, payload_opened, payload_fed_as, payload_fed, finished_as, dcs_opened_as, dcs_opened}
use Rattle.owlgantry.specs.Sessions.{dcs_fed_as, dcs_fed}

-- a call by value told `z` of its outcome `y`; it was given `s`, which is the session `s'` that the memory holds
called : {S Y Z : Type 0} {z : Z} {y : Y} {s s' : S} (tell : Y → Z) (by : S → Y)
    → z ≡ tell y → y ≡ by s → s ≡ s' → z ≡ tell (by s')
called tell by told e k = told ∙ ap tell (e ∙ ap by k)

-- the limits that the caller gave as four numbers
abbrev four : ℕ → ℕ → ℕ → ℕ → Limits
four w h m n = record { width = w; height = h; repeats = m; pixels = n }

-- ---- reports

pub told-end : {k b n i : ℕ} {x : dcs_answer.Answer} (e : Ending)
    → x ≡ Ok (dcs_answers.Ended n i e) → k ≡ ending_kind e → b ≡ ending_byte e → k ∷ n ∷ i ∷ b ∷ [] ≡ dcs_report x
unfolding dcs_report
told-end {n = n} {i = i} e h p q = ap₂ (λ (x y : ℕ). x ∷ n ∷ i ∷ y ∷ []) p q ∙ ap dcs_report (sym h)

-- a report's numbers without the part's two
abbrev partless : List ℕ → List ℕ
partless l =
    get_or l 0 0
    ∷ get_or l 1 0
    ∷ get_or l 2 0
    ∷ get_or l 3 0
    ∷ get_or l 4 0
    ∷ get_or l 5 0
    ∷ get_or l 6 0
    ∷ get_or l 7 0
    ∷ get_or l 8 0
    ∷ get_or l 9 0
    ∷ get_or l 10 0
    ∷ []

partless-first : (x : meant.Finished) → partless (report_numbers x 0 0) ≡ finish_report x
unfolding finish_report report_numbers
partless-first (meant.finished r) = refl
partless-first (meant.turned_down n) = refl

pub partless-told : (x : meant.Finished) {l : List ℕ} → l ≡ report_numbers x 0 0 → partless l ≡ finish_report x
partless-told x e = rw e (partless-first x)

-- ---- a session in memory, from its parts

module _ (ns ts : List ℕ) {u : Setup} {life : Life} {f : Frame} (eu : u ≡ payload_memory.setup_from ns) (el : life ≡ life_from (get_or ns 10 0))
    (ef : f ≡ payload_memory.frame_from ns) where
  pub payload-held : payload_parts.over u life f (of_table ts) ≡ payload_memory.session_from ns ts
  unfolding payload_memory.session_from payload_memory.setup_from
  payload-held = rw (eu, el, ef) refl

  pub dcs-held : {t : Phase} → t ≡ dcs_memory.phase_from (get_or ns 34 0)
      → dcs.session_of (payload_parts.over u life f (of_table ts)) (parameters.parameters_from (payload_memory.nine_from ns 35)) t
      ≡ dcs_memory.session_from ns ts
  unfolding dcs_memory.session_from
  dcs-held et = rw (payload-held, et) refl

pub core-held : (ns ts : List ℕ) {c : Core} → c ≡ dcs_memory.core_from ns → dcs_parts.over c (of_table ts) ≡ dcs_memory.session_from ns ts
unfolding dcs_memory.session_from dcs_memory.core_from payload_memory.session_from payload_memory.setup_from
core-held ns ts e = rw e refl

-- ---- an opening

-- the session's registers, `own`, are their owner's colours and marks
pub payload-opened : (w h m n stride p1 p2 : ℕ) (owner own canvas : List ℕ) {g1 g2 : Given} (x : payload_opening.Opened) (l₁ : List ℕ)
    {ns : List ℕ} {r : ℕ} → g1 ≡ given_from p1 → g2 ≡ given_from p2 → of_table own ≡ lasting (of_table owner)
    → (payload_parts.opened_over x (of_table own), l₁)
    ≡ payload.opened_on (four w h m n) stride (record { p1 = g1; p2 = g2 }) (of_table own) canvas
    → ((p : Palette) → ns ≡ payload_memory.numbers_of (payload_parts.over x.setup x.life x.frame p)) → r ≡ number_or_zero x.answer
    → (r, ns, own, l₁) ≡ payload_opened (four w h m n) stride p1 p2 owner canvas
unfolding payload_opened payload_opened_as payload.opened_by of_table
payload-opened w h m n stride p1 p2 owner own canvas {g1} {g2} x l₁ a b eo e en er =
    let given : Settings = record { p1 = g1; p2 = g2 } in
    called {s = given} payload_opened_as (λ (o : Settings). payload.opened_on (four w h m n) stride o (lasting (of_table owner)) canvas)
    (rw (er, en (of_table own)) refl)
    (e ∙ ap (λ (q : Palette). payload.opened_on (four w h m n) stride given q canvas) eo)
    (ap₂ (λ (i j : Given). record { p1 = i; p2 = j }) a b)

pub dcs-opened : (w h m n stride size : ℕ) (owner own : List ℕ) (x : dcs_answer.OpenedCore) {ns : List ℕ} {r : ℕ}
    → of_table own ≡ lasting (of_table owner) → dcs_parts.opened_over x (of_table own) ≡ dcs.opened_on (four w h m n) stride (of_table own) size
    → ((p : Palette) → ns ≡ dcs_memory.numbers_of (dcs_parts.over x.session p)) → r ≡ number_or_zero x.answer
    → (r, ns, own) ≡ dcs_opened (four w h m n) stride size owner
unfolding dcs_opened dcs_opened_as dcs.opened_by of_table
dcs-opened w h m n stride size owner own x eo e en er =
    rw (er, en (of_table own)) (ap dcs_opened_as (e ∙ ap (λ (q : Palette). dcs.opened_on (four w h m n) stride q size) eo))

-- ---- a feed

-- `v` is the setup, read once more
pub payload-fed : (ns ts canvas bytes : List ℕ) (allowance : ℕ) {u v : Setup} {life : Life} {f : Frame}
    (x : payload_feeding.Fed) (l₁ ts' : List ℕ) {ns' report : List ℕ} {r : ℕ}
    → u ≡ payload_memory.setup_from ns → life ≡ life_from (get_or ns 10 0) → f ≡ payload_memory.frame_from ns
    → (payload_parts.fed_over u x ts', l₁) ≡ payload.fed_by (payload_parts.over u life f (of_table ts)) canvas bytes allowance
    → v ≡ payload_memory.setup_from ns → ((p : Palette) → ns' ≡ payload_memory.numbers_of (payload_parts.over v x.life x.frame p))
    → report ≡ payload_report x.answer → r ≡ number_or_zero x.answer
    → (r, ns', ts', l₁, report) ≡ payload_fed ns ts canvas bytes allowance
unfolding payload_fed payload_fed_as of_table
payload-fed ns ts canvas bytes allowance x l₁ ts' eu el ef e ev en ep er =
    called payload_fed_as (λ (s : payload_session.Session). payload.fed_by s canvas bytes allowance) (rw (er, en (of_table ts'), ev ∙ sym eu, ep) refl) e
    (payload-held ns ts eu el ef)

pub dcs-fed : (ns ts canvas bytes : List ℕ) (allowance : ℕ) {c : Core} (x : dcs_answer.FedCore) (l₁ ts' : List ℕ) {ns' report : List ℕ} {r : ℕ}
    → c ≡ dcs_memory.core_from ns → (dcs_parts.fed_over x (of_table ts'), l₁) ≡ dcs.fed_by (dcs_parts.over c (of_table ts)) canvas bytes allowance
    → ((p : Palette) → ns' ≡ dcs_memory.numbers_of (dcs_parts.over x.session p))
    → report ≡ dcs_report x.answer → r ≡ number_or_zero x.answer
    → (r, ns', ts', l₁, report) ≡ dcs_fed ns ts canvas bytes allowance
unfolding dcs_fed dcs_fed_as of_table
dcs-fed ns ts canvas bytes allowance x l₁ ts' k e en ep er =
    called dcs_fed_as (λ (s : dcs_session.Session). dcs.fed_by s canvas bytes allowance) (rw (er, en (of_table ts'), ep) refl) e (core-held ns ts k)

-- ---- a finish

-- the answer that is handed back is the finish's
handed-answer : (a : Finishing) (owner after : Palette) → (payload_parts.handed_back a owner after).answer ≡ a
unfolding payload_parts.handed_back
handed-answer (Ok r) owner after = refl
handed-answer (Err n) owner after = refl

finish-told : (a : Finishing) (owner after : Palette) (l₁ : List ℕ) {ts report : List ℕ} {r : ℕ}
    → ts ≡ (payload_parts.handed_back a owner after).palette.colors
    → ((p : Palette) → report ≡ finish_report (finish_meant a p)) → ((p : Palette) → r ≡ refusal_number (finish_meant a p))
    → (r, replicate 48 0, ts, l₁, report) ≡ finished_as (payload_parts.handed_back a owner after, l₁)
unfolding finished_as
finish-told a owner after l₁ et ep er =
    let x : Finished = payload_parts.handed_back a owner after in
    rw (er x.palette, et, ep x.palette, handed-answer a owner after) refl

-- of either session, which is made from the memory and finished with its own registers
pub finished-by : {S : Type 0} (from : List ℕ → List ℕ → S) (by : S → Palette → List ℕ → Finished × List ℕ)
    (own : (s : S) (owner other : Palette) (canvas : List ℕ) → by s owner canvas ≡ owned owner (by s other canvas))
    (ns ts palette canvas : List ℕ) {s : S} {a : Finishing} (after l₁ : List ℕ) {ts' report : List ℕ} {r : ℕ}
    → s ≡ from ns ts → (payload_parts.finished_over a after, l₁) ≡ by s (of_table ts) canvas
    → ts' ≡ (payload_parts.handed_back a (of_table palette) (of_table after)).palette.colors
    → ((p : Palette) → report ≡ finish_report (finish_meant a p)) → ((p : Palette) → r ≡ refusal_number (finish_meant a p))
    → (r, replicate 48 0, ts', l₁, report) ≡ finished_as (by (from ns ts) (of_table palette) canvas)
finished-by {S} from by own ns ts palette canvas {a = a} after l₁ k e et ep er =
    finish-told a (of_table palette) (of_table after) l₁ et ep er
    ∙ ap finished_as
    (ap (owned (of_table palette)) (e ∙ ap (λ (s : S). by s (of_table ts) canvas) k) ∙ sym (own (from ns ts) (of_table palette) (of_table ts) canvas))

-- the owner's registers then
pub over-picture : (a : Finishing) (owner after : List ℕ) → is_ok a ≡ true
    → after ≡ (payload_parts.handed_back a (of_table owner) (of_table after)).palette.colors
unfolding payload_parts.handed_back of_table
over-picture (Ok r) owner after h = refl
over-picture (Err n) owner after h = cc

pub over-refused : (a : Finishing) (owner after : List ℕ) → is_ok a ≡ false
    → owner ≡ (payload_parts.handed_back a (of_table owner) (of_table after)).palette.colors
unfolding payload_parts.handed_back of_table
over-refused (Ok r) owner after h = cc
over-refused (Err n) owner after h = refl
