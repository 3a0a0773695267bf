-- Whatever the caller's memory holds: the number that is told of a call is the number that the call answers.
use Rattle.std.specs.Prelude.{◌≡◌, ℕ, List, length, Ok, Err}
use mathlib.Core.Option.{Option, none, some}
use mathlib.Core.Path.{refl, sym, ap, ◌∙◌}
use Rattle.colours.specs.Palette.{of_table}
use Rattle.frame.specs.declared.Limits.{Limits}
use Rattle.meaning.specs.Calls as calls
use Rattle.meaning.specs.Payload as meant
use Rattle.meaning.specs.Tellings.{number_told, answer_number, finish_number}
use Rattle.meaning.proofs.TellingLaws.{read_number_lem}
use Rattle.payload.specs.Results as payload_answer
use Rattle.payload.specs.declared.Answer.TheVariants as payload_answers
use Rattle.payload.specs.Meant as payload_meant
use Rattle.payload.specs.Memory as payload_memory
use Rattle.payload.specs.Session as payload
use Rattle.dcs.specs.Results as dcs_answer
use Rattle.dcs.specs.Meant as dcs_meant
use Rattle.dcs.specs.Memory as dcs_memory
use Rattle.dcs.specs.Session as dcs
use Rattle.oneshot.specs.OneShot.{read_whole}
use Rattle.explain.specs.Explained.{Explained, payload_feed_explained, payload_finish_explained, dcs_feed_explained, dcs_finish_explained, read_explained}
use Rattle.explain.specs.Meant.{telling_meant, explained_meant}
use Rattle.explain.proofs.SameNumbers as explained
use Rattle.explain.proofs.WholeTells.{read_told_lem}
use Rattle.owlgantry.specs.Explaining.{told_number, told_as, payload_feed_told, payload_finish_told, dcs_feed_told, dcs_finish_told, read_told}
use Rattle.owlgantry.specs.Reading.{refusal_number, sixel_read}
use Rattle.owlgantry.specs.Sessions.{number_or_zero, payload_fed_as, payload_fed, finished_as, payload_finished, dcs_fed_as, dcs_fed, dcs_finished}

-- ---- a number that is there, or 0: how an answer tells a refusal

or_zero : Option ℕ → ℕ
or_zero none = 0
or_zero (some n) = n

told-as : (x : Explained) → (told_as x).0 ≡ or_zero (number_told (explained_meant x))
unfolding told_as told_number number_told explained_meant telling_meant or_zero
told-as (Ok tt) = refl
told-as (Err t) = refl

payload-as : (a : payload_answer.Answer) → number_or_zero a ≡ or_zero (answer_number (payload_meant.answer_meant a))
unfolding number_or_zero answer_number payload_meant.answer_meant or_zero
payload-as (Ok (payload_answers.More n i)) = refl
payload-as (Ok (payload_answers.Stopped n i)) = refl
payload-as (Ok (payload_answers.Ended n i b)) = refl
payload-as (Err r) = refl

dcs-as : (a : dcs_answer.Answer) → number_or_zero a ≡ or_zero (answer_number (dcs_meant.answer_meant a))
unfolding number_or_zero answer_number dcs_meant.answer_meant or_zero
dcs-as (Ok (payload_answers.More n i)) = refl
dcs-as (Ok (payload_answers.Stopped n i)) = refl
dcs-as (Ok (payload_answers.Ended n i e)) = refl
dcs-as (Err r) = refl

finish-as : (x : meant.Finished) → refusal_number x ≡ or_zero (finish_number x)
unfolding refusal_number finish_number or_zero
finish-as (meant.finished r) = refl
finish-as (meant.turned_down n) = refl

-- ---- the calls over memory

module _ (ns ts canvas : List ℕ) where
  pub payload-feed-same : (bytes : List ℕ) (allowance : ℕ)
      → (payload_feed_told ns ts (length canvas) bytes allowance).0 ≡ (payload_fed ns ts canvas bytes allowance).0
  unfolding payload_feed_told payload_fed payload_fed_as
  payload-feed-same bytes allowance =
      told-as (payload_feed_explained (payload_memory.session_from ns ts) (length canvas) bytes allowance)
      ∙ ap or_zero (explained.payload-feed-same (payload_memory.session_from ns ts) canvas bytes allowance)
      ∙ sym (payload-as (payload.fed_by (payload_memory.session_from ns ts) canvas bytes allowance).0.answer)

  pub dcs-feed-same : (bytes : List ℕ) (allowance : ℕ)
      → (dcs_feed_told ns ts (length canvas) bytes allowance).0 ≡ (dcs_fed ns ts canvas bytes allowance).0
  unfolding dcs_feed_told dcs_fed dcs_fed_as
  dcs-feed-same bytes allowance =
      told-as (dcs_feed_explained (dcs_memory.session_from ns ts) (length canvas) bytes allowance)
      ∙ ap or_zero (explained.dcs-feed-same (dcs_memory.session_from ns ts) canvas bytes allowance)
      ∙ sym (dcs-as (dcs.fed_by (dcs_memory.session_from ns ts) canvas bytes allowance).0.answer)

  pub payload-finish-same : (palette : List ℕ) → (payload_finish_told ns ts (length canvas)).0 ≡ (payload_finished ns ts palette canvas).0
  unfolding payload_finish_told payload_finished finished_as
  payload-finish-same palette =
      let x = payload.finished_by (payload_memory.session_from ns ts) (of_table palette) canvas in
      told-as (payload_finish_explained (payload_memory.session_from ns ts) (length canvas))
      ∙ ap or_zero (explained.payload-finish-same (payload_memory.session_from ns ts) (of_table palette) x.0.palette canvas)
      ∙ sym (finish-as (payload_meant.finish_meant x.0.answer x.0.palette))

  pub dcs-finish-same : (palette : List ℕ) → (dcs_finish_told ns ts (length canvas)).0 ≡ (dcs_finished ns ts palette canvas).0
  unfolding dcs_finish_told dcs_finished finished_as
  dcs-finish-same palette =
      let x = dcs.finished_by (dcs_memory.session_from ns ts) (of_table palette) canvas in
      told-as (dcs_finish_explained (dcs_memory.session_from ns ts) (length canvas))
      ∙ ap or_zero (explained.dcs-finish-same (dcs_memory.session_from ns ts) (of_table palette) x.0.palette canvas)
      ∙ sym (finish-as (payload_meant.finish_meant x.0.answer x.0.palette))

-- ---- reading all at once

pub read_same : (l : Limits) (stride : ℕ) (canvas palette bytes : List ℕ)
    → (read_told l stride (length canvas) palette bytes).0 ≡ (sixel_read (payload_meant.limits_meant l) stride canvas bytes (of_table palette)).0
unfolding read_told sixel_read read_whole
read_same l stride canvas palette bytes =
    told-as (read_explained l stride (length canvas) (of_table palette) bytes)
    ∙ ap or_zero (ap number_told (read_told_lem l stride canvas (of_table palette) bytes)
    ∙ read_number_lem (payload_meant.limits_meant l) stride (length canvas) (of_table palette) bytes)
    ∙ sym (finish-as (calls.read_one_shot (payload_meant.limits_meant l) stride (length canvas) (of_table palette) bytes))
