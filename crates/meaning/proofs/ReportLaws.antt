-- Laws of a report: the declared size and the count of held definitions follow from the commands alone, whatever reader read them.
use Prim.Native.Nat.{ℕ}
use mathlib.Core.Path.{sym, subst}
use mathlib.Core.Option.{Option, none, some}
use mathlib.Core.List.{List}
use Rattle.colours.specs.declared.Palette.{Palette}
use Rattle.meaning.specs.Commands.{Placed, commands}
use Rattle.meaning.specs.Drawing.{Setting, blank, draw_all}
use Rattle.meaning.specs.Payload.{Parameters, payload, Finished, finished, turned_down, finish}
use Rattle.meaning.specs.Reader.{Turn, stream}
use Rattle.meaning.specs.Sessions.{End}
use Rattle.meaning.specs.OneShot.{Found, found, lacking, refused_with, find_payload, answer_of, one_shot}
use Rattle.meaning.specs.Sequence.{sequence_payload, sequence_end, sequence_finish}
use Rattle.meaning.specs.Calls.{Answer}
use Rattle.meaning.specs.Callers.{Feed}
use Rattle.meaning.specs.Demands.{Concluded, concluded, Whole, DemandTwo}
use Rattle.meaning.specs.Definitions.{commands_found}
use Rattle.meaning.specs.Reported.{FinishFollows, ReportsFollow}
use Rattle.meaning.proofs.Cases.{option-case}
use Rattle.meaning.proofs.DeclaredLaws.{outcome-declares}
use Rattle.meaning.proofs.HeldLaws.{outcome-held}

-- what finishing after some commands reports follows from them
outcome-follows : (s : Setting) (o : Parameters) (p : Palette) (cs : List Placed) → FinishFollows cs (finish o (draw_all s cs (blank p o.p2)))
unfolding finish
outcome-follows s o p cs =
    option-case (FinishFollows cs) (draw_all s cs (blank p o.p2)).refusal
    (λ ok. record { declared = outcome-declares s o p cs ok; held = outcome-held s o p cs ok }) (λ n _. tt)

module _ (s : Setting) (p : Palette) where
  -- Of a payload.
  pub payload-report : (o : Parameters) (bs : List ℕ) → FinishFollows (commands bs) (finish o (payload s o p bs))
  unfolding payload
  payload-report o bs = outcome-follows s o p (commands bs)

  -- what a found payload answers
  answer-report : (f : Found) → FinishFollows (commands_found f) (answer_of s p f)
  unfolding answer_of commands_found
  answer-report (found o part) = payload-report o part
  answer-report lacking = tt
  answer-report (refused_with n) = tt

  -- Of a DCS sequence.
  pub sequence-report : (bs : List ℕ) → FinishFollows (commands_found (sequence_payload bs)) (sequence_finish s p bs)
  unfolding sequence_finish
  sequence-report bs = go (sequence_end bs)
    where
      go : (e : Option End)
          → FinishFollows (commands_found (sequence_payload bs)) (elim e [ none ↦ turned_down 8 | some _ ↦ answer_of s p (sequence_payload bs) ])
      go none = tt
      go (some e) = answer-report (sequence_payload bs)

  -- Of an input read all at once.
  pub one-shot-report : (bs : List ℕ) → FinishFollows (commands_found (find_payload bs)) (one_shot s p bs)
  unfolding one_shot
  one-shot-report bs = answer-report (find_payload bs)

-- concluding a finish answers what it answers
concluded-report : (picture canvas : List ℕ) (owner : Palette) (cs : List Placed) (f : Finished) → FinishFollows cs f
    → FinishFollows cs (concluded picture owner canvas f).answer
unfolding concluded
concluded-report picture canvas owner cs (finished r) h = h
concluded-report picture canvas owner cs (turned_down n) h = tt

-- So it is of any reader that keeps demand 2, where it is of what a stream means.
pub reader-reports : {H E : Type 0} {feed : Feed H (Answer E)} {canvas : H → List ℕ} {finish : H → Palette → Concluded}
    {meant : List ℕ → Whole E} {h : H} {ts : List Turn} (said : List ℕ → List Placed)
    → ((bs : List ℕ) → FinishFollows (said bs) (meant bs).finish) → DemandTwo feed canvas finish meant h ts
    → ReportsFollow feed finish said h ts
reader-reports {meant = meant} {ts = ts} said follows two through owner =
    subst (λ (c : Concluded). FinishFollows (said (stream ts)) c.answer) (sym (two.finishes through owner))
    (concluded-report _ _ owner (said (stream ts)) (meant (stream ts)).finish (follows (stream ts)))
