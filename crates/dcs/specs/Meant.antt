-- What the code's answers mean: how a DCS session ends, and what a feed of it answers, in the definition's terms. A finish is a payload
-- session's. A refusal is known by its number (`number_of`).
use Rattle.std.specs.Prelude.{Ok, Err}
use Rattle.frame.specs.Numbers.{number_of}
use Rattle.meaning.specs.Calls as calls
use Rattle.meaning.specs.Sessions as sessions
use Rattle.dcs.specs.Results.{Answer}
use Rattle.payload.specs.declared.Answer.TheVariants as answers
use Rattle.dcs.specs.declared.Ending.{Ending}
use Rattle.dcs.specs.declared.Ending.TheVariants as endings

unfoldable pub end_meant : Ending → sessions.End
end_meant endings.Complete = sessions.complete
end_meant (endings.Cancelled b) = sessions.cancelled b
end_meant (endings.Interrupted b) = sessions.interrupted b

-- a feed's answer: counts and a status, or a refusal's number
unfoldable pub answer_meant : Answer → calls.Answer sessions.End
unfolding end_meant
answer_meant (Ok (answers.More consumed ink)) = calls.told consumed ink calls.needs_more
answer_meant (Ok (answers.Stopped consumed ink)) = calls.told consumed ink calls.stopped_for_ink
answer_meant (Ok (answers.Ended consumed ink e)) = calls.told consumed ink (calls.ended (end_meant e))
answer_meant (Err n) = calls.refused (number_of n)
