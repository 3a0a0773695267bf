-- What a finish reports of the commands themselves: the size that they declare (docs/RULES.md, rule 4.7) and how many of them define with a
-- held value (rule 9.10). That every reader's finish does is proved (proofs/ReportLaws).
use Rattle.std.specs.Prelude.{ℕ, List}
use Rattle.colours.specs.declared.Palette.{Palette}
use Rattle.meaning.specs.Commands.{Placed}
use Rattle.meaning.specs.Payload.{Report, Finished, finished, turned_down}
use Rattle.meaning.specs.Reader.{Turn, stream}
use Rattle.meaning.specs.Calls.{Answer}
use Rattle.meaning.specs.Callers.{Feed}
use Rattle.meaning.specs.Demands.{Concluded, now, Through}
use Rattle.meaning.specs.DeclaredSizes.{Declares}
use Rattle.meaning.specs.HeldDefinitions.{TellsHeld}

-- rules 4.7, 9.10: a report after some commands
pub record ReportFollows (cs : List Placed) (r : Report) : Type 0 where
  pub declared : Declares cs r
  pub held : TellsHeld cs r

-- so it is where a finish reports anything
abbrev pub FinishFollows : List Placed → Finished → Type 0
FinishFollows cs (finished r) = ReportFollows cs r
FinishFollows cs (turned_down n) = Unit {0}

-- Of any reader, as its caller meets it (Demands): so it is once all has been read and nothing refused, however the stream is split.
-- `said` are the commands of a stream.
abbrev pub ReportsFollow : {H E : Type 0} → Feed H (Answer E) → (H → Palette → Concluded) → (List ℕ → List Placed) → H → List Turn → Type 0
ReportsFollow feed finish said h ts =
    Through feed h ts → (owner : Palette) → FinishFollows (said (stream ts)) (finish (now feed h ts).state owner).answer
