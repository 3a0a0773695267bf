-- The numbers of refusals (docs/RULES.md, section 5).
use Rattle.std.specs.Prelude.{ℕ}
use Rattle.frame.specs.declared.Refusal.{Refusal}
use Rattle.frame.specs.declared.Refusal.TheVariants.{Introducer, HeaderEnded, HeaderByte, Repeat, Size, Pixels, Room, Unfinished, Failed, FinalSize, Opening, Canvas, Allowance, Buffer}

-- rule 5.1: each refusal's number; 10 is retired: nothing gives it, and the others keep theirs
unfoldable pub number_of : Refusal → ℕ
number_of Introducer = 1
number_of HeaderEnded = 2
number_of HeaderByte = 3
number_of Repeat = 4
number_of Size = 5
number_of Pixels = 6
number_of Room = 7
number_of Unfinished = 8
number_of Failed = 9
number_of FinalSize = 10
number_of Opening = 11
number_of Canvas = 12
number_of Allowance = 13
number_of Buffer = 14
