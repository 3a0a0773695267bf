-- Reading all at once (docs/RULES.md, section 8).
use Rattle.std.specs.Prelude.{ℕ, cond, ◌&&◌, List, [], ◌∷◌, eqb, drop, get_or}
use Rattle.std.proofs.Math.Option.{Option, none, some}
use Rattle.colours.specs.declared.Palette.{Palette}
use Rattle.meaning.specs.Drawing.{Setting}
use Rattle.meaning.specs.Payload.{Parameters, no_parameters, Finished, turned_down, finish, payload}
use Rattle.meaning.specs.Sessions.{escape, goes_on, settles, wrong, header_byte}

-- rule 8.1: what comes after the first 90 or 1B `P`, wherever it stands; none where there is neither
unfoldable pub after_introducer : List ℕ → Option (List ℕ)
after_introducer [] = none
after_introducer (b ∷ bs) =
    cond (eqb b 0x90) (some bs) (cond (eqb b escape && eqb (get_or bs 0 0) 0x50) (some (drop 1 bs)) (after_introducer bs))

-- what an input has: parameters and the part that is its payload; or bytes are missing, as a whole introducer or `q`; or its
-- introducer or header is refused with a number
pub data Found : Type 0 where
  found : Parameters → List ℕ → Found
  lacking : Found
  refused_with : ℕ → Found

-- rule 8.1: a header, with its digits and `;` so far: the part begins after `q`
unfoldable pub header_from : List ℕ → List ℕ → Found
header_from got [] = lacking
header_from got (b ∷ bs) =
    elim (header_byte got b) [ goes_on more ↦ header_from more bs | settles o ↦ found o bs | wrong n ↦ refused_with n ]

-- rule 8.1: without an introducer the whole input is payload, with no parameters
unfoldable pub find_payload : List ℕ → Found
unfolding after_introducer header_from
find_payload bs =
    elim (after_introducer bs) [ none ↦ found no_parameters bs | some later ↦ header_from [] later ]

-- rule 8.2: the part handed back: on 2, 3 and 8 an empty one
unfoldable pub part_of : Found → List ℕ
part_of (found o part) = part
part_of lacking = []
part_of (refused_with n) = []

-- rule 8.3: the answer: what finishing the payload gives; 8 where bytes are missing; or the refusal of the header
unfoldable pub answer_of : Setting → Palette → Found → Finished
answer_of s p (found o part) = finish o (payload s o p part)
answer_of s p lacking = turned_down 8
answer_of s p (refused_with n) = turned_down n

-- rule 8.3: the answer to an input
unfoldable pub one_shot : Setting → Palette → List ℕ → Finished
unfolding find_payload answer_of
one_shot s p bs = answer_of s p (find_payload bs)
