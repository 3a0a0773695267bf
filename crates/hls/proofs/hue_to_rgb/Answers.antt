-- `hls::hue_to_rgb` meets its contract: each path returns what the tests on it pick. Assumes nothing.
use Rattle.std.proofs.Common.{rules}
use lib.Ieee.{of_bits}
use Rattle.hls.specs.Hls.{placed, channel}
use Rattle.hls.proofs.Steps.{pick_yes, pick_no, at_turn}
use Rattle.hls.proofs.hue_to_rgb.Goals as goal

-- the turn brought to 0.0 to 1.0, and what each test there picks
ruleset places = (at_turn, pick_yes, pick_no)

pub returns-then-t : goal.returns-then-t
unfolding of_bits placed channel
returns-then-t c = search (rules, places)

pub returns-then-t-2 : goal.returns-then-t-2
unfolding of_bits placed channel
returns-then-t-2 c = search (rules, places)

pub returns-then-t-3 : goal.returns-then-t-3
unfolding of_bits placed channel
returns-then-t-3 c = search (rules, places)

pub returns : goal.returns
unfolding of_bits placed channel
returns c = search (rules, places)
