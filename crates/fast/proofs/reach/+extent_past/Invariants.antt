use Rattle.fast.proofs.reach.+extent_past.Given as goal

abbrev pub decreases-extent_past : goal.decreases-extent_past
decreases-extent_past l = l.count
