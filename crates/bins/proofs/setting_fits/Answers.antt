-- `bins::setting_fits` meets its contract: no product is formed. Assumes nothing.
use Rattle.std.proofs.Common.{rules, arith}
use Rattle.std.proofs.lemmas.Grind.{common_steps}
use Rattle.bins.specs.Bins.{setting_fits}
use Rattle.bins.proofs.Answers.{fits-divided}
use Rattle.bins.proofs.setting_fits.Goals as goal

pub returns-then-setting-picture_width : goal.returns-then-setting-picture_width
returns-then-setting-picture_width c = fits-divided _ _ _ (search rules) (omega arith) (omega arith) (omega arith) (omega arith)

pub returns-else-setting-picture_width : goal.returns-else-setting-picture_width
unfolding setting_fits
returns-else-setting-picture_width c = grind (arith, common_steps)
