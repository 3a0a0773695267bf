-- `bins::row_has` meets its contract. Assumes nothing.
use Rattle.std.proofs.Common.{◌+◌, refl, ◌∙◌, arith, rules, tests}
use Rattle.std.proofs.lemmas.Iterator.{YieldsList-from_range}
use Rattle.std.proofs.lemmas.Iterator.Search.{any_from_yields_List}
use Rattle.bins.specs.Bins.{same, pixel}
use Rattle.bins.proofs.Searches.{row_any}
use Rattle.bins.proofs.row_has.Goals as goal

pub returns : goal.returns
returns c =
    let a = c.args in
    any_from_yields_List (λ x. same (pixel a.canvas.now (a.start + x)) a.colour) _ _ _ c.any.ensures.ran
    (YieldsList-from_range a.first (a.first + a.count) a.count refl (omega arith))
    (λ x b q k. search (rules, tests))
    ∙ row_any _ _ a.first a.count
