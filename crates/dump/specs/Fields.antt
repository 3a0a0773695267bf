-- What stands above a picture's rows.
-- Assumes nothing.
use Rattle.std.specs.Prelude.{ℕ, List, ◌++◌}
use Rattle.payload.specs.declared.Report.{Report}
use Rattle.dcs.specs.declared.Ending.{Ending}
use Rattle.dump.specs.Dump.{status_line, size_line, extent_line, ratio_line, background_line, ink_line}

-- the lines of a picture's fields
unfoldable pub fields_text : Ending → ℕ → ℕ → Report → List ℕ
fields_text ending consumed ink report =
    status_line ending consumed
    ++ size_line report.width report.height
    ++ extent_line report.right report.bottom
    ++ ratio_line report.ratio
    ++ background_line report.transparent
    ++ ink_line ink
