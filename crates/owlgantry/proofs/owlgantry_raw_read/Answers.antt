-- `owlgantry_raw_read` meets its contract: what `read_onto` promises, told as numbers (`read_out`); the part is no longer than the bytes, so
-- that its place can be computed (`part-short`).
use Rattle.owlgantry.proofs.ReportLaws.{part-short, read_out}
use Rattle.owlgantry.proofs.owlgantry_raw_read.Goals as goal

pub overflow_sub-bytes : goal.overflow_sub-bytes
overflow_sub-bytes c = part-short _ _ _ _ c.read_onto-reading.ensures.1

pub returns : goal.returns
returns c =
    read_out _ _ _ _ _ _ _ _ _ _ _ c.read_onto-reading.ensures.0 c.read_onto-reading.ensures.1 c.report_numbers.ensures
    c.refusal_number.ensures
