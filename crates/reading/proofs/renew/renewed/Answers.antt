-- `renewed` meets its contract: each part is made anew, and is what it was.
use Rattle.reading.proofs.renew.renewed.Goals as goal

pub returns : goal.returns
returns c =
    λ i. record {
      pen = c.renewed_pen.ensures i;
      area = c.renewed_area.ensures i;
      extent = c.renewed_extent.ensures i;
      raster = c.renewed_raster.ensures i;
      held = c.args.frame.held;
      command = c.renewed_command.ensures i;
    }
