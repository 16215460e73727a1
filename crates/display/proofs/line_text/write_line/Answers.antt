-- `display::write_line` meets its contract: a line that is not refused has at most 15 cells. Assumes nothing.
use Rattle.rules.proofs.Refusals.{unrefused}
use Rattle.line.specs.Lines.{line_refusal}
use Rattle.display.proofs.Steps.{line-open}
use Rattle.display.proofs.line_text.write_line.Goals as goal

pub line_in-requires : goal.line_in-requires
line_in-requires c =
    let l = c.args.line in
    line-open l (unrefused (line_refusal l) c.refusal.ensures c.in_ok-refusal.was)
