use Rattle.std.proofs.Common.{◌∙◌}
use Rattle.inc_directive.proofs.RemovedLines.{found_among}
use Rattle.inc_directive.proofs.file_lines.is_among.Goals as goal

pub returns : goal.returns
returns c = c.is_ok.ensures.value ∙ found_among c.args.numbers.now c.args.number c.binary_search.result c.binary_search.ensures.position c.requires
