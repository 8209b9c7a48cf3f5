use Rattle.inc_token.proofs.BlankedLines.{blanked-lines}
use Rattle.inc_token.proofs.blanking_laws.blanked_lines_are_empty.Goals as goal

pub returns : goal.returns
returns c = blanked-lines
