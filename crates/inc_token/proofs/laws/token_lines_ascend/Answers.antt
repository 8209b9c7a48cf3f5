use Rattle.inc_token.proofs.LineOrder.{token_lines-ascend}
use Rattle.inc_token.proofs.laws.token_lines_ascend.Goals as goal

pub returns : goal.returns
returns c = token_lines-ascend
