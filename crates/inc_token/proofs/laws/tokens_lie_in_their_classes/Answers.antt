use Rattle.inc_token.proofs.Spelled.{token_lines-spelled}
use Rattle.inc_token.proofs.laws.tokens_lie_in_their_classes.Goals as goal

pub returns : goal.returns
returns c = token_lines-spelled
