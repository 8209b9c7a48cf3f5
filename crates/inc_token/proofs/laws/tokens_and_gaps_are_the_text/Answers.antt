use Rattle.inc_token.proofs.TextParts.{token_lines-parts}
use Rattle.inc_token.proofs.laws.tokens_and_gaps_are_the_text.Goals as goal

pub returns : goal.returns
returns c = token_lines-parts
