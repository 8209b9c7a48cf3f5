use Rattle.inc_text.proofs.LawLemmas.{text_within, text_apart}
use Rattle.inc_text.proofs.laws.ranges_lie_in_order.Goals as goal

pub returns-clause-within : goal.returns-clause-within
returns-clause-within c = text_within

pub returns-clause-apart : goal.returns-clause-apart
returns-clause-apart c = text_apart
