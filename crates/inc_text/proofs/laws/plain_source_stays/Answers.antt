use Rattle.inc_text.proofs.LawLemmas.{text_stays, bytes_stay}
use Rattle.inc_text.proofs.laws.plain_source_stays.Goals as goal

pub returns-clause-cells : goal.returns-clause-cells
returns-clause-cells c = text_stays

pub returns-clause-bytes : goal.returns-clause-bytes
returns-clause-bytes c = bytes_stay
