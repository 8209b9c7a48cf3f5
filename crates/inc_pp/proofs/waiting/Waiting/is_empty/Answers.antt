use Rattle.std.proofs.Common.{◌≡◌, length, ap, ◌∙◌, rules}
use Rattle.inc_pp.proofs.WaitingParts.{none_in}
use Rattle.inc_pp.proofs.waiting.Waiting.is_empty.Goals as goal

pub returns-clause-some : goal.returns-clause-some
returns-clause-some c = λ none.
    let len : length c.self.inside.parts.items ≡ 0 = ap length (none_in c.self.inside.bytes.items 0 c.self.inside.parts.items (c.self.view_is ∙ none)) in
    search rules
