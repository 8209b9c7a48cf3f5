use Rattle.std.proofs.Common.{ap, arith, ◌∙◌}
use Rattle.inc_graph.specs.Nexts.{led_at}
use Rattle.inc_graph.proofs.NumberedNames.{led_within}
use Rattle.inc_graph.proofs.building.entries.Entries.lead.Goals as goal

pub returns-then-index-len : goal.returns-then-index-len
returns-then-index-len c =
    led_within c.self.inside.names c.self.inside.kept.items c.args.index c.args.file c.index_mut.result.now c.lead_on.new.entry
    (omega (arith, c.if-index-len.true, c.len.ensures)) c.index_mut.ensures.value c.lead_on.ensures
    ∙ ap (λ es. led_at c.args.index c.args.file es) c.self.view_is
