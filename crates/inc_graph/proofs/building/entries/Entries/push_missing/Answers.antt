use Rattle.inc_graph.specs.HeaderNames.{seen_name}
use Rattle.inc_graph.proofs.NumberedNames.{missing_entry}
use Rattle.inc_graph.proofs.building.entries.Entries.push_missing.Goals as goal

pub returns : goal.returns
returns c =
    rw (← c.self.view_is) (missing_entry c.self.inside.names c.push.new.self c.self.inside.kept.items c.push-2.new.self.items c.args.line c.in_ok-header.header (seen_name c.args.header)
    c.self.invariant c.in_ok-header.ensures.pushed c.in_ok-push.ensures.items c.in_ok-header.ensures.number)
