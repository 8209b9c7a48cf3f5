use Rattle.std.proofs.Common.{[], refl}
use Rattle.inc_graph.specs.FileEntries.{named_entry}
use Rattle.inc_graph.proofs.NumberedNames.{entry_pushed, plain_entry}
use Rattle.inc_graph.proofs.building.entries.Entries.push.Goals as goal

pub returns : goal.returns
returns c =
    rw (← c.self.view_is) (entry_pushed c.self.inside.names c.self.inside.names c.self.inside.kept.items c.push.new.self.items c.args.entry (named_entry [] c.args.entry)
    c.self.invariant (λ k low. refl) c.in_ok-push.ensures.items (plain_entry c.self.inside.names c.args.entry c.requires))
