use Rattle.std.proofs.Common.{ℕ}
use Rattle.inc_graph.specs.HeaderNames.{seen_name}
use Rattle.inc_graph.specs.declared.missing_lists.Missing.{Missing}
use Rattle.inc_graph.proofs.NumberedNames.{missing_pushed}
use Rattle.inc_graph.proofs.missing_lists.MissingList.push.Goals as goal

pub returns : goal.returns
returns c =
    let d : Missing ℕ = record { file = c.args.directive.file; line = c.args.directive.line; header = c.in_ok-header.header } in
    rw (← c.self.view_is) (missing_pushed c.self.inside.names c.push.new.self c.self.inside.directives.items c.push-2.new.self.items (seen_name c.args.directive.header) d
    c.self.invariant c.in_ok-header.ensures.pushed c.in_ok-push.ensures.items c.in_ok-header.ensures.number)
