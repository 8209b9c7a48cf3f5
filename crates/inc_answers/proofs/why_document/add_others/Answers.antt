use Rattle.std.proofs.Common.{◌∙◌}
use Rattle.inc_answers.proofs.EdgeEnds.{lasts_within}
use Rattle.std.proofs.Common.{◌<◌, List, ℕ, length, subst, sym}
use Rattle.std.specs.List.{All}
use Rattle.inc_answers.proofs.why_document.add_others.Goals as goal

pub directives_of-requires : goal.directives_of-requires
directives_of-requires c =
    subst (λ (is : List ℕ). All (λ i. i < length c.args.graph.now.edges) is) (sym (c.deref.ensures.value ∙ c.in_ok-edges.ensures))
    (lasts_within (length c.args.graph.now.edges) c.args.last.now c.args.chains.now.left c.requires)
