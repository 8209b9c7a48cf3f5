use Rattle.std.proofs.Common.{◌<◌, ◌∙◌, List, ℕ, None, length, subst, sym}
use Rattle.std.specs.List.{All}
use Rattle.inc_answers.proofs.EdgeEnds.{lasts_within}
use Rattle.inc_answers.proofs.who_document.add_ways_in.Goals as goal

pub directives_of-requires : goal.directives_of-requires
directives_of-requires c =
    subst (λ (is : List ℕ). All (λ i. i < length c.args.graph.now.edges) is) (sym (c.deref.ensures.value ∙ c.in_ok-edges.ensures))
    (lasts_within (length c.args.graph.now.edges) None c.args.chains.now.left c.requires)
