use Rattle.std.proofs.Common.{sym, ap, ◌∙◌, List}
use Rattle.inc_cut.specs.declared.flows.Step.{Step}
use Rattle.inc_cut.specs.Flows.{is_walk_by}
use Rattle.inc_cut.proofs.PhaseLemmas.{walk_last}
use Rattle.inc_cut.proofs.searches.descents.Descent.go_back.Goals as goal

pub step_source-self-requires : goal.step_source-self-requires
step_source-self-requires c =
    let r = c.requires in
    (walk_last c.args.graph.now r.0 r.1 r.2 c.pop.new.self.items c.in-Some.step (ap (λ (l : List Step). is_walk_by c.args.graph.now r.0 r.1 l r.2) (sym c.in-Some.ensures.items) ∙ r.3)).1
