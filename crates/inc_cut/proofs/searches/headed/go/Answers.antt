use Rattle.std.proofs.Common.{◌∷◌, ◌++◌, [], ◌∙◌, sym, ap}
use Rattle.std.proofs.lemmas.Bool.{ltb-true}
use Rattle.inc_cut.specs.declared.flows.Step.{Step}
use Rattle.inc_cut.proofs.PhaseLemmas.{way_push}
use Rattle.inc_cut.proofs.searches.headed.go.Goals as goal

pub returns : goal.returns
returns g c =
    let graph = c.args.graph.now in
    let passes = g.T.StepTest.passes c.args.test.now in
    let levels = c.args.levels.now in
    let way = c.args.way.now in
    let next = c.with_target-next in
    let rises = sym c.leads_up.ensures.up ∙ c.if-not-leads_up.false in
    way_push graph passes levels way.steps.items c.push.new.self.items way.file next.result c.requires.way (record {
      real = next.ensures.real;
      passes = ap passes next.ensures.step ∙ (sym c.passes.ensures ∙ c.if-not-passes.false);
      up = ltb-true _ _ rises;
      most = c.leads_up.ensures.most;
    })
    (c.in_ok-push.ensures.items ∙ ap (λ (s : Step). way.steps.items ++ s ∷ []) (sym next.ensures.step))
