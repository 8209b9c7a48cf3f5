use Rattle.std.proofs.Common.{[], arith, rules, ◌∙◌}
use Rattle.inc_graph.proofs.PlaceLemmas.{reaches_none, sources_more, sources_all}
use Rattle.inc_graph.proofs.building.places.Places.start.Goals as goal

pub loop-source-init : goal.loop-source-init
loop-source-init c = record {
  files = search rules;
  found = rw c.new.ensures.items (reaches_none []);
}

pub reach-requires : goal.reach-requires
reach-requires c =
    let low = c.requires c.loop-source.source-index c.source-item.result c.loop-source-test.true in
    omega (arith, low, c.source-item.is, c.loop-source.invariant.files)

pub loop-source-preserved : goal.loop-source-preserved
loop-source-preserved c = record {
  files = c.in_ok-reach.ensures.files ∙ c.loop-source.invariant.files;
  found = sources_more c.args.sources.now c.loop-source.source-index c.source-item.result c.loop-source.places.found c.reach.new.self.found c.loop-source-test.true c.source-item.is
      c.loop-source.invariant.found c.in_ok-reach.ensures.reached;
}

pub returns-clause-files : goal.returns-clause-files
returns-clause-files c = c.loop-source.invariant.files

pub returns-clause-found : goal.returns-clause-found
returns-clause-found c =
    sources_all c.args.sources.now c.loop-source.source-index c.loop-source.places.found (omega (arith, c.loop-source-test.false)) c.loop-source.invariant.found
