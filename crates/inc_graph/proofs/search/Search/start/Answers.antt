use Rattle.inc_graph.proofs.SearchLemmas.{start_low}
use Rattle.inc_graph.proofs.search.Search.start.Goals as goal

pub put-requires-clause-file : goal.put-requires-clause-file
put-requires-clause-file g c =
    start_low _ c.args.files c.args.starts.now c.loop-start.start-index c.start-item.result c.loop-start.search c.requires.within c.loop-start-test.true c.start-item.is c.loop-start.invariant
