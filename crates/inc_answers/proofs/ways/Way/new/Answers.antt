use Rattle.std.proofs.Common.{◌≡◌, ◌+◌, ◌∙◌, List, ap, arith, length, rules}
use Rattle.inc_graph.specs.declared.graphs.Edge as declared
use Rattle.inc_graph.proofs.NumberedEdges.{length-numbered_from}
use Rattle.inc_answers.proofs.ways.Way.new.Goals as goal

pub returns : goal.returns
returns c =
    let room : length c.in_ok-files.files.items ≡ length c.edges.result.now + 1 = search rules in
    let edges : length c.edges.result.now ≡ length c.args.graph.now.edges = ap (λ (es : List declared.Edge). length es) c.edges.ensures.edges ∙ length-numbered_from 0 c.args.graph.now.edges in
    omega arith
