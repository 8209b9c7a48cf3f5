use Rattle.inc_graph.proofs.fixed.Fixed.by_costs.Goals as goal

pub keep_edges-requires : goal.keep_edges-requires
keep_edges-requires c = record { long = c.fix_marks.ensures.long }
