use Rattle.std.proofs.Common.{length, refl, sym, ◌∙◌, arith}
use Rattle.std.proofs.lemmas.Option.{slice_get_read}
use Rattle.inc_graph.proofs.QueueLemmas.{parent_is}
use Rattle.inc_graph.proofs.PathTraces.{trace_step, path_begun}
use Rattle.inc_graph.proofs.search.Search.trace.Goals as goal

pub overflow_sub-start : goal.overflow_sub-start
overflow_sub-start g c =
    let vs = c.self.inside.queue.items in
    let there = slice_get_read vs (length vs) c.loop-parent.at c.index.result.now refl c.loop-parent.invariant.within c.index.ensures in
    let less = c.self.invariant.falling c.loop-parent.at c.in-Some.parent (parent_is vs c.loop-parent.at c.index.result.now there ∙ c.in-Some.is) in
    let room = c.loop-parent.invariant.room in
    omega arith

pub index_mut-requires : goal.index_mut-requires
index_mut-requires g c =
    let vs = c.self.inside.queue.items in
    let there = slice_get_read vs (length vs) c.loop-parent.at c.index.result.now refl c.loop-parent.invariant.within c.index.ensures in
    let less = c.self.invariant.falling c.loop-parent.at c.in-Some.parent (parent_is vs c.loop-parent.at c.index.result.now there ∙ c.in-Some.is) in
    let room = c.loop-parent.invariant.room in
    let below = c.loop-parent.invariant.below in
    let long = c.loop-parent.invariant.long in
    let end = c.requires.end in
    omega arith

pub loop-parent-smaller : goal.loop-parent-smaller
loop-parent-smaller g c =
    let vs = c.self.inside.queue.items in
    let there = slice_get_read vs (length vs) c.loop-parent.at c.index.result.now refl c.loop-parent.invariant.within c.index.ensures in
    let less = c.self.invariant.falling c.loop-parent.at c.in-Some.parent (parent_is vs c.loop-parent.at c.index.result.now there ∙ c.in-Some.is) in
    omega (arith, less, c.from-at.ensures)

pub loop-parent-preserved : goal.loop-parent-preserved
loop-parent-preserved g c =
    let vs = c.self.inside.queue.items in
    let there = slice_get_read vs (length vs) c.loop-parent.at c.index.result.now refl c.loop-parent.invariant.within c.index.ensures in
    rw c.from-at.ensures
    (trace_step vs _ _ _ _ _ _ _ c.self.invariant.falling (parent_is vs c.loop-parent.at c.index.result.now there ∙ c.in-Some.is) c.requires.end c.loop-parent.invariant)

pub returns-clause-path : goal.returns-clause-path
returns-clause-path g c =
    let vs = c.self.inside.queue.items in
    let there = slice_get_read vs (length vs) c.loop-parent.at c.index.result.now refl c.loop-parent.invariant.within c.index.ensures in
    rw (← c.self.view_is)
    (sym (c.loop-parent.invariant.so_far ∙ path_begun vs c.loop-parent.at _ c.self.invariant.falling (parent_is vs c.loop-parent.at c.index.result.now there ∙ c.in_default.is)))
