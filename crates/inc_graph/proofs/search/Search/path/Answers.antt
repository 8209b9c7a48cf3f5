use Rattle.std.proofs.Common.{length, refl, sym, ◌∙◌, arith}
use Rattle.std.proofs.lemmas.Option.{slice_get_read}
use Rattle.inc_graph.proofs.QueueLemmas.{parent_is}
use Rattle.inc_graph.proofs.PathTraces.{path_step, path_begun}
use Rattle.inc_graph.proofs.search.Search.path.Goals as goal

pub loop-parent-smaller : goal.loop-parent-smaller
loop-parent-smaller g c =
    let vs = c.self.inside.queue.items in
    let there = slice_get_read vs (length vs) c.loop-parent.at c.index.result.now refl c.loop-parent.invariant.within c.index.ensures in
    let less = c.self.invariant.falling c.loop-parent.at c.in-Some.parent (parent_is vs c.loop-parent.at c.index.result.now there ∙ c.in-Some.is) in
    omega (arith, less, c.from-at.ensures)

pub loop-parent-preserved : goal.loop-parent-preserved
loop-parent-preserved g c =
    let vs = c.self.inside.queue.items in
    let there = slice_get_read vs (length vs) c.loop-parent.at c.index.result.now refl c.loop-parent.invariant.within c.index.ensures in
    let at = parent_is vs c.loop-parent.at c.index.result.now there ∙ c.in-Some.is in
    let less = c.self.invariant.falling c.loop-parent.at c.in-Some.parent at in
    rw c.from-at.ensures (record {
      within = let within = c.loop-parent.invariant.within in omega arith;
      so_far = path_step vs c.args.place c.loop-parent.at c.loop-parent.steps.items c.push.new.self.items c.in-Some.parent c.self.invariant.falling at c.in_ok-push.ensures.items c.loop-parent.invariant.so_far;
    })

pub returns : goal.returns
returns g c =
    let vs = c.self.inside.queue.items in
    let there = slice_get_read vs (length vs) c.loop-parent.at c.index.result.now refl c.loop-parent.invariant.within c.index.ensures in
    rw (← c.self.view_is)
    (c.reverse.ensures.items ∙ sym (c.loop-parent.invariant.so_far ∙ path_begun vs c.loop-parent.at _ c.self.invariant.falling (parent_is vs c.loop-parent.at c.index.result.now there ∙ c.in_default.is)))
