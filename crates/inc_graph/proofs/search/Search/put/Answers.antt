use Rattle.std.proofs.Common.{◌≡◌, ◌<◌, ◌++◌, ◌∷◌, [], length, arith, rules}
use Rattle.std.specs.Prelude.{slice_index}
use Rattle.std.proofs.lemmas.List.{length_push}
use Rattle.inc_graph.proofs.QueueLemmas.{kept_new, kept_room}
use Rattle.inc_graph.proofs.search.Search.put.Goals as goal

pub overflow_cast-len : goal.overflow_cast-len
overflow_cast-len g c =
    let long : c.len.result ≡ length (c.self.inside.queue.items ++ c.args.visit ∷ []) = search rules in
    let within : c.args.visit.file < length c.self.inside.places.items = search rules in
    let free : slice_index c.self.inside.places.items c.args.visit.file ≡ 0 = search rules in
    let room = kept_room c.self.inside.queue.items c.self.inside.places.items c.args.visit.file c.self.invariant within free in
    let longer = length_push c.self.inside.queue.items c.args.visit in
    let few = c.self.invariant.few in
    omega arith

pub invariant_of-self-then-index-eq0 : goal.invariant_of-self-then-index-eq0
invariant_of-self-then-index-eq0 g c =
    let long : c.len.result ≡ length (c.self.inside.queue.items ++ c.args.visit ∷ []) = search rules in
    let within : c.args.visit.file < length c.self.inside.places.items = search rules in
    let free : slice_index c.self.inside.places.items c.args.visit.file ≡ 0 = search rules in
    rw c.in_ok-push.ensures.items
    (kept_new c.self.inside.queue.items c.self.inside.places.items c.args.visit c.index-index.result c.len.result c.self.invariant within (search rules) c.index-index.ensures free long)
