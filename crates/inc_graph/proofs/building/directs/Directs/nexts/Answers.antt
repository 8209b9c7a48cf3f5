use Rattle.std.proofs.Common.{◌<◌, ◌++◌, [], ◌∷◌, ◌∙◌, List, ap, length, rules, sym, take}
use Rattle.inc_graph.specs.Nexts.{Direct, Next, nexts_among, seen_placed}
use Rattle.inc_graph.proofs.FurtherLemmas.{among_append}
use Rattle.inc_graph.proofs.PlaceLemmas.{take_more}
use Rattle.inc_graph.proofs.building.directs.Directs.nexts.Goals as goal

pub loop-place-preserved : goal.loop-place-preserved
loop-place-preserved c =
    let layout = c.args.lookup.now in
    let file = c.args.file in
    let ds : List Direct = c.args.self.now in
    let i = c.loop-place.place in
    let d : Direct = seen_placed c.at.result in
    let low : i < length ds = search rules in
    c.in_ok-add_next.ensures
    ∙ ap (λ (l : List Next). l ++ nexts_among layout file (d ∷ [])) c.loop-place.invariant
    ∙ sym (ap (nexts_among layout file) (take_more ds i d low c.at.ensures) ∙ among_append layout file (take i ds) (d ∷ []))
