use Rattle.std.proofs.Common.{◌≡◌, ◌∙◌, ◌<◌, ◌≤◌, List, ℕ, ap, arith, get_or, length, map, rules, sym}
use Rattle.std.proofs.lemmas.List.{get_or-map, length-map}
use Rattle.inc_answers.specs.JsonAnswers.{about_of, edges_text, puts}
use Rattle.inc_answers.proofs.JsonSteps.{item_at, list_ended}
use Rattle.inc_answers.proofs.json_parts.JsonText.put_edge_lists.Goals as goal

pub loop-place-preserved : goal.loop-place-preserved
loop-place-preserved c =
    let lists = c.args.chains.now in
    let i = c.loop-place.place in
    let x = c.index-chains-place.result in
    let low : i < length (map (λ v. v.items) lists) = omega (arith, c.loop-place-test.true, length-map lists (λ v. v.items)) in
    let at : x.items ≡ get_or (map (λ v. v.items) lists) i x.items =
    ap (λ v. v.items) c.index-chains-place.is ∙ sym (get_or-map (λ v. v.items) lists i x x.items c.loop-place-test.true) in
    let put = c.in_ok-put_edges.ensures ∙ ap (λ (l : List ℕ). puts c.put_comma.new.self (edges_text (about_of c.put_comma.new.self) l)) c.deref.ensures.value in
    item_at edges_text c.loop-place.self c.put_comma.new.self c.put_edges.new.self _ i x.items (map (λ v. v.items) lists) low at c.in_ok-put_comma.ensures put c.loop-place.invariant

pub returns : goal.returns
returns c =
    let lists = c.args.chains.now in
    let past : length (map (λ v. v.items) lists) ≤ c.loop-place.place = omega (arith, c.loop-place-test.false, length-map lists (λ v. v.items)) in
    list_ended edges_text _ c.args.self.now c.put.new.self c.loop-place.self c.put-2.new.self c.loop-place.place (map (λ v. v.items) lists) c.in_ok-put.ensures past c.loop-place.invariant c.put-2.ensures
