use Rattle.std.proofs.Common.{◌∙◌, ◌++◌, ℕ, List, [], ◌∷◌, ap, ap₂, codes}
use Rattle.inc_answers.specs.MarkReasons.{near_words, nearest_to, place}
use Rattle.inc_answers.specs.declared.mark_reasons.Nearest.{Nearest}
use Rattle.inc_answers.proofs.NoteLemmas.{joined, joined_as}
use Rattle.inc_answers.proofs.mark_reasons.no_directive.Goals as goal

pub returns : goal.returns
returns c =
    let m = c.args.mark in
    let head = codes "incut: " ++ c.args.place.now ++ codes ": no include directive at " in
    let placed = head ++ place m.path m.line in
    let near = near_words m.path (nearest_to c.args.project.now c.args.graph.now m) in
    let begun =
    joined [] (codes "incut: ") c.args.place.now c.extend_from_slice.new.self.items c.extend_from_slice-2.new.self.items
    (c.in_ok-extend_from_slice.ensures.items ∙ ap (λ (l : List ℕ). l ++ codes "incut: ") c.new-text.ensures.items) c.in_ok-extend_from_slice-2.ensures.items
    in
    let headed =
    joined [] (codes "incut: " ++ c.args.place.now) (codes ": no include directive at ") c.extend_from_slice-2.new.self.items c.extend_from_slice-3.new.self.items begun
    c.in_ok-extend_from_slice-3.ensures.items
    in
    let at =
    joined_as [] head (place m.path m.line) (place c.path-path.result.now c.line-line.result) c.extend_from_slice-3.new.self.items c.put_place.new.text.items headed
    c.in_ok-put_place.ensures (ap₂ (λ (p : List ℕ) (l : ℕ). place p l) c.path-path.ensures c.line-line.ensures)
    in
    let told =
    joined_as [] placed near (near_words c.path-path.result.now c.nearest_to-near.result) c.put_place.new.text.items c.put_near.new.text.items at
    c.in_ok-put_near.ensures (ap₂ (λ (p : List ℕ) (n : Nearest). near_words p n) c.path-path.ensures c.nearest_to-near.ensures)
    in
    c.of.ensures ∙ joined [] (placed ++ near) (10 ∷ []) c.put_near.new.text.items c.push.new.self.items told c.in_ok-push.ensures.items
