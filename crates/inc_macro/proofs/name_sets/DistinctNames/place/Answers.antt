use Rattle.std.proofs.Common.{◌∙◌, ◌+◌, ℕ, List, Option, Some, length, ap, sym, position, bytes_eq, option_map}
use Rattle.inc_macro.proofs.JoinedNames.{position-found, missed-by}
use Rattle.inc_macro.proofs.name_sets.DistinctNames.place.Goals as goal

pub returns-in-Some-clause-place : goal.returns-in-Some-clause-place
returns-in-Some-clause-place c =
    let found : List (List ℕ) → Option ℕ = λ ks. position (bytes_eq c.args.name.now) ks in
    sym (position-found (bytes_eq c.args.name.now) c.in-Some.place c.self.inside.first.items c.self.inside.more
    (ap found (sym c.deref.ensures.value) ∙ sym c.in-Some.ensures.place))
    ∙ ap found c.self.view_is

pub returns-in-Some-place-clause-place : goal.returns-in-Some-place-clause-place
returns-in-Some-place-clause-place c =
    let firsts : List (List ℕ) = c.self.inside.first.items in
    ap (λ (n : ℕ). Some (n + c.in-Some-place.place)) (c.len.ensures ∙ c.self.inside.first.ok.0)
    ∙ ap (λ (o : Option ℕ). option_map (λ k. length firsts + k) o) c.in-Some-place.ensures.place
    ∙ missed-by c.args.name.now _ firsts c.self.inside.more c.args.self.now c.deref.ensures.value c.in_default.ensures.place c.self.view_is

pub returns-in-None-clause-place : goal.returns-in-None-clause-place
returns-in-None-clause-place c =
    let firsts : List (List ℕ) = c.self.inside.first.items in
    ap (λ (o : Option ℕ). option_map (λ k. length firsts + k) o) c.in-None.ensures.place
    ∙ missed-by c.args.name.now _ firsts c.self.inside.more c.args.self.now c.deref.ensures.value c.in_default.ensures.place c.self.view_is
