use Rattle.std.proofs.Common.{◌<◌, ◌∙◌, [], ap, arith, length, subst, sym}
use Rattle.std.proofs.lemmas.List.{get_or-map, length-map}
use Rattle.inc_lookup.specs.Invariants.{IsNormal}
use Rattle.inc_lookup.proofs.search_dirs.IncludePath.dir.Goals as goal

pub returns-clause-normal : goal.returns-clause-normal
returns-clause-normal c =
    let long = length-map c.self.inside.dirs.items (λ d. d.items) in
    let same = ap (λ s. length s.dirs) c.self.view_is in
    let low : c.args.index < length c.self.inside.dirs.items = omega (arith, long, same, c.requires) in
    subst IsNormal (get_or-map (λ d. d.items) c.self.inside.dirs.items c.args.index c.index.result.now [] low ∙ sym (ap (λ d. d.items) c.index.ensures) ∙ sym c.deref.ensures.value)
    (c.self.invariant c.args.index [] (omega (arith, long, low)))
