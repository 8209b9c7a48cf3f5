use Rattle.std.proofs.Common.{◌≡◌, ◌∷◌, [], ◌++◌, true, false, ℕ, Some, None, refl, sym, ap, ◌∙◌}
use Rattle.std.specs.Prelude.{bytes_eq}
use Rattle.std.specs.List.{list_any}
use Rattle.std.proofs.lemmas.Bool.{not-true}
use Rattle.inc_lookup.specs.Projects.{place_of}
use Rattle.inc_lookup.proofs.ListingLemmas.{tabled_past, tabled_new, tabled_there, position_there, is_some-position, not-false, none_from_is_some}
use Rattle.inc_lookup.proofs.listings.PathTable.add.Goals as goal

pub returns-then-is_some : goal.returns-then-is_some
returns-then-is_some c = λ forms h.
    tabled_past forms c.args.self.now.paths c.args.path.now c.args.self.now.same (sym c.is_some.ensures ∙ c.if-is_some.true) h

pub returns-then-is_new : goal.returns-then-is_new
returns-then-is_new c = λ forms h.
    let keys = c.args.self.now.paths in
    let path = c.args.path.now in
    let absent : list_any (bytes_eq path) keys ≡ false = not-true _ (sym c.in_ok-first.ensures.is_new ∙ c.if-is_new.true) in
    let none : place_of path keys ≡ None = none_from_is_some _ (is_some-position (bytes_eq path) keys ∙ absent) in
    let added : c.insert.new.self ≡ keys ++ path ∷ [] = c.in_ok-first.ensures.paths ∙ rw absent refl in
    tabled_new forms keys path c.args.self.now.same c.insert.new.self (sym c.is_some.ensures ∙ c.if-is_some.false) added none h

pub returns : goal.returns
returns c = λ forms h.
    let keys = c.args.self.now.paths in
    let path = c.args.path.now in
    let there : list_any (bytes_eq path) keys ≡ true = not-false _ (sym c.in_ok-first.ensures.is_new ∙ c.if-is_new.false) in
    let some : place_of path keys ≡ Some c.in_ok-first.first =
    position_there (bytes_eq path) keys (is_some-position (bytes_eq path) keys ∙ there) ∙ ap (λ (i : ℕ). Some i) (sym c.in_ok-first.ensures.at) in
    tabled_there forms keys path c.args.self.now.same c.insert.new.self c.in_ok-first.first c.len-second.result (sym c.is_some.ensures ∙ c.if-is_some.false) some c.len-second.ensures h
