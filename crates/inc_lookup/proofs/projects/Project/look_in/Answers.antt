use Rattle.std.proofs.Common.{◌<◌, length, arith, true, false, sym, ◌∙◌}
use Rattle.inc_lookup.proofs.NormalLemmas.{found_as-joined}
use Rattle.inc_lookup.proofs.ReducedLemmas.{bare_found, none_so_long}
use Rattle.inc_lookup.proofs.projects.Project.look_in.Goals as goal

pub returns-then-name-self-clause-found : goal.returns-then-name-self-clause-found
returns-then-name-self-clause-found c = λ text r below.
    let long : c.self.inside.longest < length c.args.name.now.rest.now = omega (arith, c.if-name-self.true) in
    rw (← c.self.view_is)
    (sym (none_so_long c.self.inside.paths c.self.inside.longest c.args.dir.now text c.args.name.now.climbs c.args.name.now.rest.now c.self.invariant.short long c.requires below r))

pub returns-then-branch-clause-found : goal.returns-then-branch-clause-found
returns-then-branch-clause-found c = λ text r below.
    let told = rw (c.root_len-root.ensures, c.in_ok-extend_from_slice.ensures.items, c.clear.ensures.items, c.if-branch.true) at c.in_ok-push_onto.ensures in
    c.file-then-branch.ensures.place
    ∙ rw c.deref.ensures.value (found_as-joined c.args.self.now.paths c.args.dir.now text c.push_onto.new.out.items true c.requires below (λ parts shows. told text parts r shows))

pub returns-else-branch-clause-found : goal.returns-else-branch-clause-found
returns-else-branch-clause-found c = λ text r below.
    let told = rw (c.root_len-root.ensures, c.in_ok-extend_from_slice.ensures.items, c.clear.ensures.items, c.if-branch.false) at c.in_ok-push_onto.ensures in
    found_as-joined c.args.self.now.paths c.args.dir.now text c.push_onto.new.out.items false c.requires below (λ parts shows. told text parts r shows)

pub returns-then-name-eq0-clause-found : goal.returns-then-name-eq0-clause-found
returns-then-name-eq0-clause-found c = λ text r below.
    c.file.ensures.place
    ∙ bare_found c.args.self.now.paths c.args.dir.now text c.args.name.now.rest.now c.args.name.now.climbs (sym c.is_empty.ensures ∙ c.if-is_empty.true) c.if-name-eq0.true below r
