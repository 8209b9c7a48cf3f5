use Rattle.std.proofs.Common.{◌<◌, ◌≡◌, [], None, get_or, length, rules, sym, ◌∙◌}
use Rattle.std.proofs.lemmas.Bool.{both_ways}
use Rattle.inc_lookup.specs.Paths.{is_absolute}
use Rattle.inc_lookup.proofs.PathSearch.{found_here, found_on}
use Rattle.inc_lookup.proofs.projects.Project.look_in_dirs.Goals as goal

pub look_at-requires : goal.look_at-requires
look_at-requires c = c.dir-dir.ensures.normal

pub returns-in-Some-clause-found : goal.returns-in-Some-clause-found
returns-in-Some-clause-found c = λ text r relative.
    let low : c.loop-index.index < length c.args.search.now.dirs = search rules in
    let found = sym (c.in_ok-found.ensures.found text r (λ absolute. absurd (both_ways (is_absolute text) relative absolute))) ∙ c.in-Some.is in
    sym (found_here c.args.self.now.paths c.args.search.now.dirs c.dir-dir.result.now c.loop-index.index text c.in-Some.found low (sym c.dir-dir.ensures.dir) found)
    ∙ c.loop-index.invariant text r relative

pub loop-index-preserved : goal.loop-index-preserved
loop-index-preserved c = λ text r relative.
    let low : c.loop-index.index < length c.args.search.now.dirs = search rules in
    let none : c.in_ok-found.field-0 ≡ None = search rules in
    let found = sym (c.in_ok-found.ensures.found text r (λ absolute. absurd (both_ways (is_absolute text) relative absolute))) ∙ none in
    sym (found_on c.args.self.now.paths c.args.search.now.dirs c.dir-dir.result.now c.loop-index.index text low (sym c.dir-dir.ensures.dir) found)
    ∙ c.loop-index.invariant text r relative
