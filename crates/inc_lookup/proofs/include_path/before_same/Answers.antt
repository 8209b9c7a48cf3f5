use Rattle.std.proofs.Common.{◌≡◌, true, false, ap, subst, sym, ◌∙◌, arith, map}
use Rattle.inc_lookup.specs.IncludePath.{before_same, first_form, is_same_form}
use Rattle.inc_lookup.specs.Paths.{normal_form}
use Rattle.inc_lookup.proofs.NamedPaths.{before_nothing, begins_with, with_last, without_last}
use Rattle.inc_lookup.proofs.include_path.before_same.Goals as goal

pub returns-in_default : goal.returns-in_default
returns-in_default c =
    before_nothing c.args.dirs.now (map (λ w. w.now) c.args.words.now) (omega (arith, c.in_default.len_below))

pub returns-then-branch : goal.returns-then-branch
returns-then-branch c =
    let first = begins_with c.args.dirs.now c.next-item.result c.next.inside.name.now c.in-len1-up.len_at_least c.next-item.is (ap (λ d. d.name) c.next.view_is) in
    rw first (without_last (normal_form c.next.inside.name.now) c.args.words.now _ c.in-len1-up-words.len_at_least (sym c.in_ok-is_same.ensures ∙ c.if-branch.true))

pub returns-else-branch : goal.returns-else-branch
returns-else-branch c =
    let first = begins_with c.args.dirs.now c.next-item.result c.next.inside.name.now c.in-len1-up.len_at_least c.next-item.is (ap (λ d. d.name) c.next.view_is) in
    rw first (with_last (normal_form c.next.inside.name.now) c.args.words.now _ c.in-len1-up-words.len_at_least (sym c.in_ok-is_same.ensures ∙ c.if-branch.false))
