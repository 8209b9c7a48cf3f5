use Rattle.std.proofs.Common.{◌≡◌, Ok, Err, List, ap, sym, ◌∙◌}
use Rattle.std.proofs.lemmas.Result.{err_from_is_err_and}
use Rattle.inc_directive.specs.FileDirectives.{balance_fault, directives_in, line_directives, tree_directives}
use Rattle.inc_directive.specs.Groups.{FileLine, file_lines, group_tree}
use Rattle.inc_directive.specs.Parts.{lines_of_parts}
use Rattle.inc_token.specs.LineWalk.{lines_or_none}
use Rattle.inc_directive.proofs.SplitParts.{nothing_removed}
use Rattle.inc_directive.proofs.TreeLines.{lines-group_tree}
use Rattle.inc_directive.proofs.files.read_lines.Goals as goal

pub returns-in_err-check-clause-fault : goal.returns-in_err-check-clause-fault
returns-in_err-check-clause-fault c =
    let found = c.in_ok-lines.ensures.lines in
    let language = c.args.language in
    let same : lines_of_parts c.in_ok-lines.lines ≡ file_lines language found.0 = found.2 ∙ ap (file_lines language) (nothing_removed language found.0) in
    let p = err_from_is_err_and c.from_residual-in_err-check.result c.from_residual-in_err-check.ensures.1 in
    rw p.1 (λ known.
    ap (line_directives language) found.1
    ∙ ap (λ (ls : List FileLine). tree_directives (group_tree ls)) (sym same)
    ∙ ap tree_directives (c.in_err-check.ensures.fault (λ e. known (p.2 ∙ ap balance_fault e)))
    ∙ ap Err (sym p.2))

pub returns-clause-directives : goal.returns-clause-directives
returns-clause-directives c =
    let found = c.in_ok-lines.ensures.lines in
    let language = c.args.language in
    let same : lines_of_parts c.in_ok-lines.lines ≡ file_lines language found.0 = found.2 ∙ ap (file_lines language) (nothing_removed language found.0) in
    let tree = c.in_ok-check.ensures.tree in
    ap (line_directives language) found.1
    ∙ ap (λ (ls : List FileLine). tree_directives (group_tree ls)) (sym same)
    ∙ ap tree_directives tree.1
    ∙ ap (λ (ls : List FileLine). Ok (directives_in ls)) (lines-group_tree (lines_of_parts c.in_ok-lines.lines) tree.0 tree.1)

pub returns-clause-lines : goal.returns-clause-lines
returns-clause-lines c =
    let found = c.in_ok-lines.ensures.lines in
    let language = c.args.language in
    found.2 ∙ ap (file_lines language) (nothing_removed language found.0 ∙ sym (ap lines_or_none found.1))
