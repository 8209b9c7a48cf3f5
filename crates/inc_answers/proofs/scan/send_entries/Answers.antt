use Rattle.std.proofs.Common.{◌≡◌, List, [], ◌++◌, length, sym, ap, ◌∙◌}
use Rattle.std.proofs.lemmas.List.{append-nil}
use Rattle.std.specs.List.{concat}
use Rattle.inc_directive.specs.FileDirectives.{Directive, directives_in}
use Rattle.inc_directive.specs.Parts.{lines_of_parts}
use Rattle.inc_answers.specs.ScanText.{entries}
use Rattle.inc_answers.proofs.SendingLemmas.{sends_none, sends_then}
use Rattle.inc_answers.proofs.ScanLemmas.{are_said, entries_next}
use Rattle.inc_answers.proofs.scan.send_entries.Goals as goal

pub loop-directive-init : goal.loop-directive-init
loop-directive-init g c = ([], sends_none _, ap (λ ds. concat (entries ds)) c.inclusions-left.ensures)

pub loop-directive-preserved : goal.loop-directive-preserved
loop-directive-preserved g c =
    let before = c.loop-directive.invariant in
    (_, sends_then _ _ _ _ _ before.1 c.send_entry.ensures, entries_next _ _ _ _ _ c.in-Some.ensures before.2)

pub returns : goal.returns
returns g c =
    let all = c.loop-directive.invariant in
    let ds = directives_in (lines_of_parts c.args.found.now) in
    let whole : all.0 ≡ concat (entries ds) =
    sym (append-nil all.0) ∙ ap (λ (left : List Directive). all.0 ++ concat (entries left)) (sym c.in_default.ensures.0) ∙ all.2 ∙ ap concat (are_said ds).said in
    let count : c.inclusion_count.result ≡ length (entries ds) = c.inclusion_count.ensures ∙ (are_said ds).count in
    rw (← whole, ← count) (sends_then _ _ _ _ _ c.send_count_line.ensures all.1)
