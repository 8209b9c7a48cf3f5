use Rattle.std.proofs.Common.{◌≡◌, Err, rules}
use Rattle.inc_directive.specs.FileDirectives.{directives_in}
use Rattle.inc_directive.specs.Parts.{lines_of_parts}
use Rattle.inc_answers.specs.Printed.{answered}
use Rattle.inc_answers.specs.ScanForms.{form_text, scan, scan_result}
use Rattle.inc_answers.proofs.scan.scan_source.Goals as goal

pub returns-in-Some-clause-sent : goal.returns-in-Some-clause-sent
returns-in-Some-clause-sent g c =
    let is : scan c.args.form c.args.language c.args.path.now c.args.title.now c.args.source.items
    ≡ scan_result c.args.form c.args.path.now c.args.title.now (Err c.in-Err.fault) = search rules in
    rw is c.refuse_bad_file.ensures.sent

pub returns-in-Ok-read_lines-clause-sent : goal.returns-in-Ok-read_lines-clause-sent
returns-in-Ok-read_lines-clause-sent g c =
    let is : scan c.args.form c.args.language c.args.path.now c.args.title.now c.args.source.items
    ≡ answered (form_text c.args.form c.args.path.now (directives_in (lines_of_parts c.in-Ok-read_lines.found))) = search rules in
    rw is c.send_found.ensures.sent
