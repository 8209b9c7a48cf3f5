use Rattle.std.proofs.Common.{◌∙◌, List, Result, IfOk, subst, sym, ap, map}
use Rattle.std.specs.List.Sorted.{IsStrictlyIncreasing}
use Rattle.inc_directive.specs.FileDirectives.{Directive, file_directives}
use Rattle.inc_directive.specs.declared.files.FileFault.{FileFault}
use Rattle.inc_answers.proofs.NameOrder.{inclusions_rise, line_of}
use Rattle.inc_answers.proofs.directive_names.names_of.Goals as goal

pub names_in-requires : goal.names_in-requires
names_in-requires c =
    inclusions_rise c.in-Ok-read_lines.found
    (subst (λ (r : Result (List Directive) FileFault). IfOk r (λ ds. IsStrictlyIncreasing (map line_of ds)))
    (sym (ap (file_directives c.args.language) c.in-Ok.ensures.text) ∙ c.in-Ok-read_lines.ensures.directives) (c.directives_ascend.ensures.order c.args.language c.args.bytes.now))
