use Rattle.std.proofs.Common.{ap, sym, ◌∙◌, option_map}
use Rattle.inc_macro.specs.Tables.{table_of}
use Rattle.inc_expand.specs.Places.{place_value}
use Rattle.inc_text.specs.Languages.{is_gnu}
use Rattle.inc_pp.proofs.OperatorSteps.{none-mapped, plain-done}
use Rattle.inc_pp.proofs.expansions.put_unbounded.Goals as goal

pub returns-clause-done : goal.returns-clause-done
returns-clause-done c =
    let e = c.in_ok-put_plain.ensures.done in
    plain-done (table_of c.args.around.now.macros.now).language (ap is_gnu (sym c.language.ensures) ∙ sym c.is_gnu.ensures ∙ c.if-is_gnu.false)
    (option_map place_value c.args.marks) (none-mapped place_value c.args.marks (sym c.is_some.ensures ∙ c.if-is_some.false))
    c.args.output.now c.put_plain.new.output e.0 c.put_plain.new.budget _ e.2 e.1
