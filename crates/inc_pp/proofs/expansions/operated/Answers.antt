use Rattle.std.proofs.Common.{refl, ap, sym, ◌∙◌, rules, true, None, Result, Ok, List}
use Rattle.inc_macro.specs.Results.{◌>>=◌}
use Rattle.inc_macro.specs.Tables.{table_of}
use Rattle.inc_expand.specs.Expansion.{Item, Meter}
use Rattle.inc_expand.specs.declared.faults.ExpandFault.{ExpandFault}
use Rattle.inc_pp.specs.declared.causes.Cause.TheVariants.{Expand}
use Rattle.inc_pp.specs.Operators.{marks_in}
use Rattle.inc_pp.specs.Pragmas.{laid}
use Rattle.inc_pp.specs.Tasks.{caused}
use Rattle.inc_pp.proofs.OperatorSteps.{all-taken, operated-bad, operated-done}
use Rattle.inc_pp.proofs.expansions.operated.Goals as goal

pub returns-in-Ok-finish-clause-done : goal.returns-in-Ok-finish-clause-done
returns-in-Ok-finish-clause-done c =
    let e = c.in-Ok.ensures.items in
    let all = all-taken true c.args.operators.now c.expand_into.new.sink e.items e.taken in
    operated-done (table_of c.args.around.now.macros.now).language (marks_in c.args.operators.now) c.args.operators.now.output c.expand_into.new.sink.output e.items
    c.expand_into.new.budget _ (ap (caused Expand) e.same) c.in-Ok-finish.once (sym (c.requires e.items) ∙ sym all.0 ∙ c.in-Ok-finish.ensures.done)

pub returns-in-Err-finish-clause-stop : goal.returns-in-Err-finish-clause-stop
returns-in-Err-finish-clause-stop c =
    let e = c.in-Ok.ensures.items in
    let all = all-taken true c.args.operators.now c.expand_into.new.sink e.items e.taken in (
      refl,
      all.1,
      operated-bad (table_of c.args.around.now.macros.now).language (marks_in c.args.operators.now) c.args.operators.now.output c.expand_into.new.sink.output e.items
          c.expand_into.new.budget _ (ap (caused Expand) e.same) c.in-Err-finish.cause (sym (c.requires e.items) ∙ sym all.0 ∙ c.in-Err-finish.ensures.fault),
    )

pub returns-in-Err : goal.returns-in-Err
returns-in-Err c =
    let e = c.in-Err.ensures.fault (search rules) in
    record {
      done = tt;
      stop = (
        refl,
        (all-taken true c.args.operators.now c.expand_into.new.sink e.items e.taken).1,
        ap (λ (r : Result (List Item × Meter) ExpandFault). caused Expand r >>= λ x. laid (table_of c.args.around.now.macros.now).language (marks_in c.args.operators.now) None x.0 >>= λ l. Ok (l, x.1)) e.same,
      );
    }
