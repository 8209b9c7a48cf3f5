use Rattle.std.proofs.Common.{true, ap, ◌∙◌, refl, rules}
use Rattle.inc_pp.specs.declared.causes.Cause.TheVariants.{Expand}
use Rattle.inc_pp.specs.Tasks.{caused}
use Rattle.inc_pp.proofs.Prints.{taken-line, taken-back}
use Rattle.inc_pp.proofs.expansions.put_plain.Goals as goal

pub returns-in-Ok-clause-done : goal.returns-in-Ok-clause-done
returns-in-Ok-clause-done c =
    let e = c.in-Ok.ensures.items in
    (e.items, taken-line true c.args.output.now c.expand_into.new.sink e.items e.taken, ap (caused Expand) e.same)

pub returns-in-Err : goal.returns-in-Err
returns-in-Err c =
    let e = c.in-Err.ensures.fault (search rules) in
    record {
      done = tt;
      stop = (refl, c.truncate.ensures ∙ taken-back true c.args.output.now c.expand_into.new.sink e.items c.count-count.result c.count-count.ensures e.taken, ap (caused Expand) e.same);
      left = c.in-Err.ensures.left;
    }
