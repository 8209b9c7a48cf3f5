use Rattle.std.proofs.Common.{rules}
use Rattle.inc_inputs.specs.Views.{listed_in, seen_marks}
use Rattle.inc_inputs.proofs.NamedSteps.{word_lined, word_unlined}
use Rattle.inc_inputs.proofs.named_marks.with_word.Goals as goal

pub returns-then-is_some : goal.returns-then-is_some
returns-then-is_some g c not =
    word_lined g.I.Inputs.gives (listed_in c.args.listed) c.args.side c.args.word.now c.args.marks.items c.args.inputs.now (search rules)

pub returns : goal.returns
returns g c not =
    word_unlined g.I.Inputs.gives (listed_in c.args.listed) c.args.side c.args.word.now c.args.marks.items c.args.inputs.now c.with_name.new.inputs (seen_marks c.with_name.result)
    (search rules) (search (rules, c.with_name.ensures not))
