-- What functions of the program give, as the definitions see it.
use Rattle.std.specs.Prelude.{ℕ, Bool, List, Option, Result, map}
use Rattle.inc_cost.specs.Costs.{Group}
use Rattle.inc_lookup.specs.Projects.{Layout}
use Rattle.inc_answers.specs.RuleViews.{seen_list}
use Rattle.inc_answers.specs.Terms.{Question, Limits}
use Rattle.inc_report.specs.PpTerms.{PpQuestion}
use Rattle.inc_answers.specs.declared.outcome.End.{End}
use Rattle.inc_inputs.specs.Reports.{Report}
use Rattle.inc_inputs.specs.Views.{baseline_in, seen}
use Rattle.inc_inputs.specs.declared.failures.Failure.{Failure}
use Rattle.inc_cli.specs.Commands as commands
use Rattle.inc_cli.specs.Outputs.{Answer, Output}
use Rattle.inc_cli.specs.Preprocessings.{PpAsked}
use Rattle.inc_cli.specs.Runs.{Asked}
use Rattle.inc_cli.specs.Runs as runs
use Rattle.inc_cli.specs.declared.answers.Answer as code
use Rattle.inc_cli.specs.declared.questions.Built.{Built}
use Rattle.inc_cli.specs.declared.commands.Command.{Command}
use Rattle.inc_cli.specs.declared.commands.Command.TheVariants as command
use Rattle.inc_cli.specs.declared.questions.Opened.{Opened}

abbrev pub answer_in : code.Answer → Answer
answer_in a = record { end = a.end; notes = a.notes.items }

abbrev pub seen_end : Result code.Answer Failure → Result Answer Report
seen_end result = seen answer_in result

abbrev pub seen_command : Command → commands.Command
seen_command (command.Why fails most) = commands.Why fails most
seen_command (command.Who with_chains fails most) = commands.Who with_chains fails most
seen_command command.Graph = commands.Graph
seen_command command.Cut = commands.Cut
seen_command command.Blank = commands.Blank
seen_command command.Patch = commands.Patch
seen_command (command.Named form) = commands.Named form
seen_command (command.Rules f list b) = commands.Rules f (seen_list list) (baseline_in b)
seen_command (command.WriteBaseline format list name) = commands.WriteBaseline format (seen_list list) name.now
seen_command (command.Cost format top) = commands.Cost format top
seen_command (command.Tree format) = commands.Tree format
seen_command command.Folded = commands.Folded
seen_command (command.Check name) = commands.Check name.now

-- what is asked of files with these paths, and of groups of headers, beside these notes
abbrev pub asked_in : (paths : List (List ℕ)) → Layout → Question → Limits → (groups : List Group) → (notes : List ℕ) → Asked
asked_in paths layout question limits groups notes =
    record { paths = paths; layout = layout; question = question; limits = limits; groups = groups; notes = notes }

abbrev pub opened_in : Opened → runs.Opened
opened_in o = record {
  paths = map (λ p. p.now) o.paths.items;
  costs = o.costs.items;
  undefined = map (λ n. n.now) o.undefined.items;
  is_strict = o.is_strict;
  external = map (λ n. n.now) o.external.items;
  path = o.path;
  firsts = o.firsts;
}

abbrev pub built_in : Built → runs.Built
built_in b = record { others = b.others.items; read_with = map (λ l. l.items) b.read_with.items; notes = b.notes.items }

abbrev pub output_of : (before after : Option (List ℕ)) → (failed : Bool) → Output
output_of before after failed = record { before = before; after = after; failed = failed }

abbrev pub pp_asked_in : (paths : List (List ℕ)) → Layout → PpQuestion → (notes : List ℕ) → PpAsked
pp_asked_in paths layout question notes = record { paths = paths; layout = layout; question = question; notes = notes }
