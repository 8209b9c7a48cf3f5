use Rattle.inc_inputs.specs.Baselines.{with_accepted}
use Rattle.inc_inputs.specs.Views.{accepting_in, listed_in, named_line_in}
use Rattle.inc_inputs.proofs.EachLemmas.{Leads}
use Rattle.inc_inputs.proofs.baselines.with_lines.Given as goal

-- the lines that are left lead where all of them do
abbrev pub invariant-loop-line : goal.invariant-loop-line
invariant-loop-line g l =
    Leads (with_accepted g.I.Inputs.gives (listed_in l.listed) l.name) named_line_in l.lines (accepting_in l.initial.accepting) (accepting_in l.accepting) l.line-index l.initial.inputs l.inputs
