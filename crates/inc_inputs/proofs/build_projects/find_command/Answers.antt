use Rattle.std.proofs.Common.{Ok, Option, Result, Some, refl}
use Rattle.inc_args.specs.Views.{seen_files}
use Rattle.inc_inputs.specs.BuildProjects.{Found}
use Rattle.inc_inputs.specs.BuildSteps.{found_of_command}
use Rattle.inc_inputs.specs.Reports.{Report, report_of}
use Rattle.inc_inputs.specs.Steps.{comes_to}
use Rattle.inc_inputs.specs.Views.{project_in, words_in}
use Rattle.inc_inputs.proofs.ComingLemmas.{last_on, next_err}
use Rattle.inc_inputs.proofs.build_projects.find_command.Goals as goal

-- what follows
abbrev given : Found → Result (Option Found) Report
given f = Ok (Some f)

pub returns-in-Err : goal.returns-in-Err
returns-in-Err g c =
    next_err (found_of_command g.I.Inputs.gives (seen_files c.args.files.now) (words_in c.args.words.now)) (λ f. comes_to (given f))
    c.args.inputs.now c.find_run.new.inputs (report_of c.in-Err.failure) c.in-Err.ensures

pub returns-in-Ok : goal.returns-in-Ok
returns-in-Ok g c =
    last_on (found_of_command g.I.Inputs.gives (seen_files c.args.files.now) (words_in c.args.words.now)) given
    c.args.inputs.now c.find_run.new.inputs (project_in c.in-Ok.found) (given (project_in c.in-Ok.found)) c.in-Ok.ensures (λ not. refl)
