use Rattle.inc_args.specs.Views.{seen_files}
use Rattle.inc_inputs.specs.BuildSteps.{found_here, here_of}
use Rattle.inc_inputs.specs.Reports.{report_of}
use Rattle.inc_inputs.specs.Views.{seen_found, words_in}
use Rattle.inc_inputs.proofs.ComingLemmas.{next_err, next_on}
use Rattle.inc_inputs.proofs.build_projects.find_run.Goals as goal

pub returns-in-Err : goal.returns-in-Err
returns-in-Err g c =
    let f = seen_files c.args.files.now in
    let w = words_in c.args.words.now in
    next_err (here_of g.I.Inputs.gives) (λ here. found_here g.I.Inputs.gives here f w)
    c.args.inputs.now c.read_here.new.inputs (report_of c.in-Err.failure) c.in-Err.ensures

pub returns-in-Ok : goal.returns-in-Ok
returns-in-Ok g c =
    let f = seen_files c.args.files.now in
    let w = words_in c.args.words.now in
    next_on (here_of g.I.Inputs.gives) (λ here. found_here g.I.Inputs.gives here f w)
    c.args.inputs.now c.read_here.new.inputs c.find_here.new.inputs c.in-Ok.here.items (seen_found c.find_here.result) c.in-Ok.ensures c.find_here.ensures
