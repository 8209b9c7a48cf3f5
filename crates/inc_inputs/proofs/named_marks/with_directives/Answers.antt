use Rattle.std.proofs.Common.{◌≡◌, ◌+◌, ◌∙◌, Err, List, Some, ap, drop, length, nat_eq, refl, rules, take, true, false}
use Rattle.std.proofs.lemmas.List.{take_rest}
use Rattle.inc_graph.specs.Marks.{Mark}
use Rattle.inc_inputs.specs.Ends.{option_of}
use Rattle.inc_inputs.specs.NamedPlaces.{more_marks, with_glob}
use Rattle.inc_inputs.specs.Reports.{no_directive}
use Rattle.inc_inputs.specs.Steps.{Comes, comes_to}
use Rattle.inc_inputs.specs.Views.{listed_in, seen_marks}
use Rattle.inc_inputs.proofs.StepLemmas.{comes_err, comes_then, passed}
use Rattle.inc_inputs.proofs.NamedSteps.{no_more, some_more}
use Rattle.inc_inputs.proofs.named_marks.with_directives.Goals as goal

pub returns-in_err-marks : goal.returns-in_err-marks
returns-in_err-marks g c =
    let word = c.args.word.now in
    let step = with_glob g.I.Inputs.gives (listed_in c.args.listed) c.args.side (Some (drop (c.args.colon + 1) word)) (take c.args.colon word) c.args.marks.items in
    let told = passed (λ marks. marks.items) c.from_residual.result c.in_err-marks.field-0.0 c.from_residual.ensures.1 in
    let came : Comes step c.args.inputs.now (seen_marks c.with_glob.result) c.with_glob.new.inputs = rw take_rest at c.with_glob.ensures in
    comes_err step (λ all. comes_to (more_marks (option_of c.args.side) word c.args.marks.items all)) c.args.inputs.now c.with_glob.new.inputs _ _ _
    (ap seen_marks c.in_err-marks.was) told came

pub returns-then-len-count : goal.returns-then-len-count
returns-then-len-count g c not =
    let word = c.args.word.now in
    let all = c.in_ok-marks.marks.items in
    let step = with_glob g.I.Inputs.gives (listed_in c.args.listed) c.args.side (Some (drop (c.args.colon + 1) word)) (take c.args.colon word) c.args.marks.items in
    let came : Comes step c.args.inputs.now (seen_marks c.with_glob.result) c.with_glob.new.inputs = rw take_rest at c.with_glob.ensures in
    let same : nat_eq (length all) (length c.args.marks.items) ≡ true = search rules in
    let said = c.undirected.ensures (λ is. not (ap (λ r. Err r) is)) ∙ ap (λ o. no_directive o word) c.option.ensures in
    comes_then step (λ ms. comes_to (more_marks (option_of c.args.side) word c.args.marks.items ms)) c.args.inputs.now c.with_glob.new.inputs c.with_glob.new.inputs _ all _
    (ap seen_marks c.in_ok-marks.was) came (ap (λ r. Err r) said ∙ no_more (option_of c.args.side) word c.args.marks.items all same, refl)

pub returns : goal.returns
returns g c not =
    let word = c.args.word.now in
    let all = c.in_ok-marks.marks.items in
    let step = with_glob g.I.Inputs.gives (listed_in c.args.listed) c.args.side (Some (drop (c.args.colon + 1) word)) (take c.args.colon word) c.args.marks.items in
    let came : Comes step c.args.inputs.now (seen_marks c.with_glob.result) c.with_glob.new.inputs = rw take_rest at c.with_glob.ensures in
    let other : nat_eq (length all) (length c.args.marks.items) ≡ false = search rules in
    comes_then step (λ ms. comes_to (more_marks (option_of c.args.side) word c.args.marks.items ms)) c.args.inputs.now c.with_glob.new.inputs c.with_glob.new.inputs _ all _
    (ap seen_marks c.in_ok-marks.was) came (some_more (option_of c.args.side) word c.args.marks.items all other, refl)
