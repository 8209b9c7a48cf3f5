use Rattle.std.proofs.Common.{◌≡◌, ◌∙◌, ap, map, subst, sym}
use Rattle.std.specs.Prelude.{IsUtf8}
use Rattle.inc_inputs.specs.BuildPaths.{form_of}
use Rattle.inc_inputs.specs.BuildProjects.{root_form}
use Rattle.inc_inputs.specs.Views.{ground_in, seen_text}
use Rattle.inc_inputs.proofs.FrontLemmas.{no_text, text_list}
use Rattle.inc_inputs.proofs.build_files.list_root.Goals as goal

pub returns-in-Ok : goal.returns-in-Ok
returns-in-Ok g c not =
    let ground = ground_in c.args.ground.now in
    let form = c.of.ensures ∙ ap (λ h. form_of h c.forms.result.is_relative c.deref.result.now) c.forms.ensures.here
    ∙ ap (λ r. form_of ground.here r c.deref.result.now) c.forms.ensures.form ∙ ap (form_of ground.here ground.is_relative) c.deref.ensures.value in
    let same : c.in-Ok.root.now ≡ root_form ground = c.in-Ok.ensures.cases.0 ∙ form in
    text_list g.I.Inputs.gives (map (λ e. e.now) c.args.exclude.now) (root_form ground) c.in-Ok.root.now c.args.inputs.now (seen_text c.list_folder.result) c.list_folder.new.inputs same
    (subst IsUtf8 (sym c.in-Ok.ensures.cases.0) c.in-Ok.ensures.cases.1) (c.list_folder.ensures not)

pub returns-in-Err : goal.returns-in-Err
returns-in-Err g c not =
    let ground = ground_in c.args.ground.now in
    let form = c.of.ensures ∙ ap (λ h. form_of h c.forms.result.is_relative c.deref.result.now) c.forms.ensures.here
    ∙ ap (λ r. form_of ground.here r c.deref.result.now) c.forms.ensures.form ∙ ap (form_of ground.here ground.is_relative) c.deref.ensures.value in
    no_text g.I.Inputs.gives (map (λ e. e.now) c.args.exclude.now) (root_form ground) c.of.result.now c.args.inputs.now form c.in-Err.ensures.cases.0
