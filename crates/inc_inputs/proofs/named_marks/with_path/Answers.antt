use Rattle.std.proofs.Common.{Ok, ◌∙◌, ap, option_map, refl, subst, sym}
use Rattle.inc_inputs.specs.NamedPlaces.{with_file}
use Rattle.inc_inputs.specs.Views.{listed_in, seen_marks}
use Rattle.inc_inputs.proofs.named_marks.with_path.Goals as goal

pub returns-in-Some : goal.returns-in-Some
returns-in-Some g c not =
    let name = option_map (λ n. n.now) c.args.name in
    subst (λ w. with_file g.I.Inputs.gives c.args.listed.language name c.args.path.now w c.args.marks.items c.args.inputs.now (seen_marks c.with_file.result) c.with_file.new.inputs)
    (ap (option_map (λ w. w.now)) (sym c.in-Some.is) ∙ c.in_ok-written.ensures) (c.with_file.ensures not)

pub returns-in-None : goal.returns-in-None
returns-in-None g c not =
    let name = option_map (λ n. n.now) c.args.name in
    subst (λ w. with_file g.I.Inputs.gives c.args.listed.language name c.args.path.now w c.args.marks.items c.args.inputs.now (Ok c.args.marks.items) c.args.inputs.now)
    (ap (option_map (λ w. w.now)) (sym c.in-None.is) ∙ c.in_ok-written.ensures) (refl, refl)
