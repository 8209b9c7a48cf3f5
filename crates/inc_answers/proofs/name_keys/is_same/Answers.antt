use Rattle.std.proofs.Common.{◌∙◌}
use Rattle.inc_lookup.specs.declared.projects.Form.TheVariants.{Quoted, Angled}
use Rattle.inc_answers.proofs.NameKeyLemmas.{same_form}
use Rattle.inc_answers.proofs.name_keys.is_same.Goals as goal

pub returns-in-Quoted-Quoted : goal.returns-in-Quoted-Quoted
returns-in-Quoted-Quoted c =
    c.eq.ensures ∙ same_form c.args.a.form c.args.b.form Quoted c.args.a.name.now c.args.b.name.now c.in-Quoted-Quoted.is-0 c.in-Quoted-Quoted.is-1

pub returns-in-Angled-Angled : goal.returns-in-Angled-Angled
returns-in-Angled-Angled c =
    c.eq-in-Angled-Angled.ensures ∙ same_form c.args.a.form c.args.b.form Angled c.args.a.name.now c.args.b.name.now c.in-Angled-Angled.is-0 c.in-Angled-Angled.is-1
