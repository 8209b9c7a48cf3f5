use Rattle.std.proofs.Common.{sym, ◌∙◌}
use Rattle.std.proofs.lemmas.List.{take_rest}
use Rattle.inc_lookup.proofs.ReducedLemmas.{normal_form-plain, normal_form-rooted}
use Rattle.inc_lookup.proofs.paths.stays.Goals as goal

pub returns-then-is_absolute : goal.returns-then-is_absolute
returns-then-is_absolute c = λ kept. normal_form-rooted c.args.path.now (sym c.is_absolute.ensures ∙ c.if-is_absolute.true) (sym (rw take_rest at c.is_plain.ensures) ∙ kept)

pub returns : goal.returns
returns c = λ kept. normal_form-plain c.args.path.now (sym c.is_plain-2.ensures ∙ kept)
