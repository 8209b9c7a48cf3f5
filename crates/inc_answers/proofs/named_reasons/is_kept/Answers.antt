use Rattle.std.proofs.Common.{◌∙◌}
use Rattle.std.specs.Prelude.{bytes_eq}
use Rattle.inc_answers.proofs.NamedReasonLemmas.{any_map}
use Rattle.inc_answers.proofs.named_reasons.is_kept.Goals as goal

pub returns : goal.returns
returns c = c.any_kept.ensures ∙ any_map (bytes_eq c.args.name.now) (λ n. n.items) c.args.names.now
