use Rattle.std.proofs.Common.{◌∙◌, ℕ, List}
use Rattle.std.specs.Borrow.{Bor}
use Rattle.std.specs.Prelude.{bytes_eq}
use Rattle.inc_answers.proofs.NamedReasonLemmas.{any_map}
use Rattle.inc_answers.proofs.named_reasons.is_among.Goals as goal

pub returns : goal.returns
returns c = c.any_is.ensures ∙ any_map (bytes_eq c.args.name.now) (λ (n : Bor (List ℕ)). n.now) c.args.names.now
