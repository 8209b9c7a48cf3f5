use Rattle.std.proofs.Common.{ap, ◌∙◌}
use Rattle.inc_text.specs.declared.languages.Language.{Language}
use Rattle.inc_token.specs.Spellings.{class_of}
use Rattle.inc_expand.proofs.pastes.made_class.Goals as goal

pub returns : goal.returns
returns c = c.kind_of.ensures ∙ ap (λ (l : Language). class_of l c.args.text.now) c.language.ensures
