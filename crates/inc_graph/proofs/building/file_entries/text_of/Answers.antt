use Rattle.std.proofs.Common.{◌≡◌, subst}
use Rattle.inc_text.specs.PhaseText.{phase_text}
use Rattle.inc_text.specs.declared.languages.Language.{Language}
use Rattle.inc_graph.proofs.building.file_entries.text_of.Goals as goal

pub returns-in-Ok : goal.returns-in-Ok
returns-in-Ok c = subst (λ (l : Language). c.in-Ok.text ≡ phase_text l c.args.bytes.items) c.language.ensures c.in-Ok.ensures.text
