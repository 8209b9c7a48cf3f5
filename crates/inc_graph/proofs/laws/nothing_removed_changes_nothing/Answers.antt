use Rattle.inc_directive.specs.FileDirectives.{file_directives}
use Rattle.inc_text.specs.PhaseText.{phase_text}
use Rattle.inc_lookup.specs.Projects.{bytes_at}
use Rattle.inc_graph.proofs.Removals.{without_none}
use Rattle.inc_graph.proofs.laws.nothing_removed_changes_nothing.Goals as goal

pub returns : goal.returns
returns c = λ language names listing file. without_none file (file_directives language (phase_text language (bytes_at listing file)))
