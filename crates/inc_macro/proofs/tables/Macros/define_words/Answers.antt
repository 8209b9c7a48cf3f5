use Rattle.std.proofs.Common.{◌≡◌, List, map, subst}
use Rattle.inc_text.specs.PhaseText.{phase_text}
use Rattle.inc_text.specs.declared.languages.Language.{Language}
use Rattle.inc_macro.specs.WordLines.{word_lines}
use Rattle.inc_macro.proofs.tables.Macros.define_words.Goals as goal

pub define_lines-requires : goal.define_lines-requires
define_lines-requires c =
    subst (λ (l : Language). c.in-Ok.text ≡ phase_text l (word_lines (map (λ w. w.now) c.args.words.now))) c.language.ensures c.in-Ok.ensures
