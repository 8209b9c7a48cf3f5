-- What the language settings have in common.
use Rattle.std.specs.Prelude.{Bool, true, false}
use Rattle.inc_text.specs.declared.languages.Language.{Language}
use Rattle.inc_text.specs.declared.languages.Language.TheVariants.{Gnu}

abbrev pub is_gnu : Language → Bool
is_gnu Gnu = true
is_gnu _ = false
