-- What is asked of the sources that are to be preprocessed.
use Rattle.std.specs.Prelude.{ℕ, Bool, List}
use Rattle.inc_graph.specs.Marks.{Mark}
use Rattle.inc_pp.specs.Settings.{Settings}

-- sources that are to be preprocessed
pub record PpQuestion : Type 0 where
  -- their paths, which need not be in normal form
  pub sources : List (List ℕ)
  -- the words that define macros first
  pub words : List (List ℕ)
  -- language, date and time, and what an include does whose file is not found
  pub settings : Settings
  -- the marks of the include directives that are taken as removed
  pub without : List Mark
  -- whether rules for make are asked for
  pub has_rules : Bool
  -- whether it is asked for how each source ended
  pub has_endings : Bool
