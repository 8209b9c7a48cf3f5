-- What is asked of a project.
use Rattle.std.specs.Prelude.{ℕ, ◌==◌, Bool, ◌&&◌, List, [], Option, filter_map, length, option_map}
use Rattle.inc_text.specs.declared.languages.Language.{Language}
use Rattle.inc_lookup.specs.declared.projects.DirectiveId.{DirectiveId}
use Rattle.inc_lookup.specs.Projects.{Layout, SearchPath, place_of}
use Rattle.inc_cost.specs.Costs.{Group}
use Rattle.inc_graph.specs.Marks.{Mark, Cost}
use Rattle.inc_graph.specs.Settings.{Setting, setting_of, with_paths}
use Rattle.inc_rules.specs.Rules.{Rule}

-- a question about sources and headers, or about sources alone
pub record Question : Type 0 where
  -- the paths of the sources, which need not be in normal form
  pub from : List (List ℕ)
  -- those of the headers, where it is about some
  pub to : Option (List (List ℕ))
  -- the marks of the directives that are taken as removed
  pub without : List Mark
  -- that of the files
  pub language : Language
  -- names that no build defines on its command line
  pub undefined : List (List ℕ)
  -- the include paths beside the project's own
  pub others : List SearchPath
  -- for each file of the project the numbers of the include paths with which it is read as a source: 0 is the project's own, and 1 the first
  -- of the others. A file that has none, and one past the end, is read with each
  pub read_with : List (List ℕ)
  -- includes that are not found are refused
  pub is_strict : Bool
  -- but those of headers whose names these globs fit
  pub external : List (List ℕ)

-- the files are read as they are: no directive is taken as removed, and no name as undefined
abbrev pub is_whole : Question → Bool
is_whole q = (length q.without == 0) && (length q.undefined == 0)

-- what limits a cut
pub record Limits : Type 0 where
  -- the marks of the directives that may not be removed
  pub fixed : List Mark
  -- for each file whether none of its directives may be removed; none at all where no file is kept so
  pub kept : List Bool
  -- what the others cost, 1 where none is given
  pub costs : List Cost

-- rules, and what their list is called
pub record RuleList : Type 0 where
  pub name : List ℕ
  pub rules : List Rule

abbrev pub no_rules : RuleList
no_rules = record { name = []; rules = [] }

-- how much is printed of what includes cost: at most so many headers, and as many directives, and these groups of headers
pub record CostWords : Type 0 where
  pub most : ℕ
  pub groups : List Group

-- what an answer goes by beside its graph: what limits a cut, the rules that are asked about, and how much is asked about costs
pub record Details : Type 0 where
  pub limits : Limits
  pub rules : RuleList
  pub costs : CostWords

-- the directive that a mark names, in the file whose path it has, byte for byte
abbrev pub named_directive : Layout → Mark → Option DirectiveId
named_directive layout m = option_map (λ file. record { file = file; line = m.line }) (place_of m.path layout.paths)

-- a mark of a file that is not there names none
abbrev pub named_directives : Layout → List Mark → List DirectiveId
named_directives layout marks = filter_map (named_directive layout) marks

-- how files are read for a question
abbrev pub setting_in : Layout → Question → Setting
setting_in layout q = with_paths (setting_of q.language (named_directives layout q.without) q.undefined) q.others
