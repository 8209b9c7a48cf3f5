-- The commands that ask about sources and headers.
use Rattle.std.specs.Prelude.{ℕ, Bool, true, false, List, Option, Some, None, if◌then◌else◌, option_map}
use Rattle.inc_cost.specs.Costs.{Group}
use Rattle.inc_answers.specs.CommandNames.{asks_headers}
use Rattle.inc_answers.specs.Terms.{Details, Limits, RuleList, no_rules}
use Rattle.inc_answers.specs.declared.asked.Asked.{Asked}
use Rattle.inc_answers.specs.declared.asked.Asked.TheVariants as asked
use Rattle.inc_report.specs.declared.named.Format.{Format}
use Rattle.inc_report.specs.declared.named.NamedForm.{NamedForm}
use Rattle.inc_inputs.specs.Baselines.{Baseline, no_baseline}
use Rattle.inc_cli.specs.declared.commands.RuleForm.{RuleForm}
use Rattle.inc_cli.specs.declared.commands.RuleForm.TheVariants as form

-- what is asked about a source and a header
pub data Command : Type 0 where
  -- the answer that a header is reached fails, or does not; at most so many chains are printed
  Why : (fails : Bool) → (most : Option ℕ) → Command
  -- with the chains, or without; it fails so; at most so many chains are printed, and so many sources
  Who : (with_chains fails : Bool) → (most : Option ℕ) → Command
  -- about sources alone
  Graph : Command
  Cut : Command
  -- for the files of the cut with its directives blanked
  Blank : Command
  -- for the diff that removes its directives
  Patch : Command
  -- why, which edges, or which directives to remove, with directives as they are written
  Named : NamedForm → Command
  -- which of these rules are broken without the directives of a baseline, in this form
  Rules : RuleForm → RuleList → Baseline → Command
  -- which directives break these rules, written to the file that this word names; and what breaks them beside these, as text or in a format
  WriteBaseline : (format : Option Format) → RuleList → (name : List ℕ) → Command
  -- what includes cost the sources, as text or with directives as they are written: at most so many headers, and as many directives
  Cost : (format : Option Format) → (top : ℕ) → Command
  -- the trees of the sources, as text or with words
  Tree : (format : Option Format) → Command
  -- the same as stacks
  Folded : Command
  -- of the certificate that this word names
  Check : (name : List ℕ) → Command

-- the format of a form with directives as they are written
abbrev pub format_in : RuleForm → Option Format
format_in (form.In format) = Some format
format_in _ = None

-- with at most so many chains
abbrev pub bounded : (most : Option ℕ) → Command → Command
bounded most (Why fails old) = Why fails most
bounded most (Who with_chains fails old) = Who with_chains fails most
bounded most command = command

-- the word that names a certificate
abbrev pub certificate_of : Command → Option (List ℕ)
certificate_of (Check name) = Some name
certificate_of _ = None

-- the rules that it is about, where it is about rules
abbrev pub rules_of : Command → RuleList
rules_of (Rules f list b) = list
rules_of (WriteBaseline format list name) = list
rules_of _ = no_rules

-- what their list is called
abbrev pub rules_name : Command → Option (List ℕ)
rules_name (Rules f list b) = Some list.name
rules_name (WriteBaseline format list name) = Some list.name
rules_name _ = None

-- the directives that may still break them
abbrev pub baseline_of : Command → Baseline
baseline_of (Rules f list b) = b
baseline_of _ = no_baseline

-- rules that are asked about: whether they are broken, or with a word for a file which directives break them
abbrev pub ruled_command : RuleForm → RuleList → Baseline → (written : Option (List ℕ)) → Command
ruled_command f list b None = Rules f list b
ruled_command f list b (Some name) = WriteBaseline (format_in f) list name

-- how much is printed of costs, where it is about these
abbrev pub top_of : Command → ℕ
top_of (Cost format top) = top
top_of _ = 0

-- what its answer goes by beside the graph
abbrev pub details_of : Command → Limits → (groups : List Group) → Details
details_of command l groups = record { limits = l; rules = rules_of command; costs = record { most = top_of command; groups = groups } }

-- what is asked in a format, without chains
abbrev pub plain_form : Asked → Format → NamedForm
plain_form what format = record { asked = what; format = format; all = false; fails = false; most = None }

-- the form of its answer, where that is no text
abbrev pub named_form : Command → Option NamedForm
named_form (Named form) = Some form
named_form (Rules f list b) = option_map (plain_form asked.Rules) (format_in f)
named_form (Cost format top) = option_map (plain_form asked.Cost) format
named_form (Tree format) = option_map (plain_form asked.Tree) format
named_form _ = None

-- whether it is about headers, too
abbrev pub has_headers : Command → Bool
has_headers Graph = false
has_headers (Named form) = asks_headers form.asked
has_headers (Rules f list b) = false
has_headers (WriteBaseline format list name) = false
has_headers (Cost format top) = false
has_headers (Tree format) = false
has_headers Folded = false
has_headers _ = true

-- the paths of the headers, where it is about some
abbrev pub headers_of : Command → (to : List (List ℕ)) → Option (List (List ℕ))
headers_of command to = if has_headers command then Some to else None
