-- The lines of a baseline: the directives by which rules are broken, each by its file and by the name of its header, so that other lines of the
-- file may change. What is printed beside them is what breaks rules where these directives may stay.
use Rattle.std.specs.Prelude.{◌≡◌, ℕ, ◌==◌, false, List, [], ◌∷◌, ◌++◌, Option, Some, None, codes, fold, if◌then◌else◌, map}
use Rattle.std.specs.List.{concat}
use Rattle.inc_text.specs.Ascii.{greater_than, hash, less_than, quotation_mark}
use Rattle.inc_text.specs.declared.languages.Language.{Language}
use Rattle.inc_lookup.specs.declared.projects.DirectiveId.{DirectiveId}
use Rattle.inc_lookup.specs.Given.{Given}
use Rattle.inc_lookup.specs.Projects.{Layout, Listing, layout_of, path_at, with_path}
use Rattle.inc_directive.specs.LineKinds.{LineKind, Include, Quoted, Angled}
use Rattle.inc_check.specs.Texts.{line_text}
use Rattle.inc_graph.specs.Cuts.{directives_of}
use Rattle.inc_rules.specs.Breaking.{AreBreaking, lacking}
use Rattle.inc_rules.specs.Judging.{Judged}
use Rattle.inc_answers.specs.JsonAnswers.{About}
use Rattle.inc_answers.specs.KeptFiles.{OfKept}
use Rattle.inc_answers.specs.MissingNames.{between}
use Rattle.inc_answers.specs.NamedReasons.{Sight}
use Rattle.inc_report.specs.NamedText.{IsInFormat, about, given_sight, kept_sight, rules_answer}
use Rattle.inc_answers.specs.Printed.{Printed, end_of, with_baseline}
use Rattle.inc_answers.specs.Questions.{Answer, IsAnswerBy}
use Rattle.inc_report.specs.RulesText.{rules_kind, rules_text}
use Rattle.inc_answers.specs.Strictness.{Strict, strays_of}
use Rattle.inc_answers.specs.Terms.{Question, RuleList}
use Rattle.inc_answers.specs.declared.asked.Asked.TheVariants as asked
use Rattle.inc_report.specs.declared.named.Format.{Format}
use Rattle.inc_report.specs.declared.named.NamedForm.{NamedForm}
use Rattle.inc_answers.specs.declared.subjects.Subject.{Subject}

---- a line

-- the name of the header behind #include, with its delimiters
abbrev pub header_text : LineKind → List ℕ
header_text (Include by (Quoted name)) = between quotation_mark quotation_mark name
header_text (Include by (Angled name)) = between less_than greater_than name
header_text _ = []

-- a path that does not look like a comment
abbrev pub led_path : List ℕ → List ℕ
led_path [] = []
led_path (b ∷ bs) = if b == hash then codes "./" ++ b ∷ bs else b ∷ bs

abbrev pub baseline_line : (kind : DirectiveId → LineKind) → Layout → DirectiveId → List ℕ
baseline_line kind layout d = line_text (led_path (path_at layout d.file) ++ codes ":" ++ header_text (kind d))

-- those of directives, each line once, where it comes first
abbrev pub baseline_lines : (kind : DirectiveId → LineKind) → Layout → List DirectiveId → List (List ℕ)
baseline_lines kind layout ds = fold with_path [] (map (baseline_line kind layout) ds)

abbrev pub baseline_text : (kind : DirectiveId → LineKind) → Layout → List DirectiveId → List ℕ
baseline_text kind layout ds = concat (baseline_lines kind layout ds)

---- what is printed

-- what breaks rules of a list with this name, as text or in a format
abbrev pub beside_text : Option Format → (name : List ℕ) → About → List Judged → List ℕ
beside_text None name a js = rules_text a.layout a.graph js
beside_text (Some format) name a js = rules_answer format name a js

-- the baseline of these edges, and what breaks the rules beside them
abbrev pub baseline_printed : Option Format → RuleList → About → (edges : List ℕ) → Printed
baseline_printed format l a edges =
    let js : List Judged = map (lacking a.layout a.graph) l.rules in
    record {
      text = beside_text format l.name a js;
      end = with_baseline (baseline_text a.kind a.layout (directives_of a.graph edges)) (end_of [] (rules_kind js));
    }

-- that of all edges by which rules are broken
abbrev pub IsBaseline : Option Format → RuleList → About → Printed → Type 0
IsBaseline format l a p = (edges : List ℕ) × AreBreaking a.layout a.graph l.rules edges × (p ≡ baseline_printed format l a edges)

-- the same of a graph whose directives are those of a listing
abbrev pub IsBaselineOf : Option Format → RuleList → Language → Listing → Answer
IsBaselineOf format l language listing layout g p = IsBaseline format l (about language listing layout g) p

-- or the refusal of directives whose header is not found
abbrev pub IsStrictBaseline : Option Format → RuleList → Question → Language → Listing → Answer
IsStrictBaseline format l q language listing = Strict (strays_of q) (IsBaselineOf format l language listing)

-- rules in this format
abbrev pub rules_form : Format → NamedForm
rules_form format = record { asked = asked.Rules; format = format; all = false; fails = false; most = None }

-- what is printed where this would be printed as text, or is an answer that is in the format
abbrev pub IsShown : Option Format → Question → Layout → Sight → (plain : Printed) → Printed → Type 0
IsShown None q layout sight plain p = p ≡ plain
IsShown (Some format) q layout sight plain p = IsInFormat (rules_form format) q layout sight plain p

-- whatever the question is, and the directives of files are
abbrev pub IsShownAnyhow : Option Format → (plain : Printed) → Printed → Type 0
IsShownAnyhow format plain p = (q : Question) (layout : Layout) (sight : Sight) → IsShown format q layout sight plain p

-- of a question, and which files are read for that
abbrev pub IsBaselineBy : Option Format → RuleList → Question → Printed → List Given → Listing → Type 0
IsBaselineBy format l q p given listing =
    (plain : Printed) × IsAnswerBy (IsStrictBaseline format l q q.language listing) q plain given listing
    × IsShown format q (layout_of listing) (given_sight q.language listing (layout_of listing) given) plain p

---- by what is kept of the files

-- of a graph and the files that are kept of it
abbrev pub IsBaselineKept : Option Format → RuleList → Question → Subject → Printed → Type 0
IsBaselineKept format l q s p =
    (plain : Printed) × OfKept s.files.now s.project.now (λ listing.
    IsStrictBaseline format l q s.language listing s.project.now s.graph.now plain
    × IsShown format q s.project.now (kept_sight s.language listing s.project.now s.files.now) plain p)
