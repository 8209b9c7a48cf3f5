-- What is known of an answer that is no refusal: sources and headers are there, and there is a graph of which it is printed.
use Rattle.std.proofs.Common.{◌≡◌, ◌≢◌, ℕ, List, [], ◌∷◌, Option, Some, None, Result, Ok, Err, refl, sym, ap, ◌∙◌}
use Rattle.inc_graph.specs.declared.building.Source.{Source}
use Rattle.inc_lookup.specs.declared.projects.DirectiveId.{DirectiveId}
use Rattle.inc_lookup.specs.Projects.{Layout, Listing, layout_of, path_at}
use Rattle.inc_graph.specs.IncludeGraph.{Graph, IsGraphAnswer}
use Rattle.inc_graph.specs.MissingLists.{Missing}
use Rattle.inc_graph.specs.declared.building.GraphRefusal.{GraphRefusal}
use Rattle.inc_graph.specs.declared.building.GraphRefusal.TheVariants as graph
use Rattle.inc_graph.specs.declared.graphs.Blocker.{Blocker}
use Rattle.inc_answers.specs.CutText.{blocked, Unhindered}
use Rattle.inc_answers.specs.NamedFiles.{headers_at, sources_at}
use Rattle.inc_answers.specs.Printed.{Printed}
use Rattle.inc_answers.specs.Questions.{Answer, IsAnswer, WithFiles, WithGraph, OfGraph, IsRefusalOf, no_header, no_source}
use Rattle.inc_answers.specs.Refusals.{Refusal, refusal, refusal_for, TooManyDirectives}
use Rattle.inc_answers.specs.Strictness.{Unless, not_found}
use Rattle.inc_directive.specs.declared.files.FileFault.{FileFault}
use Rattle.inc_answers.specs.FaultReasons.{bad_file}
use Rattle.inc_answers.specs.Terms.{Question, setting_in}
use Rattle.inc_answers.specs.declared.outcome.EndKind.TheVariants.{Answered, Negative, Refused}

---- a question that is not refused

pub IsStated : Printed → Type 0
IsStated p = p.end.kind ≡ Refused → ⊥

pub never_refused : (r : Refusal) (p : Printed) → p ≡ refusal r → IsStated p → ⊥
unfolding IsStated
never_refused r p is stated = stated (ap (λ (q : Printed). q.end.kind) is)

never_reasoned : (reason : List ℕ) (r : Refusal) (p : Printed) → p ≡ refusal_for reason r → IsStated p → ⊥
unfolding IsStated
never_reasoned reason r p is stated = stated (ap (λ (q : Printed). q.end.kind) is)

never_blocked : (layout : Layout) (ds : List DirectiveId) (bs : List Blocker) (p : Printed) → p ≡ blocked layout ds bs → IsStated p → ⊥
unfolding IsStated
never_blocked layout ds bs p is stated = stated (ap (λ (r : Printed). r.end.kind) is)

never_missing : (layout : Layout) (ms : List Missing) (p : Printed) → p ≡ not_found layout ms → IsStated p → ⊥
unfolding IsStated
never_missing layout ms p is stated = stated (ap (λ (r : Printed). r.end.kind) is)

never_bad_file : (path : List ℕ) (fault : FileFault) (p : Printed) → p ≡ bad_file path path fault → IsStated p → ⊥
unfolding IsStated
never_bad_file path fault p is stated = stated (ap (λ (r : Printed). r.end.kind) is)

never_without_source : (layout : Layout) (q : Question) (i : ℕ) (p : Printed) → p ≡ no_source layout q i → IsStated p → ⊥
unfolding IsStated
never_without_source layout q i p is stated = stated (ap (λ (r : Printed). r.end.kind) is)

never_without_header : (layout : Layout) (q : Question) (i : ℕ) (p : Printed) → p ≡ no_header layout q i → IsStated p → ⊥
unfolding IsStated
never_without_header layout q i p is stated = stated (ap (λ (r : Printed). r.end.kind) is)

pub stated_other : (p : Printed) → p.end.kind ≢ Refused → IsStated p
unfolding IsStated
stated_other p other = other

pub stated_yes : (p : Printed) → p.end.kind ≡ Answered → IsStated p
unfolding IsStated
stated_yes p is = λ refused. (let same : Answered ≡ Refused = sym is ∙ refused in cc)

pub stated_no : (p : Printed) → p.end.kind ≡ Negative → IsStated p
unfolding IsStated
stated_no p is = λ refused. (let same : Negative ≡ Refused = sym is ∙ refused in cc)

-- sources and headers are there, and there is a graph of which this is printed
pub record IsTold (Then : Answer) (q : Question) (listing : Listing) (p : Printed) : Type 0 where
  -- the places of the sources
  pub sources : List Source
  -- those of the headers
  pub headers : List ℕ
  -- the sources are there
  pub sources_are : sources_at (layout_of listing) q ≡ Ok sources
  -- the headers are there
  pub headers_are : headers_at (layout_of listing) q.to ≡ Ok headers
  -- the graph
  pub graph : Graph
  -- it is the graph of the question
  pub graph_is : IsGraphAnswer (setting_in (layout_of listing) q) listing sources headers (Ok graph)
  -- this is printed of it
  pub told : Then (layout_of listing) graph p

refusal_of_none : (layout : Layout) (fault : GraphRefusal) (p : Printed) → IsStated p → IsRefusalOf layout fault p → ⊥
refusal_of_none layout (graph.BadFile file fault) p stated is = never_bad_file (path_at layout file) fault p is stated
refusal_of_none layout graph.TooManyDirectives p stated is = never_refused TooManyDirectives p is stated
refusal_of_none layout (graph.CannotRead file) p stated is = is
refusal_of_none layout (graph.FileTooLong file) p stated is = is
refusal_of_none layout graph.NoMemory p stated is = is

module _ (Then : Answer) (q : Question) (listing : Listing) (p : Printed) (stated : IsStated p) where
  told_graph : (s : List Source) (t : List ℕ) → sources_at (layout_of listing) q ≡ Ok s → headers_at (layout_of listing) q.to ≡ Ok t → (answer : Result Graph GraphRefusal)
      → IsGraphAnswer (setting_in (layout_of listing) q) listing s t answer → OfGraph (layout_of listing) answer (Then (layout_of listing)) p → IsTold Then q listing p
  told_graph s t s_is t_is (Ok g) is told =
      record { sources = s; headers = t; sources_are = s_is; headers_are = t_is; graph = g; graph_is = is; told = told }
  told_graph s t s_is t_is (Err fault) is told = absurd (refusal_of_none (layout_of listing) fault p stated told)

  told_files : (s : Result (List Source) ℕ) (t : Result (List ℕ) ℕ) → sources_at (layout_of listing) q ≡ s → headers_at (layout_of listing) q.to ≡ t
      → WithFiles (layout_of listing) q s t (λ a b r. WithGraph q listing a b (Then (layout_of listing)) r) p → IsTold Then q listing p
  told_files (Err i) t s_is t_is is = absurd (never_without_source (layout_of listing) q i p is stated)
  told_files (Ok s) (Err i) s_is t_is is = absurd (never_without_header (layout_of listing) q i p is stated)
  told_files (Ok s) (Ok t) s_is t_is is = told_graph s t s_is t_is is.0 is.1 is.2

  pub told_of : IsAnswer Then q listing p → IsTold Then q listing p
  told_of is = told_files (sources_at (layout_of listing) q) (headers_at (layout_of listing) q.to) refl refl is

pub unhindered_told : (layout : Layout) (ds : List DirectiveId) (bs : List Blocker) (fault : Option (List ℕ × Refusal)) (Told : Printed → Type 0) (p : Printed) → IsStated p → Unhindered layout ds bs fault Told p → (bs ≡ []) × Told p
unhindered_told layout ds (b ∷ bs) fault Told p stated is = absurd (never_blocked layout ds (b ∷ bs) p is stated)
unhindered_told layout ds [] (Some r) Told p stated is = absurd (never_reasoned r.0 r.1 p is stated)
unhindered_told layout ds [] None Told p stated is = (refl, is)

-- what is stated is no refusal of directives whose header is not found
pub unless_told : (layout : Layout) (ms : List Missing) (Told : Printed → Type 0) (p : Printed) → IsStated p → Unless layout ms Told p → Told p
unless_told layout [] Told p stated is = is
unless_told layout (m ∷ ms) Told p stated is = absurd (never_missing layout (m ∷ ms) p is stated)
