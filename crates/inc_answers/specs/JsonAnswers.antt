-- The objects in which `why`, `who`, `graph` and `cut` answer: one object on one line, with its keys in the order of their bytes.
use Rattle.std.specs.Prelude.{ℕ, Bool, true, false, List, [], ◌∷◌, ◌++◌, Option, Some, None, codes, decimal, length, map, option_map, slice_get}
use Rattle.std.specs.Option.{option_map_or}
use Rattle.inc_text.specs.declared.languages.Language.{Language}
use Rattle.inc_lookup.specs.declared.projects.DirectiveId.{DirectiveId}
use Rattle.inc_lookup.specs.declared.projects.Form.{Form}
use Rattle.inc_lookup.specs.declared.projects.Form.TheVariants as form
use Rattle.inc_lookup.specs.Projects.{Layout, path_at}
use Rattle.inc_directive.specs.LineKinds.{LineKind}
use Rattle.inc_graph.specs.Cuts.{Counted, total_count}
use Rattle.inc_graph.specs.IncludeGraph.{Edge, Graph}
use Rattle.inc_graph.specs.MissingLists.{Missing, missing_at}
use Rattle.inc_graph.specs.Reaching.{Reaching}
use Rattle.inc_graph.specs.declared.graphs.Blocker.{Blocker}
use Rattle.inc_answers.specs.DirectiveNames.{kept_kind}
use Rattle.inc_answers.specs.JsonDirectives.{directive_text}
use Rattle.inc_answers.specs.JsonTexts.{bytes_item, bytes_member, list_of, number_member}
use Rattle.inc_answers.specs.KeptFiles.{Kept}
use Rattle.inc_answers.specs.MissingNames.{MissingName, missing_names}
use Rattle.inc_answers.specs.NameTables.{NameSource}
use Rattle.inc_answers.specs.declared.outcome.EndKind.{EndKind}
use Rattle.inc_answers.specs.declared.outcome.EndKind.TheVariants.{Answered, Negative, Refused}
use Rattle.inc_answers.specs.declared.subjects.Subject.{Subject}

-- a graph, with the paths of its files and what its directives are
pub record About : Type 0 where
  pub layout : Layout
  pub graph : Graph
  pub kind : DirectiveId → LineKind

-- the same by what is kept of the files
abbrev pub kept_about : Language → Kept → Layout → Graph → About
kept_about language kept layout g = record { layout = layout; graph = g; kind = kept_kind language kept }

abbrev pub about_subject : Subject → About
about_subject s = kept_about s.language s.files.now s.project.now s.graph.now

---- parts

abbrev pub file_member : (key : List ℕ) → About → ℕ → List ℕ
file_member key a f = bytes_member key (path_at a.layout f)

abbrev pub file_item : About → ℕ → List ℕ
file_item a f = bytes_item (path_at a.layout f)

abbrev pub files_text : About → List ℕ → List ℕ
files_text a fs = list_of (map (file_item a) fs)

-- a directive, and where it leads if it leads to a file
abbrev pub place_text : About → DirectiveId → (to : Option ℕ) → List ℕ
place_text a d to = directive_text (a.kind d) d.line (path_at a.layout d.file) (option_map (path_at a.layout) to)

-- the directive of an edge
abbrev pub edge_text : About → Edge → List ℕ
edge_text a e = place_text a (record { file = e.from; line = e.line }) (Some e.to)

abbrev pub numbered_text : About → ℕ → List ℕ
numbered_text a i = option_map_or (edge_text a) (slice_get a.graph.edges i) []

abbrev pub edges_text : About → List ℕ → List ℕ
edges_text a is = list_of (map (numbered_text a) is)

abbrev pub chains_text : About → List (List ℕ) → List ℕ
chains_text a chains = list_of (map (edges_text a) chains)

-- the directives of which nothing can be said
abbrev pub blocker_text : About → Blocker → List ℕ
blocker_text a b = place_text a (record { file = b.file; line = b.line }) None

abbrev pub blockers_text : About → List Blocker → List ℕ
blockers_text a bs = list_of (map (blocker_text a) bs)

abbrev pub blocked_text : About → List ℕ
blocked_text a = blockers_text a a.graph.blockers

-- the directive at a place of those whose header is not found
abbrev pub stray_text : About → (place : ℕ) → List ℕ
stray_text a place = let m : Missing = missing_at a.graph.missing place in place_text a (record { file = m.file; line = m.line }) None

-- a name that is not found, with how many directives have it and the first of them
abbrev pub named_form : Form → List ℕ
named_form form.Quoted = codes ",\"form\":\"quoted\","
named_form form.Angled = codes ",\"form\":\"angled\","

abbrev pub missing_item : About → MissingName → List ℕ
missing_item a n =
    codes "{" ++ number_member (codes "count") n.count ++ codes ",\"first\":" ++ place_text a (record { file = n.file; line = n.line }) None
    ++ named_form n.header.form ++ bytes_member (codes "name") n.header.name ++ codes "}"

abbrev pub names_text : About → List MissingName → List ℕ
names_text a ns = list_of (map (missing_item a) ns)

abbrev pub missing_text : About → List ℕ
missing_text a = names_text a (missing_names a.graph.missing)

abbrev pub from_text : About → List ℕ
from_text a = codes "\"from\":" ++ files_text a a.graph.sources

abbrev pub to_text : About → List ℕ
to_text a = codes "\"to\":" ++ files_text a a.graph.headers

-- the status of a call that ends so
abbrev pub status_text : EndKind → List ℕ
status_text Answered = codes ",\"status\":0"
status_text Negative = codes ",\"status\":1"
status_text Refused = codes ",\"status\":4"

---- `why`

abbrev pub shortest_text : About → Option (List ℕ) → List ℕ
shortest_text a None = codes "null"
shortest_text a (Some chain) = edges_text a chain

-- what `why` and `who` begin with
abbrev pub front_text : (command : List ℕ) → About → (chains : List (List ℕ)) → List ℕ
front_text command a chains =
    codes "{\"blocked\":" ++ blocked_text a ++ codes ",\"chains\":" ++ chains_text a chains ++ codes ",\"command\":\"" ++ command
    ++ codes "\",\"format\":1,"

abbrev pub found_text : About → Option (List ℕ) → List ℕ
found_text a shortest = codes ",\"missing\":" ++ missing_text a ++ codes ",\"shortest\":" ++ shortest_text a shortest

-- the rest of several sources or headers
abbrev pub sets_ends : EndKind → About → Option (List ℕ) → List ℕ
sets_ends kind a shortest = from_text a ++ found_text a shortest ++ status_text kind ++ codes "," ++ to_text a ++ codes "}\n"

-- the rest of one source and one header, or of several
abbrev pub why_ends : EndKind → About → (sources headers : List ℕ) → Option (List ℕ) → List ℕ
why_ends kind a (s ∷ []) (t ∷ []) shortest =
    file_member (codes "header") a t ++ found_text a shortest ++ codes "," ++ file_member (codes "source") a s ++ status_text kind ++ codes "}\n"
why_ends kind a ss ts shortest = sets_ends kind a shortest

-- of a call that ends so
abbrev pub why_json : EndKind → About → (shortest : Option (List ℕ)) → (chains : List (List ℕ)) → List ℕ
why_json kind a shortest chains = front_text (codes "why") a chains ++ why_ends kind a a.graph.sources a.graph.headers shortest

---- `who`

-- the chain of a source, where chains are to be shown whole
abbrev pub chain_if : (all : Bool) → About → List ℕ → List ℕ
chain_if true a chain = codes "\"chain\":" ++ edges_text a chain ++ codes ","
chain_if false a chain = []

abbrev pub source_item : (all : Bool) → About → Reaching → List ℕ
source_item all a r =
    codes "{" ++ chain_if all a r.chain ++ number_member (codes "length") (length r.chain) ++ codes "," ++ file_member (codes "path") a r.source ++ codes "}"

abbrev pub sources_text : (all : Bool) → About → List Reaching → List ℕ
sources_text all a reaching = list_of (map (source_item all a) reaching)

abbrev pub who_json : EndKind → (all : Bool) → About → List Reaching → (chains : List (List ℕ)) → List ℕ
who_json kind all a reaching chains =
    front_text (codes "who") a chains ++ from_text a ++ codes ",\"missing\":" ++ missing_text a ++ codes ",\"sources\":"
    ++ sources_text all a reaching ++ status_text kind ++ codes "," ++ to_text a ++ codes "}\n"

---- `graph`

abbrev pub links_text : About → List Edge → List ℕ
links_text a es = list_of (map (edge_text a) es)

abbrev pub graph_json : About → List ℕ
graph_json a =
    codes "{\"blocked\":" ++ blocked_text a ++ codes ",\"command\":\"graph\",\"edges\":" ++ links_text a a.graph.edges ++ codes ",\"format\":1,"
    ++ from_text a ++ codes ",\"missing\":" ++ missing_text a ++ codes ",\"status\":0}\n"

---- `cut`

abbrev pub counted_item : About → Counted → List ℕ
counted_item a c = codes "{\"edges\":" ++ edges_text a c.chain ++ codes "," ++ number_member (codes "times") c.count ++ codes "}"

abbrev pub counted_text : About → List Counted → List ℕ
counted_text a chains = list_of (map (counted_item a) chains)

-- the chains count what the set costs
abbrev pub cut_json : About → (set : List ℕ) → List Counted → List ℕ
cut_json a set chains =
    codes "{\"chains\":" ++ counted_text a chains ++ codes ",\"command\":\"cut\",\"cost\":" ++ decimal (total_count chains)
    ++ codes ",\"cut\":" ++ edges_text a set ++ codes ",\"format\":1," ++ from_text a ++ codes ",\"status\":0," ++ to_text a ++ codes "}\n"

abbrev pub fixed_json : About → (chain : List ℕ) → List ℕ
fixed_json a chain =
    codes "{\"chain\":" ++ edges_text a chain ++ codes ",\"command\":\"cut\",\"fixed\":true,\"format\":1," ++ from_text a ++ codes ",\"status\":1,"
    ++ to_text a ++ codes "}\n"

---- a text that is being made

pub record JsonOut : Type 0 where
  pub layout : Layout
  pub graph : Graph
  pub names : NameSource
  pub text : List ℕ

-- an empty one
abbrev pub begun : Subject → JsonOut
begun s = record {
  layout = s.project.now;
  graph = s.graph.now;
  names = record { kept = s.files.now; language = s.language };
  text = [];
}

-- what it is about
abbrev pub about_of : JsonOut → About
about_of j = kept_about j.names.language j.names.kept j.layout j.graph

-- with these bytes behind it
abbrev pub puts : JsonOut → List ℕ → JsonOut
puts j bytes = record j { text = j.text ++ bytes }
