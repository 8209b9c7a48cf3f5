-- What the calls print that are asked about sources and headers of a project: the first refusal that holds, else the answer.
use Rattle.std.specs.Prelude.{◌≡◌, ℕ, List, [], Option, None, Result, Ok, Err, codes, unwrap_or}
use Rattle.inc_graph.specs.declared.building.Source.{Source}
use Rattle.inc_text.specs.declared.devices.ReadFault.{ReadFault}
use Rattle.inc_answers.specs.Terms.{Question, setting_in}
use Rattle.inc_lookup.specs.Given.{Given, FailsAfter}
use Rattle.inc_lookup.specs.Projects.{Layout, Listing, layout_of, path_at}
use Rattle.inc_graph.specs.IncludeGraph.{Graph, IsGraphAnswer, IsRefusalWithin}
use Rattle.inc_graph.specs.declared.building.GraphRefusal.{GraphRefusal}
use Rattle.inc_graph.specs.declared.building.GraphRefusal.TheVariants as graph
use Rattle.inc_graph.specs.ReadFiles.{IsOfClosure, IsReachedAfter, read_fault_of}
use Rattle.inc_answers.specs.declared.questions.NoGraph.{NoGraph}
use Rattle.inc_answers.specs.declared.questions.NoGraph.TheVariants as no_graph
use Rattle.inc_answers.specs.FaultReasons.{bad_file}
use Rattle.inc_answers.specs.NamedFiles.{headers_at, sources_at}
use Rattle.inc_answers.specs.NearNames.{unnamed_at}
use Rattle.inc_answers.specs.Printed.{Printed}
use Rattle.inc_answers.specs.Refusals.{NoSuchSource, NoSuchHeader, TooManyDirectives, refusal, refusal_for}

-- what is printed where the path of a source at this place is the first that names no file, and where that of a header is: beside it stands
-- a line on the path
abbrev pub no_source : Layout → Question → ℕ → Printed
no_source layout q i = refusal_for (unnamed_at (codes "source") layout.paths q.from i) NoSuchSource

abbrev pub no_header : Layout → Question → ℕ → Printed
no_header layout q i = refusal_for (unnamed_at (codes "header") layout.paths (unwrap_or q.to []) i) NoSuchHeader

-- what is printed of sources and headers, where each path names a file
abbrev pub WithFiles : Layout → Question → (sources : Result (List Source) ℕ) → (headers : Result (List ℕ) ℕ) → (List Source → List ℕ → Printed → Type 0) → Printed → Type 0
WithFiles layout q (Err i) headers Then p = p ≡ no_source layout q i
WithFiles layout q (Ok ss) (Err i) Then p = p ≡ no_header layout q i
WithFiles layout q (Ok ss) (Ok ts) Then p = Then ss ts p

-- what is printed of the refusal in place of a graph; where a file is not read, or memory runs out, nothing is
abbrev pub IsRefusalOf : Layout → GraphRefusal → Printed → Type 0
IsRefusalOf layout (graph.BadFile file fault) p = p ≡ bad_file (path_at layout file) (path_at layout file) fault
IsRefusalOf layout graph.TooManyDirectives p = p ≡ refusal TooManyDirectives
IsRefusalOf layout _ p = ⊥

-- what is printed of a graph, or of the refusal in its place
abbrev pub OfGraph : Layout → Result Graph GraphRefusal → (Graph → Printed → Type 0) → Printed → Type 0
OfGraph layout (Ok g) Then p = Then g p
OfGraph layout (Err fault) Then p = IsRefusalOf layout fault p

-- what is printed of the graph of sources and headers
abbrev pub WithGraph : Question → Listing → (sources : List Source) → (headers : List ℕ) → (Graph → Printed → Type 0) → Printed → Type 0
WithGraph q listing sources headers Then p =
    (answer : Result Graph GraphRefusal) × IsGraphAnswer (setting_in (layout_of listing) q) listing sources headers answer
    × OfGraph (layout_of listing) answer Then p

-- what is printed of a graph, where the question has one
abbrev pub Answer : Type 1
Answer = Layout → Graph → Printed → Type 0

-- what is printed of a question
abbrev pub IsAnswer : Answer → Question → Listing → Printed → Type 0
IsAnswer Then q listing p =
    WithFiles (layout_of listing) q (sources_at (layout_of listing) q) (headers_at (layout_of listing) q.to)
    (λ ss ts r. WithGraph q listing ss ts (Then (layout_of listing)) r) p

-- the files that are read for the graph of sources and headers: none where a path names no file
abbrev pub AreReadFor : Question → (sources : Result (List Source) ℕ) → (headers : Result (List ℕ) ℕ) → List Given → Listing → Type 0
AreReadFor q (Ok ss) (Ok ts) given listing = IsOfClosure (setting_in (layout_of listing) q) ss ts given listing
AreReadFor q _ _ given listing = given ≡ []

-- what is printed of a listing, and which of its files are read for that
abbrev pub IsAnswerBy : Answer → Question → Printed → List Given → Listing → Type 0
IsAnswerBy Then q p given listing =
    IsAnswer Then q listing p
    × AreReadFor q (sources_at (layout_of listing) q) (headers_at (layout_of listing) q.to) given listing

-- a file that the question reaches was not read, and why, after those before it were
abbrev pub FailsAt : {S : Type 0} → (gives : S → ℕ → Result (List ℕ) ReadFault → S → Type 0) → (old new : S) → Layout → Question
    → ℕ × ReadFault → Type 0
FailsAt gives old new layout q r =
    (ss : List Source) × (ts : List ℕ) × (sources_at layout q ≡ Ok ss) × (headers_at layout q.to ≡ Ok ts)
    × FailsAfter gives old new layout r.0 r.1 (IsReachedAfter (setting_in layout q) ss ts r.0)

---- why a question has no graph

-- what is printed then
abbrev pub IsStopped : Layout → Question → NoGraph → Printed → Type 0
IsStopped layout q (no_graph.NoSource i) p = p ≡ no_source layout q i
IsStopped layout q (no_graph.NoHeader i) p = p ≡ no_header layout q i
IsStopped layout q (no_graph.Refused fault) p = IsRefusalOf layout fault p

-- the file that was not read, and why
abbrev pub unread_by : NoGraph → Option (ℕ × ReadFault)
unread_by (no_graph.Refused fault) = read_fault_of fault
unread_by _ = None

-- the file that it names is one of so many
abbrev pub IsWithin : ℕ → NoGraph → Type 0
IsWithin files (no_graph.Refused fault) = IsRefusalWithin files fault
IsWithin files _ = Unit {0}

-- the path that it names is the first that names no file
abbrev pub IsFirstUnnamed : Layout → Question → NoGraph → Type 0
IsFirstUnnamed layout q (no_graph.NoSource i) = sources_at layout q ≡ Err i
IsFirstUnnamed layout q (no_graph.NoHeader i) = ((ss : List Source) × (sources_at layout q ≡ Ok ss)) × (headers_at layout q.to ≡ Err i)
IsFirstUnnamed layout q (no_graph.Refused fault) = Unit {0}

-- or memory ran out before there was a graph
abbrev pub IsNoEnds : Layout → Question → NoGraph → Type 0
IsNoEnds layout q (no_graph.Refused fault) = fault ≡ graph.NoMemory
IsNoEnds layout q cause = IsFirstUnnamed layout q cause
