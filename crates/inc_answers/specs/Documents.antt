-- Answers as documents: lines that say what is listed, and directives, each with its file and line in front, as compilers and grep print a
-- place.
use Rattle.std.specs.Prelude.{◌≡◌, ℕ, ◌==◌, false, List, [], ◌∷◌, ◌++◌, Option, None, if◌then◌else◌, codes, decimal, flat_map, length, map, is_some, IsTrue}
use Rattle.std.specs.List.{All}
use Rattle.inc_lookup.specs.declared.projects.DirectiveId.{DirectiveId}
use Rattle.inc_lookup.specs.Projects.{Layout, path_at}
use Rattle.inc_graph.specs.Cuts.{directives_of}
use Rattle.inc_graph.specs.IncludeGraph.{Edge, Graph}
use Rattle.inc_graph.specs.Members.{is_member}
use Rattle.inc_graph.specs.MissingLists.{Missing}
use Rattle.inc_graph.specs.declared.graphs.Blocker.{Blocker}
use Rattle.inc_check.specs.Texts.{line_text}
use Rattle.inc_answers.specs.Bounds.{first_of, left_out, more_words}
use Rattle.inc_answers.specs.KeptFiles.{AreAllKept, Kept, kept_at}
use Rattle.inc_answers.specs.MissingNotes.{shown}
use Rattle.inc_answers.specs.declared.documents.Block as declared
use Rattle.inc_answers.specs.declared.documents.Block.TheVariants as block

-- a line of words, a directive, or a directive behind words
pub data Block : Type 0 where
  Words : List ℕ → Block
  Place : DirectiveId → Block
  Led : List ℕ → DirectiveId → Block

abbrev pub seen_block : declared.Block → Block
seen_block (block.Words text) = Words text.items
seen_block (block.Place id) = Place id
seen_block (block.Led text id) = Led text.items id

---- their text

-- a directive, which is written so
abbrev pub place_text : Layout → DirectiveId → (name : List ℕ) → List ℕ
place_text layout d name = line_text (shown (path_at layout d.file) ++ codes ":" ++ decimal d.line ++ codes ": " ++ shown name)

abbrev pub block_text : (name : DirectiveId → List ℕ) → Layout → Block → List ℕ
block_text name layout (Words text) = line_text text
block_text name layout (Place d) = place_text layout d (name d)
block_text name layout (Led text d) = text ++ place_text layout d (name d)

abbrev pub document_text : (name : DirectiveId → List ℕ) → Layout → List Block → List ℕ
document_text name layout blocks = flat_map (block_text name layout) blocks

---- parts of documents

abbrev pub places : List DirectiveId → List Block
places ds = map Place ds

-- the directives of edges
abbrev pub edge_places : Graph → List ℕ → List Block
edge_places g is = places (directives_of g is)

-- a number, and what follows it where that is 1 and where it is not
abbrev pub counted : (n : ℕ) → (one many : List ℕ) → List ℕ
counted n one many = decimal n ++ (if n == 1 then one else many)

-- that so many more are not printed, where some are
abbrev pub more_blocks : ℕ → List Block
more_blocks n = if n == 0 then [] else Words (more_words n) ∷ []

-- at most so many directives, and how many more there are
abbrev pub first_places : (most : Option ℕ) → List DirectiveId → List Block
first_places most ds = places (first_of most ds) ++ more_blocks (left_out most (length ds))

-- how many directives there are, and at most so many of them; nothing where there are none
abbrev pub listed : (most : Option ℕ) → (one many : List ℕ) → List DirectiveId → List Block
listed most one many [] = []
listed most one many (d ∷ ds) = Words (counted (length (d ∷ ds)) one many) ∷ first_places most (d ∷ ds)

---- what is kept of the files of directives

abbrev pub IsKept : Kept → Block → Type 0
IsKept kept (Words text) = Unit {0}
IsKept kept (Place d) = IsTrue (is_some (kept_at kept d.file))
IsKept kept (Led text d) = IsTrue (is_some (kept_at kept d.file))

abbrev pub AreKept : Kept → List Block → Type 0
AreKept kept blocks = All (IsKept kept) blocks

-- the file of each directive of a graph is kept: of those that lead to a file, of those whose header is not found, and of those that leave
-- open which file is read
pub record AreGraphKept (g : Graph) (kept : Kept) : Type 0 where
  pub edges : AreAllKept g kept
  pub missing : All (λ (m : Missing). IsTrue (is_some (kept_at kept m.file))) g.missing
  pub blockers : All (λ (b : Blocker). IsTrue (is_some (kept_at kept b.file))) g.blockers
  -- and so is each source, and each file to which an edge leads, but the headers
  pub sources : All (λ f. is_member f g.headers ≡ false → IsTrue (is_some (kept_at kept f))) g.sources
  pub targets : All (λ (e : Edge). is_member e.to g.headers ≡ false → IsTrue (is_some (kept_at kept e.to))) g.edges
  -- of these none is
  pub headers : All (λ f. kept_at kept f ≡ None) g.headers
