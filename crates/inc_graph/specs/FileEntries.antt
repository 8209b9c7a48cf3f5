-- What the include directives of a file are to the graph, and how those are kept of a file that is read: with numbers in place of headers.
use Rattle.std.specs.Prelude.{ℕ, ◌<◌, ⊤, List}
use Rattle.inc_graph.specs.declared.header_names.HeaderName as declared_name
use Rattle.inc_graph.specs.declared.building.entries.Entry as declared
use Rattle.inc_graph.specs.declared.building.entries.Entry.TheVariants.{Edge, Missing, Blocker, ByName, Defines}
use Rattle.inc_graph.specs.HeaderNames.{HeaderName, name_at, seen_name}

-- what an include directive is, with the header that it names where that is not found
abbrev pub Entry : Type 0
Entry = declared.Entry HeaderName

-- a line that defines a name that no build defines: the place of the name among those, and the physical line
pub record Definition : Type 0 where
  pub name : ℕ
  pub line : ℕ

-- what it is to the graph
abbrev pub definition_entry : {H : Type 0} → Definition → declared.Entry H
definition_entry d = Defines d.name d.line

-- the same with another header
abbrev pub with_header : {H K : Type 0} → (H → K) → declared.Entry H → declared.Entry K
with_header other (Edge to line) = Edge to line
with_header other (Missing line header) = Missing line (other header)
with_header other (Blocker line kind) = Blocker line kind
with_header other (ByName name line) = ByName name line
with_header other (Defines name line) = Defines name line

-- an entry of the program as the definitions see it
abbrev pub seen_entry : declared.Entry declared_name.HeaderName → Entry
seen_entry e = with_header seen_name e

-- one with the number of its header among names
abbrev pub named_entry : List HeaderName → declared.Entry ℕ → Entry
named_entry names e = with_header (name_at names) e

-- it is none whose header is not found
abbrev pub NamesNone : {H : Type 0} → declared.Entry H → Type 0
NamesNone (Missing line header) = ⊥
NamesNone _ = ⊤

-- its number is that of one of so many names
abbrev pub HasName : (count : ℕ) → declared.Entry ℕ → Type 0
HasName count (Missing line header) = header < count
HasName count _ = ⊤
