-- Include directives whose header is not found, and lists of them with numbers in place of the headers.
use Rattle.std.specs.Prelude.{ℕ, ◌<◌, List, [], slice_index_or}
use Rattle.inc_lookup.specs.declared.projects.Form.TheVariants.{Quoted}
use Rattle.inc_graph.specs.declared.header_names.HeaderName as declared_name
use Rattle.inc_graph.specs.declared.missing_lists.Missing as declared
use Rattle.inc_graph.specs.HeaderNames.{HeaderName, header_of, name_at, seen_name}

-- a directive with the header that it names
abbrev pub Missing : Type 0
Missing = declared.Missing HeaderName

-- a directive of the program as the definitions see it
abbrev pub seen_missing : declared.Missing declared_name.HeaderName → Missing
seen_missing m = record { file = m.file; line = m.line; header = seen_name m.header }

-- the one at a place
abbrev pub missing_at : List Missing → ℕ → Missing
missing_at ms place = slice_index_or ms place (record { file = 0; line = 0; header = header_of Quoted [] })

-- one with the number of its header among names
abbrev pub named_missing : List HeaderName → declared.Missing ℕ → Missing
named_missing names m = record { file = m.file; line = m.line; header = name_at names m.header }

-- its number is that of one of so many names
abbrev pub HasName : (count : ℕ) → declared.Missing ℕ → Type 0
HasName count m = m.header < count
