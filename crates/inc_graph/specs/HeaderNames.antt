-- Headers as include directives name them, and names that lie in one list of bytes.
use Rattle.std.specs.Prelude.{ℕ, ◌+◌, ◌≤◌, List, [], drop, length, map, slice_index_or, take}
use Rattle.std.specs.List.{All}
use Rattle.inc_lookup.specs.declared.projects.Form.{Form}
use Rattle.inc_lookup.specs.declared.projects.Form.TheVariants.{Quoted}
use Rattle.inc_graph.specs.declared.header_names.HeaderName as declared
use Rattle.inc_graph.specs.declared.header_names.NamePart.{NamePart}

-- the name between two `"`, or between `<` and `>`
pub record HeaderName : Type 0 where
  pub form : Form
  pub name : List ℕ

abbrev pub header_of : Form → List ℕ → HeaderName
header_of form name = record { form = form; name = name }

-- a header of the program as the definitions see it
abbrev pub seen_name : declared.HeaderName → HeaderName
seen_name h = header_of h.form h.name.now

-- a name, whose bytes are a part of those of all
abbrev pub name_in : List ℕ → NamePart → HeaderName
name_in bytes p = header_of p.form (take p.len (drop p.begin bytes))

abbrev pub names_in : List ℕ → List NamePart → List HeaderName
names_in bytes parts = map (name_in bytes) parts

-- no part ends after the bytes
abbrev pub AreParts : List ℕ → List NamePart → Type 0
AreParts bytes parts = All (λ (p : NamePart). p.begin + p.len ≤ length bytes) parts

-- the name with a number
abbrev pub name_at : List HeaderName → ℕ → HeaderName
name_at names number = slice_index_or names number (header_of Quoted [])
