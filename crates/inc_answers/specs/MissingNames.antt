-- The names of headers that are not found: how often each is named, and where first.
use Rattle.std.specs.Prelude.{ℕ, zero, suc, ◌+◌, ◌-◌, ◌++◌, List, [], ◌∷◌, if◌then◌else◌, bytes_eq, drop, fold, length, nat_lt, take}
use Rattle.inc_lookup.specs.declared.projects.Form.{Form}
use Rattle.inc_lookup.specs.declared.projects.Form.TheVariants as form
use Rattle.inc_graph.specs.HeaderNames.{HeaderName}
use Rattle.inc_graph.specs.MissingLists.{Missing}

-- a name that is not found: how many directives name it, and the file and the line of the first
pub record MissingName : Type 0 where
  pub header : HeaderName
  pub count : ℕ
  pub file : ℕ
  pub line : ℕ

-- a name between these two bytes
abbrev pub between : (before after : ℕ) → List ℕ → List ℕ
between before after name = before ∷ (name ++ after ∷ [])

-- a name as it stands in a directive: between two `"`, or between < and >
abbrev pub spelled_in : Form → List ℕ → List ℕ
spelled_in form.Quoted name = between 34 34 name
spelled_in form.Angled name = between 60 62 name

abbrev pub spelled : HeaderName → List ℕ
spelled h = spelled_in h.form h.name

-- what stands between the first byte and the last
abbrev pub inner : List ℕ → List ℕ
inner text = take (length text - 2) (drop 1 text)

---- each name once

-- the name of a directive, which is the first with it
abbrev pub first_named : Missing → MissingName
first_named m = record { header = m.header; count = 1; file = m.file; line = m.line }

-- one directive more
abbrev pub counted_once_more : MissingName → MissingName
counted_once_more n = record { header = n.header; count = n.count + 1; file = n.file; line = n.line }

-- these names, and that of one directive more
abbrev pub with_missing : List MissingName → Missing → List MissingName
with_missing [] m = first_named m ∷ []
with_missing (n ∷ ns) m = if bytes_eq (spelled m.header) (spelled n.header) then counted_once_more n ∷ ns else n ∷ with_missing ns m

-- the names of these directives, each once, in the order of their first directives
abbrev pub missing_names : List Missing → List MissingName
missing_names ms = fold with_missing [] ms

-- these names, of which that at a place is named once more
abbrev pub counted_at : List MissingName → ℕ → List MissingName
counted_at [] k = []
counted_at (n ∷ ns) zero = counted_once_more n ∷ ns
counted_at (n ∷ ns) (suc k) = n ∷ counted_at ns k

---- those that are named most often first

-- one name more: after those that are named as often or more often
abbrev pub with_name : List MissingName → MissingName → List MissingName
with_name [] n = n ∷ []
with_name (x ∷ xs) n = if nat_lt x.count n.count then n ∷ x ∷ xs else x ∷ with_name xs n

-- names in this order; among equal counts they stay as they were
abbrev pub ranked : List MissingName → List MissingName
ranked names = fold with_name [] names
