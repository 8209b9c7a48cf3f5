-- Notes of a list of files that git has quoted, or that is none, and why such a list makes no project.
use Rattle.std.specs.Prelude.{ℕ, ◌==◌, ◌&&◌, ◌||◌, not, Bool, true, false, List, [], ◌∷◌, ◌++◌, Option, Some, None, Result, Ok, Err, if◌then◌else◌, codes, nat_le, slice_index}
use Rattle.std.specs.List.{list_any}
use Rattle.inc_text.specs.Ascii.{backslash, quotation_mark}
use Rattle.inc_lookup.specs.IncludePath.{NamedPath}
use Rattle.inc_lookup.specs.Projects.{Layout}
use Rattle.inc_args.specs.Meaning.{FileWords}
use Rattle.inc_inputs.specs.PlaceWords.{is_between, unspaced}
use Rattle.inc_inputs.specs.Reports.{Report, note_line, shown}
use Rattle.inc_inputs.specs.Texts.{listed_layout}

---- names in git's quotes

abbrev pub is_octal : ℕ → Bool
is_octal b = nat_le 48 b && nat_le b 55

-- a byte as \ and three digits in base 8
abbrev pub begins_octal : List ℕ → Bool
begins_octal bs = (slice_index bs 0 == backslash) && is_octal (slice_index bs 1) && is_octal (slice_index bs 2) && is_octal (slice_index bs 3)

abbrev pub has_octal : List ℕ → Bool
has_octal [] = false
has_octal (b ∷ bs) = begins_octal (b ∷ bs) || has_octal bs

abbrev pub is_quoted : List ℕ → Bool
is_quoted path = is_between quotation_mark quotation_mark path && has_octal path

abbrev pub quoted_text : (name : List ℕ) → List ℕ
quoted_text name = shown name ++ codes " has quoted names; list with git -c core.quotePath=false"

abbrev pub quoted_notes : (name : List ℕ) → (is_null : Bool) → (written : List (List ℕ)) → List ℕ
quoted_notes name is_null written = if not is_null && list_any is_quoted written then note_line (quoted_text name) else []

---- JSON

-- [ or {
abbrev pub is_opening : ℕ → Bool
is_opening b = (b == 91) || (b == 123)

-- nothing, or what may stand there in an array or an object of a database
abbrev pub is_inside : List ℕ → Bool
is_inside [] = true
is_inside (b ∷ bs) = is_opening b || (b == quotation_mark)

-- a text begins as an array or an object does
abbrev pub begins_json : List ℕ → Bool
begins_json [] = false
begins_json (b ∷ bs) = is_opening b && is_inside (unspaced bs)

-- the first path of a list is so
abbrev pub looks_like_json : (written : List (List ℕ)) → Bool
looks_like_json [] = false
looks_like_json (path ∷ paths) = begins_json (unspaced path)

abbrev pub json_text : (name : List ℕ) → List ℕ
json_text name = shown name ++ codes " looks like JSON; did you mean -p DIR?"

abbrev pub json_notes : (name : List ℕ) → (written : List (List ℕ)) → List ℕ
json_notes name written = if looks_like_json written then note_line (json_text name) else []

---- both

abbrev pub notes_by : (list : Option (List ℕ)) → (is_null : Bool) → (written : List (List ℕ)) → List ℕ
notes_by None is_null written = []
notes_by (Some name) is_null written = json_notes name written ++ quoted_notes name is_null written

-- of the list that a word names, by its paths as they are written
abbrev pub list_notes : FileWords → (written : List (List ℕ)) → List ℕ
list_notes files written = notes_by files.list files.is_null written

---- a list that makes no project

-- the report of that, and a line more below it
abbrev pub json_report : (name : List ℕ) → Report → Report
json_report name r = record { message = r.message ++ (codes "\nincut: " ++ json_text name); status = r.status }

-- of a list that is refused, which is status 4
abbrev pub report_by : (list : Option (List ℕ)) → (written : List (List ℕ)) → Report → Report
report_by None written r = r
report_by (Some name) written r = if (r.status == 4) && looks_like_json written then json_report name r else r

abbrev pub layout_by : (list : Option (List ℕ)) → (written : List (List ℕ)) → Result Layout Report → Result Layout Report
layout_by list written (Ok layout) = Ok layout
layout_by list written (Err r) = Err (report_by list written r)

-- the project of a list that a word names, or why there is none
abbrev pub named_layout : FileWords → (written : List (List ℕ)) → NamedPath → Result Layout Report
named_layout files written path = layout_by files.list written (listed_layout written path)
