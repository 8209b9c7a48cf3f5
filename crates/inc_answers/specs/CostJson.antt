-- The object in which `cost` answers.
use Rattle.std.specs.Prelude.{ℕ, List, [], ◌++◌, codes, decimal, map, slice_get, slice_index}
use Rattle.std.specs.Option.{option_map_or}
use Rattle.inc_answers.specs.CostGroups.{Costed}
use Rattle.inc_answers.specs.CostText.{Amounts, Ranked}
use Rattle.inc_answers.specs.JsonAnswers.{About, blocked_text, file_member, from_text, missing_text, numbered_text}
use Rattle.inc_answers.specs.JsonTexts.{bytes_member, list_of, number_member}
use Rattle.inc_answers.specs.declared.cost_groups.CutCount.{CutCount}
use Rattle.inc_answers.specs.declared.cost_groups.CutCount.TheVariants.{Blocked, Fixed, Smallest}

-- what an edge or a file has
abbrev pub bytes_text : Amounts → (place : ℕ) → List ℕ
bytes_text a place = number_member (codes "bytes") (slice_index a.bytes place)

abbrev pub count_member : Amounts → (place : ℕ) → List ℕ
count_member a place = number_member (codes "sources") (slice_index a.counts place)

abbrev pub header_item : About → Amounts → (file : ℕ) → List ℕ
header_item a brought f = codes "{" ++ bytes_text brought f ++ codes "," ++ file_member (codes "path") a f ++ codes "," ++ count_member brought f ++ codes "}"

abbrev pub edge_item : About → Amounts → (edge : ℕ) → List ℕ
edge_item a saved i =
    codes "{" ++ bytes_text saved i ++ codes ",\"directive\":" ++ numbered_text a i ++ codes "," ++ count_member saved i ++ codes "}"

-- how many directives a cut has, or a word
abbrev pub cut_value : CutCount → List ℕ
cut_value Blocked = codes "\"blocked\""
cut_value Fixed = codes "\"fixed\""
cut_value (Smallest n) = decimal n

abbrev pub costed_item : Costed → List ℕ
costed_item c =
    codes "{" ++ number_member (codes "bytes") c.bytes ++ codes ",\"cut\":" ++ cut_value c.cut ++ codes "," ++ bytes_member (codes "glob") c.name ++ codes ","
    ++ number_member (codes "sources") c.count ++ codes "}"

-- of the group at a place
abbrev pub group_item : List Costed → (place : ℕ) → List ℕ
group_item cs place = option_map_or costed_item (slice_get cs place) []

abbrev pub cost_json : About → Ranked → List ℕ
cost_json a r =
    codes "{\"blocked\":" ++ blocked_text a ++ codes "," ++ number_member (codes "bytes") r.total ++ codes ",\"command\":\"cost\",\"directives\":"
    ++ list_of (map (edge_item a r.saved) r.edges) ++ codes ",\"format\":1," ++ from_text a ++ codes ",\"groups\":" ++ list_of (map (group_item r.costed) r.groups)
    ++ codes ",\"headers\":" ++ list_of (map (header_item a r.brought) r.headers) ++ codes ",\"missing\":" ++ missing_text a ++ codes ",\"status\":0}\n"
