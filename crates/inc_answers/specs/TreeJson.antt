-- The object in which `cost` answers with the trees of sources.
use Rattle.std.specs.Prelude.{ℕ, List, ◌++◌, codes, map}
use Rattle.inc_cost.specs.declared.branches.Branch.{Branch}
use Rattle.inc_answers.specs.JsonAnswers.{About, blocked_text, file_member, from_text, missing_text}
use Rattle.inc_answers.specs.JsonTexts.{list_of, number_member}

-- what comes in through a file, how deep it is, and what it has itself
abbrev pub branch_item : About → Branch → List ℕ
branch_item a b =
    codes "{" ++ number_member (codes "bytes") b.whole ++ codes "," ++ number_member (codes "depth") b.depth ++ codes "," ++ number_member (codes "own") b.own
    ++ codes "," ++ file_member (codes "path") a b.file ++ codes "}"

abbrev pub tree_json : About → (total : ℕ) → List Branch → List ℕ
tree_json a total bs =
    codes "{\"blocked\":" ++ blocked_text a ++ codes "," ++ number_member (codes "bytes") total ++ codes ",\"command\":\"cost\",\"format\":1," ++ from_text a
    ++ codes ",\"missing\":" ++ missing_text a ++ codes ",\"status\":0,\"tree\":" ++ list_of (map (branch_item a) bs) ++ codes "}\n"
