-- The directories with which most of the headers would be found that are not.
use Rattle.std.specs.Prelude.{ℕ, suc, ◌==◌, ◌&&◌, Bool, List, [], ◌∷◌, if◌then◌else◌, bytes_eq, codes, length, nat_lt, take}
use Rattle.std.specs.List.{list_any}
use Rattle.inc_text.specs.Ascii.{slash}
use Rattle.inc_lookup.specs.Projects.{with_path}
use Rattle.inc_graph.specs.MissingLists.{Missing}
use Rattle.inc_answers.specs.declared.useful_dirs.TheConstants.{LONGEST_NAME}

---- what finds a name

-- the names of these directives behind some others, each once
abbrev pub all_names : (names : List (List ℕ)) → List Missing → List (List ℕ)
all_names names [] = names
all_names names (m ∷ ms) = all_names (with_path names m.header.name) ms

-- one of these names is so, and it is not too long to be looked for
abbrev pub is_among : (names : List (List ℕ)) → List ℕ → Bool
is_among names name = nat_lt (length name) (suc LONGEST_NAME) && list_any (bytes_eq name) names

-- directories, each with how many names are found with it, after one name more of one
abbrev pub with_dir : List (List ℕ × ℕ) → (dir : List ℕ) → List (List ℕ × ℕ)
with_dir [] dir = (dir, 1) ∷ []
with_dir ((d, n) ∷ more) dir = if bytes_eq dir d then (d, suc n) ∷ more else (d, n) ∷ with_dir more dir

-- a / that is not the first byte of a path, and a name behind it that is looked for
abbrev pub is_split : (names : List (List ℕ)) → (i b : ℕ) → (rest : List ℕ) → Bool
is_split names i b rest = nat_lt 0 i && ((b == slash) && is_among names rest)

-- the directory before the byte at a place of a path, if it is such a /
abbrev pub with_split : (names : List (List ℕ)) → (path : List ℕ) → (i b : ℕ) → (rest : List ℕ) → List (List ℕ × ℕ) → List (List ℕ × ℕ)
with_split names path i b rest counts = if is_split names i b rest then with_dir counts (take i path) else counts

-- that of each place of what is left of a path
abbrev pub with_rest : (names : List (List ℕ)) → (path : List ℕ) → (i : ℕ) → List (List ℕ × ℕ) → (rest : List ℕ) → List (List ℕ × ℕ)
with_rest names path i counts [] = counts
with_rest names path i counts (b ∷ bs) = with_rest names path (suc i) (with_split names path i b bs counts) bs

-- the folder of the run, if a path is a name that is looked for
abbrev pub with_whole : (names : List (List ℕ)) → (path : List ℕ) → List (List ℕ × ℕ) → List (List ℕ × ℕ)
with_whole names path counts = if is_among names path then with_dir counts (codes ".") else counts

-- the directories with which names are found as this path
abbrev pub with_file : (names : List (List ℕ)) → List (List ℕ × ℕ) → (path : List ℕ) → List (List ℕ × ℕ)
with_file names counts path = with_rest names path 0 (with_whole names path counts) path

-- and as these
abbrev pub with_files : (names : List (List ℕ)) → List (List ℕ × ℕ) → (paths : List (List ℕ)) → List (List ℕ × ℕ)
with_files names counts [] = counts
with_files names counts (p ∷ ps) = with_files names (with_file names counts p) ps

---- the best of them

-- three directories, those first with which more names are found; one with which none is found is none
pub record Best : Type 0 where
  pub first : List ℕ × ℕ
  pub second : List ℕ × ℕ
  pub third : List ℕ × ℕ

abbrev pub none : Best
none = record { first = ([], 0); second = ([], 0); third = ([], 0) }

-- the best of these and of one more, which goes behind those that are as good
abbrev pub with_best : Best → List ℕ × ℕ → Best
with_best b d =
    if nat_lt b.first.1 d.1 then record { first = d; second = b.first; third = b.second }
    else if nat_lt b.second.1 d.1 then record { first = b.first; second = d; third = b.second }
    else if nat_lt b.third.1 d.1 then record { first = b.first; second = b.second; third = d }
    else b

abbrev pub best_of : Best → List (List ℕ × ℕ) → Best
best_of b [] = b
best_of b (d ∷ ds) = best_of (with_best b d) ds

-- the best directories of a project with these paths
abbrev pub best_dirs : (paths : List (List ℕ)) → List Missing → Best
best_dirs paths ms = best_of none (with_files (all_names [] ms) [] paths)
