-- Rules for make, as `gcc -MD` writes them: an object file and, behind a `:`, the files that were read for it.
use Rattle.std.specs.Prelude.{ℕ, ◌+◌, ◌==◌, ◌&&◌, ◌||◌, Bool, false, List, [], ◌∷◌, ◌++◌, Option, if◌then◌else◌, codes, drop, fold, length, map, nat_eq, nat_lt, take}
use Rattle.std.specs.List.{list_any}
use Rattle.std.specs.Option.{option_map_or}
use Rattle.std.specs.Path.{rfind_below}
use Rattle.inc_lookup.specs.Projects.{Layout, path_at}
use Rattle.inc_pp.specs.Preprocessing.{Outcome}

---- names

-- what ends a name in a rule: a space or a tab
abbrev pub is_blank : ℕ → Bool
is_blank b = b == 32 || b == 9

-- a blank comes next, or one behind backslashes
abbrev pub leads_to_blank : List ℕ → Bool
leads_to_blank [] = false
leads_to_blank (b ∷ bs) = is_blank b || (b == 92 && leads_to_blank bs)

-- what stands before a byte, so that make takes it as it is: \ before a blank, before # and before a \ in front of a blank, and $ before $
abbrev pub escape : (byte : ℕ) → (before_blank : Bool) → List ℕ
escape b before_blank =
    if is_blank b || (b == 35 || (b == 92 && before_blank)) then 92 ∷ [] else if b == 36 then 36 ∷ [] else []

-- a name as make reads it
abbrev pub escaped : List ℕ → List ℕ
escaped [] = []
escaped (b ∷ bs) = escape b (leads_to_blank bs) ++ b ∷ escaped bs

-- the place of the last such byte
abbrev pub last_place : (text : List ℕ) → (byte : ℕ) → Option ℕ
last_place text byte = rfind_below byte text (length text)

-- what follows the last / of a path
abbrev pub last_component : List ℕ → List ℕ
last_component path = option_map_or (λ i. drop (i + 1) path) (last_place path 47) path

-- what is before the last . of a name
abbrev pub stem : List ℕ → List ℕ
stem name = option_map_or (λ i. take i name) (last_place name 46) name

-- the object file that a compiler makes of a source
abbrev pub object_of : List ℕ → List ℕ
object_of path = stem (last_component path) ++ codes ".o"

---- rules

-- how many bytes of a line come before the last name on it
abbrev pub most_columns : ℕ
most_columns = 72

-- names, each behind a space; so many bytes are on the line already. Where a name would end behind the last column, a new line begins before it
abbrev pub wrapped : (column : ℕ) → List (List ℕ) → List ℕ
wrapped column [] = []
wrapped column (n ∷ ns) =
    if nat_lt most_columns (column + length n) then codes " \\\n " ++ n ++ wrapped (length n + 1) ns
    else codes " " ++ n ++ wrapped (column + length n + 1) ns

-- a target, and the names on which it depends
abbrev pub make_rule : (target : List ℕ) → (names : List (List ℕ)) → List ℕ
make_rule target names = target ++ codes ":" ++ wrapped (length target + 1) names ++ codes "\n"

-- these files, and this one unless it is among them
abbrev pub with_file : List ℕ → ℕ → List ℕ
with_file files file = if list_any (nat_eq file) files then files else files ++ file ∷ []

-- each file once, in the order in which they come first
abbrev pub each_once : List ℕ → List ℕ
each_once files = fold with_file [] files

-- the rule of a source for which these files were read, itself first
abbrev pub rule_of : Layout → (reads : List ℕ) → List ℕ
rule_of layout [] = []
rule_of layout (source ∷ more) =
    make_rule (escaped (object_of (path_at layout source))) (map (λ f. escaped (path_at layout f)) (each_once (source ∷ more)))

-- that of an outcome, unless it stopped
abbrev pub outcome_rule : Layout → Outcome → List ℕ
outcome_rule layout o = option_map_or (λ s. []) o.stop (rule_of layout o.reads)
