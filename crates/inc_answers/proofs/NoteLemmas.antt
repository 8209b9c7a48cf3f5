-- Texts that are added one after the other.
use Rattle.std.proofs.Common.{◌≡◌, ◌∙◌, ◌+◌, ◌-◌, ◌<◌, ℕ, zero, suc, List, [], ◌∷◌, ◌++◌, Option, Some, None, cond, ap, arith, refl, sym, drop, get_or, length, map, take}
use Rattle.std.proofs.lemmas.Bool.{lt-ltb}
use Rattle.std.proofs.lemmas.List.{append-nil, append_assoc, drop_more, flat_map_more, map-append, take_more}
use Rattle.std.proofs.lemmas.Option.{same_Some}
use Rattle.std.specs.Option.{option_map_or}
use Rattle.std.specs.Prelude.{Bool, flat_map, nat_lt, slice_get, unwrap_or}
use Rattle.inc_lookup.specs.Projects.{Layout, path_at}
use Rattle.inc_graph.specs.MissingLists.{Missing}
use Rattle.inc_graph.specs.declared.graphs.Blocker.{Blocker}
use Rattle.inc_answers.specs.MissingNames.{MissingName, ranked}
use Rattle.inc_answers.specs.MissingNotes.{directory_before, empty_line, empty_lines, found_line, found_note, missing_note, more_note, name_note, names_note, never_note, unreached_line, unreached_lines}
use Rattle.inc_answers.specs.Views.{seen_name}
use Rattle.inc_answers.specs.declared.missing_names.MissingName as code

-- one more text behind those that are added
pub joined : (old a b x y : List ℕ) → x ≡ old ++ a → y ≡ x ++ b → y ≡ old ++ (a ++ b)
joined old a b x y h k = k ∙ ap (λ (l : List ℕ). l ++ b) h ∙ append_assoc old a b

-- the same where it is known by another name
pub joined_as : (old a b c x y : List ℕ) → x ≡ old ++ a → y ≡ x ++ c → c ≡ b → y ≡ old ++ (a ++ b)
joined_as old a b c x y h k is = joined old a b x y h (k ∙ ap (λ (l : List ℕ). x ++ l) is)

---- what finds a name

-- the file at a place
pub file_is : (place count file : ℕ) → place < count → Some file ≡ cond (nat_lt place count) (Some place) None → file ≡ place
file_is place count file low is = same_Some file place (is ∙ ap (λ (b : Bool). cond b (Some place) None) (lt-ltb place count low))

pub path_is : (paths : List (List ℕ)) (i : ℕ) → unwrap_or (slice_get paths i) [] ≡ get_or paths i []
path_is [] i = refl
path_is (p ∷ ps) zero = refl
path_is (p ∷ ps) (suc i) = path_is ps i

-- where this file is the next that is tried
pub found_next : (layout : Layout) (name path : List ℕ) (place file : ℕ) → place < length layout.paths → Some file ≡ cond (nat_lt place (length layout.paths)) (Some place) None
    → path ≡ path_at layout file
    → found_note (drop place layout.paths) name ≡ option_map_or (found_line path) (directory_before name path) (found_note (drop (place + 1) layout.paths) name)
found_next layout name path place file low at is =
    let ps : List (List ℕ) = layout.paths in
    let here : path ≡ get_or ps place [] = is ∙ ap (λ (i : ℕ). path_at layout i) (file_is place (length ps) file low at) ∙ path_is ps place in
    ap (λ (l : List (List ℕ)). found_note l name) (drop_more ps place [] low ∙ ap (λ (p : List ℕ). p ∷ drop (place + 1) ps) (sym here))

-- with what that file gives
pub found_by : (layout : Layout) (name path : List ℕ) (place file : ℕ) (dir : Option (List ℕ)) → place < length layout.paths
    → Some file ≡ cond (nat_lt place (length layout.paths)) (Some place) None → path ≡ path_at layout file → dir ≡ directory_before name path
    → found_note (drop place layout.paths) name ≡ option_map_or (found_line path) dir (found_note (drop (place + 1) layout.paths) name)
found_by layout name path place file dir low at is found =
    found_next layout name path place file low at is
    ∙ ap (λ (o : Option (List ℕ)). option_map_or (found_line path) o (found_note (drop (place + 1) layout.paths) name)) (sym found)

---- names

-- what one of several adds
pub each_more : {X Y : Type 0} (f : Y → List ℕ) (g : X → Y) (old x y : List ℕ) (xs : List X) (i : ℕ) (d : X) → i < length xs → x ≡ old ++ flat_map f (map g (take i xs))
    → y ≡ x ++ f (g (get_or xs i d)) → y ≡ old ++ flat_map f (map g (take (i + 1) xs))
each_more {X} {Y} f g old x y xs i d low h k =
    k ∙ ap (λ (l : List ℕ). l ++ f (g (get_or xs i d))) h ∙ flat_map_more f old (map g (take i xs)) (g (get_or xs i d))
    ∙ ap (λ (l : List Y). old ++ flat_map f l)
    (sym (ap (λ (l : List X). map g l) (take_more xs i d low) ∙ map-append g (take i xs) (get_or xs i d ∷ [])))

-- those that are listed, and how many more there are
pub names_added : (layout : Layout) (ms : List Missing) (old x y : List ℕ) (first lent : List code.MissingName) (names : List MissingName) (n : ℕ)
    → x ≡ old ++ flat_map (name_note layout) (map (seen_name ms) lent) → lent ≡ first → map (seen_name ms) first ≡ take 10 (ranked names)
    → y ≡ x ++ more_note n → n ≡ length names - 10 → y ≡ old ++ names_note layout names
names_added layout ms old x y first lent names n h same are k left =
    joined_as old (flat_map (name_note layout) (take 10 (ranked names))) (more_note (length names - 10)) (more_note n) x y
    (h ∙ ap (λ (l : List MissingName). old ++ flat_map (name_note layout) l) (ap (λ (l : List code.MissingName). map (seen_name ms) l) same ∙ are))
    k (ap (λ (i : ℕ). more_note i) left)

---- what is noted of some directives

-- where each is found
pub no_missing : (layout : Layout) (ms : List Missing) (old : List ℕ) → length ms ≡ 0 → old ≡ old ++ empty_lines layout ms
no_missing layout [] old none = sym (append-nil old)
no_missing layout (m ∷ ms) old none = absurd (omega (arith, none))

pub never_is : (whole : Bool) (layout : Layout) (bs : List Blocker) (ms : List Missing) → length ms ≡ 0 → never_note whole bs ≡ unreached_lines whole layout bs ms
never_is whole layout bs [] none = refl
never_is whole layout bs (m ∷ ms) none = absurd (omega (arith, none))

pub empty_is : (layout : Layout) (ms : List Missing) (count : ℕ) → count ≡ length ms → 0 < count → empty_line count ++ missing_note layout ms ≡ empty_lines layout ms
empty_is layout [] count is some = absurd (omega (arith, is, some))
empty_is layout (m ∷ ms) count is some = ap (λ (n : ℕ). empty_line n ++ missing_note layout (m ∷ ms)) is

pub unreached_is : (whole : Bool) (layout : Layout) (bs : List Blocker) (ms : List Missing) (count : ℕ) → count ≡ length ms → 0 < count
    → unreached_line count ++ missing_note layout ms ≡ unreached_lines whole layout bs ms
unreached_is whole layout bs [] count is some = absurd (omega (arith, is, some))
unreached_is whole layout bs (m ∷ ms) count is some = ap (λ (n : ℕ). unreached_line n ++ missing_note layout (m ∷ ms)) is
