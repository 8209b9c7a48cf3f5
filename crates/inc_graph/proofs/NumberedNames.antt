-- Lists in which numbers of names stand in place of headers.
use Rattle.std.proofs.Common.{◌≡◌, ℕ, zero, suc, ◌<◌, ◌≤◌, Bool, true, false, cond, List, [], ◌∷◌, ◌++◌, Option, Some, None, length, map, get_or, set, refl, sym, ap, ◌∙◌, arith}
use Rattle.std.specs.Prelude.{◌==◌, ◌&&◌, ◌||◌, slice_get}
use Rattle.std.specs.List.{All, list_all, list_any}
use Rattle.std.proofs.lemmas.List.{get_or_append_left, map-append}
use Rattle.std.proofs.Math.Seq.{get_or-append_seam}
use Rattle.std.proofs.lemmas.List.Elements.{All-head, All-tail}
use Rattle.inc_lookup.specs.declared.projects.Form.TheVariants.{Quoted}
use Rattle.inc_graph.specs.declared.missing_lists.Missing as missing
use Rattle.inc_graph.specs.declared.building.entries.Entry as declared
use Rattle.inc_graph.specs.declared.building.entries.Entry.TheVariants as entry
use Rattle.inc_graph.specs.declared.graphs.BlockerKind.TheVariants.{Several}
use Rattle.inc_graph.specs.HeaderNames.{HeaderName, header_of, name_at}
use Rattle.inc_graph.specs.MissingLists as lists
use Rattle.inc_graph.specs.MissingLists.{named_missing}
use Rattle.inc_graph.specs.FileEntries as entries
use Rattle.inc_graph.specs.FileEntries.{named_entry}
use Rattle.inc_graph.specs.IncludeGraph.{is_before, are_in_order}
use Rattle.inc_graph.specs.Nexts.{led_at, led_entry}

---- a name more

pub name_more : (names : List HeaderName) (h : HeaderName) (k : ℕ) → k < length names → name_at (names ++ h ∷ []) k ≡ name_at names k
name_more names h k low = get_or_append_left names (h ∷ []) (header_of Quoted []) k low

pub name_last : (names : List HeaderName) (h : HeaderName) (k : ℕ) → k ≡ length names → name_at (names ++ h ∷ []) k ≡ h
name_last names h k last = ap (name_at (names ++ h ∷ [])) last ∙ get_or-append_seam names h [] (header_of Quoted [])

pub map_agree : {X Y : Type 0} (f g : X → Y) (P : X → Type 0) → ((x : X) → P x → f x ≡ g x) → (xs : List X) → All P xs → map f xs ≡ map g xs
map_agree f g P same [] all = refl
map_agree f g P same (x ∷ xs) all = ap (λ y. y ∷ map f xs) (same x (All-head P x xs all)) ∙ ap (λ ys. g x ∷ ys) (map_agree f g P same xs (All-tail P x xs all))

---- directives whose header is not found

-- one more, with a name of its own
pub missing_pushed : (names all : List HeaderName) (ds new : List (missing.Missing ℕ)) (h : HeaderName) (d : missing.Missing ℕ) → All (lists.HasName (length names)) ds → all ≡ names ++ h ∷ []
    → new ≡ ds ++ d ∷ [] → d.header ≡ length names → map (named_missing all) new ≡ map (named_missing names) ds ++ record { file = d.file; line = d.line; header = h } ∷ []
missing_pushed names all ds new h d within all_is new_is last =
    let more = names ++ h ∷ [] in
    ap (λ (ns : List HeaderName). map (named_missing ns) new) all_is ∙ ap (map (named_missing more)) new_is
    ∙ map-append (named_missing more) ds (d ∷ [])
    ∙ ap (λ (ms : List lists.Missing). ms ++ named_missing more d ∷ [])
    (map_agree (named_missing more) (named_missing names) (lists.HasName (length names)) (λ x low. ap (λ (n : HeaderName). with_name x n) (name_more names h x.header low)) ds within)
    ∙ ap (λ (n : HeaderName). map (named_missing names) ds ++ with_name d n ∷ []) (name_last names h d.header last)
  where
    with_name : missing.Missing ℕ → HeaderName → lists.Missing
    with_name x n = record { file = x.file; line = x.line; header = n }

-- their places say what is before what
before_named : (names : List HeaderName) (x : missing.Missing ℕ) (ds : List (missing.Missing ℕ))
    → list_all (λ (e : lists.Missing). is_before (named_missing names x) e.file e.line) (map (named_missing names) ds) ≡ list_all (λ (e : missing.Missing ℕ). is_before x e.file e.line) ds
before_named names x [] = refl
before_named names x (d ∷ ds) = ap (λ b. is_before x d.file d.line && b) (before_named names x ds)

pub order_named : (names : List HeaderName) (ds : List (missing.Missing ℕ)) → are_in_order (map (named_missing names) ds) ≡ are_in_order ds
order_named names [] = refl
order_named names (d ∷ ds) =
    ap (λ b. b && are_in_order (map (named_missing names) ds)) (before_named names d ds)
    ∙ ap (λ b. list_all (λ (e : missing.Missing ℕ). is_before d e.file e.line) ds && b) (order_named names ds)

pub any_named : (names : List HeaderName) (file line : ℕ) (ds : List (missing.Missing ℕ))
    → list_any (λ (d : lists.Missing). (d.file == file) && (d.line == line)) (map (named_missing names) ds) ≡ list_any (λ (d : missing.Missing ℕ). (d.file == file) && (d.line == line)) ds
any_named names file line [] = refl
any_named names file line (d ∷ ds) = ap (λ b. ((d.file == file) && (d.line == line)) || b) (any_named names file line ds)

---- entries of a file

entry_same : (names all : List HeaderName) → ((k : ℕ) → k < length names → name_at all k ≡ name_at names k) → (e : declared.Entry ℕ) → entries.HasName (length names) e → named_entry all e ≡ named_entry names e
entry_same names all same (entry.Edge to line) low = refl
entry_same names all same (entry.Missing line header) low = ap (entry.Missing line) (same header low)
entry_same names all same (entry.Blocker line kind) low = refl
entry_same names all same (entry.ByName name line) low = refl
entry_same names all same (entry.Defines name line) low = refl

-- one more
pub entry_pushed : (names all : List HeaderName) (es new : List (declared.Entry ℕ)) (e : declared.Entry ℕ) (seen : entries.Entry) → All (entries.HasName (length names)) es
    → ((k : ℕ) → k < length names → name_at all k ≡ name_at names k) → new ≡ es ++ e ∷ [] → named_entry all e ≡ seen → map (named_entry all) new ≡ map (named_entry names) es ++ seen ∷ []
entry_pushed names all es new e seen within same new_is is =
    ap (map (named_entry all)) new_is ∙ map-append (named_entry all) es (e ∷ [])
    ∙ ap (λ (l : List entries.Entry). l ++ named_entry all e ∷ []) (map_agree (named_entry all) (named_entry names) (entries.HasName (length names)) (entry_same names all same) es within)
    ∙ ap (λ (x : entries.Entry). map (named_entry names) es ++ x ∷ []) is

-- one that names no header
pub plain_entry : (names : List HeaderName) (e : declared.Entry ℕ) → entries.NamesNone e → named_entry names e ≡ named_entry [] e
plain_entry names (entry.Edge to line) none = refl
plain_entry names (entry.Missing line header) none = absurd none
plain_entry names (entry.Blocker line kind) none = refl
plain_entry names (entry.ByName name line) none = refl
plain_entry names (entry.Defines name line) none = refl

-- one with a name of its own
pub missing_entry : (names all : List HeaderName) (es new : List (declared.Entry ℕ)) (line header : ℕ) (h : HeaderName) → All (entries.HasName (length names)) es → all ≡ names ++ h ∷ []
    → new ≡ es ++ entry.Missing line header ∷ [] → header ≡ length names → map (named_entry all) new ≡ map (named_entry names) es ++ entry.Missing line h ∷ []
missing_entry names all es new line header h within all_is new_is last =
    entry_pushed names all es new (entry.Missing line header) (entry.Missing line h) within
    (λ k low. ap (λ (ns : List HeaderName). name_at ns k) all_is ∙ name_more names h k low) new_is
    (ap (entry.Missing line) (ap (λ (ns : List HeaderName). name_at ns header) all_is ∙ name_last names h header last))

-- one that leads to a file more, as it is kept and as it is seen
pub led_named : (names : List HeaderName) (file : ℕ) (e : declared.Entry ℕ) → named_entry names (led_entry file e) ≡ led_entry file (named_entry names e)
led_named names file (entry.Edge to line) = one (to == file)
  where
    one : (b : Bool) → named_entry names (cond b (entry.Edge to line) (entry.Blocker line Several)) ≡ cond b (entry.Edge to line) (entry.Blocker line Several)
    one true = refl
    one false = refl
led_named names file (entry.Missing line header) = refl
led_named names file (entry.Blocker line kind) = refl
led_named names file (entry.ByName name line) = refl
led_named names file (entry.Defines name line) = refl

pub led_within : (names : List HeaderName) (es : List (declared.Entry ℕ)) (index file : ℕ) (e led : declared.Entry ℕ) → index < length es → e ≡ get_or es index e → led ≡ led_entry file e
    → map (named_entry names) (set es index led) ≡ led_at index file (map (named_entry names) es)
led_within names [] index file e led low at is = absurd (omega arith)
led_within names (x ∷ xs) zero file e led low at is = ap (λ (y : entries.Entry). y ∷ map (named_entry names) xs) (ap (named_entry names) (is ∙ ap (led_entry file) at) ∙ led_named names file x)
led_within names (x ∷ xs) (suc index) file e led low at is =
    ap (λ (l : List entries.Entry). named_entry names x ∷ l) (led_within names xs index file e led (omega (arith, low)) at is)
    ∙ sym (inner (slice_get (map (named_entry names) xs) index))
  where
    inner : (o : Option entries.Entry) → (elim o [ Some y ↦ set (named_entry names x ∷ map (named_entry names) xs) (suc index) (led_entry file y) | None ↦ named_entry names x ∷ map (named_entry names) xs ])
        ≡ named_entry names x ∷ (elim o [ Some y ↦ set (map (named_entry names) xs) index (led_entry file y) | None ↦ map (named_entry names) xs ])
    inner (Some y) = refl
    inner None = refl

pub led_past : (es : List entries.Entry) (index file : ℕ) → length es ≤ index → es ≡ led_at index file es
led_past [] index file low = refl
led_past (x ∷ xs) zero file low = absurd (omega (arith, low))
led_past (x ∷ xs) (suc index) file low = ap (λ (l : List entries.Entry). x ∷ l) (led_past xs index file (omega (arith, low))) ∙ sym (inner (slice_get xs index))
  where
    inner : (o : Option entries.Entry) → (elim o [ Some y ↦ set (x ∷ xs) (suc index) (led_entry file y) | None ↦ x ∷ xs ]) ≡ x ∷ (elim o [ Some y ↦ set xs index (led_entry file y) | None ↦ xs ])
    inner (Some y) = refl
    inner None = refl
