-- Questions of GNU C whether a header is found: `__has_include`, which searches as `#include` does, and `__has_include_next`, which
-- searches as `#include_next`.
use Rattle.std.specs.Prelude.{ℕ, suc, ◌==◌, ◌&&◌, Bool, true, false, List, [], ◌∷◌, ◌++◌, Option, Some, None, if◌then◌else◌, codes, bytes_eq, is_some, option_map, slice_index}
use Rattle.inc_text.specs.Ascii.{blank, quotation_mark}
use Rattle.inc_token.specs.declared.kinds.Kind.{Kind}
use Rattle.inc_token.specs.declared.kinds.Kind.TheVariants.{Str}
use Rattle.inc_expand.specs.Expansion.{Item}
use Rattle.inc_lookup.specs.declared.projects.Form.{Form}
use Rattle.inc_lookup.specs.declared.projects.Form.TheVariants.{Quoted, Angled}
use Rattle.inc_lookup.specs.Projects.{Layout, found_place, path_at}
use Rattle.inc_cond.specs.Constants.{unquoted}

-- where a condition looks for headers: from a file of a project, in which an #include_next goes on at `next`
pub record HeaderSearch : Type 0 where
  pub layout : Layout
  pub file : ℕ
  pub next : Option ℕ

-- what a question names
pub record Header : Type 0 where
  pub form : Form
  pub name : List ℕ

-- whether it is found; is_next: the question is `__has_include_next`
abbrev pub is_found : HeaderSearch → (is_next : Bool) → Header → Bool
is_found s is_next h = is_some (found_place s.layout (path_at s.layout s.file) h.form (if is_next then s.next else None) h.name)

---- the tokens after the question's name

-- the same with one more token
abbrev pub one_more : {A : Type 0} → Option (A × ℕ) → Option (A × ℕ)
one_more = option_map (λ r. (r.0, suc r.1))

-- x, where the `)` comes next, and how many tokens that takes
abbrev pub closed : {A : Type 0} → A → List Item → Option (A × ℕ)
closed x [] = None
closed x (i ∷ is) = if bytes_eq i.spelling (codes ")") then Some (x, 1) else None

abbrev pub angled : List ℕ → Header
angled name = record { form = Angled; name = name }

-- with the white space before a token, which is one space of the name
abbrev pub with_space : (name : List ℕ) → Item → List ℕ
with_space name i = if i.space then name ++ blank ∷ [] else name

-- the rest of a name that a `>` ends, and the `)`
abbrev pub asked_angled : (name : List ℕ) → List Item → Option (Header × ℕ)
asked_angled name [] = None
asked_angled name (i ∷ is) =
    one_more (if bytes_eq i.spelling (codes ">") then closed (angled (with_space name i)) is
    else asked_angled (with_space name i ++ i.spelling) is)

abbrev pub is_str_kind : Kind → Bool
is_str_kind Str = true
is_str_kind _ = false

-- a string literal without a prefix
abbrev pub is_plain_string : Item → Bool
is_plain_string i = is_str_kind i.kind && (slice_index i.spelling 0 == quotation_mark)

-- a name between two `"`, or between `<` and `>`, and the `)`
abbrev pub asked_name : List Item → Option (Header × ℕ)
asked_name [] = None
asked_name (i ∷ is) =
    one_more (if is_plain_string i then closed (record { form = Quoted; name = unquoted i.spelling }) is else
    if bytes_eq i.spelling (codes "<") then asked_angled [] is else None)

-- the header that the tokens after the question's name ask for, in parentheses, and how many tokens that takes
abbrev pub asked_header : List Item → Option (Header × ℕ)
asked_header [] = None
asked_header (i ∷ is) = if bytes_eq i.spelling (codes "(") then one_more (asked_name is) else None
