-- The tokens of a line that includes by a name, and the names that no build and no file defines.
use Rattle.std.proofs.Common.{◌≡◌, ℕ, zero, suc, ◌+◌, ◌<◌, arith, Bool, true, false, List, [], ◌∷◌, ◌++◌, Option, Some, None, Result, Ok, Err, IfOk, bytes_eq, codes, drop, length, get_or, inl, inr, refl, sym, ap, ◌∙◌, subst, if◌then◌else◌}
use Rattle.std.specs.Prelude.{Contains, IsTrue, fold, not, ◌||◌, option_and_then, option_map}
use Rattle.std.specs.List.{list_all, list_any}
use Rattle.std.proofs.lemmas.Bool.{and_parts, cases_Bool, cond_both, not-true, not_from_false, or_from, or_left, or_parts, or_right}
use Rattle.std.proofs.lemmas.List.Folds.{list_any-append}
use Rattle.std.proofs.lemmas.List.Quantifiers.{position-Some}
use Rattle.std.proofs.lemmas.Slice.Eq.{bytes_eq-Decides}
use Rattle.inc_text.specs.PhaseText.{Cell}
use Rattle.inc_token.specs.Prefixes.{first_operand}
use Rattle.inc_token.specs.LineWalk.{lines_or_none}
use Rattle.inc_token.specs.Spellings.{is_identifier}
use Rattle.inc_token.specs.TokenLaws.{has_spellings, is_spelled}
use Rattle.inc_token.specs.TokenLines.{Tok, TokenLine, include_name, is_hash, token_lines}
use Rattle.inc_token.specs.declared.kinds.IncludeName.{IncludeName}
use Rattle.inc_token.specs.declared.kinds.Kind.{Kind}
use Rattle.inc_token.specs.declared.kinds.Kind.TheVariants.{Identifier}
use Rattle.inc_text.specs.declared.languages.Language.{Language}
use Rattle.inc_text.specs.declared.languages.Language.TheVariants.{C17, Extended, Gnu}
use Rattle.inc_token.specs.declared.lines.LexFault.{LexFault}
use Rattle.inc_token.proofs.Spelled.{token_lines-spelled}
use Rattle.inc_directive.specs.Groups.{FileLine, file_lines, file_lines_from}
use Rattle.inc_directive.specs.LineKinds.{Angled, ByName, Include, LineKind, Other, Quoted, Target, Text, defined_name, directive_kind, expanded_target, header_target, include_or, inner_bytes, is_header_kind, line_kind, line_of_tokens, other_kind, target_of}
use Rattle.inc_directive.specs.declared.kinds.DirectiveKind.{DirectiveKind}
use Rattle.inc_directive.specs.declared.kinds.DirectiveKind.TheVariants.{Define}
use Rattle.inc_lookup.specs.Projects.{each_once, with_path}
use Rattle.inc_macro.specs.Macros.{Table, is_defined}
use Rattle.inc_macro.proofs.UndefinedNames.{IsAbsent, absent_undefined}
use Rattle.inc_graph.specs.IncludeGraph.{defined_at, definitions_in, line_definition, undefined_place}
use Rattle.inc_graph.proofs.LeadLemmas.{contains_cases, contains_first, contains_kept, contains_later, contains_nothing}
use Rattle.inc_pp.proofs.NamedIncludes.{BeginsWith}
use Rattle.inc_report.proofs.KeptLines.{IsLineOf}

---- an include by a name

module _ (by : IncludeName) (name : List ℕ) where
  after_hash : (language : Language) (ts : List Tok) (b : Bool) → (if b then directive_kind language ts else Text) ≡ Include by (ByName name)
      → directive_kind language ts ≡ Include by (ByName name)
  after_hash language ts true is = is
  after_hash language ts false is = cc

  includes : (o : Option IncludeName) (target : Target) (other : DirectiveKind) → include_or o target other ≡ Include by (ByName name) → target ≡ ByName name
  includes (Some k) target other is = cc
  includes None target other is = cc

no_header_name : (s name : List ℕ) (b : Bool) → (if b then Quoted (inner_bytes s) else Angled (inner_bytes s)) ≡ ByName name → ⊥
no_header_name s name true is = cc
no_header_name s name false is = cc

named : (kind : Kind) (s name : List ℕ) → expanded_target kind s ≡ ByName name → (kind ≡ Identifier) × (s ≡ name)
named Identifier s name is = let same : s ≡ name = cc in (refl, same)
named kind s name is = cc

names_itself : (kind : Kind) (s name : List ℕ) (b : Bool) → (if b then header_target s else expanded_target kind s) ≡ ByName name → (kind ≡ Identifier) × (s ≡ name)
names_itself kind s name true is = absurd (no_header_name s name _ is)
names_itself kind s name false is = named kind s name is

bracket_is_no_name : (language : Language) → is_identifier language (codes "<") ≡ false
bracket_is_no_name C17 = refl
bracket_is_no_name Extended = refl
bracket_is_no_name Gnu = refl

-- a token of such a spelling is no `<`
no_bracket : (language : Language) (t : Tok) → t.kind ≡ Identifier → is_spelled language t ≡ true → bytes_eq t.spelling (codes "<") ≡ false
no_bracket language t kind spelled =
    elim (cases_Bool (bytes_eq t.spelling (codes "<"))) [
      | inl same ↦
          let bracket : t.spelling ≡ codes "<" = (bytes_eq-Decides t.spelling (codes "<")).0 same in
          let never : is_spelled language t ≡ false = ap (λ (k : Kind). is_spelled language (record t { kind = k })) kind ∙ ap (is_identifier language) bracket ∙ bracket_is_no_name language in
          absurd (let both : true ≡ false = sym spelled ∙ never in cc)
      | inr other ↦ other
    ]

first_of_three : (language : Language) (by : IncludeName) (name : List ℕ) (ts : List Tok) → directive_kind language ts ≡ Include by (ByName name) → list_all (is_spelled language) ts ≡ true
    → BeginsWith name (drop 1 ts)
first_of_three language by name [] is spelled = cc
first_of_three language by name (u ∷ []) is spelled =
    let none : target_of None ≡ ByName name = includes by name (include_name language u.spelling) (target_of None) (other_kind language u.spelling) is in cc
first_of_three language by name (u ∷ v ∷ vs) is spelled =
    let target = includes by name (include_name language u.spelling) (target_of (first_operand (v ∷ vs))) (other_kind language u.spelling) is in
    let itself = names_itself v.kind v.spelling name (is_header_kind v.kind) target in
    let spelled_v : is_spelled language v ≡ true = (and_parts (is_spelled language v) (list_all (is_spelled language) vs) (and_parts (is_spelled language u) (list_all (is_spelled language) (v ∷ vs)) spelled).1).0 in
    record {
      first = v;
      more = vs;
      are = refl;
      kind = itself.0;
      spelling = itself.1;
      bracket = ap (λ (n : List ℕ). bytes_eq n (codes "<")) (sym itself.1) ∙ no_bracket language v itself.0 spelled_v;
    }

-- the tokens after its name begin with the name that it includes by
pub begins_with : (language : Language) (by : IncludeName) (name : List ℕ) (ts : List Tok) → line_kind language ts ≡ Include by (ByName name) → list_all (is_spelled language) ts ≡ true
    → BeginsWith name (drop 2 ts)
begins_with language by name [] is spelled = cc
begins_with language by name (t ∷ ts) is spelled =
    first_of_three language by name ts (after_hash by name language ts (is_hash t.spelling) is) (and_parts (is_spelled language t) (list_all (is_spelled language) ts) spelled).1

---- the tokens of a file

spelled_in : (language : Language) (r : Result (List TokenLine) LexFault) → IfOk r (λ ls. IsTrue (list_all (has_spellings language) ls)) → list_all (has_spellings language) (lines_or_none r) ≡ true
spelled_in language (Ok ls) h = h
spelled_in language (Err fault) h = refl

all_at : {X : Type 0} (p : X → Bool) (xs : List X) (k : ℕ) (d : X) → list_all p xs ≡ true → k < length xs → p (get_or xs k d) ≡ true
all_at p [] k d h low = absurd (omega (arith, low))
all_at p (x ∷ xs) zero d h low = (and_parts (p x) (list_all p xs) h).0
all_at p (x ∷ xs) (suc k) d h low = all_at p xs k d (and_parts (p x) (list_all p xs) h).1 (omega (arith, low))

-- what holds of all holds of an element
all_there : {X : Type 0} (p : X → Bool) (xs : List X) (x : X) → list_all p xs ≡ true → Contains xs x → p x ≡ true
all_there p xs x h c = sym (ap p c.2) ∙ all_at p xs c.0 x h c.1

none_at : {X : Type 0} (p : X → Bool) (xs : List X) (k : ℕ) (d : X) → list_any p xs ≡ false → k < length xs → p (get_or xs k d) ≡ false
none_at p [] k d h low = absurd (omega (arith, low))
none_at p (x ∷ xs) zero d h low = (or_parts (p x) (list_any p xs) h).0
none_at p (x ∷ xs) (suc k) d h low = none_at p xs k d (or_parts (p x) (list_any p xs) h).1 (omega (arith, low))

any_at : {X : Type 0} (p : X → Bool) (xs : List X) (k : ℕ) (d : X) → k < length xs → p (get_or xs k d) ≡ true → list_any p xs ≡ true
any_at p [] k d low h = absurd (omega (arith, low))
any_at p (x ∷ xs) zero d low h = or_left (p x) (list_any p xs) h
any_at p (x ∷ xs) (suc k) d low h = or_right (p x) (list_any p xs) (any_at p xs k d (omega (arith, low)) h)

-- what holds of an element holds of some
pub any_there : {X : Type 0} (p : X → Bool) (xs : List X) (x : X) → Contains xs x → p x ≡ true → list_any p xs ≡ true
any_there p xs x c h = any_at p xs c.0 x c.1 (ap p c.2 ∙ h)

-- each token of a line that is one of the file has the class that it is said to have
pub line_is_spelled : (language : Language) (cells : List Cell) (l : FileLine) → IsLineOf language (lines_or_none (token_lines language cells)) l → list_all (is_spelled language) l.tokens ≡ true
line_is_spelled language cells l is =
    elim is.1 [
      | inl none ↦ ap (list_all (is_spelled language)) none
      | inr there ↦
          ap (list_all (is_spelled language)) (sym there.2)
          ∙ all_there (has_spellings language) (lines_or_none (token_lines language cells)) there.0 (spelled_in language (token_lines language cells) (token_lines-spelled language cells)) there.1
    ]

---- names that no build defines

-- a line of these by its tokens
abbrev file_line : Language → ℕ → TokenLine → FileLine
file_line language place m = record { place = place; kind = line_kind language m.tokens; tokens = m.tokens; last_line = m.last_line }

file_line_there : (language : Language) (place : ℕ) (ls : List TokenLine) (m : TokenLine) → Contains ls m → (p : ℕ) × Contains (file_lines_from language place ls) (file_line language p m)
file_line_there language place [] m c = absurd (contains_nothing m c)
file_line_there language place (l ∷ ls) m c =
    elim (contains_cases l ls m c) [
      | inl same ↦ (place, subst (λ (x : TokenLine). Contains (file_lines_from language place (l ∷ ls)) (file_line language place x)) same (contains_first (file_line language place l) (file_lines_from language (place + 1) ls)))
      | inr later ↦
          let there = file_line_there language (place + 1) ls m later in
          (there.0, contains_later (file_line language place l) (file_lines_from language (place + 1) ls) (file_line language there.0 m) there.1)
    ]

defines_nothing : (kind : LineKind) → defined_name kind [] ≡ None
defines_nothing (Other Define) = refl
defines_nothing kind = refl

-- the name that a line of the file defines is one of its definitions
pub place_there : (language : Language) (names : List (List ℕ)) (ls : List TokenLine) (l : FileLine) (name : List ℕ) (k : ℕ) → IsLineOf language ls l
    → defined_name l.kind l.tokens ≡ Some name → undefined_place names name ≡ Some k → Contains (definitions_in names (file_lines language ls)) (defined_at (line_of_tokens l.tokens) k)
place_there language names ls l name k line defines is =
    elim line.1 [
      | inl none ↦
          absurd (let never : None ≡ Some name = sym (ap (defined_name l.kind) none ∙ defines_nothing l.kind) ∙ defines in cc)
      | inr there ↦
          let here = file_line_there language 0 ls there.0 there.1 in
          let at = line_of_tokens l.tokens in
          contains_kept (line_definition names) (file_lines language ls) (file_line language here.0 there.0) (defined_at at k) here.1
          (ap (λ (ts : List Tok). option_map (defined_at (line_of_tokens ts)) (option_and_then (undefined_place names) (defined_name (line_kind language ts) ts))) there.2
          ∙ ap (λ (kind : LineKind). option_map (defined_at at) (option_and_then (undefined_place names) (defined_name kind l.tokens))) (sym line.0)
          ∙ ap (λ (o : Option (List ℕ)). option_map (defined_at at) (option_and_then (undefined_place names) o)) defines
          ∙ ap (option_map (defined_at at)) is)
    ]

-- where none of these names is defined, each that has a place among them is not, and gets no definition back where nothing is put aside
pub none_defined : (names : List (List ℕ)) (name : List ℕ) (k : ℕ) (table : Table) → undefined_place names name ≡ Some k → IsTrue (not (list_any (λ n. is_defined n table) names))
    → table.aside name ≡ [] → IsAbsent name table
none_defined names name k table is none aside =
    let found = position-Some (bytes_eq name) names k [] is in
    let same : name ≡ get_or names k [] = (bytes_eq-Decides name (get_or names k [])).0 found.1 in
    let off : list_any (λ n. is_defined n table) names ≡ false = not-true (list_any (λ n. is_defined n table) names) none in
    absent_undefined name table (ap (λ n. is_defined n table) same ∙ none_at (λ n. is_defined n table) names k [] off found.0) aside

with_none : (p : List ℕ → Bool) (done : List (List ℕ)) (name : List ℕ) → list_any p done ≡ false → p name ≡ false → list_any p (with_path done name) ≡ false
with_none p done name none off =
    cond_both (list_any (bytes_eq name) done) done (done ++ name ∷ []) (λ names. list_any p names ≡ false) (λ _. none)
    (λ _. list_any-append p done (name ∷ []) ∙ or_from (list_any p done) (p name || false) none (or_from (p name) false off refl))

fold_none : (p : List ℕ → Bool) (done names : List (List ℕ)) → list_any p done ≡ false → list_any p names ≡ false → list_any p (fold with_path done names) ≡ false
fold_none p done [] none off = none
fold_none p done (name ∷ names) none off =
    let parts = or_parts (p name) (list_any p names) off in
    fold_none p (with_path done name) names (with_none p done name none parts.0) parts.1

-- where none of these names is defined, none is of those of which each is there once
pub none_once : (names : List (List ℕ)) (table : Table) → IsTrue (not (list_any (λ n. is_defined n table) names)) → IsTrue (not (list_any (λ n. is_defined n table) (each_once names)))
none_once names table none =
    not_from_false (list_any (λ n. is_defined n table) (each_once names))
    (fold_none (λ n. is_defined n table) [] names refl (not-true (list_any (λ n. is_defined n table) names) none))
