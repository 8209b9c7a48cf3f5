-- Reasons beside the refusal of blockers whose directives are known.
use Rattle.std.proofs.Common.{◌≡◌, ◌≢◌, ◌∙◌, ◌<◌, ◌+◌, ◌-◌, ℕ, Bool, true, false, List, [], ◌∷◌, ◌++◌, ◌||◌, Option, Some, None, ap, ap₂, arith, cond, get_or, length, map, not, refl, subst, sym, take}
use Rattle.std.specs.List.{All, cons_option, fold, list_any}
use Rattle.std.specs.Prelude.{IfSome, filter, filter_map, flat_map, min, option_and_then}
use Rattle.std.proofs.lemmas.List.{take_min, take_more}
use Rattle.std.proofs.lemmas.List.Elements.{All-head, All-tail, All-take, filter-append, filter_map-append}
use Rattle.std.proofs.lemmas.List.Sums.{fold-append}
use Rattle.inc_text.specs.declared.languages.Language.{Language}
use Rattle.inc_lookup.specs.declared.projects.DirectiveId.{DirectiveId}
use Rattle.inc_lookup.specs.Projects.{Layout, each_once, path_at, with_path}
use Rattle.inc_directive.specs.LineKinds.{LineKind}
use Rattle.inc_graph.specs.IncludeGraph.{name_in}
use Rattle.inc_graph.specs.declared.graphs.Blocker.{Blocker}
use Rattle.inc_answers.specs.BlockedReasons.{blocker_reason_words, drop_line, reasons_by}
use Rattle.inc_answers.specs.FaultReasons.{reason_line}
use Rattle.inc_answers.specs.NearNames.{more_line, most_unnamed}
use Rattle.inc_answers.specs.NamedReasons.{Sight, definition_words, directive_of, is_made_by, is_open, kind_reason, made_place, named_reason, named_reasons, names_line, open_names, with_open, written_end}

---- names

-- some element passes, by what it stands for
pub any_map : {X Y : Type 0} (p : Y → Bool) (f : X → Y) (xs : List X) → list_any (λ x. p (f x)) xs ≡ list_any p (map f xs)
any_map p f [] = refl
any_map p f (x ∷ xs) = ap (λ b. p (f x) || b) (any_map p f xs)

-- of a list of one name that passes a test, or of none
one_by : (names : List (List ℕ)) (name : List ℕ) (b : Bool) → fold with_path names (cond b (name ∷ []) []) ≡ cond b (with_path names name) names
one_by names name true = refl
one_by names name false = refl

one_open : (test : List ℕ → Bool) (names : List (List ℕ)) (o : Option (List ℕ)) (b : Blocker) (name_of : Blocker → Option (List ℕ)) → name_of b ≡ o
    → fold with_path names (filter test (filter_map name_of (b ∷ []))) ≡ with_open test names o
one_open test names None b name_of is = rw is refl
one_open test names (Some name) b name_of is = rw is (one_by names name (test name))

-- the names of one blocker more
pub names_more : (test : List ℕ → Bool) (name_of : Blocker → Option (List ℕ)) (bs : List Blocker) (i : ℕ) (d : Blocker) → i < length bs
    → each_once (filter test (filter_map name_of (take (i + 1) bs))) ≡ with_open test (each_once (filter test (filter_map name_of (take i bs)))) (name_of (get_or bs i d))
names_more test name_of bs i d low =
    let front : List Blocker = take i bs in
    let last : Blocker = get_or bs i d in
    let none : List (List ℕ) = [] in
    ap (λ (xs : List Blocker). each_once (filter test (filter_map name_of xs))) (take_more bs i d low)
    ∙ ap (λ (ns : List (List ℕ)). each_once (filter test ns)) (filter_map-append name_of front (last ∷ []))
    ∙ ap each_once (filter-append test (filter_map name_of front) (filter_map name_of (last ∷ [])))
    ∙ fold-append with_path none (filter test (filter_map name_of front)) (filter test (filter_map name_of (last ∷ [])))
    ∙ one_open test (each_once (filter test (filter_map name_of front))) (name_of last) last name_of refl

-- the same by the directive of that blocker
pub names_step : (language : Language) (undefined : List (List ℕ)) (kind : DirectiveId → LineKind) (bs : List Blocker) (i : ℕ) (b : Blocker) (seen : LineKind) (old new : List (List ℕ))
    → i < length bs → b ≡ get_or bs i b → old ≡ open_names language undefined kind (take i bs) → new ≡ with_open (is_open language undefined) old (name_in seen) → seen ≡ kind (directive_of b)
    → new ≡ open_names language undefined kind (take (i + 1) bs)
names_step language undefined kind bs i b seen old new low is so_far step same =
    step
    ∙ ap₂ (λ (ns : List (List ℕ)) (k : LineKind). with_open (is_open language undefined) ns (name_in k)) so_far
    (same ∙ ap (λ (x : Blocker). kind (directive_of x)) is)
    ∙ sym (names_more (is_open language undefined) (λ (x : Blocker). name_in (kind (directive_of x))) bs i b low)

---- where names are defined

-- in words it counts only where the name is one of these
words_if : (x : Bool) (m : Option DirectiveId) (layout : Layout) (other : List ℕ)
    → cond x (definition_words layout (cond x m None)) other ≡ cond x (definition_words layout m) other
words_if true m layout other = refl
words_if false m layout other = refl

pub line_by : (undefined : List (List ℕ)) (layout : Layout) (definition : List ℕ → Option DirectiveId) (r : Option DirectiveId) (kind : LineKind) (b : Blocker)
    → r ≡ cond (is_made_by undefined kind) (made_place definition kind) None
    → kind_reason undefined layout r kind b ≡ kind_reason undefined layout (made_place definition kind) kind b
line_by undefined layout definition r kind b is =
    ap (λ (o : Option DirectiveId). kind_reason undefined layout o kind b) is
    ∙ ap (λ (words : List ℕ). reason_line (path_at layout b.file) b.line (words ++ written_end kind b.kind))
    (words_if (is_made_by undefined kind) (made_place definition kind) layout (blocker_reason_words b.kind))

-- it is in one of the files
pub made_low : (definition : List ℕ → Option DirectiveId) (count : ℕ) → ((name : List ℕ) (d : DirectiveId) → definition name ≡ Some d → d.file < count)
    → (x : Bool) (kind : LineKind) (r : Option DirectiveId) → r ≡ cond x (made_place definition kind) None → IfSome r (λ (d : DirectiveId). d.file < count)
made_low definition count low x kind r is =
    subst (λ (o : Option DirectiveId). IfSome o (λ (d : DirectiveId). d.file < count)) (sym is) (by_name x (name_in kind))
  where
    by_place : (o : Option DirectiveId) → ((d : DirectiveId) → o ≡ Some d → d.file < count) → IfSome o (λ (d : DirectiveId). d.file < count)
    by_place None each = tt
    by_place (Some d) each = each d refl

    by_name : (x : Bool) (o : Option (List ℕ)) → IfSome (cond x (option_and_then definition o) None) (λ (d : DirectiveId). d.file < count)
    by_name true None = tt
    by_name true (Some name) = by_place (definition name) (low name)
    by_name false o = tt

---- what is said beside the refusal, by its parts

pub reasons_added : (line : Blocker → List ℕ) (undefine : List Blocker → List ℕ) (layout : Layout) (bs : List Blocker) (count : ℕ) (start first second third end : List ℕ)
    → count ≡ min 10 (length bs) → start ≡ [] → first ≡ start ++ flat_map line (take count bs) → second ≡ first ++ more_line (length bs - count)
    → third ≡ second ++ undefine (take count bs) → end ≡ third ++ drop_line layout bs → end ≡ reasons_by line undefine layout bs
reasons_added line undefine layout bs count start first second third end most empty lines more names drops =
    let some : take count bs ≡ take 10 bs = ap (λ (i : ℕ). take i bs) most ∙ take_min 10 bs in
    let left : length bs - count ≡ length bs - 10 = omega (arith, most) in
    drops ∙ ap (λ (t : List ℕ). t ++ drop_line layout bs)
    (names ∙ ap₂ (λ (t : List ℕ) (l : List Blocker). t ++ undefine l)
    (more ∙ ap₂ (λ (t : List ℕ) (n : ℕ). t ++ more_line n)
    (lines ∙ ap₂ (λ (t : List ℕ) (l : List Blocker). t ++ flat_map line l) empty some) left) some)

pub reasons_made : (language : Language) (undefined : List (List ℕ)) (sight : Sight) (layout : Layout) (bs : List Blocker) (count : ℕ) (start first second third end : List ℕ)
    → count ≡ min 10 (length bs) → start ≡ [] → first ≡ start ++ flat_map (named_reason undefined sight layout) (take count bs) → second ≡ first ++ more_line (length bs - count)
    → third ≡ second ++ names_line (open_names language undefined sight.kind (take count bs)) → end ≡ third ++ drop_line layout bs
    → end ≡ named_reasons language undefined sight layout bs
reasons_made language undefined sight layout bs count start first second third end most empty lines more names drops =
    reasons_added (named_reason undefined sight layout) (λ firsts. names_line (open_names language undefined sight.kind firsts)) layout bs count start first second third end most empty lines more names drops

---- directives that are the same by two views, and names that are defined at the same places

module _ (k l : Sight) (places : (name : List ℕ) → k.definition name ≡ l.definition name) where
  abbrev IsSameOf : Blocker → Type 0
  IsSameOf b = k.kind (directive_of b) ≡ l.kind (directive_of b)

  made_same : (o : Option (List ℕ)) → option_and_then k.definition o ≡ option_and_then l.definition o
  made_same None = refl
  made_same (Some name) = places name

  one_same : (undefined : List (List ℕ)) (layout : Layout) (b : Blocker) → IsSameOf b → named_reason undefined k layout b ≡ named_reason undefined l layout b
  one_same undefined layout b is =
      ap (λ (kind : LineKind). kind_reason undefined layout (made_place k.definition kind) kind b) is
      ∙ ap (λ (o : Option DirectiveId). kind_reason undefined layout o (l.kind (directive_of b)) b) (made_same (name_in (l.kind (directive_of b))))

  lines_same : (undefined : List (List ℕ)) (layout : Layout) (bs : List Blocker) → All IsSameOf bs
      → flat_map (named_reason undefined k layout) bs ≡ flat_map (named_reason undefined l layout) bs
  lines_same undefined layout [] all = refl
  lines_same undefined layout (b ∷ bs) all =
      ap₂ (λ (line rest : List ℕ). line ++ rest) (one_same undefined layout b (All-head IsSameOf b bs all)) (lines_same undefined layout bs (All-tail IsSameOf b bs all))

  names_same : (bs : List Blocker) → All IsSameOf bs
      → filter_map (λ (b : Blocker). name_in (k.kind (directive_of b))) bs ≡ filter_map (λ (b : Blocker). name_in (l.kind (directive_of b))) bs
  names_same [] all = refl
  names_same (b ∷ bs) all =
      ap₂ (λ (kind : LineKind) (rest : List (List ℕ)). cons_option (name_in kind) rest) (All-head IsSameOf b bs all) (names_same bs (All-tail IsSameOf b bs all))

  pub reasons_same : (language : Language) (undefined : List (List ℕ)) (layout : Layout) (bs : List Blocker) → All IsSameOf bs
      → named_reasons language undefined k layout bs ≡ named_reasons language undefined l layout bs
  reasons_same language undefined layout bs all =
      let firsts : List Blocker = take most_unnamed bs in
      let some = All-take IsSameOf most_unnamed bs all in
      ap₂ (λ (lines names : List ℕ). lines ++ more_line (length bs - most_unnamed) ++ names ++ drop_line layout bs)
      (lines_same undefined layout firsts some)
      (ap (λ (ns : List (List ℕ)). names_line (each_once (filter (is_open language undefined) ns))) (names_same firsts some))
