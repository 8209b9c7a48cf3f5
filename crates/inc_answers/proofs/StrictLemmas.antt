-- What is printed of a strict question, by its directives whose header is not found.
use Rattle.std.proofs.Common.{◌≡◌, ◌≢◌, ◌∙◌, ◌+◌, ◌-◌, ◌<◌, ◌++◌, ◌||◌, arith, ℕ, Bool, true, false, List, [], ◌∷◌, Option, None, refl, ap, ap₂, cond, get_or, length, map, sym, take}
use Rattle.std.specs.Prelude.{◌==◌, flat_map, min, not, filter}
use Rattle.std.specs.List.{All, list_any, take-map}
use Rattle.std.specs.Option.{option_map_or}
use Rattle.std.proofs.lemmas.List.Elements.{All-filter, All-nil}
use Rattle.std.proofs.lemmas.Bool.{eqb-false, eqb-true}
use Rattle.std.proofs.lemmas.List.{append-nil, length-map, map-append, nil_from_length, take_min, take_more}
use Rattle.std.proofs.lemmas.List.Folds.{list_any-append}
use Rattle.inc_globs.specs.Globs.{Piece, fits, pieces}
use Rattle.inc_lookup.specs.Projects.{Layout, path_at}
use Rattle.inc_graph.specs.IncludeGraph.{Graph}
use Rattle.inc_graph.specs.MissingLists.{Missing, missing_at}
use Rattle.inc_graph.specs.declared.graphs.Blocker.{Blocker}
use Rattle.inc_check.specs.Texts.{marks_text}
use Rattle.inc_answers.specs.DirectiveNames.{kept_kind}
use Rattle.inc_answers.specs.JsonAnswers.{about_subject, stray_text}
use Rattle.inc_answers.specs.JsonRefusals.{refusal_json, stray_item}
use Rattle.inc_answers.specs.MarkTexts.{missing_mark}
use Rattle.inc_answers.specs.NearNames.{more_line}
use Rattle.inc_answers.specs.Numbers.{directive_text}
use Rattle.inc_answers.specs.Printed.{Printed, refused_for}
use Rattle.inc_answers.specs.CommandNames.{command_name}
use Rattle.inc_answers.specs.Refusals.{NotFound}
use Rattle.inc_answers.specs.Strictness.{Unless, asked_strays_of, except_line, fits_name, is_excepted, not_found, stray_reason, stray_reasons, strays, strays_behind, strays_of}
use Rattle.inc_answers.specs.Terms.{Question}
use Rattle.inc_answers.specs.declared.asked.Asked.{Asked}
use Rattle.inc_answers.specs.declared.asked.Asked.TheVariants as asked
use Rattle.inc_answers.specs.declared.subjects.Subject.{Subject}
use Rattle.inc_answers.proofs.WhyLemmas.{marks_text-append}

---- the answer, or the refusal

-- where there are none of these directives the answer stands
pub unless_none : (layout : Layout) (ms : List Missing) (Then : Printed → Type 0) (p : Printed) → ms ≡ [] → Then p → Unless layout ms Then p
unless_none layout ms Then p none told = rw none told

-- where there are some they are refused
pub unless_some : (layout : Layout) (ms : List Missing) (Then : Printed → Type 0) (p : Printed) → ms ≢ [] → p ≡ not_found layout ms → Unless layout ms Then p
unless_some layout [] Then p some is = absurd (some refl)
unless_some layout (m ∷ ms) Then p some is = is

pub unless_all : (layout : Layout) (ms : List Missing) (A B : Printed → Type 0) (p : Printed) → (A p → B p) → Unless layout ms A p → Unless layout ms B p
unless_all layout [] A B p step is = step is
unless_all layout (m ∷ ms) A B p step is = is

-- where the answer is one text, so are it and the refusal
pub one_unless : (layout : Layout) (ms : List Missing) (Then : Printed → Type 0) (p q : Printed) → (Then p → Then q → p ≡ q) → Unless layout ms Then p → Unless layout ms Then q → p ≡ q
one_unless layout [] Then p q one h k = one h k
one_unless layout (m ∷ ms) Then p q one h k = h ∙ sym k

-- directives at some places are some
pub some_at : (ms : List Missing) (places : List ℕ) → places ≢ [] → map (missing_at ms) places ≢ []
some_at ms [] some same = some refl
some_at ms (i ∷ is) some same = cc

-- places are none, or some, by how many a Vec of them has
pub none_by : (places : List ℕ) (len : ℕ) → len ≡ length places → (len == 0) ≡ true → places ≡ []
none_by places len long none = nil_from_length places (sym long ∙ eqb-true len 0 none)

pub some_by : (places : List ℕ) (len : ℕ) → len ≡ length places → (len == 0) ≡ false → places ≢ []
some_by places len long some = λ same. eqb-false len 0 some (long ∙ ap length same)

---- which directives are left

or_none : (b : Bool) → (b || false) ≡ b
or_none true = refl
or_none false = refl

by_glob : (before last : Bool) (m : Missing) (left right : List Missing) → left ≡ right
    → cond (not (before || last)) (m ∷ left) left ≡ cond (not before) (cond (not last) (m ∷ right) right) right
by_glob true last m left right same = same
by_glob false true m left right same = same
by_glob false false m left right same = ap (λ (l : List Missing). m ∷ l) same

filter_cond : (f : Missing → Bool) (b : Bool) (m : Missing) (ms : List Missing)
    → filter f (cond b (m ∷ ms) ms) ≡ cond b (cond (f m) (m ∷ filter f ms) (filter f ms)) (filter f ms)
filter_cond f true m ms = refl
filter_cond f false m ms = refl

-- one glob more
strays_more : (globs : List (List ℕ)) (glob : List ℕ) (ms : List Missing)
    → strays (globs ++ glob ∷ []) ms ≡ filter (λ (m : Missing). not (fits_name m.header.name glob)) (strays globs ms)
strays_more globs glob [] = refl
strays_more globs glob (m ∷ ms) =
    ap (λ (b : Bool). cond (not b) (m ∷ strays (globs ++ glob ∷ []) ms) (strays (globs ++ glob ∷ []) ms))
    (list_any-append (fits_name m.header.name) globs (glob ∷ []) ∙ ap (λ (b : Bool). list_any (fits_name m.header.name) globs || b) (or_none (fits_name m.header.name glob)))
    ∙ by_glob (list_any (fits_name m.header.name) globs) (fits_name m.header.name glob) m _ _ (strays_more globs glob ms)
    ∙ sym (filter_cond (λ (x : Missing). not (fits_name x.header.name glob)) (not (list_any (fits_name m.header.name) globs)) m (strays globs ms))

-- no glob excepts a directive
pub strays_none : (ms : List Missing) → strays [] ms ≡ ms
strays_none [] = refl
strays_none (m ∷ ms) = ap (λ (l : List Missing). m ∷ l) (strays_none ms)

-- the next of several globs
pub strays_next : {X : Type 0} (f : X → List ℕ) (globs : List X) (i : ℕ) (d : X) (ms : List Missing) → i < length globs
    → strays (map f (take (i + 1) globs)) ms ≡ filter (λ (m : Missing). not (fits_name m.header.name (f (get_or globs i d)))) (strays (map f (take i globs)) ms)
strays_next {X} f globs i d ms low =
    ap (λ (gs : List (List ℕ)). strays gs ms) (ap (λ (xs : List X). map f xs) (take_more globs i d low) ∙ map-append f (take i globs) (get_or globs i d ∷ []))
    ∙ strays_more (map f (take i globs)) (f (get_or globs i d)) ms

-- the places that it leaves
pub strays_by : {X : Type 0} (f : X → List ℕ) (globs : List X) (i : ℕ) (d : X) (ms : List Missing) (glob lent places left : List ℕ) → i < length globs
    → glob ≡ f (get_or globs i d) → map (missing_at ms) left ≡ filter (λ (m : Missing). not (fits_name m.header.name glob)) (map (missing_at ms) lent)
    → lent ≡ places → map (missing_at ms) places ≡ strays (map f (take i globs)) ms → map (missing_at ms) left ≡ strays (map f (take (i + 1) globs)) ms
strays_by f globs i d ms glob lent places left low is by same so_far =
    by ∙ ap₂ (λ (g l : List ℕ). filter (λ (m : Missing). not (fits_name m.header.name g)) (map (missing_at ms) l)) is same
    ∙ ap (λ (l : List Missing). filter (λ (m : Missing). not (fits_name m.header.name (f (get_or globs i d)))) l) so_far
    ∙ sym (strays_next f globs i d ms low)

-- a word that is no glob excepts none
pub none_fit : (glob : List ℕ) (ms : List Missing) → pieces glob ≡ None → filter (λ (m : Missing). not (fits_name m.header.name glob)) ms ≡ ms
none_fit glob [] none = refl
none_fit glob (m ∷ ms) none =
    let left : List Missing = filter (λ (x : Missing). not (fits_name x.header.name glob)) ms in
    ap (λ (o : Option (List Piece)). cond (not (option_map_or (λ ps. fits ps m.header.name) o false)) (m ∷ left) left) none
    ∙ ap (λ (l : List Missing). m ∷ l) (none_fit glob ms none)

-- what holds of all directives whose header is not found holds of these
module _ (P : Missing → Type 0) where
  all_strict : (strict : Bool) (globs : List (List ℕ)) (ms : List Missing) → All P ms → All P (cond strict (strays globs ms) [])
  all_strict true globs ms all = All-filter (λ m. not (is_excepted globs m)) P ms all
  all_strict false globs ms all = All-nil P

  all_behind : (bs : List Blocker) (ms : List Missing) → All P ms → All P (strays_behind bs ms)
  all_behind [] ms all = all
  all_behind (b ∷ bs) ms all = All-nil P

  pub strays_all : (a : Asked) (q : Question) (g : Graph) → All P g.missing → All P (asked_strays_of a q g)
  strays_all asked.Why q g all = all_strict q.is_strict q.external g.missing all
  strays_all asked.Who q g all = all_strict q.is_strict q.external g.missing all
  strays_all asked.Graph q g all = all_strict q.is_strict q.external g.missing all
  strays_all asked.Rules q g all = all_strict q.is_strict q.external g.missing all
  strays_all asked.Cost q g all = all_strict q.is_strict q.external g.missing all
  strays_all asked.Tree q g all = all_strict q.is_strict q.external g.missing all
  strays_all asked.Cut q g all = all_behind g.blockers (strays_of q g) (all_strict q.is_strict q.external g.missing all)

---- their text

-- the line of one more
pub stray_marks-more : (layout : Layout) (ms : List Missing) (places : List ℕ) (i d : ℕ) → i < length places
    → marks_text (map (missing_mark layout) (map (missing_at ms) (take (i + 1) places)))
    ≡ marks_text (map (missing_mark layout) (map (missing_at ms) (take i places)))
    ++ directive_text (missing_at ms (get_or places i d)).line (path_at layout (missing_at ms (get_or places i d)).file)
stray_marks-more layout ms places i d low =
    let there : Missing = missing_at ms (get_or places i d) in
    ap (λ (l : List Missing). marks_text (map (missing_mark layout) l))
    (ap (λ (l : List ℕ). map (missing_at ms) l) (take_more places i d low) ∙ map-append (missing_at ms) (take i places) (get_or places i d ∷ []))
    ∙ ap marks_text (map-append (missing_mark layout) (map (missing_at ms) (take i places)) (there ∷ []))
    ∙ marks_text-append (map (missing_mark layout) (map (missing_at ms) (take i places))) (missing_mark layout there ∷ [])
    ∙ ap (λ (t : List ℕ). marks_text (map (missing_mark layout) (map (missing_at ms) (take i places))) ++ t) (append-nil (directive_text there.line (path_at layout there.file)))

-- as objects
pub stray_items : (s : Subject) (places : List ℕ)
    → map (stray_text (about_subject s)) places ≡ map (stray_item (kept_kind s.language s.files.now) s.project.now) (map (missing_at s.graph.now.missing) places)
stray_items s [] = refl
stray_items s (i ∷ is) = ap (λ (items : List (List ℕ)). stray_text (about_subject s) i ∷ items) (stray_items s is)

-- the object of their refusal
abbrev pub refused_object : Subject → Asked → List Missing → Printed
refused_object s a ms = refused_for (stray_reasons s.project.now ms) (refusal_json (command_name a) (kept_kind s.language s.files.now) (NotFound s.project.now ms))

-- what is said of them, by its parts
pub reasons_made : (layout : Layout) (ms : List Missing) (places : List ℕ) (count : ℕ) (start first second end : List ℕ) → count ≡ min 10 (length places)
    → start ≡ [] → first ≡ start ++ flat_map (stray_reason layout) (map (missing_at ms) (take count places)) → second ≡ first ++ more_line (length places - count)
    → end ≡ second ++ except_line → end ≡ stray_reasons layout (map (missing_at ms) places)
reasons_made layout ms places count start first second end most empty h k m =
    let all : List Missing = map (missing_at ms) places in
    let some : map (missing_at ms) (take count places) ≡ take 10 all =
    ap (λ (l : List ℕ). map (missing_at ms) l) (ap (λ (i : ℕ). take i places) most ∙ take_min 10 places) ∙ sym (take-map (missing_at ms) 10 places) in
    let more : length places - count ≡ length all - 10 = omega (arith, most, length-map places (missing_at ms)) in
    let begun : first ≡ flat_map (stray_reason layout) (take 10 all) =
    h ∙ ap₂ (λ (x y : List ℕ). x ++ y) empty (ap (λ (l : List Missing). flat_map (stray_reason layout) l) some) in
    m ∙ ap (λ (t : List ℕ). t ++ except_line) (k ∙ ap₂ (λ (x : List ℕ) (n : ℕ). x ++ more_line n) begun more)
