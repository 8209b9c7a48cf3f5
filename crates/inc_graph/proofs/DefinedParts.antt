-- What the parts of a file define, one part after the other.
use Rattle.std.proofs.Common.{◌≡◌, ℕ, ◌+◌, ◌<◌, List, [], ◌∷◌, ◌++◌, Option, Some, None, All, length, get_or, map, option_map, take, refl, sym, ap, ap₂, ◌∙◌}
use Rattle.std.specs.Prelude.{option_and_then, option_to_list, slice_get}
use Rattle.std.specs.List.{cons_option}
use Rattle.std.specs.Option.{option_map_or}
use Rattle.std.proofs.lemmas.List.{append-nil, append_assoc, get_or_default, map-append}
use Rattle.std.proofs.lemmas.List.Elements.{All-head, All-tail, filter_map-append}
use Rattle.std.proofs.lemmas.Option.{slice_get-get_or}
use Rattle.inc_token.specs.TokenLines.{Tok}
use Rattle.inc_directive.specs.Groups.{FileLine, directive_line, role}
use Rattle.inc_directive.specs.LineKinds.{LineKind, Text, Include, Other, defined_name, line_of_tokens}
use Rattle.inc_directive.specs.Parts.{FilePart, TextPart, DirectivePart, IsPart, first_tokens, lines_in, lines_of_parts, part_definition, part_line}
use Rattle.inc_directive.specs.declared.kinds.DirectiveKind.TheVariants.{Define}
use Rattle.inc_directive.specs.declared.kinds.Role.TheVariants.{TextLine}
use Rattle.inc_graph.specs.FileEntries.{Definition, Entry, definition_entry}
use Rattle.inc_graph.specs.IncludeGraph.{defined_at, definitions_in, line_definition, undefined_place}
use Rattle.inc_graph.proofs.PlaceLemmas.{take_more}

-- a line of text defines nothing
text_defines : (k : LineKind) (ts : List Tok) → role k ≡ TextLine → defined_name k ts ≡ None
text_defines Text ts is = refl
text_defines (Include by target) ts is = cc
text_defines (Other Define) ts is = cc
text_defines (Other d) ts is = refl

texts_define : (names : List (List ℕ)) (ls : List FileLine) → All (λ (l : FileLine). role l.kind ≡ TextLine) ls → definitions_in names ls ≡ []
texts_define names [] all = refl
texts_define names (l ∷ ls) all =
    let P : FileLine → Type 0 = λ k. role k.kind ≡ TextLine in
    ap (λ o. cons_option (option_map (defined_at (directive_line l)) (option_and_then (undefined_place names) o)) (definitions_in names ls)) (text_defines l.kind l.tokens (All-head P l ls all))
    ∙ texts_define names ls (All-tail P l ls all)

one_place : {X : Type 0} (o : Option X) → cons_option o [] ≡ option_to_list o
one_place None = refl
one_place (Some n) = refl

-- what a part defines, where its first token is on this line
abbrev own_definition : (names : List (List ℕ)) → (line : ℕ) → Option (List ℕ) → Option Definition
own_definition names line o = option_map (defined_at line) (option_and_then (undefined_place names) o)

part_defines : (names : List (List ℕ)) (p : FilePart) → IsPart p → definitions_in names (lines_in p) ≡ option_to_list (own_definition names (line_of_tokens (first_tokens p)) (part_definition p))
part_defines names (TextPart []) is = absurd is
part_defines names (TextPart (l ∷ ls)) is = texts_define names (l ∷ ls) is
part_defines names (DirectivePart l) is = one_place (line_definition names l)

lines_more : (ps : List FilePart) (p : FilePart) → lines_of_parts (ps ++ p ∷ []) ≡ lines_of_parts ps ++ lines_in p
lines_more [] p = append-nil (lines_in p)
lines_more (q ∷ ps) p = ap (λ ls. lines_in q ++ ls) (lines_more ps p) ∙ sym (append_assoc (lines_in q) (lines_of_parts ps) (lines_in p))

-- one part more
pub definitions_more : (names : List (List ℕ)) (parts : List FilePart) (i : ℕ) → All IsPart parts → i < length parts → (o : Option (List ℕ)) → o ≡ option_and_then part_definition (slice_get parts i)
    → (line : ℕ) → line ≡ part_line parts i → (init now later : List Entry) → now ≡ init ++ map definition_entry (definitions_in names (lines_of_parts (take i parts)))
    → later ≡ now ++ map definition_entry (option_to_list (own_definition names line o)) → later ≡ init ++ map definition_entry (definitions_in names (lines_of_parts (take (i + 1) parts)))
definitions_more names parts i all low o is line line_is init now later so_far more =
    let none : FilePart = TextPart [] in
    let p : FilePart = get_or parts i none in
    let before : List Definition = definitions_in names (lines_of_parts (take i parts)) in
    let own : List Definition = option_to_list (own_definition names line o) in
    let at : line ≡ line_of_tokens (first_tokens p) = line_is ∙ ap (λ (x : Option FilePart). option_map_or (λ (q : FilePart). line_of_tokens (first_tokens q)) x 0) (slice_get-get_or parts i none low) in
    let here : o ≡ part_definition p = is ∙ ap (option_and_then part_definition) (slice_get-get_or parts i none low) in
    let lines : lines_of_parts (take (i + 1) parts) ≡ lines_of_parts (take i parts) ++ lines_in p =
    ap lines_of_parts (take_more parts i p low (get_or_default parts i none p low)) ∙ lines_more (take i parts) p in
    let places : definitions_in names (lines_of_parts (take (i + 1) parts)) ≡ before ++ own =
    ap (definitions_in names) lines
    ∙ filter_map-append (line_definition names) (lines_of_parts (take i parts)) (lines_in p)
    ∙ ap (λ ks. before ++ ks) (part_defines names p (all i none low) ∙ ap₂ (λ (n : ℕ) (x : Option (List ℕ)). option_to_list (own_definition names n x)) (sym at) (sym here)) in
    more ∙ ap (λ es. es ++ map definition_entry own) so_far ∙ append_assoc init (map definition_entry before) (map definition_entry own)
    ∙ ap (λ es. init ++ es) (sym (map-append definition_entry before own) ∙ ap (map definition_entry) (sym places))

-- or none
pub definitions_same : (names : List (List ℕ)) (parts : List FilePart) (i : ℕ) → All IsPart parts → i < length parts → (o : Option (List ℕ)) → o ≡ option_and_then part_definition (slice_get parts i) → o ≡ None
    → (init now : List Entry) → now ≡ init ++ map definition_entry (definitions_in names (lines_of_parts (take i parts)))
    → now ≡ init ++ map definition_entry (definitions_in names (lines_of_parts (take (i + 1) parts)))
definitions_same names parts i all low o is none init now so_far =
    definitions_more names parts i all low o is (part_line parts i) refl init now now so_far
    (sym (ap (λ x. now ++ map definition_entry (option_to_list (own_definition names (part_line parts i) x))) none ∙ append-nil now))
