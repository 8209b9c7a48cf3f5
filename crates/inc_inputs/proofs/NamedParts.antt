-- The lines of the directives of a file that are named so, one part after the other, and their marks.
use Rattle.std.proofs.Common.{◌≡◌, ℕ, ◌+◌, ◌<◌, Bool, true, false, List, [], ◌∷◌, ◌++◌, Option, Some, None, All, length, get_or, map, take, refl, sym, ap, ◌∙◌}
use Rattle.std.specs.Prelude.{◌&&◌, filter_map, slice_get}
use Rattle.std.specs.List.{cons_option}
use Rattle.std.specs.Option.{option_map_or}
use Rattle.std.proofs.lemmas.List.{append-nil, append_assoc, get_or_default}
use Rattle.std.proofs.lemmas.List.Elements.{All-head, All-tail, filter_map-append}
use Rattle.std.proofs.lemmas.Option.{slice_get-get_or}
use Rattle.inc_directive.specs.Groups.{FileLine, directive_line, role}
use Rattle.inc_directive.specs.LineKinds.{LineKind, Text, Include, Other, line_of_tokens}
use Rattle.inc_directive.specs.Parts.{FilePart, TextPart, DirectivePart, IsPart, first_tokens, lines_in, lines_of_parts, part_line}
use Rattle.inc_directive.specs.Removal.{is_removable}
use Rattle.inc_directive.specs.declared.kinds.DirectiveKind.TheVariants.{Foreign}
use Rattle.inc_directive.specs.declared.kinds.Role.TheVariants.{TextLine}
use Rattle.inc_graph.specs.Marks.{Mark}
use Rattle.inc_graph.proofs.PlaceLemmas.{take_more}
use Rattle.inc_check.specs.Reading.{mark_with}
use Rattle.inc_inputs.specs.NamedPlaces.{is_named, named_line, named_lines}

-- a line of text includes nothing
text_includes : (k : LineKind) → role k ≡ TextLine → is_removable k ≡ false
text_includes Text is = refl
text_includes (Include by target) is = cc
text_includes (Other Foreign) is = cc
text_includes (Other d) is = refl

module _ (name : Option (List ℕ)) where
  unnamed : (b : Bool) (n : Bool) (line : ℕ) → b ≡ false → (elim (b && n) as (λ _. Option ℕ) [ true ↦ Some line | false ↦ None ]) ≡ None
  unnamed true n line is = cc
  unnamed false n line is = refl

  texts_named : (ls : List FileLine) → All (λ (l : FileLine). role l.kind ≡ TextLine) ls → named_lines name ls ≡ []
  texts_named [] all = refl
  texts_named (l ∷ ls) all =
      let P : FileLine → Type 0 = λ k. role k.kind ≡ TextLine in
      ap (λ o. cons_option o (named_lines name ls)) (unnamed (is_removable l.kind) (is_named name l.tokens) (directive_line l) (text_includes l.kind (All-head P l ls all)))
      ∙ texts_named ls (All-tail P l ls all)

  -- what a part adds, where it is said of it whether it is named so
  abbrev own_lines : (b : Bool) (line : ℕ) → List ℕ
  own_lines true line = line ∷ []
  own_lines false line = []

  one_line : (b : Bool) (line : ℕ) → cons_option (elim b as (λ _. Option ℕ) [ true ↦ Some line | false ↦ None ]) [] ≡ own_lines b line
  one_line true line = refl
  one_line false line = refl

  part_named : (parts : List FilePart) (i : ℕ) (p : FilePart) (b : Bool) → slice_get parts i ≡ Some p → IsPart p
      → ((l : FileLine) → slice_get parts i ≡ Some (DirectivePart l) → b ≡ (is_removable l.kind && is_named name l.tokens))
      → ((ls : List FileLine) → slice_get parts i ≡ Some (TextPart ls) → b ≡ false)
      → named_lines name (lines_in p) ≡ own_lines b (part_line parts i)
  part_named parts i (TextPart []) b there is directive text = absurd is
  part_named parts i (TextPart (l ∷ ls)) b there is directive text =
      texts_named (l ∷ ls) is ∙ sym (ap (λ x. own_lines x (part_line parts i)) (text (l ∷ ls) there))
  part_named parts i (DirectivePart l) b there is directive text =
      one_line (is_removable l.kind && is_named name l.tokens) (directive_line l)
      ∙ ap (λ x. own_lines x (directive_line l)) (sym (directive l there))
      ∙ ap (own_lines b) (sym (ap (λ o. option_map_or (λ (q : FilePart). line_of_tokens (first_tokens q)) o 0) there))

  lines_more : (ps : List FilePart) (p : FilePart) → lines_of_parts (ps ++ p ∷ []) ≡ lines_of_parts ps ++ lines_in p
  lines_more [] p = append-nil (lines_in p)
  lines_more (q ∷ ps) p = ap (λ ls. lines_in q ++ ls) (lines_more ps p) ∙ sym (append_assoc (lines_in q) (lines_of_parts ps) (lines_in p))

  module _ (parts : List FilePart) (i : ℕ) (all : All IsPart parts) (low : i < length parts) (b : Bool)
      (directive : (l : FileLine) → slice_get parts i ≡ Some (DirectivePart l) → b ≡ (is_removable l.kind && is_named name l.tokens))
      (text : (ls : List FileLine) → slice_get parts i ≡ Some (TextPart ls) → b ≡ false) where
    here : named_lines name (lines_of_parts (take (i + 1) parts)) ≡ named_lines name (lines_of_parts (take i parts)) ++ own_lines b (part_line parts i)
    here =
        let none : FilePart = TextPart [] in
        let p : FilePart = get_or parts i none in
        ap (λ ls. named_lines name ls) (ap lines_of_parts (take_more parts i p low (get_or_default parts i none p low)) ∙ lines_more (take i parts) p)
        ∙ filter_map-append (named_line name) (lines_of_parts (take i parts)) (lines_in p)
        ∙ ap (λ ls. named_lines name (lines_of_parts (take i parts)) ++ ls) (part_named parts i p b (slice_get-get_or parts i none low) (all i none low) directive text)

    -- one that is named so
    pub named_more : (now later : List ℕ) → now ≡ named_lines name (lines_of_parts (take i parts)) → b ≡ true → later ≡ now ++ part_line parts i ∷ []
        → later ≡ named_lines name (lines_of_parts (take (i + 1) parts))
    named_more now later so_far yes' more =
        more ∙ ap (λ ls. ls ++ part_line parts i ∷ []) so_far
        ∙ sym (here ∙ ap (λ x. named_lines name (lines_of_parts (take i parts)) ++ own_lines x (part_line parts i)) yes')

    -- or one that is not
    pub named_same : (now : List ℕ) → now ≡ named_lines name (lines_of_parts (take i parts)) → b ≡ false → now ≡ named_lines name (lines_of_parts (take (i + 1) parts))
    named_same now so_far no' =
        so_far ∙ sym (here ∙ ap (λ x. named_lines name (lines_of_parts (take i parts)) ++ own_lines x (part_line parts i)) no' ∙ append-nil (named_lines name (lines_of_parts (take i parts))))

-- the mark of one line more
pub marks_next : (path : List ℕ) (lines : List ℕ) (i d : ℕ) (start old new : List Mark) → i < length lines
    → old ≡ start ++ filter_map (λ l. mark_with (Some l) path) (take i lines) → new ≡ old ++ filter_map (mark_with (Some (get_or lines i d))) (path ∷ [])
    → new ≡ start ++ filter_map (λ l. mark_with (Some l) path) (take (i + 1) lines)
marks_next path lines i d start old new low so_far more =
    let P : ℕ → Option Mark = λ l. mark_with (Some l) path in
    let line : ℕ = get_or lines i d in
    more ∙ ap (λ (ms : List Mark). ms ++ filter_map P (line ∷ [])) so_far
    ∙ append_assoc start (filter_map P (take i lines)) (filter_map P (line ∷ []))
    ∙ ap (λ (ms : List Mark). start ++ ms) (sym (ap (filter_map P) (take_more lines i line low (get_or_default lines i d line low)) ∙ filter_map-append P (take i lines) (line ∷ [])))
