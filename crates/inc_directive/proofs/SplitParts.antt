-- How a text is split into parts, one after the other.
use Rattle.std.proofs.Common.{◌≡◌, ◌≢◌, ℕ, zero, suc, ◌+◌, ◌-◌, ◌<◌, ◌≤◌, ◌==◌, ◌&&◌, Bool, true, false, if◌then◌else◌, List, [], ◌∷◌, ◌++◌, Option, Some, None, IfSome, MatchOption, Result, Ok, Err, length, drop, get_or, take, map, refl, sym, ap, ◌∙◌, subst, arith, slice_range, option_map, unwrap_or}
use Rattle.std.specs.Prelude.{filter, filter_map, is_some, count_by, option_to_list}
use Rattle.std.specs.List.{All, cons_option as cons, list_all}
use Rattle.std.proofs.lemmas.Bool.{cond-true, cond-false}
use Rattle.std.proofs.lemmas.List.{append_assoc, append-nil, drop-append-le, drop-drop, drop-take, length-append, length-map, map-append, take-append-le, take_rest, drop_all}
use Rattle.std.proofs.lemmas.List.Elements.{All-append, All-nil, All-cons, All-head, All-tail, filter-append, filter_map-append}
use Rattle.std.proofs.lemmas.List.Sums.{sum_by-cons}
use Rattle.inc_text.specs.PhaseText.{Cell, bytes_of, longest_text}
use Rattle.inc_token.specs.LineWalk.{EndsAt, IsPrefixIn, IsRun, IsSketch, Place, TakesLine, TakesStretch, are_none, before, line_in, lines_at, with_line}
use Rattle.inc_token.specs.Prefixes.{Operand, prefix_of}
use Rattle.inc_token.specs.TokenLines.{include_name, Tok, TokenLine, lines_from, token_lines, token_of, with_piece, with_token}
use Rattle.inc_token.specs.Views.{seen_operand, seen_prefix}
use Rattle.inc_token.specs.declared.kinds.Kind.{Kind}
use Rattle.inc_token.specs.declared.kinds.Kind.TheVariants.{Identifier}
use Rattle.inc_text.specs.declared.languages.Language.{Language}
use Rattle.inc_token.specs.declared.lines.LexFault.{LexFault}
use Rattle.inc_token.specs.declared.lines.fronts.LineSketch.{LineSketch}
use Rattle.inc_token.specs.declared.lines.fronts.Operand.{Operand as OperandValue}
use Rattle.inc_token.specs.declared.lines.fronts.Prefix.{Prefix as PrefixValue}
use Rattle.inc_token.specs.declared.lines.fronts.TextRun.{TextRun}
use Rattle.inc_token.specs.declared.lines.sketches.Stretch.{Stretch}
use Rattle.inc_token.specs.declared.pieces.Piece.{Piece}
use Rattle.inc_token.specs.declared.pieces.Piece.TheVariants as piece
use Rattle.inc_token.specs.declared.pieces.Progress.{Progress}
use Rattle.inc_token.proofs.LinesBefore.{before-more, before-none, before-one}
use Rattle.inc_directive.specs.FileDirectives.{Directive, directive_of, directives_in}
use Rattle.inc_directive.specs.Groups.{FileLine, file_lines_from}
use Rattle.inc_token.specs.declared.kinds.IncludeName.{IncludeName}
use Rattle.inc_directive.specs.LineKinds.{include_or, other_kind, LineKind, Text, Include, Other, Quoted, Angled, expanded_target, header_target, inner_bytes, is_header_kind, kind_of_name, line_kind, line_of_tokens, target_of}
use Rattle.inc_directive.specs.Parts.{AreIncluded, AreKept, AreSplit, Fits, IsNameAt, IsPartOf, IsTagOf, directive_at, directive_with, directives_from, first_inclusion, is_include_tag, is_inclusion, is_named, is_removable_tag, is_text, kept_line, kept_lines, kind_of, name_of, operand_name, rest_inclusions, text_parts, text_tag}
use Rattle.inc_directive.specs.Removal.{is_include, is_removable, is_removed, with_line_removed, with_removed}
use Rattle.inc_directive.specs.declared.kinds.DirectiveKind.TheVariants.{Foreign}
use Rattle.inc_directive.specs.declared.parts.Inclusion.{Inclusion}
use Rattle.inc_directive.specs.declared.parts.Part.{Part}
use Rattle.inc_directive.specs.declared.parts.Tag.{Tag}
use Rattle.inc_directive.specs.declared.parts.Tag.TheVariants as tag
use Rattle.inc_directive.proofs.PartFiles.{kind_of-unnamed, lines-parts, text-kind_of}
use Rattle.inc_directive.proofs.PrefixKinds.{directive-kind, directive-line, text-kind}

---- the name of an include directive

take_take : {X : Type 0} (i k : ℕ) (xs : List X) → i ≤ k → take i (take k xs) ≡ take i xs
take_take zero k xs le = refl
take_take (suc i) zero xs le = absurd (omega (arith, le))
take_take (suc i) (suc k) [] le = refl
take_take (suc i) (suc k) (x ∷ xs) le = ap (λ ys. x ∷ ys) (take_take i k xs (omega (arith, le)))

pub name_at : (text : List ℕ) (end : ℕ) (o : Operand) → EndsAt text end o.spelling → is_header_kind o.kind ≡ true → 2 < length o.spelling
    → IsNameAt text (Some o) (end - length o.spelling + 1) (length o.spelling - 2)
name_at text end o h header long =
    let s : List ℕ = o.spelling in
    let n : ℕ = length s in
    let at : end - n + 1 ≡ h.start + 1 = omega (arith, h.size) in
    let last : end - n + 1 + (n - 2) ≡ h.start + 1 + (n - 2) = omega (arith, h.size) in
    let size : end - h.start ≡ 1 + (n - 1) = omega (arith, h.size, long) in
    let whole : take (1 + (n - 1)) (drop h.start text) ≡ s = ap (λ k. take k (drop h.start text)) (sym size) ∙ h.is in
    let inner : inner_bytes s ≡ take (n - 2) (drop (h.start + 1) text) =
    ap (λ (t : List ℕ). take (n - 1 - 1) (drop 1 t)) (sym whole)
    ∙ ap (take (n - 1 - 1)) (drop-take 1 (n - 1) (drop h.start text))
    ∙ take_take (n - 1 - 1) (n - 1) (drop 1 (drop h.start text)) (omega arith)
    ∙ ap (take (n - 1 - 1)) (drop-drop 1 h.start text)
    ∙ (let two : n - 1 - 1 ≡ n - 2 = omega arith in ap (λ k. take k (drop (h.start + 1) text)) two) in
    let len : h.start + 1 + (n - 2) - (h.start + 1) ≡ n - 2 = omega arith in (
      omega (arith, h.size, h.within, long),
      ap (λ k. slice_range text k (end - n + 1 + (n - 2))) at ∙ ap (λ k. slice_range text (h.start + 1) k) last ∙ ap (λ k. take k (drop (h.start + 1) text)) len ∙ sym inner ∙ sym (cond-true _ _ _ header),
    )

-- a header name without a byte between its delimiters
pub empty_name_at : (text : List ℕ) (o : Operand) → is_header_kind o.kind ≡ true → length o.spelling ≤ 2 → IsNameAt text (Some o) 0 0
empty_name_at text o header short =
    let none : length o.spelling - 1 - 1 ≡ 0 = omega (arith, short) in
    (omega arith, sym (cond-true _ _ _ header ∙ ap (λ k. take k (drop 1 o.spelling)) none))

-- any other token is itself the name
pub word_at : (text : List ℕ) (end : ℕ) (o : Operand) → EndsAt text end o.spelling → is_header_kind o.kind ≡ false → IsNameAt text (Some o) (end - length o.spelling) (length o.spelling)
word_at text end o h other =
    let n : ℕ = length o.spelling in
    let at : end - n ≡ h.start = omega (arith, h.size) in
    let len : h.start + n - h.start ≡ end - h.start = omega (arith, h.size) in (
      omega (arith, h.size, h.within),
      ap (λ k. slice_range text k (k + n)) at ∙ ap (λ k. take k (drop h.start text)) len ∙ h.is ∙ sym (cond-false _ _ _ other),
    )

---- kinds of directives

directive_not_text : (language : Language) (name : Option (List ℕ)) (o : Option Operand) → kind_of_name language name o ≢ Text
directive_not_text language None o is = cc
directive_not_text language (Some name) o is = by (include_name language name) is
  where
    by : (x : Option IncludeName) → include_or x (target_of o) (other_kind language name) ≡ Text → ⊥
    by (Some k) is = cc
    by None is = cc

-- the name in a directive is that of its operand
header_name : (k : IncludeName) (b : Bool) (s x : List ℕ) → name_of (Include k (if b then Quoted (inner_bytes s) else Angled (inner_bytes s))) ≡ Some x → x ≡ inner_bytes s
header_name k true s x is = let same : inner_bytes s ≡ x = cc in sym same
header_name k false s x is = let same : inner_bytes s ≡ x = cc in sym same

word_name : (k : IncludeName) (kind : Kind) (s x : List ℕ) → name_of (Include k (expanded_target kind s)) ≡ Some x → x ≡ s
word_name k Identifier s x is = let same : s ≡ x = cc in sym same
word_name k kind s x is = cc

target_name : (k : IncludeName) (o : Option Operand) (x : List ℕ) → name_of (Include k (target_of o)) ≡ Some x → (t : Operand) × (o ≡ Some t) × (x ≡ operand_name t)
target_name k None x is = cc
target_name k (Some t) x is = (t, refl, by (is_header_kind t.kind) is)
  where
    by : (b : Bool) → name_of (Include k (if b then header_target t.spelling else expanded_target t.kind t.spelling)) ≡ Some x → x ≡ (if b then inner_bytes t.spelling else t.spelling)
    by true is = header_name k _ t.spelling x is
    by false is = word_name k t.kind t.spelling x is

directive_name : (language : Language) (name : Option (List ℕ)) (o : Option Operand) (x : List ℕ) → name_of (kind_of_name language name o) ≡ Some x → (t : Operand) × (o ≡ Some t) × (x ≡ operand_name t)
directive_name language None o x is = cc
directive_name language (Some name) o x is = by (include_name language name) is
  where
    by : (b : Option IncludeName) → name_of (include_or b (target_of o) (other_kind language name)) ≡ Some x → (t : Operand) × (o ≡ Some t) × (x ≡ operand_name t)
    by (Some k) is = target_name k o x is
    by None is = cc

---- tags

removable-kind_of : (t : Tag) (name : List ℕ) → is_removable (kind_of t name) ≡ is_removable_tag t
removable-kind_of (tag.Other Foreign) name = refl
removable-kind_of t name = refl

include-kind_of : (t : Tag) (name : List ℕ) → is_include (kind_of t name) ≡ is_include_tag t
include-kind_of (tag.Quoted by) name = refl
include-kind_of t name = refl

kept-removable : (t : Tag) (l : TokenLine) → is_removable_tag t ≡ true → kept_line t l ≡ l
kept-removable tag.Removed l h = cc
kept-removable t l h = refl

pub not_include : (t : Tag) → is_removable_tag t ≡ false → is_include_tag t ≡ false
not_include (tag.Quoted by) h = cc
not_include (tag.Angled by) h = cc
not_include (tag.ByName by) h = cc
not_include (tag.Computed by) h = cc
not_include (tag.Nothing by) h = cc
not_include t h = refl

kept-directive : (t : Tag) (l : TokenLine) → is_text t ≡ false → kept_line t l ≡ l
kept-directive tag.Removed l h = cc
kept-directive t l h = refl

fits-by : (language : Language) (t : Tag) (l : TokenLine) (name : List ℕ) → is_text t ≡ false → IsTagOf (line_kind language l.tokens) t name → Fits language t (l ∷ [])
fits-by language tag.Text l name h is = cc
fits-by language tag.Blank l name h is = cc
fits-by language tag.Removed l name h is = cc
fits-by language t l name h is =
    (name, All-cons (λ (k : TokenLine). IsTagOf (line_kind language k.tokens) t name) l [] is (All-nil (λ (k : TokenLine). IsTagOf (line_kind language k.tokens) t name)))

---- a line as a part

stays_by : (language : Language) (removed : ℕ → Bool) (l : TokenLine) → is_removed language removed l.tokens ≡ false → l ≡ with_line_removed language removed l
stays_by language removed l e = sym (cond-false _ _ _ e)

pub text_line : (language : Language) (cells : List Cell) (removed : ℕ → Bool) (l : TokenLine) (s : LineSketch) (p : Part) → IsSketch language cells l s → s.prefix ≡ None → p.lines ≡ 1 → p.tag ≡ text_tag s.is_blank
    → IsPartOf language cells removed l p None
text_line language cells removed l s p h none lines is = by s.is_blank h.blank is
  where
    plain : prefix_of language l.tokens ≡ None
    plain = sym h.prefix ∙ ap (option_map (seen_prefix cells)) none

    stays : l ≡ with_line_removed language removed l
    stays = stays_by language removed l (ap (λ (k : LineKind). is_include k && removed (line_of_tokens l.tokens)) (text-kind language l.tokens plain))

    all : All (λ (k : TokenLine). prefix_of language k.tokens ≡ None) (l ∷ [])
    all = All-cons (λ (k : TokenLine). prefix_of language k.tokens ≡ None) l [] plain (All-nil (λ (k : TokenLine). prefix_of language k.tokens ≡ None))

    by : (b : Bool) → b ≡ are_none l.tokens → p.tag ≡ text_tag b → IsPartOf language cells removed l p None
    by true e t = record {
      lines = lines;
      fits = subst (λ (x : Tag). Fits language x (l ∷ [])) (sym t) (all, ap (λ x. x && true) (sym e));
      kept = ap (λ (x : Tag). kept_line x l) t ∙ stays;
      included = ap is_removable_tag t;
    }
    by false e t = record {
      lines = lines;
      fits = subst (λ (x : Tag). Fits language x (l ∷ [])) (sym t) (all, ap (λ x. x && true) (sym e));
      kept = ap (λ (x : Tag). kept_line x l) t ∙ stays;
      included = ap is_removable_tag t;
    }

-- a directive
module _ (language : Language) (cells : List Cell) (removed : ℕ → Bool) (l : TokenLine) (s : LineSketch) (h : IsSketch language cells l s) (q : PrefixValue) (some : s.prefix ≡ Some q) (t : Tag)
    (is : IsTagOf (kind_of_name language (option_map (λ name. name.now) q.name) (option_map seen_operand q.operand)) t
    (unwrap_or (name_of (kind_of_name language (option_map (λ name. name.now) q.name) (option_map seen_operand q.operand))) [])) where
  k : LineKind
  k = kind_of_name language (option_map (λ name. name.now) q.name) (option_map seen_operand q.operand)

  there : Some (seen_prefix cells q) ≡ prefix_of language l.tokens
  there = sym (ap (option_map (seen_prefix cells)) some) ∙ h.prefix

  kind_is : line_kind language l.tokens ≡ kind_of_name language (option_map (λ name. name.now) q.name) (option_map seen_operand q.operand)
  kind_is = directive-kind language l.tokens (seen_prefix cells q) there

  line_is : line_of_tokens l.tokens ≡ line_in cells q.hash
  line_is = directive-line language l.tokens (seen_prefix cells q) there

  no_text : (x : Bool) → is_text t ≡ x → x ≡ false
  no_text true e = absurd (directive_not_text language (option_map (λ name. name.now) q.name) (option_map seen_operand q.operand) (sym is.kind ∙ text-kind_of t _ e))
  no_text false e = refl

  other : is_text t ≡ false
  other = no_text (is_text t) refl

  own : IsTagOf (line_kind language l.tokens) t (unwrap_or (name_of (kind_of_name language (option_map (λ name. name.now) q.name) (option_map seen_operand q.operand))) [])
  own = subst (λ (j : LineKind). IsTagOf j t (unwrap_or (name_of (kind_of_name language (option_map (λ name. name.now) q.name) (option_map seen_operand q.operand))) [])) (sym kind_is) is

  include_is : is_include (line_kind language l.tokens) ≡ is_include_tag t
  include_is = ap is_include (sym own.kind) ∙ include-kind_of t _

  pub plain_line : (p : Part) → p.lines ≡ 1 → p.tag ≡ t → is_removable_tag t ≡ false → IsPartOf language cells removed l p None
  plain_line p lines tag_is shut = record {
    lines = lines;
    fits = subst (λ (x : Tag). Fits language x (l ∷ [])) (sym tag_is) (fits-by language t l _ other own);
    kept = ap (λ (x : Tag). kept_line x l) tag_is ∙ kept-directive t l other
        ∙ stays_by language removed l (ap (λ x. x && removed (line_of_tokens l.tokens)) (include_is ∙ not_include t shut));
    included = ap is_removable_tag tag_is ∙ shut;
  }

  pub removed_line : (p : Part) → p.lines ≡ 1 → p.tag ≡ tag.Removed → is_include_tag t ≡ true → removed (line_in cells q.hash) ≡ true → IsPartOf language cells removed l p None
  removed_line p lines tag_is includes gone =
      let away : is_removed language removed l.tokens ≡ true =
      ap (λ x. x && removed (line_of_tokens l.tokens)) (include_is ∙ includes) ∙ ap removed line_is ∙ gone in
      record {
        lines = lines;
        fits = subst (λ (x : Tag). Fits language x (l ∷ [])) (sym tag_is) tt;
        kept = ap (λ (x : Tag). kept_line x l) tag_is ∙ sym (cond-true _ _ _ away);
        included = ap is_removable_tag tag_is;
      }

  name_by : (x : Bool) → is_named t ≡ x → (at len : ℕ) → IsNameAt (bytes_of cells) (option_map seen_operand q.operand) at len → kind_of t (slice_range (bytes_of cells) at (at + len)) ≡ line_kind language l.tokens
  name_by false e at len n = kind_of-unnamed t _ _ e ∙ own.kind
  name_by true e at len n = found (name_of (kind_of_name language (option_map (λ name. name.now) q.name) (option_map seen_operand q.operand))) refl (sym is.named ∙ e)
    where
      found : (o : Option (List ℕ)) → name_of (kind_of_name language (option_map (λ name. name.now) q.name) (option_map seen_operand q.operand)) ≡ o → is_some o ≡ true
          → kind_of t (slice_range (bytes_of cells) at (at + len)) ≡ line_kind language l.tokens
      found None absent e = cc
      found (Some x) named e =
          let operand = directive_name language (option_map (λ name. name.now) q.name) (option_map seen_operand q.operand) x named in
          let place = subst (λ (u : Option Operand). IsNameAt (bytes_of cells) u at len) operand.1 n in
          let name : slice_range (bytes_of cells) at (at + len) ≡ unwrap_or (name_of (kind_of_name language (option_map (λ name. name.now) q.name) (option_map seen_operand q.operand))) [] =
          place.1 ∙ sym operand.2 ∙ sym (ap (λ (u : Option (List ℕ)). unwrap_or u []) named) in
          ap (kind_of t) name ∙ own.kind

  within_by : (o : Option Operand) (at len : ℕ) → IsNameAt (bytes_of cells) o at len → at + len ≤ length cells
  within_by None at len n = omega (arith, n, length-map cells (λ (c : Cell). c.byte))
  within_by (Some o) at len n = omega (arith, n.0, length-map cells (λ (c : Cell). c.byte))

  pub included_line : (p : Part) (i : Inclusion) → p.lines ≡ 1 → p.tag ≡ t → is_removable_tag t ≡ true → is_include_tag t && removed (line_in cells q.hash) ≡ false
      → i.line ≡ line_in cells q.hash → IsNameAt (bytes_of cells) (option_map seen_operand q.operand) i.at i.len → IsPartOf language cells removed l p (Some i)
  included_line p i lines tag_is removable stays line name =
      let left : is_removed language removed l.tokens ≡ false =
      ap (λ x. x && removed (line_of_tokens l.tokens)) include_is ∙ ap (λ n. is_include_tag t && removed n) line_is ∙ stays in
      let kind_same : kind_of t (slice_range (bytes_of cells) i.at (i.at + i.len)) ≡ line_kind language l.tokens = name_by (is_named t) refl i.at i.len name in
      let D : LineKind → ℕ → Directive = λ j n. record { kind = j; line = n } in
      record {
        lines = lines;
        fits = subst (λ (x : Tag). Fits language x (l ∷ [])) (sym tag_is) (fits-by language t l _ other own);
        kept = ap (λ (x : Tag). kept_line x l) tag_is ∙ kept-directive t l other ∙ stays_by language removed l left;
        included = (
          ap is_removable_tag tag_is ∙ removable,
          within_by (option_map seen_operand q.operand) i.at i.len name,
          ap (λ (x : Tag). D (kind_of x (slice_range (bytes_of cells) i.at (i.at + i.len))) i.line) tag_is
              ∙ ap (λ (j : LineKind). D j i.line) kind_same ∙ ap (D (line_kind language l.tokens)) (line ∙ sym line_is),
        );
      }

-- the operand lies in the text, which is short
pub short_operand : (cells : List Cell) (q : PrefixValue) → IsPrefixIn cells q → length cells ≤ longest_text → IfSome q.operand (λ o. (length o.spelling.now ≤ q.end) × (q.end ≤ longest_text))
short_operand cells q h short = by q.operand h.operand
  where
    by : (o : Option OperandValue) → IfSome o (λ p. EndsAt (bytes_of cells) q.end p.spelling.now) → IfSome o (λ p. (length p.spelling.now ≤ q.end) × (q.end ≤ longest_text))
    by None e = tt
    by (Some p) e = (omega (arith, e.size), omega (arith, e.within, short, length-map cells (λ (c : Cell). c.byte)))

---- parts up to a place

-- parts that are kept of these lines, which end at a place
abbrev pub AreKeptTo : Language → List Cell → ℕ → List Part → List TokenLine → Type 0
AreKeptTo language cells at [] ds = ds ≡ []
AreKeptTo language cells at (p ∷ ps) ds =
    (p.start ≤ length cells) × (lines_at language cells p.start ≡ before ds (lines_at language cells at)) × (1 ≤ p.lines) × (p.lines ≤ length ds) × (is_text p.tag ≡ false → p.lines ≡ 1)
    × Fits language p.tag (take p.lines ds) × AreKeptTo language cells at ps (drop p.lines ds)

take_whole : {X : Type 0} (n : ℕ) (xs : List X) → n ≡ length xs → take n xs ≡ xs
take_whole zero [] e = refl
take_whole zero (x ∷ xs) e = absurd (omega (arith, e))
take_whole (suc n) [] e = refl
take_whole (suc n) (x ∷ xs) e = ap (λ ys. x ∷ ys) (take_whole n xs (omega (arith, e)))

module _ (language : Language) (cells : List Cell) (at next : ℕ) (p : Part) (ls : List TokenLine) (within : p.start ≤ length cells) (place : p.start ≡ at)
    (line : lines_at language cells at ≡ before ls (lines_at language cells next)) (size : p.lines ≡ length ls) (some : 1 ≤ p.lines) (one : is_text p.tag ≡ false → p.lines ≡ 1) (fits : Fits language p.tag ls) where
  kept-push : (parts : List Part) (ds : List TokenLine) → AreKeptTo language cells at parts ds → AreKeptTo language cells next (parts ++ p ∷ []) (ds ++ ls)
  kept-push [] ds h =
      let same : ds ++ ls ≡ ls = ap (λ (es : List TokenLine). es ++ ls) h in
      subst (AreKeptTo language cells next (p ∷ [])) (sym same)
      (within, ap (lines_at language cells) place ∙ line, some, omega (arith, size), one, subst (Fits language p.tag) (sym (take_whole p.lines ls size)) fits, drop_all p.lines ls (omega (arith, size)))
  kept-push (q ∷ parts) ds h =
      let le : q.lines ≤ length ds = h.3 in (
        h.0,
        h.1 ∙ ap (before ds) line ∙ before-more ds ls (lines_at language cells next),
        h.2,
        omega (arith, le, length-append ds ls),
        h.4,
        subst (Fits language q.tag) (sym (take-append-le q.lines ds ls le)) h.5,
        subst (AreKeptTo language cells next (parts ++ p ∷ [])) (sym (drop-append-le q.lines ds ls le)) (kept-push parts (drop q.lines ds) h.6),
      )

  lines-push : (parts : List Part) (ds : List TokenLine) → AreKeptTo language cells at parts ds → kept_lines (parts ++ p ∷ []) (ds ++ ls) ≡ kept_lines parts ds ++ map (kept_line p.tag) ls
  lines-push [] ds h =
      ap (λ (es : List TokenLine). kept_lines (p ∷ []) (es ++ ls)) h ∙ append-nil (map (kept_line p.tag) (take p.lines ls)) ∙ ap (map (kept_line p.tag)) (take_whole p.lines ls size)
  lines-push (q ∷ parts) ds h =
      let le : q.lines ≤ length ds = h.3 in
      ap (λ (es : List TokenLine). map (kept_line q.tag) es ++ kept_lines (parts ++ p ∷ []) (drop q.lines (ds ++ ls))) (take-append-le q.lines ds ls le)
      ∙ ap (λ (es : List TokenLine). map (kept_line q.tag) (take q.lines ds) ++ kept_lines (parts ++ p ∷ []) es) (drop-append-le q.lines ds ls le)
      ∙ ap (λ (es : List TokenLine). map (kept_line q.tag) (take q.lines ds) ++ es) (lines-push parts (drop q.lines ds) h.6)
      ∙ sym (append_assoc (map (kept_line q.tag) (take q.lines ds)) (kept_lines parts (drop q.lines ds)) (map (kept_line p.tag) ls))

kept_end : (language : Language) (cells : List Cell) (at : ℕ) (parts : List Part) (ds : List TokenLine) → lines_at language cells at ≡ Ok [] → AreKeptTo language cells at parts ds → AreKept language cells parts ds
kept_end language cells at [] ds end h = h
kept_end language cells at (p ∷ parts) ds end h = (
  record {
    within = h.0;
    lines = h.1 ∙ ap (before ds) end ∙ ap (λ (ls : List TokenLine). Ok ls) (append-nil ds);
    some = h.2;
    enough = h.3;
    one = h.4;
    fits = h.5;
  },
  kept_end language cells at parts (drop p.lines ds) end h.6,
)

---- the directives that include

abbrev one_if : Bool → ℕ
one_if x = if x then 1 else 0

first-more : (t : Tag) (is js : List Inclusion) (left : ℕ) (x : Bool) → is_removable_tag t ≡ x → (if x then 1 else 0) + left ≡ length is → x ≡ true → first_inclusion (is ++ js) ≡ first_inclusion is
first-more t [] js left true e h is' = absurd (omega (arith, h))
first-more t [] js left false e h is' = cc
first-more t (i ∷ is) js left x e h is' = refl

rest-more : (is js : List Inclusion) (left : ℕ) → 1 + left ≡ length is → rest_inclusions (is ++ js) ≡ rest_inclusions is ++ js
rest-more [] js left h = absurd (omega (arith, h))
rest-more (i ∷ is) js left h = refl

rest-count : (is : List Inclusion) (left : ℕ) → 1 + left ≡ length is → left ≡ length (rest_inclusions is)
rest-count [] left h = absurd (omega (arith, h))
rest-count (i ∷ is) left h = omega (arith, h)

abbrev removables : List Part → ℕ
removables parts = count_by (λ (p : Part). is_removable_tag p.tag) parts

count-step : (q : Part) (parts : List Part) → (if is_removable_tag q.tag then 1 else 0) + removables parts ≡ removables (q ∷ parts)
count-step q parts = sym (sum_by-cons (λ (s : Part). if is_removable_tag s.tag then 1 else 0) q parts)

directives-push : (text : List ℕ) (parts : List Part) (p : Part) (is js : List Inclusion) → removables parts ≡ length is
    → directives_from text (parts ++ p ∷ []) (is ++ js) ≡ directives_from text parts is ++ directives_from text (p ∷ []) js
directives-push text [] p is js count = ap (λ (ks : List Inclusion). directives_from text (p ∷ []) (ks ++ js)) (none is count)
  where
    none : (is : List Inclusion) → 0 ≡ length is → is ≡ []
    none [] e = refl
    none (i ∷ is) e = absurd (omega (arith, e))
directives-push text (q ∷ parts) p is js count = by (is_removable_tag q.tag) refl (count-step q parts ∙ count)
    (λ left. directives-push text parts p (rest_inclusions is) js left) (λ left. directives-push text parts p is js left)
  where
    by : (x : Bool) → is_removable_tag q.tag ≡ x → (if x then 1 else 0) + removables parts ≡ length is
        → (removables parts ≡ length (rest_inclusions is) → directives_from text (parts ++ p ∷ []) (rest_inclusions is ++ js) ≡ directives_from text parts (rest_inclusions is) ++ directives_from text (p ∷ []) js)
        → (removables parts ≡ length is → directives_from text (parts ++ p ∷ []) (is ++ js) ≡ directives_from text parts is ++ directives_from text (p ∷ []) js)
        → (if x then directive_with text q.tag (first_inclusion (is ++ js)) ∷ directives_from text (parts ++ p ∷ []) (rest_inclusions (is ++ js)) else directives_from text (parts ++ p ∷ []) (is ++ js))
        ≡ (if x then directive_with text q.tag (first_inclusion is) ∷ directives_from text parts (rest_inclusions is) else directives_from text parts is) ++ directives_from text (p ∷ []) js
    by true e left rest same =
        ap (λ (i : Inclusion). directive_with text q.tag i ∷ directives_from text (parts ++ p ∷ []) (rest_inclusions (is ++ js))) (first-more q.tag is js (removables parts) true e left refl)
        ∙ ap (λ (ks : List Inclusion). directive_with text q.tag (first_inclusion is) ∷ directives_from text (parts ++ p ∷ []) ks) (rest-more is js (removables parts) left)
        ∙ ap (λ (ds : List Directive). directive_with text q.tag (first_inclusion is) ∷ ds) (rest (rest-count is (removables parts) left))
    by false e left rest same = same (omega (arith, left))

count-push : (parts : List Part) (p : Part) (n : ℕ) → (if is_removable_tag p.tag then 1 else 0) ≡ n → removables (parts ++ p ∷ []) ≡ removables parts + n
count-push [] p n e = sym (count-step p []) ∙ (let sum : (if is_removable_tag p.tag then 1 else 0) + 0 ≡ 0 + n = omega (arith, e) in sum)
count-push (q ∷ parts) p n e =
    sym (count-step q (parts ++ p ∷ []))
    ∙ (let sum : (if is_removable_tag q.tag then 1 else 0) + removables (parts ++ p ∷ []) ≡ removables (q ∷ parts) + n = omega (arith, count-push parts p n e, count-step q parts) in sum)

pub length-directives : (text : List ℕ) (parts : List Part) (is : List Inclusion) → removables parts ≡ length is → length (directives_from text parts is) ≡ length is
length-directives text [] is count = omega (arith, count)
length-directives text (q ∷ parts) is count = by (is_removable_tag q.tag) (count-step q parts ∙ count) (λ left. length-directives text parts (rest_inclusions is) left) (λ left. length-directives text parts is left)
  where
    by : (x : Bool) → (if x then 1 else 0) + removables parts ≡ length is
        → (removables parts ≡ length (rest_inclusions is) → length (directives_from text parts (rest_inclusions is)) ≡ length (rest_inclusions is))
        → (removables parts ≡ length is → length (directives_from text parts is) ≡ length is)
        → length (if x then directive_with text q.tag (first_inclusion is) ∷ directives_from text parts (rest_inclusions is) else directives_from text parts is) ≡ length is
    by true left rest same =
        let below = rest-count is (removables parts) left in
        omega (arith, rest below, below, left)
    by false left rest same = same (omega (arith, left))

-- those that are left after one of them
included_tail : (n : ℕ) (parts : List Part) (is : List Inclusion) (d : Part) → AreIncluded n parts is → 1 ≤ length parts → is_removable_tag (get_or parts 0 d).tag ≡ true → 1 ≤ length is → AreIncluded n (drop 1 parts) (drop 1 is)
included_tail n [] is d h some e more = absurd (omega (arith, some))
included_tail n (p ∷ parts) [] d h some e more = absurd (omega (arith, more))
included_tail n (p ∷ parts) (i ∷ is) d h some e more = record {
  count = (let one : (if is_removable_tag p.tag then 1 else 0) ≡ 1 = ap one_if e in
      let both : removables parts ≡ length is = omega (arith, count-step p parts, h.count, one) in both);
  names = All-tail (λ (j : Inclusion). j.at + j.len ≤ n) i is h.names;
}

pub included_rest : (n : ℕ) (parts : List Part) (is : List Inclusion) (d : Part) → AreIncluded n parts is → 1 ≤ length parts → is_removable_tag (get_or parts 0 d).tag ≡ true → 1 ≤ length is
    → AreIncluded n (take (length parts - 1) (drop 1 parts)) (take (length is - 1) (drop 1 is))
included_rest n parts is d h some e more =
    subst (λ (ps : List Part). AreIncluded n ps (take (length is - 1) (drop 1 is))) (sym (take_rest parts 1))
    (subst (AreIncluded n (drop 1 parts)) (sym (take_rest is 1)) (included_tail n parts is d h some e more))

---- the directives of lines

abbrev directive_in : Language → TokenLine → Option Directive
directive_in language l = directive_of (line_kind language l.tokens) (line_of_tokens l.tokens)

abbrev pub kept_directives : Language → List TokenLine → List Directive
kept_directives language ls = filter is_inclusion (filter_map (directive_in language) ls)

kept_directives-append : (language : Language) (xs ys : List TokenLine) → kept_directives language (xs ++ ys) ≡ kept_directives language xs ++ kept_directives language ys
kept_directives-append language xs ys =
    ap (filter is_inclusion) (filter_map-append (directive_in language) xs ys) ∙ filter-append is_inclusion (filter_map (directive_in language) xs) (filter_map (directive_in language) ys)

directives-numbered : (language : Language) (place : ℕ) (ls : List TokenLine) → directives_in (file_lines_from language place ls) ≡ filter_map (directive_in language) ls
directives-numbered language place [] = refl
directives-numbered language place (l ∷ ls) = more (directive_in language l) (directives-numbered language (place + 1) ls)
  where
    more : (o : Option Directive) → directives_in (file_lines_from language (place + 1) ls) ≡ filter_map (directive_in language) ls
        → cons o (directives_in (file_lines_from language (place + 1) ls)) ≡ cons o (filter_map (directive_in language) ls)
    more None e = e
    more (Some d) e = ap (λ (ds : List Directive). d ∷ ds) e

texts-none : (language : Language) (ls : List TokenLine) → All (λ (l : TokenLine). prefix_of language l.tokens ≡ None) ls → kept_directives language ls ≡ []
texts-none language [] h = refl
texts-none language (l ∷ ls) h =
    let none : directive_in language l ≡ None = ap (λ (k : LineKind). directive_of k (line_of_tokens l.tokens)) (text-kind language l.tokens (All-head (λ (k : TokenLine). prefix_of language k.tokens ≡ None) l ls h)) in
    rw none (texts-none language ls (All-tail (λ (k : TokenLine). prefix_of language k.tokens ≡ None) l ls h))

-- a directive that does not include, or lines of text
shut-directive : (k : LineKind) (line : ℕ) → is_removable k ≡ false → filter is_inclusion (filter_map (λ (x : LineKind). directive_of x line) (k ∷ [])) ≡ []
shut-directive Text line h = refl
shut-directive (Include by t) line h = cc
shut-directive (Other Foreign) line h = cc
shut-directive k line h = refl

open-directive : (k : LineKind) (line : ℕ) → is_removable k ≡ true → filter is_inclusion (filter_map (λ (x : LineKind). directive_of x line) (k ∷ [])) ≡ record { kind = k; line = line } ∷ []
open-directive (Include by t) line h = refl
open-directive (Other Foreign) line h = refl
open-directive k line h = cc

---- what is found up to a place

pub record AreFound (language : Language) (cells : List Cell) (removed : ℕ → Bool) (at : ℕ) (parts : List Part) (is : List Inclusion) (ds : List TokenLine) : Type 0 where
  -- these lines come before those from the place on
  pub whole : before ds (lines_at language cells at) ≡ token_lines language cells
  -- the parts are kept of these lines
  pub kept : AreKeptTo language cells at parts ds
  -- they leave these lines, where some directives are removed
  pub removals : kept_lines parts ds ≡ with_removed language removed ds
  -- a directive is kept for each part that has one
  pub count : removables parts ≡ length is
  -- each name lies within the text
  pub names : All (λ (i : Inclusion). i.at + i.len ≤ length cells) is
  -- these are the directives of the lines
  pub directives : directives_from (bytes_of cells) parts is ≡ kept_directives language (kept_lines parts ds)
  -- no part is without a line
  pub few : length parts ≤ length ds

pub found_none : (language : Language) (cells : List Cell) (removed : ℕ → Bool) → AreFound language cells removed 0 [] [] []
found_none language cells removed = record {
  whole = before-none (token_lines language cells);
  kept = refl;
  removals = refl;
  count = refl;
  names = All-nil (λ (i : Inclusion). i.at + i.len ≤ length cells);
  directives = refl;
  few = omega arith;
}

pub found_fault : (language : Language) (cells : List Cell) (removed : ℕ → Bool) (at : ℕ) (parts : List Part) (is : List Inclusion) (ds : List TokenLine) (fault : LexFault) → AreFound language cells removed at parts is ds
    → lines_at language cells at ≡ Err fault → token_lines language cells ≡ Err fault
found_fault language cells removed at parts is ds fault h e = sym h.whole ∙ ap (before ds) e

found_more : (language : Language) (cells : List Cell) (removed : ℕ → Bool) (at next : ℕ) (parts : List Part) (is js : List Inclusion) (ds ls : List TokenLine) (p : Part)
    → AreFound language cells removed at parts is ds → p.start ≤ length cells → p.start ≡ at → lines_at language cells at ≡ before ls (lines_at language cells next) → p.lines ≡ length ls → 1 ≤ p.lines
    → (is_text p.tag ≡ false → p.lines ≡ 1) → Fits language p.tag ls → map (kept_line p.tag) ls ≡ with_removed language removed ls → (if is_removable_tag p.tag then 1 else 0) ≡ length js
    → All (λ (i : Inclusion). i.at + i.len ≤ length cells) js → directives_from (bytes_of cells) (p ∷ []) js ≡ kept_directives language (map (kept_line p.tag) ls)
    → AreFound language cells removed next (parts ++ p ∷ []) (is ++ js) (ds ++ ls)
found_more language cells removed at next parts is js ds ls p h within place line size some one fits gone count names made =
    let kept = lines-push language cells at next p ls within place line size some one fits parts ds h.kept in
    record {
      whole = sym (before-more ds ls (lines_at language cells next)) ∙ ap (before ds) (sym line) ∙ h.whole;
      kept = kept-push language cells at next p ls within place line size some one fits parts ds h.kept;
      removals = kept ∙ ap (λ (es : List TokenLine). es ++ map (kept_line p.tag) ls) h.removals ∙ ap (λ (es : List TokenLine). with_removed language removed ds ++ es) gone
          ∙ sym (map-append (with_line_removed language removed) ds ls);
      count = (let both : removables (parts ++ p ∷ []) ≡ length (is ++ js) = omega (arith, count-push parts p (length js) count, h.count, length-append is js) in both);
      names = All-append (λ (i : Inclusion). i.at + i.len ≤ length cells) is js h.names names;
      directives = directives-push (bytes_of cells) parts p is js h.count
          ∙ ap (λ (es : List Directive). es ++ directives_from (bytes_of cells) (p ∷ []) js) h.directives
          ∙ ap (λ (es : List Directive). kept_directives language (kept_lines parts ds) ++ es) made
          ∙ sym (ap (kept_directives language) kept ∙ kept_directives-append language (kept_lines parts ds) (map (kept_line p.tag) ls));
      few = omega (arith, h.few, length-append parts (p ∷ []), length-append ds ls, size, some);
    }

kept_move : (language : Language) (cells : List Cell) (at next : ℕ) (parts : List Part) (ds : List TokenLine) → lines_at language cells at ≡ lines_at language cells next → AreKeptTo language cells at parts ds → AreKeptTo language cells next parts ds
kept_move language cells at next [] ds e h = h
kept_move language cells at next (p ∷ parts) ds e h = (h.0, h.1 ∙ ap (before ds) e, h.2, h.3, h.4, h.5, kept_move language cells at next parts (drop p.lines ds) e h.6)

map-same : (f : TokenLine → TokenLine) (ls : List TokenLine) → ((l : TokenLine) → f l ≡ l) → map f ls ≡ ls
map-same f [] h = refl
map-same f (l ∷ ls) h = ap (λ (k : TokenLine). k ∷ map f ls) (h l) ∙ ap (λ (ks : List TokenLine). l ∷ ks) (map-same f ls h)

text_kept : (b : Bool) (l : TokenLine) → kept_line (text_tag b) l ≡ l
text_kept true l = refl
text_kept false l = refl

texts_stay : (language : Language) (removed : ℕ → Bool) (ls : List TokenLine) → All (λ (l : TokenLine). prefix_of language l.tokens ≡ None) ls → ls ≡ with_removed language removed ls
texts_stay language removed [] h = refl
texts_stay language removed (l ∷ ls) h =
    let plain = All-head (λ (k : TokenLine). prefix_of language k.tokens ≡ None) l ls h in
    let stays : l ≡ with_line_removed language removed l = stays_by language removed l (ap (λ (k : LineKind). is_include k && removed (line_of_tokens l.tokens)) (text-kind language l.tokens plain)) in
    ap (λ (k : TokenLine). k ∷ ls) stays ∙ ap (λ (ks : List TokenLine). with_line_removed language removed l ∷ ks) (texts_stay language removed ls (All-tail (λ (k : TokenLine). prefix_of language k.tokens ≡ None) l ls h))

text_fits : (language : Language) (b : Bool) (ls : List TokenLine) → All (λ (l : TokenLine). prefix_of language l.tokens ≡ None) ls → b ≡ list_all (λ (l : TokenLine). are_none l.tokens) ls → Fits language (text_tag b) ls
text_fits language true ls h e = (h, sym e)
text_fits language false ls h e = (h, sym e)

text_is : (b : Bool) → is_text (text_tag b) ≡ true
text_is true = refl
text_is false = refl

text_shut : (b : Bool) → is_removable_tag (text_tag b) ≡ false
text_shut true = refl
text_shut false = refl

shut_none : (text : List ℕ) (p : Part) → is_removable_tag p.tag ≡ false → directives_from text (p ∷ []) [] ≡ []
shut_none text p e = ap (λ x. if x then directive_with text p.tag (record { line = 0; at = 0; len = 0 }) ∷ [] else []) e

shut_count : (t : Tag) → is_removable_tag t ≡ false → one_if (is_removable_tag t) ≡ 0
shut_count t e = ap one_if e

empty_list : (ls : List TokenLine) → length ls ≡ 0 → ls ≡ []
empty_list [] e = refl
empty_list (l ∷ ls) e = absurd (omega (arith, e))

-- after lines of text
pub found_text : (language : Language) (cells : List Cell) (removed : ℕ → Bool) (at : ℕ) (parts new : List Part) (is : List Inclusion) (ds : List TokenLine) (run : TextRun) → AreFound language cells removed at parts is ds
    → IsRun language cells at run → new ≡ parts ++ text_parts run → (es : List TokenLine) × AreFound language cells removed run.end new is es
found_text language cells removed at parts new is ds run h r e = by run.lines refl
  where
    by : (n : ℕ) → run.lines ≡ n → (es : List TokenLine) × AreFound language cells removed run.end new is es
    by zero none =
        let empty : text_parts run ≡ [] = ap (λ k. if k == 0 then [] else record { start = run.start; lines = run.lines; tag = text_tag run.is_blank } ∷ []) none in
        let same : new ≡ parts = e ∙ ap (λ (qs : List Part). parts ++ qs) empty ∙ append-nil parts in
        let nothing : r.lines.0 ≡ [] = empty_list r.lines.0 (omega (arith, r.lines.1.count, none)) in
        let here : lines_at language cells at ≡ lines_at language cells run.end = r.lines.2 ∙ ap (λ (ls : List TokenLine). before ls (lines_at language cells run.end)) nothing ∙ before-none (lines_at language cells run.end) in (
          ds,
          subst (λ (qs : List Part). AreFound language cells removed run.end qs is ds) (sym same)
              (record {
                whole = ap (before ds) (sym here) ∙ h.whole;
                kept = kept_move language cells at run.end parts ds here h.kept;
                removals = h.removals;
                count = h.count;
                names = h.names;
                directives = h.directives;
                few = h.few;
              }),
        )
    by (suc n) some =
        let p : Part = record { start = run.start; lines = run.lines; tag = text_tag run.is_blank } in
        let ls : List TokenLine = r.lines.0 in
        let text = r.lines.1 in
        let not_none : (run.lines == 0) ≡ false = grind arith in
        let made : text_parts run ≡ p ∷ [] = ap (λ x. if x then [] else p ∷ []) not_none in
        let keeps : map (kept_line p.tag) ls ≡ ls = map-same (kept_line p.tag) ls (text_kept run.is_blank) in
        let shut : is_removable_tag p.tag ≡ false = text_shut run.is_blank in (
          ds ++ ls,
          subst (λ (qs : List Part). AreFound language cells removed run.end qs is (ds ++ ls)) (sym (e ∙ ap (λ (qs : List Part). parts ++ qs) made))
              (subst (λ (js : List Inclusion). AreFound language cells removed run.end (parts ++ p ∷ []) js (ds ++ ls)) (append-nil is)
              (found_more language cells removed at run.end parts is [] ds ls p h (omega (arith, r.start, r.after, r.within)) r.start r.lines.2 (sym text.count) (omega (arith, some))
              (λ other. (let no_way : true ≡ false = sym (text_is run.is_blank) ∙ other in cc)) (text_fits language run.is_blank ls text.text text.blank) (keeps ∙ texts_stay language removed ls text.text)
              (shut_count p.tag shut) (All-nil (λ (i : Inclusion). i.at + i.len ≤ length cells))
              (shut_none (bytes_of cells) p shut ∙ sym (ap (kept_directives language) keeps ∙ texts-none language ls text.text)))),
        )

-- after a line

shut_line : (language : Language) (t : Tag) (l : TokenLine) → is_removable_tag t ≡ false → Fits language t (l ∷ []) → kept_directives language (kept_line t l ∷ []) ≡ []
shut_line language tag.Text l shut f = texts-none language (l ∷ []) f.0
shut_line language tag.Blank l shut f = texts-none language (l ∷ []) f.0
shut_line language tag.Removed l shut f = refl
shut_line language (tag.Quoted by) l shut f = cc
shut_line language (tag.Angled by) l shut f = cc
shut_line language (tag.ByName by) l shut f = cc
shut_line language (tag.Computed by) l shut f = cc
shut_line language (tag.Nothing by) l shut f = cc
shut_line language (tag.Other Foreign) l shut f = cc
shut_line language t l shut f =
    let is = All-head (λ (k : TokenLine). IsTagOf (line_kind language k.tokens) t f.0) l [] f.1 in
    shut-directive (line_kind language l.tokens) (line_of_tokens l.tokens) (ap is_removable (sym is.kind) ∙ removable-kind_of t f.0 ∙ shut)

pub found_line : (language : Language) (cells : List Cell) (removed : ℕ → Bool) (at next : ℕ) (parts new : List Part) (is now : List Inclusion) (ds : List TokenLine) (l : TokenLine) (p : Part) (i : Option Inclusion)
    → AreFound language cells removed at parts is ds → at ≤ length cells → p.start ≡ at → lines_at language cells at ≡ with_line l (lines_at language cells next) → IsPartOf language cells removed l p i
    → new ≡ parts ++ p ∷ [] → now ≡ is ++ option_to_list i → AreFound language cells removed next new now (ds ++ l ∷ [])
found_line language cells removed at next parts new is now ds l p i h within place line made e f =
    subst (λ (qs : List Part). AreFound language cells removed next qs now (ds ++ l ∷ [])) (sym e)
    (subst (λ (js : List Inclusion). AreFound language cells removed next (parts ++ p ∷ []) js (ds ++ l ∷ [])) (sym f) (by i made.included))
  where
    open_line : (x : Bool) (j : Inclusion) → is_removable_tag p.tag ≡ x → x ≡ true → directive_with (bytes_of cells) p.tag j ≡ directive_at language l
        → (if x then directive_with (bytes_of cells) p.tag j ∷ [] else []) ≡ kept_directives language (map (kept_line p.tag) (l ∷ []))
    open_line false j e t d = cc
    open_line true j e t d =
        let kind : is_removable (line_kind language l.tokens) ≡ true = ap (λ (x : Directive). is_removable x.kind) (sym d) ∙ removable-kind_of p.tag _ ∙ e in
        ap (λ (x : Directive). x ∷ []) d ∙ sym (open-directive (line_kind language l.tokens) (line_of_tokens l.tokens) kind)
        ∙ ap (λ (k : TokenLine). kept_directives language (k ∷ [])) (sym (kept-removable p.tag l e))

    by : (o : Option Inclusion) → MatchOption o (is_removable_tag p.tag ≡ false) (λ j. (is_removable_tag p.tag ≡ true) × (j.at + j.len ≤ length cells) × (directive_with (bytes_of cells) p.tag j ≡ directive_at language l))
        → AreFound language cells removed next (parts ++ p ∷ []) (is ++ option_to_list o) (ds ++ l ∷ [])
    by None shut =
        found_more language cells removed at next parts is [] ds (l ∷ []) p h (omega (arith, within, place)) place (line ∙ before-one l (lines_at language cells next)) made.lines (omega (arith, made.lines)) (λ other. made.lines)
        made.fits (ap (λ (k : TokenLine). k ∷ []) made.kept) (shut_count p.tag shut) (All-nil (λ (j : Inclusion). j.at + j.len ≤ length cells))
        (shut_none (bytes_of cells) p shut ∙ sym (shut_line language p.tag l shut made.fits))
    by (Some j) some =
        found_more language cells removed at next parts is (j ∷ []) ds (l ∷ []) p h (omega (arith, within, place)) place (line ∙ before-one l (lines_at language cells next)) made.lines (omega (arith, made.lines)) (λ other. made.lines)
        made.fits (ap (λ (k : TokenLine). k ∷ []) made.kept) (ap one_if some.0)
        (All-cons (λ (k : Inclusion). k.at + k.len ≤ length cells) j [] some.1 (All-nil (λ (k : Inclusion). k.at + k.len ≤ length cells)))
        (open_line (is_removable_tag p.tag) j refl some.0 some.2)

---- a text has no more lines than bytes

token_short : (t : Tok) (ls : List TokenLine) → length (with_token t ls) ≡ length ls
token_short t [] = refl
token_short t (l ∷ ls) = refl

piece_short : (space : Bool) (p : Piece) (c : Cell) (cs : List Cell) (r : Result (List TokenLine) LexFault) (n : ℕ) (ls : List TokenLine) → ((ms : List TokenLine) → r ≡ Ok ms → length ms ≤ n)
    → with_piece space p c cs r ≡ Ok ls → length ls ≤ suc n
piece_short space piece.Unclosed c cs r n ls h e = cc
piece_short space (piece.Blank m) c cs (Err fault) n ls h e = cc
piece_short space piece.NewLine c cs (Err fault) n ls h e = cc
piece_short space (piece.Lexeme kind m) c cs (Err fault) n ls h e = cc
piece_short space (piece.Blank m) c cs (Ok ms) n ls h e = let same : ms ≡ ls = cc in omega (arith, h ms refl, ap length same)
piece_short space piece.NewLine c cs (Ok ms) n ls h e = let same : record { tokens = []; last_line = c.line } ∷ ms ≡ ls = cc in omega (arith, h ms refl, ap length same)
piece_short space (piece.Lexeme kind m) c cs (Ok ms) n ls h e =
    let same : with_token (token_of space kind m c cs) ms ≡ ls = cc in
    omega (arith, h ms refl, sym (token_short (token_of space kind m c cs) ms) ∙ ap length same)

lines_short : (language : Language) (left : ℕ) (progress : Progress) (space : Bool) (cells : List Cell) (ls : List TokenLine) → lines_from language left progress space cells ≡ Ok ls → length ls ≤ length cells
lines_short language left progress space [] ls e = let same : [] ≡ ls = cc in omega (arith, ap length same)
lines_short language (suc left) progress space (c ∷ cs) ls e = omega (arith, lines_short language left progress space cs ls e)
lines_short language zero progress space (c ∷ cs) ls e = piece_short space _ c cs _ (length cs) ls (λ ms f. lines_short language _ _ _ cs ms f) e

-- once no line is left
pub found_all : (language : Language) (cells : List Cell) (removed : ℕ → Bool) (at : ℕ) (parts all : List Part) (is now : List Inclusion) (ds : List TokenLine) → length cells ≤ longest_text → AreFound language cells removed at parts is ds
    → lines_at language cells at ≡ Ok [] → all ≡ parts → now ≡ is → AreSplit language cells removed all now ds
found_all language cells removed at parts all is now ds short h end e f =
    let whole : token_lines language cells ≡ Ok ds = sym h.whole ∙ ap (before ds) end ∙ ap (λ (ls : List TokenLine). Ok ls) (append-nil ds) in
    let kept = kept_end language cells at parts ds end h.kept in
    let lines = lines-parts language cells 0 parts ds kept in
    subst (λ (qs : List Part). AreSplit language cells removed qs now ds) (sym e)
    (subst (λ (js : List Inclusion). AreSplit language cells removed parts js ds) (sym f)
    (record {
      whole = whole;
      lines = record {
        kept = kept;
        included = record { count = h.count; names = h.names };
        directives = h.directives ∙ sym (ap (λ (ls : List FileLine). filter is_inclusion (directives_in ls)) lines ∙ ap (filter is_inclusion) (directives-numbered language 0 (kept_lines parts ds)));
        few = omega (arith, h.few, short, lines_short language 0 _ false cells ds whole);
      };
      removals = h.removals;
    }))

---- the walk

pub found_begun : (language : Language) (cells : List Cell) (removed : ℕ → Bool) (at : ℕ) (parts : List Part) (is : List Inclusion) → at ≡ 0 → parts ≡ [] → is ≡ [] → (ds : List TokenLine) × AreFound language cells removed at parts is ds
found_begun language cells removed at parts is e f g = (
  [],
  subst (λ n. AreFound language cells removed n parts is []) (sym e)
      (subst (λ (ps : List Part). AreFound language cells removed 0 ps is []) (sym f) (subst (λ (js : List Inclusion). AreFound language cells removed 0 [] js []) (sym g) (found_none language cells removed))),
)

module _ (language : Language) (cells : List Cell) (removed : ℕ → Bool) (old new : Place) (s : Stretch) (parts mid : List Part) (is : List Inclusion) (ds : List TokenLine)
    (spoken : old.language ≡ language) (text : old.text ≡ cells)
    (h : AreFound language cells removed old.at parts is ds) (takes : TakesStretch old s new) (pushed : mid ≡ parts ++ text_parts s.text) where
  run_is : IsRun language cells old.at s.text
  run_is =
      subst (λ (spoke : Language). IsRun spoke cells old.at s.text) spoken
      (subst (λ (cs : List Cell). IsRun old.language cs old.at s.text) text takes.run)

  found_run : (es : List TokenLine) × AreFound language cells removed s.text.end mid is es
  found_run = found_text language cells removed old.at parts mid is ds s.text h run_is pushed

  taken_line : (line : Option LineSketch) → s.line ≡ line → TakesLine (record { language = language; text = cells; at = s.text.end }) line new
  taken_line line e =
      subst (λ (o : Option LineSketch). TakesLine (record { language = language; text = cells; at = s.text.end }) o new) e
      (subst (λ (spoke : Language). TakesLine (record { language = spoke; text = cells; at = s.text.end }) s.line new) spoken
      (subst (λ (cs : List Cell). TakesLine (record { language = old.language; text = cs; at = s.text.end }) s.line new) text takes.line))

  pub found_stretch : (line : LineSketch) → s.line ≡ Some line → (p : Part) (i : Option Inclusion) → ((l : TokenLine) → IsSketch language new.text l line → IsPartOf language new.text removed l p i) → p.start ≡ line.start
      → (last : Place) → last ≡ new → (now : List Part) (js : List Inclusion) → now ≡ mid ++ p ∷ [] → js ≡ is ++ option_to_list i
      → (last.language ≡ language) × (last.text ≡ cells) × ((es : List TokenLine) × AreFound language cells removed last.at now js es)
  found_stretch line some p i made start last same now js e f =
      let t = taken_line (Some line) some in
      let l : TokenLine = t.5.0 in
      let sketch : IsSketch language new.text l line = subst (λ (cs : List Cell). IsSketch language cs l line) (sym t.1) t.5.1 in
      let part : IsPartOf language cells removed l p i = subst (λ (cs : List Cell). IsPartOf language cs removed l p i) t.1 (made l sketch) in
      let found = found_line language cells removed s.text.end new.at mid now is js found_run.0 l p i found_run.1 run_is.within (start ∙ t.2) t.5.2 part e f in (
        ap (λ (q : Place). q.language) same ∙ t.0,
        ap (λ (q : Place). q.text) same ∙ t.1,
        (found_run.0 ++ l ∷ [], subst (λ n. AreFound language cells removed n now js (found_run.0 ++ l ∷ [])) (sym (ap (λ (q : Place). q.at) same)) found),
      )

  pub found_end : s.line ≡ None → length cells ≤ longest_text → (all : List Part) (js : List Inclusion) → all ≡ mid → js ≡ is → (es : List TokenLine) × AreSplit language cells removed all js es
  found_end none short all js e f = (found_run.0, found_all language cells removed s.text.end mid all is js found_run.0 short found_run.1 (taken_line None none) e f)

  pub found_bad : (fault : LexFault) → lines_at old.language old.text old.at ≡ Err fault → token_lines language cells ≡ Err fault
  found_bad fault e =
      found_fault language cells removed old.at parts is ds fault h
      (ap (λ (spoke : Language). lines_at spoke cells old.at) (sym spoken) ∙ ap (λ (cs : List Cell). lines_at old.language cs old.at) (sym text) ∙ e)

-- nothing is removed
pub nothing_removed : (language : Language) (ls : List TokenLine) → with_removed language (λ line. false) ls ≡ ls
nothing_removed language [] = refl
nothing_removed language (l ∷ ls) =
    ap (λ (k : TokenLine). k ∷ with_removed language (λ line. false) ls) (sym (stays_by language (λ line. false) l (and_false (is_include (line_kind language l.tokens)))))
    ∙ ap (λ (ks : List TokenLine). l ∷ ks) (nothing_removed language ls)
  where
    and_false : (x : Bool) → x && false ≡ false
    and_false true = refl
    and_false false = refl
