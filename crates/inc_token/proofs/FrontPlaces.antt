-- The place of a walk over the front of a line, as it goes on.
use Rattle.inc_text.specs.declared.languages.Language.{Language}
use Rattle.std.proofs.Common.{◌≡◌, ℕ, zero, suc, subst, ◌+◌, ◌-◌, ◌<◌, ◌≤◌, ◌==◌, ◌&&◌, not, Bool, true, false, List, [], ◌∷◌, ◌++◌, Option, Some, None, Result, Err, IfSome, length, take, drop, get_or, cond, slice_get, slice_range, option_map, Ok, refl, sym, ap, ◌∙◌, arith}
use Rattle.std.specs.List.{All, list_all, prefix_len}
use Rattle.std.specs.Option.{option_map_or}
use Rattle.std.proofs.lemmas.Bool.{and_parts, cond-false, eqb-true}
use Rattle.std.proofs.lemmas.List.{length-append, length-drop, length-take-le, drop_all, drop_more}
use Rattle.std.proofs.lemmas.List.Elements.{All-append, All-nil, All-cons, All-head, All-tail}
use Rattle.std.proofs.lemmas.List.Sums.{prefix_len-le-length}
use Rattle.inc_text.specs.PhaseText.{Cell, range_and_line}
use Rattle.inc_token.specs.LineFronts.{first_with, Nothing, Hash, Include, Known, Brief, EndsLine, EndsText, HasMoved, IsBrief, IsFrontOf, IsPlaced, IsTextFront, brief_of, line_brief, seen_brief, TakesToken, directive, text_brief, ahead, ahead_of}
use Rattle.inc_token.specs.LineWalk.{EndsAt, IsPrefixIn, IsRun, IsSketch, TakesLine, are_none, before, line_in, lines_at, with_line}
use Rattle.inc_token.specs.Prefixes.{prefix_of}
use Rattle.inc_token.specs.Scanning.{row_len, begins_with_byte, punctuator_len, lexeme_or_other}
use Rattle.inc_token.proofs.Cells.{cell_at}
use Rattle.inc_token.proofs.FrontPieces.{first_token, piece_by}
use Rattle.inc_token.specs.Views.{seen_operand}
use Rattle.inc_token.specs.Spellings.{is_blank, number_part, begins_number}
use Rattle.inc_token.specs.TokenLines.{is_include_name, Tok, TokenLine, is_hash, piece_at, piece_len}
use Rattle.inc_token.specs.declared.kinds.Kind.{Kind}
use Rattle.inc_token.specs.declared.kinds.Kind.TheVariants.{Number, Punct}
use Rattle.inc_token.specs.declared.lines.fronts.Operand.{Operand as OperandValue}
use Rattle.inc_token.specs.declared.lines.fronts.Walk.{Walk}
use Rattle.inc_token.specs.declared.lines.LexFault.{LexFault}
use Rattle.inc_token.specs.declared.lines.fronts.LineSketch.{LineSketch}
use Rattle.inc_token.specs.declared.lines.fronts.TextRun.{TextRun}
use Rattle.inc_token.specs.declared.pieces.Piece.{Piece}
use Rattle.inc_token.specs.declared.pieces.Piece.TheVariants.{NewLine, Lexeme}
use Rattle.inc_token.specs.declared.pieces.Progress.{Progress}
use Rattle.inc_token.specs.declared.pieces.Progress.TheVariants.{AtStart}
use Rattle.inc_token.proofs.FrontSteps.{ahead-nil, ahead-token, fault_ahead, token_ahead, line_ahead, no_line_ahead, word_brief}
use Rattle.inc_token.proofs.LinesBefore.{before-first, before-more, before-none}
use Rattle.inc_token.proofs.PieceTests.{piece_at-is}
use Rattle.inc_token.proofs.Places.{piece_fits}
use Rattle.inc_token.proofs.Punctuators.{punctuator_len-symbol}

pub placed_at : (w : Walk) (at : ℕ) → IsPlaced w → w.at ≤ at → at ≤ length w.cursor → IsPlaced (record { language = w.language; bytes = w.bytes; cursor = w.cursor; at = at })
placed_at w at h after within =
    record { bytes = h.bytes; len = h.len; short = h.short; within = within }

-- skipped bytes lie within the text
pub run_within : (p : ℕ → Bool) (bytes : List ℕ) (at after : ℕ) → after ≡ at + prefix_len p (drop at bytes) → at ≤ length bytes → after ≤ length bytes
run_within p bytes at after is le = omega (arith, is, prefix_len-le-length p (drop at bytes), length-drop at bytes)

-- what is at a place and is no new-line lies within the text
text_left : (language : Language) (progress : Progress) (piece : Piece) (text : List ℕ) → piece ≡ piece_at language progress text → (piece ≡ NewLine → ⊥) → 0 < length text
text_left language progress piece [] is other = absurd (other is)
text_left language progress piece (b ∷ bs) is other = omega arith

pub piece_left : (language : Language) (bytes : List ℕ) (at : ℕ) (progress : Progress) (piece : Piece) → piece ≡ piece_at language progress (drop at bytes) → (piece ≡ NewLine → ⊥)
    → (at < length bytes) × (1 ≤ piece_len piece) × (at + piece_len piece ≤ length bytes)
piece_left language bytes at progress piece is other =
    let some = text_left language progress piece (drop at bytes) is other in
    let lt : at < length bytes = omega (arith, some, length-drop at bytes) in
    let fits = piece_fits language bytes at progress piece lt is in
    (lt, fits.0, fits.1)

-- the token after `include`, or the end of the line
pub include_taken : (line : ℕ) (name : List ℕ) (old new : Walk) (token : Option OperandValue) → TakesToken (Include line name) old token new
    → ahead_of (Include line name) old ≡ ahead_of (Known (directive (record { line = line; name = Some name; operand = option_map seen_operand token }))) new
include_taken line name old new None taken = taken
include_taken line name old new (Some t) taken = taken.1

-- the name, or the end of the line
pub name_taken : (line : ℕ) (old new : Walk) (name : OperandValue) (is_include : Bool) → TakesToken (Hash line) old (Some name) new
    → is_include_name old.language name.spelling.now ≡ is_include
    → ahead_of (Hash line) old ≡ ahead_of (cond is_include (Include line name.spelling.now) (Known (directive (record { line = line; name = Some name.spelling.now; operand = None })))) new
name_taken line old new name is_include taken is =
    let none : Brief = directive (record { line = line; name = Some name.spelling.now; operand = None }) in
    taken.1 ∙ ap (λ x. ahead_of (cond x (Include line name.spelling.now) (Known none)) new) is

-- the first token of a line, which begins a directive or not
module _ (w : Walk) (n : ℕ) (kind : Kind) (h : IsPlaced w) (some : 1 ≤ n) (fits : w.at + n ≤ length w.cursor) (stands : piece_at w.language AtStart (drop w.at w.bytes.now) ≡ Lexeme kind n) where
  same_word : take n (drop w.at w.bytes.now) ≡ slice_range w.bytes.now w.at (w.at + n)
  same_word = let len : n ≡ w.at + n - w.at = omega arith in ap (λ k. take k (drop w.at w.bytes.now)) len

  pub hash_taken : is_hash (slice_range w.bytes.now w.at (w.at + n)) ≡ true → ahead_of Nothing w ≡ ahead w.language (Hash (line_in w.cursor w.at)) (drop (w.at + n) w.cursor)
  hash_taken is =
      let within : w.at < length w.cursor = omega arith in
      let cell = cell_at w.cursor w.at within in
      let c : Cell = cell.0 in
      let line : ℕ = line_in w.cursor w.at in
      let on : c.line ≡ line = sym (ap (λ (o : Option Cell). option_map_or (λ (x : Cell). x.line) o 0) cell.3) in
      let from : option_map range_and_line (slice_get w.cursor w.at) ≡ Some (c.first, c.last, line) =
      ap (option_map range_and_line) cell.3 ∙ ap (λ l. Some (c.first, c.last, l)) on in
      ahead-token w.language w.bytes.now w.cursor w.at n kind Nothing c.first c.last line h.bytes within (sym stands) some from
      ∙ ap (λ x. ahead w.language (cond x (Hash line) (Known text_brief)) (drop (w.at + n) w.cursor)) (ap is_hash same_word ∙ is)

  pub word_taken : is_hash (slice_range w.bytes.now w.at (w.at + n)) ≡ false → ahead_of Nothing w ≡ ahead w.language (Known text_brief) (drop (w.at + n) w.cursor)
  word_taken is =
      let there = token_ahead w.language w.bytes.now w.cursor w.at n kind Nothing h.bytes (omega arith) (sym stands) some in
      there.1 ∙ ap (λ x. ahead w.language (cond x (Hash there.0) (Known text_brief)) (drop (w.at + n) w.cursor)) (ap is_hash same_word ∙ is)

-- a # without a second one after it is a token
not_true : (x : Bool) → not x ≡ true → x ≡ false
not_true true is = cc
not_true false is = refl

no_number : (language : Language) (bs : List ℕ) → begins_number (35 ∷ bs) ≡ false
no_number language [] = refl
no_number language (b ∷ bs) = refl

no_second : (bs : List ℕ) → begins_with_byte 35 bs ≡ false → (get_or (35 ∷ bs) 1 0 == 35) ≡ false
no_second [] single = refl
no_second (b ∷ bs) single = single

hash_token : (language : Language) (bs : List ℕ) → begins_with_byte 35 bs ≡ false → first_token language (35 ∷ bs) ≡ Lexeme Punct 1
hash_token language bs single =
    let text = 35 ∷ bs in
    let len : punctuator_len text ≡ 1 = punctuator_len-symbol text ∙ cond-false (get_or text 1 0 == 35) 2 1 (no_second bs single) in
    cond-false (begins_number text) (Lexeme Number (row_len (number_part language) 0 text)) (lexeme_or_other Punct (punctuator_len text)) (no_number language bs)
    ∙ ap (lexeme_or_other Punct) len

pub hash_at : (language : Language) (text : List ℕ) (at : ℕ) → at < length text → (get_or text at 0 == 35) && not (begins_with_byte 35 (drop (at + 1) text)) ≡ true
    → piece_at language AtStart (drop at text) ≡ Lexeme Punct 1
hash_at language text at lt is =
    let parts = and_parts (get_or text at 0 == 35) (not (begins_with_byte 35 (drop (at + 1) text))) is in
    let rest = drop (at + 1) text in
    let head : drop at text ≡ 35 ∷ rest = drop_more text at 0 lt ∙ ap (λ b. b ∷ rest) (eqb-true (get_or text at 0) 35 parts.0) in
    sym (piece_at-is language AtStart text at lt) ∙ ap (piece_by language AtStart) head ∙ hash_token language rest (not_true (begins_with_byte 35 rest) parts.1)

-- a line that has ended, and a text that ends inside a line
module _ (old mid new : Walk) (start : ℕ) (b : Brief) (ahead_is : ahead old.language Nothing (drop start old.cursor) ≡ ahead_of (Known b) mid) where
  pub line_passed : (ended : Bool) → ended ≡ true → start ≤ old.at → IsBrief old.language b → HasMoved old mid → HasMoved mid new → EndsLine mid ended new
      → (new.cursor ≡ old.cursor) × (start < new.at) × (new.at ≤ length old.cursor)
      × ((l : TokenLine) × (brief_of old.language l.tokens ≡ b) × (lines_at old.language old.cursor start ≡ with_line l (lines_at old.language old.cursor new.at)))
  line_passed true is order some front rest ends =
      let same : new.cursor ≡ old.cursor = rest.same ∙ front.same in
      let spoken : new.language ≡ old.language = rest.spoken ∙ front.spoken in
      let len = ap length same in
      let line = line_ahead old.language b (drop start old.cursor) (lines_at new.language new.cursor new.at) (ahead_is ∙ ends.1 b) some in (
        same,
        omega (arith, order, front.after, ends.0),
        omega (arith, rest.walk.within, len),
        (line.0, line.1, line.2 ∙ ap (λ (w : Language). with_line line.0 (lines_at w new.cursor new.at)) spoken ∙ ap (λ (cells : List Cell). with_line line.0 (lines_at old.language cells new.at)) same),
      )
  line_passed false is order some front rest ends = cc

  pub line_missed : (ended : Bool) → ended ≡ false → EndsLine mid ended new → lines_at old.language old.cursor start ≡ Ok []
  line_missed true is ends = cc
  line_missed false is ends = no_line_ahead old.language (drop start old.cursor) (ahead_is ∙ ends.1 b)

-- the same of what is told of the line
pub line_taken : (old mid new : Walk) (start : ℕ) (s : LineSketch) → IsFrontOf start old → ahead_of Nothing old ≡ ahead_of (Known (seen_brief old.cursor s)) mid → (ended : Bool) → ended ≡ true
    → s.start ≡ start → IsBrief old.language (seen_brief old.cursor s) → IfSome s.prefix (IsPrefixIn old.cursor) → HasMoved old mid → HasMoved mid new → EndsLine mid ended new
    → TakesLine (record { language = old.language; text = old.cursor; at = start }) (Some s) (record { language = new.language; text = new.cursor; at = new.at })
line_taken old mid new start s at_front ahead_is ended is at some places front rest ends =
    let from : ahead old.language Nothing (drop start old.cursor) ≡ ahead_of (Known (seen_brief old.cursor s)) mid = at_front.ahead ∙ ahead_is in
    let passed = line_passed old mid new start (seen_brief old.cursor s) from ended is at_front.order some front rest ends in
    let line = passed.3 in
    let told : IsSketch old.language old.cursor line.0 s = record {
      blank = sym (ap (λ (b : Brief). b.is_blank) line.1);
      prefix = sym (ap (λ (b : Brief). b.prefix) line.1);
      places = places;
    } in
    (rest.spoken ∙ front.spoken, passed.0, at, passed.1, passed.2, (line.0, told, line.2))

-- the line of a cell
pub line_in-is : (cells : List Cell) (at : ℕ) → at < length cells → option_map (λ (c : Cell). c.line) (slice_get cells at) ≡ Some (line_in cells at)
line_in-is cells at lt =
    let cell = cell_at cells at lt in
    ap (option_map (λ (c : Cell). c.line)) cell.3 ∙ ap (λ n. Some n) (sym (ap (λ (o : Option Cell). option_map_or (λ (c : Cell). c.line) o 0) cell.3))

pub line_is-line_in : (cells : List Cell) (at line : ℕ) → option_map (λ (c : Cell). c.line) (slice_get cells at) ≡ Some line → line ≡ line_in cells at
line_is-line_in cells at line is = by (slice_get cells at) refl
  where
    by : (o : Option Cell) → slice_get cells at ≡ o → line ≡ line_in cells at
    by None none = let no : None ≡ Some line = ap (option_map (λ (c : Cell). c.line)) (sym none) ∙ is in cc
    by (Some c) some =
        let both : Some c.line ≡ Some line = ap (option_map (λ (x : Cell). x.line)) (sym some) ∙ is in
        let same : c.line ≡ line = cc in
        sym same ∙ sym (ap (λ (o : Option Cell). option_map_or (λ (x : Cell). x.line) o 0) some)

-- bytes that a walk has gone over
pub ends_at : (text bytes : List ℕ) (at n : ℕ) → at + n ≤ length text → bytes ≡ take n (drop at text) → EndsAt text (at + n) bytes
ends_at text bytes at n within is =
    let size : length bytes ≡ n = ap length is ∙ length-take-le n (drop at text) (omega (arith, within, length-drop at text)) in
    let len : at + n - at ≡ n = omega arith in
    record { start = at; size = omega (arith, size); within = within; is = ap (λ k. take k (drop at text)) len ∙ sym is }

-- lines of text, as they are skipped

line_some : (language : Language) (is_blank : Bool) → IsBrief language (line_brief is_blank)
line_some language true = ([], refl)
line_some language false = word_brief language

no_prefix : (language : Language) (ls : List TokenLine) → All (λ (l : TokenLine). l.tokens ≡ []) ls → All (λ (l : TokenLine). prefix_of language l.tokens ≡ None) ls
no_prefix language [] h = All-nil (λ (l : TokenLine). prefix_of language l.tokens ≡ None)
no_prefix language (l ∷ ls) h =
    All-cons (λ (k : TokenLine). prefix_of language k.tokens ≡ None) l ls (ap (prefix_of language) (All-head (λ (k : TokenLine). k.tokens ≡ []) l ls h))
    (no_prefix language ls (All-tail (λ (k : TokenLine). k.tokens ≡ []) l ls h))

all_blank : (ls : List TokenLine) → All (λ (l : TokenLine). l.tokens ≡ []) ls → list_all (λ (l : TokenLine). are_none l.tokens) ls ≡ true
all_blank [] h = refl
all_blank (l ∷ ls) h =
    ap (λ (ts : List Tok). are_none ts && list_all (λ (k : TokenLine). are_none k.tokens) ls) (All-head (λ (k : TokenLine). k.tokens ≡ []) l ls h)
    ∙ all_blank ls (All-tail (λ (k : TokenLine). k.tokens ≡ []) l ls h)

blank_more : (ds ls : List TokenLine) (l : TokenLine) (x y : Bool) → x ≡ list_all (λ (k : TokenLine). are_none k.tokens) ds → are_none l.tokens ≡ y
    → list_all (λ (k : TokenLine). are_none k.tokens) ls ≡ true → x && y ≡ list_all (λ (k : TokenLine). are_none k.tokens) (ds ++ l ∷ ls)
blank_more [] ls l x y e f g = ap (λ b. b && y) e ∙ sym (ap (λ b. b && list_all (λ (k : TokenLine). are_none k.tokens) ls) f ∙ ap (λ b. y && b) g ∙ and_true y)
  where
    and_true : (b : Bool) → b && true ≡ b
    and_true true = refl
    and_true false = refl
blank_more (d ∷ ds) ls l x y e f g =
    let rest = blank_more ds ls l (list_all (λ (k : TokenLine). are_none k.tokens) ds) y refl f g in
    ap (λ b. b && y) e ∙ and_assoc (are_none d.tokens) (list_all (λ (k : TokenLine). are_none k.tokens) ds) y ∙ ap (λ b. are_none d.tokens && b) rest
  where
    and_assoc : (a b c : Bool) → (a && b) && c ≡ a && (b && c)
    and_assoc true b c = refl
    and_assoc false b c = refl

pub run_begun : (language : Language) (cells : List Cell) (at : ℕ) (run : TextRun) → at ≤ length cells → run.start ≡ at → run.lines ≡ 0 → run.is_blank ≡ true → run.end ≡ at → IsRun language cells at run
run_begun language cells at run within start lines blank end = record {
  start = start;
  after = omega (arith, end);
  within = omega (arith, end, within);
  lines = ([], record { count = sym lines; text = All-nil (λ (l : TokenLine). prefix_of language l.tokens ≡ None); blank = blank }, sym (ap (λ k. before [] (lines_at language cells k)) end ∙ before-none (lines_at language cells at)));
}

-- a run with the line at the place of a walk, and the empty ones after it
run_by : (language : Language) (old mid new : Walk) (at n : ℕ) (is_blank : Bool) (run more : TextRun) → old.language ≡ language → IsRun language old.cursor at run → old.at ≡ run.end → IsTextFront old (Some is_blank) mid → EndsText mid (suc n) new
    → HasMoved old mid → HasMoved mid new → more.start ≡ run.start → more.lines ≡ run.lines + suc n → more.is_blank ≡ run.is_blank && is_blank → more.end ≡ new.at → IsRun language new.cursor at more
run_by language old mid new at n is_blank run more spoke h here front ends moved over start lines blank end =
    let same : new.cursor ≡ old.cursor = over.same ∙ moved.same in
    let spoken : new.language ≡ language = over.spoken ∙ moved.spoken ∙ spoke in
    let ls : List TokenLine = ends.1 in
    let rest : Result (List TokenLine) LexFault = before ls (lines_at language new.cursor new.at) in
    let line = line_ahead language (line_brief is_blank) (drop old.at old.cursor) rest (ap (λ (w : Language). ahead w Nothing (drop old.at old.cursor)) (sym spoke) ∙ front ∙ ends.4 (line_brief is_blank)
    ∙ ap (λ (w : Language). first_with (line_brief is_blank) (before ls (lines_at w new.cursor new.at))) spoken) (line_some language is_blank) in
    let l : TokenLine = line.0 in
    let ds : List TokenLine = h.lines.0 in
    let old_text = h.lines.1 in
    let whole : lines_at language old.cursor at ≡ before (ds ++ l ∷ ls) (lines_at language old.cursor more.end) =
    h.lines.2 ∙ ap (λ k. before ds (lines_at language old.cursor k)) (sym here) ∙ ap (before ds) (line.2 ∙ before-first l ls (lines_at language new.cursor new.at))
    ∙ before-more ds (l ∷ ls) (lines_at language new.cursor new.at)
    ∙ ap (λ (cells : List Cell). before (ds ++ l ∷ ls) (lines_at language cells new.at)) same
    ∙ ap (λ k. before (ds ++ l ∷ ls) (lines_at language old.cursor k)) (sym end) in
    subst (λ (cells : List Cell). IsRun language cells at more) (sym same)
    (record {
      start = start ∙ h.start;
      after = omega (arith, h.after, here, moved.after, ends.0, end);
      within = omega (arith, end, over.walk.within, ap length same);
      lines = (
        ds ++ l ∷ ls,
        record {
          count = omega (arith, length-append ds (l ∷ ls), old_text.count, ends.2, lines);
          text = All-append (λ (k : TokenLine). prefix_of language k.tokens ≡ None) ds (l ∷ ls) old_text.text
              (All-cons (λ (k : TokenLine). prefix_of language k.tokens ≡ None) l ls (ap (λ (b : Brief). b.prefix) line.1) (no_prefix language ls ends.3));
          blank = blank ∙ blank_more ds ls l run.is_blank is_blank old_text.blank (ap (λ (b : Brief). b.is_blank) line.1) (all_blank ls ends.3);
        },
        whole,
      );
    })

pub run_more : (language : Language) (old mid new : Walk) (at n : ℕ) (is_blank : Bool) (run more : TextRun) → old.language ≡ language → IsRun language old.cursor at run → old.at ≡ run.end → IsTextFront old (Some is_blank) mid → EndsText mid n new → (n ≡ 0 → ⊥)
    → HasMoved old mid → HasMoved mid new → more.start ≡ run.start → more.lines ≡ run.lines + n → more.is_blank ≡ run.is_blank && is_blank → more.end ≡ new.at → IsRun language new.cursor at more
run_more language old mid new at zero is_blank run more spoke h here front ends some moved over start lines blank end = absurd (some refl)
run_more language old mid new at (suc n) is_blank run more spoke h here front ends some moved over start lines blank end = run_by language old mid new at n is_blank run more spoke h here front ends moved over start lines blank end

-- the text ends inside a line after a run
pub run_over : (old mid new : Walk) (run : TextRun) (is_blank : Bool) (n : ℕ) → old.at ≡ run.end → IsTextFront old (Some is_blank) mid → EndsText mid n new → n ≡ 0 → HasMoved old mid → HasMoved mid new
    → IsFrontOf run.end new
run_over old mid new run is_blank zero here front ends none moved over =
    let same : new.cursor ≡ old.cursor = over.same ∙ moved.same in
    record {
      order = omega (arith, here, moved.after, over.after);
      ahead = ap (λ (cells : List Cell). ahead new.language Nothing (drop run.end cells)) same ∙ ap (λ k. ahead new.language Nothing (drop k old.cursor)) (sym here)
          ∙ ap (λ (w : Language). ahead w Nothing (drop old.at old.cursor)) (over.spoken ∙ moved.spoken) ∙ front ∙ ends.1 (line_brief is_blank)
          ∙ sym (ap (ahead new.language Nothing) (drop_all new.at new.cursor (omega (arith, ends.0))) ∙ ahead-nil new.language Nothing);
    }
run_over old mid new run is_blank (suc n) here front ends none moved over = absurd (omega (arith, none))

-- a fault after a run is that of the text
pub run_fault : (language : Language) (cells : List Cell) (at : ℕ) (run : TextRun) (fault : LexFault) → IsRun language cells at run → ahead language Nothing (drop run.end cells) ≡ Err fault → lines_at language cells at ≡ Err fault
run_fault language cells at run fault h is = h.lines.2 ∙ ap (before h.lines.0) (fault_ahead language (drop run.end cells) fault is)
