-- What is ahead of a walk over the front of a line, before and after what is at its place is taken.
use Rattle.inc_text.specs.declared.languages.Language.{Language}
use Rattle.std.proofs.Common.{◌≡◌, ℕ, zero, suc, ◌+◌, ◌-◌, ◌<◌, ◌≤◌, ◌==◌, Bool, true, false, cond, List, [], ◌∷◌, Option, Some, None, Result, Ok, Err, length, take, drop, get_or, refl, sym, ap, ◌∙◌, arith, slice_get, option_map, codes, nat_eq}
use Rattle.std.specs.List.{All, AllWithin, prefix_len, starts_with}
use Rattle.std.specs.Option.{option_map_or}
use Rattle.std.proofs.lemmas.Bool.{eqb-true}
use Rattle.std.proofs.lemmas.List.{drop-drop, drop_more, get_or-drop, length-map}
use Rattle.std.proofs.lemmas.List.Elements.{All-nil, All-cons}
use Rattle.inc_text.specs.PhaseText.{Cell, bytes_of, range_and_line}
use Rattle.inc_token.specs.LineFronts.{Brief, Begun, Nothing, Hash, Include, Known, FirstLine, progress_of, brief_by, begun_with, first_from, first_with, directive, text_brief, brief_of, IsBrief, ahead}
use Rattle.inc_token.specs.LineWalk.{before, with_line}
use Rattle.inc_token.proofs.LinesBefore.{before-first, before-none}
use Rattle.inc_token.specs.Prefixes.{Operand, first_operand, prefix_after}
use Rattle.inc_token.specs.Spellings.{is_blank}
use Rattle.inc_token.specs.TokenLines.{is_include_name, Tok, TokenLine, is_hash, token_at, line_part, comment_rest, block_comment, line_comment, lines_from, piece_at, piece_len, progress_with, progress_after, is_space, token_of, with_piece, token_lines}
use Rattle.inc_token.specs.declared.kinds.Kind.{Kind}
use Rattle.inc_token.specs.declared.kinds.Kind.TheVariants.{Identifier, Punct}
use Rattle.inc_token.specs.declared.lines.LexFault.{LexFault}
use Rattle.inc_token.specs.declared.lines.LexFault.TheVariants.{OpenComment}
use Rattle.inc_token.specs.declared.pieces.Piece.{Piece}
use Rattle.inc_token.specs.declared.pieces.Piece.TheVariants.{Blank, NewLine, Lexeme, Unclosed}
use Rattle.inc_token.specs.declared.pieces.Progress.{Progress}
use Rattle.inc_token.specs.declared.pieces.Progress.TheVariants.{AtStart, AfterHash, AfterInclude, Elsewhere}
use Rattle.inc_token.proofs.Cells.{lines_from-piece, with_piece-blank, with_piece-open, drop-one, bytes_of-drop, cell_at, at_place}
use Rattle.inc_token.proofs.PieceBounds.{if_by}
use Rattle.inc_token.proofs.Places.{spaces_at, blank_at, open_at, line_at}

-- whether white space is before the place does not count

blind_token : (language : Language) (begun : Begun) (s t : Bool) (kind : Kind) (n : ℕ) (c : Cell) (cs : List Cell) (ts : List Tok)
    → brief_by language begun (token_of s kind n c cs ∷ ts) ≡ brief_by language begun (token_of t kind n c cs ∷ ts)
blind_token language Nothing s t kind n c cs ts = refl
blind_token language (Hash line) s t kind n c cs ts = refl
blind_token language (Include line name) s t kind n c cs ts = refl
blind_token language (Known b) s t kind n c cs ts = refl

abbrev first_line : Brief → List TokenLine → FirstLine
first_line b ls = record { brief = b; rest = ls }

-- lines, of the first of which this is told
abbrev told : List TokenLine → Brief → Result (Option FirstLine) LexFault
told ls b = Ok (Some (first_line b ls))

blind_piece : (language : Language) (begun : Begun) (s t : Bool) (piece : Piece) (c : Cell) (cs : List Cell) (rest : Result (List TokenLine) LexFault)
    → first_from language begun (with_piece s piece c cs rest) ≡ first_from language begun (with_piece t piece c cs rest)
blind_piece language begun s t (Blank n) c cs rest = ap (first_from language begun) (with_piece-blank s n c cs rest ∙ sym (with_piece-blank t n c cs rest))
blind_piece language begun s t Unclosed c cs rest = ap (first_from language begun) (with_piece-open s c cs rest ∙ sym (with_piece-open t c cs rest))
blind_piece language begun s t NewLine c cs (Ok lines) = refl
blind_piece language begun s t NewLine c cs (Err fault) = refl
blind_piece language begun s t (Lexeme kind n) c cs (Err fault) = refl
blind_piece language begun s t (Lexeme kind n) c cs (Ok []) = refl
blind_piece language begun s t (Lexeme kind n) c cs (Ok (l ∷ ls)) = ap (told ls) (blind_token language begun s t kind n c cs l.tokens)

blind : (language : Language) (begun : Begun) (s t : Bool) (cells : List Cell)
    → first_from language begun (lines_from language 0 (progress_of begun) s cells) ≡ first_from language begun (lines_from language 0 (progress_of begun) t cells)
blind language begun s t [] = refl
blind language begun s t (c ∷ cs) =
    let progress = progress_of begun in
    let text = bytes_of (c ∷ cs) in
    let piece = piece_at language progress text in
    blind_piece language begun s t piece c cs (lines_from language (piece_len piece - 1) (progress_after language progress piece text) (is_space piece) cs)

pub ahead-by : (language : Language) (begun : Begun) (space : Bool) (cells : List Cell) → ahead language begun cells ≡ first_from language begun (lines_from language 0 (progress_of begun) space cells)
unfolding ahead
ahead-by language begun space cells = blind language begun false space cells

pub ahead-nil : (language : Language) (begun : Begun) → ahead language begun [] ≡ Ok None
ahead-nil language begun = ahead-by language begun false []

-- white space and comments

run_over : (language : Language) (n : ℕ) (bytes : List ℕ) (cells : List Cell) (at after : ℕ) (begun : Begun) → bytes ≡ bytes_of cells
    → after ≡ at + prefix_len is_blank (drop at bytes) → prefix_len is_blank (drop at bytes) ≡ n
    → ahead language begun (drop after cells) ≡ ahead language begun (drop at cells)
run_over language zero bytes cells at after begun text is none = let e : after ≡ at = omega arith in ap (λ k. ahead language begun (drop k cells)) e
run_over language (suc n) bytes cells at after begun text is some =
    ahead-by language begun true (drop after cells)
    ∙ ap (first_from language begun) (spaces_at language bytes cells at after (progress_of begun) false text is (omega arith))
    ∙ sym (ahead-by language begun false (drop at cells))

pub ahead-spaces : (language : Language) (bytes : List ℕ) (cells : List Cell) (at after : ℕ) (begun : Begun) → bytes ≡ bytes_of cells
    → after ≡ at + prefix_len is_blank (drop at bytes) → ahead language begun (drop after cells) ≡ ahead language begun (drop at cells)
ahead-spaces language bytes cells at after begun text is = run_over language (prefix_len is_blank (drop at bytes)) bytes cells at after begun text is refl

pub ahead-blank : (language : Language) (bytes : List ℕ) (cells : List Cell) (at n : ℕ) (begun : Begun) → bytes ≡ bytes_of cells → at < length cells
    → Blank n ≡ piece_at language (progress_of begun) (drop at bytes) → 1 ≤ n → ahead language begun (drop (at + n) cells) ≡ ahead language begun (drop at cells)
ahead-blank language bytes cells at n begun text within is pos =
    ahead-by language begun true (drop (at + n) cells)
    ∙ ap (first_from language begun) (blank_at language bytes cells at n (progress_of begun) false text within is pos)
    ∙ sym (ahead-by language begun false (drop at cells))

pub ahead-open : (language : Language) (bytes : List ℕ) (cells : List Cell) (at : ℕ) (begun : Begun) (first last line : ℕ) → bytes ≡ bytes_of cells → at < length cells
    → Unclosed ≡ piece_at language (progress_of begun) (drop at bytes) → option_map range_and_line (slice_get cells at) ≡ Some (first, last, line)
    → ahead language begun (drop at cells) ≡ Err (OpenComment line)
ahead-open language bytes cells at begun first last line text within is place =
    ahead-by language begun false (drop at cells) ∙ ap (first_from language begun) (open_at language bytes cells at (progress_of begun) false first last line text within is place)

-- a token

hash_by : (language : Language) (x : Bool) (line : ℕ) (ts : List Tok) → record { is_blank = false; prefix = cond x (Some (prefix_after language line ts)) None } ≡ brief_by language (cond x (Hash line) (Known text_brief)) ts
hash_by language true line ts = refl
hash_by language false line ts = refl

abbrev named : ℕ → List ℕ → Option Operand → Brief
named line name operand = directive (record { line = line; name = Some name; operand = operand })

include_by : (language : Language) (x : Bool) (line : ℕ) (name : List ℕ) (ts : List Tok)
    → named line name (cond x (first_operand ts) None) ≡ brief_by language (cond x (Include line name) (Known (named line name None))) ts
include_by language true line name ts = refl
include_by language false line name ts = refl

abbrev operand : Kind → List ℕ → Operand
operand kind spelling = record { kind = kind; spelling = spelling }

brief_with : (language : Language) (begun : Begun) (space : Bool) (kind : Kind) (n : ℕ) (c : Cell) (cs : List Cell) (ts : List Tok)
    → brief_by language begun (token_of space kind n c cs ∷ ts) ≡ brief_by language (begun_with language begun c.line (operand kind (take n (bytes_of (c ∷ cs))))) ts
brief_with language Nothing space kind n c cs ts = hash_by language (is_hash (take n (bytes_of (c ∷ cs)))) c.line ts
brief_with language (Hash line) space kind n c cs ts =
    include_by language (is_include_name language (take n (bytes_of (c ∷ cs)))) line (take n (bytes_of (c ∷ cs))) ts
brief_with language (Include line name) space kind n c cs ts = refl
brief_with language (Known b) space kind n c cs ts = refl

first-token : (language : Language) (begun : Begun) (space : Bool) (kind : Kind) (n : ℕ) (c : Cell) (cs : List Cell) (rest : Result (List TokenLine) LexFault)
    → first_from language begun (with_piece space (Lexeme kind n) c cs rest) ≡ first_from language (begun_with language begun c.line (operand kind (take n (bytes_of (c ∷ cs))))) rest
first-token language begun space kind n c cs (Err fault) = refl
first-token language begun space kind n c cs (Ok []) = refl
first-token language begun space kind n c cs (Ok (l ∷ ls)) = ap (told ls) (brief_with language begun space kind n c cs l.tokens)

pub skipped-token : (language : Language) (b : Brief) (space : Bool) (kind : Kind) (n : ℕ) (c : Cell) (cs : List Cell) (rest : Result (List TokenLine) LexFault)
    → first_from language (Known b) (with_piece space (Lexeme kind n) c cs rest) ≡ first_from language (Known b) rest
skipped-token language b space kind n c cs rest = first-token language (Known b) space kind n c cs rest

hash_progress : (x : Bool) (line : ℕ) → cond x AfterHash Elsewhere ≡ progress_of (cond x (Hash line) (Known text_brief))
hash_progress true line = refl
hash_progress false line = refl

include_progress : (x : Bool) (line : ℕ) (name : List ℕ) → cond x AfterInclude Elsewhere ≡ progress_of (cond x (Include line name) (Known (named line name None)))
include_progress true line name = refl
include_progress false line name = refl

progress-with : (language : Language) (begun : Begun) (line : ℕ) (o : Operand) → progress_with language (progress_of begun) o.spelling ≡ progress_of (begun_with language begun line o)
progress-with language Nothing line o = hash_progress (is_hash o.spelling) line
progress-with language (Hash hash) line o = include_progress (is_include_name language o.spelling) hash o.spelling
progress-with language (Include hash name) line o = refl
progress-with language (Known b) line o = refl

pub ahead-token : (language : Language) (bytes : List ℕ) (cells : List Cell) (at n : ℕ) (kind : Kind) (begun : Begun) (first last line : ℕ) → bytes ≡ bytes_of cells → at < length cells
    → Lexeme kind n ≡ piece_at language (progress_of begun) (drop at bytes) → 1 ≤ n → option_map range_and_line (slice_get cells at) ≡ Some (first, last, line)
    → ahead language begun (drop at cells) ≡ ahead language (begun_with language begun line (operand kind (take n (drop at bytes)))) (drop (at + n) cells)
ahead-token language bytes cells at n kind begun first last line text within is pos place =
    let cell = cell_at cells at within in
    let c : Cell = cell.0 in
    let cs : List Cell = cell.1 in
    let progress = progress_of begun in
    let piece : piece_at language progress (drop at (bytes_of cells)) ≡ Lexeme kind n = ap (λ t. piece_at language progress (drop at t)) (sym text) ∙ sym is in
    let from = line_at cells at c first last line cell.3 place in
    let on : c.line ≡ line = ap (λ (x : ℕ × ℕ × ℕ). x.2) from in
    let there : drop at bytes ≡ bytes_of (c ∷ cs) = ap (drop at) text ∙ bytes_of-drop at cells ∙ ap bytes_of cell.2 in
    let spelling = take n (drop at bytes) in
    let rest : List Cell = drop (at + n) cells in
    let next : Begun = begun_with language begun line (operand kind spelling) in
    let lines : List ℕ → Result (List TokenLine) LexFault = λ s. lines_from language 0 (progress_with language progress s) false rest in
    ahead-by language begun false (drop at cells)
    ∙ ap (first_from language begun) (at_place language cells at progress false (Lexeme kind n) c cs cell.2 piece pos)
    ∙ ap (λ t. first_from language begun (with_piece false (Lexeme kind n) c cs (lines (take n (drop at t))))) (sym text)
    ∙ first-token language begun false kind n c cs (lines spelling)
    ∙ ap (λ t. first_from language (begun_with language begun c.line (operand kind (take n t))) (lines spelling)) (sym there)
    ∙ ap (λ l. first_from language (begun_with language begun l (operand kind spelling)) (lines spelling)) on
    ∙ ap (λ p. first_from language next (lines_from language 0 p false rest)) (progress-with language begun line (operand kind spelling))
    ∙ sym (ahead-by language next false rest)

pub token_ahead : (language : Language) (bytes : List ℕ) (cells : List Cell) (at n : ℕ) (kind : Kind) (begun : Begun) → bytes ≡ bytes_of cells → at < length cells
    → Lexeme kind n ≡ piece_at language (progress_of begun) (drop at bytes) → 1 ≤ n
    → (line : ℕ) × (ahead language begun (drop at cells) ≡ ahead language (begun_with language begun line (operand kind (take n (drop at bytes)))) (drop (at + n) cells))
token_ahead language bytes cells at n kind begun text within is pos =
    let cell = cell_at cells at within in
    let c : Cell = cell.0 in
    (c.line, ahead-token language bytes cells at n kind begun c.first c.last c.line text within is pos (ap (option_map range_and_line) cell.3))

-- the end of a line

pub first-end : (language : Language) (begun : Begun) (space : Bool) (c : Cell) (cs : List Cell) (rest : Result (List TokenLine) LexFault)
    → first_from language begun (with_piece space NewLine c cs rest) ≡ first_with (brief_by language begun []) rest
first-end language begun space c cs (Err fault) = refl
first-end language begun space c cs (Ok lines) = refl

no_block : (rest : Option ℕ) → option_map_or (λ n. Blank (2 + n)) rest Unclosed ≡ NewLine → ⊥
no_block None is = cc
no_block (Some n) is = cc

no_lexeme : (x : Bool) (k l : Kind) (m n : ℕ) → cond x (Lexeme k m) (Lexeme l n) ≡ NewLine → ⊥
no_lexeme true k l m n is = cc
no_lexeme false k l m n is = cc

no_token : (language : Language) (progress : Progress) (text : List ℕ) → token_at language progress text ≡ NewLine → ⊥
no_token language AtStart text is = cc
no_token language AfterHash text is = cc
no_token language AfterInclude text is = no_lexeme _ _ _ _ _ is
no_token language Elsewhere text is = cc

line_feed : (language : Language) (progress : Progress) (b : ℕ) (bs : List ℕ) → piece_at language progress (b ∷ bs) ≡ NewLine → b ≡ 10
line_feed language progress b bs =
    let text = b ∷ bs in
    let token = token_at language progress (line_part text) in
    let P : Piece → Type 0 = λ p. p ≡ NewLine → b ≡ 10 in
    if_by P (is_blank b) (Blank 1) _ (λ _ is. cc)
    (λ _. if_by P (starts_with nat_eq text (codes "/*")) (block_comment text) _ (λ _ is. absurd (no_block (comment_rest (drop 2 text)) is))
    (λ _. if_by P (starts_with nat_eq text (codes "//")) (line_comment text) _ (λ _ is. cc)
    (λ _. if_by P (b == 10) NewLine token (λ lf is. eqb-true b 10 lf) (λ _ is. absurd (no_token language progress (line_part text) is)))))

ahead-end : (language : Language) (begun : Begun) (c : Cell) (cs : List Cell) → c.byte ≡ 10 → ahead language begun (c ∷ cs) ≡ first_with (brief_by language begun []) (token_lines language cs)
ahead-end language begun c cs is =
    let progress = progress_of begun in
    let piece : piece_at language progress (bytes_of (c ∷ cs)) ≡ NewLine = ap (λ b. piece_at language progress (b ∷ bytes_of cs)) is in
    ahead-by language begun false (c ∷ cs)
    ∙ ap (first_from language begun) (lines_from-piece language progress false c cs NewLine piece (omega arith))
    ∙ first-end language begun false c cs (token_lines language cs)

end_known : (language : Language) (begun : Begun) (cells : List Cell) → piece_at language (progress_of begun) (bytes_of cells) ≡ NewLine → ahead language begun cells ≡ ahead language (Known (brief_by language begun [])) cells
end_known language begun [] is = ahead-nil language begun ∙ sym (ahead-nil language (Known (brief_by language begun [])))
end_known language begun (c ∷ cs) is =
    let lf = line_feed language (progress_of begun) c.byte (bytes_of cs) is in
    ahead-end language begun c cs lf ∙ sym (ahead-end language (Known (brief_by language begun [])) c cs lf)

-- where the line or the text ends, no token is left
pub ahead-known : (language : Language) (bytes : List ℕ) (cells : List Cell) (at : ℕ) (begun : Begun) → bytes ≡ bytes_of cells → NewLine ≡ piece_at language (progress_of begun) (drop at bytes)
    → ahead language begun (drop at cells) ≡ ahead language (Known (brief_by language begun [])) (drop at cells)
ahead-known language bytes cells at begun text is =
    end_known language begun (drop at cells) (ap (piece_at language (progress_of begun)) (sym (ap (drop at) text ∙ bytes_of-drop at cells)) ∙ sym is)

-- there is a line of which this is told

abbrev token : Kind → List ℕ → ℕ → Tok
token kind spelling line = record { kind = kind; spelling = spelling; first = 0; last = 0; line = line; space = false }

pub word_brief : (language : Language) → IsBrief language text_brief
word_brief language = (token Identifier [] 0 ∷ [], refl)

pub null_brief : (language : Language) (line : ℕ) → IsBrief language (directive (record { line = line; name = None; operand = None }))
null_brief language line = (token Punct (codes "#") line ∷ [], refl)

pub name_brief : (language : Language) (line : ℕ) (name : List ℕ) → is_include_name language name ≡ false → IsBrief language (named line name None)
name_brief language line name is = (
  token Punct (codes "#") line ∷ token Identifier name 0 ∷ [],
  ap (λ x. named line name (cond x None None)) is,
)

pub include_brief : (language : Language) (line : ℕ) (name : List ℕ) (o : Option Operand) → is_include_name language name ≡ true → IsBrief language (named line name o)
include_brief language line name None is = (
  token Punct (codes "#") line ∷ token Identifier name 0 ∷ [],
  ap (λ x. named line name (cond x None None)) is,
)
include_brief language line name (Some o) is = (
  token Punct (codes "#") line ∷ token Identifier name 0 ∷ token o.kind o.spelling 0 ∷ [],
  ap (λ x. named line name (cond x (Some o) None)) is,
)

-- a line, once its sketch is known

known_line : (language : Language) (b : Brief) (lines rest : Result (List TokenLine) LexFault) → first_from language Nothing lines ≡ first_with b rest → IsBrief language b
    → (l : TokenLine) × (brief_of language l.tokens ≡ b) × (lines ≡ with_line l rest)
known_line language b (Ok []) (Ok ls) is some = cc
known_line language b (Ok []) (Err fault) is some = cc
known_line language b (Ok (l ∷ ls)) (Ok ls') is some =
    let both : first_line (brief_of language l.tokens) ls ≡ first_line b ls' = cc in
    (l, ap (λ (f : FirstLine). f.brief) both, ap (λ (f : FirstLine). Ok (l ∷ f.rest)) both)
known_line language b (Ok (l ∷ ls)) (Err fault) is some = cc
known_line language b (Err fault) (Ok ls) is some = cc
known_line language b (Err fault) (Err fault') is some =
    let same : fault ≡ fault' = cc in (record { tokens = some.0; last_line = 0 }, some.1, ap (λ (f : LexFault). Err f) same)

no_line : (language : Language) (lines : Result (List TokenLine) LexFault) → first_from language Nothing lines ≡ Ok None → lines ≡ Ok []
no_line language (Ok []) is = refl
no_line language (Ok (l ∷ ls)) is = cc
no_line language (Err fault) is = cc

fault_of : (language : Language) (lines : Result (List TokenLine) LexFault) (fault : LexFault) → first_from language Nothing lines ≡ Err fault → lines ≡ Err fault
fault_of language (Ok []) fault is = cc
fault_of language (Ok (l ∷ ls)) fault is = cc
fault_of language (Err other) fault is = let same : other ≡ fault = cc in ap (λ (f : LexFault). Err f) same

ahead-start : (language : Language) (cells : List Cell) → ahead language Nothing cells ≡ first_from language Nothing (token_lines language cells)
ahead-start language cells = ahead-by language Nothing false cells

pub line_ahead : (language : Language) (b : Brief) (cells : List Cell) (rest : Result (List TokenLine) LexFault) → ahead language Nothing cells ≡ first_with b rest → IsBrief language b
    → (l : TokenLine) × (brief_of language l.tokens ≡ b) × (token_lines language cells ≡ with_line l rest)
line_ahead language b cells rest is some = known_line language b (token_lines language cells) rest (sym (ahead-start language cells) ∙ is) some

pub no_line_ahead : (language : Language) (cells : List Cell) → ahead language Nothing cells ≡ Ok None → token_lines language cells ≡ Ok []
no_line_ahead language cells is = no_line language (token_lines language cells) (sym (ahead-start language cells) ∙ is)

pub fault_ahead : (language : Language) (cells : List Cell) (fault : LexFault) → ahead language Nothing cells ≡ Err fault → token_lines language cells ≡ Err fault
fault_ahead language cells fault is = fault_of language (token_lines language cells) fault (sym (ahead-start language cells) ∙ is)

-- what is known of a line that is there

told_of : (language : Language) (b : Brief) (l : TokenLine) (ls : List TokenLine) (rest : Result (List TokenLine) LexFault) → told ls (brief_of language l.tokens) ≡ first_from language (Known b) rest → brief_of language l.tokens ≡ b
told_of language b l ls (Ok []) is = cc
told_of language b l ls (Ok (m ∷ ms)) is = let both : first_line (brief_of language l.tokens) ls ≡ first_line b ms = cc in ap (λ (f : FirstLine). f.brief) both
told_of language b l ls (Err fault) is = cc

pub brief_there : (language : Language) (b : Brief) (l : TokenLine) (ls : List TokenLine) (cells rest : List Cell) → token_lines language cells ≡ Ok (l ∷ ls) → ahead language Nothing cells ≡ ahead language (Known b) rest → brief_of language l.tokens ≡ b
brief_there language b l ls cells rest lines is =
    told_of language b l ls (lines_from language 0 Elsewhere false rest) (sym (ahead-start language cells ∙ ap (first_from language Nothing) lines) ∙ is ∙ ahead-by language (Known b) false rest)

pub no_fault_there : (language : Language) (l : TokenLine) (ls : List TokenLine) (cells : List Cell) (fault : LexFault) → token_lines language cells ≡ Ok (l ∷ ls) → ahead language Nothing cells ≡ Err fault → ⊥
no_fault_there language l ls cells fault lines is = let no : Ok (l ∷ ls) ≡ Err fault = sym lines ∙ fault_ahead language cells fault is in cc

-- an LF that ends a line, and those after it

newline_line : (c : Cell) (cs : List Cell) (rest : Result (List TokenLine) LexFault) → with_piece false NewLine c cs rest ≡ with_line (record { tokens = []; last_line = c.line }) rest
newline_line c cs (Ok lines) = refl
newline_line c cs (Err fault) = refl

empty_line : (language : Language) (c : Cell) (cs : List Cell) → c.byte ≡ 10 → token_lines language (c ∷ cs) ≡ with_line (record { tokens = []; last_line = c.line }) (token_lines language cs)
empty_line language c cs is =
    let piece : piece_at language AtStart (bytes_of (c ∷ cs)) ≡ NewLine = ap (λ b. piece_at language AtStart (b ∷ bytes_of cs)) is in
    lines_from-piece language AtStart false c cs NewLine piece (omega arith) ∙ newline_line c cs (token_lines language cs)

pub line_feed_piece : (language : Language) (bytes : List ℕ) (at : ℕ) → at < length bytes → get_or bytes at 0 ≡ 10 → NewLine ≡ piece_at language AtStart (drop at bytes)
line_feed_piece language bytes at lt is =
    let head : drop at bytes ≡ 10 ∷ drop (at + 1) bytes = drop_more bytes at 0 lt ∙ ap (λ b. b ∷ drop (at + 1) bytes) is in
    sym (ap (piece_at language AtStart) head)

-- the cell of an LF
feed_at : (bytes : List ℕ) (cells : List Cell) (at end : ℕ) → bytes ≡ bytes_of cells → end ≤ length bytes → at < end → AllWithin (λ b. b ≡ 10) bytes at end
    → (c : Cell) × (c.byte ≡ 10) × (drop at cells ≡ c ∷ drop (at + 1) cells)
feed_at bytes cells at end text within lt all =
    let less : at < length cells = omega (arith, lt, within, ap length text, length-map cells (λ (c : Cell). c.byte)) in
    let cell = cell_at cells at less in
    let c : Cell = cell.0 in
    let rest : cell.1 ≡ drop (at + 1) cells = drop-one 0 c cell.1 ∙ ap (drop 1) (sym cell.2) ∙ drop-drop 1 at cells in
    let here : at + 0 ≡ at = omega arith in
    let there : drop at bytes ≡ c.byte ∷ bytes_of cell.1 = ap (drop at) text ∙ bytes_of-drop at cells ∙ ap bytes_of cell.2 in
    let byte : c.byte ≡ get_or bytes at 0 = sym (ap (λ t. get_or t 0 0) there) ∙ get_or-drop at bytes 0 0 ∙ ap (λ k. get_or bytes k 0) here in
    (c, byte ∙ all at 0 (omega arith) lt, cell.2 ∙ ap (λ cs. c ∷ cs) rest)

-- so many of them end as many empty lines
pub empty_lines : (language : Language) (bytes : List ℕ) (cells : List Cell) (n at : ℕ) → bytes ≡ bytes_of cells → at + n ≤ length bytes → AllWithin (λ b. b ≡ 10) bytes at (at + n)
    → (ls : List TokenLine) × (length ls ≡ n) × All (λ (l : TokenLine). l.tokens ≡ []) ls × (token_lines language (drop at cells) ≡ before ls (token_lines language (drop (at + n) cells)))
empty_lines language bytes cells zero at text within all =
    let here : at + 0 ≡ at = omega arith in
    ([], refl, All-nil (λ (l : TokenLine). l.tokens ≡ []), sym (ap (λ k. before [] (token_lines language (drop k cells))) here ∙ before-none (token_lines language (drop at cells))))
empty_lines language bytes cells (suc n) at text within all =
    let c = feed_at bytes cells at (at + suc n) text within (omega arith) all in
    let next : at + 1 + n ≡ at + suc n = omega arith in
    let more = empty_lines language bytes cells n (at + 1) text (omega (arith, within)) (λ i d low high. all i d (omega (arith, low)) (omega (arith, high))) in
    let l : TokenLine = record { tokens = []; last_line = c.0.line } in (
      l ∷ more.0,
      ap suc more.1,
      All-cons (λ (k : TokenLine). k.tokens ≡ []) l more.0 refl more.2,
      ap (token_lines language) c.2 ∙ empty_line language c.0 (drop (at + 1) cells) c.1 ∙ ap (with_line l) more.3 ∙ before-first l more.0 (token_lines language (drop (at + 1 + n) cells))
          ∙ ap (λ k. before (l ∷ more.0) (token_lines language (drop k cells))) next,
    )

-- the first of them ends the line of which something is known
pub line_feeds_over : (language : Language) (bytes : List ℕ) (cells : List Cell) (n at : ℕ) (b : Brief) → bytes ≡ bytes_of cells → at + suc n ≤ length bytes → AllWithin (λ x. x ≡ 10) bytes at (at + suc n)
    → ahead language (Known b) (drop at cells) ≡ first_with b (token_lines language (drop (at + 1) cells))
line_feeds_over language bytes cells n at b text within all =
    let c = feed_at bytes cells at (at + suc n) text within (omega arith) all in
    ap (ahead language (Known b)) c.2 ∙ ahead-end language (Known b) c.0 (drop (at + 1) cells) c.1
