-- Lines that a walk goes over from the place on where one of them begins, and the list that their tokens are put into.
use Rattle.inc_text.specs.declared.languages.Language.{Language}
use Rattle.std.proofs.Common.{◌≡◌, ℕ, ◌+◌, ◌-◌, ◌<◌, ◌≤◌, Bool, false, List, [], ◌∷◌, ◌++◌, Some, None, Result, Ok, Err, length, take, refl, sym, ap, ◌∙◌, arith, slice_get}
use Rattle.std.proofs.lemmas.List.{append_assoc, append-nil, length_push}
use Rattle.std.proofs.lemmas.Grind.{flat_map-append}
use Rattle.std.proofs.lemmas.Option.{slice_get_past}
use Rattle.std.proofs.Math.Seq.{take-append_seam}
use Rattle.inc_text.specs.PhaseText.{Cell, bytes_of}
use Rattle.inc_token.specs.LineEnds.{answer_with, with_tokens}
use Rattle.inc_token.specs.LineWalk.{lines_at, spaced_token, spaced_first, tokens_of_lines}
use Rattle.inc_token.specs.Lexing.{Gives, IsWalk, placed, rest_of}
use Rattle.inc_token.specs.TokenLines.{Tok, TokenLine}
use Rattle.inc_token.specs.declared.lines.LexFault.{LexFault}
use Rattle.inc_token.specs.declared.lexing.Lexer.{Lexer}
use Rattle.inc_token.specs.declared.lexing.PlacedToken.{PlacedToken}
use Rattle.inc_token.specs.declared.lexing.Step.TheVariants.{Token, LineEnd, Blank}

-- whether the next token of a line is its first and wanted spaced
abbrev pub next_is_spaced : Bool → List Tok → Bool
next_is_spaced is_spaced [] = is_spaced
next_is_spaced is_spaced (t ∷ ts) = false

spaced_first-more : (is_spaced : Bool) (begun : List Tok) (t : Tok)
    → spaced_first is_spaced (begun ++ t ∷ []) ≡ spaced_first is_spaced begun ++ spaced_token (next_is_spaced is_spaced begun) t ∷ []
spaced_first-more is_spaced [] t = refl
spaced_first-more is_spaced (b ∷ bs) t = refl

not_next : (is_spaced : Bool) (begun : List Tok) (t : Tok) → false ≡ next_is_spaced is_spaced (begun ++ t ∷ [])
not_next is_spaced [] t = refl
not_next is_spaced (b ∷ bs) t = refl

-- a walk from a line on went over some lines, whose tokens are in a list behind others, and began the next
pub record AreTaken (language : Language) (text : List Cell) (at count left : ℕ) (is_spaced is_first : Bool) (before tokens : List Tok) (l : Lexer)
    (done : List TokenLine) (begun : List Tok) : Type 0 where
  pub walk : IsWalk l
  pub same : l.cursor ≡ text
  pub answer : answer_with done begun (rest_of l) ≡ lines_at language text at
  pub listed : tokens ≡ (before ++ tokens_of_lines is_spaced done) ++ spaced_first is_spaced begun
  pub size : length done + left ≡ count
  pub first : is_first ≡ next_is_spaced is_spaced begun
  pub between : left ≡ 0 → begun ≡ []

pub nothing_done : (rest : Result (List TokenLine) LexFault) → answer_with [] [] rest ≡ rest
nothing_done (Err fault) = refl
nothing_done (Ok []) = refl
nothing_done (Ok (l ∷ ls)) = refl

-- before the first token
pub none_taken : (language : Language) (text : List Cell) (at count : ℕ) (is_spaced : Bool) (before : List Tok) (l : Lexer) → IsWalk l → l.cursor ≡ text → rest_of l ≡ lines_at language text at
    → AreTaken language text at count count is_spaced is_spaced before before l [] []
none_taken language text at count is_spaced before l walk same rest = record {
  walk = walk;
  same = same;
  answer = nothing_done (rest_of l) ∙ rest;
  listed = sym (append-nil (before ++ []) ∙ append-nil before);
  size = omega arith;
  first = refl;
  between = λ _. refl;
}

module _ (language : Language) (text : List Cell) (at count : ℕ) (is_spaced : Bool) (before : List Tok) where
  -- with a token more
  pub token_taken : (left : ℕ) (is_first : Bool) (tokens after : List Tok) (l m : Lexer) (done : List TokenLine) (begun : List Tok) (bytes : List ℕ) (t : PlacedToken)
      → AreTaken language text at count left is_spaced is_first before tokens l done begun → Gives l (Token t) m → 0 < left → bytes ≡ bytes_of text
      → after ≡ tokens ++ spaced_token is_first (placed bytes t) ∷ []
      → AreTaken language text at count left is_spaced false before after m done (begun ++ placed bytes t ∷ [])
  token_taken left is_first tokens after l m done begun bytes t h g some are is =
      let own : l.bytes.now ≡ bytes = h.walk.bytes ∙ ap bytes_of h.same ∙ sym are in
      record {
        walk = g.0.walk;
        same = g.0.same ∙ h.same;
        answer = ap (λ (bs : List ℕ). answer_with done (begun ++ placed bs t ∷ []) (rest_of m)) (sym own) ∙ g.2 done begun ∙ h.answer;
        listed = is
            ∙ ap (λ (ts : List Tok). ts ++ spaced_token is_first (placed bytes t) ∷ []) h.listed
            ∙ ap (λ (b : Bool). ((before ++ tokens_of_lines is_spaced done) ++ spaced_first is_spaced begun) ++ spaced_token b (placed bytes t) ∷ []) h.first
            ∙ append_assoc (before ++ tokens_of_lines is_spaced done) (spaced_first is_spaced begun) (spaced_token (next_is_spaced is_spaced begun) (placed bytes t) ∷ [])
            ∙ ap (λ (ts : List Tok). (before ++ tokens_of_lines is_spaced done) ++ ts) (sym (spaced_first-more is_spaced begun (placed bytes t)));
        size = h.size;
        first = not_next is_spaced begun (placed bytes t);
        between = λ none. absurd (omega (arith, some, none));
      }

  -- with the end of a line more
  pub line_taken : (left : ℕ) (is_first : Bool) (tokens : List Tok) (l m : Lexer) (done : List TokenLine) (begun : List Tok) (line : ℕ)
      → AreTaken language text at count left is_spaced is_first before tokens l done begun → Gives l (LineEnd line) m → 0 < left
      → AreTaken language text at count (left - 1) is_spaced is_spaced before tokens m (done ++ record { tokens = begun; last_line = line } ∷ []) []
  line_taken left is_first tokens l m done begun line h g some =
      let k : TokenLine = record { tokens = begun; last_line = line } in
      let T : List TokenLine → List Tok = tokens_of_lines is_spaced in
      let ts : List Tok = spaced_first is_spaced begun in
      record {
        walk = g.0.walk;
        same = g.0.same ∙ h.same;
        answer = g.1 done begun ∙ h.answer;
        listed = h.listed
            ∙ append_assoc before (T done) ts
            ∙ ap (λ (us : List Tok). before ++ (T done ++ us)) (sym (append-nil ts))
            ∙ ap (λ (us : List Tok). before ++ us) (sym (flat_map-append (λ (x : TokenLine). spaced_first is_spaced x.tokens) done (k ∷ [])))
            ∙ sym (append-nil (before ++ T (done ++ k ∷ [])));
        size = omega (arith, h.size, some, length_push done k);
        first = refl;
        between = λ _. refl;
      }

  -- over white space
  pub blank_taken : (left : ℕ) (is_first : Bool) (tokens : List Tok) (l m : Lexer) (done : List TokenLine) (begun : List Tok)
      → AreTaken language text at count left is_spaced is_first before tokens l done begun → Gives l Blank m
      → AreTaken language text at count left is_spaced is_first before tokens m done begun
  blank_taken left is_first tokens l m done begun h g = record {
    walk = g.0.walk;
    same = g.0.same ∙ h.same;
    answer = ap (answer_with done begun) g.1 ∙ h.answer;
    listed = h.listed;
    size = h.size;
    first = h.first;
    between = h.between;
  }

-- the first lines of an answer
first_lines : (done : List TokenLine) (rest : Result (List TokenLine) LexFault) (ls : List TokenLine) → answer_with done [] rest ≡ Ok ls → take (length done) ls ≡ done
first_lines done (Ok lines) ls is =
    let same : done ++ with_tokens [] lines ≡ ls = cc in
    ap (take (length done)) (sym same) ∙ take-append_seam done (with_tokens [] lines)
first_lines done (Err fault) ls is = cc

-- once all of them are taken
pub all_taken : (language : Language) (text : List Cell) (at count : ℕ) (is_spaced is_first : Bool) (before tokens : List Tok) (l : Lexer) (done : List TokenLine) (begun : List Tok) (ls : List TokenLine)
    → AreTaken language text at count 0 is_spaced is_first before tokens l done begun → lines_at language text at ≡ Ok ls
    → tokens ≡ before ++ tokens_of_lines is_spaced (take count ls)
all_taken language text at count is_spaced is_first before tokens l done begun ls h are =
    let none : begun ≡ [] = h.between refl in
    let answer : answer_with done [] (rest_of l) ≡ Ok ls = ap (λ (ts : List Tok). answer_with done ts (rest_of l)) (sym none) ∙ h.answer ∙ are in
    let size : length done ≡ count = omega (arith, h.size) in
    let firsts : done ≡ take count ls = sym (first_lines done (rest_of l) ls answer) ∙ ap (λ n. take n ls) size in
    h.listed
    ∙ ap (λ (ts : List Tok). (before ++ tokens_of_lines is_spaced done) ++ spaced_first is_spaced ts) none
    ∙ append-nil (before ++ tokens_of_lines is_spaced done)
    ∙ ap (λ (ks : List TokenLine). before ++ tokens_of_lines is_spaced ks) firsts

-- the text does not end before
ended : (done : List TokenLine) (begun : List Tok) (ls : List TokenLine) → answer_with done begun (Ok []) ≡ Ok ls → length ls ≡ length done
ended done begun ls is =
    let same : done ++ [] ≡ ls = cc in
    ap length (sym same) ∙ ap length (append-nil done)

pub not_ended : (language : Language) (text : List Cell) (at count left : ℕ) (is_spaced is_first : Bool) (before tokens : List Tok) (l : Lexer) (done : List TokenLine) (begun : List Tok) (ls : List TokenLine)
    → AreTaken language text at count left is_spaced is_first before tokens l done begun → lines_at language text at ≡ Ok ls → count ≤ length ls → 0 < left → rest_of l ≡ Ok [] → ⊥
not_ended language text at count left is_spaced is_first before tokens l done begun ls h are within some end =
    let size = ended done begun ls (ap (answer_with done begun) (sym end) ∙ h.answer ∙ are) in
    omega (arith, size, h.size, within, some)

-- nor has it a fault
pub not_failed : (lines : Result (List TokenLine) LexFault) (done : List TokenLine) (begun : List Tok) (fault : LexFault) (ls : List TokenLine) (rest : Result (List TokenLine) LexFault)
    → answer_with done begun rest ≡ lines → lines ≡ Ok ls → rest ≡ Err fault → ⊥
not_failed lines done begun fault ls rest answer are is =
    let no : Err fault ≡ Ok ls = ap (answer_with done begun) (sym is) ∙ answer ∙ are in cc

-- a walk from a line on is still on that line
pub record IsOn (language : Language) (text : List Cell) (at : ℕ) (l : Lexer) (begun : List Tok) : Type 0 where
  pub walk : IsWalk l
  pub same : l.cursor ≡ text
  pub answer : answer_with [] begun (rest_of l) ≡ lines_at language text at

pub none_on : (language : Language) (text : List Cell) (at : ℕ) (l : Lexer) → IsWalk l → l.cursor ≡ text → rest_of l ≡ lines_at language text at → IsOn language text at l []
none_on language text at l walk same rest = record { walk = walk; same = same; answer = nothing_done (rest_of l) ∙ rest }

pub token_on : (language : Language) (text : List Cell) (at : ℕ) (l m : Lexer) (begun : List Tok) (t : PlacedToken) → IsOn language text at l begun → Gives l (Token t) m → IsOn language text at m (begun ++ placed l.bytes.now t ∷ [])
token_on language text at l m begun t h g = record { walk = g.0.walk; same = g.0.same ∙ h.same; answer = g.2 [] begun ∙ h.answer }

pub blank_on : (language : Language) (text : List Cell) (at : ℕ) (l m : Lexer) (begun : List Tok) → IsOn language text at l begun → Gives l Blank m → IsOn language text at m begun
blank_on language text at l m begun h g = record { walk = g.0.walk; same = g.0.same ∙ h.same; answer = ap (answer_with [] begun) g.1 ∙ h.answer }

end_here : (begun : List Tok) (line : ℕ) (rest : Result (List TokenLine) LexFault) (k : TokenLine) (ks : List TokenLine)
    → answer_with (record { tokens = begun; last_line = line } ∷ []) [] rest ≡ Ok (k ∷ ks) → line ≡ k.last_line
end_here begun line (Err fault) k ks is = cc
end_here begun line (Ok lines) k ks is = let same : record { tokens = begun; last_line = line } ≡ k = cc in ap (λ (j : TokenLine). j.last_line) same

pub line_ends : (language : Language) (text : List Cell) (at line : ℕ) (l m : Lexer) (begun : List Tok) (k : TokenLine) (ks : List TokenLine)
    → IsOn language text at l begun → Gives l (LineEnd line) m → lines_at language text at ≡ Ok (k ∷ ks) → line ≡ k.last_line
line_ends language text at line l m begun k ks h g are = end_here begun line (rest_of m) k ks (g.1 [] begun ∙ h.answer ∙ are)

pub not_over : (language : Language) (text : List Cell) (at : ℕ) (l : Lexer) (begun : List Tok) (k : TokenLine) (ks : List TokenLine)
    → IsOn language text at l begun → lines_at language text at ≡ Ok (k ∷ ks) → rest_of l ≡ Ok [] → ⊥
not_over language text at l begun k ks h are end =
    let no : Ok [] ≡ Ok (k ∷ ks) = ap (answer_with [] begun) (sym end) ∙ h.answer ∙ are in cc

-- and it went over so many tokens of that line
pub record IsBegun (language : Language) (text : List Cell) (at place left : ℕ) (l : Lexer) (begun : List Tok) : Type 0 where
  pub on : IsOn language text at l begun
  pub count : length begun + left ≡ place

pub none_begun : (language : Language) (text : List Cell) (at place : ℕ) (l : Lexer) → IsWalk l → l.cursor ≡ text → rest_of l ≡ lines_at language text at → IsBegun language text at place place l []
none_begun language text at place l walk same rest = record { on = none_on language text at l walk same rest; count = omega arith }

pub token_begun : (language : Language) (text : List Cell) (at place left : ℕ) (l m : Lexer) (begun : List Tok) (t : PlacedToken)
    → IsBegun language text at place left l begun → Gives l (Token t) m → 0 < left → IsBegun language text at place (left - 1) m (begun ++ placed l.bytes.now t ∷ [])
token_begun language text at place left l m begun t h g some =
    record { on = token_on language text at l m begun t h.on g; count = omega (arith, h.count, some, length_push begun (placed l.bytes.now t)) }

pub blank_begun : (language : Language) (text : List Cell) (at place left : ℕ) (l m : Lexer) (begun : List Tok) → IsBegun language text at place left l begun → Gives l Blank m → IsBegun language text at place left m begun
blank_begun language text at place left l m begun h g = record { on = blank_on language text at l m begun h.on g; count = h.count }

at_end : (begun xs : List Tok) (t : Tok) → slice_get ((begun ++ t ∷ []) ++ xs) (length begun) ≡ Some t
at_end [] xs t = refl
at_end (b ∷ bs) xs t = at_end bs xs t

next_token : (begun : List Tok) (t : Tok) (rest : Result (List TokenLine) LexFault) (k : TokenLine) (ks : List TokenLine)
    → answer_with [] (begun ++ t ∷ []) rest ≡ Ok (k ∷ ks) → slice_get k.tokens (length begun) ≡ Some t
next_token begun t (Err fault) k ks is = cc
next_token begun t (Ok []) k ks is = cc
next_token begun t (Ok (x ∷ xs)) k ks is =
    let same : record { tokens = (begun ++ t ∷ []) ++ x.tokens; last_line = x.last_line } ≡ k = cc in
    ap (λ (j : TokenLine). slice_get j.tokens (length begun)) (sym same) ∙ at_end begun x.tokens t

-- the token is there
pub token_there : (language : Language) (text : List Cell) (at place left : ℕ) (l m : Lexer) (begun : List Tok) (bytes : List ℕ) (t : PlacedToken) (k : TokenLine) (ks : List TokenLine)
    → IsBegun language text at place left l begun → Gives l (Token t) m → left ≡ 0 → bytes ≡ bytes_of text → lines_at language text at ≡ Ok (k ∷ ks)
    → Some (placed bytes t) ≡ slice_get k.tokens place
token_there language text at place left l m begun bytes t k ks h g none is are =
    let e : place ≡ length begun = omega (arith, h.count, none) in
    let own : l.bytes.now ≡ bytes = h.on.walk.bytes ∙ ap bytes_of h.on.same ∙ sym is in
    sym (ap (slice_get k.tokens) e ∙ next_token begun (placed l.bytes.now t) (rest_of m) k ks (g.2 [] begun ∙ h.on.answer ∙ are)
    ∙ ap (λ (bs : List ℕ). Some (placed bs t)) own)

begun_all : (begun : List Tok) (line : ℕ) (rest : Result (List TokenLine) LexFault) (k : TokenLine) (ks : List TokenLine)
    → answer_with (record { tokens = begun; last_line = line } ∷ []) [] rest ≡ Ok (k ∷ ks) → k.tokens ≡ begun
begun_all begun line (Err fault) k ks is = cc
begun_all begun line (Ok lines) k ks is = let same : record { tokens = begun; last_line = line } ≡ k = cc in ap (λ (j : TokenLine). j.tokens) (sym same)

-- the line has no more tokens
pub no_token : (language : Language) (text : List Cell) (at place left line : ℕ) (l m : Lexer) (begun : List Tok) (k : TokenLine) (ks : List TokenLine)
    → IsBegun language text at place left l begun → Gives l (LineEnd line) m → lines_at language text at ≡ Ok (k ∷ ks) → None ≡ slice_get k.tokens place
no_token language text at place left line l m begun k ks h g are =
    let all : k.tokens ≡ begun = begun_all begun line (rest_of m) k ks (g.1 [] begun ∙ h.on.answer ∙ are) in
    sym (slice_get_past k.tokens place (omega (arith, h.count, ap length all)))
