-- The tokens that are left of the line that a walk is on.
use Rattle.std.proofs.Common.{◌≡◌, ℕ, List, [], ◌∷◌, Result, Ok, Err, refl, sym, ap, ◌∙◌}
use Rattle.inc_token.specs.LineEnds.{answer_with}
use Rattle.inc_token.specs.Lexing.{Gives, IsOnLine, first_tokens, line_left, placed, rest_of}
use Rattle.inc_token.specs.TokenLines.{Tok, TokenLine}
use Rattle.inc_token.specs.declared.lexing.Lexer.{Lexer}
use Rattle.inc_token.specs.declared.lexing.PlacedToken.{PlacedToken}
use Rattle.inc_token.specs.declared.lexing.Step.TheVariants.{Token, LineEnd, Blank}
use Rattle.inc_token.specs.declared.lines.LexFault.{LexFault}
use Rattle.inc_token.proofs.LexedLines.{nothing_done}

-- one token less is left, of a line that still ends
record IsLess (t : Tok) (rest after : Result (List TokenLine) LexFault) : Type 0 where
  first : TokenLine
  more : List TokenLine
  there : after ≡ Ok (first ∷ more)
  left : first_tokens rest ≡ t ∷ first_tokens after

is_less : (t : Tok) (k : TokenLine) (ks : List TokenLine) (after : Result (List TokenLine) LexFault) → answer_with [] (t ∷ []) after ≡ Ok (k ∷ ks) → IsLess t (Ok (k ∷ ks)) after
is_less t k ks (Err fault) is = cc
is_less t k ks (Ok []) is = cc
is_less t k ks (Ok (x ∷ xs)) is =
    let same : record { tokens = t ∷ x.tokens; last_line = x.last_line } ≡ k = cc in
    record { first = x; more = xs; there = refl; left = ap (λ (j : TokenLine). j.tokens) (sym same) }

less_of : (t : Tok) (rest after : Result (List TokenLine) LexFault) (k : TokenLine) (ks : List TokenLine) → rest ≡ Ok (k ∷ ks)
    → answer_with [] (t ∷ []) after ≡ answer_with [] [] rest → IsLess t rest after
less_of t rest after k ks are is = rw are (is_less t k ks after (is ∙ nothing_done rest ∙ are))

-- after a token
pub token_less : (l m : Lexer) (t : PlacedToken) → IsOnLine l → Gives l (Token t) m → IsOnLine m × (line_left l ≡ placed l.bytes.now t ∷ line_left m)
token_less l m t h g =
    let less = less_of (placed l.bytes.now t) (rest_of l) (rest_of m) h.line.0 h.line.1 h.line.2 (g.2 [] []) in
    (record { walk = g.0.walk; line = (less.first, less.more, less.there) }, less.left)

-- over white space
pub blank_stays : (l m : Lexer) → IsOnLine l → Gives l Blank m → IsOnLine m × (line_left m ≡ line_left l)
blank_stays l m h g = (record { walk = g.0.walk; line = (h.line.0, h.line.1, g.1 ∙ h.line.2) }, ap first_tokens g.1)

none_there : (line : ℕ) (rest after : Result (List TokenLine) LexFault) → answer_with (record { tokens = []; last_line = line } ∷ []) [] after ≡ rest
    → first_tokens rest ≡ []
none_there line rest (Ok ls) is = ap first_tokens (sym is)
none_there line rest (Err fault) is = ap first_tokens (sym is)

-- at the end of the line
pub none_left : (l m : Lexer) (line : ℕ) → Gives l (LineEnd line) m → line_left l ≡ []
none_left l m line g = none_there line (rest_of l) (rest_of m) (g.1 [] [] ∙ nothing_done (rest_of l))

-- the text does not end on it
pub not_at_end : (l : Lexer) → IsOnLine l → rest_of l ≡ Ok [] → ⊥
not_at_end l h is = let both : Ok [] ≡ Ok (h.line.0 ∷ h.line.1) = sym is ∙ h.line.2 in cc

-- nor has it a fault there
pub not_at_fault : (l : Lexer) (fault : LexFault) → IsOnLine l → rest_of l ≡ Err fault → ⊥
not_at_fault l fault h is = let both : Err fault ≡ Ok (h.line.0 ∷ h.line.1) = sym is ∙ h.line.2 in cc
