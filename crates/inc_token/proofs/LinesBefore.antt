-- Lines before an answer.
use Rattle.std.proofs.Common.{◌≡◌, List, [], ◌∷◌, ◌++◌, Result, Ok, Err, refl, sym, ap}
use Rattle.std.proofs.lemmas.List.{append_assoc}
use Rattle.inc_token.specs.LineWalk.{before, with_line}
use Rattle.inc_token.specs.TokenLines.{TokenLine}
use Rattle.inc_token.specs.declared.lines.LexFault.{LexFault}

pub before-none : (r : Result (List TokenLine) LexFault) → before [] r ≡ r
before-none (Ok ls) = refl
before-none (Err fault) = refl

pub before-one : (l : TokenLine) (r : Result (List TokenLine) LexFault) → with_line l r ≡ before (l ∷ []) r
before-one l (Ok ls) = refl
before-one l (Err fault) = refl

pub before-first : (l : TokenLine) (ls : List TokenLine) (r : Result (List TokenLine) LexFault) → with_line l (before ls r) ≡ before (l ∷ ls) r
before-first l ls (Ok ms) = refl
before-first l ls (Err fault) = refl

pub before-more : (ds ls : List TokenLine) (r : Result (List TokenLine) LexFault) → before ds (before ls r) ≡ before (ds ++ ls) r
before-more ds ls (Ok ms) = ap (λ (ks : List TokenLine). Ok ks) (sym (append_assoc ds ls ms))
before-more ds ls (Err fault) = refl
