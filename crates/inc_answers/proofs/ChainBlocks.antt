-- The chains of a document, one after the other.
use Rattle.std.proofs.Common.{◌≡◌, ℕ, ◌+◌, ◌<◌, List, ◌++◌, drop, get_or, length, ap, sym, ◌∙◌}
use Rattle.std.proofs.lemmas.List.{append_assoc, drop_more}
use Rattle.inc_graph.specs.Cuts.{Counted}
use Rattle.inc_graph.specs.IncludeGraph.{Graph}
use Rattle.inc_answers.specs.CutDocument.{chain_blocks, chains_from}
use Rattle.inc_answers.specs.Documents.{Block}

pub next_chain : (g : Graph) (total : ℕ) (cs : List Counted) (i : ℕ) (x : Counted) (old new all : List Block) → i < length cs → x ≡ get_or cs i x
    → new ≡ old ++ chain_blocks g (i + 1) total x → old ++ chains_from g (i + 1) total (drop i cs) ≡ all
    → new ++ chains_from g (i + 1 + 1) total (drop (i + 1) cs) ≡ all
next_chain g total cs i x old new all low is added so_far =
    let rest = chains_from g (i + 1 + 1) total (drop (i + 1) cs) in
    ap (λ (bs : List Block). bs ++ rest) added ∙ append_assoc old (chain_blocks g (i + 1) total x) rest
    ∙ ap (λ (y : Counted). old ++ (chain_blocks g (i + 1) total y ++ rest)) is
    ∙ ap (λ (ds : List Counted). old ++ chains_from g (i + 1) total ds) (sym (drop_more cs i x low))
    ∙ so_far
