use Rattle.std.proofs.Common.{◌∙◌, List, ℕ, ap, map, sym}
use Rattle.inc_graph.specs.MissingLists.{missing_at}
use Rattle.inc_answers.proofs.StrictLemmas.{none_fit}
use Rattle.inc_answers.proofs.strictness.unfit.Goals as goal

pub returns-in_ok-from_slice-in-Err-Unterminated-clause-left : goal.returns-in_ok-from_slice-in-Err-Unterminated-clause-left
returns-in_ok-from_slice-in-Err-Unterminated-clause-left c =
    let ms = c.args.missing.now in
    ap (λ (l : List ℕ). map (missing_at ms) l) c.in_ok-from_slice-in-Err-Unterminated.ensures.items
    ∙ sym (none_fit c.args.glob.now (map (missing_at ms) c.args.places.now) (c.in-Err-Unterminated.ensures.fault c.in-Err-Unterminated.field-0-is))
