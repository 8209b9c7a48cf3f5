use Rattle.std.proofs.Common.{◌≡◌, ◌++◌, ◌∷◌, [], take}
use Rattle.std.specs.Prelude.{codes, flat_map}
use Rattle.inc_answers.specs.CostDocument.{header_block}
use Rattle.inc_answers.specs.CostViews.{seen_amounts}
use Rattle.inc_answers.specs.Documents.{Words}
use Rattle.inc_answers.proofs.cost_document.add_headers.Given as goal

-- those so far are added below their line
abbrev pub invariant-loop-header : goal.invariant-loop-header
invariant-loop-header l = l.document ≡ (l.fn.document ++ Words (codes "headers, by what comes in through each alone:") ∷ []) ++ flat_map (header_block l.project (seen_amounts l.brought)) (take l.header-index l.headers)
