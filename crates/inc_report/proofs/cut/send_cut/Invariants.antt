use Rattle.std.proofs.Common.{◌≡◌, true, map, take}
use Rattle.std.specs.Prelude.{flat_map}
use Rattle.std.specs.List.{list_all}
use Rattle.inc_check.specs.Certificates.{chain_marks}
use Rattle.inc_check.specs.Texts.{lines_text, chain_lines}
use Rattle.inc_answers.specs.Fitting.{is_fit_chain}
use Rattle.inc_answers.specs.Sending.{Sends}
use Rattle.inc_report.proofs.cut.send_cut.Given as goal

-- the chains so far are sent, and a text can hold them
abbrev pub invariant-loop-index : goal.invariant-loop-index
invariant-loop-index g l =
    Sends l.initial.out l.out
    (flat_map (λ c. lines_text (chain_lines (chain_marks l.project l.graph c))) (take l.index l.chains))
    × (list_all is_fit_chain (map (chain_marks l.project l.graph) (take l.index l.chains)) ≡ true)
