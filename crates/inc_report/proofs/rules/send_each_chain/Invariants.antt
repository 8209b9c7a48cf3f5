use Rattle.std.proofs.Common.{codes, take}
use Rattle.std.specs.Prelude.{flat_map}
use Rattle.inc_check.specs.Certificates.{marks_of}
use Rattle.inc_answers.specs.MarkTexts.{list_text}
use Rattle.inc_answers.specs.Sending.{Sends}
use Rattle.inc_report.proofs.rules.send_each_chain.Given as goal

-- the chains so far are sent
abbrev pub invariant-loop-chain : goal.invariant-loop-chain
invariant-loop-chain g l = Sends l.initial.out l.out (flat_map (λ c. list_text (codes "chain") (marks_of l.project l.graph c.items)) (take l.chain-index l.chains))
