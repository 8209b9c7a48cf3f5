use Rattle.inc_answers.proofs.SendingLemmas.{sends_then}
use Rattle.inc_answers.proofs.refusals.send_refusal.Goals as goal

pub returns-in-NoSuchSource : goal.returns-in-NoSuchSource
returns-in-NoSuchSource g c = rw c.in-NoSuchSource.is c.send_line.ensures

pub returns-in-NoSuchHeader : goal.returns-in-NoSuchHeader
returns-in-NoSuchHeader g c = rw c.in-NoSuchHeader.is c.send_line-in-NoSuchHeader.ensures

pub returns-in-BadFile : goal.returns-in-BadFile
returns-in-BadFile g c = rw c.in-BadFile.is (sends_then _ _ _ _ _ c.send_line-in-BadFile.ensures c.send_directive.ensures.sent)

pub returns-in-TooManyDirectives : goal.returns-in-TooManyDirectives
returns-in-TooManyDirectives g c = rw c.in-TooManyDirectives.is c.send_line-in-TooManyDirectives.ensures

pub returns-in-TooLong : goal.returns-in-TooLong
returns-in-TooLong g c = rw c.in-TooLong.is c.send_line-in-TooLong.ensures

pub returns-in-NoSuchDirective : goal.returns-in-NoSuchDirective
returns-in-NoSuchDirective g c = rw c.in-NoSuchDirective.is (sends_then _ _ _ _ _ c.send_line-in-NoSuchDirective.ensures c.send_directive-in-NoSuchDirective.ensures.sent)

pub returns-in-Malformed : goal.returns-in-Malformed
returns-in-Malformed g c = rw c.in-Malformed.is (sends_then _ _ _ _ _ (sends_then _ _ _ _ _ c.send.ensures c.send_number.ensures) c.send-in-Malformed.ensures)

pub returns-in-NoSuchCost : goal.returns-in-NoSuchCost
returns-in-NoSuchCost g c = rw c.in-NoSuchCost.is (sends_then _ _ _ _ _ c.send_line-in-NoSuchCost.ensures c.send_directive-in-NoSuchCost.ensures.sent)

pub returns-in-CostTwice : goal.returns-in-CostTwice
returns-in-CostTwice g c = rw c.in-CostTwice.is (sends_then _ _ _ _ _ c.send_line-in-CostTwice.ensures c.send_directive-in-CostTwice.ensures.sent)

pub returns-in-BadDefinition : goal.returns-in-BadDefinition
returns-in-BadDefinition g c = rw c.in-BadDefinition.is (sends_then _ _ _ _ _ (sends_then _ _ _ _ _ c.send-in-BadDefinition.ensures c.send_point.ensures) c.send-in-BadDefinition-2.ensures)
