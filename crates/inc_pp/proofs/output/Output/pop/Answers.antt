use Rattle.std.proofs.Common.{◌≡◌, ◌-◌, ◌+◌, ap, ◌∙◌, length, take, arith}
use Rattle.inc_text.specs.Ascii.{line_feed}
use Rattle.inc_pp.specs.Labels.{len_in}
use Rattle.inc_pp.specs.OutTokens.{ended}
use Rattle.inc_pp.proofs.Prints.{popped}
use Rattle.inc_pp.proofs.output.Output.pop.Goals as goal

pub invariant_of-self : goal.invariant_of-self
invariant_of-self c =
    let n : c.end_before-end.result ≡ length c.self.inside.text.items - (len_in c.in-Some.label + 1) = omega (arith, c.end_before-end.ensures, c.len.ensures, c.len-in-Some.ensures) in
    (popped c.self.inside.labels.items c.pop.new.self.items c.in-Some.label c.self.inside.text.items c.end_line.new.text.items c.self.invariant c.in-Some.ensures.items
    (c.end_line.ensures ∙ ap (ended line_feed) (c.truncate.ensures.items ∙ ap (λ i. take i c.self.inside.text.items) n))).0

pub returns-in-Some : goal.returns-in-Some
returns-in-Some c =
    let n : c.end_before-end.result ≡ length c.self.inside.text.items - (len_in c.in-Some.label + 1) = omega (arith, c.end_before-end.ensures, c.len.ensures, c.len-in-Some.ensures) in
    rw (← c.self.view_is) (popped c.self.inside.labels.items c.pop.new.self.items c.in-Some.label c.self.inside.text.items c.end_line.new.text.items c.self.invariant c.in-Some.ensures.items
    (c.end_line.ensures ∙ ap (ended line_feed) (c.truncate.ensures.items ∙ ap (λ i. take i c.self.inside.text.items) n))).1
