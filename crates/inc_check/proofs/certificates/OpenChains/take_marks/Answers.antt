use Rattle.std.proofs.Common.{◌≡◌, [], ℕ, take, sym, ap, ◌∙◌}
use Rattle.inc_check.proofs.ChainListLemmas.{open_cut, open_cut_where}
use Rattle.inc_check.proofs.certificates.OpenChains.take_marks.Goals as goal

pub returns-then-self-eq0-clause-left : goal.returns-then-self-eq0-clause-left
returns-then-self-eq0-clause-left c =
    let none : c.replace.new.dest.items ≡ [] = ap (λ v. v.items) c.replace.ensures.after ∙ c.new.ensures.items in
    let front : take c.self.inside.begin c.self.inside.marks.items ≡ [] = ap (λ (k : ℕ). take k c.self.inside.marks.items) c.if-self-eq0.true in
    rw (← c.self.view_is) (open_cut c.self.inside.marks.items c.replace.new.dest.items c.self.inside.parts.items c.self.inside.begin c.self.invariant (none ∙ sym front))

pub returns-clause-left : goal.returns-clause-left
returns-clause-left c = rw (← c.self.view_is)
    (open_cut_where c.split_off.result c.self.inside.marks.items c.split_off.new.self.items c.self.inside.parts.items c.self.inside.begin c.self.invariant c.split_off.ensures.items)
