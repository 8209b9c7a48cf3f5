use Rattle.std.proofs.Common.{Bool, ◌++◌, ◌∷◌, [], ℕ, List, sym, ap, ◌∙◌}
use Rattle.std.specs.Prelude.{if◌then◌else◌}
use Rattle.inc_check.specs.Texts.{is_open}
use Rattle.inc_check.proofs.writing.ended_lines.Goals as goal

pub returns : goal.returns
returns c =
    c.in_ok-end_last.ensures ∙ ap (λ (b : Bool). if b then c.args.text.items ++ 10 ∷ [] else c.args.text.items) (c.is_open-is_last_open.ensures ∙ ap is_open c.deref.ensures.value)
    ∙ ap (λ (l : List ℕ). if is_open c.args.text.items then l ++ 10 ∷ [] else l) (sym c.requires)
