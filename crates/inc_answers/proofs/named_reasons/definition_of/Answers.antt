use Rattle.std.proofs.Common.{◌≡◌, ◌∙◌, List, None, Option, Some, false, ap, cond, map, option_map, sym, ℕ}
use Rattle.std.specs.Prelude.{option_and_then}
use Rattle.std.specs.Option.{option_map_or}
use Rattle.inc_directive.specs.KindViews.{seen_kind}
use Rattle.inc_graph.specs.IncludeGraph.{name_in}
use Rattle.inc_macro.specs.Macros.{is_among}
use Rattle.inc_answers.proofs.named_reasons.definition_of.Goals as goal

pub returns-in-Some : goal.returns-in-Some
returns-in-Some c = λ definition are.
    let names = map (λ n. n.now) c.args.undefined.now in
    let is : Some c.in-Some.name.now ≡ name_in (seen_kind c.args.kind) = ap (option_map (λ n. n.now)) (sym c.in-Some.is) ∙ c.name_in.ensures in
    c.definition_among.ensures definition are
    ∙ ap (λ (o : Option (List ℕ)). cond (option_map_or (λ n. is_among n names) o false) (option_and_then definition o) None) is

pub returns-in-None : goal.returns-in-None
returns-in-None c = λ definition are.
    let names = map (λ n. n.now) c.args.undefined.now in
    let is : None ≡ name_in (seen_kind c.args.kind) = ap (option_map (λ n. n.now)) (sym c.in-None.is) ∙ c.name_in.ensures in
    ap (λ (o : Option (List ℕ)). cond (option_map_or (λ n. is_among n names) o false) (option_and_then definition o) None) is
