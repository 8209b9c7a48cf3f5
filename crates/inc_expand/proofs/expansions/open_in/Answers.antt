use Rattle.std.proofs.Common.{◌∙◌, ap, ap₂, map, sym}
use Rattle.std.proofs.lemmas.Result.{err_from_is_err_and}
use Rattle.inc_token.specs.Views.{seen}
use Rattle.inc_expand.specs.Cases.{surroundings_value}
use Rattle.inc_expand.specs.Carriers.{carriers}
use Rattle.inc_expand.specs.Expansion.{item_of}
use Rattle.inc_expand.specs.HeldTokens.{seen_ref}
use Rattle.inc_expand.proofs.OpenSteps.{carried-on, of_items, opening-is}
use Rattle.inc_expand.proofs.expansions.open_in.Goals as goal

pub push_all_held-requires : goal.push_all_held-requires
push_all_held-requires c = record { list = c.of_source-list.ensures.known c.new.result }

pub returns-in_err-out-clause-fault : goal.returns-in_err-out-clause-fault
returns-in_err-out-clause-fault c =
    let p = err_from_is_err_and c.from_residual-in_err-out.result c.from_residual-in_err-out.ensures.1 in
    rw (p.1, p.2) (λ other.
    opening-is (surroundings_value c.args.around.now) c.args.budget.now (map seen_ref c.args.waiting.now) (map seen c.args.tokens.now) c.push_all_held.new.sets c.push_all_held.new.list
    (carried-on c.new.result c.push_all_held.new.sets (map seen_ref c.args.waiting.now) (map seen c.args.tokens.now) _ _ c.in_ok-push_all_held.ensures.list (c.of_source-list.ensures.tokens c.new.result)) _ (c.in_err-out.ensures.fault other))

pub returns-clause-items : goal.returns-clause-items
returns-clause-items c =
    opening-is (surroundings_value c.args.around.now) c.args.budget.now (map seen_ref c.args.waiting.now) (map seen c.args.tokens.now) c.push_all_held.new.sets c.push_all_held.new.list
    (carried-on c.new.result c.push_all_held.new.sets (map seen_ref c.args.waiting.now) (map seen c.args.tokens.now) _ _ c.in_ok-push_all_held.ensures.list (c.of_source-list.ensures.tokens c.new.result)) _ c.in_ok-out.ensures.opened
    ∙ ap₂ (of_items c.opened.new.work.meter) (sym (c.in_ok-items.ensures c.opened.new.work.sets ∙ ap (λ ts. map item_of (carriers c.opened.new.work.sets ts)) c.deref.ensures.value)) (sym c.in_ok-call.ensures)
