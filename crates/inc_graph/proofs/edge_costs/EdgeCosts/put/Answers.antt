use Rattle.std.proofs.Common.{◌≡◌, ℕ, true, false, Some, length, get_or, set, refl, sym, ap, ◌∙◌, arith}
use Rattle.std.specs.Prelude.{slice_get}
use Rattle.std.proofs.lemmas.List.{get_or_read_under, length-set}
use Rattle.inc_graph.specs.IncludeGraph.{Edge}
use Rattle.inc_graph.specs.MarkedEdges.{edge_number, names_edge}
use Rattle.inc_graph.proofs.AmountLists.{amounts_set}
use Rattle.inc_graph.proofs.EdgeCostLemmas.{edge_twice, edge_taken, sound_of, of_sound}
use Rattle.inc_graph.proofs.edge_costs.EdgeCosts.put.Goals as goal

pub returns-then-index-clause-taken : goal.returns-then-index-clause-taken
returns-then-index-clause-taken c costs count are =
    let layout = c.args.project.now in
    let g = c.args.graph.now in
    let self = c.args.self.now in
    let i = c.in-Some.edge in
    let given = self.given.items in
    let number = ap (edge_number layout g) (sym c.mark.ensures) ∙ sym c.edge_named.ensures.edge ∙ c.in-Some.is in
    let flag : get_or given i false ≡ true =
    ap (λ (k : ℕ). get_or given k false) (sym c.index.ensures)
    ∙ sym (get_or_read_under given c.index.result (length g.edges) c.index-2.result.now false c.index-2.ensures (omega (arith, c.index.ensures, c.in-Some.ensures.within)) (sym c.requires.fitted.given)) ∙ c.if-index.true in
    edge_twice layout g costs c.args.cost.now self.amounts.items given self.others.keys c.requires.fitted.given (sound_of self.trouble layout g costs self c.requires.sound are) i number c.args.index count flag

pub returns-else-index-clause-fitted : goal.returns-else-index-clause-fitted
returns-else-index-clause-fitted c =
    let self = c.args.self.now in
    record {
      near = c.edge_named.ensures.near;
      entered = c.requires.fitted.entered;
      long = length-set self.amounts.items c.index-else-index-2.result c.amount.result ∙ c.requires.fitted.long;
      within = amounts_set self.amounts.items (set self.amounts.items c.index-else-index-2.result c.amount.result) c.index-else-index-2.result c.amount.result c.amount.ensures.within.1 refl c.requires.fitted.within;
      given = length-set self.given.items c.index-else-index.result true ∙ c.requires.fitted.given;
    }

pub returns-else-index-clause-taken : goal.returns-else-index-clause-taken
returns-else-index-clause-taken c costs count are =
    let layout = c.args.project.now in
    let g = c.args.graph.now in
    let self = c.args.self.now in
    let cost = c.args.cost.now in
    let i = c.in-Some.edge in
    let given = self.given.items in
    let number = ap (edge_number layout g) (sym c.mark.ensures) ∙ sym c.edge_named.ensures.edge in
    let only : (k : ℕ) (e : Edge) → slice_get g.edges k ≡ Some e → names_edge layout cost.mark e ≡ true → edge_number layout g cost.mark ≡ Some k =
    λ k e at named. number ∙ c.edge_named.ensures.only k e at (ap (λ m. names_edge layout m e) c.mark.ensures ∙ named) in
    let flag : get_or given i false ≡ false =
    ap (λ (k : ℕ). get_or given k false) (sym c.index.ensures)
    ∙ sym (get_or_read_under given c.index.result (length g.edges) c.index-2.result.now false c.index-2.ensures (omega (arith, c.index.ensures, c.in-Some.ensures.within)) (sym c.requires.fitted.given)) ∙ c.if-index.false in
    of_sound self.trouble layout g _ _ c.requires.sound
    (edge_taken layout g costs cost self.amounts.items given self.others.keys c.requires.fitted.given (sound_of self.trouble layout g costs self c.requires.sound are) i (number ∙ c.in-Some.is) only flag
    (set given c.index-else-index.result true) (ap (λ (k : ℕ). set given k true) c.index-else-index.ensures)
    (set self.amounts.items c.index-else-index-2.result c.amount.result) (ap (λ (k : ℕ). set self.amounts.items k c.amount.result) c.index-else-index-2.ensures ∙ ap (λ (n : ℕ). set self.amounts.items i n) c.amount.ensures.amount))
