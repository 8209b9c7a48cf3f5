-- Costs, taken one after the other: each edge is looked for once.
use Rattle.std.proofs.Common.{◌≡◌, ℕ, Bool, true, false, List, [], ◌∷◌, ◌++◌, Option, Some, None, length, set, get_or, is_some, refl, sym, ap, ◌∙◌, subst}
use Rattle.std.specs.Prelude.{slice_get, replicate}
use Rattle.std.specs.List.{list_any}
use Rattle.std.proofs.lemmas.List.{map-append, length-map, length-replicate}
use Rattle.indexmap.specs.IndexSet.{insert_key}
use Rattle.inc_lookup.specs.Projects.{Layout}
use Rattle.inc_lookup.proofs.ListingLemmas.{position-none-push, position-none-then, position-some-append}
use Rattle.inc_graph.specs.declared.edge_costs.CostTrouble.{CostTrouble}
use Rattle.inc_graph.specs.declared.edge_costs.CostTrouble.TheVariants.{Nothing, Unknown, Twice}
use Rattle.inc_graph.specs.declared.edge_costs.EdgeCosts.{EdgeCosts}
use Rattle.inc_graph.specs.declared.edge_costs.MarkKey.{MarkKey}
use Rattle.inc_graph.specs.declared.graphs.Edge as declared
use Rattle.inc_graph.specs.Cuts.{are_amounts}
use Rattle.inc_graph.specs.EdgeCosts.{mark_of, AreSound, AreTwice, AreCostsBy, trouble_fault}
use Rattle.inc_graph.specs.IncludeGraph.{Edge, Graph}
use Rattle.inc_graph.specs.Marks.{Mark, Cost}
use Rattle.inc_graph.specs.MarkedEdges.{same_mark, names_edge, edge_number, amount_for, is_unknown, first_unknown, first_repeated, first_fault, marks_of_costs, marks_fault}
use Rattle.inc_graph.specs.Views.{numbered}
use Rattle.inc_graph.proofs.AmountLists.{put_there, put_nowhere, cost_put, ones}
use Rattle.inc_graph.proofs.NamedEdges.{named_known}
use Rattle.inc_graph.proofs.NumberedEdges.{length-numbered_from}
use Rattle.inc_graph.proofs.RepeatedMarks.{same_key, still_repeated, none_repeated, now_repeated, unseen, by_flag, flag_more, by_key, key_more}

-- the lists at first
pub lists_fit : (g : Graph) (ns : List declared.Edge) (amounts : List ℕ) (given : List Bool) → ns ≡ numbered g.edges → amounts ≡ replicate (length ns) 1 → given ≡ replicate (length ns) false
    → (length amounts ≡ length g.edges) × (are_amounts amounts ≡ true) × (length given ≡ length g.edges)
lists_fit g ns amounts given are first fresh =
    let count : length ns ≡ length g.edges = ap (λ (l : List declared.Edge). length l) are ∙ length-numbered_from 0 g.edges in (
      ap (λ (l : List ℕ). length l) first ∙ length-replicate (length ns) 1 ∙ count,
      (ones g ns amounts are first).1,
      ap (λ (l : List Bool). length l) fresh ∙ length-replicate (length ns) false ∙ count,
    )

-- no cost is taken
pub none_taken : (layout : Layout) (g : Graph) (ns : List declared.Edge) (amounts : List ℕ) (given : List Bool) (others : List MarkKey) → ns ≡ numbered g.edges
    → amounts ≡ replicate (length ns) 1 → given ≡ replicate (length ns) false → others ≡ [] → AreSound layout g [] amounts given others
none_taken layout g ns amounts given others are first fresh none = record {
  are = (ones g ns amounts are first).0;
  seen = λ m. unseen (length ns) given others (edge_number layout g m) m fresh none;
  known = refl;
  once = refl;
}

module _ (layout : Layout) (g : Graph) (cs : List Cost) (c : Cost) where
  pushed : marks_of_costs (cs ++ c ∷ []) ≡ marks_of_costs cs ++ c.mark ∷ []
  pushed = map-append (λ (k : Cost). k.mark) cs (c ∷ [])

  ---- marks that name no directive
  pub still_unknown : (i : ℕ) → first_unknown layout g (marks_of_costs cs) ≡ Some i → first_unknown layout g (marks_of_costs (cs ++ c ∷ [])) ≡ Some i
  still_unknown i is = ap (first_unknown layout g) pushed ∙ position-some-append (is_unknown layout g) (marks_of_costs cs) (c.mark ∷ []) i is

  pub still_known : first_unknown layout g (marks_of_costs cs) ≡ None → is_unknown layout g c.mark ≡ false → first_unknown layout g (marks_of_costs (cs ++ c ∷ [])) ≡ None
  still_known none fails = ap (first_unknown layout g) pushed ∙ position-none-push (is_unknown layout g) (marks_of_costs cs) c.mark none fails

  pub now_unknown : (i : ℕ) → length cs ≡ i → first_unknown layout g (marks_of_costs cs) ≡ None → is_unknown layout g c.mark ≡ true → first_unknown layout g (marks_of_costs (cs ++ c ∷ [])) ≡ Some i
  now_unknown i long none passes =
      ap (first_unknown layout g) pushed ∙ position-none-then (is_unknown layout g) (marks_of_costs cs) c.mark [] none passes
      ∙ ap (λ (n : ℕ). Some n) (length-map cs (λ (k : Cost). k.mark) ∙ long)

  ---- marks that come twice
  pub still_twice : (i : ℕ) → AreTwice layout g cs i → is_unknown layout g c.mark ≡ false → AreTwice layout g (cs ++ c ∷ []) i
  still_twice i are fails = record {
    known = still_known are.known fails;
    twice = ap first_repeated pushed ∙ still_repeated (marks_of_costs cs) c.mark i are.twice;
  }

  module _ (amounts : List ℕ) (given : List Bool) (others : List MarkKey) (long : length given ≡ length g.edges) (so_far : AreSound layout g cs amounts given others) where
    now_twice : (i : ℕ) → length cs ≡ i → is_unknown layout g c.mark ≡ false → list_any (same_mark c.mark) (marks_of_costs cs) ≡ true → AreTwice layout g (cs ++ c ∷ []) i
    now_twice i count fails seen = record {
      known = still_known so_far.known fails;
      twice = ap first_repeated pushed ∙ now_repeated (marks_of_costs cs) c.mark so_far.once seen ∙ ap (λ (n : ℕ). Some n) (length-map cs (λ (k : Cost). k.mark) ∙ count);
    }

    once_more : list_any (same_mark c.mark) (marks_of_costs cs) ≡ false → first_repeated (marks_of_costs (cs ++ c ∷ [])) ≡ None
    once_more fresh = ap first_repeated pushed ∙ none_repeated (marks_of_costs cs) c.mark so_far.once fresh

    -- the mark of an edge
    module _ (i : ℕ) (number : edge_number layout g c.mark ≡ Some i) where
      fits : is_unknown layout g c.mark ≡ false
      fits = named_known layout g c.mark (ap is_some number)

      pub edge_twice : (index : ℕ) → length cs ≡ index → get_or given i false ≡ true → AreTwice layout g (cs ++ c ∷ []) index
      edge_twice index count flag = now_twice index count fits (by_flag layout g given others long (marks_of_costs cs) so_far.seen c.mark i number ∙ flag)

      pub edge_taken : ((k : ℕ) (e : Edge) → slice_get g.edges k ≡ Some e → names_edge layout c.mark e ≡ true → edge_number layout g c.mark ≡ Some k)
          → get_or given i false ≡ false → (flags : List Bool) → flags ≡ set given i true → (new : List ℕ) → new ≡ set amounts i c.amount → AreSound layout g (cs ++ c ∷ []) new flags others
      edge_taken only flag flags flagged new put =
          let fresh = by_flag layout g given others long (marks_of_costs cs) so_far.seen c.mark i number ∙ flag in
          record {
            are = cost_put layout cs c g.edges new fresh (put_there layout g c.mark c.amount amounts new (edge_number layout g c.mark) refl only i number put (amount_for layout cs) so_far.are);
            seen = λ m. flag_more layout g given others long (marks_of_costs cs) so_far.seen c.mark i number flags flagged m ∙ ap (list_any (same_mark m)) (sym pushed);
            known = still_known so_far.known fits;
            once = once_more fresh;
          }

    -- a mark that names none
    module _ (k : MarkKey) (of : mark_of k ≡ c.mark) (none : edge_number layout g c.mark ≡ None) (fails : is_unknown layout g c.mark ≡ false) where
      pub key_twice : (index : ℕ) → length cs ≡ index → list_any (same_key k) others ≡ true → AreTwice layout g (cs ++ c ∷ []) index
      key_twice index count found = now_twice index count fails (by_key layout g given others long (marks_of_costs cs) so_far.seen c.mark k of none ∙ found)

      pub key_taken : ((k : ℕ) (e : Edge) → slice_get g.edges k ≡ Some e → names_edge layout c.mark e ≡ true → edge_number layout g c.mark ≡ Some k)
          → (ks : List MarkKey) → list_any (same_key k) others ≡ false → ks ≡ insert_key same_key others k → AreSound layout g (cs ++ c ∷ []) amounts given ks
      key_taken only ks missed put =
          let fresh = by_key layout g given others long (marks_of_costs cs) so_far.seen c.mark k of none ∙ missed in
          record {
            are = cost_put layout cs c g.edges amounts fresh (put_nowhere layout g c.mark c.amount amounts amounts (edge_number layout g c.mark) refl only none refl (amount_for layout cs) so_far.are);
            seen = λ m. key_more layout g given others long (marks_of_costs cs) so_far.seen c.mark k of none ks missed put m ∙ ap (list_any (same_mark m)) (sym pushed);
            known = still_known so_far.known fails;
            once = once_more fresh;
          }

-- by what is wrong so far
pub sound_of : (t : CostTrouble) (layout : Layout) (g : Graph) (cs : List Cost) (c : EdgeCosts) → t ≡ Nothing → AreCostsBy t layout g cs c → AreSound layout g cs c.amounts.items c.given.items c.others.keys
sound_of t layout g cs c is are = subst (λ (u : CostTrouble). AreCostsBy u layout g cs c) is are

pub of_sound : (t : CostTrouble) (layout : Layout) (g : Graph) (cs : List Cost) (c : EdgeCosts) → t ≡ Nothing → AreSound layout g cs c.amounts.items c.given.items c.others.keys → AreCostsBy t layout g cs c
of_sound t layout g cs c is are = subst (λ (u : CostTrouble). AreCostsBy u layout g cs c) (sym is) are

pub twice_of : (t : CostTrouble) (layout : Layout) (g : Graph) (cs : List Cost) (c : EdgeCosts) (i : ℕ) → t ≡ Twice i → AreCostsBy t layout g cs c → AreTwice layout g cs i
twice_of t layout g cs c i is are = subst (λ (u : CostTrouble). AreCostsBy u layout g cs c) is are

pub of_twice : (t : CostTrouble) (layout : Layout) (g : Graph) (cs : List Cost) (c : EdgeCosts) (i : ℕ) → t ≡ Twice i → AreTwice layout g cs i → AreCostsBy t layout g cs c
of_twice t layout g cs c i is are = subst (λ (u : CostTrouble). AreCostsBy u layout g cs c) (sym is) are

-- what the costs say
pub told : (t : CostTrouble) (layout : Layout) (g : Graph) (cs : List Cost) (c : EdgeCosts) (marks : List Mark) → first_unknown layout g marks ≡ None → AreCostsBy t layout g cs c → marks_fault layout g marks cs ≡ trouble_fault t
told Nothing layout g cs c marks known are =
    ap (λ (o : Option ℕ). first_fault o (first_unknown layout g (marks_of_costs cs)) (first_repeated (marks_of_costs cs))) known
    ∙ ap (λ (o : Option ℕ). first_fault None o (first_repeated (marks_of_costs cs))) are.known ∙ ap (first_fault None None) are.once
told (Unknown i) layout g cs c marks known are =
    ap (λ (o : Option ℕ). first_fault o (first_unknown layout g (marks_of_costs cs)) (first_repeated (marks_of_costs cs))) known
    ∙ ap (λ (o : Option ℕ). first_fault None o (first_repeated (marks_of_costs cs))) are
told (Twice i) layout g cs c marks known are =
    ap (λ (o : Option ℕ). first_fault o (first_unknown layout g (marks_of_costs cs)) (first_repeated (marks_of_costs cs))) known
    ∙ ap (λ (o : Option ℕ). first_fault None o (first_repeated (marks_of_costs cs))) are.known ∙ ap (first_fault None None) are.twice

-- a mark of a fixed directive that names none
pub marks_told : (layout : Layout) (g : Graph) (cs : List Cost) (marks : List Mark) (i : ℕ) → first_unknown layout g marks ≡ Some i
    → marks_fault layout g marks cs ≡ first_fault (Some i) (first_unknown layout g (marks_of_costs cs)) (first_repeated (marks_of_costs cs))
marks_told layout g cs marks i is = ap (λ (o : Option ℕ). first_fault o (first_unknown layout g (marks_of_costs cs)) (first_repeated (marks_of_costs cs))) is
