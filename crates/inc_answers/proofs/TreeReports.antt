-- Trees by the sizes of the files that were read, and by those of a listing.
use Rattle.std.proofs.Common.{◌≡◌, ◌∙◌, ℕ, true, List, [], ◌∷◌, ◌++◌, Result, length, refl, sym, ap, ap₂, subst}
use Rattle.std.specs.Prelude.{Contains, flat_map, replicate, slice_index_or}
use Rattle.inc_text.specs.declared.devices.ReadFault.{ReadFault}
use Rattle.inc_lookup.specs.Given.{Given, Agrees, HoldsOfGiven}
use Rattle.inc_lookup.specs.Projects.{Layout, Listing, layout_of}
use Rattle.inc_graph.specs.IncludeGraph.{Graph, IsSound}
use Rattle.inc_graph.proofs.ClosureWalks.{contains_head, contains_tail}
use Rattle.inc_cost.specs.Trees.{forest, is_met, own, tree_of}
use Rattle.inc_cost.specs.declared.trees.Node.{Node}
use Rattle.inc_cost.proofs.SameWeights.{IsMet, total_same}
use Rattle.inc_cost.proofs.TreeFiles.{met_head, met_tail}
use Rattle.inc_cost.proofs.TreeSame.{AreSame, forest_same, tree_met}
use Rattle.inc_answers.specs.FileSizes.{file_sizes, sizes}
use Rattle.inc_answers.specs.Known.{IsKnown}
use Rattle.inc_answers.specs.Printed.{Printed}
use Rattle.inc_answers.specs.Questions.{IsAnswerBy}
use Rattle.inc_answers.specs.Strictness.{Strict, strays_of}
use Rattle.inc_answers.specs.Terms.{Question}
use Rattle.inc_answers.specs.TreeText.{AreTreesBy, AreTreesFor, AreTreesOf, IsTreeText, source_stacks, stack_line, stacks_from, tree_branches, tree_text, way_to}
use Rattle.inc_answers.specs.declared.sized_sources.SizedSources.{SizedSources}
use Rattle.inc_answers.specs.declared.trees.TreeForm.{TreeForm}
use Rattle.inc_answers.specs.declared.trees.TreeForm.TheVariants.{Lines, Folded}
use Rattle.inc_answers.proofs.CostLemmas.{sizes_same}
use Rattle.inc_answers.proofs.StatedAnswers.{IsStated, stated_yes}
use Rattle.inc_answers.proofs.InnerSources.{gave_inner, holds_inner}
use Rattle.inc_answers.proofs.QuestionLemmas.{answer_all}
use Rattle.inc_answers.proofs.StrictLemmas.{unless_all}

---- the same weights of files that are met

module _ (layout : Layout) (weights others : List ℕ) where
  stacks_same : (way : List ℕ) (ns : List Node) → AreSame weights others ns → stacks_from layout weights way ns ≡ stacks_from layout others way ns
  stacks_same way [] same = refl
  stacks_same way (n ∷ ns) same =
      ap₂ (λ (bytes : ℕ) (rest : List ℕ). stack_line layout (way_to way n) bytes ++ rest) (same n.file (met_head n ns))
      (stacks_same (way_to way n) ns (λ f is. same f (met_tail n ns f is)))

  sources_same : (g : Graph) → IsSound g → ((f : ℕ) → IsMet g f → slice_index_or weights f 0 ≡ slice_index_or others f 0) → (sources : List ℕ)
      → ((s : ℕ) → Contains sources s → Contains g.sources s) → flat_map (source_stacks layout g weights) sources ≡ flat_map (source_stacks layout g others) sources
  sources_same g sound same [] among = refl
  sources_same g sound same (s ∷ ss) among =
      ap₂ (λ (xs ys : List ℕ). xs ++ ys) (stacks_same [] (tree_of g s) (λ f is. same f (tree_met g s sound (among s (contains_head s ss)) f is)))
      (sources_same g sound same ss (λ t there. among t (contains_tail s ss t there)))

pub text_same : (form : TreeForm) (layout : Layout) (g : Graph) (weights others : List ℕ) → IsSound g → ((f : ℕ) → IsMet g f → slice_index_or weights f 0 ≡ slice_index_or others f 0)
    → (text : List ℕ) → IsTreeText form weights layout g text → IsTreeText form others layout g text
text_same Lines layout g weights others sound same text t =
    (t.0, total_same g weights others same [] t.0 t.1, t.2 ∙ ap (tree_text layout g t.0) (forest_same g weights others sound same))
text_same Folded layout g weights others sound same text t = t ∙ sources_same layout weights others g sound same g.sources (λ s there. there)

---- the trees of a listing

module _ {S : Type 0} (gives : S → ℕ → Result (List ℕ) ReadFault → S → Type 0) (old new : SizedSources S) (layout : Layout) (q : Question) (graph : Graph) (p : Printed) (n : ℕ)
    (none : old.sizes.items ≡ replicate n 0) (long : n ≡ length layout.paths) (known : IsKnown layout graph)
    (holds : HoldsOfGiven (sizes gives) old new layout (IsAnswerBy (λ l g r. g ≡ graph) q p)) where
  trees_of : IsStated p → (listing : Listing) → layout_of listing ≡ layout → Agrees holds.given listing → (form : TreeForm) → AreTreesFor form new.sizes.items layout graph p → AreTreesOf form listing layout graph p
  trees_of stated listing laid agrees form t =
      (t.0, text_same form layout graph new.sizes.items (file_sizes listing graph.headers) known.sound (sizes_same gives old new layout q graph p n none long known holds stated listing laid agrees) t.0 t.1, t.2)

  -- the answer by the sizes that were noted is that of each listing that agrees
  pub trees_sized : (form : TreeForm) → Strict (strays_of q) (AreTreesFor form new.sizes.items) layout graph p → HoldsOfGiven gives old.sources new.sources layout (AreTreesBy form q p)
  trees_sized form told = record {
    given = holds.given;
    gave = gave_inner gives (sizes gives) (λ (s : SizedSources S). s.sources) (λ older file bytes newer h. h.0) old new holds.given holds.gave;
    witness = holds.witness;
    laid_out = holds.laid_out;
    agrees = holds.agrees;
    every = λ listing laid agrees. (
      answer_all (λ l g r. g ≡ graph) (Strict (strays_of q) (AreTreesOf form listing)) q listing p
          (λ g same. subst (λ (l : Layout). Strict (strays_of q) (AreTreesOf form listing) l g p) (sym laid)
          (subst (λ (k : Graph). Strict (strays_of q) (AreTreesOf form listing) layout k p) (sym same) (here listing laid agrees)))
          (holds.every listing laid agrees).0,
      (holds.every listing laid agrees).1,
    );
  }
    where
      here : (listing : Listing) → layout_of listing ≡ layout → Agrees holds.given listing → Strict (strays_of q) (AreTreesOf form listing) layout graph p
      here listing laid agrees =
          unless_all layout (strays_of q graph) (AreTreesFor form new.sizes.items layout graph) (AreTreesOf form listing layout graph) p
          (λ t. trees_of (stated_yes p (ap (λ (r : Printed). r.end.kind) t.2)) listing laid agrees form t) told

-- where there is no graph
pub trees_no_sized : {S : Type 0} (gives : S → ℕ → Result (List ℕ) ReadFault → S → Type 0) (old new : SizedSources S) (layout : Layout) (q : Question) (form : TreeForm) (p : Printed)
    → HoldsOfGiven (sizes gives) old new layout (IsAnswerBy (λ l g r. ⊥) q p) → HoldsOfGiven gives old.sources new.sources layout (AreTreesBy form q p)
trees_no_sized gives old new layout q form p holds =
    holds_inner gives (sizes gives) (λ s. s.sources) (λ older file bytes newer h. h.0) old new layout (IsAnswerBy (λ l g r. ⊥) q p) (AreTreesBy form q p) holds
    (λ given listing gave laid agrees is. (answer_all (λ l g r. ⊥) (Strict (strays_of q) (AreTreesOf form listing)) q listing p (λ g none. absurd none) is.0, is.1))
