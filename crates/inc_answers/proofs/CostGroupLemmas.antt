-- The headers of groups, and the smallest cut before them where each edge may be removed.
use Rattle.std.proofs.Common.{◌≡◌, ℕ, zero, suc, ◌+◌, ◌<◌, Bool, true, false, List, [], ◌∷◌, ◌++◌, Option, Some, None, length, take, get_or, map, replicate, set, inl, inr, refl, sym, ap, ◌∙◌, subst, arith, add-one, get_or-set_same, get_or-set_other}
use Rattle.std.specs.Prelude.{◌==◌, ◌&&◌, ◌||◌, not, filter, is_some, nat_lt, option_map, slice_index, slice_index_or, IsTrue}
use Rattle.std.specs.List.{All, list_all, list_any, range_with_len}
use Rattle.std.specs.List.Sorted.{IsStrictlyIncreasing}
use Rattle.std.specs.Bool.{OnTrue}
use Rattle.std.proofs.Math.Seq.{take-suc}
use Rattle.std.proofs.lemmas.Bool.{cases_eq, eq-eqb, ne_eqb, ltb-true, or_right, false≢true}
use Rattle.std.proofs.lemmas.List.Elements.{All-filter, filter_agree}
use Rattle.std.proofs.lemmas.List.Kept.{IsStrictlyIncreasing-filter}
use Rattle.std.proofs.lemmas.List.Folds.{list_any-append}
use Rattle.std.proofs.lemmas.List.FromFn.{get_or-range_with_len, length-range_with_len}
use Rattle.inc_lookup.specs.Projects.{Layout}
use Rattle.inc_graph.specs.Between.{between}
use Rattle.inc_graph.specs.Chains.{IsShortestOrNone, is_chain, is_chain_from}
use Rattle.inc_graph.specs.Cuts.{fixed_by, costs_by, is_editable, IsCheapest, IsFixedChain, IsSeparating, IsSmallest}
use Rattle.inc_graph.specs.IncludeGraph.{Edge, Graph, AreEnds, IsSound}
use Rattle.inc_graph.specs.MarkedEdges.{amounts_by, edge_amount}
use Rattle.inc_graph.specs.Members.{is_member}
use Rattle.inc_graph.specs.declared.graphs.Blocker.{Blocker}
use Rattle.inc_graph.proofs.CertificateLemmas.{fixed_chain_leaves_no_cut}
use Rattle.inc_graph.proofs.Members.{flags_none}
use Rattle.inc_graph.proofs.UnitCosts.{cheapest_of_ones, ones_given}
use Rattle.inc_cost.specs.Costs.{Group}
use Rattle.inc_cost.proofs.Weighing.{range_rises}
use Rattle.inc_answers.specs.CostGroups.{Costed, AreCosted, IsCosted, IsCounted, IsCutBefore, IsCutCount, IsOpen, no_group, and_group, none_fixed, open_files, part_to}
use Rattle.inc_answers.specs.declared.cost_groups.CutCount.{CutCount}
use Rattle.inc_answers.specs.declared.cost_groups.CutCount.TheVariants.{Blocked, Fixed, Smallest}

---- groups

pub one_more : (layout : Layout) (g : Graph) (weights : List ℕ) (x : Group) (c : Costed) {xs : List Group} {cs : List Costed}
    → AreCosted layout g weights xs cs → IsCosted layout g weights x c → AreCosted layout g weights (xs ++ x ∷ []) (cs ++ c ∷ [])
one_more layout g weights x c no_group is = and_group is no_group
one_more layout g weights x c (and_group first rest) is = and_group first (one_more layout g weights x c rest is)

-- the groups so far and one more
pub more_costed : (layout : Layout) (g : Graph) (weights : List ℕ) (xs : List Group) (i : ℕ) (x : Group) (c : Costed) (cs new : List Costed) → i < length xs → x ≡ get_or xs i x
    → new ≡ cs ++ c ∷ [] → AreCosted layout g weights (take i xs) cs → IsCosted layout g weights x c → AreCosted layout g weights (take (i + 1) xs) new
more_costed layout g weights xs i x c cs new low at are so_far is =
    let taken : take (i + 1) xs ≡ take i xs ++ x ∷ [] = ap (λ (n : ℕ). take n xs) (add-one i) ∙ take-suc xs i x low ∙ ap (λ y. take i xs ++ y ∷ []) (sym at) in
    subst (λ (ys : List Group). AreCosted layout g weights ys new) (sym taken)
    (subst (λ (zs : List Costed). AreCosted layout g weights (take i xs ++ x ∷ []) zs) (sym are) (one_more layout g weights x c so_far is))

---- headers

-- files that are no sources, of some that rise
pub kept_within : (g : Graph) (files : List ℕ) (n : ℕ) → g.files ≡ n → All (λ f. f < n) files → All (λ f. f < g.files) (filter (λ f. not (is_member f g.sources)) files)
kept_within g files n same within =
    subst (λ m. All (λ f. f < m) (filter (λ f. not (is_member f g.sources)) files)) (sym same) (All-filter (λ f. not (is_member f g.sources)) (λ f. f < n) files within)

pub kept_rise : (g : Graph) (files : List ℕ) → IsStrictlyIncreasing files → IsStrictlyIncreasing (filter (λ f. not (is_member f g.sources)) files)
kept_rise g files rise = IsStrictlyIncreasing-filter (λ f. not (is_member f g.sources)) files rise

---- a part of the graph

-- there is no chain to no header
any_none : (P : ℕ → Bool) → ((x : ℕ) → P x ≡ false) → (xs : List ℕ) → list_any P xs ≡ false
any_none P none [] = refl
any_none P none (x ∷ xs) = ap (λ b. b || list_any P xs) (none x) ∙ any_none P none xs

pub no_chain : (from : List ℕ) (g : Graph) (chain : List ℕ) → is_chain (between from [] g) chain ≡ true → ⊥
no_chain from g chain real = false≢true (sym (any_none (is_chain_from (between from [] g) chain) (λ x. refl) from) ∙ real)

-- its ends
pub part_ends : (g : Graph) (headers : List ℕ) → IsSound g → All (λ f. f < g.files) headers → IsStrictlyIncreasing headers → 0 < length headers → AreEnds g.files g.sources headers
part_ends g headers sound within rise some = record {
  sources_within = sound.ends.sources_within;
  headers_within = within;
  sources_rise = sound.ends.sources_rise;
  headers_rise = rise;
  some_end = omega (arith, some);
}

pub cut_before : (g : Graph) (headers : List ℕ) (count : CutCount) → 0 < length headers → IsCutCount g headers count → IsCutBefore g headers count
cut_before g [] count some is = absurd (omega (arith, some))
cut_before g (h ∷ hs) count some is = is

---- open files

or_none : (b : Bool) → (b || false) ≡ b
or_none true = refl
or_none false = refl

abbrev open_at : Graph → (headers : List ℕ) → ℕ → Bool
open_at g headers f = list_any (λ (b : Blocker). b.file == f) g.blockers && not (is_member f headers)

-- the files of these directives have a flag, but those that are among others
abbrev pub AreOpen : List Blocker → (among flags : List Bool) → Type 0
AreOpen bs among flags = (f : ℕ) → slice_index_or flags f false ≡ (list_any (λ (b : Blocker). b.file == f) bs && not (slice_index_or among f false))

pub open_none : (count : ℕ) (among flags : List Bool) → flags ≡ replicate count false → AreOpen [] among flags
open_none count among flags is f = flags_none count flags is f

pub open_more : (bs : List Blocker) (i : ℕ) (b : Blocker) (among flags : List Bool) (flag : Bool) → i < length bs → b ≡ get_or bs i b → b.file < length flags → flag ≡ not (slice_index_or among b.file false)
    → AreOpen (take i bs) among flags → AreOpen (take (i + 1) bs) among (set flags b.file flag)
open_more bs i b among flags flag low at within is are f =
    let more : take (i + 1) bs ≡ take i bs ++ b ∷ [] = ap (λ (n : ℕ). take n bs) (add-one i) ∙ take-suc bs i b low ∙ ap (λ x. take i bs ++ x ∷ []) (sym at) in
    let test : Blocker → Bool = λ x. x.file == f in
    let found : list_any test (take (i + 1) bs) ≡ (list_any test (take i bs) || list_any test (b ∷ [])) = ap (list_any test) more ∙ list_any-append test (take i bs) (b ∷ []) in
    elim (cases_eq b.file f) [
      | inl same ↦
          let one : list_any test (b ∷ []) ≡ true = ap (λ c. c || false) (eq-eqb b.file f same) in
          ap (λ (n : ℕ). get_or (set flags b.file flag) n false) (sym same) ∙ get_or-set_same flags b.file flag false within
          ∙ is ∙ ap (λ (n : ℕ). not (slice_index_or among n false)) same
          ∙ sym (ap (λ c. c && not (slice_index_or among f false)) (found ∙ or_right (list_any test (take i bs)) (list_any test (b ∷ [])) one))
      | inr other ↦
          let none : list_any test (b ∷ []) ≡ false = ap (λ c. c || false) (ne_eqb b.file f other) in
          get_or-set_other flags b.file f flag false (λ e. other (sym e)) ∙ are f
          ∙ sym (ap (λ c. c && not (slice_index_or among f false)) (found ∙ ap (λ c. list_any test (take i bs) || c) none ∙ or_none (list_any test (take i bs))))
    ]

pub flagged_open : (g : Graph) (headers : List ℕ) (among flags : List Bool) → ((f : ℕ) → slice_index_or among f false ≡ is_member f headers)
    → ((f : ℕ) → slice_index_or flags f false ≡ (list_any (λ (b : Blocker). b.file == f) g.blockers && not (slice_index_or among f false)))
    → filter (λ f. slice_index_or flags f false) (range_with_len 0 g.files) ≡ open_files g headers
flagged_open g headers among flags are is =
    filter_agree (λ f. slice_index_or flags f false) (open_at g headers)
    (λ f. is f ∙ ap (λ b. list_any (λ (b : Blocker). b.file == f) g.blockers && not b) (are f)) (range_with_len 0 g.files)

---- a way in the part

range_low : (n : ℕ) → All (λ f. f < n) (range_with_len 0 n)
range_low n k d low =
    let long = length-range_with_len 0 n in
    let at : get_or (range_with_len 0 n) k d ≡ 0 + k = get_or-range_with_len 0 n k d (omega (arith, low, long)) in
    omega (arith, at, low, long)

pub open_within : (g : Graph) (headers : List ℕ) → All (λ f. f < g.files) (open_files g headers)
open_within g headers = All-filter (open_at g headers) (λ f. f < g.files) (range_with_len 0 g.files) (range_low g.files)

pub open_rise : (g : Graph) (headers : List ℕ) → IsStrictlyIncreasing (open_files g headers)
open_rise g headers = IsStrictlyIncreasing-filter (open_at g headers) (range_with_len 0 g.files) (range_rises g.files)

-- a shortest chain, or that there is none
pub chain_found : {X : Type 0} (g : Graph) (o : Option X) (f : X → List ℕ) (told : Bool) → told ≡ is_some o → IsShortestOrNone g (option_map f o) → OnTrue told ((chain : List ℕ) × IsTrue (is_chain g chain))
chain_found g None f told is h = subst (λ (b : Bool). OnTrue b ((chain : List ℕ) × IsTrue (is_chain g chain))) (sym is) tt
chain_found g (Some x) f told is h = subst (λ (b : Bool). OnTrue b ((chain : List ℕ) × IsTrue (is_chain g chain))) (sym is) (f x, h.real)

pub none_found : {X : Type 0} (g : Graph) (o : Option X) (f : X → List ℕ) (told : Bool) → told ≡ is_some o → IsShortestOrNone g (option_map f o) → told ≡ false
    → ((chain : List ℕ) × IsTrue (is_chain g chain)) → ⊥
none_found g None f told is h missed way = false≢true (sym (ap (λ (b : Bool). not b) way.1) ∙ h way.0)
none_found g (Some x) f told is h missed way = false≢true (sym missed ∙ is)

pub counted_cut : (g : Graph) (headers : List ℕ) (count : CutCount) → (IsOpen g headers → ⊥) → IsCounted (part_to g headers) count → IsCutCount g headers count
counted_cut g headers Blocked never is = absurd is
counted_cut g headers Fixed never is = (never, is)
counted_cut g headers (Smallest n) never is = (never, is)

---- each edge may be removed

module _ (layout : Layout) (g : Graph) where
  abbrev pub ones : List ℕ
  ones = amounts_by layout g [] [] []

  one_at : (es : List Edge) (i : ℕ) → i < length es → slice_index (map (edge_amount layout [] [] []) es) i ≡ 1
  one_at [] i low = absurd (omega (arith, low))
  one_at (e ∷ es) zero low = refl
  one_at (e ∷ es) (suc i) low = one_at es i (omega (arith, low))

  editable_same : (i : ℕ) → is_editable g (fixed_by ones) i ≡ is_editable g none_fixed i
  editable_same i = by (nat_lt i (length g.edges)) refl
    where
      by : (b : Bool) → nat_lt i (length g.edges) ≡ b → is_editable g (fixed_by ones) i ≡ is_editable g none_fixed i
      by true less =
          ap (λ (n : ℕ). nat_lt i (length g.edges) && not (n == 0)) (one_at g.edges i (ltb-true i (length g.edges) less))
      by false not_less =
          ap (λ b. b && not (fixed_by ones i)) not_less ∙ sym (ap (λ b. b && true) not_less)

  all_same : (set : List ℕ) → list_all (is_editable g (fixed_by ones)) set ≡ list_all (is_editable g none_fixed) set
  all_same [] = refl
  all_same (x ∷ xs) = ap (λ b. b && list_all (is_editable g (fixed_by ones)) xs) (editable_same x) ∙ ap (λ b. is_editable g none_fixed x && b) (all_same xs)

  to_none : (set : List ℕ) → IsSeparating g (fixed_by ones) set → IsSeparating g none_fixed set
  to_none set s = record { editable = sym (all_same set) ∙ s.editable; once = s.once; met = s.met }

  from_none : (set : List ℕ) → IsSeparating g none_fixed set → IsSeparating g (fixed_by ones) set
  from_none set s = record { editable = all_same set ∙ s.editable; once = s.once; met = s.met }

  pub smallest_of_ones : (set : List ℕ) → IsCheapest g (fixed_by ones) (costs_by ones) set → IsSmallest g none_fixed set
  smallest_of_ones set cheapest =
      let each : (_) = λ (i : ℕ) editable. ones_given layout g [] [] [] (λ k d low. absurd (omega (arith, low))) i editable in
      let smallest = (cheapest_of_ones g (fixed_by ones) (costs_by ones) set each).0 cheapest in
      record { separates = to_none set smallest.separates; least = λ other separates. smallest.least other (from_none other separates) }

  pub counted_of : (fixed edges : List ℕ) → fixed ≡ ones → IsCheapest g (fixed_by fixed) (costs_by fixed) edges → IsCounted g (Smallest (length edges))
  counted_of fixed edges are cheapest =
      (edges, smallest_of_ones edges (subst (λ (f : List ℕ). IsCheapest g (fixed_by f) (costs_by f) edges) are cheapest), refl)

  -- where a chain is fixed all the same, nothing separates
  pub none_counted : (fixed chain : List ℕ) → fixed ≡ ones → IsFixedChain g (fixed_by fixed) chain → IsCounted g Fixed
  none_counted fixed chain are held set separates =
      fixed_chain_leaves_no_cut g (fixed_by ones) chain (subst (λ (f : List ℕ). IsFixedChain g (fixed_by f) chain) are held) set (from_none set separates)
