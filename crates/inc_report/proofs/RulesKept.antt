-- Rules that hold in a graph are kept by every preprocessing of its sources.
use Rattle.std.proofs.Common.{◌≡◌, ◌≢◌, ◌∙◌, ℕ, ◌<◌, ◌+◌, ◌≤◌, ◌==◌, ◌&&◌, ◌||◌, not, Bool, true, false, List, [], ◌∷◌, Option, None, Ok, Result, ap, arith, cond, inl, inr, length, map, refl, subst, sym}
use Rattle.std.specs.Prelude.{Contains, IsTrue, filter, filter_map, flat_map}
use Rattle.std.specs.List.{All}
use Rattle.std.proofs.lemmas.Bool.{both_ways, eq-eqb, eqb-true, false≢true, ne_eqb, or_cases, or_left, or_right}
use Rattle.std.proofs.lemmas.List.Elements.{All-cons, All-nil}
use Rattle.inc_graph.specs.declared.building.Source.{Source}
use Rattle.inc_graph.specs.Between.{between}
use Rattle.inc_graph.specs.Chains.{is_chain}
use Rattle.inc_graph.specs.IncludeGraph.{Graph, IsGraphAnswer, bad_file, directive_count, graph_of_files, inner_files, source_files}
use Rattle.inc_graph.specs.Members.{is_member}
use Rattle.inc_graph.specs.Reaching.{AreReaching, Reaching, alone, no_more, reaches_none}
use Rattle.inc_graph.specs.Settings.{Setting}
use Rattle.inc_graph.proofs.ClosureWalks.{answer_is}
use Rattle.inc_graph.proofs.SourceLemmas.{source_among}
use Rattle.inc_cut.proofs.SideLemmas.{member_range}
use Rattle.inc_lookup.specs.Given.{Given}
use Rattle.inc_lookup.specs.Projects.{Layout, Listing, layout_of, path_at}
use Rattle.inc_lookup.proofs.GivenLemmas.{laid_count}
use Rattle.inc_rules.specs.Judging.{AreJudged, AreReachChains, Judged, across_chains, and_rule, includes, includes_first, is_broken, is_right_file, left_files, no_rule, right_files, whole_chain}
use Rattle.inc_rules.specs.Rules.{Rule, is_left, is_right}
use Rattle.inc_rules.specs.declared.rules.Verb.{Verb}
use Rattle.inc_rules.specs.declared.rules.Verb.TheVariants.{NotReach, NotInclude, Include, IncludeFirst}
use Rattle.inc_answers.specs.NamedFiles.{headers_at}
use Rattle.inc_answers.specs.Printed.{Printed}
use Rattle.inc_answers.specs.Questions.{Answer}
use Rattle.inc_report.specs.RulesHeadline.{KeepsRule, NeverBreaks, RulesAreKept, RulesHeadline, SarifHeadline}
use Rattle.inc_report.specs.RulesSarif.{IsSarifBy, IsSarifOf, sarif_text}
use Rattle.inc_report.specs.RulesText.{IsRulesBy, IsRulesOf, rules_text}
use Rattle.inc_answers.specs.Strictness.{Strict, strays_of}
use Rattle.inc_answers.specs.Terms.{Question, RuleList, setting_in}
use Rattle.inc_answers.proofs.StatedAnswers.{IsTold, stated_other, told_of, unless_told}
use Rattle.inc_report.proofs.KeptOut.{nothing_is_read_without_a_chain, once_define_none}

---- lists

member_cond : (b : Bool) (x y : ℕ) (ys : List ℕ) → is_member x ys ≡ true → is_member x (cond b (y ∷ ys) ys) ≡ true
member_cond true x y ys there = or_right (y == x) (is_member x ys) there
member_cond false x y ys there = there

-- a member that passes a test is one of those that do
member_filter : (p : ℕ → Bool) (x : ℕ) (xs : List ℕ) → is_member x xs ≡ true → p x ≡ true → is_member x (filter p xs) ≡ true
member_filter p x [] there holds = absurd (false≢true there)
member_filter p x (y ∷ ys) there holds =
    elim (or_cases (y == x) (is_member x ys) there) [
      | inl here ↦
          let passes : p y ≡ true = ap p (eqb-true y x here) ∙ holds in
          ap (λ (b : Bool). is_member x (cond b (y ∷ filter p ys) (filter p ys))) passes ∙ or_left (y == x) (is_member x (filter p ys)) here
      | inr later ↦ member_cond (p y) x y (filter p ys) (member_filter p x ys later holds)
    ]

map_none : {X Y : Type 0} (f : X → Y) (xs : List X) → [] ≡ map f xs → xs ≡ []
map_none f [] none = refl
map_none f (x ∷ xs) none = cc

none_broken : (chains : List (List ℕ)) (files : List ℕ) → not ((length chains == 0) && (length files == 0)) ≡ false → chains ≡ []
none_broken [] files holds = refl
none_broken (c ∷ cs) files holds =
    let some : (length (c ∷ cs) == 0) ≡ false = ne_eqb (length (c ∷ cs)) 0 (λ same. omega (arith, same)) in
    absurd (false≢true (sym holds ∙ ap (λ (b : Bool). not (b && (length files == 0))) some))

-- what breaks a rule of a verb
abbrev BreaksBy : Layout → Graph → Rule → Verb → (chains : List (List ℕ)) → (files : List ℕ) → Type 0
BreaksBy layout g r verb chains files =
    let left : List ℕ = left_files layout g r in
    elim verb [
      | NotReach ↦ AreReachChains left (right_files layout g r) g chains × (files ≡ [])
      | NotInclude ↦ (chains ≡ flat_map (across_chains layout g r) left) × (files ≡ [])
      | Include ↦ (chains ≡ []) × (files ≡ filter (λ f. not (includes layout g r f)) left)
      | IncludeFirst ↦ (chains ≡ []) × (files ≡ filter (λ f. not (includes_first layout g r f)) left)
    ]

---- a graph without a chain

-- where no source reaches a header, no chain begins at one of them
unreached : (g : Graph) (sources : List ℕ) → AreReaching g sources [] → (s : ℕ) → is_member s sources ≡ true → (chain : List ℕ) → IsTrue (not (is_chain (alone s g) chain))
unreached g [] no_more s there chain = absurd (false≢true there)
unreached g (t ∷ ts) (reaches_none never rest) s there chain =
    elim (or_cases (t == s) (is_member s ts) there) [
      | inl here ↦ subst (λ (x : ℕ). IsTrue (not (is_chain (alone x g) chain))) (eqb-true t s here) (never chain)
      | inr later ↦ unreached g ts rest s later chain
    ]

module _ (q : Question) (listing : Listing) (sources : List Source) (g : Graph) (answer : IsGraphAnswer (setting_in (layout_of listing) q) listing sources [] (Ok g)) where
  abbrev setting : Setting
  setting = setting_in (layout_of listing) q

  abbrev layout : Layout
  layout = layout_of listing

  graph_is : graph_of_files setting listing sources [] answer.0 (inner_files listing answer.0 []) ≡ g
  graph_is =
      answer_is (filter_map (bad_file setting listing) (inner_files listing answer.0 [])) (directive_count setting listing answer.0 (inner_files listing answer.0 []))
      (graph_of_files setting listing sources [] answer.0 (inner_files listing answer.0 [])) g answer.2

  -- the file of a source is one of a graph, and the rule is about it
  among : (r : Rule) (source : Source) → Contains sources source → is_left r (path_at layout source.file) ≡ true → is_member source.file (left_files layout g r) ≡ true
  among r source begins left =
      member_filter (λ f. is_left r (path_at layout f)) source.file g.sources
      (ap (λ (x : Graph). is_member source.file x.sources) (sym graph_is) ∙ source_among sources source.file source.path begins) left

  -- a file of the right side is one
  ends : (r : Rule) (file : ℕ) → file < length layout.paths → is_right r (path_at layout file) ≡ true → is_member file (right_files layout g r) ≡ true
  ends r file low right =
      let many : length listing.files ≡ g.files = ap (λ (x : Graph). x.files) graph_is in
      member_range (is_right_file layout r) file 0 g.files (omega arith) (omega (arith, low, many, laid_count layout listing refl)) right

  module _ (clear : g.blockers ≡ []) where
    never_broken : (r : Rule) → AreReaching (between (left_files layout g r) (right_files layout g r) g) (left_files layout g r) [] → NeverBreaks q listing sources r
    never_broken r none source begins left file low right words settings outcome same defined is =
        nothing_is_read_without_a_chain setting listing sources g answer clear (source.file ∷ []) (right_files layout g r)
        (unreached (between (left_files layout g r) (right_files layout g r) g) (left_files layout g r) none source.file (among r source begins left)) source begins
        (or_left (source.file == source.file) false (eq-eqb source.file source.file refl)) file (ends r file low right) words settings outcome same
        (once_define_none q.language words q.undefined defined) is

    kept_by : (verb : Verb) (j : Judged) → verb ≡ NotReach → BreaksBy layout g j.rule verb j.chains j.files → is_broken j ≡ false → NeverBreaks q listing sources j.rule
    kept_by verb j is breaks holds =
        let by = subst (λ (v : Verb). BreaksBy layout g j.rule v j.chains j.files) is breaks in
        let none = none_broken j.chains j.files holds in
        let empty = map_none (whole_chain (right_files layout g j.rule) g) by.0.0 (sym none ∙ by.0.2) in
        never_broken j.rule (subst (λ (rs : List Reaching). AreReaching (between (left_files layout g j.rule) (right_files layout g j.rule) g) (left_files layout g j.rule) rs) empty by.0.1)

    pub all_kept : (rs : List Rule) (js : List Judged) → AreJudged layout g rs js → All (KeepsRule q listing sources) js
    all_kept [] [] no_rule = All-nil (KeepsRule q listing sources)
    all_kept (r ∷ rs) (j ∷ js) (and_rule breaks more) =
        All-cons (KeepsRule q listing sources) j js (λ is holds. kept_by j.rule.verb j is breaks holds) (all_kept rs js more)
    all_kept [] (j ∷ js) h = elim h [ ]
    all_kept (r ∷ rs) [] h = elim h [ ]

---- what is printed

no_headers : (layout : Layout) (to : Option (List (List ℕ))) (headers : List ℕ) → to ≡ None → headers_at layout to ≡ Ok headers → headers ≡ []
no_headers layout None headers none are = cc
no_headers layout to headers none are = let same : headers_at layout None ≡ Ok headers = sym (ap (headers_at layout) none) ∙ are in cc

pub rules_promised : (q : Question) (rules : List Rule) (listing : Listing) (IsPrinted : Graph → List Judged → Type 0) (Then : Answer) (p : Printed) (t : IsTold Then q listing p) → q.to ≡ None
    → (js : List Judged) → AreJudged (layout_of listing) t.graph rules js → IsPrinted t.graph js → RulesAreKept q rules listing IsPrinted
rules_promised q rules listing IsPrinted Then p t none js are printed =
    let graph_is = subst (λ (hs : List ℕ). IsGraphAnswer (setting_in (layout_of listing) q) listing t.sources hs (Ok t.graph)) (no_headers (layout_of listing) q.to t.headers none t.headers_are) t.graph_is in
    record {
      sources = t.sources;
      sources_are = t.sources_are;
      graph = t.graph;
      graph_is = graph_is;
      judged = js;
      judged_are = are;
      printed = printed;
      kept = λ clear. all_kept q listing t.sources t.graph graph_is clear rules js are;
    }

pub rules_headline : (rules : List Rule) (q : Question) (p : Printed) (given : List Given) (listing : Listing) → IsRulesBy rules q p given listing → RulesHeadline rules q p listing
rules_headline rules q p given listing is none other =
    let stated = stated_other p other in
    let t = told_of (Strict (strays_of q) (IsRulesOf rules)) q listing p stated is.0 in
    let told = unless_told (layout_of listing) (strays_of q t.graph) (IsRulesOf rules (layout_of listing) t.graph) p stated t.told in
    rules_promised q rules listing (λ g js. p.text ≡ rules_text (layout_of listing) g js) (Strict (strays_of q) (IsRulesOf rules)) p t none told.0 told.1 (ap (λ (r : Printed). r.text) told.2)

pub sarif_headline : (list : RuleList) (q : Question) (p : Printed) (given : List Given) (listing : Listing) → IsSarifBy list q p given listing → SarifHeadline list q p listing
sarif_headline list q p given listing is none other =
    let stated = stated_other p other in
    let t = told_of (Strict (strays_of q) (IsSarifOf list)) q listing p stated is.0 in
    let told = unless_told (layout_of listing) (strays_of q t.graph) (IsSarifOf list (layout_of listing) t.graph) p stated t.told in
    rules_promised q list.rules listing (λ g js. p.text ≡ sarif_text list.name (layout_of listing) g js) (Strict (strays_of q) (IsSarifOf list)) p t none told.0 told.1 (ap (λ (r : Printed). r.text) told.2)
