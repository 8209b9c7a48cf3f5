-- The definitions of what `why`, `who` and `graph` print leave one text.
use Rattle.std.proofs.Common.{◌≡◌, ℕ, Bool, List, Option, Result, Ok, Err, sym, ap, ◌∙◌, subst}
use Rattle.inc_graph.specs.declared.building.Source.{Source}
use Rattle.inc_answers.specs.Terms.{Question, is_whole, setting_in}
use Rattle.inc_lookup.specs.Projects.{Layout, Listing, layout_of}
use Rattle.inc_graph.specs.IncludeGraph.{Graph}
use Rattle.inc_graph.specs.declared.building.GraphRefusal.{GraphRefusal}
use Rattle.inc_graph.specs.declared.building.GraphRefusal.TheVariants as graph
use Rattle.inc_graph.specs.Reaching.{Reaching}
use Rattle.inc_graph.proofs.OneAnswer.{one_graph, one_shortest, one_by_last, one_reaching}
use Rattle.inc_answers.specs.GraphText.{IsGraphOf, IsGraph}
use Rattle.inc_answers.specs.NamedFiles.{headers_at, sources_at}
use Rattle.inc_answers.specs.Questions.{WithFiles, IsRefusalOf, OfGraph, WithGraph}
use Rattle.inc_answers.specs.Printed.{Printed}
use Rattle.inc_answers.specs.Strictness.{Strict, strays_of}
use Rattle.inc_answers.specs.WhoText.{who_printed, IsWhoOf, IsWho}
use Rattle.inc_answers.specs.WhyText.{why_printed, IsWhyOf, IsWhy}
use Rattle.inc_answers.proofs.StrictLemmas.{one_unless}

one_why_of : (whole fails : Bool) (most : Option ℕ) (layout : Layout) (g : Graph) (p q : Printed) → IsWhyOf whole fails most layout g p → IsWhyOf whole fails most layout g q → p ≡ q
one_why_of whole fails most layout g p q h k =
    let shortest : h.0 ≡ k.0 = one_shortest g h.0 k.0 h.2 k.2 in
    let chains : h.1 ≡ k.1 = one_by_last g 0 h.1 k.1 h.3 k.3 in
    h.4 ∙ ap (λ (s : Option (List ℕ)). why_printed whole fails most layout g s h.1) shortest
    ∙ ap (λ (cs : List (List ℕ)). why_printed whole fails most layout g k.0 cs) chains ∙ sym k.4

one_refusal : (layout : Layout) (fault : GraphRefusal) (p q : Printed) → IsRefusalOf layout fault p → IsRefusalOf layout fault q → p ≡ q
one_refusal layout (graph.BadFile file fault) p q h k = h ∙ sym k
one_refusal layout graph.TooManyDirectives p q h k = h ∙ sym k
one_refusal layout (graph.CannotRead file) p q h k = absurd h
one_refusal layout (graph.FileTooLong file) p q h k = absurd h
one_refusal layout graph.NoMemory p q h k = absurd h

-- where the graph leaves one text, so do the graph and the refusals in its place
pub one_of_graph : (layout : Layout) (Then : Graph → Printed → Type 0) → ((g : Graph) (p q : Printed) → Then g p → Then g q → p ≡ q)
    → (answer : Result Graph GraphRefusal) (p q : Printed) → OfGraph layout answer Then p → OfGraph layout answer Then q → p ≡ q
one_of_graph layout Then one (Ok g) p q h k = one g p q h k
one_of_graph layout Then one (Err fault) p q h k = one_refusal layout fault p q h k

pub one_with_graph : (q : Question) (listing : Listing) (sources : List Source) (headers : List ℕ) (Then : Graph → Printed → Type 0) → ((g : Graph) (p q : Printed) → Then g p → Then g q → p ≡ q)
    → (a b : Printed) → WithGraph q listing sources headers Then a → WithGraph q listing sources headers Then b → a ≡ b
one_with_graph q listing sources headers Then one a b h k =
    let same : h.0 ≡ k.0 = one_graph (setting_in (layout_of listing) q) listing sources headers h.0 k.0 h.1 k.1 in
    one_of_graph (layout_of listing) Then one k.0 a b (subst (λ (answer : Result Graph GraphRefusal). OfGraph (layout_of listing) answer Then a) same h.2) k.2

-- where sources and headers leave one text, so do they and the refusals in their place
pub one_with_files : (layout : Layout) (q : Question) (sources : Result (List Source) ℕ) (headers : Result (List ℕ) ℕ) (Then : List Source → List ℕ → Printed → Type 0) → ((s : List Source) (t : List ℕ) (p q : Printed) → Then s t p → Then s t q → p ≡ q)
    → (a b : Printed) → WithFiles layout q sources headers Then a → WithFiles layout q sources headers Then b → a ≡ b
one_with_files layout q (Err i) headers Then one a b h k = h ∙ sym k
one_with_files layout q (Ok s) (Err i) Then one a b h k = h ∙ sym k
one_with_files layout q (Ok s) (Ok t) Then one a b h k = one s t a b h k

pub one_why : (fails : Bool) (most : Option ℕ) (q : Question) (listing : Listing) (a b : Printed) → IsWhy fails most q listing a → IsWhy fails most q listing b → a ≡ b
one_why fails most q listing a b h k =
    one_with_files (layout_of listing) q (sources_at (layout_of listing) q) (headers_at (layout_of listing) q.to)
    (λ s t r. WithGraph q listing s t (Strict (strays_of q) (IsWhyOf (is_whole q) fails most) (layout_of listing)) r)
    (λ s t p2 q2 h2 k2. one_with_graph q listing s t (Strict (strays_of q) (IsWhyOf (is_whole q) fails most) (layout_of listing))
    (λ g p3 q3 h3 k3. one_unless (layout_of listing) (strays_of q g) (IsWhyOf (is_whole q) fails most (layout_of listing) g) p3 q3 (one_why_of (is_whole q) fails most (layout_of listing) g p3 q3) h3 k3) p2 q2 h2 k2)
    a b h k

one_who_of : (whole with_chains fails : Bool) (most : Option ℕ) (layout : Layout) (g : Graph) (p q : Printed) → IsWhoOf whole with_chains fails most layout g p
    → IsWhoOf whole with_chains fails most layout g q → p ≡ q
one_who_of whole with_chains fails most layout g p q h k =
    let sources : h.0 ≡ k.0 = one_reaching g g.sources h.0 k.0 h.2 k.2 in
    let chains : h.1 ≡ k.1 = one_by_last g 0 h.1 k.1 h.3 k.3 in
    h.4 ∙ ap (λ (rs : List Reaching). who_printed whole with_chains fails most layout g rs h.1) sources
    ∙ ap (λ (cs : List (List ℕ)). who_printed whole with_chains fails most layout g k.0 cs) chains ∙ sym k.4

pub one_who : (with_chains fails : Bool) (most : Option ℕ) (q : Question) (listing : Listing) (a b : Printed) → IsWho with_chains fails most q listing a
    → IsWho with_chains fails most q listing b → a ≡ b
one_who with_chains fails most q listing a b h k =
    one_with_files (layout_of listing) q (sources_at (layout_of listing) q) (headers_at (layout_of listing) q.to)
    (λ s t r. WithGraph q listing s t (Strict (strays_of q) (IsWhoOf (is_whole q) with_chains fails most) (layout_of listing)) r)
    (λ s t p2 q2 h2 k2. one_with_graph q listing s t (Strict (strays_of q) (IsWhoOf (is_whole q) with_chains fails most) (layout_of listing))
    (λ g p3 q3 h3 k3. one_unless (layout_of listing) (strays_of q g) (IsWhoOf (is_whole q) with_chains fails most (layout_of listing) g) p3 q3 (one_who_of (is_whole q) with_chains fails most (layout_of listing) g p3 q3) h3 k3) p2 q2 h2 k2)
    a b h k

pub one_edges : (q : Question) (listing : Listing) (a b : Printed) → IsGraph q listing a → IsGraph q listing b → a ≡ b
one_edges q listing a b h k =
    one_with_files (layout_of listing) q (sources_at (layout_of listing) q) (headers_at (layout_of listing) q.to)
    (λ s t r. WithGraph q listing s t (Strict (strays_of q) IsGraphOf (layout_of listing)) r)
    (λ s t p2 q2 h2 k2. one_with_graph q listing s t (Strict (strays_of q) IsGraphOf (layout_of listing))
    (λ g p3 q3 h3 k3. one_unless (layout_of listing) (strays_of q g) (IsGraphOf (layout_of listing) g) p3 q3 (λ h4 k4. h4 ∙ sym k4) h3 k3) p2 q2 h2 k2)
    a b h k
