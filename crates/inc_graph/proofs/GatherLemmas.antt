-- The lists of a graph: how they grow by one include directive or one file, and what they are of all files.
use Rattle.std.proofs.Common.{◌≡◌, ℕ, ◌+◌, ◌<◌, ◌≤◌, Bool, true, false, cond, None, List, [], ◌∷◌, ◌++◌, Some, length, map, get_or, drop, refl, ap, sym, ◌∙◌, arith}
use Rattle.std.specs.Prelude.{filter, nat_lt}
use Rattle.std.proofs.lemmas.Bool.{lt-ltb, le-ltb}
use Rattle.std.proofs.lemmas.List.{drop_more, map_push, length-map}
use Rattle.inc_directive.specs.declared.files.FileFault.{FileFault}
use Rattle.inc_graph.specs.declared.graphs.Edge as declared
use Rattle.inc_graph.specs.declared.building.GraphRefusal.TheVariants.{BadFile}
use Rattle.inc_graph.specs.FileEntries.{Entry}
use Rattle.inc_graph.specs.declared.building.file_entries.FileState.{FileState}
use Rattle.inc_graph.specs.declared.building.file_entries.FileState.TheVariants.{Unread, Read, Bad}
use Rattle.inc_graph.specs.IncludeGraph.{Edge, Graph, most_directives}
use Rattle.inc_graph.specs.Views.{seen_edge, numbered_from, numbered}
use Rattle.inc_graph.specs.Entries.{seen_state}
use Rattle.inc_graph.specs.GraphLists.{bad_state, bad_states, first_refusal, is_include, size, total, counted, State, with_entries, with_state, with_states}

---- numbers

pub numbered_from_push : (n m : ℕ) (es : List Edge) (e : Edge) → n + length es ≡ m → numbered_from n (es ++ e ∷ []) ≡ numbered_from n es ++ record { id = m; from = e.from; to = e.to; line = e.line } ∷ []
numbered_from_push n m [] e h =
    let same : n ≡ m = omega arith in
    ap (λ k. record { id = k; from = e.from; to = e.to; line = e.line } ∷ []) same
numbered_from_push n m (x ∷ es) e h = ap (◌∷◌ (record { id = n; from = x.from; to = x.to; line = x.line })) (numbered_from_push (n + 1) m es e (omega arith))

pub numbered_push : (items : List declared.Edge) (x : declared.Edge) → items ≡ numbered (map seen_edge items) → x.id ≡ length items → items ++ x ∷ [] ≡ numbered (map seen_edge (items ++ x ∷ []))
numbered_push items x h e =
    rw (map_push seen_edge items x) (
    ap (λ ys. ys ++ x ∷ []) h
    ∙ sym (numbered_from_push 0 x.id (map seen_edge items) (seen_edge x) (omega (arith, length-map items seen_edge))))

---- one file more

drop_states : (states : List State) (i : ℕ) (s : FileState) → i < length states → seen_state s ≡ get_or states i None → drop i states ≡ seen_state s ∷ drop (i + 1) states
drop_states states i s low e =
    drop_more states i None low
    ∙ ap (λ y. y ∷ drop (i + 1) states) (sym e)

lists_step : (defined : ℕ → Bool) (g : Graph) (states : List State) (i : ℕ) (s : FileState) → i < length states → seen_state s ≡ get_or states i None
    → with_states defined g i (drop i states) ≡ with_states defined (with_state defined i g (seen_state s)) (i + 1) (drop (i + 1) states)
lists_step defined g states i s low e = ap (with_states defined g i) (drop_states states i s low e)

total_step : (states : List State) (i : ℕ) (s : FileState) → i < length states → seen_state s ≡ get_or states i None → total (drop i states) ≡ size (seen_state s) + total (drop (i + 1) states)
total_step states i s low e = ap total (drop_states states i s low e)

bad_step : (states : List State) (i : ℕ) (s : FileState) → i < length states → seen_state s ≡ get_or states i None → bad_states i (drop i states) ≡ bad_state i (seen_state s) ++ bad_states (i + 1) (drop (i + 1) states)
bad_step states i s low e = ap (bad_states i) (drop_states states i s low e)

---- a file with include directives

pub lists_read : (defined : ℕ → Bool) (g : Graph) (states : List State) (i : ℕ) (s : FileState) (es : List Entry) → i < length states → seen_state s ≡ get_or states i None → s ≡ Read es
    → with_states defined g i (drop i states) ≡ with_states defined (with_entries defined i g es) (i + 1) (drop (i + 1) states)
lists_read defined g states i s es low e r =
    lists_step defined g states i s low e ∙ ap (λ t. with_states defined (with_state defined i g (seen_state t)) (i + 1) (drop (i + 1) states)) r

pub total_read : (states : List State) (i : ℕ) (s : FileState) (es : List Entry) → i < length states → seen_state s ≡ get_or states i None → s ≡ Read es
    → total (drop i states) ≡ length (filter is_include es) + total (drop (i + 1) states)
total_read states i s es low e r = total_step states i s low e ∙ ap (λ t. size (seen_state t) + total (drop (i + 1) states)) r

---- a file with none

no_lists : (defined : ℕ → Bool) (i : ℕ) (g : Graph) (s : FileState) → ((es : List Entry) → s ≡ Read es → ⊥) → with_state defined i g (seen_state s) ≡ g
no_lists defined i g Unread h = refl
no_lists defined i g (Read es) h = absurd (h es refl)
no_lists defined i g (Bad line) h = refl

no_size : (s : FileState) → ((es : List Entry) → s ≡ Read es → ⊥) → size (seen_state s) ≡ 0
no_size Unread h = refl
no_size (Read es) h = absurd (h es refl)
no_size (Bad line) h = refl

pub lists_past : (defined : ℕ → Bool) (g : Graph) (states : List State) (i : ℕ) (s : FileState) → i < length states → seen_state s ≡ get_or states i None → ((es : List Entry) → s ≡ Read es → ⊥)
    → with_states defined g i (drop i states) ≡ with_states defined g (i + 1) (drop (i + 1) states)
lists_past defined g states i s low e h =
    lists_step defined g states i s low e ∙ ap (λ k. with_states defined k (i + 1) (drop (i + 1) states)) (no_lists defined i g s h)

pub total_past : (states : List State) (i : ℕ) (s : FileState) → i < length states → seen_state s ≡ get_or states i None → ((es : List Entry) → s ≡ Read es → ⊥)
    → total (drop i states) ≡ total (drop (i + 1) states)
total_past states i s low e h = omega (arith, total_step states i s low e, no_size s h)

---- bad files

no_bad : (i : ℕ) (s : FileState) → ((fault : FileFault) → s ≡ Bad fault → ⊥) → bad_state i (seen_state s) ≡ []
no_bad i Unread h = refl
no_bad i (Read es) h = refl
no_bad i (Bad fault) h = absurd (h fault refl)

pub bad_past : (states : List State) (i : ℕ) (s : FileState) → i < length states → seen_state s ≡ get_or states i None → ((fault : FileFault) → s ≡ Bad fault → ⊥)
    → bad_states i (drop i states) ≡ bad_states (i + 1) (drop (i + 1) states)
bad_past states i s low e h = bad_step states i s low e ∙ ap (λ b. b ++ bad_states (i + 1) (drop (i + 1) states)) (no_bad i s h)

pub bad_found : (states : List State) (i : ℕ) (s : FileState) (fault : FileFault) → i < length states → seen_state s ≡ get_or states i None → s ≡ Bad fault
    → first_refusal (bad_states i (drop i states)) ≡ Some (BadFile i fault)
bad_found states i s fault low e b =
    ap first_refusal (bad_step states i s low e ∙ ap (λ t. bad_state i (seen_state t) ++ bad_states (i + 1) (drop (i + 1) states)) b)

-- whether a graph may have so many directives
none_by : (b : Bool) (n : ℕ) → cond b None (Some n) ≡ None → b ≡ true
none_by true n e = refl
none_by false n e = cc

some_by : (b : Bool) (n m : ℕ) → cond b None (Some n) ≡ Some m → b ≡ false
some_by true n m e = cc
some_by false n m e = refl

pub counted_many : (n : ℕ) → most_directives < n → counted n ≡ None
counted_many n many = ap (λ b. cond b None (Some n)) (lt-ltb most_directives n many)

pub counted_few : (n m : ℕ) → m ≡ n → m ≤ most_directives → counted n ≡ Some m
counted_few n m is few = ap (λ b. cond b None (Some n)) (le-ltb most_directives n (omega (arith, few, is))) ∙ ap (λ k. Some k) (sym is)

pub many_counted : (n : ℕ) → counted n ≡ None → nat_lt most_directives n ≡ true
many_counted n e = none_by (nat_lt most_directives n) n e

pub few_counted : (n m : ℕ) → counted n ≡ Some m → nat_lt most_directives n ≡ false
few_counted n m e = some_by (nat_lt most_directives n) n m e
