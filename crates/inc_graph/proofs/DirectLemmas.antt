-- Direct include directives that are kept with numbers in place of their headers.
use Rattle.std.proofs.Common.{◌≡◌, ℕ, ◌+◌, ◌<◌, List, [], ◌∷◌, ◌++◌, length, map, filter, true, false, Bool, sym, ap, ◌∙◌}
use Rattle.std.specs.List.{All}
use Rattle.std.proofs.lemmas.Bool.{cond-true, cond-false}
use Rattle.std.proofs.lemmas.List.{append_assoc, map-append}
use Rattle.inc_directive.specs.FileDirectives.{Directive}
use Rattle.inc_graph.specs.HeaderNames.{HeaderName}
use Rattle.inc_graph.specs.Nexts.{Direct, direct_at, directs_from, entry_count, named_direct}
use Rattle.inc_graph.specs.declared.building.directs.KeptDirect.{KeptDirect}
use Rattle.inc_graph.proofs.NumberedNames.{map_agree, name_last, name_more}

-- one with this header
with_name : KeptDirect → HeaderName → Direct
with_name k h = record { index = k.index; header = record { by = k.by; form = h.form; name = h.name } }

-- one more, with a name of its own
pub direct_pushed : (names all : List HeaderName) (ks new : List KeptDirect) (h : HeaderName) (k : KeptDirect) → All (λ (x : KeptDirect). x.header < length names) ks → all ≡ names ++ h ∷ []
    → new ≡ ks ++ k ∷ [] → k.header ≡ length names
    → map (named_direct all) new ≡ map (named_direct names) ks ++ record { index = k.index; header = record { by = k.by; form = h.form; name = h.name } } ∷ []
unfolding with_name
direct_pushed names all ks new h k within all_is new_is last =
    let more = names ++ h ∷ [] in
    ap (λ (ns : List HeaderName). map (named_direct ns) new) all_is ∙ ap (map (named_direct more)) new_is
    ∙ map-append (named_direct more) ks (k ∷ [])
    ∙ ap (λ (ds : List Direct). ds ++ named_direct more k ∷ [])
    (map_agree (named_direct more) (named_direct names) (λ (x : KeptDirect). x.header < length names) (λ x low. ap (λ (n : HeaderName). with_name x n) (name_more names h x.header low)) ks within)
    ∙ ap (λ (n : HeaderName). map (named_direct names) ks ++ with_name k n ∷ []) (name_last names h k.header last)

---- those of a file one by one

-- one that is kept
pub direct_read : (s : Directive → Bool) (left rest : List Directive) (d : Directive) (old new all : List Direct) (i j : ℕ) → left ≡ d ∷ rest → s d ≡ true
    → new ≡ old ++ direct_at i d.kind → j ≡ i + entry_count d.kind → old ++ directs_from i (filter s left) ≡ all → new ++ directs_from j (filter s rest) ≡ all
direct_read s left rest d old new all i j is on more next so_far =
    ap (λ l. l ++ directs_from j (filter s rest)) more
    ∙ ap (λ (n : ℕ). (old ++ direct_at i d.kind) ++ directs_from n (filter s rest)) next
    ∙ append_assoc old (direct_at i d.kind) (directs_from (i + entry_count d.kind) (filter s rest))
    ∙ ap (λ (l : List Directive). old ++ directs_from i l) (sym (ap (filter s) is ∙ cond-true (s d) (d ∷ filter s rest) (filter s rest) on))
    ∙ so_far

-- one that is taken as removed
pub direct_left_out : (s : Directive → Bool) (left rest : List Directive) (d : Directive) (old all : List Direct) (i : ℕ) → left ≡ d ∷ rest → s d ≡ false
    → old ++ directs_from i (filter s left) ≡ all → old ++ directs_from i (filter s rest) ≡ all
direct_left_out s left rest d old all i is off so_far =
    ap (λ (l : List Directive). old ++ directs_from i l) (sym (ap (filter s) is ∙ cond-false (s d) (d ∷ filter s rest) (filter s rest) off)) ∙ so_far
