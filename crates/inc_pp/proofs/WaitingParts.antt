-- Tokens whose spellings lie one after the other in one list.
use Rattle.std.proofs.Common.{◌≡◌, ℕ, suc, ◌+◌, ◌<◌, ◌-◌, ◌≤◌, List, [], ◌∷◌, ◌++◌, length, get_or, slice_get, Some, take, drop, refl, subst, ap, ◌∙◌, arith}
use Rattle.std.proofs.lemmas.List.{drop-append-le, take-append-le, take_all, length-append, length-drop}
use Rattle.std.proofs.Math.Seq.{drop-append_seam, drop-cons}
use Rattle.inc_expand.specs.Openings.{Held}
use Rattle.inc_pp.specs.declared.waiting.Part.{Part}
use Rattle.inc_pp.specs.Waiting.{token_of, tokens_in, AreEnds}

-- they begin before the bytes end
pub ends_within : (begin len : ℕ) (ps : List Part) → AreEnds begin len ps → begin ≤ len
ends_within begin len [] ends = let e : begin ≡ len = ends in omega arith
ends_within begin len (p ∷ ps) ends =
    let first : begin ≤ p.end = ends.0 in
    let rest : p.end ≤ len = ends_within p.end len ps ends.1 in
    omega arith

-- bytes after a spelling leave it as it is
part_more : (bytes more : List ℕ) (begin end : ℕ) → begin ≤ end → end ≤ length bytes → take (end - begin) (drop begin (bytes ++ more)) ≡ take (end - begin) (drop begin bytes)
part_more bytes more begin end ordered within =
    let left = length-drop begin bytes in
    ap (take (end - begin)) (drop-append-le begin bytes more (omega arith)) ∙ take-append-le (end - begin) (drop begin bytes) more (omega arith)

-- one more token, whose spelling is put after the others
pub token_pushed : (bytes name : List ℕ) (begin : ℕ) (ps : List Part) (p : Part) → AreEnds begin (length bytes) ps → p.end ≡ length bytes + length name
    → tokens_in (bytes ++ name) begin (ps ++ p ∷ []) ≡ tokens_in bytes begin ps ++ token_of p name ∷ []
token_pushed bytes name begin [] p ends end =
    let at : begin ≡ length bytes = ends in
    let behind : drop begin (bytes ++ name) ≡ name = ap (λ (k : ℕ). drop k (bytes ++ name)) at ∙ drop-append_seam bytes name in
    let own : take (p.end - begin) (drop begin (bytes ++ name)) ≡ name = ap (take (p.end - begin)) behind ∙ take_all (p.end - begin) name (omega arith) in
    ap (λ (n : List ℕ). token_of p n ∷ []) own
token_pushed bytes name begin (q ∷ qs) p ends end =
    let first : begin ≤ q.end = ends.0 in
    let rest : q.end ≤ length bytes = ends_within q.end (length bytes) qs ends.1 in
    ap (λ (n : List ℕ). token_of q n ∷ tokens_in (bytes ++ name) q.end (qs ++ p ∷ [])) (part_more bytes name begin q.end first rest)
    ∙ ap (λ (ts : List Held). token_of q (take (q.end - begin) (drop begin bytes)) ∷ ts) (token_pushed bytes name q.end qs p ends.1 end)

pub end_pushed : (len more begin : ℕ) (ps : List Part) (p : Part) → AreEnds begin len ps → p.end ≡ len + more → AreEnds begin (len + more) (ps ++ p ∷ [])
end_pushed len more begin [] p ends end = let at : begin ≡ len = ends in (omega arith, end)
end_pushed len more begin (q ∷ qs) p ends end = (ends.0, end_pushed len more q.end qs p ends.1 end)

-- there is no token where there is no part
pub none_in : (bytes : List ℕ) (begin : ℕ) (ps : List Part) → tokens_in bytes begin ps ≡ [] → ps ≡ []
none_in bytes begin [] none = refl
none_in bytes begin (p ∷ ps) none = absurd cc

-- the same where bytes and parts are lists of their own
pub parts_pushed : (bytes name all : List ℕ) (ps parts : List Part) (p : Part) → AreEnds 0 (length bytes) ps → all ≡ bytes ++ name → parts ≡ ps ++ p ∷ [] → p.end ≡ length bytes + length name
    → tokens_in all 0 parts ≡ tokens_in bytes 0 ps ++ token_of p name ∷ []
parts_pushed bytes name all ps parts p ends all_is parts_is end =
    ap (λ (bs : List ℕ). tokens_in bs 0 parts) all_is ∙ ap (tokens_in (bytes ++ name) 0) parts_is ∙ token_pushed bytes name 0 ps p ends end

pub are_ends_pushed : (bytes name all : List ℕ) (ps parts : List Part) (p : Part) → AreEnds 0 (length bytes) ps → all ≡ bytes ++ name → parts ≡ ps ++ p ∷ [] → p.end ≡ length bytes + length name
    → AreEnds 0 (length all) parts
are_ends_pushed bytes name all ps parts p ends all_is parts_is end =
    rw all_is (rw parts_is (rw (length-append bytes name) (end_pushed (length bytes) (length name) 0 ps p ends end)))

-- the first spelling does
pub first_within : (len : ℕ) (ps : List Part) (p : Part) → slice_get ps 0 ≡ Some p → AreEnds 0 len ps → p.end ≤ len
first_within len [] p is ends = cc
first_within len (q ∷ qs) p is ends =
    let same : q ≡ p = cc in
    let rest : q.end ≤ len = ends_within q.end len qs ends.1 in
    subst (λ (x : Part). x.end ≤ len) same rest

-- each spelling ends within the bytes
pub end_within : (begin len i : ℕ) (ps : List Part) (d : Part) → i < length ps → AreEnds begin len (drop i ps) → (get_or ps i d).end ≤ len
end_within begin len i ps d there ends =
    let at : AreEnds begin len (get_or ps i d ∷ drop (suc i) ps) = subst (AreEnds begin len) (drop-cons ps i d there) ends in
    ends_within (get_or ps i d).end len (drop (suc i) ps) at.1
