-- Names whose bytes lie in one list.
use Rattle.std.proofs.Common.{◌≡◌, ℕ, ◌+◌, ◌≤◌, List, [], ◌∷◌, ◌++◌, length, take, drop, refl, ap, ◌∙◌, arith}
use Rattle.std.proofs.lemmas.List.{drop-append-le, take-append-le, take_all, length-drop, map-append}
use Rattle.std.proofs.lemmas.List.Elements.{All-head, All-tail}
use Rattle.std.proofs.Math.Seq.{drop-append_seam}
use Rattle.inc_graph.specs.declared.header_names.NamePart.{NamePart}
use Rattle.inc_graph.specs.HeaderNames.{HeaderName, header_of, name_in, names_in, AreParts}

-- bytes after a part leave it as it is
part_more : (bytes more : List ℕ) (begin len : ℕ) → begin + len ≤ length bytes → take len (drop begin (bytes ++ more)) ≡ take len (drop begin bytes)
part_more bytes more begin len within =
    let left = length-drop begin bytes in
    ap (take len) (drop-append-le begin bytes more (omega arith)) ∙ take-append-le len (drop begin bytes) more (omega arith)

names_more : (bytes more : List ℕ) (ps : List NamePart) → AreParts bytes ps → names_in (bytes ++ more) ps ≡ names_in bytes ps
names_more bytes more [] within = refl
names_more bytes more (p ∷ ps) within =
    let first : p.begin + p.len ≤ length bytes = All-head (λ (q : NamePart). q.begin + q.len ≤ length bytes) p ps within in
    ap (λ (n : List ℕ). header_of p.form n ∷ names_in (bytes ++ more) ps) (part_more bytes more p.begin p.len first)
    ∙ ap (λ (ns : List HeaderName). name_in bytes p ∷ ns) (names_more bytes more ps (All-tail (λ (q : NamePart). q.begin + q.len ≤ length bytes) p ps within))

-- one more name, whose bytes are put after the others
pub names_pushed : (bytes name all : List ℕ) (ps parts : List NamePart) (p : NamePart) → AreParts bytes ps → all ≡ bytes ++ name → parts ≡ ps ++ p ∷ [] → p.begin ≡ length bytes → p.len ≡ length name
    → names_in all parts ≡ names_in bytes ps ++ header_of p.form name ∷ []
names_pushed bytes name all ps parts p within all_is parts_is begin len =
    let behind : drop p.begin (bytes ++ name) ≡ name = ap (λ (k : ℕ). drop k (bytes ++ name)) begin ∙ drop-append_seam bytes name in
    let own : take p.len (drop p.begin (bytes ++ name)) ≡ name = ap (take p.len) behind ∙ take_all p.len name (omega arith) in
    ap (λ (bs : List ℕ). names_in bs parts) all_is ∙ ap (names_in (bytes ++ name)) parts_is
    ∙ map-append (name_in (bytes ++ name)) ps (p ∷ [])
    ∙ ap (λ (ns : List HeaderName). ns ++ name_in (bytes ++ name) p ∷ []) (names_more bytes name ps within)
    ∙ ap (λ (n : List ℕ). names_in bytes ps ++ header_of p.form n ∷ []) own
