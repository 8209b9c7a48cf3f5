-- Chains whose marks lie in one list.
use Rattle.std.proofs.Common.{◌≡◌, ℕ, ◌+◌, ◌≤◌, List, [], ◌∷◌, ◌++◌, length, take, drop, refl, sym, ap, ap₂, ◌∙◌, arith}
use Rattle.std.specs.Prelude.{Result, Ok, Err, OnOk}
use Rattle.std.proofs.lemmas.List.{drop-append-le, take-append-le, take_all, take-append-drop, drop_all, length-drop, length-take-le, map-append}
use Rattle.std.proofs.lemmas.List.Elements.{All-head, All-tail, All-weaker}
use Rattle.std.proofs.Math.Seq.{drop-append_seam}
use Rattle.inc_graph.specs.Marks.{Mark}
use Rattle.inc_check.specs.declared.certificates.ChainPart.{ChainPart}
use Rattle.inc_check.specs.declared.certificates.CountedMarks.{CountedMarks}
use Rattle.inc_check.specs.ChainLists.{chain_in, chains_in, AreParts, OpenList, with_mark, without_marks, IsOpen}

-- marks after a part leave it as it is
part_more : (ms more : List Mark) (begin len : ℕ) → begin + len ≤ length ms → take len (drop begin (ms ++ more)) ≡ take len (drop begin ms)
part_more ms more begin len within =
    let left = length-drop begin ms in
    ap (take len) (drop-append-le begin ms more (omega arith)) ∙ take-append-le len (drop begin ms) more (omega arith)

chains_more : (ms more : List Mark) (ps : List ChainPart) → AreParts ms ps → chains_in (ms ++ more) ps ≡ chains_in ms ps
chains_more ms more [] within = refl
chains_more ms more (p ∷ ps) within =
    let first : p.begin + p.len ≤ length ms = All-head (λ (q : ChainPart). q.begin + q.len ≤ length ms) p ps within in
    ap (λ (c : List Mark). record { count = p.count; marks = c } ∷ chains_in (ms ++ more) ps) (part_more ms more p.begin p.len first)
    ∙ ap (λ (cs : List CountedMarks). chain_in ms p ∷ cs) (chains_more ms more ps (All-tail (λ (q : ChainPart). q.begin + q.len ≤ length ms) p ps within))

-- one more chain, whose marks are put after the others
pub chains_pushed : (ms ns all : List Mark) (ps parts : List ChainPart) (p : ChainPart) → AreParts ms ps → all ≡ ms ++ ns → parts ≡ ps ++ p ∷ [] → p.begin ≡ length ms → p.len ≡ length ns
    → chains_in all parts ≡ chains_in ms ps ++ record { count = p.count; marks = ns } ∷ []
chains_pushed ms ns all ps parts p within all_is parts_is begin len =
    let behind : drop p.begin (ms ++ ns) ≡ ns = ap (λ (k : ℕ). drop k (ms ++ ns)) begin ∙ drop-append_seam ms ns in
    let own : take p.len (drop p.begin (ms ++ ns)) ≡ ns = ap (take p.len) behind ∙ take_all p.len ns (omega arith) in
    ap (λ (ks : List Mark). chains_in ks parts) all_is ∙ ap (chains_in (ms ++ ns)) parts_is
    ∙ map-append (chain_in (ms ++ ns)) ps (p ∷ [])
    ∙ ap (λ (cs : List CountedMarks). cs ++ chain_in (ms ++ ns) p ∷ []) (chains_more ms ns ps within)
    ∙ ap (λ (k : List Mark). chains_in ms ps ++ record { count = p.count; marks = k } ∷ []) own

---- chains that are being read

abbrev pub open_list : List Mark → List ChainPart → ℕ → OpenList
open_list ms ps begin = record { chains = chains_in ms ps; marks = drop begin ms }

-- one more mark
pub open_pushed : (ms all : List Mark) (m : Mark) (ps : List ChainPart) (begin : ℕ) → IsOpen ms ps begin → all ≡ ms ++ m ∷ [] → open_list all ps begin ≡ with_mark (open_list ms ps begin) m
open_pushed ms all m ps begin within is =
    let low = within.1 in
    let parts : AreParts ms ps = All-weaker (λ (p : ChainPart). p.begin + p.len ≤ begin) (λ (p : ChainPart). p.begin + p.len ≤ length ms) (λ p e. omega arith) ps within.0 in
    ap (λ (ks : List Mark). open_list ks ps begin) is
    ∙ ap₂ (λ (cs : List CountedMarks) (ks : List Mark). made cs ks) (chains_more ms (m ∷ []) ps parts) (drop-append-le begin ms (m ∷ []) low)
  where
    made : List CountedMarks → List Mark → OpenList
    made cs ks = record { chains = cs; marks = ks }

-- the marks of the next chain left out
pub open_cut : (ms kept : List Mark) (ps : List ChainPart) (begin : ℕ) → IsOpen ms ps begin → kept ≡ take begin ms → open_list kept ps begin ≡ without_marks (open_list ms ps begin)
open_cut ms kept ps begin within is =
    let low = within.1 in
    let size = length-take-le begin ms low in
    let parts : AreParts (take begin ms) ps = All-weaker (λ (p : ChainPart). p.begin + p.len ≤ begin) (λ (p : ChainPart). p.begin + p.len ≤ length (take begin ms)) (λ p e. omega arith) ps within.0 in
    ap (λ (ks : List Mark). open_list ks ps begin) is
    ∙ ap₂ (λ (cs : List CountedMarks) (ks : List Mark). made cs ks)
    (sym (chains_more (take begin ms) (drop begin ms) ps parts) ∙ ap (λ (ks : List Mark). chains_in ks ps) (take-append-drop begin ms)) (drop_all begin (take begin ms) (omega arith))
  where
    made : List CountedMarks → List Mark → OpenList
    made cs ks = record { chains = cs; marks = ks }

-- the same where they are taken out
pub open_cut_where : {X E : Type 0} (r : Result X E) (ms kept : List Mark) (ps : List ChainPart) (begin : ℕ) → IsOpen ms ps begin → OnOk r (kept ≡ take begin ms)
    → OnOk r (open_list kept ps begin ≡ without_marks (open_list ms ps begin))
open_cut_where (Ok x) ms kept ps begin within is = open_cut ms kept ps begin within is
open_cut_where (Err e) ms kept ps begin within is = is
