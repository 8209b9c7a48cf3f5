-- A walk from any file to any other holds one that visits no file twice: its loops are left out, and no edge is added.
use Rattle.std.proofs.Common.{◌≡◌, ℕ, ◌≤◌, true, false, List, [], ◌∷◌, length, inl, inr, refl, sym, ap, ◌∙◌, arith}
use Rattle.std.specs.Prelude.{◌==◌, not}
use Rattle.std.proofs.lemmas.Bool.{eq-eqb, eqb-true, and_parts, and_from, or_cases, or_left, or_right, not_from_false, cases_Bool, false≢true}
use Rattle.inc_graph.specs.IncludeGraph.{Graph}
use Rattle.inc_graph.specs.Chains.{target, leaves, is_walk, files_on, is_chain}
use Rattle.inc_graph.specs.Members.{is_member, is_distinct}
use Rattle.inc_graph.proofs.Walks.{chain_of}

-- a walk from a file to a file that visits no file twice, whose edges are all in a list and no more than the list has
pub record IsLoopless (g : Graph) (a b : ℕ) (edges : List ℕ) (path : List ℕ) : Type 0 where
  -- it is a walk from one file to the other
  pub walk : is_walk g a path b ≡ true
  -- no file is on it twice
  pub distinct : is_distinct (files_on g a path) ≡ true
  -- each of its edges is in the list
  pub among : (i : ℕ) → is_member i path ≡ true → is_member i edges ≡ true
  -- it has no more edges than the list
  pub short : length path ≤ length edges

-- the same among more edges
among_more : (g : Graph) (a b : ℕ) (i : ℕ) (is path : List ℕ) → IsLoopless g a b is path → IsLoopless g a b (i ∷ is) path
among_more g a b i is path c =
    let short = c.short in
    record {
      walk = c.walk;
      distinct = c.distinct;
      among = λ j m. or_right (i == j) (is_member j is) (c.among j m);
      short = omega arith;
    }

-- what is after a file that is met
pub loopless_behind : (g : Graph) (a s b : ℕ) (path : List ℕ) → is_walk g s path b ≡ true → is_distinct (files_on g s path) ≡ true → is_member a (files_on g s path) ≡ true
    → (rest : List ℕ) × IsLoopless g a b path rest
loopless_behind g a s b [] walk distinct met =
    elim (or_cases (s == a) (is_member a []) met) [
      | inl here ↦ ([], record { walk = eq-eqb a b (sym (eqb-true s a here) ∙ eqb-true s b walk); distinct = refl; among = λ i m. m; short = omega arith })
      | inr later ↦ absurd (false≢true later)
    ]
loopless_behind g a s b (i ∷ is) walk distinct met =
    elim (or_cases (s == a) (is_member a (files_on g (target g i) is)) met) [
      | inl here ↦
          let same = eqb-true s a here in (
            i ∷ is,
            record {
              walk = ap (λ (f : ℕ). is_walk g f (i ∷ is) b) (sym same) ∙ walk;
              distinct = ap (λ (f : ℕ). is_distinct (files_on g f (i ∷ is))) (sym same) ∙ distinct;
              among = λ j m. m;
              short = omega arith;
            },
          )
      | inr later ↦
          let steps = and_parts (leaves g s i) (is_walk g (target g i) is b) walk in
          let files = and_parts (not (is_member s (files_on g (target g i) is))) (is_distinct (files_on g (target g i) is)) distinct in
          let rest = loopless_behind g a (target g i) b is steps.1 files.1 later in
          (rest.0, among_more g a b i is rest.0 rest.1)
    ]

-- an edge before a walk that does not meet its file
loopless_before : (g : Graph) (a b i : ℕ) (is path : List ℕ) → leaves g a i ≡ true → is_member a (files_on g (target g i) path) ≡ false → IsLoopless g (target g i) b is path
    → IsLoopless g a b (i ∷ is) (i ∷ path)
loopless_before g a b i is path step apart c =
    let short = c.short in
    record {
      walk = and_from (leaves g a i) (is_walk g (target g i) path b) step c.walk;
      distinct = and_from (not (is_member a (files_on g (target g i) path))) (is_distinct (files_on g (target g i) path)) (not_from_false (is_member a (files_on g (target g i) path)) apart) c.distinct;
      among = λ j m. elim (or_cases (i == j) (is_member j path) m) [
        | inl here ↦ or_left (i == j) (is_member j is) here
        | inr later ↦ or_right (i == j) (is_member j is) (c.among j later)
      ];
      short = omega arith;
    }

pub without_loops : (g : Graph) (a b : ℕ) (w : List ℕ) → is_walk g a w b ≡ true → (path : List ℕ) × IsLoopless g a b w path
without_loops g a b [] walk = ([], record { walk = walk; distinct = refl; among = λ i m. m; short = omega arith })
without_loops g a b (i ∷ is) walk =
    let steps = and_parts (leaves g a i) (is_walk g (target g i) is b) walk in
    let further = without_loops g (target g i) b is steps.1 in
    elim (cases_Bool (is_member a (files_on g (target g i) further.0))) [
      | inl met ↦
          let rest = loopless_behind g a (target g i) b further.0 further.1.walk further.1.distinct met in
          let short = rest.1.short in
          let before = further.1.short in (
            rest.0,
            record {
              walk = rest.1.walk;
              distinct = rest.1.distinct;
              among = λ j m. or_right (i == j) (is_member j is) (further.1.among j (rest.1.among j m));
              short = omega arith;
            },
          )
      | inr apart ↦ (i ∷ further.0, loopless_before g a b i is further.0 steps.0 apart further.1)
    ]

-- at a walk from a source to a header it is a chain
pub chain_of_walk : (g : Graph) (source header : ℕ) (w : List ℕ) → is_member source g.sources ≡ true → is_member header g.headers ≡ true → is_walk g source w header ≡ true
    → (chain : List ℕ) × (is_chain g chain ≡ true) × ((i : ℕ) → is_member i chain ≡ true → is_member i w ≡ true) × (length chain ≤ length w)
chain_of_walk g source header w begins ends walk =
    let path = without_loops g source header w walk in
    let chain = chain_of g path.0 (record { source = source; begins = begins; header = header; ends = ends; walk = path.1.walk; distinct = path.1.distinct }) in
    (path.0, chain, path.1.among, path.1.short)
