-- What is judged of a certificate, line by line.
use Rattle.std.proofs.Common.{◌≡◌, ℕ, ◌-◌, ◌<◌, Bool, true, false, List, [], ◌∷◌, ◌++◌, Option, Some, None, refl, sym, ap, subst, ◌∙◌, inl, inr, arith}
use Rattle.std.specs.Prelude.{◌⊎◌, ◌==◌, ◌&&◌, nat_lt, if◌then◌else◌, codes, option_map}
use Rattle.std.proofs.lemmas.Bool.{ne_eqb, lt-ltb}
use Rattle.inc_lookup.specs.Projects.{Layout}
use Rattle.inc_graph.specs.IncludeGraph.{Graph}
use Rattle.inc_graph.specs.Marks.{Mark}
use Rattle.inc_check.specs.declared.certificates.CountedMarks.{CountedMarks}
use Rattle.inc_check.specs.declared.judging.Judge.{Judge}
use Rattle.inc_check.specs.declared.checking.chain_sums.ChainSums.{ChainSums}
use Rattle.inc_check.specs.declared.checking.cut_edges.CutEdges.{CutEdges}
use Rattle.inc_check.specs.declared.read_texts.Stage.{Stage}
use Rattle.inc_check.specs.declared.read_texts.Stage.TheVariants.{Start, Cut, Chains, Chain}
use Rattle.inc_check.specs.declared.line_parts.ChainHead.{ChainHead}
use Rattle.inc_check.specs.Reading.{State, start, with_mark, with_cut, with_chains, with_chain, with_next, with_head, closed, closed_by, whole, whole_by, number_behind, head_in}
use Rattle.inc_check.specs.Checking.{IsCutFor, IsCutOf, IsFitted, IsSumming, IsSummed}
use Rattle.inc_check.specs.Judging.{IsJudgeOf, IsJudgedBy, IsJudged, IsJudgedAfter, IsJudgedWhole, IsClosed, IsBegun}

chosen : {X : Type 0} (b : Bool) (x y : X) → (if b then Some x else None) ≡ Some y → (b ≡ true) × (x ≡ y)
chosen true x y e = let same : x ≡ y = cc in (refl, same)
chosen false x y e = cc

unchosen : {X : Type 0} (b : Bool) (x : X) → (if b then Some x else None) ≡ None → b ≡ false
unchosen true x e = cc
unchosen false x e = refl

-- what is not read stays
pub kept_of : (g : Graph) (old new : Judge) → (new.cut ≡ old.cut) × (new.chains ≡ old.chains) → IsJudgeOf g old → IsJudgeOf g new
kept_of g old new kept of = record {
  cut = subst (λ (c : CutEdges). IsCutFor g c) (sym kept.0) of.cut;
  sums = subst (λ (t : ChainSums). IsFitted g t) (sym kept.1) of.sums;
}

module _ (layout : Layout) (g : Graph) (amounts : List ℕ) where
  pub begin_judging : (j : Judge) → j.stage ≡ Start → j.count ≡ 0 → j.marks_left ≡ 0 → j.chains_left ≡ 0 → IsCutOf layout g amounts [] j.cut → IsSummed layout g [] j.chains → IsJudged layout g amounts j start
  begin_judging j stage count marks chains cut summed = record { stage = stage; count = count; marks_left = marks; chains_left = chains; parts = (cut, refl, summed) }

  ---- a mark

  pub put_chain : (j : Judge) (t : ChainSums) (s : State) (m : Mark) → j.stage ≡ Chain
      → ((chains : List CountedMarks) (marks : List Mark) → IsSumming layout g chains j.count marks j.chains → IsSumming layout g chains j.count (marks ++ m ∷ []) t)
      → IsJudged layout g amounts j s → IsJudged layout g amounts (record j { chains = t }) (record s { marks = s.marks ++ m ∷ [] })
  put_chain j t s m is goes h =
      let st : s.stage ≡ Chain = sym h.stage ∙ is in
      let parts : IsJudgedBy Chain layout g amounts j s = subst (λ (x : Stage). IsJudgedBy x layout g amounts j s) st h.parts in
      let next = goes s.chains s.marks (subst (λ (n : ℕ). IsSumming layout g s.chains n s.marks j.chains) (sym h.count) parts.1) in
      let more : IsJudgedBy Chain layout g amounts (record j { chains = t }) (record s { marks = s.marks ++ m ∷ [] }) = (parts.0, subst (λ (n : ℕ). IsSumming layout g s.chains n (s.marks ++ m ∷ []) t) h.count next) in
      record {
        stage = h.stage;
        count = h.count;
        marks_left = h.marks_left;
        chains_left = h.chains_left;
        parts = subst (λ (x : Stage). IsJudgedBy x layout g amounts (record j { chains = t }) (record s { marks = s.marks ++ m ∷ [] })) (sym st) more;
      }

  put_by : (st : Stage) (j : Judge) (c : CutEdges) (s : State) (m : Mark) → (st ≡ Chain → ⊥) → (st ≡ Chains → ⊥) → ((marks : List Mark) → IsCutOf layout g amounts marks j.cut → IsCutOf layout g amounts (marks ++ m ∷ []) c)
      → IsJudgedBy st layout g amounts j s → IsJudgedBy st layout g amounts (record j { cut = c }) (record s { marks = s.marks ++ m ∷ [] })
  put_by Start j c s m a b goes h = (goes s.marks h.0, h.1, h.2)
  put_by Cut j c s m a b goes h = (goes s.marks h.0, h.1, h.2)
  put_by Chains j c s m a b goes h = absurd (b refl)
  put_by Chain j c s m a b goes h = absurd (a refl)

  pub put_cut : (j : Judge) (c : CutEdges) (s : State) (m : Mark) → (j.stage ≡ Chain → ⊥) → (j.stage ≡ Chains → ⊥) → ((marks : List Mark) → IsCutOf layout g amounts marks j.cut → IsCutOf layout g amounts (marks ++ m ∷ []) c)
      → IsJudged layout g amounts j s → IsJudged layout g amounts (record j { cut = c }) (record s { marks = s.marks ++ m ∷ [] })
  put_cut j c s m a b goes h = record {
    stage = h.stage;
    count = h.count;
    marks_left = h.marks_left;
    chains_left = h.chains_left;
    parts = put_by s.stage j c s m (λ is. a (h.stage ∙ is)) (λ is. b (h.stage ∙ is)) goes h.parts;
  }

  -- none is read there
  pub put_none : (j : Judge) (s : State) (m : Mark) → j.stage ≡ Chains → IsJudged layout g amounts j s → IsJudged layout g amounts j (record s { marks = s.marks ++ m ∷ [] })
  put_none j s m is h =
      let st : s.stage ≡ Chains = sym h.stage ∙ is in
      let parts : IsJudgedBy Chains layout g amounts j s = subst (λ (x : Stage). IsJudgedBy x layout g amounts j s) st h.parts in
      let more : IsJudgedBy Chains layout g amounts j (record s { marks = s.marks ++ m ∷ [] }) = (parts.0, parts.1, parts.2) in
      record {
        stage = h.stage;
        count = h.count;
        marks_left = h.marks_left;
        chains_left = h.chains_left;
        parts = subst (λ (x : Stage). IsJudgedBy x layout g amounts j (record s { marks = s.marks ++ m ∷ [] })) (sym st) more;
      }

  lowered_by : (st : Stage) (j : Judge) (s : State) (m n : ℕ) → IsJudgedBy st layout g amounts j s → IsJudgedBy st layout g amounts (record j { marks_left = m }) (record s { marks_left = n })
  lowered_by Start j s m n h = h
  lowered_by Cut j s m n h = h
  lowered_by Chains j s m n h = h
  lowered_by Chain j s m n h = h

  pub mark_judged : (j : Judge) (s : State) (m : Mark) (o : Option Mark) (n : ℕ) → o ≡ Some m → n ≡ j.marks_left - 1 → IsJudged layout g amounts j (record s { marks = s.marks ++ m ∷ [] })
      → IsJudgedAfter layout g amounts (record j { marks_left = n }) (with_mark s o) true
  mark_judged j s m o n is left h =
      let t : State = record s { marks = s.marks ++ m ∷ []; marks_left = s.marks_left - 1 } in (
        record s { marks = s.marks ++ m ∷ []; marks_left = s.marks_left - 1 },
        ap (with_mark s) is,
        record {
          stage = h.stage;
          count = h.count;
          marks_left = left ∙ ap (λ (k : ℕ). k - 1) h.marks_left;
          chains_left = h.chains_left;
          parts = lowered_by s.stage j (record s { marks = s.marks ++ m ∷ [] }) n (s.marks_left - 1) h.parts;
        },
      )

  ---- a line that is no mark

  pub cut_judged : (j j' : Judge) (s : State) (line : List ℕ) (b : Bool) → j.stage ≡ Start → (if b then Some j' else None) ≡ option_map (λ n. record j { stage = Cut; marks_left = n }) (number_behind (codes "cut ") line)
      → IsJudged layout g amounts j s → IsJudgedAfter layout g amounts j' (with_head s.stage s line) b
  cut_judged j j' s line b is e h =
      let st : s.stage ≡ Start = sym h.stage ∙ is in
      let parts : IsJudgedBy Start layout g amounts j s = subst (λ (x : Stage). IsJudgedBy x layout g amounts j s) st h.parts in
      subst (λ (x : Stage). IsJudgedAfter layout g amounts j' (with_head x s line) b) (sym st) (number (number_behind (codes "cut ") line) parts e)
    where
      number : (o : Option ℕ) → IsJudgedBy Start layout g amounts j s → (if b then Some j' else None) ≡ option_map (λ n. record j { stage = Cut; marks_left = n }) o → IsJudgedAfter layout g amounts j' (with_cut s o) b
      number None parts f = subst (λ (x : Bool). IsJudgedAfter layout g amounts j' (with_cut s None) x) (sym (unchosen b j' f)) refl
      number (Some n) parts f =
          let it = chosen b j' (record j { stage = Cut; marks_left = n }) f in
          let next : IsJudged layout g amounts (record j { stage = Cut; marks_left = n }) (record s { stage = Cut; marks_left = n }) =
          record { stage = refl; count = h.count; marks_left = refl; chains_left = h.chains_left; parts = (parts.0, parts.1, parts.2) } in
          subst (λ (x : Bool). IsJudgedAfter layout g amounts j' (with_cut s (Some n)) x) (sym it.0)
          (record s { stage = Cut; marks_left = n }, refl, subst (λ (x : Judge). IsJudged layout g amounts x (record s { stage = Cut; marks_left = n })) (sym it.1) next)

  pub chains_judged : (j j' : Judge) (s : State) (line : List ℕ) (b : Bool) → j.stage ≡ Cut → (if b then Some j' else None) ≡ option_map (λ n. record j { stage = Chains; chains_left = n }) (number_behind (codes "chains ") line)
      → IsJudged layout g amounts j s → IsJudgedAfter layout g amounts j' (with_head s.stage s line) b
  chains_judged j j' s line b is e h =
      let st : s.stage ≡ Cut = sym h.stage ∙ is in
      let parts : IsJudgedBy Cut layout g amounts j s = subst (λ (x : Stage). IsJudgedBy x layout g amounts j s) st h.parts in
      subst (λ (x : Stage). IsJudgedAfter layout g amounts j' (with_head x s line) b) (sym st) (number (number_behind (codes "chains ") line) parts e)
    where
      number : (o : Option ℕ) → IsJudgedBy Cut layout g amounts j s → (if b then Some j' else None) ≡ option_map (λ n. record j { stage = Chains; chains_left = n }) o → IsJudgedAfter layout g amounts j' (with_chains s o) b
      number None parts f = subst (λ (x : Bool). IsJudgedAfter layout g amounts j' (with_chains s None) x) (sym (unchosen b j' f)) refl
      number (Some n) parts f =
          let it = chosen b j' (record j { stage = Chains; chains_left = n }) f in
          let next : IsJudged layout g amounts (record j { stage = Chains; chains_left = n }) (record s { stage = Chains; cut = s.marks; marks = []; chains_left = n }) =
          record { stage = refl; count = h.count; marks_left = h.marks_left; chains_left = refl; parts = (parts.0, parts.1, parts.2) } in
          subst (λ (x : Bool). IsJudgedAfter layout g amounts j' (with_chains s (Some n)) x) (sym it.0) (
            record s { stage = Chains; cut = s.marks; marks = []; chains_left = n },
            refl,
            subst (λ (x : Judge). IsJudged layout g amounts x (record s { stage = Chains; cut = s.marks; marks = []; chains_left = n })) (sym it.1) next,
          )

  ---- chains

  -- the chain that is being read ends
  pub closed_chain : (j : Judge) (t : ChainSums) (s : State) → j.stage ≡ Chain
      → ((chains : List CountedMarks) (marks : List Mark) → IsSumming layout g chains j.count marks j.chains → IsSummed layout g (chains ++ record { count = j.count; marks = marks } ∷ []) t)
      → IsJudged layout g amounts j s → IsClosed layout g amounts (record j { chains = t }) s
  closed_chain j t s is ends h =
      let st : s.stage ≡ Chain = sym h.stage ∙ is in
      let parts : IsJudgedBy Chain layout g amounts j s = subst (λ (x : Stage). IsJudgedBy x layout g amounts j s) st h.parts in
      let summed = ends s.chains s.marks (subst (λ (n : ℕ). IsSumming layout g s.chains n s.marks j.chains) (sym h.count) parts.1) in
      let all : IsSummed layout g (closed_by Chain s) t = subst (λ (n : ℕ). IsSummed layout g (s.chains ++ record { count = n; marks = s.marks } ∷ []) t) h.count summed in
      record { cut = parts.0; chains = subst (λ (x : Stage). IsSummed layout g (closed_by x s) t) (sym st) all }

  -- there is none
  pub closed_none : (j : Judge) (s : State) → (j.stage ≡ Chain → ⊥) → IsJudged layout g amounts j s → IsBegun s.stage → IsClosed layout g amounts j s
  closed_none j s apart h (inr is) = absurd (apart (h.stage ∙ is))
  closed_none j s apart h (inl is) =
      let parts : IsJudgedBy Chains layout g amounts j s = subst (λ (x : Stage). IsJudgedBy x layout g amounts j s) is h.parts in
      let all : IsSummed layout g (closed_by Chains s) j.chains = subst (λ (ks : List CountedMarks). IsSummed layout g ks j.chains) (sym parts.1) parts.2 in
      record { cut = parts.0; chains = subst (λ (x : Stage). IsSummed layout g (closed_by x s) j.chains) (sym is) all }

  pub no_chain_left : (j : Judge) (s : State) (line : List ℕ) → j.chains_left ≡ 0 → IsJudged layout g amounts j s → with_next s line ≡ None
  no_chain_left j s line none h =
      let left : s.chains_left ≡ 0 = sym h.chains_left ∙ none in
      ap (λ (n : ℕ). if nat_lt 0 n then with_chain s (head_in line) else None) left

  pub no_head : (s : State) (line : List ℕ) (o : Option ChainHead) → o ≡ head_in line → o ≡ None → with_next s line ≡ None
  no_head s line o is none = ap (λ (p : Option ChainHead). if nat_lt 0 s.chains_left then with_chain s p else None) (sym is ∙ none) ∙ either (nat_lt 0 s.chains_left)
    where
      either : (b : Bool) → (if b then with_chain s None else None) ≡ None
      either true = refl
      either false = refl

  -- the next chain begins
  pub chain_begun : (old mid new : Judge) (s : State) (line : List ℕ) (head : ChainHead) (o : Option ChainHead) → IsJudged layout g amounts old s → 0 < old.chains_left → o ≡ head_in line → o ≡ Some head
      → IsClosed layout g amounts mid s → new.cut ≡ mid.cut → IsSumming layout g (closed s) head.count [] new.chains
      → new.stage ≡ Chain → new.count ≡ head.count → new.marks_left ≡ head.length → new.chains_left ≡ old.chains_left - 1
      → IsJudgedAfter layout g amounts new (with_next s line) true
  chain_begun old mid new s line head o h some is found shut cut summing stage count marks chains =
      let left : 0 < s.chains_left = omega (arith, h.chains_left) in
      let t : State = record s { stage = Chain; chains = closed s; marks = []; count = head.count; marks_left = head.length; chains_left = s.chains_left - 1 } in (
        record s { stage = Chain; chains = closed s; marks = []; count = head.count; marks_left = head.length; chains_left = s.chains_left - 1 },
        ap (λ b. if b then with_chain s (head_in line) else None) (lt-ltb 0 s.chains_left left) ∙ ap (with_chain s) (sym is ∙ found),
        record {
          stage = stage;
          count = count;
          marks_left = marks;
          chains_left = chains ∙ ap (λ (n : ℕ). n - 1) h.chains_left;
          parts = (subst (λ (c : CutEdges). IsCutOf layout g amounts s.cut c) (sym cut) shut.cut, summing);
        },
      )

  ---- the end

  whole_at : (st : Stage) (s : State) → (st ≡ Chains) ⊎ (st ≡ Chain) → s.marks_left ≡ 0 → s.chains_left ≡ 0 → whole_by st s ≡ Some (record { cut = s.cut; chains = closed s })
  whole_at Start s (inl is) none no_more = cc
  whole_at Start s (inr is) none no_more = cc
  whole_at Cut s (inl is) none no_more = cc
  whole_at Cut s (inr is) none no_more = cc
  whole_at Chains s b none no_more = rw (none, no_more) refl
  whole_at Chain s b none no_more = rw (none, no_more) refl

  pub ended_whole : (old new : Judge) (s : State) → IsJudged layout g amounts old s → (old.stage ≡ Chains) ⊎ (old.stage ≡ Chain) → old.marks_left ≡ 0 → old.chains_left ≡ 0
      → (IsBegun s.stage → IsClosed layout g amounts new s) → IsJudgedWhole layout g amounts new (whole s) true
  ended_whole old new s h begun none no_more closes =
      let at : IsBegun s.stage = elim begun [ inl is ↦ inl (sym h.stage ∙ is) | inr is ↦ inr (sym h.stage ∙ is) ] in
      let shut = closes at in (
        record { cut = s.cut; chains = closed s },
        whole_at s.stage s at (sym h.marks_left ∙ none) (sym h.chains_left ∙ no_more),
        shut.cut,
        shut.chains,
      )

  -- the certificate is not whole
  abbrev pub IsOpenJudge : Judge → Type 0
  IsOpenJudge j = ((j.stage ≡ Chains → ⊥) × (j.stage ≡ Chain → ⊥)) ⊎ ((0 < j.marks_left) ⊎ (0 < j.chains_left))

  none_left : (s : State) → (0 < s.marks_left) ⊎ (0 < s.chains_left) → (s.marks_left == 0 && (s.chains_left == 0)) ≡ false
  none_left s (inl more) = ap (λ b. b && (s.chains_left == 0)) (ne_eqb s.marks_left 0 (λ is. omega arith))
  none_left s (inr more) = ap (λ b. (s.marks_left == 0) && b) (ne_eqb s.chains_left 0 (λ is. omega arith)) ∙ never (s.marks_left == 0)
    where
      never : (b : Bool) → (b && false) ≡ false
      never true = refl
      never false = refl

  open_at : (st : Stage) (s : State) → ((st ≡ Chains → ⊥) × (st ≡ Chain → ⊥)) ⊎ ((0 < s.marks_left) ⊎ (0 < s.chains_left)) → whole_by st s ≡ None
  open_at Start s o = refl
  open_at Cut s o = refl
  open_at Chains s (inl apart) = absurd (apart.0 refl)
  open_at Chain s (inl apart) = absurd (apart.1 refl)
  open_at Chains s (inr more) = rw (none_left s more) refl
  open_at Chain s (inr more) = rw (none_left s more) refl

  pub not_whole : (j : Judge) (s : State) → IsJudged layout g amounts j s → IsOpenJudge j → whole s ≡ None
  not_whole j s h o = open_at s.stage s (elim o [
    | inl apart ↦ inl (λ is. apart.0 (h.stage ∙ is), λ is. apart.1 (h.stage ∙ is))
    | inr more ↦ inr (elim more [ inl m ↦ inl (omega (arith, h.marks_left, m)) | inr n ↦ inr (omega (arith, h.chains_left, n)) ])
  ])
