-- How the lines of a certificate are read one after the other.
use Rattle.std.proofs.Common.{◌≡◌, ℕ, suc, ◌+◌, ◌-◌, ◌<◌, ◌≤◌, length, map, Bool, true, false, List, [], ◌∷◌, ◌++◌, Option, Some, None, refl, sym, ap, ◌∙◌, subst, ◌&&◌, arith}
use Rattle.std.specs.Prelude.{◌==◌, nat_le, nat_lt, codes, flat_map, option_and_then, if◌then◌else◌}
use Rattle.std.specs.List.{list_all}
use Rattle.std.proofs.lemmas.Bool.{and_parts, le-leb, leb-true, lt-ltb, ltb-true, ltb-false, eqb-true}
use Rattle.std.proofs.lemmas.List.{append-nil, append_assoc, length_push}
use Rattle.inc_lookup.specs.declared.listings.TheConstants.{LONGEST_PATH}
use Rattle.inc_graph.specs.Marks.{Mark}
use Rattle.inc_check.specs.declared.certificates.Certificate.{Certificate}
use Rattle.inc_check.specs.declared.certificates.CountedMarks.{CountedMarks}
use Rattle.inc_check.specs.declared.read_texts.Stage.{Stage}
use Rattle.inc_check.specs.declared.read_texts.Stage.TheVariants.{Start, Cut, Chains, Chain}
use Rattle.inc_check.specs.declared.line_parts.ChainHead.{ChainHead}
use Rattle.inc_check.specs.Texts.{greatest_number, count_line, mark_line, mark_lines, chain_lines, cut_lines, chains_lines, certificate_lines, is_short_mark, is_small_chain, is_small_mark}
use Rattle.inc_check.specs.Reading.{State, start, step, with_mark, with_cut, with_chains, with_chain, with_next, with_head, closed, closed_by, whole, whole_by, plain_by, plain_line, short_mark_in, number_behind, head_in}
use Rattle.inc_check.proofs.WordLemmas.{if_some, head_line, number_behind-word, number_behind-Some, head_in-line, head_in-Some}
use Rattle.inc_check.proofs.ShortMarks.{AreShort, short_mark_in-line, short_mark_in-Some}
use Rattle.inc_check.proofs.CertificateFormats.{IsWritten, Written, IsSmall, IsSmallChain, small_list, small_chain, IsRead, IsReadBy, IsGoodHead, marked, chained, this_chain, this_small, closed_lines, read_mark, read_cut, read_chains, read_first, read_next, all-append}
use Rattle.inc_check.proofs.PlainLines.{head_is, no_head, plain_head}

---- each line that fits is read

mark_parts : (s t : State) (done : List (List ℕ)) (l : List ℕ) (o : Option Mark) → short_mark_in l ≡ o → with_mark s o ≡ Some t → 0 < s.marks_left → IsRead done s → IsRead (done ++ plain_line l ∷ []) t
unfolding marked
mark_parts s t done l None is e left r = cc
mark_parts s t done l (Some m) is e left r =
    let same : marked s m ≡ t = cc in
    let parts = short_mark_in-Some l m is in
    subst (IsRead (done ++ plain_line l ∷ [])) same (read_mark s.stage s m done (plain_line l) parts.0 parts.1 left r)

-- the state after the head of a chain
next_parts : (s t : State) (l : List ℕ) (ks : List CountedMarks) → closed s ≡ ks → with_next s l ≡ Some t → (h : ChainHead) × IsGoodHead h l × (0 < s.chains_left) × (t ≡ chained s ks h)
unfolding chained
next_parts s t l ks is e =
    let both = if_some (nat_lt 0 s.chains_left) (with_chain s (head_in l)) t e in
    let it = head (head_in l) refl both.1 in (it.0, it.1, ltb-true 0 s.chains_left both.0, it.2)
  where
    head : (o : Option ChainHead) → head_in l ≡ o → with_chain s o ≡ Some t → (h : ChainHead) × IsGoodHead h l × (t ≡ chained s ks h)
    head None none f = cc
    head (Some h) some f =
        let parts = head_in-Some l h some in
        let good : IsGoodHead h l = record { line = parts.0; short = parts.1; some = parts.2; often = parts.3 } in
        let same : t ≡ chained s ks h = cc in (h, good, same)

stays : (lines : List (List ℕ)) (u : State) (ks : List CountedMarks) (h : ChainHead) → IsReadBy Chain lines (chained u ks h) → IsRead lines (chained u ks h)
unfolding chained
stays lines u ks h x = x

closed_is : (u : State) (st : Stage) → st ≡ Chain → closed_by st u ≡ u.chains ++ this_chain u ∷ []
unfolding this_chain
closed_is u st f = rw f refl

head_read : (st : Stage) (s t : State) (done : List (List ℕ)) (l : List ℕ) → s.stage ≡ st → with_head st s l ≡ Some t → s.marks_left ≡ 0 → IsReadBy st done s → IsRead (done ++ l ∷ []) t
head_read Start s t done l is e none r = number (number_behind (codes "cut ") l) refl e
  where
    number : (o : Option ℕ) → number_behind (codes "cut ") l ≡ o → with_cut s o ≡ Some t → IsRead (done ++ l ∷ []) t
    number None it f = cc
    number (Some n) it f =
        let next : State = record s { stage = Cut; marks_left = n } in
        let same : next ≡ t = cc in
        let parts = number_behind-Some (codes "cut ") l n it in subst (IsRead (done ++ l ∷ [])) same (read_cut s n done l parts.0 parts.1 r)
head_read Cut s t done l is e none r = number (number_behind (codes "chains ") l) refl e
  where
    number : (o : Option ℕ) → number_behind (codes "chains ") l ≡ o → with_chains s o ≡ Some t → IsRead (done ++ l ∷ []) t
    number None it f = cc
    number (Some n) it f =
        let next : State = record s { stage = Chains; cut = s.marks; marks = []; chains_left = n } in
        let same : next ≡ t = cc in
        let parts = number_behind-Some (codes "chains ") l n it in
        subst (IsRead (done ++ l ∷ [])) same (read_chains s n done l parts.0 parts.1 none r)
head_read Chains s t done l is e none r =
    let parts = next_parts s t l s.chains (ap (λ st. closed_by st s) is) e in
    subst (IsRead (done ++ l ∷ [])) (sym parts.3) (stays (done ++ l ∷ []) s s.chains parts.0 (read_first s parts.0 done l parts.1 parts.2 r))
head_read Chain s t done l is e none r =
    let parts = next_parts s t l (s.chains ++ this_chain s ∷ []) (closed_is s (s.stage) is) e in
    subst (IsRead (done ++ l ∷ [])) (sym parts.3) (stays (done ++ l ∷ []) s (s.chains ++ this_chain s ∷ []) parts.0 (read_next s parts.0 done l parts.1 parts.2 none r))

-- as they are printed
pub step_read : (s t : State) (done : List (List ℕ)) (l : List ℕ) → IsRead done s → step s l ≡ Some t → IsRead (done ++ plain_line l ∷ []) t
step_read s t done l r e = by_left (nat_lt 0 s.marks_left) refl e
  where
    by_left : (b : Bool) → nat_lt 0 s.marks_left ≡ b → (if b then with_mark s (short_mark_in l) else with_head s.stage s l) ≡ Some t → IsRead (done ++ plain_line l ∷ []) t
    by_left true is f = mark_parts s t done l (short_mark_in l) refl f (ltb-true 0 s.marks_left is) r
    by_left false is f =
        let none = ltb-false 0 s.marks_left is in
        let head = head_read s.stage s t done l refl f (omega arith) r in
        subst (λ (k : List ℕ). IsRead (done ++ k ∷ []) t) (sym (plain_head l (head_is s t l s.stage f))) head

---- what is read whole

whole_when : (st : Stage) (s : State) (c : Certificate) (done : List (List ℕ)) → s.stage ≡ st → whole_by st s ≡ Some c → IsReadBy st done s → (certificate_lines c ≡ done) × IsSmall c
whole_when Start s c done is e r = cc
whole_when Cut s c done is e r = cc
whole_when Chains s c done is e r =
    let both = if_some (s.marks_left == 0 && (s.chains_left == 0)) (Some (record { cut = s.cut; chains = closed s })) c e in
    let parts = and_parts (s.marks_left == 0) (s.chains_left == 0) both.0 in
    let it : Certificate = record { cut = s.cut; chains = [] } in
    let chains : closed s ≡ [] = ap (λ st. closed_by st s) is ∙ r.1.before.no_chains in
    let same : it ≡ c = cc in
    let small : IsSmall it = record { cut = r.1.cut; chains = refl; few = refl } in
    let lines : certificate_lines it ≡ done = ap (λ n. cut_lines s.cut ++ count_line (codes "chains") n ∷ []) (sym (eqb-true s.chains_left 0 parts.1)) ∙ r.0 in
    subst (λ d. (certificate_lines d ≡ done) × IsSmall d) same (lines, small)
whole_when Chain s c done is e r =
    let both = if_some (s.marks_left == 0 && (s.chains_left == 0)) (Some (record { cut = s.cut; chains = closed s })) c e in
    let parts = and_parts (s.marks_left == 0) (s.chains_left == 0) both.0 in
    let none = eqb-true s.marks_left 0 parts.0 in
    let no_more = eqb-true s.chains_left 0 parts.1 in
    let ks : List CountedMarks = s.chains ++ this_chain s ∷ [] in
    let it : Certificate = record { cut = s.cut; chains = ks } in
    let chains : closed s ≡ ks = closed_is s s.stage is in
    let same : it ≡ c = cc in
    let size = length_push s.chains (this_chain s) in
    let few = r.1.few in
    let count : length (s.chains ++ this_chain s ∷ []) ≡ length (s.chains ++ this_chain s ∷ []) + s.chains_left = omega arith in
    let small : IsSmall it = record { cut = r.1.cut; chains = all-append is_small_chain s.chains (this_chain s ∷ []) r.1.chains (rw (this_small s none r.1) refl); few = le-leb (length (s.chains ++ this_chain s ∷ [])) greatest_number (omega arith) } in
    let lines : certificate_lines it ≡ done = ap (λ n. cut_lines s.cut ++ count_line (codes "chains") n ∷ flat_map chain_lines (s.chains ++ this_chain s ∷ [])) count ∙ sym (closed_lines s none) ∙ r.0 in
    subst (λ d. (certificate_lines d ≡ done) × IsSmall d) same (lines, small)

pub whole_read : (s : State) (c : Certificate) (done : List (List ℕ)) → IsRead done s → whole s ≡ Some c → (certificate_lines c ≡ done) × IsSmall c
whole_read s c done r e = whole_when s.stage s c done refl e r

---- what is written of a certificate is read

unfoldable pub run : State → List (List ℕ) → Option State
run s [] = Some s
run s (l ∷ ls) = option_and_then (λ t. run t ls) (step s l)

-- the lines after others are read from where these lead
pub run-append : (s t : State) (ls ms : List (List ℕ)) → run s ls ≡ Some t → run s (ls ++ ms) ≡ run t ms
unfolding run
run-append s t [] ms e = let same : s ≡ t = cc in ap (λ u. run u ms) same
run-append s t (l ∷ ls) ms e = by_step (step s l) e (λ u f. run-append u t ls ms f)
  where
    by_step : (o : Option State) → option_and_then (λ u. run u ls) o ≡ Some t → ((u : State) → run u ls ≡ Some t → run u (ls ++ ms) ≡ run t ms) → option_and_then (λ u. run u (ls ++ ms)) o ≡ run t ms
    by_step None f more = cc
    by_step (Some u) f more = more u f

run_step : (s t : State) (l : List ℕ) (ls : List (List ℕ)) → step s l ≡ Some t → run s (l ∷ ls) ≡ run t ls
unfolding run
run_step s t l ls e = rw e refl

step_mark : (s : State) (m : Mark) → is_short_mark m ≡ true → 0 < s.marks_left → step s (mark_line m) ≡ Some (marked s m)
unfolding marked
step_mark s m v left = rw (lt-ltb 0 s.marks_left left, short_mark_in-line m v) refl

-- with a whole list of marks
filled : State → List Mark → State
filled s ms = record s { marks = s.marks ++ ms; marks_left = 0 }

filled_none : (s : State) → s.marks_left ≡ 0 → s ≡ filled s []
unfolding filled
filled_none s none = ap (λ ms. record s { marks = ms }) (sym (append-nil s.marks)) ∙ ap (λ n. record s { marks = s.marks ++ []; marks_left = n }) none

filled_more : (s : State) (m : Mark) (ms : List Mark) → filled (marked s m) ms ≡ filled s (m ∷ ms)
unfolding filled marked
filled_more s m ms = ap (λ ks. record s { marks = ks; marks_left = 0 }) (append_assoc s.marks (m ∷ []) ms)

marked_left : (s : State) (m : Mark) (n : ℕ) → s.marks_left ≡ suc n → (marked s m).marks_left ≡ n
unfolding marked
marked_left s m n e = omega arith

run_marks : (s : State) (ms : List Mark) (rest : List (List ℕ)) → AreShort ms → s.marks_left ≡ length ms → run s (mark_lines ms ++ rest) ≡ run (filled s ms) rest
run_marks s [] rest v e = ap (λ u. run u rest) (filled_none s e)
run_marks s (m ∷ ms) rest v e =
    let parts = and_parts (is_short_mark m) (list_all is_short_mark ms) v in
    run_step s (marked s m) (mark_line m) (mark_lines ms ++ rest) (step_mark s m parts.0 (omega arith))
    ∙ run_marks (marked s m) ms rest parts.1 (marked_left s m (length ms) e)
    ∙ ap (λ u. run u rest) (filled_more s m ms)

-- in the chains
IsBegun : Stage → Type 0
IsBegun Start = ⊥
IsBegun Cut = ⊥
IsBegun Chains = Unit {0}
IsBegun Chain = Unit {0}

next_of : (st : Stage) (s : State) (l : List ℕ) → IsBegun st → with_head st s l ≡ with_next s l
unfolding IsBegun
next_of Start s l b = absurd b
next_of Cut s l b = absurd b
next_of Chains s l b = refl
next_of Chain s l b = refl

whole_of : (st : Stage) (s : State) → IsBegun st → s.marks_left ≡ 0 → s.chains_left ≡ 0 → whole_by st s ≡ Some (record { cut = s.cut; chains = closed s })
unfolding IsBegun
whole_of Start s b none no_more = absurd b
whole_of Cut s b none no_more = absurd b
whole_of Chains s b none no_more = rw (none, no_more) refl
whole_of Chain s b none no_more = rw (none, no_more) refl

head_for : CountedMarks → ChainHead
head_for k = record { length = length k.marks; count = k.count }

step_chain : (s : State) (k : CountedMarks) → IsBegun s.stage → s.marks_left ≡ 0 → 0 < s.chains_left → IsSmallChain k → step s (head_line (length k.marks) k.count) ≡ Some (chained s (closed s) (head_for k))
unfolding chained head_for
step_chain s k b none left v =
    let test : nat_lt 0 s.marks_left ≡ false = ap (nat_lt 0) none in
    rw test (next_of s.stage s (head_line (length k.marks) k.count) b ∙ (rw (lt-ltb 0 s.chains_left left, head_in-line (length k.marks) k.count v.short v.few v.some) refl))

left_is : (s : State) (ks : List CountedMarks) (k : CountedMarks) → (chained s ks (head_for k)).marks_left ≡ length k.marks
unfolding chained head_for
left_is s ks k = refl

-- after a whole chain
behind : State → CountedMarks → State
behind s k = filled (chained s (closed s) (head_for k)) k.marks

run_chain : (s : State) (k : CountedMarks) (rest : List (List ℕ)) → IsBegun s.stage → s.marks_left ≡ 0 → 0 < s.chains_left → IsSmallChain k → run s (chain_lines k ++ rest) ≡ run (behind s k) rest
unfolding behind
run_chain s k rest b none left v =
    run_step s (chained s (closed s) (head_for k)) (head_line (length k.marks) k.count) (mark_lines k.marks ++ rest) (step_chain s k b none left v)
    ∙ run_marks (chained s (closed s) (head_for k)) k.marks rest v.marks (left_is s (closed s) k)

record IsBehind (s u : State) (k : CountedMarks) : Type 0 where
  stage : u.stage ≡ Chain
  none : u.marks_left ≡ 0
  left : u.chains_left ≡ s.chains_left - 1
  cut : u.cut ≡ s.cut
  chains : closed u ≡ closed s ++ k ∷ []

is_behind : (s : State) (k : CountedMarks) → IsBehind s (behind s k) k
unfolding behind filled chained head_for
is_behind s k = record { stage = refl; none = refl; left = refl; cut = refl; chains = refl }

begun : (st : Stage) → st ≡ Chain → IsBegun st
unfolding IsBegun
begun st e = subst IsBegun (sym e) tt

run_none : (s : State) → run s [] ≡ Some s
unfolding run
run_none s = refl

-- all chains are read
run_chains : (s : State) (ks : List CountedMarks) → IsBegun s.stage → s.marks_left ≡ 0 → s.chains_left ≡ length ks → list_all is_small_chain ks ≡ true → (t : State) × (run s (flat_map chain_lines ks) ≡ Some t) × (whole t ≡ Some (record { cut = s.cut; chains = closed s ++ ks }))
run_chains s [] b none e v =
    (s, run_none s, whole_of s.stage s b none e ∙ ap (λ ks. Some (record { cut = s.cut; chains = ks })) (sym (append-nil (closed s))))
run_chains s (k ∷ ks) b none e v =
    let parts = and_parts (is_small_chain k) (list_all is_small_chain ks) v in
    let facts = is_behind s k in
    let left = facts.left in
    let more = run_chains (behind s k) ks (begun (behind s k).stage facts.stage) facts.none (omega arith) parts.1 in (
      more.0,
      run_chain s k (flat_map chain_lines ks) b none (omega arith) (small_chain k parts.0) ∙ more.1,
      more.2 ∙ ap (λ cut. Some (record { cut = cut; chains = closed (behind s k) ++ ks })) facts.cut
          ∙ ap (λ js. Some (record { cut = s.cut; chains = js })) (ap (λ js. js ++ ks) facts.chains ∙ append_assoc (closed s) (k ∷ []) ks),
    )

-- after the line that says how many directives the cut has, and after that of the chains
after_cut : ℕ → State
after_cut n = record start { stage = Cut; marks_left = n }

after_chains : State → ℕ → State
after_chains s n = record s { stage = Chains; cut = s.marks; marks = []; chains_left = n }

step_cut : (n : ℕ) → n ≤ greatest_number → step start (count_line (codes "cut") n) ≡ Some (after_cut n)
unfolding after_cut
step_cut n low = rw (number_behind-word (codes "cut ") n low) refl

step_chains : (s : State) (n : ℕ) → s.stage ≡ Cut → s.marks_left ≡ 0 → n ≤ greatest_number → step s (count_line (codes "chains") n) ≡ Some (after_chains s n)
unfolding after_chains
step_chains s n at none low =
    let test : nat_lt 0 s.marks_left ≡ false = ap (nat_lt 0) none in
    rw test (ap (λ st. with_head st s (count_line (codes "chains") n)) at ∙ (rw (number_behind-word (codes "chains ") n low) refl))

filled_cut : (n : ℕ) (ms : List Mark) → ((filled (after_cut n) ms).stage ≡ Cut) × ((filled (after_cut n) ms).marks_left ≡ 0)
unfolding filled after_cut
filled_cut n ms = (refl, refl)

cut_left : (n : ℕ) → (after_cut n).marks_left ≡ n
unfolding after_cut
cut_left n = refl

last : (c : Certificate) → IsSmall c → (t : State) × (run (after_chains (filled (after_cut (length c.cut)) c.cut) (length c.chains)) (flat_map chain_lines c.chains) ≡ Some t) × (whole t ≡ Some c)
unfolding after_chains filled after_cut IsBegun
last c v = run_chains (after_chains (filled (after_cut (length c.cut)) c.cut) (length c.chains)) c.chains tt refl refl v.chains

-- a certificate is read from its lines
pub complete : (c : Certificate) → IsSmall c → (t : State) × (run start (certificate_lines c) ≡ Some t) × (whole t ≡ Some c)
complete c v =
    let cut = small_list c.cut v.cut in
    let few = leb-true (length c.chains) greatest_number v.few in
    let at = filled_cut (length c.cut) c.cut in
    let more = last c v in (
      more.0,
      run_step start (after_cut (length c.cut)) (count_line (codes "cut") (length c.cut)) (mark_lines c.cut ++ chains_lines c.chains) (step_cut (length c.cut) cut.1)
          ∙ run_marks (after_cut (length c.cut)) c.cut (chains_lines c.chains) cut.0 (cut_left (length c.cut))
          ∙ run_step (filled (after_cut (length c.cut)) c.cut) (after_chains (filled (after_cut (length c.cut)) c.cut) (length c.chains)) (count_line (codes "chains") (length c.chains)) (flat_map chain_lines c.chains)
          (step_chains (filled (after_cut (length c.cut)) c.cut) (length c.chains) at.0 at.1 few)
          ∙ more.1,
      more.2,
    )

---- lines that are not as they are printed

step_plain : (s t : State) (l : List ℕ) → step s (plain_line l) ≡ Some t → step s l ≡ Some t
step_plain s t l e = when (short_mark_in l) refl e
  where
    when : (o : Option Mark) → short_mark_in l ≡ o → step s (plain_by o l) ≡ Some t → step s l ≡ Some t
    when None is f = f
    when (Some m) is f = by_left (nat_lt 0 s.marks_left) f
      where
        short : is_short_mark m ≡ true
        short = (short_mark_in-Some l m is).1

        by_left : (b : Bool) → (if b then with_mark s (short_mark_in (mark_line m)) else with_head s.stage s (mark_line m)) ≡ Some t
            → (if b then with_mark s (short_mark_in l) else with_head s.stage s l) ≡ Some t
        by_left true g = ap (with_mark s) (is ∙ sym (short_mark_in-line m short)) ∙ g
        by_left false g =
            let head = head_is s t (mark_line m) s.stage g in
            absurd (no_head m (and_parts (is_small_mark m) (nat_le (length m.path) LONGEST_PATH) short).0 head.first)

run_plain : (s t : State) (ls : List (List ℕ)) → run s (map plain_line ls) ≡ Some t → run s ls ≡ Some t
unfolding run
run_plain s t [] e = e
run_plain s t (l ∷ ls) e = by_step (step s (plain_line l)) refl e (λ u f. run_plain u t ls f)
  where
    by_step : (o : Option State) → step s (plain_line l) ≡ o → option_and_then (λ u. run u (map plain_line ls)) o ≡ Some t
        → ((u : State) → run u (map plain_line ls) ≡ Some t → run u ls ≡ Some t) → option_and_then (λ u. run u ls) (step s l) ≡ Some t
    by_step None is f more = cc
    by_step (Some u) is f more = ap (λ (o : Option State). option_and_then (λ u. run u ls) o) (step_plain s u l is) ∙ more u f

-- a certificate is read from the lines of any text of it
complete_written : (w : Written) → IsWritten w → (t : State) × (run start w.lines ≡ Some t) × (whole t ≡ Some w.certificate)
complete_written w v =
    let all = complete w.certificate v.small in
    (all.0, run_plain start all.0 w.lines (ap (run start) v.same ∙ all.1), all.2)

---- where an input breaks off

pub no_next : (done : List (List ℕ)) (l : List ℕ) (s : State) → run start done ≡ Some s → step s l ≡ None → (w : Written) (ms : List (List ℕ)) → IsWritten w → w.lines ≡ done ++ l ∷ ms → ⊥
unfolding run
no_next done l s ran none w ms v e =
    let all = complete_written w v in
    let goes = run-append start s done (l ∷ ms) ran in
    let stops : run s (l ∷ ms) ≡ None = ap (λ o. option_and_then (λ t. run t ms) o) none in
    let same : run start w.lines ≡ None = ap (run start) e ∙ goes ∙ stops in
    let some = all.1 in cc

pub no_end : (done : List (List ℕ)) (s : State) → run start done ≡ Some s → whole s ≡ None → (w : Written) → IsWritten w → w.lines ≡ done → ⊥
no_end done s ran none w v e =
    let all = complete_written w v in
    let some = all.1 in
    let is = all.2 in
    let same : run start w.lines ≡ Some s = ap (run start) e ∙ ran in
    let one : all.0 ≡ s = cc in
    let found : whole s ≡ Some w.certificate = ap whole (sym one) ∙ is in cc

-- the lines of a certificate are those of no other
pub lines_are_one : (c d : Certificate) → IsSmall c → IsSmall d → certificate_lines c ≡ certificate_lines d → c ≡ d
lines_are_one c d v w e =
    let first = complete c v in
    let second = complete d w in
    let ran = first.1 in
    let is = first.2 in
    let ran' = second.1 in
    let is' = second.2 in
    let both : run start (certificate_lines c) ≡ run start (certificate_lines d) = ap (run start) e in
    let one : first.0 ≡ second.0 = cc in
    let found : whole second.0 ≡ Some c = ap whole (sym one) ∙ is in cc
