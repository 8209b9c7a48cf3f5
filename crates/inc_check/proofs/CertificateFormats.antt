-- The texts of certificates: what is read of one is what it was written of, and each text that is read so far goes on to a whole one.
use Rattle.std.proofs.Common.{◌≡◌, ℕ, ◌+◌, ◌-◌, ◌<◌, ◌≤◌, length, map, Bool, true, List, [], ◌∷◌, ◌++◌, refl, sym, ap, ◌∙◌, subst, ◌&&◌, arith, zero-add}
use Rattle.std.specs.Prelude.{nat_lt, nat_le, codes, flat_map}
use Rattle.std.specs.List.{list_all}
use Rattle.std.proofs.lemmas.Bool.{and_parts, and_from, le-leb, leb-true, lt-ltb, ltb-true}
use Rattle.std.proofs.lemmas.Grind.{flat_map-append}
use Rattle.std.proofs.lemmas.List.{append-nil, append_assoc, map-append, length_push}
use Rattle.inc_graph.specs.Marks.{Mark}
use Rattle.inc_check.specs.declared.certificates.Certificate.{Certificate}
use Rattle.inc_check.specs.declared.certificates.CountedMarks.{CountedMarks}
use Rattle.inc_check.specs.declared.read_texts.Stage.{Stage}
use Rattle.inc_check.specs.declared.read_texts.Stage.TheVariants.{Start, Cut, Chains, Chain}
use Rattle.inc_check.specs.declared.line_parts.ChainHead.{ChainHead}
use Rattle.inc_check.specs.Texts.{greatest_number, count_line, mark_line, mark_lines, chain_lines, cut_lines, chains_lines, certificate_lines, is_short_mark, is_small_list, is_small_chain, AreClean}
use Rattle.inc_check.specs.CertificateText.{CertificateFormat, IsCertificateText}
use Rattle.inc_check.specs.Reading.{State, plain_line, start}
use Rattle.inc_check.proofs.Formats.{clean-append, IsShape}
use Rattle.inc_check.proofs.WordLemmas.{head_line, clean_count, clean_head}
use Rattle.inc_check.proofs.MarksFormats.{all_push}
use Rattle.inc_check.proofs.ShortMarks.{AreShort, clean_short}

---- certificates that a text may hold

pub record IsSmall (c : Certificate) : Type 0 where
  pub cut : is_small_list c.cut ≡ true
  pub chains : list_all is_small_chain c.chains ≡ true
  pub few : nat_le (length c.chains) greatest_number ≡ true

pub small_list : (ms : List Mark) → is_small_list ms ≡ true → AreShort ms × (length ms ≤ greatest_number)
small_list ms v =
    let parts = and_parts (list_all is_short_mark ms) (nat_le (length ms) greatest_number) v in
    (parts.0, leb-true (length ms) greatest_number parts.1)

pub list_small : (ms : List Mark) → AreShort ms → length ms ≤ greatest_number → is_small_list ms ≡ true
list_small ms v low =
    and_from (list_all is_short_mark ms) (nat_le (length ms) greatest_number) v (le-leb (length ms) greatest_number low)

pub record IsSmallChain (k : CountedMarks) : Type 0 where
  pub marks : AreShort k.marks
  pub short : length k.marks ≤ greatest_number
  pub some : 0 < k.count
  pub few : k.count ≤ greatest_number

pub small_chain : (k : CountedMarks) → is_small_chain k ≡ true → IsSmallChain k
small_chain k v =
    let parts = and_parts (is_small_list k.marks) (nat_lt 0 k.count && nat_le k.count greatest_number) v in
    let counts = and_parts (nat_lt 0 k.count) (nat_le k.count greatest_number) parts.1 in
    let marks = small_list k.marks parts.0 in
    record { marks = marks.0; short = marks.1; some = ltb-true 0 k.count counts.0; few = leb-true k.count greatest_number counts.1 }

pub chain_small : (k : CountedMarks) → IsSmallChain k → is_small_chain k ≡ true
chain_small k v =
    and_from (is_small_list k.marks) (nat_lt 0 k.count && nat_le k.count greatest_number) (list_small k.marks v.marks v.short)
    (and_from (nat_lt 0 k.count) (nat_le k.count greatest_number) (lt-ltb 0 k.count v.some) (le-leb k.count greatest_number v.few))

pub all-append : {X : Type 0} (p : X → Bool) (xs ys : List X) → list_all p xs ≡ true → list_all p ys ≡ true → list_all p (xs ++ ys) ≡ true
all-append p [] ys v w = w
all-append p (x ∷ xs) ys v w =
    let parts = and_parts (p x) (list_all p xs) v in and_from (p x) (list_all p (xs ++ ys)) parts.0 (all-append p xs ys parts.1 w)

clean_chain : (k : CountedMarks) → IsSmallChain k → AreClean (chain_lines k)
clean_chain k v = (clean_head (length k.marks) k.count v.short v.few v.some, clean_short k.marks v.marks)

clean_chains : (ks : List CountedMarks) → list_all is_small_chain ks ≡ true → AreClean (flat_map chain_lines ks)
clean_chains [] v = tt
clean_chains (k ∷ ks) v =
    let parts = and_parts (is_small_chain k) (list_all is_small_chain ks) v in
    clean-append (chain_lines k) (flat_map chain_lines ks) (clean_chain k (small_chain k parts.0)) (clean_chains ks parts.1)

pub clean_certificate : (c : Certificate) → IsSmall c → AreClean (certificate_lines c)
clean_certificate c v =
    let cut = small_list c.cut v.cut in
    clean-append (cut_lines c.cut) (chains_lines c.chains) (clean_count (codes "cut") (length c.cut) refl cut.1, clean_short c.cut cut.0)
    (clean_count (codes "chains") (length c.chains) refl (leb-true (length c.chains) greatest_number v.few), clean_chains c.chains v.chains)

-- a certificate, and the lines of a text of it
pub record Written : Type 0 where
  pub certificate : Certificate
  pub lines : List (List ℕ)

pub record IsWritten (w : Written) : Type 0 where
  pub small : IsSmall w.certificate
  pub clean : AreClean w.lines
  pub same : map plain_line w.lines ≡ certificate_lines w.certificate

abbrev pub written_lines : Written → List (List ℕ)
written_lines w = w.lines

pub certificate_shape : IsShape written_lines IsWritten CertificateFormat
certificate_shape = record {
  to = λ text f.
      let small : IsSmall f.0 = record { cut = f.1.cut; chains = f.1.chains; few = f.1.few } in
      let w : Written = record { certificate = f.0; lines = f.1.lines } in
      let is : IsWritten w = record { small = small; clean = f.1.clean; same = f.1.same } in
      (w, f.1.whole, is);
  from = λ w v.
      let small = v.small in
      let is : IsCertificateText _ w.certificate = record { lines = w.lines; whole = refl; clean = v.clean; same = v.same; cut = small.cut; chains = small.chains; few = small.few } in
      (w.certificate, is);
  clean = λ w v. v.clean;
}

---- what is read so far

-- the lines that are read
abbrev pub read_by : Stage → State → List (List ℕ)
read_by Start s = []
read_by Cut s = count_line (codes "cut") (length s.marks + s.marks_left) ∷ mark_lines s.marks
read_by Chains s = cut_lines s.cut ++ count_line (codes "chains") s.chains_left ∷ []
read_by Chain s =
    cut_lines s.cut ++ count_line (codes "chains") (length s.chains + (1 + s.chains_left))
    ∷ (flat_map chain_lines s.chains ++ head_line (length s.marks + s.marks_left) s.count ∷ mark_lines s.marks)

-- the list that is being read may be in a text
pub record IsList (s : State) : Type 0 where
  pub marks : AreShort s.marks
  pub short : length s.marks + s.marks_left ≤ greatest_number

pub record IsBefore (s : State) : Type 0 where
  pub no_marks : s.marks ≡ []
  pub none_left : s.marks_left ≡ 0
  pub no_chains : s.chains ≡ []

pub record InCut (s : State) : Type 0 where
  pub list : IsList s
  pub no_chains : s.chains ≡ []

pub record InChains (s : State) : Type 0 where
  pub before : IsBefore s
  pub cut : is_small_list s.cut ≡ true
  pub few : s.chains_left ≤ greatest_number

pub record InChain (s : State) : Type 0 where
  pub list : IsList s
  pub some : 0 < s.count
  pub often : s.count ≤ greatest_number
  pub cut : is_small_list s.cut ≡ true
  pub chains : list_all is_small_chain s.chains ≡ true
  pub few : length s.chains + (1 + s.chains_left) ≤ greatest_number

abbrev pub IsAt : Stage → State → Type 0
IsAt Start s = IsBefore s
IsAt Cut s = InCut s
IsAt Chains s = InChains s
IsAt Chain s = InChain s

-- these lines are read
abbrev pub IsReadBy : Stage → List (List ℕ) → State → Type 0
IsReadBy st done s = (read_by st s ≡ done) × IsAt st s

abbrev pub IsRead : List (List ℕ) → State → Type 0
IsRead done s = IsReadBy s.stage done s

pub read_start : IsRead [] start
read_start = let at : IsBefore start = record { no_marks = refl; none_left = refl; no_chains = refl } in (refl, at)

---- one line more

unfoldable pub marked : State → Mark → State
marked s m = record s { marks = s.marks ++ m ∷ []; marks_left = s.marks_left - 1 }

list_more : (s : State) (m : Mark) → is_short_mark m ≡ true → 0 < s.marks_left → IsList s → IsList (marked s m)
unfolding marked
list_more s m v left h = let short = h.short in record {
  marks = all_push is_short_mark s.marks m h.marks v;
  short = let push = length_push s.marks m in omega arith;
}

size_more : (s : State) (m : Mark) → 0 < s.marks_left → length (s.marks ++ m ∷ []) + (s.marks_left - 1) ≡ length s.marks + s.marks_left
size_more s m left = let push = length_push s.marks m in omega arith

lines_more : (ms : List Mark) (m : Mark) (l : List ℕ) → mark_line m ≡ l → mark_lines (ms ++ m ∷ []) ≡ mark_lines ms ++ l ∷ []
lines_more ms m l e = map-append mark_line ms (m ∷ []) ∙ ap (λ x. mark_lines ms ++ x ∷ []) e

pub read_mark : (st : Stage) (s : State) (m : Mark) (done : List (List ℕ)) (l : List ℕ) → mark_line m ≡ l → is_short_mark m ≡ true → 0 < s.marks_left → IsReadBy st done s → IsReadBy st (done ++ l ∷ []) (marked s m)
unfolding marked
read_mark Start s m done l e v left r = let none = r.1.none_left in absurd (omega arith)
read_mark Cut s m done l e v left r =
    let at : InCut (marked s m) = record { list = list_more s m v left r.1.list; no_chains = r.1.no_chains } in (
      ap (λ n. count_line (codes "cut") n ∷ mark_lines (s.marks ++ m ∷ [])) (size_more s m left)
          ∙ ap (λ ls. count_line (codes "cut") (length s.marks + s.marks_left) ∷ ls) (lines_more s.marks m l e)
          ∙ ap (λ ls. ls ++ l ∷ []) r.0,
      at,
    )
read_mark Chains s m done l e v left r = let none = r.1.before.none_left in absurd (omega arith)
read_mark Chain s m done l e v left r =
    let at : InChain (marked s m) = record { list = list_more s m v left r.1.list; some = r.1.some; often = r.1.often; cut = r.1.cut; chains = r.1.chains; few = r.1.few } in
    let front : List (List ℕ) = cut_lines s.cut in
    let head : List ℕ = count_line (codes "chains") (length s.chains + (1 + s.chains_left)) in
    let before : List (List ℕ) = flat_map chain_lines s.chains in
    let this : List ℕ = head_line (length s.marks + s.marks_left) s.count in (
      ap (λ n. front ++ head ∷ (before ++ head_line n s.count ∷ mark_lines (s.marks ++ m ∷ []))) (size_more s m left)
          ∙ ap (λ ls. front ++ head ∷ (before ++ this ∷ ls)) (lines_more s.marks m l e)
          ∙ ap (λ ls. front ++ head ∷ ls) (sym (append_assoc before (this ∷ mark_lines s.marks) (l ∷ [])))
          ∙ sym (append_assoc front (head ∷ (before ++ this ∷ mark_lines s.marks)) (l ∷ []))
          ∙ ap (λ ls. ls ++ l ∷ []) r.0,
      at,
    )

pub read_cut : (s : State) (n : ℕ) (done : List (List ℕ)) (l : List ℕ) → count_line (codes "cut") n ≡ l → n ≤ greatest_number → IsReadBy Start done s → IsReadBy Cut (done ++ l ∷ []) (record s { stage = Cut; marks_left = n })
read_cut s n done l e low r =
    let none : length s.marks ≡ 0 = ap length r.1.no_marks in
    let list : IsList (record s { stage = Cut; marks_left = n }) = record { marks = subst AreShort (sym r.1.no_marks) refl; short = omega arith } in
    let at : InCut (record s { stage = Cut; marks_left = n }) = record { list = list; no_chains = r.1.no_chains } in (
      ap (λ k. count_line (codes "cut") (k + n) ∷ mark_lines s.marks) none ∙ ap (λ k. count_line (codes "cut") k ∷ mark_lines s.marks) (zero-add n)
          ∙ ap (λ ms. count_line (codes "cut") n ∷ mark_lines ms) r.1.no_marks ∙ ap (λ x. x ∷ []) e ∙ ap (λ ls. ls ++ l ∷ []) r.0,
      at,
    )

cut_is : (s : State) → s.marks_left ≡ 0 → count_line (codes "cut") (length s.marks + s.marks_left) ∷ mark_lines s.marks ≡ cut_lines s.marks
cut_is s none = let size : length s.marks + s.marks_left ≡ length s.marks = omega arith in ap (λ n. count_line (codes "cut") n ∷ mark_lines s.marks) size

pub read_chains : (s : State) (n : ℕ) (done : List (List ℕ)) (l : List ℕ) → count_line (codes "chains") n ≡ l → n ≤ greatest_number → s.marks_left ≡ 0 → IsReadBy Cut done s → IsReadBy Chains (done ++ l ∷ []) (record s { stage = Chains; cut = s.marks; marks = []; chains_left = n })
read_chains s n done l e low none r =
    let before : IsBefore (record s { stage = Chains; cut = s.marks; marks = []; chains_left = n }) = record { no_marks = refl; none_left = none; no_chains = r.1.no_chains } in
    let short = r.1.list.short in
    let at : InChains (record s { stage = Chains; cut = s.marks; marks = []; chains_left = n }) = record { before = before; cut = list_small s.marks r.1.list.marks (omega arith); few = low } in (
      ap (λ x. cut_lines s.marks ++ x ∷ []) e ∙ ap (λ ls. ls ++ l ∷ []) (sym (cut_is s none) ∙ r.0),
      at,
    )

unfoldable pub chained : State → List CountedMarks → ChainHead → State
chained s ks h = record s { stage = Chain; chains = ks; marks = []; count = h.count; marks_left = h.length; chains_left = s.chains_left - 1 }

pub record IsGoodHead (h : ChainHead) (l : List ℕ) : Type 0 where
  pub line : head_line h.length h.count ≡ l
  pub short : h.length ≤ greatest_number
  pub some : 0 < h.count
  pub often : h.count ≤ greatest_number

-- with the chains before it
chain_at : (s : State) (ks : List CountedMarks) (h : ChainHead) (l : List ℕ) → IsGoodHead h l → is_small_list s.cut ≡ true → list_all is_small_chain ks ≡ true → 0 < s.chains_left → length ks + s.chains_left ≤ greatest_number → InChain (chained s ks h)
unfolding chained
chain_at s ks h l good cut v left few =
    let short = good.short in
    let list : IsList (chained s ks h) = record { marks = refl; short = omega arith } in
    record { list = list; some = good.some; often = good.often; cut = cut; chains = v; few = omega arith }

chain_lines_at : (s : State) (ks : List CountedMarks) (h : ChainHead) (l : List ℕ) → IsGoodHead h l → 0 < s.chains_left → read_by Chain (chained s ks h) ≡ (cut_lines s.cut ++ count_line (codes "chains") (length ks + s.chains_left) ∷ flat_map chain_lines ks) ++ l ∷ []
unfolding chained
chain_lines_at s ks h l good left =
    let size : length ks + (1 + (s.chains_left - 1)) ≡ length ks + s.chains_left = omega arith in
    let front : List (List ℕ) = cut_lines s.cut in
    let head : List ℕ = count_line (codes "chains") (length ks + s.chains_left) in
    ap (λ n. front ++ count_line (codes "chains") n ∷ (flat_map chain_lines ks ++ head_line (0 + h.length) h.count ∷ [])) size
    ∙ ap (λ n. front ++ head ∷ (flat_map chain_lines ks ++ head_line n h.count ∷ [])) (zero-add h.length)
    ∙ ap (λ x. front ++ head ∷ (flat_map chain_lines ks ++ x ∷ [])) good.line
    ∙ sym (append_assoc front (head ∷ flat_map chain_lines ks) (l ∷ []))

pub read_first : (s : State) (h : ChainHead) (done : List (List ℕ)) (l : List ℕ) → IsGoodHead h l → 0 < s.chains_left → IsReadBy Chains done s → IsReadBy Chain (done ++ l ∷ []) (chained s s.chains h)
read_first s h done l good left r =
    let none : length s.chains ≡ 0 = ap length r.1.before.no_chains in
    let few = r.1.few in (
      chain_lines_at s s.chains h l good left
          ∙ ap (λ n. (cut_lines s.cut ++ count_line (codes "chains") (n + s.chains_left) ∷ flat_map chain_lines s.chains) ++ l ∷ []) none
          ∙ ap (λ n. (cut_lines s.cut ++ count_line (codes "chains") n ∷ flat_map chain_lines s.chains) ++ l ∷ []) (zero-add s.chains_left)
          ∙ ap (λ ks. (cut_lines s.cut ++ count_line (codes "chains") s.chains_left ∷ flat_map chain_lines ks) ++ l ∷ []) r.1.before.no_chains
          ∙ ap (λ ls. ls ++ l ∷ []) r.0,
      chain_at s s.chains h l good r.1.cut (subst (λ ks. list_all is_small_chain ks ≡ true) (sym r.1.before.no_chains) refl) left (omega arith),
    )

-- the chain that is being read
unfoldable pub this_chain : State → CountedMarks
this_chain s = record { count = s.count; marks = s.marks }

pub this_small : (s : State) → s.marks_left ≡ 0 → InChain s → is_small_chain (this_chain s) ≡ true
unfolding this_chain
this_small s none r =
    let short = r.list.short in
    let small : IsSmallChain (this_chain s) = record { marks = r.list.marks; short = omega arith; some = r.some; few = r.often } in
    chain_small (this_chain s) small

-- the lines of a chain that is read whole are those of one chain more
pub closed_lines : (s : State) → s.marks_left ≡ 0 → read_by Chain s ≡ cut_lines s.cut ++ count_line (codes "chains") (length (s.chains ++ this_chain s ∷ []) + s.chains_left) ∷ flat_map chain_lines (s.chains ++ this_chain s ∷ [])
unfolding this_chain
closed_lines s none =
    let push = length_push s.chains (this_chain s) in
    let size : length s.chains + (1 + s.chains_left) ≡ length (s.chains ++ this_chain s ∷ []) + s.chains_left = omega arith in
    let marks : length s.marks + s.marks_left ≡ length s.marks = omega arith in
    let last : List (List ℕ) = head_line (length s.marks) s.count ∷ mark_lines s.marks in
    let lines : flat_map chain_lines (s.chains ++ this_chain s ∷ []) ≡ flat_map chain_lines s.chains ++ last
    = flat_map-append chain_lines s.chains (this_chain s ∷ []) ∙ ap (λ ls. flat_map chain_lines s.chains ++ ls) (append-nil last) in
    ap (λ n. cut_lines s.cut ++ count_line (codes "chains") (length s.chains + (1 + s.chains_left)) ∷ (flat_map chain_lines s.chains ++ head_line n s.count ∷ mark_lines s.marks)) marks
    ∙ ap (λ n. cut_lines s.cut ++ count_line (codes "chains") n ∷ (flat_map chain_lines s.chains ++ last)) size
    ∙ ap (λ ls. cut_lines s.cut ++ count_line (codes "chains") (length (s.chains ++ this_chain s ∷ []) + s.chains_left) ∷ ls) (sym lines)

pub read_next : (s : State) (h : ChainHead) (done : List (List ℕ)) (l : List ℕ) → IsGoodHead h l → 0 < s.chains_left → s.marks_left ≡ 0 → IsReadBy Chain done s → IsReadBy Chain (done ++ l ∷ []) (chained s (s.chains ++ this_chain s ∷ []) h)
read_next s h done l good left none r =
    let few = r.1.few in
    let push = length_push s.chains (this_chain s) in (
      chain_lines_at s (s.chains ++ this_chain s ∷ []) h l good left ∙ ap (λ ls. ls ++ l ∷ []) (sym (closed_lines s none) ∙ r.0),
      chain_at s (s.chains ++ this_chain s ∷ []) h l good r.1.cut (all-append is_small_chain s.chains (this_chain s ∷ []) r.1.chains (rw (this_small s none r.1) refl)) left (omega arith),
    )
