-- What is read of a certificate goes on to a whole one, and where an input breaks off.
use Rattle.std.proofs.Common.{◌≡◌, ℕ, zero, suc, ◌+◌, ◌<◌, ◌≤◌, length, map, replicate, take, drop, Bool, true, List, [], ◌∷◌, ◌++◌, Some, None, refl, sym, ap, ◌∙◌, subst, arith}
use Rattle.std.specs.Prelude.{◌==◌, codes, flat_map, position}
use Rattle.std.specs.List.{list_all}
use Rattle.std.proofs.lemmas.Bool.{and_from, le-leb}
use Rattle.std.proofs.lemmas.Grind.{flat_map-append}
use Rattle.std.proofs.lemmas.List.{append-nil, append_assoc, map-append, length-append, length-replicate}
use Rattle.inc_graph.specs.Marks.{Mark}
use Rattle.inc_check.specs.declared.certificates.Certificate.{Certificate}
use Rattle.inc_check.specs.declared.certificates.CountedMarks.{CountedMarks}
use Rattle.inc_check.specs.declared.read_texts.Stage.{Stage}
use Rattle.inc_check.specs.declared.read_texts.Stage.TheVariants.{Start, Cut, Chains, Chain}
use Rattle.inc_check.specs.Texts.{greatest_number, count_line, mark_line, mark_lines, chain_lines, cut_lines, chains_lines, certificate_lines, certificate_text, lines_text, is_short_mark, is_small_chain, IsMalformed, AreClean}
use Rattle.inc_check.specs.CertificateText.{CertificateFormat, IsCertificateText}
use Rattle.inc_check.specs.Reading.{State, plain_line, start, step, whole}
use Rattle.inc_check.proofs.Formats.{clean-append, clean_rest, Goes, prefix_lines, malformed_line, malformed_end}
use Rattle.inc_check.proofs.LineLemmas.{first_line, no_line, read_more}
use Rattle.inc_check.proofs.WordLemmas.{head_line}
use Rattle.inc_check.proofs.ShortMarks.{AreShort}
use Rattle.inc_check.proofs.CertificateFormats.{IsWritten, Written, written_lines, clean_certificate, IsSmall, IsSmallChain, list_small, chain_small, all-append, IsList, IsRead, IsReadBy, read_start, certificate_shape}
use Rattle.inc_check.proofs.PlainLines.{ArePlain, plain_certificate, plain_map, plain_rest}
use Rattle.inc_check.proofs.CertificateRuns.{run, run-append, step_read, whole_read, no_next, no_end, lines_are_one}

---- each text that is read so far goes on

all-replicate : {X : Type 0} (p : X → Bool) (n : ℕ) (x : X) → p x ≡ true → list_all p (replicate n x) ≡ true
all-replicate p zero x h = refl
all-replicate p (suc n) x h = and_from (p x) (list_all p (replicate n x)) h (all-replicate p n x h)

-- a mark and a chain that any list may have more of
some_mark : Mark
some_mark = record { path = 97 ∷ []; line = 1 }

some_chain : CountedMarks
some_chain = record { count = 1; marks = [] }

some_mark_short : is_short_mark some_mark ≡ true
unfolding some_mark
some_mark_short = refl

some_chain_small : is_small_chain some_chain ≡ true
unfolding some_chain
some_chain_small = refl

-- the list that is being read, with as many marks as it is to have
whole_list : State → List Mark
whole_list s = s.marks ++ replicate s.marks_left some_mark

list_size : (s : State) → length (whole_list s) ≡ length s.marks + s.marks_left
unfolding whole_list
list_size s = length-append s.marks (replicate s.marks_left some_mark) ∙ ap (λ n. length s.marks + n) (length-replicate s.marks_left some_mark)

list_whole : (s : State) → IsList s → AreShort (whole_list s) × (length (whole_list s) ≤ greatest_number)
unfolding whole_list
list_whole s v =
    let size = list_size s in
    let short = v.short in (
      all-append is_short_mark s.marks (replicate s.marks_left some_mark) v.marks (all-replicate is_short_mark s.marks_left some_mark some_mark_short),
      omega arith,
    )

list_lines : (s : State) → mark_lines (whole_list s) ≡ mark_lines s.marks ++ mark_lines (replicate s.marks_left some_mark)
unfolding whole_list
list_lines s = map-append mark_line s.marks (replicate s.marks_left some_mark)

goes_printed : (st : Stage) (s : State) (done : List (List ℕ)) → IsReadBy st done s → Goes certificate_lines IsSmall done
goes_printed Start s done r =
    let c : Certificate = record { cut = []; chains = [] } in
    let v : IsSmall c = record { cut = refl; chains = refl; few = refl } in
    (c, certificate_lines c, v, ap (λ ls. ls ++ certificate_lines c) r.0)
goes_printed Cut s done r =
    let list = list_whole s r.1.list in
    let c : Certificate = record { cut = whole_list s; chains = [] } in
    let v : IsSmall c = record { cut = list_small (whole_list s) list.0 list.1; chains = refl; few = refl } in
    let more : List (List ℕ) = mark_lines (replicate s.marks_left some_mark) ++ chains_lines [] in
    let head : List ℕ = count_line (codes "cut") (length s.marks + s.marks_left) in (
      c,
      more,
      v,
      ap (λ n. count_line (codes "cut") n ∷ (mark_lines (whole_list s) ++ chains_lines [])) (list_size s)
          ∙ ap (λ ls. head ∷ (ls ++ chains_lines [])) (list_lines s)
          ∙ ap (λ ls. head ∷ ls) (append_assoc (mark_lines s.marks) (mark_lines (replicate s.marks_left some_mark)) (chains_lines []))
          ∙ ap (λ ls. ls ++ more) r.0,
    )
goes_printed Chains s done r =
    let rest : List CountedMarks = replicate s.chains_left some_chain in
    let size = length-replicate s.chains_left some_chain in
    let few = r.1.few in
    let c : Certificate = record { cut = s.cut; chains = replicate s.chains_left some_chain } in
    let v : IsSmall c = record { cut = r.1.cut; chains = all-replicate is_small_chain s.chains_left some_chain some_chain_small; few = le-leb (length (replicate s.chains_left some_chain)) greatest_number (omega arith) } in (
      c,
      flat_map chain_lines (replicate s.chains_left some_chain),
      v,
      ap (λ n. cut_lines s.cut ++ count_line (codes "chains") n ∷ flat_map chain_lines (replicate s.chains_left some_chain)) size
          ∙ sym (append_assoc (cut_lines s.cut) (count_line (codes "chains") s.chains_left ∷ []) (flat_map chain_lines (replicate s.chains_left some_chain)))
          ∙ ap (λ ls. ls ++ flat_map chain_lines (replicate s.chains_left some_chain)) r.0,
    )
goes_printed Chain s done r =
    let list = list_whole s r.1.list in
    let this : CountedMarks = record { count = s.count; marks = whole_list s } in
    let rest : List CountedMarks = replicate s.chains_left some_chain in
    let ks : List CountedMarks = s.chains ++ this ∷ rest in
    let size : length (s.chains ++ this ∷ rest) ≡ length s.chains + (1 + s.chains_left)
    = length-append s.chains (this ∷ rest) ∙ tail_size (length s.chains) (length rest) s.chains_left (length-replicate s.chains_left some_chain) in
    let few = r.1.few in
    let this_ok : IsSmallChain this = record { marks = list.0; short = list.1; some = r.1.some; few = r.1.often } in
    let c : Certificate = record { cut = s.cut; chains = s.chains ++ this ∷ rest } in
    let v : IsSmall c = record {
      cut = r.1.cut;
      chains = all-append is_small_chain s.chains (this ∷ rest) r.1.chains (and_from (is_small_chain this) (list_all is_small_chain rest) (chain_small this this_ok) (all-replicate is_small_chain s.chains_left some_chain some_chain_small));
      few = le-leb (length (s.chains ++ this ∷ rest)) greatest_number (omega arith);
    } in
    let front : List (List ℕ) = cut_lines s.cut in
    let head : List ℕ = count_line (codes "chains") (length s.chains + (1 + s.chains_left)) in
    let before : List (List ℕ) = flat_map chain_lines s.chains in
    let first : List ℕ = head_line (length s.marks + s.marks_left) s.count in
    let marks' : List (List ℕ) = mark_lines (replicate s.marks_left some_mark) in
    let after : List (List ℕ) = flat_map chain_lines rest in (
      c,
      marks' ++ after,
      v,
      ap (λ n. front ++ count_line (codes "chains") n ∷ flat_map chain_lines (s.chains ++ this ∷ rest)) size
          ∙ ap (λ ls. front ++ head ∷ ls) (flat_map-append chain_lines s.chains (this ∷ rest))
          ∙ ap (λ n. front ++ head ∷ (before ++ head_line n s.count ∷ (mark_lines (whole_list s) ++ after))) (list_size s)
          ∙ ap (λ ls. front ++ head ∷ (before ++ first ∷ (ls ++ after))) (list_lines s)
          ∙ ap (λ ls. front ++ head ∷ (before ++ first ∷ ls)) (append_assoc (mark_lines s.marks) marks' after)
          ∙ ap (λ ls. front ++ head ∷ ls) (sym (append_assoc before (first ∷ mark_lines s.marks) (marks' ++ after)))
          ∙ sym (append_assoc front (head ∷ (before ++ first ∷ mark_lines s.marks)) (marks' ++ after))
          ∙ ap (λ ls. ls ++ (marks' ++ after)) r.0,
    )
  where
    tail_size : (a b n : ℕ) → b ≡ n → a + suc b ≡ a + (1 + n)
    tail_size a b n e = omega arith

-- from lines that are not as they are printed, by lines that are
goes_on : (s : State) (done : List (List ℕ)) → AreClean done → IsRead (map plain_line done) s → Goes written_lines IsWritten done
goes_on s done clean r =
    let goes = goes_printed s.stage s (map plain_line done) r in
    let rest_plain : ArePlain goes.1 = plain_rest (map plain_line done) goes.1 (subst ArePlain goes.3 (plain_certificate goes.0 goes.2)) in
    let rest_clean : AreClean goes.1 = clean_rest (map plain_line done) goes.1 (subst AreClean goes.3 (clean_certificate goes.0 goes.2)) in
    let w : Written = record { certificate = goes.0; lines = done ++ goes.1 } in
    let v : IsWritten w = record {
      small = goes.2;
      clean = clean-append done goes.1 clean rest_clean;
      same = map-append plain_line done goes.1 ∙ ap (λ ls. map plain_line done ++ ls) (plain_map goes.1 rest_plain) ∙ sym goes.3;
    } in (w, goes.1, v, refl)

---- the loop over the lines

-- these lines of the text lead to the state, and this is left
pub record HasRead (text : List ℕ) (s : State) (line : ℕ) (rest : List ℕ) : Type 0 where
  -- the lines that are read
  pub done : List (List ℕ)
  -- they lead to the state
  pub ran : run start done ≡ Some s
  -- of which it holds what they say as they are printed
  pub read : IsRead (map plain_line done) s
  -- no LF is within one of them
  pub clean : AreClean done
  -- the text is theirs, and what is left
  pub lines : text ≡ lines_text done ++ rest
  -- the number of the next line
  pub counted : line ≡ 1 + length done

pub begin_reading : (text : List ℕ) → HasRead text start 1 text
unfolding run
begin_reading text = record { done = []; ran = refl; read = read_start; clean = tt; lines = refl; counted = refl }

run_one : (s t : State) (l : List ℕ) → step s l ≡ Some t → run s (l ∷ []) ≡ Some t
unfolding run
run_one s t l e = rw e refl

-- one line more
pub read_line : (text : List ℕ) (s t : State) (line : ℕ) (rest : List ℕ) (n : ℕ) → HasRead text s line rest → position (λ b. b == 10) rest ≡ Some n → step s (take n rest) ≡ Some t → HasRead text t (line + 1) (drop (n + 1) rest) × (n < length rest)
read_line text s t line rest n h at e =
    let cut = first_line rest n at in
    let size = length-append h.done (take n rest ∷ []) in
    let count = h.counted in
    let more : HasRead text t (line + 1) (drop (n + 1) rest) = record {
      done = h.done ++ take n rest ∷ [];
      ran = run-append start s h.done (take n rest ∷ []) h.ran ∙ run_one s t (take n rest) e;
      read = subst (λ ls. IsRead ls t) (sym (map-append plain_line h.done (take n rest ∷ []))) (step_read s t (map plain_line h.done) (take n rest) h.read e);
      clean = clean-append h.done (take n rest ∷ []) h.clean (cut.1, tt);
      lines = read_more text h.done rest n h.lines cut.0;
      counted = omega arith;
    } in (more, cut.2)

-- a line that does not fit
pub bad_line : (text : List ℕ) (s : State) (line : ℕ) (rest : List ℕ) (n : ℕ) → HasRead text s line rest → position (λ b. b == 10) rest ≡ Some n → step s (take n rest) ≡ None → IsMalformed CertificateFormat text line
bad_line text s line rest n h at none =
    let cut = first_line rest n at in
    subst (IsMalformed CertificateFormat text) (sym h.counted)
    (malformed_line written_lines IsWritten CertificateFormat certificate_shape h.done (take n rest) (drop (n + 1) rest) text h.clean cut.1
    (h.lines ∙ ap (λ t. lines_text h.done ++ t) cut.0) (goes_on s h.done h.clean h.read)
    (λ w ms v e. no_next h.done (take n rest) s h.ran none w ms v e))

-- the same, whatever comes after the text
pub bad_line_more : (text more : List ℕ) (s : State) (line : ℕ) (rest : List ℕ) (n : ℕ) → HasRead text s line rest → position (λ b. b == 10) rest ≡ Some n → step s (take n rest) ≡ None → IsMalformed CertificateFormat (text ++ more) line
bad_line_more text more s line rest n h at none =
    let cut = first_line rest n at in
    let all : text ++ more ≡ lines_text h.done ++ (take n rest ++ 10 ∷ (drop (n + 1) rest ++ more)) =
    ap (λ t. t ++ more) (h.lines ∙ ap (λ t. lines_text h.done ++ t) cut.0) ∙ append_assoc (lines_text h.done) (take n rest ++ 10 ∷ drop (n + 1) rest) more
    ∙ ap (λ t. lines_text h.done ++ t) (append_assoc (take n rest) (10 ∷ drop (n + 1) rest) more) in
    subst (IsMalformed CertificateFormat (text ++ more)) (sym h.counted)
    (malformed_line written_lines IsWritten CertificateFormat certificate_shape h.done (take n rest) (drop (n + 1) rest ++ more) (text ++ more) h.clean cut.1
    all (goes_on s h.done h.clean h.read)
    (λ w ms v e. no_next h.done (take n rest) s h.ran none w ms v e))

-- the end, where the last line is not ended or the certificate is not whole
pub bad_end : (text : List ℕ) (s : State) (line : ℕ) (rest : List ℕ) → HasRead text s line rest → position (λ b. b == 10) rest ≡ None → (rest ≡ [] → whole s ≡ None) → IsMalformed CertificateFormat text line
bad_end text s line rest h at none =
    subst (IsMalformed CertificateFormat text) (sym h.counted)
    (malformed_end written_lines IsWritten CertificateFormat certificate_shape h.done rest text h.clean (no_line rest at) h.lines (goes_on s h.done h.clean h.read)
    (λ empty w v e. no_end h.done s h.ran (none empty) w v e))

-- the end of a whole certificate
pub good_end : (text : List ℕ) (s : State) (line : ℕ) (rest : List ℕ) (c : Certificate) → HasRead text s line rest → rest ≡ [] → whole s ≡ Some c → IsCertificateText text c
good_end text s line rest c h empty is =
    let parts = whole_read s c (map plain_line h.done) h.read is in
    let v = parts.1 in
    record {
      lines = h.done;
      whole = sym (h.lines ∙ ap (λ t. lines_text h.done ++ t) empty ∙ append-nil (lines_text h.done));
      clean = h.clean;
      same = sym parts.0;
      cut = v.cut;
      chains = v.chains;
      few = v.few;
    }

---- a text is that of at most one certificate

pub text_lines : (ks ls : List (List ℕ)) → AreClean ks → AreClean ls → lines_text ks ≡ lines_text ls → ks ≡ ls
text_lines ks ls c d e =
    let parts = prefix_lines ks ls [] c d (e ∙ sym (append-nil (lines_text ls))) in
    parts.1 ∙ ap (λ ms. ls ++ ms) (no_lines parts.0 parts.2) ∙ append-nil ls
  where
    no_lines : (ms : List (List ℕ)) → lines_text ms ≡ [] → ms ≡ []
    no_lines [] f = refl
    no_lines ([] ∷ ms) f = cc
    no_lines ((b ∷ m) ∷ ms) f = cc

pub text_is_one : (text : List ℕ) (c d : Certificate) → IsCertificateText text c → IsCertificateText text d → c ≡ d
text_is_one text c d v w =
    let small : IsSmall c = record { cut = v.cut; chains = v.chains; few = v.few } in
    let small' : IsSmall d = record { cut = w.cut; chains = w.chains; few = w.few } in
    lines_are_one c d small small' (sym v.same ∙ ap (map plain_line) (text_lines v.lines w.lines v.clean w.clean (v.whole ∙ sym w.whole)) ∙ w.same)

-- what is printed of a certificate is a text of it
pub printed_is_text : (c : Certificate) → IsSmall c → IsCertificateText (certificate_text c) c
printed_is_text c v = record {
  lines = certificate_lines c;
  whole = refl;
  clean = clean_certificate c v;
  same = plain_map (certificate_lines c) (plain_certificate c v);
  cut = v.cut;
  chains = v.chains;
  few = v.few;
}
