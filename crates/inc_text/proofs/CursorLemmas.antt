-- What a place of a text is, from how many origins and lines are at or before it.
use Rattle.std.proofs.Common.{◌≡◌, ℕ, zero, suc, ◌+◌, ◌-◌, ◌<◌, ◌≤◌, Bool, true, false, List, [], ◌∷◌, length, get_or, leb, eqb, cond, take, count_by, All, Some, refl, subst, sym, ap, ◌∙◌, arith, add-zero}
use Rattle.std.specs.Prelude.{option_map}
use Rattle.std.specs.List.{slice_get, HoldsAt}
use Rattle.std.specs.List.Sorted.{IsPartitionPoint}
use Rattle.std.proofs.lemmas.Bool.{cond_both, cond-true, cond-false, eqb-true, false_from_ne_true, lt-leb, le-leb, leb-true, leb-false}
use Rattle.std.proofs.lemmas.List.{get_or_default}
use Rattle.std.proofs.lemmas.List.Elements.{All-head, All-tail}
use Rattle.std.proofs.lemmas.List.Sums.{prefix_len_is}
use Rattle.inc_text.specs.declared.origins.Origin.{Origin}
use Rattle.inc_text.proofs.PhaseLemmas.{lf, count_cons}
use Rattle.inc_text.specs.LineFeeds.{line_feeds_to}
use Rattle.inc_text.specs.PhaseText.{Cell, bytes_of, range_and_line, longest_text}
use Rattle.inc_text.specs.Origins.{plain, origin_from, width_at, splices_upto, cell_at, cells_at, Passed, Fits}
use Rattle.inc_text.specs.declared.devices.TheConstants.{LONGEST_FILE}

tail_passed : (place : ℕ) (x : Origin) (r : List Origin) (k : ℕ) → Passed (λ (m : Origin). m.at) place (x ∷ r) (suc k) → Passed (λ (m : Origin). m.at) place r k
tail_passed place x r k h = record {
  bound = omega (arith, h.bound);
  before = λ i d low high. h.before (suc i) d (omega arith) (omega arith);
  after = λ lt d. h.after (omega arith) d;
}

origin_passed : (d : Origin) (place : ℕ) (ms : List Origin) (k : ℕ) → Passed (λ (m : Origin). m.at) place ms k → origin_from d ms place ≡ get_or (d ∷ ms) k d
origin_passed d place [] zero h = refl
origin_passed d place [] (suc k) h = absurd (omega (arith, h.bound))
origin_passed d place (x ∷ r) zero h = cond-false _ _ _ (lt-leb x.at place (h.after (omega arith) d))
origin_passed d place (x ∷ r) (suc k) h =
    cond-true _ _ _ (le-leb x.at place (h.before 0 d (omega arith) (omega arith))) ∙ (origin_passed x place r k (tail_passed place x r k h) ∙ get_or_default (x ∷ r) k x d (omega (arith, h.bound)))

pub origin_none : (place : ℕ) (ms : List Origin) → Passed (λ (m : Origin). m.at) place ms 0 → origin_from plain ms place ≡ plain
origin_none place ms h = origin_passed plain place ms 0 h

pub origin_some : (place : ℕ) (ms : List Origin) (k : ℕ) (d : Origin) → Passed (λ (x : Origin). x.at) place ms k → 0 < k → get_or ms (k - 1) d ≡ origin_from plain ms place
origin_some place ms zero d h some = absurd (omega arith)
origin_some place ms (suc k) d h some =
    let e : suc k - 1 ≡ k = omega arith in
    ap (λ i. get_or ms i d) e ∙ (get_or_default ms k d plain (omega (arith, h.bound)) ∙ sym (origin_passed plain place ms (suc k) h))

origin_fits : (d : Origin) (place : ℕ) (ms : List Origin) → Fits d → d.at ≤ place → All Fits ms → Fits (origin_from d ms place) × ((origin_from d ms place).at ≤ place)
origin_fits d place [] f le h = (f, le)
origin_fits d place (x ∷ r) f le h =
    cond_both (leb x.at place) (origin_from x r place) d (λ m. Fits m × (m.at ≤ place)) (λ e. origin_fits x place r (All-head Fits x r h) (leb-true x.at place e) (All-tail Fits x r h)) (λ e. (f, le))

-- the range of a place is one of numbers of 32 bits
pub record Ranges (m : Origin) (place : ℕ) : Type 0 where
  pub ahead : m.ahead ≤ LONGEST_FILE + 1
  pub here : place ≡ m.at → m.width ≤ place + m.ahead
  pub behind : 1 ≤ place + m.ahead

pub origin_ranges : (place : ℕ) (ms : List Origin) (m : Origin) → m ≡ origin_from plain ms place → All Fits ms → Ranges m place
origin_ranges place ms m is h =
    let fits : Fits plain = record { ahead = omega arith; width = omega arith; before = omega arith } in
    let p = origin_fits plain place ms fits (omega arith) h in
    let q : Ranges (origin_from plain ms place) place = record {
      ahead = p.0.ahead;
      here = λ e. omega (arith, p.0.width, e);
      behind = omega (arith, p.0.before, p.1);
    } in
    subst (λ (x : Origin). Ranges x place) (sym is) q

pub splices_upto-passed : (place : ℕ) (ss : List ℕ) (k : ℕ) → Passed (λ (s : ℕ). s) place ss k → splices_upto ss place ≡ k
splices_upto-passed place ss k h =
    prefix_len_is (λ s. leb s place) ss k 0 h.bound (λ i lt. le-leb _ _ (h.before i 0 (omega arith) lt)) (λ lt. lt-leb _ _ (h.after lt 0))

pub passed_from : {X : Type 0} (at : X → ℕ) (place : ℕ) (xs : List X) (k : ℕ) → k ≤ length xs → IsPartitionPoint (λ x. leb (at x) place ≡ true) (λ x. leb (at x) place ≡ false) xs k → Passed at place xs k
passed_from at place xs k bound h = record {
  bound = bound;
  before = λ i d low high. leb-true _ _ (h.0 i d low high);
  after = λ lt d. leb-false _ _ (h.1 k d (omega arith) lt);
}

cells_at-get : (ms : List Origin) (ss : List ℕ) (l i : ℕ) (bs : List ℕ) (k : ℕ) → k < length bs
    → slice_get (cells_at ms ss l i bs) k ≡ Some (cell_at ms ss (count_by lf (take k bs) + l) (i + k) (get_or bs k 0))
cells_at-get ms ss l i [] k h = absurd (omega arith)
cells_at-get ms ss l i (b ∷ bs) zero h =
    let none : count_by lf [] ≡ 0 = refl in
    let same : l ≡ count_by lf [] + l = omega (arith, none) in
    ap (λ p. Some (cell_at ms ss l p b)) (sym (add-zero i)) ∙ ap (λ n. Some (cell_at ms ss n (i + 0) b)) same
cells_at-get ms ss l i (b ∷ bs) (suc k) h =
    let e : i + 1 + k ≡ i + suc k = omega arith in
    let next : ℕ = cond (eqb b 10) 1 0 + l in
    let n : count_by lf (take k bs) + next ≡ count_by lf (take (suc k) (b ∷ bs)) + l = omega (arith, count_cons b (take k bs)) in
    cells_at-get ms ss next (i + 1) bs k (omega arith)
    ∙ ap (λ p. Some (cell_at ms ss (count_by lf (take k bs) + next) p (get_or bs k 0))) e
    ∙ ap (λ m. Some (cell_at ms ss m (i + suc k) (get_or bs k 0))) n

pub bytes_of-cells : (ms : List Origin) (ss : List ℕ) (l i : ℕ) (bs : List ℕ) → bytes_of (cells_at ms ss l i bs) ≡ bs
bytes_of-cells ms ss l i [] = refl
bytes_of-cells ms ss l i (b ∷ bs) = ap (λ l. b ∷ l) (bytes_of-cells ms ss (cond (eqb b 10) 1 0 + l) (i + 1) bs)

pub length-cells_at : (ms : List Origin) (ss : List ℕ) (l i : ℕ) (bs : List ℕ) → length (cells_at ms ss l i bs) ≡ length bs
length-cells_at ms ss l i [] = refl
length-cells_at ms ss l i (b ∷ bs) = ap (λ n. suc n) (length-cells_at ms ss (cond (eqb b 10) 1 0 + l) (i + 1) bs)

-- what a contract of a place says
cell_read : (ms : List Origin) (ss bs : List ℕ) (cells : List Cell) (at : ℕ) → cells_at ms ss 0 0 bs ≡ cells → at < length cells
    → slice_get cells at ≡ Some (cell_at ms ss (count_by lf (take at bs)) at (get_or bs at 0))
cell_read ms ss bs cells at is lt =
    let e : 0 + at ≡ at = omega arith in
    let l : count_by lf (take at bs) + 0 ≡ count_by lf (take at bs) = omega arith in
    ap (λ l. slice_get l at) (sym is) ∙ cells_at-get ms ss 0 0 bs at (omega (arith, length-cells_at ms ss 0 0 bs, ap length is))
    ∙ ap (λ p. Some (cell_at ms ss (count_by lf (take at bs) + 0) p (get_or bs at 0))) e ∙ ap (λ n. Some (cell_at ms ss n at (get_or bs at 0))) l

pub range_read : (ms : List Origin) (ss bs : List ℕ) (cells : List Cell) (at first last : ℕ) → cells_at ms ss 0 0 bs ≡ cells → at < length cells → first ≡ (at + (origin_from plain ms at).ahead) - width_at (origin_from plain ms at) at → last ≡ at + (origin_from plain ms at).ahead → option_map {U = ℕ × ℕ} (λ (c : Cell). (c.first, c.last)) (slice_get cells at) ≡ Some (first, last)
range_read ms ss bs cells at first last is lt f l =
    ap (option_map {U = ℕ × ℕ} (λ (c : Cell). (c.first, c.last))) (cell_read ms ss bs cells at is lt) ∙ cc

pub line_read : (ms : List Origin) (ss bs : List ℕ) (cells : List Cell) (at lines splices : ℕ) → cells_at ms ss 0 0 bs ≡ cells → at < length cells
    → count_by lf (take at bs) ≡ lines → splices_upto ss at ≡ splices → option_map (λ (c : Cell). c.line) (slice_get cells at) ≡ Some (1 + (lines + splices))
line_read ms ss bs cells at lines splices is lt l f =
    ap (option_map (λ (c : Cell). c.line)) (cell_read ms ss bs cells at is lt)
    ∙ ap (λ n. Some (1 + (n + splices_upto ss at))) l ∙ ap (λ n. Some (1 + (lines + n))) f

pub place_read : (ms : List Origin) (ss bs : List ℕ) (cells : List Cell) (at first last lines splices : ℕ) → cells_at ms ss 0 0 bs ≡ cells → at < length cells → first ≡ (at + (origin_from plain ms at).ahead) - width_at (origin_from plain ms at) at → last ≡ at + (origin_from plain ms at).ahead
    → count_by lf (take at bs) ≡ lines → splices_upto ss at ≡ splices → option_map {U = ℕ × ℕ × ℕ} range_and_line (slice_get cells at) ≡ Some (first, last, 1 + (lines + splices))
place_read ms ss bs cells at first last lines splices is lt f l m n =
    ap (option_map {U = ℕ × ℕ × ℕ} range_and_line) (cell_read ms ss bs cells at is lt) ∙ cc

pub place_short : (ms : List Origin) (ss bs : List ℕ) (cells : List Cell) (at : ℕ) → cells_at ms ss 0 0 bs ≡ cells → at < length cells → length bs ≤ longest_text → at < longest_text
place_short ms ss bs cells at is lt short = omega (arith, length-cells_at ms ss 0 0 bs, ap length is)

pub place_inside : (ms : List Origin) (ss bs : List ℕ) (cells : List Cell) (at : ℕ) → cells_at ms ss 0 0 bs ≡ cells → at < length cells → at < length bs
place_inside ms ss bs cells at is lt = omega (arith, length-cells_at ms ss 0 0 bs, ap length is)

pub place_upto : (ms : List Origin) (ss bs : List ℕ) (cells : List Cell) (at : ℕ) → cells_at ms ss 0 0 bs ≡ cells → at ≤ length cells → at ≤ length bs
place_upto ms ss bs cells at is le = omega (arith, length-cells_at ms ss 0 0 bs, ap length is)

pub feeds_of-cells : (ms : List Origin) (ss bs : List ℕ) (cells : List Cell) (at : ℕ) → cells_at ms ss 0 0 bs ≡ cells → line_feeds_to at (bytes_of cells) ≡ line_feeds_to at bs
feeds_of-cells ms ss bs cells at is = ap (λ c. line_feeds_to at (bytes_of c)) (sym is) ∙ ap (line_feeds_to at) (bytes_of-cells ms ss 0 0 bs)

-- what is at or before a place is so before each later one up to the next
pub passed_up : {X : Type 0} (at : X → ℕ) (place later end : ℕ) (xs : List X) (k : ℕ) → Passed at place xs k → place ≤ later → later < end
    → (k < length xs → HoldsAt (λ (x : X). end ≤ at x) xs k) → Passed at later xs k
passed_up at place later end xs k h le lt next = record {
  bound = h.bound;
  before = λ i d low high. omega (arith, h.before i d low high, le);
  after = λ some d. omega (arith, next some d, lt);
}

-- each place of a stretch, in which no origin, no splice and no LF is, stands for one byte
plain_width : (m : Origin) (place : ℕ) → m.at < place → width_at m place ≡ 1
plain_width m place lt = cond-false _ _ _ (false_from_ne_true (eqb place m.at) (λ e. omega (arith, eqb-true place m.at e)))

pub level_read : (ms : List Origin) (ss bs : List ℕ) (at place k j lines : ℕ) (m : Origin) → Passed (λ (x : Origin). x.at) at ms k → Passed (λ (x : Origin). x.at) place ms k
    → Passed (λ (s : ℕ). s) place ss j → place < length bs → count_by lf (take place bs) ≡ lines → m ≡ origin_from plain ms at → m.at < place
    → option_map {U = ℕ × ℕ × ℕ} range_and_line (slice_get (cells_at ms ss 0 0 bs) place) ≡ Some (place + m.ahead - 1, place + m.ahead, 1 + lines + j)
level_read ms ss bs at place k j lines m origins later splices lt count is after =
    let same : m ≡ origin_from plain ms place = is ∙ (origin_passed plain at ms k origins ∙ sym (origin_passed plain place ms k later)) in
    let one : width_at (origin_from plain ms place) place ≡ 1 = plain_width (origin_from plain ms place) place (subst (λ (x : Origin). x.at < place) same after) in
    let first : place + m.ahead - 1 ≡ (place + (origin_from plain ms place).ahead) - width_at (origin_from plain ms place) place =
    ap (λ (x : Origin). place + x.ahead - 1) same ∙ ap (λ w. (place + (origin_from plain ms place).ahead) - w) (sym one) in
    let line : 1 + (lines + j) ≡ 1 + lines + j = omega arith in
    place_read ms ss bs (cells_at ms ss 0 0 bs) place (place + m.ahead - 1) (place + m.ahead) lines j refl (omega (arith, lt, length-cells_at ms ss 0 0 bs)) first
    (ap (λ (x : Origin). place + x.ahead) same) count (splices_upto-passed place ss j splices)
    ∙ ap (λ n. Some (place + m.ahead - 1, place + m.ahead, n)) line

-- the origin of a place is at it or before it
pub origin_before : (place : ℕ) (ms : List Origin) (m : Origin) → m ≡ origin_from plain ms place → All Fits ms → m.at ≤ place
origin_before place ms m is h =
    let fits : Fits plain = record { ahead = omega arith; width = omega arith; before = omega arith } in
    subst (λ (x : Origin). x.at ≤ place) (sym is) (origin_fits plain place ms fits (omega arith) h).1

-- each place of a text without origins and splices stands for one byte
one_or_one : (b : Bool) → cond {A = ℕ} b 1 1 ≡ 1
one_or_one true = refl
one_or_one false = refl

pub plain_read : (ms : List Origin) (ss bs : List ℕ) (place lines : ℕ) → length ms ≡ 0 → length ss ≡ 0 → place < length bs → count_by lf (take place bs) ≡ lines
    → option_map {U = ℕ × ℕ × ℕ} range_and_line (slice_get (cells_at ms ss 0 0 bs) place) ≡ Some (place + 1 - 1, place + 1, 1 + lines)
plain_read (m ∷ ms) ss bs place lines none least lt count = absurd (omega arith)
plain_read [] (s ∷ ss) bs place lines none least lt count = absurd (omega arith)
plain_read [] [] bs place lines none least lt count =
    let first : place + 1 - 1 ≡ place + 1 - width_at plain place = ap (λ w. place + 1 - w) (sym (one_or_one (eqb place 0))) in
    let line : 1 + (lines + 0) ≡ 1 + lines = omega arith in
    place_read [] [] bs (cells_at [] [] 0 0 bs) place (place + 1 - 1) (place + 1) lines 0 refl (omega (arith, lt, length-cells_at [] [] 0 0 bs)) first refl count refl
    ∙ ap (λ n. Some (place + 1 - 1, place + 1, n)) line
