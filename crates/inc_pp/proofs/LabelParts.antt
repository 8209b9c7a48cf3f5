-- What a label says of its token.
use Rattle.std.proofs.Common.{◌≡◌, ℕ, ◌+◌, ◌*◌, ◌/◌, ◌%◌, ◌<◌, Bool, true, false, cond, eqb, length, refl, ap, ◌∙◌, arith}
use Rattle.inc_pp.specs.Labels.{kind_in, len_in, label_of, starts_in}
use Rattle.inc_pp.specs.Tasks.{OutToken}
use Rattle.inc_token.specs.KindCodes.{code_of, kind_of}
use Rattle.inc_token.proofs.KindCodes.{kind_of-code, code_of-few}

abbrev bit : Bool → ℕ
bit b = cond b 1 0

len_part : (len code : ℕ) (b : Bool) → code < 8 → (len * 16 + code * 2 + bit b) / 16 ≡ len
len_part len code true few = omega (arith, few)
len_part len code false few = omega (arith, few)

code_part : (len code : ℕ) (b : Bool) → code < 8 → (len * 16 + code * 2 + bit b) / 2 % 8 ≡ code
code_part len code true few = omega (arith, few)
code_part len code false few = omega (arith, few)

bit_part : (len code : ℕ) (b : Bool) → (len * 16 + code * 2 + bit b) % 2 ≡ bit b
bit_part len code true = omega arith
bit_part len code false = omega arith

is_one : (b : Bool) → eqb (bit b) 1 ≡ b
is_one true = refl
is_one false = refl

pub len-of-label : (t : OutToken) → len_in (label_of t) ≡ length t.spelling
len-of-label t = len_part (length t.spelling) (code_of t.kind) t.starts (code_of-few t.kind)

pub kind-of-label : (t : OutToken) → kind_in (label_of t) ≡ t.kind
kind-of-label t = ap kind_of (code_part (length t.spelling) (code_of t.kind) t.starts (code_of-few t.kind)) ∙ kind_of-code t.kind

pub starts-of-label : (t : OutToken) → starts_in (label_of t) ≡ t.starts
starts-of-label t = ap (λ n. eqb n 1) (bit_part (length t.spelling) (code_of t.kind) t.starts) ∙ is_one t.starts
