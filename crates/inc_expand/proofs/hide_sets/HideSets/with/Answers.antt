use Rattle.std.proofs.Common.{◌≡◌, ℕ, ◌+◌, ◌<◌, ◌||◌, nat_lt, refl, sym, subst, length, List, bytes_eq, arith}
use Rattle.inc_expand.specs.Sets.{number_of, size, holds, IsSound, Keeps}
use Rattle.inc_expand.proofs.Sets.{grows-itself}
use Rattle.inc_expand.proofs.LowNames.{bit-members}
use Rattle.inc_expand.proofs.NameNumbers.{names_with}
use Rattle.inc_expand.proofs.Tables.{within-nodes, keeps-itself, keeps-with, sound-with, members-with, known-bit, known-node, node-members, hint-at, hints-kept, hints-set, joins-kept}
use Rattle.inc_expand.proofs.hide_sets.HideSets.with.Goals as goal

pub returns-then-len-ge-MOST_NAMES-clause-keeps : goal.returns-then-len-ge-MOST_NAMES-clause-keeps
returns-then-len-ge-MOST_NAMES-clause-keeps c = keeps-itself c.args.self.now

pub returns-in_err-number-clause-keeps : goal.returns-in_err-number-clause-keeps
returns-in_err-number-clause-keeps c =
    subst (λ ns. Keeps c.args.self.now (record { names = ns; nodes = c.self.inside.nodes.keys })) (sym c.in_err-number.ensures.err)
    (subst (λ s. Keeps c.args.self.now s) (sym c.self.view_is) (keeps-itself c.args.self.now))

---- the bit of one of the first names

pub invariant_of-self-then-number-lt-LOW_NAMES : goal.invariant_of-self-then-number-lt-LOW_NAMES
invariant_of-self-then-number-lt-LOW_NAMES c =
    let names : List (List ℕ) = c.self.inside.names in
    let seen : c.number_with.new.self ≡ names_with names c.args.name.now (nat_lt (number_of names c.args.name.now) (length names)) = c.in_ok-number.ensures.names in
    let room : length names < 4294901760 = omega (arith, c.len.ensures, c.if-len-ge-MOST_NAMES.false) in (
      subst (λ ns. IsSound (record { names = ns; nodes = c.self.inside.nodes.keys })) (sym seen)
          (sound-with names c.args.name.now _ _ c.self.invariant.0 (grows-itself c.self.invariant.0.table) _ refl c.in_ok-number.number c.in_ok-number.ensures.number room (λ top below l. below)),
      c.self.invariant.1,
      c.self.invariant.2,
    )

pub returns-then-number-lt-LOW_NAMES-clause-keeps : goal.returns-then-number-lt-LOW_NAMES-clause-keeps
returns-then-number-lt-LOW_NAMES-clause-keeps c =
    let names : List (List ℕ) = c.self.inside.names in
    let seen : c.number_with.new.self ≡ names_with names c.args.name.now (nat_lt (number_of names c.args.name.now) (length names)) = c.in_ok-number.ensures.names in
    subst (λ s. Keeps s (record { names = c.number_with.new.self; nodes = c.self.inside.nodes.keys })) c.self.view_is
    (subst (λ ns. Keeps (record { names = names; nodes = c.self.inside.nodes.keys }) (record { names = ns; nodes = c.self.inside.nodes.keys })) (sym seen)
    (keeps-with names c.args.name.now _ _ c.self.invariant.0 (grows-itself c.self.invariant.0.table) _ refl))

pub returns-then-number-lt-LOW_NAMES-clause-known : goal.returns-then-number-lt-LOW_NAMES-clause-known
returns-then-number-lt-LOW_NAMES-clause-known c =
    let names : List (List ℕ) = c.self.inside.names in
    let seen : c.number_with.new.self ≡ names_with names c.args.name.now (nat_lt (number_of names c.args.name.now) (length names)) = c.in_ok-number.ensures.names in
    subst (λ ns. c.with_bit.result < size (record { names = ns; nodes = c.self.inside.nodes.keys })) (sym seen)
    (rw c.with_bit.ensures (known-bit names c.args.name.now _ _ c.self.invariant.0 (grows-itself c.self.invariant.0.table) _ refl c.args.set c.in_ok-number.number c.in_ok-number.ensures.number c.if-number-lt-LOW_NAMES.true
    (subst (λ s. c.args.set < size s) (sym c.self.view_is) c.requires)))

pub returns-then-number-lt-LOW_NAMES-clause-members : goal.returns-then-number-lt-LOW_NAMES-clause-members
returns-then-number-lt-LOW_NAMES-clause-members c x =
    let names : List (List ℕ) = c.self.inside.names in
    let seen : c.number_with.new.self ≡ names_with names c.args.name.now (nat_lt (number_of names c.args.name.now) (length names)) = c.in_ok-number.ensures.names in
    subst (λ s. holds (record { names = c.number_with.new.self; nodes = c.self.inside.nodes.keys }) c.with_bit.result x ≡ (holds s c.args.set x || bytes_eq x c.args.name.now)) c.self.view_is
    (subst (λ ns. holds (record { names = ns; nodes = c.self.inside.nodes.keys }) c.with_bit.result x ≡ (holds (record { names = names; nodes = c.self.inside.nodes.keys }) c.args.set x || bytes_eq x c.args.name.now)) (sym seen)
    (members-with names c.args.name.now _ _ c.self.invariant.0 (grows-itself c.self.invariant.0.table) _ refl c.args.set c.with_bit.result c.in_ok-number.number c.in_ok-number.ensures.number
    (λ k. rw c.with_bit.ensures (bit-members c.self.inside.nodes.keys c.args.set c.in_ok-number.number c.if-number-lt-LOW_NAMES.true k))
    (subst (λ s. c.args.set < size s) (sym c.self.view_is) c.requires) x))

---- the node of the others

pub node_with-requires-clause-known : goal.node_with-requires-clause-known
node_with-requires-clause-known c =
    subst (λ n. n < length c.self.inside.nodes.keys + 2) (sym c.node_of.ensures)
    (within-nodes (record { names = c.self.inside.names; nodes = c.self.inside.nodes.keys }) _ c.self.invariant.0 (subst (λ s. c.args.set < size s) (sym c.self.view_is) c.requires))

pub node_with-requires-clause-hint : goal.node_with-requires-clause-hint
node_with-requires-clause-hint c = hint-at c.self.inside.nodes.keys c.self.inside.hints c.place_of-place.result _ c.place_of-place.ensures c.self.invariant.1

pub invariant_of-self-in_err-node : goal.invariant_of-self-in_err-node
invariant_of-self-in_err-node c =
    let names : List (List ℕ) = c.self.inside.names in
    let seen : c.number_with.new.self ≡ names_with names c.args.name.now (nat_lt (number_of names c.args.name.now) (length names)) = c.in_ok-number.ensures.names in
    let room : length names < 4294901760 = omega (arith, c.len.ensures, c.if-len-ge-MOST_NAMES.false) in (
      subst (λ ns. IsSound (record { names = ns; nodes = c.node_with.new.nodes.keys })) (sym seen)
          (sound-with names c.args.name.now _ _ c.self.invariant.0 c.node_with.ensures.grows _ refl c.in_ok-number.number c.in_ok-number.ensures.number room c.node_with.ensures.below),
      hints-set c.node_with.new.nodes.keys c.self.inside.hints _ c.node_with.new.hint c.node_with.ensures.hint (hints-kept c.self.invariant.0.table c.node_with.ensures.grows c.self.inside.hints c.self.invariant.1),
      joins-kept c.self.invariant.0.table c.node_with.ensures.grows c.self.inside.joins c.self.invariant.2,
    )

pub invariant_of-self-2 : goal.invariant_of-self-2
invariant_of-self-2 c =
    let names : List (List ℕ) = c.self.inside.names in
    let seen : c.number_with.new.self ≡ names_with names c.args.name.now (nat_lt (number_of names c.args.name.now) (length names)) = c.in_ok-number.ensures.names in
    let room : length names < 4294901760 = omega (arith, c.len.ensures, c.if-len-ge-MOST_NAMES.false) in (
      subst (λ ns. IsSound (record { names = ns; nodes = c.node_with.new.nodes.keys })) (sym seen)
          (sound-with names c.args.name.now _ _ c.self.invariant.0 c.node_with.ensures.grows _ refl c.in_ok-number.number c.in_ok-number.ensures.number room c.node_with.ensures.below),
      hints-set c.node_with.new.nodes.keys c.self.inside.hints _ c.node_with.new.hint c.node_with.ensures.hint (hints-kept c.self.invariant.0.table c.node_with.ensures.grows c.self.inside.hints c.self.invariant.1),
      joins-kept c.self.invariant.0.table c.node_with.ensures.grows c.self.inside.joins c.self.invariant.2,
    )

pub returns-in_err-node-clause-keeps : goal.returns-in_err-node-clause-keeps
returns-in_err-node-clause-keeps c =
    let names : List (List ℕ) = c.self.inside.names in
    let seen : c.number_with.new.self ≡ names_with names c.args.name.now (nat_lt (number_of names c.args.name.now) (length names)) = c.in_ok-number.ensures.names in
    subst (λ s. Keeps s (record { names = c.number_with.new.self; nodes = c.node_with.new.nodes.keys })) c.self.view_is
    (subst (λ ns. Keeps (record { names = names; nodes = c.self.inside.nodes.keys }) (record { names = ns; nodes = c.node_with.new.nodes.keys })) (sym seen)
    (keeps-with names c.args.name.now _ _ c.self.invariant.0 c.node_with.ensures.grows _ refl))

pub returns-clause-keeps : goal.returns-clause-keeps
returns-clause-keeps c =
    let names : List (List ℕ) = c.self.inside.names in
    let seen : c.number_with.new.self ≡ names_with names c.args.name.now (nat_lt (number_of names c.args.name.now) (length names)) = c.in_ok-number.ensures.names in
    subst (λ s. Keeps s (record { names = c.number_with.new.self; nodes = c.node_with.new.nodes.keys })) c.self.view_is
    (subst (λ ns. Keeps (record { names = names; nodes = c.self.inside.nodes.keys }) (record { names = ns; nodes = c.node_with.new.nodes.keys })) (sym seen)
    (keeps-with names c.args.name.now _ _ c.self.invariant.0 c.node_with.ensures.grows _ refl))

pub returns-clause-known : goal.returns-clause-known
returns-clause-known c =
    let names : List (List ℕ) = c.self.inside.names in
    let seen : c.number_with.new.self ≡ names_with names c.args.name.now (nat_lt (number_of names c.args.name.now) (length names)) = c.in_ok-number.ensures.names in
    subst (λ ns. c.set_of.result < size (record { names = ns; nodes = c.node_with.new.nodes.keys })) (sym seen)
    (known-node names c.args.name.now _ _ c.self.invariant.0 c.node_with.ensures.grows _ refl c.args.set _ c.in_ok-node.node c.low_of.result c.set_of.result _ c.in_ok-number.number refl c.in_ok-number.ensures.number
    (omega (arith, c.if-number-lt-LOW_NAMES.false)) c.node_of.ensures c.low_of.ensures c.set_of.ensures c.in_ok-node.ensures.gives)

pub returns-clause-members : goal.returns-clause-members
returns-clause-members c x =
    let names : List (List ℕ) = c.self.inside.names in
    let seen : c.number_with.new.self ≡ names_with names c.args.name.now (nat_lt (number_of names c.args.name.now) (length names)) = c.in_ok-number.ensures.names in
    subst (λ s. holds (record { names = c.number_with.new.self; nodes = c.node_with.new.nodes.keys }) c.set_of.result x ≡ (holds s c.args.set x || bytes_eq x c.args.name.now)) c.self.view_is
    (subst (λ ns. holds (record { names = ns; nodes = c.node_with.new.nodes.keys }) c.set_of.result x ≡ (holds (record { names = names; nodes = c.self.inside.nodes.keys }) c.args.set x || bytes_eq x c.args.name.now)) (sym seen)
    (members-with names c.args.name.now _ _ c.self.invariant.0 c.node_with.ensures.grows _ refl c.args.set c.set_of.result c.in_ok-number.number c.in_ok-number.ensures.number
    (node-members names c.args.name.now _ _ c.self.invariant.0 c.node_with.ensures.grows _ refl c.args.set _ c.in_ok-node.node c.low_of.result c.set_of.result _ c.in_ok-number.number refl c.in_ok-number.ensures.number
    (omega (arith, c.if-number-lt-LOW_NAMES.false)) c.node_of.ensures c.low_of.ensures c.set_of.ensures c.in_ok-node.ensures.gives)
    (subst (λ s. c.args.set < size s) (sym c.self.view_is) c.requires) x))
