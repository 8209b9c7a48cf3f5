-- How the numbers of a graph's edges are kept.
use Rattle.std.specs.Prelude.{ℕ, List}
use Rattle.inc_graph.specs.declared.edge_numbers.Numbers.{Numbers}
use Rattle.inc_graph.specs.declared.edge_numbers.Numbers.TheVariants.{Bytes, Words, Longs}

abbrev pub numbers_in : Numbers → List ℕ
numbers_in (Bytes numbers) = numbers.items
numbers_in (Words numbers) = numbers.items
numbers_in (Longs numbers) = numbers.items

-- the largest number for which there is room
abbrev pub most_in : Numbers → ℕ
most_in (Bytes numbers) = 255
most_in (Words numbers) = 4_294_967_295
most_in (Longs numbers) = 18_446_744_073_709_551_615
