-- What the costs of some of the sources are, and what one more adds to them.
use Rattle.std.specs.Prelude.{◌≡◌, ℕ, ◌+◌, ◌≤◌, List, [], length}
use Rattle.inc_graph.specs.IncludeGraph.{Graph}
use Rattle.inc_cost.specs.declared.adding.Shares.{Shares}
use Rattle.inc_cost.specs.declared.costs.Amounts.{Amounts}
use Rattle.inc_cost.specs.declared.costs.Costs.{Costs}
use Rattle.inc_cost.specs.declared.costs.SourceShares.{SourceShares}
use Rattle.inc_cost.specs.Costs.{IsTotal, AreSaved, AreAllBrought}
use Rattle.inc_cost.specs.Shares.{AreAdded, AreBelow, AreKeys}

-- these are the costs of these sources
pub record AreCosts (g : Graph) (weights sources : List ℕ) (c : Costs) : Type 0 where
  pub is_total : IsTotal g weights [] sources c.total
  pub saved : AreSaved g weights sources c.edges.bytes.items c.edges.counts.items
  pub brought : AreAllBrought g weights sources c.files.bytes.items c.files.counts.items

-- none of the amounts is greater
abbrev pub AreBothBelow : (most : ℕ) → Amounts → Type 0
AreBothBelow most a = AreBelow most a.bytes.items × AreBelow most a.counts.items

-- and none of the costs
pub record AreAllBelow (most : ℕ) (c : Costs) : Type 0 where
  pub total : c.total ≤ most
  pub edges : AreBothBelow most c.edges
  pub files : AreBothBelow most c.files

-- the shares can be added to the amounts
pub record AreFitting (a : Amounts) (s : Shares) : Type 0 where
  pub counted : length a.counts.items ≡ length a.bytes.items
  pub keys : AreKeys (length a.bytes.items) s.keys.items
  pub bytes_long : length s.bytes.items ≡ length s.keys.items
  pub counts_long : length s.counts.items ≡ length s.keys.items
  pub bytes_few : AreBelow 281_470_681_677_825 s.bytes.items
  pub counts_few : AreBelow 281_470_681_677_825 s.counts.items

-- those of a source to the costs
pub record IsFitting (c : Costs) (s : SourceShares) : Type 0 where
  pub total : s.total ≤ 281_470_681_677_825
  pub edges : AreFitting c.edges s.edges
  pub files : AreFitting c.files s.files

-- they are added
pub record AreBothAdded (s : Shares) (old new : Amounts) : Type 0 where
  pub bytes : AreAdded s.keys.items s.bytes.items old.bytes.items new.bytes.items
  pub counts : AreAdded s.keys.items s.counts.items old.counts.items new.counts.items

pub record AreAllAdded (s : SourceShares) (old new : Costs) : Type 0 where
  pub total : new.total ≡ old.total + s.total
  pub edges : AreBothAdded s.edges old.edges new.edges
  pub files : AreBothAdded s.files old.files new.files
