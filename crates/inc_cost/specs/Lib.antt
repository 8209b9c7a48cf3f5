-- what public contracts cite
pub mod Costs
-- the certificate of one source
pub mod Dominance
pub mod Certified
pub mod Entries
-- the search from one source
pub mod Searches
-- what one source adds, and the sums of several
pub mod Shares
pub mod Sums
pub mod Groups
pub mod Ranking
-- the trees of sources
pub mod Trees
pub mod Branches
