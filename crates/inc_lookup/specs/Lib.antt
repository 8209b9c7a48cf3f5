-- what public contracts cite
pub mod DirectiveLists
pub mod Given
pub mod Held
pub mod IncludePath
pub mod Paths
pub mod Projects
-- how definitions see the values of the program, and what holds of them
pub mod Invariants
pub mod PathLists
pub mod PathViews
pub mod PathParts
pub mod PathSearch
pub mod ReducedNames
pub mod SimpleNames
pub mod Views
