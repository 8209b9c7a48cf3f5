-- what public contracts cite
pub mod Flows
-- how searches go
pub mod Searches
-- how flows change
pub mod Raising
-- the answer, and what leads to it
pub mod Answers
-- chains in one list
pub mod ChainParts
-- the steps from a file
pub mod NextSteps
-- the search by phases
pub mod Phases
-- the search depth first
pub mod Descents
