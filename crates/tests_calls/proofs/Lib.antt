-- the edges of cuts and chains are edges of the graph
mod EdgeLemmas
