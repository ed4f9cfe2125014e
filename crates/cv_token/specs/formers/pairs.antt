pub mod PairsOf
