pub mod ListPairs
