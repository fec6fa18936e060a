pub mod NodePaths
