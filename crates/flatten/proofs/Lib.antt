mod FirstBeyond
mod JoinedPaths
mod Counting
pub mod DependencyGroups
