-- The parts of a problem that can be read.
use Rattle.plan_types.specs.declared.index.Index.{Index}
use Rattle.qualified_goals.specs.Names.{NameTable}
use Rattle.cabal_problem.specs.declared.cabal_problem.CabalProblem.{CabalProblem}

-- the index behind the problem
abbrev pub index_in : CabalProblem → Index
index_in problem = problem.index.now

-- the names of the index, by their numbers
abbrev pub names_in : CabalProblem → NameTable
names_in problem = problem.names
