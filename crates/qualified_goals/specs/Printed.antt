-- The printed forms of variables.
use Rattle.std.specs.Prelude.{[], ◌++◌, codes}
use Rattle.qualified_goals.specs.declared.variable.Qual.{Qual}
use Rattle.qualified_goals.specs.declared.variable.Qual.TheVariants.{Top, Setup, Exe}
use Rattle.qualified_goals.specs.declared.variable.Part.{Part}
use Rattle.qualified_goals.specs.declared.variable.Part.TheVariants.{Package, Flag, Tests, Benches}
use Rattle.qualified_goals.specs.declared.variable.Var.{Var}
use Rattle.qualified_goals.specs.Names.{Name, NameTable, name_of}

-- nothing, `p:setup.` or `p:t:exe.`
abbrev pub qual_text : NameTable → Qual → Name
qual_text names Top = []
qual_text names (Setup p) = name_of names.packages p ++ codes ":setup."
qual_text names (Exe p t) = name_of names.packages p ++ codes ":" ++ name_of names.packages t ++ codes ":exe."

-- nothing, `:FLAG`, `:*test` or `:*bench`
abbrev pub part_text : NameTable → Part → Name
part_text names Package = []
part_text names (Flag f) = codes ":" ++ name_of names.flags f
part_text names Tests = codes ":*test"
part_text names Benches = codes ":*bench"

-- the text of a variable: its qualifier, its package and its part
abbrev pub var_text : NameTable → Var → Name
var_text names v = qual_text names v.qual ++ name_of names.packages v.«package» ++ part_text names v.part
