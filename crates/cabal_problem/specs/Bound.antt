-- A finite list that has each variable.
use Rattle.std.specs.Prelude.{ℕ, List, ◌∷◌, ◌++◌, length, map, flat_map}
use Rattle.plan_types.specs.declared.index.Package.{Package}
use Rattle.qualified_goals.specs.declared.variable.Qual.{Qual}
use Rattle.qualified_goals.specs.declared.variable.Qual.TheVariants.{Top, Setup, Exe}
use Rattle.qualified_goals.specs.declared.variable.Part.{Part}
use Rattle.qualified_goals.specs.declared.variable.Part.TheVariants.{Package as ThePackage, Flag, Tests, Benches}
use Rattle.qualified_goals.specs.declared.variable.Var.{Var}
use Rattle.qualified_goals.specs.Names.{NameTable}
use Rattle.solver_index.specs.Places.{rising}

-- top level, the setup of each owner, and each tool of each owner
abbrev pub all_quals : List ℕ → List ℕ → List Qual
all_quals owners tools = Top ∷ map Setup owners ++ flat_map (λ p. map (Exe p) tools) owners

-- all parts of a package whose flags have these numbers
abbrev pub all_parts : List ℕ → List Part
all_parts flags = ThePackage ∷ Tests ∷ Benches ∷ map Flag flags

-- each of these parts of each of these packages, under one qualifier
abbrev pub vars_of : List ℕ → List Part → Qual → List Var
vars_of packages parts q = flat_map (λ p. map (λ part. record { qual = q; «package» = p; part = part }) parts) packages

-- each part of each package under each qualifier
abbrev pub all_vars : List Package → NameTable → List Var
all_vars packages names =
    flat_map (vars_of (rising (length packages)) (all_parts (rising (length names.flags)))) (all_quals (rising (length packages)) (rising (length names.packages)))

-- an upper bound on the number of variables
abbrev pub bound_of : List Package → NameTable → ℕ
bound_of packages names = length (all_vars packages names)
