-- Scopes with their packages as numbers.
use Rattle.std.specs.Prelude.{ℕ, Bool, true, false, Option, Some, None, nat_eq}
use Rattle.plan_types.specs.declared.constraint.Scope.{Scope}
use Rattle.plan_types.specs.declared.constraint.Scope.TheVariants.{Top as AtTop, Any, Setup as InSetups, SetupOf as InSetupOf}
use Rattle.qualified_goals.specs.declared.variable.Qual.{Qual}
use Rattle.qualified_goals.specs.declared.variable.Qual.TheVariants.{Top as TopLevel, Setup, Exe}
use Rattle.qualified_goals.specs.Names.{NameTable, number_of}
use Rattle.constraint_set.specs.declared.numbered_scope.NumberedScope.{NumberedScope}
use Rattle.constraint_set.specs.declared.numbered_scope.NumberedScope.TheVariants.{Top, Everywhere, Setups, SetupOf, Nowhere}

-- the setup of the package with this number, if there is one
abbrev pub setup_of : Option ℕ → NumberedScope
setup_of None = Nowhere
setup_of (Some p) = SetupOf p

-- a scope with its package as a number
abbrev pub numbered : NameTable → Scope → NumberedScope
numbered names AtTop = Top
numbered names Any = Everywhere
numbered names InSetups = Setups
numbered names (InSetupOf owner) = setup_of (number_of names.packages owner)

-- whether the scope covers a qualifier
abbrev pub numbered_covers : NumberedScope → Qual → Bool
numbered_covers Top TopLevel = true
numbered_covers Top (Setup p) = false
numbered_covers Top (Exe p t) = false
numbered_covers Everywhere TopLevel = true
numbered_covers Everywhere (Setup p) = true
numbered_covers Everywhere (Exe p t) = true
numbered_covers Setups TopLevel = false
numbered_covers Setups (Setup p) = true
numbered_covers Setups (Exe p t) = false
numbered_covers (SetupOf owner) TopLevel = false
numbered_covers (SetupOf owner) (Setup p) = nat_eq owner p
numbered_covers (SetupOf owner) (Exe p t) = false
numbered_covers Nowhere TopLevel = false
numbered_covers Nowhere (Setup p) = false
numbered_covers Nowhere (Exe p t) = false
