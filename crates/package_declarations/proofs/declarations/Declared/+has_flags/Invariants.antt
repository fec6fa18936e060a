use Rattle.std.proofs.Common.{◌≡◌, ◌≤◌}
use Rattle.plan_types.specs.declared.condition.Cond.{size-Cond}
use Rattle.section_syntax.specs.declared.part.File.{File}
use Rattle.package_declarations.specs.Declarations.{has_flags}
use Rattle.package_declarations.specs.DeclaredNames.{RepresentsNames}
use Rattle.package_declarations.proofs.declarations.Declared.+has_flags.Given as goal

-- the rest of the condition decides the whole, and is no larger
abbrev pub invariant-loop-left : goal.invariant-loop-left
invariant-loop-left l =
    ((file : File) → RepresentsNames l.self file → has_flags file.sections l.left ≡ has_flags file.sections l.cond)
    × (size-Cond l.left ≤ size-Cond l.cond)
