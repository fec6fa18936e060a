use Rattle.std.proofs.Common.{◌≡◌, ◌++◌, List, drop, map, flat_map}
use Rattle.plan_types.specs.declared.condition.Cond.{Cond}
use Rattle.section_syntax.specs.Chained.{AreChained, AreSectionParts}
use Rattle.section_syntax.specs.declared.branch.Branch.{Branch}
use Rattle.section_syntax.specs.declared.part.File.{File}
use Rattle.package_declarations.specs.Components.{barrier, guarded}
use Rattle.package_declarations.specs.DeclaredNames.{RepresentsNames}
use Rattle.package_declarations.specs.Gathering.{RepresentsState, deps_in}
use Rattle.stanza_imports.specs.Bodies.{placed_part}
use Rattle.package_declarations.proofs.component.gathered.Given as goal

abbrev pub invariant-loop-one : goal.invariant-loop-one
invariant-loop-one l =
    let all = map placed_part l.placed in
    let rest = map placed_part (drop l.one-index l.placed) in
    record {
      stands : (opened : List Branch) × (barred : List Cond) × RepresentsState l.gathered opened barred;
      chained : AreSectionParts all → (opened : List Branch) × (barred : List Cond) × RepresentsState l.gathered opened barred × AreChained opened rest
          × (barred ++ flat_map barrier rest ≡ flat_map barrier all)
          × ((file : File) → RepresentsNames l.declared file → deps_in l.gathered.groups ++ flat_map (guarded file) rest ≡ flat_map (guarded file) all);
    }
