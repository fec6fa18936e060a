use Rattle.std.proofs.Common.{◌≡◌, ◌++◌, drop, map}
use Rattle.std.specs.List.{All}
use Rattle.plan_types.specs.declared.description.Component.{Component}
use Rattle.section_syntax.specs.Chained.{AreSectionParts}
use Rattle.section_syntax.specs.declared.part.File.{File}
use Rattle.package_declarations.specs.Components.{component}
use Rattle.stanza_imports.specs.declared.stanzas.Built.{Built}
use Rattle.stanza_imports.specs.Bodies.{table, body_parts, built_component}
use Rattle.package_declarations.specs.DeclaredNames.{RepresentsNames}
use Rattle.package_declarations.proofs.component.components.Given as goal

abbrev pub invariant-loop-one : goal.invariant-loop-one
invariant-loop-one l = (file : File) → RepresentsNames l.declared file →
    let told = table l.bodies.stanzas.bodies.items in
    let one : Built → Component = λ built. component file (built_component told built).section built.kind in
    All (λ (built : Built). AreSectionParts (body_parts told built.body)) l.one-items → l.components ++ map one (drop l.one-index l.one-items) ≡ map one l.one-items
