use Rattle.std.proofs.Common.{◌≡◌, ◌++◌, drop, flat_map}
use Rattle.package_declarations.specs.Setup.{setup_parts}
use Rattle.stanza_imports.specs.Parts.{deps_said}
use Rattle.package_declarations.proofs.setup.written.Given as goal

abbrev pub invariant-loop-section : goal.invariant-loop-section
invariant-loop-section l =
    l.deps ++ flat_map (λ part. deps_said part.said) (setup_parts (drop l.section-index l.sections)) ≡ flat_map (λ part. deps_said part.said) (setup_parts l.sections)
