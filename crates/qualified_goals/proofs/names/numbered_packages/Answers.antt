use Rattle.std.proofs.Common.{◌≡◌, ◌∙◌, [], fold, arith}
use Rattle.std.proofs.lemmas.Grind.{common_steps}
use Rattle.indexmap.specs.IndexSet.{insert_key}
use Rattle.plan_types.specs.declared.index.Package.{Package}
use Rattle.qualified_goals.specs.Names.{package_names}
use Rattle.qualified_goals.proofs.NameNumbers.{distinct-kept, put-one}
use Rattle.plan_types.specs.Bytes.{same_text}
use Rattle.qualified_goals.proofs.names.numbered_packages.Goals as goal

pub returns : goal.returns
returns c =
    let all : c.loop-package.names.keys ≡ fold (insert_key same_text) [] (package_names c.args.packages.now) = grind (arith, common_steps) in
    all ∙ distinct-kept (package_names c.args.packages.now) c.requires

pub loop-package-preserved : goal.loop-package-preserved
loop-package-preserved c = put-one (λ (p : Package). p.name) [] c.args.packages.now c.loop-package.package-index c.package-item.result c.loop-package.names.keys c.insert.new.self.keys c.in_ok-copy.field-0 c.loop-package-test.true c.package-item.is c.in_ok-copy.ensures c.loop-package.invariant c.in_ok-insert.ensures.keys
