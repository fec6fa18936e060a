use Rattle.std.proofs.Common.{◌≡◌, ◌∙◌, [], ap, fold, map, arith}
use Rattle.std.proofs.lemmas.Grind.{common_steps}
use Rattle.indexmap.specs.IndexSet.{insert_key}
use Rattle.plan_types.specs.declared.dependency.Named.{Named}
use Rattle.index_files.specs.Names.{is_listed}
use Rattle.qualified_goals.proofs.NameNumbers.{names-stay}
use Rattle.index_assembly.proofs.Gathering.{asked-for}
use Rattle.plan_types.specs.Bytes.{same_text}
use Rattle.index_assembly.proofs.index.extra_names.Goals as goal

pub returns : goal.returns
returns c =
    let all : c.loop-named.names.keys ≡ fold (insert_key same_text) [] (map (λ (n : Named). n.name) c.args.extra.now) = grind (arith, common_steps) in
    λ name. ap (λ names. is_listed names name) all ∙ names-stay (map (λ (n : Named). n.name) c.args.extra.now) name ∙ asked-for c.args.extra.now name
