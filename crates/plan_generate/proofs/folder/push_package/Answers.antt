use Rattle.std.proofs.Common.{ap, ◌∙◌, sym, take, map, ◌-◌, ◌++◌, ◌∷◌, [], append_assoc, arith}
use Rattle.std.proofs.lemmas.List.{map_push, take_all}
use Rattle.outside_folder.specs.MemFile.{told}
use Rattle.plan_generate.specs.Draws.{after_draws, draws_before, draws_each}
use Rattle.plan_generate.specs.Generated.{told_file, version_file}
use Rattle.plan_generate.proofs.Counts.{after-more, before-more, versions}
use Rattle.plan_generate.proofs.folder.push_package.Goals as goal

pub loop-version-preserved : goal.loop-version-preserved
loop-version-preserved c =
    let version = c.loop-version.version in
    let before = told c.args.files.now in
    let file = c.in_ok-version_file.field-0 in
    record {
      some = omega arith;
      files = λ seed is.
          let of = version_file seed c.args.number in
          let earlier = take (version - 1) (1 ∷ 2 ∷ 3 ∷ []) in
          ap told c.in_ok-push.ensures.ok
          ∙ map_push told_file c.loop-version.files file
          ∙ ap (λ l. l ++ told_file file ∷ []) (c.loop-version.invariant.files seed is)
          ∙ ap (λ f. (before ++ map of earlier) ++ f ∷ []) (c.in_ok-version_file.ensures.file seed (c.loop-version.invariant.drawn seed is))
          ∙ append_assoc before (map of earlier) (of version ∷ [])
          ∙ ap (λ l. before ++ l) (sym (map_push of earlier version) ∙ ap (map of) (sym (versions version c.loop-version.invariant.some (omega arith))));
      drawn = λ seed is.
          c.version_file.ensures.last ∙ ap (λ x. after_draws x (draws_each c.args.number)) (c.loop-version.invariant.drawn seed is)
          ∙ after-more seed (draws_before c.args.number version) (draws_each c.args.number)
          ∙ ap (after_draws seed) (before-more c.args.number version c.loop-version.invariant.some);
    }

pub returns-clause-files : goal.returns-clause-files
returns-clause-files c = λ seed is.
    c.loop-version.invariant.files seed is
    ∙ ap (λ versions. told c.args.files.now ++ map (version_file seed c.args.number) versions)
    (take_all (c.loop-version.version - 1) (1 ∷ 2 ∷ 3 ∷ []) (omega (arith, c.loop-version-test.false)))
