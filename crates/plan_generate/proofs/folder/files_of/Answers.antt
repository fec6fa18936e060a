use Rattle.std.proofs.Common.{ap, ◌∙◌, sym, ◌-◌, ◌++◌, ◌∷◌, [], arith}
use Rattle.std.specs.List.{flat_map, range_with_len}
use Rattle.std.proofs.lemmas.Grind.{flat_map-append}
use Rattle.plan_generate.specs.Generated.{package_files}
use Rattle.plan_generate.proofs.Counts.{counted}
use Rattle.plan_generate.proofs.folder.files_of.Goals as goal

pub loop-number-preserved : goal.loop-number-preserved
loop-number-preserved c =
    let number = c.loop-number.number in
    let of = package_files c.args.count in
    let drawn = c.loop-number.invariant.drawn in
    record {
      some = omega arith;
      files =
          c.in_ok-push_package.ensures.files c.args.count drawn
          ∙ ap (λ l. l ++ of number) c.loop-number.invariant.files
          ∙ sym (flat_map-append of (range_with_len 1 (number - 1)) (number ∷ []))
          ∙ ap (flat_map of) (sym (counted number c.loop-number.invariant.some));
      drawn = c.in_ok-push_package.ensures.last c.args.count drawn;
    }
