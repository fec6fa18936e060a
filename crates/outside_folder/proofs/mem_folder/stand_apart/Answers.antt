use Rattle.std.proofs.Common.{◌≡◌, ◌⊎◌, true, false, sym, subst, ap, ◌∙◌, arith}
use Rattle.outside_folder.specs.Files.{is_path}
use Rattle.outside_folder.specs.MemFile.{IsFree, IsUnderFile}
use Rattle.outside_folder.proofs.FileTrees.{fits_more, fit_tree, bad_file}
use Rattle.outside_folder.proofs.mem_folder.stand_apart.Goals as goal

pub loop-file-preserved : goal.loop-file-preserved
loop-file-preserved c =
    fits_more c.args.files.now c.args.places.now c.loop-file.file-index c.file-item.result c.loop-file-test.true c.file-item.is
    (subst (λ p. (is_path p ≡ true) × IsFree c.args.places.now p) c.as_str.ensures c.if-not-fits.ensures) c.loop-file.invariant

pub returns-then-not-fits : goal.returns-then-not-fits
returns-then-not-fits c =
    let path = c.as_str.ensures ∙ ap (λ f. f.path) c.file-item.is in
    sym (bad_file c.args.files.now c.args.places.now c.requires.placed c.loop-file.file-index c.file-item.result c.loop-file-test.true
    (subst (λ p. (is_path p ≡ false) ⊎ IsUnderFile c.args.places.now p) path c.if-not-fits.ensures))

pub returns : goal.returns
returns c =
    sym (fit_tree c.args.files.now c.args.places.now c.requires.placed c.requires.distinct
    (λ k d low within. c.loop-file.invariant k d (omega (arith, low, c.loop-file-test.false)) within))
