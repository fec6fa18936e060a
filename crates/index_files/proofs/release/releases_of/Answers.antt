use Rattle.std.proofs.Common.{◌≡◌, ◌+◌, ◌++◌, ◌∷◌, [], take, length, subst, sym, ◌∙◌, arith}
use Rattle.std.proofs.lemmas.List.{take_all, length-take-le}
use Rattle.index_files.specs.Releases.{AreReleases}
use Rattle.index_files.proofs.Joined.{releases-more}
use Rattle.common_laws.specs.Lists.{take_at}
use Rattle.index_files.proofs.release.releases_of.Goals as goal

pub loop-place-preserved : goal.loop-place-preserved
loop-place-preserved c =
    let place = c.loop-place.place in
    let within = c.loop-place-test.true in
    let many : length c.args.files.now ≡ length c.args.dirs.now = c.requires.as_many in
    let as_many = length-take-le place c.args.files.now (omega (arith, within, many)) ∙ sym (length-take-le place c.args.dirs.now (omega (arith, within))) in
    subst (λ ds. AreReleases c.args.env.now c.args.name.now ds (take (place + 1) c.args.files.now) c.push_release.new.releases) (sym (take_at c.args.dirs.now place c.index-dirs-place.result within c.index-dirs-place.is))
    (subst (λ fs. AreReleases c.args.env.now c.args.name.now (take place c.args.dirs.now ++ c.index-dirs-place.result ∷ []) fs c.push_release.new.releases) (sym (take_at c.args.files.now place c.index-files-place.result (omega (arith, within, many)) c.index-files-place.is))
    (releases-more c.args.env.now c.args.name.now _ _ c.index-dirs-place.result c.index-files-place.result c.loop-place.releases c.push_release.new.releases as_many c.loop-place.invariant c.in_ok-push_release.ensures))

pub returns : goal.returns
returns c =
    let done = c.loop-place-test.false in
    let many : length c.args.files.now ≡ length c.args.dirs.now = c.requires.as_many in
    subst (λ ds. AreReleases c.args.env.now c.args.name.now ds c.args.files.now c.loop-place.releases) (take_all c.loop-place.place c.args.dirs.now done)
    (subst (λ fs. AreReleases c.args.env.now c.args.name.now (take c.loop-place.place c.args.dirs.now) fs c.loop-place.releases) (take_all c.loop-place.place c.args.files.now (omega (arith, done, many))) c.loop-place.invariant)
