use Rattle.std.proofs.Common.{◌≡◌, ◌+◌, List, [], Ok, Err, ◌∙◌, ap, subst, sym, drop, arith}
use Rattle.std.proofs.lemmas.List.{drop_all}
use Rattle.common_laws.specs.Small.{if_some, some_at}
use Rattle.outside_folder.proofs.CallSequences.{onward}
use Rattle.outside_folder.specs.Calls.{content_at}
use Rattle.outside_folder.specs.Files.{Bytes, Files}
use Rattle.outside_folder.specs.declared.calls.Content.{Content}
use Rattle.plan_types.specs.Refusal.{Answers, Settles}
use Rattle.modern_files.specs.Lists.{AreListed, IsListed}
use Rattle.modern_files.proofs.Steps.{Goes, err-passed, listed-stop, lists-end, lists-next}
use Rattle.modern_files.proofs.lists.read_lists.Goals as goal

pub loop-list-preserved : goal.loop-list-preserved
loop-list-preserved g c = record {
  goes = λ files t.
      let list = c.list-item.result in
      let found : c.in_ok-content.content ≡ content_at files list =
      some_at _ _ files (c.loop-list.invariant.folder.same_files ∙ t) c.in_ok-content.ensures.observed ∙ ap (content_at files) c.as_str.ensures in
      let is : IsListed list (content_at files list) (Ok c.in_ok-more.more) = subst (λ (at : Content). IsListed list at (Ok c.in_ok-more.more)) found c.in_ok-more.ensures in
      subst (Goes files c.args.lists.now (c.loop-list.list-index + 1)) (sym c.in_ok-append.ensures.ok)
      (lists-next files c.args.lists.now c.loop-list.list-index list c.loop-list.paths c.in_ok-more.more c.loop-list-test.true c.list-item.is (c.loop-list.invariant.goes files t) is);
  folder = onward _ _ _ _ _ (λ never. absurd never) (λ e. cc e) c.loop-list.invariant.folder c.in_ok-content.ensures.folder;
}

pub returns-in_err-more-clause-observed : goal.returns-in_err-more-clause-observed
returns-in_err-more-clause-observed g c = if_some _ _ (λ files t.
    let list = c.list-item.result in
    let stop = c.in_err-more.field-0.0 in
    let passed : c.from_residual-in_err-more.result ≡ Err stop = err-passed c.from_residual-in_err-more.result c.from_residual-in_err-more.ensures.1 in
    let found : c.in_ok-content.content ≡ content_at files list =
    some_at _ _ files (c.loop-list.invariant.folder.same_files ∙ t) c.in_ok-content.ensures.observed ∙ ap (content_at files) c.as_str.ensures in
    let is : Settles (IsListed list (content_at files list)) (Err stop) = subst (λ (at : Content). Settles (IsListed list at) (Err stop)) found c.in_err-more.ensures in
    subst (Answers (AreListed files c.args.lists.now)) (sym passed)
    (listed-stop files c.args.lists.now c.loop-list.list-index list c.loop-list.paths stop c.loop-list-test.true c.list-item.is (c.loop-list.invariant.goes files t) is))

pub returns-clause-observed : goal.returns-clause-observed
returns-clause-observed g c = if_some _ _ (λ files t.
    let over : drop c.loop-list.list-index c.args.lists.now ≡ [] = drop_all c.loop-list.list-index c.args.lists.now (omega (arith, c.loop-list-test.false, c.loop-list.auto.list-index-end)) in
    lists-end files c.args.lists.now c.loop-list.list-index c.loop-list.paths over (c.loop-list.invariant.goes files t))
