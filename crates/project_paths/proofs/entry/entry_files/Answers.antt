use Rattle.std.proofs.Common.{◌≡◌, List, sym, ap, ◌∙◌, subst}
use Rattle.std.specs.Prelude.{Result, Some}
use Rattle.common_laws.specs.Small.{if_some, some_at}
use Rattle.outside_folder.specs.Files.{Bytes}
use Rattle.plan_types.specs.Refusal.{Answers}
use Rattle.plan_types.specs.declared.refusal.Refusal.{Refusal}
use Rattle.project_paths.specs.Entries.{files_by}
use Rattle.project_paths.specs.Found.{found_by}
use Rattle.project_paths.specs.Patterns.{pattern_of}
use Rattle.project_paths.proofs.Seen.{judged-answers}
use Rattle.project_paths.proofs.entry.entry_files.Goals as goal

pub returns-in_ok-found-in-Some-clause-observed : goal.returns-in_ok-found-in-Some-clause-observed
returns-in_ok-found-in-Some-clause-observed g c = if_some _ (g.F.Folder.tells c.args.folder.now) (λ files t.
    let entry = c.args.entry.now in
    let pattern = c.in-Some.pattern in
    let is : Some pattern ≡ pattern_of entry.text = sym c.in-Some.is ∙ c.in_ok-pattern.ensures ∙ ap pattern_of c.as_str.ensures in
    subst (λ (outcome : Result (List Bytes) Refusal). Answers (λ found. found ≡ outcome) c.judged.result) (ap (files_by files entry) is)
    (judged-answers entry c.in_ok-found-in-Some.found (found_by files pattern) (some_at _ _ files t c.in_ok-found-in-Some.ensures.observed) c.judged.result c.judged.ensures))
