use Rattle.std.proofs.Common.{lit<, sym, ap, ◌∙◌}
use Rattle.std.proofs.lemmas.Option.{MatchOption-at_none, MatchOption-at_some}
use Rattle.std.proofs.lemmas.Str.Pattern.{strip_suffix_char}
use Rattle.project_paths.specs.Patterns.{ends_in_slash, stem}
use Rattle.project_paths.proofs.Texts.{bare, ends-push, stem-push}
use Rattle.project_paths.proofs.pattern.without_slash.Goals as goal

pub returns-in-Some-clause-stem : goal.returns-in-Some-clause-stem
returns-in-Some-clause-stem c =
    let e = MatchOption-at_some _ _ c.in-Some.stem c.in-Some.is (strip_suffix_char 47 c.args.text.now c.strip_suffix.result c.strip_suffix.ensures.cases (lit< tt)) in
    sym (ap stem e ∙ stem-push c.in-Some.stem.now)

pub returns-in-Some-clause-slash : goal.returns-in-Some-clause-slash
returns-in-Some-clause-slash c =
    let e = MatchOption-at_some _ _ c.in-Some.stem c.in-Some.is (strip_suffix_char 47 c.args.text.now c.strip_suffix.result c.strip_suffix.ensures.cases (lit< tt)) in
    sym (ap ends_in_slash e ∙ ends-push c.in-Some.stem.now)

pub returns-in-None-clause-stem : goal.returns-in-None-clause-stem
returns-in-None-clause-stem c = (bare c.args.text.now (MatchOption-at_none _ _ c.in-None.is (strip_suffix_char 47 c.args.text.now c.strip_suffix.result c.strip_suffix.ensures.cases (lit< tt)))).0

pub returns-in-None-clause-slash : goal.returns-in-None-clause-slash
returns-in-None-clause-slash c = (bare c.args.text.now (MatchOption-at_none _ _ c.in-None.is (strip_suffix_char 47 c.args.text.now c.strip_suffix.result c.strip_suffix.ensures.cases (lit< tt)))).1
