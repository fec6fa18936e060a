use Rattle.std.proofs.Common.{◌≡◌, ◌∙◌, ap, ap₂}
use Rattle.std.proofs.lemmas.Result.{IfErr-weaker, IfOk-weaker}
use Rattle.clap.specs.Walk.{first_of}
use Rattle.clap.specs.Words.{app_of, found_of, is_simple, matches_of, takes}
use Rattle.clap.proofs.WalkLemmas.{first_value-rows}
use Rattle.command_line.specs.OptionName.{name_of}
use Rattle.command_line.specs.Parser.{parser}
use Rattle.command_line.proofs.Parsed.{map_same, parses}
use Rattle.command_line.proofs.parser.parsed.Goals as goal

pub returns-clause-values : goal.returns-clause-values
returns-clause-values c =
    let words = c.args.words.now in
    let app_is : app_of c.in_ok-command.command ≡ parser = c.in_ok-command.ensures in
    IfOk-weaker c.try_get_matches_from.result _ _
    (λ m h option. first_value-rows (found_of m) (name_of option)
    ∙ ap (first_of (name_of option)) ((h (ap is_simple app_is)).0 ∙ ap₂ matches_of app_is (map_same words))
    ∙ (parses words c.requires).values option)
    c.try_get_matches_from.ensures.matches

pub returns-clause-no_memory : goal.returns-clause-no_memory
returns-clause-no_memory c =
    let words = c.args.words.now in
    let app_is : app_of c.in_ok-command.command ≡ parser = c.in_ok-command.ensures in
    IfErr-weaker c.try_get_matches_from.result _ _ (λ e h. h (ap₂ takes app_is (map_same words) ∙ (parses words c.requires).takes_them)) c.try_get_matches_from.ensures.passes
