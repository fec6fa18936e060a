use Rattle.std.proofs.Common.{true, ap, ◌∙◌}
use Rattle.std.specs.List.{list_any}
use Rattle.conditionals.specs.Paths.{clean_paths, holds, paths_of}
use Rattle.impossible_conditions.proofs.Rows.{one-holds}
use Rattle.impossible_conditions.proofs.known.own_paths.Goals as goal

pub returns : goal.returns
returns c flags is =
    let cond = c.get-3.ensures ∙ c.in_ok-cond.ensures in
    ap (list_any (holds flags)) (c.in_ok-paths.ensures ∙ ap (λ asked. clean_paths (paths_of c.args.env.now asked true)) cond) ∙ one-holds c.args.env.now flags _ is
