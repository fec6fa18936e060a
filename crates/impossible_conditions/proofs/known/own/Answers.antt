use Rattle.std.proofs.Common.{ap, ◌∙◌, subst}
use Rattle.std.specs.List.{list_any}
use Rattle.std.proofs.lemmas.Result.{IfOk-weaker}
use Rattle.conditionals.specs.Paths.{holds}
use Rattle.impossible_conditions.specs.Known.{OneHolds}
use Rattle.impossible_conditions.proofs.known.own.Goals as goal

pub returns-in-Some : goal.returns-in-Some
returns-in-Some c =
    IfOk-weaker c.by_paths.result _ _ (λ known met flags one. met flags (ap (list_any (holds flags)) c.as_slice.ensures ∙ subst (OneHolds flags) c.in-Some.is one)) c.by_paths.ensures

pub returns-in-None : goal.returns-in-None
returns-in-None c flags one = c.unknown.ensures flags
