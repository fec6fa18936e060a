use Rattle.std.proofs.Common.{◌∷◌, length, sym, ap, ◌∙◌, subst}
use Rattle.std.proofs.lemmas.Bool.{ltb-true}
use Rattle.std.proofs.lemmas.Result.{IfOk-weaker}
use Rattle.plan_types.specs.Conditions.{cond_of, numbered}
use Rattle.impossible_conditions.specs.Known.{IsKnown}
use Rattle.impossible_conditions.proofs.Rows.{known-at, numbered-front, numbered-next, parts-yes}
use Rattle.conditionals.specs.Value.{value}
use Rattle.impossible_conditions.proofs.known.known_of.Goals as goal

pub returns-in_default : goal.returns-in_default
returns-in_default c before more known is flags met = c.unknown.ensures flags

pub returns-in_ok-paths-in-Own : goal.returns-in_ok-paths-in-Own
returns-in_ok-paths-in-Own c =
    let env = c.args.env.now in
    let all = c.args.all.now in
    IfOk-weaker c.own.result _ _ (λ outlook own before more known is.
    let row = ap (λ conds. numbered conds (length all)) is ∙ numbered-next env before more all (cond_of before c.args.row.now) known in
    subst (λ cond. IsKnown env cond outlook) row (λ flags met. own flags (c.in_ok-paths-in-Own.ensures flags met))) c.own.ensures

pub returns-in_ok-paths-in-Both : goal.returns-in_ok-paths-in-Both
returns-in_ok-paths-in-Both c =
    let env = c.args.env.now in
    let all = c.args.all.now in
    let i = c.in-Both.front in
    let j = c.in-Both.last in
    let in-front = ltb-true _ _ (sym c.in-Some-Some.ensures.lookup.0) in
    let in-last = ltb-true _ _ (sym c.in-Some-Some.ensures'.lookup.0) in
    IfOk-weaker c.both.result _ _ (λ outlook both before more known is flags met.
    let row = ap (cond_of before) c.in-Both.is in
    let parts = parts-yes env flags (numbered before i) (numbered before j) (sym (ap (value env flags) row) ∙ met) in
    let last = ap (λ conds. numbered conds j) is ∙ numbered-front env before (cond_of before c.args.row.now ∷ more) all j known in-last in
    both flags
    (known-at env before all i c.in-Some-Some.first.now known in-front c.in-Some-Some.ensures.lookup.1 flags parts.0)
    (known-at env before all j c.in-Some-Some.second.now known in-last c.in-Some-Some.ensures'.lookup.1 flags parts.1)
    (c.in_ok-paths-in-Both.ensures flags (ap (value env flags) last ∙ parts.1))) c.both.ensures
