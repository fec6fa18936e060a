use Rattle.std.proofs.Common.{[], ◌∷◌, cond, flat_map, sym, ap, ◌∙◌, arith}
use Rattle.std.proofs.lemmas.List.{take_all}
use Rattle.index_files.specs.Names.{put, put_all}
use Rattle.index_files.proofs.Groups.{asked_name, names-in-group}
use Rattle.index_files.proofs.AddedNames.{put_more}
use Rattle.index_files.proofs.mentioned_names.put_group.Goals.{then-not-get+in_ok-put, else-not-get}
use Rattle.index_files.proofs.mentioned_names.put_group.Goals as goal

pub loop-dep-preserved : goal.loop-dep-preserved
loop-dep-preserved c =
    let before = c.loop-dep.names.keys in
    let dep = c.dep-item.result in
    let told = ap (λ d. d.internal) (sym c.get.ensures) in
    put_more asked_name c.args.names.now.keys c.as_slice-dep-items.result.now c.loop-dep.dep-index dep c.loop-dep-test.true c.dep-item.is before c.if-not-get.names.keys c.loop-dep.invariant
    (elim c.if-not-get.branch [
      | then-not-get+in_ok-put w ↦
          ap (λ names. names.keys) w.names-is ∙ w.in_ok-put.ensures ∙ ap (λ d. put before d.«package») w.get-then-not-get.ensures
          ∙ sym (ap (λ b. put_all before (cond b [] (dep.«package» ∷ []))) (told ∙ w.if-not-get.true))
      | else-not-get w ↦
          ap (λ names. names.keys) w.names-is ∙ sym (ap (λ b. put_all before (cond b [] (dep.«package» ∷ []))) (told ∙ w.if-not-get.false))
    ])

pub returns : goal.returns
returns c component =
    c.loop-dep.invariant
    ∙ ap (λ deps. put_all c.args.names.now.keys (flat_map asked_name deps)) (take_all c.loop-dep.dep-index c.as_slice-dep-items.result.now (omega arith) ∙ c.as_slice-dep-items.ensures)
    ∙ ap (put_all c.args.names.now.keys) (names-in-group component c.args.group.now.when c.args.group.now.deps)
