use Rattle.std.proofs.Common.{Result, Ok, Err, ap, ◌∙◌, map, not}
use Rattle.std.specs.Result.{OnErr}
use Rattle.stanza_imports.specs.Names.{has, with_name}
use Rattle.stanza_imports.proofs.NameList.{any-shown, with-shown}
use Rattle.plan_types.specs.Bytes.{same_text}
use Rattle.stanza_imports.proofs.name_set.NameSet.insert.Goals as goal

pub returns-clause-new : goal.returns-clause-new
returns-clause-new c = c.in_ok-new.ensures.added ∙ ap not (any-shown (λ k. k.now) (same_text c.args.name.now) c.self.inside.set.keys ∙ ap (λ n. has n c.args.name.now) c.self.view_is)

pub returns-clause-names : goal.returns-clause-names
returns-clause-names c =
    ap (map (λ k. k.now)) c.in_ok-new.ensures.keys ∙ with-shown (λ k. k.now) c.args.name c.self.inside.set.keys ∙ ap (λ n. with_name n c.args.name.now) c.self.view_is

-- a true statement is true on an error, too
on-err : {T E P : Type 0} (result : Result T E) → P → OnErr result P
on-err (Ok x) p = tt
on-err (Err e) p = p

pub returns-in_err-new-clause-unchanged : goal.returns-in_err-new-clause-unchanged
returns-in_err-new-clause-unchanged c = on-err c.from_residual.result (ap (map (λ k. k.now)) c.in_err-new.ensures.err ∙ c.self.view_is)
