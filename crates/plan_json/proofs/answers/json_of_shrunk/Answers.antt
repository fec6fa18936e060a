use Rattle.std.proofs.Common.{◌∙◌, ap, subst, sym}
use Rattle.std.proofs.lemmas.Result.{IfOk-weaker}
use Rattle.serde_json.specs.Written.{compact_text}
use Rattle.plan_json.specs.Line.{IsPlain, ReadsAs}
use Rattle.plan_json.specs.Texts.{line}
use Rattle.plan_json.proofs.Shapes.{shrunk-plain, shrunk-text}
use Rattle.plan_json.proofs.answers.json_of_shrunk.Goals as goal

pub line_of-requires : goal.line_of-requires
line_of-requires c = subst IsPlain (sym c.in_ok-value.ensures) (shrunk-plain c.args.index.now c.args.names.now c.args.set.now c.args.maps.now c.args.counts)

pub returns-clause-text : goal.returns-clause-text
returns-clause-text c =
    IfOk-weaker c.line_of.result _ _ (λ text is. is ∙ ap (λ value. line (compact_text value)) c.in_ok-value.ensures ∙ sym (shrunk-text c.args.index.now c.args.names.now c.args.set.now c.args.maps.now c.args.counts)) c.line_of.ensures.text

pub returns-clause-reads : goal.returns-clause-reads
returns-clause-reads c = IfOk-weaker c.line_of.result _ _ (λ text reads. subst (λ value. ReadsAs value text) c.in_ok-value.ensures reads) c.line_of.ensures.reads
