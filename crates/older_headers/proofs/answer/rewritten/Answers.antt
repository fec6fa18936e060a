use Rattle.std.proofs.Common.{Err, ap, ◌∙◌}
use Rattle.std.proofs.lemmas.Result.{IfOk-weaker, IfErr-weaker, err_from_is_err_and}
use Rattle.plan_types.specs.Refusal.{RefusesAt}
use Rattle.older_headers.specs.Answers.{IsAnswer, IsMade, IsRefusal, IsSaid, IsUnsaid}
use Rattle.older_headers.proofs.Made.{answer-from, passed-on, refusal-from, ruled-from}
use Rattle.older_headers.proofs.answer.rewritten.Goals as goal

pub returns-clause-answer : goal.returns-clause-answer
returns-clause-answer c = λ unread.
    let made : IsMade c.args.bytes.now c.in_ok-modern.modern = record { older = c.in_ok-older.older; tree = c.in_ok-older.ensures.tree; rules = c.in_ok-modern.ensures.modern } in
    IfOk-weaker c.said.result (IsSaid c.in_ok-modern.modern) (IsAnswer c.args.bytes.now) (answer-from c.args.bytes.now c.in_ok-modern.modern unread made) c.said.ensures.answer

pub returns-clause-refusal : goal.returns-clause-refusal
returns-clause-refusal c = λ unread.
    let made : IsMade c.args.bytes.now c.in_ok-modern.modern = record { older = c.in_ok-older.older; tree = c.in_ok-older.ensures.tree; rules = c.in_ok-modern.ensures.modern } in
    IfErr-weaker c.said.result (RefusesAt (IsUnsaid c.in_ok-modern.modern)) (RefusesAt (IsRefusal c.args.bytes.now))
    (refusal-from c.args.bytes.now c.in_ok-modern.modern unread made) c.said.ensures.refusal

pub returns-in_err-modern-clause-refusal : goal.returns-in_err-modern-clause-refusal
returns-in_err-modern-clause-refusal c = λ unread.
    let passed = err_from_is_err_and c.from_residual-in_err-modern.result c.from_residual-in_err-modern.ensures.1 in
    passed-on (IsRefusal c.args.bytes.now) c.from_residual-in_err-modern.result c.in_err-modern.field-0.0 (passed.1 ∙ ap Err passed.2)
    (ruled-from c.args.bytes.now c.in_ok-older.older unread c.in_ok-older.ensures.tree c.in_err-modern.field-0.0 c.in_err-modern.ensures.fault)
