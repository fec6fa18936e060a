use Rattle.std.proofs.Common.{◌∙◌, refl}
use Rattle.std.proofs.lemmas.Result.{on_ok_weaker}
use Rattle.project_file.specs.Project.{entries_at}
use Rattle.project_file.proofs.Taken.{goes, list_is, turned_is}
use Rattle.project_file.proofs.project.take.Goals as goal

pub returns-in-Entries : goal.returns-in-Entries
returns-in-Entries c =
    let old = c.args.project.now in
    on_ok_weaker c.push_entries.result
    (λ e. goes c.args.path.now c.args.part.line old c.in-Entries.is
    (list_is (λ l. record old { entries = l }) old.entries (entries_at c.args.path.now c.args.part.line c.in-Entries.texts c.in-Entries.optional) e))
    c.push_entries.ensures

pub returns-in-Extra : goal.returns-in-Extra
returns-in-Extra c =
    let old = c.args.project.now in
    on_ok_weaker c.append.result (λ e. goes c.args.path.now c.args.part.line old c.in-Extra.is (list_is (λ l. record old { extra = l }) old.extra c.in-Extra.found e)) c.append.ensures.ok

pub returns-in-Constraints : goal.returns-in-Constraints
returns-in-Constraints c =
    let old = c.args.project.now in
    on_ok_weaker c.append-in-Constraints.result
    (λ e. goes c.args.path.now c.args.part.line old c.in-Constraints.is (list_is (λ l. record old { constraints = l }) old.constraints c.in-Constraints.found e)) c.append-in-Constraints.ensures.ok

pub returns-in-Preferences : goal.returns-in-Preferences
returns-in-Preferences c =
    let old = c.args.project.now in
    on_ok_weaker c.append-in-Preferences.result
    (λ e. goes c.args.path.now c.args.part.line old c.in-Preferences.is (list_is (λ l. record old { preferences = l }) old.preferences c.in-Preferences.found e)) c.append-in-Preferences.ensures.ok

pub returns-in-Newer : goal.returns-in-Newer
returns-in-Newer c =
    let old = c.args.project.now in
    on_ok_weaker c.append-in-Newer.result (λ e. goes c.args.path.now c.args.part.line old c.in-Newer.is (list_is (λ l. record old { newer = l }) old.newer c.in-Newer.found e)) c.append-in-Newer.ensures.ok

pub returns-in-Older : goal.returns-in-Older
returns-in-Older c =
    let old = c.args.project.now in
    on_ok_weaker c.append-in-Older.result (λ e. goes c.args.path.now c.args.part.line old c.in-Older.is (list_is (λ l. record old { older = l }) old.older c.in-Older.found e)) c.append-in-Older.ensures.ok

pub returns-in-Switch : goal.returns-in-Switch
returns-in-Switch c =
    let old = c.args.project.now in
    goes c.args.path.now c.args.part.line old c.in-Switch.is (c.turn.ensures ∙ turned_is c.args.path.now c.args.part.line c.in-Switch.which c.in-Switch.on old)

pub returns-in-Limit : goal.returns-in-Limit
returns-in-Limit c = goes c.args.path.now c.args.part.line c.args.project.now c.in-Limit.is refl

pub returns-in-Warning : goal.returns-in-Warning
returns-in-Warning c =
    let old = c.args.project.now in
    on_ok_weaker c.warn.result (λ e. goes c.args.path.now c.args.part.line old c.in-Warning.is (list_is (λ l. record old { warnings = l }) old.warnings _ e)) c.warn.ensures

pub returns-in-Bad : goal.returns-in-Bad
returns-in-Bad c = goes c.args.path.now c.args.part.line c.args.project.now c.in-Bad.is refl
