use Rattle.std.proofs.Common.{sym, ap, ◌∙◌}
use Rattle.common_laws.specs.Small.{same-is}
use Rattle.impossible_conditions.proofs.Settings.{holds-at}
use Rattle.impossible_conditions.proofs.flag_settings.get_recent.Goals as goal

pub returns-then-eq : goal.returns-then-eq
returns-then-eq c flags all =
    let s = c.setting-item.result in
    ap flags (sym (same-is s.name c.args.name.now (sym c.eq.ensures ∙ c.if-eq.true))) ∙ holds-at flags c.args.recent.now c.loop-setting.setting-index s all c.loop-setting-test.true c.setting-item.is
