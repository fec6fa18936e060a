use Rattle.std.proofs.Common.{sym, ap, ◌∙◌, subst}
use Rattle.impossible_conditions.specs.FlagSettings.{AreEntries}
use Rattle.impossible_conditions.proofs.Settings.{entry-put, holds-at}
use Rattle.impossible_conditions.proofs.flag_settings.map_of.Goals as goal

pub loop-setting-preserved : goal.loop-setting-preserved
loop-setting-preserved c flags all =
    let s = c.setting-item.result in
    let is = holds-at flags c.args.settings.now c.loop-setting.setting-index s all c.loop-setting-test.true c.setting-item.is in
    subst (AreEntries flags) (sym c.in_ok-insert.ensures.entries) (entry-put flags c.loop-setting.map.entries c.in_ok-copy.field-0 s.on (c.loop-setting.invariant flags all) (ap flags c.in_ok-copy.ensures ∙ is))
