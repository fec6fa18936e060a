use Rattle.std.proofs.Common.{subst, sym}
use Rattle.common_laws.specs.Small.{if_some, some_at}
use Rattle.impossible_conditions.specs.FlagSettings.{HaveEntries}
use Rattle.impossible_conditions.proofs.flag_settings.FlagSettings.get.Goals as goal

pub returns-in-None : goal.returns-in-None
returns-in-None c = if_some _ c.get_shared.result (λ on is flags set. some_at _ c.get_shared.result on is c.get_shared.ensures flags (subst (HaveEntries flags) (sym c.as_slice-in-None.ensures) set.shared))
