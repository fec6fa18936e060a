use Rattle.std.proofs.Common.{◌∷◌, [], sym, ◌∙◌, subst}
use Rattle.std.proofs.lemmas.Result.{on_ok_weaker}
use Rattle.impossible_conditions.specs.FlagSettings.{HaveEntries, AreSet, HasEntries}
use Rattle.impossible_conditions.proofs.Settings.{said-front, said-push}
use Rattle.impossible_conditions.proofs.flag_settings.FlagSettings.share.Goals.{in-Some+then-len+in_ok-push, in_default}
use Rattle.impossible_conditions.proofs.flag_settings.FlagSettings.share.Goals as goal

pub loop-last-preserved : goal.loop-last-preserved
loop-last-preserved c flags set =
    let held = c.loop-last.invariant flags set in
    let parts = said-front flags c.pop.new.self (c.in-Some.last ∷ []) (subst (HaveEntries flags) c.in-Some.ensures held.0.shared) in
    let last = subst (HasEntries flags) (sym c.get-in-Some.ensures) parts.1.0 in
    (record { shared = parts.0; recent = held.0.recent }, (c.in_ok-add_all.ensures flags (held.1, (last, tt))).0)

pub returns : goal.returns
returns c = on_ok_weaker c.push-2.result (λ pushed flags set.
    let held = c.loop-last.invariant flags set in
    let map = subst (HasEntries flags) (sym c.in_ok-new.ensures) held.1 in
    let left : AreSet flags c.match-pop.self = elim c.match-pop.branch [
      | in-Some+then-len+in_ok-push w ↦ subst (AreSet flags) (sym w.self-is) (record { shared = subst (HaveEntries flags) (w.in-Some.ensures ∙ sym w.in_ok-push.ensures.ok) held.0.shared; recent = held.0.recent })
      | in_default w ↦ subst (AreSet flags) (sym w.self-is) (record { shared = subst (HaveEntries flags) (sym w.in_default.ensures.1) tt; recent = held.0.recent })
    ] in
    record { shared = subst (HaveEntries flags) (sym pushed) (said-push flags c.match-pop.self.shared c.in_ok-new.field-0 left.shared map); recent = left.recent }) c.push-2.ensures.ok
