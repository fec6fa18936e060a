use Rattle.std.proofs.Common.{rules, ◌≡◌, ◌∷◌, sym, ap, ◌∙◌, subst}
use Rattle.impossible_conditions.specs.FlagSettings.{AreEntries}
use Rattle.impossible_conditions.proofs.Settings.{entry-put}
use Rattle.impossible_conditions.proofs.flag_settings.add_all.Goals as goal

pub loop-name-preserved : goal.loop-name-preserved
loop-name-preserved c flags map more =
    let next : c.loop-name.name-iterator ≡ (c.in-Some.name.now, c.in-Some.on.now) ∷ c.next.new.self = search rules in
    let held = c.loop-name.invariant flags map more in
    let left = subst (AreEntries flags) next held.1 in (
      subst (AreEntries flags) (sym c.in_ok-insert.ensures.entries) (entry-put flags c.loop-name.map.entries c.in_ok-copy.field-0 c.in-Some.on.now held.0 (ap flags c.in_ok-copy.ensures ∙ left.0)),
      left.1,
    )

pub returns : goal.returns
returns c flags said = ((c.loop-name.invariant flags said.0 said.1.0).0, tt)
