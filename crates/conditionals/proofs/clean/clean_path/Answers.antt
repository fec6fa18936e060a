use Rattle.std.proofs.Common.{rules, ◌≡◌, ◌++◌, ◌∷◌, [], None, Some, ◌&&◌, sym, ap, ◌∙◌, append_assoc, map}
use Rattle.std.specs.Vec.Iter.{into_iter_items}
use Rattle.conditionals.specs.Value.{flag_in}
use Rattle.conditionals.specs.Paths.{is_consistent}
use Rattle.conditionals.specs.Settings.{setting_of}
use Rattle.conditionals.proofs.Cleaning.{kept_new, agrees_new, kept_old, flag_old, agrees_old, differs, consistent_push, entries_new, known_new, not_clean, not_same, both_same}
use Rattle.conditionals.proofs.clean.clean_path.Goals as goal

pub loop-setting-preserved-in_ok-insert-in-None-get : goal.loop-setting-preserved-in_ok-insert-in-None-get
loop-setting-preserved-in_ok-insert-in-None-get c =
    let taken = c.loop-setting.yielded in
    let s = c.in-Some.setting in
    let rest = into_iter_items c.next.new.self in
    let next : into_iter_items c.loop-setting.setting-iterator ≡ s ∷ rest = search rules in
    let absent = sym c.in-None-get.ensures.value in
    let none : flag_in taken s.name ≡ None = sym (c.loop-setting.invariant.seen s.name) ∙ absent in
    record {
      all = append_assoc taken (s ∷ []) rest ∙ ap (λ l. taken ++ l) (sym next) ∙ c.loop-setting.invariant.all;
      kept = ap (λ l. map setting_of l) c.in_ok-insert-in-None-get.ensures.entries ∙ entries_new _ s absent ∙ ap (λ l. l ++ s ∷ []) c.loop-setting.invariant.kept ∙ sym (kept_new taken s none);
      consistent = consistent_push taken s ∙ (λ i. c.loop-setting.invariant.consistent i && agrees_new taken s none i);
      seen = known_new _ _ taken s c.in_ok-insert-in-None-get.ensures.updates.0 c.loop-setting.invariant.seen none;
    }

pub returns-then-before-on : goal.returns-then-before-on
returns-then-before-on c =
    let taken = c.loop-setting.yielded in
    let s = c.in-Some.setting in
    let rest = into_iter_items c.next.new.self in
    let next : into_iter_items c.loop-setting.setting-iterator ≡ s ∷ rest = search rules in
    let some : flag_in taken s.name ≡ Some c.in-Some-get.before.now = sym (c.loop-setting.invariant.seen s.name) ∙ sym c.in-Some-get.ensures.value in
    let all : taken ++ s ∷ rest ≡ c.args.path = ap (λ l. taken ++ l) (sym next) ∙ c.loop-setting.invariant.all in
    not_clean c.args.path (sym (ap is_consistent all) ∙ differs taken rest s c.in-Some-get.before.now some (not_same _ _ c.if-before-on.true))

pub loop-setting-preserved : goal.loop-setting-preserved
loop-setting-preserved c =
    let taken = c.loop-setting.yielded in
    let s = c.in-Some.setting in
    let rest = into_iter_items c.next.new.self in
    let next : into_iter_items c.loop-setting.setting-iterator ≡ s ∷ rest = search rules in
    let some : flag_in taken s.name ≡ Some c.in-Some-get.before.now = sym (c.loop-setting.invariant.seen s.name) ∙ sym c.in-Some-get.ensures.value in
    let is = both_same c.in-Some-get.before.now s.on c.if-before-on.false in
    record {
      all = append_assoc taken (s ∷ []) rest ∙ ap (λ l. taken ++ l) (sym next) ∙ c.loop-setting.invariant.all;
      kept = c.loop-setting.invariant.kept ∙ sym (kept_old taken s c.in-Some-get.before.now some);
      consistent = consistent_push taken s ∙ (λ i. c.loop-setting.invariant.consistent i && agrees_old taken s c.in-Some-get.before.now some is c.loop-setting.invariant.consistent i);
      seen = λ q. c.loop-setting.invariant.seen q ∙ sym (flag_old taken s c.in-Some-get.before.now q some);
    }
