use Rattle.std.proofs.Common.{◌≡◌, ◌≢◌, None, sym, subst}
use Rattle.component_cycle.specs.declared.search.NodeState.TheVariants.{Unseen}
use Rattle.component_cycle.specs.Search.{IsSound, state}
use Rattle.component_cycle.proofs.Enters.{entered-sound, entered-seen, entered-root}
use Rattle.component_cycle.proofs.Ends.{root-sound, root-leads}
use Rattle.component_cycle.proofs.search.Search.finish.Goals as goal

pub loop-mark-init : goal.loop-mark-init
loop-mark-init c =
    let needs = c.args.needs.now in
    let s = c.args.self.now in
    let root = c.args.root in
    let unseen : state s root ≡ Unseen = c.is_unseen.ensures.0 c.if-not-is_unseen.false in
    let sound = root-sound needs s c.requires.sound c.requires.marks root in
    let leads = root-leads needs s c.requires.sound c.requires.marks root in
    record {
      sound = subst (λ t. IsSound needs t None) (sym c.in_ok-enter.ensures) (entered-sound needs s root sound unseen c.requires.root leads);
      root = subst (λ t. state t root ≢ Unseen) (sym c.in_ok-enter.ensures) (entered-root needs s root sound unseen c.requires.root leads);
      seen = λ v ne. subst (λ t. state t v ≢ Unseen) (sym c.in_ok-enter.ensures) (entered-seen needs s root sound unseen c.requires.root leads v ne);
    }
