use Rattle.std.proofs.Common.{◌≡◌, ◌++◌, ◌∷◌, [], ℕ, Bool, List, true, false, cond, filter, map, not, take, sym, ap, ◌∙◌}
use Rattle.std.proofs.lemmas.List.{append-nil}
use Rattle.plan_types.specs.declared.condition.FlagSet.{FlagSet}
use Rattle.plan_types.specs.declared.description.FlagDecl.{FlagDecl}
use Rattle.frozen_choices.specs.Frozen.{flag_beside, is_automatic, is_manual}
use Rattle.freeze_file.proofs.Picked.{picked-more}
use Rattle.freeze_file.proofs.flags.automatic_beside.Goals as goal
use Rattle.freeze_file.proofs.flags.automatic_beside.Goals.{then-not-has+in_ok-set+in_ok-push, else-not-has}

pub loop-flag-preserved : goal.loop-flag-preserved
loop-flag-preserved c =
    let names = c.args.names.now in
    let entries = c.args.entries.now in
    let flags = c.args.flags.now in
    let i = c.loop-flag.flag-index in
    let decl = c.flag-item.result in
    let set : FlagDecl → FlagSet = flag_beside names c.args.trail.now c.args.choice.now in
    let test : FlagDecl → Bool = is_automatic names entries in
    let passes : not c.has.result ≡ test decl =
    ap not (c.has.ensures ∙ c.in_ok-manual.ensures c.flag_number.result ∙ ap (λ (n : ℕ). is_manual names entries n) c.flag_number.ensures) in
    let more = λ (b : Bool) (e : test decl ≡ b). picked-more set test flags i decl b c.loop-flag-test.true (ap test (sym c.flag-item.is) ∙ e) ∙ ap (λ (d : FlagDecl). map set (filter test (take i flags)) ++ cond b (set d ∷ []) []) (sym c.flag-item.is) in
    elim c.if-not-has.branch [
      | then-not-has+in_ok-set+in_ok-push w ↦
          w.sets-is ∙ w.in_ok-push.ensures.ok ∙ ap (λ (s : FlagSet). c.loop-flag.sets ++ s ∷ []) (w.in_ok-set.ensures)
          ∙ ap (λ (l : List FlagSet). l ++ set decl ∷ []) c.loop-flag.invariant ∙ sym (more true (sym passes ∙ ap not w.if-not-has.true))
      | else-not-has w ↦ w.sets-is ∙ c.loop-flag.invariant ∙ sym (more false (sym passes ∙ ap not w.if-not-has.false) ∙ append-nil _)
    ]
