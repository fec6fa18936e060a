use Rattle.std.proofs.Common.{◌≡◌, ℕ, ◌++◌, ◌∷◌, [], true, false, cond, ◌&&◌, ap, ◌∙◌, sym, refl}
use Rattle.std.specs.List.{filter}
use Rattle.std.proofs.lemmas.List.{append-nil, get_or_read}
use Rattle.solver_index.specs.Allowed.{is_unit}
use Rattle.solver_index.specs.Places.{entry_at, no_entry, rising}
use Rattle.keyed_lists.specs.Lists.{items_at}
use Rattle.solver_index.specs.Units.{UnitPlaces}
use Rattle.solver_index.proofs.ListLaws.{rising-more}
use Rattle.solver_index.proofs.units.unit_places.Goals as goal
use Rattle.solver_index.proofs.units.unit_places.Goals.{then-is_installed+in_ok-copy+in_ok-push_at, else-is_installed}
use Rattle.plan_types.specs.Bytes.{same_text}
use Rattle.plan_types.specs.Packages.{is_installed}

pub loop-place-preserved : goal.loop-place-preserved
loop-place-preserved c = λ id.
    let i = c.loop-place.place in
    let entries = c.args.entries.now in
    let e = c.index-entries-place.result in
    let here : e ≡ entry_at entries i = get_or_read entries i e c.loop-place-test.true c.index-entries-place.is no_entry in
    let test = λ (k : ℕ). is_unit id (entry_at entries k) in
    elim c.if-is_installed.branch [
      | then-is_installed+in_ok-copy+in_ok-push_at w ↦
          let installed : is_installed e.body ≡ true = sym c.is_installed.ensures ∙ w.if-is_installed.true in
          let here_is : test i ≡ same_text e.instance.unit id = ap (is_unit id) (sym here) ∙ ap (λ b. b && same_text e.instance.unit id) installed in
          ap (λ (u : UnitPlaces). items_at same_text u id) w.units-is ∙ w.in_ok-push_at.ensures.ok id
          ∙ ap (λ l. l ++ cond (same_text w.in_ok-copy.field-0 id) (i ∷ []) []) (c.loop-place.invariant id)
          ∙ ap (λ b. filter test (rising i) ++ cond b (i ∷ []) []) (ap (λ k. same_text k id) w.in_ok-copy.ensures ∙ sym here_is)
          ∙ sym (rising-more test i (test i) refl)
      | else-is_installed w ↦
          let source : is_installed e.body ≡ false = sym c.is_installed.ensures ∙ w.if-is_installed.false in
          let here_is : test i ≡ false = ap (is_unit id) (sym here) ∙ ap (λ b. b && same_text e.instance.unit id) source in
          ap (λ (u : UnitPlaces). items_at same_text u id) w.units-is ∙ c.loop-place.invariant id ∙ sym (append-nil (filter test (rising i))) ∙ sym (rising-more test i false here_is)
    ]
