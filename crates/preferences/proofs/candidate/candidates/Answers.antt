use Rattle.std.proofs.Common.{◌≡◌, ◌++◌, ◌∷◌, [], map, sym, ap, ◌∙◌, subst}
use Rattle.std.specs.List.{All}
use Rattle.std.proofs.lemmas.List.{map-append, get_or_read}
use Rattle.std.proofs.lemmas.List.Elements.{All-push}
use Rattle.preferences.specs.declared.candidate.Candidate.{Candidate}
use Rattle.preferences.specs.Places.{is_preferred, instance_at, no_instance}
use Rattle.preferences.specs.Candidate.{IsFor}
use Rattle.preferences.proofs.Made.{range-more}
use Rattle.preferences.proofs.candidate.candidates.Goals as goal

pub loop-place-preserved : goal.loop-place-preserved
loop-place-preserved c =
    let inv = c.loop-place.invariant in
    let items = c.loop-place.made.items in
    let n = c.loop-place.place in
    let is = c.in_ok-push.ensures.items in
    let here : c.index-instances-place.result ≡ instance_at c.args.instances.now n = get_or_read c.args.instances.now n c.index-instances-place.result c.loop-place-test.true c.index-instances-place.is no_instance in
    record {
      places = ap (map (λ (x : Candidate). x.place)) is ∙ map-append (λ (x : Candidate). x.place) items _ ∙ ap (λ l. l ++ n ∷ []) inv.places ∙ sym (range-more n);
      each = subst (λ l. All (IsFor c.args.preferred.now c.args.instances.now) l) (sym is)
          (All-push (IsFor c.args.preferred.now c.args.instances.now) items _ inv.each
          (record { instance = here; preference = c.is_preferred.ensures ∙ ap (is_preferred c.args.preferred.now) here }));
    }
