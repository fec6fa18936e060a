use Rattle.std.proofs.Common.{◌≡◌, length, map, sym, ap, ◌∙◌, subst}
use Rattle.std.specs.List.{All, range_with_len}
use Rattle.std.proofs.lemmas.Result.{IfOk-weaker}
use Rattle.preferences.specs.declared.candidate.Candidate.{Candidate}
use Rattle.preferences.specs.Places.{IsOrder}
use Rattle.preferences.specs.Candidate.{IsFor}
use Rattle.preferences.proofs.Made.{is-order}
use Rattle.preferences.proofs.places.order.Goals as goal

pub returns : goal.returns
returns c =
    let instances = c.args.instances.now in
    let preferred = c.args.preferred.now in
    let made = c.in_ok-candidates.candidates.items in
    let cs = c.sort.new.candidates.items in
    let places = c.in_ok-candidates.ensures.places ∙ ap (λ l. range_with_len 0 (length l)) c.as_slice.ensures in
    let each : All (IsFor preferred instances) made =
    subst (λ l. All (IsFor preferred l) made) c.as_slice.ensures (subst (λ l. All (IsFor l c.as_slice.result.now) made) c.as_slice-2.ensures c.in_ok-candidates.ensures.each) in
    let order = is-order c.args.policy preferred instances made cs places each c.in_ok-sort.ensures.each c.in_ok-sort.ensures.sorted in
    IfOk-weaker c.places_of.result (λ l. l ≡ map (λ (x : Candidate). x.place) c.as_slice-3.result.now) (IsOrder c.args.policy preferred instances)
    (λ found e. subst (λ l. IsOrder c.args.policy preferred instances l) (sym (e ∙ ap (map (λ (x : Candidate). x.place)) c.as_slice-3.ensures.value)) order) c.places_of.ensures
