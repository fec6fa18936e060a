use Rattle.std.proofs.Common.{◌≡◌, ◌++◌, ◌∷◌, [], ap, ◌∙◌, sym}
use Rattle.std.specs.Prelude.{slice_index_or}
use Rattle.std.proofs.lemmas.List.{get_or_read}
use Rattle.solver_index.specs.Dependencies.{need_at, need_of}
use Rattle.solver_index.proofs.ListLaws.{map-more}
use Rattle.solver_index.proofs.sources.Sources.needs.Goals as goal

pub loop-place-preserved : goal.loop-place-preserved
loop-place-preserved c =
    let n = c.loop-place.place in
    let packages = c.args.self.now.packages.now in
    let table = c.args.self.now.names.now in
    let need = need_at packages table c.args.ids.now c.args.names.now in
    let name = get_or_read c.args.names.now n c.index-names-place.result c.loop-place-test.true c.index-names-place.is [] in
    let same : c.in_ok-need.field-0 ≡ need n =
    c.in_ok-need.ensures ∙ ap (λ id. need_of packages table id c.index-names-place.result) c.id_at-id.ensures ∙ ap (need_of packages table (slice_index_or c.args.ids.now n [])) name in
    c.in_ok-push.ensures.ok ∙ ap (λ d. c.loop-place.needs ++ d ∷ []) same ∙ ap (λ l. l ++ need n ∷ []) c.loop-place.invariant ∙ sym (map-more need n)
