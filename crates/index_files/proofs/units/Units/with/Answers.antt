use Rattle.std.proofs.Common.{◌∙◌, ap}
use Rattle.std.specs.List.{list_all}
use Rattle.index_files.specs.Units.{is_well_formed, place_of, unit_id}
use Rattle.index_files.proofs.Joined.{put-new}
use Rattle.index_files.proofs.AddedNames.{all-last}
use Rattle.index_files.proofs.units.Units.with.Goals as goal

pub invariant_of-result : goal.invariant_of-result
invariant_of-result c =
    let old = c.self.inside.list in (
      put-new unit_id old c.args.unit _ _ _ _ c.self.invariant.0 (ap (λ us. place_of us (unit_id c.args.unit)) c.self.view_is ∙ c.requires.new) c.in_ok-id.ensures c.in_ok-insert.ensures.keys c.in_ok-push.ensures.ok,
      ap (list_all is_well_formed) c.in_ok-push.ensures.ok ∙ all-last is_well_formed old c.args.unit c.self.invariant.1 c.requires.formed,
    )
