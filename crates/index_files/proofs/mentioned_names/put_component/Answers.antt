use Rattle.std.proofs.Common.{map, flat_map, ap, ◌∙◌, arith}
use Rattle.std.proofs.lemmas.List.{take_all}
use Rattle.flatten.specs.Demands.{outward_among}
use Rattle.index_files.specs.Names.{put_all}
use Rattle.index_files.specs.Releases.{outward_name}
use Rattle.index_files.proofs.Groups.{group_names, names-in-groups}
use Rattle.index_files.proofs.AddedNames.{put_more}
use Rattle.index_files.proofs.mentioned_names.put_component.Goals as goal

pub loop-group-preserved : goal.loop-group-preserved
loop-group-preserved c =
    put_more (group_names c.args.component.now) c.args.names.now.keys c.groups-group-items.result.now c.loop-group.group-index c.group-item.result c.loop-group-test.true c.group-item.is _ _ c.loop-group.invariant
    (c.in_ok-put_group.ensures c.args.component.now)

pub returns : goal.returns
returns c =
    c.loop-group.invariant
    ∙ ap (λ groups. put_all c.args.names.now.keys (flat_map (group_names c.args.component.now) groups)) (take_all c.loop-group.group-index c.groups-group-items.result.now (omega arith))
    ∙ ap (put_all c.args.names.now.keys) (names-in-groups c.args.component.now c.groups-group-items.result.now)
    ∙ ap (λ deps. put_all c.args.names.now.keys (map outward_name (outward_among c.args.component.now deps))) c.groups-group-items.ensures
