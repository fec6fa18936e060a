-- the nodes and the places so far
use Rattle.std.proofs.Common.{◌≡◌, map, take}
use Rattle.plan_components.specs.declared.node.Need.{Need}
use Rattle.plan_components.specs.Places.{row_of}
use Rattle.plan_components.specs.Steps.{AppendsNew}
use Rattle.plan_components.proofs.put.put_needed.Given as goal

abbrev pub invariant-loop-need : goal.invariant-loop-need
invariant-loop-need l = record {
  put : AppendsNew (map (λ (n : Need). n.node) (take l.need-index l.needs)) l.fn.nodes.keys l.nodes.keys;
  places : l.places ≡ row_of l.nodes.keys (take l.need-index l.needs);
}
