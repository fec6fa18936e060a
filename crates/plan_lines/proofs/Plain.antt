-- The line of a node that is built in place and buildable under all flags.
use Rattle.std.proofs.Common.{◌≡◌, Bool, true, false, not, List, [], sym, ap, ◌∙◌}
use Rattle.plan_types.specs.declared.condition.Cond.{Cond}
use Rattle.plan_types.specs.declared.condition.Cond.TheFolds.{fold-roll-Cond}
use Rattle.plan_types.specs.declared.condition.Cond.TheOpen as layer
use Rattle.plan_types.specs.declared.condition.Cond.TheVariants.{Always, rolls-Always}
use Rattle.plan_types.specs.declared.condition.Env.{Env}
use Rattle.plan_types.specs.declared.condition.FlagSet.{FlagSet}
use Rattle.plan_types.specs.declared.description.Description.{Description}
use Rattle.conditionals.specs.declared.value.Tri.{Tri}
use Rattle.conditionals.specs.Paths.{is_wanted}
use Rattle.conditionals.specs.Value.{flag_in, value, value_step}
use Rattle.plan_nodes.specs.declared.node.NodeKind.{NodeKind}
use Rattle.plan_nodes.specs.declared.node.NodeKind.TheVariants as kind
use Rattle.plan_nodes.specs.declared.node.PlanNode.{PlanNode}
use Rattle.plan_components.specs.declared.node.Node.{Node}
use Rattle.plan_components.specs.Chosen.{Selection, condition_holds}
use Rattle.plan_lines.specs.declared.needed.Needed.{Needed}
use Rattle.plan_lines.specs.ComponentName.{piece_name}
use Rattle.plan_lines.specs.Line.{id_by, source_kind, source_line, source_with_id, with_id}
use Rattle.plan_lines.specs.Plain.{AreAlwaysBuildable}

always-condition_holds : (env : Env) (flags : List FlagSet) → condition_holds env flags Always ≡ true
always-condition_holds env flags = ap (is_wanted true) (ap (value env (flag_in flags)) (sym rolls-Always) ∙ fold-roll-Cond Tri (value_step env (flag_in flags)) layer.Always)

pub never-barred : (env : Env) (flags : List FlagSet) (cond : Cond) → cond ≡ Always → not (condition_holds env flags cond) ≡ false
never-barred env flags cond is = ap (λ c. not (condition_holds env flags c)) is ∙ ap not (always-condition_holds env flags)

-- the line is the same under all flags
pub same-line : (selection : Selection) (node : Node) (flags others : List FlagSet) (d : Description) (needed : Needed) → source_kind selection node ≡ kind.Local
    → AreAlwaysBuildable d.components node.piece → source_with_id selection node flags d needed ≡ source_with_id selection node others d needed
same-line selection node flags others d needed local built =
    let with : Bool → PlanNode = λ unbuildable. record {
      kind = source_kind selection node;
      name = d.name;
      version = d.version;
      component = piece_name d node.piece;
      id = [];
      unbuildable = unbuildable;
      libs = needed.libs;
      tools = needed.tools;
      setups = needed.setups;
    } in
    let line = source_line selection node flags d needed in
    let by_kind : (k : NodeKind) → k ≡ kind.Local → with_id (id_by k line d flags selection.env) line ≡ with_id (id_by k line d others selection.env) line =
    λ k is. ap (λ k. with_id (id_by k line d flags selection.env) line) is ∙ sym (ap (λ k. with_id (id_by k line d others selection.env) line) is) in
    by_kind line.kind local
    ∙ ap (λ unbuildable. with_id (id_by (source_kind selection node) (with unbuildable) d others selection.env) (with unbuildable))
    (built selection.env flags ∙ sym (built selection.env others))
