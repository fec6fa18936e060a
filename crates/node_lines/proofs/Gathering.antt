-- The gathered identifiers are those of all needs.
use Rattle.std.proofs.Common.{◌≡◌, ℕ, Bool, List, [], ◌∷◌, map, Option, Some, None, refl, sym, ap, ◌∙◌, ⊎_elim, fold}
use Rattle.std.specs.Prelude.{filter}
use Rattle.std.specs.List.{Contains}
use Rattle.std.specs.BTreeSet.{insert_key}
use Rattle.std.specs.Cmp.Lexicographic.{slice_cmp}
use Rattle.std.specs.Ordering.{nat_cmp}
use Rattle.common_laws.specs.Lists.{contains-cases, contains-head, contains-none, contains-tail}
use Rattle.flatten.specs.Sound.{is_of_setup}
use Rattle.cabal_problem.specs.Variables.{is_tool}
use Rattle.plan_types.specs.declared.dependency.DepKind.{DepKind}
use Rattle.plan_types.specs.declared.dependency.DepKind.TheVariants.{Library, Tool, Setup}
use Rattle.plan_nodes.specs.declared.node.PlanNode.{PlanNode}
use Rattle.plan_components.specs.declared.node.Need.{Need}
use Rattle.plan_components.specs.declared.node.Node.{Node}
use Rattle.plan_lines.specs.declared.needed.Needed.{Needed}
use Rattle.node_lines.specs.Gather.{added, empty, gather_from, gathered, with_line}
use Rattle.node_lines.specs.Lines.{is_of_library, needed_by}

module _ (lines : Node → Option PlanNode) (f : Node → PlanNode) where
  abbrev ids : (DepKind → Bool) → List Need → List (List ℕ)
  ids is_meant needs = map (λ (n : Need). (f n.node).id) (filter (λ (n : Need). is_meant n.kind) needs)

  abbrev behind : Needed → List Need → Needed
  behind so_far needs = record {
    libs = fold (insert_key (slice_cmp nat_cmp)) so_far.libs (ids is_of_library needs);
    tools = fold (insert_key (slice_cmp nat_cmp)) so_far.tools (ids is_tool needs);
    setups = fold (insert_key (slice_cmp nat_cmp)) so_far.setups (ids is_of_setup needs);
  }

  one-more : (kind : DepKind) (node : Node) (so_far : Needed) (needs : List Need)
      → behind (added so_far kind (f node).id) needs ≡ behind so_far (record { kind = kind; node = node } ∷ needs)
  one-more Library node so_far needs = refl
  one-more Tool node so_far needs = refl
  one-more Setup node so_far needs = refl

  all-behind : (so_far : Needed) (needs : List Need) → ((need : Need) → Contains needs need → lines need.node ≡ Some (f need.node))
      → gather_from lines so_far needs ≡ Some (behind so_far needs)
  all-behind so_far [] h = refl
  all-behind so_far (need ∷ needs) h =
      ap (λ o. with_line o (λ line. gather_from lines (added so_far need.kind line.id) needs)) (h need (contains-head need needs))
      ∙ all-behind (added so_far need.kind (f need.node).id) needs (λ n c. h n (contains-tail need needs n c))
      ∙ ap Some (one-more need.kind need.node so_far needs)

  -- if each need has a line, their identifiers are gathered
  pub gathers : (needs : List Need) → ((need : Need) → Contains needs need → lines need.node ≡ Some (f need.node)) → gathered lines needs ≡ Some (needed_by f needs)
  gathers needs h = all-behind empty needs h

module _ (lines : Node → Option PlanNode) where
  -- if identifiers are gathered, each need has a line
  pub have_lines : (so_far needed : Needed) (needs : List Need) → gather_from lines so_far needs ≡ Some needed
      → (need : Need) → Contains needs need → (line : PlanNode) × (lines need.node ≡ Some line)
  have_lines so_far needed [] h need c = absurd (contains-none need c)
  have_lines so_far needed (first ∷ needs) h need c =
      elim (lines first.node) as (λ o. lines first.node ≡ o → with_line o (λ line. gather_from lines (added so_far first.kind line.id) needs) ≡ Some needed
      → (line : PlanNode) × (lines need.node ≡ Some line)) [
        | None ↦ λ e k. absurd (cc k)
        | Some line ↦ λ e k. ⊎_elim
            (λ same. (line, ap (λ (n : Need). lines n.node) (sym same) ∙ e))
            (λ r. have_lines (added so_far first.kind line.id) needed needs k need r)
            (contains-cases first needs need c)
      ] refl h
