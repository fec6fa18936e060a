-- The lines of answers are the compact texts of their values, which have no fractions and are shallow.
use Rattle.std.proofs.Common.{◌≡◌, ◌≤◌, ◌+◌, ◌||◌, ℕ, Bool, true, false, max, List, [], ◌∷◌, ◌++◌, codes, zip, refl, sym, ap, ap₂, ◌∙◌, arith, append_assoc}
use Rattle.std.specs.Prelude.{decimal}
use Rattle.std.specs.List.{concat}
use Rattle.std.proofs.lemmas.Bool.{or_from}
use Rattle.json.specs.Print.{escape_byte, quoted}
use Rattle.plan_types.specs.declared.index.Index.{Index}
use Rattle.plan_types.specs.declared.index.Skipped.{Skipped}
use Rattle.plan_types.specs.declared.index.Warning.{Warning}
use Rattle.qualified_goals.specs.declared.variable.Var.{Var}
use Rattle.qualified_goals.specs.Names.{NameTable}
use Rattle.choice_problem.specs.declared.problem.Choice.{Choice}
use Rattle.choice_problem.specs.declared.outcome.Counts.{Counts}
use Rattle.plan_nodes.specs.declared.node.PlanNode.{PlanNode}
use Rattle.plan_nodes.specs.Line.{all_needs, kind_word, package_text}
use Rattle.serde_json.specs.Data.{Data, boolean, depth, string}
use Rattle.serde_json.specs.Read.{max_depth}
use Rattle.serde_json.specs.Written.{compact_text, has_float}
use Rattle.plan_json.specs.Line.{IsPlain}
use Rattle.plan_json.specs.Texts.{choice_json, conflict_json, without_json, gave_up_json, line, list_text, node_json, not_shrunk_json, plan_json, shrunk_json, skipped_json, truth_text, variable_json, warning_json}
use Rattle.plan_json.specs.Values.{choice_value, conflict_value, without_value, gave_up_value, ids_value, list_of, node_value, not_shrunk_value, plan_value, shrunk_value, skipped_value, variable_value, warning_value}
use Rattle.plan_json.proofs.Lists.{at-most, list-deep, list-text, list-whole}

-- ---- the texts of the parts

ids-text : (node : PlanNode) → compact_text (ids_value node) ≡ list_text (λ id. quoted id) (all_needs node)
ids-text node = list-text (λ id. string id) (λ id. quoted id) (λ id. refl) (all_needs node)

skipped-text : (files : List Skipped) → compact_text (list_of skipped_value files) ≡ list_text skipped_json files
skipped-text files = list-text skipped_value skipped_json (λ file. refl) files

warnings-text : (warnings : List Warning) → compact_text (list_of warning_value warnings) ≡ list_text warning_json warnings
warnings-text warnings = list-text warning_value warning_json (λ warning. refl) warnings

choice-text : (index : Index) (names : NameTable) (choice : Choice) → compact_text (choice_value index names choice) ≡ choice_json index names choice
unfolding escape_byte
choice-text index names choice = refl

-- the text of a variable of a shrunk set, with this text of its choices
abbrev freed-with : NameTable → Var → List ℕ → List ℕ
freed-with names v keep = concat (codes "{\"keep\":" ∷ keep ∷ codes ",\"var\":" ∷ variable_json names v ∷ codes "}" ∷ [])

freed-shape : (index : Index) (names : NameTable) (freed : Var × List Choice)
    → compact_text (without_value index names freed) ≡ freed-with names freed.0 (compact_text (list_of (choice_value index names) freed.1))
unfolding escape_byte
freed-shape index names freed = refl

choices-text : (index : Index) (names : NameTable) (trail : List Choice) → compact_text (list_of (choice_value index names) trail) ≡ list_text (choice_json index names) trail
choices-text index names trail = list-text (choice_value index names) (choice_json index names) (choice-text index names) trail

freed-text : (index : Index) (names : NameTable) (freed : Var × List Choice) → compact_text (without_value index names freed) ≡ without_json index names freed
freed-text index names freed = freed-shape index names freed ∙ ap (freed-with names freed.0) (choices-text index names freed.1)

truth : (b : Bool) → compact_text (boolean b) ≡ truth_text b
truth true = refl
truth false = refl

-- a node's text, with these texts of its needs and of `unbuildable`
abbrev node-with : PlanNode → List ℕ → List ℕ → List ℕ
node-with node needs unbuildable =
    concat
    (codes "{\"component\":" ∷ quoted node.component
    ∷ codes ",\"id\":" ∷ quoted node.id
    ∷ codes ",\"kind\":" ∷ quoted (kind_word node.kind)
    ∷ codes ",\"needs\":" ∷ needs
    ∷ codes ",\"package\":" ∷ quoted (package_text node)
    ∷ codes ",\"unbuildable\":" ∷ unbuildable
    ∷ codes "}" ∷ [])

node-shape : (node : PlanNode) → compact_text (node_value node) ≡ node-with node (compact_text (ids_value node)) (compact_text (boolean node.unbuildable))
unfolding escape_byte
node-shape node = refl

node-text : (node : PlanNode) → compact_text (node_value node) ≡ node_json node
node-text node = node-shape node ∙ ap₂ (node-with node) (ids-text node) (truth node.unbuildable)

-- ---- the lines

-- the members that each answer has behind the others, with these texts of the notes
abbrev end-with : List ℕ → Counts → List ℕ → List ℕ → List (List ℕ) → List (List ℕ)
end-with status counts skipped warnings rest =
    codes ",\"skipped\":" ∷ skipped
    ∷ codes ",\"status\":\"" ∷ status
    ∷ codes "\",\"visited\":" ∷ decimal counts.visited
    ∷ codes ",\"warnings\":" ∷ warnings
    ∷ rest

-- the lines, with these texts of their lists
abbrev gave-up-with : Counts → List ℕ → List ℕ → List ℕ
gave-up-with counts skipped warnings =
    concat
    (codes "{\"exhausted\":" ∷ decimal counts.exhausted
    ∷ end-with (codes "gave up") counts skipped warnings (codes "}" ∷ []))

-- a conflict up to the exhausted points, and the rest of its line
abbrev conflict-front : Counts → List ℕ → List (List ℕ) → List ℕ
conflict-front counts conflict rest = concat (codes "{\"conflict\":" ∷ conflict ∷ codes ",\"exhausted\":" ∷ decimal counts.exhausted ∷ rest)

abbrev conflict-with : Counts → List ℕ → List ℕ → List ℕ → List ℕ
conflict-with counts conflict skipped warnings = conflict-front counts conflict (end-with (codes "no plan") counts skipped warnings (codes "}" ∷ []))

abbrev shrunk-with : Counts → List ℕ → List ℕ → List ℕ → List ℕ → List ℕ
shrunk-with counts conflict without skipped warnings =
    conflict-front counts conflict (end-with (codes "no plan") counts skipped warnings (codes ",\"without\":" ∷ without ∷ codes "}" ∷ []))

abbrev not-shrunk-with : ℕ → Counts → List ℕ → List ℕ → List ℕ → List ℕ
not-shrunk-with spent counts conflict skipped warnings =
    conflict-front counts conflict (codes ",\"not_minimised\":" ∷ decimal spent ∷ end-with (codes "no plan") counts skipped warnings (codes "}" ∷ []))

abbrev plan-with : Counts → List ℕ → List ℕ → List ℕ → List ℕ → List ℕ
plan-with counts choices nodes skipped warnings =
    concat
    (codes "{\"choices\":" ∷ choices
    ∷ codes ",\"exhausted\":" ∷ decimal counts.exhausted
    ∷ codes ",\"nodes\":" ∷ nodes
    ∷ end-with (codes "plan") counts skipped warnings (codes "}" ∷ []))

gave-up-shape : (index : Index) (counts : Counts)
    → compact_text (gave_up_value index counts) ≡ gave-up-with counts (compact_text (list_of skipped_value index.skipped)) (compact_text (list_of warning_value index.warnings))
unfolding escape_byte
gave-up-shape index counts = refl

conflict-shape : (index : Index) (names : NameTable) (set : List Var) (counts : Counts)
    → compact_text (conflict_value index names set counts)
    ≡ conflict-with counts (compact_text (list_of (variable_value names) set)) (compact_text (list_of skipped_value index.skipped)) (compact_text (list_of warning_value index.warnings))
unfolding escape_byte
conflict-shape index names set counts = refl

shrunk-shape : (index : Index) (names : NameTable) (set : List Var) (maps : List (List Choice)) (counts : Counts)
    → compact_text (shrunk_value index names set maps counts)
    ≡ shrunk-with counts (compact_text (list_of (variable_value names) set)) (compact_text (list_of (without_value index names) (zip set maps))) (compact_text (list_of skipped_value index.skipped)) (compact_text (list_of warning_value index.warnings))
unfolding escape_byte
shrunk-shape index names set maps counts = refl

not-shrunk-shape : (index : Index) (names : NameTable) (set : List Var) (spent : ℕ) (counts : Counts)
    → compact_text (not_shrunk_value index names set spent counts)
    ≡ not-shrunk-with spent counts (compact_text (list_of (variable_value names) set)) (compact_text (list_of skipped_value index.skipped)) (compact_text (list_of warning_value index.warnings))
unfolding escape_byte
not-shrunk-shape index names set spent counts = refl

plan-shape : (index : Index) (names : NameTable) (trail : List Choice) (nodes : List PlanNode) (counts : Counts)
    → compact_text (plan_value index names trail nodes counts)
    ≡ plan-with counts (compact_text (list_of (choice_value index names) trail)) (compact_text (list_of node_value nodes)) (compact_text (list_of skipped_value index.skipped)) (compact_text (list_of warning_value index.warnings))
unfolding escape_byte
plan-shape index names trail nodes counts = refl

module _ (index : Index) where
  skipped-are : compact_text (list_of skipped_value index.skipped) ≡ list_text skipped_json index.skipped
  skipped-are = skipped-text index.skipped

  warnings-are : compact_text (list_of warning_value index.warnings) ≡ list_text warning_json index.warnings
  warnings-are = warnings-text index.warnings

  pub gave-up-text : (counts : Counts) → gave_up_json index counts ≡ line (compact_text (gave_up_value index counts))
  unfolding escape_byte
  gave-up-text counts = ap line (sym (gave-up-shape index counts ∙ ap₂ (gave-up-with counts) skipped-are warnings-are))

  module _ (names : NameTable) where
    variables-text : (set : List Var) → compact_text (list_of (variable_value names) set) ≡ list_text (variable_json names) set
    variables-text set = list-text (variable_value names) (variable_json names) (λ v. refl) set

    pub conflict-text : (set : List Var) (counts : Counts) → conflict_json index names set counts ≡ line (compact_text (conflict_value index names set counts))
    unfolding escape_byte
    conflict-text set counts =
        let variables = variables-text set in
        ap line
        (sym
        (conflict-shape index names set counts
        ∙ ap (λ conflict. conflict-with counts conflict (compact_text (list_of skipped_value index.skipped)) (compact_text (list_of warning_value index.warnings))) variables
        ∙ ap₂ (conflict-with counts (list_text (variable_json names) set)) skipped-are warnings-are))

    pub shrunk-text : (set : List Var) (maps : List (List Choice)) (counts : Counts)
        → shrunk_json index names set maps counts ≡ line (compact_text (shrunk_value index names set maps counts))
    unfolding escape_byte
    shrunk-text set maps counts =
        let freed : compact_text (list_of (without_value index names) (zip set maps)) ≡ list_text (without_json index names) (zip set maps) =
        list-text (without_value index names) (without_json index names) (freed-text index names) (zip set maps) in
        ap line
        (sym
        (shrunk-shape index names set maps counts
        ∙ ap₂ (λ conflict without. shrunk-with counts conflict without (compact_text (list_of skipped_value index.skipped)) (compact_text (list_of warning_value index.warnings))) (variables-text set) freed
        ∙ ap₂ (shrunk-with counts (list_text (variable_json names) set) (list_text (without_json index names) (zip set maps))) skipped-are warnings-are))

    pub not-shrunk-text : (set : List Var) (spent : ℕ) (counts : Counts)
        → not_shrunk_json index names set spent counts ≡ line (compact_text (not_shrunk_value index names set spent counts))
    unfolding escape_byte
    not-shrunk-text set spent counts =
        ap line
        (sym
        (not-shrunk-shape index names set spent counts
        ∙ ap (λ conflict. not-shrunk-with spent counts conflict (compact_text (list_of skipped_value index.skipped)) (compact_text (list_of warning_value index.warnings))) (variables-text set)
        ∙ ap₂ (not-shrunk-with spent counts (list_text (variable_json names) set)) skipped-are warnings-are))

    pub plan-text : (trail : List Choice) (nodes : List PlanNode) (counts : Counts)
        → plan_json index names trail nodes counts ≡ line (compact_text (plan_value index names trail nodes counts))
    unfolding escape_byte
    plan-text trail nodes counts =
        let choices = choices-text index names trail in
        let told : compact_text (list_of node_value nodes) ≡ list_text node_json nodes = list-text node_value node_json node-text nodes in
        ap line
        (sym
        (plan-shape index names trail nodes counts
        ∙ ap₂ (λ cs ns. plan-with counts cs ns (compact_text (list_of skipped_value index.skipped)) (compact_text (list_of warning_value index.warnings))) choices told
        ∙ ap₂ (plan-with counts (list_text (choice_json index names) trail) (list_text node_json nodes)) skipped-are warnings-are))

-- ---- whole numbers only, and a small depth

ids-deep : (node : PlanNode) → depth (ids_value node) ≤ 1
ids-deep node = list-deep (λ id. string id) 0 (λ id. omega arith) (all_needs node)

node-deep : (node : PlanNode) → depth (node_value node) ≤ 2
node-deep node = let ids = ids-deep node in omega (arith, ids)

node-whole : (node : PlanNode) → has_float (node_value node) ≡ false
node-whole node = or_from (has_float (ids_value node)) false (list-whole (λ id. string id) (λ id. refl) (all_needs node)) refl

module _ (index : Index) where
  skipped-whole : has_float (list_of skipped_value index.skipped) ≡ false
  skipped-whole = list-whole skipped_value (λ file. refl) index.skipped

  warnings-whole : has_float (list_of warning_value index.warnings) ≡ false
  warnings-whole = list-whole warning_value (λ warning. refl) index.warnings

  notes-deep : (depth (list_of skipped_value index.skipped) ≤ 1) × (depth (list_of warning_value index.warnings) ≤ 1)
  notes-deep = (list-deep skipped_value 0 (λ file. omega arith) index.skipped, list-deep warning_value 0 (λ warning. omega arith) index.warnings)

  -- the lists that each answer has
  end-whole : (has_float (list_of skipped_value index.skipped) || (has_float (list_of warning_value index.warnings) || false)) ≡ false
  end-whole = or_from _ _ skipped-whole (or_from _ _ warnings-whole refl)

  pub gave-up-plain : (counts : Counts) → IsPlain (gave_up_value index counts)
  gave-up-plain counts = record {
    no_float = end-whole;
    shallow = let notes = notes-deep in omega (arith, notes.0, notes.1);
  }

  module _ (names : NameTable) where
    variables-deep : (set : List Var) → depth (list_of (variable_value names) set) ≤ 1
    variables-deep set = list-deep (variable_value names) 0 (λ v. omega arith) set

    choices-deep : (trail : List Choice) → depth (list_of (choice_value index names) trail) ≤ 2
    choices-deep trail = list-deep (choice_value index names) 1 (λ choice. omega arith) trail

    pub conflict-plain : (set : List Var) (counts : Counts) → IsPlain (conflict_value index names set counts)
    conflict-plain set counts = record {
      no_float = or_from _ _ (list-whole (variable_value names) (λ v. refl) set) end-whole;
      shallow =
          let conflict = variables-deep set in
          let notes = notes-deep in
          omega (arith, conflict, notes.0, notes.1);
    }

    freed-whole : (freed : Var × List Choice) → has_float (without_value index names freed) ≡ false
    freed-whole freed = or_from _ _ (list-whole (choice_value index names) (λ choice. refl) freed.1) refl

    freed-deep : (freed : Var × List Choice) → depth (without_value index names freed) ≤ 3
    freed-deep freed = let choices = choices-deep freed.1 in omega (arith, choices)

    pub shrunk-plain : (set : List Var) (maps : List (List Choice)) (counts : Counts) → IsPlain (shrunk_value index names set maps counts)
    shrunk-plain set maps counts = record {
      no_float =
          or_from _ _ (list-whole (variable_value names) (λ v. refl) set)
          (or_from _ _ skipped-whole
          (or_from _ _ warnings-whole (or_from _ _ (list-whole (without_value index names) freed-whole (zip set maps)) refl)));
      shallow =
          let conflict = variables-deep set in
          let without = list-deep (without_value index names) 3 freed-deep (zip set maps) in
          let notes = notes-deep in
          omega (arith, conflict, without, notes.0, notes.1);
    }

    pub not-shrunk-plain : (set : List Var) (spent : ℕ) (counts : Counts) → IsPlain (not_shrunk_value index names set spent counts)
    not-shrunk-plain set spent counts = record {
      no_float = or_from _ _ (list-whole (variable_value names) (λ v. refl) set) end-whole;
      shallow =
          let conflict = variables-deep set in
          let notes = notes-deep in
          omega (arith, conflict, notes.0, notes.1);
    }

    pub plan-plain : (trail : List Choice) (nodes : List PlanNode) (counts : Counts) → IsPlain (plan_value index names trail nodes counts)
    plan-plain trail nodes counts = record {
      no_float =
          or_from _ _ (list-whole (choice_value index names) (λ choice. refl) trail) (or_from _ _ (list-whole node_value node-whole nodes) end-whole);
      shallow =
          let choices = choices-deep trail in
          let told = list-deep node_value 2 node-deep nodes in
          let notes = notes-deep in
          omega (arith, choices, told, notes.0, notes.1);
    }
