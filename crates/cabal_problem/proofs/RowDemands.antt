-- The rows of an instance make the demands that its description makes.
use Rattle.std.proofs.Common.{◌≡◌, ℕ, zero, suc, ◌+◌, ◌<◌, Bool, true, false, cond, ◌&&◌, List, [], ◌∷◌, ◌++◌, length, flat_map, get_or, map, take, refl, sym, ap, ◌∙◌, arith, append_assoc}
use Rattle.std.specs.List.{filter, list_all}
use Rattle.plan_types.specs.declared.dependency.Dep.{Dep}
use Rattle.plan_types.specs.declared.dependency.DepKind.TheVariants as kind
use Rattle.plan_types.specs.declared.description.FlagDecl.{FlagDecl}
use Rattle.plan_types.specs.declared.index.Body.TheVariants.{Source as SourceBody, Installed}
use Rattle.plan_types.specs.declared.index.Body.{Body}
use Rattle.plan_types.specs.declared.index.FlatDep.{FlatDep}
use Rattle.plan_types.specs.declared.index.Literal.{Literal}
use Rattle.plan_types.specs.declared.index.Package.{Package}
use Rattle.plan_types.specs.declared.index.PartName.{PartName}
use Rattle.plan_types.specs.declared.index.PartName.TheVariants as literal
use Rattle.plan_types.specs.declared.index.Source.{Source}
use Rattle.plan_types.specs.declared.index.UnitRecord.{UnitRecord}
use Rattle.plan_types.specs.declared.project.Project.{Project}
use Rattle.plan_types.specs.declared.version.Version.{Version}
use Rattle.qualified_goals.specs.declared.variable.Part.TheVariants.{Tests, Benches}
use Rattle.qualified_goals.specs.Names.{Name, NameTable}
use Rattle.choice_problem.specs.declared.problem.Choice.{Choice}
use Rattle.solver_index.specs.declared.dependencies.Dependencies.{Dependencies}
use Rattle.solver_index.specs.declared.dependencies.UnitNeed.{UnitNeed}
use Rattle.solver_index.specs.Dependencies.{body_dependencies, conditional_dep, dep_target, need_at, part_of, setting_of}
use Rattle.solver_index.specs.Places.{flag_number, rising}
use Rattle.cabal_problem.specs.Variables.{has_kind, is_benchmark, is_suite}
use Rattle.cabal_problem.specs.ListedDemands.{body_demands, can_count, dep_demand, flag_demand, flat_demand, flat_demands, has_part, has_stanzas, setup_demands, setup_if, source_demands, stanza_if, unit_demands, when_of}
use Rattle.cabal_problem.specs.Rows.{can_be_set, choice_at, dep_row, flag_row, has_variable, in_pairs, need_demand, setup_demand_to, source_rows, target_demand}
use Rattle.common_laws.specs.Lists.{map-map}
use Rattle.std.proofs.lemmas.List.{append-nil}

-- ---- pairs

pairs-next : {X Y Z : Type 0} (make : X → Y → List Z) (xs : List X) (ys : List Y) (i : ℕ) (x : X) (y : Y) → i < length xs → x ≡ get_or xs i x → i < length ys → y ≡ get_or ys i y
    → in_pairs make (take (suc i) xs) (take (suc i) ys) ≡ in_pairs make (take i xs) (take i ys) ++ make x y
pairs-next make [] ys i x y h e k f = absurd (omega (arith, h))
pairs-next make (a ∷ xs) [] i x y h e k f = absurd (omega (arith, k))
pairs-next make (a ∷ xs) (b ∷ ys) zero x y h e k f = append-nil (make a b) ∙ (λ j. make (sym e j) (sym f j))
pairs-next make (a ∷ xs) (b ∷ ys) (suc i) x y h e k f =
    ap (λ l. make a b ++ l) (pairs-next make xs ys i x y (omega (arith, h)) e (omega (arith, k)) f) ∙ sym (append_assoc (make a b) (in_pairs make (take i xs) (take i ys)) (make x y))

pub pairs-more : {X Y Z : Type 0} (make : X → Y → List Z) (xs : List X) (ys : List Y) (i : ℕ) (x : X) (y : Y) → i < length xs → x ≡ get_or xs i x → i < length ys → y ≡ get_or ys i y
    → in_pairs make (take (i + 1) xs) (take (i + 1) ys) ≡ in_pairs make (take i xs) (take i ys) ++ make x y
pairs-more make xs ys i x y h e k f =
    let next : i + 1 ≡ suc i = omega arith in
    ap (λ n. in_pairs make (take n xs) (take n ys)) next ∙ pairs-next make xs ys i x y h e k f

pairs-one : {X Y Z : Type 0} (make : X → Y → List Z) (row : X → Y) (one : X → Z) (xs : List X) → ((x : X) → make x (row x) ≡ one x ∷ []) → in_pairs make xs (map row xs) ≡ map one xs
pairs-one make row one [] h = refl
pairs-one make row one (x ∷ xs) h = ap (λ l. l ++ in_pairs make xs (map row xs)) (h x) ∙ ap (λ l. one x ∷ l) (pairs-one make row one xs h)

-- each row makes the one demand of its item, or none
rows-kept : {X Y Z : Type 0} (make : Y → List Z) (row : X → Y) (one : X → Z) (test : X → Bool) (xs : List X) → ((x : X) → make (row x) ≡ cond (test x) (one x ∷ []) [])
    → flat_map make (map row xs) ≡ map one (filter test xs)
rows-kept make row one test [] h = refl
rows-kept make row one test (x ∷ xs) h =
    ap (λ l. l ++ flat_map make (map row xs)) (h x) ∙ ap (λ l. cond (test x) (one x ∷ []) [] ++ l) (rows-kept make row one test xs h)
    ∙ (elim (test x) as (λ b. cond b (one x ∷ []) [] ++ map one (filter test xs) ≡ map one (cond b (x ∷ filter test xs) (filter test xs))) [ true ↦ refl | false ↦ refl ])

-- ---- demands

module _ (packages : List Package) (project : Project) (names : NameTable) (owner : Choice) (allows : Dep → Version → Bool) where
  when-is : (flat : FlatDep) → owner ∷ map (choice_at owner) (map (setting_of names) flat.when) ≡ when_of names owner flat.when
  when-is flat = ap (λ l. owner ∷ l) (map-map (setting_of names) (choice_at owner) flat.when)

  abbrev stanzas : Bool
  stanzas = has_stanzas packages owner.var

  part-counts : (part : PartName) → has_variable stanzas (part_of names part) ≡ has_part stanzas part
  part-counts (literal.Flag name) = refl
  part-counts literal.Tests = refl
  part-counts literal.Benches = refl

  settings-count : (literals : List Literal) → can_be_set stanzas (map (setting_of names) literals) ≡ list_all (λ l. has_part stanzas l.part) literals
  settings-count [] = refl
  settings-count (l ∷ literals) =
      ap (λ b. b && can_be_set stanzas (map (setting_of names) literals)) (part-counts l.part) ∙ ap (λ b. has_part stanzas l.part && b) (settings-count literals)

  dep-is : (flat : FlatDep) → dep_row stanzas owner (conditional_dep packages names allows flat) ≡ cond (can_count stanzas flat) (flat_demand packages names owner allows flat ∷ []) []
  dep-is flat =
      let row = conditional_dep packages names allows flat in
      ap (λ b. cond b (target_demand owner (owner ∷ map (choice_at owner) row.when) flat.dep.kind row.target ∷ []) []) (settings-count flat.when)
      ∙ ap (λ when. cond (can_count stanzas flat) (dep_demand packages names owner when flat.dep.kind (allows flat.dep) flat.dep ∷ []) []) (when-is flat)

  deps-are : (flats : List FlatDep) → flat_map (dep_row stanzas owner) (map (conditional_dep packages names allows) flats) ≡ flat_demands packages names owner allows flats
  deps-are flats = rows-kept (dep_row stanzas owner) (conditional_dep packages names allows) (flat_demand packages names owner allows) (can_count stanzas) flats dep-is

  setup-are : (deps : List Dep) → map (setup_demand_to owner) (map (dep_target packages names allows kind.Setup) deps) ≡ setup_demands packages names owner allows deps
  setup-are deps = map-map (dep_target packages names allows kind.Setup) (setup_demand_to owner) deps

  flags-are : (flags : List FlagDecl) → in_pairs (flag_row project names owner) flags (map (λ (decl : FlagDecl). flag_number names decl.name) flags) ≡ map (flag_demand project names owner) flags
  flags-are flags = pairs-one (flag_row project names owner) (λ (decl : FlagDecl). flag_number names decl.name) (flag_demand project names owner) flags (λ decl. refl)

  source-is : (source : Source)
      → source_rows packages project names owner (body_dependencies packages names allows (SourceBody source)) source.description ≡ source_demands packages project names owner allows source.description source.flat
  source-is source =
      let d = source.description in
      let tests = stanza_if (has_stanzas packages owner.var && has_kind is_suite d) owner Tests in
      let benches = stanza_if (has_stanzas packages owner.var && has_kind is_benchmark d) owner Benches in
      λ i. flags-are d.flags i ++ tests ++ benches ++ deps-are source.flat i ++ setup_if d.custom (setup-are d.setup i)

  units-are : (ids needs : List Name) → map (need_demand owner) (map (need_at packages names ids needs) (rising (length needs))) ≡ unit_demands packages names owner ids needs
  units-are ids needs = map-map (need_at packages names ids needs) (need_demand owner) (rising (length needs))

  -- the rows of an instance that depends on what its body says
  pub source-rows : (body : Body) (source : Source) (a : Dependencies) → a ≡ body_dependencies packages names allows body → body ≡ SourceBody source
      → source_rows packages project names owner a source.description ≡ body_demands packages project names owner allows body
  source-rows body source a depends is =
      ap (λ (x : Dependencies). source_rows packages project names owner x source.description) (depends ∙ ap (body_dependencies packages names allows) is)
      ∙ source-is source ∙ sym (ap (body_demands packages project names owner allows) is)

  pub unit-rows : (body : Body) (unit : UnitRecord) (on : List Name) (a : Dependencies) (needs : List UnitNeed) → a ≡ body_dependencies packages names allows body → body ≡ Installed unit on
      → needs ≡ a.needs → map (need_demand owner) needs ≡ body_demands packages project names owner allows body
  unit-rows body unit on a needs depends is needs-are =
      ap (λ (l : List UnitNeed). map (need_demand owner) l) (needs-are ∙ ap (λ (x : Dependencies). x.needs) (depends ∙ ap (body_dependencies packages names allows) is))
      ∙ units-are unit.depends on ∙ sym (ap (body_demands packages project names owner allows) is)
