-- A small sound index, and one that lacks a package.
use Rattle.std.specs.Prelude.{◌≡◌, ℕ, zero, suc, Bool, true, false, List, [], ◌∷◌, None, refl, codes}
use Rattle.std.proofs.Common.{arith, sym, ap, ◌∙◌}
use Rattle.std.proofs.lemmas.Bool.{false≢true}
use Rattle.std.specs.List.{Contains, IsDistinct}
use Rattle.std.specs.List.Sorted.{IsStrictlySortedBy}
use Rattle.plan_types.specs.declared.condition.Cond.TheOpen as layer
use Rattle.plan_types.specs.declared.condition.Cond.TheFolds.{fold-roll-Cond}
use Rattle.plan_types.specs.declared.condition.Cond.TheVariants.{Flag, rolls-Flag}
use Rattle.plan_types.specs.declared.description.CompKind.TheVariants.{Library}
use Rattle.plan_types.specs.declared.description.Component.{Component}
use Rattle.plan_types.specs.declared.description.Description.{Description}
use Rattle.plan_types.specs.declared.index.Body.{Body}
use Rattle.plan_types.specs.declared.index.Body.TheVariants.{Source as SourceBody, Installed}
use Rattle.plan_types.specs.declared.index.Entry.{Entry}
use Rattle.plan_types.specs.declared.index.Index.{Index}
use Rattle.plan_types.specs.declared.index.Package.{Package}
use Rattle.plan_types.specs.declared.index.Source.{Source}
use Rattle.plan_types.specs.declared.index.UnitRecord.{UnitRecord}
use Rattle.plan_types.specs.declared.range.Range.TheOpen as range_layer
use Rattle.plan_types.specs.declared.range.Range.TheFolds.{fold-roll-Range}
use Rattle.plan_types.specs.declared.range.Range.TheVariants.{Any, rolls-Any}
use Rattle.plan_types.specs.declared.range.Spec.TheVariants.{V3_0}
use Rattle.version_range.specs.Version.{has_versions, versions_step}
use Rattle.conditionals.specs.Layers.{paths-Flag, paths-And}
use Rattle.flatten.specs.Conditions.{asks_step, is_well_formed}
use Rattle.flatten.specs.Demands.{demands_of, first_with_too_many_paths}
use Rattle.flatten.specs.Examples.{linux, a, on, component, under}
use Rattle.flatten.specs.Exposure.{exposed}
use Rattle.flatten.specs.OwnComponents.{Leads, at_once, by_way_of, needs}
use Rattle.flatten.specs.Sound.{IsDescription, instance_of, IsSource, IsPackage, IsSound}

ruleset by_kind = (paths-Flag, paths-And)

-- ---- a local package `main`, whose library is buildable while `a` is on, and then depends on `base`

abbrev library : Component
library = component Library [] a (under a (on (codes "base")) ∷ [])

abbrev main : Description
main = record {
  spec = V3_0;
  name = codes "main";
  version = record { parts = 1 ∷ 0 ∷ [] };
  custom = false;
  flags = record { line = 2; name = codes "a"; default = true; manual = false } ∷ [];
  components = library ∷ [];
  setup = [];
  digest = [];
  warnings = [];
}

abbrev source : Source
source = record { description = main; flat = demands_of linux main; exposed = exposed linux main }

abbrev base : UnitRecord
base = record { name = codes "base"; version = record { parts = 4 ∷ 18 ∷ [] }; id = codes "base-4.18"; depends = [] }

abbrev entry_of : Bool → Body → Entry
entry_of local body = record { instance = instance_of local body; body = body }

abbrev of_base : Package
of_base = record { name = codes "base"; local = false; extra = false; entries = entry_of false (Installed base []) ∷ [] }

abbrev of_main : Package
of_main = record { name = codes "main"; local = true; extra = false; entries = entry_of true (SourceBody source) ∷ [] }

abbrev both : Index
both = record { packages = of_base ∷ of_main ∷ []; skipped = []; warnings = [] }

-- ---- it is sound

asks-Flag : (is_declared : List ℕ → Bool) (name : List ℕ) → is_well_formed is_declared (Flag name) ≡ is_declared name
asks-Flag is_declared name = ap (is_well_formed is_declared) (sym (rolls-Flag name)) ∙ fold-roll-Cond Bool (asks_step is_declared) (layer.Flag name)

any_has_versions : has_versions Any ≡ true
any_has_versions = ap has_versions (sym rolls-Any) ∙ fold-roll-Range Bool versions_step range_layer.Any

is_library : (c : Component) → Contains (library ∷ []) c → library ≡ c
is_library c (zero, inside, is) = is
is_library c (suc i, inside, is) = absurd (omega (arith, inside))

needs_none : (c other : Component) → Contains (library ∷ []) c → needs c other ≡ false
needs_none c other there = ap (λ one. needs one other) (sym (is_library c there))

leads_nowhere : (c other : Component) → Contains (library ∷ []) c → Leads (library ∷ []) c other → ⊥
leads_nowhere c other there (at_once from to inside is) = false≢true (sym (needs_none c other there) ∙ is)
leads_nowhere c other there (by_way_of from next to inside is more) = false≢true (sym (needs_none c next there) ∙ is)

main_is_well : IsDescription main
unfolding IsDistinct IsStrictlySortedBy
main_is_well = record {
  flags_rise = (tt, tt);
  flag_names = refl;
  flags_lower = refl;
  components_once = (tt, tt);
  libraries_apart = refl;
  component_kinds = refl;
  setup_kinds = refl;
  conditions_ask_well = rw asks-Flag refl;
  ranges_have_versions = rw any_has_versions refl;
  own_components = refl;
  no_cycle = λ c there way. leads_nowhere c c there way;
}

within : first_with_too_many_paths linux main ≡ None
within = simp by_kind refl

base_is_well : IsPackage linux both of_base
unfolding IsDistinct IsStrictlySortedBy
base_is_well = record {
  name = refl;
  in_order = record { releases_first = refl; versions_rise = tt; units_rise = (tt, tt); units_once = (tt, tt) };
  local_is_one = λ local. absurd (false≢true local);
  entries = (record { instance_is = refl; named = refl; version = refl; body = refl }, tt);
}

main_is_in : IsPackage linux both of_main
unfolding IsDistinct IsStrictlySortedBy
main_is_in = record {
  name = refl;
  in_order = record { releases_first = refl; versions_rise = (tt, tt); units_rise = tt; units_once = tt };
  local_is_one = λ local. record { one = refl; no_units = refl };
  entries = (record { instance_is = refl; named = refl; version = refl; body = kept }, tt);
}
  where
    kept : IsSource linux both source
    kept = record { description = main_is_well; packages = refl; none_beyond = within; demands = refl; offers = refl }

both_are_sound : IsSound linux both
unfolding IsDistinct IsStrictlySortedBy
both_are_sound = record {
  in_goal_order = record { rising = ((refl, tt), (tt, tt)); once = ((refl, tt), (tt, tt)) };
  packages = (base_is_well, (main_is_in, tt));
}

-- without `base` it isn't
base_is_needed : IsSound linux (record { packages = of_main ∷ []; skipped = []; warnings = [] }) → ⊥
base_is_needed sound = false≢true sound.packages.0.entries.0.body.packages
