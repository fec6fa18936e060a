-- Conditions for a sound entry of a package.
use Rattle.std.proofs.Common.{◌≡◌, Bool, true, false, List, sym, ap, ◌∙◌}
use Rattle.std.specs.List.{list_all}
use Rattle.plan_types.specs.declared.condition.Env.{Env}
use Rattle.plan_types.specs.declared.index.Body.TheVariants as body
use Rattle.plan_types.specs.declared.index.Entry.{Entry}
use Rattle.plan_types.specs.declared.index.Index.{Index}
use Rattle.plan_types.specs.declared.index.Package.{Package}
use Rattle.flatten.specs.Sound.{IsEntry, asked_packages, has_package, has_units, instance_of}
use Rattle.outside_folder.specs.Files.{Bytes}
use Rattle.plan_types.specs.declared.index.Source.{Source}
use Rattle.index_files.specs.Units.{IsWellFormed, needed_names, unit_name}
use Rattle.index_files.specs.declared.unit.Unit.{Unit}
use Rattle.index_assembly.specs.Entries.{source_entry, unit_entry}
use Rattle.package_index.proofs.Sources.{IsWell}

module _ (env : Env) (index : Index) where
  -- a sound entry in every package of this name, for this value of `local`
  abbrev pub IsEntryOf : Bool → Bytes → Entry → Type 0
  IsEntryOf local name e = (p : Package) → p.local ≡ local → p.name ≡ name → IsEntry env index p e

  pub source-is : (local : Bool) (name : Bytes) (source : Source) → IsWell env source → source.description.name ≡ name → list_all (has_package index) (asked_packages source.description) ≡ true
      → IsEntryOf local name (source_entry local source)
  source-is local name source well named asked p is names = record {
    instance_is = ap (λ l. instance_of l (body.Source source)) (sym is);
    named = named ∙ sym names;
    version = well.version;
    body = record { description = well.described; packages = asked; none_beyond = well.none_beyond; demands = well.demands; offers = well.offers };
  }

  pub unit-is : (name : Bytes) (units : List Unit) (u : Unit) → IsWellFormed u → unit_name u ≡ name → has_units index u.record_of.depends (needed_names units u) ≡ true
      → IsEntryOf false name (unit_entry units u)
  unit-is name units u formed named has p is names = record {
    instance_is = ap (λ l. instance_of l (body.Installed u.record_of (needed_names units u))) (sym is);
    named = named ∙ sym names;
    version = formed.version;
    body = has;
  }
