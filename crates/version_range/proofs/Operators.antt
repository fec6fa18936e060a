-- The version in a range with one operator.
use Rattle.std.proofs.Common.{◌≡◌, true, sym, ap, ◌∙◌}
use Rattle.plan_types.specs.declared.version.Version.{Version}
use Rattle.plan_types.specs.declared.range.Range.{Range}
use Rattle.plan_types.specs.declared.range.Range.TheVariants.{Prefix}
use Rattle.version_range.specs.declared.operator.Operator.{Operator}
use Rattle.version_range.specs.Grammar.{of_version}
use Rattle.version_range.specs.Version.{has_versions, is_version, IsVersion}
use Rattle.version_range.proofs.VersionForms.{of_valid, prefix_valid}
use Rattle.version_range.proofs.VersionNumbers.{version_from}

module _ (r : Range) (x : Version) (h : has_versions r ≡ true) where
  by : (s : Range) → has_versions s ≡ is_version x.parts → r ≡ s → IsVersion x.parts
  by s e is = version_from x.parts (sym e ∙ ap has_versions (sym is) ∙ h)

  pub version_compared : (op : Operator) → r ≡ of_version op x → IsVersion x.parts
  version_compared op = by (of_version op x) (of_valid op x)

  pub version_prefix : r ≡ Prefix x → IsVersion x.parts
  version_prefix = by (Prefix x) (prefix_valid x)
