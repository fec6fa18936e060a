-- Blocks: the releases of a package, then its units, with rising versions. Tests that hold for a prefix of a block.
use Rattle.std.specs.Prelude.{◌≡◌, ⊤, ℕ, ◌<◌, ◌≤◌, Bool, true, false, not, List, [], ◌∷◌, length}
use Rattle.std.specs.List.{AllByRecursion}
use Rattle.plan_types.specs.Members.{members}
use Rattle.plan_types.specs.declared.index.Entry.{Entry}
use Rattle.plan_types.specs.declared.index.Package.{Package}
use Rattle.plan_types.specs.declared.range.Range.{Range}
use Rattle.plan_types.specs.declared.version.Version.{Version}
use Rattle.version_range.specs.Cuts.{HasNumbers, is_below}
use Rattle.solver_index.specs.declared.blocks.Test.{Test}
use Rattle.solver_index.specs.declared.blocks.Test.TheVariants.{IsSource, IsBefore, IsMember}
use Rattle.solver_index.specs.Before.{before}
use Rattle.solver_index.specs.Places.{entry_at}
use Rattle.plan_types.specs.Packages.{is_installed, entries_of}

-- b may come after a: units come after releases, and versions of one kind don't fall
abbrev pub MayFollow : Entry → Entry → Type 0
MayFollow a b = (is_installed a.body ≡ true → is_installed b.body ≡ true) × (is_installed a.body ≡ is_installed b.body → is_below b.instance.version a.instance.version ≡ false)

-- releases and then units, both with rising versions
abbrev pub AreInBlocks : List Entry → Type 0
AreInBlocks [] = ⊤
AreInBlocks (e ∷ entries) = AllByRecursion (MayFollow e) entries × AreInBlocks entries

-- the instances of each package are in blocks
abbrev pub AllAreInBlocks : List Package → Type 0
AllAreInBlocks packages = (p : ℕ) → AreInBlocks (entries_of packages p)

-- the version of the instance at a place
abbrev pub version_at : List Entry → ℕ → Version
version_at entries i = (entry_at entries i).instance.version

-- the instances from one place up to another have rising versions
pub record IsBlock (entries : List Entry) (from to : ℕ) : Type 0 where
  pub low : from ≤ to
  pub high : to ≤ length entries
  pub rise : (i j : ℕ) → from ≤ i → i ≤ j → j < to → is_below (version_at entries j) (version_at entries i) ≡ false
  pub numbers : (i : ℕ) → from ≤ i → i < to → HasNumbers (version_at entries i)

-- whether an instance passes a test
abbrev pub passes : Test → Range → Entry → Bool
passes IsSource range e = not (is_installed e.body)
passes IsBefore range e = before range e.instance.version
passes IsMember range e = members range e.instance.version

-- in these places, each instance before one that passes also passes
abbrev pub IsPrefixClosed : (Entry → Bool) → List Entry → ℕ → ℕ → Type 0
IsPrefixClosed test entries from to = (i j : ℕ) → from ≤ i → i ≤ j → j < to → test (entry_at entries j) ≡ true → test (entry_at entries i) ≡ true
