-- The versions in the relaxed ranges.
use Rattle.std.specs.Prelude.{◌≡◌, Bool, true, not, ◌&&◌, ◌||◌, List, [], ◌∷◌, ◌++◌}
use Rattle.std.specs.List.{list_any}
use Rattle.plan_types.specs.Members.{members}
use Rattle.plan_types.specs.declared.dependency.Dep.{Dep}
use Rattle.plan_types.specs.declared.index.Instance.{Instance}
use Rattle.plan_types.specs.declared.project.Project.{Project}
use Rattle.plan_types.specs.declared.range.Range.{Range}
use Rattle.plan_types.specs.declared.range.Range.TheOpen.{Range-F, Any, Nothing, Equal, Prefix, AtLeast, Above, AtMost, Below, Major, Both, Either}
use Rattle.plan_types.specs.declared.range.Range.TheFolds.{fold-Range}
use Rattle.plan_types.specs.declared.version.Version.{Version}
use Rattle.version_range.specs.Cuts.{Relaxes, is_below}
use Rattle.version_range.specs.Version.{has_versions}
use Rattle.constraint_set.specs.Relaxed.{relaxes}

-- Tests of versions, for each dependency of each instance. On versions with numbers only one fits a project.
abbrev pub VersionTests : Type 0
VersionTests = Instance → Dep → Version → Bool

-- each test holds for the versions in the relaxed range of its dependency
abbrev pub AreRelaxedRanges : Project → VersionTests → Type 0
AreRelaxedRanges project allows = (owner : Instance) (dep : Dep) → has_versions dep.range ≡ true
    → Relaxes (relaxes project.newer owner dep.«package») (relaxes project.older owner dep.«package») (members dep.range) (allows owner dep)

-- ---- a test that fits

-- the least version with numbers
abbrev pub least_version : Version
least_version = record { parts = 0 ∷ [] }

-- the least version above x
abbrev pub next_version : Version → Version
next_version x = record { parts = x.parts ++ 0 ∷ [] }

-- the versions at which the members of one layer of a range may begin
abbrev pub starts_step : Range-F (List Version) → List Version
starts_step Any = least_version ∷ []
starts_step Nothing = []
starts_step (Equal x) = x ∷ []
starts_step (Prefix x) = x ∷ []
starts_step (AtLeast x) = x ∷ []
starts_step (Above x) = next_version x ∷ []
starts_step (AtMost x) = least_version ∷ []
starts_step (Below x) = least_version ∷ []
starts_step (Major x) = x ∷ []
starts_step (Both left right) = left ++ right
starts_step (Either left right) = left ++ right

-- versions that include each one at which a run of members begins
abbrev pub starts : Range → List Version
starts = fold-Range (List Version) starts_step

-- whether the start of a run of members lies below a version
abbrev pub starts_below : Range → Version → Bool
starts_below range v = list_any (λ s. members range s && is_below s v) (starts range)

-- whether the start of a run of members lies above a version
abbrev pub starts_above : Range → Version → Bool
starts_above range v = list_any (λ s. members range s && is_below v s) (starts range)

-- the members, with the versions above all of them if newer ones are allowed, and those below all if older ones are
unfoldable pub relaxed_range : Bool → Bool → Range → Version → Bool
relaxed_range newer older range v =
    members range v
    || (newer && (starts_below range v && not (starts_above range v))
    || older && (starts_above range v && not (starts_below range v)))

-- the relaxed ranges of a project
unfoldable pub allowed_versions : Project → VersionTests
allowed_versions project owner dep = relaxed_range (relaxes project.newer owner dep.«package») (relaxes project.older owner dep.«package») dep.range
