-- Parts are chained: a part that begins a branch determines the branches of the parts after it.
use Rattle.std.specs.Prelude.{◌≡◌, true, if◌then◌else◌, List, [], ◌∷◌, ◌++◌, length, map, take, slice_get, Option, None, Some}
use Rattle.std.specs.declared.result.Result.{Result}
use Rattle.plan_types.specs.declared.condition.Cond.{Cond}
use Rattle.plan_types.specs.declared.refusal.Cause.{Cause}
use Rattle.section_syntax.specs.Branch.{branch_of, condition}
use Rattle.section_syntax.specs.Items.{branch_fits}
use Rattle.section_syntax.specs.declared.branch.Branch.{Branch}
use Rattle.section_syntax.specs.declared.part.SectionPart.{SectionPart}
use Rattle.section_syntax.specs.declared.part.Said.{Said}
use Rattle.section_syntax.specs.declared.part.Said.TheVariants as said
use Rattle.section_syntax.specs.declared.words.BranchWord.{BranchWord}

-- the chain that ends with a branch
abbrev pub chain_after : Option Branch → Option Cond
chain_after None = None
chain_after (Some branch) = branch.chain

-- the branch that a part begins, in the chain of the last closed branch on its level, if it is marked as fitting
abbrev pub begun : Said → Option Branch → List Branch
begun (said.Import names fits) before = []
begun (said.Depends deps) before = []
begun (said.Buildable value) before = []
begun (said.Visibility value) before = []
begun (said.Default value) before = []
begun (said.Manual value) before = []
begun said.BuildTools before = []
begun (said.Branch word own fits) before = branch_of word (if fits then chain_after before else None) own ∷ []
begun said.Misplaced before = []

-- the branches in which the next part may be, the outermost first: the open ones, then the one that this part begins
abbrev pub branches_behind : List Branch → SectionPart → List Branch
branches_behind opened part = take (length part.branches) opened ++ begun part.said (slice_get opened (length part.branches))

-- a branch marked as fitting is allowed where it comes: after the last closed branch on the same level
abbrev pub FitsBehind : Said → Option Branch → Type 0
FitsBehind one before = (word : BranchWord) (own : Result Cond Cause) → one ≡ said.Branch word own true → branch_fits word (chain_after before) ≡ true

-- each part is in the outermost of these branches, and a branch that is marked as fitting does fit
unfoldable pub AreChained : List Branch → List SectionPart → Type 0
AreChained opened [] = Unit {0}
AreChained opened (part ∷ parts) =
    (part.branches ≡ map condition (take (length part.branches) opened)) × AreChained (branches_behind opened part) parts
    × FitsBehind part.said (slice_get opened (length part.branches))

-- the parts of a section are chained, and the first is in no branch
abbrev pub AreSectionParts : List SectionPart → Type 0
AreSectionParts parts = AreChained [] parts
