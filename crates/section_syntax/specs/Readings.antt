-- Reading item by item: the parts of the earlier items, followed by those of the later ones, are the parts of all.
use Rattle.std.specs.Prelude.{◌≡◌, ℕ, List, ◌++◌, map, Option, None}
use Rattle.std.specs.declared.result.Result.{Result}
use Rattle.plan_types.specs.declared.condition.Cond.{Cond}
use Rattle.plan_types.specs.declared.element.Element.{Element}
use Rattle.plan_types.specs.declared.range.Spec.{Spec}
use Rattle.plan_types.specs.declared.refusal.Cause.{Cause}
use Rattle.section_syntax.specs.Branch.{OwnCondition, branch_of, condition}
use Rattle.section_syntax.specs.Items.{Items, SectionSays, branch_fits, import_fits}
use Rattle.section_syntax.specs.Words.{inner_word}
use Rattle.cabal_lexer.specs.Tree.{Tree, end, in_front}
use Rattle.section_syntax.specs.declared.branch.Branch.{Branch}
use Rattle.section_syntax.specs.declared.items.Before.{Before}
use Rattle.section_syntax.specs.declared.items.Inside.{Inside}
use Rattle.section_syntax.specs.declared.part.SectionPart.{SectionPart}
use Rattle.section_syntax.specs.declared.part.Said.{Said}
use Rattle.section_syntax.specs.declared.part.Said.TheVariants.{Branch as branch_said}
use Rattle.section_syntax.specs.declared.words.BranchWord.{BranchWord}

-- the parts of these items under these branches, appended
abbrev pub ReadsItems : Inside → Tree → List Branch → List SectionPart → List SectionPart → Type 0
ReadsItems inside items branches old new =
    (found : List SectionPart) × Items inside.spec inside.kind end items (map condition branches) None found
    × (new ≡ old ++ found)

-- the kept flag is whether an import fits after the earlier items
abbrev pub KnowsImport : Inside → List Branch → Before → Tree → Type 0
KnowsImport inside branches before front = before.fits ≡ import_fits inside.spec inside.kind front (map condition branches)

-- the kept flag stays right after one more item
abbrev pub KeepsKnowing : Inside → Element → List Branch → Before → Before → Type 0
KeepsKnowing inside item branches before after = (front : Tree) → KnowsImport inside branches before front → KnowsImport inside branches after (in_front item front)

-- the pushed parts of an item, followed by the parts of the items after it, are the parts of both
abbrev pub ReadsItem : Inside → Element → List Branch → Before → Before → List SectionPart → List SectionPart → Type 0
ReadsItem inside item branches before after old new =
    (front : Tree) → KnowsImport inside branches before front
    → (behind : Tree) (more : List SectionPart) → Items inside.spec inside.kind (in_front item front) behind (map condition branches) after.chain more
    → (found : List SectionPart) × Items inside.spec inside.kind front (in_front item behind) (map condition branches) before.chain found
    × (new ++ more ≡ old ++ found)

-- the same for a section inside a section, which leaves a chain
abbrev pub ReadsSection :
    Inside → ℕ → List ℕ → List ℕ → Tree → List Branch → Option Cond → Option Cond → List SectionPart → List SectionPart → Type 0
ReadsSection inside line name args items branches chain left old new =
    (front behind : Tree) (more : List SectionPart) → Items inside.spec inside.kind front behind (map condition branches) left more
    → (found : List SectionPart) × SectionSays inside.spec (inner_word inside.kind name) line args (map condition branches) chain
    (λ within said. Items inside.spec inside.kind end items within None said)
    (λ left said. Items inside.spec inside.kind front behind (map condition branches) left said) found
    × (new ++ more ≡ old ++ found)

-- a branch is opened, and this is what the part that begins it says
abbrev pub OpensBranch : Spec → BranchWord → List ℕ → Option Cond → Branch → Said → Type 0
OpensBranch spec word args chain branch said =
    (own : Result Cond Cause) × OwnCondition spec word args own × (branch ≡ branch_of word chain own)
    × (said ≡ branch_said word own (branch_fits word chain))
