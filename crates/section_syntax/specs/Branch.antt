-- The conditions of branches.
use Rattle.std.specs.Prelude.{◌≡◌, ℕ, List, [], ◌∷◌, Option, Some, None}
use Rattle.std.specs.declared.result.Result.{Result}
use Rattle.std.specs.declared.result.Result.TheVariants.{Ok, Err}
use Rattle.plan_types.specs.declared.condition.Cond.{Cond}
use Rattle.plan_types.specs.declared.condition.Cond.TheVariants.{Always, Never, Not, And}
use Rattle.plan_types.specs.declared.range.Spec.{Spec}
use Rattle.plan_types.specs.declared.refusal.Cause.{Cause}
use Rattle.plan_types.specs.declared.refusal.TextFault.{TextFault}
use Rattle.plan_types.specs.declared.refusal.TextFault.TheVariants as text_fault
use Rattle.plan_types.specs.declared.refusal.Cause.TheVariants.{BadField}
use Rattle.condition_text.specs.Grammar.{Stands, FirstFault}
use Rattle.section_syntax.specs.declared.branch.Branch.{Branch}
use Rattle.section_syntax.specs.declared.words.BranchWord.{BranchWord}
use Rattle.section_syntax.specs.declared.words.BranchWord.TheVariants.{If, Elif, Else}
use Rattle.text_grammar.specs.Outcome.{Read}

-- the value, or the cause of its fault
abbrev pub IsOutcome : {A : Type 0} → Result A TextFault → Result A Cause → Type 0
IsOutcome (Ok found) told = told ≡ Ok found
IsOutcome (Err (text_fault.Bad cause)) told = told ≡ Err cause
IsOutcome (Err text_fault.NoMemory) told = ⊥

-- conditions joined by `&&`, from the left
abbrev pub joined : Cond → List Cond → Cond
joined first [] = first
joined first (cond ∷ conds) = joined (And first cond) conds

-- the conjunction of all of these
abbrev pub all_of : List Cond → Cond
all_of [] = Always
all_of (cond ∷ conds) = joined cond conds

-- the condition of a branch
abbrev pub condition : Branch → Cond
condition branch = branch.condition

-- the own condition of an `else`, which has no arguments
abbrev pub bare : List ℕ → Result Cond Cause
bare [] = Ok Always
bare (b ∷ bs) = Err BadField

-- a branch's own condition, or the cause of its fault
abbrev pub OwnCondition : Spec → BranchWord → List ℕ → Result Cond Cause → Type 0
OwnCondition spec If args own = Read (Stands spec 64 args) (FirstFault spec 64 args) own
OwnCondition spec Elif args own = Read (Stands spec 64 args) (FirstFault spec 64 args) own
OwnCondition spec Else args own = own ≡ bare args

-- the condition, `false` if it can't be read
abbrev pub or_never : Result Cond Cause → Cond
or_never (Ok cond) = cond
or_never (Err cause) = Never

-- `chain && cond`, or `cond` alone without a chain
abbrev pub with_chain : Option Cond → Cond → Cond
with_chain None cond = cond
with_chain (Some chain) cond = And chain cond

-- an `if` or `elif`, and the chain that ends with it
abbrev pub if_branch : Option Cond → Cond → Branch
if_branch chain own = record { condition = with_chain chain own; chain = Some (with_chain chain (Not own)) }

-- an `else`: taken if no earlier branch of its chain is; it ends the chain
abbrev pub last : Option Cond → Branch
last chain = record { condition = elim chain [ None ↦ Always | Some none ↦ none ]; chain = None }

-- The branch of a word. The chain is the condition that none of its branches so far is taken. An `if` begins a new one.
abbrev pub branch_of : BranchWord → Option Cond → Result Cond Cause → Branch
branch_of If chain own = if_branch None (or_never own)
branch_of Elif chain own = if_branch chain (or_never own)
branch_of Else chain own = last chain

-- the chain that ends with a branch; none after an `else`
abbrev pub chain_of : Branch → Option Cond
chain_of branch = branch.chain
