-- Branches, whose conditions the environment decides.
use Rattle.std.specs.Prelude.{◌≡◌, ℕ, Bool, true, false, ◌&&◌, ◌||◌, not, if◌then◌else◌, List, [], ◌∷◌, Option, Some, None, is_some, unwrap_or}
use Rattle.std.specs.declared.result.Result.{Result}
use Rattle.std.specs.declared.result.Result.TheVariants.{Ok, Err}
use Rattle.plan_types.specs.declared.condition.Cond.{Cond}
use Rattle.plan_types.specs.declared.condition.Cond.TheOpen.{Cond-F, Always, Never, Flag, Os, Arch, Impl, Not, And, Or}
use Rattle.plan_types.specs.declared.condition.Cond.TheFolds.{fold-Cond}
use Rattle.plan_types.specs.declared.condition.Env.{Env}
use Rattle.plan_types.specs.declared.range.Spec.TheVariants.{V3_0}
use Rattle.plan_types.specs.declared.refusal.Cause.{Cause}
use Rattle.plan_types.specs.declared.refusal.Cause.TheVariants.{BadField, ElseWithoutIf}
use Rattle.condition_text.specs.Grammar.{Stands, FirstFault}
use Rattle.conditionals.specs.Value.{flag_in, value}
use Rattle.conditionals.specs.declared.value.Tri.{Tri}
use Rattle.conditionals.specs.declared.value.Tri.TheVariants.{Yes, No, Unknown}
use Rattle.project_file.specs.declared.part.ProjectSaid.{ProjectSaid}
use Rattle.project_file.specs.declared.part.ProjectSaid.TheVariants.{Bad}
use Rattle.project_file.specs.declared.words.ProjectBranchWord.{ProjectBranchWord}
use Rattle.project_file.specs.declared.words.ProjectBranchWord.TheVariants.{If, Elif, Else}
use Rattle.text_grammar.specs.Outcome.{Read}

-- one layer of a condition whose parts were tested
abbrev pub flag_step : Cond-F Bool → Bool
flag_step Always = false
flag_step Never = false
flag_step (Flag name) = true
flag_step (Os name) = false
flag_step (Arch name) = false
flag_step (Impl name range) = false
flag_step (Not inner) = inner
flag_step (And left right) = left || right
flag_step (Or left right) = left || right

-- whether a condition has a flag
abbrev pub has_flag : Cond → Bool
has_flag = fold-Cond Bool flag_step

-- whether a value is Yes
abbrev pub is_yes : Tri → Bool
is_yes Yes = true
is_yes No = false
is_yes Unknown = false

-- the value of a condition; one with a flag isn't allowed
abbrev pub decided : Env → Cond → Result Bool Cause
decided env cond = if has_flag cond then Err BadField else Ok (is_yes (value env (flag_in []) cond))

-- the value of a condition that was read
abbrev pub decided_of : Env → Result Cond Cause → Result Bool Cause
decided_of env (Ok cond) = decided env cond
decided_of env (Err cause) = Err cause

-- the value of a condition's text, or the cause of its fault
abbrev pub HasValue : Env → List ℕ → Result Bool Cause → Type 0
HasValue env text own = (read : Result Cond Cause) × Read (Stands V3_0 64 text) (FirstFault V3_0 64 text) read × (own ≡ decided_of env read)

-- `else` has no arguments
abbrev pub bare : List ℕ → Result Bool Cause
bare [] = Ok true
bare (b ∷ bs) = Err BadField

-- the value of a branch's own condition, or the cause why it has none
abbrev pub Decides : Env → ProjectBranchWord → List ℕ → Result Bool Cause → Type 0
Decides env If args own = HasValue env args own
Decides env Elif args own = HasValue env args own
Decides env Else args own = own ≡ bare args

-- whether a condition has the value true
abbrev pub holds : Result Bool Cause → Bool
holds (Ok value) = value
holds (Err cause) = false

-- Whether an earlier branch of the chain was taken. The chain is that of a branch directly before; an `if` begins
-- one.
abbrev pub was_taken : ProjectBranchWord → Option Bool → Bool
was_taken If chain = false
was_taken Elif chain = unwrap_or chain false
was_taken Else chain = unwrap_or chain false

-- the first branch of a chain whose condition holds is taken
abbrev pub is_taken : ProjectBranchWord → Option Bool → Result Bool Cause → Bool
is_taken word chain own = holds own && not (was_taken word chain)

-- the chain for a branch directly after; none after an `else`
abbrev pub chain_behind : ProjectBranchWord → Option Bool → Result Bool Cause → Option Bool
chain_behind If chain own = Some (holds own || was_taken If chain)
chain_behind Elif chain own = Some (holds own || was_taken Elif chain)
chain_behind Else chain own = None

-- an `if` fits anywhere, the others directly after a branch that isn't an `else`
abbrev pub fits : ProjectBranchWord → Option Bool → Bool
fits If chain = true
fits Elif chain = is_some chain
fits Else chain = is_some chain

-- the fault of a branch: of its condition first, then of its place
abbrev pub branch_fault : ProjectBranchWord → Option Bool → Result Bool Cause → Option ProjectSaid
branch_fault word chain (Err cause) = Some (Bad cause)
branch_fault word chain (Ok value) = if fits word chain then None else Some (Bad ElseWithoutIf)
