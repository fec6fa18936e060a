-- The branches of a part have well-formed conditions, if no part of the section has a fault.
use Rattle.std.proofs.Common.{◌≡◌, ℕ, Bool, true, List, [], ◌∷◌, ◌++◌, Option, Some, None, refl, ap, ◌∙◌, subst}
use Rattle.std.specs.List.{list_all, AllByRecursion}
use Rattle.std.specs.declared.result.Result.{Result}
use Rattle.std.specs.declared.result.Result.TheVariants.{Ok, Err}
use Rattle.std.proofs.lemmas.Bool.{and_from}
use Rattle.plan_types.specs.declared.condition.Cond.{Cond}
use Rattle.plan_types.specs.declared.condition.Cond.TheVariants.{Always, Not}
use Rattle.plan_types.specs.declared.range.Spec.{Spec}
use Rattle.plan_types.specs.declared.refusal.Cause.{Cause}
use Rattle.plan_types.specs.declared.refusal.Cause.TheVariants as causes
use Rattle.section_syntax.specs.Branch.{OwnCondition, branch_of, chain_of, condition, with_chain}
use Rattle.section_syntax.specs.Items.{Items, SectionSays, branch_fits, placed}
use Rattle.cabal_lexer.specs.Tree.{Tree, end, field, section}
use Rattle.section_syntax.specs.Words.{inner_word}
use Rattle.section_syntax.specs.declared.part.SectionPart.{SectionPart}
use Rattle.section_syntax.specs.declared.part.Said.{Said}
use Rattle.section_syntax.specs.declared.part.Said.TheVariants as said
use Rattle.section_syntax.specs.declared.part.File.{File}
use Rattle.section_syntax.specs.declared.part.SectionKind.{SectionKind}
use Rattle.section_syntax.specs.declared.words.BranchWord.{BranchWord}
use Rattle.section_syntax.specs.declared.words.BranchWord.TheVariants.{If, Elif, Else}
use Rattle.section_syntax.specs.declared.words.InnerWord.{InnerWord}
use Rattle.section_syntax.specs.declared.words.InnerWord.TheVariants as inner
use Rattle.package_declarations.specs.Declarations.{declares, has_flags, is_flag}
use Rattle.description.specs.Faults.{of_condition, of_said, unless}
use Rattle.flatten.specs.Conditions.{is_well_formed}
use Rattle.sound_description.proofs.Asking.{asks-Always, asks-And, asks-Not, stands-fits}
use Rattle.sound_description.proofs.Faultless.{unless-none}
use Rattle.common_laws.specs.Each.{each-front, each-back}
use Rattle.common_laws.specs.Passing.{all-append, none-front}

module _ (file : File) (known : List ℕ → Bool) (found : (name : List ℕ) → declares is_flag file.sections name ≡ true → known name ≡ true) where
  abbrev Good : List Cond → Type 0
  Good conds = list_all (is_well_formed known) conds ≡ true

  abbrev is_good : SectionPart → Bool
  is_good part = list_all (is_well_formed known) part.branches

  abbrev Sound : List SectionPart → Type 0
  Sound parts = AllByRecursion (λ part. of_said file part.said ≡ []) parts

  condition-good : (spec : Spec) (word : BranchWord) (args : List ℕ) (cond : Cond) → OwnCondition spec word args (Ok cond) → has_flags file.sections cond ≡ true → is_well_formed known cond ≡ true
  condition-good spec If args cond is flags = stands-fits file.sections known found spec 64 args cond is flags
  condition-good spec Elif args cond is flags = stands-fits file.sections known found spec 64 args cond is flags
  condition-good spec Else [] cond is flags = let same : cond ≡ Always = cc is in rw same (asks-Always known)
  condition-good spec Else (b ∷ args) cond is flags = absurd (cc is)

  -- the own condition of a branch without fault is well-formed
  abbrev GoodOwn : Result Cond Cause → Type 0
  GoodOwn (Ok cond) = is_well_formed known cond ≡ true
  GoodOwn (Err cause) = ⊥

  own-good : (spec : Spec) (word : BranchWord) (args : List ℕ) (own : Result Cond Cause) → OwnCondition spec word args own → of_condition file.sections own ≡ [] → GoodOwn own
  own-good spec word args (Ok cond) is none = condition-good spec word args cond is (unless-none (has_flags file.sections cond) causes.UnknownFlag none)
  own-good spec word args (Err cause) is none = absurd (cc none)

  -- the condition that a chain takes no branch so far is well-formed
  abbrev GoodChain : Option Cond → Type 0
  GoodChain None = Unit {0}
  GoodChain (Some chain) = is_well_formed known chain ≡ true

  behind-good : (chain : Option Cond) (cond : Cond) → GoodChain chain → is_well_formed known cond ≡ true → is_well_formed known (with_chain chain cond) ≡ true
  behind-good None cond good here = here
  behind-good (Some chain) cond good here = asks-And known chain cond ∙ and_from (is_well_formed known chain) (is_well_formed known cond) good here

  branch-good : (word : BranchWord) (chain : Option Cond) (own : Result Cond Cause) → GoodOwn own → GoodChain chain → is_well_formed known (condition (branch_of word chain own)) ≡ true
  branch-good If chain (Ok own) here good = here
  branch-good If chain (Err cause) here good = absurd here
  branch-good Elif chain (Ok own) here good = behind-good chain own good here
  branch-good Elif chain (Err cause) here good = absurd here
  branch-good Else None own here good = asks-Always known
  branch-good Else (Some chain) own here good = good

  chain-good : (word : BranchWord) (chain : Option Cond) (own : Result Cond Cause) → GoodOwn own → GoodChain chain → GoodChain (chain_of (branch_of word chain own))
  chain-good If chain (Ok own) here good = asks-Not known own ∙ here
  chain-good If chain (Err cause) here good = absurd here
  chain-good Elif chain (Ok own) here good = behind-good chain (Not own) good (asks-Not known own ∙ here)
  chain-good Elif chain (Err cause) here good = absurd here
  chain-good Else chain own here good = tt

  placed-good : (line : ℕ) (branches : List Cond) (found : Option Said) → Good branches → list_all is_good (placed line branches found) ≡ true
  placed-good line branches None good = refl
  placed-good line branches (Some found) good = and_from (list_all (is_well_formed known) branches) true good refl

  abbrev GoodWithin : (List Cond → List SectionPart → Type 0) → Type 0
  GoodWithin Within = (inside : List Cond) (parts : List SectionPart) → Good inside → Sound parts → Within inside parts → list_all is_good parts ≡ true

  abbrev GoodBehind : (Option Cond → List SectionPart → Type 0) → Type 0
  GoodBehind Behind = (left : Option Cond) (parts : List SectionPart) → GoodChain left → Sound parts → Behind left parts → list_all is_good parts ≡ true

  section-good : (spec : Spec) (word : InnerWord) (line : ℕ) (args : List ℕ) (branches : List Cond) (chain : Option Cond) (Within : List Cond → List SectionPart → Type 0) (Behind : Option Cond → List SectionPart → Type 0)
      → GoodWithin Within → GoodBehind Behind → Good branches → GoodChain chain → (parts : List SectionPart) → Sound parts → SectionSays spec word line args branches chain Within Behind parts → list_all is_good parts ≡ true
  section-good spec (inner.Branch word) line args branches chain Within Behind within behind good tried_good parts sound says =
      let here : SectionPart = record { line = line; branches = branches; said = said.Branch word says.own (branch_fits word chain) } in
      let all_sound : Sound (here ∷ says.within ++ says.behind) = subst Sound says.are sound in
      let faults = none-front (of_condition file.sections says.own) (unless (branch_fits word chain) causes.ElseWithoutIf) all_sound.0 in
      let own_good = own-good spec word args says.own says.reads faults in
      let inside = all-append (is_well_formed known) branches (condition (branch_of word chain says.own) ∷ []) good
      (and_from (is_well_formed known (condition (branch_of word chain says.own))) true (branch-good word chain says.own own_good tried_good) refl) in
      let of_part = λ (part : SectionPart). of_said file part.said ≡ [] in
      ap (list_all is_good) says.are
      ∙ and_from (list_all (is_well_formed known) branches) (list_all is_good (says.within ++ says.behind)) good
      (all-append is_good says.within says.behind
      (within (branches ++ condition (branch_of word chain says.own) ∷ []) says.within inside (each-front of_part says.within says.behind all_sound.1) says.inside)
      (behind (chain_of (branch_of word chain says.own)) says.behind (chain-good word chain says.own own_good tried_good) (each-back of_part says.within says.behind all_sound.1) says.others))
  section-good spec inner.Misplaced line args branches chain Within Behind within behind good tried_good parts sound says =
      absurd (misplaced (subst Sound says.2 sound).0)
    where
      misplaced : causes.BadField ∷ [] ≡ [] → ⊥
      misplaced e = cc e
  section-good spec inner.Unread line args branches chain Within Behind within behind good tried_good parts sound says = behind None parts tt sound says

  pub items-good : (spec : Spec) (kind : SectionKind) (front tree : Tree) (branches : List Cond) (chain : Option Cond) (parts : List SectionPart)
      → Good branches → GoodChain chain → Sound parts → Items spec kind front tree branches chain parts → list_all (λ part. list_all (is_well_formed known) part.branches) parts ≡ true
  unfolding Items
  items-good spec kind front end branches chain parts good tried_good sound says = rw says refl
  items-good spec kind front (field line name values behind) branches chain parts good tried_good sound says =
      let of_part = λ (part : SectionPart). of_said file part.said ≡ [] in
      ap (list_all is_good) says.4
      ∙ all-append is_good (placed line branches says.0) says.1 (placed-good line branches says.0 good)
      (items-good spec kind (field line name values front) behind branches None says.1 good tt (each-back of_part (placed line branches says.0) says.1 (subst Sound says.4 sound)) says.3)
  items-good spec kind front (section line name args items behind) branches chain parts good tried_good sound says =
      section-good spec (inner_word kind name) line args branches chain
      (λ within found. Items spec kind end items within None found) (λ left found. Items spec kind (section line name args items front) behind branches left found)
      (λ within found g s is. items-good spec kind end items within None found g tt s is)
      (λ left found g s is. items-good spec kind (section line name args items front) behind branches left found good g s is)
      good tried_good parts sound says
