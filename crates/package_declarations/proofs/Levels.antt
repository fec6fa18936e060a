-- Branches in a table that grows.
use Rattle.std.proofs.Common.{◌≡◌, ℕ, zero, suc, List, [], ◌∷◌, ◌++◌, map, take, slice_get, Option, None, Some, refl, sym, subst, ap, ◌∙◌, append_assoc, append-nil}
use Rattle.plan_types.proofs.ConditionTables.{get-front}
use Rattle.plan_types.specs.declared.condition.Cond.{Cond}
use Rattle.plan_types.specs.declared.condition.Cond.TheVariants.{And}
use Rattle.section_syntax.specs.Branch.{all_of, condition, joined, with_chain}
use Rattle.section_syntax.specs.Chained.{chain_after}
use Rattle.section_syntax.specs.declared.branch.Branch.{Branch}
use Rattle.package_declarations.specs.Gathering.{joined_some}
use Rattle.package_declarations.specs.Levels.{AreLevels, Grown, IsBranch, IsLevel, IsNumbered, chain_at, innermost, innermost_behind, number_at}
use Rattle.package_declarations.specs.declared.branches.Level.{Level}

-- ---- tables that grow

pub grown-self : (a : List Cond) → Grown a a
grown-self a = ([], sym (append-nil a))

pub grown-both : (a b c : List Cond) → Grown a b → Grown b c → Grown a c
grown-both a b c first second = (first.0 ++ second.0, second.1 ∙ ap (λ l. l ++ second.0) first.1 ∙ append_assoc a first.0 second.0)

pub kept : (a b : List Cond) → Grown a b → (i : ℕ) (cond : Cond) → slice_get a i ≡ Some cond → slice_get b i ≡ Some cond
kept a b grown i cond is = subst (λ (l : List Cond). slice_get l i ≡ Some cond) (sym grown.1) (get-front a grown.0 i cond is)

pub numbered-kept : (a b : List Cond) → Grown a b → (number : Option ℕ) (cond : Option Cond) → IsNumbered a number cond → IsNumbered b number cond
numbered-kept a b grown None None is = tt
numbered-kept a b grown None (Some cond) is = is
numbered-kept a b grown (Some number) None is = is
numbered-kept a b grown (Some number) (Some cond) is = kept a b grown number cond is

pub branch-kept : (a b : List Cond) → Grown a b → (level : Level) (branch : Branch) → IsBranch a level branch → IsBranch b level branch
branch-kept a b grown level branch is = record {
  taken = kept a b grown level.taken branch.condition is.taken;
  chain = numbered-kept a b grown level.chain branch.chain is.chain;
}

pub levels-kept : (a b : List Cond) → Grown a b → (around : List Cond) (levels : List Level) (opened : List Branch) → AreLevels a around levels opened → AreLevels b around levels opened
levels-kept a b grown around [] [] are = tt
levels-kept a b grown around [] (branch ∷ opened) are = are
levels-kept a b grown around (level ∷ levels) [] are = are
levels-kept a b grown around (level ∷ levels) (branch ∷ opened) are = (
  record {
    taken = kept a b grown level.taken (all_of (around ++ branch.condition ∷ [])) are.0.taken;
    chain = numbered-kept a b grown level.chain branch.chain are.0.chain;
  },
  levels-kept a b grown (around ++ branch.condition ∷ []) levels opened are.1,
)

-- ---- the innermost branches

module _ (conds : List Cond) where
  pub levels-taken : (around : List Cond) (depth : ℕ) (levels : List Level) (opened : List Branch) → AreLevels conds around levels opened → AreLevels conds around (take depth levels) (take depth opened)
  levels-taken around zero [] [] are = tt
  levels-taken around zero [] (branch ∷ opened) are = absurd are
  levels-taken around zero (level ∷ levels) [] are = absurd are
  levels-taken around zero (level ∷ levels) (branch ∷ opened) are = tt
  levels-taken around (suc depth) [] [] are = tt
  levels-taken around (suc depth) [] (branch ∷ opened) are = absurd are
  levels-taken around (suc depth) (level ∷ levels) [] are = absurd are
  levels-taken around (suc depth) (level ∷ levels) (branch ∷ opened) are = (are.0, levels-taken (around ++ branch.condition ∷ []) depth levels opened are.1)

  pub chain-numbered : (around : List Cond) (depth : ℕ) (levels : List Level) (opened : List Branch) → AreLevels conds around levels opened → IsNumbered conds (chain_at levels depth) (chain_after (slice_get opened depth))
  chain-numbered around depth [] [] are = tt
  chain-numbered around depth [] (branch ∷ opened) are = absurd are
  chain-numbered around depth (level ∷ levels) [] are = absurd are
  chain-numbered around zero (level ∷ levels) (branch ∷ opened) are = are.0.chain
  chain-numbered around (suc depth) (level ∷ levels) (branch ∷ opened) are = chain-numbered (around ++ branch.condition ∷ []) depth levels opened are.1

  behind-numbered : (around : List Cond) (number : ℕ) (levels : List Level) (opened : List Branch) → slice_get conds number ≡ Some (all_of around) → AreLevels conds around levels opened →
      slice_get conds (innermost_behind number levels) ≡ Some (all_of (around ++ map condition opened))
  behind-numbered around number [] [] is are = is ∙ ap (λ l. Some (all_of l)) (sym (append-nil around))
  behind-numbered around number [] (branch ∷ opened) is are = absurd are
  behind-numbered around number (level ∷ levels) [] is are = absurd are
  behind-numbered around number (level ∷ levels) (branch ∷ opened) is are =
      behind-numbered (around ++ branch.condition ∷ []) level.taken levels opened are.0.taken are.1
      ∙ ap (λ l. Some (all_of l)) (append_assoc around (branch.condition ∷ []) (map condition opened))

  -- the innermost of them, if there is one
  pub innermost-numbered : (levels : List Level) (opened : List Branch) → AreLevels conds [] levels opened → IsNumbered conds (innermost levels) (joined_some (map condition opened))
  innermost-numbered [] [] are = tt
  innermost-numbered [] (branch ∷ opened) are = absurd are
  innermost-numbered (level ∷ levels) [] are = absurd are
  innermost-numbered (level ∷ levels) (branch ∷ opened) are = behind-numbered (branch.condition ∷ []) level.taken levels opened are.0.taken are.1

  pub place-numbered : (levels : List Level) (opened : List Branch) → slice_get conds 0 ≡ Some (all_of []) → AreLevels conds [] levels opened → slice_get conds (number_at levels) ≡ Some (all_of (map condition opened))
  place-numbered [] [] root are = root
  place-numbered [] (branch ∷ opened) root are = absurd are
  place-numbered (level ∷ levels) [] root are = absurd are
  place-numbered (level ∷ levels) (branch ∷ opened) root are = behind-numbered (branch.condition ∷ []) level.taken levels opened are.0.taken are.1

  pub levels-pushed : (around : List Cond) (levels : List Level) (opened : List Branch) (level : Level) (branch : Branch) → AreLevels conds around levels opened →
      IsLevel conds (around ++ map condition opened) level branch → AreLevels conds around (levels ++ level ∷ []) (opened ++ branch ∷ [])
  levels-pushed around [] [] level branch are is = (subst (λ l. IsLevel conds l level branch) (append-nil around) is, tt)
  levels-pushed around [] (first ∷ opened) level branch are is = absurd are
  levels-pushed around (one ∷ levels) [] level branch are is = absurd are
  levels-pushed around (one ∷ levels) (first ∷ opened) level branch are is = (
    are.0,
    levels-pushed (around ++ first.condition ∷ []) levels opened level branch are.1
        (subst (λ l. IsLevel conds l level branch) (sym (append_assoc around (first.condition ∷ []) (map condition opened))) is),
  )

-- ---- conjunctions with one more condition

joined-last : (first : Cond) (conds : List Cond) (cond : Cond) → joined first (conds ++ cond ∷ []) ≡ And (joined first conds) cond
joined-last first [] cond = refl
joined-last first (next ∷ conds) cond = joined-last (And first next) conds cond

pub all-last : (conds : List Cond) (cond : Cond) → all_of (conds ++ cond ∷ []) ≡ with_chain (joined_some conds) cond
all-last [] cond = refl
all-last (first ∷ conds) cond = joined-last first conds cond

pub some-last : (conds : List Cond) (cond : Cond) → joined_some (conds ++ cond ∷ []) ≡ Some (with_chain (joined_some conds) cond)
some-last [] cond = refl
some-last (first ∷ conds) cond = ap Some (joined-last first conds cond)

-- the innermost is the last one
pub innermost-last : (number : ℕ) (levels : List Level) (last : Level) → innermost_behind number (levels ++ last ∷ []) ≡ last.taken
innermost-last number [] last = refl
innermost-last number (level ∷ levels) last = innermost-last level.taken levels last
