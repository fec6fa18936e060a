-- A file has at most one outcome.
use Rattle.std.proofs.Common.{◌≡◌, ℕ, List, inl, inr, sym, ◌∙◌, subst}
use Rattle.std.specs.declared.result.Result.{Result}
use Rattle.std.specs.declared.result.Result.TheVariants.{Ok, Err}
use Rattle.plan_types.specs.declared.condition.Env.{Env}
use Rattle.plan_types.specs.declared.description.Description.{Description}
use Rattle.plan_types.specs.declared.element.Element.{Element}
use Rattle.plan_types.specs.declared.refusal.Cause.{Cause}
use Rattle.cabal_lexer.specs.Fault.{IsTree, IsFault}
use Rattle.description.specs.Description.{Describes}
use Rattle.description.specs.FaultOrder.{is_at}
use Rattle.description.specs.declared.fault_order.At.{At}
use Rattle.plan_types.specs.declared.index.Source.{Source}
use Rattle.cabal_file.specs.Source.{IsSource, OfDescription, OfTree, digest_of}

of-one : (env : Env) (x : Result Description At) (a b : Result Source At) → OfDescription env x a → OfDescription env x b → a ≡ b
of-one env (Err at) a b p q = p ∙ sym q
of-one env (Ok d) a b p q = p ∙ sym q

module _
    (one_tree : (bytes : List ℕ) (a b : List Element) → IsTree bytes a → IsTree bytes b → a ≡ b)
    (one_fault : (bytes : List ℕ) (n m : ℕ) (c d : Cause) → IsFault bytes n c → IsFault bytes m d → (n ≡ m) × (c ≡ d))
    (tree_or_fault : (bytes : List ℕ) (items : List Element) (line : ℕ) (cause : Cause) → IsTree bytes items → IsFault bytes line cause → ⊥)
    (one_outcome : (items : List Element) (digest : List ℕ) (a b : Result Description At) → Describes items digest a → Describes items digest b → a ≡ b)
  where
    one-tree-comes : (env : Env) (items : List Element) (digest : List ℕ) (a b : Result Source At) → OfTree env items digest a → OfTree env items digest b → a ≡ b
    one-tree-comes env items digest a b p q =
        of-one env p.0 a b p.2 (subst (λ x. OfDescription env x b) (one_outcome items digest q.0 p.0 q.1 p.1) q.2)

    pub one-source : (env : Env) (bytes : List ℕ) (a b : Result Source At) → IsSource env bytes a → IsSource env bytes b → a ≡ b
    one-source env bytes a b (inl p) (inl q) =
        let e = one_fault bytes p.line q.line p.cause q.cause p.fault q.fault in
        let same : Err (is_at p.line p.cause) ≡ Err (is_at q.line q.cause) = λ i. Err (is_at (e.0 i) (e.1 i)) in
        p.outcome_is ∙ same ∙ sym q.outcome_is
    one-source env bytes a b (inl p) (inr q) = absurd (tree_or_fault bytes q.items p.line p.cause q.tree p.fault)
    one-source env bytes a b (inr p) (inl q) = absurd (tree_or_fault bytes p.items q.line q.cause p.tree q.fault)
    one-source env bytes a b (inr p) (inr q) =
        one-tree-comes env p.items (digest_of bytes) a b p.comes
        (subst (λ items. OfTree env items (digest_of bytes) b) (one_tree bytes q.items p.items q.tree p.tree) q.comes)
