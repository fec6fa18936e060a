-- Lists by their last items, and nodes that have given a value, all but the last.
use Rattle.std.proofs.Common.{◌≡◌, ◌≢◌, ℕ, Option, Some, None, ◌-◌, ◌<◌, ◌≤◌, List, [], ◌∷◌, ◌++◌, length, get_or, refl, sym, ap, ◌∙◌, subst, arith, length-append}
use Rattle.std.specs.Prelude.{slice_set, MatchOption}
use Rattle.std.specs.List.{All}
use Rattle.std.proofs.Math.Seq.{set-append_seam, get_or-append_seam}
use Rattle.std.proofs.Math.ListN.{get_or-append}
use Rattle.std.proofs.lemmas.List.Elements.{All-push, All-nil}
use Rattle.choice_problem.specs.Trail.{choice_of}
use Rattle.choice_problem.proofs.TrailEnds.{snoc-same}
use Rattle.choice_tree.specs.declared.tree.TreeNode.{TreeNode}
use Rattle.choice_tree.specs.Tree.{stepped, values_left, choice_at, Gives, GivesNext, HasGiven, IsGrown}

-- a list has a last item, or is empty
pub data ByLast {X : Type 0} (xs : List X) : Type 0 where
  none : xs ≡ [] → ByLast xs
  last : (front : List X) (x : X) → xs ≡ front ++ x ∷ [] → ByLast xs

pub by-last : {X : Type 0} (xs : List X) → ByLast xs
by-last [] = none refl
by-last (x ∷ xs) = elim (by-last xs) [ none e ↦ last [] x (ap (λ l. x ∷ l) e) | last front y e ↦ last (x ∷ front) y (ap (λ l. x ∷ l) e) ]

abbrev GaveOne : TreeNode → Type 0
GaveOne node = 0 < node.given

abbrev IsWithin : TreeNode → Type 0
IsWithin node = node.given ≤ length node.values

-- all nodes have given a value, where the last one has
all-given : (nodes : List TreeNode) → IsGrown nodes → HasGiven nodes → All GaveOne nodes
all-given nodes grown last_given =
    elim (by-last nodes) [
      | none e ↦ subst (All GaveOne) (sym e) (All-nil GaveOne)
      | last front x e ↦ subst (All GaveOne) (sym e) (All-push GaveOne front x (grown.given front x e) (last_given front x e))
    ]

pub grown-push : (nodes : List TreeNode) (node : TreeNode) → IsGrown nodes → HasGiven nodes → IsWithin node → IsGrown (nodes ++ node ∷ [])
grown-push nodes node grown last_given within = record {
  within = All-push IsWithin nodes node grown.within within;
  given = λ outer last e. subst (All GaveOne) (snoc-same nodes node outer last e).0 (all-given nodes grown last_given);
}

front-within : (outer : List TreeNode) (node : TreeNode) → All IsWithin (outer ++ node ∷ []) → All IsWithin outer
front-within outer node h k d below =
    subst IsWithin (get_or-append outer (node ∷ []) d k below) (h k d (omega (arith, below, length-append outer (node ∷ []))))

pub grown-step : (outer : List TreeNode) (node new : TreeNode) → IsGrown (outer ++ node ∷ []) → IsWithin new → IsGrown (outer ++ new ∷ [])
grown-step outer node new grown within = record {
  within = All-push IsWithin outer new (front-within outer node grown.within) within;
  given = λ front last e. grown.given front node (ap (λ l. l ++ node ∷ []) (snoc-same outer new front last e).0);
}

set-last : {X : Type 0} (xs outer : List X) (x new : X) (i : ℕ) → xs ≡ outer ++ x ∷ [] → i ≡ length xs - 1 → slice_set xs i new ≡ outer ++ new ∷ []
set-last xs outer x new i e k =
    let at : i ≡ length outer = omega (arith, k, ap length e, length-append outer (x ∷ [])) in
    ap (λ l. slice_set l i new) e ∙ ap (λ j. slice_set (outer ++ x ∷ []) j new) at ∙ set-append_seam outer x [] new

pub at-last : {X : Type 0} (xs outer : List X) (x d : X) (i : ℕ) → xs ≡ outer ++ x ∷ [] → i ≡ length xs - 1 → get_or xs i d ≡ x
at-last xs outer x d i e k =
    let at : i ≡ length outer = omega (arith, k, ap length e, length-append outer (x ∷ [])) in
    ap (λ l. get_or l i d) e ∙ ap (λ j. get_or (outer ++ x ∷ []) j d) at ∙ get_or-append_seam outer x [] d

pub grown-set : (nodes : List TreeNode) (old new : TreeNode) (i : ℕ) → nodes ≢ [] → i ≡ length nodes - 1 → old ≡ get_or nodes i old → IsGrown nodes
    → (IsWithin old → IsWithin new) → IsGrown (slice_set nodes i new)
grown-set nodes old new i some k is grown within =
    elim (by-last nodes) [
      | none e ↦ absurd (some e)
      | last outer node e ↦
          let all = subst (All IsWithin) e grown.within in
          let old_is : old ≡ node = is ∙ at-last nodes outer node old i e k in
          let old_within = subst IsWithin (sym old_is) (subst IsWithin (get_or-append_seam outer node [] node) (all (length outer) node (omega (arith, length-append outer (node ∷ []))))) in
          subst IsGrown (sym (set-last nodes outer node new i e k)) (grown-step outer node new (subst IsGrown e grown) (within old_within))
    ]

-- the path gives the next value of its last node
pub next-of : (nodes : List TreeNode) (old new : TreeNode) (i : ℕ) (r : Option ℕ) → i ≡ length nodes - 1 → old ≡ get_or nodes i old
    → MatchOption r ((values_left old ≡ []) × (new ≡ old)) (Gives old new)
    → (outer : List TreeNode) (node : TreeNode) → nodes ≡ outer ++ node ∷ []
    → MatchOption r ((values_left node ≡ []) × (slice_set nodes i new ≡ nodes)) (GivesNext outer node (slice_set nodes i new))
next-of nodes old new i None k is h outer node e =
    let old_is : old ≡ node = is ∙ at-last nodes outer node old i e k in (
      subst (λ n. values_left n ≡ []) old_is h.0,
      set-last nodes outer node new i e k ∙ ap (λ n. outer ++ n ∷ []) (h.1 ∙ old_is) ∙ sym e,
    )
next-of nodes old new i (Some n) k is h outer node e =
    let old_is : old ≡ node = is ∙ at-last nodes outer node old i e k in
    record {
      left = subst (λ m. values_left m ≡ n ∷ values_left (stepped m)) old_is h.left;
      choice = subst (λ m. choice_at (stepped m) ≡ choice_of m.var n) old_is h.choice;
      nodes = set-last nodes outer node new i e k ∙ ap (λ m. outer ++ m ∷ []) (h.node ∙ ap stepped old_is);
    }
