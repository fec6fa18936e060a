-- Chains of sets under one operator.
use Rattle.std.proofs.Common.{◌≡◌, Bool, true, false, ◌&&◌, ◌||◌, List, [], ◌∷◌, ◌++◌, ◌≤◌, arith, refl, sym, ap, ◌∙◌}
use Rattle.std.proofs.Math.Bool.{and_assoc, or_assoc, and_comm, or_comm}
use Rattle.plan_types.specs.declared.version.Version.{Version}
use Rattle.version_range.specs.declared.merge.Connective.{Connective}
use Rattle.version_range.specs.declared.merge.Connective.TheVariants.{Both, Either}
use Rattle.plan_types.specs.declared.range.Range.{Range, size-Range}
use Rattle.plan_types.specs.Members.{members}
use Rattle.version_range.specs.Version.{has_versions}
use Rattle.version_range.specs.Cuts.{HasNumbers, inside, join, joined, IsSplit}

pub joined_append : (j : Connective) (xs ys : List (List Version)) (v : Version) → joined j (xs ++ ys) v ≡ join j (joined j xs v) (joined j ys v)
joined_append Both [] ys v = refl
joined_append Either [] ys v = refl
joined_append Both (x ∷ xs) ys v = ap (λ t. inside x v && t) (joined_append Both xs ys v) ∙ sym (and_assoc (inside x v) (joined Both xs v) (joined Both ys v))
joined_append Either (x ∷ xs) ys v = ap (λ t. inside x v || t) (joined_append Either xs ys v) ∙ sym (or_assoc (inside x v) (joined Either xs v) (joined Either ys v))

pub joined_one : (j : Connective) (x : List Version) (v : Version) → joined j (x ∷ []) v ≡ inside x v
joined_one Both x v = by (inside x v)
  where
    by : (t : Bool) → t && true ≡ t
    by true = refl
    by false = refl
joined_one Either x v = by (inside x v)
  where
    by : (t : Bool) → t || false ≡ t
    by true = refl
    by false = refl

pub joined_push : (j : Connective) (xs : List (List Version)) (y : List Version) (v : Version) → joined j (xs ++ y ∷ []) v ≡ join j (joined j xs v) (inside y v)
joined_push j xs y v = joined_append j xs (y ∷ []) v ∙ ap (join j (joined j xs v)) (joined_one j y v)

pub join_back : (j : Connective) (t r : Bool) → join j t r ≡ join j r t
join_back Both t r = and_comm t r
join_back Either t r = or_comm t r

-- an operand moves from the rest to the taken ones
pub join_over : (j : Connective) (l r t : Bool) → join j l (join j t r) ≡ join j (join j l r) t
join_over Both l r t = ap (λ b. l && b) (and_comm t r) ∙ sym (and_assoc l r t)
join_over Either l r t = ap (λ b. l || b) (or_comm t r) ∙ sym (or_assoc l r t)

-- the first two, merged, move to the end
pub joined_behind : (j : Connective) (x y merged : List Version) (rest : List (List Version)) (v : Version) → inside merged v ≡ join j (inside x v) (inside y v) → joined j (rest ++ merged ∷ []) v ≡ joined j (x ∷ y ∷ rest) v
joined_behind j x y merged rest v h =
    joined_push j rest merged v
    ∙ ap (join j (joined j rest v)) h
    ∙ join_back j (joined j rest v) (join j (inside x v) (inside y v))
    ∙ sym (ap (λ b. join j b (joined j rest v)) (joined_push j (x ∷ []) y v ∙ ap (λ b. join j b (inside y v)) (joined_one j x v)))
    ∙ sym (joined_append j (x ∷ y ∷ []) rest v)

-- Some operands are taken from the right end of a chain, and a range is left.
pub record Takes_over (j : Connective) (left right : Range) (operands : List (List Version)) (rest : Range) : Type 0 where
  pub members_are : (v : Version) → HasNumbers v → join j (members rest v) (joined j operands v) ≡ join j (members left v) (members right v)
  pub versions_are : has_versions rest ≡ true
  pub no_larger : size-Range rest ≤ size-Range left

pub takes_next : (j : Connective) (left right : Range) (operands operands' : List (List Version)) (rest l r : Range) (cuts : List Version) → Takes_over j left right operands rest → IsSplit j rest l r → operands' ≡ operands ++ cuts ∷ [] → ((v : Version) → HasNumbers v → inside cuts v ≡ members r v) → Takes_over j left right operands' l
takes_next j left right operands operands' rest l r cuts t s e are = record {
  members_are = λ v n.
      ap (λ o. join j (members l v) (joined j o v)) e
      ∙ ap (join j (members l v)) (joined_push j operands cuts v ∙ ap (join j (joined j operands v)) (are v n))
      ∙ join_over j (members l v) (members r v) (joined j operands v)
      ∙ ap (λ b. join j b (joined j operands v)) (sym (s.members_are v))
      ∙ t.members_are v n;
  versions_are = (s.versions_are t.versions_are).0;
  no_larger = omega (arith, s.left_smaller, t.no_larger);
}

pub takes_last : (j : Connective) (left right : Range) (operands operands' : List (List Version)) (rest : Range) (cuts : List Version) → Takes_over j left right operands rest → operands' ≡ operands ++ cuts ∷ [] → ((v : Version) → HasNumbers v → inside cuts v ≡ members rest v) → (v : Version) → HasNumbers v → joined j operands' v ≡ join j (members left v) (members right v)
takes_last j left right operands operands' rest cuts t e are v n =
    ap (λ o. joined j o v) e
    ∙ joined_push j operands cuts v
    ∙ ap (join j (joined j operands v)) (are v n)
    ∙ join_back j (joined j operands v) (members rest v)
    ∙ t.members_are v n
