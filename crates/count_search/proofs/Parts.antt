-- A set of ranks: those outside of the tree, and the tree.
use Rattle.std.proofs.Common.{◌≡◌, Bool, true, false, not, ◌||◌, ◌&&◌, List, ◌++◌, Option, Some, None, refl, sym, ap, ◌∙◌, subst, inl, inr}
use Rattle.std.specs.Prelude.{option_to_list, IfSome}
use Rattle.std.specs.Ordering.{is_eq}
use Rattle.std.proofs.lemmas.Bool.{false≢true}
use Rattle.std.proofs.lemmas.List.Folds.{list_any-append}
use Rattle.qualified_goals.specs.declared.variable.Var.{Var}
use Rattle.count_search.specs.declared.ranks.Rank.{Rank}
use Rattle.count_search.specs.Ranks.{rank_cmp, same_rank, has_rank, lesser, passing, AreApart, IsFirst}
use Rattle.count_search.proofs.Orders.{both-ways, either, first-lesser, first-passing, same-rank-is, same-rank-refl}

-- the ranks of all parts
abbrev pub joined : Option Rank → Option Rank → List Rank → List Rank
joined last second tree = option_to_list last ++ (option_to_list second ++ tree)

abbrev pub held : Option Rank → Rank → Bool
held o r = has_rank (option_to_list o) r

pub same-rank-back : (r q : Rank) → same_rank r q ≡ same_rank q r
same-rank-back r q =
    both-ways (same_rank r q) (same_rank q r)
    (λ e. ap (λ x. same_rank q x) (same-rank-is r q e) ∙ same-rank-refl q)
    (λ e. ap (λ x. same_rank r x) (same-rank-is q r e) ∙ same-rank-refl r)

neither : (a b : Bool) → a || b ≡ false → (a ≡ false) × (b ≡ false)
neither true b h = absurd (false≢true (sym h))
neither false b h = (refl, h)

and-false : (a b : Bool) → b ≡ false → a && b ≡ false
and-false true b h = h
and-false false b h = refl

some-as : (P Q : Rank → Type 0) (o : Option Rank) → ((x : Rank) → P x → Q x) → IfSome o P → IfSome o Q
some-as P Q None f h = tt
some-as P Q (Some x) f h = f x h

two : (o : Option Rank) (tree : List Rank) (r : Rank) → has_rank (option_to_list o ++ tree) r ≡ (held o r || has_rank tree r)
two o tree r = list_any-append (λ q. is_eq (rank_cmp r q)) (option_to_list o) tree

pub parts : (last second : Option Rank) (tree : List Rank) (r : Rank) → has_rank (joined last second tree) r ≡ (held last r || (held second r || has_rank tree r))
parts last second tree r = two last (option_to_list second ++ tree) r ∙ ap (λ b. held last r || b) (two second tree r)

-- a held rank

or-none : (b : Bool) → b ≡ (b || false)
or-none true = refl
or-none false = refl

pub held-one : (o : Option Rank) (rank r : Rank) → o ≡ Some rank → same_rank rank r ≡ held o r
held-one o rank r is = same-rank-back rank r ∙ or-none (same_rank r rank) ∙ ap (λ x. held x r) (sym is)

held-is : (o : Option Rank) (rank : Rank) → held o rank ≡ true → o ≡ Some rank
held-is None rank h = absurd (false≢true h)
held-is (Some x) rank h = elim (either (same_rank rank x) false h) [ inl e ↦ ap Some (sym (same-rank-is rank x e)) | inr k ↦ absurd (false≢true k) ]

-- a set that lacks the rank, and has the others
without : (rank : Rank) (new old : Rank → Bool) → new rank ≡ false → ((r : Rank) → same_rank rank r ≡ false → new r ≡ old r) → (r : Rank) → new r ≡ (not (same_rank rank r) && old r)
without rank new old gone others r =
    elim (same_rank rank r) as (λ b. same_rank rank r ≡ b → new r ≡ (not b && old r)) [
      | true ↦ λ e. ap new (sym (same-rank-is rank r e)) ∙ gone
      | false ↦ λ e. others r e
    ] refl

module _ (last second : Option Rank) (tree : List Rank) (apart : AreApart last second tree) where
  -- what a rank is added to

  module _ (rank : Rank) (new : List Rank) (more : (r : Rank) → has_rank new r ≡ (held second r || has_rank tree r)) where
    pub added : (r : Rank) → has_rank (joined (Some rank) last new) r ≡ (same_rank rank r || has_rank (joined last second tree) r)
    added r =
        ap (λ b. b || has_rank (option_to_list last ++ new) r) (same-rank-back r rank)
        ∙ ap (λ b. same_rank rank r || b) (two last new r ∙ ap (λ b. held last r || b) (more r) ∙ sym (parts last second tree r))

    pub added-apart : has_rank (joined last second tree) rank ≡ false → AreApart (Some rank) last new
    added-apart none = record {
      last_apart = two last new rank ∙ ap (λ b. held last rank || b) (more rank) ∙ sym (parts last second tree rank) ∙ none;
      second_apart =
          some-as (λ x. has_rank (option_to_list second ++ tree) x ≡ false) (λ x. has_rank new x ≡ false) last
          (λ x e. more x ∙ sym (two second tree x) ∙ e) apart.last_apart;
    }

  -- the last one is removed

  pub removed-last : (rank : Rank) → held last rank ≡ true → (r : Rank) → has_rank (joined second None tree) r ≡ (not (same_rank rank r) && has_rank (joined last second tree) r)
  removed-last rank h =
      let is = held-is last rank h in
      let rest : Rank → Bool = has_rank (option_to_list second ++ tree) in
      let gone : rest rank ≡ false = subst (λ o. IfSome o (λ r. rest r ≡ false)) is apart.last_apart in
      without rank rest (has_rank (joined last second tree)) gone
      (λ r other. sym (ap (λ o. has_rank (joined o second tree) r) is ∙ ap (λ b. b || rest r) (same-rank-back r rank ∙ other)))

  pub last-apart : AreApart second None tree
  last-apart = record { last_apart = apart.second_apart; second_apart = tt }

  -- the second one is removed

  pub removed-second : (rank : Rank) → held last rank ≡ false → held second rank ≡ true → (r : Rank) → has_rank (joined last None tree) r ≡ (not (same_rank rank r) && has_rank (joined last second tree) r)
  removed-second rank other h =
      let is = held-is second rank h in
      let gone : has_rank tree rank ≡ false = subst (λ o. IfSome o (λ r. has_rank tree r ≡ false)) is apart.second_apart in
      without rank (has_rank (joined last None tree)) (has_rank (joined last second tree))
      (two last tree rank ∙ ap (λ b. b || has_rank tree rank) other ∙ gone)
      (λ r e.
      two last tree r
      ∙ sym (parts last second tree r ∙ ap (λ o. held last r || (held o r || has_rank tree r)) is
      ∙ ap (λ b. held last r || ((b || false) || has_rank tree r)) (same-rank-back r rank ∙ e)))

  pub second-apart : AreApart last None tree
  second-apart = record {
    last_apart =
        some-as (λ x. has_rank (option_to_list second ++ tree) x ≡ false) (λ x. has_rank tree x ≡ false) last
        (λ x e. (neither (held second x) (has_rank tree x) (sym (two second tree x) ∙ e)).1) apart.last_apart;
    second_apart = tt;
  }

  -- one is removed from the tree

  module _ (rank : Rank) (new : List Rank) (less : (r : Rank) → has_rank new r ≡ (not (same_rank rank r) && has_rank tree r)) where
    pub removed-inside : held last rank ≡ false → held second rank ≡ false → (r : Rank) → has_rank (joined last second new) r ≡ (not (same_rank rank r) && has_rank (joined last second tree) r)
    removed-inside h k =
        without rank (has_rank (joined last second new)) (has_rank (joined last second tree))
        (parts last second new rank ∙ ap (λ b. b || (held second rank || has_rank new rank)) h ∙ ap (λ b. b || has_rank new rank) k
        ∙ less rank ∙ ap (λ b. not b && has_rank tree rank) (same-rank-refl rank))
        (λ r e.
        parts last second new r
        ∙ ap (λ b. held last r || (held second r || b)) (less r ∙ ap (λ b. not b && has_rank tree r) e)
        ∙ sym (parts last second tree r))

    less-still : (x : Rank) → has_rank tree x ≡ false → has_rank new x ≡ false
    less-still x e = less x ∙ and-false (not (same_rank rank x)) (has_rank tree x) e

    pub inside-apart : AreApart last second new
    inside-apart = record {
      last_apart =
          some-as (λ x. has_rank (option_to_list second ++ tree) x ≡ false) (λ x. has_rank (option_to_list second ++ new) x ≡ false) last
          (λ x e.
          let each = neither (held second x) (has_rank tree x) (sym (two second tree x) ∙ e) in
          two second new x ∙ ap (λ b. b || has_rank new x) each.0 ∙ less-still x each.1) apart.last_apart;
      second_apart = some-as (λ x. has_rank tree x ≡ false) (λ x. has_rank new x ≡ false) second less-still apart.second_apart;
    }

-- the first open rank of all parts
pub first-joined : (test : Var → Bool) (last second : Option Rank) (tree : List Rank) (first : Option Rank) → IsFirst test (has_rank tree) first
    → IsFirst test (has_rank (joined last second tree)) (lesser (passing test last) (lesser (passing test second) first))
first-joined test last second tree first is =
    subst (λ (has : Rank → Bool). IsFirst test has (lesser (passing test last) (lesser (passing test second) first))) (λ i q. sym (parts last second tree q) i)
    (first-lesser test (held last) (λ q. held second q || has_rank tree q) (passing test last) (lesser (passing test second) first) (first-passing test last)
    (first-lesser test (held second) (has_rank tree) (passing test second) first (first-passing test second) is))
