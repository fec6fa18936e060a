-- The chosen flags have each declared flag exactly once.
use Rattle.std.proofs.Common.{◌≡◌, ℕ, ◌+◌, Bool, true, false, cond, not, List, [], ◌∷◌, map, refl, sym, ap, ◌∙◌, arith}
use Rattle.std.specs.List.{Contains, count_by, list_any}
use Rattle.std.specs.Prelude.{◌==◌}
use Rattle.std.specs.Cmp.Lexicographic.{nat_list_eq_equiv}
use Rattle.std.proofs.lemmas.Bool.{and_from, and_parts, eq-eqb, false≢true, or_parts}
use Rattle.std.proofs.lemmas.List.Sums.{sum_by-cons}
use Rattle.common_laws.specs.Lists.{all-at, all-from, any-from, map-contains}
use Rattle.plan_types.specs.declared.condition.FlagSet.{FlagSet}
use Rattle.plan_types.specs.declared.description.FlagDecl.{FlagDecl}
use Rattle.plan_types.specs.Bytes.{same_text}
use Rattle.store_id.specs.NodeText.{names_each_once}
use Rattle.plan_components.specs.Apart.{are_apart}

not-false : (b : Bool) → not b ≡ true → b ≡ false
not-false true h = cc h
not-false false h = refl

module _ (f : FlagDecl → FlagSet) (keeps : (decl : FlagDecl) → (f decl).name ≡ decl.name) where
  abbrev names : List FlagDecl → List (List ℕ)
  names decls = map (λ (d : FlagDecl). d.name) decls

  abbrev times : List FlagDecl → List ℕ → ℕ
  times decls name = count_by (λ (s : FlagSet). same_text s.name name) (map f decls)

  by_first : (d : FlagDecl) (decls : List FlagDecl) (name : List ℕ) (b : Bool) → same_text d.name name ≡ b → times (d ∷ decls) name ≡ cond b 1 0 + times decls name
  by_first d decls name b h =
      sum_by-cons (λ (s : FlagSet). cond (same_text s.name name) 1 0) (f d) (map f decls)
      ∙ ap (λ t. cond t 1 0 + times decls name) (ap (λ n. same_text n name) (keeps d) ∙ h)

  not-first : (d : FlagDecl) (decls : List FlagDecl) (name : List ℕ) → same_text d.name name ≡ false → times (d ∷ decls) name ≡ times decls name
  not-first d decls name h = by_first d decls name false h ∙ zero-more (times decls name)
    where
      zero-more : (n : ℕ) → 0 + n ≡ n
      zero-more n = omega arith

  never : (decls : List FlagDecl) (name : List ℕ) → list_any (λ other. same_text other name) (names decls) ≡ false → times decls name ≡ 0
  never [] name h = refl
  never (d ∷ decls) name h =
      let parts = or_parts (same_text d.name name) (list_any (λ other. same_text other name) (names decls)) h in
      not-first d decls name parts.0 ∙ never decls name parts.1

  differs : (d flag : FlagDecl) (decls : List FlagDecl) → Contains decls flag → list_any (λ other. same_text other d.name) (names decls) ≡ false → same_text d.name flag.name ≡ false
  differs d flag decls inside none =
      elim (same_text d.name flag.name) as (λ b. same_text d.name flag.name ≡ b → b ≡ false) [
        | true ↦ λ e. absurd (false≢true (sym none
            ∙ any-from (λ other. same_text other d.name) (names decls) flag.name (map-contains (λ (g : FlagDecl). g.name) decls flag inside) (nat_list_eq_equiv.symm flag.name d.name ∙ e)))
        | false ↦ λ e. refl
      ] refl

  pub named : (decls : List FlagDecl) → are_apart (names decls) ≡ true → names_each_once decls (map f decls) ≡ true
  named [] h = refl
  named (d ∷ decls) h =
      let parts = and_parts (not (list_any (λ other. same_text other d.name) (names decls))) (are_apart (names decls)) h in
      let none = not-false (list_any (λ other. same_text other d.name) (names decls)) parts.0 in
      let head : times (d ∷ decls) d.name ≡ 1 = by_first d decls d.name true (nat_list_eq_equiv.refl d.name) ∙ ap (λ n. 1 + n) (never decls d.name none) in
      and_from _ _ (eq-eqb (times (d ∷ decls) d.name) 1 head)
      (all-from (λ (g : FlagDecl). times (d ∷ decls) g.name == 1) decls (λ g inside.
      ap (λ n. n == 1) (not-first d decls g.name (differs d g decls inside none))
      ∙ all-at (λ (g : FlagDecl). times decls g.name == 1) decls g (named decls parts.1) inside))
