-- Packages with these names are in goal order.
use Rattle.std.proofs.Common.{◌≡◌, Bool, true, false, [], ◌∷◌, ap, ◌∙◌, codes}
use Rattle.std.specs.List.{IsDistinct}
use Rattle.std.specs.List.Sorted.{IsStrictlySortedBy}
use Rattle.std.specs.declared.cmp.Ordering.{Ordering}
use Rattle.plan_types.specs.declared.index.Package.{Package}
use Rattle.qualified_goals.specs.Names.{Name, package_cmp, AreInGoalOrder}
use Rattle.plan_types.specs.Bytes.{same_text}

abbrev by-names : Name → Bool → Name → Bool → Ordering
by-names m a n b = package_cmp (record { name = m; local = a; extra = false; entries = [] }) (record { name = n; local = b; extra = false; entries = [] })

named : (p q : Package) (m n : Name) (a b : Bool) → p.name ≡ m → p.local ≡ a → q.name ≡ n → q.local ≡ b → package_cmp p q ≡ by-names m a n b
named p q m n a b e f g h =
    ap (λ x. by-names x p.local q.name q.local) e ∙ ap (λ x. by-names m x q.name q.local) f ∙ ap (λ x. by-names m a x q.local) g ∙ ap (λ x. by-names m a n x) h

differ : (p q : Package) (m n : Name) → p.name ≡ m → q.name ≡ n → same_text p.name q.name ≡ same_text m n
differ p q m n e f = ap (λ x. same_text x q.name) e ∙ ap (same_text m) f

module _ (base main other : Package) (base_named : base.name ≡ codes "base") (base_is : base.local ≡ false) (main_named : main.name ≡ codes "main") (main_is : main.local ≡ true) (other_named : other.name ≡ codes "a") (other_is : other.local ≡ false) where
  pub in_order : AreInGoalOrder (base ∷ main ∷ other ∷ [])
  unfolding IsStrictlySortedBy IsDistinct
  in_order = record {
    rising = (
      (named base main (codes "base") (codes "main") false true base_named base_is main_named main_is, (named base other (codes "base") (codes "a") false false base_named base_is other_named other_is, tt)),
      ((named main other (codes "main") (codes "a") true false main_named main_is other_named other_is, tt), (tt, tt)),
    );
    once = (
      (differ base main (codes "base") (codes "main") base_named main_named, (differ base other (codes "base") (codes "a") base_named other_named, tt)),
      ((differ main other (codes "main") (codes "a") main_named other_named, tt), (tt, tt)),
    );
  }
