-- Shared: the goal order is total.
use Rattle.std.proofs.Common.{◌≡◌, ℕ, true, false, refl, sym, ap, ◌∙◌, subst}
use Rattle.std.specs.Cmp.{IsTotalOrder}
use Rattle.std.specs.Ordering.{nat_cmp, ordering_then, ordering_reverse, is_eq, is_lt}
use Rattle.std.specs.declared.cmp.Ordering.{Ordering}
use Rattle.std.specs.declared.cmp.Ordering.TheVariants.{Less, Equal, Greater}
use Rattle.std.proofs.lemmas.Bool.{false≢true}
use Rattle.std.proofs.lemmas.Cmp.{nat_cmp_total, on_total, then_total, tied_itself}
use Rattle.qualified_goals.specs.declared.variable.Qual.{Qual}
use Rattle.qualified_goals.specs.declared.variable.Qual.TheVariants.{Top, Setup, Exe}
use Rattle.qualified_goals.specs.declared.variable.Part.{Part}
use Rattle.qualified_goals.specs.declared.variable.Part.TheVariants.{Package, Flag, Tests, Benches}
use Rattle.qualified_goals.specs.declared.variable.Var.{Var}
use Rattle.qualified_goals.specs.Variable.{qual_cmp, part_cmp, var_cmp, is_before}
use Rattle.qualified_goals.specs.SameVariable.{same_var-is}
use Rattle.common_laws.specs.Small.{is-less}

-- an order that agrees with a total order is total
total-alike : {K : Type 0} (R S : K → K → Ordering) → ((x y : K) → R x y ≡ S x y) → IsTotalOrder S → IsTotalOrder R
total-alike R S e o = record {
  antisymm = λ x y. e x y ∙ o.antisymm x y ∙ ap ordering_reverse (sym (e y x));
  trans = λ x y z h k. e x z ∙ o.trans x y z (sym (e x y) ∙ h) (sym (e y z) ∙ k);
  congr = λ x y z h. e x z ∙ o.congr x y z (sym (e x y) ∙ h) ∙ sym (e y z);
}

then-equal : (o : Ordering) → ordering_then o Equal ≡ o
then-equal Less = refl
then-equal Equal = refl
then-equal Greater = refl

-- qualifiers by their kind, then by their packages

abbrev qual_kind : Qual → ℕ
qual_kind Top = 0
qual_kind (Setup p) = 1
qual_kind (Exe p t) = 2

abbrev qual_package : Qual → ℕ
qual_package Top = 0
qual_package (Setup p) = p
qual_package (Exe p t) = p

abbrev qual_tool : Qual → ℕ
qual_tool Top = 0
qual_tool (Setup p) = 0
qual_tool (Exe p t) = t

abbrev qual_parts : Qual → Qual → Ordering
qual_parts q r = ordering_then (nat_cmp (qual_kind q) (qual_kind r)) (ordering_then (nat_cmp (qual_package q) (qual_package r)) (nat_cmp (qual_tool q) (qual_tool r)))

qual-parts : (q r : Qual) → qual_cmp q r ≡ qual_parts q r
qual-parts Top Top = refl
qual-parts Top (Setup q) = refl
qual-parts Top (Exe q u) = refl
qual-parts (Setup p) Top = refl
qual-parts (Setup p) (Setup q) = sym (then-equal (nat_cmp p q))
qual-parts (Setup p) (Exe q u) = refl
qual-parts (Exe p t) Top = refl
qual-parts (Exe p t) (Setup q) = refl
qual-parts (Exe p t) (Exe q u) = refl

qual_parts_total : IsTotalOrder qual_parts
qual_parts_total = then_total (on_total qual_kind nat_cmp_total) (then_total (on_total qual_package nat_cmp_total) (on_total qual_tool nat_cmp_total))

qual_cmp_total : IsTotalOrder qual_cmp
qual_cmp_total = total-alike qual_cmp qual_parts qual-parts qual_parts_total

-- parts by their kind, then by the number of a flag

abbrev part_kind : Part → ℕ
part_kind Package = 0
part_kind (Flag n) = 1
part_kind Tests = 2
part_kind Benches = 3

abbrev part_flag : Part → ℕ
part_flag Package = 0
part_flag (Flag n) = n
part_flag Tests = 0
part_flag Benches = 0

abbrev part_parts : Part → Part → Ordering
part_parts q r = ordering_then (nat_cmp (part_kind q) (part_kind r)) (nat_cmp (part_flag q) (part_flag r))

part-parts : (q r : Part) → part_cmp q r ≡ part_parts q r
part-parts Package Package = refl
part-parts Package (Flag n) = refl
part-parts Package Tests = refl
part-parts Package Benches = refl
part-parts (Flag m) Package = refl
part-parts (Flag m) (Flag n) = refl
part-parts (Flag m) Tests = refl
part-parts (Flag m) Benches = refl
part-parts Tests Package = refl
part-parts Tests (Flag n) = refl
part-parts Tests Tests = refl
part-parts Tests Benches = refl
part-parts Benches Package = refl
part-parts Benches (Flag n) = refl
part-parts Benches Tests = refl
part-parts Benches Benches = refl

part_parts_total : IsTotalOrder part_parts
part_parts_total = then_total (on_total part_kind nat_cmp_total) (on_total part_flag nat_cmp_total)

part_cmp_total : IsTotalOrder part_cmp
part_cmp_total = total-alike part_cmp part_parts part-parts part_parts_total

pub var_cmp_total : IsTotalOrder var_cmp
var_cmp_total = then_total (on_total (λ (v : Var). v.qual) qual_cmp_total) (then_total (on_total (λ (v : Var). v.«package») nat_cmp_total) (on_total (λ (v : Var). v.part) part_cmp_total))

-- laws of `is_before`

pub before-itself : (v : Var) → is_before v v ≡ false
before-itself v = ap is_lt (tied_itself var_cmp_total v)

pub before-trans : (u v w : Var) → is_before u v ≡ true → is_before v w ≡ true → is_before u w ≡ true
before-trans u v w h k = ap is_lt (var_cmp_total.trans u v w (is-less (var_cmp u v) h) (is-less (var_cmp v w) k))

reverse-lt : (o : Ordering) → is_lt o ≡ true → is_lt (ordering_reverse o) ≡ false
reverse-lt Less h = refl
reverse-lt Equal h = absurd (false≢true h)
reverse-lt Greater h = absurd (false≢true h)

pub before-back : (v w : Var) → is_before v w ≡ true → is_before w v ≡ false
before-back v w h = ap is_lt (var_cmp_total.antisymm w v) ∙ reverse-lt (var_cmp v w) h

neither-equal : (o : Ordering) → is_lt o ≡ false → is_lt (ordering_reverse o) ≡ false → is_eq o ≡ true
neither-equal Less h k = absurd (false≢true (sym h))
neither-equal Equal h k = refl
neither-equal Greater h k = absurd (false≢true (sym k))

-- two variables are equal if neither is before the other
pub before-neither : (v w : Var) → is_before v w ≡ false → is_before w v ≡ false → v ≡ w
before-neither v w h k = same_var-is v w (neither-equal (var_cmp v w) h (sym (ap is_lt (var_cmp_total.antisymm w v)) ∙ k))

-- `is_before` is negatively transitive
pub not-before-trans : (u v w : Var) → is_before v u ≡ false → is_before w v ≡ false → is_before w u ≡ false
not-before-trans u v w h k =
    elim (is_before w u) as (λ b. is_before w u ≡ b → b ≡ false) [
      | false ↦ λ e. refl
      | true ↦ λ e. elim (is_before u v) as (λ b. is_before u v ≡ b → true ≡ false) [
        | true ↦ λ f. sym (before-trans w u v e f) ∙ k
        | false ↦ λ f. let same : u ≡ v = before-neither u v f h in sym (subst (λ x. is_before w x ≡ true) same e) ∙ k
      ] refl
    ] refl
