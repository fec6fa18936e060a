-- Variables that compare as equal are equal.
use Rattle.std.proofs.Common.{◌≡◌, ℕ, true, refl, ap, ◌∙◌}
use Rattle.std.specs.Ordering.{nat_cmp, is_eq, ordering_then}
use Rattle.std.specs.declared.cmp.Ordering.{Ordering}
use Rattle.std.specs.declared.cmp.Ordering.TheVariants.{Less, Equal, Greater}
use Rattle.std.proofs.lemmas.Bool.{false≢true}
use Rattle.std.proofs.lemmas.Cmp.{nat_cmp_total, tied_itself}
use Rattle.std.proofs.lemmas.Map.Lookups.{exact_unsigned}
use Rattle.qualified_goals.specs.declared.variable.Qual.{Qual}
use Rattle.qualified_goals.specs.declared.variable.Qual.TheVariants.{Top, Setup, Exe}
use Rattle.qualified_goals.specs.declared.variable.Part.{Part}
use Rattle.qualified_goals.specs.declared.variable.Part.TheVariants.{Package, Flag, Tests, Benches}
use Rattle.qualified_goals.specs.declared.variable.Var.{Var}
use Rattle.qualified_goals.specs.Variable.{qual_cmp, part_cmp, var_cmp, same_var}
use Rattle.common_laws.specs.Small.{is-equal, second-equal}

then-first : (a b : Ordering) → ordering_then a b ≡ Equal → a ≡ Equal
then-first Less b h = h
then-first Equal b h = refl
then-first Greater b h = h

pub qual-is : (q r : Qual) → qual_cmp q r ≡ Equal → q ≡ r
qual-is Top Top h = refl
qual-is Top (Setup q) h = absurd (cc h)
qual-is Top (Exe q u) h = absurd (cc h)
qual-is (Setup p) Top h = absurd (cc h)
qual-is (Setup p) (Setup q) h = ap Setup (exact_unsigned p q h)
qual-is (Setup p) (Exe q u) h = absurd (cc h)
qual-is (Exe p t) Top h = absurd (cc h)
qual-is (Exe p t) (Setup q) h = absurd (cc h)
qual-is (Exe p t) (Exe q u) h =
    ap (λ x. Exe x t) (exact_unsigned p q (then-first (nat_cmp p q) (nat_cmp t u) h)) ∙ ap (Exe q) (exact_unsigned t u (second-equal (nat_cmp p q) (nat_cmp t u) h))

part-is : (q r : Part) → part_cmp q r ≡ Equal → q ≡ r
part-is Package Package h = refl
part-is Package (Flag n) h = absurd (cc h)
part-is Package Tests h = absurd (cc h)
part-is Package Benches h = absurd (cc h)
part-is (Flag m) Package h = absurd (cc h)
part-is (Flag m) (Flag n) h = ap Flag (exact_unsigned m n h)
part-is (Flag m) Tests h = absurd (cc h)
part-is (Flag m) Benches h = absurd (cc h)
part-is Tests Package h = absurd (cc h)
part-is Tests (Flag n) h = absurd (cc h)
part-is Tests Tests h = refl
part-is Tests Benches h = absurd (cc h)
part-is Benches Package h = absurd (cc h)
part-is Benches (Flag n) h = absurd (cc h)
part-is Benches Tests h = absurd (cc h)
part-is Benches Benches h = refl

pub same_var-is : (v w : Var) → same_var v w ≡ true → v ≡ w
same_var-is v w h =
    let e = is-equal (var_cmp v w) h in
    let q = qual-is v.qual w.qual (then-first (qual_cmp v.qual w.qual) (ordering_then (nat_cmp v.«package» w.«package») (part_cmp v.part w.part)) e) in
    let rest = second-equal (qual_cmp v.qual w.qual) (ordering_then (nat_cmp v.«package» w.«package») (part_cmp v.part w.part)) e in
    let n = exact_unsigned v.«package» w.«package» (then-first (nat_cmp v.«package» w.«package») (part_cmp v.part w.part) rest) in
    let r = part-is v.part w.part (second-equal (nat_cmp v.«package» w.«package») (part_cmp v.part w.part) rest) in
    ap (λ x. record { qual = x; «package» = v.«package»; part = v.part }) q
    ∙ ap (λ x. record { qual = w.qual; «package» = x; part = v.part }) n
    ∙ ap (λ x. record { qual = w.qual; «package» = w.«package»; part = x }) r

pub qual-refl : (q : Qual) → qual_cmp q q ≡ Equal
qual-refl Top = refl
qual-refl (Setup p) = tied_itself nat_cmp_total p
qual-refl (Exe p t) = ap (λ o. ordering_then o (nat_cmp t t)) (tied_itself nat_cmp_total p) ∙ tied_itself nat_cmp_total t

part-refl : (q : Part) → part_cmp q q ≡ Equal
part-refl Package = refl
part-refl (Flag n) = tied_itself nat_cmp_total n
part-refl Tests = refl
part-refl Benches = refl

pub same_var-refl : (v : Var) → same_var v v ≡ true
same_var-refl v =
    ap (λ o. is_eq (ordering_then o (ordering_then (nat_cmp v.«package» v.«package») (part_cmp v.part v.part)))) (qual-refl v.qual)
    ∙ ap (λ o. is_eq (ordering_then o (part_cmp v.part v.part))) (tied_itself nat_cmp_total v.«package»)
    ∙ ap is_eq (part-refl v.part)
