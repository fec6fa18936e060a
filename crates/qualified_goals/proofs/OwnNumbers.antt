-- Shared: in a list of distinct names, a name's number is its own place.
use Rattle.std.proofs.Common.{◌≡◌, ◌<◌, ◌+◌, ℕ, zero, suc, true, false, cond, not, List, [], ◌∷◌, length, get_or, Some, None, refl, sym, ap, ◌∙◌, subst, arith}
use Rattle.std.specs.List.{AllByRecursion, IsDistinct, position_or_len}
use Rattle.std.proofs.lemmas.Bool.{false≢true, lt-ltb}
use Rattle.std.proofs.lemmas.Slice.Eq.{bytes_eq-Decides}
use Rattle.common_laws.specs.Small.{same-is}
use Rattle.plan_types.specs.Bytes.{same_text}
use Rattle.qualified_goals.specs.Names.{Name, number_of}

pub self : (name : Name) → same_text name name ≡ true
self name = (bytes_eq-Decides name name).1 refl

-- ---- a name that is there once has its place as its number

apart-at : (n : Name) (ns : List Name) (p : ℕ) → AllByRecursion (λ m. same_text n m ≡ false) ns → p < length ns → same_text n (get_or ns p []) ≡ false
apart-at n [] p h lt = absurd (omega (arith, lt))
apart-at n (m ∷ ns) zero h lt = h.0
apart-at n (m ∷ ns) (suc p) h lt = apart-at n ns p h.1 (omega (arith, lt))

flipped : (m n : Name) → same_text n m ≡ false → same_text m n ≡ false
flipped m n h =
    elim (same_text m n) as (λ b. same_text m n ≡ b → b ≡ false) [
      | true ↦ λ e. absurd (false≢true (sym h ∙ ap (same_text n) (same-is m n e) ∙ self n))
      | false ↦ λ e. refl
    ] refl

own-place : (ns : List Name) (p : ℕ) → IsDistinct same_text ns → p < length ns → position_or_len (same_text (get_or ns p [])) ns ≡ p
unfolding IsDistinct
own-place [] p h lt = absurd (omega (arith, lt))
own-place (n ∷ ns) zero h lt = ap (λ b. cond (not b) (1 + position_or_len (same_text n) ns) 0) (self n)
own-place (n ∷ ns) (suc p) h lt =
    let m = get_or ns p [] in
    let inner = own-place ns p h.1 (omega (arith, lt)) in
    let same : 1 + position_or_len (same_text m) ns ≡ suc p = omega (arith, inner) in
    ap (λ b. cond (not b) (1 + position_or_len (same_text m) ns) 0) (flipped m n (apart-at n ns p h.0 (omega (arith, lt)))) ∙ same

pub own-number : (ns : List Name) (p : ℕ) → IsDistinct same_text ns → p < length ns → number_of ns (get_or ns p []) ≡ Some p
own-number ns p h lt =
    let place = position_or_len (same_text (get_or ns p [])) ns in
    let is = own-place ns p h lt in
    ap (λ b. cond b (Some place) None) (lt-ltb place (length ns) (subst (λ k. k < length ns) (sym is) lt)) ∙ ap Some is
