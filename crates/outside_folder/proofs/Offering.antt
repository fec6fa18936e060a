-- One more write of a text.
use Rattle.std.proofs.Common.{◌≡◌, ℕ, ◌<◌, List, [], ◌∷◌, ◌++◌, length, drop, Result, Ok, Err, refl, sym, subst}
use Rattle.std.specs.Prelude.{OnErr}
use Rattle.outside_folder.specs.declared.sink.SinkFault.{SinkFault}
use Rattle.outside_folder.specs.Sink.{Offers}

pub Offers-more : {S : Type 0} (takes : S → List ℕ → Result ℕ SinkFault → S → Type 0) (sink : S) (text : List ℕ) (counts : List ℕ) (now : S) (left : List ℕ) (n : ℕ) (next : S)
    → Offers takes sink text counts now left → 0 < length left → takes now left (Ok n) next → Offers takes sink text (counts ++ n ∷ []) next (drop n left)
Offers-more takes sink text [] now left n next so_far some took =
    let here = subst (λ t. 0 < length t) (sym so_far.1) some in
    let took_here = subst (λ s. takes s text (Ok n) next) (sym so_far.0) (subst (λ t. takes now t (Ok n) next) (sym so_far.1) took) in
    (here, next, took_here, (refl, subst (λ t. drop n text ≡ drop n t) so_far.1 refl))
Offers-more takes sink text (count ∷ counts) now left n next so_far some took =
    (so_far.0, so_far.1, so_far.2, Offers-more takes so_far.1 (drop count text) counts now left n next so_far.3 some took)

-- a true statement is true on an error, too
pub on-err : {T E : Type 0} (result : Result T E) (P : Type 0) → P → OnErr result P
on-err (Ok x) P p = tt
on-err (Err e) P p = p
