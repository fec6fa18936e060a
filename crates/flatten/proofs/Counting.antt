-- A demand counts iff its stanza is on and its path holds.
use Rattle.std.proofs.Common.{◌≡◌, ℕ, zero, suc, true, false, ◌&&◌, ◌||◌, Some, List, [], ◌∷◌, map, refl, sym, ap, ◌∙◌}
use Rattle.std.specs.List.{list_any, slice_get}
use Rattle.std.proofs.lemmas.Bool.{and_right}
use Rattle.std.proofs.lemmas.List.Folds.{list_all-append}
use Rattle.std.proofs.lemmas.Option.{same_Some}
use Rattle.std.proofs.Math.Bool.{and-or_distrib_left}
use Rattle.std.specs.Cmp.{second_so}
use Rattle.plan_types.specs.declared.dependency.Dep.{Dep}
use Rattle.plan_types.specs.declared.description.CompKind.{CompKind}
use Rattle.plan_types.specs.declared.index.FlatDep.{FlatDep}
use Rattle.conditionals.specs.Paths.{Path, has_setting, holds}
use Rattle.flatten.specs.Counting.{Parts, flags_of, are_met}
use Rattle.flatten.specs.Demands.{stanza_of, literal_of, flat_of}

path_is_met : (parts : Parts) (path : Path) → are_met parts (map literal_of path) ≡ holds (flags_of parts) path
path_is_met parts [] = refl
path_is_met parts (s ∷ path) = ap (λ b. has_setting (flags_of parts s.name) s.on && b) (path_is_met parts path)

pub is_met : (parts : Parts) (kind : CompKind) (dep : Dep) (path : Path) → are_met parts (flat_of kind dep path).when ≡ (are_met parts (stanza_of kind) && holds (flags_of parts) path)
is_met parts kind dep path =
    list_all-append (λ literal. has_setting (parts literal.part) literal.on) (stanza_of kind) (map literal_of path)
    ∙ ap (λ b. are_met parts (stanza_of kind) && b) (path_is_met parts path)

pub any_is_met : (parts : Parts) (kind : CompKind) (dep : Dep) (paths : List Path) → list_any (λ flat. are_met parts flat.when) (map (flat_of kind dep) paths) ≡ (are_met parts (stanza_of kind) && list_any (holds (flags_of parts)) paths)
any_is_met parts kind dep [] = sym (and_right (are_met parts (stanza_of kind)) false refl)
any_is_met parts kind dep (path ∷ paths) =
    let stanza = are_met parts (stanza_of kind) in
    (λ i. is_met parts kind dep path i || any_is_met parts kind dep paths i)
    ∙ sym (and-or_distrib_left stanza (holds (flags_of parts) path) (list_any (holds (flags_of parts)) paths))

-- the demand at a place has the path at that place
pub record IsFrom (kind : CompKind) (dep : Dep) (paths : List Path) (i : ℕ) (flat : FlatDep) : Type 0 where
  pub path : Path
  pub there : slice_get paths i ≡ Some path
  pub is : flat_of kind dep path ≡ flat

pub from_path : (kind : CompKind) (dep : Dep) (paths : List Path) (i : ℕ) (flat : FlatDep) → slice_get (map (flat_of kind dep) paths) i ≡ Some flat → IsFrom kind dep paths i flat
from_path kind dep [] i flat e = absurd (cc e)
from_path kind dep (path ∷ paths) zero flat e = record { path = path; there = refl; is = same_Some _ _ e }
from_path kind dep (path ∷ paths) (suc i) flat e =
    let found = from_path kind dep paths i flat e in
    record { path = found.path; there = found.there; is = found.is }

pub holds_too : (parts : Parts) (kind : CompKind) (dep : Dep) (path : Path) (flat : FlatDep) → flat_of kind dep path ≡ flat → are_met parts flat.when ≡ true → holds (flags_of parts) path ≡ true
holds_too parts kind dep path flat is met = second_so (are_met parts (stanza_of kind)) (holds (flags_of parts) path) (sym (is_met parts kind dep path) ∙ ap (λ one. are_met parts one.when) is ∙ met)
