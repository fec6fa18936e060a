-- Version directories of a package have distinct versions.
use Rattle.std.proofs.Common.{◌≡◌, ℕ, true, false, List, [], ◌∷◌, map, Option, Some, None, refl, sym, ◌∙◌, ap, subst, Ordering, Less, Equal}
use Rattle.std.specs.List.{AllByRecursion, IsDistinct}
use Rattle.std.specs.List.Sorted.{IsStrictlySortedBy}
use Rattle.std.specs.Ordering.{nat_cmp}
use Rattle.std.specs.Cmp.Lexicographic.{slice_cmp, bytes_decides, nat_list_cmp_total}
use Rattle.std.specs.Prelude.{IfSome, unwrap_or}
use Rattle.std.proofs.lemmas.Cmp.{tied_itself}
use Rattle.outside_folder.specs.Files.{Bytes}
use Rattle.outside_folder.specs.Folder.{IsInOrder}
use Rattle.outside_folder.specs.declared.folder.Name.{Name}
use Rattle.plan_types.specs.declared.condition.Env.{Env}
use Rattle.version_range.specs.Version.{version_text}
use Rattle.index_files.specs.Releases.{AreVersions}
use Rattle.index_files.specs.Steps.{AreJudged}
use Rattle.index_files.specs.declared.release.Release.{Release}
use Rattle.index_files.specs.declared.versions.VersionDir.{VersionDir}
use Rattle.plan_types.specs.Bytes.{same_text}

abbrev order : Bytes → Bytes → Ordering
order = slice_cmp nat_cmp

abbrev numbers : List VersionDir → List (List ℕ)
numbers dirs = map (λ (dir : VersionDir). dir.version.parts) dirs

abbrev IsAbove : Bytes → List Name → Type 0
IsAbove text names = AllByRecursion (λ other. order text other ≡ Less) (map (λ (name : Name). name.text) names)

not-below-itself : (text : Bytes) → order text text ≡ Less → ⊥
not-below-itself text less = let equal = tied_itself nat_list_cmp_total text in let both : Less ≡ Equal = sym less ∙ equal in cc both

-- texts of the same version are equal
other-version : (text other : Bytes) (v w : List ℕ) → text ≡ version_text v → other ≡ version_text w → order text other ≡ Less → same_text v w ≡ false
other-version text other v w of_text of_other less =
    elim (same_text v w) as (λ b. same_text v w ≡ b → b ≡ false) [
      | true ↦ λ e.
          let one = (bytes_decides v w).0 e in
          let texts : other ≡ text = of_other ∙ ap version_text (sym one) ∙ sym of_text in
          absurd (not-below-itself text (ap (order text) (sym texts) ∙ less))
      | false ↦ λ e. refl
    ] refl

apart : (text : Bytes) (v : List ℕ) → text ≡ version_text v → (names : List Name) (dirs : List VersionDir) → AreVersions names dirs → IsAbove text names → AllByRecursion (λ w. same_text v w ≡ false) (numbers dirs)
apart text v is [] dirs none above = subst (λ ds. AllByRecursion (λ w. same_text v w ≡ false) (numbers ds)) (sym none) tt
apart text v is (name ∷ names) dirs (None, more, reads, rest, dirs-are) above =
    subst (λ ds. AllByRecursion (λ w. same_text v w ≡ false) (numbers ds)) (sym dirs-are) (apart text v is names more rest above.1)
apart text v is (name ∷ names) dirs (Some version, more, reads, rest, dirs-are) above =
    subst (λ ds. AllByRecursion (λ w. same_text v w ≡ false) (numbers ds)) (sym dirs-are)
    (other-version text name.text v version.parts is reads.1 above.0, apart text v is names more rest above.1)

pub versions-once : (names : List Name) (dirs : List VersionDir) → AreVersions names dirs → IsInOrder names → IsDistinct same_text (numbers dirs)
unfolding IsDistinct IsStrictlySortedBy
versions-once [] dirs none rise = subst (λ ds. IsDistinct same_text (numbers ds)) (sym none) tt
versions-once (name ∷ names) dirs (None, more, reads, rest, dirs-are) rise =
    subst (λ ds. IsDistinct same_text (numbers ds)) (sym dirs-are) (versions-once names more rest rise.1)
versions-once (name ∷ names) dirs (Some version, more, reads, rest, dirs-are) rise =
    subst (λ ds. IsDistinct same_text (numbers ds)) (sym dirs-are)
    (apart name.text version.parts reads.1 names more rest rise.0, versions-once names more rest rise.1)

-- a name that isn't read has no releases
pub none-judged : (env : Env) (name : Bytes) (releases : List Release) → releases ≡ [] → AreJudged env name releases
unfolding IsDistinct
none-judged env name releases none = record { dirs = []; files = []; once = tt; are = none }

-- a missing directory has no names
pub or-none : (names : Option (List Name)) (other found : List Name) → found ≡ unwrap_or names other → other ≡ [] → IfSome names IsInOrder → IsInOrder found
unfolding IsStrictlySortedBy
or-none None other found e none h = subst IsInOrder (sym (e ∙ none)) tt
or-none (Some names) other found e none h = subst IsInOrder (sym e) h
