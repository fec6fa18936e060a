-- Items appended to a list, one by one.
use Rattle.std.proofs.Common.{◌≡◌, true, false, List, [], ◌∷◌, ◌++◌, length, map, None, refl, sym, ◌∙◌, ap, append_assoc, append-nil, if◌then◌else◌, arith}
use Rattle.std.specs.Prelude.{position}
use Rattle.indexmap.specs.IndexSet.{insert_key}
use Rattle.package_declarations.proofs.FirstPlaces.{position-none}
use Rattle.plan_types.specs.declared.condition.Env.{Env}
use Rattle.plan_types.specs.declared.version.Version.{Version}
use Rattle.outside_folder.specs.Files.{Bytes}
use Rattle.outside_folder.specs.declared.calls.Content.{Content}
use Rattle.outside_folder.specs.declared.calls.Content.TheVariants.{Missing, TooLarge, Bytes as Holds}
use Rattle.outside_folder.specs.declared.folder.Name.{Name}
use Rattle.index_files.specs.Releases.{AddsRelease, AddsVersion, AreReleases, AreVersions, IsOneRelease, IsReleaseIn, is_missing, version_dir}
use Rattle.index_files.specs.declared.file.ReadFile.{ReadFile}
use Rattle.index_files.specs.declared.release.Release.{Release}
use Rattle.index_files.specs.declared.versions.VersionDir.{VersionDir}
use Rattle.std.proofs.lemmas.Bool.{false≢true}
use Rattle.std.proofs.lemmas.List.{map-append}
use Rattle.plan_types.specs.Bytes.{same_text}

-- a new key is appended
pub put-new : {X : Type 0} (key : X → Bytes) (xs : List X) (x : X) (keys new : List Bytes) (n : Bytes) (ys : List X)
    → keys ≡ map key xs → position (same_text (key x)) (map key xs) ≡ None → n ≡ key x → new ≡ insert_key same_text keys n → ys ≡ xs ++ x ∷ [] → new ≡ map key ys
put-new key xs x keys new n ys are none is put all =
    put ∙ ap (insert_key same_text keys) is ∙ ap (λ ks. insert_key same_text ks (key x)) are
    ∙ ap (λ b. if b then map key xs else map key xs ++ key x ∷ []) (position-none (same_text (key x)) (map key xs) none)
    ∙ sym (map-append key xs (x ∷ [])) ∙ ap (map key) (sym all)

pub versions-more : (names : List Name) (name : Name) (dirs new : List VersionDir) → AreVersions names dirs → AddsVersion name.text dirs new → AreVersions (names ++ name ∷ []) new
versions-more [] name dirs new h a =
    (a.0, [], a.1, refl, a.2 ∙ ap (λ ds. ds ++ version_dir name.text a.0) h ∙ sym (append-nil (version_dir name.text a.0)))
versions-more (m ∷ names) name dirs new h a =
    let add = version_dir name.text a.0 in (
      h.0,
      h.1 ++ add,
      h.2,
      versions-more names name h.1 (h.1 ++ add) h.3 (a.0, a.1, refl),
      a.2 ∙ ap (λ ds. ds ++ add) h.4 ∙ append_assoc (version_dir m.text h.0) h.1 add,
    )

-- a missing file has no release, any other has one
pub none-released : (env : Env) (name : Bytes) (version : Version) (path : Bytes) (content : Content) → is_missing content ≡ true → IsReleaseIn env name version path content []
none-released env name version path Missing h = refl
none-released env name version path TooLarge h = absurd (false≢true h)
none-released env name version path (Holds bytes) h = absurd (false≢true h)

pub one-released : (env : Env) (name : Bytes) (version : Version) (path : Bytes) (content : Content) {releases : List Release} → is_missing content ≡ false
    → IsOneRelease env name version path content releases → IsReleaseIn env name version path content releases
one-released env name version path Missing h one = absurd (false≢true (sym h))
one-released env name version path TooLarge h one = one
one-released env name version path (Holds bytes) h one = one

pub releases-more : (env : Env) (name : Bytes) (dirs : List VersionDir) (files : List ReadFile) (dir : VersionDir) (file : ReadFile) (old new : List Release)
    → length files ≡ length dirs → AreReleases env name dirs files old → AddsRelease env name dir file old new → AreReleases env name (dirs ++ dir ∷ []) (files ++ file ∷ []) new
releases-more env name [] [] dir file old new l h a = (a.0, [], a.1, refl, a.2 ∙ ap (λ rs. rs ++ a.0) h ∙ sym (append-nil a.0))
releases-more env name [] (f ∷ files) dir file old new l h a = absurd (grind (arith, l))
releases-more env name (d ∷ dirs) [] dir file old new l h a = absurd (grind (arith, l))
releases-more env name (d ∷ dirs) (f ∷ files) dir file old new l h a = (
  h.0,
  h.1 ++ a.0,
  h.2,
  releases-more env name dirs files dir file h.1 (h.1 ++ a.0) (omega (arith, l)) h.3 (a.0, a.1, refl),
  a.2 ∙ ap (λ rs. rs ++ a.0) h.4 ∙ append_assoc h.0 h.1 a.0,
)
