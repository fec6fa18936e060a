-- One more name of the closure.
use Rattle.std.proofs.Common.{◌≡◌, ◌<◌, ◌≤◌, List, [], ◌∷◌, ◌++◌, length, map, get_or, sym, ◌∙◌, ap, subst, arith, length-append}
use Rattle.std.proofs.lemmas.List.{length-map, map-append}
use Rattle.outside_folder.specs.Files.{Bytes, Files}
use Rattle.index_files.specs.Closure.{Ground, IsBeyond, IsWhole, mentioned}
use Rattle.index_files.specs.Steps.{AreJudged, AreKept, AreReadSoFar, Finds, IsOneTooMany, IsVisited, pair_up}
use Rattle.index_files.specs.declared.closure.FoundName.{FoundName}
use Rattle.index_files.specs.declared.release.Release.{Release}
use Rattle.index_files.specs.declared.totals.Totals.{Totals}
use Rattle.index_files.proofs.Closing.{beyond, kept-next, paired, partly-next, whole, within-next}
use Rattle.index_files.proofs.Pairs.{pair_names}
use Rattle.index_files.specs.Names.{put_all}

abbrev pub releases_in : List FoundName → List (List Release)
releases_in found = map (λ (f : FoundName). f.releases) found

module _ (ground : Ground) (names new : List Bytes) (found : List FoundName) (within : length found < length names) (pairs : found ≡ pair_up names (releases_in found)) where
  many : length (releases_in found) ≡ length found
  many = length-map found (λ (f : FoundName). f.releases)

  before : length (releases_in found) < length names
  before = subst (λ n. n < length names) (sym many) within

  same-name : get_or names (length found) [] ≡ get_or names (length (releases_in found)) []
  same-name = ap (λ n. get_or names n []) (sym many)

  module _ (one : FoundName) (f : Finds ground (get_or names (length found) []) names new one) where
    name-is : one.name ≡ get_or names (length (releases_in found)) []
    name-is = f.name_is ∙ same-name

    one-is : one ≡ record { name = get_or names (length (releases_in found)) []; releases = one.releases }
    one-is = λ i. record { name = name-is i; releases = one.releases }

    put-is : new ≡ put_all names (mentioned ground (record { name = get_or names (length (releases_in found)) []; releases = one.releases }))
    put-is = f.put ∙ ap (λ x. put_all names (mentioned ground x)) one-is

    joined : found ++ one ∷ [] ≡ pair_up new (releases_in found ++ one.releases ∷ [])
    joined = (λ i. pairs i ++ one-is i ∷ []) ∙ sym (paired ground names new (releases_in found) one.releases before put-is)

    pub pairs-on : found ++ one ∷ [] ≡ pair_up new (releases_in (found ++ one ∷ []))
    pairs-on = joined ∙ ap (pair_up new) (sym (map-append (λ (f : FoundName). f.releases) found (one ∷ [])))

    pub within-on : length (found ++ one ∷ []) ≤ length new
    within-on =
        let w = within-next ground names new (releases_in found) one.releases before put-is in
        let a = length-append (releases_in found) (one.releases ∷ []) in
        let b = length-append found (one ∷ []) in
        let m = many in
        omega (arith, w, a, b, m)

    pub kept-on : AreKept ground names found → AreKept ground new (found ++ one ∷ [])
    kept-on k = subst (AreKept ground new) (sym joined)
        (kept-next ground names new (releases_in found) one.releases before put-is (subst (AreKept ground names) pairs k) (subst (λ n. AreJudged ground.env n one.releases) name-is f.judged))

    pub partly-on : (files : Files) (start mid after : Totals) → AreReadSoFar ground files start mid names found → IsVisited ground files (get_or names (length found) []) mid after one.releases
        → AreReadSoFar ground files start after new (found ++ one ∷ [])
    partly-on files start mid after p v = subst (AreReadSoFar ground files start after new) (sym joined)
        (partly-next ground names new (releases_in found) one.releases before put-is files start mid after (subst (AreReadSoFar ground files start mid names) pairs p)
        (subst (λ n. IsVisited ground files n mid after one.releases) same-name v))

  pub beyond-here : (files : Files) (start mid : Totals) → AreKept ground names found → AreReadSoFar ground files start mid names found → IsOneTooMany ground files (get_or names (length found) []) mid
      → IsBeyond ground start.files start.bytes files
  beyond-here files start mid k p v =
      beyond ground files names (releases_in found) start mid before (subst (AreKept ground names) pairs k) (subst (AreReadSoFar ground files start mid names) pairs p)
      (subst (λ n. IsOneTooMany ground files n mid) same-name v)

module _ (ground : Ground) (names : List Bytes) (found : List FoundName) (all : length names ≤ length found) (pairs : found ≡ pair_up names (releases_in found)) where
  enough : length names ≤ length (releases_in found)
  enough = subst (λ n. length names ≤ n) (sym (length-map found (λ (f : FoundName). f.releases))) all

  pub all-names : map (λ (f : FoundName). f.name) found ≡ names
  all-names = ap (map (λ (f : FoundName). f.name)) pairs ∙ pair_names names (releases_in found) enough

  pub kept-all : AreKept ground names found → AreKept ground (map (λ (f : FoundName). f.name) found) found
  kept-all k = subst (λ ns. AreKept ground ns found) (sym all-names) k

  pub whole-all : (files : Files) (start after : Totals) → AreKept ground names found → AreReadSoFar ground files start after names found → after.files ≤ 20000 → after.bytes ≤ 268435456
      → IsWhole ground start.files start.bytes files found
  whole-all files start after k p few_files few_bytes =
      subst (IsWhole ground start.files start.bytes files) (sym pairs)
      (whole ground files names (releases_in found) start after enough (subst (AreKept ground names) pairs k) (subst (AreReadSoFar ground files start after names) pairs p) few_files few_bytes)
