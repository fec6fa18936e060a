-- The closure, name by name.
use Rattle.std.proofs.Common.{◌≡◌, ℕ, ◌+◌, ◌<◌, ◌≤◌, Bool, true, false, ◌||◌, List, [], ◌∷◌, ◌++◌, zero, suc, length, map, get_or, refl, sym, ◌∙◌, ap, subst, arith, length-append}
use Rattle.std.specs.Prelude.{flat_map}
use Rattle.std.specs.List.{AllByRecursion, IsDistinct, list_all, list_any}
use Rattle.std.proofs.lemmas.Bool.{or_left, or_right, and_from, and_parts}
use Rattle.std.proofs.lemmas.Bool.Decides.{nat_tests}
use Rattle.std.proofs.lemmas.List.{append_assoc, append-nil, map-append}
use Rattle.std.proofs.lemmas.List.Sums.{sum_by-append}
use Rattle.std.proofs.lemmas.Grind.{flat_map-append}
use Rattle.std.proofs.lemmas.List.Folds.{list_any-append}
use Rattle.outside_folder.specs.Files.{Bytes, Files}
use Rattle.index_files.specs.Closure.{Ground, HasVersions, IsBeyond, IsPart, IsReached, IsVisit, IsWhole, ReadsAs, Visit, by_name, found_of, is_local, mentioned, names_of, root, roots, visited_files}
use Rattle.index_files.specs.File.{count_all, count_of, size_all, size_of}
use Rattle.index_files.specs.Names.{is_listed, put_all}
use Rattle.index_files.specs.Steps.{AreJudged, AreKept, AreReadSoFar, IsOneTooMany, IsVisited, is_given, pair_up}
use Rattle.index_files.specs.Totals.{is_too_many}
use Rattle.index_files.specs.declared.closure.FoundName.{FoundName}
use Rattle.index_files.specs.declared.release.Release.{Release}
use Rattle.index_files.specs.declared.totals.Totals.{Totals}
use Rattle.common_laws.specs.Each.{each-append, each-front}
use Rattle.index_files.proofs.Pairs.{pair_front, pair_grows, pair_more, pair_names, pair_none}
use Rattle.index_files.proofs.AddedNames.{all-last, all-put, all-still, each-all-still, listed-last, listed-left, put-all-distinct, put-all-each, put-all-grows}
use Rattle.plan_types.specs.Bytes.{same_text}

-- ---- members

each-listed : (P : Bytes → Type 0) (all xs : List Bytes) → ((x : Bytes) → is_listed all x ≡ true → P x) → list_all (is_listed all) xs ≡ true → AllByRecursion P xs
each-listed P all [] f h = tt
each-listed P all (x ∷ xs) f h = (f x ((and_parts (is_listed all x) _ h).0), each-listed P all xs f ((and_parts (is_listed all x) _ h).1))

-- names at the back of a list are listed in it
all-behind : (front back : List Bytes) → list_all (is_listed (front ++ back)) back ≡ true
all-behind front [] = refl
all-behind front (x ∷ back) =
    let joined = append_assoc front (x ∷ []) back in
    let here = ap (λ ys. is_listed ys x) (sym joined) ∙ listed-left (front ++ x ∷ []) back x (listed-last front x) in
    let behind = ap (λ ys. list_all (is_listed ys) back) (sym joined) ∙ all-behind (front ++ x ∷ []) back in
    and_from _ _ here behind

at-place : (P : Bytes → Type 0) (xs : List Bytes) (i : ℕ) → i < length xs → AllByRecursion P xs → P (get_or xs i [])
at-place P [] i l h = absurd (grind (arith, l))
at-place P (x ∷ xs) zero l h = h.0
at-place P (x ∷ xs) (suc i) l h = at-place P xs i (omega (arith, l)) h.1

module _ (ground : Ground) where
  abbrev closes : List Bytes → FoundName → Bool
  closes names f = list_all (is_listed names) (mentioned ground f)

  -- ---- origins of names

  abbrev IsGiven : List FoundName → Bytes → Type 0
  IsGiven found name = is_given ground found name ≡ true

  abbrev mentions : Bytes → FoundName → Bool
  mentions name f = is_listed (mentioned ground f) name

  root-given : (found : List FoundName) (name : Bytes) → is_listed (roots ground) name ≡ true → IsGiven found name
  root-given found name h = or_left (is_listed (roots ground) name) (list_any (mentions name) found) h

  mention-given : (found : List FoundName) (f : FoundName) (name : Bytes) → is_listed (mentioned ground f) name ≡ true → IsGiven (found ++ f ∷ []) name
  mention-given found f name h = or_right (is_listed (roots ground) name) (list_any (mentions name) (found ++ f ∷ []))
      (list_any-append (mentions name) found (f ∷ []) ∙ or_right (list_any (mentions name) found) (mentions name f || false) (or_left (mentions name f) false h))

  still-given : (found : List FoundName) (f : FoundName) (name : Bytes) → IsGiven found name → IsGiven (found ++ f ∷ []) name
  still-given found f name h =
      elim (is_listed (roots ground) name) as (λ b. is_listed (roots ground) name ≡ b → IsGiven (found ++ f ∷ []) name) [
        | true ↦ λ e. root-given (found ++ f ∷ []) name e
        | false ↦ λ e. or_right (is_listed (roots ground) name) (list_any (mentions name) (found ++ f ∷ []))
            (list_any-append (mentions name) found (f ∷ [])
            ∙ or_left (list_any (mentions name) found) (list_any (mentions name) (f ∷ [])) (ap (λ b. b || list_any (mentions name) found) (sym e) ∙ h))
      ] refl

  all-still-given : (found : List FoundName) (f : FoundName) (names : List Bytes) → AllByRecursion (IsGiven found) names → AllByRecursion (IsGiven (found ++ f ∷ [])) names
  all-still-given found f [] h = tt
  all-still-given found f (name ∷ names) h = (still-given found f name h.0, all-still-given found f names h.1)

  -- ---- over any folder

  pub kept-first : (names : List Bytes) → names ≡ put_all [] (roots ground) → AreKept ground names (pair_up names [])
  unfolding IsDistinct
  kept-first names e = subst (AreKept ground names) (sym (pair_none names)) (record {
    once = subst (IsDistinct same_text) (sym e) (put-all-distinct [] (roots ground) tt);
    begun = ap (λ ns. list_all (is_listed ns) (roots ground)) e ∙ all-put [] (roots ground);
    closed = refl;
    given = subst (AllByRecursion (IsGiven [])) (sym e) (put-all-each (IsGiven []) [] (roots ground) tt (each-listed (IsGiven []) (roots ground) (roots ground) (λ x h. root-given [] x h) (all-behind [] (roots ground))));
    judged = tt;
  })

  module _ (names new : List Bytes) (read : List (List Release)) (r : List Release) (within : length read < length names) where
    abbrev pub here : FoundName
    here = record { name = get_or names (length read) []; releases = r }

    module _ (put : new ≡ put_all names (mentioned ground here)) where
      pub paired : pair_up new (read ++ r ∷ []) ≡ pair_up names read ++ here ∷ []
      paired =
          let g = put-all-grows names (mentioned ground here) in
          let l = length-append read (r ∷ []) in
          ap (λ ns. pair_up ns (read ++ r ∷ [])) (put ∙ g.1) ∙ pair_grows names g.0 (read ++ r ∷ []) (omega (arith, l, within)) ∙ pair_more names read r within

      pub kept-next : AreKept ground names (pair_up names read) → AreJudged ground.env (get_or names (length read) []) r → AreKept ground new (pair_up new (read ++ r ∷ []))
      kept-next k j = subst (λ found. AreKept ground new found) (sym paired) (subst (λ ns. AreKept ground ns (pair_up names read ++ here ∷ [])) (sym put) (record {
        once = put-all-distinct names (mentioned ground here) k.once;
        begun = all-still names (mentioned ground here) (roots ground) k.begun;
        closed = all-last (closes (put_all names (mentioned ground here))) (pair_up names read) here
            (each-all-still (mentioned ground) names (mentioned ground here) (pair_up names read) k.closed)
            (all-put names (mentioned ground here));
        given = put-all-each (IsGiven (pair_up names read ++ here ∷ [])) names (mentioned ground here) (all-still-given (pair_up names read) here names k.given)
            (each-listed (IsGiven (pair_up names read ++ here ∷ [])) (mentioned ground here) (mentioned ground here) (λ x h. mention-given (pair_up names read) here x h) (all-behind [] (mentioned ground here)));
        judged = each-append (λ (f : FoundName). AreJudged ground.env f.name f.releases) (pair_up names read) (here ∷ []) k.judged (j, tt);
      }))

      pub within-next : length (read ++ r ∷ []) ≤ length new
      within-next =
          let g = put-all-grows names (mentioned ground here) in
          let l = length-append read (r ∷ []) in
          let m = ap length (put ∙ g.1) ∙ length-append names g.0 in
          omega (arith, l, m, within)

      -- ---- over an observable folder

      module _ (files : Files) (before mid after : Totals) where
        pub partly-next : AreReadSoFar ground files before mid names (pair_up names read) → IsVisited ground files (get_or names (length read) []) mid after r
            → AreReadSoFar ground files before after new (pair_up new (read ++ r ∷ []))
        partly-next p v =
            let visit : Visit = record { name = get_or names (length read) []; dirs = v.dirs; releases = r } in
            let reached-here = at-place (IsReached ground files) names (length read) within p.reached in
            let more = each-listed (IsReached ground files) (mentioned ground here) (mentioned ground here) (λ x h. by_name visit x reached-here v.visit h) (all-behind [] (mentioned ground here)) in
            let all = flat_map-append (visited_files ground files) p.visits (visit ∷ []) ∙ ap (λ fs. flat_map (visited_files ground files) p.visits ++ fs) (append-nil (visited_files ground files visit)) in
            let c = ap count_all all ∙ sum_by-append count_of (flat_map (visited_files ground files) p.visits) (visited_files ground files visit) in
            let s = ap size_all all ∙ sum_by-append size_of (flat_map (visited_files ground files) p.visits) (visited_files ground files visit) in
            let cf = p.counts.files in let cb = p.counts.bytes in let vf = v.counts.files in let vb = v.counts.bytes in
            record {
              visits = p.visits ++ visit ∷ [];
              found_is = paired ∙ ap (λ fs. fs ++ here ∷ []) p.found_is ∙ sym (map-append found_of p.visits (visit ∷ []));
              read = each-append (IsVisit ground files) p.visits (visit ∷ []) p.read (v.visit, tt);
              reached = subst (AllByRecursion (IsReached ground files)) (sym put) (put-all-each (IsReached ground files) names (mentioned ground here) p.reached more);
              counts = record { files = omega (arith, c, cf, vf); bytes = omega (arith, s, cb, vb) };
            }

  module _ (files : Files) where
    pub partly-first : (names : List Bytes) (totals : Totals) → names ≡ put_all [] (roots ground) → AreReadSoFar ground files totals totals names (pair_up names [])
    partly-first names totals e = record {
      visits = [];
      found_is = pair_none names;
      read = tt;
      reached = subst (AllByRecursion (IsReached ground files)) (sym e)
          (put-all-each (IsReached ground files) [] (roots ground) tt (each-listed (IsReached ground files) (roots ground) (roots ground) (λ x h. root x h) (all-behind [] (roots ground))));
      counts = record { files = omega arith; bytes = omega arith };
    }

    -- ---- the end

    closed-visits : (names : List Bytes) (visits : List Visit) → list_all (closes names) (map found_of visits) ≡ true → list_all (λ (v : Visit). closes names (found_of v)) visits ≡ true
    closed-visits names [] h = refl
    closed-visits names (v ∷ visits) h = and_from _ _ ((and_parts (closes names (found_of v)) _ h).0) (closed-visits names visits ((and_parts (closes names (found_of v)) _ h).1))

    reached-visits : (visits : List Visit) → AllByRecursion (IsReached ground files) (names_of visits) → AllByRecursion (λ (v : Visit). IsReached ground files v.name) visits
    reached-visits [] h = tt
    reached-visits (v ∷ visits) h = (h.0, reached-visits visits h.1)

    names-found : (visits : List Visit) → map (λ (f : FoundName). f.name) (map found_of visits) ≡ names_of visits
    names-found [] = refl
    names-found (v ∷ visits) = ap (λ ns. v.name ∷ ns) (names-found visits)

    few-are : (m n j k : ℕ) → m ≡ j → n ≡ k → m ≤ 20000 → n ≤ 268435456 → is_too_many j k ≡ false
    few-are m n j k e f a b = grind (arith, nat_tests)

    pub whole : (names : List Bytes) (read : List (List Release)) (before after : Totals) → length names ≤ length read → AreKept ground names (pair_up names read) → AreReadSoFar ground files before after names (pair_up names read)
        → after.files ≤ 20000 → after.bytes ≤ 268435456 → IsWhole ground before.files before.bytes files (pair_up names read)
    whole names read before after all k p few_files few_bytes =
        let same-names : names ≡ names_of p.visits = sym (pair_names names read all) ∙ ap (map (λ (f : FoundName). f.name)) p.found_is ∙ names-found p.visits in
        record {
          visits = p.visits;
          closure = record {
            once = subst (IsDistinct same_text) same-names k.once;
            begun = ap (λ ns. list_all (is_listed ns) (roots ground)) (sym same-names) ∙ k.begun;
            closed = ap (λ ns. list_all (λ (v : Visit). closes ns (found_of v)) p.visits) (sym same-names)
                ∙ closed-visits names p.visits (ap (list_all (closes names)) (sym p.found_is) ∙ k.closed);
            reached = reached-visits p.visits (subst (AllByRecursion (IsReached ground files)) same-names p.reached);
            read = p.read;
          };
          few = few-are after.files after.bytes _ _ p.counts.files p.counts.bytes few_files few_bytes;
          found_is = p.found_is;
        }

    -- ---- too many

    distinct-front : (xs ys : List Bytes) → IsDistinct same_text (xs ++ ys) → IsDistinct same_text xs
    unfolding IsDistinct
    distinct-front [] ys h = tt
    distinct-front (x ∷ xs) ys h = (front xs h.0, distinct-front xs ys h.1)
      where
        front : (zs : List Bytes) → AllByRecursion (λ y. same_text x y ≡ false) (zs ++ ys) → AllByRecursion (λ y. same_text x y ≡ false) zs
        front [] h = tt
        front (z ∷ zs) h = (h.0, front zs h.1)

    part-of : (visit : Visit) (b : Bool) → ReadsAs ground files visit b → HasVersions ground files visit b
    part-of visit true h = h.no_versions
    part-of visit false h = h.versions

    parts-of : (visits : List Visit) → AllByRecursion (IsReached ground files) (names_of visits) → AllByRecursion (IsVisit ground files) visits → AllByRecursion (IsPart ground files) visits
    parts-of [] h k = tt
    parts-of (v ∷ visits) h k = (record { reached = h.0; versions = part-of v (is_local ground v.name) k.0 }, parts-of visits h.1 k.1)

    module _ (names : List Bytes) (read : List (List Release)) (before mid : Totals) (within : length read < length names) where
      pub beyond : AreKept ground names (pair_up names read) → AreReadSoFar ground files before mid names (pair_up names read) → IsOneTooMany ground files (get_or names (length read) []) mid
          → IsBeyond ground before.files before.bytes files
      beyond k p v =
          let name = get_or names (length read) [] in
          let visit : Visit = record { name = name; dirs = v.read.dirs; releases = [] } in
          let l = length-append read ([] ∷ []) in
          let front = pair_front names (read ++ [] ∷ []) (omega (arith, l, within)) in
          let found-names : map (λ (f : FoundName). f.name) (pair_up names (read ++ [] ∷ [])) ≡ names_of (p.visits ++ visit ∷ []) =
          ap (map (λ (f : FoundName). f.name)) (pair_more names read [] within ∙ ap (λ fs. fs ++ record { name = name; releases = [] } ∷ []) p.found_is ∙ sym (map-append found_of p.visits (visit ∷ [])))
          ∙ names-found (p.visits ++ visit ∷ []) in
          let is = front.1 ∙ ap (λ ns. ns ++ front.0) found-names in
          let reached-all = each-front (IsReached ground files) (names_of (p.visits ++ visit ∷ [])) front.0 (subst (AllByRecursion (IsReached ground files)) is p.reached) in
          let reached-old = each-front (IsReached ground files) (names_of p.visits) (name ∷ []) (subst (AllByRecursion (IsReached ground files)) (map-append (λ (v : Visit). v.name) p.visits (visit ∷ [])) reached-all) in
          let here : HasVersions ground files visit (is_local ground name) = subst (HasVersions ground files visit) (sym v.apart) v.read.versions in
          let all = flat_map-append (visited_files ground files) p.visits (visit ∷ []) ∙ ap (λ fs. flat_map (visited_files ground files) p.visits ++ fs) (append-nil (visited_files ground files visit)) in
          let c = ap count_all all ∙ sum_by-append count_of (flat_map (visited_files ground files) p.visits) (visited_files ground files visit) in
          let s = ap size_all all ∙ sum_by-append size_of (flat_map (visited_files ground files) p.visits) (visited_files ground files visit) in
          let cf = p.counts.files in let cb = p.counts.bytes in
          let e : mid.files + count_all (visited_files ground files visit) ≡ before.files + count_all (flat_map (visited_files ground files) (p.visits ++ visit ∷ [])) = omega (arith, c, cf) in
          let f : mid.bytes + size_all (visited_files ground files visit) ≡ before.bytes + size_all (flat_map (visited_files ground files) (p.visits ++ visit ∷ [])) = omega (arith, s, cb) in
          record {
            parts = p.visits ++ visit ∷ [];
            once = distinct-front (names_of (p.visits ++ visit ∷ [])) front.0 (subst (IsDistinct same_text) is k.once);
            inside = each-append (IsPart ground files) p.visits (visit ∷ []) (parts-of p.visits reached-old p.read)
                (record { reached = at-place (IsReached ground files) names (length read) within p.reached; versions = here }, tt);
            many = (λ i. is_too_many (sym e i) (sym f i)) ∙ v.read.many;
          }
