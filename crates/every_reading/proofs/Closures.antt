-- The closure is read name by name, to its end or to too many files. Reading ends: a name that mentions another is
-- known or has a file, and both kinds are bounded.
use Rattle.std.proofs.Common.{◌≡◌, inl, inr, ◌+◌, ◌≤◌, ℕ, zero, suc, Bool, true, false, List, [], ◌∷◌, ◌++◌, map, Option, Some, None, Result, Ok, Err, refl, sym, ap, ◌∙◌, subst, arith}
use Rattle.std.specs.Prelude.{flat_map, nat_lt}
use Rattle.std.specs.List.{AllByRecursion, IsDistinct, list_all}
use Rattle.std.proofs.lemmas.Bool.{false≢true, ltb-false, or_left}
use Rattle.std.proofs.lemmas.Grind.{flat_map-append}
use Rattle.std.proofs.lemmas.List.{append_assoc, append-nil, map-append}
use Rattle.std.proofs.lemmas.List.Sums.{sum_by-append}
use Rattle.plan_types.specs.Bytes.{same_text}
use Rattle.plan_types.specs.declared.refusal.Cause.TheVariants.{TooMany}
use Rattle.plan_types.specs.declared.refusal.Refusal.{Refusal}
use Rattle.outside_folder.specs.Files.{Bytes, Files}
use Rattle.index_files.specs.Closure.{AreClosed, Ground, HasVersions, IsPart, IsReached, IsVisit, ReadsAs, Reaches, Visit, are_too_many, by_name, found_of, is_local, mentioned, names_of, root, roots, visited_files}
use Rattle.index_files.specs.File.{count_all, count_of, size_all}
use Rattle.index_files.specs.Names.{is_listed, put_all}
use Rattle.index_files.specs.Readings.{AreIndexed}
use Rattle.index_files.specs.Totals.{is_too_many}
use Rattle.index_files.specs.declared.closure.FoundName.{FoundName}
use Rattle.index_files.specs.declared.readings.Readings.{Readings}
use Rattle.index_files.proofs.AddedNames.{all-last, all-put, all-still, each-all-still, put-all-distinct, put-all-each, put-all-grows}
use Rattle.common_laws.specs.Each.{each-append, each-back, each-front, each-of-map}
use Rattle.every_reading.proofs.Fertile.{fertile, known_names}
use Rattle.every_reading.proofs.Lists.{distinct_front, each_of, left, left_drops, left_less, not_in_front}
use Rattle.every_reading.proofs.Visits.{some_visit}

few_files : (files bytes : ℕ) → is_too_many files bytes ≡ false → files ≤ 20000
few_files files bytes few = by (nat_lt 20000 files) refl
  where
    by : (t : Bool) → nat_lt 20000 files ≡ t → files ≤ 20000
    by true q = absurd (false≢true (sym few ∙ or_left (nat_lt 20000 files) (nat_lt 268435456 bytes) q))
    by false q = ltb-false 20000 files q

module _ (ground : Ground) (files : Files) (count size : ℕ) where
  abbrev Read : Type 0
  Read = (found : Option (List FoundName)) × Reaches ground count size files found

  -- `done` was read; `pending` is still to be read
  record Stand (done : List Visit) (pending : List Bytes) : Type 0 where
    once : IsDistinct same_text (names_of done ++ pending)
    begun : list_all (is_listed (names_of done ++ pending)) (roots ground) ≡ true
    closed : AreClosed ground (names_of done ++ pending) done
    reached : AllByRecursion (IsReached ground files) (names_of done ++ pending)
    read : AllByRecursion (IsVisit ground files) done
    few : are_too_many ground files count size done ≡ false

  -- ---- the ends

  whole : (done : List Visit) → Stand done [] → Read
  whole done s =
      let names = append-nil (names_of done) in (
        Some (map found_of done),
        record {
          visits = done;
          closure = record {
            once = subst (IsDistinct same_text) names s.once;
            begun = subst (λ ns. list_all (is_listed ns) (roots ground) ≡ true) names s.begun;
            closed = subst (λ ns. AreClosed ground ns done) names s.closed;
            reached = each-of-map (IsReached ground files) (λ (v : Visit). v.name) done (subst (AllByRecursion (IsReached ground files)) names s.reached);
            read = s.read;
          };
          few = s.few;
          found_is = refl;
        },
      )

  versions_of : (v : Visit) (t : Bool) → ReadsAs ground files v t → HasVersions ground files v t
  versions_of v true h = h.no_versions
  versions_of v false h = h.versions

  parts_of : (visits : List Visit) → AllByRecursion (IsReached ground files) (names_of visits) → AllByRecursion (IsVisit ground files) visits → AllByRecursion (IsPart ground files) visits
  parts_of [] h k = tt
  parts_of (v ∷ visits) h k = (record { reached = h.0; versions = versions_of v (is_local ground v.name) k.0 }, parts_of visits h.1 k.1)

  beyond : (done : List Visit) → IsDistinct same_text (names_of done) → AllByRecursion (IsReached ground files) (names_of done) → AllByRecursion (IsVisit ground files) done
      → are_too_many ground files count size done ≡ true → Read
  beyond done once reached read many = (None, record { parts = done; once = once; inside = parts_of done reached read; many = many })

  -- ---- one more name

  abbrev counted : List Visit → ℕ
  counted done = count + count_all (flat_map (visited_files ground files) done)

  abbrev unseen : List Visit → ℕ
  unseen done = left (known_names ground) (names_of done)

  -- `fuel` bounds the names that mention others and are still to be read
  abbrev Within : ℕ → List Visit → Type 0
  Within fuel done = 20001 + unseen done ≤ fuel + counted done

  module _ (done : List Visit) (v : Visit) (rest : List Bytes) where
    abbrev more : List Visit
    more = done ++ v ∷ []

    names_more : names_of more ≡ names_of done ++ v.name ∷ []
    names_more = map-append (λ (w : Visit). w.name) done (v ∷ [])

    moved : names_of more ++ rest ≡ names_of done ++ v.name ∷ rest
    moved = ap (λ ns. ns ++ rest) names_more ∙ append_assoc (names_of done) (v.name ∷ []) rest

    counted_more : counted more ≡ counted done + count_all (visited_files ground files v)
    counted_more =
        let files_more = flat_map-append (visited_files ground files) done (v ∷ []) ∙ ap (λ fs. flat_map (visited_files ground files) done ++ fs) (append-nil (visited_files ground files v)) in
        let sum : count_all (flat_map (visited_files ground files) more) ≡ count_all (flat_map (visited_files ground files) done) + count_all (visited_files ground files v) =
        ap count_all files_more ∙ sum_by-append count_of (flat_map (visited_files ground files) done) (visited_files ground files v) in
        omega (arith, sum)

    unseen_more : unseen more ≤ unseen done
    unseen_more =
        let same = ap (left (known_names ground)) names_more in
        let less = left_less (known_names ground) (names_of done) v.name in
        omega (arith, same, less)

    module _ (s : Stand done (v.name ∷ rest)) (visit : IsVisit ground files v) where
      abbrev before : List Bytes
      before = names_of done ++ v.name ∷ rest

      abbrev mentions : List Bytes
      mentions = mentioned ground (found_of v)

      read_more : AllByRecursion (IsVisit ground files) more
      read_more = each-append (IsVisit ground files) done (v ∷ []) s.read (visit, tt)

      ends_here : are_too_many ground files count size more ≡ true → Read
      ends_here many =
          beyond more
          (distinct_front (names_of more) rest (subst (IsDistinct same_text) (sym moved) s.once))
          (each-front (IsReached ground files) (names_of more) rest (subst (AllByRecursion (IsReached ground files)) (sym moved) s.reached)) read_more many

      here_reached : IsReached ground files v.name
      here_reached = (each-back (IsReached ground files) (names_of done) (v.name ∷ rest) s.reached).0

      stands : (pending : List Bytes) → names_of more ++ pending ≡ put_all before mentions → are_too_many ground files count size more ≡ false → Stand more pending
      stands pending joined few = record {
        once = subst (IsDistinct same_text) (sym joined) (put-all-distinct before mentions s.once);
        begun = subst (λ ns. list_all (is_listed ns) (roots ground) ≡ true) (sym joined) (all-still before mentions (roots ground) s.begun);
        closed = subst (λ ns. AreClosed ground ns more) (sym joined)
            (all-last (λ (w : Visit). list_all (is_listed (put_all before mentions)) (mentioned ground (found_of w))) done v
            (each-all-still (λ (w : Visit). mentioned ground (found_of w)) before mentions done s.closed) (all-put before mentions));
        reached = subst (AllByRecursion (IsReached ground files)) (sym joined)
            (put-all-each (IsReached ground files) before mentions s.reached (each_of (IsReached ground files) mentions (λ name h. by_name v name here_reached visit h)));
        read = read_more;
        few = few;
      }

      -- a name that mentions another one uses up fuel
      within_fewer : (fuel : ℕ) (name : Bytes) (names : List Bytes) → mentions ≡ name ∷ names → Within (suc fuel) done → Within fuel more
      within_fewer fuel name names some low =
          elim (fertile ground files v visit name names some) [
            | inl known ↦
                let new = not_in_front (names_of done) v.name rest s.once in
                let same = ap (left (known_names ground)) names_more in
                let drops = left_drops (known_names ground) (names_of done) v.name known new in
                let sum = counted_more in
                omega (arith, low, same, drops, sum)
            | inr one ↦ let less = unseen_more in let sum = counted_more in omega (arith, low, less, sum, one)
          ]

      within_same : (fuel : ℕ) → Within fuel done → Within fuel more
      within_same fuel low = let less = unseen_more in let sum = counted_more in omega (arith, low, less, sum)

      turn_by : (fuel : ℕ) → ((d : List Visit) (p : List Bytes) → Within fuel d → Stand d p → Read) → ((d : List Visit) → Within (suc fuel) d → Stand d rest → Read)
          → Within (suc fuel) done → are_too_many ground files count size more ≡ false → (names : List Bytes) → mentions ≡ names → Read
      turn_by fuel fewer same low few [] none =
          same more (within_same (suc fuel) low) (stands rest (moved ∙ ap (put_all before) (sym none)) few)
      turn_by fuel fewer same low few (name ∷ names) some =
          let grown = put-all-grows before mentions in
          fewer more (rest ++ grown.0) (within_fewer fuel name names some low)
          (stands (rest ++ grown.0) (sym (append_assoc (names_of more) rest grown.0) ∙ ap (λ ns. ns ++ grown.0) moved ∙ sym grown.1) few)

  turn : (fuel : ℕ) (name : Bytes) (rest : List Bytes) (done : List Visit) → ((d : List Visit) (p : List Bytes) → Within fuel d → Stand d p → Read)
      → ((d : List Visit) → Within (suc fuel) d → Stand d rest → Read) → Within (suc fuel) done → Stand done (name ∷ rest) → Read
  turn fuel name rest done fewer same low s =
      let found = some_visit ground files name in
      let v : Visit = record { name = name; dirs = found.0; releases = found.1 } in
      by_test (are_too_many ground files count size (done ++ v ∷ [])) (ends_here done v rest s found.2)
      (λ few. turn_by done v rest s found.2 fuel fewer same low few (mentioned ground (found_of v)) refl)
    where
      by_test : (t : Bool) → (t ≡ true → Read) → (t ≡ false → Read) → Read
      by_test true h k = h refl
      by_test false h k = k refl

  turns : (fuel : ℕ) → ((d : List Visit) (p : List Bytes) → Within fuel d → Stand d p → Read) → (pending : List Bytes) (done : List Visit) → Within (suc fuel) done → Stand done pending → Read
  turns fuel fewer [] done low s = whole done s
  turns fuel fewer (name ∷ rest) done low s = turn fuel name rest done fewer (λ d. turns fuel fewer rest d) low s

  run : (fuel : ℕ) (done : List Visit) (pending : List Bytes) → Within fuel done → Stand done pending → Read
  run zero done pending low s =
      let few = few_files (counted done) (size + size_all (flat_map (visited_files ground files) done)) s.few in
      absurd (omega (arith, low, few))
  run (suc fuel) done pending low s = turns fuel (λ d p. run fuel d p) pending done low s

  start : are_too_many ground files count size [] ≡ false → Read
  unfolding IsDistinct
  start few =
      let names = put_all [] (roots ground) in
      run (20001 + unseen []) [] names (omega arith) (record {
        once = put-all-distinct [] (roots ground) tt;
        begun = all-put [] (roots ground);
        closed = refl;
        reached = put-all-each (IsReached ground files) [] (roots ground) tt (each_of (IsReached ground files) (roots ground) (λ name h. root name h));
        read = tt;
        few = few;
      })

  some_closure : Read
  unfolding IsDistinct
  some_closure = by (are_too_many ground files count size []) refl
    where
      by : (t : Bool) → are_too_many ground files count size [] ≡ t → Read
      by true many = beyond [] tt tt tt many
      by false few = start few

  indexed : Read → (outcome : Result Readings Refusal) × AreIndexed ground count size files outcome
  indexed (None, beyond) = (Err (record { path = ground.places.index; line = 0; cause = TooMany; detail = [] }), record { beyond = beyond; refusal_is = refl })
  indexed (Some found, whole) = (Ok (record { locals = ground.locals; units = ground.units; found = found }), record { locals = refl; units = refl; found = whole })

  pub some_indexed : (outcome : Result Readings Refusal) × AreIndexed ground count size files outcome
  some_indexed = indexed some_closure
