-- A path ends in `.cabal` only if its last name does.
use Rattle.std.proofs.Common.{◌≡◌, ℕ, suc, zero, true, false, List, [], ◌∷◌, ◌++◌, ◌+◌, ◌-◌, ◌≤◌, ◌<◌, ◌⊎◌, length, drop, get_or, map, codes, refl, sym, ap, ◌∙◌, inl, inr, arith, length-append, length-drop, get_or-drop}
use Rattle.std.specs.Prelude.{not, ◌&&◌}
use Rattle.std.specs.List.{list_all}
use Rattle.std.proofs.lemmas.Bool.{and_parts, cases_Bool, false≢true, not-true}
use Rattle.std.proofs.lemmas.Slice.Eq.{bytes_eq-Decides}
use Rattle.common_laws.specs.Small.{same-is}
use Rattle.outside_folder.specs.Files.{Bytes, slash}
use Rattle.outside_folder.specs.declared.folder.Name.{Name}
use Rattle.project_paths.specs.Places.{path_in, place_in}
use Rattle.project_paths.specs.MatchedPaths.{is_cabal, is_literal, is_looked_up, is_taken}
use Rattle.project_paths.specs.declared.matched_paths.MatchedPath.TheVariants.{Listed, Literal}

abbrev suffix : Bytes
suffix = codes ".cabal"

order : (a b : ℕ) → (a ≤ b) ⊎ (b < a)
order zero b = inl (omega arith)
order (suc a) zero = inr (omega arith)
order (suc a) (suc b) = elim (order a b) [ inl h ↦ inl (omega (arith, h)) | inr h ↦ inr (omega (arith, h)) ]

no-slash : (n : ℕ) → n < 6 → get_or suffix n 0 ≡ slash → ⊥
no-slash zero h e = absurd (omega (arith, e))
no-slash (suc zero) h e = absurd (omega (arith, e))
no-slash (suc (suc zero)) h e = absurd (omega (arith, e))
no-slash (suc (suc (suc zero))) h e = absurd (omega (arith, e))
no-slash (suc (suc (suc (suc zero)))) h e = absurd (omega (arith, e))
no-slash (suc (suc (suc (suc (suc zero))))) h e = absurd (omega (arith, e))
no-slash (suc (suc (suc (suc (suc (suc n)))))) h e = absurd (omega (arith, h))

slash-at : (dir name : Bytes) → get_or (dir ++ slash ∷ name) (length dir) 0 ≡ slash
slash-at [] name = refl
slash-at (b ∷ bs) name = slash-at bs name

behind-slash : (dir name : Bytes) (n : ℕ) → drop (length dir + 1 + n) (dir ++ slash ∷ name) ≡ drop n name
behind-slash [] name n = let k : length {A = ℕ} [] + 1 + n ≡ suc n = omega arith in ap (λ k. drop k (slash ∷ name)) k
behind-slash (b ∷ bs) name n =
    let k : length (b ∷ bs) + 1 + n ≡ suc (length bs + 1 + n) = omega arith in
    ap (λ k. drop k ((b ∷ bs) ++ slash ∷ name)) k ∙ behind-slash bs name n

module _ (dir name : Bytes) where
  abbrev path : Bytes
  path = dir ++ slash ∷ name

  path-length : length path ≡ length dir + 1 + length name
  path-length = let len = length-append dir (slash ∷ name) in omega (arith, len)

  short : (length path - 6) + (5 - length name) ≡ length dir → length name < 6 → suffix ≡ drop (length path - 6) path → ⊥
  short at few e =
      no-slash (5 - length name) (omega (arith, few))
      (ap (λ l. get_or l (5 - length name) 0) e ∙ get_or-drop (length path - 6) path (5 - length name) 0 ∙ ap (λ n. get_or path n 0) at ∙ slash-at dir name)

  long : 6 ≤ length name → suffix ≡ drop (length path - 6) path → suffix ≡ drop (length name - 6) name
  long many e =
      let len = path-length in
      let k : length path - 6 ≡ length dir + 1 + (length name - 6) = omega (arith, len, many) in
      e ∙ ap (λ n. drop n path) k ∙ behind-slash dir name (length name - 6)

  ends-name : suffix ≡ drop (length path - 6) path → is_cabal name ≡ true
  ends-name e = elim (order 6 (length name)) [
    | inl many ↦ (bytes_eq-Decides suffix (drop (length name - 6) name)).1 (long many e)
    | inr few ↦
        let len = path-length in
        let own = ap length e ∙ length-drop (length path - 6) path in
        absurd (short (omega (arith, len, own, few)) few e)
  ]

in-dir : (dir name : Bytes) → is_cabal name ≡ false → is_cabal (path_in dir name) ≡ false
in-dir [] name h = h
in-dir (b ∷ bs) name h = elim (cases_Bool (is_cabal (path_in (b ∷ bs) name))) [
  | inl t ↦ absurd (false≢true (sym h ∙ ends-name (b ∷ bs) name (same-is suffix _ t)))
  | inr f ↦ f
]

-- a path whose last name is a literal name that isn't looked up doesn't end in `.cabal`
pub taken-looked-up : (dir name : Bytes) → is_taken name ≡ true → list_all is_looked_up (Literal (path_in dir name) ∷ []) ≡ true
taken-looked-up dir name h =
    let none = not-true (is_cabal name) (and_parts (is_literal name) (not (is_cabal name)) h).1 in
    ap (λ t. not t && true) (in-dir dir name none)

pub listed-looked-up : (dir : Bytes) (names : List Name) → list_all is_looked_up (map (λ name. Listed (place_in dir name)) names) ≡ true
listed-looked-up dir [] = refl
listed-looked-up dir (n ∷ ns) = listed-looked-up dir ns
