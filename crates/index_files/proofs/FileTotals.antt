-- Shared: files counted one by one.
use Rattle.std.proofs.Common.{◌≡◌, ◌⊎◌, inl, inr, ℕ, ◌+◌, ◌<◌, ◌≤◌, length, Bool, true, false, cond, List, [], ◌∷◌, ◌++◌, refl, sym, ◌∙◌, ap, arith}
use Rattle.std.proofs.lemmas.Bool.Decides.{nat_tests}
use Rattle.std.proofs.lemmas.List.{append_assoc, append-nil}
use Rattle.std.proofs.lemmas.List.Sums.{sum_by-append}
use Rattle.index_files.specs.File.{Counts, count_all, count_of, fitting, size_all, size_of}
use Rattle.index_files.specs.Totals.{is_too_many}
use Rattle.index_files.specs.declared.file.ReadFile.{ReadFile}
use Rattle.index_files.specs.declared.totals.Totals.{Totals}

-- these files fit after `f` files with `b` bytes; then there are `files` with `bytes`
abbrev pub Fit : ℕ → ℕ → List ReadFile → ℕ → ℕ → Type 0
Fit f b read files bytes = (rest : List ReadFile) → fitting f b (read ++ rest) ≡ read ++ fitting files bytes rest

fits_here : (t : Bool) (x : ReadFile) (f b : ℕ) (rest : List ReadFile) → is_too_many (f + count_of x) (b + size_of x) ≡ t → t ≡ false
    → cond t [] (x ∷ fitting (f + count_of x) (b + size_of x) rest) ≡ x ∷ fitting (f + count_of x) (b + size_of x) rest
fits_here true x f b rest e h = absurd (let both : true ≡ false = h in cc both)
fits_here false x f b rest e h = refl

pub fit_more : (f b : ℕ) (read : List ReadFile) (files bytes : ℕ) (x : ReadFile) → Fit f b read files bytes → is_too_many (files + count_of x) (bytes + size_of x) ≡ false → Fit f b (read ++ x ∷ []) (files + count_of x) (bytes + size_of x)
fit_more f b read files bytes x h t rest =
    ap (fitting f b) (append_assoc read (x ∷ []) rest)
    ∙ h (x ∷ rest)
    ∙ ap (λ ys. read ++ ys) (fits_here (is_too_many (files + count_of x) (bytes + size_of x)) x files bytes rest refl t)
    ∙ sym (append_assoc read (x ∷ []) (fitting (files + count_of x) (bytes + size_of x) rest))

ends_here : (t : Bool) (x : ReadFile) (f b : ℕ) (rest : List ReadFile) → t ≡ true → cond t [] (x ∷ fitting (f + count_of x) (b + size_of x) rest) ≡ []
ends_here true x f b rest h = refl
ends_here false x f b rest h = absurd (let both : false ≡ true = h in cc both)

pub fit_ends : (f b : ℕ) (read : List ReadFile) (files bytes : ℕ) (x : ReadFile) (rest : List ReadFile) → Fit f b read files bytes → is_too_many (files + count_of x) (bytes + size_of x) ≡ true → fitting f b ((read ++ x ∷ []) ++ rest) ≡ read
fit_ends f b read files bytes x rest h t =
    ap (fitting f b) (append_assoc read (x ∷ []) rest) ∙ h (x ∷ rest)
    ∙ ap (λ ys. read ++ ys) (ends_here (is_too_many (files + count_of x) (bytes + size_of x)) x files bytes rest t)
    ∙ append-nil read

pub fit_all : (f b : ℕ) (read : List ReadFile) (files bytes : ℕ) → Fit f b read files bytes → fitting f b read ≡ read
fit_all f b read files bytes h = ap (fitting f b) (sym (append-nil read)) ∙ h [] ∙ append-nil read

pub counts_more : (a b c : Totals) (read : List ReadFile) (x : ReadFile) → Counts a b read → c.files ≡ b.files + count_of x → c.bytes ≡ b.bytes + size_of x → Counts a c (read ++ x ∷ [])
counts_more a b c read x h e g = record {
  files = let k = h.files in let s = sum_by-append count_of read (x ∷ []) in omega (arith, e, k, s);
  bytes = let k = h.bytes in let s = sum_by-append size_of read (x ∷ []) in omega (arith, g, k, s);
}

pub more_is_too_many : (m n j k : ℕ) → m ≤ j → n ≤ k → is_too_many m n ≡ true → is_too_many j k ≡ true
more_is_too_many m n j k h g t = grind (arith, nat_tests)

-- all files fit, or all of them are too many
module _ (f b : ℕ) (x : ReadFile) (rest : List ReadFile) where
  counts-all : f + count_all (x ∷ rest) ≡ (f + count_of x) + count_all rest
  counts-all = let s = sum_by-append count_of (x ∷ []) rest in omega (arith, s)

  sizes-all : b + size_all (x ∷ rest) ≡ (b + size_of x) + size_all rest
  sizes-all = let s = sum_by-append size_of (x ∷ []) rest in omega (arith, s)

  all-of : is_too_many ((f + count_of x) + count_all rest) ((b + size_of x) + size_all rest) ≡ true → is_too_many (f + count_all (x ∷ rest)) (b + size_all (x ∷ rest)) ≡ true
  all-of h = (λ i. is_too_many (counts-all i) (sizes-all i)) ∙ h

pub fit-or-beyond : (f b : ℕ) (all : List ReadFile) → (fitting f b all ≡ all) ⊎ ((is_too_many (f + count_all all) (b + size_all all) ≡ true) × (length (fitting f b all) < length all))
fit-or-beyond f b [] = inl refl
fit-or-beyond f b (x ∷ rest) =
    elim (is_too_many (f + count_of x) (b + size_of x)) as (λ t. is_too_many (f + count_of x) (b + size_of x) ≡ t
    → (cond t [] (x ∷ fitting (f + count_of x) (b + size_of x) rest) ≡ x ∷ rest)
    ⊎ ((is_too_many (f + count_all (x ∷ rest)) (b + size_all (x ∷ rest)) ≡ true) × (length (cond t [] (x ∷ fitting (f + count_of x) (b + size_of x) rest)) < length (x ∷ rest)))) [
      | true ↦ λ e. inr (all-of f b x rest (more_is_too_many (f + count_of x) (b + size_of x) ((f + count_of x) + count_all rest) ((b + size_of x) + size_all rest) (omega arith) (omega arith) e), omega arith)
      | false ↦ λ e. elim (fit-or-beyond (f + count_of x) (b + size_of x) rest) [
        | inl same ↦ inl (ap (λ fs. x ∷ fs) same)
        | inr h ↦ inr (all-of f b x rest h.0, (let l = h.1 in omega (arith, l)))
      ]
    ] refl
