-- Shared: the answer for all entries of a project together.
use Rattle.std.proofs.Common.{◌≡◌, List, [], ◌∷◌, ◌++◌, refl, sym, ap, ◌∙◌, append_assoc}
use Rattle.std.specs.Prelude.{Result, Ok, Err}
use Rattle.plan_types.specs.declared.project.ProjectEntry.{ProjectEntry}
use Rattle.plan_types.specs.declared.refusal.Halt.{Halt}
use Rattle.plan_types.specs.declared.refusal.Halt.TheVariants as halt
use Rattle.plan_types.specs.declared.refusal.Refusal.{Refusal}
use Rattle.outside_folder.specs.Files.{Bytes, Files}
use Rattle.project_paths.specs.Entries.{entry_files}
use Rattle.project_paths.specs.Local.{all_files, and_then, finished, finished_of, local_files}
use Rattle.plan_types.specs.Refusal.{Answers, Settles}

then-assoc : (a b c : Result (List Bytes) Refusal) → and_then a (and_then b c) ≡ and_then (and_then a b) c
then-assoc (Err r) b c = refl
then-assoc (Ok xs) (Err r) c = refl
then-assoc (Ok xs) (Ok ys) (Err r) = refl
then-assoc (Ok xs) (Ok ys) (Ok zs) = ap Ok (sym (append_assoc xs ys zs))

none-then : (a : Result (List Bytes) Refusal) → a ≡ and_then (Ok []) a
none-then (Err r) = refl
none-then (Ok xs) = refl

-- the refusal of a step is the refusal of the whole
pub passed-on : {A B : Type 0} (P : Result A Refusal → Type 0) (Q : Result B Refusal → Type 0) → ((refusal : Refusal) → P (Err refusal) → Q (Err refusal))
    → (h : Halt) → Answers P (Err h) → Answers Q (Err h)
passed-on P Q wider halt.NoMemory h = tt
passed-on P Q wider halt.Failed h = tt
passed-on P Q wider (halt.Refused refusal) h = wider refusal h

module _ (files : Files) where
  pub all-append : (a b : List ProjectEntry) → all_files files (a ++ b) ≡ and_then (all_files files a) (all_files files b)
  all-append [] b = none-then (all_files files b)
  all-append (e ∷ es) b = ap (and_then (entry_files files e)) (all-append es b) ∙ then-assoc (entry_files files e) (all_files files es) (all_files files b)

  module _ (a b : List ProjectEntry) where
    abbrev Local : Result (List Bytes) Refusal → Type 0
    Local outcome = outcome ≡ local_files files (a ++ b)

    whole : (r : Result (List Bytes) Refusal) → finished_of (and_then (all_files files a) (all_files files b)) ≡ r → Local r
    whole r e = sym e ∙ ap finished_of (sym (all-append a b))

    -- one of the first entries is refused
    pub first-refused : (h : Halt) → Answers {A = List Bytes} (λ outcome. outcome ≡ all_files files a) (Err h) → Answers {A = List Bytes} Local (Err h)
    first-refused = passed-on (λ outcome. outcome ≡ all_files files a) Local (λ r is. whole (Err r) (ap (λ x. finished_of (and_then x (all_files files b))) (sym is)))

    -- no entry is refused
    pub all-found : (found others : List Bytes) → Ok found ≡ all_files files a → Ok others ≡ all_files files b →
        (result : Result (List Bytes) Halt) → Settles (λ outcome. outcome ≡ finished (found ++ others)) result → Answers Local result
    all-found found others first more (Ok paths) is =
        whole (Ok paths) (ap (λ x. finished_of (and_then x (all_files files b))) (sym first) ∙ ap (λ x. finished_of (and_then (Ok found) x)) (sym more) ∙ sym is)
    all-found found others first more (Err halt.NoMemory) is = tt
    all-found found others first more (Err halt.Failed) is = absurd is
    all-found found others first more (Err (halt.Refused r)) is =
        whole (Err r) (ap (λ x. finished_of (and_then x (all_files files b))) (sym first) ∙ ap (λ x. finished_of (and_then (Ok found) x)) (sym more) ∙ sym is)
