-- Shared: from the values of the first parts to those of all.
use Rattle.std.proofs.Common.{◌≡◌, ℕ, ◌+◌, ◌<◌, ◌≤◌, List, [], ◌∷◌, ◌++◌, length, Bor, drop, get_or, Ok, Err, Result, sym, ap, ◌∙◌, subst, append_assoc, append-nil, add-one}
use Rattle.std.proofs.Math.Seq.{drop-cons}
use Rattle.std.proofs.lemmas.List.{drop_all}
use Rattle.std.specs.Prelude.{IfOk, IfErr}
use Rattle.plan_types.specs.declared.refusal.Cause.{Cause}
use Rattle.plan_types.specs.declared.refusal.TextFault.{TextFault}
use Rattle.plan_types.specs.declared.refusal.TextFault.TheVariants.{NoMemory, Bad}
use Rattle.plan_types.specs.Refusal.{Refuses}
use Rattle.entry_text.specs.Entries.{Each, none, more, First, here, later}
use Rattle.entry_text.proofs.CommaCuts.{texts}

pub ok_so : {A : Type 0} (P Q : A → Type 0) (result : Result A TextFault) → ((x : A) → P x → Q x) → IfOk result P → IfOk result Q
ok_so P Q (Ok x) so h = so x h
ok_so P Q (Err fault) so h = tt

pub fault_so : {A : Type 0} (P Q : Cause → Type 0) (result : Result A TextFault) → ((cause : Cause) → P cause → Q cause) → IfErr result (Refuses P) → IfErr result (Refuses Q)
fault_so P Q (Ok x) so h = tt
fault_so P Q (Err NoMemory) so h = tt
fault_so P Q (Err (Bad cause)) so h = so cause h

pub refuses_so : {P Q : Cause → Type 0} (fault : TextFault) → ((cause : Cause) → P cause → Q cause) → Refuses P fault → Refuses Q fault
refuses_so NoMemory so h = tt
refuses_so (Bad cause) so h = so cause h

pub err_so : {A : Type 0} (Q : Cause → Type 0) (result : Result A TextFault) (fault : TextFault) → result ≡ Err fault → Refuses Q fault → IfErr result (Refuses Q)
err_so Q result fault e h = rw e h

pub first_text : (parts : List (Bor (List ℕ))) (i : ℕ) (d : Bor (List ℕ)) → i < length parts → texts (drop i parts) ≡ (get_or parts i d).now ∷ texts (drop (i + 1) parts)
first_text parts i d h = ap texts (drop-cons parts i d h) ∙ ap (λ n. (get_or parts i d).now ∷ texts (drop n parts)) (sym (add-one i))

pub reads_more : {A : Type 0} (Part : List ℕ → A → Type 0) (all : List (List ℕ)) (parts : List (Bor (List ℕ))) (i : ℕ) (d : Bor (List ℕ)) (found : List A) (x : A)
    → i < length parts → Part (get_or parts i d).now x
    → ((xs : List A) → Each Part (texts (drop i parts)) xs → Each Part all (found ++ xs))
    → (xs : List A) → Each Part (texts (drop (i + 1) parts)) xs → Each Part all ((found ++ x ∷ []) ++ xs)
reads_more Part all parts i d found x h is so xs each =
    subst (Each Part all) (sym (append_assoc found (x ∷ []) xs))
    (so (x ∷ xs) (subst (λ t. Each Part t (x ∷ xs)) (sym (first_text parts i d h)) (more is each)))

pub fails_later : {A : Type 0} (Part : List ℕ → A → Type 0) (Fault : List ℕ → Cause → Type 0) (all : List (List ℕ)) (parts : List (Bor (List ℕ))) (i : ℕ) (d : Bor (List ℕ)) (x : A)
    → i < length parts → Part (get_or parts i d).now x
    → ((cause : Cause) → First Part Fault (texts (drop i parts)) cause → First Part Fault all cause)
    → (cause : Cause) → First Part Fault (texts (drop (i + 1) parts)) cause → First Part Fault all cause
fails_later Part Fault all parts i d x h is so cause first =
    so cause (subst (λ t. First Part Fault t cause) (sym (first_text parts i d h)) (later is first))

pub fails_here : {A : Type 0} (Part : List ℕ → A → Type 0) (Fault : List ℕ → Cause → Type 0) (all : List (List ℕ)) (parts : List (Bor (List ℕ))) (i : ℕ) (d : Bor (List ℕ))
    → i < length parts
    → ((cause : Cause) → First Part Fault (texts (drop i parts)) cause → First Part Fault all cause)
    → (cause : Cause) → Fault (get_or parts i d).now cause → First Part Fault all cause
fails_here Part Fault all parts i d h so cause fault =
    so cause (subst (λ t. First Part Fault t cause) (sym (first_text parts i d h)) (here fault))

pub reads_all : {A : Type 0} (Part : List ℕ → A → Type 0) (all : List (List ℕ)) (parts : List (Bor (List ℕ))) (i : ℕ) (found : List A)
    → length parts ≤ i
    → ((xs : List A) → Each Part (texts (drop i parts)) xs → Each Part all (found ++ xs))
    → Each Part all found
reads_all Part all parts i found h so =
    subst (Each Part all) (append-nil found) (so [] (subst (λ t. Each Part (texts t) []) (sym (drop_all i parts h)) none))
