-- Shared: the outcome of project files with one more file.
use Rattle.std.proofs.Common.{◌≡◌, inl, ℕ, ◌+◌, ◌<◌, ◌≤◌, length, List, [], ◌∷◌, ◌++◌, get_or, take, drop, refl, sym, subst, ap, ◌∙◌, append_assoc}
use Rattle.std.proofs.lemmas.List.{append-nil, take-append-drop, take_all}
use Rattle.std.specs.Prelude.{Result, Ok, Err}
use Rattle.common_laws.specs.Lists.{take_at}
use Rattle.plan_types.specs.declared.condition.Env.{Env}
use Rattle.plan_types.specs.declared.project.Project.{Project}
use Rattle.cabal_lexer.specs.Fault.{IsFault}
use Rattle.plan_types.specs.declared.refusal.Fault.{Fault}
use Rattle.plan_types.specs.declared.refusal.Fault.TheVariants as fault
use Rattle.plan_types.specs.declared.refusal.Halt.{Halt}
use Rattle.plan_types.specs.declared.refusal.Halt.TheVariants as halt
use Rattle.plan_types.specs.declared.refusal.Refusal.{Refusal}
use Rattle.project_file.specs.Project.{Placed, placed_all, project_from}
use Rattle.project_file.specs.Read.{AllRead, FileReads, GoesOn, IsProject, IsWithFile, halt_of, in_front, project_of}
use Rattle.project_file.specs.Texts.{Reads, fault_at}
use Rattle.project_file.specs.declared.part.ProjectPart.{ProjectPart}
use Rattle.project_file.specs.declared.read.ProjectText.{ProjectText}
use Rattle.plan_types.specs.Refusal.{RefusesAt, Settles}

in_front-twice : (front parts : List Placed) (more : Result (List Placed) Refusal) → in_front front (in_front parts more) ≡ in_front (front ++ parts) more
in_front-twice front parts (Ok more) = ap Ok (sym (append_assoc front parts more))
in_front-twice front parts (Err refusal) = refl

in_front-none : (more : Result (List Placed) Refusal) → more ≡ in_front [] more
in_front-none (Ok more) = refl
in_front-none (Err refusal) = refl

abbrev parts_in : Result (List Placed) Refusal → List Placed
parts_in (Ok parts) = parts
parts_in (Err refusal) = []

abbrev project_in : Project → Result Project Refusal → Project
project_in other (Ok project) = project
project_in other (Err refusal) = other

-- ---- later files

on-ok : (parts front : List Placed) (Rest Also : Result (List Placed) Refusal → Type 0) (more : Result (List Placed) Refusal) → ((f : List Placed) → Rest (Ok f) → Also (in_front f more)) →
    (m : Result (List Placed) Refusal) → Rest m → Ok front ≡ in_front parts m → (n : Result (List Placed) Refusal) × Also n × (in_front front more ≡ in_front parts n)
on-ok parts front Rest Also more step (Ok ms) r e = (in_front ms more, step ms r, ap (λ f. in_front f more) (ap parts_in e) ∙ sym (in_front-twice parts ms more))
on-ok parts front Rest Also more step (Err refusal) r e = absurd (cc e)

goes-on : (path : List ℕ) (read : Result (List ProjectPart) Refusal) (Rest Also : Result (List Placed) Refusal → Type 0) (front : List Placed) (more : Result (List Placed) Refusal) →
    ((f : List Placed) → Rest (Ok f) → Also (in_front f more)) → GoesOn path read Rest (Ok front) → GoesOn path read Also (in_front front more)
goes-on path (Ok parts) Rest Also front more step h = on-ok (placed_all path parts) front Rest Also more step h.0 h.1 h.2
goes-on path (Err refusal) Rest Also front more step h = absurd (cc h)

on-err : (parts : List Placed) (Rest Also : Result (List Placed) Refusal → Type 0) (r : Refusal) → ((s : Refusal) → Rest (Err s) → Also (Err s)) →
    (m : Result (List Placed) Refusal) → Rest m → Err r ≡ in_front parts m → (n : Result (List Placed) Refusal) × Also n × (Err r ≡ in_front parts n)
on-err parts Rest Also r step (Ok ms) h e = absurd (cc e)
on-err parts Rest Also r step (Err s) h e = (Err s, step s h, e)

stops : (path : List ℕ) (read : Result (List ProjectPart) Refusal) (Rest Also : Result (List Placed) Refusal → Type 0) (r : Refusal) →
    ((s : Refusal) → Rest (Err s) → Also (Err s)) → GoesOn path read Rest (Err r) → GoesOn path read Also (Err r)
stops path (Ok parts) Rest Also r step h = on-err (placed_all path parts) Rest Also r step h.0 h.1 h.2
stops path (Err refusal) Rest Also r step h = h

module _ (env : Env) where
  all-read : (texts rest : List ProjectText) (front : List Placed) (more : Result (List Placed) Refusal) → AllRead env texts (Ok front) → AllRead env rest more → AllRead env (texts ++ rest) (in_front front more)
  unfolding AllRead
  all-read [] rest front more h k = subst (AllRead env rest) (in_front-none more ∙ ap (λ f. in_front f more) (sym (ap parts_in h))) k
  all-read (text ∷ texts) rest front more h k =
      (h.0, h.1, goes-on text.path h.0 (λ m. AllRead env texts m) (λ m. AllRead env (texts ++ rest) m) front more (λ f r. all-read texts rest f more r k) h.2)

  all-refused : (texts rest : List ProjectText) (r : Refusal) → AllRead env texts (Err r) → AllRead env (texts ++ rest) (Err r)
  unfolding AllRead
  all-refused [] rest r h = absurd (cc h)
  all-refused (text ∷ texts) rest r h =
      (h.0, h.1, stops text.path h.0 (λ m. AllRead env texts m) (λ m. AllRead env (texts ++ rest) m) r (λ s k. all-refused texts rest s k) h.2)

  one-read : (text : ProjectText) (parts : List ProjectPart) → FileReads env text (Ok parts) → AllRead env (text ∷ []) (Ok (placed_all text.path parts))
  unfolding AllRead
  one-read text parts reads = (Ok parts, reads, (Ok [], refl, ap Ok (sym (append-nil (placed_all text.path parts)))))

  one-refused : (text : ProjectText) (r : Refusal) → FileReads env text (Err r) → AllRead env (text ∷ []) (Err r)
  unfolding AllRead
  one-refused text r reads = (Err r, reads, refl)

  -- ---- outcomes of files

  pub none-say : IsProject env [] (Ok (project_from []))
  unfolding AllRead
  none-say = (Ok [], refl, refl)

  refused-with : (texts rest : List ProjectText) (r : Refusal) (read : Result (List Placed) Refusal) → AllRead env texts read → Err r ≡ project_of read → IsProject env (texts ++ rest) (Err r)
  refused-with texts rest r (Ok parts) h e = absurd (cc e)
  refused-with texts rest r (Err s) h e = (Err s, all-refused texts rest s h, e)

  -- files after a refused one don't count
  pub refused-behind : (texts rest : List ProjectText) (r : Refusal) → IsProject env texts (Err r) → IsProject env (texts ++ rest) (Err r)
  refused-behind texts rest r h = refused-with texts rest r h.0 h.1 h.2

  pub halted-behind : (texts rest : List ProjectText) (h : Halt) → Settles {A = Project} (IsProject env texts) (Err h) → Settles {A = Project} (IsProject env (texts ++ rest)) (Err h)
  halted-behind texts rest halt.NoMemory says = tt
  halted-behind texts rest halt.Failed says = says
  halted-behind texts rest (halt.Refused r) says = refused-behind texts rest r says

  module _ (before : List ProjectText) (text : ProjectText) (project : Project) where
    said-with : (parts : List ProjectPart) {new : Project} (read : Result (List Placed) Refusal) → AllRead env before read → Ok project ≡ project_of read → FileReads env text (Ok parts) →
        ((b : List Placed) → project ≡ project_from b → new ≡ project_from (b ++ placed_all text.path parts)) → IsProject env (before ++ text ∷ []) (Ok new)
    said-with parts (Ok front) h e reads step =
        (Ok (front ++ placed_all text.path parts), all-read before (text ∷ []) front (Ok (placed_all text.path parts)) h (one-read text parts reads), ap Ok (step front (ap (project_in project) e)))
    said-with parts (Err s) h e reads step = absurd (cc e)

    pub one-more : (parts : List ProjectPart) {new : Project} → IsProject env before (Ok project) → FileReads env text (Ok parts) →
        ((b : List Placed) → project ≡ project_from b → new ≡ project_from (b ++ placed_all text.path parts)) → IsProject env (before ++ text ∷ []) (Ok new)
    one-more parts says reads step = said-with parts says.0 says.1 says.2 reads step

    stopped-with : (r : Refusal) (read : Result (List Placed) Refusal) → AllRead env before read → Ok project ≡ project_of read → FileReads env text (Err r) → IsProject env (before ++ text ∷ []) (Err r)
    stopped-with r (Ok front) h e reads = (Err r, all-read before (text ∷ []) front (Err r) h (one-refused text r reads), refl)
    stopped-with r (Err s) h e reads = absurd (cc e)

    pub one-halted : (h : Halt) → IsProject env before (Ok project) → Settles {A = List ProjectPart} (FileReads env text) (Err h) → Settles {A = Project} (IsProject env (before ++ text ∷ [])) (Err h)
    one-halted halt.NoMemory says reads = tt
    one-halted halt.Failed says reads = reads
    one-halted (halt.Refused r) says reads = stopped-with r says.0 says.1 says.2 reads

-- ---- a fault in a file

-- a fault of the layout is the fault of a file
pub layout-fault : (env : Env) (bytes : List ℕ) (f : Fault) → RefusesAt (IsFault bytes) f → RefusesAt (λ line cause. Reads env bytes (Err (fault_at line cause))) f
layout-fault env bytes fault.NoMemory h = tt
layout-fault env bytes (fault.At line cause) h = inl (record { at = fault_at line cause; fault = h; comes = refl })

pub file-halted : (env : Env) (file : ProjectText) (f : Fault) → RefusesAt (λ line cause. Reads env file.bytes (Err (fault_at line cause))) f
    → Settles {A = List ProjectPart} (FileReads env file) (Err (halt_of file.path f))
file-halted env file fault.NoMemory h = tt
file-halted env file (fault.At line cause) h = (Err (fault_at line cause), h, refl)

module _ (env : Env) (before : List ProjectText) (file : ProjectText) where
  -- files that end with a text that isn't valid UTF-8
  pub undecoded : (project : Project) (f : Fault) → IsProject env before (Ok project) → RefusesAt (IsFault file.bytes) f
      → Settles {A = Project} (IsProject env (before ++ file ∷ [])) (Err (halt_of file.path f))
  undecoded project f says h = one-halted env before file project (halt_of file.path f) says (file-halted env file f (layout-fault env file.bytes f h))

  pub with-halted : (h : Halt) → Settles {A = Project} (IsProject env (before ++ file ∷ [])) (Err h) → Settles {A = Project × List ℕ} (IsWithFile env before file) (Err h)
  with-halted halt.NoMemory says = tt
  with-halted halt.Failed says = says
  with-halted (halt.Refused r) says = says

-- ---- one more place

pub split-at : (texts : List ProjectText) (n : ℕ) (text : ProjectText) → n < length texts → text ≡ get_or texts n text → (take n texts ++ text ∷ []) ++ drop (n + 1) texts ≡ texts
split-at texts n text lt is = ap (λ front. front ++ drop (n + 1) texts) (sym (take_at texts n text lt is)) ∙ take-append-drop (n + 1) texts

module _ (env : Env) (texts : List ProjectText) (n : ℕ) where
  pub taken-more : (text : ProjectText) (project : Project) → n < length texts → text ≡ get_or texts n text → IsProject env (take n texts ++ text ∷ []) (Ok project) → IsProject env (take (n + 1) texts) (Ok project)
  taken-more text project lt is says = subst (λ ts. IsProject env ts (Ok project)) (sym (take_at texts n text lt is)) says

  pub halted-at : (text : ProjectText) (h : Halt) → n < length texts → text ≡ get_or texts n text → Settles {A = Project} (IsProject env (take n texts ++ text ∷ [])) (Err h) → Settles {A = Project} (IsProject env texts) (Err h)
  halted-at text h lt is says = subst (λ ts. Settles {A = Project} (IsProject env ts) (Err h)) (split-at texts n text lt is) (halted-behind env (take n texts ++ text ∷ []) (drop (n + 1) texts) h says)

  pub all-taken : (project : Project) → length texts ≤ n → IsProject env (take n texts) (Ok project) → IsProject env texts (Ok project)
  all-taken project over says = subst (λ ts. IsProject env ts (Ok project)) (take_all n texts over) says
