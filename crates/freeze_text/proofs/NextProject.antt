-- The project of files one of which has constraints behind what it said.
use Rattle.std.proofs.Common.{◌≡◌, ℕ, Bool, true, false, ◌||◌, List, [], ◌∷◌, ◌++◌, Option, Some, None, refl, sym, ap, ◌∙◌, subst, append_assoc}
use Rattle.std.specs.Prelude.{Ok, Err, unwrap_or}
use Rattle.std.specs.declared.result.Result.{Result}
use Rattle.std.specs.List.{AllByRecursion, list_any}
use Rattle.std.specs.Option.{option_or}
use Rattle.std.proofs.lemmas.Grind.{flat_map-append}
use Rattle.std.proofs.lemmas.List.{map-append}
use Rattle.std.proofs.lemmas.List.Folds.{list_any-append}
use Rattle.plan_types.specs.declared.condition.Env.{Env}
use Rattle.plan_types.specs.declared.constraint.Constraint.{Constraint}
use Rattle.plan_types.specs.declared.limit.Limit.TheVariants.{At}
use Rattle.plan_types.specs.declared.project.Project.{Project}
use Rattle.plan_types.specs.declared.refusal.Refusal.{Refusal}
use Rattle.cabal_lexer.specs.RoundTrip.{ends_with_return}
use Rattle.text_grammar.specs.Last.{last_given}
use Rattle.project_file.specs.Project.{Given, Placed, all, given, last_or, nothing, placed_all, placed_at, project_from}
use Rattle.project_file.specs.Read.{AllRead, FileReads, GoesOn, IsProject}
use Rattle.project_file.specs.Texts.{Reads}
use Rattle.project_file.specs.declared.read.ProjectText.{ProjectText}
use Rattle.freeze_text.specs.Reads.{Adds, IsPlainConstraint, IsUnion, text_at, with_constraints}
use Rattle.freeze_text.specs.Text.{freeze_text, refrozen_text}
use Rattle.freeze_text.proofs.NextItems.{none-behind, said_next, some-behind}
use Rattle.freeze_text.proofs.ReadBack.{GivesAlone, IsOne, Part, nothing-read, said, text-read}

-- ---- parts in between

or_none : {A : Type 0} (a : Option A) → option_or a None ≡ a
or_none None = refl
or_none (Some a) = refl

said-same : {A : Type 0} (of : Placed → Option A) (front back : List Placed) (part : Placed) → of part ≡ None → last_given of (front ++ part ∷ back) ≡ last_given of (front ++ back)
said-same of [] back part none = ap (λ o. option_or (last_given of back) o) none ∙ or_none (last_given of back)
said-same of (x ∷ front) back part none = ap (λ o. option_or o (of x)) (said-same of front back part none)

last-same : {A : Type 0} (value : A) (of : Given → Option A) (front back : List Placed) (part : Placed) → of (given part) ≡ None → last_or value of (front ++ part ∷ back) ≡ last_or value of (front ++ back)
last-same value of front back part none = ap (λ o. unwrap_or o value) (said-same (λ p. of (given p)) front back part none)

all-both : {A : Type 0} (of : Given → List A) (front back : List Placed) (part : Placed) → all of (front ++ part ∷ back) ≡ all of front ++ (of (given part) ++ all of back)
all-both of front back part = flat_map-append (λ p. of (given p)) front (part ∷ back)

all-same : {A : Type 0} (of : Given → List A) (front back : List Placed) (part : Placed) → of (given part) ≡ [] → all of (front ++ part ∷ back) ≡ all of (front ++ back)
all-same of front back part none = all-both of front back part ∙ ap (λ l. all of front ++ (l ++ all of back)) none ∙ sym (flat_map-append (λ p. of (given p)) front back)

or_middle : (a b c : Bool) → a || (b || c) ≡ (a || c) || b
or_middle true b c = refl
or_middle false true true = refl
or_middle false true false = refl
or_middle false false true = refl
or_middle false false false = refl

module _ (constraints : List Constraint) (part : Placed) (gives : GivesAlone part constraints) (front back : List Placed) where
  abbrev own : List Placed → List Constraint
  own parts = all (λ g. g.constraints) parts

  none-of : {A : Type 0} (of : Given → List A) → of (record nothing { constraints = constraints }) ≡ [] → all of (front ++ part ∷ back) ≡ all of (front ++ back)
  none-of of none = all-same of front back part (ap of gives ∙ none)

  nothing-of : {A : Type 0} (value : A) (of : Given → Option A) → of (record nothing { constraints = constraints }) ≡ None → last_or value of (front ++ part ∷ back) ≡ last_or value of (front ++ back)
  nothing-of value of none = last-same value of front back part (ap of gives ∙ none)

  with-part : project_from (front ++ part ∷ back) ≡ with_constraints (own (front ++ part ∷ back)) (project_from (front ++ back))
  with-part i = record {
    entries = none-of (λ g. g.entries) refl i;
    extra = none-of (λ g. g.extra) refl i;
    constraints = own (front ++ part ∷ back);
    preferences = none-of (λ g. g.preferences) refl i;
    newer = none-of (λ g. g.newer) refl i;
    older = none-of (λ g. g.older) refl i;
    tests = nothing-of false (λ g. g.tests) refl i;
    benchmarks = nothing-of false (λ g. g.benchmarks) refl i;
    limit = nothing-of (At 4000) (λ g. g.limit) refl i;
    prefer_oldest = nothing-of false (λ g. g.prefer_oldest) refl i;
    boot_installs = nothing-of false (λ g. g.boot_installs) refl i;
    warnings = none-of (λ g. g.warnings) refl i;
  }

  union : IsUnion (own (front ++ part ∷ back)) (own (front ++ back)) constraints
  union test =
      ap (list_any test) (all-both (λ g. g.constraints) front back part ∙ ap (λ (g : Given). own front ++ (g.constraints ++ own back)) gives)
      ∙ list_any-append test (own front) (constraints ++ own back)
      ∙ ap (λ b. list_any test (own front) || b) (list_any-append test constraints (own back))
      ∙ or_middle (list_any test (own front)) (list_any test constraints) (list_any test (own back))
      ∙ ap (λ b. b || list_any test constraints) (sym (ap (list_any test) (flat_map-append (λ p. (given p).constraints) front back) ∙ list_any-append test (own front) (own back)))

-- ---- files

-- the parts of files, of which some come in between in other files
record IsSplit (env : Env) (texts : List ProjectText) (more parts : List Placed) : Type 0 where
  front : List Placed
  back : List Placed
  whole : parts ≡ front ++ back
  read : AllRead env texts (Ok (front ++ (more ++ back)))

ok-is : {X E : Type 0} (a b : X) → ◌≡◌ {A = Result X E} (Ok a) (Ok b) → a ≡ b
ok-is a b e = cc

module _ (env : Env) (path : List ℕ) (more : List Part) where
  -- a file in front
  past-file : (text : ProjectText) (texts now : List ProjectText) (parts : List Placed) → ((ms : List Placed) → AllRead env texts (Ok ms) → IsSplit env now (placed_all path more) ms)
      → (read : Result (List Part) Refusal) → FileReads env text read → GoesOn text.path read (λ m. AllRead env texts m) (Ok parts) → IsSplit env (text ∷ now) (placed_all path more) parts
  unfolding AllRead
  past-file text texts now parts step (Err refusal) reads e = absurd (cc e)
  past-file text texts now parts step (Ok own) reads (Err refusal, rest, e) = absurd (cc e)
  past-file text texts now parts step (Ok own) reads (Ok ms, rest, e) =
      let split = step ms rest in
      let placed = placed_all text.path own in
      record {
        front = placed ++ split.front;
        back = split.back;
        whole = ok-is parts (placed ++ ms) e ∙ ap (λ l. placed ++ l) split.whole ∙ sym (append_assoc placed split.front split.back);
        read = (Ok own, reads, (Ok (split.front ++ (placed_all path more ++ split.back)), split.read, ap Ok (append_assoc placed split.front (placed_all path more ++ split.back))));
      }

  -- a file that says more
  module _ (before now : List ℕ) (behind : List ProjectText) (further : (parts : List Part) → Reads env before (Ok parts) → Reads env now (Ok (parts ++ more))) where
    file-further : (parts : List Part) → FileReads env (text_at path before) (Ok parts) → FileReads env (text_at path now) (Ok (parts ++ more))
    file-further parts (Ok found, reads, e) = (Ok (found ++ more), further found reads, ap (λ p. Ok (p ++ more)) (ok-is parts found e))
    file-further parts (Err at, reads, e) = absurd (cc e)

    at-file : (parts : List Placed) (read : Result (List Part) Refusal) → FileReads env (text_at path before) read → GoesOn path read (λ m. AllRead env behind m) (Ok parts)
        → IsSplit env (text_at path now ∷ behind) (placed_all path more) parts
    unfolding AllRead
    at-file parts (Err refusal) reads e = absurd (cc e)
    at-file parts (Ok own) reads (Err refusal, rest, e) = absurd (cc e)
    at-file parts (Ok own) reads (Ok ms, rest, e) = record {
      front = placed_all path own;
      back = ms;
      whole = ok-is parts (placed_all path own ++ ms) e;
      read = (
        Ok (own ++ more),
        file-further own reads,
        (Ok ms, rest, ap Ok (sym (append_assoc (placed_all path own) (placed_all path more) ms) ∙ ap (λ l. l ++ ms) (sym (map-append (placed_at path) own more)))),
      );
    }

    in-place : (front : List ProjectText) (parts : List Placed) → AllRead env (front ++ text_at path before ∷ behind) (Ok parts) → IsSplit env (front ++ text_at path now ∷ behind) (placed_all path more) parts
    unfolding AllRead
    in-place [] parts h = at-file parts h.0 h.1 h.2
    in-place (text ∷ front) parts h = past-file text (front ++ text_at path before ∷ behind) (front ++ text_at path now ∷ behind) parts (in-place front) h.0 h.1 h.2

  -- a file that wasn't there
  module _ (now : List ℕ) (behind : List ProjectText) (reads : Reads env now (Ok more)) where
    in-between : (front : List ProjectText) (parts : List Placed) → AllRead env (front ++ behind) (Ok parts) → IsSplit env (front ++ text_at path now ∷ behind) (placed_all path more) parts
    unfolding AllRead
    in-between [] parts h = record {
      front = [];
      back = parts;
      whole = refl;
      read = (Ok more, (Ok more, reads, refl), (Ok parts, h, refl));
    }
    in-between (text ∷ front) parts h = past-file text (front ++ behind) (front ++ text_at path now ∷ behind) parts (in-between front) h.0 h.1 h.2

-- ---- projects

or_false : (b : Bool) → b ≡ b || false
or_false true = refl
or_false false = refl

module _ (env : Env) (texts : List ProjectText) (parts : List Placed) where
  adds-none : IsSplit env texts [] parts → Adds env texts (project_from parts) []
  adds-none split = record {
    all = (project_from parts).constraints;
    union = λ test. or_false (list_any test (project_from parts).constraints);
    read = (Ok (split.front ++ split.back), split.read, ap (λ p. Ok (project_from p)) split.whole);
  }

  adds-some : (constraints : List Constraint) (more : List Placed) → IsOne constraints more → IsSplit env texts more parts → Adds env texts (project_from parts) constraints
  adds-some constraints more one split =
      let whole = split.front ++ one.part ∷ split.back in
      let read = subst (λ l. AllRead env texts (Ok (split.front ++ (l ++ split.back)))) one.alone split.read in
      subst (λ l. Adds env texts (project_from l) constraints) (sym split.whole) (record {
        all = all (λ g. g.constraints) whole;
        union = union constraints one.part one.gives split.front split.back;
        read = (Ok whole, read, ap Ok (sym (with-part constraints one.part one.gives split.front split.back)));
      })

module _ (env : Env) (front behind : List ProjectText) (path : List ℕ) where
  behind-parts : (before : List ℕ) (constraints : List Constraint) → AllByRecursion IsPlainConstraint constraints → ends_with_return before ≡ false → (parts : List Placed)
      → AllRead env (front ++ text_at path before ∷ behind) (Ok parts) → Adds env (front ++ text_at path (refrozen_text before constraints) ∷ behind) (project_from parts) constraints
  behind-parts before [] are plainly parts h =
      adds-none env (front ++ text_at path (refrozen_text before []) ∷ behind) parts
      (in-place env path [] before (refrozen_text before []) behind (none-behind env before plainly) front parts h)
  behind-parts before (c ∷ constraints) are plainly parts h =
      let is = said_next env before plainly c constraints are in
      adds-some env (front ++ text_at path (refrozen_text before (c ∷ constraints)) ∷ behind) parts (c ∷ constraints) (placed_all path is.parts) (is.one path)
      (in-place env path is.parts before (refrozen_text before (c ∷ constraints)) behind (some-behind env before plainly c constraints are) front parts h)

  pub adds-behind : (before : List ℕ) (constraints : List Constraint) (project : Project) → AllByRecursion IsPlainConstraint constraints → ends_with_return before ≡ false
      → IsProject env (front ++ text_at path before ∷ behind) (Ok project) → Adds env (front ++ text_at path (refrozen_text before constraints) ∷ behind) project constraints
  adds-behind before constraints project are plainly (Ok parts, read, e) =
      subst (λ p. Adds env (front ++ text_at path (refrozen_text before constraints) ∷ behind) p constraints) (sym (ok-is project (project_from parts) e))
      (behind-parts before constraints are plainly parts read)
  adds-behind before constraints project are plainly (Err refusal, read, e) = absurd (cc e)

  alone-parts : (constraints : List Constraint) → AllByRecursion IsPlainConstraint constraints → (parts : List Placed)
      → AllRead env (front ++ behind) (Ok parts) → Adds env (front ++ text_at path (freeze_text constraints) ∷ behind) (project_from parts) constraints
  alone-parts [] are parts h =
      adds-none env (front ++ text_at path [] ∷ behind) parts (in-between env path [] [] behind (nothing-read env) front parts h)
  alone-parts (c ∷ constraints) are parts h =
      let is = said env 1 (c ∷ constraints) are in
      adds-some env (front ++ text_at path (freeze_text (c ∷ constraints)) ∷ behind) parts (c ∷ constraints) (placed_all path is.parts) (is.one path)
      (in-between env path is.parts (freeze_text (c ∷ constraints)) behind (text-read env c constraints are) front parts h)

  pub adds-alone : (constraints : List Constraint) (project : Project) → AllByRecursion IsPlainConstraint constraints
      → IsProject env (front ++ behind) (Ok project) → Adds env (front ++ text_at path (freeze_text constraints) ∷ behind) project constraints
  adds-alone constraints project are (Ok parts, read, e) =
      subst (λ p. Adds env (front ++ text_at path (freeze_text constraints) ∷ behind) p constraints) (sym (ok-is project (project_from parts) e)) (alone-parts constraints are parts read)
  adds-alone constraints project are (Err refusal, read, e) = absurd (cc e)
