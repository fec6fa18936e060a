-- The results of calls agree with the definitions of entries.
use Rattle.std.proofs.Common.{◌≡◌, ℕ, true, false, List, [], sym, ◌∙◌, subst}
use Rattle.plan_types.specs.Name.{is_package_name}
use Rattle.plan_types.specs.declared.dependency.DepKind.{DepKind}
use Rattle.plan_types.specs.declared.dependency.DepKind.TheVariants.{Tool}
use Rattle.plan_types.specs.declared.dependency.LibName.{LibName}
use Rattle.plan_types.specs.declared.range.Range.{Range}
use Rattle.plan_types.specs.declared.range.Spec.{Spec}
use Rattle.plan_types.specs.declared.refusal.Cause.{Cause}
use Rattle.plan_types.specs.declared.refusal.Cause.TheVariants.{BadDepend}
use Rattle.version_range.specs.Grammar.{Stands, FirstFault}
use Rattle.entry_text.specs.Entries.{Pieces, Each, First, here, later}
use Rattle.entry_text.specs.Words.{name_of, behind_name}
use Rattle.depend_text.specs.Depends.{Library, Libraries, LibrariesFault, LibraryEntry, LibraryFault, Executable, ToolEntry, ToolFault}
use Rattle.entry_text.proofs.OneReading.{one_cut, each_or_first}

pub changed : {A B : Type 0} (P : A → B → Type 0) (a a' : A) (b b' : B) → a ≡ a' → b ≡ b' → P a b → P a' b'
changed P a a' b b' e f h = subst (λ y. P a' y) f (subst (λ x. P x b) e h)

first_cause : {A : Type 0} (Part : List ℕ → A → Type 0) (K cause : Cause) (parts : List (List ℕ)) → First Part (λ part c. (c ≡ K) × ((x : A) → Part part x → ⊥)) parts cause → cause ≡ K
first_cause Part K cause parts (here f) = f.0
first_cause Part K cause parts (later {parts = rest} p f) = first_cause Part K cause rest f

pub no_libraries : («package» inside : List ℕ) (pieces : List (List ℕ)) → Pieces inside pieces → (cause : Cause)
    → First (Library «package») (λ part c. (c ≡ BadDepend) × ((lib : LibName) → Library «package» part lib → ⊥)) pieces cause
    → (cause ≡ BadDepend) × ((others : List (List ℕ)) (libs : List LibName) → Pieces inside others → Each (Library «package») others libs → ⊥)
no_libraries «package» inside pieces cut cause first = (
  first_cause (Library «package») BadDepend cause pieces first,
  λ others libs cut' each. each_or_first (Library «package») (λ part c. (c ≡ BadDepend) × ((lib : LibName) → Library «package» part lib → ⊥))
      (λ part lib c is never. never.1 lib is) pieces libs cause
      (subst (λ t. Each (Library «package») t libs) (one_cut inside others pieces cut' cut) each) first,
)

module _ (spec : Spec) (text name rest : List ℕ) (e : name ≡ name_of text) (f : rest ≡ behind_name text) (h : is_package_name name ≡ true) where
  good_name : is_package_name (name_of text) ≡ true
  good_name = subst (λ n. is_package_name n ≡ true) e h

  pub bad_libraries : (cause : Cause) → LibrariesFault spec name rest cause → LibraryFault spec text cause
  bad_libraries cause fault = LibraryFault.part good_name (changed (λ n r. LibrariesFault spec n r cause) name (name_of text) rest (behind_name text) e f fault)

  pub bad_range : (libs : List LibName) (range_text : List ℕ) → Libraries spec name rest libs range_text → (cause : Cause) → FirstFault spec 64 range_text cause → LibraryFault spec text cause
  bad_range libs range_text part cause fault =
      LibraryFault.range libs range_text good_name (changed (λ n r. Libraries spec n r libs range_text) name (name_of text) rest (behind_name text) e f part) fault

  pub library_entry : (kind : DepKind) (line : ℕ) (libs : List LibName) (range_text : List ℕ) (range : Range) («package» exe : List ℕ)
      → Libraries spec name rest libs range_text → Stands spec 64 range_text range → «package» ≡ name → exe ≡ []
      → LibraryEntry spec kind line text (record { line = line; kind = kind; «package» = «package»; libs = libs; exe = exe; range = range; internal = false })
  library_entry kind line libs range_text range «package» exe part versions same none = record {
    libs = libs;
    range_text = range_text;
    range = range;
    name = good_name;
    part = changed (λ n r. Libraries spec n r libs range_text) name (name_of text) rest (behind_name text) e f part;
    versions = versions;
    is = λ i. record { line = line; kind = kind; «package» = (same ∙ e) i; libs = libs; exe = none i; range = range; internal = false };
  }

  pub bad_executable : (cause : Cause) → (cause ≡ BadDepend) × ((exe range_text : List ℕ) → Executable rest exe range_text → ⊥) → ToolFault spec text cause
  bad_executable cause never = ToolFault.part good_name (λ exe range_text x. never.1 exe range_text (subst (λ r. Executable r exe range_text) (sym f) x)) never.0

  pub bad_tool_range : (exe range_text : List ℕ) → Executable rest exe range_text → (cause : Cause) → FirstFault spec 64 range_text cause → ToolFault spec text cause
  bad_tool_range exe range_text part cause fault = ToolFault.range exe range_text good_name (subst (λ r. Executable r exe range_text) f part) fault

  pub tool_entry : (line : ℕ) (exe range_text : List ℕ) (range : Range) («package» : List ℕ) (libs : List LibName)
      → Executable rest exe range_text → Stands spec 64 range_text range → «package» ≡ name → libs ≡ []
      → ToolEntry spec line text (record { line = line; kind = Tool; «package» = «package»; libs = libs; exe = exe; range = range; internal = false })
  tool_entry line exe range_text range «package» libs part versions same none = record {
    exe = exe;
    range_text = range_text;
    range = range;
    name = good_name;
    part = subst (λ r. Executable r exe range_text) f part;
    versions = versions;
    is = λ i. record { line = line; kind = Tool; «package» = (same ∙ e) i; libs = none i; exe = exe; range = range; internal = false };
  }
