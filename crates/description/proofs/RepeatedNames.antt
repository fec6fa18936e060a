-- Shared: the kept names are those of the earlier sections.
use Rattle.std.proofs.Common.{◌≡◌, ℕ, Bool, true, false, not, ◌&&◌, ◌||◌, if◌then◌else◌, List, [], ◌∷◌, ◌++◌, flat_map, sym, ap, ◌∙◌, refl}
use Rattle.std.specs.List.{list_all}
use Rattle.std.proofs.Math.Bool.{or-false}
use Rattle.std.proofs.lemmas.List.Folds.{list_any-append}
use Rattle.plan_types.specs.Bytes.{same_text}
use Rattle.plan_types.specs.declared.refusal.Cause.TheVariants as causes
use Rattle.section_syntax.specs.declared.part.SectionPart.{SectionPart}
use Rattle.section_syntax.specs.declared.part.Said.{Said}
use Rattle.section_syntax.specs.declared.part.Said.TheVariants as said
use Rattle.section_syntax.specs.declared.part.Section.{Section}
use Rattle.stanza_imports.specs.Names.{has, with_name}
use Rattle.stanza_imports.proofs.NameList.{has-with}
use Rattle.package_declarations.specs.Declarations.{declares}
use Rattle.description.specs.Faults.{at, by_those_before, is_class, repeated, repeats, unknown_in, unknown_said, unknown_stanzas, unless}
use Rattle.description.specs.NamesBefore.{again, names_behind, unknown_of}
use Rattle.description.specs.declared.fault_order.At.{At}
use Rattle.description.specs.declared.faults.Class.{Class}
use Rattle.description.specs.declared.faults.Class.TheVariants.{Common}

-- ---- the faults, by the kept names

abbrev pub repeated_from : Class → List (List ℕ) → List Section → List At
repeated_from class names [] = []
repeated_from class names (section ∷ sections) = again class names section ++ repeated_from class (names_behind class names section) sections

abbrev pub unknown_with : List (List ℕ) → Section → List At
unknown_with known section = flat_map (λ part. at part.line (unknown_of known part.said)) section.parts

abbrev pub unknown_from : List (List ℕ) → List Section → List At
unknown_from known [] = []
unknown_from known (section ∷ sections) = unknown_with known section ++ unknown_from (names_behind Common known section) sections

-- ---- the kept names are those of the earlier sections

-- these are the names of a class of sections
abbrev pub AreNames : Class → List Section → List (List ℕ) → Type 0
AreNames class before names = (name : List ℕ) → has names name ≡ declares (is_class class) before name

one_behind : (b : Bool) (names : List (List ℕ)) (own name : List ℕ) →
    has (if b then with_name names own else names) name ≡ (has names name || ((b && same_text name own) || false))
one_behind true names own name = has-with names own name ∙ ap (λ c. has names name || c) (sym (or-false (same_text name own)))
one_behind false names own name = sym (or-false (has names name))

names-behind : (class : Class) (before : List Section) (names : List (List ℕ)) (section : Section) → AreNames class before names →
    AreNames class (before ++ section ∷ []) (names_behind class names section)
names-behind class before names section are name =
    one_behind (is_class class section.kind) names section.name name
    ∙ ap (λ b. b || ((is_class class section.kind && same_text name section.name) || false)) (are name)
    ∙ sym (list_any-append (λ (s : Section). is_class class s.kind && same_text name s.name) before (section ∷ []))

repeated-from : (class : Class) (before : List Section) (names : List (List ℕ)) (sections : List Section) → AreNames class before names →
    by_those_before (repeats class) before sections ≡ repeated_from class names sections
repeated-from class before names [] are = refl
repeated-from class before names (section ∷ sections) are =
    let here = λ (known : Bool). if is_class class section.kind then at section.line (unless (not known) causes.DuplicateName) else [] in
    ap (λ v. v ++ by_those_before (repeats class) (before ++ section ∷ []) sections) (ap here (sym (are section.name)))
    ∙ ap (λ v. again class names section ++ v) (repeated-from class (before ++ section ∷ []) (names_behind class names section) sections (names-behind class before names section are))

pub repeated-is : (class : Class) (sections : List Section) → repeated class sections ≡ repeated_from class [] sections
repeated-is class sections = repeated-from class [] [] sections (λ name. refl)

all_known : (before : List Section) (known : List (List ℕ)) → AreNames Common before known → (names : List (List ℕ)) →
    list_all (declares (is_class Common) before) names ≡ list_all (has known) names
all_known before known are [] = refl
all_known before known are (name ∷ names) = λ i. sym (are name) i && all_known before known are names i

said-unknown : (before : List Section) (known : List (List ℕ)) → AreNames Common before known → (one : Said) → unknown_said before one ≡ unknown_of known one
said-unknown before known are (said.Import names fits) =
    ap (λ b. if fits then unless b causes.UnknownStanza else []) (all_known before known are names)
said-unknown before known are (said.Depends deps) = refl
said-unknown before known are (said.Buildable value) = refl
said-unknown before known are (said.Visibility value) = refl
said-unknown before known are (said.Default value) = refl
said-unknown before known are (said.Manual value) = refl
said-unknown before known are said.BuildTools = refl
said-unknown before known are (said.Branch word condition fits) = refl
said-unknown before known are said.Misplaced = refl

parts-unknown : (before : List Section) (known : List (List ℕ)) → AreNames Common before known → (parts : List SectionPart) →
    flat_map (λ part. at part.line (unknown_said before part.said)) parts ≡ flat_map (λ part. at part.line (unknown_of known part.said)) parts
parts-unknown before known are [] = refl
parts-unknown before known are (part ∷ parts) =
    λ i. at part.line (said-unknown before known are part.said i) ++ parts-unknown before known are parts i

unknown-from : (before : List Section) (known : List (List ℕ)) (sections : List Section) → AreNames Common before known →
    by_those_before unknown_in before sections ≡ unknown_from known sections
unknown-from before known [] are = refl
unknown-from before known (section ∷ sections) are =
    λ i. parts-unknown before known are section.parts i
    ++ unknown-from (before ++ section ∷ []) (names_behind Common known section) sections (names-behind Common before known section are) i

pub unknown-is : (sections : List Section) → unknown_stanzas sections ≡ unknown_from [] sections
unknown-is sections = unknown-from [] [] sections (λ name. refl)
