-- An entry of dependencies denotes one, or has a fault.
use Rattle.std.proofs.Common.{◌≡◌, ◌⊎◌, inl, inr, ℕ, Bool, true, false, List, [], ◌∷◌, refl, sym, ap, ◌∙◌, subst}
use Rattle.std.specs.List.{list_all}
use Rattle.std.proofs.lemmas.Bool.{false≢true, true≢false}
use Rattle.plan_types.specs.Bytes.{begins_with, is_blank}
use Rattle.plan_types.specs.Format.{is_old}
use Rattle.plan_types.specs.Name.{is_component_byte, is_component_name, is_package_name}
use Rattle.plan_types.specs.declared.dependency.DepKind.{DepKind}
use Rattle.plan_types.specs.declared.dependency.DepKind.TheVariants.{Tool}
use Rattle.plan_types.specs.declared.dependency.LibName.{LibName}
use Rattle.plan_types.specs.declared.dependency.LibName.TheVariants as lib_name
use Rattle.plan_types.specs.declared.range.Spec.{Spec}
use Rattle.plan_types.specs.declared.refusal.Cause.{Cause}
use Rattle.plan_types.specs.declared.refusal.Cause.TheVariants.{BadName, BadDepend}
use Rattle.common_laws.specs.Small.{tail_same}
use Rattle.text_grammar.proofs.LeadingBlanks.{Begun, begun}
use Rattle.entry_text.specs.Entries.{Pieces, Each}
use Rattle.entry_text.specs.Words.{run, behind, is_in_braces, name_of, behind_name}
use Rattle.entry_text.proofs.OneReading.{one_cut}
use Rattle.depend_text.specs.Depends.{library, Library, NamedLibraries, one, several, Libraries, main, named, old_cause, LibrariesFault, old, broken, LibraryEntry, LibraryFault, Executable, ToolEntry, ToolFault}
use Rattle.every_reading.specs.Answered.{Answered}
use Rattle.every_reading.proofs.DecidedReadings.{Decided}
use Rattle.every_reading.proofs.LoopReadings.{some_range}
use Rattle.every_reading.proofs.EntryAnswers.{some_pieces, each_decided}

-- ---- libraries

library_decided : («package» piece : List ℕ) → Decided (Library «package» piece)
library_decided «package» piece =
    by (is_component_name (run is_component_byte (behind is_blank piece))) refl (list_all is_blank (behind is_component_byte (behind is_blank piece))) refl
  where
    by : (s : Bool) → is_component_name (run is_component_byte (behind is_blank piece)) ≡ s
        → (t : Bool) → list_all is_blank (behind is_component_byte (behind is_blank piece)) ≡ t → Decided (Library «package» piece)
    by true p true q = inl (library «package» (run is_component_byte (behind is_blank piece)), record { form = p; only = q; is = refl })
    by true p false q = inr (λ found is. true≢false (sym is.only ∙ q))
    by false p t q = inr (λ found is. true≢false (sym is.form ∙ p))

abbrev HasLibraries : List ℕ → List ℕ → Type 0
HasLibraries «package» part = (libs : List LibName) × (range_text : List ℕ) × NamedLibraries «package» part libs range_text

abbrev HasNone : List ℕ → List ℕ → Type 0
HasNone «package» part = (libs : List LibName) (range_text : List ℕ) → NamedLibraries «package» part libs range_text → ⊥

no_brace : («package» part : List ℕ) → is_component_name (run is_component_byte part) ≡ false → ((list : List ℕ) → part ≡ 123 ∷ list → ⊥) → HasNone «package» part
no_brace «package» part h never libs range_text (one form is rest) = true≢false (sym form ∙ h)
no_brace «package» part h never libs range_text (several list pieces e close cut each) = never list e

module _ («package» part list : List ℕ) (h : is_component_name (run is_component_byte part) ≡ false) (e : part ≡ 123 ∷ list) where
  no_end : ((rest : List ℕ) → behind is_in_braces list ≡ 125 ∷ rest → ⊥) → HasNone «package» part
  no_end never libs range_text (one form is rest) = true≢false (sym form ∙ h)
  no_end never libs range_text (several list' pieces f close cut each) =
      never range_text (ap (behind is_in_braces) (tail_same (sym e ∙ f)) ∙ close)

  no_list : (pieces : List (List ℕ)) → Pieces (run is_in_braces list) pieces → ((libs : List LibName) → Each (Library «package») pieces libs → ⊥) → HasNone «package» part
  no_list pieces cut never libs range_text (one form is rest) = true≢false (sym form ∙ h)
  no_list pieces cut never libs range_text (several list' others f close cut' each) =
      let same = tail_same (sym f ∙ e) in
      let pieces_same = one_cut (run is_in_braces list) others pieces (subst (λ t. Pieces (run is_in_braces t) others) same cut') cut in
      never libs (subst (λ ps. Each (Library «package») ps libs) pieces_same each)

  listed : Begun 125 (behind is_in_braces list) → HasLibraries «package» part ⊎ HasNone «package» part
  listed (inr none) = inr (no_end (λ rest f. false≢true (sym none ∙ ap (begins_with 125) f)))
  listed (inl end) =
      let pieces = some_pieces (run is_in_braces list) in
      elim (each_decided (Library «package») (library_decided «package») pieces.0) [
        | inl libs ↦ inl (libs.0, end.0, several list pieces.0 e end.1 pieces.1 libs.1)
        | inr never ↦ inr (no_list pieces.0 pieces.1 never)
      ]

named_decided : («package» part : List ℕ) → HasLibraries «package» part ⊎ HasNone «package» part
named_decided «package» part = by (is_component_name (run is_component_byte part)) refl (begun 123 part)
  where
    by : (t : Bool) → is_component_name (run is_component_byte part) ≡ t → Begun 123 part → HasLibraries «package» part ⊎ HasNone «package» part
    by true h brace = inl (library «package» (run is_component_byte part) ∷ [], behind is_component_byte part, one h refl refl)
    by false h (inr none) = inr (no_brace «package» part h (λ list e. false≢true (sym none ∙ ap (begins_with 123) e)))
    by false h (inl brace) = listed «package» part brace.0 h brace.1 (begun 125 (behind is_in_braces brace.0))

abbrev Part : Spec → List ℕ → List ℕ → Type 0
Part spec «package» text = ((libs : List LibName) × (range_text : List ℕ) × Libraries spec «package» text libs range_text) ⊎ ((cause : Cause) × LibrariesFault spec «package» text cause)

some_part : (spec : Spec) («package» text : List ℕ) → Part spec «package» text
some_part spec «package» text = by (begun 58 text)
  where
    behind_colon : (part : List ℕ) → text ≡ 58 ∷ part → (t : Bool) → is_old spec ≡ t → Part spec «package» text
    behind_colon part e true q = inr (old_cause part, old part q e refl)
    behind_colon part e false q =
        elim (named_decided «package» part) [
          | inl found ↦ inl (found.0, found.1, named part q e found.2)
          | inr never ↦ inr (BadDepend, broken part q e refl never)
        ]

    by : Begun 58 text → Part spec «package» text
    by (inr none) = inl (lib_name.Main ∷ [], text, main none refl refl)
    by (inl colon) = behind_colon colon.0 colon.1 (is_old spec) refl

pub some_library : (spec : Spec) (kind : DepKind) (line : ℕ) (text : List ℕ) → Answered (LibraryEntry spec kind line text) (LibraryFault spec text)
some_library spec kind line text = by (is_package_name (name_of text)) refl
  where
    ranged : is_package_name (name_of text) ≡ true → (libs : List LibName) (range_text : List ℕ) → Libraries spec (name_of text) (behind_name text) libs range_text
        → Answered (LibraryEntry spec kind line text) (LibraryFault spec text)
    ranged h libs range_text part =
        elim (some_range spec 64 range_text) [
          | inl found ↦ inl (
            record { line = line; kind = kind; «package» = name_of text; libs = libs; exe = []; range = found.0; internal = false },
            record { libs = libs; range_text = range_text; range = found.0; name = h; part = part; versions = found.1; is = refl },
          )
          | inr fault ↦ inr (fault.0, LibraryFault.range libs range_text h part fault.1)
        ]

    by : (t : Bool) → is_package_name (name_of text) ≡ t → Answered (LibraryEntry spec kind line text) (LibraryFault spec text)
    by false h = inr (BadName, LibraryFault.name h refl)
    by true h =
        elim (some_part spec (name_of text) (behind_name text)) [
          | inl found ↦ ranged h found.0 found.1 found.2
          | inr fault ↦ inr (fault.0, LibraryFault.part h fault.1)
        ]

-- ---- tools

abbrev HasExecutable : List ℕ → Type 0
HasExecutable text = ((exe : List ℕ) × (range_text : List ℕ) × Executable text exe range_text) ⊎ ((exe range_text : List ℕ) → Executable text exe range_text → ⊥)

executable_decided : (text : List ℕ) → HasExecutable text
executable_decided text = by (begun 58 text)
  where
    formed : (part : List ℕ) → text ≡ 58 ∷ part → (t : Bool) → is_component_name (run is_component_byte part) ≡ t → HasExecutable text
    formed part e true h = inl (run is_component_byte part, behind is_component_byte part, record { part = part; colon = e; form = h; is = refl; rest = refl })
    formed part e false h = inr (λ exe range_text x. true≢false (sym x.form ∙ ap (λ t. is_component_name (run is_component_byte t)) (tail_same (sym x.colon ∙ e)) ∙ h))

    by : Begun 58 text → HasExecutable text
    by (inr none) = inr (λ exe range_text x. false≢true (sym none ∙ ap (begins_with 58) x.colon))
    by (inl colon) = formed colon.0 colon.1 (is_component_name (run is_component_byte colon.0)) refl

pub some_tool : (spec : Spec) (line : ℕ) (text : List ℕ) → Answered (ToolEntry spec line text) (ToolFault spec text)
some_tool spec line text = by (is_package_name (name_of text)) refl
  where
    ranged : is_package_name (name_of text) ≡ true → (exe range_text : List ℕ) → Executable (behind_name text) exe range_text → Answered (ToolEntry spec line text) (ToolFault spec text)
    ranged h exe range_text part =
        elim (some_range spec 64 range_text) [
          | inl found ↦ inl (
            record { line = line; kind = Tool; «package» = name_of text; libs = []; exe = exe; range = found.0; internal = false },
            record { exe = exe; range_text = range_text; range = found.0; name = h; part = part; versions = found.1; is = refl },
          )
          | inr fault ↦ inr (fault.0, ToolFault.range exe range_text h part fault.1)
        ]

    by : (t : Bool) → is_package_name (name_of text) ≡ t → Answered (ToolEntry spec line text) (ToolFault spec text)
    by false h = inr (BadName, ToolFault.name h refl)
    by true h =
        elim (executable_decided (behind_name text)) [
          | inl found ↦ ranged h found.0 found.1 found.2
          | inr never ↦ inr (BadDepend, ToolFault.part h never refl)
        ]
