-- Shared: an entry of dependencies has at most one reading, at most one fault, and never both.
use Rattle.std.proofs.Common.{◌≡◌, ℕ, true, false, List, [], ◌∷◌, sym, ap, ◌∙◌, subst}
use Rattle.std.proofs.lemmas.Bool.{true≢false, false≢true}
use Rattle.plan_types.specs.Bytes.{begins_with}
use Rattle.plan_types.specs.Name.{is_component_byte, is_component_name}
use Rattle.plan_types.specs.declared.dependency.Dep.{Dep}
use Rattle.plan_types.specs.declared.dependency.DepKind.{DepKind}
use Rattle.plan_types.specs.declared.dependency.DepKind.TheVariants.{Tool}
use Rattle.plan_types.specs.declared.dependency.LibName.{LibName}
use Rattle.plan_types.specs.declared.range.Spec.{Spec}
use Rattle.plan_types.specs.Format.{is_old}
use Rattle.plan_types.specs.declared.refusal.Cause.{Cause}
use Rattle.version_range.specs.Grammar.{Stands, FirstFault}
use Rattle.version_range.proofs.OneRange.{one_range, one_fault, range_or_fault}
use Rattle.entry_text.specs.Entries.{Pieces, Each}
use Rattle.entry_text.specs.Words.{run, behind, is_in_braces, name_of, behind_name}
use Rattle.depend_text.specs.Depends.{Library, NamedLibraries, one, several, Libraries, main, named, LibrariesFault, old, broken, LibraryEntry, LibraryFault, Executable, ToolEntry, ToolFault, old_cause}
use Rattle.entry_text.proofs.OneReading.{Settled, one_cut, one_each}
use Rattle.common_laws.specs.Small.{tail_same}

old_or_new : (spec : Spec) → is_old spec ≡ true → is_old spec ≡ false → ⊥
old_or_new spec e f = true≢false (sym e ∙ f)

colon : (text part : List ℕ) → begins_with 58 text ≡ false → text ≡ 58 ∷ part → ⊥
colon text part h e = false≢true (sym h ∙ ap (begins_with 58) e)

one_named : («package» piece : List ℕ) (x y : LibName) → Library «package» piece x → Library «package» piece y → x ≡ y
one_named «package» piece x y p q = p.is ∙ sym q.is

brace : (part list : List ℕ) → is_component_name (run is_component_byte part) ≡ true → part ≡ 123 ∷ list → ⊥
brace part list h e = true≢false (sym h ∙ ap (λ t. is_component_name (run is_component_byte t)) e)

one_list : («package» part : List ℕ) (ls ms : List LibName) (r s : List ℕ) → NamedLibraries «package» part ls r → NamedLibraries «package» part ms s → (ls ≡ ms) × (r ≡ s)
one_list «package» part ls ms r s (one h e f) (one i g k) = (e ∙ sym g, f ∙ sym k)
one_list «package» part ls ms r s (one h e f) (several list ps i g p q) = absurd (brace part list h i)
one_list «package» part ls ms r s (several list ps i g p q) (one h e f) = absurd (brace part list h i)
one_list «package» part ls ms r s (several list ps e f p each) (several list' qs g h q each') =
    let same : list ≡ list' = tail_same (sym e ∙ g) in
    let pieces : ps ≡ qs = one_cut (run is_in_braces list') ps qs (subst (λ t. Pieces (run is_in_braces t) ps) same p) q in (
      one_each (Library «package») (one_named «package») qs ls ms (subst (λ t. Each (Library «package») t ls) pieces each) each',
      tail_same (sym f ∙ ap (behind is_in_braces) same ∙ h),
    )

pub one_libraries : (spec : Spec) («package» text : List ℕ) (ls ms : List LibName) (r s : List ℕ)
    → Libraries spec «package» text ls r → Libraries spec «package» text ms s → (ls ≡ ms) × (r ≡ s)
one_libraries spec «package» text ls ms r s (main h e f) (main i g k) = (e ∙ sym g, f ∙ sym k)
one_libraries spec «package» text ls ms r s (main h e f) (named part i g n) = absurd (colon text part h g)
one_libraries spec «package» text ls ms r s (named part i g n) (main h e f) = absurd (colon text part h g)
one_libraries spec «package» text ls ms r s (named part h e n) (named part' i f m) =
    one_list «package» part' ls ms r s (subst (λ t. NamedLibraries «package» t ls r) (tail_same (sym e ∙ f)) n) m

one_part_fault : (spec : Spec) («package» text : List ℕ) (c d : Cause) → LibrariesFault spec «package» text c → LibrariesFault spec «package» text d → c ≡ d
one_part_fault spec «package» text c d (old part h e f) (old part' i g k) = f ∙ ap old_cause (tail_same (sym e ∙ g)) ∙ sym k
one_part_fault spec «package» text c d (old part h e f) (broken part' i g k none') = absurd (old_or_new spec h i)
one_part_fault spec «package» text c d (broken part' i g k none') (old part h e f) = absurd (old_or_new spec h i)
one_part_fault spec «package» text c d (broken part h e f none') (broken part' i g k others') = f ∙ sym k

part_or_fault : (spec : Spec) («package» text : List ℕ) (ls : List LibName) (r : List ℕ) (c : Cause) → Libraries spec «package» text ls r → LibrariesFault spec «package» text c → ⊥
part_or_fault spec «package» text ls r c (main h e f) (old part i g k) = colon text part h g
part_or_fault spec «package» text ls r c (main h e f) (broken part i g k none') = colon text part h g
part_or_fault spec «package» text ls r c (named part h e n) (old part' i g k) = old_or_new spec i h
part_or_fault spec «package» text ls r c (named part h e n) (broken part' i g k none') = none' ls r (subst (λ t. NamedLibraries «package» t ls r) (tail_same (sym e ∙ g)) n)

module _ (spec : Spec) (kind : DepKind) (line : ℕ) where
  one_entry : (text : List ℕ) (x y : Dep) → LibraryEntry spec kind line text x → LibraryEntry spec kind line text y → x ≡ y
  one_entry text x y e f =
      let p = one_libraries spec (name_of text) (behind_name text) e.libs f.libs e.range_text f.range_text e.part f.part in
      let range = one_range spec 64 f.range_text e.range f.range (subst (λ t. Stands spec 64 t e.range) p.1 e.versions) f.versions in
      e.is ∙ (λ i. record { line = line; kind = kind; «package» = name_of text; libs = p.0 i; exe = []; range = range i; internal = false }) ∙ sym f.is

  one_entry_fault : (text : List ℕ) (c d : Cause) → LibraryFault spec text c → LibraryFault spec text d → c ≡ d
  one_entry_fault text c d (LibraryFault.name h e) (LibraryFault.name i f) = e ∙ sym f
  one_entry_fault text c d (LibraryFault.name h e) (LibraryFault.part i f) = absurd (true≢false (sym i ∙ h))
  one_entry_fault text c d (LibraryFault.name h e) (LibraryFault.range ls r i l f) = absurd (true≢false (sym i ∙ h))
  one_entry_fault text c d (LibraryFault.part h e) (LibraryFault.name i f) = absurd (true≢false (sym h ∙ i))
  one_entry_fault text c d (LibraryFault.part h e) (LibraryFault.part i f) = one_part_fault spec (name_of text) (behind_name text) c d e f
  one_entry_fault text c d (LibraryFault.part h e) (LibraryFault.range ls r i l f) = absurd (part_or_fault spec (name_of text) (behind_name text) ls r c l e)
  one_entry_fault text c d (LibraryFault.range ls r i l f) (LibraryFault.name h e) = absurd (true≢false (sym i ∙ h))
  one_entry_fault text c d (LibraryFault.range ls r i l f) (LibraryFault.part h e) = absurd (part_or_fault spec (name_of text) (behind_name text) ls r d l e)
  one_entry_fault text c d (LibraryFault.range ls r h l e) (LibraryFault.range ms s i m f) =
      let p = one_libraries spec (name_of text) (behind_name text) ls ms r s l m in
      one_fault spec 64 s c d (subst (λ t. FirstFault spec 64 t c) p.1 e) f

  entry_or_fault : (text : List ℕ) (x : Dep) (c : Cause) → LibraryEntry spec kind line text x → LibraryFault spec text c → ⊥
  entry_or_fault text x c e (LibraryFault.name h f) = true≢false (sym e.name ∙ h)
  entry_or_fault text x c e (LibraryFault.part h f) = part_or_fault spec (name_of text) (behind_name text) e.libs e.range_text c e.part f
  entry_or_fault text x c e (LibraryFault.range ls r h l f) =
      let p = one_libraries spec (name_of text) (behind_name text) e.libs ls e.range_text r e.part l in
      range_or_fault spec 64 r e.range c (subst (λ t. Stands spec 64 t e.range) p.1 e.versions) f

  pub library_settled : Settled (LibraryEntry spec kind line) (LibraryFault spec)
  library_settled = record { one = one_entry; one_fault = one_entry_fault; not_both = entry_or_fault }

one_executable : (text exe exe' r s : List ℕ) → Executable text exe r → Executable text exe' s → (exe ≡ exe') × (r ≡ s)
one_executable text exe exe' r s e f =
    let same : e.part ≡ f.part = tail_same (sym e.colon ∙ f.colon) in
    (e.is ∙ ap (run is_component_byte) same ∙ sym f.is, e.rest ∙ ap (behind is_component_byte) same ∙ sym f.rest)

module _ (spec : Spec) (line : ℕ) where
  one_tool : (text : List ℕ) (x y : Dep) → ToolEntry spec line text x → ToolEntry spec line text y → x ≡ y
  one_tool text x y e f =
      let p = one_executable (behind_name text) e.exe f.exe e.range_text f.range_text e.part f.part in
      let range = one_range spec 64 f.range_text e.range f.range (subst (λ t. Stands spec 64 t e.range) p.1 e.versions) f.versions in
      e.is ∙ (λ i. record { line = line; kind = Tool; «package» = name_of text; libs = []; exe = p.0 i; range = range i; internal = false }) ∙ sym f.is

  one_tool_fault : (text : List ℕ) (c d : Cause) → ToolFault spec text c → ToolFault spec text d → c ≡ d
  one_tool_fault text c d (ToolFault.name h e) (ToolFault.name i f) = e ∙ sym f
  one_tool_fault text c d (ToolFault.name h e) (ToolFault.part i none' f) = absurd (true≢false (sym i ∙ h))
  one_tool_fault text c d (ToolFault.name h e) (ToolFault.range x r i l f) = absurd (true≢false (sym i ∙ h))
  one_tool_fault text c d (ToolFault.part i none' f) (ToolFault.name h e) = absurd (true≢false (sym i ∙ h))
  one_tool_fault text c d (ToolFault.part h none' e) (ToolFault.part i others' f) = e ∙ sym f
  one_tool_fault text c d (ToolFault.part h none' e) (ToolFault.range x r i l f) = absurd (none' x r l)
  one_tool_fault text c d (ToolFault.range x r i l f) (ToolFault.name h e) = absurd (true≢false (sym i ∙ h))
  one_tool_fault text c d (ToolFault.range x r i l f) (ToolFault.part h none' e) = absurd (none' x r l)
  one_tool_fault text c d (ToolFault.range x r h l e) (ToolFault.range x' s i m f) =
      let p = one_executable (behind_name text) x x' r s l m in
      one_fault spec 64 s c d (subst (λ t. FirstFault spec 64 t c) p.1 e) f

  tool_or_fault : (text : List ℕ) (x : Dep) (c : Cause) → ToolEntry spec line text x → ToolFault spec text c → ⊥
  tool_or_fault text x c e (ToolFault.name h f) = true≢false (sym e.name ∙ h)
  tool_or_fault text x c e (ToolFault.part h none' f) = none' e.exe e.range_text e.part
  tool_or_fault text x c e (ToolFault.range exe r h l f) =
      let p = one_executable (behind_name text) e.exe exe e.range_text r e.part l in
      range_or_fault spec 64 r e.range c (subst (λ t. Stands spec 64 t e.range) p.1 e.versions) f

  pub tool_settled : Settled (ToolEntry spec line) (ToolFault spec)
  tool_settled = record { one = one_tool; one_fault = one_tool_fault; not_both = tool_or_fault }
