-- A file without faults.
use Rattle.std.proofs.Common.{◌≡◌, Bool, true, false, not, ◌&&◌, if◌then◌else◌, List, [], ◌∷◌, ◌++◌, flat_map, map, Option, Some, None, refl, sym, ◌∙◌}
use Rattle.std.specs.List.{AllByRecursion}
use Rattle.std.proofs.lemmas.Bool.{not-true}
use Rattle.plan_types.specs.declared.refusal.Cause.{Cause}
use Rattle.plan_types.specs.declared.refusal.Cause.TheVariants as causes
use Rattle.section_syntax.specs.declared.part.File.{File}
use Rattle.section_syntax.specs.declared.part.Section.{Section}
use Rattle.package_declarations.specs.Declarations.{is_library, is_own, own_name}
use Rattle.description.specs.Faults.{unless, at, in_head, of_name, has_good_name, of_said, in_part, in_section, repeated, unknown_stanzas, bad_visibility_at, faults}
use Rattle.description.proofs.RepeatedNames.{repeated-is, repeated_from}
use Rattle.description.specs.FaultOrder.{first, earlier, is_before}
use Rattle.stanza_imports.specs.Imports.{with_imports_replaced}
use Rattle.description.specs.declared.faults.Class.TheVariants.{Component, Common, Flag, Setup}
use Rattle.description.specs.declared.fault_order.At.{At}
use Rattle.common_laws.specs.Passing.{none-front, none-back, each-none, each-less}
use Rattle.common_laws.specs.Lists.{map-nil}
use Rattle.stanza_imports.specs.Parts.{bad_visibilities}

some_first : (a : At) (o : Option At) → earlier (Some a) o ≡ None → ⊥
some_first a None e = cc e
some_first a (Some b) e = by (is_before b a) e
  where
    by : (t : Bool) → (if t then Some b else Some a) ≡ None → ⊥
    by true e = cc e
    by false e = cc e

pub first-none : (all : List At) → first all ≡ None → all ≡ []
first-none [] e = refl
first-none (a ∷ all) e = absurd (some_first a (first all) e)

pub unless-none : (b : Bool) (cause : Cause) → unless b cause ≡ [] → b ≡ true
unless-none true cause e = refl
unless-none false cause e = absurd (cc e)

-- a section without faults
pub record IsFaultless (file : File) (section : Section) : Type 0 where
  pub name : has_good_name section.kind section.name ≡ true
  pub apart : (is_library section.kind && is_own (own_name file.heads) section.name) ≡ false
  pub parts : AllByRecursion (λ part. of_said file part.said ≡ []) section.parts

pub record Faultless (file : File) : Type 0 where
  pub sections : AllByRecursion (IsFaultless file) file.sections
  pub components : repeated_from Component [] file.sections ≡ []
  pub flags : repeated_from Flag [] file.sections ≡ []

one_section : (file : File) (section : Section) → in_section file section ≡ [] → IsFaultless file section
one_section file section e =
    let named = at section.line (of_name (own_name file.heads) section) in
    let said = flat_map (in_part file) section.parts in
    let name = map-nil (λ cause. record { line = section.line; cause = cause }) (of_name (own_name file.heads) section) (none-front named said e) in
    let good = unless (has_good_name section.kind section.name) causes.BadName in
    let apart = unless (not (is_library section.kind && is_own (own_name file.heads) section.name)) causes.DuplicateName in
    record {
      name = unless-none (has_good_name section.kind section.name) causes.BadName (none-front good apart name);
      apart = not-true (is_library section.kind && is_own (own_name file.heads) section.name) (unless-none (not (is_library section.kind && is_own (own_name file.heads) section.name)) causes.DuplicateName (none-back good apart name));
      parts = each-less (λ part. in_part file part ≡ []) (λ part. of_said file part.said ≡ [])
          (λ part none. map-nil (λ cause. record { line = part.line; cause = cause }) (of_said file part.said) none)
          section.parts (each-none (in_part file) section.parts (none-back named said e));
    }

pub faultless : (file : File) → faults file ≡ [] → Faultless file
faultless file e =
    let named = flat_map in_head file.heads in
    let within = named ++ flat_map (in_section file) file.sections in
    let components = within ++ repeated Component file.sections in
    let commons = components ++ repeated Common file.sections in
    let flags = commons ++ repeated Flag file.sections in
    let setups = flags ++ repeated Setup file.sections in
    let alone = none-front (setups ++ unknown_stanzas file.sections) (map bad_visibility_at (flat_map bad_visibilities (with_imports_replaced file.sections))) e in
    let to_flags = none-front flags (repeated Setup file.sections) (none-front setups (unknown_stanzas file.sections) alone) in
    let to_components = none-front components (repeated Common file.sections) (none-front commons (repeated Flag file.sections) to_flags) in
    let to_sections = none-front within (repeated Component file.sections) to_components in
    record {
      sections = each-less (λ section. in_section file section ≡ []) (IsFaultless file) (one_section file) file.sections
          (each-none (in_section file) file.sections (none-back named (flat_map (in_section file) file.sections) to_sections));
      components = sym (repeated-is Component file.sections) ∙ none-back within (repeated Component file.sections) to_components;
      flags = sym (repeated-is Flag file.sections) ∙ none-back commons (repeated Flag file.sections) to_flags;
    }
