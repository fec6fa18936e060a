-- The flags that a package declares.
use Rattle.std.specs.Prelude.{Bool, true, false, if◌then◌else◌, List, [], ◌∷◌, flat_map, Option, unwrap_or}
use Rattle.std.specs.Cmp.Lexicographic.{slice_cmp}
use Rattle.std.specs.List.Sorted.{IsPermutation, IsSortedBy, IsStableBy}
use Rattle.std.specs.Ordering.{nat_cmp, is_lt}
use Rattle.plan_types.specs.declared.description.FlagDecl.{FlagDecl}
use Rattle.section_syntax.specs.declared.part.Said.{Said}
use Rattle.section_syntax.specs.declared.part.Section.{Section}
use Rattle.package_declarations.specs.Declarations.{is_flag}
use Rattle.package_declarations.specs.Given.{given}
use Rattle.text_grammar.specs.Last.{last_given}

-- the default that a part gives to a flag
abbrev pub default_said : Said → Option Bool
default_said said = (given said).default

-- whether a part makes a flag manual
abbrev pub manual_said : Said → Option Bool
manual_said said = (given said).manual

-- the flag of a section; the last value of a field counts
abbrev pub flag_of : Section → FlagDecl
flag_of section = record {
  line = section.line;
  name = section.name;
  default = unwrap_or (last_given (λ part. default_said part.said) section.parts) true;
  manual = unwrap_or (last_given (λ part. manual_said part.said) section.parts) false;
}

-- the flags in file order
abbrev pub declared_flags : List Section → List FlagDecl
declared_flags sections = flat_map (λ section. if is_flag section.kind then flag_of section ∷ [] else []) sections

-- flags are ordered by name
abbrev pub name_before : FlagDecl → FlagDecl → Bool
name_before one other = is_lt (slice_cmp nat_cmp one.name other.name)

-- the declared flags sorted by name; flags of one name, which are a fault, stay in file order
pub record AreFlags (sections : List Section) (flags : List FlagDecl) : Type 0 where
  pub all : IsPermutation (declared_flags sections) flags
  pub sorted : IsSortedBy name_before flags
  pub stable : IsStableBy name_before (declared_flags sections) flags
