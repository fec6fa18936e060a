-- What becomes of a file.
use Rattle.std.specs.Prelude.{◌≡◌, ◌⊎◌, ◌≤◌, ◌<◌, length, ℕ, Bool, true, false, ◌||◌, ◌&&◌, List, codes, Ok, Err}
use Rattle.plan_types.specs.Bytes.{joined_text, same_text}
use Rattle.plan_types.specs.declared.element.Element.{Element}
use Rattle.plan_types.specs.declared.refusal.Cause.{Cause}
use Rattle.plan_types.specs.declared.refusal.Cause.TheVariants as cause
use Rattle.cabal_lexer.specs.Canonical.{canonical}
use Rattle.cabal_lexer.specs.Fault.{IsTree}
use Rattle.cabal_lexer.specs.RoundTrip.{unnumbered}
use Rattle.cabal_lexer.specs.Tree.{Tree, end, field, section, tree_of}
use Rattle.older_layout.specs.OlderTree.{IsOlderTree, IsOlderFault}
use Rattle.older_fields.specs.Flat.{file_limit}
use Rattle.older_rules.specs.Modern.{IsModern}
use Rattle.older_rules.specs.declared.modern.Modern.{Modern}
use Rattle.older_headers.specs.declared.answer.Answer.{Answer}
use Rattle.older_headers.specs.declared.answer.Answer.TheVariants.{Unchanged, Rewritten}

-- the cabal-versions that the planner reads
abbrev pub is_read_version : List ℕ → Bool
is_read_version text = same_text text (codes "2.4") || same_text text (codes "3.0") || same_text text (codes "3.4")

abbrev pub heads_read : Tree → Bool
heads_read end = false
heads_read (field line name values behind) = same_text name (codes "cabal-version") && is_read_version (joined_text values)
heads_read (section line name args items behind) = false

-- whether the first element is a cabal-version that the planner reads
abbrev pub states_read : List Element → Bool
states_read items = heads_read (tree_of items)

-- the planner reads the file as it is: it has a tree, under a cabal-version that is read
abbrev pub IsRead : List ℕ → Type 0
IsRead bytes = (items : List Element) × IsTree bytes items × (states_read items ≡ true)

-- the planner reads the text as these elements, but for the numbers of lines
abbrev pub Says : List ℕ → List Element → Type 0
Says text items = (again : List Element) × IsTree text again × (unnumbered again ≡ unnumbered items)

-- the canonical text of what the rules made says that, and the changes are theirs
abbrev pub IsSaid : Modern → Answer → Type 0
IsSaid modern Unchanged = ⊥
IsSaid modern (Rewritten text changes) =
    (text ≡ canonical modern.items) × (length text ≤ file_limit) × Says text modern.items × (changes ≡ modern.changes)

-- the canonical text of what the rules made is too large, or doesn't say it
abbrev pub IsUnsaid : Modern → ℕ → Cause → Type 0
IsUnsaid modern line why =
    ((file_limit < length (canonical modern.items)) × (line ≡ 0) × (why ≡ cause.TooLarge))
    ⊎ ((length (canonical modern.items) ≤ file_limit) × (Says (canonical modern.items) modern.items → ⊥) × (line ≡ 1) × (why ≡ cause.BadField))

-- what the rules make of the file's elements
pub record IsMade (bytes : List ℕ) (modern : Modern) : Type 0 where
  pub older : List Element
  pub tree : IsOlderTree bytes older
  pub rules : IsModern older (Ok modern)

-- a file that is read stays as it is; of any other the text says what the rules make of it
abbrev pub IsAnswer : List ℕ → Answer → Type 0
IsAnswer bytes Unchanged = IsRead bytes
IsAnswer bytes (Rewritten text changes) = (IsRead bytes → ⊥) × (modern : Modern) × IsMade bytes modern × IsSaid modern (Rewritten text changes)

-- the rules refuse the file's elements
pub record IsRuledOut (bytes : List ℕ) (line : ℕ) (why : Cause) : Type 0 where
  pub older : List Element
  pub tree : IsOlderTree bytes older
  pub rules : IsModern older (Err (line, why))

-- the refusal of a file that isn't read: of its layout, by the rules, or since no text says what they make of it
abbrev pub IsRefusal : List ℕ → ℕ → Cause → Type 0
IsRefusal bytes line why =
    (IsRead bytes → ⊥) × (IsOlderFault bytes line why ⊎ (IsRuledOut bytes line why ⊎ ((modern : Modern) × IsMade bytes modern × IsUnsaid modern line why)))
