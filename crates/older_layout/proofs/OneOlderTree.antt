-- A file has at most one tree, at most one first fault, and never both.
use Rattle.std.proofs.Common.{◌≡◌, ℕ, Bool, true, false, List, refl, sym, ap, subst}
use Rattle.std.specs.Result.{IfOk, IfErr, MatchResult}
use Rattle.std.specs.declared.result.Result.{Result}
use Rattle.std.specs.declared.result.Result.TheVariants.{Ok, Err}
use Rattle.std.specs.Prelude.{if◌then◌else◌}
use Rattle.std.specs.Str.{IsUtf8, is_utf8, chars}
use Rattle.std.proofs.lemmas.Str.{is_utf8-from_IsUtf8, IsUtf8-from_is_utf8}
use Rattle.plan_types.specs.declared.element.Element.{Element}
use Rattle.plan_types.specs.declared.refusal.Cause.{Cause}
use Rattle.plan_types.specs.declared.refusal.Fault.{Fault}
use Rattle.plan_types.specs.declared.refusal.Fault.TheVariants as faults
use Rattle.plan_types.specs.Refusal.{RefusesAt}
use Rattle.cabal_lexer.specs.Fault.{StandsFor, FirstFault}
use Rattle.cabal_lexer.specs.Lines.{kept_lines}
use Rattle.cabal_lexer.specs.Printable.{Printable}
use Rattle.cabal_lexer.specs.RoundTrip.{without_returns}
use Rattle.cabal_lexer.proofs.OneTree as lines
use Rattle.cabal_lexer.proofs.Again.{printable-items}
use Rattle.cabal_lexer.proofs.RoundTrip.{kept_lines-texts}
use Rattle.older_layout.specs.States.{start}
use Rattle.older_layout.proofs.KeptPieces.{relaid-kept}
use Rattle.older_layout.specs.OlderTree.{characters, decoded, older_lines, IsOlderTree, IsOlderFault}

pub one_tree : (bytes : List ℕ) (a b : List Element) → IsOlderTree bytes a → IsOlderTree bytes b → a ≡ b
one_tree bytes a b s t = lines.one_items (older_lines (decoded bytes)) s t

pub one_fault : (bytes : List ℕ) (n m : ℕ) (c d : Cause) → IsOlderFault bytes n c → IsOlderFault bytes m d → (n ≡ m) × (c ≡ d)
one_fault bytes n m c d f g = lines.one_fault f g

pub tree_or_fault : (bytes : List ℕ) (items : List Element) (line : ℕ) (cause : Cause) → IsOlderTree bytes items → IsOlderFault bytes line cause → ⊥
tree_or_fault bytes items line cause s f = lines.never_both s f

-- ---- for a result

pub tree_found : (bytes : List ℕ) (r : Result (List Element) Fault) → IfOk r (λ items. IsOlderTree bytes items) → IfErr r (RefusesAt (IsOlderFault bytes)) →
    (items : List Element) → IsOlderTree bytes items → MatchResult r (λ found. found ≡ items) (RefusesAt (λ _ _. ⊥))
tree_found bytes (Ok found) tree fault items s = one_tree bytes found items tree s
tree_found bytes (Err faults.NoMemory) tree fault items s = tt
tree_found bytes (Err (faults.At line cause)) tree fault items s = tree_or_fault bytes items line cause s fault

pub fault_found : (bytes : List ℕ) (r : Result (List Element) Fault) → IfOk r (λ items. IsOlderTree bytes items) → IfErr r (RefusesAt (IsOlderFault bytes)) →
    (line : ℕ) (cause : Cause) → IsOlderFault bytes line cause → MatchResult r (λ _. ⊥) (RefusesAt (λ at why. (at ≡ line) × (why ≡ cause)))
fault_found bytes (Ok found) tree fault line cause f = tree_or_fault bytes found line cause tree f
fault_found bytes (Err faults.NoMemory) tree fault line cause f = tt
fault_found bytes (Err (faults.At at why)) tree fault line cause f = one_fault bytes at line why cause fault f

-- ---- the text of a file

pub characters-utf8 : (bytes : List ℕ) → IsUtf8 bytes → chars bytes ≡ characters bytes
unfolding characters
characters-utf8 bytes u = sym (ap (λ b. if b then chars bytes else bytes) (is_utf8-from_IsUtf8 bytes u))

not-utf8 : (bytes : List ℕ) (b : Bool) → is_utf8 bytes ≡ b → (IsUtf8 bytes → ⊥) → bytes ≡ (if b then chars bytes else bytes)
not-utf8 bytes true e other = absurd (other (IsUtf8-from_is_utf8 bytes e))
not-utf8 bytes false e other = refl

pub characters-latin1 : (bytes : List ℕ) → (IsUtf8 bytes → ⊥) → bytes ≡ characters bytes
unfolding characters
characters-latin1 bytes other = not-utf8 bytes (is_utf8 bytes) refl other

module _ (bytes text : List ℕ) (same : text ≡ decoded bytes) (r : Result (List Element) Fault) where
  pub tree-from : IfOk r (λ items. StandsFor (older_lines text) items) → IfOk r (λ items. IsOlderTree bytes items)
  tree-from h = subst (λ v. IfOk r (λ items. StandsFor (older_lines v) items)) same h

  pub fault-from : IfErr r (RefusesAt (FirstFault (older_lines text))) → IfErr r (RefusesAt (IsOlderFault bytes))
  fault-from h = subst (λ v. IfErr r (RefusesAt (FirstFault (older_lines v)))) same h

-- ---- printable trees

pub printable-tree : (text : List ℕ) (r : Result (List Element) Fault) → IsUtf8 text → IfOk r (λ items. StandsFor (older_lines text) items) →
    IfOk r (λ items. without_returns items ≡ true → Printable 1 items)
printable-tree text (Ok items) u t = λ returns. printable-items t (relaid-kept start (kept_lines text) (kept_lines-texts text u)) returns
printable-tree text (Err fault) u t = tt
