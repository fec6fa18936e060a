-- Bytes have a tree or a first fault.
use Rattle.std.proofs.Common.{◌≡◌, ◌⊎◌, inl, inr, ℕ, suc, Bool, true, false, List, length, refl, sym, ◌∙◌, arith}
use Rattle.std.specs.Str.{is_utf8}
use Rattle.std.proofs.lemmas.Bool.{false≢true}
use Rattle.std.proofs.lemmas.Str.{IsUtf8-from_is_utf8, is_utf8-from_IsUtf8}
use Rattle.plan_types.specs.declared.element.Element.{Element}
use Rattle.plan_types.specs.declared.refusal.Cause.{Cause}
use Rattle.plan_types.specs.declared.refusal.Cause.TheVariants.{NotUtf8}
use Rattle.cabal_lexer.specs.Fault.{StandsFor, FirstFault, IsTree, IsFault, bad_line}
use Rattle.cabal_lexer.specs.Lines.{Line, kept_lines}
use Rattle.cabal_lexer.proofs.OneTree.{whole_cut, first_fault}
use Rattle.cabal_lexer.proofs.LineCutting.{judge, stands_cut, fails_at}

abbrev HasItems : List Line → Type 0
HasItems lines = ((items : List Element) × StandsFor lines items) ⊎ ((line : ℕ) × (cause : Cause) × FirstFault lines line cause)

some_items : (lines : List Line) → HasItems lines
some_items lines =
    elim (judge (suc (length lines)) 0 1 false lines (omega arith)) [
      | stands_cut {items = items} c ↦ inl (items, whole_cut c)
      | fails_at {at = at} {cause = cause} f ↦ inr (at.number, cause, first_fault f)
    ]

abbrev pub HasTree : List ℕ → Type 0
HasTree bytes = ((items : List Element) × IsTree bytes items) ⊎ ((line : ℕ) × (cause : Cause) × IsFault bytes line cause)

pub some_tree : (bytes : List ℕ) → HasTree bytes
some_tree bytes = by (is_utf8 bytes) refl (some_items (kept_lines bytes))
  where
    by : (t : Bool) → is_utf8 bytes ≡ t → HasItems (kept_lines bytes) → HasTree bytes
    by true q (inl found) = inl (found.0, (IsUtf8-from_is_utf8 bytes q, found.1))
    by true q (inr fault) = inr (fault.0, fault.1, inr (IsUtf8-from_is_utf8 bytes q, fault.2))
    by false q lines = inr (bad_line bytes, NotUtf8, inl ((λ u. false≢true (sym q ∙ is_utf8-from_IsUtf8 bytes u)), refl, refl))
