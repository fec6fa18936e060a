-- The table of defaults with one more flag.
use Rattle.std.proofs.Common.{◌≡◌, Bool, true, false, cond, List, [], ◌∷◌, ◌++◌, Some, None, refl, sym, ap, ◌∙◌}
use Rattle.std.specs.Prelude.{Option, find, is_some}
use Rattle.std.specs.Option.{option_map}
use Rattle.std.proofs.lemmas.Bool.{false≢true}
use Rattle.plan_types.specs.declared.description.FlagDecl.{FlagDecl}

abbrev pub default_kept_of : Option FlagDecl → Option Bool
default_kept_of = option_map (λ (decl : FlagDecl). decl.default)

none-is : (o : Option Bool) → is_some o ≡ false → o ≡ None
none-is None h = refl
none-is (Some on) h = absurd (false≢true (sym h))

some-is : (o : Option Bool) → is_some o ≡ true → (on : Bool) × (o ≡ Some on)
some-is None h = absurd (false≢true h)
some-is (Some on) h = (on, refl)

-- the first one found stays the first
found-stays : (test : FlagDecl → Bool) (flags : List FlagDecl) (decl : FlagDecl) (o : Option Bool) → default_kept_of (find test flags) ≡ o → (test decl ≡ true → (on : Bool) × (o ≡ Some on))
    → default_kept_of (find test (flags ++ decl ∷ [])) ≡ o
found-stays test [] decl o is there =
    elim (test decl) as (λ b. test decl ≡ b → default_kept_of (cond b (Some decl) None) ≡ o) [
      | true ↦ λ e. absurd (cc (is ∙ (there e).1))
      | false ↦ λ e. is
    ] refl
found-stays test (x ∷ flags) decl o is there =
    elim (test x) as (λ b. default_kept_of (cond b (Some x) (find test flags)) ≡ o → default_kept_of (cond b (Some x) (find test (flags ++ decl ∷ []))) ≡ o) [
      | true ↦ λ k. k
      | false ↦ λ k. found-stays test flags decl o k there
    ] is

-- where none was found, the new one is
found-last : (test : FlagDecl → Bool) (flags : List FlagDecl) (decl : FlagDecl) → default_kept_of (find test flags) ≡ None → test decl ≡ true → default_kept_of (find test (flags ++ decl ∷ [])) ≡ Some decl.default
found-last test [] decl none is = ap (λ b. default_kept_of (cond b (Some decl) None)) is
found-last test (x ∷ flags) decl none is =
    elim (test x) as (λ b. default_kept_of (cond b (Some x) (find test flags)) ≡ None → default_kept_of (cond b (Some x) (find test (flags ++ decl ∷ []))) ≡ Some decl.default) [
      | true ↦ λ k. absurd (cc k)
      | false ↦ λ k. found-last test flags decl k is
    ] none

-- an absent default is inserted
pub put-first : (test : FlagDecl → Bool) (flags : List FlagDecl) (decl : FlagDecl) (o : Option Bool) → o ≡ default_kept_of (find test flags) → (test decl ≡ true → is_some o ≡ false)
    → cond (test decl) (Some decl.default) o ≡ default_kept_of (find test (flags ++ decl ∷ []))
put-first test flags decl o is free =
    elim (test decl) as (λ b. test decl ≡ b → cond b (Some decl.default) o ≡ default_kept_of (find test (flags ++ decl ∷ []))) [
      | true ↦ λ e. sym (found-last test flags decl (sym is ∙ none-is o (free e)) e)
      | false ↦ λ e. sym (found-stays test flags decl o (sym is) (λ k. absurd (false≢true (sym e ∙ k))))
    ] refl

-- a present default stays
pub first-stays : (test : FlagDecl → Bool) (flags : List FlagDecl) (decl : FlagDecl) (o : Option Bool) → o ≡ default_kept_of (find test flags) → (test decl ≡ true → is_some o ≡ true)
    → o ≡ default_kept_of (find test (flags ++ decl ∷ []))
first-stays test flags decl o is there = sym (found-stays test flags decl o (sym is) (λ e. some-is o (there e)))
