-- The text of a constraint is an entry that stands for it.
use Rattle.std.proofs.Common.{◌≡◌, ℕ, ◌+◌, Bool, true, false, cond, List, ◌∷◌, ◌++◌, take, drop, Some, refl, sym, ap, ◌∙◌, subst, append_assoc, arith}
use Rattle.std.specs.Prelude.{codes}
use Rattle.std.specs.List.{list_all, prefix_len}
use Rattle.std.proofs.Math.Seq.{take-append_seam, drop-append_seam}
use Rattle.std.proofs.lemmas.Bool.Decides.{nat_tests}
use Rattle.plan_types.specs.Bytes.{begins_with, is_blank, Blanks}
use Rattle.plan_types.specs.declared.constraint.Constraint.{Constraint}
use Rattle.plan_types.specs.declared.constraint.Scope.{Scope}
use Rattle.plan_types.specs.declared.constraint.Scope.TheVariants as scopes
use Rattle.plan_types.specs.Name.{is_letter_or_digit, is_package_name}
use Rattle.entry_text.specs.Words.{run, behind, is_name_byte, name_of, behind_name}
use Rattle.constraint_text.specs.Constraints.{Target, top, word, setup_of, scope_of, ConstraintEntry}
use Rattle.cabal_lexer.proofs.TextPieces.{prefix-past}
use Rattle.freeze_text.specs.Reads.{IsPlainConstraint, is_plain_scope}
use Rattle.freeze_text.specs.Text.{constraint_text, scope_text, what_text}
use Rattle.freeze_text.proofs.Plain.{Begins, name-begins, name-bytes}
use Rattle.freeze_text.proofs.Behind.{what-asks, what-head}

-- a run ends where the next byte fails
run-past : (of : ℕ → Bool) (xs ys : List ℕ) → list_all of xs ≡ true → prefix_len of ys ≡ 0 → run of (xs ++ ys) ≡ xs
run-past of xs ys h e = ap (λ n. take n (xs ++ ys)) (prefix-past of xs ys h e) ∙ take-append_seam xs ys

behind-past : (of : ℕ → Bool) (xs ys : List ℕ) → list_all of xs ≡ true → prefix_len of ys ≡ 0 → behind of (xs ++ ys) ≡ ys
behind-past of xs ys h e = ap (λ n. drop n (xs ++ ys)) (prefix-past of xs ys h e) ∙ drop-append_seam xs ys

letter-solid : (b : ℕ) → is_letter_or_digit b ≡ true → is_blank b ≡ false
letter-solid b h = grind (arith, nat_tests)

-- nothing blank stands in front of a name
begins-solid : (text rest : List ℕ) → Begins text → prefix_len is_blank (text ++ rest) ≡ 0
begins-solid text rest h =
    ap (λ t. prefix_len is_blank (t ++ rest)) h.whole ∙ ap (λ t. cond t (1 + prefix_len is_blank (h.others ++ rest)) 0) (letter-solid h.first h.plain)

module _ (lead : List ℕ) (blanks : Blanks lead) where
  -- the blanks in front are passed over
  over : (text : List ℕ) → prefix_len is_blank text ≡ 0 → behind is_blank (lead ++ text) ≡ text
  over text h = behind-past is_blank lead text blanks h

  name-is : (name rest : List ℕ) → Begins name → list_all is_name_byte name ≡ true → prefix_len is_name_byte rest ≡ 0 → name_of (lead ++ (name ++ rest)) ≡ name
  name-is name rest h bytes end = ap (run is_name_byte) (over (name ++ rest) (begins-solid name rest h)) ∙ run-past is_name_byte name rest bytes end

  behind-is : (name rest : List ℕ) → Begins name → list_all is_name_byte name ≡ true → prefix_len is_name_byte rest ≡ 0 → behind_name (lead ++ (name ++ rest)) ≡ rest
  behind-is name rest h bytes end = ap (behind is_name_byte) (over (name ++ rest) (begins-solid name rest h)) ∙ behind-past is_name_byte name rest bytes end

  any-word : Begins (codes "any")
  any-word = record { first = 97; others = codes "ny"; whole = refl; plain = refl }

  setup-word : Begins (codes "setup")
  setup-word = record { first = 115; others = codes "etup"; whole = refl; plain = refl }

  module _ (name rest more : List ℕ) (form : is_package_name name ≡ true) (space : rest ≡ 32 ∷ more) where
    ends : prefix_len is_name_byte rest ≡ 0
    ends = ap (prefix_len is_name_byte) space

    no-mark : (byte : ℕ) → begins_with byte (32 ∷ more) ≡ false → begins_with byte (behind_name (lead ++ (name ++ rest))) ≡ false
    no-mark byte h = ap (begins_with byte) (behind-is name rest (name-begins name form) (name-bytes name form) ends ∙ space) ∙ h

    -- a word that is a scope
    worded : (scope : Scope) (text : List ℕ) → Begins text → list_all is_name_byte text ≡ true → scope_of text ≡ Some scope → Target (lead ++ (text ++ (46 ∷ (name ++ rest)))) scope name rest
    worded scope text h bytes is =
        word (name ++ rest) (behind-is text (46 ∷ (name ++ rest)) h bytes refl) (ap scope_of (name-is text (46 ∷ (name ++ rest)) h bytes refl) ∙ is)
        (sym (run-past is_name_byte name rest (name-bytes name form) ends)) (sym (behind-past is_name_byte name rest (name-bytes name form) ends))

    target : (scope : Scope) → is_plain_scope scope ≡ true → Target (lead ++ (scope_text scope ++ (name ++ rest))) scope name rest
    target scopes.Top h =
        top (no-mark 46 refl) (no-mark 58 refl) refl (sym (name-is name rest (name-begins name form) (name-bytes name form) ends)) (sym (behind-is name rest (name-begins name form) (name-bytes name form) ends))
    target scopes.Any h = worded scopes.Any (codes "any") any-word refl refl
    target scopes.Setup h = worded scopes.Setup (codes "setup") setup-word refl refl
    target (scopes.SetupOf owner) h =
        let after = codes ":setup." ++ (name ++ rest) in
        let named = name-is owner after (name-begins owner h) (name-bytes owner h) refl in
        subst (λ t. Target (lead ++ t) (scopes.SetupOf owner) name rest) (sym (append_assoc owner (codes ":setup.") (name ++ rest)))
        (setup_of (name ++ rest) (behind-is owner after (name-begins owner h) (name-bytes owner h) refl) (ap is_package_name named ∙ h) (ap scopes.SetupOf (sym named))
        (sym (run-past is_name_byte name rest (name-bytes name form) ends)) (sym (behind-past is_name_byte name rest (name-bytes name form) ends)))

  -- blanks, and then the text of a constraint
  pub entry-read : (c : Constraint) → IsPlainConstraint c → ConstraintEntry (lead ++ constraint_text c) c
  entry-read c is =
      let head = what-head c.what is.what in
      record { rest = what_text c.what; target = target c.«package» (what_text c.what) head.0 is.name head.1 c.scope is.scope; form = is.name; asks = what-asks c.what is.what }
