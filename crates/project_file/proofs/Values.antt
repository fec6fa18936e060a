-- Values that are words.
use Rattle.std.proofs.Common.{◌≡◌, ℕ, suc, ◌+◌, ◌<◌, List, [], ◌∷◌, ◌++◌, length, drop, get_or, refl, sym, ap, ◌∙◌, append_assoc, add-one}
use Rattle.std.proofs.Math.Seq.{drop-cons}
use Rattle.std.specs.Prelude.{Option, None, Some}
use Rattle.plan_types.specs.declared.condition.FlagSet.{FlagSet}
use Rattle.project_file.specs.Flags.{flag_of, flag_sets, with_flag}

-- these flags before others
abbrev pub after_flags : List FlagSet → Option (List FlagSet) → Option (List FlagSet)
after_flags flags None = None
after_flags flags (Some more) = Some (flags ++ more)

after_with : (flags : List FlagSet) (flag : FlagSet) (more : Option (List FlagSet)) → after_flags flags (with_flag (Some flag) more) ≡ after_flags (flags ++ flag ∷ []) more
after_with flags flag None = refl
after_with flags flag (Some more) = ap Some (sym (append_assoc flags (flag ∷ []) more))

-- one more word
pub flag_more : (words : List (List ℕ)) (n : ℕ) (word : List ℕ) (flags : List FlagSet) (flag : FlagSet) → n < length words → get_or words n word ≡ word → flag_of word ≡ Some flag →
    flag_sets words ≡ after_flags flags (flag_sets (drop n words)) → flag_sets words ≡ after_flags (flags ++ flag ∷ []) (flag_sets (drop (n + 1) words))
flag_more words n word flags flag lt is sets before =
    before ∙ ap (λ l. after_flags flags (flag_sets l)) (drop-cons words n word lt ∙ ap (λ v. v ∷ drop (suc n) words) is ∙ ap (λ m. word ∷ drop m words) (sym (add-one n)))
    ∙ ap (λ f. after_flags flags (with_flag f (flag_sets (drop (n + 1) words)))) sets ∙ after_with flags flag (flag_sets (drop (n + 1) words))
