-- The definitions on small texts.
use Rattle.std.specs.Prelude.{◌≡◌, [], ◌∷◌, true, refl, codes}
use Rattle.entry_text.specs.Entries.{commas_inside, left_open, Pieces, last, joined, entries}
use Rattle.entry_text.specs.Words.{name_of, behind_name, words}

a_comma_inside : commas_inside 0 (codes "a:{b,c}") ≡ true
a_comma_inside = refl

a_brace_open : left_open 0 (codes "}a:{b,") ≡ 1
a_brace_open = refl

two_pieces : Pieces (codes "a:{b,c}, d") (codes "a:{b,c}" ∷ codes " d" ∷ [])
two_pieces = joined {piece = codes "a:{b,c}"} {text = codes " d"} refl refl (last refl)

one_comma_leads_and_one_trails : entries (codes " " ∷ codes "a" ∷ [] ∷ []) ≡ codes "a" ∷ []
one_comma_leads_and_one_trails = refl

commas_alone : entries ([] ∷ [] ∷ [] ∷ []) ≡ []
commas_alone = refl

an_empty_entry : entries (codes "a" ∷ [] ∷ codes "b" ∷ []) ≡ codes "a" ∷ [] ∷ codes "b" ∷ []
an_empty_entry = refl

a_name : name_of (codes " foo-1_x") ≡ codes "foo-1"
a_name = refl

behind_the_name : behind_name (codes " foo-1_x") ≡ codes "_x"
behind_the_name = refl

two_words : words (codes " +f  -any") ≡ codes "+f" ∷ codes "-any" ∷ []
two_words = refl
