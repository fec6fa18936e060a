-- The definitions on small texts and files.
use Rattle.std.specs.Prelude.{◌≡◌, [], ◌∷◌, true, false, refl, codes, Some, None}
use Rattle.plan_types.specs.declared.element.Element.TheVariants.{Section}
use Rattle.cabal_lexer.specs.Lines.{trim, trim_start, trim_end, indent}
use Rattle.cabal_lexer.specs.Tree.{end, field, section}
use Rattle.older_fields.specs.declared.edition.Edition.TheVariants.{V1_10, V2_0, V2_2, V2_4}
use Rattle.older_rules.specs.declared.body.Place.TheVariants.{Opens, Closes, Dropped}
use Rattle.older_rules.specs.declared.change.Change.TheVariants as change
use Rattle.older_rules.specs.Bodies.{place_of, kept, told}
use Rattle.older_rules.specs.Tools.{depended, tool_texts}

known_tool : depended [] (codes "happy >=1.19") ≡ Some (codes "happy:happy >=1.19")
known_tool = refl

own_tool : depended ((codes "alex", codes "foo:alex") ∷ []) (codes "alex") ≡ Some (codes "foo:alex")
own_tool = refl

unknown_tool : depended [] (codes "gcc") ≡ None
unknown_tool = refl

tools : tool_texts [] (codes "alex, gcc,happy") ≡ codes "alex:alex" ∷ codes "happy:happy" ∷ []
unfolding trim trim_start trim_end indent
tools = refl

-- `elif` is read from 2.2 on
elif_before : place_of V2_0 true (codes "elif") ≡ Dropped
elif_before = refl

elif_later : place_of V2_2 true (codes "elif") ≡ Opens
elif_later = refl

stray_else : place_of V2_0 false (codes "else") ≡ Dropped
stray_else = refl

-- 2.4 stays as it is
left_alone : place_of V2_4 false (codes "else") ≡ Closes
left_alone = refl

-- an `else` after an `elif` that Cabal passes over is passed over too
no_else : kept V1_10 [] false (section 1 (codes "if") (codes "a") end (section 2 (codes "elif") (codes "b") end (section 3 (codes "else") [] end end)))
    ≡ Section 1 (codes "if") (codes "a") [] ∷ []
unfolding kept
no_else = refl

-- an import between an `if` and its `else` doesn't part them
import_between : kept V1_10 [] false (section 1 (codes "if") (codes "a") end (field 2 (codes "import") (codes "x" ∷ []) (section 3 (codes "else") [] end end)))
    ≡ Section 1 (codes "if") (codes "a") [] ∷ Section 3 (codes "else") [] [] ∷ []
unfolding kept
import_between = refl

told_between : told V1_10 [] false (section 1 (codes "if") (codes "a") end (field 2 (codes "import") (codes "x" ∷ []) end)) ≡ change.Dropped 2 ∷ []
unfolding told
told_between = refl
