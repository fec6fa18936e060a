-- The text of constraints is read as a project that gives them.
use Rattle.std.proofs.Common.{◌≡◌, ℕ, ◌+◌, Bool, false, List, [], ◌∷◌, ◌++◌, Option, Some, None, refl, sym, ap, subst, inr, append-nil}
use Rattle.std.specs.Prelude.{codes, Ok}
use Rattle.std.specs.List.{AllByRecursion}
use Rattle.std.proofs.lemmas.Str.{IsUtf8-nil}
use Rattle.plan_types.specs.Bytes.{joined_text}
use Rattle.plan_types.specs.declared.condition.Env.{Env}
use Rattle.plan_types.specs.declared.constraint.Constraint.{Constraint}
use Rattle.plan_types.specs.declared.element.Element.{Element}
use Rattle.plan_types.specs.declared.element.Element.TheVariants.{Field}
use Rattle.cabal_lexer.specs.Lines.{Line, indent, trim, trim_end, trim_start, without_mark}
use Rattle.cabal_lexer.specs.Opening.{field, field_opening, is_lone, lower_case, name_len, named_opening, opening}
use Rattle.cabal_lexer.specs.Layout.{Begins, Inside, Stands, element, nothing, run, texts}
use Rattle.cabal_lexer.specs.Fault.{StandsFor}
use Rattle.cabal_lexer.specs.Tree.{end, tree_of}
use Rattle.cabal_lexer.proofs.ElementTrees.{field_in_front}
use Rattle.cabal_lexer.proofs.CanonicalLines.{line_of}
use Rattle.constraint_text.specs.Constraints.{Constraints}
use Rattle.project_file.specs.Fields.{FieldSays}
use Rattle.project_file.specs.Parts.{Says, placed}
use Rattle.project_file.specs.Words.{field_word}
use Rattle.project_file.specs.Project.{Placed, given, nothing as nothing_given, placed_all, project_from}
use Rattle.project_file.specs.Read.{AllRead}
use Rattle.project_file.specs.Texts.{Reads, bad_cause, fault_or, first_fault, unless_bad}
use Rattle.freeze_text.specs.Reads.{IsPlainConstraint, IsReadAs, project_with}
use Rattle.freeze_text.specs.Text.{freeze_text}
use Rattle.freeze_text.proofs.Cut.{values, values-read}
use Rattle.freeze_text.proofs.Lines.{header, text-lines, text-utf8, value_lines}

inside : (values : List (List ℕ)) (k : ℕ) → Inside 1 false (value_lines k values)
inside [] k = refl
inside (value ∷ values) k = inside values (k + 1)

texts-are : (values : List (List ℕ)) (k : ℕ) → texts (value_lines k values) ≡ values
texts-are [] k = refl
texts-are (value ∷ values) k = ap (λ l. value ∷ l) (texts-are values (k + 1))

begins : (k : ℕ) → Begins 1 (line_of k 0 header) (field (codes "constraints") [])
unfolding opening name_len lower_case named_opening field_opening is_lone trim trim_end trim_start indent
begins k = refl

abbrev pub items_of : ℕ → List (List ℕ) → List Element
items_of k values = Field k (codes "constraints") values ∷ []

pub stands : (k : ℕ) (values : List (List ℕ)) → StandsFor (line_of k 0 header ∷ value_lines (k + 1) values) (items_of k values)
stands k values =
    let block = value_lines (k + 1) values in
    let first = element {items = []} (line_of k 0 header) block [] refl (run (begins k) (inside values (k + 1)) tt) nothing in
    subst (λ (l : List Line). Stands 0 1 false (line_of k 0 header ∷ l) (items_of k values)) (append-nil block)
    (subst (λ v. Stands 0 1 false (line_of k 0 header ∷ block ++ []) (items_of k v)) (texts-are values (k + 1)) first)

-- ---- what is said

-- the type of parts
abbrev item_of : {A B : Type 0} → (List A → B) → Type 0
item_of {A = A} f = A

abbrev pub Part : Type 0
Part = item_of first_fault

-- a part gives constraints and nothing else
abbrev pub GivesAlone : Placed → List Constraint → Type 0
GivesAlone part constraints = given part ≡ record nothing_given { constraints = constraints }

-- one part, which gives constraints
pub record IsOne (constraints : List Constraint) (parts : List Placed) : Type 0 where
  pub part : Placed
  pub alone : parts ≡ part ∷ []
  pub gives : GivesAlone part constraints

-- something that has this
abbrev Some-such : {A : Type 0} → (A → Type 0) → Type 0
Some-such {A = A} P = (x : A) × P x

-- a text that stands for constraints says them as a field of this name, and nothing else
field-says : (k : ℕ) (text : List ℕ) (constraints : List Constraint) → Constraints text constraints
    → Some-such (λ said. FieldSays (field_word (codes "constraints")) (codes "constraints") text (Some said) × (bad_cause said ≡ None)
    × ((path : List ℕ) → IsOne constraints (placed_all path (placed k (Some said)))) × ((path : List ℕ) → project_with constraints ≡ project_from (placed_all path (placed k (Some said)))))
field-says k text constraints h =
    (_, ((_, (Ok constraints, h, refl), refl), refl, (λ path. record { part = _; alone = refl; gives = refl }), λ path. ap project_with (sym (append-nil constraints))))

-- the parts of a field at a line, whatever branch stands in front
pub record IsSaid (env : Env) (k : ℕ) (constraints : List Constraint) : Type 0 where
  pub parts : List Part
  pub says : (chain : Option Bool) → Says env (tree_of (items_of k (values constraints))) chain parts
  pub faultless : first_fault parts ≡ None
  pub one : (path : List ℕ) → IsOne constraints (placed_all path parts)
  pub project : (path : List ℕ) → project_with constraints ≡ project_from (placed_all path parts)

pub said : (env : Env) (k : ℕ) (constraints : List Constraint) → AllByRecursion IsPlainConstraint constraints → IsSaid env k constraints
unfolding Says
said env k constraints are =
    let found = field-says k (joined_text (values constraints)) constraints (values-read constraints are) in
    let parts = placed k (Some found.0) in
    record {
      parts = parts;
      says = λ chain. subst (λ t. Says env t chain parts) (sym (field_in_front k (codes "constraints") (values constraints) end)) (Some found.0, [], found.1.0, refl, refl);
      faultless = ap (λ o. fault_or o k None) found.1.1;
      one = found.1.2;
      project = found.1.3;
    }

-- ---- what is read

pub nothing-read : (env : Env) → Reads env [] (Ok [])
unfolding without_mark Says
nothing-read env = inr (record { items = []; parts = []; tree = (IsUtf8-nil, nothing); says = refl; comes = refl })

pub text-read : (env : Env) (c : Constraint) (constraints : List Constraint) (are : AllByRecursion IsPlainConstraint (c ∷ constraints))
    → Reads env (freeze_text (c ∷ constraints)) (Ok (said env 1 (c ∷ constraints) are).parts)
text-read env c constraints are =
    let all = c ∷ constraints in
    let is = said env 1 all are in
    inr (record {
      items = items_of 1 (values all);
      parts = is.parts;
      tree = (text-utf8 c constraints are, subst (λ l. StandsFor l (items_of 1 (values all))) (sym (text-lines c constraints are)) (stands 1 (values all)));
      says = is.says None;
      comes = ap (λ o. unless_bad o is.parts) (sym is.faultless);
    })

Reading : Env → List Constraint → Type 0
Reading env constraints = Some-such (λ parts. Reads env (freeze_text constraints) (Ok parts) × ((path : List ℕ) → project_with constraints ≡ project_from (placed_all path parts)))

reading : (env : Env) (constraints : List Constraint) → AllByRecursion IsPlainConstraint constraints → Reading env constraints
unfolding Reading
reading env [] are = ([], (nothing-read env, λ path. refl))
reading env (c ∷ constraints) are =
    let is = said env 1 (c ∷ constraints) are in
    (is.parts, (text-read env c constraints are, is.project))

pub read-back : (constraints : List Constraint) → AllByRecursion IsPlainConstraint constraints → IsReadAs (freeze_text constraints) constraints
unfolding AllRead Reading
read-back constraints are env path =
    let found = reading env constraints are in (
      Ok (placed_all path found.0),
      (Ok found.0, (Ok found.0, found.1.0, refl), (Ok [], refl, ap Ok (sym (append-nil (placed_all path found.0))))),
      ap Ok (found.1.1 path),
    )
