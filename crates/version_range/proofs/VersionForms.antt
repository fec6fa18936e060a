-- Shared: the versions in the range of a text are well-formed.
use Rattle.std.proofs.Common.{◌≡◌, ℕ, zero, suc, Bool, true, ◌&&◌, List, codes, sym, ap, ◌∙◌}
use Rattle.std.proofs.lemmas.Bool.{and_from}
use Rattle.plan_types.specs.declared.version.Version.{Version}
use Rattle.plan_types.specs.declared.range.Spec.{Spec}
use Rattle.plan_types.specs.declared.range.Range.{Range}
use Rattle.plan_types.specs.declared.range.Range.TheOpen as layer
use Rattle.plan_types.specs.declared.range.Range.TheFolds.{fold-roll-Range}
use Rattle.plan_types.specs.declared.range.Range.TheVariants as ranges
use Rattle.version_range.specs.declared.operator.Operator.{Operator}
use Rattle.version_range.specs.declared.operator.Operator.TheVariants.{Equal, AtLeast, Above, AtMost, Below, Major}
use Rattle.version_range.specs.Version.{is_version, has_versions, versions_step}
use Rattle.version_range.specs.Grammar.{of_version, Compared, compared, Members, Atom, any, none, version, prefix, set, Factor, atom, enclosed, Term, Terms, Inside, Stands, empty, range}
use Rattle.text_grammar.specs.Parts.{Led, led, Behind, behind, Chain, one, more}

abbrev Valid : (List ℕ → Range → Type 0) → Type 0
Valid L = (text : List ℕ) (r : Range) → L text r → has_versions r ≡ true

pub of_valid : (op : Operator) (v : Version) → has_versions (of_version op v) ≡ is_version v.parts
of_valid Equal v = ap has_versions (sym (ranges.rolls-Equal v)) ∙ fold-roll-Range Bool versions_step (layer.Equal v)
of_valid AtLeast v = ap has_versions (sym (ranges.rolls-AtLeast v)) ∙ fold-roll-Range Bool versions_step (layer.AtLeast v)
of_valid Above v = ap has_versions (sym (ranges.rolls-Above v)) ∙ fold-roll-Range Bool versions_step (layer.Above v)
of_valid AtMost v = ap has_versions (sym (ranges.rolls-AtMost v)) ∙ fold-roll-Range Bool versions_step (layer.AtMost v)
of_valid Below v = ap has_versions (sym (ranges.rolls-Below v)) ∙ fold-roll-Range Bool versions_step (layer.Below v)
of_valid Major v = ap has_versions (sym (ranges.rolls-Major v)) ∙ fold-roll-Range Bool versions_step (layer.Major v)

pub prefix_valid : (v : Version) → has_versions (ranges.Prefix v) ≡ is_version v.parts
prefix_valid v = ap has_versions (sym (ranges.rolls-Prefix v)) ∙ fold-roll-Range Bool versions_step (layer.Prefix v)

any_valid : has_versions ranges.Any ≡ true
any_valid = ap has_versions (sym ranges.rolls-Any) ∙ fold-roll-Range Bool versions_step layer.Any

none_valid : has_versions ranges.Nothing ≡ true
none_valid = ap has_versions (sym ranges.rolls-Nothing) ∙ fold-roll-Range Bool versions_step layer.Nothing

abbrev Joins : (Range → Range → Range) → Type 0
Joins join = (l r : Range) → has_versions (join l r) ≡ (has_versions l && has_versions r)

both_joins : Joins ranges.Both
both_joins l r = ap has_versions (sym (ranges.rolls-Both l r)) ∙ fold-roll-Range Bool versions_step (layer.Both l r)

either_joins : Joins ranges.Either
either_joins l r = ap has_versions (sym (ranges.rolls-Either l r)) ∙ fold-roll-Range Bool versions_step (layer.Either l r)

module _ (L : List ℕ → Range → Type 0) (valid : Valid L) where
  led_valid : Valid (Led L)
  led_valid text r (led blanks {text = part} are is) = valid part r is

  behind_valid : (mark : List ℕ) → Valid (Behind mark L)
  behind_valid mark text r (behind blanks {text = part} are is) = valid part r is

chain_valid : (join : Range → Range → Range) → Joins join → (First Next : List ℕ → Range → Type 0) → Valid First → Valid Next → Valid (Chain join First Next)
chain_valid join joins First Next f n text r (one h) = f text r h
chain_valid join joins First Next f n text r (more {text = front} {next = next} {left = left} {right = right} c h) =
    joins left right ∙ and_from (has_versions left) (has_versions right) (chain_valid join joins First Next f n front left c) (n next right h)

compared_valid : (op : Operator) → Valid (Compared op)
compared_valid op text r (compared v h) = of_valid op v ∙ h

members_valid : (op : Operator) → Valid (Members op)
members_valid op = let l = led_valid (Compared op) (compared_valid op) in chain_valid ranges.Either either_joins (Led (Compared op)) (Behind (codes ",") (Led (Compared op))) l (behind_valid (Led (Compared op)) l (codes ","))

atom_valid : (spec : Spec) → Valid (Atom spec)
atom_valid spec text r any = any_valid
atom_valid spec text r none = none_valid
atom_valid spec text r (version op {text = part} is) = led_valid (Compared op) (compared_valid op) part r is
atom_valid spec text r (prefix blanks v are h) = prefix_valid v ∙ h
atom_valid spec text r (set op blanks part after sets are is ends) = members_valid op part r is

module _ (spec : Spec) (L : List ℕ → Range → Type 0) (valid : Valid L) where
  factor_valid : Valid (Factor spec L)
  factor_valid text r (atom a) = atom_valid spec text r a
  factor_valid text r (enclosed part after is are) = valid part r is

  term_valid : Valid (Term spec L)
  term_valid = let l = led_valid (Factor spec L) factor_valid in chain_valid ranges.Both both_joins (Led (Factor spec L)) (Behind (codes "&&") (Led (Factor spec L))) l (behind_valid (Led (Factor spec L)) l (codes "&&"))

  terms_valid : Valid (Terms spec L)
  terms_valid = chain_valid ranges.Either either_joins (Term spec L) (Behind (codes "||") (Term spec L)) term_valid (behind_valid (Term spec L) term_valid (codes "||"))

inside_valid : (spec : Spec) (n : ℕ) → Valid (Inside spec n)
unfolding Inside
inside_valid spec zero text r h = absurd h
inside_valid spec (suc n) text r h = terms_valid spec (Inside spec n) (inside_valid spec n) text r h

pub stands_valid : (spec : Spec) (n : ℕ) (text : List ℕ) (r : Range) → Stands spec n text r → has_versions r ≡ true
stands_valid spec n text r (empty blanks) = any_valid
stands_valid spec n text r (range front after is are) = terms_valid spec (Inside spec n) (inside_valid spec n) front r is
