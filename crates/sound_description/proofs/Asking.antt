-- Well-formed conditions by their kind, and those read from a text.
use Rattle.std.proofs.Common.{◌≡◌, ℕ, zero, suc, Bool, true, ◌&&◌, List, [], ◌∷◌, codes, sym, ap, ◌∙◌}
use Rattle.std.specs.List.{list_all}
use Rattle.std.proofs.lemmas.Bool.{and_parts, and_from}
use Rattle.plan_types.specs.declared.condition.Cond.{Cond}
use Rattle.plan_types.specs.declared.condition.Cond.TheOpen as layer
use Rattle.plan_types.specs.declared.condition.Cond.TheFolds.{fold-roll-Cond}
use Rattle.plan_types.specs.declared.condition.Cond.TheVariants.{Always, Never, Flag, Os, Arch, Impl, Not, And, Or, rolls-Always, rolls-Never, rolls-Flag, rolls-Os, rolls-Arch, rolls-Impl, rolls-Not, rolls-And, rolls-Or}
use Rattle.plan_types.specs.declared.range.Range.{Range}
use Rattle.plan_types.specs.declared.range.Spec.{Spec}
use Rattle.text_grammar.specs.Parts.{Led, led, Behind, behind, Chain, one, more, Term, Terms, Worded, worded}
use Rattle.version_range.specs.Version.{has_versions}
use Rattle.version_range.proofs.VersionForms.{stands_valid}
use Rattle.condition_text.specs.Grammar.{Versions, versions, Compiled, compiled, Atom, always, never, flag, os, arch, compiler, Factor, atom, negated, inner_factor, InnerFactor, Reads, reads, Stands}
use Rattle.section_syntax.specs.declared.part.Section.{Section}
use Rattle.package_declarations.specs.Declarations.{declares, has_flags, is_flag}
use Rattle.section_syntax.specs.Branch.{all_of, joined}
use Rattle.package_declarations.proofs.FlagFolds.{flagged-Flag, flagged-Not, flagged-And, flagged-Or}
use Rattle.flatten.specs.Conditions.{asks_step, is_well_formed}
use Rattle.conditionals.specs.Environment.{system_of}

module _ (known : List ℕ → Bool) where
  pub asks-Always : is_well_formed known Always ≡ true
  asks-Always = ap (is_well_formed known) (sym rolls-Always) ∙ fold-roll-Cond Bool (asks_step known) layer.Always

  pub asks-Never : is_well_formed known Never ≡ true
  asks-Never = ap (is_well_formed known) (sym rolls-Never) ∙ fold-roll-Cond Bool (asks_step known) layer.Never

  asks-Flag : (name : List ℕ) → is_well_formed known (Flag name) ≡ known name
  asks-Flag name = ap (is_well_formed known) (sym (rolls-Flag name)) ∙ fold-roll-Cond Bool (asks_step known) (layer.Flag name)

  asks-Os : (name : List ℕ) → is_well_formed known (Os name) ≡ true
  asks-Os name = ap (is_well_formed known) (sym (rolls-Os name)) ∙ fold-roll-Cond Bool (asks_step known) (layer.Os name)

  asks-Arch : (name : List ℕ) → is_well_formed known (Arch name) ≡ true
  asks-Arch name = ap (is_well_formed known) (sym (rolls-Arch name)) ∙ fold-roll-Cond Bool (asks_step known) (layer.Arch name)

  asks-Impl : (name : List ℕ) (range : Range) → is_well_formed known (Impl name range) ≡ has_versions range
  asks-Impl name range = ap (is_well_formed known) (sym (rolls-Impl name range)) ∙ fold-roll-Cond Bool (asks_step known) (layer.Impl name range)

  pub asks-Not : (inner : Cond) → is_well_formed known (Not inner) ≡ is_well_formed known inner
  asks-Not inner = ap (is_well_formed known) (sym (rolls-Not inner)) ∙ fold-roll-Cond Bool (asks_step known) (layer.Not inner)

  pub asks-And : (left right : Cond) → is_well_formed known (And left right) ≡ (is_well_formed known left && is_well_formed known right)
  asks-And left right = ap (is_well_formed known) (sym (rolls-And left right)) ∙ fold-roll-Cond Bool (asks_step known) (layer.And left right)

  asks-Or : (left right : Cond) → is_well_formed known (Or left right) ≡ (is_well_formed known left && is_well_formed known right)
  asks-Or left right = ap (is_well_formed known) (sym (rolls-Or left right)) ∙ fold-roll-Cond Bool (asks_step known) (layer.Or left right)

-- ---- conditions read from a text

-- The flags of the sections are known.
module _ (sections : List Section) (known : List ℕ → Bool) (found : (name : List ℕ) → declares is_flag sections name ≡ true → known name ≡ true) where
  -- well-formed, if all its flags are declared
  abbrev Fits : Cond → Type 0
  Fits c = has_flags sections c ≡ true → is_well_formed known c ≡ true

  abbrev Fitting : (List ℕ → Cond → Type 0) → Type 0
  Fitting L = (text : List ℕ) (c : Cond) → L text c → Fits c

  abbrev Joins : (Cond → Cond → Cond) → Type 0
  Joins join = (l r : Cond) → Fits l → Fits r → Fits (join l r)

  and-joins : Joins And
  and-joins l r left right e =
      let parts = and_parts (has_flags sections l) (has_flags sections r) (sym (flagged-And sections l r) ∙ e) in
      asks-And known l r ∙ and_from (is_well_formed known l) (is_well_formed known r) (left parts.0) (right parts.1)

  or-joins : Joins Or
  or-joins l r left right e =
      let parts = and_parts (has_flags sections l) (has_flags sections r) (sym (flagged-Or sections l r) ∙ e) in
      asks-Or known l r ∙ and_from (is_well_formed known l) (is_well_formed known r) (left parts.0) (right parts.1)

  pub not-fits : (inner : Cond) → Fits inner → Fits (Not inner)
  not-fits inner fits e = asks-Not known inner ∙ fits (sym (flagged-Not sections inner) ∙ e)

  module _ (L : List ℕ → Cond → Type 0) (fitting : Fitting L) where
    led-fits : Fitting (Led L)
    led-fits text c (led blanks {text = part} are is) = fitting part c is

    behind-fits : (mark : List ℕ) → Fitting (Behind mark L)
    behind-fits mark text c (behind blanks {text = part} are is) = fitting part c is

  chain-fits : (join : Cond → Cond → Cond) → Joins join → (First Next : List ℕ → Cond → Type 0) → Fitting First → Fitting Next → Fitting (Chain join First Next)
  chain-fits join joins First Next f n text c (one h) = f text c h
  chain-fits join joins First Next f n text c (more {text = front} {next = next} {left = left} {right = right} chain h) =
      joins left right (chain-fits join joins First Next f n front left chain) (n next right h)

  versions-fit : (spec : Spec) (deepest : ℕ) (text : List ℕ) (r : Range) → Versions spec deepest text r → has_versions r ≡ true
  versions-fit spec deepest text r (versions part is) = stands_valid spec deepest part r is

  module _ (Tail : List ℕ → Range → Type 0) (valid : (text : List ℕ) (r : Range) → Tail text r → has_versions r ≡ true) where
    compiler-fits : (text : List ℕ) (c : List ℕ × Range) → Worded (codes "impl") (Compiled Tail) text c → has_versions c.1 ≡ true
    compiler-fits text c (worded letters e (compiled before inner name {text = part} {r = r} b i n tail)) = valid part r tail

    atom-fits : Fitting (Atom Tail)
    atom-fits text c (always is) e = asks-Always known
    atom-fits text c (never is) e = asks-Never known
    atom-fits text c (flag {f = f} is) e = asks-Flag known f ∙ found f (sym (flagged-Flag sections f) ∙ e)
    atom-fits text c (os {x = x} is) e = asks-Os known (system_of x)
    atom-fits text c (arch {x = x} is) e = asks-Arch known x
    atom-fits text c (compiler {text = part} {c = named} is) e = asks-Impl known named.0 named.1 ∙ compiler-fits part named is

    module _ (L : List ℕ → Cond → Type 0) (fitting : Fitting L) where
      term-fits : Fitting (Term And L)
      term-fits = let l = led-fits L fitting in chain-fits And and-joins (Led L) (Behind (codes "&&") (Led L)) l (behind-fits (Led L) l (codes "&&"))

      terms-fit : Fitting (Terms And Or L)
      terms-fit = chain-fits Or or-joins (Term And L) (Behind (codes "||") (Term And L)) term-fits (behind-fits (Term And L) term-fits (codes "||"))

      factor-fits : Fitting (Factor Tail L)
      factor-fits text c (atom a) = atom-fits text c a
      factor-fits text c (negated blanks {text = part} {c = inner} are is) = not-fits inner (fitting part inner is)
      factor-fits text c (inner_factor part after is are) = terms-fit part c is

    inner_factor-fits : (n : ℕ) → Fitting (InnerFactor Tail n)
    unfolding InnerFactor
    inner_factor-fits zero text c is = absurd is
    inner_factor-fits (suc n) text c is = factor-fits (InnerFactor Tail n) (inner_factor-fits n) text c is

    reads-fit : (n : ℕ) → Fitting (Reads Tail n)
    reads-fit n text c (reads front after is are) = terms-fit (Factor Tail (InnerFactor Tail n)) (factor-fits (InnerFactor Tail n) (inner_factor-fits n)) front c is

  pub stands-fits : (spec : Spec) (n : ℕ) → Fitting (Stands spec n)
  stands-fits spec n = reads-fit (Versions spec n) (versions-fit spec n) n

-- ---- conjunctions

all-joined : (known : List ℕ → Bool) (first : Cond) (conds : List Cond) → is_well_formed known first ≡ true → list_all (is_well_formed known) conds ≡ true → is_well_formed known (joined first conds) ≡ true
all-joined known first [] here all = here
all-joined known first (cond ∷ conds) here all =
    let parts = and_parts (is_well_formed known cond) (list_all (is_well_formed known) conds) all in
    all-joined known (And first cond) conds (asks-And known first cond ∙ and_from (is_well_formed known first) (is_well_formed known cond) here parts.0) parts.1

pub all-asked : (known : List ℕ → Bool) (conds : List Cond) → list_all (is_well_formed known) conds ≡ true → is_well_formed known (all_of conds) ≡ true
all-asked known [] all = asks-Always known
all-asked known (cond ∷ conds) all =
    let parts = and_parts (is_well_formed known cond) (list_all (is_well_formed known) conds) all in
    all-joined known cond conds parts.0 parts.1
