use Rattle.std.proofs.Common.{◌≡◌, true, [], sym, ap, ◌∙◌}
use Rattle.std.proofs.lemmas.Option.{get_or_from_slice_get}
use Rattle.impossible_conditions.proofs.ImpossibleConditions.{no-path-left}
use Rattle.conditionals.specs.Paths.{paths_of}
use Rattle.flatten.specs.Ways.{few_paths}
use Rattle.flatten.proofs.JoinedPaths.{all-kept, never-met, no-more, none-kept, none-met}
use Rattle.flatten.proofs.ways.ways_of.Goals.{then-number-eq0-via-then-number-eq0, then-number-eq0-via-else-number-eq0+then-number-gt-MOST_PATHS, then-number-eq0-via-else-number-eq0+else-number-gt-MOST_PATHS+then-known_impossible}
use Rattle.flatten.proofs.ways.ways_of.Goals as goal

pub returns-then-number-eq0 : goal.returns-then-number-eq0
returns-then-number-eq0 c =
    let all = paths_of c.args.env.now c.args.cond.now true in
    let same = get_or_from_slice_get c.args.outlooks.now c.args.place c.requires.0 _ c.requires.1 in
    let is = ap (λ outlook. outlook.number) same ∙ c.requires.2.number in
    let none : [] ≡ few_paths all = elim c.then-number-eq0.branch [
      | then-number-eq0-via-then-number-eq0 w ↦ none-met all _ is w.if-number-eq0.true
      | then-number-eq0-via-else-number-eq0+then-number-gt-MOST_PATHS w ↦ none-kept all _ is w.if-number-gt-MOST_PATHS.true
      | then-number-eq0-via-else-number-eq0+else-number-gt-MOST_PATHS+then-known_impossible w ↦
          let never = sym (ap (λ outlook. outlook.known_impossible) same) ∙ w.if-known_impossible.true in
          never-met all _ is w.if-number-gt-MOST_PATHS.false (no-path-left c.args.env.now c.args.cond.now (λ flags met. let some = c.requires.2.known_impossible flags met in absurd (cc (never, some))))
    ] in
    let paths = c.new.ensures ∙ none in
    λ i. record { number = is i; paths = paths i }

pub paths-requires : goal.paths-requires
paths-requires c =
    let same = get_or_from_slice_get c.args.outlooks.now c.args.place c.requires.0 _ c.requires.1 in
    let is = ap (λ outlook. outlook.number) same ∙ c.requires.2.number in
    no-more (paths_of c.args.env.now c.args.cond.now true) _ is c.if-number-gt-MOST_PATHS.false

pub returns : goal.returns
returns c =
    let all = paths_of c.args.env.now c.args.cond.now true in
    let same = get_or_from_slice_get c.args.outlooks.now c.args.place c.requires.0 _ c.requires.1 in
    let is = ap (λ outlook. outlook.number) same ∙ c.requires.2.number in
    let paths = c.in_ok-paths.ensures ∙ all-kept all _ is c.if-number-gt-MOST_PATHS.false in
    λ i. record { number = is i; paths = paths i }
