use Rattle.std.proofs.Common.{◌+◌, [], ◌++◌, append-nil, append_assoc, drop, map, flat_map, subst, sym, ap, ◌∙◌, refl, arith}
use Rattle.std.proofs.lemmas.List.{drop_all}
use Rattle.common_laws.specs.Lists.{drop_at, map-map}
use Rattle.plan_types.specs.Guarded.{under}
use Rattle.section_syntax.specs.Branch.{all_of}
use Rattle.section_syntax.specs.Chained.{AreChained, branches_behind}
use Rattle.package_declarations.specs.Components.{barrier, guarded}
use Rattle.package_declarations.specs.Declarations.{meant}
use Rattle.package_declarations.specs.Gathering.{RepresentsState, bars, deps_in, place_in}
use Rattle.stanza_imports.specs.Bodies.{placed_part}
use Rattle.stanza_imports.specs.Parts.{deps_said}
use Rattle.package_declarations.proofs.component.gathered.Goals as goal

pub loop-one-init : goal.loop-one-init
loop-one-init c = record {
  stands = ([], [], c.in_ok-gathered.ensures.stands);
  chained = λ all. (
    [],
    [],
    c.in_ok-gathered.ensures.stands,
    all,
    refl,
    λ file tells. ap (λ l. l ++ flat_map (guarded file) (map placed_part c.args.placed.now)) c.in_ok-gathered.ensures.deps,
  );
}

pub loop-one-preserved : goal.loop-one-preserved
unfolding AreChained
loop-one-preserved c =
    let held = c.loop-one.invariant in
    let part = placed_part c.one-item.result in
    let before = c.loop-one.gathered.groups in
    let more = map placed_part (drop (c.loop-one.one-index + 1) c.args.placed.now) in
    let on = drop_at c.args.placed.now c.loop-one.one-index c.one-item.result (omega arith) c.one-item.is in
    record {
      stands =
          let s = held.stands in
          (branches_behind s.0 part, s.1 ++ bars part.said (place_in s.0 part), c.in_ok-gathered-2.ensures.stands s.0 s.1 s.2);
      chained = λ all.
          let s = held.chained all in
          let here = subst (λ l. AreChained s.0 (map placed_part l)) on s.3 in
          let place = ap all_of (sym here.0) in (
            branches_behind s.0 part,
            s.1 ++ bars part.said (place_in s.0 part),
            c.in_ok-gathered-2.ensures.stands s.0 s.1 s.2,
            here.1,
            append_assoc s.1 (bars part.said (place_in s.0 part)) (flat_map barrier more)
                ∙ ap (λ p. s.1 ++ (bars part.said p ++ flat_map barrier more)) place
                ∙ ap (λ l. s.1 ++ flat_map barrier (map placed_part l)) (sym on)
                ∙ s.4,
            λ file tells.
                let found = map (meant file) (deps_said part.said) in
                ap (λ l. l ++ flat_map (guarded file) more) (c.in_ok-gathered-2.ensures.deps file tells s.0 s.1 s.2)
                ∙ append_assoc (deps_in before) (map (under (place_in s.0 part)) found) (flat_map (guarded file) more)
                ∙ ap (λ p. deps_in before ++ (map (under p) found ++ flat_map (guarded file) more)) place
                ∙ ap (λ l. deps_in before ++ (l ++ flat_map (guarded file) more)) (map-map (meant file) (under (all_of part.branches)) (deps_said part.said))
                ∙ ap (λ l. deps_in before ++ flat_map (guarded file) (map placed_part l)) (sym on)
                ∙ s.5 file tells,
          );
    }

pub returns-clause-barred : goal.returns-clause-barred
returns-clause-barred c all =
    let s = c.loop-one.invariant.chained all in
    let none = drop_all c.loop-one.one-index c.args.placed.now (omega arith) in
    (s.0, subst (RepresentsState c.loop-one.gathered s.0) (sym (append-nil s.1) ∙ ap (λ l. s.1 ++ flat_map barrier (map placed_part l)) (sym none) ∙ s.4) s.2)

pub returns-clause-deps : goal.returns-clause-deps
returns-clause-deps c file tells all =
    let s = c.loop-one.invariant.chained all in
    let none = drop_all c.loop-one.one-index c.args.placed.now (omega arith) in
    let held = deps_in c.loop-one.gathered.groups in
    sym (append-nil held) ∙ ap (λ l. held ++ flat_map (guarded file) (map placed_part l)) (sym none) ∙ s.5 file tells
