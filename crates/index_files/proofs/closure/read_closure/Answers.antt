use Rattle.std.proofs.Common.{◌≡◌, ◌<◌, ◌≤◌, ◌-◌, ◌^◌, ◌++◌, ◌∷◌, [], List, length, length-append, map, get_or, None, sym, ◌∙◌, ap, subst, arith}
use Rattle.std.specs.Option.{option_map}
use Rattle.outside_folder.proofs.CallSequences.{onward, still}
use Rattle.plan_types.specs.declared.dependency.Named.{Named}
use Rattle.index_files.specs.Closure.{roots}
use Rattle.index_files.specs.Ground.{ground_of}
use Rattle.index_files.specs.Locals.{local_names}
use Rattle.index_files.specs.Steps.{AreKept, AreReadSoFar, Finds, IsVisited, Visits, pair_up}
use Rattle.index_files.specs.declared.closure.FoundName.{FoundName}
use Rattle.index_files.proofs.Closing.{kept-first, partly-first}
use Rattle.index_files.proofs.Finding.{beyond-here, kept-all, kept-on, pairs-on, partly-on, releases_in, whole-all, within-on}
use Rattle.index_files.proofs.Pairs.{pair_none}
use Rattle.common_laws.specs.Small.{if_some, some_at}
use Rattle.index_files.specs.Names.{put_all}
use Rattle.index_files.proofs.closure.read_closure.Goals as goal

pub loop-alloc-preserved : goal.loop-alloc-preserved
loop-alloc-preserved g c =
    let ground = ground_of c.args.before.now in
    let names = c.loop-alloc.names.keys in
    let new = c.visit.new.names.keys in
    let found = c.loop-alloc.found in
    let place : c.len-in-loop-alloc-2.result ≡ length found = c.len-in-loop-alloc-2.ensures in
    let within : length found < length names = omega (arith, c.loop-alloc-test.true, c.len.ensures, c.len-in-loop-alloc.ensures.len) in
    let one : Finds ground (get_or names c.len-in-loop-alloc-2.result []) names new c.in-Some.one = some_at _ _ _ c.in-Some.is c.in_ok-visit.ensures.found in
    let f : Finds ground (get_or names (length found) []) names new c.in-Some.one = subst (λ n. Finds ground (get_or names n []) names new c.in-Some.one) place one in
    let ok : c.push.new.self ≡ found ++ c.in-Some.one ∷ [] = c.in_ok-push-in-Some.ensures.ok in
    let pairs = c.loop-alloc.invariant.pairs in
    record {
      within = subst (λ xs. length xs ≤ length new) (sym ok) (within-on ground names new found within pairs c.in-Some.one f);
      pairs = subst (λ xs. xs ≡ pair_up new (releases_in xs)) (sym ok) (pairs-on ground names new found within pairs c.in-Some.one f);
      kept = subst (AreKept ground new) (sym ok) (kept-on ground names new found within pairs c.in-Some.one f c.loop-alloc.invariant.kept);
      told = λ files t.
          let told = some_at _ _ files (c.loop-alloc.invariant.folder.same_files ∙ t) c.in_ok-visit.ensures.observed in
          let visited : IsVisited ground files (get_or names c.len-in-loop-alloc-2.result []) c.loop-alloc.totals c.visit.new.totals c.in-Some.one.releases =
          subst (λ o. Visits ground files (get_or names c.len-in-loop-alloc-2.result []) c.loop-alloc.totals c.visit.new.totals (option_map (λ (f : FoundName). f.releases) o)) c.in-Some.is told in
          subst (AreReadSoFar ground files c.args.totals c.visit.new.totals new) (sym ok)
          (partly-on ground names new found within pairs c.in-Some.one f files c.args.totals c.loop-alloc.totals c.visit.new.totals (c.loop-alloc.invariant.told files t)
          (subst (λ n. IsVisited ground files (get_or names n []) c.loop-alloc.totals c.visit.new.totals c.in-Some.one.releases) place visited));
      folder = onward _ _ _ _ _ (λ never. absurd never) (λ e. cc e) c.loop-alloc.invariant.folder c.in_ok-visit.ensures.folder;
    }

pub loop-alloc-smaller : goal.loop-alloc-smaller
loop-alloc-smaller g c =
    let found = c.loop-alloc.found in
    let longer = ap length c.in_ok-push-in-Some.ensures.ok ∙ length-append found (c.in-Some.one ∷ []) in
    let test = c.loop-alloc-test.true in
    let l = c.len.ensures in
    let small = c.len-in-loop-alloc.ensures.small in
    let less : 2 ^ 64 - length c.push.new.self < 2 ^ 64 - length found = omega (arith, longer, test, l, small) in
    less

pub loop-alloc-init : goal.loop-alloc-init
loop-alloc-init g c =
    let ground = ground_of c.args.before.now in
    let names = c.in_ok-names.names.keys in
    let none = c.new-found.ensures in
    let first : names ≡ put_all [] (roots ground) =
    c.in_ok-names.ensures ∙ ap (λ (extra : List Named). put_all [] (local_names c.args.before.now.locals.now.list ++ map (λ named. named.name) extra)) c.as_slice.ensures in
    record {
      within = subst (λ (xs : List FoundName). length xs ≤ length names) (sym none) (omega arith);
      pairs = subst (λ xs. xs ≡ pair_up names (releases_in xs)) (sym none) (sym (pair_none names));
      kept = subst (AreKept ground names) (sym none) (subst (AreKept ground names) (pair_none names) (kept-first ground names first));
      told = λ files t. subst (AreReadSoFar ground files c.args.totals c.args.totals names) (sym none)
          (subst (AreReadSoFar ground files c.args.totals c.args.totals names) (pair_none names) (partly-first ground files names c.args.totals first));
      folder = still _ _ _ (λ never. never);
    }

pub returns-in-None-clause-observed : goal.returns-in-None-clause-observed
returns-in-None-clause-observed g c = if_some _ _ (λ files t.
    let ground = ground_of c.args.before.now in
    let names = c.loop-alloc.names.keys in
    let found = c.loop-alloc.found in
    let place : c.len-in-loop-alloc-2.result ≡ length found = c.len-in-loop-alloc-2.ensures in
    let within : length found < length names = omega (arith, c.loop-alloc-test.true, c.len.ensures, c.len-in-loop-alloc.ensures.len) in
    let told = some_at _ _ files (c.loop-alloc.invariant.folder.same_files ∙ t) c.in_ok-visit.ensures.observed in
    let many : Visits ground files (get_or names c.len-in-loop-alloc-2.result []) c.loop-alloc.totals c.visit.new.totals (option_map (λ (f : FoundName). f.releases) None) =
    subst (λ o. Visits ground files (get_or names c.len-in-loop-alloc-2.result []) c.loop-alloc.totals c.visit.new.totals (option_map (λ (f : FoundName). f.releases) o)) c.in-None.is told in
    beyond-here ground names names found within c.loop-alloc.invariant.pairs files c.args.totals c.loop-alloc.totals c.loop-alloc.invariant.kept (c.loop-alloc.invariant.told files t)
    (subst (λ n. Visits ground files (get_or names n []) c.loop-alloc.totals c.visit.new.totals (option_map (λ (f : FoundName). f.releases) None)) place many))

pub returns-clause-observed : goal.returns-clause-observed
returns-clause-observed g c = if_some _ _ (λ files t.
    let ground = ground_of c.args.before.now in
    let test = c.loop-alloc-test.false in
    let l = c.len.ensures in
    let m = c.len-in-loop-alloc.ensures.len in
    whole-all ground c.loop-alloc.names.keys c.loop-alloc.found (omega (arith, test, l, m)) c.loop-alloc.invariant.pairs files c.args.totals c.loop-alloc.totals c.loop-alloc.invariant.kept (c.loop-alloc.invariant.told files t) c.loop-alloc.totals.few_files c.loop-alloc.totals.few_bytes)

pub returns-clause-kept : goal.returns-clause-kept
returns-clause-kept g c =
    let test = c.loop-alloc-test.false in
    let l = c.len.ensures in
    let m = c.len-in-loop-alloc.ensures.len in
    kept-all (ground_of c.args.before.now) c.loop-alloc.names.keys c.loop-alloc.found (omega (arith, test, l, m)) c.loop-alloc.invariant.pairs c.loop-alloc.invariant.kept
