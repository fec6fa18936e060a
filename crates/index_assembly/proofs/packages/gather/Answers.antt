use Rattle.std.proofs.Common.{rules, ◌≡◌, List, [], ◌∷◌, ◌++◌, sym, ◌∙◌, ap, subst, append_assoc, append-nil}
use Rattle.std.specs.List.{IsDistinct}
use Rattle.std.specs.Prelude.{flat_map}
use Rattle.std.specs.Vec.Iter.{into_iter_items}
use Rattle.std.proofs.lemmas.Grind.{flat_map-append}
use Rattle.index_files.specs.Names.{is_listed}
use Rattle.index_files.specs.declared.closure.FoundName.{FoundName}
use Rattle.index_assembly.specs.Groups.{held}
use Rattle.index_assembly.specs.Index.{skipped_in}
use Rattle.index_assembly.proofs.Gathering.{fresh-name, names_of, not-listed, package-more}
use Rattle.plan_types.specs.Bytes.{same_text}
use Rattle.index_assembly.proofs.packages.gather.Goals as goal

pub loop-one-preserved : goal.loop-one-preserved
loop-one-preserved c =
    let done = c.loop-one.yielded in
    let one = c.in-Some.one in
    let rest = into_iter_items c.next.new.self in
    let so_far = c.loop-one.invariant in
    let next : into_iter_items c.loop-one.one-iterator ≡ one ∷ rest = search rules in
    let whole : done ++ one ∷ rest ≡ c.args.found = ap (λ l. done ++ l) (sym next) ∙ so_far.all in
    let fresh = fresh-name done one rest (subst (λ (fs : List FoundName). IsDistinct same_text (names_of fs)) (sym whole) c.requires) in
    record {
      all = append_assoc done (one ∷ []) rest ∙ whole;
      packages = package-more (is_listed c.args.extra.now.keys) (held c.args.locals) (held c.args.units) done one c.take-own.result c.take-others.result
          c.loop-one.gathered.packages c.add.new.self.packages so_far.packages (c.take-own.ensures.taken ∙ so_far.locals one.name fresh) (c.take-others.ensures.taken ∙ so_far.units one.name fresh)
          c.in_ok-add.ensures.packages;
      skipped = c.in_ok-add.ensures.skipped ∙ ap (λ l. l ++ skipped_in one) so_far.skipped
          ∙ ap (λ l. flat_map skipped_in done ++ l) (sym (append-nil (skipped_in one))) ∙ sym (flat_map-append skipped_in done (one ∷ []));
      locals = λ name h. let apart = not-listed done one name h in c.take-own.ensures.others name apart.1 ∙ so_far.locals name apart.0;
      units = λ name h. let apart = not-listed done one name h in c.take-others.ensures.others name apart.1 ∙ so_far.units name apart.0;
    }
