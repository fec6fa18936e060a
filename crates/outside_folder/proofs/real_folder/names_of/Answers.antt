use Rattle.std.proofs.Common.{◌≡◌, ◌≤◌, ◌++◌, [], ◌∷◌, ◌∙◌, Err, ap, sym, subst, inl, inr, arith, rules, length, length-append}
use Rattle.std.proofs.iter.Next.{Yields-more}
use Rattle.std.proofs.lemmas.List.Quantifiers.{Any-push}
use Rattle.std.specs.Iterator.{Yields}
use Rattle.std.proofs.lemmas.List.Sums.{fold-append}
use Rattle.outside_folder.specs.declared.folder.FolderFault.TheVariants.{Failed}
use Rattle.outside_folder.specs.RealFolder.{HasNoName, IsNameOf, name_limit, with_name}
use Rattle.outside_folder.proofs.Pairs.{AllZip-more}
use Rattle.outside_folder.proofs.real_folder.names_of.Goals as goal

pub loop-entry-preserved : goal.loop-entry-preserved
loop-entry-preserved g c =
    let so_far = c.loop-entry.invariant.taken in
    let name = c.in-Ok.name in
    record {
      taken = (
        so_far.0 ++ name ∷ [],
        AllZip-more (IsNameOf (g.S.SystemCalls.finds c.args.system.now)) c.loop-entry.yielded so_far.0 c.in-Some.entry name so_far.1 c.in-Ok.ensures.name,
        c.in_ok-add_name-in-Ok.ensures.ok ∙ ap (λ names. with_name names name) so_far.2 ∙ sym (fold-append with_name [] so_far.0 (name ∷ [])),
      );
      no_more = omega (arith, length-append c.loop-entry.yielded (c.in-Some.entry ∷ []), c.in_ok-add_name-in-Ok.ensures.one_more, c.loop-entry.invariant.no_more);
      still = first_of (search rules, cc, grind arith);
    }

pub returns-in_err-add_name-in-Ok-clause-failed : goal.returns-in_err-add_name-in-Ok-clause-failed
returns-in_err-add_name-in-Ok-clause-failed g c = λ failed.
    let steps = g.I.Iterator.next_gives in
    let entries = Yields-more steps _ c.loop-entry.yielded _ c.in-Some.entry _ c.loop-entry.yielded_by c.in-Some.ensures.steps in
    let full : name_limit ≤ length c.loop-entry.names.entries = first_of (search rules, cc, grind arith) in
    (c.loop-entry.yielded ++ c.in-Some.entry ∷ [], c.next.new.self, subst (λ s. Yields steps s (c.loop-entry.yielded ++ c.in-Some.entry ∷ []) c.next.new.self) c.into_iter-entry-iterator.ensures.into_iter_gives entries, inl (omega (arith, full, c.loop-entry.invariant.no_more, length-append c.loop-entry.yielded (c.in-Some.entry ∷ []))))

pub returns-in-Err-clause-failed : goal.returns-in-Err-clause-failed
returns-in-Err-clause-failed g c = λ failed.
    let steps = g.I.Iterator.next_gives in
    let entries = Yields-more steps _ c.loop-entry.yielded _ c.in-Some.entry _ c.loop-entry.yielded_by c.in-Some.ensures.steps in
    let is : c.in-Err.fault ≡ Failed = cc failed in
    let nameless = c.in-Err.ensures.no_name (ap Err is) in
    (c.loop-entry.yielded ++ c.in-Some.entry ∷ [], c.next.new.self, subst (λ s. Yields steps s (c.loop-entry.yielded ++ c.in-Some.entry ∷ []) c.next.new.self) c.into_iter-entry-iterator.ensures.into_iter_gives entries, inr (Any-push (HasNoName (g.S.SystemCalls.finds c.args.system.now)) c.loop-entry.yielded c.in-Some.entry nameless))
