use Rattle.std.proofs.Common.{◌≡◌, ◌++◌, [], map, sym, subst, ap, ◌∙◌, refl, arith, drop}
use Rattle.std.proofs.lemmas.List.{append-nil, drop_all}
use Rattle.std.specs.Prelude.{None, Some}
use Rattle.section_syntax.specs.Branch.{condition}
use Rattle.section_syntax.specs.Items.{Items, import_fits, may_import, placed}
use Rattle.cabal_lexer.specs.Tree.{end, in_front, tree_of}
use Rattle.section_syntax.specs.Words.{field_word, inner_word}
use Rattle.section_syntax.specs.declared.part.Said.TheVariants as said
use Rattle.section_syntax.proofs.Steps.{begins-under, field_goes, field_tells, section_goes, section_tells, loop_goes, loop_tells, unread_goes, misplaced_goes, branch_goes}
use Rattle.section_syntax.proofs.items.+items.Goals as goal

pub read_item-returns-in_ok-place_some-in-Field-clause-parts :
    goal.read_item-returns-in_ok-place_some-in-Field-clause-parts
read_item-returns-in_ok-place_some-in-Field-clause-parts t c front tells =
    let field = c.in-Field in
    field_goes c.args.inside.spec c.args.inside.kind field.line field.name field.values front c.args.before.chain (map condition c.args.branches.now) c.in_ok-said-in-Field.said c.args.parts.now
    field.is (c.field_word-word.ensures ∙ ap (λ n. field_word c.args.inside.kind n) c.as_str.ensures)
    tells (c.in_ok-said-in-Field.ensures)
    (c.in_ok-place_some-in-Field.ensures ∙ ap (λ b. c.args.parts.now ++ placed field.line (map condition b) c.in_ok-said-in-Field.said) c.as_slice.ensures)

pub read_item-returns-in_ok-place_some-in-Field-clause-fits :
    goal.read_item-returns-in_ok-place_some-in-Field-clause-fits
read_item-returns-in_ok-place_some-in-Field-clause-fits t c front tells =
    let field = c.in-Field in
    field_tells c.args.inside.spec c.args.inside.kind field.line field.name field.values front (map condition c.args.branches.now)
    field.is (c.field_word-word.ensures ∙ ap (λ n. field_word c.args.inside.kind n) c.as_str.ensures) c.imports_behind.ensures tells

pub read_item-returns-in_ok-chain-in-Section-clause-parts :
    goal.read_item-returns-in_ok-chain-in-Section-clause-parts
read_item-returns-in_ok-chain-in-Section-clause-parts t c front tells behind more rest =
    let part = c.in-Section in
    section_goes c.args.inside.spec c.args.inside.kind part.line part.name part.args part.items front c.args.before.chain (map condition c.args.branches.now) c.args.parts.now c.read_section.new.parts behind more
    part.is refl
    ((c.in_ok-chain-in-Section.ensures).parts (in_front c.args.item.now front) behind more rest)

pub read_item-returns-in_ok-chain-in-Section-clause-fits :
    goal.read_item-returns-in_ok-chain-in-Section-clause-fits
read_item-returns-in_ok-chain-in-Section-clause-fits t c front tells =
    let part = c.in-Section in
    section_tells c.args.inside.spec c.args.inside.kind part.line part.name part.args part.items front (map condition c.args.branches.now) part.is

pub read_items-loop-item-preserved : goal.read_items-loop-item-preserved
read_items-loop-item-preserved t c =
    let inside = c.args.inside in
    let front = c.loop-item.invariant.1 in
    let same = c.loop-item.invariant.0 in
    let tells = subst (λ b. c.loop-item.before.fits ≡ import_fits inside.spec inside.kind front (map condition b)) (sym same) c.loop-item.invariant.2 in (
      (c.in_ok-before.ensures).branches ∙ same,
      in_front c.item-item.result front,
      loop_tells inside.spec inside.kind c.item-item.result front same tells (c.in_ok-before.ensures).fits,
      loop_goes inside.spec inside.kind c.args.items.now c.loop-item.item-index c.item-item.result front _ _ _ _ _ _
          (omega (arith, c.loop-item-test.true, c.loop-item.auto.item-index-end)) (sym c.item-item.is) same c.loop-item.invariant.3 ((c.in_ok-before.ensures).parts front tells),
    )

pub read_items-loop-item-init : goal.read_items-loop-item-init
read_items-loop-item-init t c = (
  refl,
  end,
  c.may_import.ensures ∙ ap (may_import c.args.inside.spec) c.as_slice.ensures ∙ begins-under c.args.inside.spec c.args.branches.now,
  λ more rest. (more, rest, refl),
)

pub read_items-returns-clause-parts : goal.read_items-returns-clause-parts
unfolding Items
read_items-returns-clause-parts t c =
    let over : drop c.loop-item.item-index c.args.items.now ≡ [] = drop_all c.loop-item.item-index c.args.items.now (omega (arith, c.loop-item-test.false, c.loop-item.auto.item-index-end)) in
    let all = c.loop-item.invariant.3 [] (subst (λ i. Items c.args.inside.spec c.args.inside.kind c.loop-item.invariant.1 (tree_of i) (map condition c.args.branches.now) c.loop-item.before.chain []) (sym over) refl) in
    (all.0, all.1, sym (append-nil c.loop-item.parts) ∙ all.2)

pub read_section-returns-in-Unread-clause-parts : goal.read_section-returns-in-Unread-clause-parts
read_section-returns-in-Unread-clause-parts t c front behind more rest =
    let section = c.args.section.now in
    unread_goes c.args.inside.spec c.args.inside.kind section.line section.args.now (map condition c.args.branches.now) c.args.chain _ _ c.args.parts.now more
    (sym (c.inner_word.ensures ∙ ap (inner_word c.args.inside.kind) c.as_str.ensures) ∙ c.in-Unread.is) rest

pub read_section-returns-in_ok-place-in-Misplaced-clause-parts :
    goal.read_section-returns-in_ok-place-in-Misplaced-clause-parts
read_section-returns-in_ok-place-in-Misplaced-clause-parts t c front behind more rest =
    let section = c.args.section.now in
    misplaced_goes c.args.inside.spec c.args.inside.kind section.line section.args.now (map condition c.args.branches.now) c.args.chain _ _ c.args.parts.now more
    (sym (c.inner_word.ensures ∙ ap (inner_word c.args.inside.kind) c.as_str.ensures) ∙ c.in-Misplaced.is)
    (c.in_ok-place-in-Misplaced.ensures ∙ ap (λ b. c.args.parts.now ++ placed section.line (map condition b) (Some said.Misplaced)) c.as_slice.ensures) rest

pub read_section-returns-in_ok-read_items-in-Branch-clause-parts :
    goal.read_section-returns-in_ok-read_items-in-Branch-clause-parts
read_section-returns-in_ok-read_items-in-Branch-clause-parts t c front behind more rest =
    let section = c.args.section.now in
    let opened = c.in_ok-branch-in-Branch.ensures in
    let read = (c.in_ok-read_items-in-Branch.ensures).parts in
    let closed = c.close_branch-left.ensures c.args.branches.now c.in_ok-branch-in-Branch.branch (c.in_ok-read_items-in-Branch.ensures.branches ∙ c.in_ok-push-in-Branch.ensures.ok) in
    branch_goes c.args.inside.spec c.args.inside.kind c.in-Branch.word section.line section.args.now c.args.branches.now c.args.chain (tree_of section.items.now) _ c.args.parts.now more read.0 opened.0
    (sym (c.inner_word.ensures ∙ ap (inner_word c.args.inside.kind) c.as_str.ensures) ∙ c.in-Branch.is) opened.1 opened.2
    (c.in_ok-place-in-Branch.ensures ∙ ap (λ b. c.args.parts.now ++ placed section.line (map condition b) (Some c.in_ok-branch-in-Branch.said)) c.as_slice-in-Branch.ensures
    ∙ ap (λ s. c.args.parts.now ++ placed section.line (map condition c.args.branches.now) (Some s)) opened.3)
    c.in_ok-push-in-Branch.ensures.ok
    (subst (λ i. Items c.args.inside.spec c.args.inside.kind end (tree_of i) (map condition c.push.new.self) None read.0) c.as_slice-in-Branch-2.ensures read.1)
    read.2 closed.0 rest
