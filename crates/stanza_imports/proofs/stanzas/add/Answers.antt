use Rattle.std.proofs.Common.{List, [], ◌∷◌, ◌++◌, subst, refl, inl, inr}
use Rattle.section_syntax.specs.declared.part.SectionPart.{SectionPart}
use Rattle.stanza_imports.specs.KnownStanzas.{all_replaced}
use Rattle.stanza_imports.specs.Standing.{Knows, ExpandsTo, all_behind}
use Rattle.stanza_imports.proofs.Additions.{common, component, flag, setup}
use Rattle.stanza_imports.proofs.stanzas.add.Goals as goal

pub returns-in_ok-add-in-Common : goal.returns-in_ok-add-in-Common
returns-in_ok-add-in-Common c sections standing =
    let known = all_behind [] sections in
    common sections c.args.section.now c.args.bodies.now _ standing c.in-Common.is
    (subst (λ (v : List SectionPart). Knows (known ++ (c.args.section.now.name, all_replaced known v) ∷ []) c.add.new.self) c.as_slice-parts.ensures
    (c.in_ok-add-in-Common.ensures.knows known _ standing.knows (c.in_ok-body-in-Common.ensures known standing.knows)))
    c.in_ok-add-in-Common.ensures.more refl

pub returns-in_ok-push-in-Component : goal.returns-in_ok-push-in-Component
returns-in_ok-push-in-Component c sections standing =
    let known = all_behind [] sections in
    component sections c.args.section.now c.args.bodies.now _ standing c.in-Component.kind c.in_ok-body-in-Component.body _ c.in-Component.is
    (subst (λ (v : List SectionPart). ExpandsTo c.args.bodies.now.stanzas.bodies.items c.in_ok-body-in-Component.body (all_replaced known v)) c.as_slice-parts.ensures
    (c.in_ok-body-in-Component.ensures known standing.knows))
    refl c.in_ok-push-in-Component.ensures.items refl refl refl

pub returns-in-Flag : goal.returns-in-Flag
returns-in-Flag c sections standing = elim c.in-Flag.is [
  | inl kind ↦ flag sections c.args.section.now c.args.bodies.now _ standing kind refl
  | inr kind ↦ setup sections c.args.section.now c.args.bodies.now _ standing kind refl
]
