use Rattle.std.proofs.Common.{◌≡◌, [], refl, sym, ap, ◌∙◌, length}
use Rattle.std.specs.Prelude.{nat_eq}
use Rattle.std.proofs.lemmas.Bool.{eqb-true, false≢true}
use Rattle.std.proofs.lemmas.List.{nil_from_length}
use Rattle.version_range.proofs.VersionNumbers.{refused_number, refused_other, read_last, read_more, only_version, version_from, version_to}
use Rattle.version_range.proofs.version.read_version.Goals as goal

pub returns-then-is_empty-clause-found : goal.returns-then-is_empty-clause-found
returns-then-is_empty-clause-found c =
    let after = c.in-Some.after.now in
    let none : after ≡ [] = nil_from_length after (eqb-true (length after) 0 (sym c.is_empty.ensures ∙ c.if-is_empty.true)) in
    let r = read_last c.args.text.now c.loop-number.parts c.loop-number.rest.now c.loop-number.invariant c.in-Some.number after c.in-Some.ensures.found c.push.new.self c.in_ok-push.ensures.ok none in
    (version_to c.push.new.self r.0, r.1)

pub returns-then-is_empty-clause-only : goal.returns-then-is_empty-clause-only
returns-then-is_empty-clause-only c =
    let after = c.in-Some.after.now in
    let none : after ≡ [] = nil_from_length after (eqb-true (length after) 0 (sym c.is_empty.ensures ∙ c.if-is_empty.true)) in
    let r = read_last c.args.text.now c.loop-number.parts c.loop-number.rest.now c.loop-number.invariant c.in-Some.number after c.in-Some.ensures.found c.push.new.self c.in_ok-push.ensures.ok none in
    λ ps h. only_version c.args.text.now c.push.new.self r.0 r.1 ps (version_from ps h)

pub returns-in_default-byte_after-clause-refused : goal.returns-in_default-byte_after-clause-refused
returns-in_default-byte_after-clause-refused c =
    let after = c.in-Some.after.now in
    (refl, λ ps h. refused_other c.args.text.now c.loop-number.parts c.loop-number.rest.now c.loop-number.invariant c.in-Some.number after c.in-Some.ensures.found (λ e. false≢true (sym c.if-is_empty.false ∙ c.is_empty.ensures ∙ ap (λ xs. nat_eq (length xs) 0) e)) c.in_default-byte_after.ensures.none ps (version_from ps h))

pub loop-number-preserved : goal.loop-number-preserved
loop-number-preserved c =
    read_more c.args.text.now c.loop-number.parts c.loop-number.rest.now c.loop-number.invariant c.in-Some.number c.in-Some.after.now c.in-Some.ensures.found c.push.new.self c.in_ok-push.ensures.ok c.in-Some-byte_after.more.now c.in-Some-byte_after.ensures.some

pub returns-clause-refused : goal.returns-clause-refused
returns-clause-refused c =
    (refl, λ ps h. refused_number c.args.text.now c.loop-number.parts c.loop-number.rest.now c.loop-number.invariant c.in_default.ensures.none ps (version_from ps h))
