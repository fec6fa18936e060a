use Rattle.std.proofs.Common.{◌≡◌, ℕ, List, Bool, true, false, not, ap, ◌∙◌, refl}
use Rattle.stanza_imports.specs.Names.{has, with_name}
use Rattle.stanza_imports.proofs.Additions.{knows_new, knows_old}
use Rattle.stanza_imports.proofs.stanzas.Stanzas.add.Goals as goal

is_new : (b : Bool) {new : Bool} → new ≡ true → new ≡ not b → b ≡ false
is_new true is e = cc
is_new false is e = refl

is_old : (b : Bool) {new : Bool} → new ≡ false → new ≡ not b → b ≡ true
is_old true is e = refl
is_old false is e = cc

pub returns-in_ok-push-clause-knows : goal.returns-in_ok-push-clause-knows
returns-in_ok-push-clause-knows c known parts knows means =
    knows_new known c.args.name.now parts c.args.body c.args.self.now _ knows means
    (is_new (has c.args.self.now.names c.args.name.now) c.if-new.true (c.in_ok-new.ensures.new ∙ ap (λ (v : List ℕ). not (has c.args.self.now.names v)) c.as_str.ensures))
    (c.in_ok-new.ensures.names ∙ ap (with_name c.args.self.now.names) c.as_str.ensures) c.in_ok-push.ensures.items

pub returns-else-new-clause-knows : goal.returns-else-new-clause-knows
returns-else-new-clause-knows c known parts knows means =
    knows_old known c.args.name.now parts c.args.body c.args.self.now _ knows means
    (is_old (has c.args.self.now.names c.args.name.now) c.if-new.false (c.in_ok-new.ensures.new ∙ ap (λ (v : List ℕ). not (has c.args.self.now.names v)) c.as_str.ensures))
    (c.in_ok-new.ensures.names ∙ ap (with_name c.args.self.now.names) c.as_str.ensures) refl
