use Rattle.std.proofs.Common.{◌≡◌, ◌++◌, [], ◌∷◌, subst, if◌then◌else◌}
use Rattle.keyed_lists.specs.Lists.{items_at}
use Rattle.constraint_set.proofs.Keys.{key-test}
use Rattle.constraint_set.proofs.rules.Rules.add_setting.Goals as goal

pub returns-clause-parts : goal.returns-clause-parts
returns-clause-parts c = λ p other.
    subst (λ test. items_at test c.push_at.new.lists (record { «package» = p; part = other }) ≡ items_at test c.args.self.now.parts (record { «package» = p; part = other }) ++ (if test (record { «package» = c.args.«package»; part = c.args.part }) (record { «package» = p; part = other }) then record { scope = c.args.scope; on = c.args.on } ∷ [] else []))
    key-test (c.in_ok-push_at.ensures.ok (record { «package» = p; part = other }))
