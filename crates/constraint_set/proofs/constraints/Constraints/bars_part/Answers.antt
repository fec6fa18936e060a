use Rattle.std.proofs.Common.{◌∙◌, ap, sym, refl, ◌||◌, ◌&&◌, not}
use Rattle.constraint_set.specs.Bars.{requires_stanza}
use Rattle.constraint_set.proofs.Stands.{part-is}
use Rattle.constraint_set.proofs.constraints.Constraints.bars_part.Goals as goal

pub returns-then-is_asked : goal.returns-then-is_asked
returns-then-is_asked c = λ project names stands.
    let wanted = requires_stanza c.args.self.now.tests c.args.self.now.benchmarks c.args.v.part in
    c.if-is_asked.true ∙ sym (ap (λ b. b || (wanted && not c.args.on)) c.if-is_asked.true) ∙ part-is c.args.self.now project names stands c.args.v c.args.on c.is_asked.result wanted c.is_asked.ensures refl

pub returns-then-requires_stanza : goal.returns-then-requires_stanza
returns-then-requires_stanza c = λ project names stands.
    sym (ap (λ b. b && not c.args.on) c.if-requires_stanza.true)
    ∙ sym (ap (λ b. b || (c.requires_stanza.result && not c.args.on)) c.if-is_asked.false) ∙ part-is c.args.self.now project names stands c.args.v c.args.on c.is_asked.result c.requires_stanza.result c.is_asked.ensures c.requires_stanza.ensures

pub returns-else-requires_stanza : goal.returns-else-requires_stanza
returns-else-requires_stanza c = λ project names stands.
    c.if-requires_stanza.false ∙ sym (ap (λ b. b && not c.args.on) c.if-requires_stanza.false)
    ∙ sym (ap (λ b. b || (c.requires_stanza.result && not c.args.on)) c.if-is_asked.false) ∙ part-is c.args.self.now project names stands c.args.v c.args.on c.is_asked.result c.requires_stanza.result c.is_asked.ensures c.requires_stanza.ensures
