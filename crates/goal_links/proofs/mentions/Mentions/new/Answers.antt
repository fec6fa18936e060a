use Rattle.std.proofs.Common.{refl, sym, ap, subst, arith}
use Rattle.goal_links.specs.Links.{Entries}
use Rattle.goal_links.specs.Mentions.{AreSaid, mentioned}
use Rattle.goal_links.proofs.mentions.Mentions.new.Goals as goal

pub invariant_of-result : goal.invariant_of-result
invariant_of-result c =
    subst (λ (s : Entries). AreSaid s 0) (sym c.new.ensures)
    (record {
      said = record { counted = refl; within = λ k lt. absurd (omega (arith, lt)); chains = λ entry lt. absurd (omega (arith, lt)) };
      within = λ k lt. absurd (omega (arith, lt));
      count = omega arith;
    })

pub returns-clause-linked : goal.returns-clause-linked
returns-clause-linked c = ap (λ (s : Entries). s.linked) c.new.ensures

pub returns-clause-said : goal.returns-clause-said
returns-clause-said c = ap (λ (s : Entries). (mentioned s 0).said) c.new.ensures

pub returns-clause-spare : goal.returns-clause-spare
returns-clause-spare c = ap (λ (s : Entries). (mentioned s 0).spare) c.new.ensures
