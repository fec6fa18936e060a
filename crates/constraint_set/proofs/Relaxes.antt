-- Cuts relaxed at one end and then at the other are those of the range relaxed at both.
use Rattle.std.proofs.Common.{◌≡◌, Bool, false, List, inl, inr, sym, ◌∙◌, subst}
use Rattle.std.specs.Prelude.{IsTrue}
use Rattle.std.proofs.lemmas.Bool.{false≢true}
use Rattle.plan_types.specs.declared.version.Version.{Version}
use Rattle.version_range.specs.Cuts.{HasNumbers, IsRelaxed, Relaxes, inside}
use Rattle.version_range.proofs.RelaxedCuts.{relaxed_twice}
use Rattle.std.proofs.Math.Bool.{or-false}

module _ (has : Version → Bool) (cuts : List Version) (same : (v : Version) → HasNumbers v → inside cuts v ≡ has v) where
  unrelaxed : Relaxes false false has (inside cuts)
  unrelaxed v n = (λ h. inl (sym (same v n) ∙ h), out)
    where
      out : IsRelaxed false false has v → IsTrue (inside cuts v)
      out (inl t) = same v n ∙ t
      out (inr (inl r)) = absurd (false≢true r.0)
      out (inr (inr r)) = absurd (false≢true r.0)

pub both-ends : (newer older : Bool) (has : Version → Bool) (cuts once twice : List Version) → ((v : Version) → HasNumbers v → inside cuts v ≡ has v)
    → Relaxes newer false (inside cuts) (inside once) → Relaxes false older (inside once) (inside twice) → Relaxes newer older has (inside twice)
both-ends newer older has cuts once twice same h k =
    let first : Relaxes newer false has (inside once) = relaxed_twice false false newer false has (inside cuts) (inside once) (unrelaxed has cuts same) h in
    subst (λ b. Relaxes b older has (inside twice)) (or-false newer) (relaxed_twice newer false false older has (inside once) (inside twice) first k)
