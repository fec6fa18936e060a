use Rattle.conditionals.proofs.JoinedPaths as proof
use Rattle.conditionals.proofs.laws.cleaned_before_joined.Goals as goal

pub returns : goal.returns
returns c first second = proof.cleaned_before_joined first second
