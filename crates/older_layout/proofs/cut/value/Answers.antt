use Rattle.std.proofs.Common.{◌≡◌, true, sym, subst, arith}
use Rattle.plan_types.specs.Bytes.{begins_with}
use Rattle.cabal_lexer.proofs.Texts.{begins_with-boundary}
use Rattle.older_layout.specs.Cuts.{is_field}
use Rattle.older_layout.proofs.cut.value.Goals as goal

pub split_at-requires : goal.split_at-requires
unfolding is_field
split_at-requires c =
    begins_with-boundary 58 c.after_name.result.now (omega arith) c.after_name.utf8 (subst (λ v. begins_with 58 v ≡ true) (sym c.after_name.ensures) c.requires)
