use Rattle.std.proofs.Common.{◌≤◌, ◌∙◌, ap, sym, subst, arith}
use Rattle.plan_types.specs.declared.condition.Cond.{size-Cond}
use Rattle.conditionals.proofs.ConditionLayers.{below_Not, below_And, below_Or}
use Rattle.project_file.specs.Branches.{has_flag}
use Rattle.project_file.proofs.Flagged as flagged
use Rattle.project_file.proofs.branch.+has_flag.Goals as goal

pub returns-in-Flag : goal.returns-in-Flag
returns-in-Flag t c = sym (flagged.flagged-Flag c.in-Flag.field-0) ∙ ap has_flag (sym c.in-Flag.is) ∙ c.loop-left.invariant.0

pub returns-in-Always : goal.returns-in-Always
returns-in-Always t c = sym flagged.flagged-Always ∙ ap has_flag (sym c.in-Always.is) ∙ c.loop-left.invariant.0

pub returns-in-Never : goal.returns-in-Never
returns-in-Never t c = sym flagged.flagged-Never ∙ ap has_flag (sym c.in-Never.is) ∙ c.loop-left.invariant.0

pub returns-in-Os : goal.returns-in-Os
returns-in-Os t c = sym (flagged.flagged-Os c.in-Os.field-0) ∙ ap has_flag (sym c.in-Os.is) ∙ c.loop-left.invariant.0

pub returns-in-Arch : goal.returns-in-Arch
returns-in-Arch t c = sym (flagged.flagged-Arch c.in-Arch.field-0) ∙ ap has_flag (sym c.in-Arch.is) ∙ c.loop-left.invariant.0

pub returns-in-Impl : goal.returns-in-Impl
returns-in-Impl t c = sym (flagged.flagged-Impl c.in-Impl.field-0 c.in-Impl.field-1) ∙ ap has_flag (sym c.in-Impl.is) ∙ c.loop-left.invariant.0

pub loop-left-preserved-in-Not : goal.loop-left-preserved-in-Not
loop-left-preserved-in-Not t c =
    let whole = c.loop-left.left.now in
    let below = below_Not whole c.in-Not.inner c.in-Not.is in (
      ap has_flag c.get-left.ensures ∙ flagged.passes-Not whole c.in-Not.inner c.in-Not.is ∙ c.loop-left.invariant.0,
      subst (λ v. size-Cond v ≤ size-Cond c.args.cond.now) (sym c.get-left.ensures) (omega (arith, below, c.loop-left.invariant.1)),
    )

pub returns-then-has_flag : goal.returns-then-has_flag
returns-then-has_flag t c =
    let right = ap has_flag (sym c.get.ensures) ∙ sym c.has_flag.ensures ∙ c.if-has_flag.true in
    flagged.stops-And c.loop-left.left.now c.in-And.one c.in-And.other c.in-And.is right ∙ c.loop-left.invariant.0

pub loop-left-preserved-in-And : goal.loop-left-preserved-in-And
loop-left-preserved-in-And t c =
    let whole = c.loop-left.left.now in
    let below = below_And whole c.in-And.one c.in-And.other c.in-And.is in
    let right = ap has_flag (sym c.get.ensures) ∙ sym c.has_flag.ensures ∙ c.if-has_flag.false in (
      ap has_flag c.get-left-in-And.ensures ∙ flagged.passes-And whole c.in-And.one c.in-And.other c.in-And.is right ∙ c.loop-left.invariant.0,
      subst (λ v. size-Cond v ≤ size-Cond c.args.cond.now) (sym c.get-left-in-And.ensures) (omega (arith, below.0, c.loop-left.invariant.1)),
    )

pub returns-then-has_flag-2 : goal.returns-then-has_flag-2
returns-then-has_flag-2 t c =
    let right = ap has_flag (sym c.get-in-Or.ensures) ∙ sym c.has_flag-in-Or.ensures ∙ c.if-has_flag-2.true in
    flagged.stops-Or c.loop-left.left.now c.in-Or.one c.in-Or.other c.in-Or.is right ∙ c.loop-left.invariant.0

pub loop-left-preserved : goal.loop-left-preserved
loop-left-preserved t c =
    let whole = c.loop-left.left.now in
    let below = below_Or whole c.in-Or.one c.in-Or.other c.in-Or.is in
    let right = ap has_flag (sym c.get-in-Or.ensures) ∙ sym c.has_flag-in-Or.ensures ∙ c.if-has_flag-2.false in (
      ap has_flag c.get-left-in-Or.ensures ∙ flagged.passes-Or whole c.in-Or.one c.in-Or.other c.in-Or.is right ∙ c.loop-left.invariant.0,
      subst (λ v. size-Cond v ≤ size-Cond c.args.cond.now) (sym c.get-left-in-Or.ensures) (omega (arith, below.0, c.loop-left.invariant.1)),
    )
