use Rattle.std.proofs.Common.{◌≤◌, ◌∙◌, ap, sym, subst, arith}
use Rattle.plan_types.specs.declared.condition.Cond.{size-Cond}
use Rattle.conditionals.proofs.ConditionLayers.{below_Not, below_And, below_Or}
use Rattle.package_declarations.specs.Declarations.{has_flags}
use Rattle.stanza_imports.specs.Names.{has}
use Rattle.package_declarations.proofs.FlagFolds as flagged
use Rattle.package_declarations.proofs.declarations.Declared.+has_flags.Goals as goal

pub returns-in-Flag : goal.returns-in-Flag
returns-in-Flag t c file tells =
    c.has.ensures ∙ ap (has c.args.self.now.flags) c.as_str.ensures ∙ tells.flags c.in-Flag.name ∙ sym (flagged.flagged-Flag file.sections c.in-Flag.name)
    ∙ ap (has_flags file.sections) (sym c.in-Flag.is) ∙ c.loop-left.invariant.0 file tells

pub returns-in-Always : goal.returns-in-Always
returns-in-Always t c file tells = sym (flagged.flagged-Always file.sections) ∙ ap (has_flags file.sections) (sym c.in-Always.is) ∙ c.loop-left.invariant.0 file tells

pub returns-in-Never : goal.returns-in-Never
returns-in-Never t c file tells = sym (flagged.flagged-Never file.sections) ∙ ap (has_flags file.sections) (sym c.in-Never.is) ∙ c.loop-left.invariant.0 file tells

pub returns-in-Os : goal.returns-in-Os
returns-in-Os t c file tells = sym (flagged.flagged-Os file.sections c.in-Os.field-0) ∙ ap (has_flags file.sections) (sym c.in-Os.is) ∙ c.loop-left.invariant.0 file tells

pub returns-in-Arch : goal.returns-in-Arch
returns-in-Arch t c file tells = sym (flagged.flagged-Arch file.sections c.in-Arch.field-0) ∙ ap (has_flags file.sections) (sym c.in-Arch.is) ∙ c.loop-left.invariant.0 file tells

pub returns-in-Impl : goal.returns-in-Impl
returns-in-Impl t c file tells = sym (flagged.flagged-Impl file.sections c.in-Impl.field-0 c.in-Impl.field-1) ∙ ap (has_flags file.sections) (sym c.in-Impl.is) ∙ c.loop-left.invariant.0 file tells

pub loop-left-preserved-in-Not : goal.loop-left-preserved-in-Not
loop-left-preserved-in-Not t c =
    let whole = c.loop-left.left.now in
    let below = below_Not whole c.in-Not.inner c.in-Not.is in (
      λ file tells. ap (has_flags file.sections) c.get-left.ensures ∙ flagged.passes-Not file.sections whole c.in-Not.inner c.in-Not.is ∙ c.loop-left.invariant.0 file tells,
      subst (λ v. size-Cond v ≤ size-Cond c.args.cond.now) (sym c.get-left.ensures) (omega (arith, below, c.loop-left.invariant.1)),
    )

pub returns-then-not-has_flags : goal.returns-then-not-has_flags
returns-then-not-has_flags t c file tells =
    let right = ap (has_flags file.sections) (sym c.get.ensures) ∙ sym (c.has_flags.ensures file tells) ∙ c.if-not-has_flags.true in
    flagged.stops-And file.sections c.loop-left.left.now c.in-And.one c.in-And.other c.in-And.is right ∙ c.loop-left.invariant.0 file tells

pub loop-left-preserved-in-And : goal.loop-left-preserved-in-And
loop-left-preserved-in-And t c =
    let whole = c.loop-left.left.now in
    let below = below_And whole c.in-And.one c.in-And.other c.in-And.is in (
      λ file tells.
          let right = ap (has_flags file.sections) (sym c.get.ensures) ∙ sym (c.has_flags.ensures file tells) ∙ c.if-not-has_flags.false in
          ap (has_flags file.sections) c.get-left-in-And.ensures ∙ flagged.passes-And file.sections whole c.in-And.one c.in-And.other c.in-And.is right ∙ c.loop-left.invariant.0 file tells,
      subst (λ v. size-Cond v ≤ size-Cond c.args.cond.now) (sym c.get-left-in-And.ensures) (omega (arith, below.0, c.loop-left.invariant.1)),
    )

pub returns-then-not-has_flags-2 : goal.returns-then-not-has_flags-2
returns-then-not-has_flags-2 t c file tells =
    let right = ap (has_flags file.sections) (sym c.get-in-Or.ensures) ∙ sym (c.has_flags-in-Or.ensures file tells) ∙ c.if-not-has_flags-2.true in
    flagged.stops-Or file.sections c.loop-left.left.now c.in-Or.one c.in-Or.other c.in-Or.is right ∙ c.loop-left.invariant.0 file tells

pub loop-left-preserved : goal.loop-left-preserved
loop-left-preserved t c =
    let whole = c.loop-left.left.now in
    let below = below_Or whole c.in-Or.one c.in-Or.other c.in-Or.is in (
      λ file tells.
          let right = ap (has_flags file.sections) (sym c.get-in-Or.ensures) ∙ sym (c.has_flags-in-Or.ensures file tells) ∙ c.if-not-has_flags-2.false in
          ap (has_flags file.sections) c.get-left-in-Or.ensures ∙ flagged.passes-Or file.sections whole c.in-Or.one c.in-Or.other c.in-Or.is right ∙ c.loop-left.invariant.0 file tells,
      subst (λ v. size-Cond v ≤ size-Cond c.args.cond.now) (sym c.get-left-in-Or.ensures) (omega (arith, below.0, c.loop-left.invariant.1)),
    )
