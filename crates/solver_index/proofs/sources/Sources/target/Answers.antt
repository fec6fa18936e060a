use Rattle.std.proofs.Common.{◌≡◌, ℕ, List, ap, ◌∙◌}
use Rattle.std.specs.List.{filter}
use Rattle.version_range.specs.Cuts.{inside}
use Rattle.solver_index.specs.declared.dependencies.Target.{Target}
use Rattle.solver_index.specs.Allowed.{allowed_by, allowed_for, has_at}
use Rattle.solver_index.specs.AllowedVersions.{allowed_versions}
use Rattle.solver_index.specs.Places.{places}
use Rattle.solver_index.proofs.Allowing.{allowed-inside}
use Rattle.solver_index.proofs.Insides.{cuts-follow, entry-numbers, places-same}
use Rattle.plan_types.specs.Packages.{entries_of}
use Rattle.solver_index.proofs.sources.Sources.target.Goals as goal

abbrev made : ℕ → List ℕ → Target
made p allowed = record { «package» = p; allowed = allowed }

pub returns : goal.returns
returns c =
    let packages = c.args.self.now.packages.now in
    let kind = c.args.kind in
    let dep = c.args.dep.now in
    let lets = allowed_versions c.args.self.now.project.now c.args.owner.now dep in
    let allows = allowed_for kind lets dep.range in
    let entries = entries_of packages c.number-package.result in
    let there : c.in_ok-inside.inside ≡ places (λ e. allows e.instance.version) entries =
    c.in_ok-inside.ensures ∙ ap (λ es. places (λ e. inside c.in_ok-cuts.cuts e.instance.version) es) c.entries_at-entries.ensures
    ∙ places-same (inside c.in_ok-cuts.cuts) allows entries (λ e k. c.in_ok-cuts.ensures e.instance.version (entry-numbers packages c.requires.ready.versions c.number-package.result e k)) in
    let offering : c.in_ok-allowed.allowed ≡ allowed_by kind lets dep entries =
    c.in_ok-allowed.ensures ∙ (λ i. filter (has_at kind dep (c.entries_at-entries.ensures i)) (there i)) ∙ allowed-inside kind lets dep entries in
    ap (made c.number-package.result) offering ∙ ap (λ n. made n (allowed_by kind lets dep (entries_of packages n))) c.number-package.ensures

pub places_inside-requires-clause-follows : goal.places_inside-requires-clause-follows
places_inside-requires-clause-follows c = cuts-follow c.args.self.now.project.now c.args.owner.now c.args.kind c.args.dep.now c.in_ok-cuts.cuts c.requires.versions c.in_ok-cuts.ensures
