-- The meaning of a finding, by the problem with whole conditions.
use Rattle.std.proofs.Common.{◌≡◌, ◌≢◌, ℕ, zero, suc, Bool, true, false, List, [], ◌∷◌, ◌++◌, map, Some, None, refl, sym, ap, ap₂, subst, ◌∙◌}
use Rattle.std.specs.List.{Contains, list_all}
use Rattle.plan_types.specs.declared.condition.Env.{Env}
use Rattle.plan_types.specs.declared.index.Index.{Index}
use Rattle.plan_types.specs.declared.limit.Limit.{Limit}
use Rattle.plan_types.specs.declared.limit.Limit.TheVariants.{Unlimited, At}
use Rattle.plan_types.specs.declared.project.Project.{Project}
use Rattle.plan_types.specs.declared.project.Settings.{Settings}
use Rattle.flatten.specs.Sound.{IsSound, has_package}
use Rattle.qualified_goals.specs.Names.{AreNumbers, NameTable}
use Rattle.qualified_goals.specs.declared.variable.Var.{Var}
use Rattle.choice_problem.specs.declared.problem.Choice.{Choice}
use Rattle.choice_problem.specs.declared.outcome.Counts.{Counts}
use Rattle.choice_problem.specs.declared.outcome.Outcome.{Outcome}
use Rattle.choice_problem.specs.declared.outcome.Outcome.TheVariants as outcome
use Rattle.choice_problem.specs.Assignment.{Assignment}
use Rattle.choice_problem.specs.General.{General, general}
use Rattle.choice_problem.specs.Joined.{AreOne}
use Rattle.choice_problem.specs.Problem.{Problem, Lawful}
use Rattle.choice_problem.specs.Trail.{AreNew, choice_of, next_var, trail_from, trail_of, value_in, with_next, with_value}
use Rattle.choice_problem.specs.Trail.AreNew.{before_any, one_more}
use Rattle.choice_problem.specs.Valid.{IsFirst, IsWholeValid}
use Rattle.choice_problem.specs.ConflictSet.{has, without}
use Rattle.choice_problem.specs.Guide.{Guide, IsGuide, least, most_met}
use Rattle.choice_problem.specs.Guides.{least-is-guide, most-met-is-guide}
use Rattle.choice_problem.specs.Answer.{Ended, Found, Failed, GaveUp, guided_answer, answer_of, outcome_by, outcome_of, printed}
use Rattle.choice_problem.specs.Sound.{AreNone, IsRightEnd, IsValidEnd}
use Rattle.choice_problem.proofs.FirstAssignment.{passes-all}
use Rattle.choice_problem.proofs.TrailLemmas.{Passes, next-unchosen, passes-trail}
use Rattle.common_laws.specs.Lists.{contains-none}
use Rattle.cabal_problem.specs.Problem.{IsProblemOf, problem_of}
use Rattle.cabal_problem.specs.WholeDemands.{whole_problem}
use Rattle.solver_index.specs.Orders.{AreOrders}
use Rattle.conflict_shrink.specs.declared.shrinking.Shrunk.{Shrunk as ShrunkSet}
use Rattle.conflict_shrink.specs.Shrinking.{IsFreed, IsTight}
use Rattle.conflict_shrink.proofs.ShrunkSets.{zip-more}
use Rattle.plan_search.specs.Blame.{IsBlame, IsBlameOfSet, MeansBlame, blame_of}
use Rattle.plan_search.specs.Finding.{IsFindingOf, guide_of}
use Rattle.plan_search.specs.Meaning.{AreToBlame, IsBlamed, IsFirstTrail, IsValidTrail, IsWholeProblem, Means, MeansFailure, MeansOutcome, MeansTrail, ReachesLimit}
use Rattle.plan_search.specs.declared.blame.Blame.{Blame}
use Rattle.plan_search.specs.declared.blame.Blame.TheVariants.{Unasked, Shrunk, TooLong}
use Rattle.plan_search.specs.declared.search.Finding.{Finding}
use Rattle.plan_search.specs.declared.search.Picking.{Picking}
use Rattle.plan_search.specs.declared.search.Picking.TheVariants.{Least, MostMet}

-- the laws of searches and of whole conditions that are used here

abbrev pub EndsRight : Type 0
EndsRight = (p : Problem) → Lawful p → IsRightEnd p (answer_of p Unlimited).ended

abbrev pub EndsValid : Type 0
EndsValid = (p : Problem) (guide : Guide) → Lawful p → IsGuide guide → IsValidEnd p (guided_answer guide p Unlimited).ended

abbrev pub LimitGivesUp : Type 0
LimitGivesUp = (guide : Guide) (p : Problem) (l : Limit) → (guided_answer guide p l).ended ≢ GaveUp → guided_answer guide p l ≡ guided_answer guide p Unlimited

abbrev pub ValidAsWhole : Type 0
ValidAsWhole = (env : Env) (index : Index) (project : Project) (names : NameTable) (orders : List (List ℕ))
    → IsSound env index → AreNumbers index.packages names → AreOrders project index.packages orders
    → list_all (λ named. has_package index named.name) project.extra ≡ true
    → AreOne (whole_problem env index.packages project names orders) (general (problem_of index.packages project names orders))

abbrev pub IsLawful : Type 0
IsLawful = (env : Env) (index : Index) (project : Project) (names : NameTable) (p : Problem)
    → IsSound env index → list_all (λ named. has_package index named.name) project.extra ≡ true → IsProblemOf index project names p → Lawful p

abbrev pub OneProblem : Type 0
OneProblem = (index : Index) (project : Project) (names others : NameTable) (p q : Problem)
    → IsProblemOf index project names p → IsProblemOf index project others q → (names ≡ others) × (p ≡ q)

-- the trail of an assignment names each variable once
trail-new : (g : General) (A : Assignment) (fuel : ℕ) (trail : List Choice) → AreNew trail → AreNew (trail_from fuel g A trail)
trail-new g A zero trail new = new
trail-new g A (suc fuel) trail new =
    elim (next_var g trail) as (λ o. next_var g trail ≡ o → AreNew (with_next o trail (λ v. with_value (A v) trail (λ n. trail_from fuel g A (trail ++ choice_of v n ∷ []))))) [
      | None ↦ λ e. new
      | Some v ↦ λ e. elim (A v) as (λ o. AreNew (with_value o trail (λ n. trail_from fuel g A (trail ++ choice_of v n ∷ [])))) [
        | None ↦ new
        | Some n ↦ trail-new g A fuel (trail ++ choice_of v n ∷ []) (one_more {before = trail} new (choice_of v n) (next-unchosen g trail v e) refl)
      ]
    ] refl

module _ (g : General) (A : Assignment) (trail : List Choice) (valid : IsWholeValid g A) (is : trail ≡ trail_of g A) where
  passes : Passes A trail
  passes = subst (λ (t : List Choice). Passes A t) (sym is) (passes-trail g A g.bound [] (λ c k. absurd (contains-none c k)))

  -- as an assignment, the trail of a complete, valid assignment is that assignment
  as-map : A ≡ value_in trail
  as-map = passes-all A trail passes (λ v some. subst (λ (t : List Choice). Contains (map (λ (c : Choice). c.var) t) v) (sym is) ((valid.reached v).0 some))

pub is-guide : (picking : Picking) → IsGuide (guide_of picking)
is-guide Least = least-is-guide
is-guide MostMet = most-met-is-guide

module _ (valid : ValidAsWhole) (index : Index) (settings : Settings) (sound : IsSound settings.env index)
    (there : list_all (λ named. has_package index named.name) settings.project.extra ≡ true) (names : NameTable) (p : Problem)
    (is : IsProblemOf index settings.project names p) where
  abbrev whole : General
  whole = whole_problem settings.env index.packages settings.project names is.orders

  whole-is : IsWholeProblem index settings names whole
  whole-is = record {
    numbers = is.numbers;
    orders = is.orders;
    orders_are = is.orders_are;
    problem_is = refl;
  }

  one : AreOne whole (general p)
  one =
      subst (λ q. AreOne whole (general q)) (sym is.problem_is)
      (valid settings.env index settings.project names is.orders sound is.numbers is.orders_are there)

  -- a minimal part is minimal with whole conditions too
  tight-whole : (set : List Var) (shrunk : ShrunkSet) → IsTight (general p) set shrunk → IsTight whole set shrunk
  tight-whole set shrunk tight = record {
    within = tight.within;
    none = λ A h. tight.none A ((one.holds (has shrunk.set) A).0 h);
    freed = zip-more (IsFreed (general p) shrunk.set) (IsFreed whole shrunk.set)
        (λ v choices h. record { once = h.once; holds = (one.holds (has (without v shrunk.set)) (value_in choices)).1 h.holds }) shrunk.set shrunk.maps tight.freed;
  }

  part-whole : (set : List Var) (blame : Blame) → IsBlameOfSet (general p) settings.limit set blame → IsBlameOfSet whole settings.limit set blame
  part-whole set Unasked h = h
  part-whole set (Shrunk shrunk) h = tight-whole set shrunk h
  part-whole set (TooLong spent) h = h

  blame-whole : (minimize : Bool) (set : List Var) (blame : Blame) → IsBlame minimize (general p) settings.limit set blame → IsBlame minimize whole settings.limit set blame
  blame-whole true set blame h = part-whole set blame h
  blame-whole false set blame h = h

  pub failure-whole : (minimize : Bool) (found : Outcome) (blame : Blame) → MeansBlame minimize (general p) settings.limit found blame
      → MeansFailure minimize index settings names found blame
  failure-whole minimize (outcome.Found trail counts) blame h = tt
  failure-whole minimize (outcome.NoPlan set counts) blame h = record { problem = whole; problem_is = whole-is; is_so = blame-whole minimize set blame h }
  failure-whole minimize (outcome.GaveUp counts) blame h = tt

  module _ (right : EndsRight) (valid_ends : EndsValid) (alike : LimitGivesUp) (keeps : IsLawful) where
    lawful : Lawful p
    lawful = keeps settings.env index settings.project names p sound there is

    -- a search that doesn't give up ends as one without a limit
    unlimited-end : (picking : Picking) (e : Ended) → (guided_answer (guide_of picking) p settings.limit).ended ≡ e → (e ≡ GaveUp → ⊥) → (guided_answer (guide_of picking) p Unlimited).ended ≡ e
    unlimited-end picking e ended other =
        let same = alike (guide_of picking) p settings.limit (λ gave. other (sym ended ∙ gave)) in
        ap (λ a. a.ended) (sym same) ∙ ended

    valid-end : (picking : Picking) (e : Ended) → (guided_answer (guide_of picking) p settings.limit).ended ≡ e → (e ≡ GaveUp → ⊥) → IsValidEnd p e
    valid-end picking e ended other = subst (IsValidEnd p) (unlimited-end picking e ended other) (valid_ends p (guide_of picking) lawful (is-guide picking))

    first-found : (trail : List Choice) → (answer_of p settings.limit).ended ≡ Found trail → IsFirstTrail index settings names trail
    first-found trail ended =
        let end = subst (IsRightEnd p) (unlimited-end Least (Found trail) ended (λ gave. cc gave)) (right p lawful) in
        let first : IsFirst whole end.0 = (one.first end.0).1 end.1 in
        let of : trail ≡ trail_of whole end.0 = end.2 ∙ sym (one.trails end.0 first.whole_valid.holds.assignment) in
        let same : end.0 ≡ value_in trail = as-map whole end.0 trail first.whole_valid of in
        record {
          problem = whole;
          problem_is = whole-is;
          new = subst (λ (t : List Choice). AreNew t) (sym of) (trail-new whole end.0 whole.bound [] before_any);
          first = subst (λ (B : Assignment). IsFirst whole B) same first;
          trail_is = subst (λ (B : Assignment). trail ≡ trail_of whole B) same of;
        }

    valid-found : (trail : List Choice) → (guided_answer most_met p settings.limit).ended ≡ Found trail → IsValidTrail index settings names trail
    valid-found trail ended =
        let end = valid-end MostMet (Found trail) ended (λ gave. cc gave) in
        record { problem = whole; problem_is = whole-is; new = end.0; whole_valid = (one.valid (value_in trail)).1 end.1 }

    trail-found : (picking : Picking) (trail : List Choice) → (guided_answer (guide_of picking) p settings.limit).ended ≡ Found trail → MeansTrail picking index settings names trail
    trail-found Least trail ended = first-found trail ended
    trail-found MostMet trail ended = valid-found trail ended

    none-found : (picking : Picking) (set : List Var) → (guided_answer (guide_of picking) p settings.limit).ended ≡ Failed set → AreToBlame index settings names set
    none-found picking set ended =
        let end : AreNone p set = valid-end picking (Failed set) ended (λ gave. cc gave) in
        record {
          problem = whole;
          problem_is = whole-is;
          none = λ A h. end.1 A ((one.valid A).0 h);
          admits_none = λ A h. end.0 A ((one.holds (has set) A).0 h);
        }

    -- a search gives up only at a limit
    at-limit : (picking : Picking) (l : Limit) → (guided_answer (guide_of picking) p l).ended ≡ GaveUp → (most : ℕ) × (l ≡ At most)
    at-limit picking Unlimited ended =
        let none : IsValidEnd p GaveUp = subst (IsValidEnd p) ended (valid_ends p (guide_of picking) lawful (is-guide picking)) in
        absurd none
    at-limit picking (At most) ended = (most, refl)

    gave-up : (picking : Picking) → (guided_answer (guide_of picking) p settings.limit).ended ≡ GaveUp → ReachesLimit picking index settings names
    gave-up picking ended =
        let limited = at-limit picking settings.limit ended in
        record {
          problem = p;
          problem_is = is;
          most = limited.0;
          limit = limited.1;
          ended = ended;
        }

    right-by : (picking : Picking) (e : Ended) (counts : Counts) → (guided_answer (guide_of picking) p settings.limit).ended ≡ e → MeansOutcome picking index settings names (outcome_by e counts)
    right-by picking (Found trail) counts ended = trail-found picking trail ended
    right-by picking (Failed set) counts ended = none-found picking set ended
    right-by picking GaveUp counts ended = gave-up picking ended

    pub right-outcome : (picking : Picking) → MeansOutcome picking index settings names (outcome_of (guided_answer (guide_of picking) p settings.limit))
    right-outcome picking = let answer = guided_answer (guide_of picking) p settings.limit in right-by picking answer.ended (printed answer.past.counts) refl

pub found-right : EndsRight → EndsValid → LimitGivesUp → ValidAsWhole → IsLawful → (picking : Picking) (minimize : Bool) (index : Index) (settings : Settings) (finding : Finding) → IsSound settings.env index
    → list_all (λ named. has_package index named.name) settings.project.extra ≡ true → IsFindingOf picking minimize index settings finding
    → MeansOutcome picking index settings finding.names finding.outcome
found-right right ends alike valid keeps picking minimize index settings finding sound there h =
    subst (MeansOutcome picking index settings finding.names) (sym h.outcome_is) (right-outcome valid index settings sound there finding.names h.problem h.problem_is right ends alike keeps picking)

pub found-one : OneProblem → (picking : Picking) (minimize : Bool) (index : Index) (settings : Settings) (a b : Finding) → IsFindingOf picking minimize index settings a
    → IsFindingOf picking minimize index settings b → a ≡ b
found-one alike picking minimize index settings a b h k =
    let same = alike index settings.project a.names b.names h.problem k.problem h.problem_is k.problem_is in
    let outcome : a.outcome ≡ b.outcome = h.outcome_is ∙ ap (λ (p : Problem). outcome_of (guided_answer (guide_of picking) p settings.limit)) same.1 ∙ sym k.outcome_is in
    let blame : a.blame ≡ b.blame =
    h.blame_is ∙ ap₂ (λ (p : Problem) (o : Outcome). blame_of minimize p settings.limit o) same.1 outcome ∙ sym k.blame_is in
    λ i. record { names = same.0 i; outcome = outcome i; blame = blame i }

-- the finding, by one table of names
module _ (picking : Picking) (minimize : Bool) (index : Index) (settings : Settings) (p : Problem) (names table : NameTable) (is : IsProblemOf index settings.project names p) (same : table ≡ names) where
  pub finding-is : (outcome : Outcome) (blame : Blame) → outcome ≡ outcome_of (guided_answer (guide_of picking) p settings.limit) → blame ≡ blame_of minimize p settings.limit outcome
      → IsFindingOf picking minimize index settings (record { names = table; outcome = outcome; blame = blame })
  finding-is outcome blame found told = record {
    problem = p;
    problem_is = subst (λ (t : NameTable). IsProblemOf index settings.project t p) (sym same) is;
    outcome_is = found;
    blame_is = told;
  }
