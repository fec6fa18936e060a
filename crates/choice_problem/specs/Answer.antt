-- What a search finds from a prefix, its counts, and the conflict sets on its way. A guide picks the variables.
use Rattle.std.specs.Prelude.{ℕ, zero, suc, ◌+◌, min, nat_le, Bool, true, false, cond, not, ◌&&◌, List, [], ◌∷◌, ◌++◌, Option, Some, None}
use Rattle.plan_types.specs.declared.limit.Limit.{Limit}
use Rattle.plan_types.specs.declared.limit.Limit.TheVariants.{Unlimited, At}
use Rattle.qualified_goals.specs.declared.variable.Var.{Var}
use Rattle.choice_problem.specs.declared.problem.Choice.{Choice}
use Rattle.choice_problem.specs.declared.outcome.Counts.{Counts}
use Rattle.choice_problem.specs.declared.outcome.Outcome.{Outcome}
use Rattle.choice_problem.specs.declared.outcome.Outcome.TheVariants as outcome
use Rattle.choice_problem.specs.Problem.{Problem}
use Rattle.choice_problem.specs.Trail.{choice_of, with_next}
use Rattle.choice_problem.specs.Active.{open_in, reason}
use Rattle.choice_problem.specs.Conflict.{conflict}
use Rattle.choice_problem.specs.ConflictSet.{has, set_of, union}
use Rattle.choice_problem.specs.Guide.{Guide, least, cap}

-- the end of a search: a trail, a set that admits none, or the limit reached
pub data Ended : Type 0 where
  Found : List Choice → Ended
  Failed : List Var → Ended
  GaveUp : Ended

-- the counts of a search so far, and its conflict sets so far, the last one first
pub record Past : Type 0 where
  pub counts : Counts
  pub met : List (List Var)

-- the end of a search, with its counts and conflict sets
pub record Answer : Type 0 where
  pub ended : Ended
  pub past : Past

-- the parameters of a search: its guide, its limit on exhausted points, and whether it backjumps
pub record Manner : Type 0 where
  pub guide : Guide
  pub limit : Limit
  pub jumps : Bool

-- how many values were tried, and how many points exhausted
abbrev pub counts_of : ℕ → ℕ → Counts
counts_of visited exhausted = record { visited = visited; exhausted = exhausted }

-- one more try
abbrev pub one_visited : Past → Past
one_visited past = record { counts = counts_of (past.counts.visited + 1) past.counts.exhausted; met = past.met }

-- one more exhausted point, up to cap
abbrev pub one_exhausted : Past → Past
one_exhausted past = record { counts = counts_of past.counts.visited (min (past.counts.exhausted + 1) cap); met = past.met }

-- one more conflict set
abbrev pub one_met : List Var → Past → Past
one_met set past = record { counts = past.counts; met = set ∷ past.met }

-- whether the number of exhausted points has reached the limit
abbrev pub is_reached : Limit → ℕ → Bool
is_reached Unlimited exhausted = false
is_reached (At n) exhausted = nat_le n exhausted

-- whether the limit ends the search at this point; the first point never does
abbrev pub gives_up : Limit → List Choice → ℕ → Bool
gives_up limit [] exhausted = false
gives_up limit (c ∷ prefix) exhausted = is_reached limit exhausted

-- a value or a point fails with this set
abbrev pub fails : List Var → Past → Answer
fails set past = record { ended = Failed set; past = one_met set past }

-- all values of a point have failed, and this is the union of their sets
abbrev pub exhausts : Manner → Problem → List Choice → Var → List Var → Past → Answer
exhausts manner p prefix v failed past =
    cond (gives_up manner.limit prefix past.counts.exhausted)
    (record { ended = GaveUp; past = past })
    (fails (union failed (set_of (v ∷ reason p prefix v))) (one_exhausted past))

-- a conflict fails with its set; without one, the search goes on below
abbrev pub after_conflict : Option (List Var) → Past → Answer → Answer
after_conflict None past below = below
after_conflict (Some set) past below = fails set past

-- the answer of one value of a point, already counted as tried; Below answers longer prefixes
abbrev pub of_value : (List Choice → Past → Answer) → Problem → List Choice → Choice → Past → Answer
of_value Below p prefix c past = after_conflict (conflict p prefix c) past (Below (prefix ++ c ∷ []) past)

-- the answer of a point after this end of one value; with jumps, a set without the point's variable leaves the point
abbrev pub after_end : Manner → Var → Ended → Past → (List Var → Past → Answer) → Answer
after_end manner v (Found trail) past rest = record { ended = Found trail; past = past }
after_end manner v GaveUp past rest = record { ended = GaveUp; past = past }
after_end manner v (Failed set) past rest = cond (manner.jumps && not (has set v)) (record { ended = Failed set; past = past }) (rest set past)

-- the answer of a point after this answer of one value; rest answers the later values
abbrev pub after_value : Manner → Var → Answer → (List Var → Past → Answer) → Answer
after_value manner v answer rest = after_end manner v answer.ended answer.past rest

-- the answer of a point with these values left, and the union of the sets of those that failed
abbrev pub of_values : (List Choice → Past → Answer) → Manner → Problem → List Choice → Var → List ℕ → List Var → Past → Answer
of_values Below manner p prefix v [] failed past = exhausts manner p prefix v failed past
of_values Below manner p prefix v (n ∷ values) failed past =
    after_value manner v (of_value Below p prefix (choice_of v n) (one_visited past))
    (λ set now. of_values Below manner p prefix v values (union failed set) now)

-- the answer of a prefix that at most fuel choices may follow
abbrev pub answer_from : ℕ → Manner → Problem → List Choice → Past → Answer
answer_from zero manner p prefix past = record { ended = Found prefix; past = past }
answer_from (suc fuel) manner p prefix past =
    with_next (manner.guide past.met (open_in p prefix)) (record { ended = Found prefix; past = past })
    (λ v. of_values (answer_from fuel manner p) manner p prefix v (p.order v prefix) [] past)

-- no counts and no conflict sets yet
abbrev pub nothing_yet : Past
nothing_yet = record { counts = counts_of 0 0; met = [] }

-- the answer of a search with a guide and a limit
unfoldable pub guided_answer : Guide → Problem → Limit → Answer
guided_answer guide p limit = answer_from p.bound (record { guide = guide; limit = limit; jumps = true }) p [] nothing_yet

-- the answer of a search with a limit that picks the least open variable
abbrev pub answer_of : Problem → Limit → Answer
answer_of p limit = guided_answer least p limit

-- the tries of such a search without a limit and without backjumps
unfoldable pub plain_count : Problem → ℕ
plain_count p = (answer_from p.bound (record { guide = least; limit = Unlimited; jumps = false }) p [] nothing_yet).past.counts.visited

-- counts as they are printed, at most cap
abbrev pub printed : Counts → Counts
printed counts = counts_of (min counts.visited cap) counts.exhausted

-- the outcome of an end and counts
abbrev pub outcome_by : Ended → Counts → Outcome
outcome_by (Found trail) counts = outcome.Found trail counts
outcome_by (Failed set) counts = outcome.NoPlan set counts
outcome_by GaveUp counts = outcome.GaveUp counts

-- the outcome of an answer
abbrev pub outcome_of : Answer → Outcome
outcome_of answer = outcome_by answer.ended (printed answer.past.counts)
