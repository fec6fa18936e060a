-- The definitions on small problems, computed.
use Rattle.std.specs.Prelude.{◌≡◌, ℕ, zero, suc, true, false, cond, ◌||◌, nat_eq, List, [], ◌∷◌, Option, Some, None, refl}
use Rattle.std.proofs.Common.{arith, ap}
use Rattle.plan_types.specs.declared.limit.Limit.TheVariants.{Unlimited, At}
use Rattle.qualified_goals.specs.declared.variable.Qual.TheVariants.{Top}
use Rattle.qualified_goals.specs.declared.variable.Part.TheVariants.{Package, Flag}
use Rattle.qualified_goals.specs.declared.variable.Var.{Var}
use Rattle.choice_problem.specs.declared.problem.Choice.{Choice}
use Rattle.choice_problem.specs.declared.problem.Demand.{Demand}
use Rattle.choice_problem.specs.declared.written.WrittenVar.{WrittenVar}
use Rattle.choice_problem.specs.declared.outcome.Outcome.TheVariants as outcome
use Rattle.choice_problem.specs.Problem.{Problem}
use Rattle.choice_problem.specs.Assignment.{Assignment, is_yes, is_met}
use Rattle.choice_problem.specs.General.{general}
use Rattle.choice_problem.specs.Trail.{AreOfDifferentVars, open_vars, next_var, trail_of, choice_of}
use Rattle.choice_problem.specs.Valid.{ComesBefore}
use Rattle.choice_problem.specs.ConflictSet.{set_of, has}
use Rattle.choice_problem.specs.Active.{made_active, active, reason}
use Rattle.choice_problem.specs.Conflict.{circular, first_clash, conflict}
use Rattle.choice_problem.specs.Guide.{most_met}
use Rattle.choice_problem.specs.Answer.{counts_of, guided_answer, answer_of, plain_count, outcome_of}
use Rattle.choice_problem.specs.Written.{problem_of}

-- a package at top level, and one of its flags, by their numbers
abbrev package_var : ℕ → Var
package_var n = record { qual = Top; «package» = n; part = Package }

abbrev flag_var : ℕ → ℕ → Var
flag_var n m = record { qual = Top; «package» = n; part = Flag m }

abbrev choice : ℕ → ℕ → Choice
choice n m = choice_of (package_var n) m

-- a package with this order of values, none of them barred
abbrev values : ℕ → List ℕ → WrittenVar
values n order = record { var = package_var n; order = order; barred = [] }

-- a root, and a demand of one owner
abbrev root : ℕ → List ℕ → Demand
root n allowed = record { when = []; target = package_var n; allowed = allowed }

abbrev asks : Choice → ℕ → List ℕ → Demand
asks owner n allowed = record { when = owner ∷ []; target = package_var n; allowed = allowed }

-- an assignment by the packages' numbers
abbrev by_number : (ℕ → Option ℕ) → Assignment
by_number numbers v = numbers v.«package»

-- A late goal. Packages in goal order: a, b, c, main, and a fifth without values. main demands b and c; b's value 1
-- demands c's value 0, which demands the fifth; b's value 0 demands a.
abbrev a : ℕ
a = 0

abbrev b : ℕ
b = 1

abbrev c : ℕ
c = 2

abbrev main : ℕ
main = 3

abbrev gone : ℕ
gone = 4

abbrev late : Problem
late = problem_of
    (values a (1 ∷ 0 ∷ []) ∷ values b (1 ∷ 0 ∷ []) ∷ values c (1 ∷ 0 ∷ []) ∷ values main (0 ∷ []) ∷ values gone [] ∷ [])
    (root main (0 ∷ []) ∷ [])
    (asks (choice main 0) b (0 ∷ 1 ∷ []) ∷ asks (choice main 0) c (0 ∷ 1 ∷ []) ∷ asks (choice b 1) c (0 ∷ [])
    ∷ asks (choice b 0) a (0 ∷ 1 ∷ []) ∷ asks (choice c 0) gone [] ∷ [])

-- main, then b's value 0, then a, which is smaller in goal order and opens late, then c
abbrev plan : Assignment
plan = by_number (λ n. cond (nat_eq n main) (Some 0) (cond (nat_eq n b) (Some 0) (cond (nat_eq n a) (Some 1) (cond (nat_eq n c) (Some 1) None))))

abbrev plan_trail : List Choice
plan_trail = choice main 0 ∷ choice b 0 ∷ choice a 1 ∷ choice c 1 ∷ []

pub late_trail : trail_of (general late) plan ≡ plan_trail
unfolding open_vars
late_trail = refl

-- its choices are of different variables; a choice of b's other value behind them would be of b again
pub two_apart : AreOfDifferentVars (choice main 0 ∷ choice b 0 ∷ [])
two_apart zero zero d low high = absurd (omega (arith, low))
two_apart zero (suc zero) d low high = λ same. omega (arith, ap (λ (v : Var). v.«package») same)
two_apart zero (suc (suc j)) d low high = absurd (omega (arith, high))
two_apart (suc i) zero d low high = absurd (omega (arith, low))
two_apart (suc i) (suc j) d low high = absurd (omega (arith, low, high))

pub b_again : AreOfDifferentVars (choice main 0 ∷ choice b 0 ∷ choice a 1 ∷ choice b 1 ∷ []) → ⊥
b_again apart = apart 1 3 (choice main 0) (omega arith) (omega arith) refl

-- before any choice main alone is open, and then b, before c
pub first_open : next_var (general late) [] ≡ Some (package_var main)
unfolding open_vars
first_open = refl

pub a_opens : next_var (general late) (choice main 0 ∷ choice b 0 ∷ []) ≡ Some (package_var a)
unfolding open_vars
a_opens = refl

pub none_open : next_var (general late) plan_trail ≡ None
unfolding open_vars
none_open = refl

-- without a value for a the trail ends before c
abbrev short : Assignment
short = by_number (λ n. cond (nat_eq n main || nat_eq n b) (Some 0) (cond (nat_eq n c) (Some 1) None))

pub short_trail : trail_of (general late) short ≡ choice main 0 ∷ choice b 0 ∷ []
unfolding open_vars
short_trail = refl

-- b's value 1 demands c's value 0: the demand is Yes and isn't met
abbrev clash : Assignment
clash = by_number (λ n. cond (nat_eq n main) (Some 0) (cond (nat_eq n b || nat_eq n c) (Some 1) None))

pub clash_yes : is_yes clash (asks (choice b 1) c (0 ∷ [])) ≡ true
clash_yes = refl

pub clash_unmet : is_met clash (asks (choice b 1) c (0 ∷ [])) ≡ false
clash_unmet = refl

-- a demand whose condition is made in part alone isn't Yes
pub partly_made : is_yes clash (record { when = choice b 1 ∷ choice c 0 ∷ []; target = package_var a; allowed = [] }) ≡ false
partly_made = refl

-- c's value 1 is the better one: the plan comes before the same with c's value 0
abbrev worse : Assignment
worse = by_number (λ n. cond (nat_eq n main || nat_eq n b || nat_eq n c) (Some 0) (cond (nat_eq n a) (Some 1) None))

pub better : ComesBefore (general late) plan worse
unfolding open_vars
better = record {
  common = choice main 0 ∷ choice b 0 ∷ choice a 1 ∷ [];
  var = package_var c;
  of_A = 1;
  of_B = 0;
  rest_of_A = [];
  rest_of_B = [];
  trail_of_A = refl;
  trail_of_B = refl;
  earlier = ([], [], [], refl);
}

-- the search tries seven values: b's value 1 makes c's value 1 break a demand, and c's value 0 asks for what is gone
pub late_found : outcome_of (answer_of late Unlimited) ≡ outcome.Found plan_trail (counts_of 7 2)
unfolding guided_answer open_vars reason conflict circular first_clash made_active active
late_found = refl

-- sets are in goal order, with each variable once
pub set : set_of (package_var 2 ∷ package_var 0 ∷ flag_var 0 1 ∷ package_var 2 ∷ []) ≡ package_var 0 ∷ flag_var 0 1 ∷ package_var 2 ∷ []
set = refl

pub in_set : has (set_of (package_var 2 ∷ package_var 0 ∷ [])) (package_var 1) ≡ false
in_set = refl

-- A demand of an earlier owner that becomes active late. The package 0 demands 1 and, with its flag on, 2, which
-- demands 3; the package 1 demands 2 and then 3.
abbrev flagged : Demand
flagged = record { when = choice 0 0 ∷ choice_of (flag_var 0 0) 1 ∷ []; target = package_var 2; allowed = 1 ∷ [] }

abbrev flag_root : Demand
flag_root = record { when = []; target = flag_var 0 0; allowed = 0 ∷ 1 ∷ [] }

abbrev order : Problem
order = problem_of
    (values 0 (0 ∷ []) ∷ record { var = flag_var 0 0; order = 1 ∷ 0 ∷ []; barred = [] } ∷ values 1 (0 ∷ []) ∷ values 2 (0 ∷ []) ∷ values 3 (0 ∷ []) ∷ [])
    (root 0 (0 ∷ []) ∷ flag_root ∷ [])
    (flagged ∷ asks (choice 0 0) 1 (0 ∷ []) ∷ asks (choice 1 0) 2 (0 ∷ []) ∷ [])

-- the flag is chosen last: the flagged demand comes first in its owner's list, and is active last
abbrev flag_last : List Choice
flag_last = choice 0 0 ∷ choice 1 0 ∷ choice_of (flag_var 0 0) 1 ∷ []

pub active_late : active order flag_last ≡ root 0 (0 ∷ []) ∷ flag_root ∷ asks (choice 0 0) 1 (0 ∷ []) ∷ asks (choice 1 0) 2 (0 ∷ []) ∷ flagged ∷ []
unfolding made_active active
active_late = refl

-- so the reason of 2 is 1, which demanded it first
pub first_reason : reason order flag_last (package_var 2) ≡ package_var 1 ∷ []
unfolding made_active active reason
first_reason = refl

-- and with the flag before 1 it is 0 and the flag
pub flag_reason : reason order (choice 0 0 ∷ choice_of (flag_var 0 0) 1 ∷ choice 1 0 ∷ []) (package_var 2) ≡ package_var 0 ∷ flag_var 0 0 ∷ []
unfolding made_active active reason
flag_reason = refl

-- The four rules of a conflict.

abbrev rules : Problem
rules = problem_of
    (values 0 (0 ∷ []) ∷ record { var = package_var 1; order = 0 ∷ 1 ∷ 2 ∷ []; barred = 2 ∷ [] } ∷ values 2 (0 ∷ []) ∷ [])
    (root 0 (0 ∷ []) ∷ root 2 (0 ∷ []) ∷ [])
    (asks (choice 0 0) 1 (0 ∷ 2 ∷ []) ∷ asks (choice 1 0) 2 [] ∷ [])

pub by_bar : conflict rules (choice 0 0 ∷ []) (choice 1 2) ≡ Some (package_var 1 ∷ [])
unfolding conflict circular first_clash made_active active
by_bar = refl

-- the package 0 is active already and doesn't allow 1's value 1
pub by_refusal : conflict rules (choice 0 0 ∷ []) (choice 1 1) ≡ Some (package_var 0 ∷ package_var 1 ∷ [])
unfolding conflict circular first_clash made_active active
by_refusal = refl

-- the demand of 1's value 0 becomes active, and doesn't allow what 2 has
pub by_breach : conflict rules (choice 0 0 ∷ choice 2 0 ∷ []) (choice 1 0) ≡ Some (package_var 1 ∷ package_var 2 ∷ [])
unfolding conflict circular first_clash made_active active
by_breach = refl

-- while 2 isn't chosen, the demand breaks no rule
pub no_conflict : conflict rules (choice 0 0 ∷ []) (choice 1 0) ≡ None
unfolding conflict circular first_clash made_active active
no_conflict = refl

-- 0 asks for 1, which asks back where its flag is on: the set of the cycle has the flag, and 3 lies on none
abbrev asks_back : Demand
asks_back = record { when = choice 1 0 ∷ choice_of (flag_var 1 0) 1 ∷ []; target = package_var 0; allowed = 0 ∷ [] }

abbrev ring : Problem
ring = problem_of
    (values 0 (0 ∷ []) ∷ values 1 (0 ∷ []) ∷ record { var = flag_var 1 0; order = 1 ∷ 0 ∷ []; barred = [] } ∷ values 3 (0 ∷ []) ∷ [])
    (root 0 (0 ∷ []) ∷ [])
    (asks (choice 0 0) 1 (0 ∷ []) ∷ asks (choice 0 0) 3 (0 ∷ [])
    ∷ record { when = choice 1 0 ∷ []; target = flag_var 1 0; allowed = 0 ∷ 1 ∷ [] } ∷ asks_back ∷ [])

pub by_cycle : conflict ring (choice 0 0 ∷ choice 1 0 ∷ []) (choice_of (flag_var 1 0) 1) ≡ Some (package_var 0 ∷ package_var 1 ∷ flag_var 1 0 ∷ [])
unfolding conflict circular first_clash made_active active
by_cycle = refl

pub off_cycle : conflict ring (choice 0 0 ∷ choice 1 0 ∷ []) (choice_of (flag_var 1 0) 0) ≡ None
unfolding conflict circular first_clash made_active active
off_cycle = refl

-- Backjumps and counts. The packages 0 to 2 are asked for, and what 3 asks for isn't allowed by 0's only value, so that
-- the points of 1 and 2 are left at once.
abbrev far : Problem
far = problem_of
    (values 0 (0 ∷ 1 ∷ []) ∷ values 1 (0 ∷ 1 ∷ []) ∷ values 2 (0 ∷ 1 ∷ []) ∷ values 3 (0 ∷ []) ∷ [])
    (root 0 (0 ∷ 1 ∷ []) ∷ root 1 (0 ∷ 1 ∷ []) ∷ root 2 (0 ∷ 1 ∷ []) ∷ root 3 (0 ∷ []) ∷ [])
    (asks (choice 3 0) 0 [] ∷ [])

-- each value of 0 tries 1, 2 and 3 once: three exhausted points, of which the last is the first one
pub far_failed : outcome_of (answer_of far Unlimited) ≡ outcome.NoPlan (package_var 0 ∷ package_var 3 ∷ []) (counts_of 8 3)
unfolding guided_answer open_vars reason conflict circular first_clash made_active active
far_failed = refl

-- without backjumps there are more tries
pub far_plain : plain_count far ≡ 22
unfolding plain_count open_vars reason conflict circular first_clash made_active active
far_plain = refl

-- the limit 1 is reached at the second exhausted point, which isn't counted
pub far_limit : outcome_of (answer_of far (At 1)) ≡ outcome.GaveUp (counts_of 8 1)
unfolding guided_answer open_vars reason conflict circular first_clash made_active active
far_limit = refl

-- the limit 2 is reached at the first point alone, which never gives up
pub first_point : outcome_of (answer_of far (At 2)) ≡ outcome.NoPlan (package_var 0 ∷ package_var 3 ∷ []) (counts_of 8 3)
unfolding guided_answer open_vars reason conflict circular first_clash made_active active
first_point = refl

-- By what was met. In the late goal c is in the set by which b's value 1 fails, and so it comes before a; there are as many tries.
pub late_counted : outcome_of (guided_answer most_met late Unlimited) ≡ outcome.Found (choice main 0 ∷ choice b 0 ∷ choice c 1 ∷ choice a 1 ∷ []) (counts_of 7 2)
unfolding guided_answer open_vars reason conflict circular first_clash made_active active
late_counted = refl

-- 0's first value fails by what 3 asks for, and with the second one 3 comes before 1 and 2
pub far_counted : outcome_of (guided_answer most_met far Unlimited) ≡ outcome.NoPlan (package_var 0 ∷ package_var 3 ∷ []) (counts_of 6 3)
unfolding guided_answer open_vars reason conflict circular first_clash made_active active
far_counted = refl

-- of two with equal scores the lesser is picked, and a variable with a greater score before both
pub least_of_equals : most_met ((package_var 1 ∷ package_var 2 ∷ []) ∷ []) (package_var 0 ∷ package_var 1 ∷ package_var 2 ∷ []) ≡ Some (package_var 1)
least_of_equals = refl

pub more_often : most_met ((package_var 1 ∷ package_var 2 ∷ []) ∷ (package_var 2 ∷ []) ∷ []) (package_var 0 ∷ package_var 1 ∷ package_var 2 ∷ []) ≡ Some (package_var 2)
more_often = refl
