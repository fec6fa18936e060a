-- The verdict on a choice and the state after it, by the stack of a trail.
use Rattle.std.proofs.Common.{◌≡◌, ℕ, ◌<◌, length, drop, true, List, [], ◌∷◌, ◌++◌, Option, Some, None, find, map, refl, sym, ap, ◌∙◌, subst, append-nil}
use Rattle.std.specs.List.{All}
use Rattle.std.proofs.lemmas.List.Elements.{All-push, All-nil}
use Rattle.std.proofs.Math.Seq.{drop-append_seam}
use Rattle.qualified_goals.specs.declared.variable.Var.{Var}
use Rattle.choice_problem.specs.declared.problem.Choice.{Choice}
use Rattle.choice_problem.specs.declared.problem.Demand.{Demand}
use Rattle.choice_problem.specs.Problem.{Problem, IsChoice, Lawful}
use Rattle.choice_problem.specs.Trail.{value_in, AreNew, demands_after}
use Rattle.choice_problem.specs.Trail.AreNew.{before_any, one_more}
use Rattle.choice_problem.specs.Active.{made_active, active, is_open}
use Rattle.choice_problem.specs.Conflict.{barred_set, refuses, refused_set, is_broken, broken_set, set_of_first, lasting_sets, lasting_set, first_set, conflict}
use Rattle.choice_problem.specs.ConflictSet.{has}
use Rattle.choice_problem.proofs.ActiveDemands.{active-push}
use Rattle.choice_problem.proofs.SearchEnds.{lasting-start}
use Rattle.choice_problem.proofs.FirstSets.{front-some, front-none, rest-none}
pub use Rattle.demand_agreement.proofs.Disagreements.{none-from}
use Rattle.validation.specs.View.{View, Represents, listed_counts, counts_before, view_of}
use Rattle.validation.specs.Pending.{count_before}
use Rattle.choice_stack.specs.Stack.{made, turned}
use Rattle.validation.specs.Verdict.{set_after}
use Rattle.choice_stack.proofs.StackLemmas.{seen-same}
use Rattle.validation.proofs.Weighed.{before-is}
use Rattle.validation.proofs.NextViews.{after-push, made-turned, counts-push, listed-push, known-open}

-- a choice that a stack may try
pub record Ready (p : Problem) (x : View) (c : Choice) : Type 0 where
  pub stands : Represents p x
  pub choice : IsChoice p c
  pub free : value_in x.trail c.var ≡ None
  pub asked : has (map (λ d. d.target) x.active) c.var ≡ true

pub active-is : (p : Problem) (x : View) → Represents p x → x.active ≡ active p x.trail
active-is p x h = ap (λ (s : View). s.active) h.same

pub ready : (p : Problem) (x : View) (now : View) (c : Choice) → Lawful p → x ≡ now → Represents p now → is_open p now.trail c.var ≡ true
    → c.val < p.domain c.var → Ready p x c
ready p x now c lawful is stands asked value =
    let mine : Represents p x = subst (λ (s : View). Represents p s) (sym is) stands in
    let found = known-open p x.trail c.var lawful mine.choices (ap (λ (s : View). is_open p s.trail c.var) is ∙ asked) in
    record {
      stands = mine;
      choice = record { variable = found.known; value = value };
      free = found.free;
      asked = ap (λ (ds : List Demand). has (map (λ d. d.target) ds) c.var) (active-is p x mine) ∙ found.asked;
    }

made-active : (p : Problem) (x y : View) (c : Choice) (demands : List Demand) → Ready p x c → demands ≡ p.demands c → y ≡ made x c demands → y.active ≡ x.active ++ made_active p x.trail c
made-active p x y c demands h d e =
    let listed : x.listed ≡ demands_after p x.trail = ap (λ (s : View). s.listed) h.stands.same in
    ap (λ (s : View). s.active) e
    ∙ ap (λ l. x.active ++ turned (x.trail ++ c ∷ []) c.var l) (ap (λ l. l ++ demands) listed ∙ ap (λ l. demands_after p x.trail ++ l) d)
    ∙ ap (λ l. x.active ++ l) (sym (made-turned p x.trail c h.free))

pub after-is : (p : Problem) (x y : View) (c : Choice) (demands : List Demand) → Ready p x c → demands ≡ p.demands c → y ≡ made x c demands → y.active ≡ active p (x.trail ++ c ∷ [])
after-is p x y c demands h d e =
    made-active p x y c demands h d e ∙ ap (λ l. l ++ made_active p x.trail c) (active-is p x h.stands) ∙ sym (active-push p x.trail c)

pub fresh-is : (p : Problem) (x y : View) (c : Choice) (demands : List Demand) (before : ℕ) → Ready p x c → demands ≡ p.demands c → y ≡ made x c demands → before ≡ length x.active
    → drop before y.active ≡ made_active p x.trail c
fresh-is p x y c demands before h d e count =
    ap (drop before) (made-active p x y c demands h d e) ∙ ap (λ n. drop n (x.active ++ made_active p x.trail c)) count ∙ drop-append_seam x.active (made_active p x.trail c)

pub stands-made : (p : Problem) (x y : View) (c : Choice) (demands : List Demand) → Ready p x c → demands ≡ p.demands c → y ≡ made x c demands → lasting_set y.trail y.active ≡ None → Represents p y
stands-made p x y c demands h d e lasting =
    let trail : y.trail ≡ x.trail ++ c ∷ [] = ap (λ (s : View). s.trail) e in
    let listed : y.listed ≡ demands_after p (x.trail ++ c ∷ []) =
    ap (λ (s : View). s.listed) e ∙ ap (λ l. l ++ demands) (ap (λ (s : View). s.listed) h.stands.same) ∙ ap (λ l. demands_after p x.trail ++ l) d
    ∙ sym (after-push p x.trail c) in
    let after : y.active ≡ active p (x.trail ++ c ∷ []) = after-is p x y c demands h d e in
    let counts : y.active_before ≡ counts_before p [] (x.trail ++ c ∷ []) =
    ap (λ (s : View). s.active_before) e ∙ ap (λ l. l ++ length x.active ∷ []) (ap (λ (s : View). s.active_before) h.stands.same)
    ∙ ap (λ l. counts_before p [] x.trail ++ length l ∷ []) (active-is p x h.stands) ∙ sym (counts-push p x.trail c) in
    let were : y.listed_before ≡ listed_counts p [] (x.trail ++ c ∷ []) =
    ap (λ (s : View). s.listed_before) e ∙ ap (λ l. l ++ length x.listed ∷ []) (ap (λ (s : View). s.listed_before) h.stands.same)
    ∙ ap (λ l. listed_counts p [] x.trail ++ length l ∷ []) (ap (λ (s : View). s.listed) h.stands.same) ∙ sym (listed-push p x.trail c) in
    let same : y ≡ view_of p (x.trail ++ c ∷ []) =
    seen-same y.trail (x.trail ++ c ∷ []) y.listed (demands_after p (x.trail ++ c ∷ [])) y.active (active p (x.trail ++ c ∷ [])) y.listed_before
    (listed_counts p [] (x.trail ++ c ∷ [])) y.active_before (counts_before p [] (x.trail ++ c ∷ [])) trail listed after were counts in
    record {
      choices = subst (λ (t : List Choice). All (IsChoice p) t) (sym trail) (All-push (IsChoice p) x.trail c h.stands.choices h.choice);
      new = one_more {before = x.trail} h.stands.new c h.free trail;
      same = same ∙ ap (view_of p) (sym trail);
      lasting = lasting;
    }

-- the set of the rules on the value and the demands active before it
abbrev pub early : Problem → View → Choice → List (Option (List Var))
early p x c = barred_set p c ∷ set_of_first (find (refuses c) x.active) ∷ []

-- the sets of the rules on the demands that came with it
abbrev pub late : View → ℕ → List (Option (List Var))
late y before = set_of_first (find (is_broken y.trail) (drop before y.active)) ∷ lasting_sets y.trail y.active

early-is : (p : Problem) (x : View) (c : Choice) → Ready p x c → early p x c ≡ barred_set p c ∷ refused_set p x.trail c ∷ []
early-is p x c h = ap (λ (l : List Demand). barred_set p c ∷ set_of_first (find (refuses c) l) ∷ []) (active-is p x h.stands)

late-is : (p : Problem) (x y : View) (c : Choice) (demands : List Demand) (before : ℕ) → Ready p x c → demands ≡ p.demands c → y ≡ made x c demands → before ≡ length x.active
    → late y before ≡ broken_set p x.trail c ∷ lasting_sets (x.trail ++ c ∷ []) (active p (x.trail ++ c ∷ []))
late-is p x y c demands before h d e count =
    ap (λ (t : List Choice). set_of_first (find (is_broken t) (drop before y.active)) ∷ lasting_sets t y.active) (ap (λ (s : View). s.trail) e)
    ∙ ap (λ (l : List Demand). set_of_first (find (is_broken (x.trail ++ c ∷ [])) l) ∷ lasting_sets (x.trail ++ c ∷ []) y.active) (fresh-is p x y c demands before h d e count)
    ∙ ap (λ (l : List Demand). broken_set p x.trail c ∷ lasting_sets (x.trail ++ c ∷ []) l) (after-is p x y c demands h d e)

pub conflict-early : (p : Problem) (x : View) (c : Choice) (set : List Var) → Ready p x c → Some set ≡ first_set (early p x c) → conflict p x.trail c ≡ Some set
unfolding conflict
conflict-early p x c set h e =
    front-some (barred_set p c ∷ refused_set p x.trail c ∷ []) (broken_set p x.trail c ∷ lasting_sets (x.trail ++ c ∷ []) (active p (x.trail ++ c ∷ []))) set
    (ap first_set (sym (early-is p x c h)) ∙ sym e)

conflict-late : (p : Problem) (x y : View) (c : Choice) (demands : List Demand) (before : ℕ) (o : Option (List Var)) → Ready p x c → demands ≡ p.demands c → y ≡ made x c demands
    → before ≡ length x.active → None ≡ first_set (early p x c) → o ≡ first_set (late y before) → conflict p x.trail c ≡ o
unfolding conflict
conflict-late p x y c demands before o h d e count none is =
    front-none (barred_set p c ∷ refused_set p x.trail c ∷ []) (broken_set p x.trail c ∷ lasting_sets (x.trail ++ c ∷ []) (active p (x.trail ++ c ∷ [])))
    (ap first_set (sym (early-is p x c h)) ∙ sym none)
    ∙ sym (is ∙ ap first_set (late-is p x y c demands before h d e count))

-- where the early rules allow a choice, its conflict is the first set of the other rules on the stack with it
pub conflict-weighed : (p : Problem) (x : View) (c : Choice) (demands : List Demand) (o : Option (List Var)) → Ready p x c → demands ≡ p.demands c
    → None ≡ first_set (early p x c) → o ≡ set_after (made x c demands) → conflict p x.trail c ≡ o
conflict-weighed p x c demands o h d none is =
    conflict-late p x (made x c demands) c demands (count_before (made x c demands)) o h d refl (before-is x c demands) none is

pub none-lasting : (y : View) (before : ℕ) → None ≡ first_set (late y before) → lasting_set y.trail y.active ≡ None
none-lasting y before h = rest-none (set_of_first (find (is_broken y.trail) (drop before y.active)) ∷ []) (lasting_sets y.trail y.active) (sym h)

-- before any choice

pub stands-new : (p : Problem) (x : View) (roots : List Demand) → Lawful p → roots ≡ p.roots
    → x ≡ record { trail = []; listed = roots; active = roots; listed_before = []; active_before = [] } → Represents p x
unfolding active
stands-new p x roots lawful is e =
    let trail : x.trail ≡ [] = ap (λ (s : View). s.trail) e in
    let listed : x.listed ≡ p.roots ++ [] = ap (λ (s : View). s.listed) e ∙ is ∙ sym (append-nil p.roots) in
    let acts : x.active ≡ p.roots ++ [] = ap (λ (s : View). s.active) e ∙ is ∙ sym (append-nil p.roots) in
    let counts : x.active_before ≡ [] = ap (λ (s : View). s.active_before) e in
    let were : x.listed_before ≡ [] = ap (λ (s : View). s.listed_before) e in
    let same : x ≡ view_of p [] =
    seen-same x.trail [] x.listed (p.roots ++ []) x.active (p.roots ++ []) x.listed_before [] x.active_before [] trail listed acts were counts in
    record {
      choices = subst (λ (t : List Choice). All (IsChoice p) t) (sym trail) (All-nil (IsChoice p));
      new = subst (λ (t : List Choice). AreNew t) (sym trail) before_any;
      same = same ∙ ap (view_of p) (sym trail);
      lasting =
          ap (λ (t : List Choice). lasting_set t x.active) trail
          ∙ ap (λ (ds : List Demand). lasting_set [] ds) acts ∙ lasting-start p lawful;
    }
