-- The invariant of the search.
use Rattle.std.proofs.Common.{◌≡◌, ◌<◌, ◌⊎◌, ◌↔◌, inl, inr, ⊎_elim, ℕ, ◌+◌, Bool, not, List, [], ◌∷◌, ◌++◌, length, get_or, sym, subst, ◌∙◌, arith, length-append}
use Rattle.std.specs.Prelude.{Contains, count_by}
use Rattle.std.proofs.lemmas.List.Elements.{Contains-append_left, Contains-push, Contains-push_cases}
use Rattle.common_laws.specs.Lists.{contains-none}
use Rattle.broken_units.specs.Leads.{IsUser, ReachesMarked, here, over}
use Rattle.common_laws.specs.Graphs.{IsMarked, Needs, marked_within, needs_within}
use Rattle.broken_units.proofs.Marked.{Marks, is_marked}

-- Each marked node reaches an initially marked one. The users of a marked node are marked, or the node waits.
pub record Search (needs : List (List ℕ)) (first led : List Bool) (waiting : List ℕ) : Type 0 where
  pub same : length led ≡ length needs
  pub leads : (i : ℕ) → IsMarked led i → ReachesMarked needs first i
  pub begun : (i : ℕ) → IsMarked first i → IsMarked led i
  pub waits : (i : ℕ) → Contains waiting i → IsMarked led i
  pub closed : (u v : ℕ) → IsMarked led v → Needs needs u v → IsMarked led u ⊎ Contains waiting v

pub search_less : (led led' : List Bool) (rest waiting' : List ℕ) (node : ℕ) → count_by not led' + length waiting' ≡ count_by not led + length rest →
    count_by not led' + length waiting' < count_by not led + length (rest ++ node ∷ [])
search_less led led' rest waiting' node less = omega (arith, less, length-append rest (node ∷ []))

module _ (needs : List (List ℕ)) (first : List Bool) where
  pub search_begins : (waiting : List ℕ) → length first ≡ length needs → ((i : ℕ) → Contains waiting i ↔ IsMarked first i) → Search needs first first waiting
  search_begins waiting same places =
      record {
        same = same;
        leads = λ i m. here m;
        begun = λ i m. m;
        waits = λ i w. (places i).0 w;
        closed = λ u v m n. inr ((places v).1 m);
      }

  module _ (users : List (List ℕ)) (is_user : (u v : ℕ) → IsUser users u v ↔ Needs needs u v × (v < length needs))
      (led led' : List Bool) (rest waiting' : List ℕ) (node : ℕ) (s : Search needs first led (rest ++ node ∷ [])) (m : Marks (get_or users node []) led led' rest waiting') where
    old : (i : ℕ) → IsMarked led i → IsMarked led' i
    old i h = (m.marked i).1 (inl h)

    node_marked : IsMarked led node
    node_marked = s.waits node (Contains-push rest node)

    user_marked : (u : ℕ) → Needs needs u node → IsMarked led' u
    user_marked u n =
        let within : node < length needs = subst (λ k. node < k) s.same (marked_within led node node_marked) in
        (m.marked u).1 (inr ((is_user u node).1 (n, within), subst (λ k. u < k) (sym s.same) (needs_within needs u node n)))

    closed_more : (u v : ℕ) → IsMarked led' v → Needs needs u v → IsMarked led' u ⊎ Contains waiting' v
    closed_more u v h n = ⊎_elim
        (λ k. ⊎_elim (λ w. inl (old u w))
        (λ w. ⊎_elim (λ r. inr ((m.waiting v).1 (inl r))) (λ e. inl (user_marked u (subst (λ x. Needs needs u x) (sym e) n))) (Contains-push_cases rest node v w))
        (s.closed u v k n))
        (λ k. inr ((m.waiting v).1 (inr (h, k))))
        (is_marked led v)

    pub search_goes : Search needs first led' waiting'
    search_goes =
        record {
          same = m.same ∙ s.same;
          leads = λ i h. ⊎_elim (λ o. s.leads i o) (λ e. over node ((is_user i node).0 e.0).0 (s.leads node node_marked)) ((m.marked i).0 h);
          begun = λ i h. old i (s.begun i h);
          waits = λ i h. ⊎_elim (λ r. old i (s.waits i (Contains-append_left rest (node ∷ []) i r))) (λ e. e.0) ((m.waiting i).0 h);
          closed = closed_more;
        }

  module _ (led : List Bool) (s : Search needs first led []) where
    complete : (i : ℕ) → ReachesMarked needs first i → IsMarked led i
    complete i (here m) = s.begun i m
    complete i (over v n l) = ⊎_elim (λ h. h) (λ w. absurd (contains-none v w)) (s.closed i v (complete v l) n)

    pub search_ends : (length led ≡ length needs) × ((i : ℕ) → IsMarked led i ↔ ReachesMarked needs first i)
    search_ends = (s.same, λ i. ((λ h. s.leads i h), λ l. complete i l))
