-- A file has at most one answer, at most one refusal, and never both.
use Rattle.std.proofs.Common.{◌≡◌, ◌⊎◌, inl, inr, ℕ, ◌<◌, ◌≤◌, List, refl, sym, ◌∙◌, ap, subst, arith}
use Rattle.std.specs.Prelude.{Result, Ok, Err, length}
use Rattle.plan_types.specs.declared.element.Element.{Element}
use Rattle.plan_types.specs.declared.refusal.Cause.{Cause}
use Rattle.cabal_lexer.specs.Canonical.{canonical}
use Rattle.older_layout.specs.OlderTree.{IsOlderTree, IsOlderFault}
use Rattle.older_fields.specs.Flat.{file_limit}
use Rattle.older_rules.specs.Modern.{IsModern}
use Rattle.older_rules.specs.declared.change.Change.{Change}
use Rattle.older_rules.specs.declared.modern.Modern.{Modern}
use Rattle.older_headers.specs.declared.answer.Answer.{Answer}
use Rattle.older_headers.specs.declared.answer.Answer.TheVariants.{Unchanged, Rewritten}
use Rattle.older_headers.specs.Answers.{IsAnswer, IsMade, IsRefusal, IsRuledOut, IsSaid, IsUnsaid, Says}

-- ---- the laws of the crates below

abbrev pub OneTree : Type 0
OneTree = (bytes : List ℕ) (a b : List Element) → IsOlderTree bytes a → IsOlderTree bytes b → a ≡ b

abbrev pub OneFault : Type 0
OneFault = (bytes : List ℕ) (n m : ℕ) (c d : Cause) → IsOlderFault bytes n c → IsOlderFault bytes m d → (n ≡ m) × (c ≡ d)

abbrev pub TreeOrFault : Type 0
TreeOrFault = (bytes : List ℕ) (items : List Element) (line : ℕ) (cause : Cause) → IsOlderTree bytes items → IsOlderFault bytes line cause → ⊥

abbrev pub OneOutcome : Type 0
OneOutcome = (items : List Element) (a b : Result Modern (ℕ × Cause)) → IsModern items a → IsModern items b → a ≡ b

-- ---- what the rules made

ok_or : Modern → Result Modern (ℕ × Cause) → Modern
ok_or other (Ok modern) = modern
ok_or other (Err at) = other

err_or : ℕ × Cause → Result Modern (ℕ × Cause) → ℕ × Cause
err_or other (Ok modern) = other
err_or other (Err at) = at

IsOk : Result Modern (ℕ × Cause) → Type 0
IsOk (Ok modern) = Unit
IsOk (Err at) = ⊥

-- one file has one outcome of the rules
one_ruled : OneTree → OneOutcome → (bytes : List ℕ) (a b : List Element) (r s : Result Modern (ℕ × Cause)) → IsOlderTree bytes a → IsOlderTree bytes b → IsModern a r → IsModern b s → r ≡ s
one_ruled tree rules bytes a b r s ta tb ra sb = rules a r s ra (subst (λ items. IsModern items s) (sym (tree bytes a b ta tb)) sb)

one_made : OneTree → OneOutcome → (bytes : List ℕ) (m n : Modern) → IsMade bytes m → IsMade bytes n → m ≡ n
unfolding ok_or
one_made tree rules bytes m n p q = ap (ok_or m) (one_ruled tree rules bytes p.older q.older (Ok m) (Ok n) p.tree q.tree p.rules q.rules)

never_ruled_out : OneTree → OneOutcome → (bytes : List ℕ) (m : Modern) (line : ℕ) (cause : Cause) → IsMade bytes m → IsRuledOut bytes line cause → ⊥
unfolding IsOk
never_ruled_out tree rules bytes m line cause p q =
    subst IsOk (one_ruled tree rules bytes p.older q.older (Ok m) (Err (line, cause)) p.tree q.tree p.rules q.rules) tt

-- ---- answers

one_said : (m n : Modern) (t u : List ℕ) (c d : List Change) → m ≡ n → IsSaid m (Rewritten t c) → IsSaid n (Rewritten u d) → Rewritten t c ≡ Rewritten u d
one_said m n t u c d e p q =
    ap (λ x. Rewritten x c) (p.0 ∙ ap (λ x. canonical x.items) e ∙ sym q.0) ∙ ap (Rewritten u) (p.3 ∙ ap (λ x. x.changes) e ∙ sym q.3)

pub one_answer : OneTree → OneOutcome → (bytes : List ℕ) (a b : Answer) → IsAnswer bytes a → IsAnswer bytes b → a ≡ b
one_answer tree rules bytes Unchanged Unchanged p q = refl
one_answer tree rules bytes Unchanged (Rewritten u d) p q = absurd (q.0 p)
one_answer tree rules bytes (Rewritten t c) Unchanged p q = absurd (p.0 q)
one_answer tree rules bytes (Rewritten t c) (Rewritten u d) p q =
    let (unread, m, made, said) = p in
    let (unread', n, made', said') = q in
    one_said m n t u c d (one_made tree rules bytes m n made made') said said'

not_both : (n : ℕ) → file_limit < n → n ≤ file_limit → ⊥
not_both n p q = grind arith

-- ---- refusals

pub record Below : Type 0 where
  pub tree : OneTree
  pub fault : OneFault
  pub either : TreeOrFault
  pub rules : OneOutcome

abbrev Unsaid : List ℕ → ℕ → Cause → Type 0
Unsaid bytes line cause = (modern : Modern) × IsMade bytes modern × IsUnsaid modern line cause

one_ruled_out : Below → (bytes : List ℕ) (n m : ℕ) (c d : Cause) → IsRuledOut bytes n c → IsRuledOut bytes m d → (n ≡ m) × (c ≡ d)
unfolding err_or
one_ruled_out laws bytes n m c d p q =
    let e = ap (err_or (n, c)) (one_ruled laws.tree laws.rules bytes p.older q.older (Err (n, c)) (Err (m, d)) p.tree q.tree p.rules q.rules) in
    (ap (λ x. x.0) e, ap (λ x. x.1) e)

one_unsaid : (m : Modern) (n k : ℕ) (c d : Cause) → IsUnsaid m n c → IsUnsaid m k d → (n ≡ k) × (c ≡ d)
one_unsaid m n k c d (inl p) (inl q) = (p.1 ∙ sym q.1, p.2 ∙ sym q.2)
one_unsaid m n k c d (inl p) (inr q) = absurd (not_both (length (canonical m.items)) p.0 q.0)
one_unsaid m n k c d (inr p) (inl q) = absurd (not_both (length (canonical m.items)) q.0 p.0)
one_unsaid m n k c d (inr p) (inr q) = (p.2 ∙ sym q.2, p.3 ∙ sym q.3)

one_unsayable : Below → (bytes : List ℕ) (n k : ℕ) (c d : Cause) → Unsaid bytes n c → Unsaid bytes k d → (n ≡ k) × (c ≡ d)
one_unsayable laws bytes n k c d (m, made, unsaid) (m', made', unsaid') =
    one_unsaid m n k c d unsaid (subst (λ x. IsUnsaid x k d) (sym (one_made laws.tree laws.rules bytes m m' made made')) unsaid')

one_refused : Below → (bytes : List ℕ) (n m : ℕ) (c d : Cause) → IsOlderFault bytes n c ⊎ (IsRuledOut bytes n c ⊎ Unsaid bytes n c)
    → IsOlderFault bytes m d ⊎ (IsRuledOut bytes m d ⊎ Unsaid bytes m d) → (n ≡ m) × (c ≡ d)
one_refused laws bytes n m c d (inl f) (inl g) = laws.fault bytes n m c d f g
one_refused laws bytes n m c d (inl f) (inr (inl r)) = absurd (laws.either bytes r.older n c r.tree f)
one_refused laws bytes n m c d (inl f) (inr (inr (modern, made, unsaid))) = absurd (laws.either bytes made.older n c made.tree f)
one_refused laws bytes n m c d (inr (inl r)) (inl g) = absurd (laws.either bytes r.older m d r.tree g)
one_refused laws bytes n m c d (inr (inr (modern, made, unsaid))) (inl g) = absurd (laws.either bytes made.older m d made.tree g)
one_refused laws bytes n m c d (inr (inl r)) (inr (inl s)) = one_ruled_out laws bytes n m c d r s
one_refused laws bytes n m c d (inr (inl r)) (inr (inr (modern, made, unsaid))) = absurd (never_ruled_out laws.tree laws.rules bytes modern n c made r)
one_refused laws bytes n m c d (inr (inr (modern, made, unsaid))) (inr (inl s)) = absurd (never_ruled_out laws.tree laws.rules bytes modern m d made s)
one_refused laws bytes n m c d (inr (inr u)) (inr (inr v)) = one_unsayable laws bytes n m c d u v

pub one_refusal : Below → (bytes : List ℕ) (n m : ℕ) (c d : Cause) → IsRefusal bytes n c → IsRefusal bytes m d → (n ≡ m) × (c ≡ d)
one_refusal laws bytes n m c d (unread, p) (unread', q) = one_refused laws bytes n m c d p q

-- ---- never both

never_unsaid : (m : Modern) (t : List ℕ) (changes : List Change) (line : ℕ) (cause : Cause) → IsSaid m (Rewritten t changes) → IsUnsaid m line cause → ⊥
never_unsaid m t changes line cause (is, small, says, are) (inl p) = not_both (length (canonical m.items)) p.0 (subst (λ x. length x ≤ file_limit) is small)
never_unsaid m t changes line cause (is, small, says, are) (inr p) = p.1 (subst (λ x. Says x m.items) is says)

never_refused : OneTree → TreeOrFault → OneOutcome → (bytes t : List ℕ) (changes : List Change) (line : ℕ) (cause : Cause) (m : Modern) → IsMade bytes m
    → IsSaid m (Rewritten t changes) → IsOlderFault bytes line cause ⊎ (IsRuledOut bytes line cause ⊎ Unsaid bytes line cause) → ⊥
never_refused tree either rules bytes t changes line cause m made said (inl f) = either bytes made.older line cause made.tree f
never_refused tree either rules bytes t changes line cause m made said (inr (inl r)) = never_ruled_out tree rules bytes m line cause made r
never_refused tree either rules bytes t changes line cause m made said (inr (inr (n, made', unsaid))) =
    never_unsaid m t changes line cause said (subst (λ x. IsUnsaid x line cause) (one_made tree rules bytes n m made' made) unsaid)

pub answer_or_refusal : OneTree → TreeOrFault → OneOutcome → (bytes : List ℕ) (answer : Answer) (line : ℕ) (cause : Cause) → IsAnswer bytes answer
    → IsRefusal bytes line cause → ⊥
answer_or_refusal tree either rules bytes Unchanged line cause read (unread, p) = unread read
answer_or_refusal tree either rules bytes (Rewritten t changes) line cause (unread', m, made, said) (unread, p) =
    never_refused tree either rules bytes t changes line cause m made said p
