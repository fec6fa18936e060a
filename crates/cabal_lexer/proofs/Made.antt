-- The elements that the code makes.
use Rattle.std.proofs.Common.{◌≡◌, ℕ, zero, suc, ◌+◌, ◌<◌, ◌≤◌, Bool, true, false, List, [], ◌∷◌, ◌++◌, length, take, drop, refl, sym, ◌∙◌, ap, subst, arith, append_assoc, append-nil}
use Rattle.std.proofs.Math.Seq.{take-length, drop-length}
use Rattle.std.proofs.lemmas.List.{take-append-drop}
use Rattle.std.proofs.lemmas.List.Sums.{prefix_len-le-length}
use Rattle.std.specs.Prelude.{not}
use Rattle.plan_types.specs.declared.element.Element.{Element}
use Rattle.plan_types.specs.declared.element.Element.TheVariants.{Field, Section}
use Rattle.plan_types.specs.declared.refusal.Cause.{Cause}
use Rattle.plan_types.specs.declared.refusal.Cause.TheVariants.{UnclosedBrace}
use Rattle.plan_types.specs.declared.refusal.Fault.{Fault}
use Rattle.plan_types.specs.declared.refusal.Fault.TheVariants as faults
use Rattle.cabal_lexer.specs.Lines.{Line}
use Rattle.cabal_lexer.specs.Opening.{field, braced_field, section, braced_section}
use Rattle.cabal_lexer.specs.Layout.{closes, ends, Ends, Inside, Begins, texts, first_value, Stands, run, braced_run, indented, enclosed, Fails, open_run, open_items, IsElement, Cut, At}
use Rattle.cabal_lexer.proofs.Runs.{run_len, run_take, run_drop, closes-from_ends}

pub run_len-le : (bound : ℕ) (braced : Bool) (lines : List Line) → run_len bound braced lines ≤ length lines
run_len-le bound braced lines = prefix_len-le-length (λ line. not (ends bound braced line)) lines

nil-from_drop : (lines : List Line) (n : ℕ) → n ≡ length lines → drop n lines ≡ []
nil-from_drop lines n e = ap (λ k. drop k lines) e ∙ drop-length lines

-- the line after the first n
pub line_at : (lines : List Line) (n : ℕ) → n < length lines → (line : Line) × (drop n lines ≡ line ∷ drop (n + 1) lines)
line_at [] n l = absurd (omega arith)
line_at (line ∷ lines) zero l = (line, refl)
line_at (line ∷ lines) (suc n) l =
    let next = line_at lines n (omega arith) in
    let one_more : suc (n + 1) ≡ suc n + 1 = omega arith in
    (next.0, next.1 ∙ ap (λ k. next.0 ∷ drop k (line ∷ lines)) one_more)

module _ (depth : ℕ) (braced : Bool) (line : Line) (more : List Line) (number : ℕ) (text : List ℕ) (number_is : number ≡ line.number) where
  pub made_field : (name first : List ℕ) (values : List (List ℕ)) (n : ℕ) (front : List Line) → text ≡ name → n ≡ run_len (line.indent + 1) braced more →
      front ≡ take n more → values ≡ first_value first ++ texts front → Begins depth line (field name first) →
      IsElement depth braced line more (Field number text values) (drop n more)
  made_field name first values n front t k f v b =
      rw number_is (rw t (rw v (rw f (rw k (record {
        block = take (run_len (line.indent + 1) braced more) more;
        whole = sym (take-append-drop (run_len (line.indent + 1) braced more) more);
        is = run b (run_take (line.indent + 1) braced more) (run_drop (line.indent + 1) braced more);
      })))))

  pub made_braced_field : (name : List ℕ) (values : List (List ℕ)) (n : ℕ) (front : List Line) → text ≡ name → n ≡ run_len 0 true more →
      front ≡ take n more → n < length more → values ≡ texts front → Begins depth line (braced_field name) →
      IsElement depth braced line more (Field number text values) (drop (n + 1) more)
  made_braced_field name values n front t k f l v b =
      let next = line_at more n l in
      let inside : Inside 0 true front = subst (λ w. Inside 0 true w) (sym (f ∙ ap (λ j. take j more) k)) (run_take 0 true more) in
      let ended : Ends 0 true (drop n more) = subst (λ j. Ends 0 true (drop j more)) (sym k) (run_drop 0 true more) in
      let close : closes next.0 ≡ true = closes-from_ends next.0 (subst (λ w. Ends 0 true w) next.1 ended) in
      rw number_is (rw t (rw v (record {
        block = front ++ next.0 ∷ [];
        whole = sym (take-append-drop n more) ∙ ap (λ w. w ++ drop n more) (sym f) ∙ ap (λ w. front ++ w) next.1 ∙ sym (append_assoc front (next.0 ∷ []) (drop (n + 1) more));
        is = braced_run front next.0 b inside close;
      })))

pub open_field : (bound depth : ℕ) (braced : Bool) (line : Line) (more : List Line) (name : List ℕ) (n : ℕ) → n ≡ run_len 0 true more →
    n ≡ length more → ends bound braced line ≡ false → Begins depth line (braced_field name) → Fails bound depth braced (line ∷ more) line UnclosedBrace
open_field bound depth braced line more name n k l e b =
    let all : take (run_len 0 true more) more ≡ more = ap (λ j. take j more) (sym k ∙ l) ∙ take-length more in
    open_run line more e b (subst (λ w. Inside 0 true w) all (run_take 0 true more))

module _ (depth : ℕ) (braced : Bool) (line : Line) (more : List Line) (number : ℕ) (text given : List ℕ) (number_is : number ≡ line.number) where
  pub made_section : (name args : List ℕ) (items : List Element) (bound : ℕ) (rest : List Line) → text ≡ name → given ≡ args → bound ≡ line.indent →
      Cut (bound + 1) (depth + 1) braced more items rest → Begins depth line (section name args) → IsElement depth braced line more (Section number text given items) rest
  made_section name args items bound rest t g i cut b =
      let c = subst (λ n. Cut (n + 1) (depth + 1) braced more items rest) i cut in
      rw number_is (rw t (rw g (record { block = c.front; whole = c.whole; is = indented b c.stands c.ended })))

  pub made_braced_section : (name args : List ℕ) (items : List Element) (n : ℕ) → text ≡ name → given ≡ args →
      Cut 0 (depth + 1) true more items (drop n more) → n < length more → Begins depth line (braced_section name args) →
      IsElement depth braced line more (Section number text given items) (drop (n + 1) more)
  made_braced_section name args items n t g c l b =
      let next = line_at more n l in
      let close : closes next.0 ≡ true = closes-from_ends next.0 (subst (λ w. Ends 0 true w) next.1 c.ended) in
      rw number_is (rw t (rw g (record {
        block = c.front ++ next.0 ∷ [];
        whole = c.whole ∙ ap (λ w. c.front ++ w) next.1 ∙ sym (append_assoc c.front (next.0 ∷ []) (drop (n + 1) more));
        is = enclosed c.front next.0 b c.stands close;
      })))

pub open_section : (bound depth : ℕ) (braced : Bool) (line : Line) (more : List Line) (name args : List ℕ) (items : List Element) (n : ℕ) →
    Cut 0 (depth + 1) true more items (drop n more) → n ≡ length more → ends bound braced line ≡ false → Begins depth line (braced_section name args) →
    Fails bound depth braced (line ∷ more) line UnclosedBrace
open_section bound depth braced line more name args items n c l e b =
    let all : c.front ≡ more = sym (c.whole ∙ ap (λ v. c.front ++ v) (nil-from_drop more n l) ∙ append-nil c.front) in
    open_items line more e b (subst (λ v. Stands 0 (depth + 1) true v items) all c.stands)

-- a fault with one property has a weaker one
pub At-map : {P Q : Line → Cause → Type 0} (fault : Fault) → ((at : Line) (cause : Cause) → P at cause → Q at cause) → At P fault → At Q fault
At-map faults.NoMemory f p = tt
At-map (faults.At number cause) f p = (p.0, p.1, f p.0 cause p.2)
