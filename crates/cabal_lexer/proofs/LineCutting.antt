-- Shared: lines parse up to a cut, or fail.
use Rattle.std.proofs.Common.{◌≡◌, ℕ, zero, suc, ◌+◌, ◌<◌, Bool, true, false, List, [], ◌∷◌, ◌++◌, length, take, drop, refl, sym, ◌∙◌, ap, subst, arith, append_assoc, append-nil, length-append}
use Rattle.std.proofs.lemmas.List.{take-append-drop}
use Rattle.std.specs.declared.result.Result.{Result}
use Rattle.std.specs.declared.result.Result.TheVariants.{Ok, Err}
use Rattle.plan_types.specs.declared.element.Element.{Element}
use Rattle.plan_types.specs.declared.refusal.Cause.{Cause}
use Rattle.cabal_lexer.specs.Lines.{Line}
use Rattle.cabal_lexer.specs.Opening.{Opening, field, braced_field, section, braced_section, opening, within}
use Rattle.cabal_lexer.specs.Layout.{ends, Ends, Inside, Stands, Block, run, braced_run, indented, enclosed, Fails, misfit, open_run, open_items, in_indented, in_enclosed, Begins, Cut}
use Rattle.cabal_lexer.proofs.Runs.{run_len, run_take, run_drop, closes-from_ends}
use Rattle.cabal_lexer.proofs.Blocks.{cut_none, cut_more, fails_more}

pub data Verdict (bound depth : ℕ) (braced : Bool) (lines : List Line) : Type 0 where
  stands_cut : {items : List Element} {rest : List Line} → Cut bound depth braced lines items rest → Verdict bound depth braced lines
  fails_at : {at : Line} {cause : Cause} → Fails bound depth braced lines at cause → Verdict bound depth braced lines

abbrev Judge : ℕ → Type 0
Judge n = (bound depth : ℕ) (braced : Bool) (lines : List Line) → length lines < n → Verdict bound depth braced lines

module _ (n bound depth : ℕ) (braced : Bool) (line : Line) (go : Judge n) (e : ends bound braced line ≡ false) where
  past_block : {block after : List Line} {item : Element} (more : List Line) → more ≡ block ++ after → Block depth braced line block after item →
      length more < n → Verdict bound depth braced (line ∷ more)
  past_block {block} {after} more whole b l =
      let lens = ap length whole ∙ length-append block after in
      elim (go bound depth braced after (omega arith)) [
        | stands_cut c ↦ stands_cut (cut_more e whole b c)
        | fails_at f ↦ fails_at (fails_more e whole b f)
      ]

  past_braced_run : {name : List ℕ} (values rest : List Line) → Begins depth line (braced_field name) → Inside 0 true values → Ends 0 true rest →
      length (values ++ rest) < n → Verdict bound depth braced (line ∷ values ++ rest)
  past_braced_run values [] b i x l = subst (λ v. Verdict bound depth braced (line ∷ v)) (sym (append-nil values)) (fails_at (open_run line values e b i))
  past_braced_run values (close ∷ rest) b i x l =
      past_block (values ++ close ∷ rest) (sym (append_assoc values (close ∷ []) rest)) (braced_run values close b i (closes-from_ends close x)) l

  past_enclosed : {name args : List ℕ} {items : List Element} (block rest : List Line) → Begins depth line (braced_section name args) →
      Stands 0 (depth + 1) true block items → Ends 0 true rest → length (block ++ rest) < n → Verdict bound depth braced (line ∷ block ++ rest)
  past_enclosed block [] b s x l = subst (λ v. Verdict bound depth braced (line ∷ v)) (sym (append-nil block)) (fails_at (open_items line block e b s))
  past_enclosed block (close ∷ rest) b s x l =
      past_block (block ++ close ∷ rest) (sym (append_assoc block (close ∷ []) rest)) (enclosed block close b s (closes-from_ends close x)) l

  past_opening : (more : List Line) (r : Result Opening Cause) → within depth (opening line.text) ≡ r → length more < n → Verdict bound depth braced (line ∷ more)
  past_opening more (Err cause) b l = fails_at (misfit line more e b)
  past_opening more (Ok (field name first)) b l =
      let k = run_len (line.indent + 1) braced more in
      past_block more (sym (take-append-drop k more)) (run b (run_take (line.indent + 1) braced more) (run_drop (line.indent + 1) braced more)) l
  past_opening more (Ok (braced_field name)) b l =
      let k = run_len 0 true more in
      let whole = take-append-drop k more in
      subst (λ v. Verdict bound depth braced (line ∷ v)) whole
      (past_braced_run (take k more) (drop k more) b (run_take 0 true more) (run_drop 0 true more) (subst (λ v. length v < n) (sym whole) l))
  past_opening more (Ok (section name args)) b l =
      elim (go (line.indent + 1) (depth + 1) braced more l) [
        | stands_cut c ↦ past_block more c.whole (indented b c.stands c.ended) l
        | fails_at f ↦ fails_at (in_indented line more e b f)
      ]
  past_opening more (Ok (braced_section name args)) b l =
      elim (go 0 (depth + 1) true more l) [
        | stands_cut c ↦ subst (λ v. Verdict bound depth braced (line ∷ v)) (sym c.whole)
            (past_enclosed c.front _ b c.stands c.ended (subst (λ v. length v < n) c.whole l))
        | fails_at f ↦ fails_at (in_enclosed line more e b f)
      ]

judged : (n bound depth : ℕ) (braced : Bool) (line : Line) (more : List Line) → Judge n → length more < n → (b : Bool) → ends bound braced line ≡ b →
    Verdict bound depth braced (line ∷ more)
judged n bound depth braced line more go l true e = stands_cut (cut_none bound depth braced (line ∷ more) e)
judged n bound depth braced line more go l false e = past_opening n bound depth braced line go e more (within depth (opening line.text)) refl l

pub judge : (n : ℕ) → Judge n
judge zero bound depth braced lines l = absurd (omega arith)
judge (suc n) bound depth braced [] l = stands_cut (cut_none bound depth braced [] tt)
judge (suc n) bound depth braced (line ∷ more) l =
    judged n bound depth braced line more (judge n) (omega arith) (ends bound braced line) refl
