-- One element, and the elements of the lines after it.
use Rattle.std.proofs.Common.{◌≡◌, ℕ, ◌+◌, Bool, false, List, [], ◌∷◌, ◌++◌, refl, sym, ◌∙◌, ap, subst, append_assoc, append-nil}
use Rattle.plan_types.specs.declared.element.Element.{Element}
use Rattle.plan_types.specs.declared.refusal.Cause.{Cause}
use Rattle.cabal_lexer.specs.Lines.{Line}
use Rattle.cabal_lexer.specs.Layout.{ends, Ends, nothing, element, Block, run, braced_run, indented, enclosed, Fails, later, Cut, IsElement}
use Rattle.cabal_lexer.proofs.Runs.{Ends-front}

-- a block is also one before another rest that ends it
pub block_before : {depth : ℕ} {braced : Bool} {line : Line} {block rest : List Line} {item : Element} → Block depth braced line block rest item →
    (other : List Line) → (Ends (line.indent + 1) braced rest → Ends (line.indent + 1) braced other) → Block depth braced line block other item
block_before (run b i x) other t = run b i (t x)
block_before (braced_run values close b i c) other t = braced_run values close b i c
block_before (indented b s x) other t = indented b s (t x)
block_before (enclosed block close b s c) other t = enclosed block close b s c

pub cut_none : (bound depth : ℕ) (braced : Bool) (rest : List Line) → Ends bound braced rest → Cut bound depth braced rest [] rest
cut_none bound depth braced rest e = record { front = []; whole = refl; stands = nothing; ended = e }

module _ {bound depth : ℕ} {braced : Bool} {line : Line} {block more after : List Line} {item : Element}
    (e : ends bound braced line ≡ false) (whole : more ≡ block ++ after) (b : Block depth braced line block after item) where
  pub cut_more : {items : List Element} {rest : List Line} → Cut bound depth braced after items rest → Cut bound depth braced (line ∷ more) (item ∷ items) rest
  cut_more {rest = rest} cut = record {
    front = line ∷ block ++ cut.front;
    whole = ap (λ v. line ∷ v) (whole ∙ ap (λ v. block ++ v) cut.whole ∙ sym (append_assoc block cut.front rest));
    stands = element line block cut.front e
        (block_before b cut.front (λ k. Ends-front _ braced cut.front rest (subst (λ v. Ends (line.indent + 1) braced v) cut.whole k))) cut.stands;
    ended = cut.ended;
  }

  pub fails_more : {at : Line} {cause : Cause} → Fails bound depth braced after at cause → Fails bound depth braced (line ∷ more) at cause
  fails_more {at} {cause} f = subst (λ v. Fails bound depth braced (line ∷ v) at cause) (sym whole) (later line block after e b f)

-- The lines parse as the front, followed by the items of the rest. If the rest fails, the lines fail.
pub record Leads (bound depth : ℕ) (braced : Bool) (lines : List Line) (front : List Element) (rest : List Line) : Type 0 where
  pub cut : (items : List Element) (end : List Line) → Cut bound depth braced rest items end → Cut bound depth braced lines (front ++ items) end
  pub fails : (at : Line) (cause : Cause) → Fails bound depth braced rest at cause → Fails bound depth braced lines at cause

pub leads_start : (bound depth : ℕ) (braced : Bool) (lines : List Line) → Leads bound depth braced lines [] lines
leads_start bound depth braced lines = record { cut = λ items end c. c; fails = λ at cause f. f }

pub leads_more : (bound depth : ℕ) (braced : Bool) (lines : List Line) (front : List Element) (line : Line) (more : List Line) (item : Element) (after : List Line) →
    Leads bound depth braced lines front (line ∷ more) → ends bound braced line ≡ false → IsElement depth braced line more item after →
    Leads bound depth braced lines (front ++ item ∷ []) after
leads_more bound depth braced lines front line more item after leads e is = record {
  cut = λ items end c. subst (λ v. Cut bound depth braced lines v end) (sym (append_assoc front (item ∷ []) items)) (leads.cut (item ∷ items) end (cut_more e is.whole is.is c));
  fails = λ at cause f. leads.fails at cause (fails_more e is.whole is.is f);
}

pub leads_end : (bound depth : ℕ) (braced : Bool) (lines : List Line) (front : List Element) (rest : List Line) → Leads bound depth braced lines front rest →
    Ends bound braced rest → Cut bound depth braced lines front rest
leads_end bound depth braced lines front rest leads e = subst (λ v. Cut bound depth braced lines v rest) (append-nil front) (leads.cut [] rest (cut_none bound depth braced rest e))
