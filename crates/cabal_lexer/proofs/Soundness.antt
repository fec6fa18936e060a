-- Lines that fail are sound up to the line of the fault, and unsound with it.
use Rattle.std.proofs.Common.{◌≡◌, ℕ, ◌+◌, Bool, true, false, List, [], ◌∷◌, ◌++◌, refl, sym, ◌∙◌, ap, subst, append_assoc, append-nil}
use Rattle.std.specs.Prelude.{◌&&◌}
use Rattle.std.specs.List.{list_all}
use Rattle.std.proofs.lemmas.List.Folds.{list_all-append}
use Rattle.std.specs.declared.result.Result.TheVariants.{Ok, Err}
use Rattle.plan_types.specs.declared.element.Element.{Element}
use Rattle.plan_types.specs.declared.element.Element.TheVariants.{Section}
use Rattle.plan_types.specs.declared.refusal.Cause.{Cause}
use Rattle.plan_types.specs.declared.refusal.Cause.TheVariants.{UnclosedBrace}
use Rattle.cabal_lexer.specs.Lines.{Line}
use Rattle.cabal_lexer.specs.Opening.{Opening, is_lone, opening, within}
use Rattle.cabal_lexer.specs.Layout.{closes, ends, Ends, Stands, nothing, element, Block, braced_run, indented, enclosed, Fails, misfit, open_run, open_items, in_indented, in_enclosed, later}
use Rattle.cabal_lexer.proofs.Blocks.{block_before}

-- the lines `}` that close the open braces at the end of some lines
pub record Closing (bound depth : ℕ) (braced : Bool) (front whole : List Line) : Type 0 where
  pub closers : List Line
  pub close : list_all closes closers ≡ true
  pub items : List Element
  pub stands : Stands bound depth braced (front ++ closers) items
  pub head : (b : ℕ) (c : Bool) → Ends b c whole → Ends b c (front ++ closers)

pub record Misfits (bound depth : ℕ) (braced : Bool) (lines : List Line) (at : Line) (cause : Cause) : Type 0 where
  pub front : List Line
  pub rest : List Line
  pub whole : lines ≡ front ++ at ∷ rest
  pub closing : Closing bound depth braced front (front ++ at ∷ rest)
  pub inner : ℕ
  pub because : within inner (opening at.text) ≡ Err cause
  pub again : (others : List Line) → Fails bound depth braced (front ++ at ∷ others) at cause

pub data Split (bound depth : ℕ) (braced : Bool) (lines : List Line) (at : Line) (cause : Cause) : Type 0 where
  misfits : Misfits bound depth braced lines at cause → Split bound depth braced lines at cause
  left_open : cause ≡ UnclosedBrace → Closing bound depth braced lines lines → Split bound depth braced lines at cause

the_close : Line
the_close = record { number = 0; indent = 0; text = 125 ∷ [] }

the_close-closes : closes the_close ≡ true
unfolding the_close is_lone
the_close-closes = refl

Ends-swap : (front : List Line) (at : Line) (rest others : List Line) (b : ℕ) (c : Bool) → Ends b c (front ++ at ∷ rest) → Ends b c (front ++ at ∷ others)
Ends-swap [] at rest others b c h = h
Ends-swap (line ∷ front) at rest others b c h = h

-- one element that takes all lines
stands_one : {bound depth : ℕ} {braced : Bool} {item : Element} (line : Line) (block : List Line) → ends bound braced line ≡ false → Block depth braced line block [] item →
    Stands bound depth braced (line ∷ block) (item ∷ [])
stands_one {bound} {depth} {braced} {item} line block e b =
    subst (λ v. Stands bound depth braced (line ∷ v) (item ∷ [])) (append-nil block) (element line block [] e b nothing)

-- one element that lacks its closing brace alone
one_open : {bound depth : ℕ} {braced : Bool} {item : Element} (line : Line) (block : List Line) → ends bound braced line ≡ false → Block depth braced line (block ++ the_close ∷ []) [] item →
    Closing bound depth braced (line ∷ block) (line ∷ block)
one_open line block e b = record {
  closers = the_close ∷ [];
  close = ap (λ v. v && true) the_close-closes;
  items = _;
  stands = stands_one line (block ++ the_close ∷ []) e b;
  head = λ _ _ h. h;
}

in_section : {bound depth : ℕ} {braced : Bool} (line : Line) {name args : List ℕ} (front whole : List Line) → ends bound braced line ≡ false →
    within depth (opening line.text) ≡ Ok (Opening.section name args) → Closing (line.indent + 1) (depth + 1) braced front whole → Closing bound depth braced (line ∷ front) (line ∷ whole)
in_section line front whole e b c = record {
  closers = c.closers;
  close = c.close;
  items = _;
  stands = stands_one line (front ++ c.closers) e (indented b c.stands tt);
  head = λ _ _ h. h;
}

in_braces : {bound depth : ℕ} {braced : Bool} (line : Line) {name args : List ℕ} (front whole : List Line) → ends bound braced line ≡ false →
    within depth (opening line.text) ≡ Ok (Opening.braced_section name args) → Closing 0 (depth + 1) true front whole → Closing bound depth braced (line ∷ front) (line ∷ whole)
in_braces {bound} {depth} {braced} line {name} {args} front whole e b c = record {
  closers = c.closers ++ the_close ∷ [];
  close = list_all-append closes c.closers (the_close ∷ []) ∙ ap (λ v. v && list_all closes (the_close ∷ [])) c.close ∙ ap (λ v. v && true) the_close-closes;
  items = Section line.number name args c.items ∷ [];
  stands = subst (λ v. Stands bound depth braced (line ∷ v) (Section line.number name args c.items ∷ [])) (append_assoc front c.closers (the_close ∷ []))
      (stands_one line ((front ++ c.closers) ++ the_close ∷ []) e (enclosed (front ++ c.closers) the_close b c.stands the_close-closes));
  head = λ _ _ h. h;
}

behind : {bound depth : ℕ} {braced : Bool} {item : Element} (line : Line) (block rest front whole : List Line) → ends bound braced line ≡ false →
    Block depth braced line block rest item → rest ≡ whole → Closing bound depth braced front whole → Closing bound depth braced (line ∷ block ++ front) (line ∷ block ++ whole)
behind {bound} {depth} {braced} {item} line block rest front whole e b w c = record {
  closers = c.closers;
  close = c.close;
  items = item ∷ c.items;
  stands = subst (λ v. Stands bound depth braced (line ∷ v) (item ∷ c.items)) (sym (append_assoc block front c.closers))
      (element line block (front ++ c.closers) e (block_before b (front ++ c.closers) (λ k. c.head _ braced (subst (λ v. Ends (line.indent + 1) braced v) w k))) c.stands);
  head = λ _ _ h. h;
}

-- a section splits where the lines inside it do
in_body : {bound depth bound' depth' : ℕ} {braced braced' : Bool} {at : Line} {cause : Cause} (line : Line) (lines : List Line)
    → ((front whole : List Line) → Closing bound' depth' braced' front whole → Closing bound depth braced (line ∷ front) (line ∷ whole))
    → ((others : List Line) → Fails bound' depth' braced' others at cause → Fails bound depth braced (line ∷ others) at cause)
    → Split bound' depth' braced' lines at cause → Split bound depth braced (line ∷ lines) at cause
in_body line lines closed fails (misfits m) = misfits (record {
  front = line ∷ m.front;
  rest = m.rest;
  whole = ap (λ v. line ∷ v) m.whole;
  closing = closed m.front _ m.closing;
  inner = m.inner;
  because = m.because;
  again = λ others. fails _ (m.again others);
})
in_body line lines closed fails (left_open is c) = left_open is (closed lines lines c)

pub split : {bound depth : ℕ} {braced : Bool} {lines : List Line} {at : Line} {cause : Cause} → Fails bound depth braced lines at cause → Split bound depth braced lines at cause
split {bound} {depth} {braced} (misfit {cause = cause} line rest e b) = misfits (record {
  front = [];
  rest = rest;
  whole = refl;
  closing = record { closers = []; close = refl; items = []; stands = nothing; head = λ _ _ _. tt };
  inner = depth;
  because = b;
  again = λ others. misfit line others e b;
})
split (open_run line values e b i) = left_open refl (one_open line values e (braced_run values the_close b i the_close-closes))
split (open_items line block e b s) = left_open refl (one_open line block e (enclosed block the_close b s the_close-closes))
split (in_indented line lines e b f) = in_body line lines (λ front whole. in_section line front whole e b) (λ others. in_indented line others e b) (split f)
split (in_enclosed line lines e b f) = in_body line lines (λ front whole. in_braces line front whole e b) (λ others. in_enclosed line others e b) (split f)
split {bound} {depth} {braced} (later {at = at} {cause = cause} line block rest e b f) = elim (split f) [
  | misfits m ↦ misfits (record {
    front = line ∷ block ++ m.front;
    rest = m.rest;
    whole = ap (λ v. line ∷ block ++ v) m.whole ∙ ap (λ v. line ∷ v) (sym (append_assoc block m.front (at ∷ m.rest)));
    closing = subst (λ v. Closing bound depth braced (line ∷ block ++ m.front) (line ∷ v)) (sym (append_assoc block m.front (at ∷ m.rest)))
        (behind line block rest m.front (m.front ++ at ∷ m.rest) e b m.whole m.closing);
    inner = m.inner;
    because = m.because;
    again = λ others. subst (λ v. Fails bound depth braced (line ∷ v) at cause) (sym (append_assoc block m.front (at ∷ others)))
        (later line block (m.front ++ at ∷ others) e
        (block_before b (m.front ++ at ∷ others) (λ k. Ends-swap m.front at m.rest others _ braced (subst (λ v. Ends (line.indent + 1) braced v) m.whole k)))
        (m.again others));
  })
  | left_open is c ↦ left_open is (behind line block rest rest rest e b refl c)
]
