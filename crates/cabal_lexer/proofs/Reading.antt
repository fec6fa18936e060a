-- A function that parses lines by fuel. It shows that lines parse as at most one list of items.
use Rattle.std.proofs.Common.{◌≡◌, ℕ, zero, suc, ◌+◌, ◌<◌, Bool, true, false, cond, List, [], ◌∷◌, ◌++◌, length, take, drop, refl, sym, ◌∙◌, ap, subst, arith, append_assoc, append-nil, length-append}
use Rattle.std.proofs.Math.Seq.{take-append_seam, drop-append_seam}
use Rattle.std.specs.declared.result.Result.{Result}
use Rattle.std.specs.declared.result.Result.TheVariants.{Ok, Err}
use Rattle.plan_types.specs.declared.element.Element.{Element}
use Rattle.plan_types.specs.declared.element.Element.TheVariants.{Field, Section}
use Rattle.plan_types.specs.declared.refusal.Cause.{Cause}
use Rattle.plan_types.specs.declared.refusal.Cause.TheVariants.{UnclosedBrace}
use Rattle.cabal_lexer.specs.Lines.{Line}
use Rattle.cabal_lexer.specs.Opening.{Opening, field, braced_field, section, braced_section, opening, within}
use Rattle.cabal_lexer.specs.Layout.{ends, Ends, texts, first_value, Stands, nothing, element, Block, run, braced_run, indented, enclosed, Fails, misfit, open_run, open_items, in_indented, in_enclosed, later}
use Rattle.cabal_lexer.proofs.Runs.{run_len, run_len-append, Ends-deeper, Ends-append, Ends-close}

pub data Outcome : Type 0 where
  done : List Element → List Line → Outcome
  fault : Line → Cause → Outcome

abbrev pub prepend : Element → Outcome → Outcome
prepend item (done items rest) = done (item ∷ items) rest
prepend item (fault at cause) = fault at cause

abbrev pub Reader : Type 0
Reader = ℕ → ℕ → Bool → List Line → Outcome

abbrev pub past_close : (List Line → Outcome) → Element → Line → List Line → Outcome
past_close next item line [] = fault line UnclosedBrace
past_close next item line (close ∷ rest) = prepend item (next rest)

abbrev pub past_items : (List Line → Outcome) → (List Element → Element) → Outcome → Outcome
past_items next make (done items rest) = prepend (make items) (next rest)
past_items next make (fault at cause) = fault at cause

abbrev pub past_block : (List Line → Outcome) → (List Element → Element) → Line → Outcome → Outcome
past_block next make line (done items rest) = past_close next (make items) line rest
past_block next make line (fault at cause) = fault at cause

abbrev pub past_run : (List Line → Outcome) → (List Line → Element) → ℕ → List Line → Outcome
past_run next make n more = prepend (make (take n more)) (next (drop n more))

abbrev pub past_braced_run : (List Line → Outcome) → (List Line → Element) → Line → ℕ → List Line → Outcome
past_braced_run next make line n more = past_close next (make (take n more)) line (drop n more)

abbrev pub past : Reader → ℕ → ℕ → Bool → Line → List Line → Result Opening Cause → Outcome
past go bound depth braced line more (Err cause) = fault line cause
past go bound depth braced line more (Ok (field name first)) =
    past_run (go bound depth braced) (λ values. Field line.number name (first_value first ++ texts values)) (run_len (line.indent + 1) braced more) more
past go bound depth braced line more (Ok (braced_field name)) =
    past_braced_run (go bound depth braced) (λ values. Field line.number name (texts values)) line (run_len 0 true more) more
past go bound depth braced line more (Ok (section name args)) =
    past_items (go bound depth braced) (λ items. Section line.number name args items) (go (line.indent + 1) (depth + 1) braced more)
past go bound depth braced line more (Ok (braced_section name args)) =
    past_block (go bound depth braced) (λ items. Section line.number name args items) line (go 0 (depth + 1) true more)

abbrev pub step : Reader → ℕ → ℕ → Bool → Line → List Line → Outcome
step go bound depth braced line more =
    cond (ends bound braced line) (done [] (line ∷ more)) (past go bound depth braced line more (within depth (opening line.text)))

unfoldable pub read : ℕ → ℕ → ℕ → Bool → List Line → Outcome
read zero bound depth braced lines = done [] lines
read (suc n) bound depth braced [] = done [] []
read (suc n) bound depth braced (line ∷ more) = step (read n) bound depth braced line more

-- ---- lines that parse as items are read

ended_read : (bound depth : ℕ) (braced : Bool) (tail : List Line) (n : ℕ) → Ends bound braced tail → read n bound depth braced tail ≡ done [] tail
unfolding read
ended_read bound depth braced tail zero h = refl
ended_read bound depth braced [] (suc n) h = refl
ended_read bound depth braced (line ∷ tail) (suc n) h =
    ap (λ b. cond b (done [] (line ∷ tail)) (past (read n) bound depth braced line tail (within depth (opening line.text)))) h

past_seam : (next : List Line → Outcome) (make : List Line → Element) (n : ℕ) (values rest : List Line) → n ≡ length values →
    past_run next make n (values ++ rest) ≡ prepend (make values) (next rest)
past_seam next make n values rest e =
    rw e (rw (take-append_seam values rest) (rw (drop-append_seam values rest) refl))

past_braced_seam : (next : List Line → Outcome) (make : List Line → Element) (line : Line) (n : ℕ) (values rest : List Line) → n ≡ length values →
    past_braced_run next make line n (values ++ rest) ≡ past_close next (make values) line rest
past_braced_seam next make line n values rest e =
    rw e (rw (take-append_seam values rest) (rw (drop-append_seam values rest) refl))

-- a step at a line inside the block
steps : (go : Reader) (bound depth : ℕ) (braced : Bool) (line : Line) (more : List Line) (r : Result Opening Cause) → ends bound braced line ≡ false →
    within depth (opening line.text) ≡ r → step go bound depth braced line more ≡ past go bound depth braced line more r
steps go bound depth braced line more r e b =
    ap (λ v. cond v (done [] (line ∷ more)) (past go bound depth braced line more (within depth (opening line.text)))) e
    ∙ ap (λ v. past go bound depth braced line more v) b

mutual
  unfolding read

  pub stands_read : {bound depth : ℕ} {braced : Bool} {lines : List Line} {items : List Element} → Stands bound depth braced lines items →
      (tail : List Line) (n : ℕ) → Ends bound braced tail → length (lines ++ tail) < n → read n bound depth braced (lines ++ tail) ≡ done items tail
  stands_read {bound} {depth} {braced} nothing tail n h l = ended_read bound depth braced tail n h
  stands_read {bound} {depth} {braced} (element line block rest e b s) tail zero h l = absurd (omega arith)
  stands_read {bound} {depth} {braced} (element line block rest e b s) tail (suc n) h l =
      let lens = length-append block (rest ++ tail) in
      let short : length (block ++ (rest ++ tail)) < n = rw (← append_assoc block rest tail) (omega arith) in
      ap (λ v. step (read n) bound depth braced line v) (append_assoc block rest tail)
      ∙ block_read b bound (rest ++ tail) n e (λ k. Ends-append _ braced rest tail k (Ends-deeper bound braced line tail e h)) short
      ∙ ap (prepend _) (stands_read s tail n h (omega arith))

  pub block_read : {depth : ℕ} {braced : Bool} {line : Line} {block rest : List Line} {item : Element} → Block depth braced line block rest item →
      (bound : ℕ) (after : List Line) (n : ℕ) → ends bound braced line ≡ false → (Ends (line.indent + 1) braced rest → Ends (line.indent + 1) braced after) →
      length (block ++ after) < n → step (read n) bound depth braced line (block ++ after) ≡ prepend item (read n bound depth braced after)
  block_read {depth} {braced} {line} (run {name = name} {first = first} {values = values} b i x) bound after n e t l =
      steps (read n) bound depth braced line (values ++ after) (Ok (field name first)) e b
      ∙ past_seam (read n bound depth braced) (λ vs. Field line.number name (first_value first ++ texts vs)) (run_len (line.indent + 1) braced (values ++ after)) values after
      (run_len-append (line.indent + 1) braced values after i (t x))
  block_read {depth} {braced} {line} (braced_run {name = name} values close b i c) bound after n e t l =
      steps (read n) bound depth braced line ((values ++ close ∷ []) ++ after) (Ok (braced_field name)) e b
      ∙ ap (λ v. past (read n) bound depth braced line v (Ok (braced_field name))) (append_assoc values (close ∷ []) after)
      ∙ past_braced_seam (read n bound depth braced) (λ vs. Field line.number name (texts vs)) line (run_len 0 true (values ++ close ∷ after)) values (close ∷ after)
      (run_len-append 0 true values (close ∷ after) i (Ends-close close after c))
  block_read {depth} {braced} {line} (indented {name = name} {args = args} {block = block} b s x) bound after n e t l =
      steps (read n) bound depth braced line (block ++ after) (Ok (section name args)) e b
      ∙ ap (past_items (read n bound depth braced) (λ items. Section line.number name args items)) (stands_read s after n (t x) l)
  block_read {depth} {braced} {line} (enclosed {name = name} {args = args} block close b s c) bound after n e t l =
      steps (read n) bound depth braced line ((block ++ close ∷ []) ++ after) (Ok (braced_section name args)) e b
      ∙ ap (λ v. past (read n) bound depth braced line v (Ok (braced_section name args))) (append_assoc block (close ∷ []) after)
      ∙ ap (past_block (read n bound depth braced) (λ items. Section line.number name args items) line)
      (stands_read s (close ∷ after) n (Ends-close close after c) (subst (λ v. length v < n) (append_assoc block (close ∷ []) after) l))

-- ---- lines that fail are read as a failure

pub fails_read : {bound depth : ℕ} {braced : Bool} {lines : List Line} {at : Line} {cause : Cause} → Fails bound depth braced lines at cause →
    (n : ℕ) → length lines < n → read n bound depth braced lines ≡ fault at cause
unfolding read
fails_read (misfit line rest e b) zero l = absurd (omega arith)
fails_read (open_run line values e b i) zero l = absurd (omega arith)
fails_read (open_items line block e b s) zero l = absurd (omega arith)
fails_read (in_indented line lines e b f) zero l = absurd (omega arith)
fails_read (in_enclosed line lines e b f) zero l = absurd (omega arith)
fails_read (later line block rest e b f) zero l = absurd (omega arith)
fails_read {bound} {depth} {braced} (misfit {cause = cause} line rest e b) (suc n) l = steps (read n) bound depth braced line rest (Err cause) e b
fails_read {bound} {depth} {braced} (open_run {name = name} line values e b i) (suc n) l =
    ap (λ v. step (read n) bound depth braced line v) (sym (append-nil values))
    ∙ steps (read n) bound depth braced line (values ++ []) (Ok (braced_field name)) e b
    ∙ past_braced_seam (read n bound depth braced) (λ vs. Field line.number name (texts vs)) line (run_len 0 true (values ++ [])) values [] (run_len-append 0 true values [] i tt)
fails_read {bound} {depth} {braced} (open_items {name = name} {args = args} line block e b s) (suc n) l =
    ap (λ v. step (read n) bound depth braced line v) (sym (append-nil block))
    ∙ steps (read n) bound depth braced line (block ++ []) (Ok (braced_section name args)) e b
    ∙ ap (past_block (read n bound depth braced) (λ items. Section line.number name args items) line)
    (stands_read s [] n tt (subst (λ v. length v < n) (sym (append-nil block)) (omega arith)))
fails_read {bound} {depth} {braced} (in_indented {name = name} {args = args} line lines e b f) (suc n) l =
    steps (read n) bound depth braced line lines (Ok (section name args)) e b
    ∙ ap (past_items (read n bound depth braced) (λ items. Section line.number name args items)) (fails_read f n (omega arith))
fails_read {bound} {depth} {braced} (in_enclosed {name = name} {args = args} line lines e b f) (suc n) l =
    steps (read n) bound depth braced line lines (Ok (braced_section name args)) e b
    ∙ ap (past_block (read n bound depth braced) (λ items. Section line.number name args items) line) (fails_read f n (omega arith))
fails_read {bound} {depth} {braced} (later {item = item} line block rest e b f) (suc n) l =
    let lens = length-append block rest in
    block_read b bound rest n e (λ k. k) (omega arith)
    ∙ ap (prepend item) (fails_read f n (omega arith))
