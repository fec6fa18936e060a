-- The parse of words that are a command and options.
use Rattle.std.proofs.Common.{◌≡◌, ◌∙◌, ◌+◌, ◌≤◌, ◌&&◌, ◌||◌, ℕ, Bool, true, false, refl, sym, ap, ap₂, subst, arith, List, [], ◌∷◌, ◌++◌, map, Option, Some, None, codes, append-nil, append_assoc, cond}
use Rattle.std.specs.List.{count_by, find, fold, list_all, list_any}
use Rattle.std.proofs.lemmas.List.Folds.{list_any-append}
use Rattle.std.proofs.lemmas.List.Sums.{fold-append, sum_by-append, sum_by-cons}
use Rattle.std.specs.Option.{option_map, option_map_or}
use Rattle.std.specs.Prelude.{is_some, option_and_then, slice_get}
use Rattle.std.proofs.lemmas.Bool.{false≢true}
use Rattle.std.specs.Str.{bytes_eq}
use Rattle.clap.specs.Facts.{explicit_source}
use Rattle.clap.specs.Lexer.{long_of}
use Rattle.clap.specs.Walk.{arg_by_long, Held, Row, Rule, Text, Walk, idle, at_row, has_row, more_values, walk, walked, walk_from, nothing_held, with_values, without, first_of, settled, finished, default_rows, with_default, is_empty, reading_by}
use Rattle.clap.specs.Simple.{built, filled, with_index}
use Rattle.clap.specs.Takes.{walk_passes, turn_passes, takes, settle_passes, is_given, is_valid}
use Rattle.clap.specs.declared.builder.value_parser.Reading.{Reading}
use Rattle.clap.specs.declared.parser.matches.ValueSource.TheVariants.{DefaultValue, CommandLine}
use Rattle.clap.proofs.TakesLemmas.{leaf_takes}
use Rattle.clap.proofs.SimpleLemmas.{is_nil}
use Rattle.clap.proofs.WalkLemmas.{both}
use Rattle.command_line.specs.CommandName.{command_word}
use Rattle.command_line.specs.declared.command_name.CommandName.{CommandName}
use Rattle.command_line.specs.declared.command_name.CommandName.TheVariants.{Plan, Generate, Freeze, Replay}
use Rattle.command_line.specs.declared.option_name.OptionKind.{OptionKind}
use Rattle.command_line.specs.declared.option_name.OptionKind.TheVariants.{Valued, Flag}
use Rattle.command_line.specs.declared.option_name.OptionName.{OptionName}
use Rattle.command_line.specs.declared.option_name.OptionName.TheVariants.{Index, Installed, Os, Arch, Compiler, MaxBackjumps, Number, Events, Slots, Json, CountConflicts, MinimizeConflictSet}
use Rattle.command_line.specs.OptionName.{gives, gives_as, kind_of, name_of, sign_of, value_in}
use Rattle.command_line.specs.Words.{given}
use Rattle.command_line.specs.Parser.{command_rule, found_as, found_in, parser, truth_text}
use Rattle.command_line.proofs.Table.{Given, attached, built_as, command_not, held_as, a_flag, alike, each_flag, flags, held_found, held_of, long_is, not_command, not_dashes, not_flag, one_option, rule_is, rules, same_name, same_test, shape, word_of}

-- ---- rows

abbrev pub row : Text → Text → Row
row id value = record { id = id; values = value ∷ []; count = None; source = Some CommandLine; reading = reading_by command_rule }

at_fresh : (id : Text) (change : Row → List Row) (missing : List Row) (rows : List Row) → has_row id rows ≡ false → at_row id change missing rows ≡ rows ++ missing
at_fresh id change missing [] fresh = refl
at_fresh id change missing (r ∷ rs) fresh = go (bytes_eq r.id id) fresh (at_fresh id change missing rs)
  where
    go : (b : Bool) → (b || has_row id rs) ≡ false → (has_row id rs ≡ false → at_row id change missing rs ≡ rs ++ missing)
        → cond b (change r ++ rs) (r ∷ at_row id change missing rs) ≡ r ∷ (rs ++ missing)
    go true e more = cc
    go false e more = ap (λ xs. r ∷ xs) (more e)

used_fresh : (id value : Text) (how : Reading) (rows : List Row) → has_row id rows ≡ false
    → with_values id how CommandLine (value ∷ []) (without id rows) ≡ rows ++ record { id = id; values = value ∷ []; count = None; source = Some CommandLine; reading = how } ∷ []
used_fresh id value how rows fresh = rw (at_fresh id (λ _. []) [] rows fresh, append-nil) (at_fresh id (more_values CommandLine (value ∷ [])) _ rows fresh)

-- ---- the walk, between two words

abbrev between : List Row → ℕ → Walk
between rows position = record { held = record { rows = rows; pending = None; skip = 0 }; waiting = idle; position = position; is_trailing = false; stopped = None }

-- the walk after a command, whose row is added at the next word
abbrev pub behind : CommandName → List Row → Walk
behind command rows = record { held = record { rows = rows; pending = Some (codes "command", command_word command ∷ []); skip = 0 }; waiting = idle; position = 2; is_trailing = false; stopped = None }

-- a word that the parser splits into the name of an option and its value
record IsCut (word : Text) (kind : OptionKind) (name v : Text) : Type 0 where
  no_dashes : bytes_eq word (45 ∷ 45 ∷ []) ≡ false
  long : long_of word ≡ Some (name, attached kind v)
  rule : arg_by_long rules name ≡ Some (built_as kind name)

cut : (g : Given) → IsCut (word_of g) (kind_of g.0) (name_of g.0) g.1
cut g = record { no_dashes = not_dashes g; long = long_is g; rule = rule_is g.0 }

-- the rows with one for an option
abbrev with_held : OptionKind → Text → Text → List Row → List Row
with_held kind name v rows = with_values name (reading_by (built_as kind name)) CommandLine (held_of kind v ∷ []) (without name rows)

cut_walked : (word : Text) (kind : OptionKind) (name v : Text) (rows : List Row) (p : ℕ) → IsCut word kind name v
    → walked rules [] (between rows p) word ≡ between (with_held kind name v rows) p
unfolding walked
cut_walked word Valued name v rows p is = rw (is.no_dashes, is.long, is.rule) refl
cut_walked word Flag name v rows p is = rw (is.no_dashes, is.long, is.rule) refl

cut_passes : (word : Text) (kind : OptionKind) (name v : Text) (rows : List Row) (p : ℕ) → IsCut word kind name v → has_row name rows ≡ false
    → turn_passes shape [] (between rows p) word ≡ true
cut_passes word Valued name v rows p is fresh = rw (is.no_dashes, is.long, is.rule, fresh) refl
cut_passes word Flag name v rows p is fresh = rw (is.no_dashes, is.long, is.rule, fresh) refl

option_walked : (g : Given) (rows : List Row) (p : ℕ)
    → walked rules [] (between rows p) (word_of g) ≡ between (with_held (kind_of g.0) (name_of g.0) g.1 rows) p
option_walked g rows p = cut_walked (word_of g) (kind_of g.0) (name_of g.0) g.1 rows p (cut g)

option_passes : (g : Given) (rows : List Row) (p : ℕ) → has_row (name_of g.0) rows ≡ false → turn_passes shape [] (between rows p) (word_of g) ≡ true
option_passes g rows p fresh = cut_passes (word_of g) (kind_of g.0) (name_of g.0) g.1 rows p (cut g) fresh

command_walked : (command : CommandName) (rows : List Row) → walked rules [] (between rows 1) (command_word command) ≡ behind command rows
unfolding walked
command_walked Plan rows = refl
command_walked Generate rows = refl
command_walked Freeze rows = refl
command_walked Replay rows = refl

command_passes : (command : CommandName) (rows : List Row) → turn_passes shape [] (between rows 1) (command_word command) ≡ true
command_passes Plan rows = refl
command_passes Generate rows = refl
command_passes Freeze rows = refl
command_passes Replay rows = refl

-- the rows with one for the command, added at the next word
abbrev with_command : CommandName → List Row → List Row
with_command command rows = with_values (codes "command") (reading_by command_rule) CommandLine (command_word command ∷ []) (without (codes "command") rows)

behind_cut_walked : (command : CommandName) (word : Text) (kind : OptionKind) (name v : Text) (rows : List Row) → IsCut word kind name v
    → walked rules [] (behind command rows) word ≡ between (with_held kind name v (with_command command rows)) 2
unfolding walked
behind_cut_walked command word Valued name v rows is = rw (is.no_dashes, is.long, is.rule) refl
behind_cut_walked command word Flag name v rows is = rw (is.no_dashes, is.long, is.rule) refl

behind_cut_passes : (command : CommandName) (word : Text) (kind : OptionKind) (name v : Text) (rows : List Row) → IsCut word kind name v
    → has_row (codes "command") rows ≡ false → has_row name (with_command command rows) ≡ false → turn_passes shape [] (behind command rows) word ≡ true
behind_cut_passes command word Valued name v rows is fresh other = rw (is.no_dashes, is.long, is.rule, fresh, other) refl
behind_cut_passes command word Flag name v rows is fresh other = rw (is.no_dashes, is.long, is.rule, fresh, other) refl

behind_walked : (command : CommandName) (g : Given) (rows : List Row)
    → walked rules [] (behind command rows) (word_of g) ≡ between (with_held (kind_of g.0) (name_of g.0) g.1 (with_command command rows)) 2
behind_walked command g rows = behind_cut_walked command (word_of g) (kind_of g.0) (name_of g.0) g.1 rows (cut g)

behind_passes : (command : CommandName) (g : Given) (rows : List Row) → has_row (codes "command") rows ≡ false
    → has_row (name_of g.0) (with_command command rows) ≡ false → turn_passes shape [] (behind command rows) (word_of g) ≡ true
behind_passes command g rows fresh other = behind_cut_passes command (word_of g) (kind_of g.0) (name_of g.0) g.1 rows (cut g) fresh other

-- ---- words as options with their values, around a command

abbrev row_as : OptionKind → Text → Text → Row
row_as kind name v =
    record { id = name; values = held_of kind v ∷ []; count = None; source = Some CommandLine; reading = reading_by (built_as kind name) }

abbrev pub row_of : Given → Row
row_of g = row_as (kind_of g.0) (name_of g.0) g.1

abbrev pub command_row : CommandName → Row
command_row command = row (codes "command") (command_word command)

abbrev pub is_row : OptionName → Row → Bool
is_row option r = bytes_eq r.id (name_of option)

-- no option has two rows
abbrev pub Once : List Row → Type 0
Once rows = (option : OptionName) → count_by (is_row option) rows ≤ 1

none_counted : {X : Type 0} (p : X → Bool) (xs : List X) → count_by p xs ≡ 0 → list_any p xs ≡ false
none_counted p [] e = refl
none_counted p (x ∷ xs) e = go (p x) (sym (sum_by-cons (λ y. cond (p y) 1 0) x xs) ∙ e) (none_counted p xs)
  where
    go : (b : Bool) → cond b 1 0 + count_by p xs ≡ 0 → (count_by p xs ≡ 0 → list_any p xs ≡ false) → (b || list_any p xs) ≡ false
    go true f more = absurd (omega arith)
    go false f more = more (omega arith)

fresh_here : (g : Given) (rows rest : List Row) → Once (rows ++ row_of g ∷ rest) → has_row (name_of g.0) rows ≡ false
fresh_here g rows rest once =
    let p : Row → Bool = is_row g.0 in
    let all : count_by p (rows ++ row_of g ∷ rest) ≡ count_by p rows + (cond (p (row_of g)) 1 0 + count_by p rest) =
    sum_by-append (λ r. cond (p r) 1 0) rows (row_of g ∷ rest) ∙ ap (λ n. count_by p rows + n) (sum_by-cons (λ r. cond (p r) 1 0) (row_of g) rest) in
    let one : cond {A = ℕ} (is_row g.0 (row_of g)) 1 0 ≡ 1 = ap (λ (b : Bool). cond {A = ℕ} b 1 0) (same_name g.0) in
    let most = once g.0 in
    none_counted p rows (omega arith)

option_done : (g : Given) (rows : List Row) (p : ℕ) → has_row (name_of g.0) rows ≡ false
    → walked rules [] (between rows p) (word_of g) ≡ between (rows ++ row_of g ∷ []) p
option_done g rows p fresh =
    option_walked g rows p
    ∙ ap (λ rs. between rs p)
    (used_fresh (name_of g.0) (held_of (kind_of g.0) g.1) (reading_by (built_as (kind_of g.0) (name_of g.0))) rows fresh)

regroup : (rows rest : List Row) (r : Row) → rows ++ r ∷ rest ≡ (rows ++ r ∷ []) ++ rest
regroup rows rest r = sym (append_assoc rows (r ∷ []) rest)

options_walked : (gs : List Given) (rows : List Row) (p : ℕ) (rest : List Row) → Once (rows ++ (map row_of gs ++ rest))
    → fold (walked rules []) (between rows p) (map word_of gs) ≡ between (rows ++ map row_of gs) p
options_walked [] rows p rest once = ap (λ rs. between rs p) (sym (append-nil rows))
options_walked (g ∷ gs) rows p rest once =
    let fresh = fresh_here g rows (map row_of gs ++ rest) once in
    ap (λ w. fold (walked rules []) w (map word_of gs)) (option_done g rows p fresh)
    ∙ options_walked gs (rows ++ row_of g ∷ []) p rest (subst Once (regroup rows (map row_of gs ++ rest) (row_of g)) once)
    ∙ ap (λ rs. between rs p) (append_assoc rows (row_of g ∷ []) (map row_of gs))

options_pass : (gs : List Given) (rows : List Row) (p : ℕ) (rest : List Row) → Once (rows ++ (map row_of gs ++ rest))
    → walk_passes shape [] (between rows p) (map word_of gs) ≡ true
unfolding walk_passes
options_pass [] rows p rest once = refl
options_pass (g ∷ gs) rows p rest once =
    let fresh = fresh_here g rows (map row_of gs ++ rest) once in
    rw (option_passes g rows p fresh, option_done g rows p fresh)
    (options_pass gs (rows ++ row_of g ∷ []) p rest (subst Once (regroup rows (map row_of gs ++ rest) (row_of g)) once))

and_more : (b s t u : Bool) → s ≡ (t && u) → (b && s) ≡ ((b && t) && u)
and_more true s t u e = e
and_more false s t u e = refl

passes_append : (w : Walk) (xs ys : List Text) → walk_passes shape [] w (xs ++ ys) ≡ (walk_passes shape [] w xs && walk_passes shape [] (fold (walked rules []) w xs) ys)
unfolding walk_passes
passes_append w [] ys = refl
passes_append w (x ∷ xs) ys = and_more (turn_passes shape [] w x) _ _ _ (passes_append (walked rules [] w x) xs ys)

-- ---- after a command

no_command_row : (gs : List Given) → has_row (codes "command") (map row_of gs) ≡ false
no_command_row [] = refl
no_command_row (g ∷ gs) = rw (not_command g.0) (no_command_row gs)

-- the end of a walk: the rows in the order of the words
pub record Ends (rows : List Row) (end : Held) : Type 0 where
  pub rows_are : (settled rules end).rows ≡ rows
  pub passes : settle_passes rules false end ≡ true

command_used : (command : CommandName) (rows : List Row) → has_row (codes "command") rows ≡ false
    → with_values (codes "command") (reading_by command_rule) CommandLine (command_word command ∷ []) (without (codes "command") rows) ≡ rows ++ command_row command ∷ []
command_used command rows fresh = used_fresh (codes "command") (command_word command) (reading_by command_rule) rows fresh

after_command : (command : CommandName) (gs : List Given) (rows : List Row) → has_row (codes "command") rows ≡ false → Once (rows ++ command_row command ∷ map row_of gs)
    → Ends (rows ++ command_row command ∷ map row_of gs) (fold (walked rules []) (behind command rows) (map word_of gs)).held
    × (walk_passes shape [] (behind command rows) (map word_of gs) ≡ true)
unfolding walk_passes
after_command command [] rows fresh once = (record { rows_are = command_used command rows fresh; passes = rw fresh refl }, refl)
after_command command (g ∷ gs) rows fresh once =
    let now : List Row = rows ++ command_row command ∷ [] in
    let regrouped : rows ++ command_row command ∷ map row_of (g ∷ gs) ≡ now ++ row_of g ∷ map row_of gs = regroup rows (map row_of (g ∷ gs)) (command_row command) in
    let once_now : Once (now ++ row_of g ∷ map row_of gs) = subst Once regrouped once in
    let fresh_now : has_row (name_of g.0) now ≡ false = fresh_here g now (map row_of gs) once_now in
    let used = command_used command rows fresh in
    let step : walked rules [] (behind command rows) (word_of g) ≡ between (now ++ row_of g ∷ []) 2 =
    behind_walked command g rows
    ∙ ap (λ rs. between (with_held (kind_of g.0) (name_of g.0) g.1 rs) 2) used
    ∙ ap (λ rs. between rs 2)
    (used_fresh (name_of g.0) (held_of (kind_of g.0) g.1) (reading_by (built_as (kind_of g.0) (name_of g.0))) now fresh_now) in
    let whole : now ++ row_of g ∷ map row_of gs ≡ (now ++ row_of g ∷ []) ++ map row_of gs = regroup now (map row_of gs) (row_of g) in
    let once_rest : Once ((now ++ row_of g ∷ []) ++ (map row_of gs ++ [])) = subst Once (whole ∙ ap (λ rs. (now ++ row_of g ∷ []) ++ rs) (sym (append-nil (map row_of gs)))) once_now in
    let ends : fold (walked rules []) (behind command rows) (map word_of (g ∷ gs)) ≡ between ((now ++ row_of g ∷ []) ++ map row_of gs) 2 =
    ap (λ w. fold (walked rules []) w (map word_of gs)) step ∙ options_walked gs (now ++ row_of g ∷ []) 2 [] once_rest in
    let turn : turn_passes shape [] (behind command rows) (word_of g) ≡ true = behind_passes command g rows fresh (ap (has_row (name_of g.0)) used ∙ fresh_now) in (
      record {
        rows_are = ap (λ w. (settled rules w.held).rows) ends ∙ sym (regrouped ∙ whole);
        passes = ap (λ w. settle_passes rules false w.held) ends;
      },
      rw (turn, step) (options_pass gs (now ++ row_of g ∷ []) 2 [] once_rest),
    )

-- ---- the whole

abbrev pub words_around : CommandName → List Given → List Given → List Text
words_around command before after = map word_of before ++ command_word command ∷ map word_of after

abbrev pub rows_around : CommandName → List Given → List Given → List Row
rows_around command before after = map row_of before ++ command_row command ∷ map row_of after

-- a walk over the words passes and ends with these rows
pub record Walks (command : CommandName) (before after : List Given) : Type 0 where
  pub ends : Ends (rows_around command before after) (walk rules [] nothing_held (words_around command before after)).held
  pub passes : walk_passes shape [] (walk_from nothing_held) (words_around command before after) ≡ true

pub walks : (command : CommandName) (before after : List Given) → Once (rows_around command before after) → Walks command before after
unfolding walk_passes
walks command before after once =
    let start : Walk = walk_from nothing_held in
    let rest : List Text = command_word command ∷ map word_of after in
    let to_command : fold (walked rules []) start (map word_of before) ≡ between (map row_of before) 1 = options_walked before [] 1 (command_row command ∷ map row_of after) once in
    let command_met : walked rules [] (fold (walked rules []) start (map word_of before)) (command_word command) ≡ behind command (map row_of before) = ap (λ w. walked rules [] w (command_word command)) to_command ∙ command_walked command (map row_of before) in
    let end = after_command command after (map row_of before) (no_command_row before) once in
    let parted : fold (walked rules []) start (words_around command before after) ≡ fold (walked rules []) (behind command (map row_of before)) (map word_of after) =
    fold-append (walked rules []) start (map word_of before) rest ∙ ap (λ w. fold (walked rules []) w (map word_of after)) command_met in
    record {
      ends = subst (λ w. Ends (rows_around command before after) w.held) (sym parted) end.0;
      passes = passes_append start (map word_of before) rest
          ∙ ap₂ (λ a b. a && b) (options_pass before [] 1 (command_row command ∷ map row_of after) once)
          (ap (λ w. turn_passes shape [] w (command_word command) && walk_passes shape [] (walked rules [] w (command_word command)) (map word_of after)) to_command
          ∙ ap₂ (λ a w. a && walk_passes shape [] w (map word_of after)) (command_passes command (map row_of before)) (command_walked command (map row_of before))
          ∙ end.1);
    }

-- ---- the end: a flag that no word gives gets a default row

-- an argument without a default
plain : (rows : List Row) (a : Rule) → a.defaults ≡ [] → with_default rows a ≡ rows
plain rows a none = ap (λ ds. cond (has_row a.id rows) rows (default_rows a.id (reading_by a) ds rows)) none ∙ go (has_row a.id rows)
  where
    go : (b : Bool) → cond b rows rows ≡ rows
    go true = refl
    go false = refl

plain_all : (others : List Rule) (rows : List Row) → list_all (λ a. is_empty a.defaults) others ≡ true → fold with_default rows others ≡ rows
plain_all [] rows all = refl
plain_all (a ∷ others) rows all =
    let parts = both (is_empty a.defaults) (list_all (λ r. is_empty r.defaults) others) all in
    ap (λ rs. fold with_default rs others) (plain rows a (is_nil a.defaults parts.0)) ∙ plain_all others rows parts.1

-- the default row of a flag
abbrev absent : OptionName → Row
absent flag = record { id = name_of flag; values = codes "false" ∷ []; count = None; source = Some DefaultValue; reading = reading_by (built_as Flag (name_of flag)) }

-- the rows, with a flag's default row if it has none
abbrev with_flag : OptionName → List Row → List Row
with_flag flag rows = cond (has_row (name_of flag) rows) rows (rows ++ absent flag ∷ [])

-- the rows, with the default rows of some flags
abbrev with_each : List OptionName → List Row → List Row
with_each [] rows = rows
with_each (flag ∷ others) rows = with_each others (with_flag flag rows)

-- the rows, with the default rows of all flags
abbrev pub with_flags : List Row → List Row
with_flags rows = with_each flags rows

flag_default : (flag : OptionName) (rows : List Row) → with_default rows (built_as Flag (name_of flag)) ≡ with_flag flag rows
flag_default flag rows = go (has_row (name_of flag) rows) refl
  where
    given_or : List Row
    given_or = with_values (name_of flag) (reading_by (built_as Flag (name_of flag))) DefaultValue (codes "false" ∷ []) rows

    go : (b : Bool) → has_row (name_of flag) rows ≡ b → cond b rows given_or ≡ cond b rows (rows ++ absent flag ∷ [])
    go true e = refl
    go false e = at_fresh (name_of flag) (more_values DefaultValue (codes "false" ∷ [])) (absent flag ∷ []) rows e

each_default : (others : List OptionName) (rows : List Row) → fold with_default rows (map (λ flag. built_as Flag (name_of flag)) others) ≡ with_each others rows
each_default [] rows = refl
each_default (flag ∷ others) rows =
    ap (λ rs. fold with_default rs (map (λ o. built_as Flag (name_of o)) others)) (flag_default flag rows) ∙ each_default others (with_flag flag rows)

-- the rules before those of the flags
abbrev front : List Rule
front = with_index 1 (filled command_rule) ∷ map (λ option. built_as Valued (name_of option)) (Index ∷ Installed ∷ Os ∷ Arch ∷ Compiler ∷ MaxBackjumps ∷ Number ∷ Events ∷ Slots ∷ [])

rules_are : rules ≡ front ++ map (λ flag. built_as Flag (name_of flag)) flags
rules_are = refl

pub finished_rows : (h : Held) → finished rules h ≡ with_flags (settled rules h).rows
finished_rows h =
    let rows : List Row = (settled rules h).rows in
    ap (fold with_default rows) rules_are ∙ fold-append with_default rows front (map (λ flag. built_as Flag (name_of flag)) flags)
    ∙ ap (λ rs. fold with_default rs (map (λ flag. built_as Flag (name_of flag)) flags)) (plain_all front rows refl) ∙ each_default flags rows

find_more : {X : Type 0} (p : X → Bool) (xs : List X) (x : X) → p x ≡ false → find p (xs ++ x ∷ []) ≡ find p xs
find_more p [] x e = ap (λ b. cond b (Some x) None) e
find_more p (y ∷ xs) x e = ap (λ rest. cond (p y) (Some y) rest) (find_more p xs x e)

find_past : {X : Type 0} (p : X → Bool) (xs ys : List X) → list_any p xs ≡ false → find p (xs ++ ys) ≡ find p ys
find_past p [] ys none = refl
find_past p (x ∷ xs) ys none = go (p x) none (find_past p xs ys)
  where
    go : (b : Bool) → (b || list_any p xs) ≡ false → (list_any p xs ≡ false → find p (xs ++ ys) ≡ find p ys) → cond b (Some x) (find p (xs ++ ys)) ≡ find p ys
    go true e more = cc
    go false e more = more e

command_found : (command : CommandName) (before after : List Given) → is_given (codes "command") (rows_around command before after) ≡ true
command_found command before after =
    ap (λ found. option_map_or (λ r. explicit_source r.source) found false) (find_past (λ r. bytes_eq r.id (codes "command")) (map row_of before) (command_row command ∷ map row_of after) (no_command_row before))

-- rows added at the end don't change what is found
find_kept : {X : Type 0} (p : X → Bool) (xs ys : List X) → list_any p xs ≡ true → find p (xs ++ ys) ≡ find p xs
find_kept p [] ys some = absurd (false≢true some)
find_kept p (x ∷ xs) ys some = go (p x) some (find_kept p xs ys)
  where
    go : (b : Bool) → (b || list_any p xs) ≡ true → (list_any p xs ≡ true → find p (xs ++ ys) ≡ find p xs) → cond b (Some x) (find p (xs ++ ys)) ≡ cond b (Some x) (find p xs)
    go true e more = refl
    go false e more = more e

any_kept : {X : Type 0} (p : X → Bool) (xs ys : List X) → list_any p xs ≡ true → list_any p (xs ++ ys) ≡ true
any_kept p [] ys some = absurd (false≢true some)
any_kept p (x ∷ xs) ys some = go (p x) some (any_kept p xs ys)
  where
    go : (b : Bool) → (b || list_any p xs) ≡ true → (list_any p xs ≡ true → list_any p (xs ++ ys) ≡ true) → (b || list_any p (xs ++ ys)) ≡ true
    go true e more = refl
    go false e more = more e

flags_kept : (p : Row → Bool) (others : List OptionName) (rows : List Row) → list_any p rows ≡ true → find p (with_each others rows) ≡ find p rows
flags_kept p [] rows some = refl
flags_kept p (flag ∷ others) rows some =
    elim (has_row (name_of flag) rows) as (λ b. find p (with_each others (cond b rows (rows ++ absent flag ∷ []))) ≡ find p rows) [
      | true ↦ flags_kept p others rows some
      | false ↦ flags_kept p others (rows ++ absent flag ∷ []) (any_kept p rows (absent flag ∷ []) some) ∙ find_kept p rows (absent flag ∷ []) some
    ]

some_found : {X : Type 0} (p test : X → Bool) (xs : List X) → option_map_or test (find p xs) false ≡ true → list_any p xs ≡ true
some_found p test [] h = h
some_found p test (x ∷ xs) h = go (p x) h (some_found p test xs)
  where
    go : (b : Bool) → option_map_or test (cond b (Some x) (find p xs)) false ≡ true → (option_map_or test (find p xs) false ≡ true → list_any p xs ≡ true) → (b || list_any p xs) ≡ true
    go true e more = refl
    go false e more = more e

-- where no item of a list passes a test, the item behind them decides
last_decides : {X : Type 0} (p : X → Bool) (xs : List X) (x : X) (passes : Bool) → list_any p xs ≡ false → p x ≡ passes → list_any p (xs ++ x ∷ []) ≡ passes || false
last_decides p xs x passes none is = list_any-append p xs (x ∷ []) ∙ ap (λ b. b || (p x || false)) none ∙ ap (λ b. b || false) is

command_given : (command : CommandName) (before after : List Given) → is_given (codes "command") (with_flags (rows_around command before after)) ≡ true
command_given command before after =
    let rows = rows_around command before after in
    let p = λ (r : Row). bytes_eq r.id (codes "command") in
    let found = command_found command before after in
    ap (λ f. option_map_or (λ r. explicit_source r.source) f false) (flags_kept p flags rows (some_found p (λ r. explicit_source r.source) rows found)) ∙ found

valid : (rows : List Row) → is_given (codes "command") rows ≡ true → is_valid shape rows false ≡ true
valid rows given = rw given refl

pub words_taken : (command : CommandName) (before after : List Given) → Once (rows_around command before after) → takes parser (words_around command before after) ≡ true
words_taken command before after once =
    let whole = walks command before after once in
    let end = (walk rules [] nothing_held (words_around command before after)).held in
    let is_valid_here : is_valid shape (finished rules end) false ≡ true = valid (finished rules end) (ap (is_given (codes "command")) (finished_rows end ∙ ap with_flags whole.ends.rows_are) ∙ command_given command before after) in
    leaf_takes (built parser) nothing_held (words_around command before after) refl (rw (whole.passes, whole.ends.passes, is_valid_here) refl)

-- ---- the values

-- rows and words in front keep the value of an option equal in both
value_found : (option : OptionName) (gs : List Given) (rows : List Row) (words : List Text) → first_of (name_of option) rows ≡ held_as (kind_of option) (given option words)
    → first_of (name_of option) (map row_of gs ++ rows) ≡ held_as (kind_of option) (given option (map word_of gs ++ words))
value_found option [] rows words same = same
value_found option (g ∷ gs) rows words same =
    rw (same_test option g) (go (bytes_eq (name_of g.0) (name_of option)) (held_found option g) (value_found option gs rows words same))
  where
    go : (b : Bool) → (b ≡ true → Some (held_of (kind_of g.0) g.1) ≡ held_as (kind_of option) (Some (value_in option (word_of g))))
        → first_of (name_of option) (map row_of gs ++ rows) ≡ held_as (kind_of option) (given option (map word_of gs ++ words))
        → option_and_then (λ r. slice_get r.values 0) (cond b (Some (row_of g)) (find (λ r. bytes_eq r.id (name_of option)) (map row_of gs ++ rows)))
        ≡ held_as (kind_of option) (option_map (value_in option) (cond b (Some (word_of g)) (find (gives option) (map word_of gs ++ words))))
    go true e more = e refl
    go false e more = more

no_word : (command : CommandName) (kind : OptionKind) (name : Text) → gives_as kind (codes "--" ++ name ++ sign_of kind) (command_word command) ≡ false
no_word Plan Valued name = refl
no_word Plan Flag name = refl
no_word Generate Valued name = refl
no_word Generate Flag name = refl
no_word Freeze Valued name = refl
no_word Freeze Flag name = refl
no_word Replay Valued name = refl
no_word Replay Flag name = refl

command_gives_none : (command : CommandName) (option : OptionName) → gives option (command_word command) ≡ false
command_gives_none command option = no_word command (kind_of option) (name_of option)

values_given : (command : CommandName) (option : OptionName) (before after : List Given)
    → first_of (name_of option) (rows_around command before after) ≡ held_as (kind_of option) (given option (words_around command before after))
values_given command option before after =
    let behind_all : first_of (name_of option) (map row_of after) ≡ held_as (kind_of option) (given option (map word_of after)) =
    ap (first_of (name_of option)) (sym (append-nil (map row_of after))) ∙ value_found option after [] [] (nothing (kind_of option))
    ∙ ap (λ words. held_as (kind_of option) (given option words)) (append-nil (map word_of after)) in
    value_found option before (command_row command ∷ map row_of after) (command_word command ∷ map word_of after) (rw (command_not option, command_gives_none command option) behind_all)
  where
    nothing : (kind : OptionKind) → None ≡ held_as kind None
    nothing Valued = refl
    nothing Flag = refl

-- an option has a row iff a word gives it
same_there : (option : OptionName) (gs : List Given) (rows : List Row) (words : List Text) → has_row (name_of option) rows ≡ is_some (given option words)
    → has_row (name_of option) (map row_of gs ++ rows) ≡ is_some (given option (map word_of gs ++ words))
same_there option [] rows words same = same
same_there option (g ∷ gs) rows words same =
    rw (same_test option g) (go (bytes_eq (name_of g.0) (name_of option)) (same_there option gs rows words same))
  where
    go : (b : Bool) → has_row (name_of option) (map row_of gs ++ rows) ≡ is_some (given option (map word_of gs ++ words))
        → (b || has_row (name_of option) (map row_of gs ++ rows))
        ≡ is_some (option_map (value_in option) (cond b (Some (word_of g)) (find (gives option) (map word_of gs ++ words))))
    go true more = refl
    go false more = more

there_alike : (command : CommandName) (option : OptionName) (before after : List Given)
    → has_row (name_of option) (rows_around command before after) ≡ is_some (given option (words_around command before after))
there_alike command option before after =
    let behind_all : has_row (name_of option) (map row_of after) ≡ is_some (given option (map word_of after)) =
    ap (has_row (name_of option)) (sym (append-nil (map row_of after))) ∙ same_there option after [] [] refl ∙ ap (λ words. is_some (given option words)) (append-nil (map word_of after)) in
    same_there option before (command_row command ∷ map row_of after) (command_word command ∷ map word_of after) (rw (command_not option, command_gives_none command option) behind_all)

-- ---- the values at the end

module _ (command : CommandName) (before after : List Given) where
  abbrev held_rows : List Row
  held_rows = rows_around command before after

  abbrev all_words : List Text
  all_words = words_around command before after

  valued_each : (option : OptionName) → kind_of option ≡ Valued → (others : List OptionName) (rows : List Row) → list_all (λ flag. alike (kind_of flag) Flag) others ≡ true
      → find (λ r. bytes_eq r.id (name_of option)) (with_each others rows) ≡ find (λ r. bytes_eq r.id (name_of option)) rows
  valued_each option valued [] rows all = refl
  valued_each option valued (flag ∷ others) rows all =
      let parts = both (alike (kind_of flag) Flag) (list_all (λ f. alike (kind_of f) Flag) others) all in
      let p = λ (r : Row). bytes_eq r.id (name_of option) in
      elim (has_row (name_of flag) rows) as (λ b. find p (with_each others (cond b rows (rows ++ absent flag ∷ []))) ≡ find p rows) [
        | true ↦ valued_each option valued others rows parts.1
        | false ↦
            valued_each option valued others (rows ++ absent flag ∷ []) parts.1 ∙ find_more p rows (absent flag) (not_flag flag option parts.0 valued)
      ]

  valued_found : (option : OptionName) → kind_of option ≡ Valued → first_of (name_of option) (with_flags held_rows) ≡ given option all_words
  valued_found option valued =
      ap (option_and_then (λ r. slice_get r.values 0)) (valued_each option valued flags held_rows each_flag)
      ∙ values_given command option before after ∙ ap (λ kind. held_as kind (given option all_words)) valued

  -- a flag that no word gives is found as `false`
  absent_found : (option : OptionName) (others : List OptionName) (rows : List Row) → list_any (λ flag. bytes_eq (name_of flag) (name_of option)) others ≡ true
      → has_row (name_of option) rows ≡ false → first_of (name_of option) (with_each others rows) ≡ Some (codes "false")
  absent_found option [] rows some none = absurd (false≢true some)
  absent_found option (flag ∷ others) rows some none =
      let p = λ (r : Row). bytes_eq r.id (name_of option) in
      elim (bytes_eq (name_of flag) (name_of option))
      as (λ c. bytes_eq (name_of flag) (name_of option) ≡ c → (c || list_any (λ f. bytes_eq (name_of f) (name_of option)) others) ≡ true
      → first_of (name_of option) (with_each (flag ∷ others) rows) ≡ Some (codes "false")) [
        | true ↦ λ e some_now.
            let fresh : has_row (name_of flag) rows ≡ false = ap (λ o. has_row (name_of o) rows) (one_option option flag e) ∙ none in
            ap (λ b. first_of (name_of option) (with_each others (cond b rows (rows ++ absent flag ∷ [])))) fresh
            ∙ ap (option_and_then (λ r. slice_get r.values 0))
            (flags_kept p others (rows ++ absent flag ∷ []) (last_decides p rows (absent flag) true none e) ∙ find_past p rows (absent flag ∷ []) none)
            ∙ ap (λ b. option_and_then (λ r. slice_get r.values 0) (cond b (Some (absent flag)) None)) e
        | false ↦ λ e some_now.
            elim (has_row (name_of flag) rows) as (λ b. first_of (name_of option) (with_each others (cond b rows (rows ++ absent flag ∷ []))) ≡ Some (codes "false")) [
              | true ↦ absent_found option others rows some_now none
              | false ↦ absent_found option others (rows ++ absent flag ∷ []) some_now (last_decides p rows (absent flag) false none e)
            ]
      ] refl some

  flag_found : (option : OptionName) → kind_of option ≡ Flag → first_of (name_of option) (with_flags held_rows) ≡ Some (truth_text (is_some (given option all_words)))
  flag_found option flag = go (has_row (name_of option) held_rows) refl
    where
      there : has_row (name_of option) held_rows ≡ is_some (given option all_words)
      there = there_alike command option before after

      set : (value : Option Text) → is_some value ≡ true → held_as Flag value ≡ Some (truth_text (is_some value))
      set None e = absurd (false≢true e)
      set (Some v) e = refl

      go : (b : Bool) → has_row (name_of option) held_rows ≡ b → first_of (name_of option) (with_flags held_rows) ≡ Some (truth_text (is_some (given option all_words)))
      go true e =
          ap (option_and_then (λ r. slice_get r.values 0)) (flags_kept (λ r. bytes_eq r.id (name_of option)) flags held_rows e)
          ∙ values_given command option before after ∙ ap (λ kind. held_as kind (given option all_words)) flag ∙ set (given option all_words) (sym there ∙ e)
      go false e = absent_found option flags held_rows (a_flag option flag) e ∙ ap (λ b. Some (truth_text b)) (sym e ∙ there)

  pub values_found : (option : OptionName) → first_of (name_of option) (with_flags held_rows) ≡ found_in option all_words
  values_found option = by (kind_of option) refl
    where
      by : (kind : OptionKind) → kind_of option ≡ kind → first_of (name_of option) (with_flags held_rows) ≡ found_in option all_words
      by Valued e = valued_found option e ∙ ap (λ kind. found_as kind (given option all_words)) (sym e)
      by Flag e = flag_found option e ∙ ap (λ kind. found_as kind (given option all_words)) (sym e)

-- each option has as many rows as words
same_count : (option : OptionName) (gs : List Given) (rows : List Row) (words : List Text) → count_by (is_row option) rows ≡ count_by (gives option) words
    → count_by (is_row option) (map row_of gs ++ rows) ≡ count_by (gives option) (map word_of gs ++ words)
same_count option [] rows words same = same
same_count option (g ∷ gs) rows words same =
    sum_by-cons (λ r. cond (is_row option r) 1 0) (row_of g) (map row_of gs ++ rows)
    ∙ ap₂ (λ b n. cond b 1 0 + n) (sym (same_test option g)) (same_count option gs rows words same)
    ∙ sym (sum_by-cons (λ w. cond (gives option w) 1 0) (word_of g) (map word_of gs ++ words))

pub counts_alike : (command : CommandName) (option : OptionName) (before after : List Given) → count_by (is_row option) (rows_around command before after) ≡ count_by (gives option) (words_around command before after)
counts_alike command option before after =
    let behind_all : count_by (is_row option) (map row_of after) ≡ count_by (gives option) (map word_of after) =
    ap (count_by (is_row option)) (sym (append-nil (map row_of after))) ∙ same_count option after [] [] refl ∙ ap (count_by (gives option)) (append-nil (map word_of after)) in
    same_count option before (command_row command ∷ map row_of after) (command_word command ∷ map word_of after)
    (sum_by-cons (λ r. cond (is_row option r) 1 0) (command_row command) (map row_of after)
    ∙ ap₂ (λ b n. cond b 1 0 + n) (command_not option ∙ sym (command_gives_none command option)) behind_all
    ∙ sym (sum_by-cons (λ w. cond (gives option w) 1 0) (command_word command) (map word_of after)))
