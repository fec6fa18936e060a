-- Words with a reading are a command with options around it. The parser takes them and finds their values.
use Rattle.std.proofs.Common.{◌≡◌, ◌∙◌, ◌+◌, ◌≤◌, ◌&&◌, ◌||◌, ℕ, Bool, true, false, refl, sym, ap, ap₂, subst, arith, List, [], ◌∷◌, ◌++◌, map, take, drop, length, cond}
use Rattle.std.specs.Prelude.{◌==◌, Option, Some, None, codes, find, is_some, nat_le}
use Rattle.std.specs.Option.{option_map_or}
use Rattle.std.specs.List.{count_by, list_all, list_any}
use Rattle.std.proofs.lemmas.Bool.{and_parts, eqb-true, false≢true, leb-true}
use Rattle.std.proofs.lemmas.List.{take-append-drop}
use Rattle.std.proofs.lemmas.List.Sums.{sum_by-cons}
use Rattle.std.proofs.lemmas.Slice.Eq.{bytes_eq-Decides}
use Rattle.clap.specs.Walk.{Text, first_of, nothing_held, walk}
use Rattle.clap.specs.Simple.{matches_of}
use Rattle.clap.specs.Takes.{takes}
use Rattle.command_line.specs.declared.option_name.OptionKind.{OptionKind}
use Rattle.command_line.specs.declared.option_name.OptionKind.TheVariants.{Valued, Flag}
use Rattle.command_line.specs.declared.option_name.OptionName.{OptionName}
use Rattle.command_line.specs.OptionName.{gives, gives_as, kind_of, name_of, sign_of, value_in}
use Rattle.command_line.specs.Form.{has_form, is_number}
use Rattle.command_line.specs.CommandName.{command_word, commands, needed_by, taken_by}
use Rattle.command_line.specs.declared.command_name.CommandName.{CommandName}
use Rattle.command_line.specs.declared.command_name.CommandName.TheVariants.{Generate}
use Rattle.command_line.specs.declared.option_name.OptionName.TheVariants.{Number}
use Rattle.command_line.specs.Words.{asked, fits, given, is_command, is_given, is_known, is_well_formed, options}
use Rattle.command_line.specs.Parser.{found_in, parser}
use Rattle.command_line.proofs.Table.{Given, each_option, rules, spelled, word_of}
use Rattle.command_line.proofs.Walk.{Once, words_around, rows_around, with_flags, words_taken, values_found, counts_alike, finished_rows, walks}

is_given_word : (option : OptionName) (word : Text) → gives option word ≡ true → word ≡ word_of (option, value_in option word)
is_given_word option word = by (kind_of option)
  where
    by : (kind : OptionKind)
        → gives_as kind (codes "--" ++ name_of option ++ sign_of kind) word ≡ true
        → word ≡ spelled kind (name_of option) (drop (length (codes "--" ++ name_of option ++ sign_of kind)) word)
    by Valued gives_it =
        let prefix : Text = codes "--" ++ name_of option ++ codes "=" in
        let n : ℕ = length prefix in
        sym (take-append-drop n word) ∙ ap (λ front. front ++ drop n word) (sym ((bytes_eq-Decides prefix (take n word)).0 gives_it))
    by Flag gives_it = (bytes_eq-Decides word (codes "--" ++ name_of option ++ [])).0 gives_it

any_option : (word : Text) (others : List OptionName) → list_any (λ option. gives option word) others ≡ true → (g : Given) × (word ≡ word_of g)
any_option word [] none = cc
any_option word (option ∷ others) some = go (gives option word) refl some (any_option word others)
  where
    go : (b : Bool) → gives option word ≡ b → (b || list_any (λ o. gives o word) others) ≡ true
        → (list_any (λ o. gives o word) others ≡ true → (g : Given) × (word ≡ word_of g)) → (g : Given) × (word ≡ word_of g)
    go true is e more = ((option, value_in option word), is_given_word option word is)
    go false is e more = more e

known_option : (command : CommandName) (word : Text) → is_known command word ≡ true → is_command command word ≡ false → (g : Given) × (word ≡ word_of g)
known_option command word known other = any_option word (taken_by command) (ap (λ b. b || list_any (λ option. gives option word) (taken_by command)) (sym other) ∙ known)

-- known words without the command are options
only_options : (command : CommandName) (words : List Text) → list_all (is_known command) words ≡ true → count_by (is_command command) words ≡ 0 → (gs : List Given) × (words ≡ map word_of gs)
only_options command [] known none = ([], refl)
only_options command (word ∷ words) known none =
    let parts = and_parts (is_known command word) (list_all (is_known command) words) known in
    let count : cond {A = ℕ} (is_command command word) 1 0 + count_by (is_command command) words ≡ 0 = sym (sum_by-cons (λ w. cond (is_command command w) 1 0) word words) ∙ none in
    let other : is_command command word ≡ false = not_one (is_command command word) (count_by (is_command command) words) count in
    let more = only_options command words parts.1 (omega arith) in
    let here = known_option command word parts.0 other in
    (here.0 ∷ more.0, ap₂ (λ w ws. w ∷ ws) here.1 more.1)
  where
    not_one : (b : Bool) (n : ℕ) → cond {A = ℕ} b 1 0 + n ≡ 0 → b ≡ false
    not_one true n e = absurd (omega arith)
    not_one false n e = refl

-- known words with one command are that command with options around it
around : (command : CommandName) (words : List Text) → list_all (is_known command) words ≡ true → count_by (is_command command) words ≡ 1 → (before after : List Given) × (words ≡ words_around command before after)
around command [] known one = absurd (omega arith)
around command (word ∷ words) known one =
    let parts = and_parts (is_known command word) (list_all (is_known command) words) known in
    go (is_command command word) refl (sym (sum_by-cons (λ w. cond (is_command command w) 1 0) word words) ∙ one) parts.0 parts.1 (around command words parts.1)
  where
    go : (b : Bool) → is_command command word ≡ b → cond {A = ℕ} b 1 0 + count_by (is_command command) words ≡ 1 → is_known command word ≡ true → list_all (is_known command) words ≡ true
        → (count_by (is_command command) words ≡ 1 → (before after : List Given) × (words ≡ words_around command before after))
        → (before after : List Given) × (word ∷ words ≡ words_around command before after)
    go true is count known_word rest more =
        let after = only_options command words rest (omega arith) in
        ([], after.0, ap₂ (λ w ws. w ∷ ws) ((bytes_eq-Decides word (command_word command)).0 is) after.1)
    go false is count known_word rest more =
        let parts = more (omega arith) in
        let here = known_option command word known_word is in
        (here.0 ∷ parts.0, parts.1, ap₂ (λ w ws. w ∷ ws) here.1 parts.2)

-- the parts of the test
record Reads (words : List Text) (command : CommandName) : Type 0 where
  known : list_all (is_known command) words ≡ true
  once : count_by (is_command command) words ≡ 1
  options_are : (option : OptionName) → is_well_formed words option ≡ true
  needed : list_all (is_given words) (needed_by command) ≡ true

reads : (words : List Text) (command : CommandName) → fits words command ≡ true → Reads words command
reads words command h =
    let one : Bool = count_by (is_command command) words == 1 in
    let formed : Bool = list_all (is_well_formed words) options in
    let p = and_parts (list_all (is_known command) words) ((one && formed) && list_all (is_given words) (needed_by command)) h in
    let q = and_parts (one && formed) (list_all (is_given words) (needed_by command)) p.1 in
    let r = and_parts one formed q.0 in
    record {
      known = p.0;
      once = eqb-true (count_by (is_command command) words) 1 r.0;
      options_are = each_option (is_well_formed words) r.1;
      needed = q.1;
    }

-- an item that `find` finds passes the test
asked_one : {X : Type 0} (test : X → Bool) (xs : List X) → is_some (find test xs) ≡ true → (x : X) × (test x ≡ true)
asked_one test [] h = absurd (false≢true h)
asked_one test (x ∷ xs) h =
    elim (test x) as (λ b. test x ≡ b → is_some (cond b (Some x) (find test xs)) ≡ true → (x : _) × (test x ≡ true)) [
      | true ↦ λ e k. (x, e)
      | false ↦ λ e k. asked_one test xs k
    ] refl h

-- an option occurs at most once, and its value is well-formed

at_most_once : (words : List Text) (option : OptionName) → is_well_formed words option ≡ true → count_by (gives option) words ≤ 1
at_most_once words option well = leb-true (count_by (gives option) words) 1 (and_parts (nat_le (count_by (gives option) words) 1) (option_map_or (has_form option) (given option words) true) well).0

pub well_formed : (words : List Text) → is_some (asked words) ≡ true → (option : OptionName) → option_map_or (has_form option) (given option words) true ≡ true
well_formed words h option =
    let command = asked_one (fits words) commands h in
    (and_parts (nat_le (count_by (gives option) words) 1) (option_map_or (has_form option) (given option words) true) ((reads words command.0 command.1).options_are option)).1

-- the options that a command needs are given
asked_for : (words : List Text) (command : CommandName) (rest : List CommandName) → find (fits words) rest ≡ Some command → fits words command ≡ true
asked_for words command [] found = absurd (cc found)
asked_for words command (one ∷ rest) found = go (fits words one) refl found (asked_for words command rest)
  where
    go : (b : Bool) → fits words one ≡ b → cond b (Some one) (find (fits words) rest) ≡ Some command
        → (find (fits words) rest ≡ Some command → fits words command ≡ true) → fits words command ≡ true
    go true e is more = let same : one ≡ command = cc is in ap (fits words) (sym same) ∙ e
    go false e is more = more is

pub number_given : (words : List Text) → asked words ≡ Some Generate → option_map_or is_number (given Number words) false ≡ true
number_given words h =
    let r = reads words Generate (asked_for words Generate commands h) in
    let there = (and_parts (is_given words Number) true r.needed).0 in
    let formed = (and_parts (nat_le (count_by (gives Number) words) 1) (option_map_or (has_form Number) (given Number words) true) (r.options_are Number)).1 in
    go (given Number words) there formed
  where
    go : (value : Option Text) → is_some value ≡ true → option_map_or (has_form Number) value true ≡ true → option_map_or is_number value false ≡ true
    go None there formed = absurd (false≢true there)
    go (Some text) there formed = formed

-- the parser takes the words and finds their values
pub record Parses (words : List Text) : Type 0 where
  pub takes_them : takes parser words ≡ true
  pub values : (option : OptionName) → first_of (name_of option) (matches_of parser words) ≡ found_in option words

parses_around : (command : CommandName) (before after : List Given) → Once (rows_around command before after) → Parses (words_around command before after)
parses_around command before after once =
    let end = (walk rules [] nothing_held (words_around command before after)).held in
    record {
      takes_them = words_taken command before after once;
      values = λ option. ap (first_of (name_of option)) (finished_rows end ∙ ap with_flags (walks command before after once).ends.rows_are) ∙ values_found command before after option;
    }

pub parses : (words : List Text) → is_some (asked words) ≡ true → Parses words
parses words h =
    let found = asked_one (fits words) commands h in
    let command = found.0 in
    let r = reads words command found.1 in
    let parts = around command words r.known r.once in
    let once : Once (rows_around command parts.0 parts.1) = λ option.
    subst (λ n. n ≤ 1) (sym (counts_alike command option parts.0 parts.1 ∙ ap (count_by (gives option)) (sym parts.2))) (at_most_once words option (r.options_are option)) in
    subst Parses (sym parts.2) (parses_around command parts.0 parts.1 once)

pub map_same : (words : List Text) → map (λ word. word) words ≡ words
map_same [] = refl
map_same (word ∷ words) = ap (λ ws. word ∷ ws) (map_same words)
