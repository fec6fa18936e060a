-- Facts of each option of the table, and the form of a word that gives an option.
use Rattle.std.proofs.Common.{◌≡◌, ◌∙◌, ◌+◌, ◌&&◌, ◌||◌, ℕ, zero, suc, Bool, true, false, not, cond, refl, sym, ap, ap₂, arith, List, [], ◌∷◌, ◌++◌, map, take, drop, length, codes, subst, append-nil, Option, Some, None}
use Rattle.std.specs.Prelude.{◌==◌, find, nat_eq, slice_get}
use Rattle.std.specs.Option.{option_map}
use Rattle.std.specs.List.{after_first, before_first, list_all, list_any, position_or_len}
use Rattle.std.specs.Str.{bytes_eq}
use Rattle.std.specs.Cmp.{nat_eq_equiv}
use Rattle.std.proofs.lemmas.Bool.{and_parts, false≢true, not-true, or_parts}
use Rattle.std.proofs.lemmas.List.{take_all}
use Rattle.std.proofs.lemmas.Slice.Eq.{bytes_eq-Decides}
use Rattle.clap.specs.Lexer.{has_byte, long_of, long_of_rest}
use Rattle.clap.specs.Simple.{Shape, built, filled}
use Rattle.clap.specs.Walk.{Rule, Text, arg_by_long, is_empty}
use Rattle.command_line.specs.declared.option_name.OptionKind.{OptionKind}
use Rattle.command_line.specs.declared.option_name.OptionKind.TheVariants.{Valued, Flag}
use Rattle.command_line.specs.declared.option_name.OptionName.{OptionName}
use Rattle.command_line.specs.declared.option_name.OptionName.TheVariants.{Index, Installed, Os, Arch, Compiler, MaxBackjumps, Number, Events, Slots, Json, CountConflicts, MinimizeConflictSet}
use Rattle.command_line.specs.OptionName.{gives, gives_as, kind_of, name_of, prefix_of, sign_of, value_in}
use Rattle.command_line.specs.Words.{options}
use Rattle.command_line.specs.Parser.{parser, rule_as}

-- ---- each option

-- the place of an option in the table
abbrev place_of : OptionName → ℕ
place_of Index = 0
place_of Installed = 1
place_of Os = 2
place_of Arch = 3
place_of Compiler = 4
place_of MaxBackjumps = 5
place_of Number = 6
place_of Events = 7
place_of Slots = 8
place_of Json = 9
place_of CountConflicts = 10
place_of MinimizeConflictSet = 11

stands : (option : OptionName) → slice_get options (place_of option) ≡ Some option
stands Index = refl
stands Installed = refl
stands Os = refl
stands Arch = refl
stands Compiler = refl
stands MaxBackjumps = refl
stands Number = refl
stands Events = refl
stands Slots = refl
stands Json = refl
stands CountConflicts = refl
stands MinimizeConflictSet = refl

all-at : {A : Type 0} (test : A → Bool) (xs : List A) (i : ℕ) (x : A) → slice_get xs i ≡ Some x → list_all test xs ≡ true → test x ≡ true
all-at test [] i x at all = absurd (cc at)
all-at test (y ∷ ys) zero x at all = let same : y ≡ x = cc at in ap test (sym same) ∙ (and_parts (test y) (list_all test ys) all).0
all-at test (y ∷ ys) (suc i) x at all = all-at test ys i x at (and_parts (test y) (list_all test ys) all).1

-- a test that holds on the table holds for each option
pub each_option : (test : OptionName → Bool) → list_all test options ≡ true → (option : OptionName) → test option ≡ true
each_option test all option = all-at test options (place_of option) option (stands option) all

-- ---- names

-- a name that isn't empty, has no `=`, and isn't that of the command
abbrev is_good : OptionName → Bool
is_good option =
    not (is_empty (name_of option))
    && (not (has_byte 61 (name_of option)) && (not (bytes_eq (name_of option) (codes "command")) && not (bytes_eq (codes "command") (name_of option))))

record IsGood (option : OptionName) : Type 0 where
  some : is_empty (name_of option) ≡ false
  no_equals : has_byte 61 (name_of option) ≡ false
  not_command : bytes_eq (name_of option) (codes "command") ≡ false
  command_not : bytes_eq (codes "command") (name_of option) ≡ false

good : (option : OptionName) → IsGood option
good option =
    let name = name_of option in
    let first = and_parts (not (is_empty name)) (not (has_byte 61 name) && (not (bytes_eq name (codes "command")) && not (bytes_eq (codes "command") name))) (each_option is_good refl option) in
    let second = and_parts (not (has_byte 61 name)) (not (bytes_eq name (codes "command")) && not (bytes_eq (codes "command") name)) first.1 in
    let third = and_parts (not (bytes_eq name (codes "command"))) (not (bytes_eq (codes "command") name)) second.1 in
    record {
      some = not-true (is_empty name) first.0;
      no_equals = not-true (has_byte 61 name) second.0;
      not_command = not-true (bytes_eq name (codes "command")) third.0;
      command_not = not-true (bytes_eq (codes "command") name) third.1;
    }

pub not_command : (option : OptionName) → bytes_eq (name_of option) (codes "command") ≡ false
not_command option = (good option).not_command

pub command_not : (option : OptionName) → bytes_eq (codes "command") (name_of option) ≡ false
command_not option = (good option).command_not

pub same_name : (option : OptionName) → bytes_eq (name_of option) (name_of option) ≡ true
same_name option = (bytes_eq-Decides (name_of option) (name_of option)).1 refl

-- the option of a name
abbrev named : Text → Option OptionName
named name = find (λ option. bytes_eq (name_of option) name) options

its_own : (option : OptionName) → named (name_of option) ≡ Some option
its_own Index = refl
its_own Installed = refl
its_own Os = refl
its_own Arch = refl
its_own Compiler = refl
its_own MaxBackjumps = refl
its_own Number = refl
its_own Events = refl
its_own Slots = refl
its_own Json = refl
its_own CountConflicts = refl
its_own MinimizeConflictSet = refl

-- `name_of` is injective
pub one_option : (option other : OptionName) → bytes_eq (name_of other) (name_of option) ≡ true → other ≡ option
one_option option other same =
    let names : name_of other ≡ name_of option = (bytes_eq-Decides (name_of other) (name_of option)).0 same in
    cc (sym (its_own other) ∙ ap named names ∙ its_own option)

-- ---- a word that gives an option

-- an option with its value; a flag's word leaves the value out
abbrev pub Given : Type 0
Given = OptionName × Text

abbrev pub spelled : OptionKind → Text → Text → Text
spelled Valued name v = (codes "--" ++ name ++ codes "=") ++ v
spelled Flag name v = codes "--" ++ name ++ []

abbrev pub word_of : Given → Text
word_of g = spelled (kind_of g.0) (name_of g.0) g.1

-- the value in such a word
abbrev pub attached : OptionKind → Text → Option Text
attached Valued v = Some v
attached Flag v = None

-- the value that the parser stores for such a word
abbrev pub held_of : OptionKind → Text → Text
held_of Valued v = v
held_of Flag v = codes "true"

-- such a word isn't `--`
not_dashes_as : (kind : OptionKind) (name v : Text) → is_empty name ≡ false → bytes_eq (spelled kind name v) (45 ∷ 45 ∷ []) ≡ false
not_dashes_as Valued [] v some = refl
not_dashes_as Valued (x ∷ name) v some = refl
not_dashes_as Flag [] v some = absurd (false≢true (sym some))
not_dashes_as Flag (x ∷ name) v some = refl

pub not_dashes : (g : Given) → bytes_eq (word_of g) (45 ∷ 45 ∷ []) ≡ false
not_dashes g = not_dashes_as (kind_of g.0) (name_of g.0) g.1 (good g.0).some

-- the first `=` of a word comes after the name, which has none
first_equals : (name v : Text) → has_byte 61 name ≡ false → position_or_len (λ x. x == 61) ((name ++ codes "=") ++ v) ≡ length name
first_equals [] v none = refl
first_equals (x ∷ name) v none = go (x == 61) none (first_equals name v)
  where
    go : (b : Bool) → (b || has_byte 61 name) ≡ false → (has_byte 61 name ≡ false → position_or_len (λ x. x == 61) ((name ++ codes "=") ++ v) ≡ length name)
        → cond (not b) (1 + position_or_len (λ x. x == 61) ((name ++ codes "=") ++ v)) 0 ≡ length (x ∷ name)
    go true e more = absurd (false≢true (sym e))
    go false e more = let same : position_or_len (λ x. x == 61) ((name ++ codes "=") ++ v) ≡ length name = more e in omega arith

has_equals : (name v : Text) → has_byte 61 ((name ++ codes "=") ++ v) ≡ true
has_equals [] v = refl
has_equals (x ∷ name) v = go (x == 61) (has_equals name v)
  where
    go : (b : Bool) → has_byte 61 ((name ++ codes "=") ++ v) ≡ true → (b || has_byte 61 ((name ++ codes "=") ++ v)) ≡ true
    go true e = refl
    go false e = e

taken : (name v : Text) → take (length name) ((name ++ codes "=") ++ v) ≡ name
taken [] v = refl
taken (x ∷ name) v = ap (λ xs. x ∷ xs) (taken name v)

dropped : (name v : Text) → drop (suc (length name)) ((name ++ codes "=") ++ v) ≡ v
dropped [] v = refl
dropped (x ∷ name) v = dropped name v

long_rest : (name v : Text) → is_empty name ≡ false → has_byte 61 name ≡ false → long_of_rest ((name ++ codes "=") ++ v) ≡ Some (name, Some v)
long_rest [] v some none = absurd (false≢true (sym some))
long_rest (x ∷ name) v some none =
    let text : Text = ((x ∷ name) ++ codes "=") ++ v in
    let first : position_or_len (λ c. c == 61) text ≡ length (x ∷ name) = first_equals (x ∷ name) v none in
    let before : before_first (λ c. c == 61) text ≡ x ∷ name = ap (λ n. take n text) first ∙ taken (x ∷ name) v in
    let one_more : length (x ∷ name) + 1 ≡ suc (length (x ∷ name)) = omega arith in
    let after : after_first (λ c. c == 61) text ≡ v = ap (λ n. drop (n + 1) text) first ∙ ap (λ n. drop n text) one_more ∙ dropped (x ∷ name) v in
    ap (λ b. Some (before_first (λ c. c == 61) text, cond b (Some (after_first (λ c. c == 61) text)) None)) (has_equals (x ∷ name) v)
    ∙ ap₂ (λ n w. Some (n, Some w)) before after

-- a flag's word has no `=`
no_equals_first : (name : Text) → has_byte 61 name ≡ false → position_or_len (λ x. x == 61) (name ++ []) ≡ length name
no_equals_first [] none = refl
no_equals_first (x ∷ name) none = go (x == 61) none (no_equals_first name)
  where
    go : (b : Bool) → (b || has_byte 61 name) ≡ false → (has_byte 61 name ≡ false → position_or_len (λ x. x == 61) (name ++ []) ≡ length name)
        → cond (not b) (1 + position_or_len (λ x. x == 61) (name ++ [])) 0 ≡ length (x ∷ name)
    go true e more = absurd (false≢true (sym e))
    go false e more = let same : position_or_len (λ x. x == 61) (name ++ []) ≡ length name = more e in omega arith

flag_rest : (name : Text) → is_empty name ≡ false → has_byte 61 name ≡ false → long_of_rest (name ++ []) ≡ Some (name, None)
flag_rest [] some none = absurd (false≢true (sym some))
flag_rest (x ∷ name) some none =
    let whole : (x ∷ name) ++ [] ≡ x ∷ name = append-nil (x ∷ name) in
    let first : position_or_len (λ c. c == 61) ((x ∷ name) ++ []) ≡ length (x ∷ name) = no_equals_first (x ∷ name) none in
    let before : before_first (λ c. c == 61) ((x ∷ name) ++ []) ≡ x ∷ name =
    ap (λ n. take n ((x ∷ name) ++ [])) first ∙ ap (take (length (x ∷ name))) whole ∙ take_all (length (x ∷ name)) (x ∷ name) (omega arith) in
    ap (λ b. Some (before_first (λ c. c == 61) ((x ∷ name) ++ []), cond b (Some (after_first (λ c. c == 61) ((x ∷ name) ++ []))) None)) (ap (has_byte 61) whole ∙ none)
    ∙ ap (λ n. Some (n, None)) before

-- the parser splits a word into name and value
long_as : (kind : OptionKind) (name v : Text) → is_empty name ≡ false → has_byte 61 name ≡ false → long_of (spelled kind name v) ≡ Some (name, attached kind v)
long_as Valued name v some none = long_rest name v some none
long_as Flag name v some none = flag_rest name some none

pub long_is : (g : Given) → long_of (word_of g) ≡ Some (name_of g.0, attached (kind_of g.0) g.1)
long_is g = long_as (kind_of g.0) (name_of g.0) g.1 (good g.0).some (good g.0).no_equals

-- ---- the rule of an option

-- the built rule of a kind and a name
abbrev pub built_as : OptionKind → Text → Rule
built_as kind name = filled (rule_as kind name)

abbrev pub shape : Shape
shape = (built parser).top

abbrev pub rules : List Rule
rules = shape.rules

pub rule_is : (option : OptionName) → arg_by_long rules (name_of option) ≡ Some (built_as (kind_of option) (name_of option))
rule_is Index = refl
rule_is Installed = refl
rule_is Os = refl
rule_is Arch = refl
rule_is Compiler = refl
rule_is MaxBackjumps = refl
rule_is Number = refl
rule_is Events = refl
rule_is Slots = refl
rule_is Json = refl
rule_is CountConflicts = refl
rule_is MinimizeConflictSet = refl

-- ---- which option a word gives

-- `a=` is a prefix of `b=v` iff the names are equal
ended : (a b v : Text) → has_byte 61 a ≡ false → has_byte 61 b ≡ false → bytes_eq (a ++ codes "=") (take (length (a ++ codes "=")) ((b ++ codes "=") ++ v)) ≡ bytes_eq b a
ended [] [] v none others = refl
ended [] (y ∷ b) v none others = ap (λ c. c && true) (nat_eq_equiv.symm 61 y) ∙ go (y == 61) others
  where
    go : (c : Bool) → (c || has_byte 61 b) ≡ false → (c && true) ≡ false
    go true e = absurd (false≢true (sym e))
    go false e = refl
ended (x ∷ a) [] v none others = go (x == 61) none
  where
    go : (c : Bool) → (c || has_byte 61 a) ≡ false → (c && bytes_eq (a ++ codes "=") (take (length (a ++ codes "=")) v)) ≡ false
    go true e = absurd (false≢true (sym e))
    go false e = refl
ended (x ∷ a) (y ∷ b) v none others =
    ap₂ (λ c d. c && d) (nat_eq_equiv.symm x y) (ended a b v (or_parts (x == 61) (has_byte 61 a) none).1 (or_parts (y == 61) (has_byte 61 b) others).1)

-- a word with a value is no flag's word, and `name=` is no prefix of a flag's word
false-and : (b c : Bool) → c ≡ false → (b && c) ≡ false
false-and true c e = e
false-and false c e = refl

not_equals : (x : ℕ) (name : Text) → has_byte 61 (x ∷ name) ≡ false → (61 == x) ≡ false
not_equals x name none = nat_eq_equiv.symm 61 x ∙ (or_parts (x == 61) (has_byte 61 name) none).0

longer : (a b v : Text) → has_byte 61 a ≡ false → bytes_eq ((b ++ codes "=") ++ v) (a ++ []) ≡ false
longer [] [] v none = refl
longer [] (y ∷ b) v none = refl
longer (x ∷ a) [] v none = ap (λ c. c && bytes_eq v (a ++ [])) (not_equals x a none)
longer (x ∷ a) (y ∷ b) v none = false-and (y == x) (bytes_eq ((b ++ codes "=") ++ v) (a ++ [])) (longer a b v (or_parts (x == 61) (has_byte 61 a) none).1)

shorter : (a b : Text) → has_byte 61 b ≡ false → bytes_eq (a ++ codes "=") (take (length (a ++ codes "=")) (b ++ [])) ≡ false
shorter [] [] none = refl
shorter [] (y ∷ b) none = ap (λ c. c && true) (not_equals y b none)
shorter (x ∷ a) [] none = refl
shorter (x ∷ a) (y ∷ b) none =
    false-and (x == y) (bytes_eq (a ++ codes "=") (take (length (a ++ codes "=")) (b ++ []))) (shorter a b (or_parts (y == 61) (has_byte 61 b) none).1)

abbrev pub alike : OptionKind → OptionKind → Bool
alike Valued Valued = true
alike Valued Flag = false
alike Flag Valued = false
alike Flag Flag = true

-- options of different kinds have different names
two_names : (option other : OptionName) → (alike (kind_of option) (kind_of other) || not (bytes_eq (name_of other) (name_of option))) ≡ true
two_names option other =
    each_option (λ p. alike (kind_of option) (kind_of p) || not (bytes_eq (name_of p) (name_of option)))
    (each_option (λ o. list_all (λ p. alike (kind_of o) (kind_of p) || not (bytes_eq (name_of p) (name_of o))) options) refl option) other

-- the flags, the last options of the table
abbrev pub flags : List OptionName
flags = Json ∷ CountConflicts ∷ MinimizeConflictSet ∷ []

pub each_flag : list_all (λ flag. alike (kind_of flag) Flag) flags ≡ true
each_flag = refl

-- each option of kind `Flag` is one of these
pub a_flag : (option : OptionName) → kind_of option ≡ Flag → list_any (λ flag. bytes_eq (name_of flag) (name_of option)) flags ≡ true
a_flag Index e = absurd (cc e)
a_flag Installed e = absurd (cc e)
a_flag Os e = absurd (cc e)
a_flag Arch e = absurd (cc e)
a_flag Compiler e = absurd (cc e)
a_flag MaxBackjumps e = absurd (cc e)
a_flag Number e = absurd (cc e)
a_flag Events e = absurd (cc e)
a_flag Slots e = absurd (cc e)
a_flag Json e = refl
a_flag CountConflicts e = refl
a_flag MinimizeConflictSet e = refl

-- no valued option has a flag's name
pub not_flag : (flag option : OptionName) → alike (kind_of flag) Flag ≡ true → kind_of option ≡ Valued → bytes_eq (name_of flag) (name_of option) ≡ false
not_flag flag option is e = not-true (bytes_eq (name_of flag) (name_of option)) (by (kind_of flag) is (ap (λ k. alike k (kind_of flag) || not (bytes_eq (name_of flag) (name_of option))) (sym e) ∙ two_names option flag))
  where
    by : (kind : OptionKind) → alike kind Flag ≡ true → (alike Valued kind || not (bytes_eq (name_of flag) (name_of option))) ≡ true → not (bytes_eq (name_of flag) (name_of option)) ≡ true
    by Valued is apart = absurd (false≢true is)
    by Flag is apart = apart

-- a word gives an option iff the names are equal
pub same_test : (option : OptionName) (g : Given) → gives option (word_of g) ≡ bytes_eq (name_of g.0) (name_of option)
same_test option g = by (kind_of option) (kind_of g.0) (two_names option g.0)
  where
    a : Text
    a = name_of option

    b : Text
    b = name_of g.0

    by : (kind other : OptionKind) → (alike kind other || not (bytes_eq b a)) ≡ true
        → gives_as kind (codes "--" ++ a ++ sign_of kind) (spelled other b g.1) ≡ bytes_eq b a
    by Valued Valued apart = ended a b g.1 (good option).no_equals (good g.0).no_equals
    by Valued Flag apart = shorter a b (good g.0).no_equals ∙ sym (not-true (bytes_eq b a) apart)
    by Flag Valued apart = longer a b g.1 (good option).no_equals ∙ sym (not-true (bytes_eq b a) apart)
    by Flag Flag apart = ap₂ (λ x y. bytes_eq x y) (append-nil b) (append-nil a)

dropped_all : (front v : Text) → drop (length front) (front ++ v) ≡ v
dropped_all [] v = refl
dropped_all (x ∷ front) v = dropped_all front v

-- the value that the parser stores for an option, by the value that words give it
abbrev pub held_as : OptionKind → Option Text → Option Text
held_as Valued value = value
held_as Flag value = option_map (λ _. codes "true") value

-- a word of the option stores the value in it
pub held_here : (option : OptionName) (v : Text) → held_as (kind_of option) (Some (value_in option (word_of (option, v)))) ≡ Some (held_of (kind_of option) v)
held_here option v = by (kind_of option)
  where
    by : (kind : OptionKind)
        → held_as kind (Some (drop (length (codes "--" ++ name_of option ++ sign_of kind)) (spelled kind (name_of option) v))) ≡ Some (held_of kind v)
    by Valued = ap Some (dropped_all (codes "--" ++ name_of option ++ codes "=") v)
    by Flag = refl

-- options of equal names store the same
pub held_found : (option : OptionName) (g : Given) → bytes_eq (name_of g.0) (name_of option) ≡ true
    → Some (held_of (kind_of g.0) g.1) ≡ held_as (kind_of option) (Some (value_in option (word_of g)))
held_found option g same =
    subst (λ o. Some (held_of (kind_of o) g.1) ≡ held_as (kind_of option) (Some (value_in option (word_of (o, g.1))))) (sym (one_option option g.0 same))
    (sym (held_here option g.1))
