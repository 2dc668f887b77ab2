-- What is found by a parse of the program's command line without a fault is one of its commands, and is complete.
use Rattle.std.proofs.Common.{zero, suc, ◌≡◌, ◌∙◌, ◌<◌, ◌≤◌, ◌^◌, ℕ, Bool, true, false, not, ◌&&◌, ◌||◌, List, [], ◌∷◌, map, length, Option, Some, None, refl, sym, ap, subst, arith, cond}
use Rattle.std.specs.Prelude.{IfSome, find, fold, slice_get, codes, nat_lt, nat_le, is_some, unwrap_or, option_map, option_and_then, if◌then◌else◌}
use Rattle.std.specs.List.{list_any}
use Rattle.std.specs.Option.{option_map_or}
use Rattle.std.specs.Borrow.{Bor}
use Rattle.std.specs.Str.{bytes_eq}
use Rattle.std.specs.Str.Parse.{IsNumeral, digits_value, without_leading_plus}
use Rattle.std.proofs.lemmas.Slice.Eq.{bytes_eq-Decides}
use Rattle.std.proofs.lemmas.Bool.Decides.{nat_tests}
use Rattle.clap.proofs.ValueTestLemmas.{accepts-Accepts}
use Rattle.clap.specs.Facts.{explicit_source, parser_of_value, unwrap_or_range}
use Rattle.clap.specs.ValueTests.{accepts, is_unsigned_in}
use Rattle.clap.specs.Lexer.{long_of, short_of}
use Rattle.clap.specs.Walk.{Held, Names, Outcome, Row, Rule, Step, Text, Waiting, Walk, action_of, after_flag, after_step, all_of, answers_to, default_rows, done, finished, first_of, has_row, idle, is_empty, most_values, next, nothing_held, option, plain, plain_word, positional, reading_by, refused, rows_after, settled, subcommand, subcommand_met, subcommand_or_other, to_positional, trailing, value, values_or_missing, waits, used, walk, walk_from, walked, walked_from, with_default, word_met, long_or_other, short_or_plain, arg_by_index}
use Rattle.clap.specs.Simple.{App, Shape, argument_words, built, entered, label_of, names_of, new_rule, rows_at}
use Rattle.clap.specs.Takes.{is_given}
use Rattle.clap.specs.Kinds.{Kinds, check_kinds, or_else, range_kinds, value_kinds}
use Rattle.clap.specs.Faults.{check_fault, default_fault, defaults_fault, entered_fault, level_fault, other_fault, settle_fault, turn_fault, values_fault, walk_fault, word_fault, step_fault}
use Rattle.clap.specs.declared.builder.value_parser.ValueParser.TheVariants.{Unsigned}
use Rattle.file_commands.specs.Command.{program, command_in, faults_in}
use Rattle.file_commands.specs.Inside.Chosen.{IsNumber, Has, IsNumberIn, IsComplete, IsFound, reads_file, is_row_name, rows}
use Rattle.file_commands.proofs.WalkedRows.{Each, Values, Good, UseGood, TakenAs, HasValue, does_not_count, or_none, each_found_so, values_taken, with_values_good, use_good, settled_good, walk_good}

-- ---- values

abbrev is_number_name : Text → Bool
is_number_name id = bytes_eq id (codes "workers") || bytes_eq id (codes "memory")

-- the value of an option for numbers is one
abbrev Numbers : Values
Numbers id v = is_number_name id ≡ true → IsNumber v

no_number : (a : Rule) → is_number_name a.id ≡ false → TakenAs Numbers a
no_number a other v h named = cc

number_within : (low high : ℕ) (text : Text) → is_unsigned_in low high text ≡ true → high ≤ 18446744073709551615
    → IsNumber text
number_within low high text h most = grind (arith, nat_tests, h, most)

taken_number : (a : Rule) (low high : ℕ) → parser_of_value a.parser ≡ Unsigned low high → high ≤ 18446744073709551615
    → TakenAs Numbers a
taken_number a low high is most v h named = go (is_unsigned_in low high v) refl (rw is at h)
  where
    go : (t : Bool) → is_unsigned_in low high v ≡ t → value_kinds a.ignore_case (Unsigned low high) v ≡ [] → IsNumber v
    go true e h = number_within low high v e most
    go false e h = let bad = rw e at h in cc

-- an option with a value each time, and a flag
has_one : (a : Rule) → nat_lt 0 (unwrap_or_range a.range).start_inclusive ≡ true → HasValue a
has_one a least [] h = let bad = rw least at h in cc
has_one a least (v ∷ vs) h = omega arith

has_meant : (a : Rule) → 0 < length a.missing → HasValue a
has_meant a some [] h = some
has_meant a some (v ∷ vs) h = omega arith

-- ---- a level without a fault

default_good : (a : Rule) (rows : List Row) → TakenAs Numbers a → default_fault rows a ≡ [] → Each (Good Numbers) rows
    → Each (Good Numbers) (with_default rows a)
default_good a rows taken none good = go (has_row a.id rows) refl
  where
    make : (defaults : List Text) → values_fault a defaults ≡ []
        → Each (Good Numbers) (default_rows a.id (reading_by a) defaults rows)
    make [] none = good
    make (v ∷ vs) none =
        with_values_good Numbers a.id (reading_by a) _ (v ∷ vs) rows (omega arith)
        (values_taken Numbers a (v ∷ vs) taken none) good

    faultless : (t : Bool) (defaults : List Text) (asks : Kinds)
        → (if t || is_empty defaults then [] else or_else asks (values_fault a defaults)) ≡ []
        → t ≡ false → values_fault a defaults ≡ []
    faultless true defaults asks h e = cc
    faultless false [] asks h e = refl
    faultless false (v ∷ vs) asks h e =
        let some : is_empty (v ∷ vs) ≡ false = grind (arith, nat_tests) in
        (or_none asks (values_fault a (v ∷ vs)) (rw some at h)).1

    go : (t : Bool) → has_row a.id rows ≡ t → Each (Good Numbers) (with_default rows a)
    go true e = rw e good
    go false e = rw e (make a.defaults (faultless (has_row a.id rows) a.defaults _ none e))

defaults_good : (rules : List Rule) (rows : List Row) → Each (TakenAs Numbers) rules → defaults_fault rows rules ≡ []
    → Each (Good Numbers) rows → Each (Good Numbers) (fold with_default rows rules)
unfolding defaults_fault
defaults_good [] found taken none good = good
defaults_good (a ∷ rest) found (here, taken) none good =
    let both = or_none (default_fault found a) (defaults_fault (with_default found a) rest) none in
    defaults_good rest (with_default found a) taken both.1 (default_good a found here both.0 good)

-- a rule for which nothing bad is found
abbrev RuleGood : Rule → Type 0
RuleGood a = UseGood Numbers false a × TakenAs Numbers a

abbrev Rules : List Rule → Type 0
Rules rules = Each RuleGood rules

uses_good : (rules : List Rule) → Rules rules → Each (UseGood Numbers false) rules
uses_good [] h = tt
uses_good (a ∷ rest) (here, h) = (here.0, uses_good rest h)

all_taken : (rules : List Rule) → Rules rules → Each (TakenAs Numbers) rules
all_taken [] h = tt
all_taken (a ∷ rest) (here, h) = (here.1, all_taken rest h)

leaf_good : (s : Shape) (words : List Text) → s.args_override_self ≡ false → Rules s.rules
    → level_fault s [] nothing_held words false [] ≡ []
    → Each (Good Numbers) (rows_after s.rules [] words) × (check_fault s (rows_after s.rules [] words) false ≡ [])
leaf_good s words once rules none =
    let end = (walk s.rules [] nothing_held words).held in
    let again = s.args_override_self in
    let uses : Each (UseGood Numbers again) s.rules =
    subst (λ (b : Bool). Each (UseGood Numbers b) s.rules) (sym once) (uses_good s.rules rules) in
    let walks = or_none (walk_fault s [] (walk_from nothing_held) words) _ none in
    let settles = or_none (settle_fault s.rules again end) _ walks.1 in
    let defaults = or_none (defaults_fault (settled s.rules end).rows s.rules) _ settles.1 in
    let walked_well = walk_good Numbers s [] (walk_from nothing_held) words uses walks.0 tt in
    let settled_well = settled_good Numbers s.rules again end uses settles.0 walked_well in
    (defaults_good s.rules (settled s.rules end).rows (all_taken s.rules rules) defaults.0 settled_well, defaults.1)

-- ---- what is read of rows

given_has : (id : Text) (rows : List Row) → Each (Good Numbers) rows → is_given id rows ≡ true → Has id rows
given_has id rows good given =
    go (find (λ r. bytes_eq r.id id) rows) refl
    (each_found_so (Good Numbers) (λ r. bytes_eq r.id id) rows (each_anyway rows good)) given
  where
    each_anyway :
        (rows : List Row) → Each (Good Numbers) rows → Each (λ r. bytes_eq r.id id ≡ true → Good Numbers r) rows
    each_anyway [] h = tt
    each_anyway (r ∷ rs) (g, h) = (λ e. g, each_anyway rs h)

    some_of : (vs : List Text) → 0 < length vs → (v : Text) × (rest : List Text) × (Some vs ≡ Some (v ∷ rest))
    some_of [] some = absurd (omega arith)
    some_of (v ∷ vs) some = (v, vs, refl)

    go : (o : Option Row) → find (λ r. bytes_eq r.id id) rows ≡ o
        → IfSome (find (λ r. bytes_eq r.id id) rows) (Good Numbers) → is_given id rows ≡ true → Has id rows
    go None e h given = let bad = rw e at given in cc
    go (Some r) e h given =
        let here : Good Numbers r = subst (λ o. IfSome o (Good Numbers)) e h in
        rw e (some_of r.values here.0)

abbrev Mine : Text → Row → Type 0
Mine id r = Each (Numbers id) r.values

first_good : (id : Text) (rows : List Row) → Each (Good Numbers) rows → (text : Text) → first_of id rows ≡ Some text
    → Numbers id text
first_good id rows good text first =
    go (find (λ r. bytes_eq r.id id) rows) refl
    (each_found_so (Mine id) (λ r. bytes_eq r.id id) rows (each_mine rows good))
  where
    each_mine : (rows : List Row) → Each (Good Numbers) rows → Each (λ r. bytes_eq r.id id ≡ true → Mine id r) rows
    each_mine [] h = tt
    each_mine (r ∷ rs) (g, h) =
        (λ e. subst (λ i. Each (Numbers i) r.values) ((bytes_eq-Decides r.id id).0 e) g.1, each_mine rs h)

    first_is : (vs : List Text) → Each (Numbers id) vs → slice_get vs 0 ≡ Some text → Numbers id text
    first_is [] h is = cc
    first_is (v ∷ vs) (here, h) is = let same : v ≡ text = cc in subst (Numbers id) same here

    go : (o : Option Row) → find (λ r. bytes_eq r.id id) rows ≡ o → IfSome (find (λ r. bytes_eq r.id id) rows) (Mine id)
        → Numbers id text
    go None e h = let bad = rw e at first in cc
    go (Some r) e h =
        let here : Mine id r = subst (λ o. IfSome o (Mine id)) e h in
        first_is r.values here (rw e at first)

-- a number is read as one
pub number_parses : (text : Text) → IsNumber text
    → IsNumeral 10 (without_leading_plus text) × (digits_value 10 (without_leading_plus text) < 2 ^ 64)
number_parses text h =
    let read = accepts-Accepts false (Unsigned 0 18446744073709551615) text h in (read.0, read.1)

-- words of which there is one
pub some_words : (words : List (Bor Text)) (v : Text) (vs : List Text)
    → Some (map (λ w. w.now) words) ≡ Some (v ∷ vs) → 0 < length words
some_words [] v vs is = absurd cc
some_words (w ∷ ws) v vs is = omega arith

-- the first of its values
pub first_of_all : (id : Text) (found : List Row) → Has id found → first_of id found ≡ None → ⊥
first_of_all id found (v, vs, is) none = go (find (λ r. bytes_eq r.id id) found) is none
  where
    empty : (xs : List Text) → Some xs ≡ Some (v ∷ vs) → slice_get xs 0 ≡ None → ⊥
    empty [] is none = absurd cc
    empty (x ∷ xs) is none = absurd cc

    go : (o : Option Row) → option_map (λ r. r.values) o ≡ Some (v ∷ vs)
        → option_and_then (λ r. slice_get r.values 0) o ≡ None → ⊥
    go None is none = absurd cc
    go (Some r) is none = empty r.values is none

-- ---- the commands

check_asks : (a b c : Bool) → check_kinds a b c ≡ [] → c ≡ false
check_asks true b c h = cc
check_asks false true c h = cc
check_asks false false true h = cc
check_asks false false false h = refl

is_asked : (g rest : Bool) → (not g || rest) ≡ false → g ≡ true
is_asked true rest h = refl
is_asked false rest h = cc

right_false : (a b : Bool) → (a || b) ≡ false → b ≡ false
right_false true b h = cc
right_false false b h = h

-- what has to be there
asked : (s : Shape) (rows : List Row) → s.subcommand_negates_reqs ≡ false → check_fault s rows false ≡ []
    → list_any (λ a. a.required && not (is_given a.id rows)) s.rules ≡ false
asked s rows negates h =
    let missing = list_any (λ a. a.required && not (is_given a.id rows)) s.rules in
    let last =
    check_asks (not false && (s.arg_required_else_help && not (list_any (λ r. explicit_source r.source) rows)))
    (not false && s.subcommand_required) (not (s.subcommand_negates_reqs && false) && missing) h in
    rw negates at last

abbrev needs : Text → List Rule → Bool
needs id rules = list_any (λ a. a.required && bytes_eq a.id id) rules

required_given : (rules : List Rule) (rows : List Row) (id : Text)
    → list_any (λ a. a.required && not (is_given a.id rows)) rules ≡ false → needs id rules ≡ true
    → is_given id rows ≡ true
required_given [] rows id none there = cc
required_given (a ∷ rest) rows id none there =
    go a.required (bytes_eq a.id id) refl refl (required_given rest rows id)
  where
    go : (r e : Bool) → a.required ≡ r → bytes_eq a.id id ≡ e
        → (list_any (λ a. a.required && not (is_given a.id rows)) rest ≡ false → needs id rest ≡ true
        → is_given id rows ≡ true) → is_given id rows ≡ true
    go true true p q later =
        let here = is_asked (is_given a.id rows) _ (rw p at none) in
        subst (λ i. is_given i rows ≡ true) ((bytes_eq-Decides a.id id).0 q) here
    go true false p q later =
        later (right_false _ (list_any (λ a. a.required && not (is_given a.id rows)) rest) none) (rw (p, q) at there)
    go false e p q later =
        later (right_false _ (list_any (λ a. a.required && not (is_given a.id rows)) rest) none) (rw p at there)

complete_from : (name : Text) (rows : List Row) → Each (Good Numbers) rows
    → (reads_file name ≡ true → is_given (codes "FILE") rows ≡ true)
    → (bytes_eq name (codes "run") ≡ true → is_given (codes "MODULE") rows ≡ true) → IsComplete name rows
complete_from name rows good file main = (
  λ h. given_has (codes "FILE") rows good (file h),
  λ h. given_has (codes "MODULE") rows good (main h),
  λ text first. first_good (codes "workers") rows good text first refl,
  λ text first. first_good (codes "memory") rows good text first refl,
)

-- an option with a value each time; a flag; help, or the version
valued : (a : Rule) → TakenAs Numbers a → nat_lt 0 (unwrap_or_range a.range).start_inclusive ≡ true
    → does_not_count (action_of a) ≡ true → RuleGood a
valued a taken least counts = (use_good Numbers false a taken (has_one a least) counts, taken)

flag : (a : Rule) → TakenAs Numbers a → 0 < length a.missing → does_not_count (action_of a) ≡ true → RuleGood a
flag a taken some counts = (use_good Numbers false a taken (has_meant a some) counts, taken)

asks :
    (a : Rule) → ((values : List Text) (rows : List Row) → used a values rows ≡ rows) → TakenAs Numbers a → RuleGood a
asks a same taken = (λ values rows h good. subst (Each (Good Numbers)) (sym (same values rows)) good, taken)

-- the words of a command that was met, where it has no fault
abbrev Leaf : (word : Text) → List Text → Shape → Type 0
Leaf word words s =
    answers_to word (label_of s) ≡ true → level_fault s [] nothing_held words false [] ≡ []
    → IsFound (Some (rows_at s words))

abbrev sub : ℕ → Shape
sub n = unwrap_or (slice_get (built program).subs n) (built program).top

abbrev rule : ℕ → ℕ → Rule
rule n k = unwrap_or (slice_get (sub n).rules k) (new_rule [])

rules_of_serve : Rules (sub 0).rules
rules_of_serve = (
  valued (rule 0 0) (taken_number (rule 0 0) 1 16 refl (omega arith)) refl refl,
  (
    flag (rule 0 1) (no_number (rule 0 1) refl) (omega arith) refl,
    (
      flag (rule 0 2) (no_number (rule 0 2) refl) (omega arith) refl,
      (
        valued (rule 0 3) (no_number (rule 0 3) refl) refl refl,
        (
          valued (rule 0 4) (no_number (rule 0 4) refl) refl refl,
          (
            valued (rule 0 5) (no_number (rule 0 5) refl) refl refl,
            (
              asks (rule 0 6) (λ values rows. refl) (no_number (rule 0 6) refl),
              (asks (rule 0 7) (λ values rows. refl) (no_number (rule 0 7) refl), tt),
            ),
          ),
        ),
      ),
    ),
  ),
)

rules_of_replay : Rules (sub 1).rules
rules_of_replay = (
  valued (rule 1 0) (no_number (rule 1 0) refl) refl refl,
  (
    asks (rule 1 1) (λ values rows. refl) (no_number (rule 1 1) refl),
    (asks (rule 1 2) (λ values rows. refl) (no_number (rule 1 2) refl), tt),
  ),
)

rules_of_asm : Rules (sub 2).rules
rules_of_asm = (
  valued (rule 2 0) (no_number (rule 2 0) refl) refl refl,
  (
    flag (rule 2 1) (no_number (rule 2 1) refl) (omega arith) refl,
    (
      valued (rule 2 2) (no_number (rule 2 2) refl) refl refl,
      (
        asks (rule 2 3) (λ values rows. refl) (no_number (rule 2 3) refl),
        (asks (rule 2 4) (λ values rows. refl) (no_number (rule 2 4) refl), tt),
      ),
    ),
  ),
)

rules_of_check : Rules (sub 3).rules
rules_of_check = (
  flag (rule 3 0) (no_number (rule 3 0) refl) (omega arith) refl,
  (
    valued (rule 3 1) (taken_number (rule 3 1) 0 18446744073709551615 refl (omega arith)) refl refl,
    (
      flag (rule 3 2) (no_number (rule 3 2) refl) (omega arith) refl,
      (
        flag (rule 3 3) (no_number (rule 3 3) refl) (omega arith) refl,
        (
          valued (rule 3 4) (no_number (rule 3 4) refl) refl refl,
          (
            asks (rule 3 5) (λ values rows. refl) (no_number (rule 3 5) refl),
            (asks (rule 3 6) (λ values rows. refl) (no_number (rule 3 6) refl), tt),
          ),
        ),
      ),
    ),
  ),
)

rules_of_run : Rules (sub 4).rules
rules_of_run = (
  valued (rule 4 0) (no_number (rule 4 0) refl) refl refl,
  (
    valued (rule 4 1) (taken_number (rule 4 1) 0 18446744073709551615 refl (omega arith)) refl refl,
    (
      flag (rule 4 2) (no_number (rule 4 2) refl) (omega arith) refl,
      (
        valued (rule 4 3) (no_number (rule 4 3) refl) refl refl,
        (
          asks (rule 4 4) (λ values rows. refl) (no_number (rule 4 4) refl),
          (asks (rule 4 5) (λ values rows. refl) (no_number (rule 4 5) refl), tt),
        ),
      ),
    ),
  ),
)

leaf_found : (s : Shape) → s.args_override_self ≡ false → s.subcommand_negates_reqs ≡ false → Rules s.rules
    → is_row_name rows s.name ≡ true → (reads_file s.name ≡ true → needs (codes "FILE") s.rules ≡ true)
    → (bytes_eq s.name (codes "run") ≡ true → needs (codes "MODULE") s.rules ≡ true)
    → (word : Text) (words : List Text) → Leaf word words s
leaf_found s once negates good named file main word words is none =
    let read = rows_after s.rules [] words in
    let found = leaf_good s words once good none in
    let given = asked s read negates found.1 in (
      named,
      complete_from s.name read found.0 (λ h. required_given s.rules read (codes "FILE") given (file h))
          (λ h. required_given s.rules read (codes "MODULE") given (main h)),
    )

help_leaf : (word : Text) (words : List Text) → bytes_eq word (codes "help") ≡ false → Leaf word words (sub 5)
help_leaf word words other is none = go (bytes_eq (codes "help") word) refl
  where
    go : (t : Bool) → bytes_eq (codes "help") word ≡ t → IsFound (Some (rows_at (sub 5) words))
    go true e =
        let same : codes "help" ≡ word = (bytes_eq-Decides (codes "help") word).0 e in
        let bad : bytes_eq (codes "help") (codes "help") ≡ false =
        subst (λ w. bytes_eq w (codes "help") ≡ false) (sym same) other in
        absurd cc
    go false e = let bad : false ≡ true = rw e at is in absurd cc

leaves : (word : Text) (words : List Text) → bytes_eq word (codes "help") ≡ false
    → Each (Leaf word words) (built program).subs
leaves word words other = (
  leaf_found (sub 0) refl refl rules_of_serve refl (λ h. absurd cc) (λ h. absurd cc) word words,
  (
    leaf_found (sub 1) refl refl rules_of_replay refl (λ h. refl) (λ h. absurd cc) word words,
    (
      leaf_found (sub 2) refl refl rules_of_asm refl (λ h. refl) (λ h. absurd cc) word words,
      (
        leaf_found (sub 3) refl refl rules_of_check refl (λ h. refl) (λ h. absurd cc) word words,
        (
          leaf_found (sub 4) refl refl rules_of_run refl (λ h. absurd cc) (λ h. refl) word words,
          (help_leaf word words other, tt),
        ),
      ),
    ),
  ),
)

-- ---- the command that was met

-- help is not met without a fault
abbrev StepOk : Step → Type 0
StepOk (subcommand name) = bytes_eq name (codes "help") ≡ false
StepOk other = Unit {0}

abbrev NotHelp : Option (Text × List Text) → Type 0
NotHelp stop = IfSome stop (λ p. bytes_eq p.0 (codes "help") ≡ false)

plain_step : (c : List Rule) (waiting : Waiting) (word : Text) (h : Held) → StepOk (plain_word c waiting word h).1
plain_step c idle word h = tt
plain_step c positional word h = tt
plain_step c (option id) word h = tt

flag_step : (c : List Rule) (waiting : Waiting) (word : Text) (h : Held) (o : Outcome)
    → StepOk (after_flag c waiting word h o).1
flag_step c waiting word h done = tt
flag_step c waiting word h (waits id) = tt
flag_step c waiting word h plain = plain_step c waiting word h
flag_step c waiting word h refused = plain_step c waiting word h

short_step : (c : List Rule) (waiting : Waiting) (word : Text) (o : Option Text) (h : Held)
    → StepOk (short_or_plain c waiting word o h).1
short_step c waiting word None h = plain_step c waiting word h
short_step c waiting word (Some flags) h = flag_step c waiting word _ _

long_step : (c : List Rule) (waiting : Waiting) (word : Text) (o : Option (Text × Option Text)) (h : Held)
    → StepOk (long_or_other c waiting word o h).1
long_step c waiting word (Some p) h = flag_step c waiting word _ _
long_step c waiting word None h = short_step c waiting word (short_of word) h

other_step : (s : Shape) (o : Option Text) (waiting : Waiting) (position : ℕ) (word : Text) (h : Held)
    → s.disable_help_subcommand ≡ false → other_fault s o word h ≡ []
    → StepOk (subcommand_or_other s.rules o waiting position word h).1
other_step s (Some name) waiting position word h on none = go (bytes_eq name (codes "help")) refl
  where
    go : (t : Bool) → bytes_eq name (codes "help") ≡ t → bytes_eq name (codes "help") ≡ false
    go true e = let bad = rw (e, on) at none in absurd cc
    go false e = e
other_step s None waiting position word h on none = go (bytes_eq word (45 ∷ 45 ∷ [])) refl
  where
    go : (t : Bool) → bytes_eq word (45 ∷ 45 ∷ []) ≡ t
        → StepOk (subcommand_or_other s.rules None waiting position word h).1
    go true e = rw e tt
    go false e = rw e (long_step s.rules waiting word (long_of word) h)

word_step : (s : Shape) (names : Names) (is_trailing : Bool) (waiting : Waiting) (position : ℕ) (word : Text) (h : Held)
    → s.disable_help_subcommand ≡ false → word_fault s names is_trailing waiting word h ≡ []
    → StepOk (word_met s.rules names is_trailing waiting position word h).1
word_step s names true waiting position word h on none = tt
word_step s names false waiting position word h on none =
    other_step s (subcommand_met names waiting word) waiting position word h on none

to_positional_stop : (c : List Rule) (o : Option Rule) (word : Text) (w : Walk) (h : Held) → NotHelp w.stopped
    → NotHelp (to_positional c o word w h).stopped
to_positional_stop c None word w h so_far = so_far
to_positional_stop c (Some a) word w h so_far = tt

step_stop : (c : List Rule) (word : Text) (w : Walk) (h : Held) (step : Step) → StepOk step → NotHelp w.stopped
    → NotHelp (after_step c word w h step).stopped
step_stop c word w h (next waiting) ok so_far = so_far
step_stop c word w h (trailing position) ok so_far = so_far
step_stop c word w h (subcommand name) ok so_far = ok
step_stop c word w h value ok so_far = to_positional_stop c (arg_by_index c w.position) word w h so_far

turn_stop : (s : Shape) (names : Names) (w : Walk) (word : Text) (stopped : Option (Text × List Text))
    → w.stopped ≡ stopped → s.disable_help_subcommand ≡ false → turn_fault s names w word ≡ [] → NotHelp w.stopped
    → NotHelp (walked_from s.rules names stopped w word).stopped
turn_stop s names w word (Some p) e on none so_far = rw e at so_far
turn_stop s names w word None e on none so_far =
    let met = word_met s.rules names w.is_trailing w.waiting w.position word w.held in
    let at :
    or_else (word_fault s names w.is_trailing w.waiting word w.held) (step_fault s w.position met.0 met.1) ≡ [] =
    rw e at none in
    let both =
    or_none (word_fault s names w.is_trailing w.waiting word w.held) (step_fault s w.position met.0 met.1) at in
    step_stop s.rules word w met.0 met.1
    (word_step s names w.is_trailing w.waiting w.position word w.held on both.0) so_far

walk_stop : (s : Shape) (names : Names) (w : Walk) (words : List Text) → s.disable_help_subcommand ≡ false
    → walk_fault s names w words ≡ [] → NotHelp w.stopped → NotHelp (fold (walked s.rules names) w words).stopped
unfolding walk_fault walked
walk_stop s names w [] on none so_far = so_far
walk_stop s names w (word ∷ rest) on none so_far =
    let both = or_none (turn_fault s names w word) (walk_fault s names (walked s.rules names w word) rest) none in
    walk_stop s names (walked s.rules names w word) rest on both.1
    (turn_stop s names w word w.stopped refl on both.0 so_far)

wants_one : (a c : Bool) → check_kinds a true c ≡ [] → ⊥
wants_one true c h = absurd cc
wants_one false c h = absurd cc

is_entered : (s : Shape) (found : List Row) (has : Bool) → s.subcommand_required ≡ true → check_fault s found has ≡ []
    → has ≡ true
is_entered s found true wants h = refl
is_entered s found false wants h =
    absurd
    (wants_one (not false && (s.arg_required_else_help && not (list_any (λ r. explicit_source r.source) found)))
    (not (s.subcommand_negates_reqs && false) && list_any (λ a. a.required && not (is_given a.id found)) s.rules)
    (rw wants at h))

found_in : (b : App) (stop : Option (Text × List Text))
    → ((p : Text × List Text) → stop ≡ Some p → Each (Leaf p.0 p.1) b.subs)
    → is_some (entered b stop) ≡ true → entered_fault b stop ≡ [] → IsFound (entered b stop)
found_in b None all some none = cc
found_in b (Some p) all some none =
    go (find (λ s. answers_to p.0 (label_of s)) b.subs)
    (each_found_so (λ s. level_fault s [] nothing_held p.1 false [] ≡ [] → IsFound (Some (rows_at s p.1)))
    (λ s. answers_to p.0 (label_of s)) b.subs (all p refl)) some none
  where
    go : (o : Option Shape)
        → IfSome o (λ s. level_fault s [] nothing_held p.1 false [] ≡ [] → IsFound (Some (rows_at s p.1)))
        → is_some (option_map (λ s. rows_at s p.1) o) ≡ true
        → option_map_or (λ s. level_fault s [] nothing_held p.1 false []) o [] ≡ []
        → IsFound (option_map (λ s. rows_at s p.1) o)
    go None h some none = cc
    go (Some s) h some none = h none

pub found_whole : (arguments : List Text) → faults_in arguments ≡ [] → IsFound (command_in arguments)
found_whole arguments none =
    let b = built program in
    let words = argument_words program arguments in
    let end = walk b.top.rules (names_of b) nothing_held words in
    let walks = or_none (walk_fault b.top (names_of b) (walk_from nothing_held) words) _ none in
    let below = or_none (entered_fault b end.stopped) _ walks.1 in
    let settles = or_none (settle_fault b.top.rules b.top.args_override_self end.held) _ below.1 in
    let defaults = or_none (defaults_fault (settled b.top.rules end.held).rows b.top.rules) _ settles.1 in
    let met = walk_stop b.top (names_of b) (walk_from nothing_held) words refl walks.0 tt in
    found_in b end.stopped
    (λ p is. leaves p.0 p.1 (subst (λ (o : Option (Text × List Text)). NotHelp o) is met))
    (is_entered b.top (finished b.top.rules end.held) (is_some (entered b end.stopped)) refl defaults.1) below.0
