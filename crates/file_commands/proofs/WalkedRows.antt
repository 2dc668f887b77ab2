-- What a parse without a fault has found: each row has a value, and each of its values is one that its argument takes.
use Rattle.std.proofs.Common.{zero, suc, ◌≡◌, ◌<◌, ℕ, Bool, true, false, ◌&&◌, List, [], ◌∷◌, ◌++◌, length, Option, Some, None, refl, sym, subst, arith}
use Rattle.std.specs.Prelude.{IfSome, find, fold, drop, slice_get, encode_utf8, if◌then◌else◌, is_some}
use Rattle.std.specs.Option.{option_map_or}
use Rattle.std.specs.Str.{bytes_eq, chars}
use Rattle.std.proofs.lemmas.Slice.Eq.{bytes_eq-Decides}
use Rattle.clap.specs.Facts.{parser_of_value, unwrap_or_range}
use Rattle.clap.specs.Lexer.{long_of, short_of}
use Rattle.clap.specs.Walk.{Held, Names, Outcome, Row, Rule, Step, Text, Waiting, Walk, action_of, arg_by_id, arg_by_index, arg_by_long, arg_by_short, at_row, attached_value, bundle_met, bundle_step, done, idle, is_pending, long_met, more_values, most_values, next, option, option_met, option_word, plain, plain_word, positional, positional_held, reacted, reading_by, refused, settled, settled_rows, short_met, subcommand, subcommand_met, subcommand_or_other, takes_several, takes_values, to_positional, trailing, used, used_as, used_by_id, value, values_or_missing, waits, walked, walked_from, with_values, without, word_met, after_flag, after_step, long_or_other, short_or_plain, flag_met}
use Rattle.clap.specs.Simple.{Shape}
use Rattle.clap.specs.Kinds.{Kinds, or_else, range_kinds, value_kinds, values_kinds}
use Rattle.clap.specs.Faults.{action_fault, bundle_step_fault, flag_word_fault, flags_fault, long_fault, option_fault, other_fault, positional_fault, react_fault, settle_fault, short_fault, step_fault, stray_fault, turn_fault, use_fault, values_fault, walk_fault, word_fault}
use Rattle.clap.specs.declared.builder.action.ArgAction.{ArgAction}
use Rattle.clap.specs.declared.builder.action.ArgAction.TheVariants as action
use Rattle.clap.specs.declared.error.kind.ErrorKind.TheVariants as kind
use Rattle.clap.specs.declared.parser.matches.ValueSource.{ValueSource}
use Rattle.clap.specs.declared.builder.value_parser.Reading.{Reading}

-- ---- lists

abbrev pub Each : {X : Type 0} → (X → Type 0) → List X → Type 0
Each P [] = Unit {0}
Each P (x ∷ xs) = P x × Each P xs

each_append : {X : Type 0} (P : X → Type 0) (xs ys : List X) → Each P xs → Each P ys → Each P (xs ++ ys)
each_append P [] ys h k = k
each_append P (x ∷ xs) ys (p, h) k = (p, each_append P xs ys h k)

pub each_found : {X : Type 0} (P : X → Type 0) (p : X → Bool) (xs : List X) → Each P xs → IfSome (find p xs) P
each_found P p [] h = tt
each_found P p (x ∷ xs) (here, h) = go (p x) refl (each_found P p xs h)
  where
    go : (t : Bool) → p x ≡ t → IfSome (find p xs) P → IfSome (find p (x ∷ xs)) P
    go true e rest = rw e here
    go false e rest = rw e rest

pub each_found_so : {X : Type 0} (P : X → Type 0) (p : X → Bool) (xs : List X) → Each (λ x. p x ≡ true → P x) xs
    → IfSome (find p xs) P
each_found_so P p [] h = tt
each_found_so P p (x ∷ xs) (here, h) = go (p x) refl (each_found_so P p xs h)
  where
    go : (t : Bool) → p x ≡ t → IfSome (find p xs) P → IfSome (find p (x ∷ xs)) P
    go true e rest = rw e (here e)
    go false e rest = rw e rest

some_append : {X : Type 0} (xs ys : List X) → 0 < length xs → 0 < length (xs ++ ys)
some_append [] ys h = absurd (omega arith)
some_append (x ∷ xs) ys h = omega arith

pub or_none : (a b : Kinds) → or_else a b ≡ [] → (a ≡ []) × (b ≡ [])
or_none [] b h = (refl, h)
or_none (k ∷ ks) b h = cc

-- ---- rows

-- what each value of an argument of this id is
abbrev pub Values : Type 1
Values = Text → Text → Type 0

abbrev pub Good : Values → Row → Type 0
Good G r = (0 < length r.values) × Each (G r.id) r.values

at_row_good : (G : Values) (id : Text) (change : Row → List Row) (missing rows : List Row)
    → ((r : Row) → r.id ≡ id → Good G r → Each (Good G) (change r)) → Each (Good G) missing → Each (Good G) rows
    → Each (Good G) (at_row id change missing rows)
at_row_good G id change missing [] f m h = m
at_row_good G id change missing (r ∷ rs) f m (g, h) =
    go (bytes_eq r.id id) refl (at_row_good G id change missing rs f m h)
  where
    go : (t : Bool) → bytes_eq r.id id ≡ t → Each (Good G) (at_row id change missing rs)
        → Each (Good G) (at_row id change missing (r ∷ rs))
    go true e rest = rw e (each_append (Good G) (change r) rs (f r ((bytes_eq-Decides r.id id).0 e) g) h)
    go false e rest = rw e (g, rest)

pub with_values_good : (G : Values) (id : Text) (how : Reading) (s : ValueSource) (values : List Text) (rows : List Row)
    → 0 < length values → Each (G id) values → Each (Good G) rows → Each (Good G) (with_values id how s values rows)
with_values_good G id how s values rows some h good =
    at_row_good G id (more_values s values) _ rows
    (λ r same g. (
      (
        some_append r.values values g.0,
        each_append (G r.id) r.values values g.1 (subst (λ i. Each (G i) values) (sym same) h),
      ),
      tt,
    )) ((some, h), tt) good

without_good : (G : Values) (id : Text) (rows : List Row) → Each (Good G) rows → Each (Good G) (without id rows)
without_good G id rows good = at_row_good G id (λ _. []) [] rows (λ r same g. tt) tt good

-- ---- one use of an argument

-- a use without a fault leaves good rows
abbrev pub UseGood : Values → Bool → Rule → Type 0
UseGood G again a =
    (values : List Text) (rows : List Row) → use_fault again a values rows ≡ [] → Each (Good G) rows
    → Each (Good G) (used a values rows)

abbrev pub does_not_count : ArgAction → Bool
does_not_count action.Count = false
does_not_count other = true

-- what the parser of an argument takes is as wanted
abbrev pub TakenAs : Values → Rule → Type 0
TakenAs G a = (v : Text) → value_kinds a.ignore_case (parser_of_value a.parser) v ≡ [] → G a.id v

-- a use has a value, or one that it means
abbrev pub HasValue : Rule → Type 0
HasValue a =
    (values : List Text) → range_kinds (unwrap_or_range a.range).start_inclusive (most_values a) (length values) ≡ []
    → 0 < length (values_or_missing a values)

pub values_taken : (G : Values) (a : Rule) (values : List Text) → TakenAs G a → values_fault a values ≡ []
    → Each (G a.id) values
values_taken G a [] taken h = tt
values_taken G a (v ∷ vs) taken h =
    let both =
    or_none (value_kinds a.ignore_case (parser_of_value a.parser) v)
    (values_kinds a.ignore_case (parser_of_value a.parser) vs) h in
    (taken v both.0, values_taken G a vs taken both.1)

set_good : (G : Values) (again : Bool) (a : Rule) (values : List Text) (rows : List Row) (repeat : Kinds) → TakenAs G a
    → or_else repeat (values_fault a values) ≡ [] → 0 < length values → Each (Good G) rows
    → (s : ValueSource) → Each (Good G) (with_values a.id (reading_by a) s values (without a.id rows))
set_good G again a values rows repeat taken h some good s =
    with_values_good G a.id (reading_by a) s values (without a.id rows) some
    (values_taken G a values taken (or_none repeat (values_fault a values) h).1) (without_good G a.id rows good)

action_good : (G : Values) (again : Bool) (a : Rule) (values : List Text) (rows : List Row) (x : ArgAction)
    → TakenAs G a → does_not_count x ≡ true → action_fault x again a values rows ≡ [] → 0 < length values
    → Each (Good G) rows → Each (Good G) (used_as x a.id (reading_by a) values rows)
action_good G again a values rows action.Set taken x h some good = set_good G again a values rows _ taken h some good _
action_good G again a values rows action.SetTrue taken x h some good =
    set_good G again a values rows _ taken h some good _
action_good G again a values rows action.SetFalse taken x h some good =
    set_good G again a values rows _ taken h some good _
action_good G again a values rows action.Append taken x h some good =
    with_values_good G a.id (reading_by a) _ values rows some (values_taken G a values taken h) good
action_good G again a values rows action.Count taken x h some good = cc
action_good G again a values rows _ taken x h some good = good

pub use_good : (G : Values) (again : Bool) (a : Rule) → TakenAs G a → HasValue a → does_not_count (action_of a) ≡ true
    → UseGood G again a
use_good G again a taken some x values rows h good =
    let both =
    or_none (range_kinds (unwrap_or_range a.range).start_inclusive (most_values a) (length values))
    (action_fault (action_of a) again a (values_or_missing a values) rows) h in
    action_good G again a (values_or_missing a values) rows (action_of a) taken x both.1 (some values both.0) good

-- ---- the walk

by_id_good : (G : Values) (again : Bool) (o : Option Rule) (values : List Text) (rows : List Row)
    → IfSome o (UseGood G again) → option_map_or (λ a. use_fault again a values rows) o [] ≡ [] → Each (Good G) rows
    → Each (Good G) (used_by_id o values rows)
by_id_good G again None values rows all h good = good
by_id_good G again (Some a) values rows all h good = all values rows h good

pending_good : (G : Values) (c : List Rule) (again : Bool) (p : Option (Text × List Text)) (rows : List Row)
    → Each (UseGood G again) c
    → option_map_or (λ p. option_map_or (λ a. use_fault again a p.1 rows) (arg_by_id c p.0) []) p [] ≡ []
    → Each (Good G) rows → Each (Good G) (settled_rows c p rows)
pending_good G c again None rows all h good = good
pending_good G c again (Some p) rows all h good =
    by_id_good G again (arg_by_id c p.0) p.1 rows (each_found (UseGood G again) (λ a. bytes_eq a.id p.0) c all) h good

pub settled_good : (G : Values) (c : List Rule) (again : Bool) (h : Held) → Each (UseGood G again) c
    → settle_fault c again h ≡ [] → Each (Good G) h.rows → Each (Good G) (settled c h).rows
settled_good G c again h all none good = pending_good G c again h.pending h.rows all none good

reacted_good : (G : Values) (c : List Rule) (again : Bool) (a : Rule) (values : List Text) (h : Held)
    → Each (UseGood G again) c → UseGood G again a → react_fault c again a values h ≡ [] → Each (Good G) h.rows
    → Each (Good G) (reacted c a values h).rows
reacted_good G c again a values h all here none good =
    let both = or_none (settle_fault c again h) (use_fault again a values (settled c h).rows) none in
    here values (settled c h).rows both.1 (settled_good G c again h all both.0 good)

option_good : (G : Values) (c : List Rule) (again : Bool) (a : Rule) (v : Option Text) (h : Held)
    → Each (UseGood G again) c → UseGood G again a → option_fault c again a v h ≡ [] → Each (Good G) h.rows
    → Each (Good G) (option_met c a v h).0.rows
option_good G c again a (Some v) h all here none good = reacted_good G c again a (v ∷ []) h all here none good
option_good G c again a None h all here none good = settled_good G c again h all none good

flag_good : (G : Values) (c : List Rule) (again : Bool) (a : Rule) (v : Option Text) (h : Held)
    → Each (UseGood G again) c → UseGood G again a → (v ≡ None → react_fault c again a [] h ≡ []) → Each (Good G) h.rows
    → Each (Good G) (flag_met c a v h).0.rows
flag_good G c again a (Some v) h all here none good = good
flag_good G c again a None h all here none good = reacted_good G c again a [] h all here (none refl) good

long_good : (G : Values) (c : List Rule) (again : Bool) (o : Option Rule) (v : Option Text) (h : Held)
    → Each (UseGood G again) c → IfSome o (UseGood G again) → long_fault c again o v h ≡ [] → Each (Good G) h.rows
    → Each (Good G) (long_met c o v h).0.rows
long_good G c again None v h all here none good = good
long_good G c again (Some a) v h all here none good = go (takes_values a) refl
  where
    go : (t : Bool) → takes_values a ≡ t → Each (Good G) (long_met c (Some a) v h).0.rows
    go true e =
        let at : option_fault c again a v h ≡ [] = rw e at none in
        rw e (option_good G c again a v h all here at good)
    go false e =
        let at : (if is_some v then kind.TooManyValues ∷ [] else react_fault c again a [] h) ≡ [] = rw e at none in
        rw e (flag_good G c again a v h all here (λ p. rw p at at) good)

-- what follows the flags of a bundle that were read
abbrev NextGood : Values → (Held → Kinds) → (Held → Held × Outcome) → Type 0
NextGood G fault met = (h : Held) → fault h ≡ [] → Each (Good G) h.rows → Each (Good G) (met h).0.rows

short_good : (G : Values) (c : List Rule) (again : Bool) (o : Option Rule) (rest : Text) (h : Held)
    (fault : Held → Kinds) (met : Held → Held × Outcome)
    → Each (UseGood G again) c → IfSome o (UseGood G again) → NextGood G fault met
    → short_fault c again o rest h fault ≡ [] → Each (Good G) h.rows → Each (Good G) (short_met c o rest h met).0.rows
short_good G c again None rest h fault met all here next_good none good = good
short_good G c again (Some a) rest h fault met all here next_good none good = go (takes_values a) refl
  where
    go : (t : Bool) → takes_values a ≡ t → Each (Good G) (short_met c (Some a) rest h met).0.rows
    go true e =
        let at : option_fault c again a (attached_value rest) h ≡ [] = rw e at none in
        rw e (option_good G c again a (attached_value rest) h all here at good)
    go false e =
        let at : or_else (react_fault c again a [] h) (fault (reacted c a [] h)) ≡ [] = rw e at none in
        let both = or_none (react_fault c again a [] h) (fault (reacted c a [] h)) at in
        rw e (next_good (reacted c a [] h) both.1 (reacted_good G c again a [] h all here both.0 good))

bundle_step_good : (G : Values) (c : List Rule) (again : Bool) (o : Option ℕ) (flags : Text) (skip : ℕ)
    (so_far : Outcome) (h : Held) (fault : Text → ℕ → Held → Kinds) (met : Text → ℕ → Outcome → Held → Held × Outcome)
    → Each (UseGood G again) c
    → ((flags : Text) (skip : ℕ) (so_far : Outcome) → NextGood G (fault flags skip) (met flags skip so_far))
    → bundle_step_fault c again o flags skip h fault ≡ [] → Each (Good G) h.rows
    → Each (Good G) (bundle_step c o flags skip so_far h met).0.rows
bundle_step_good G c again None flags skip so_far h fault met all next_good none good = good
bundle_step_good G c again (Some x) flags zero so_far h fault met all next_good none good =
    let rest = drop (length (encode_utf8 x)) flags in
    short_good G c again (arg_by_short c x) rest h (fault rest 0) (met rest 0 done) all
    (each_found (UseGood G again) _ c all) (next_good rest 0 done) none good
bundle_step_good G c again (Some x) flags (suc skip) so_far h fault met all next_good none good =
    next_good (drop (length (encode_utf8 x)) flags) skip so_far h none good

bundle_good :
    (G : Values) (c : List Rule) (again : Bool) (k : ℕ) (flags : Text) (skip : ℕ) (so_far : Outcome) (h : Held)
    → Each (UseGood G again) c → flags_fault c again k flags skip h ≡ [] → Each (Good G) h.rows
    → Each (Good G) (bundle_met c k flags skip so_far h).0.rows
unfolding flags_fault bundle_met
bundle_good G c again zero flags skip so_far h all none good = good
bundle_good G c again (suc k) flags skip so_far h all none good =
    bundle_step_good G c again (slice_get (chars flags) 0) flags skip so_far h (flags_fault c again k)
    (bundle_met c k) all
    (λ flags skip so_far h none good. bundle_good G c again k flags skip so_far h all none good) none good

plain_rows :
    (c : List Rule) (waiting : Waiting) (word : Text) (h : Held) → (plain_word c waiting word h).0.rows ≡ h.rows
plain_rows c idle word h = refl
plain_rows c positional word h = refl
plain_rows c (option id) word h = go (arg_by_id c id)
  where
    go : (o : Option Rule) → (option_word o id word h).0.rows ≡ h.rows
    go None = refl
    go (Some a) = refl

flag_rows : (c : List Rule) (waiting : Waiting) (word : Text) (h : Held) (o : Outcome)
    → (after_flag c waiting word h o).0.rows ≡ h.rows
flag_rows c waiting word h done = refl
flag_rows c waiting word h (waits id) = refl
flag_rows c waiting word h plain = plain_rows c waiting word h
flag_rows c waiting word h refused = plain_rows c waiting word h

same_rows : (G : Values) (a b : List Row) → a ≡ b → Each (Good G) b → Each (Good G) a
same_rows G a b same good = subst (Each (Good G)) (sym same) good

flag_word_good : (G : Values) (s : Shape) (waiting : Waiting) (word : Text) (o : Option (Text × Option Text)) (h : Held)
    → Each (UseGood G s.args_override_self) s.rules → flag_word_fault s.rules s.args_override_self o word h ≡ []
    → Each (Good G) h.rows → Each (Good G) (long_or_other s.rules waiting word o h).0.rows
flag_word_good G s waiting word (Some p) h all none good =
    let met = long_met s.rules (arg_by_long s.rules p.0) p.1 h in
    same_rows G _ met.0.rows (flag_rows s.rules waiting word met.0 met.1)
    (long_good G s.rules s.args_override_self (arg_by_long s.rules p.0) p.1 h all
    (each_found (UseGood G s.args_override_self) _ s.rules all) none good)
flag_word_good G s waiting word None h all none good = go (short_of word) none
  where
    go : (o : Option Text) → option_map_or (λ flags.
        flags_fault s.rules s.args_override_self (length flags) flags h.skip (record h { skip = 0 })) o [] ≡ []
        → Each (Good G) (short_or_plain s.rules waiting word o h).0.rows
    go None none = same_rows G _ h.rows (plain_rows s.rules waiting word h) good
    go (Some flags) none =
        let met = bundle_met s.rules (length flags) flags h.skip plain (record h { skip = 0 }) in
        same_rows G _ met.0.rows (flag_rows s.rules waiting word met.0 met.1)
        (bundle_good G s.rules s.args_override_self (length flags) flags h.skip plain (record h { skip = 0 }) all none
        good)

other_good : (G : Values) (s : Shape) (o : Option Text) (waiting : Waiting) (position : ℕ) (word : Text) (h : Held)
    → Each (UseGood G s.args_override_self) s.rules → other_fault s o word h ≡ [] → Each (Good G) h.rows
    → Each (Good G) (subcommand_or_other s.rules o waiting position word h).0.rows
other_good G s (Some name) waiting position word h all none good = good
other_good G s None waiting position word h all none good = go (bytes_eq word (45 ∷ 45 ∷ [])) refl
  where
    go : (t : Bool) → bytes_eq word (45 ∷ 45 ∷ []) ≡ t
        → Each (Good G) (subcommand_or_other s.rules None waiting position word h).0.rows
    go true e = rw e good
    go false e =
        let at : flag_word_fault s.rules s.args_override_self (long_of word) word h ≡ [] = rw e at none in
        rw e (flag_word_good G s waiting word (long_of word) h all at good)

word_good :
    (G : Values) (s : Shape) (names : Names) (is_trailing : Bool) (waiting : Waiting) (position : ℕ) (word : Text)
    (h : Held) → Each (UseGood G s.args_override_self) s.rules → word_fault s names is_trailing waiting word h ≡ []
    → Each (Good G) h.rows → Each (Good G) (word_met s.rules names is_trailing waiting position word h).0.rows
word_good G s names true waiting position word h all none good = good
word_good G s names false waiting position word h all none good =
    other_good G s (subcommand_met names waiting word) waiting position word h all none good

positional_good : (G : Values) (c : List Rule) (again : Bool) (a : Rule) (word : Text) (h : Held)
    → Each (UseGood G again) c → positional_fault c again a h ≡ [] → Each (Good G) h.rows
    → Each (Good G) (positional_held c a word h).rows
positional_good G c again a word h all none good = go (is_pending a h.pending && takes_several a) refl
  where
    go : (t : Bool) → (is_pending a h.pending && takes_several a) ≡ t → Each (Good G) (positional_held c a word h).rows
    go true e = rw e good
    go false e =
        let at : settle_fault c again h ≡ [] = rw e at none in
        rw e (settled_good G c again h all at good)

step_good : (G : Values) (s : Shape) (word : Text) (w : Walk) (h : Held) (step : Step)
    → Each (UseGood G s.args_override_self) s.rules → step_fault s w.position h step ≡ [] → Each (Good G) h.rows
    → Each (Good G) (after_step s.rules word w h step).held.rows
step_good G s word w h (next waiting) all none good = good
step_good G s word w h (trailing position) all none good = good
step_good G s word w h (subcommand name) all none good = good
step_good G s word w h value all none good = go (arg_by_index s.rules w.position) none
  where
    go : (o : Option Rule)
        → option_map_or (λ a. positional_fault s.rules s.args_override_self a h) o (stray_fault s) ≡ []
        → Each (Good G) (to_positional s.rules o word w h).held.rows
    go None none = good
    go (Some a) none = positional_good G s.rules s.args_override_self a word h all none good

turn_good : (G : Values) (s : Shape) (names : Names) (w : Walk) (word : Text) (stopped : Option (Text × List Text))
    → w.stopped ≡ stopped
    → Each (UseGood G s.args_override_self) s.rules → turn_fault s names w word ≡ [] → Each (Good G) w.held.rows
    → Each (Good G) (walked_from s.rules names stopped w word).held.rows
turn_good G s names w word (Some p) e all none good = good
turn_good G s names w word None e all none good =
    let met = word_met s.rules names w.is_trailing w.waiting w.position word w.held in
    let at :
    or_else (word_fault s names w.is_trailing w.waiting word w.held) (step_fault s w.position met.0 met.1) ≡ [] =
    rw e at none in
    let both =
    or_none (word_fault s names w.is_trailing w.waiting word w.held) (step_fault s w.position met.0 met.1) at in
    step_good G s word w met.0 met.1 all both.1
    (word_good G s names w.is_trailing w.waiting w.position word w.held all both.0 good)

pub walk_good : (G : Values) (s : Shape) (names : Names) (w : Walk) (words : List Text)
    → Each (UseGood G s.args_override_self) s.rules → walk_fault s names w words ≡ [] → Each (Good G) w.held.rows
    → Each (Good G) (fold (walked s.rules names) w words).held.rows
unfolding walk_fault walked
walk_good G s names w [] all none good = good
walk_good G s names w (word ∷ rest) all none good =
    let both = or_none (turn_fault s names w word) (walk_fault s names (walked s.rules names w word) rest) none in
    walk_good G s names (walked s.rules names w word) rest all both.1
    (turn_good G s names w word w.stopped refl all both.0 good)
