-- The lines of a caller, and their answers.
use Rattle.std.proofs.Common.{suc, Result, ◌≡◌, ℕ, ◌<◌, ◌≤◌, length, List, [], ◌∷◌, ◌++◌, Option, None, Some, Ok, Err, Bool, false, inl, inr, arith, append_assoc, sym, ap, ◌∙◌, refl, subst}
use Rattle.std.specs.List.{concat}
use Rattle.std.proofs.Math.Nat.{lt_of_not-le}
use Rattle.std.proofs.KnownBytes.{Appends-trans, Appends-kept}
use Rattle.std.specs.Io.KnownBytes.{Appends, Consumes, prepend_known}
use Rattle.std.proofs.lemmas.List.{append-nil}
use Rattle.wasm_ast.specs.declared.refusal.Refusal.{Refusal}
use Rattle.task_requests.specs.declared.request.Request.{Request}
use Rattle.request_lines.specs.declared.line_error.LineError.{LineError}
use Rattle.request_lines.specs.declared.line_error.LineError.TheVariants.{NoRequest, OutOfMemory}
use Rattle.request_lines.specs.declared.line_reader.Stop.{Stop}
use Rattle.request_lines.specs.declared.line_reader.Stop.TheVariants as stop
use Rattle.request_lines.specs.Shape.{max_line_bytes}
use Rattle.request_lines.specs.Request.{IsRequest}
use Rattle.request_lines.specs.Inside.Parse.{refusal_of}
use Rattle.request_lines.specs.Input.{IsKept, TakesLine, TakesPart}
use Rattle.request_lines.specs.Lines.{lines_of}
use Rattle.request_lines.specs.Session.{Session}
use Rattle.call_journal.specs.Fronts.{Begins}
use Rattle.call_journal.specs.Seats.{Known}
use Rattle.callers.specs.declared.caller.Driven.{Driven}
use Rattle.callers.specs.declared.caller.Driven.TheVariants as driven
use Rattle.callers.specs.declared.caller.WriteError.{WriteError}
use Rattle.callers.specs.declared.caller.WriteError.TheVariants as why
use Rattle.callers.specs.Answered.{IsAnswered, IsServed}
use Rattle.callers.specs.Driving.{BeginWithLines, AllButLast, Drives, IsTold, fed}
use Rattle.request_lines.proofs.LineLemmas.{consumes_more}
use Rattle.callers.specs.Inside.Ends.{of_read, of_write}
use Rattle.callers.specs.Inside.Writing.{Writes}

-- ---- one line

-- the bytes of a line that is kept are the line
pub kept_whole : (kept : Option (List ℕ)) (bytes line : List ℕ) → Some bytes ≡ kept → IsKept kept line → bytes ≡ line
kept_whole None bytes line e h = cc
kept_whole (Some k) bytes line e h = cc

-- a line that could not be read
pub answered_unread : (was : Known) (line : List ℕ) (e : LineError) (x : Refusal) → x ≡ refusal_of e
    → (e ≡ NoRequest → (r : Request) → IsRequest line r → ⊥)
    → (e ≡ OutOfMemory → length line ≤ max_line_bytes) → IsAnswered was line (Err x) was
answered_unread was line NoRequest x is none short =
    inr (inl (record { none = none refl; refused = ap Err is; same = refl }))
answered_unread was line OutOfMemory x is none short =
    inr (inr (record { short = short refl; refused = ap Err is; same = refl }))

not_longer : {n m : ℕ} → (m < n → ⊥) → n ≤ m
not_longer {n} {m} h = let less : n < suc m = lt_of_not-le h in omega arith

one_error : {X : Type 0} (r : Result X LineError) → r ≡ Err NoRequest → r ≡ Err OutOfMemory → ⊥
one_error r none memory = cc

-- a line that is refused for lack of memory is not too long
pub short_unless_long : {X : Type 0} (line : List ℕ) (r : Result X LineError) (e : LineError)
    → (max_line_bytes < length line → r ≡ Err NoRequest) → r ≡ Err e → e ≡ OutOfMemory → length line ≤ max_line_bytes
short_unless_long line r e long was memory = not_longer (λ longer. one_error r (long longer) (was ∙ ap Err memory))

-- ---- many lines

-- known bytes lose these lines from their front
abbrev pub TakesLines : Option (List ℕ) → Option (List ℕ) → List (List ℕ) → Type 0
TakesLines None left lines = Unit {0}
TakesLines (Some xs) None lines = ⊥
TakesLines (Some xs) (Some ys) lines = lines_of xs ≡ lines ++ lines_of ys

-- how far the lines have been answered; until the reader has answered its end, each of them had its line feed
pub record Driving (was : Known) (at_end : Bool) (input left before after : Option (List ℕ)) (now : Known) : Type 0
  where
    pub lines : List (List ℕ)
    pub texts : List (List ℕ)
    pub read : TakesLines input left lines
    pub whole : at_end ≡ false → Consumes input left (fed lines)
    pub session : Session IsServed was lines texts now
    pub appended : Appends before after (concat texts)

takes_none : (known : Option (List ℕ)) → TakesLines known known []
takes_none None = tt
takes_none (Some xs) = refl

consumes_none : (known : Option (List ℕ)) → Consumes known known []
consumes_none None = tt
consumes_none (Some xs) = refl

pub appends_none : (known : Option (List ℕ)) → Appends known known []
appends_none None = tt
appends_none (Some xs) = sym (append-nil xs)

prepend_none : (known : Option (List ℕ)) → known ≡ prepend_known [] known
prepend_none None = refl
prepend_none (Some xs) = refl

pub driving_none : (was : Known) (at_end : Bool) (input before : Option (List ℕ)) (chunk : List ℕ) → chunk ≡ []
    → Driving was at_end input (prepend_known chunk input) before before was
driving_none was at_end input before chunk empty = record {
  lines = [];
  texts = [];
  read =
      subst (λ r. TakesLines input r []) (prepend_none input ∙ ap (λ x. prepend_known x input) (sym empty))
      (takes_none input);
  whole = λ live.
      subst (λ r. Consumes input r []) (prepend_none input ∙ ap (λ x. prepend_known x input) (sym empty))
      (consumes_none input);
  session = refl;
  appended = appends_none before;
}

takes_more : (input left next : Option (List ℕ)) (lines : List (List ℕ)) (line : List ℕ) → TakesLines input left lines
    → TakesLine left next line → TakesLines input next (lines ++ line ∷ [])
takes_more None left next lines line h g = tt
takes_more (Some xs) None next lines line h g = absurd h
takes_more (Some xs) (Some ys) None lines line h g = g
takes_more (Some xs) (Some ys) (Some zs) lines line h g =
    h ∙ (ap (λ r. lines ++ r) g ∙ sym (append_assoc lines (line ∷ []) (lines_of zs)))

concat_more : (texts : List (List ℕ)) (text : List ℕ) → concat (texts ++ text ∷ []) ≡ concat texts ++ text
concat_more [] text = append-nil text
concat_more (t ∷ texts) text = ap (λ r. t ++ r) (concat_more texts text) ∙ sym (append_assoc t (concat texts) text)

appends_more : (old now next : Option (List ℕ)) (texts : List (List ℕ)) (text : List ℕ) → Appends old now (concat texts)
    → Appends now next text → Appends old next (concat (texts ++ text ∷ []))
appends_more old now next texts text h g =
    subst (Appends old next) (sym (concat_more texts text)) (Appends-trans old now next (concat texts) text h g)

fed_more : (lines : List (List ℕ)) (line : List ℕ) → fed (lines ++ line ∷ []) ≡ fed lines ++ (line ++ 10 ∷ [])
fed_more [] line = refl
fed_more (l ∷ lines) line =
    ap (λ r. l ++ 10 ∷ r) (fed_more lines line) ∙ sym (append_assoc l (10 ∷ fed lines) (line ++ 10 ∷ []))

whole_more :
    (input left next : Option (List ℕ)) (lines : List (List ℕ)) (line : List ℕ) → Consumes input left (fed lines)
    → Consumes left next (line ++ 10 ∷ []) → Consumes input next (fed (lines ++ line ∷ []))
whole_more input left next lines line h g =
    subst (Consumes input next) (sym (fed_more lines line))
    (consumes_more input left next (fed lines) (line ++ 10 ∷ []) h g)

session_more : (was : Known) (lines texts : List (List ℕ)) (mid : Known) (line text : List ℕ) (now : Known)
    → Session IsServed was lines texts mid → IsServed mid line text now
    → Session IsServed was (lines ++ line ∷ []) (texts ++ text ∷ []) now
session_more was [] [] mid line text now h g = (now, subst (λ m. IsServed m line text now) h g, refl)
session_more was [] (t ∷ texts) mid line text now h g = absurd h
session_more was (l ∷ lines) [] mid line text now h g = absurd h
session_more was (l ∷ lines) (t ∷ texts) mid line text now h g =
    (h.0, h.1, session_more h.0 lines texts mid line text now h.2 g)

pub driving_more :
    (was : Known) (was_end at_end : Bool) (input left next before writes after : Option (List ℕ)) (mid now : Known)
    (line text : List ℕ) → Driving was was_end input left before writes mid → was_end ≡ false → TakesLine left next line
    → (at_end ≡ false → Consumes left next (line ++ 10 ∷ [])) → IsServed mid line text now → Appends writes after text
    → Driving was at_end input next before after now
driving_more was was_end at_end input left next before writes after mid now line text d live takes whole served
    appends = record {
      lines = d.lines ++ line ∷ [];
      texts = d.texts ++ text ∷ [];
      read = takes_more input left next d.lines line d.read takes;
      whole = λ on. whole_more input left next d.lines line (d.whole live) (whole on);
      session = session_more was d.lines d.texts mid line text now d.session served;
      appended = appends_more before writes after d.texts text d.appended appends;
    }

-- ---- ends

begin_with : (input left : Option (List ℕ)) (lines : List (List ℕ)) → TakesLines input left lines
    → BeginWithLines input lines
begin_with None left lines h = tt
begin_with (Some xs) None lines h = absurd h
begin_with (Some xs) (Some ys) lines h = (lines_of ys, sym h)

no_lines : (input : Option (List ℕ)) → BeginWithLines input []
no_lines None = tt
no_lines (Some xs) = (lines_of xs, refl)

all_written : (texts : List (List ℕ)) → AllButLast texts texts
all_written texts = record { last = []; one = omega arith; joins = append-nil texts }

-- there was no memory to read a line
pub drives_none : (was : Known) (input left before : Option (List ℕ))
    → Drives driven.NoMemory was was input left before before
drives_none was input left before = record {
  lines = [];
  texts = [];
  read = no_lines input;
  session = refl;
  written = ([], all_written [], appends_none before);
}

pub drives_read_fault : (was : Known) (at_end : Bool) (input left rest before after : Option (List ℕ)) (now : Known)
    → Driving was at_end input left before after now → (at_end ≡ false) × TakesPart left rest
    → Drives driven.ReadFault was now input rest before after
drives_read_fault was at_end input left rest before after now d part = record {
  lines = d.lines;
  texts = d.texts;
  read = (
    begin_with input left d.lines d.read,
    (part.1.0, part.1.1, consumes_more input left rest (fed d.lines) part.1.0 (d.whole part.0) part.1.2),
  );
  session = d.session;
  written = d.appended;
}

pub drives_unread :
    (was : Known) (at_end : Bool) (input left rest before after : Option (List ℕ)) (now : Known) (e : Stop)
    → Driving was at_end input left before after now → (e ≡ stop.Stream → (at_end ≡ false) × TakesPart left rest)
    → Drives (of_read e) was now input rest before after
drives_unread was at_end input left rest before after now stop.Stream d part =
    drives_read_fault was at_end input left rest before after now d (part refl)
drives_unread was at_end input left rest before after now stop.OutOfMemory d part = record {
  lines = d.lines;
  texts = d.texts;
  read = begin_with input left d.lines d.read;
  session = d.session;
  written = (d.texts, all_written d.texts, d.appended);
}

begins_joined : (texts : List (List ℕ)) (text front : List ℕ) → Begins front text
    → Begins (concat texts ++ front) (concat (texts ++ text ∷ []))
begins_joined texts text front begins = (
  begins.0,
  append_assoc (concat texts) front begins.0 ∙ (ap (λ r. concat texts ++ r) begins.1 ∙ sym (concat_more texts text)),
)

-- the same, by how the lines end
pub drives_stopped : (was : Known) (at_end : Bool) (input left rest before after : Option (List ℕ)) (now : Known)
    (e : Stop) (how : Driven)
    → Driving was at_end input left before after now → (e ≡ stop.Stream → (at_end ≡ false) × TakesPart left rest)
    → how ≡ of_read e → Drives how was now input rest before after
drives_stopped was at_end input left rest before after now e how d part is =
    subst (λ h. Drives h was now input rest before after) (sym is)
    (drives_unread was at_end input left rest before after now e d part)

-- a line was answered, and then its answer could not be written
pub drives_unwritten :
    (was : Known) (at_end : Bool) (input left next rest before writes after : Option (List ℕ)) (mid now : Known)
    (line text : List ℕ) (e : WriteError)
    → Driving was at_end input left before writes mid → TakesLine left next line → IsServed mid line text now
    → Writes (Err e) text writes after → Drives (of_write e) was now input rest before after
drives_unwritten was at_end input left next rest before writes after mid now line text why.Stream d takes served
    wrote = record {
      lines = d.lines ++ line ∷ [];
      texts = d.texts ++ text ∷ [];
      read = begin_with input next (d.lines ++ line ∷ []) (takes_more input left next d.lines line d.read takes);
      session = session_more was d.lines d.texts mid line text now d.session served;
      written = (
        concat d.texts ++ wrote.0,
        begins_joined d.texts text wrote.0 wrote.1,
        Appends-trans before writes after (concat d.texts) wrote.0 d.appended wrote.2,
      );
    }
drives_unwritten was at_end input left next rest before writes after mid now line text why.OutOfMemory d takes
    served wrote = record {
      lines = d.lines ++ line ∷ [];
      texts = d.texts ++ text ∷ [];
      read = begin_with input next (d.lines ++ line ∷ []) (takes_more input left next d.lines line d.read takes);
      session = session_more was d.lines d.texts mid line text now d.session served;
      written = (
        d.texts,
        record { last = text ∷ []; one = omega arith; joins = refl },
        Appends-kept before writes after (concat d.texts) d.appended wrote,
      );
    }

-- ---- one turn of the loop

-- the line that is kept was answered, and its answer was written or not
abbrev pub Served :
    (kept : Option (List ℕ)) → (mid now : Known) → Result Unit WriteError → (writes after : Option (List ℕ)) → Type 0
Served kept mid now r writes after =
    (text : List ℕ) → IsKept kept text → (reply : List ℕ) × IsServed mid text reply now × Writes r reply writes after

-- the line that is kept was read; with its line feed, unless the reader has answered its end
abbrev pub Came : (at_end : Bool) → (kept left next : Option (List ℕ)) → Type 0
Came at_end kept left next =
    (text : List ℕ) × IsKept kept text × TakesLine left next text
    × (at_end ≡ false → Consumes left next (text ++ 10 ∷ []))

served_line :
    (at_end : Bool) (kept kept' left next writes after : Option (List ℕ)) (mid now : Known) (r : Result Unit WriteError)
    (came : Came at_end kept left next) → kept' ≡ kept → Served kept' mid now r writes after
    → (reply : List ℕ) × IsServed mid came.0 reply now × Writes r reply writes after
served_line at_end kept kept' left next writes after mid now r came same served =
    served came.0 (subst (λ k. IsKept k came.0) (sym same) came.1)

pub drives_after :
    (was : Known) (was_end at_end : Bool) (input left next rest before writes after kept kept' : Option (List ℕ))
    (mid now : Known) (r : Result Unit WriteError) (e : WriteError) (how : Driven)
    → Driving was was_end input left before writes mid → Came at_end kept left next → kept' ≡ kept
    → Served kept' mid now r writes after → r ≡ Err e → how ≡ of_write e → Drives how was now input rest before after
drives_after was was_end at_end input left next rest before writes after kept kept' mid now r e how d came same served
    is ends =
    let line = served_line at_end kept kept' left next writes after mid now r came same served in
    subst (λ h. Drives h was now input rest before after) (sym ends)
    (drives_unwritten was was_end input left next rest before writes after mid now came.0 line.0 e d came.2 line.1
    (subst (λ x. Writes x line.0 writes after) is line.2))

pub driving_after :
    (was : Known) (was_end at_end : Bool) (input left next before writes after kept kept' : Option (List ℕ))
    (mid now : Known) (r : Result Unit WriteError) (done : Unit)
    → Driving was was_end input left before writes mid → was_end ≡ false → Came at_end kept left next → kept' ≡ kept
    → Served kept' mid now r writes after → r ≡ Ok done → Driving was at_end input next before after now
driving_after was was_end at_end input left next before writes after kept kept' mid now r done d live came same served
    is =
    let line = served_line at_end kept kept' left next writes after mid now r came same served in
    driving_more was was_end at_end input left next before writes after mid now came.0 line.0 d live came.2 came.3
    line.1 (subst (λ x. Writes x line.0 writes after) is line.2)

-- ---- faults

told_of_write : (e : WriteError) (X Y : Type 0) → (e ≡ why.Stream → Y) → IsTold (of_write e) X Y
told_of_write why.Stream X Y h = h refl
told_of_write why.OutOfMemory X Y h = tt

pub told_unwritten :
    (e : WriteError) (how : Driven) (X Y : Type 0) → how ≡ of_write e → (e ≡ why.Stream → Y) → IsTold how X Y
told_unwritten e how X Y is h = subst (λ d. IsTold d X Y) (sym is) (told_of_write e X Y h)
