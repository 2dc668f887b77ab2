-- What the definitions of a caller's lines say, case by case.
use Rattle.std.proofs.Common.{◌≡◌, ◌≢◌, ◌↔◌, ◌<◌, ◌≤◌, ◌⊎◌, ◌++◌, ℕ, List, [], ◌∷◌, length, Bool, true, false, true≢false, Err, inl, inr, refl, sym, ap, ◌∙◌, subst, arith}
use Rattle.std.specs.Prelude.{MatchBool}
use Rattle.std.specs.List.{concat}
use Rattle.std.proofs.lemmas.List.{append-nil}
use Rattle.wasm_ast.specs.declared.refusal.Refusal.TheVariants as refusal
use Rattle.task_requests.specs.declared.request.Request.{Request}
use Rattle.task_requests.specs.declared.request.Request.TheVariants.{Task}
use Rattle.task_requests.specs.declared.request.Ask.TheVariants.{Wait}
use Rattle.task_requests.specs.declared.event.Event.{Event}
use Rattle.task_requests.specs.declared.event.Event.TheVariants.{Call}
use Rattle.task_board.specs.Step.{Answer}
use Rattle.request_lines.specs.Request.{IsRequest, IsEvent}
use Rattle.request_lines.specs.Session.{Session}
use Rattle.request_lines.specs.Shape.{max_line_bytes}
use Rattle.call_journal.specs.Books.{is_journalled}
use Rattle.call_journal.specs.Seats.{Known, Extends}
use Rattle.callers.specs.Answered.{IsAnswered, IsCall, IsDue, IsServed}
use Rattle.callers.specs.Driving.{AllButLast}

pub long_refused : (was : Known) (line : List ℕ) (a : Answer) (now : Known) → max_line_bytes < length line
    → IsAnswered was line a now → (a ≡ Err refusal.BadRequest) × (now ≡ was)
long_refused was line a now long (inl p) = let short = p.is.reads.short in absurd (omega arith)
long_refused was line a now long (inr (inl p)) = (p.refused, p.same)
long_refused was line a now long (inr (inr p)) = let short = p.short in absurd (omega arith)

abbrev request_of : Request → Event → Request
request_of other (Call r) = r
request_of other _ = other

pub never_busy : ((line : List ℕ) (x y : Event) → IsEvent line x → IsEvent line y → x ≡ y)
    → ((line : List ℕ) (r : Request) → IsRequest line r ↔ IsEvent line (Call r))
    → (was : Known) (line : List ℕ) (a : Answer) (now : Known) (id : List ℕ)
    → IsAnswered was line a now → IsRequest line (Task id Wait) → a ≢ Err refusal.Busy
never_busy one same was line a now id (inl p) waits busy =
    let events = one line (Call p.request) (Call (Task id Wait)) ((same line p.request).0 p.is)
    ((same line (Task id Wait)).0 waits) in
    let is : p.request ≡ Task id Wait = ap (request_of (Task id Wait)) events in
    subst (λ r. IsDue r a) is p.due busy
never_busy one same was line a now id (inr (inl p)) waits busy = absurd (p.none (Task id Wait) waits)
never_busy one same was line a now id (inr (inr p)) waits busy = let refused = p.refused in cc

pub is_call : ((line : List ℕ) (x y : Event) → IsEvent line x → IsEvent line y → x ≡ y)
    → ((line : List ℕ) (r : Request) → IsRequest line r ↔ IsEvent line (Call r))
    → (was : Known) (line : List ℕ) (a : Answer) (now : Known) (r : Request)
    → IsAnswered was line a now → IsRequest line r
    → (is_journalled a ≡ true → Extends was now r a) × (is_journalled a ≡ false → now ≡ was)
is_call one same was line a now r (inl p) is =
    let events = one line (Call p.request) (Call r) ((same line p.request).0 p.is) ((same line r).0 is) in
    by_answer (is_journalled a) (subst (λ q. IsCall was now q a) (ap (request_of r) events) p.call)
  where
    by_answer : (b : Bool) → MatchBool b (Extends was now r a) (now ≡ was)
        → (b ≡ true → Extends was now r a) × (b ≡ false → now ≡ was)
    by_answer true h = (λ e. h, λ e. absurd (true≢false e))
    by_answer false h = (λ e. absurd (true≢false (sym e)), λ e. h)
is_call one same was line a now r (inr (inl p)) is = absurd (p.none r is)
is_call one same was line a now r (inr (inr p)) is =
    let no : is_journalled a ≡ false = ap is_journalled p.refused in
    (λ e. absurd (true≢false (sym e ∙ no)), λ e. p.same)

pub no_lines : (was : Known) (texts : List (List ℕ)) (now : Known)
    → Session IsServed was [] texts now → (texts ≡ []) × (now ≡ was)
no_lines was [] now s = (refl, s)
no_lines was (text ∷ texts) now s = absurd s

pub some_lines : (was : Known) (line : List ℕ) (lines texts : List (List ℕ)) (now : Known)
    → Session IsServed was (line ∷ lines) texts now
    → (text : List ℕ) × (rest : List (List ℕ)) × (mid : Known) × (texts ≡ text ∷ rest)
    × IsServed was line text mid × Session IsServed mid lines rest now
some_lines was line lines [] now s = absurd s
some_lines was line lines (text ∷ rest) now s = (text, rest, s.0, refl, s.1, s.2)

pub all_or_but_one : (before after : List ℕ) (texts written : List (List ℕ)) → AllButLast texts written
    → after ≡ before ++ concat written → (after ≡ before ++ concat texts)
    ⊎ ((all : List (List ℕ)) × (last : List ℕ) × (texts ≡ all ++ last ∷ []) × (after ≡ before ++ concat all))
all_or_but_one before after texts written b is = but_one b.last b.one b.joins
  where
    but_one : (last : List (List ℕ)) → length last ≤ 1 → written ++ last ≡ texts → (after ≡ before ++ concat texts)
        ⊎ ((all : List (List ℕ)) × (last : List ℕ) × (texts ≡ all ++ last ∷ []) × (after ≡ before ++ concat all))
    but_one [] few joins = inl (is ∙ ap (λ ts. before ++ concat ts) (sym (append-nil written) ∙ joins))
    but_one (x ∷ []) few joins = inr (written, x, sym joins, is)
    but_one (x ∷ y ∷ rest) few joins = absurd (omega (arith, few))
