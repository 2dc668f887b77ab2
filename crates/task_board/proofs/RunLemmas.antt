-- Runs of events, and the loans that are held along them.
use Rattle.std.proofs.Common.{◌≡◌, ◌≢◌, List, [], ◌∷◌, ◌++◌, Bool, true, false, true≢false, Ok, Err, refl, sym, ap, ◌∙◌, subst}
use Rattle.wasm_ast.specs.declared.refusal.Refusal.TheVariants as refusal
use Rattle.task_requests.specs.declared.event.Event.{Event}
use Rattle.task_requests.specs.declared.event.EventReply.{EventReply}
use Rattle.task_requests.specs.declared.request.Request.{Request}
use Rattle.task_board.specs.BoardState.{BoardState}
use Rattle.task_board.specs.Step.{Answer, Answers}
use Rattle.task_board.specs.Run.{is_no_memory, Happens, Run}
use Rattle.task_board.specs.Sound.{IsBoard}
use Rattle.task_board.specs.Loans.{Lent}
use Rattle.task_board.specs.Inside.Covers.{Covered}
use Rattle.task_board.proofs.LoanCover.{answers_covered}

-- an answer that is no refusal for memory, or the one that is
pub no_memory_is : (r : Answer) → is_no_memory r ≡ true → r ≡ Err refusal.NoMemory
no_memory_is (Ok r) e = cc
no_memory_is (Err refusal.NoMemory) e = refl
no_memory_is (Err x) e = cc

call_covered_by :
    (ls : List Lent) (s : BoardState) (q : Request) (r : Answer) (s' : BoardState) (b : Bool) → is_no_memory r ≡ b
    → IsBoard s → (r ≢ Err refusal.NoMemory → Answers s q r s') → (r ≡ Err refusal.NoMemory → s' ≡ s)
    → Covered ls s.tasks → Covered ls s'.tasks
call_covered_by ls s q r s' true is b answers same covered =
    subst (λ (x : BoardState). Covered ls x.tasks) (sym (same (no_memory_is r is))) covered
call_covered_by ls s q r s' false is b answers same covered =
    answers_covered ls s q r s' b (answers (λ e. true≢false (sym (ap is_no_memory e) ∙ is))) covered

-- a call keeps the loans of the tasks that are out
pub call_covered : (ls : List Lent) (s : BoardState) (q : Request) (r : Answer) (s' : BoardState)
    → IsBoard s → (r ≢ Err refusal.NoMemory → Answers s q r s') → (r ≡ Err refusal.NoMemory → s' ≡ s)
    → Covered ls s.tasks → Covered ls s'.tasks
call_covered ls s q r s' b answers same covered =
    call_covered_by ls s q r s' (is_no_memory r) refl b answers same covered

-- a run goes on by one event
pub run_more : (s : BoardState) (es : List Event) (rs : List EventReply) (mid : BoardState) (e : Event) (r : EventReply)
    (s' : BoardState) → Run s es rs mid → Happens mid e r s' → Run s (es ++ e ∷ []) (rs ++ r ∷ []) s'
run_more s [] [] mid e r s' run h = (s', subst (λ (x : BoardState). Happens x e r s') run h, refl)
run_more s [] (q ∷ rs) mid e r s' run h = absurd run
run_more s (d ∷ es) [] mid e r s' run h = absurd run
run_more s (d ∷ es) (q ∷ rs) mid e r s' run h = (run.0, run.1, run_more run.0 es rs mid e r s' run.2 h)

-- what each event keeps, a run keeps
pub run_keeps : (P : BoardState → Type 0)
    → ((s : BoardState) (e : Event) (r : EventReply) (s' : BoardState) → P s → Happens s e r s' → P s')
    → (s : BoardState) (es : List Event) (rs : List EventReply) (s' : BoardState) → P s → Run s es rs s' → P s'
run_keeps P keeps s [] [] s' p run = subst P (sym run) p
run_keeps P keeps s [] (q ∷ rs) s' p run = absurd run
run_keeps P keeps s (d ∷ es) [] s' p run = absurd run
run_keeps P keeps s (d ∷ es) (q ∷ rs) s' p run = run_keeps P keeps run.0 es rs s' (keeps s d q run.0 p run.1) run.2
