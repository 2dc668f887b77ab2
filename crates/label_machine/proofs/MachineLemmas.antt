-- What a machine's fields hold, from the first turn on.
use Rattle.std.proofs.Common.{◌≡◌, ◌≢◌, ℕ, ◌+◌, ◌<◌, ◌^◌, suc, ◌==◌, true, false, is_some, List, [], ◌∷◌, map, All, Option, Some, None, subst, refl, sym, ap, ◌∙◌, arith}
use Rattle.std.proofs.lemmas.Bool.Decides.{nat_tests}
use Rattle.wasm_ast.specs.declared.trap.Trap.TheVariants as trap
use Rattle.wasm_ast.specs.declared.module.Module.{Module}
use Rattle.oci_config.specs.declared.process.ProcessConfig.{ProcessConfig}
use Rattle.step_machine.specs.declared.ends.End.{End}
use Rattle.step_machine.specs.Limits.{last_turn}
use Rattle.step_machine.specs.Program.{program}
use Rattle.step_machine.specs.Configuration.{Store, Configuration, seq, more, invoke, items_of, running, trapped, is_halted}
use Rattle.step_machine.specs.Turns.{settled, turn, numbered}
use Rattle.step_machine.specs.Instantiation.{initial, first_state, first_store, after, ended}
use Rattle.step_machine.specs.Instantiation.{entry as entry_of}
use Rattle.step_machine.specs.Inside.Levels.{framed_by}
use Rattle.step_machine.proofs.LevelReductions.{never_empty}
use Rattle.step_machine.proofs.LevelSettling.{conf}
use Rattle.step_machine.proofs.InstructionTurns.{last_one, usual_turn}
use Rattle.step_machine.proofs.LastTurn.{early}
use Rattle.step_machine.proofs.SliceLemmas.{one_turn}
use Rattle.label_machine.specs.declared.run.Run.{Run}
use Rattle.label_machine.specs.declared.run.Step.{Step}
use Rattle.label_machine.specs.declared.run.Doing.TheVariants.{Next}
use Rattle.label_machine.specs.declared.store.Store.{Store as StoreValue}
use Rattle.label_machine.specs.declared.machine.State.{State}
use Rattle.label_machine.specs.declared.machine.State.TheVariants.{Going, Ended}
use Rattle.wasm_ast.specs.declared.instr.Instr.{Instr}
use Rattle.wasm_ast.specs.View.{op_of}
use Rattle.label_machine.specs.Inside.Places.{first_end}
use Rattle.label_machine.specs.Inside.Sound.{IsNumbered, IsSound}
use Rattle.label_machine.proofs.SoundLemmas.{next_numbered}
use Rattle.label_machine.specs.Inside.View.{ops_in, level_of}
use Rattle.label_machine.specs.Inside.Runs.{store_of, tail_from, config, configured, HasNext, IsInvalid, IsSettled, LeadsTo}
use Rattle.label_machine.specs.Inside.Reached.{state_from, step_of, kept_by, process_of, Reached, IsFirst}
use Rattle.label_machine.specs.declared.run.Step.TheVariants as step

abbrev pub first_of : StoreValue → (start : Option ℕ) → (entry : ℕ) → Configuration
first_of s None entry = configured s (running (seq [] (more (invoke entry) (tail_from None))))
first_of s (Some func) entry = configured s (running (seq [] (more (invoke func) (tail_from (Some entry)))))

first_is :
    (s : StoreValue) (start : Option ℕ) (entry : ℕ)
    → first_of s start entry ≡ conf (store_of s) (first_state start (Some entry))
first_is s None entry = refl
first_is s (Some func) entry = refl

pub first_leads :
    (m : Module) (p : ProcessConfig) (store : StoreValue) (start : Option ℕ) (entry : ℕ) (s : Step) → m.start ≡ start
    → entry_of m ≡ Some entry → IsFirst m p store
    → LeadsTo (program m p) (settled (program m p) (first_of store start entry)) s
    → LeadsTo (program m p) (initial m p) s
first_leads m p store start entry s is_start is_entry first leads =
    let same : initial m p ≡ settled (program m p) (first_of store start entry) =
    ap (λ (o : Option ℕ). settled (program m p) (conf (first_store m p) (first_state o (entry_of m)))) is_start
    ∙ (ap (λ (o : Option ℕ). settled (program m p) (conf (first_store m p) (first_state start o))) is_entry
    ∙ (ap (λ (r : Store). settled (program m p) (conf r (first_state start (Some entry)))) (sym first.store)
    ∙ ap (settled (program m p)) (sym (first_is store start entry)))) in
    subst (λ c. LeadsTo (program m p) c s) (sym same) leads

-- a frame is there, so that it has not ended
pub goes_still : (x : Run) → ended (config x Next).state ≡ None
goes_still x =
    rw (never_empty (map level_of x.callers) (tail_from x.pending)
    (framed_by (level_of x.top) (items_of (level_of x.top).place (level_of x.top).rest))) refl

pub not_halted : (x : Run) → is_halted (config x Next).state ≡ false
not_halted x =
    never_empty (map level_of x.callers) (tail_from x.pending)
    (framed_by (level_of x.top) (items_of (level_of x.top).place (level_of x.top).rest))

-- how it has ended, by its state
abbrev pub end_of : State → Option End
end_of (Going x) = None
end_of (Ended e s) = Some e

pub ended_by :
    (m : Module) (p : ProcessConfig) (n : ℕ) (s : State) → Reached m p n s → ended (after m p n).state ≡ end_of s
ended_by m p n (Going x) h = ap (λ (c : Configuration). ended c.state) h.0 ∙ goes_still x
ended_by m p n (Ended e s) h = h.0.ended

-- the turn with a number
pub one_more :
    (m : Module) (p : ProcessConfig) (n : ℕ) (x : Run) → Reached m p n (Going x) → (n + 1 == last_turn) ≡ false
    → after m p (n + 1) ≡ turn (program m p) (config x Next)
one_more m p n x h not_last =
    let next : n + 1 ≡ suc n = omega arith in
    ap (after m p) next
    ∙ (one_turn m p n
    ∙ (ap (numbered (program m p) (suc n)) h.0
    ∙ usual_turn (program m p) (suc n) (config x Next) (not_halted x) (ap (λ k. k == last_turn) (sym next) ∙ not_last)))

pub last_turn_traps :
    (m : Module) (p : ProcessConfig) (n : ℕ) (x : Run) → Reached m p n (Going x) → (n + 1 == last_turn) ≡ true
    → after m p (n + 1) ≡ configured x.store (trapped trap.TurnLimit)
last_turn_traps m p n x h is_last =
    let next : n + 1 ≡ suc n = omega arith in
    ap (after m p) next
    ∙ (one_turn m p n
    ∙ (ap (numbered (program m p) (suc n)) h.0
    ∙ last_one (program m p) (suc n) (config x Next) (not_halted x) (ap (λ k. k == last_turn) (sym next) ∙ is_last)))

pub step_back : (s : Step) (t : State) → state_from s ≡ Some t → s ≡ step_of t
step_back (step.Goes x d) t h = cc
step_back (step.Waits x) t h = let same : Going x ≡ t = cc in ap step_of same
step_back (step.Ends e s) t h = let same : Ended e s ≡ t = cc in ap step_of same
step_back step.Stuck t h = cc

pub not_it : (n : ℕ) → n ≢ last_turn → (n == last_turn) ≡ false
not_it n h = grind (arith, nat_tests, h)

pub output_by :
    (m : Module) (p : ProcessConfig) (n : ℕ) (s : State) → Reached m p n s → (after m p n).store ≡ store_of (kept_by s)
output_by m p n (Going x) h = ap (λ (c : Configuration). c.store) h.0
output_by m p n (Ended e s) h = h.0.store

pub process_by : (m : Module) (p : ProcessConfig) (n : ℕ) (s : State) → Reached m p n s → process_of s ≡ p
process_by m p n (Going x) h = h.2.process
process_by m p n (Ended e s) h = h.1

-- with what is known of its module
pub held_by :
    (m : Module) (p : ProcessConfig) (n : ℕ) (s : State) → Reached m p n s → IsSound m p
    → Reached m (process_of s) n s × IsSound m (process_of s)
held_by m p n s h sound = subst (λ q. Reached m q n s × IsSound m q) (sym (process_by m p n s h)) (h, sound)

-- what goes on is not at its last turn
pub not_over : (m : Module) (p : ProcessConfig) (n : ℕ) (x : Run) → Reached m p n (Going x) → n < last_turn
not_over m p n x h = early m p n (ended_by m p n (Going x) h)

-- what is reached with no turn made
pub first_reached :
    (m : Module) (p : ProcessConfig) (s : Step) (t : State) → state_from s ≡ Some t
    → LeadsTo (program m p) (initial m p) s → Reached m p 0 t
first_reached m p s t from led = subst (LeadsTo (program m p) (initial m p)) (step_back s t from) led

-- what a valid module settles to is a state
pub settled_state :
    (m : Module) (p : ProcessConfig) (c : Configuration) (s : Step) → IsSettled s → LeadsTo (program m p) c s
    → (IsInvalid c → ⊥) → is_some (state_from s) ≡ true
settled_state m p c (step.Goes x d) settled led valid = absurd settled
settled_state m p c (step.Waits x) settled led valid = refl
settled_state m p c (step.Ends e s) settled led valid = refl
settled_state m p c step.Stuck settled led valid = absurd (valid led)

-- before an instruction
pub something_next : (x : Run) → HasNext x → x.top.ahead.rest.now ≡ [] → ⊥
something_next x h none = let clash = sym h.is ∙ ap ops_in none in cc

-- what follows it has a place of 32 bits
pub numbered_next :
    (m : Module) (p : ProcessConfig) (n : ℕ) (x : Run) → Reached m p n (Going x) → All IsNumbered m.funcs
    → first_end x.top.ahead.place x.top.ahead.rest.now < 2 ^ 32
numbered_next m p n x h numbered =
    by_list x.top.ahead.rest.now refl
  where
    by_list : (is : List Instr) → x.top.ahead.rest.now ≡ is → first_end x.top.ahead.place is < 2 ^ 32
    by_list [] none = absurd (something_next x h.3 none)
    by_list (i ∷ is) e =
        next_numbered m p n (level_of x.top) (map level_of x.callers) (tail_from x.pending) (op_of i)
        (ops_in is) numbered
        (ap (λ (c : Configuration). c.state) h.0) (ap ops_in e)
