-- What a task has written stays: a reduction leaves an output stream as it is, or appends to it.
use Rattle.std.proofs.Common.{◌≡◌, ℕ, zero, suc, ◌+◌, ◌*◌, ◌==◌, ◌&&◌, List, [], ◌∷◌, ◌++◌, append-nil, append_assoc, Bool, true, false, cond, Option, Some, None, Result, Ok, Err, refl, sym, ap, ◌∙◌, subst}
use Rattle.std.specs.Prelude.{slice_get, length, nat_lt, unwrap_or}
use Rattle.std.specs.List.{flat_map}
use Rattle.wasm_ast.specs.declared.values.Value.{Value}
use Rattle.wasm_ast.specs.declared.values.Value.TheVariants.{I32, I64}
use Rattle.wasm_ast.specs.declared.values.ValType.{ValType}
use Rattle.wasm_ast.specs.declared.values.ValType.TheVariants as type
use Rattle.wasm_ast.specs.declared.values.FuncType.{FuncType}
use Rattle.wasm_ast.specs.declared.trap.Trap.{Trap}
use Rattle.wasm_ast.specs.declared.trap.Trap.TheVariants as trap
use Rattle.wasm_ast.specs.declared.operators.ConvertOp.{ConvertOp}
use Rattle.wasm_ast.specs.declared.operators.LoadOp.{LoadOp}
use Rattle.wasm_ast.specs.declared.operators.StoreOp.{StoreOp}
use Rattle.wasm_ast.specs.declared.instr.LocalOp.{LocalOp}
use Rattle.wasm_ast.specs.declared.instr.LocalOp.TheVariants as local
use Rattle.wasm_ast.specs.declared.instr.GlobalOp.{GlobalOp}
use Rattle.wasm_ast.specs.declared.instr.GlobalOp.TheVariants as global
use Rattle.wasm_ast.specs.declared.instr.Simple.{Simple}
use Rattle.wasm_ast.specs.declared.instr.Simple.TheVariants as instr
use Rattle.wasm_ast.specs.declared.module.Module.{Module}
use Rattle.wasm_ast.specs.Syntax.{Op, simple, block, loop, if', Ops}
use Rattle.wasm_ast.specs.Types.{block_type, value_of, source_of, target_of}
use Rattle.wasm_ast.specs.Access.{load_bytes, store_type, store_bytes}
use Rattle.int_ops.specs.Integers as integers
use Rattle.int_ops.specs.Values.{truth}
use Rattle.flat_code.specs.TypeClasses.{is_of_type}
use Rattle.linear_memory.specs.Memory.{Memory, is_inside, range, with_range, low_bytes, grown, grow_result}
use Rattle.oci_config.specs.declared.process.ProcessConfig.{ProcessConfig}
use Rattle.oci_config.specs.declared.stream.Stream.{Stream}
use Rattle.oci_config.specs.declared.stream.Stream.TheVariants as stream
use Rattle.wasi_calls.specs.declared.host_call.HostCall.{HostCall}
use Rattle.wasi_calls.specs.declared.host_call.HostCall.TheVariants.{ArgsSizesGet, ArgsGet, EnvironSizesGet, EnvironGet, FdWrite, ProcExit, SchedYield}
use Rattle.wasi_calls.specs.declared.host_end.HostEnd.{HostEnd}
use Rattle.wasi_calls.specs.declared.host_end.HostEnd.TheVariants as host_end
use Rattle.wasi_calls.specs.SystemCalls.{put_both, text_bytes, pointers, word, sizes_get, texts_get, buffer_bytes, buffers_at, are_inside, gathered, room, write_stream, HostState, HostDone, fd_write}
use Rattle.wasi_calls.specs.SystemCalls as system
use Rattle.step_machine.specs.Program.{type_of_function, Function, host, own, unknown, Program, program}
use Rattle.step_machine.specs.Configuration.{Store, Target, Tree, seq, Items, done, more, Item, plain, label, frame, enter, invoke, branch, ret, State, running, exited, trapped, stuck, Configuration, is_halted, is_settled}
use Rattle.step_machine.specs.Effects.{Env, Effect, gives, becomes, halts, with_number, take_one, take_two, give_number, convert, select, width_of, loaded_value, load, store, with_memory, grow, grow_answer, traps, give_value, give_locals, use_local, give_globals, use_global, branch_if, call_entry, simple_effect, enter_block, enter_loop, choose, effect}
use Rattle.step_machine.specs.Reduction.{Reduced, to, ends, by_effect, at_label, at_frame, host_state, with_host_state, answered, by_host, call_function, reduce, reduce_item, of_reduced, step_state, step}
use Rattle.step_machine.specs.Limits.{last_turn}
use Rattle.step_machine.specs.Turns.{settle, turn, numbered, from, state_weight}
use Rattle.step_machine.specs.Instantiation.{initial, after}
use Rattle.step_machine.specs.MachineView.{written_to}
use Rattle.step_machine.proofs.TurnLemmas.{from-add}

-- a list, and what comes after it
abbrev pub Grows : List ℕ → List ℕ → Type 0
Grows xs ys = (later : List ℕ) × (ys ≡ xs ++ later)

grows_none : (xs : List ℕ) → Grows xs xs
grows_none xs = ([], sym (append-nil xs))

grows_on : (xs ys zs : List ℕ) → Grows xs ys → Grows ys zs → Grows xs zs
grows_on xs ys zs h k = (h.0 ++ k.0, k.1 ∙ (ap (λ l. l ++ k.0) h.1 ∙ append_assoc xs h.0 k.0))

-- the streams of a store continue those of another
record Continues (r r' : Store) : Type 0 where
  pub out : Grows r.out r'.out
  pub err : Grows r.err r'.err

same : (r : Store) → Continues r r
same r = record { out = grows_none r.out; err = grows_none r.err }

goes_on : (r r' r'' : Store) → Continues r r' → Continues r' r'' → Continues r r''
goes_on r r' r'' h k = record {
  out = grows_on r.out r'.out r''.out h.out k.out;
  err = grows_on r.err r'.err r''.err h.err k.err;
}

-- ---- plain instructions write nothing

abbrev pub is_end : State → Bool
is_end (running tree) = false
is_end _ = true

-- what is done leaves the streams, and what ends the execution leaves nothing to run
abbrev pub Kept : Env → Effect → Type 0
Kept env (gives env' operands) = (env'.store.out ≡ env.store.out) × (env'.store.err ≡ env.store.err)
Kept env (becomes operands item) = Unit {0}
Kept env (halts state) = is_end state ≡ true

module _ (env : Env) where
  chosen : (b : Bool) (x y : Effect) → Kept env x → Kept env y → Kept env (cond b x y)
  chosen true x y h k = h
  chosen false x y h k = k

  with_one : (o : Option ℕ) (go_on : ℕ → Effect) → ((n : ℕ) → Kept env (go_on n))
      → Kept env (with_number o go_on)
  with_one None go_on h = refl
  with_one (Some n) go_on h = h n

  taken : (t : ValType) (vs : List Value) (go_on : (n : ℕ) → (rest : List Value) → Effect)
      → ((n : ℕ) (rest : List Value) → Kept env (go_on n rest)) → Kept env (take_one t vs go_on)
  taken type.I32 (v ∷ vs) go_on h = with_one _ (λ n. go_on n vs) (λ n. h n vs)
  taken type.I64 (v ∷ vs) go_on h = with_one _ (λ n. go_on n vs) (λ n. h n vs)
  taken t [] go_on h = refl

  given : (t : ValType) (r : Result ℕ Trap) (rest : List Value) → Kept env (give_number env t r rest)
  given t (Ok n) rest = (refl, refl)
  given t (Err e) rest = refl

  pushed : (t : ValType) (vs : List Value) (f : ℕ → Value)
      → Kept env (take_one t vs (λ a rest. gives env (f a ∷ rest)))
  pushed t vs f = taken t vs (λ a rest. gives env (f a ∷ rest)) (λ a rest. (refl, refl))

  compared : (t : ValType) (vs : List Value) (f : ℕ → ℕ → Value)
      → Kept env (take_two t vs (λ a b rest. gives env (f a b ∷ rest)))
  compared t vs f =
      taken t vs (λ b below. take_one t below (λ a rest. gives env (f a b ∷ rest)))
      (λ b below. pushed t below (λ a. f a b))

  computed : (t : ValType) (vs : List Value) (f : ℕ → ℕ → Result ℕ Trap)
      → Kept env (take_two t vs (λ a b rest. give_number env t (f a b) rest))
  computed t vs f =
      taken t vs (λ b below. take_one t below (λ a rest. give_number env t (f a b) rest))
      (λ b below. taken t below (λ a rest. give_number env t (f a b) rest) (λ a rest. given t (f a b) rest))

  selected : (vs : List Value) → Kept env (select env vs)
  selected (I32 zero ∷ w ∷ v ∷ rest) = (refl, refl)
  selected (I32 (suc c) ∷ w ∷ v ∷ rest) = (refl, refl)
  selected _ = refl

  value_given : (o : Option Value) (vs : List Value) → Kept env (give_value env o vs)
  value_given None vs = refl
  value_given (Some v) vs = (refl, refl)

  locals_given : (o : Option (List Value)) (vs : List Value) → Kept env (give_locals env o vs)
  locals_given None vs = refl
  locals_given (Some ls) vs = (refl, refl)

  local_used : (vs : List Value) (op : LocalOp) (index : ℕ) → Kept env (use_local env vs op index)
  local_used vs local.Get index = value_given _ vs
  local_used (v ∷ vs) local.Set index = locals_given _ vs
  local_used (v ∷ vs) local.Tee index = locals_given _ (v ∷ vs)
  local_used [] local.Set index = refl
  local_used [] local.Tee index = refl

  globals_given : (o : Option (List Value)) (vs : List Value) → Kept env (give_globals env o vs)
  globals_given None vs = refl
  globals_given (Some gs) vs = (refl, refl)

  global_used : (vs : List Value) (op : GlobalOp) (index : ℕ) → Kept env (use_global env vs op index)
  global_used vs global.Get index = value_given _ vs
  global_used (v ∷ vs) global.Set index = globals_given _ vs
  global_used [] global.Set index = refl

  branched : (vs : List Value) (l : ℕ) → Kept env (branch_if env vs l)
  branched (I32 zero ∷ rest) l = (refl, refl)
  branched (I32 (suc c) ∷ rest) l = tt
  branched _ l = refl

  entry_called : (p : Program) (t : Option FuncType) (o : Option (Option ℕ)) (vs : List Value)
      → Kept env (call_entry p t o vs)
  entry_called p t None vs = refl
  entry_called p t (Some None) vs = refl
  entry_called p None (Some (Some f)) vs = refl
  entry_called p (Some t) (Some (Some f)) vs =
      chosen (is_of_type t (type_of_function (slice_get p.functions f))) (becomes vs (invoke f))
      (traps trap.IndirectCallTypeMismatch) tt refl

  converted : (vs : List Value) (op : ConvertOp) → Kept env (convert env vs op)
  converted vs op = pushed (source_of op) vs (λ a. value_of (target_of op) (integers.converted op a))

  abbrev outside : Effect
  outside = traps trap.OutOfBoundsMemoryAccess

  loaded : (vs : List Value) (op : LoadOp) (offset : ℕ) → Kept env (load env vs op offset)
  loaded vs op offset =
      taken type.I32 vs (λ a rest. cond (is_inside m (a + offset) n) (gives env (value a ∷ rest)) outside)
      (λ a rest. chosen (is_inside m (a + offset) n) (gives env (value a ∷ rest)) outside (refl, refl) refl)
    where
      m : Memory
      m = env.store.memory

      n : ℕ
      n = load_bytes op

      value : ℕ → Value
      value a = loaded_value op (range m (a + offset) n)

  stored : (vs : List Value) (op : StoreOp) (offset : ℕ) → Kept env (store env vs op offset)
  stored vs op offset =
      taken (store_type op) vs (λ b below. take_one type.I32 below (at_address b))
      (λ b below. taken type.I32 below (at_address b)
      (λ a rest. chosen (is_inside m (a + offset) n) (gives (written b a) rest) outside (refl, refl) refl))
    where
      m : Memory
      m = env.store.memory

      n : ℕ
      n = store_bytes op

      written : ℕ → ℕ → Env
      written b a = with_memory env (with_range m (a + offset) (low_bytes n b))

      at_address : (b a : ℕ) → (rest : List Value) → Effect
      at_address b a rest = cond (is_inside m (a + offset) n) (gives (written b a) rest) outside

  grown_by : (vs : List Value) → Kept env (grow env vs)
  grown_by vs =
      taken type.I32 vs (λ n rest. gives (with_memory env (grown m n)) (grow_answer (grow_result m n) ∷ rest))
      (λ n rest. (refl, refl))
    where
      m : Memory
      m = env.store.memory

  simple_kept : (p : Program) (vs : List Value) (s : Simple) → Kept env (simple_effect p env vs s)
  simple_kept p vs instr.Unreachable = refl
  simple_kept p vs instr.Nop = (refl, refl)
  simple_kept p vs (instr.Br l) = tt
  simple_kept p vs (instr.BrIf l) = branched vs l
  simple_kept p vs (instr.BrTable l ls) =
      taken type.I32 vs (λ i rest. becomes rest (branch (unwrap_or (slice_get ls i) l))) (λ i rest. tt)
  simple_kept p vs instr.Return = tt
  simple_kept p vs (instr.Call f) = tt
  simple_kept p vs (instr.CallIndirect k) =
      taken type.I32 vs (λ i rest. call_entry p (slice_get p.types k) (slice_get env.store.table i) rest)
      (λ i rest. entry_called p (slice_get p.types k) (slice_get env.store.table i) rest)
  simple_kept p (v ∷ vs) instr.Drop = (refl, refl)
  simple_kept p [] instr.Drop = refl
  simple_kept p vs instr.Select = selected vs
  simple_kept p vs (instr.Local op k) = local_used vs op k
  simple_kept p vs (instr.Global op k) = global_used vs op k
  simple_kept p vs (instr.Load op at) = loaded vs op at.offset
  simple_kept p vs (instr.Store op at) = stored vs op at.offset
  simple_kept p vs instr.MemorySize = (refl, refl)
  simple_kept p vs instr.MemoryGrow = grown_by vs
  simple_kept p vs (instr.Const v) = (refl, refl)
  simple_kept p vs (instr.Unary t op) = pushed t vs (λ a. value_of t (integers.unary (width_of t) op a))
  simple_kept p vs (instr.Binary t op) = computed t vs (λ a b. integers.binary (width_of t) op a b)
  simple_kept p vs (instr.Test t op) = pushed t vs (λ a. truth (integers.test op a))
  simple_kept p vs (instr.Compare t op) = compared t vs (λ a b. truth (integers.compare (width_of t) op a b))
  simple_kept p vs (instr.Convert op) = converted vs op

  block_entered : (vs : List Value) (place first : ℕ) (t : Option FuncType) (body : Ops)
      → Kept env (enter_block vs place first t body)
  block_entered vs place first None body = refl
  block_entered vs place first (Some t) body = tt

  loop_entered : (vs : List Value) (place : ℕ) (t : Option FuncType) (itself : Op) (body : Ops)
      → Kept env (enter_loop vs place t itself body)
  loop_entered vs place None itself body = refl
  loop_entered vs place (Some t) itself body = tt

  arm_chosen : (vs : List Value) (place : ℕ) (t : Option FuncType) (then_arm else_arm : Ops)
      → Kept env (choose vs place t then_arm else_arm)
  arm_chosen (I32 zero ∷ rest) place t then_arm else_arm = block_entered rest place _ t else_arm
  arm_chosen (I32 (suc c) ∷ rest) place t then_arm else_arm = block_entered rest place _ t then_arm
  arm_chosen _ place t then_arm else_arm = refl

  pub effect_kept : (p : Program) (vs : List Value) (place : ℕ) (o : Op) → Kept env (effect p env vs place o)
  effect_kept p vs place (simple s) = simple_kept p vs s
  effect_kept p vs place (block t body) = block_entered vs place _ (block_type p.types t) body
  effect_kept p vs place (loop t body) = loop_entered vs place (block_type p.types t) (loop t body) body
  effect_kept p vs place (if' t then_arm else_arm) =
      arm_chosen vs place (block_type p.types t) then_arm else_arm

-- ---- system calls append

abbrev Leaves : HostState → HostDone → Type 0
Leaves s d = Grows s.out d.state.out × Grows s.err d.state.err

left_by : (s : HostState) (b : Bool) (x y : HostDone) → Leaves s x → Leaves s y → Leaves s (cond b x y)
left_by s true x y h k = h
left_by s false x y h k = k

none_written : (s : HostState) → Grows s.out s.out × Grows s.err s.err
none_written s = (grows_none s.out, grows_none s.err)

put : (s : HostState) (p : ℕ) (first : List ℕ) (q : ℕ) (second : List ℕ) → Leaves s (put_both s p first q second)
put s p first q second =
    left_by s (is_inside s.memory p (length first) && is_inside s.memory q (length second)) _ _ (none_written s)
    (none_written s)

sizes_put : (texts : List (List ℕ)) (p q : ℕ) (s : HostState) → Leaves s (sizes_get texts p q s)
sizes_put texts p q s = put s p (word (length texts)) q (word (length (text_bytes texts)))

texts_put : (texts : List (List ℕ)) (p q : ℕ) (s : HostState) → Leaves s (texts_get texts p q s)
texts_put texts p q s = put s p (flat_map word (pointers q texts)) q (text_bytes texts)

-- what is written to a stream
module _ (s : HostState) (p n q : ℕ) where
  asked : List ℕ
  asked = gathered s.memory (buffers_at s.memory p n)

  inside : Bool
  inside =
      is_inside s.memory p (n * buffer_bytes) && are_inside s.memory (buffers_at s.memory p n) && is_inside s.memory q 4

  out_written : Leaves s (write_stream (λ out. record s { out = out }) s.out p n q)
  unfolding asked inside
  out_written =
      left_by s inside _ _
      (left_by s (nat_lt 0 (length asked) && room s.out == 0) _ _ (none_written s) ((_, refl), grows_none s.err))
      (none_written s)

  err_written : Leaves s (write_stream (λ err. record s { err = err }) s.err p n q)
  unfolding asked inside
  err_written =
      left_by s inside _ _
      (left_by s (nat_lt 0 (length asked) && room s.err == 0) _ _ (none_written s) (grows_none s.out, (_, refl)))
      (none_written s)

fd_written : (s : HostState) (fd p n q : ℕ) → Leaves s (fd_write s fd p n q)
fd_written s fd p n q =
    left_by s (fd == 1) _ _ (out_written s p n q)
    (left_by s (fd == 2) _ _ (err_written s p n q) (none_written s))

abbrev LeavesIfMade : HostState → Option HostDone → Type 0
LeavesIfMade s None = Unit {0}
LeavesIfMade s (Some d) = Leaves s d

called : (c : ProcessConfig) (h : HostCall) (args : List Value) (s : HostState)
    → LeavesIfMade s (system.host c h args s)
called c ArgsSizesGet (I32 p ∷ I32 q ∷ []) s = sizes_put c.args p q s
called c ArgsGet (I32 p ∷ I32 q ∷ []) s = texts_put c.args p q s
called c EnvironSizesGet (I32 p ∷ I32 q ∷ []) s = sizes_put c.env p q s
called c EnvironGet (I32 p ∷ I32 q ∷ []) s = texts_put c.env p q s
called c FdWrite (I32 fd ∷ I32 p ∷ I32 n ∷ I32 q ∷ []) s = fd_written s fd p n q
called c ProcExit (I32 code ∷ []) s = none_written s
called c SchedYield [] s = none_written s
called c _ _ s = tt

-- ---- reductions

-- the store after a reduction
abbrev left : Reduced → Store
left (to env tree) = env.store
left (ends env state) = env.store

effect_continues : (env : Env) (x : Effect) (rest : Items) → Kept env x
    → Continues env.store (left (by_effect env x rest))
effect_continues env (gives env' vs) rest h = record {
  out = ([], h.0 ∙ sym (append-nil env.store.out));
  err = ([], h.1 ∙ sym (append-nil env.store.err));
}
effect_continues env (becomes vs item) rest h = same env.store
effect_continues env (halts state) rest h = same env.store

label_continues : (env : Env) (vs : List Value) (n k : ℕ) (t : Target) (body : Tree)
    (inner : Reduced) (rest : Items) → Continues env.store (left inner)
    → Continues env.store (left (at_label env vs n k t body inner rest))
label_continues env vs n k t (seq ws done) inner rest h = same env.store
label_continues env vs n k t (seq ws (more (branch zero) is)) inner rest h = same env.store
label_continues env vs n k t (seq ws (more (branch (suc l)) is)) inner rest h = same env.store
label_continues env vs n k t (seq ws (more ret is)) inner rest h = same env.store
label_continues env vs n k t body (to env' body') rest h = h
label_continues env vs n k t body (ends env' state) rest h = h

frame_continues : (env : Env) (vs : List Value) (n f : ℕ) (ls : List Value) (body : Tree)
    (inner : Reduced) (rest : Items) → Continues env.store (left inner)
    → Continues env.store (left (at_frame env vs n f ls body inner rest))
frame_continues env vs n f ls (seq ws done) inner rest h = same env.store
frame_continues env vs n f ls (seq ws (more (branch zero) is)) inner rest h = same env.store
frame_continues env vs n f ls (seq ws (more (branch (suc l)) is)) inner rest h = same env.store
frame_continues env vs n f ls (seq ws (more ret is)) inner rest h = same env.store
frame_continues env vs n f ls body (to env' body') rest h = h
frame_continues env vs n f ls body (ends env' state) rest h = h

answer_left : (env : Env) (a : HostEnd) (vs : List Value) (rest : Items)
    → left (answered env a vs rest) ≡ env.store
answer_left env (host_end.Value n) vs rest = refl
answer_left env host_end.Nothing vs rest = refl
answer_left env (host_end.Exit n) vs rest = refl

host_continues : (env : Env) (o : Option HostDone) (vs : List Value) (rest : Items)
    → LeavesIfMade (host_state env.store) o → Continues env.store (left (by_host env o vs rest))
host_continues env None vs rest h = same env.store
host_continues env (Some d) vs rest h =
    let env' : Env = record env { store = with_host_state env.store d.state } in
    subst (Continues env.store) (sym (answer_left env' d.answer vs rest)) (record { out = h.0; err = h.1 })

module _ (p : Program) where
  call_continues : (env : Env) (vs : List Value) (f : ℕ) (o : Option Function) (rest : Items)
      → Continues env.store (left (call_function p env vs f o rest))
  call_continues env vs f (Some (host h)) rest =
      host_continues env _ _ rest (called p.process h _ (host_state env.store))
  call_continues env vs f (Some (own t zeros body)) rest = same env.store
  call_continues env vs f (Some unknown) rest = same env.store
  call_continues env vs f None rest = same env.store

  mutual
    reduction_continues : (env : Env) (t : Tree) → Continues env.store (left (reduce p env t))
    reduction_continues env (seq vs done) = same env.store
    reduction_continues env (seq vs (more i is)) = item_continues env vs i is

    item_continues : (env : Env) (vs : List Value) (i : Item) (rest : Items)
        → Continues env.store (left (reduce_item p env vs i rest))
    item_continues env vs (plain k o) rest =
        effect_continues env (effect p env vs k o) rest (effect_kept env p vs k o)
    item_continues env vs (label n k t body) rest =
        label_continues env vs n k t body (reduce p env body) rest (reduction_continues env body)
    item_continues env vs (frame n f ls body) rest =
        let in_frame : Env = record { store = env.store; locals = ls } in
        frame_continues env vs n f ls body (reduce p in_frame body) rest (reduction_continues in_frame body)
    item_continues env vs (enter m n k j t body) rest = same env.store
    item_continues env vs (invoke f) rest = call_continues env vs f (slice_get p.functions f) rest
    item_continues env vs (branch l) rest = same env.store
    item_continues env vs ret rest = same env.store

  result_store : (r : Reduced) → (of_reduced r).store ≡ left r
  result_store (to env tree) = refl
  result_store (ends env state) = refl

  state_continues : (r : Store) (s : State) → Continues r (step_state p r s).store
  state_continues r (running t) =
      let env : Env = record { store = r; locals = [] } in
      subst (Continues r) (sym (result_store (reduce p env t))) (reduction_continues env t)
  state_continues r (exited n) = same r
  state_continues r (trapped t) = same r
  state_continues r stuck = same r

  -- ---- turns

  either : (r : Store) (b : Bool) (x y : Configuration) → Continues r x.store → Continues r y.store
      → Continues r (cond b x y).store
  either r true x y h k = h
  either r false x y h k = k

  settling_continues : (n : ℕ) (c : Configuration) → Continues c.store (settle p n c).store
  settling_continues zero c = same c.store
  settling_continues (suc n) c =
      either c.store (is_settled c.state) c (settle p n (step p c)) (same c.store)
      (goes_on c.store (step p c).store (settle p n (step p c)).store (state_continues c.store c.state)
      (settling_continues n (step p c)))

  turn_continues : (c : Configuration) → Continues c.store (turn p c).store
  turn_continues c =
      goes_on c.store (step p c).store (turn p c).store (state_continues c.store c.state)
      (settling_continues (state_weight (step p c).state) (step p c))

  numbered_continues : (k : ℕ) (c : Configuration) → Continues c.store (numbered p k c).store
  numbered_continues k c =
      let over : Configuration = record c { state = trapped trap.TurnLimit } in
      either c.store (is_halted c.state) c (cond (k == last_turn) over (turn p c)) (same c.store)
      (either c.store (k == last_turn) over (turn p c) (same c.store) (turn_continues c))

  turns_continue : (k n : ℕ) (c : Configuration) → Continues c.store (from p k c n).store
  turns_continue k zero c = same c.store
  turns_continue k (suc n) c =
      let next = numbered p (suc k) c in
      goes_on c.store next.store (from p (suc k) next n).store (numbered_continues (suc k) c)
      (turns_continue (suc k) n next)

stream_grows : (s : Stream) (r r' : Store) → Continues r r' → Grows (written_to s r) (written_to s r')
stream_grows stream.Out r r' h = h.out
stream_grows stream.Err r r' h = h.err

pub outputs_grow : (m : Module) (p : ProcessConfig) (n k : ℕ) (s : Stream)
    → Grows (written_to s (after m p n).store) (written_to s (after m p (n + k)).store)
outputs_grow m p n k s =
    let so_far = after m p n in
    let later = from (program m p) (0 + n) so_far k in
    let grown = stream_grows s so_far.store later.store (turns_continue (program m p) (0 + n) k so_far) in
    subst (λ (c : Configuration). Grows (written_to s so_far.store) (written_to s c.store))
    (sym (from-add (program m p) 0 n k (initial m p))) grown
