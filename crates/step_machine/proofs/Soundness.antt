-- A reduction is defined at every configuration of a valid module that a task can run.
use Rattle.std.proofs.Common.{◌≡◌, ◌≢◌, ℕ, zero, suc, ◌+◌, ◌-◌, ◌*◌, ◌^◌, ◌<◌, ◌≤◌, List, [], ◌∷◌, ◌++◌, map, length, All, Bool, true, false, ◌&&◌, nat_lt, cond, is_some, true≢false, Option, Some, None, subst, refl, sym, ap, ◌∙◌, arith}
use Rattle.std.specs.Prelude.{not, fold, slice_get, option_to_list}
use Rattle.std.proofs.lemmas.Bool.Decides.{nat_tests}
use Rattle.std.proofs.lemmas.List.Elements.{All-replicate, All-head, All-tail}
use Rattle.std.proofs.lemmas.Option.{slice_get_within}
use Rattle.wasm_ast.specs.declared.values.Value.{Value}
use Rattle.wasm_ast.specs.declared.trap.Trap.TheVariants as trap
use Rattle.wasm_ast.specs.declared.module.Limits.{Limits}
use Rattle.wasm_ast.specs.declared.module.Segment.{Segment}
use Rattle.wasm_ast.specs.declared.module.Module.{Module}
use Rattle.wasm_ast.specs.declared.refusal.Refusal.{Refusal}
use Rattle.wasm_ast.specs.Limits.{is_within}
use Rattle.wasm_ast.specs.Ranged.{Ranged}
use Rattle.validator.specs.Typing.{ValidModule}
use Rattle.linear_memory.specs.Memory.{Memory, page_bytes}
use Rattle.flat_code.specs.Inside.FlatCode.{Cell, does, pass, unless, jump, jump_if, jump_by, call, call_indirect, skip, leave, Line}
use Rattle.oci_config.specs.declared.process.ProcessConfig.{ProcessConfig}
use Rattle.step_machine.specs.declared.ends.End.{End}
use Rattle.step_machine.specs.declared.ends.End.TheVariants as end
use Rattle.step_machine.specs.HostCalls.{all_known}
use Rattle.step_machine.specs.Limits.{last_turn}
use Rattle.step_machine.specs.Program.{program}
use Rattle.step_machine.specs.Configuration.{seq, Items, more, Item, items_of, State, running, stuck, Configuration}
use Rattle.step_machine.specs.Reduction.{host_state}
use Rattle.step_machine.specs.Instantiation.{entry, offset_of, zero_memory, empty_table, with_segment, first_memory, first_store, can_enter, are_pages_within, are_elements_inside, are_segments_inside, instantiation_refusal, after, ended}
use Rattle.step_machine.specs.Inside.Levels.{Level, framed_by, nest}
use Rattle.step_machine.specs.Inside.FlatState.{Flat, Stepped, goes, ends, word_of, callees, begin, takes_turn, flat_turn, flat_end}
use Rattle.step_machine.specs.Inside.Stands.{cell_in}
use Rattle.step_machine.specs.Inside.Simulates.{Stored, tail_of}
use Rattle.step_machine.specs.Inside.Going.{Runnable, HasTexts, Going, Waiting, Over, Stopped}
use Rattle.step_machine.proofs.TurnLemmas.{numbered-stays}
use Rattle.step_machine.proofs.LastTurn.{early}
use Rattle.step_machine.proofs.HostCallLemmas.{both}
use Rattle.step_machine.proofs.IntegerRanges.{IsByte, written_bytes}
use Rattle.step_machine.proofs.FirstStore.{first_typed, first_in_table, first_ranged}
use Rattle.step_machine.proofs.FlatCalls.{lines_of}
use Rattle.step_machine.proofs.FlatTurns.{turns}
use Rattle.step_machine.proofs.FlatGoing.{Arrives, waits_at, ends_at, arrives, Turns, goes_on, ends_so, makes_turn}
use Rattle.step_machine.proofs.SettleLemmas.{left_over, left_fewer}
use Rattle.step_machine.proofs.SliceLemmas.{has_halted, one_turn}
use Rattle.step_machine.proofs.MachineLemmas.{shows, never, last_trap}
use Rattle.step_machine.proofs.StartLemmas.{going_first, begins_so}
use Rattle.step_machine.proofs.RunTurns.{skip_smaller, fewer_smaller}

-- ---- what is outside all frames

abbrev outermost_operands : State → List Value
outermost_operands (running (seq vs is)) = vs
outermost_operands _ = []

outside_frames :
    (ls : List Level) (tail : Items) (i : Item) → outermost_operands (running (nest ls tail i)) ≡ []
outside_frames [] tail i = refl
outside_frames (l ∷ ls) tail i = outside_frames ls tail (framed_by l (more i (items_of l.place l.rest)))

-- ---- what is known of a module that is not refused

passes : (b : Bool) (r : Refusal) (o : Option Refusal) → cond (not b) (Some r) o ≡ None → (b ≡ true) × (o ≡ None)
passes true r o h = (refl, h)
passes false r o h = cc

is_there : (o : Option ℕ) → is_some o ≡ true → (f : ℕ) × (o ≡ Some f)
is_there None h = absurd (true≢false (sym h))
is_there (Some f) h = (f, refl)

record Opens (m : Module) (pr : ProcessConfig) : Type 0 where
  pub func : ℕ
  pub is_entry : entry m ≡ Some func
  pub known : all_known m.types m.imports ≡ true
  pub within : is_within m ≡ true
  pub inside : are_segments_inside (zero_memory m.memories pr.cap) m.segments ≡ true

opens : (m : Module) (pr : ProcessConfig) → instantiation_refusal m pr ≡ None → Opens m pr
opens m pr h =
    let enters = passes (can_enter m) _ _ h in
    let known = passes (all_known m.types m.imports) _ _ enters.1 in
    let within = passes (is_within m && are_pages_within m.memories pr.cap) _ _ known.1 in
    let inside =
    passes
    (are_elements_inside (length (empty_table m.tables)) m.elements
    && are_segments_inside (zero_memory m.memories pr.cap) m.segments) _ _ within.1 in
    let first = is_there (entry m) (both (is_some (entry m)) _ enters.0).0 in
    record {
      func = first.0;
      is_entry = first.1;
      known = known.0;
      within = (both (is_within m) (are_pages_within m.memories pr.cap) within.0).0;
      inside =
          (both (are_elements_inside (length (empty_table m.tables)) m.elements)
          (are_segments_inside (zero_memory m.memories pr.cap) m.segments) inside.0).1;
    }

-- ---- its memory begins with bytes

abbrev pub HasBytes : Segment → Type 0
HasBytes s = All (λ b. b < 256) s.bytes

zero_bytes : (ls : List Limits) (cap : ℕ) → All IsByte (zero_memory ls cap).bytes
zero_bytes [] cap = All-replicate IsByte (0 * page_bytes) 0 (omega arith)
zero_bytes (l ∷ ls) cap = All-replicate IsByte (l.min * page_bytes) 0 (omega arith)

segment_bytes :
    (n : Memory) (ss : List Segment) → All IsByte n.bytes → All HasBytes ss
    → All IsByte (fold with_segment n ss).bytes
segment_bytes n [] h bytes = h
segment_bytes n (s ∷ ss) h bytes =
    segment_bytes (with_segment n s) ss
    (written_bytes n (offset_of s.offset) s.bytes h (All-head HasBytes s ss bytes)) (All-tail HasBytes s ss bytes)

-- ---- ends of then arms and of bodies lead to an instruction, or to the end

in_code :
    (m : Module) (i : ℕ) (o : Option Line) → slice_get (lines_of m) i ≡ o → (c : Cell) → cell_in o ≡ Some c
    → i < length (lines_of m)
in_code m i None is c e = cc
in_code m i (Some l) is c e = slice_get_within (lines_of m) i l is

module _ (m : Module) (pr : ProcessConfig) (facts : Runnable m) where
  -- there are data that represent the configuration after this number of turns
  abbrev Stops : ℕ → Type 0
  Stops n = (o : Option End) × (x : Flat) × Stopped m pr o x n

  -- frames and functions that are left, and then cells
  abbrev ahead : Flat → ℕ
  ahead x = left_over x * suc (length (lines_of m)) + (length (lines_of m) - x.cell)

  end_smaller :
      (x y : Flat) (c : Cell) → takes_turn c ≡ false → x.cell < length (lines_of m)
      → ((j : ℕ) → c ≡ skip j → x.cell < j) → flat_end (callees m) c x ≡ goes y → ahead y < ahead x
  end_smaller x y (skip j) none there forward is =
      let same : record x { cell = j } ≡ y = cc in
      subst (λ (z : Flat). ahead z < ahead x) same
      (skip_smaller (left_over x) (suc (length (lines_of m))) (length (lines_of m)) x.cell j there (forward j refl))
  end_smaller x y (leave j) none there forward is =
      fewer_smaller (left_over y) (left_over x) (length (lines_of m)) x.cell y.cell
      (left_fewer x (callees m) j x.callers y refl is)
  end_smaller x y (does s) none there forward is = cc
  end_smaller x y pass none there forward is = cc
  end_smaller x y (unless j) none there forward is = cc
  end_smaller x y (jump j) none there forward is = cc
  end_smaller x y (jump_if j) none there forward is = cc
  end_smaller x y (jump_by js other) none there forward is = cc
  end_smaller x y (call f) none there forward is = cc
  end_smaller x y (call_indirect j) none there forward is = cc

  -- by one end, if those that are then left lead there
  end_stops :
      (k : ℕ) (x : Flat) (n : ℕ) → ahead x < suc k → ((y : Flat) → ahead y < k → Going m pr y n → Stops n)
      → Arrives m pr x n → Stops n
  end_stops k x n less others (waits_at c there takes w) = (None, x, w)
  end_stops k x n less others (ends_at c there takes forward on out) =
      by_step (flat_end (callees m) c x) refl on out
    where
      by_step :
          (s : Stepped) → flat_end (callees m) c x ≡ s → ((y : Flat) → s ≡ goes y → Going m pr y n)
          → ((e : End) → s ≡ ends e → Over m pr x e n) → Stops n
      by_step (ends e) is on out = (Some e, x, out e refl)
      by_step (goes y) is on out =
          let inside = in_code m x.cell (slice_get (lines_of m) x.cell) refl c there in
          let smaller = end_smaller x y c takes inside forward is in
          others y (omega (arith, less, smaller)) (on y refl)

  stops_within : (k : ℕ) (x : Flat) (n : ℕ) → ahead x < k → Going m pr x n → Stops n
  stops_within zero x n less g = absurd (omega (arith, less))
  stops_within (suc k) x n less g =
      end_stops k x n less (λ y fewer h. stops_within k y n fewer h) (arrives m pr facts x n g)

  going_stops : (x : Flat) (n : ℕ) → Going m pr x n → Stops n
  going_stops x n g = stops_within (suc (ahead x)) x n (omega arith) g

  -- ---- turns

  turn_stops : (x : Flat) (n : ℕ) → Waiting m pr x n → suc n < last_turn → Stops (suc n)
  turn_stops x n w less =
      let t =
      turns m pr facts.valid facts.ranged facts.known w.texts x w.store w.level w.callers w.simulates w.op
      w.rest w.here in
      by_turns (flat_turn (callees m) t.0.cell x) (makes_turn m pr facts x n t.0.cell w less (ap cell_in t.1.0))
    where
      by_turns : (s : Stepped) → Turns m pr facts x n s → Stops (suc n)
      by_turns s (goes_on y is g) = going_stops y (suc n) g
      by_turns s (ends_so e is over) = (Some e, x, over)

  -- the last turn is a trap
  next_stops : (x : Flat) (n : ℕ) → Waiting m pr x n → Stops (suc n)
  next_stops x n w = by_number (nat_lt (suc n) last_turn) refl
    where
      by_number : (b : Bool) → nat_lt (suc n) last_turn ≡ b → Stops (suc n)
      by_number true e = let less : suc n < last_turn = grind (arith, nat_tests) in turn_stops x n w less
      by_number false e =
          let past : last_turn ≤ suc n = grind (arith, nat_tests) in
          let before = early m pr n (sym (shows m pr x n None w)) in
          let last : suc n ≡ last_turn = omega (arith, past, before) in
          (Some (end.Trapped trap.TurnLimit), x, last_trap m pr x n w last)

  stays_over : (x : Flat) (e : End) (n : ℕ) → Over m pr x e n → Over m pr x e (suc n)
  stays_over x e n over =
      let halted = has_halted (after m pr n).state e over.ended_so in
      let same : after m pr (suc n) ≡ after m pr n =
      one_turn m pr n ∙ numbered-stays (program m pr) (suc n) (after m pr n) halted in
      record {
        ended_so = ap (λ (c : Configuration). ended c.state) same ∙ over.ended_so;
        process = over.process;
        part = over.part ∙ sym (ap (λ (c : Configuration). host_state c.store) same);
      }

  one_more : (o : Option End) (x : Flat) (n : ℕ) → Stopped m pr o x n → Stops (suc n)
  one_more None x n w = next_stops x n w
  one_more (Some e) x n over = (Some e, x, stays_over x e n over)

  always_stops : Stops 0 → (n : ℕ) → Stops n
  always_stops first zero = first
  always_stops first (suc n) = let s = always_stops first n in one_more s.0 s.1 n s.2

-- ---- the data that a task begins with

module _ (m : Module) (pr : ProcessConfig) (valid : ValidModule m) (ranged : Ranged m)
    (bytes : All HasBytes m.segments) (texts : HasTexts pr) (few : pr.cap < 2 ^ 32)
    (accepted : instantiation_refusal m pr ≡ None) where
  abbrev known : Opens m pr
  known = opens m pr accepted

  abbrev facts : Runnable m
  facts = record { valid = valid; ranged = ranged; known = known.known; within = known.within }

  abbrev first : Flat
  first = record {
    words = [];
    base = 0;
    cell = 0;
    callers = [];
    pending = [];
    process = pr;
    globals = map word_of (first_store m pr).globals;
    memory = first_memory m pr.cap;
    table = (first_store m pr).table;
    out = [];
    err = [];
  }

  first_stored : Stored m first (first_store m pr)
  first_stored = record {
    globals = refl;
    memory = refl;
    table = refl;
    out = refl;
    err = refl;
    globals_typed = first_typed m pr valid ranged;
    in_table = first_in_table m pr valid ranged;
    ranged =
        first_ranged m pr valid ranged few known.inside
        (segment_bytes (zero_memory m.memories pr.cap) m.segments (zero_bytes m.memories pr.cap) bytes);
  }

  begun_stops : (f : ℕ) (fs : List ℕ) → f ∷ fs ≡ option_to_list m.start ++ known.func ∷ [] → Stops m pr facts 0
  begun_stops f fs order = by_begin (begin (callees m) (f ∷ []) first) refl
    where
      by_begin : (s : Stepped) → begin (callees m) (f ∷ []) first ≡ s → Stops m pr facts 0
      by_begin (goes y) is =
          going_stops m pr facts (record y { pending = fs }) 0
          (going_first m pr facts first f fs known.func order known.is_entry first_stored refl texts y is)
      by_begin (ends e) is =
          absurd (begins_so m pr facts first f fs known.func order known.is_entry first_stored refl texts e is)

  first_stops : (start : Option ℕ) → m.start ≡ start → Stops m pr facts 0
  first_stops None is = begun_stops known.func [] (ap (λ o. option_to_list o ++ known.func ∷ []) (sym is))
  first_stops (Some f) is =
      begun_stops f (known.func ∷ []) (ap (λ o. option_to_list o ++ known.func ∷ []) (sym is))

  pub never_stuck : (n : ℕ) → (after m pr n).state ≢ stuck
  never_stuck n =
      let s = always_stops m pr facts (first_stops m.start refl) n in
      never m pr s.1 n s.0 s.2

  -- while an instruction is next, there are no operands outside all frames
  pub nothing_outside :
      (n : ℕ) (v : Value) (vs : List Value) (i : Item) (is : Items)
      → (after m pr n).state ≡ running (seq (v ∷ vs) (more i is)) → ⊥
  nothing_outside n v vs i is h =
      let s = always_stops m pr facts (first_stops m.start refl) n in
      by_end s.0 s.1 s.2
    where
      by_end : (o : Option End) (x : Flat) → Stopped m pr o x n → ⊥
      by_end None x w =
          let clash : [] ≡ v ∷ vs =
          sym (outside_frames w.callers (tail_of x.pending) (framed_by w.level (items_of w.level.place w.level.rest)))
          ∙ ap outermost_operands (sym (ap (λ (c : Configuration). c.state) w.is) ∙ h) in
          cc
      by_end (Some e) x over =
          let clash : None ≡ Some e = sym (ap ended h) ∙ over.ended_so in
          cc
