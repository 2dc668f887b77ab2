-- A valid module never comes to where no rule is, and 32 bits number its places.
use Rattle.std.proofs.Common.{◌≡◌, ℕ, zero, suc, ◌+◌, ◌-◌, ◌<◌, ◌≤◌, ◌^◌, List, [], ◌∷◌, map, All, Bool, true, false, cond, nat_lt, Option, Some, None, refl, ap, ◌∙◌, inl, inr, arith}
use Rattle.std.specs.Prelude.{slice_get, option_to_list, ◌⊎◌}
use Rattle.std.proofs.lemmas.Bool.Decides.{nat_tests}
use Rattle.std.proofs.lemmas.List.Elements.{All-nil, All-cons, All-head, All-tail, All-append}
use Rattle.wasm_ast.specs.declared.values.Value.{Value}
use Rattle.wasm_ast.specs.declared.values.FuncType.{FuncType}
use Rattle.wasm_ast.specs.declared.module.Func.{Func}
use Rattle.wasm_ast.specs.declared.module.Import.{Import}
use Rattle.wasm_ast.specs.declared.module.Module.{Module}
use Rattle.wasm_ast.specs.Types.{zero_of}
use Rattle.wasm_ast.specs.Ranged.{Ranged}
use Rattle.wasm_ast.specs.Syntax.{Op, simple, block, loop, if', Ops, stop, next, count, ops_count, op_at, ops_at}
use Rattle.validator.specs.Typing.{ValidModule}
use Rattle.wasi_calls.specs.declared.host_call.HostCall.{HostCall}
use Rattle.wasi_calls.specs.declared.host_call.HostCall.TheVariants.{ArgsSizesGet, ArgsGet, EnvironSizesGet, EnvironGet, FdWrite, ProcExit, SchedYield}
use Rattle.wasi_calls.specs.HostCalls.{host_type}
use Rattle.oci_config.specs.declared.process.ProcessConfig.{ProcessConfig}
use Rattle.step_machine.specs.HostCalls.{all_known, known}
use Rattle.step_machine.specs.Program.{Function, host, own, unknown, imported, own_of, import_of, func_of, functions, program}
use Rattle.step_machine.specs.Configuration.{Tree, seq, Items, more, label, frame, items_of, running}
use Rattle.step_machine.specs.Places.{tree_next, body_of, written_at}
use Rattle.step_machine.specs.Instantiation.{entry_type, instantiation_refusal, after}
use Rattle.step_machine.specs.Inside.Levels.{Open, Level, around, nest, tree_of}
use Rattle.step_machine.specs.Inside.Simulates.{IsBare}
use Rattle.step_machine.proofs.Callables.{SystemAt, OwnAt, callable}
use Rattle.step_machine.proofs.ListLemmas.{element}
use Rattle.step_machine.proofs.WrittenPlaces.{is_written}
use Rattle.step_machine.proofs.StartLemmas.{entry_is_bare, start_is_bare}
use Rattle.step_machine.specs.Inside.Going.{HasTexts}
use Rattle.step_machine.proofs.Soundness.{never_stuck, nothing_outside}
use Rattle.label_machine.specs.Inside.Runs.{IsInvalid, no_rule, outside, IsPending, MayBePending}
use Rattle.label_machine.specs.Inside.Sound.{IsNumbered, AreInvoked}

-- ---- what is invoked outside all frames takes nothing

no_call_is_bare : (h : HostCall) → [] ≡ (host_type h).params → [] ≡ (host_type h).results → ⊥
no_call_is_bare ArgsSizesGet p r = cc
no_call_is_bare ArgsGet p r = cc
no_call_is_bare EnvironSizesGet p r = cc
no_call_is_bare EnvironGet p r = cc
no_call_is_bare FdWrite p r = cc
no_call_is_bare ProcExit p r = cc
no_call_is_bare SchedYield p r = cc

module _ (m : Module) (pr : ProcessConfig) (valid : ValidModule m) (ranged : Ranged m)
    (all : all_known m.types m.imports ≡ true) where
  bare_is_pending : (f : ℕ) → IsBare m f → IsPending (program m pr) f
  bare_is_pending f bare = by_kind (callable m f entry_type valid ranged all bare)
    where
      by_kind : SystemAt m f entry_type ⊎ OwnAt m f entry_type → IsPending (program m pr) f
      by_kind (inl s) = absurd (no_call_is_bare s.call s.params s.results)
      by_kind (inr o) = record {
        type = entry_type;
        zeros = map zero_of o.func.locals;
        body = o.func.body;
        is = o.is_function;
        takes_nothing = refl;
      }

  pub are_invoked : AreInvoked m pr
  are_invoked = record {
    start = start_pending m.start (start_is_bare m m.start valid.outside.start);
    entry = λ f is. bare_is_pending f (entry_is_bare m f is);
  }
    where
      start_pending : (o : Option ℕ) → All (IsBare m) (option_to_list o) → MayBePending (program m pr) o
      start_pending None h = tt
      start_pending (Some f) h = bare_is_pending f (All-head (IsBare m) f [] h)

-- ---- places

mutual
  op_ends : (o : Op) (k : ℕ) (found : Op) → op_at o k ≡ Some found → k + count found ≤ count o
  op_ends o zero found h = let same : o ≡ found = cc in let n = ap count same in omega (arith, n)
  op_ends (simple s) (suc k) found h = cc
  op_ends (block b body) (suc k) found h = let e = ops_end body k found h in omega (arith, e)
  op_ends (loop b body) (suc k) found h = let e = ops_end body k found h in omega (arith, e)
  op_ends (if' b first second) (suc k) found h =
      by_arm (nat_lt k (ops_count first)) refl h (ops_end first k found) (ops_end second (k - ops_count first) found)
    where
      by_arm :
          (c : Bool) → nat_lt k (ops_count first) ≡ c
          → cond c (ops_at first k) (ops_at second (k - ops_count first)) ≡ Some found
          → (ops_at first k ≡ Some found → k + count found ≤ ops_count first)
          → (ops_at second (k - ops_count first) ≡ Some found
          → k - ops_count first + count found ≤ ops_count second)
          → suc k + count found ≤ count (if' b first second)
      by_arm true e h in_first in_second = let n = in_first h in omega (arith, n)
      by_arm false e h in_first in_second =
          let past : ops_count first ≤ k = grind (arith, nat_tests) in let n = in_second h in omega (arith, n, past)

  pub ops_end : (os : Ops) (k : ℕ) (found : Op) → ops_at os k ≡ Some found → k + count found ≤ ops_count os
  ops_end stop k found h = cc
  ops_end (next o os) k found h =
      by_first (nat_lt k (count o)) refl h (op_ends o k found) (ops_end os (k - count o) found)
    where
      by_first :
          (c : Bool) → nat_lt k (count o) ≡ c → cond c (op_at o k) (ops_at os (k - count o)) ≡ Some found
          → (op_at o k ≡ Some found → k + count found ≤ count o)
          → (ops_at os (k - count o) ≡ Some found → k - count o + count found ≤ ops_count os)
          → k + count found ≤ ops_count (next o os)
      by_first true e h in_first later = let n = in_first h in omega (arith, n)
      by_first false e h in_first later =
          let past : count o ≤ k = grind (arith, nat_tests) in let n = later h in omega (arith, n, past)

-- ---- the bodies of functions are numbered

abbrev IsNumberedFunction : Function → Type 0
IsNumberedFunction (own t zeros body) = ops_count body < 2 ^ 32
IsNumberedFunction _ = Unit {0}

import_numbered : (h : Option HostCall) → IsNumberedFunction (imported h)
import_numbered None = tt
import_numbered (Some h) = tt

own_numbered : (f : Func) (t : Option FuncType) → IsNumbered f → IsNumberedFunction (own_of f t)
own_numbered f None h = tt
own_numbered f (Some t) h = h

imports_numbered : (ts : List FuncType) (is : List Import) → All IsNumberedFunction (map (import_of ts) is)
imports_numbered ts [] = All-nil IsNumberedFunction
imports_numbered ts (i ∷ is) =
    All-cons IsNumberedFunction (import_of ts i) (map (import_of ts) is) (import_numbered (known ts i))
    (imports_numbered ts is)

funcs_numbered :
    (ts : List FuncType) (fs : List Func) → All IsNumbered fs → All IsNumberedFunction (map (func_of ts) fs)
funcs_numbered ts [] h = All-nil IsNumberedFunction
funcs_numbered ts (f ∷ fs) h =
    All-cons IsNumberedFunction (func_of ts f) (map (func_of ts) fs)
    (own_numbered f (slice_get ts f.type_index) (All-head IsNumbered f fs h))
    (funcs_numbered ts fs (All-tail IsNumbered f fs h))

all_numbered : (m : Module) → All IsNumbered m.funcs → All IsNumberedFunction (functions m)
all_numbered m h =
    All-append IsNumberedFunction (map (import_of m.types) m.imports) (map (func_of m.types) m.funcs)
    (imports_numbered m.types m.imports) (funcs_numbered m.types m.funcs h)

place_numbered :
    (o : Option Function) (k : ℕ) (found : Op)
    → ((f : Function) → o ≡ Some f → IsNumberedFunction f) → written_at (body_of o) k ≡ Some found
    → k + count found < 2 ^ 32
place_numbered None k found h w = cc
place_numbered (Some (host c)) k found h w = cc
place_numbered (Some unknown) k found h w = cc
place_numbered (Some (own t zeros body)) k found h w =
    let n : ops_count body < 2 ^ 32 = h (own t zeros body) refl in
    let e = ops_end body k found w in
    omega (arith, n, e)

-- ---- the instruction that is next

next_around : (os : List Open) (f : Option ℕ) (t : Tree) → tree_next f (around os t) ≡ tree_next f t
next_around [] f t = refl
next_around (o ∷ os) f t =
    next_around os f (seq o.below (more (label o.arity o.place o.target t) (items_of o.next_place o.rest)))

next_nest :
    (ls : List Level) (tail : Items) (n g : ℕ) (xs : List Value) (t : Tree)
    → tree_next None (nest ls tail (frame n g xs t)) ≡ tree_next (Some g) t
next_nest [] tail n g xs t = refl
next_nest (l ∷ ls) tail n g xs t =
    next_nest ls tail l.arity l.func l.locals
    (around l.opens (seq l.operands (more (frame n g xs t) (items_of l.place l.rest))))
    ∙ next_around l.opens (Some l.func) (seq l.operands (more (frame n g xs t) (items_of l.place l.rest)))

next_is :
    (l : Level) (ls : List Level) (tail : Items) (o : Op) (os : Ops) → l.rest ≡ next o os
    → tree_next None (tree_of l ls tail) ≡ Some (record { func = l.func; place = l.place; op = o })
next_is l ls tail o os is =
    next_nest ls tail l.arity l.func l.locals (around l.opens (seq l.operands (items_of l.place l.rest)))
    ∙ (next_around l.opens (Some l.func) (seq l.operands (items_of l.place l.rest))
    ∙ ap (λ (ps : Ops). tree_next (Some l.func) (seq l.operands (items_of l.place ps))) is)

-- 32 bits number what follows the instruction that is next
pub next_numbered :
    (m : Module) (pr : ProcessConfig) (n : ℕ) (l : Level) (ls : List Level) (tail : Items) (o : Op) (os : Ops)
    → All IsNumbered m.funcs → (after m pr n).state ≡ running (tree_of l ls tail) → l.rest ≡ next o os
    → l.place + count o < 2 ^ 32
next_numbered m pr n l ls tail o os numbered is rest =
    let written =
    is_written m pr n (tree_of l ls tail) (record { func = l.func; place = l.place; op = o }) is
    (next_is l ls tail o os rest) in
    place_numbered (slice_get (functions m) l.func) l.place o
    (λ f there. element IsNumberedFunction (functions m) l.func f (all_numbered m numbered) there) written

-- ---- where no rule is

module _ (m : Module) (pr : ProcessConfig) (valid : ValidModule m) (ranged : Ranged m)
    (bytes : All (λ s. All (λ b. b < 256) s.bytes) m.segments) (texts : HasTexts pr) (few : pr.cap < 2 ^ 32)
    (accepted : instantiation_refusal m pr ≡ None) where
  pub never_invalid : (n : ℕ) → IsInvalid (after m pr n) → ⊥
  never_invalid n (no_rule h) = never_stuck m pr valid ranged bytes texts few accepted n h
  never_invalid n (outside v vs i is h) = nothing_outside m pr valid ranged bytes texts few accepted n v vs i is h
