-- What system calls answer, and what they leave of the memory.
use Rattle.std.proofs.Common.{◌≡◌, ℕ, zero, suc, ◌+◌, ◌*◌, ◌%◌, ◌/◌, ◌^◌, ◌<◌, ◌≤◌, ◌==◌, List, [], ◌∷◌, ◌++◌, map, length, take, drop, refl, sym, ap, ◌∙◌, subst, arith, Bool, true, false, cond, ◌&&◌, nat_lt, Some}
use Rattle.std.specs.Prelude.{All}
use Rattle.std.specs.List.{flat_map}
use Rattle.std.proofs.lemmas.List.Elements.{All-append, All-take, All-nil, All-cons, All-head, All-tail}
use Rattle.wasm_ast.specs.declared.values.ValType.TheVariants as type
use Rattle.wasm_ast.specs.declared.values.Value.{Value}
use Rattle.wasm_ast.specs.declared.values.Value.TheVariants.{I32, I64}
use Rattle.wasm_ast.specs.Types.{type_of}
use Rattle.wasm_ast.specs.Ranged.{RangedValue}
use Rattle.linear_memory.specs.Memory.{Memory, is_inside, with_range, low_bytes}
use Rattle.oci_config.specs.declared.process.ProcessConfig.{ProcessConfig}
use Rattle.wasi_calls.specs.declared.host_call.HostCall.{HostCall}
use Rattle.wasi_calls.specs.declared.host_call.HostCall.TheVariants.{ArgsSizesGet, ArgsGet, EnvironSizesGet, EnvironGet, FdWrite, ProcExit, SchedYield}
use Rattle.wasi_calls.specs.declared.host_end.HostEnd.TheVariants as end
use Rattle.wasi_calls.specs.HostCalls.{host_type}
use Rattle.wasi_calls.specs.SystemCalls.{put_both, ended_text, text_bytes, pointers, word, sizes_get, texts_get, room, append, write_stream, buffers_at, are_inside, gathered, HostState, HostDone, returns, fd_write, host}
use Rattle.wasi_calls.proofs.RangeLemmas.{within, same_length}

abbrev pub IsByte : ℕ → Type 0
IsByte b = b < 256

abbrev pub AreBytes : List (List ℕ) → Type 0
AreBytes texts = All (All IsByte) texts

-- the memory has as many bytes as before, and its cap
pub record Held (m m' : Memory) : Type 0 where
  pub size : length m'.bytes ≡ length m.bytes
  pub cap : m'.cap ≡ m.cap
  pub bytes : All IsByte m.bytes → All IsByte m'.bytes

pub held_same : (m : Memory) → Held m m
held_same m = record { size = refl; cap = refl; bytes = λ h. h }

all_dropped : (n : ℕ) (xs : List ℕ) → All IsByte xs → All IsByte (drop n xs)
all_dropped zero xs h = h
all_dropped (suc n) [] h = h
all_dropped (suc n) (x ∷ xs) h = all_dropped n xs (All-tail IsByte x xs h)

held_range : (m : Memory) (a : ℕ) (xs : List ℕ) → a + length xs ≤ length m.bytes → All IsByte xs
    → Held m (with_range m a xs)
held_range m a xs h ok = record {
  size = same_length m a xs h;
  cap = refl;
  bytes = λ all.
      All-append IsByte (take a m.bytes) (xs ++ drop (a + length xs) m.bytes) (All-take IsByte a m.bytes all)
      (All-append IsByte xs (drop (a + length xs) m.bytes) ok (all_dropped (a + length xs) m.bytes all));
}

held_on : (m m' m'' : Memory) → Held m m' → Held m' m'' → Held m m''
held_on m m' m'' h k = record {
  size = k.size ∙ h.size;
  cap = k.cap ∙ h.cap;
  bytes = λ all. k.bytes (h.bytes all);
}

-- ---- what is written are bytes

remainder : (n : ℕ) → n % 256 < 256
remainder n = omega arith

low_are_bytes : (k n : ℕ) → All IsByte (low_bytes k n)
low_are_bytes zero n = All-nil IsByte
low_are_bytes (suc k) n = All-cons IsByte (n % 256) (low_bytes k (n / 256)) (remainder n) (low_are_bytes k (n / 256))

pointers_are_bytes : (q : ℕ) (texts : List (List ℕ)) → All IsByte (flat_map word (pointers q texts))
pointers_are_bytes q [] = All-nil IsByte
pointers_are_bytes q (t ∷ ts) =
    All-append IsByte (word q) (flat_map word (pointers (q + length (ended_text t)) ts)) (low_are_bytes 4 q)
    (pointers_are_bytes (q + length (ended_text t)) ts)

texts_are_bytes : (texts : List (List ℕ)) → AreBytes texts → All IsByte (text_bytes texts)
texts_are_bytes [] h = All-nil IsByte
texts_are_bytes (t ∷ ts) h =
    All-append IsByte (ended_text t) (text_bytes ts)
    (All-append IsByte t (0 ∷ []) (All-head (All IsByte) t ts h) (All-cons IsByte 0 [] (omega arith) (All-nil IsByte)))
    (texts_are_bytes ts (All-tail (All IsByte) t ts h))

-- ---- the memory after a call

-- an error number is returned
pub record Returned (d : HostDone) : Type 0 where
  pub number : ℕ
  pub is : d.answer ≡ end.Value number
  pub small : number < 2 ^ 32

-- and the memory is held
pub record PutHeld (s : HostState) (d : HostDone) : Type 0 where
  pub returned : Returned d
  pub held : Held s.memory d.state.memory

pub one_of : (P : HostDone → Type 0) (b : Bool) (x y : HostDone) → P x → P y → P (cond b x y)
one_of P true x y h k = h
one_of P false x y h k = k

pub returned : (n : ℕ) (s : HostState) → n < 2 ^ 32 → Returned (returns n s)
returned n s h = record { number = n; is = refl; small = h }

same_held : (n : ℕ) (s : HostState) → n < 2 ^ 32 → PutHeld s (returns n s)
same_held n s h = record { returned = returned n s h; held = held_same s.memory }

put_returned : (s : HostState) (p : ℕ) (first : List ℕ) (q : ℕ) (second : List ℕ)
    → Returned (put_both s p first q second)
put_returned s p first q second =
    one_of Returned (is_inside s.memory p (length first) && is_inside s.memory q (length second)) _ _
    (returned 0 _ (omega arith)) (returned 21 _ (omega arith))

pub sizes_returned : (texts : List (List ℕ)) (p q : ℕ) (s : HostState) → Returned (sizes_get texts p q s)
sizes_returned texts p q s = put_returned s p (word (length texts)) q (word (length (text_bytes texts)))

pub texts_returned : (texts : List (List ℕ)) (p q : ℕ) (s : HostState) → Returned (texts_get texts p q s)
texts_returned texts p q s = put_returned s p (flat_map word (pointers q texts)) q (text_bytes texts)

put_held : (s : HostState) (p : ℕ) (first : List ℕ) (q : ℕ) (second : List ℕ) → All IsByte first → All IsByte second
    → PutHeld s (put_both s p first q second)
put_held s p first q second one two =
    by_tests (is_inside s.memory p (length first)) refl (is_inside s.memory q (length second)) refl
  where
    by_tests : (a : Bool) → is_inside s.memory p (length first) ≡ a
        → (b : Bool) → is_inside s.memory q (length second) ≡ b → PutHeld s (put_both s p first q second)
    by_tests false ea b eb = rw (ea) (same_held 21 s (omega arith))
    by_tests true ea false eb = rw (ea, eb) (same_held 21 s (omega arith))
    by_tests true ea true eb =
        let h = within s.memory p (length first) ea in
        let size = same_length s.memory p first h in
        let k = within s.memory q (length second) eb in
        let first_held = held_range s.memory p first h one in
        let second_held = held_range (with_range s.memory p first) q second (omega arith) two in
        rw (ea, eb)
        (record {
          returned = returned 0 _ (omega arith);
          held = held_on s.memory (with_range s.memory p first) (with_range (with_range s.memory p first) q second)
              first_held second_held;
        })

append_returned : (state_with : List ℕ → HostState) (stream asked : List ℕ) (q : ℕ)
    → Returned (append state_with stream asked q)
append_returned state_with stream asked q =
    one_of Returned (nat_lt 0 (length asked) && room stream == 0) _ _ (returned 51 _ (omega arith))
    (returned 0 _ (omega arith))

pub write_returned : (state_with : List ℕ → HostState) (stream : List ℕ) (p n q : ℕ)
    → Returned (write_stream state_with stream p n q)
write_returned state_with stream p n q =
    let m = (state_with stream).memory in
    one_of Returned (is_inside m p (n * 8) && are_inside m (buffers_at m p n) && is_inside m q 4) _ _
    (append_returned state_with stream (gathered m (buffers_at m p n)) q) (returned 21 _ (omega arith))

append_held : (state_with : List ℕ → HostState) (stream asked : List ℕ) (q : ℕ)
    → q + 4 ≤ length (state_with stream).memory.bytes → PutHeld (state_with stream) (append state_with stream asked q)
append_held state_with stream asked q h = by_test (nat_lt 0 (length asked) && room stream == 0) refl
  where
    by_test : (b : Bool) → (nat_lt 0 (length asked) && room stream == 0) ≡ b
        → PutHeld (state_with stream) (append state_with stream asked q)
    by_test true e = rw e (same_held 51 (state_with stream) (omega arith))
    by_test false e =
        let n = length (take (room stream) asked) in
        rw e
        (record {
          returned = returned 0 _ (omega arith);
          held = held_range (state_with stream).memory q (word n) h (low_are_bytes 4 n);
        })

write_held : (state_with : List ℕ → HostState) (stream : List ℕ) (p n q : ℕ)
    → PutHeld (state_with stream) (write_stream state_with stream p n q)
write_held state_with stream p n q = by_test _ refl
  where
    last_true : (a b : Bool) → (a && b) ≡ true → b ≡ true
    last_true true b h = h
    last_true false b h = cc

    by_test : (b : Bool) → (is_inside (state_with stream).memory p (n * 8)
        && are_inside (state_with stream).memory (buffers_at (state_with stream).memory p n)
        && is_inside (state_with stream).memory q 4) ≡ b
        → PutHeld (state_with stream) (write_stream state_with stream p n q)
    by_test false e = rw e (same_held 21 (state_with stream) (omega arith))
    by_test true e =
        let m = (state_with stream).memory in
        let is_in = last_true (is_inside m p (n * 8) && are_inside m (buffers_at m p n)) (is_inside m q 4) e in
        rw e (append_held state_with stream (gathered m (buffers_at m p n)) q (within m q 4 is_in))

-- ---- arguments of a call's types

pub record OneArg (args : List Value) : Type 0 where
  pub first : ℕ
  pub is : args ≡ I32 first ∷ []

one_arg : (args : List Value) → map type_of args ≡ type.I32 ∷ [] → OneArg args
one_arg [] h = cc
one_arg (I64 n ∷ vs) h = cc
one_arg (I32 n ∷ []) h = record { first = n; is = refl }
one_arg (I32 n ∷ v ∷ vs) h = cc

pub record TwoArgs (args : List Value) : Type 0 where
  pub first : ℕ
  pub second : ℕ
  pub is : args ≡ I32 first ∷ I32 second ∷ []

two_args : (args : List Value) → map type_of args ≡ type.I32 ∷ type.I32 ∷ [] → TwoArgs args
two_args [] h = cc
two_args (I64 n ∷ vs) h = cc
two_args (I32 n ∷ vs) h =
    let rest : map type_of vs ≡ type.I32 ∷ [] = cc in
    let r = one_arg vs rest in
    record { first = n; second = r.first; is = ap (λ us. I32 n ∷ us) r.is }

pub record FourArgs (args : List Value) : Type 0 where
  pub first : ℕ
  pub second : ℕ
  pub third : ℕ
  pub fourth : ℕ
  pub is : args ≡ I32 first ∷ I32 second ∷ I32 third ∷ I32 fourth ∷ []

four_args : (args : List Value) → map type_of args ≡ type.I32 ∷ type.I32 ∷ type.I32 ∷ type.I32 ∷ [] → FourArgs args
four_args [] h = cc
four_args (I64 n ∷ vs) h = cc
four_args (I32 n ∷ []) h = cc
four_args (I32 n ∷ I64 k ∷ vs) h = cc
four_args (I32 n ∷ I32 k ∷ vs) h =
    let rest : map type_of vs ≡ type.I32 ∷ type.I32 ∷ [] = cc in
    let r = two_args vs rest in
    record {
      first = n;
      second = k;
      third = r.first;
      fourth = r.second;
      is = ap (λ us. I32 n ∷ I32 k ∷ us) r.is;
    }

no_args : (args : List Value) → map type_of args ≡ [] → args ≡ []
no_args [] h = refl
no_args (v ∷ vs) h = cc

-- ---- a call

pub data Made (h : HostCall) (args : List Value) (s : HostState) (d : HostDone) : Type 0 where
  -- a result; without arguments nothing changes
  gave : (n : ℕ) → d.answer ≡ end.Value n → n < 2 ^ 32 → (host_type h).results ≡ type.I32 ∷ []
      → Held s.memory d.state.memory → (args ≡ [] → d.state ≡ s) → Made h args s d
  -- the task ends
  left : (n : ℕ) → d.answer ≡ end.Exit n → n < 2 ^ 32 → d.state ≡ s → (args ≡ [] → ⊥) → Made h args s d

pub record Makes (c : ProcessConfig) (h : HostCall) (args : List Value) (s : HostState) : Type 0 where
  pub after : HostDone
  pub is : host c h args s ≡ Some after
  pub made : Made h args s after

module _ (c : ProcessConfig) (args : List Value) (s : HostState) where
  puts : (h : HostCall) (d : HostDone) → host c h args s ≡ Some d → PutHeld s d
      → (host_type h).results ≡ type.I32 ∷ [] → (p q : ℕ) → args ≡ I32 p ∷ I32 q ∷ [] → Makes c h args s
  puts h d is ok results p q e = record {
    after = d;
    is = is;
    made = gave ok.returned.number ok.returned.is ok.returned.small results ok.held (λ none. cc);
  }

  writes : (fd p n q : ℕ) → args ≡ I32 fd ∷ I32 p ∷ I32 n ∷ I32 q ∷ [] → Makes c FdWrite args s
  writes fd p n q e = by_tests (fd == 1) refl (fd == 2) refl
    where
      is : host c FdWrite args s ≡ Some (fd_write s fd p n q)
      is = ap (λ us. host c FdWrite us s) e

      by_tests : (a : Bool) → (fd == 1) ≡ a → (b : Bool) → (fd == 2) ≡ b → Makes c FdWrite args s
      by_tests true ea b eb =
          let d = write_stream (λ out. record s { out = out }) s.out p n q in
          let ok = write_held (λ out. record s { out = out }) s.out p n q in
          let done : fd_write s fd p n q ≡ d = rw ea refl in
          record {
            after = d;
            is = is
                ∙ ap Some done;
            made = gave ok.returned.number ok.returned.is ok.returned.small refl ok.held (λ none. cc);
          }
      by_tests false ea true eb =
          let d = write_stream (λ err. record s { err = err }) s.err p n q in
          let ok = write_held (λ err. record s { err = err }) s.err p n q in
          let done : fd_write s fd p n q ≡ d = rw (ea, eb) refl in
          record {
            after = d;
            is = is
                ∙ ap Some done;
            made = gave ok.returned.number ok.returned.is ok.returned.small refl ok.held (λ none. cc);
          }
      by_tests false ea false eb =
          let d : HostDone = record { answer = end.Value 8; state = s } in
          let done : fd_write s fd p n q ≡ d = rw (ea, eb) refl in
          record {
            after = d;
            is = is
                ∙ ap Some done;
            made = gave 8 refl (omega arith) refl (held_same s.memory) (λ none. refl);
          }

  pub makes : (h : HostCall) → AreBytes c.args → AreBytes c.env → map type_of args ≡ (host_type h).params
      → All RangedValue args → Makes c h args s
  makes ArgsSizesGet a e typed ranged =
      let t = two_args args typed in
      let w = sizes_get c.args t.first t.second s in
      puts ArgsSizesGet w (ap (λ us. host c ArgsSizesGet us s) t.is)
      (put_held s t.first (word (length c.args)) t.second (word (length (text_bytes c.args)))
      (low_are_bytes 4 (length c.args)) (low_are_bytes 4 (length (text_bytes c.args)))) refl t.first t.second t.is
  makes ArgsGet a e typed ranged =
      let t = two_args args typed in
      let w = texts_get c.args t.first t.second s in
      puts ArgsGet w (ap (λ us. host c ArgsGet us s) t.is)
      (put_held s t.first (flat_map word (pointers t.second c.args)) t.second (text_bytes c.args)
      (pointers_are_bytes t.second c.args) (texts_are_bytes c.args a)) refl t.first t.second t.is
  makes EnvironSizesGet a e typed ranged =
      let t = two_args args typed in
      let w = sizes_get c.env t.first t.second s in
      puts EnvironSizesGet w (ap (λ us. host c EnvironSizesGet us s) t.is)
      (put_held s t.first (word (length c.env)) t.second (word (length (text_bytes c.env)))
      (low_are_bytes 4 (length c.env)) (low_are_bytes 4 (length (text_bytes c.env)))) refl t.first t.second t.is
  makes EnvironGet a e typed ranged =
      let t = two_args args typed in
      let w = texts_get c.env t.first t.second s in
      puts EnvironGet w (ap (λ us. host c EnvironGet us s) t.is)
      (put_held s t.first (flat_map word (pointers t.second c.env)) t.second (text_bytes c.env)
      (pointers_are_bytes t.second c.env) (texts_are_bytes c.env e)) refl t.first t.second t.is
  makes FdWrite a e typed ranged =
      let t = four_args args typed in
      writes t.first t.second t.third t.fourth t.is
  makes ProcExit a e typed ranged =
      let t = one_arg args typed in
      let small : t.first < 2 ^ 32 = All-head RangedValue (I32 t.first) [] (subst (All RangedValue) t.is ranged) in
      record {
        after = record { answer = end.Exit t.first; state = s };
        is = ap (λ us. host c ProcExit us s) t.is;
        made = left t.first refl small refl (λ none. let clash : I32 t.first ∷ [] ≡ [] = sym t.is ∙ none in cc);
      }
  makes SchedYield a e typed ranged = record {
    after = record { answer = end.Value 0; state = s };
    is = ap (λ us. host c SchedYield us s) (no_args args typed);
    made = gave 0 refl (omega arith) refl (held_same s.memory) (λ none. refl);
  }

pub held_of : (h : HostCall) (args : List Value) (s : HostState) (d : HostDone) → Made h args s d
    → Held s.memory d.state.memory
held_of h args s d (gave n answer small results held same) = held
held_of h args s d (left n answer small same some) =
    subst (λ (t : HostState). Held s.memory t.memory) (sym same) (held_same s.memory)

-- a call by which the task ends changes nothing
module _ (c : ProcessConfig) (args : List Value) (s : HostState) (d : HostDone) (n : ℕ)
    (ends : d.answer ≡ end.Exit n) where
  clash : (e : HostDone) (k : ℕ) → e.answer ≡ end.Value k → Some e ≡ Some d → d.state ≡ s
  clash e k value is =
      let same : e ≡ d = cc in
      let both : end.Value k ≡ end.Exit n = sym value ∙ (ap (λ (f : HostDone). f.answer) same ∙ ends) in
      cc

  pub exit_keeps : (h : HostCall) → map type_of args ≡ (host_type h).params → host c h args s ≡ Some d → d.state ≡ s
  exit_keeps ArgsSizesGet typed is =
      let t = two_args args typed in
      let w = sizes_get c.args t.first t.second s in
      let ok = sizes_returned c.args t.first t.second s in
      clash w ok.number ok.is (sym (ap (λ us. host c ArgsSizesGet us s) t.is) ∙ is)
  exit_keeps ArgsGet typed is =
      let t = two_args args typed in
      let w = texts_get c.args t.first t.second s in
      let ok = texts_returned c.args t.first t.second s in
      clash w ok.number ok.is (sym (ap (λ us. host c ArgsGet us s) t.is) ∙ is)
  exit_keeps EnvironSizesGet typed is =
      let t = two_args args typed in
      let w = sizes_get c.env t.first t.second s in
      let ok = sizes_returned c.env t.first t.second s in
      clash w ok.number ok.is (sym (ap (λ us. host c EnvironSizesGet us s) t.is) ∙ is)
  exit_keeps EnvironGet typed is =
      let t = two_args args typed in
      let w = texts_get c.env t.first t.second s in
      let ok = texts_returned c.env t.first t.second s in
      clash w ok.number ok.is (sym (ap (λ us. host c EnvironGet us s) t.is) ∙ is)
  exit_keeps FdWrite typed is =
      let t = four_args args typed in
      by_tests t.first t.second t.third t.fourth (sym (ap (λ us. host c FdWrite us s) t.is) ∙ is) (t.first == 1) refl
      (t.first == 2) refl
    where
      by_tests :
          (fd p k q : ℕ) → Some (fd_write s fd p k q) ≡ Some d → (a : Bool) → (fd == 1) ≡ a → (b : Bool)
          → (fd == 2) ≡ b → d.state ≡ s
      by_tests fd p k q e true ea b eb =
          let w = write_stream (λ out. record s { out = out }) s.out p k q in
          let ok = write_returned (λ out. record s { out = out }) s.out p k q in
          let done : fd_write s fd p k q ≡ w = rw ea refl in
          clash w ok.number ok.is (sym (ap Some done) ∙ e)
      by_tests fd p k q e false ea true eb =
          let w = write_stream (λ err. record s { err = err }) s.err p k q in
          let ok = write_returned (λ err. record s { err = err }) s.err p k q in
          let done : fd_write s fd p k q ≡ w = rw (ea, eb) refl in
          clash w ok.number ok.is (sym (ap Some done) ∙ e)
      by_tests fd p k q e false ea false eb =
          let w : HostDone = record { answer = end.Value 8; state = s } in
          let done : fd_write s fd p k q ≡ w = rw (ea, eb) refl in
          clash w 8 refl (sym (ap Some done) ∙ e)
  exit_keeps ProcExit typed is =
      let t = one_arg args typed in
      let w : HostDone = record { answer = end.Exit t.first; state = s } in
      let both : Some w ≡ Some d = sym (ap (λ us. host c ProcExit us s) t.is) ∙ is in
      let same : d ≡ w = cc in
      ap (λ (f : HostDone). f.state) same
  exit_keeps SchedYield typed is =
      let w : HostDone = record { answer = end.Value 0; state = s } in
      clash w 0 refl (sym (ap (λ us. host c SchedYield us s) (no_args args typed)) ∙ is)
