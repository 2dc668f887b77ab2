-- What system calls answer: of arguments of other types there is no call, and none answers nothing.
use Rattle.std.proofs.Common.{◌≡◌, ℕ, ◌==◌, List, [], ◌∷◌, map, Bool, true, false, cond, Some, refl, sym, ap, ◌∙◌}
use Rattle.wasm_ast.specs.declared.values.Value.{Value}
use Rattle.wasm_ast.specs.declared.values.Value.TheVariants.{I32, I64}
use Rattle.wasm_ast.specs.Types.{type_of}
use Rattle.oci_config.specs.declared.process.ProcessConfig.{ProcessConfig}
use Rattle.wasi_calls.specs.declared.host_call.HostCall.{HostCall}
use Rattle.wasi_calls.specs.declared.host_call.HostCall.TheVariants.{ArgsSizesGet, ArgsGet, EnvironSizesGet, EnvironGet, FdWrite, ProcExit, SchedYield}
use Rattle.wasi_calls.specs.declared.host_end.HostEnd.TheVariants.{Value as Number, Nothing}
use Rattle.wasi_calls.specs.HostCalls.{host_type}
use Rattle.wasi_calls.specs.SystemCalls.{HostState, HostDone, returns, sizes_get, texts_get, write_stream, badf, fd_write}
use Rattle.wasi_calls.specs.SystemCalls as system
use Rattle.wasi_calls.proofs.HostLemmas.{Returned, sizes_returned, texts_returned, write_returned}

abbrev Answers : HostDone → Type 0
Answers d = d.answer ≡ Nothing → ⊥

one_of_three : (a b : Bool) (x y z : HostDone) → Answers x → Answers y → Answers z → Answers (cond a x (cond b y z))
one_of_three true b x y z f g h = f
one_of_three false true x y z f g h = g
one_of_three false false x y z f g h = h

number : (d : HostDone) → Returned d → Answers d
number d r e = let both : Number r.number ≡ Nothing = sym r.is ∙ e in cc

writes : (s : HostState) (fd p n q : ℕ) → Answers (fd_write s fd p n q)
writes s fd p n q =
    one_of_three (fd == 1) (fd == 2) (write_stream (λ out. record s { out = out }) s.out p n q)
    (write_stream (λ err. record s { err = err }) s.err p n q) (returns badf s)
    (number _ (write_returned (λ out. record s { out = out }) s.out p n q))
    (number _ (write_returned (λ err. record s { err = err }) s.err p n q)) (λ e. cc)

pub record IsMade (h : HostCall) (vs : List Value) (d : HostDone) : Type 0 where
  pub typed : map type_of vs ≡ (host_type h).params
  pub answers : Answers d

made_of : (h : HostCall) (vs : List Value) (x d : HostDone) → map type_of vs ≡ (host_type h).params → Answers x
    → Some x ≡ Some d → IsMade h vs d
made_of h vs x d typed answers is =
    let same : x ≡ d = cc in
    record { typed = typed; answers = λ e. answers (ap (λ (y : HostDone). y.answer) same ∙ e) }

pub is_made : (c : ProcessConfig) (h : HostCall) (vs : List Value) (s : HostState) (d : HostDone)
    → system.host c h vs s ≡ Some d → IsMade h vs d
is_made c ArgsSizesGet (I32 p ∷ I32 q ∷ []) s d is =
    made_of ArgsSizesGet (I32 p ∷ I32 q ∷ []) (sizes_get c.args p q s) d refl
    (number _ (sizes_returned c.args p q s)) is
is_made c ArgsSizesGet [] s d is = cc
is_made c ArgsSizesGet (I64 a ∷ vs) s d is = cc
is_made c ArgsSizesGet (I32 a ∷ []) s d is = cc
is_made c ArgsSizesGet (I32 a ∷ I64 b ∷ vs) s d is = cc
is_made c ArgsSizesGet (I32 a ∷ I32 b ∷ v ∷ vs) s d is = cc
is_made c ArgsGet (I32 p ∷ I32 q ∷ []) s d is =
    made_of ArgsGet (I32 p ∷ I32 q ∷ []) (texts_get c.args p q s) d refl (number _ (texts_returned c.args p q s)) is
is_made c ArgsGet [] s d is = cc
is_made c ArgsGet (I64 a ∷ vs) s d is = cc
is_made c ArgsGet (I32 a ∷ []) s d is = cc
is_made c ArgsGet (I32 a ∷ I64 b ∷ vs) s d is = cc
is_made c ArgsGet (I32 a ∷ I32 b ∷ v ∷ vs) s d is = cc
is_made c EnvironSizesGet (I32 p ∷ I32 q ∷ []) s d is =
    made_of EnvironSizesGet (I32 p ∷ I32 q ∷ []) (sizes_get c.env p q s) d refl
    (number _ (sizes_returned c.env p q s)) is
is_made c EnvironSizesGet [] s d is = cc
is_made c EnvironSizesGet (I64 a ∷ vs) s d is = cc
is_made c EnvironSizesGet (I32 a ∷ []) s d is = cc
is_made c EnvironSizesGet (I32 a ∷ I64 b ∷ vs) s d is = cc
is_made c EnvironSizesGet (I32 a ∷ I32 b ∷ v ∷ vs) s d is = cc
is_made c EnvironGet (I32 p ∷ I32 q ∷ []) s d is =
    made_of EnvironGet (I32 p ∷ I32 q ∷ []) (texts_get c.env p q s) d refl (number _ (texts_returned c.env p q s)) is
is_made c EnvironGet [] s d is = cc
is_made c EnvironGet (I64 a ∷ vs) s d is = cc
is_made c EnvironGet (I32 a ∷ []) s d is = cc
is_made c EnvironGet (I32 a ∷ I64 b ∷ vs) s d is = cc
is_made c EnvironGet (I32 a ∷ I32 b ∷ v ∷ vs) s d is = cc
is_made c FdWrite (I32 fd ∷ I32 p ∷ I32 n ∷ I32 q ∷ []) s d is =
    made_of FdWrite (I32 fd ∷ I32 p ∷ I32 n ∷ I32 q ∷ []) _ d refl (writes s fd p n q) is
is_made c FdWrite [] s d is = cc
is_made c FdWrite (I64 a ∷ vs) s d is = cc
is_made c FdWrite (I32 a ∷ []) s d is = cc
is_made c FdWrite (I32 a ∷ I64 b ∷ vs) s d is = cc
is_made c FdWrite (I32 a ∷ I32 b ∷ []) s d is = cc
is_made c FdWrite (I32 a ∷ I32 b ∷ I64 e ∷ vs) s d is = cc
is_made c FdWrite (I32 a ∷ I32 b ∷ I32 e ∷ []) s d is = cc
is_made c FdWrite (I32 a ∷ I32 b ∷ I32 e ∷ I64 f ∷ vs) s d is = cc
is_made c FdWrite (I32 a ∷ I32 b ∷ I32 e ∷ I32 f ∷ v ∷ vs) s d is = cc
is_made c ProcExit (I32 a ∷ []) s d is = made_of ProcExit (I32 a ∷ []) _ d refl (λ e. cc) is
is_made c ProcExit [] s d is = cc
is_made c ProcExit (I64 a ∷ vs) s d is = cc
is_made c ProcExit (I32 a ∷ v ∷ vs) s d is = cc
is_made c SchedYield [] s d is = made_of SchedYield [] _ d refl (λ e. cc) is
is_made c SchedYield (v ∷ vs) s d is = cc
