use Rattle.std.proofs.Common.{ℕ, List, drop, Result, ◌∙◌, ◌≡◌, Ok, Err, true, ap, sym, inl}
use Rattle.wasm_ast.specs.declared.module.Module.{Module}
use Rattle.wasm_binary.specs.declared.fault.Fault.{Fault}
use Rattle.wasm_binary.specs.declared.fault.Fault.TheVariants as fault
use Rattle.wasm_binary.specs.declared.fault.ReadError.{ReadError}
use Rattle.wasm_binary.specs.Inside.Reading.{read_module}
use Rattle.wasm_binary.proofs.DecodeClauses.{by_fault, decoded, passes, not_spelled, none_within, one_module, no_preamble, bad_preamble, too_long}
use Rattle.wasm_binary.proofs.SpelledModules.{spelled_ranged}
use Rattle.wasm_binary.proofs.LimitComplete.{read_over}
use Rattle.wasm_binary.proofs.decode.Goals as goal

pub returns-in-Ok-clause-spelled : goal.returns-in-Ok-clause-spelled
returns-in-Ok-clause-spelled c = (decoded c.args.bytes.now c.in-Ok.module c.in-Ok.ensures.value).0

pub returns-in-Ok-clause-within : goal.returns-in-Ok-clause-within
returns-in-Ok-clause-within c = let d = decoded c.args.bytes.now c.in-Ok.module c.in-Ok.ensures.value in (d.1, d.2)

pub returns-in-Ok-clause-read : goal.returns-in-Ok-clause-read
returns-in-Ok-clause-read c = λ m s w few.
    inl (ap (λ (x : Module). Ok x)
    (one_module c.args.bytes.now c.in-Ok.module m
    (decoded c.args.bytes.now c.in-Ok.module c.in-Ok.ensures.value).0 s))

pub returns-in-Err-Fault-Bad-default-clause-read : goal.returns-in-Err-Fault-Bad-default-clause-read
returns-in-Err-Fault-Bad-default-clause-read c = λ m s w few.
    let e :
    read_module true c.args.bytes.now ≡ Err fault.Bad =
    by_fault c.in-Err-Fault-Bad-default.field-0 c.in-Err-Fault-Bad-default.field-0-0
    c.in-Err-Fault-Bad-default.field-0-1 fault.Bad (read_module true c.args.bytes.now)
    c.in-Err-Fault-Bad-default.field-0-is c.in-Err-Fault-Bad-default.field-0-0-is
    c.in-Err-Fault-Bad-default.ensures.value in
    absurd (not_spelled c.args.bytes.now e m s)

pub returns-in-Err-Fault-Bad-default-clause-bad : goal.returns-in-Err-Fault-Bad-default-clause-bad
returns-in-Err-Fault-Bad-default-clause-bad c = λ _.
    let e :
    read_module true c.args.bytes.now ≡ Err fault.Bad =
    by_fault c.in-Err-Fault-Bad-default.field-0 c.in-Err-Fault-Bad-default.field-0-0
    c.in-Err-Fault-Bad-default.field-0-1 fault.Bad (read_module true c.args.bytes.now)
    c.in-Err-Fault-Bad-default.field-0-is c.in-Err-Fault-Bad-default.field-0-0-is
    c.in-Err-Fault-Bad-default.ensures.value in
    not_spelled c.args.bytes.now e

pub returns-in-Err-Fault-Over-default-clause-read : goal.returns-in-Err-Fault-Over-default-clause-read
returns-in-Err-Fault-Over-default-clause-read c = λ m s w few.
    let e :
    read_module true c.args.bytes.now ≡ Err fault.Over =
    by_fault c.in-Err-Fault-Over-default.field-0 c.in-Err-Fault-Over-default.field-0-0
    c.in-Err-Fault-Over-default.field-0-1 fault.Over
    (read_module true c.args.bytes.now) c.in-Err-Fault-Over-default.field-0-is c.in-Err-Fault-Over-default.field-0-0-is
    c.in-Err-Fault-Over-default.ensures.value in
    absurd (none_within c.args.bytes.now e m s w few)

pub returns-in-Err-Fault-Over-default-clause-over : goal.returns-in-Err-Fault-Over-default-clause-over
returns-in-Err-Fault-Over-default-clause-over c = λ _.
    let e :
    read_module true c.args.bytes.now ≡ Err fault.Over =
    by_fault c.in-Err-Fault-Over-default.field-0 c.in-Err-Fault-Over-default.field-0-0
    c.in-Err-Fault-Over-default.field-0-1 fault.Over
    (read_module true c.args.bytes.now) c.in-Err-Fault-Over-default.field-0-is c.in-Err-Fault-Over-default.field-0-0-is
    c.in-Err-Fault-Over-default.ensures.value in
    passes c.args.bytes.now e

pub returns-in-Err-Fault-Over-default-clause-none_within :
    goal.returns-in-Err-Fault-Over-default-clause-none_within
returns-in-Err-Fault-Over-default-clause-none_within c = λ _.
    let e :
    read_module true c.args.bytes.now ≡ Err fault.Over =
    by_fault c.in-Err-Fault-Over-default.field-0 c.in-Err-Fault-Over-default.field-0-0
    c.in-Err-Fault-Over-default.field-0-1 fault.Over
    (read_module true c.args.bytes.now) c.in-Err-Fault-Over-default.field-0-is c.in-Err-Fault-Over-default.field-0-0-is
    c.in-Err-Fault-Over-default.ensures.value in
    none_within c.args.bytes.now e

pub returns-in-Ok-clause-ranged : goal.returns-in-Ok-clause-ranged
returns-in-Ok-clause-ranged c =
    spelled_ranged c.args.bytes.now c.in-Ok.module (decoded c.args.bytes.now c.in-Ok.module c.in-Ok.ensures.value).0

pub returns-in-Ok-clause-limit : goal.returns-in-Ok-clause-limit
returns-in-Ok-clause-limit c = λ over.
    let e :
    ◌≡◌ {A = Result Module Fault} (Ok c.in-Ok.module) (Err fault.Over) =
    sym c.in-Ok.ensures.value ∙ read_over c.args.bytes.now over in
    absurd cc

pub returns-in-Err-Fault-Bad-default-clause-limit : goal.returns-in-Err-Fault-Bad-default-clause-limit
returns-in-Err-Fault-Bad-default-clause-limit c = λ over.
    let e :
    read_module true c.args.bytes.now ≡ Err fault.Bad =
    by_fault c.in-Err-Fault-Bad-default.field-0 c.in-Err-Fault-Bad-default.field-0-0
    c.in-Err-Fault-Bad-default.field-0-1 fault.Bad (read_module true c.args.bytes.now)
    c.in-Err-Fault-Bad-default.field-0-is c.in-Err-Fault-Bad-default.field-0-0-is
    c.in-Err-Fault-Bad-default.ensures.value in
    let k : ◌≡◌ {A = Result Module Fault} (Err fault.Bad) (Err fault.Over) = sym e ∙ read_over c.args.bytes.now over in
    absurd cc

pub returns-in-Ok-clause-no_preamble : goal.returns-in-Ok-clause-no_preamble
returns-in-Ok-clause-no_preamble c = λ few none.
    let e :
    ◌≡◌ {A = Result Module Fault} (Ok c.in-Ok.module) (Err fault.Bad) =
    sym c.in-Ok.ensures.value ∙ bad_preamble c.args.bytes.now few none in
    absurd cc

pub returns-in-Err-Memory-clause-no_preamble : goal.returns-in-Err-Memory-clause-no_preamble
returns-in-Err-Memory-clause-no_preamble c = λ few none.
    let k = c.in-Err-Memory.ensures.memory (ap (λ (e : ReadError). Err e) c.in-Err-Memory.field-0-is) in
    let e :
    ◌≡◌ {A = Result (List ℕ) Fault} (Ok (drop 8 c.args.bytes.now)) (Err fault.Bad) =
    sym k.1 ∙ no_preamble c.args.bytes.now none in
    absurd cc

pub returns-in-Err-Fault-Over-default-clause-no_preamble :
    goal.returns-in-Err-Fault-Over-default-clause-no_preamble
returns-in-Err-Fault-Over-default-clause-no_preamble c = λ few none.
    let e :
    read_module true c.args.bytes.now ≡ Err fault.Over =
    by_fault c.in-Err-Fault-Over-default.field-0 c.in-Err-Fault-Over-default.field-0-0
    c.in-Err-Fault-Over-default.field-0-1 fault.Over
    (read_module true c.args.bytes.now) c.in-Err-Fault-Over-default.field-0-is c.in-Err-Fault-Over-default.field-0-0-is
    c.in-Err-Fault-Over-default.ensures.value in
    let k :
    ◌≡◌ {A = Result Module Fault} (Err fault.Over) (Err fault.Bad) =
    sym e ∙ bad_preamble c.args.bytes.now few none in
    absurd cc

pub returns-in-Ok-clause-too_many : goal.returns-in-Ok-clause-too_many
returns-in-Ok-clause-too_many c = λ many.
    let e :
    ◌≡◌ {A = Result Module Fault} (Ok c.in-Ok.module) (Err fault.Over) =
    sym c.in-Ok.ensures.value ∙ too_long c.args.bytes.now many in
    absurd cc

pub returns-in-Err-Fault-Bad-default-clause-too_many : goal.returns-in-Err-Fault-Bad-default-clause-too_many
returns-in-Err-Fault-Bad-default-clause-too_many c = λ many.
    let e :
    read_module true c.args.bytes.now ≡ Err fault.Bad =
    by_fault c.in-Err-Fault-Bad-default.field-0 c.in-Err-Fault-Bad-default.field-0-0
    c.in-Err-Fault-Bad-default.field-0-1 fault.Bad (read_module true c.args.bytes.now)
    c.in-Err-Fault-Bad-default.field-0-is c.in-Err-Fault-Bad-default.field-0-0-is
    c.in-Err-Fault-Bad-default.ensures.value in
    let k : ◌≡◌ {A = Result Module Fault} (Err fault.Bad) (Err fault.Over) = sym e ∙ too_long c.args.bytes.now many in
    absurd cc
