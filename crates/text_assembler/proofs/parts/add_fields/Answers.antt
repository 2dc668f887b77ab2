use Rattle.std.proofs.Common.{◌≡◌, ◌-◌, sym, ◌∙◌, refl, arith}
use Rattle.std.proofs.lemmas.Result.{err_from_is_err_and}
use Rattle.text_assembler.specs.Inside.Parts.{parts_of}
use Rattle.text_assembler.specs.Modules.{read_fields}
use Rattle.text_assembler.proofs.FieldLoops.{field_goes_on, field_fails, fields_end, fields_run_out}
use Rattle.text_assembler.proofs.parts.add_fields.Goals as goal

pub loop-init : goal.loop-init
loop-init c = let k : c.args.most - 0 ≡ c.args.most = omega arith in rw k refl

pub returns-then-is_close : goal.returns-then-is_close
returns-then-is_close c =
    fields_end c.args.nesting c.args.scopes.now (parts_of c.loop.parts) (c.args.most - c.loop.counter) c.loop.rest.now
    (read_fields c.args.nesting c.args.scopes.now c.args.most (parts_of c.args.parts.now) c.args.tokens.now)
    (sym c.is_close.ensures ∙ c.if-is_close.true) c.loop.invariant

pub returns-in_err-rest : goal.returns-in_err-rest
returns-in_err-rest c =
    let p = err_from_is_err_and c.from_residual.result c.from_residual.ensures.1 in
    rw (p.1, p.2)
    (field_fails c.args.nesting c.args.scopes.now c.in_err-rest.field-0.0 (parts_of c.loop.parts) c.args.most
    c.loop.counter c.loop.rest.now
    (read_fields c.args.nesting c.args.scopes.now c.args.most (parts_of c.args.parts.now) c.args.tokens.now)
    c.loop-test.true
    (sym c.is_close.ensures ∙ c.if-is_close.false) c.in_err-rest.ensures c.loop.invariant)

pub loop-preserved : goal.loop-preserved
loop-preserved c =
    field_goes_on c.args.nesting c.args.scopes.now (parts_of c.loop.parts) c.args.most c.loop.counter c.loop.rest.now
    (parts_of c.add_field.new.parts) c.in_ok-rest.rest.now
    (read_fields c.args.nesting c.args.scopes.now c.args.most (parts_of c.args.parts.now) c.args.tokens.now)
    c.loop-test.true
    (sym c.is_close.ensures ∙ c.if-is_close.false) c.in_ok-rest.ensures c.loop.invariant

pub returns-then-is_close-2 : goal.returns-then-is_close-2
returns-then-is_close-2 c =
    fields_end c.args.nesting c.args.scopes.now (parts_of c.loop.parts) (c.args.most - c.loop.counter) c.loop.rest.now
    (read_fields c.args.nesting c.args.scopes.now c.args.most (parts_of c.args.parts.now) c.args.tokens.now)
    (sym c.is_close-2.ensures ∙ c.if-is_close-2.true) c.loop.invariant

pub returns-else-is_close-2 : goal.returns-else-is_close-2
returns-else-is_close-2 c =
    rw c.fault.ensures
    (fields_run_out c.args.nesting c.args.scopes.now (parts_of c.loop.parts) c.args.most c.loop.counter
    c.loop.rest.now
    (read_fields c.args.nesting c.args.scopes.now c.args.most (parts_of c.args.parts.now) c.args.tokens.now)
    c.loop-test.false
    (sym c.is_close-2.ensures ∙ c.if-is_close-2.false) c.loop.invariant)
