-- Fields read one after the other, as a loop does.
use Rattle.std.proofs.Common.{◌≡◌, ℕ, zero, suc, ◌-◌, ◌+◌, ◌≤◌, ◌<◌, Ok, Err, true, false, refl, sym, ◌∙◌, arith}
use Rattle.wasm_ast.specs.declared.module.Module.{Module}
use Rattle.text_assembler.specs.declared.fault.Fault.{Fault}
use Rattle.text_assembler.specs.declared.fault.Fault.TheVariants.{Malformed, TooDeep}
use Rattle.text_assembler.specs.declared.fault.ReadError.{ReadError}
use Rattle.text_assembler.specs.declared.fault.ReadError.TheVariants as errors
use Rattle.text_assembler.specs.declared.scopes.Scopes.{Scopes}
use Rattle.text_assembler.specs.declared.token.Lexeme.{Lexeme}
use Rattle.text_assembler.specs.Reading.{Read}
use Rattle.text_assembler.specs.Phrases.{Tokens, is_close}
use Rattle.text_assembler.specs.Modules.{one_field, read_fields}
use Rattle.text_assembler.specs.Inside.Answers.{Fails}

pub field_goes_on :
    (nesting : ℕ) (s : Scopes) (m : Module) (most i : ℕ) (ts : Tokens) (more : Module) (after : Tokens)
    (total : Read Lexeme Module) → i < most
    → is_close ts ≡ false → one_field nesting s m ts ≡ Ok (more, after)
    → read_fields nesting s (most - i) m ts ≡ total → read_fields nesting s (most - (i + 1)) more after ≡ total
unfolding read_fields
field_goes_on nesting s m most i ts more after total lt e h so_far =
    let k : most - i ≡ suc (most - (i + 1)) = omega arith in
    let one :
    read_fields nesting s (most - i) m ts ≡ read_fields nesting s (most - (i + 1)) more after = rw (k, e, h) refl in
    sym one ∙ so_far

fails_with :
    (nesting : ℕ) (s : Scopes) (f : Fault) (m : Module) (most i : ℕ) (ts : Tokens) (total : Read Lexeme Module)
    → i < most
    → is_close ts ≡ false → one_field nesting s m ts ≡ Err f
    → read_fields nesting s (most - i) m ts ≡ total → total ≡ Err f
unfolding read_fields
fails_with nesting s f m most i ts total lt e h so_far =
    let k : most - i ≡ suc (most - (i + 1)) = omega arith in
    let one : read_fields nesting s (most - i) m ts ≡ Err f = rw (k, e, h) refl in
    sym so_far ∙ one

pub field_fails :
    (nesting : ℕ) (s : Scopes) (e : ReadError) (m : Module) (most i : ℕ) (ts : Tokens) (total : Read Lexeme Module)
    → i < most
    → is_close ts ≡ false → Fails e (one_field nesting s m ts)
    → read_fields nesting s (most - i) m ts ≡ total → Fails e total
field_fails nesting s errors.Memory m most i ts total lt b h so_far = tt
field_fails nesting s (errors.Malformed left) m most i ts total lt b h so_far =
    fails_with nesting s Malformed m most i ts total lt b h so_far
field_fails nesting s errors.TooDeep m most i ts total lt b h so_far =
    fails_with nesting s TooDeep m most i ts total lt b h so_far

ended :
    (nesting : ℕ) (s : Scopes) (m : Module) (n : ℕ) (ts : Tokens) → is_close ts ≡ true
    → read_fields nesting s n m ts ≡ Ok (m, ts)
unfolding read_fields
ended nesting s m zero ts e = rw e refl
ended nesting s m (suc n) ts e = rw e refl

pub fields_end :
    (nesting : ℕ) (s : Scopes) (m : Module) (n : ℕ) (ts : Tokens) (total : Read Lexeme Module) → is_close ts ≡ true
    → read_fields nesting s n m ts ≡ total → total ≡ Ok (m, ts)
fields_end nesting s m n ts total e so_far = sym so_far ∙ ended nesting s m n ts e

pub fields_run_out :
    (nesting : ℕ) (s : Scopes) (m : Module) (most i : ℕ) (ts : Tokens) (total : Read Lexeme Module) → most ≤ i
    → is_close ts ≡ false
    → read_fields nesting s (most - i) m ts ≡ total → total ≡ Err Malformed
unfolding read_fields
fields_run_out nesting s m most i ts total le e so_far =
    let k : most - i ≡ 0 = omega arith in
    let one : read_fields nesting s (most - i) m ts ≡ Err Malformed = rw (k, e) refl in
    sym so_far ∙ one
