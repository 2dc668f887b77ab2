-- What reading gives, in the words of the grammar: the clauses of `decode`.
use Rattle.std.proofs.Common.{◌≡◌, ◌≢◌, ◌++◌, ℕ, ◌<◌, ◌≤◌, true, false, List, length, Result, Ok, Err, refl, sym, ap, subst, ◌∙◌}
use Rattle.std.proofs.lemmas.Bool.{le-ltb}
use Rattle.wasm_ast.specs.declared.module.Module.{Module}
use Rattle.wasm_ast.specs.Limits.{max_module_bytes, Within}
use Rattle.wasm_binary.specs.declared.fault.Fault.{Fault}
use Rattle.wasm_binary.specs.declared.fault.Fault.TheVariants as fault
use Rattle.wasm_binary.specs.Grammar.{Spells}
use Rattle.wasm_binary.specs.Opcodes.{preamble}
use Rattle.wasm_binary.specs.Limits.{Over, too_many_bytes}
use Rattle.wasm_binary.specs.declared.fault.Spot.{Spot}
use Rattle.wasm_binary.specs.declared.fault.ReadError.{ReadError}
use Rattle.wasm_binary.specs.declared.fault.ReadError.TheVariants as errors
use Rattle.wasm_binary.specs.Inside.Reading.{Fails, strip_preamble, read_module}
use Rattle.wasm_binary.proofs.ReadSound.{Sound, SoundAnswer}
use Rattle.wasm_binary.proofs.ModuleSound.{preamble_sound, read_sound}
use Rattle.wasm_binary.proofs.ReadComplete.{Complete, CompleteAnswer}
use Rattle.wasm_binary.proofs.ModuleComplete.{read_complete}
use Rattle.wasm_binary.proofs.LimitComplete.{read_over}

abbrev or_else : Module → Result Module Fault → Module
or_else d (Ok m) = m
or_else d (Err e) = d

-- the fault that a call answered
pub by_fault :
    {X : Type 0} (e : ReadError) (f : Fault) (s : Spot) (g : Fault) (r : Result X Fault) → e ≡ errors.Fault f s → f ≡ g
    → Fails e r → r ≡ Err g
by_fault {X} e f s g r p q h = subst (λ k. r ≡ Err k) q (subst (λ d. Fails d r) p h)

sound_by : {X : Type 0} (P : X → Type 0) (Q : Type 0) (r s : Result X Fault) → Sound P Q r → r ≡ s → SoundAnswer P Q s
sound_by P Q r s h e = subst (SoundAnswer P Q) e h.sound

complete_by : {X : Type 0} (W : Type 0) (x : X) (r s : Result X Fault) → Complete W x r → r ≡ s → CompleteAnswer W x s
complete_by W x r s h e = subst (CompleteAnswer W x) e h.complete

pub decoded :
    (bytes : List ℕ) (m : Module) → read_module true bytes ≡ Ok m
    → Spells bytes m × Within m × (length bytes ≤ max_module_bytes)
decoded bytes m e =
    sound_by (λ n. Spells bytes n × Within n × (length bytes ≤ max_module_bytes)) (Over bytes) (read_module true bytes)
    (Ok m) (read_sound bytes) e

pub passes : (bytes : List ℕ) → read_module true bytes ≡ Err fault.Over → Over bytes
passes bytes e =
    sound_by (λ n. Spells bytes n × Within n × (length bytes ≤ max_module_bytes)) (Over bytes) (read_module true bytes)
    (Err fault.Over) (read_sound bytes) e

pub not_spelled : (bytes : List ℕ) → read_module true bytes ≡ Err fault.Bad → (m : Module) → Spells bytes m → ⊥
not_spelled bytes e m s =
    complete_by (true ≡ true → Within m × (length bytes ≤ max_module_bytes)) m (read_module true bytes) (Err fault.Bad)
    (read_complete true bytes m s) e

pub none_within :
    (bytes : List ℕ) → read_module true bytes ≡ Err fault.Over → (m : Module) → Spells bytes m → Within m
    → length bytes ≤ max_module_bytes → ⊥
none_within bytes e m s w few =
    complete_by (true ≡ true → Within m × (length bytes ≤ max_module_bytes)) m (read_module true bytes) (Err fault.Over)
    (read_complete true bytes m s) e (λ _. (w, few))

-- without limits every module that is encoded is read
unlimited_read :
    (bytes : List ℕ) (m : Module) (r : Result Module Fault)
    → CompleteAnswer (false ≡ true → Within m × (length bytes ≤ max_module_bytes)) m r → r ≡ Ok m
unlimited_read bytes m (Ok n) h = ap (λ (x : Module). Ok x) h
unlimited_read bytes m (Err fault.Bad) h = absurd h
unlimited_read bytes m (Err fault.Over) h = absurd (h (λ e. absurd cc))

value_of : (d m n : Module) → ◌≡◌ {A = Result Module Fault} (Ok m) (Ok n) → m ≡ n
value_of d m n e = ap (or_else d) e

pub one_module : (bytes : List ℕ) (m n : Module) → Spells bytes m → Spells bytes n → m ≡ n
one_module bytes m n s t =
    let a :
    read_module false bytes ≡ Ok m =
    unlimited_read bytes m (read_module false bytes) (read_complete false bytes m s).complete in
    let b :
    read_module false bytes ≡ Ok n =
    unlimited_read bytes n (read_module false bytes) (read_complete false bytes n t).complete in
    value_of m m n (sym a ∙ b)

-- ---- what is answered before any memory is asked for

strip_fails :
    (bytes : List ℕ) (r : Result (List ℕ) Fault) → SoundAnswer (λ rest. bytes ≡ preamble ++ rest) ⊥ r
    → ((rest : List ℕ) → bytes ≢ preamble ++ rest) → r ≡ Err fault.Bad
strip_fails bytes (Ok rest) h none = absurd (none rest h)
strip_fails bytes (Err fault.Bad) h none = refl
strip_fails bytes (Err fault.Over) h none = absurd h

pub no_preamble : (bytes : List ℕ) → ((rest : List ℕ) → bytes ≢ preamble ++ rest) → strip_preamble bytes ≡ Err fault.Bad
no_preamble bytes none = strip_fails bytes (strip_preamble bytes) (preamble_sound bytes).sound none

pub bad_preamble :
    (bytes : List ℕ) → length bytes ≤ max_module_bytes → ((rest : List ℕ) → bytes ≢ preamble ++ rest)
    → read_module true bytes ≡ Err fault.Bad
unfolding read_module
bad_preamble bytes few none = rw (le-ltb max_module_bytes (length bytes) few, no_preamble bytes none) refl

pub too_long : (bytes : List ℕ) → max_module_bytes < length bytes → read_module true bytes ≡ Err fault.Over
too_long bytes many = read_over bytes (too_many_bytes many)
