-- What the algorithm knows in a module that need not be valid: before an instruction, and at the end of a
-- sequence.
use Rattle.std.proofs.Common.{◌≡◌, ℕ, List, reverse, Option, Some, None, sym, subst, ◌∙◌}
use Rattle.std.specs.Prelude.{◌↔◌}
use Rattle.wasm_ast.specs.declared.values.ValType.{ValType}
use Rattle.wasm_ast.specs.declared.values.FuncType.{FuncType}
use Rattle.wasm_ast.specs.declared.module.Func.{Func}
use Rattle.wasm_ast.specs.declared.module.Module.{Module}
use Rattle.wasm_ast.specs.Syntax.{Ops}
use Rattle.validator.specs.Typing.{Context, body_context, Typed}
use Rattle.validator.specs.PlaceTypes.{Point, IsOwn, ReachesAt, Known, Stack, Matches, MatchPoint}
use Rattle.validator.specs.SequenceTypes.{LeadsIn}
use Rattle.validator.specs.Inside.Algorithm.{start, check_ops}
use Rattle.validator.proofs.SequenceExact.{start_matches, start_is, ops_sound, ops_exact}
use Rattle.validator.proofs.PlacesOfModules.{HasType, known, known_exact, known_sound, matches, one_function}

pub none_some : {A : Type 0} (o : Option A) (x : A) → o ≡ None → o ≡ Some x → ⊥
none_some o x none some = let both : None ≡ Some x = sym none ∙ some in cc

-- ---- before an instruction

-- of a module that is given in other words
module _ (n m : Module) (same : n ≡ m) (func place : ℕ) (f : Func) (t : FuncType) (own : IsOwn m func f)
    (is : HasType m f t) where
  there : (o : Option Known) → known n f t place ≡ o → known m f t place ≡ o
  there o h = subst (λ (x : Module). known x f t place ≡ o) same h

  pub before_exact : (k : Known) → known n f t place ≡ Some k → (p : Point) → MatchPoint k p ↔ ReachesAt m func place p
  before_exact k h p =
      let here = there (Some k) h in
      (known_sound m func place f t own is k p here, matches m func place f t own is k p here)

  pub before_none : known n f t place ≡ None → (p : Point) → ReachesAt m func place p → ⊥
  before_none h p reached =
      let found = known_exact m func place f t own is p reached in
      none_some (known m f t place) found.0 (there None h) found.1

-- of a function that is of the module in other words
pub before_exact_there : (n l m : Module) (func place : ℕ) (f : Func) (t : FuncType) → n ≡ l → l ≡ m → IsOwn l func f
    → HasType l f t → (k : Known) → known n f t place ≡ Some k → (p : Point) → MatchPoint k p ↔ ReachesAt m func place p
before_exact_there n l m func place f t one two own is =
    before_exact n m (one ∙ two) func place f t (subst (λ (x : Module). IsOwn x func f) two own)
    (subst (λ (x : Module). HasType x f t) two is)

pub before_none_there : (n l m : Module) (func place : ℕ) (f : Func) (t : FuncType) → n ≡ l → l ≡ m → IsOwn l func f
    → HasType l f t → known n f t place ≡ None → (p : Point) → ReachesAt m func place p → ⊥
before_none_there n l m func place f t one two own is =
    before_none n m (one ∙ two) func place f t (subst (λ (x : Module). IsOwn x func f) two own)
    (subst (λ (x : Module). HasType x f t) two is)

-- no function is there
abbrev pub Absent : Module → ℕ → Type 0
Absent m func = (f : Func) (t : FuncType) → IsOwn m func f → HasType m f t → ⊥

pub before_absent : (m : Module) (func place : ℕ) → Absent m func → (p : Point) → ReachesAt m func place p → ⊥
before_absent m func place none p h = none h.0 h.1 h.2 h.3

-- ---- at the end of a sequence

abbrev pub inside_labels : Module → Func → FuncType → List (List ValType) → Context
inside_labels m f t labels = record (body_context m t f) { labels = labels }

-- what the algorithm knows at the end
abbrev pub known_after :
    Module → Func → FuncType → List (List ValType) → Ops → (params : List ValType) → Option Stack
known_after m f t labels os params = check_ops (inside_labels m f t labels) os (start params)

module _ (n m : Module) (same : n ≡ m) (func : ℕ) (f : Func) (t : FuncType) (own : IsOwn m func f)
    (is : HasType m f t) (labels : List (List ValType)) (os : Ops) (params : List ValType) where
  there_after : (o : Option Stack) → known_after n f t labels os params ≡ o → known_after m f t labels os params ≡ o
  there_after o h = subst (λ (x : Module). known_after x f t labels os params ≡ o) same h

  found_after : (new : List ValType) → LeadsIn m func labels os (reverse params) new
      → (s : Stack) × (known_after m f t labels os params ≡ Some s) × Matches s new
  found_after new h =
      ops_exact (inside_labels m f t labels) os (start params) (reverse params) new (start_matches params)
      (one_function m func f h.0 t h.1 (λ f t. Typed (inside_labels m f t labels) os (reverse params) new) own h.2 is
      h.3 h.4)

  pub after_exact : (s : Stack) → known_after n f t labels os params ≡ Some s → (new : List ValType)
      → Matches s new ↔ LeadsIn m func labels os (reverse params) new
  after_exact s h new =
      let here = there_after (Some s) h in (
        λ fits.
            let found = ops_sound (inside_labels m f t labels) os (start params) s new here fits in (
              f,
              t,
              own,
              is,
              subst (λ (old : List ValType). Typed (inside_labels m f t labels) os old new)
                  (start_is params found.0 found.1) found.2,
            ),
        λ leads.
            let found = found_after new leads in
            let some : Some found.0 ≡ Some s = sym found.1 ∙ here in
            let one : found.0 ≡ s = cc in
            subst (λ (s : Stack). Matches s new) one found.2,
      )

  pub after_none : known_after n f t labels os params ≡ None → (new : List ValType)
      → LeadsIn m func labels os (reverse params) new → ⊥
  after_none h new leads =
      let found = found_after new leads in
      none_some (known_after m f t labels os params) found.0 (there_after None h) found.1

pub after_absent : (m : Module) (func : ℕ) → Absent m func → (labels : List (List ValType)) (os : Ops)
    (old new : List ValType) → LeadsIn m func labels os old new → ⊥
after_absent m func none labels os old new h = none h.0 h.1 h.2 h.3

pub after_exact_there : (n l m : Module) (func : ℕ) (f : Func) (t : FuncType) → n ≡ l → l ≡ m → IsOwn l func f
    → HasType l f t → (labels : List (List ValType)) (os : Ops) (params : List ValType) (s : Stack)
    → known_after n f t labels os params ≡ Some s → (new : List ValType)
    → Matches s new ↔ LeadsIn m func labels os (reverse params) new
after_exact_there n l m func f t one two own is =
    after_exact n m (one ∙ two) func f t (subst (λ (x : Module). IsOwn x func f) two own)
    (subst (λ (x : Module). HasType x f t) two is)

pub after_none_there : (n l m : Module) (func : ℕ) (f : Func) (t : FuncType) → n ≡ l → l ≡ m → IsOwn l func f
    → HasType l f t → (labels : List (List ValType)) (os : Ops) (params : List ValType)
    → known_after n f t labels os params ≡ None → (new : List ValType)
    → LeadsIn m func labels os (reverse params) new → ⊥
after_none_there n l m func f t one two own is =
    after_none n m (one ∙ two) func f t (subst (λ (x : Module). IsOwn x func f) two own)
    (subst (λ (x : Module). HasType x f t) two is)
