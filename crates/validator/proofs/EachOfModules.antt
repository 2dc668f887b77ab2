-- Several places of a valid module's function: what the algorithm knows at each.
use Rattle.std.proofs.Common.{◌≡◌, ℕ, ◌+◌, ◌<◌, true, false, true≢false, nat_lt, is_some, List, [], ◌∷◌, All, Some, refl, sym, ap, subst, ◌∙◌, arith}
use Rattle.std.proofs.lemmas.Bool.Decides.{nat_tests}
use Rattle.std.proofs.lemmas.List.Elements.{All-head, All-tail, All-weaker}
use Rattle.std.specs.List.{AllZip}
use Rattle.wasm_ast.specs.declared.values.FuncType.{FuncType}
use Rattle.wasm_ast.specs.declared.module.Func.{Func}
use Rattle.wasm_ast.specs.declared.module.Module.{Module}
use Rattle.wasm_ast.specs.Syntax.{ops_count, ops_at}
use Rattle.wasm_ast.proofs.PlaceLemmas.{ops_counted}
use Rattle.validator.specs.Typing.{ValidModule}
use Rattle.validator.specs.PlaceTypes.{IsOwn, IsPlace}
use Rattle.validator.specs.Inside.FunctionContext.{passes_func}
use Rattle.validator.proofs.ModuleExact.{func_passes}
use Rattle.validator.proofs.PlacesOfModules.{HasType, own_valid}

pub each_there :
    {A : Type 0} (R : ℕ → Type 0) (P Q : ℕ → A → Type 0) (places : List ℕ) (xs : List A) → All R places
    → ((place : ℕ) (x : A) → R place → P place x → Q place x) → AllZip P places xs → AllZip Q places xs
each_there R P Q [] [] all one h = tt
each_there R P Q [] (x ∷ xs) all one h = absurd h
each_there R P Q (p ∷ places) [] all one h = absurd h
each_there R P Q (p ∷ places) (x ∷ xs) all one h = (
  one p x (All-head R p places all) h.0,
  each_there R P Q places xs (All-tail R p places all) one h.1,
)

-- the body of a valid module's function passes
pub never_fails :
    (n l m : Module) (func : ℕ) (f : Func) (t : FuncType) → n ≡ l → l ≡ m → ValidModule m → IsOwn l func f
    → HasType l f t → passes_func n t f ≡ false → ⊥
never_fails n l m func f t one two valid own is fails =
    let here = subst (λ (x : Module). IsOwn x func f) two own in
    let type = subst (λ (x : Module). HasType x f t) two is in
    let passes : passes_func m t f ≡ true = func_passes m t f type (own_valid m func f valid here) in
    true≢false (sym passes ∙ sym (ap (λ (x : Module). passes_func x t f) (one ∙ two)) ∙ fails)

-- the places are in the body of the function
pub inside_body :
    (l m : Module) (func : ℕ) (f : Func) (places : List ℕ) → l ≡ m → IsOwn l func f → All (IsPlace m func) places
    → All (λ place. place < ops_count f.body) places
inside_body l m func f places same own all =
    let here = subst (λ (x : Module). IsOwn x func f) same own in
    All-weaker (IsPlace m func) (λ place. place < ops_count f.body)
    (λ place there.
    let some : Some there.0 ≡ Some f = sym there.2.1 ∙ here.1 in
    let is : there.0 ≡ f = cc in
    let at : ops_at f.body place ≡ Some there.1 = sym (ap (λ (x : Func). ops_at x.body place) is) ∙ there.3 in
    let test : nat_lt place (ops_count f.body) ≡ true = sym (ops_counted f.body place) ∙ ap is_some at in
    grind (arith, nat_tests)) places all

-- if there are places, there is a function
pub own_there :
    (l m : Module) (func : ℕ) (places : List ℕ) → l ≡ m → (places ≡ [] → ⊥) → All (IsPlace m func) places
    → (f : Func) × IsOwn l func f
own_there l m func [] same some all = absurd (some refl)
own_there l m func (p ∷ places) same some all =
    let there = All-head (IsPlace m func) p places all in
    (there.0, subst (λ (x : Module). IsOwn x func there.0) (sym same) there.2)

-- ---- an instance of what is so at each place

abbrev Next : ℕ → ℕ → Type 0
Next place n = n ≡ place + 1

pub each_is : (ns : List ℕ) → AllZip Next (3 ∷ 5 ∷ []) ns → ns ≡ 4 ∷ 6 ∷ []
each_is [] h = absurd h
each_is (a ∷ []) h = absurd h.1
each_is (a ∷ b ∷ []) h =
    let one : a ≡ 4 = h.0 in
    let two : b ≡ 6 = h.1.0 in
    cc
each_is (a ∷ b ∷ d ∷ ns) h = absurd h.1.1

pub is_each : (ns : List ℕ) → ns ≡ 4 ∷ 6 ∷ [] → AllZip Next (3 ∷ 5 ∷ []) ns
is_each ns is = subst (λ (l : List ℕ). AllZip Next (3 ∷ 5 ∷ []) l) (sym is) (refl, (refl, tt))
