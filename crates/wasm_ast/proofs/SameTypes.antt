-- Types that are compared one by one: the test holds of equal types alone.
use Rattle.std.proofs.Common.{◌≡◌, ◌≢◌, suc, List, [], ◌∷◌, length, Bool, true, false, ◌&&◌, true≢false, Decides, refl, sym, ap, subst, ◌∙◌}
use Rattle.std.proofs.lemmas.Bool.{and_parts}
use Rattle.wasm_ast.specs.declared.values.ValType.{ValType}
use Rattle.wasm_ast.specs.declared.values.ValType.TheVariants.{I32, I64}
use Rattle.wasm_ast.specs.Types.{is_same_type, are_same_types}

pub same_type : (t u : ValType) → is_same_type t u ≡ true → t ≡ u
same_type I32 I32 h = refl
same_type I32 I64 h = absurd (true≢false (sym h))
same_type I64 I32 h = absurd (true≢false (sym h))
same_type I64 I64 h = refl

pub itself : (t : ValType) → is_same_type t t ≡ true
itself I32 = refl
itself I64 = refl

pub same_types : (ts us : List ValType) → are_same_types ts us ≡ true → ts ≡ us
same_types [] [] h = refl
same_types [] (u ∷ us) h = absurd (true≢false (sym h))
same_types (t ∷ ts) [] h = absurd (true≢false (sym h))
same_types (t ∷ ts) (u ∷ us) h =
    let parts = and_parts (is_same_type t u) (are_same_types ts us) h in
    λ i. same_type t u parts.0 i ∷ same_types ts us parts.1 i

pub themselves : (ts : List ValType) → are_same_types ts ts ≡ true
themselves [] = refl
themselves (t ∷ ts) = λ i. itself t i && themselves ts i

pub decides_type : (t u : ValType) → Decides (is_same_type t u) (t ≡ u)
decides_type t u = (same_type t u, λ e. subst (λ v. is_same_type t v ≡ true) e (itself t))

pub decides_types : (ts us : List ValType) → Decides (are_same_types ts us) (ts ≡ us)
decides_types ts us = (same_types ts us, λ e. subst (λ vs. are_same_types ts vs ≡ true) e (themselves ts))

never : (b : Bool) → false ≡ (b && false)
never true = refl
never false = refl

-- lists of two lengths are not the same
pub other_length : (ts us : List ValType) → length ts ≢ length us → false ≡ are_same_types ts us
other_length [] [] h = absurd (h refl)
other_length [] (u ∷ us) h = refl
other_length (t ∷ ts) [] h = refl
other_length (t ∷ ts) (u ∷ us) h =
    never (is_same_type t u) ∙ ap (λ b. is_same_type t u && b) (other_length ts us (λ e. h (ap suc e)))
