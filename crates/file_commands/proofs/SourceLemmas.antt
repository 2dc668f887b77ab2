-- The module that is in a file.
use Rattle.std.proofs.Common.{◌≡◌, ◌⊎◌, inl, inr, ℕ, List, Bool, true, false, Result, Ok, Err, refl, sym, ap, subst}
use Rattle.std.specs.Prelude.{IsUtf8, IfErr}
use Rattle.std.specs.Str.{is_utf8}
use Rattle.std.proofs.lemmas.Str.{IsUtf8-from_is_utf8, is_utf8-from_IsUtf8}
use Rattle.wasm_ast.specs.declared.module.Module.{Module}
use Rattle.wasm_ast.specs.declared.refusal.Refusal.{Refusal}
use Rattle.wasm_ast.specs.declared.refusal.Refusal.TheVariants as refusal
use Rattle.wasm_binary.specs.Grammar.{Spells}
use Rattle.wasm_binary.specs.Limits.{Over}
use Rattle.wasm_binary.specs.Canonical.{FitsLimits}
use Rattle.text_assembler.specs.Modules.{Denotes, IsTooDeep, IsBadText}
use Rattle.file_commands.specs.Source.{is_binary, IsNoSource, bad_module, large_module, bad_text, large_text}

false_by : (b : Bool) → (b ≡ true → ⊥) → b ≡ false
false_by true h = absurd (h refl)
false_by false h = refl

pub is_text : (bs : List ℕ) → IsUtf8 bs → is_utf8 bs ≡ true
is_text bs h = is_utf8-from_IsUtf8 bs h

pub no_text : (bs : List ℕ) → (IsUtf8 bs → ⊥) → is_utf8 bs ≡ false
no_text bs h = false_by (is_utf8 bs) (λ e. h (IsUtf8-from_is_utf8 bs e))

-- ---- the binary format

pub binary_refused : (bytes : List ℕ) (r : Result Module Refusal) → is_binary bytes ≡ true
    → IfErr r (λ e. (e ≡ refusal.BadModule) ⊎ ((e ≡ refusal.Limit) ⊎ (e ≡ refusal.NoMemory)))
    → (r ≡ Err refusal.BadModule → (m : Module) → Spells bytes m → ⊥) → (r ≡ Err refusal.Limit → Over bytes)
    → IfErr r (λ e. (e ≡ refusal.NoMemory) ⊎ IsNoSource bytes e)
binary_refused bytes (Ok m) b causes bad over = tt
binary_refused bytes (Err e) b (inl p) bad over =
    inr (subst (IsNoSource bytes) (sym p) (bad_module b (bad (ap (λ (x : Refusal). Err x) p))))
binary_refused bytes (Err e) b (inr (inl p)) bad over =
    inr (subst (IsNoSource bytes) (sym p) (large_module b (over (ap (λ (x : Refusal). Err x) p))))
binary_refused bytes (Err e) b (inr (inr p)) bad over = inl p

-- ---- the text format

abbrev IsPlace : Refusal → Type 0
IsPlace e = (line : ℕ) × (column : ℕ) × (e ≡ refusal.BadText line column)

place_of : (e : Refusal) → IsBadText e → IsPlace e
place_of (refusal.BadText line column) h = (line, column, refl)
place_of _ h = absurd h

abbrev pub IsTextRefusal : List ℕ → Refusal → Type 0
IsTextRefusal text e = (e ≡ refusal.NoMemory) ⊎ (is_binary text ≡ false → is_utf8 text ≡ true → IsNoSource text e)

pub text_refused : (text : List ℕ) (e : Refusal) → IsBadText e ⊎ ((e ≡ refusal.Limit) ⊎ (e ≡ refusal.NoMemory))
    → (IsBadText e → (m : Module) → Denotes text m → ⊥)
    → (e ≡ refusal.Limit → (m : Module) → Denotes text m → FitsLimits m → ⊥)
    → (e ≡ refusal.Limit → ((m : Module) × Denotes text m) ⊎ IsTooDeep text) → IsTextRefusal text e
text_refused text e (inl h) bad limit over =
    let p = place_of e h in
    inr (λ no_binary utf8. subst (IsNoSource text) (sym p.2) (bad_text p.0 p.1 no_binary utf8 (bad h)))
text_refused text e (inr (inl p)) bad limit over =
    inr (λ no_binary utf8. subst (IsNoSource text) (sym p) (large_text no_binary utf8 (limit p) (over p)))
text_refused text e (inr (inr p)) bad limit over = inl p
