-- What a text denotes, by reading it where 256 blocks may be open.
use Rattle.std.proofs.Common.{◌≡◌, ℕ, zero, suc, ◌≤◌, ◌<◌, List, [], ◌∷◌, Result, Ok, Err, ◌⊎◌, inl, inr, All, sym, ap, subst, ◌∙◌, arith}
use Rattle.std.proofs.lemmas.List.Elements.{All-head, All-tail}
use Rattle.wasm_ast.specs.declared.module.Module.{Module}
use Rattle.wasm_ast.specs.declared.module.Func.{Func}
use Rattle.wasm_ast.specs.declared.module.Global as declared_global
use Rattle.wasm_ast.specs.declared.module.Element.{Element}
use Rattle.wasm_ast.specs.declared.module.Segment.{Segment}
use Rattle.wasm_ast.specs.Limits.{Within, FuncWithin, ops_depth, max_nesting}
use Rattle.wasm_ast.proofs.LimitLemmas.{NestsWithin}
use Rattle.text_assembler.specs.declared.fault.Fault.{Fault}
use Rattle.text_assembler.specs.declared.fault.Fault.TheVariants.{Malformed, TooDeep}
use Rattle.std.specs.Prelude.{IfErr}
use Rattle.wasm_ast.specs.declared.refusal.Refusal.{Refusal}
use Rattle.wasm_ast.specs.declared.refusal.Refusal.TheVariants as refusal
use Rattle.wasm_binary.specs.Canonical.{FitsLimits}
use Rattle.text_assembler.specs.declared.fault.ReadError.{ReadError}
use Rattle.text_assembler.specs.declared.fault.ReadError.TheVariants as errors
use Rattle.text_assembler.specs.Inside.Answers.{Fails}
use Rattle.text_assembler.specs.Modules.{read_text, Denotes}
use Rattle.text_assembler.proofs.Nesting.{Agrees, ok_inj, no_ok}
use Rattle.text_assembler.proofs.ModuleNesting.{most, module_depth, agrees_text}

total : (a b : ℕ) → (a ≤ b) ⊎ (b ≤ a)
total zero b = inl (omega arith)
total (suc a) zero = inr (omega arith)
total (suc a) (suc b) = up (total a b)
  where
    up : {a b : ℕ} → (a ≤ b) ⊎ (b ≤ a) → (suc a ≤ suc b) ⊎ (suc b ≤ suc a)
    up (inl h) = inl (omega (arith, h))
    up (inr h) = inr (omega (arith, h))

same_by : (k n : ℕ) (text : List ℕ) (x y : Module) → read_text k text ≡ Ok x → read_text n text ≡ Ok y
    → Agrees (λ m. k < module_depth m) (read_text k text) (read_text n text) → x ≡ y
same_by k n text x y h i (inl e) = ok_inj x y (sym h ∙ e ∙ i)
same_by k n text x y h i (inr p) = absurd (no_ok TooDeep x (sym p.0 ∙ h))

same_read :
    (k n : ℕ) (text : List ℕ) (x y : Module) → read_text k text ≡ Ok x → read_text n text ≡ Ok y
    → (k ≤ n) ⊎ (n ≤ k) → x ≡ y
same_read k n text x y h i (inl le) = same_by k n text x y h i (agrees_text k n le text)
same_read k n text x y h i (inr le) = sym (same_by n k text y x i h (agrees_text n k le text))

-- at most one module to a text
pub denotes_one : (text : List ℕ) (x y : Module) → Denotes text x → Denotes text y → x ≡ y
denotes_one text x y h i = same_read h.0 i.0 text x y h.1 i.1 (total h.0 i.0)

IsTooDeepFault : Fault → Type 0
IsTooDeepFault Malformed = ⊥
IsTooDeepFault TooDeep = Unit {0}

fault_of : Result Module Fault → Fault
fault_of (Ok m) = Malformed
fault_of (Err f) = f

other_fault : ◌≡◌ {A = Result Module Fault} (Err TooDeep) (Err Malformed) → ⊥
unfolding fault_of IsTooDeepFault
other_fault e = subst IsTooDeepFault (ap fault_of e) tt

more_malformed :
    (k n : ℕ) (text : List ℕ) (y : Module) → read_text k text ≡ Err Malformed → read_text n text ≡ Ok y
    → Agrees (λ m. k < module_depth m) (read_text k text) (read_text n text) → ⊥
more_malformed k n text y h i (inl e) = no_ok Malformed y (sym h ∙ e ∙ i)
more_malformed k n text y h i (inr p) = other_fault (sym p.0 ∙ h)

fewer_malformed :
    (k n : ℕ) (text : List ℕ) (y : Module) → read_text k text ≡ Err Malformed → read_text n text ≡ Ok y
    → Agrees (λ m. n < module_depth m) (read_text n text) (read_text k text) → ⊥
fewer_malformed k n text y h i (inl e) = no_ok Malformed y (sym h ∙ sym e ∙ i)
fewer_malformed k n text y h i (inr p) = no_ok TooDeep y (sym p.0 ∙ i)

malformed_by :
    (k n : ℕ) (text : List ℕ) (y : Module) → read_text k text ≡ Err Malformed → read_text n text ≡ Ok y
    → (k ≤ n) ⊎ (n ≤ k) → ⊥
malformed_by k n text y h i (inl le) = more_malformed k n text y h i (agrees_text k n le text)
malformed_by k n text y h i (inr le) = fewer_malformed k n text y h i (agrees_text n k le text)

-- a fault means that nothing is denoted
pub malformed_denotes_none :
    (k : ℕ) (text : List ℕ) → read_text k text ≡ Err Malformed → (m : Module) → Denotes text m → ⊥
malformed_denotes_none k text h m d = malformed_by k d.0 text m h d.1 (total k d.0)

-- ---- depth

most_le :
    {X : Type 0} (P : X → Type 0) (f : X → ℕ) (b : ℕ) → ((x : X) → P x → f x ≤ b) → (xs : List X)
    → All P xs → most f xs ≤ b
most_le P f b h [] all = omega arith
most_le P f b h (x ∷ xs) all = omega (arith, h x (All-head P x xs all), most_le P f b h xs (All-tail P x xs all))

pub within_depth : (m : Module) → Within m → module_depth m ≤ max_nesting
within_depth m w =
    let f =
    most_le (FuncWithin m.types) (λ (f : Func). ops_depth f.body) max_nesting (λ x h. h.nesting) m.funcs w.funcs in
    let g =
    most_le (λ (g : declared_global.Global). NestsWithin g.init) (λ (g : declared_global.Global). ops_depth g.init)
    max_nesting (λ x h. h) m.globals w.globals in
    let e =
    most_le (λ (e : Element). NestsWithin e.offset) (λ (e : Element). ops_depth e.offset) max_nesting (λ x h. h)
    m.elements w.elements in
    let d =
    most_le (λ (d : Segment). NestsWithin d.offset) (λ (d : Segment). ops_depth d.offset) max_nesting (λ x h. h)
    m.segments w.segments in
    omega (arith, f, g, e, d)

deep_by :
    (k n : ℕ) (text : List ℕ) (y : Module) → read_text k text ≡ Err TooDeep → read_text n text ≡ Ok y
    → Agrees (λ m. k < module_depth m) (read_text k text) (read_text n text) → k < module_depth y
deep_by k n text y h i (inl e) = absurd (no_ok TooDeep y (sym h ∙ e ∙ i))
deep_by k n text y h i (inr p) = p.1 y i

shallow_by :
    (k n : ℕ) (text : List ℕ) (y : Module) → read_text k text ≡ Err TooDeep → read_text n text ≡ Ok y
    → Agrees (λ m. n < module_depth m) (read_text n text) (read_text k text) → ⊥
shallow_by k n text y h i (inl e) = no_ok TooDeep y (sym h ∙ sym e ∙ i)
shallow_by k n text y h i (inr p) = no_ok TooDeep y (sym p.0 ∙ i)

too_deep_by :
    (k n : ℕ) (text : List ℕ) (y : Module) → read_text k text ≡ Err TooDeep → read_text n text ≡ Ok y
    → (k ≤ n) ⊎ (n ≤ k) → k < module_depth y
too_deep_by k n text y h i (inl le) = deep_by k n text y h i (agrees_text k n le text)
too_deep_by k n text y h i (inr le) = absurd (shallow_by k n text y h i (agrees_text n k le text))

-- a text with too many open blocks denotes no module within the limits
pub too_deep_denotes_none_within :
    (text : List ℕ) → read_text max_nesting text ≡ Err TooDeep → (m : Module) → Denotes text m → Within m → ⊥
too_deep_denotes_none_within text h m d w =
    omega (arith, too_deep_by max_nesting d.0 text m h d.1 (total max_nesting d.0), within_depth m w)

-- ---- what `assemble` answers

same_bytes :
    (bytes text : List ℕ) (r : Result Module Fault) → bytes ≡ text → read_text max_nesting bytes ≡ r
    → read_text max_nesting text ≡ r
same_bytes bytes text r e h = sym (ap (read_text max_nesting) e) ∙ h

fits_too :
    (text : List ℕ) (x m : Module) → read_text max_nesting text ≡ Ok x → Denotes text m → FitsLimits m → FitsLimits x
fits_too text x m h d f = subst FitsLimits (denotes_one text m x d (max_nesting, h)) f

pub encoded_assembled :
    {V : Type 0} (result : Result V Refusal) (bytes text : List ℕ) (x : Module) → bytes ≡ text
    → read_text max_nesting bytes ≡ Ok x
    → IfErr result (λ e. (e ≡ refusal.Limit) ⊎ (e ≡ refusal.NoMemory)) → (result ≡ Err refusal.Limit → FitsLimits x → ⊥)
    → IfErr result (λ e. (m : Module) → Denotes text m → FitsLimits m → e ≡ refusal.NoMemory)
encoded_assembled (Ok v) bytes text x b h causes limit = tt
encoded_assembled {V} (Err e) bytes text x b h (inl p) limit =
    λ m d f. absurd (limit (ap (λ (r : Refusal). Err r) p) (fits_too text x m (same_bytes bytes text (Ok x) b h) d f))
encoded_assembled (Err e) bytes text x b h (inr p) limit = λ m d f. p

pub encoded_limit :
    {V : Type 0} (result : Result V Refusal) (bytes text : List ℕ) (x : Module) → bytes ≡ text
    → read_text max_nesting bytes ≡ Ok x
    → (result ≡ Err refusal.Limit → FitsLimits x → ⊥)
    → IfErr result (λ e. e ≡ refusal.Limit → (m : Module) → Denotes text m → FitsLimits m → ⊥)
encoded_limit (Ok v) bytes text x b h limit = tt
encoded_limit (Err e) bytes text x b h limit =
    λ p m d f. limit (ap (λ (r : Refusal). Err r) p) (fits_too text x m (same_bytes bytes text (Ok x) b h) d f)

pub deep_none :
    (e : ReadError) (bytes text : List ℕ) → e ≡ errors.TooDeep → bytes ≡ text → Fails e (read_text max_nesting bytes)
    → (m : Module) → Denotes text m → FitsLimits m → ⊥
deep_none e bytes text p b h m d f =
    too_deep_denotes_none_within text
    (same_bytes bytes text (Err TooDeep) b (subst (λ (e : ReadError). Fails e (read_text max_nesting bytes)) p h)) m
    d f.0

pub bad_none :
    (e : ReadError) (left : ℕ) (bytes text : List ℕ) → e ≡ errors.Malformed left → bytes ≡ text
    → Fails e (read_text max_nesting bytes) → (m : Module) → Denotes text m → ⊥
bad_none e left bytes text p b h m d =
    malformed_denotes_none max_nesting text
    (same_bytes bytes text (Err Malformed) b (subst (λ (e : ReadError). Fails e (read_text max_nesting bytes)) p h))
    m d
