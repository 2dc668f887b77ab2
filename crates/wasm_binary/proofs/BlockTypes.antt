-- What determines the type of a block, and the count of results, by their first bytes.
use Rattle.std.proofs.Common.{◌≡◌, ℕ, ◌+◌, ◌≤◌, List, [], ◌∷◌, length, drop, Result, Ok, Err, refl, sym, ap, subst, ◌∙◌, arith, inl, inr}
use Rattle.wasm_ast.specs.declared.values.ValType.{ValType}
use Rattle.wasm_ast.specs.declared.instr.BlockType.{BlockType}
use Rattle.wasm_ast.specs.declared.instr.BlockType.TheVariants.{Empty, One, Index}
use Rattle.wasm_binary.specs.declared.fault.Fault.{Fault}
use Rattle.wasm_binary.specs.declared.fault.Fault.TheVariants.{Bad, Over}
use Rattle.wasm_binary.specs.Numbers.{IsU32}
use Rattle.wasm_binary.specs.Grammar.{IsVector, IsValType, IsBlockType}
use Rattle.wasm_binary.specs.Limits.{ResultsOver}
use Rattle.wasm_binary.specs.Canonical.{canon_block_type}
use Rattle.wasm_binary.specs.Inside.Reading.{begins_with, read_signed, read_last_signed, read_u32, read_vector, read_val_type, read_block_index, read_block_type}
use Rattle.wasm_binary.proofs.ReadComplete.{CompleteAnswer, Complete, Always, u32_complete, vector_complete, type_complete, block_type_complete}
use Rattle.wasm_binary.proofs.Minimality.{signed_least}

-- a reader answers one value
same_answer : {X : Type 0} (x y : X) (r : Result X Fault) → Complete Always x r → Complete Always y r → x ≡ y
same_answer x y (Ok z) h k = sym h.complete ∙ k.complete
same_answer x y (Err Bad) h k = absurd h.complete
same_answer x y (Err Over) h k = absurd (h.complete tt)

pub one_block_type :
    (bytes : List ℕ) (t u : BlockType) (rest other : List ℕ) → IsBlockType bytes t rest → IsBlockType bytes u other
    → (t ≡ u) × (rest ≡ other)
one_block_type bytes t u rest other h k =
    let e : (t, rest) ≡ (u, other) =
    same_answer (t, rest) (u, other) (read_block_type bytes) (block_type_complete t bytes rest h)
    (block_type_complete u bytes other k) in
    (ap (λ (x : BlockType × List ℕ). x.0) e, ap (λ (x : BlockType × List ℕ). x.1) e)

pub block_type_least :
    (bytes : List ℕ) (t : BlockType) (rest : List ℕ) → IsBlockType bytes t rest
    → length (canon_block_type t) + length rest ≤ length bytes
block_type_least bytes Empty rest h = omega (arith, ap length h)
block_type_least bytes (One t) rest h = omega (arith, ap length h)
block_type_least bytes (Index i) rest h = signed_least 4 33 bytes i rest h.0

-- what is not read is no type of a block
refused :
    (bytes : List ℕ) (t : BlockType) (rest : List ℕ) → read_block_type bytes ≡ Err Bad → IsBlockType bytes t rest → ⊥
refused bytes t rest e h =
    subst (CompleteAnswer Always (t, rest)) e (block_type_complete t bytes rest h).complete

pub negative : (t : BlockType) (rest after : List ℕ) → IsBlockType (0x7D ∷ rest) t after → ⊥
unfolding read_block_type begins_with read_block_index read_signed read_last_signed
negative t rest after h = refused (0x7D ∷ rest) t after refl h

pub long_negative : (t : BlockType) (rest after : List ℕ) → IsBlockType (0xC0 ∷ 0x7F ∷ rest) t after → ⊥
unfolding read_block_type begins_with read_block_index read_signed read_last_signed
long_negative t rest after h = refused (0xC0 ∷ 0x7F ∷ rest) t after refl h

pub too_large :
    (t : BlockType) (rest after : List ℕ) → IsBlockType (0x80 ∷ 0x80 ∷ 0x80 ∷ 0x80 ∷ 0x10 ∷ rest) t after → ⊥
unfolding read_block_type begins_with read_block_index read_signed read_last_signed
too_large t rest after h = refused (0x80 ∷ 0x80 ∷ 0x80 ∷ 0x80 ∷ 0x10 ∷ rest) t after refl h

pub too_long :
    (t : BlockType) (rest after : List ℕ) → IsBlockType (0x82 ∷ 0x80 ∷ 0x80 ∷ 0x80 ∷ 0x80 ∷ rest) t after → ⊥
unfolding read_block_type begins_with read_block_index read_signed read_last_signed
too_long t rest after h = refused (0x82 ∷ 0x80 ∷ 0x80 ∷ 0x80 ∷ 0x80 ∷ rest) t after refl h

-- ---- results

abbrev counted : List ℕ → List ℕ
counted rest = 0x80 ∷ 0x08 ∷ rest

no_params : (rest : List ℕ) → IsVector IsValType (0x00 ∷ counted rest) [] (counted rest)
no_params rest = (counted rest, inl (omega arith, (omega arith, λ i. 0), λ i. counted rest), λ i. counted rest)

count_of : (rest : List ℕ) → IsU32 (counted rest) 1024 rest
count_of rest =
    inr (omega arith, omega arith, omega arith, 8, inl (omega arith, (omega arith, λ i. 8), λ i. rest), omega arith)

abbrev tail : List ℕ → List ℕ
tail bytes = drop 1 bytes

pub results_within : (rest : List ℕ) → ResultsOver (0x60 ∷ 0x00 ∷ counted rest) → ⊥
results_within rest h =
    let from : 0x00 ∷ counted rest ≡ h.0 = ap tail h.3 in
    let vector : IsVector IsValType (0x00 ∷ counted rest) h.1 h.2 =
    subst (λ bytes. IsVector IsValType bytes h.1 h.2) (sym from) h.4 in
    let e : (h.1, h.2) ≡ ([], counted rest) =
    same_answer (h.1, h.2) ([], counted rest) (read_vector read_val_type (0x00 ∷ counted rest))
    (vector_complete IsValType read_val_type type_complete h.1 (0x00 ∷ counted rest) h.2 vector)
    (vector_complete IsValType read_val_type type_complete [] (0x00 ∷ counted rest) (counted rest)
    (no_params rest)) in
    let mid : h.2 ≡ counted rest = ap (λ (x : List ValType × List ℕ). x.1) e in
    let over = h.5 in
    let count : IsU32 (counted rest) over.0 over.1 = subst (λ bytes. IsU32 bytes over.0 over.1) mid over.2 in
    let k : (over.0, over.1) ≡ (1024, rest) =
    same_answer (over.0, over.1) (1024, rest) (read_u32 (counted rest))
    (u32_complete (counted rest) over.0 over.1 count) (u32_complete (counted rest) 1024 rest (count_of rest)) in
    omega (arith, over.3, ap (λ (x : ℕ × List ℕ). x.0) k)
