-- The opening lines of blocks, with `end` added, read back.
use Rattle.std.proofs.Common.{◌≡◌, List, ℕ, ◌^◌, ◌<◌, [], ◌∷◌, ◌++◌, true, false, Ok, codes, decimal, refl, ap, ◌∙◌, append_assoc}
use Rattle.wasm_ast.specs.declared.values.ValType.TheVariants as type
use Rattle.wasm_ast.specs.declared.instr.BlockType.{BlockType}
use Rattle.wasm_ast.specs.declared.instr.BlockType.TheVariants.{Empty, One, Index}
use Rattle.wasm_ast.specs.Syntax.{Ops, stop, block, loop, if'}
use Rattle.wasm_ast.specs.Ranged.{RangedBlockType}
use Rattle.text_assembler.specs.declared.token.Lexeme.{Lexeme}
use Rattle.text_assembler.specs.declared.token.Lexeme.TheVariants.{Open, Close, Word}
use Rattle.text_assembler.specs.declared.scopes.Scopes.{Scopes}
use Rattle.text_assembler.specs.Reading.{read_some, read_parts}
use Rattle.text_assembler.specs.Tokens.{is_empty, is_apart, read_word, read_open, read_token, tokens_of}
use Rattle.text_assembler.specs.Words.{type_word}
use Rattle.text_assembler.specs.Names.{Ids, is_id}
use Rattle.text_assembler.specs.Phrases.{skip_open, skip_close, take_word, begins_word, skip_word, begins_group, skip_group, begins_id, id_of, after_id, val_type_of, read_val_type}
use Rattle.text_assembler.specs.Instructions.{read_block_type, skip_label, skip_end, read_enclosed, read_else, read_if, read_nested, read_op, is_end, read_body}
use Rattle.text_assembler.specs.Lines.{use_of, line_of, IsWrittenType, IsWritten, read_instr_line}
use Rattle.text_assembler.proofs.OpenBlocks.{body_is}
use Rattle.text_assembler.proofs.Scanning.{scans_all, after_word_of, is_wordlike}
use Rattle.text_assembler.proofs.LineScans.{last_word, use_scans}
use Rattle.text_assembler.proofs.LineReads.{use_words, use_read}

-- a body that ends at once
body_ends :
    (s : Scopes) (locals : Ids) (more : ℕ) (labels : Ids)
    → read_body s locals more labels (Word (codes "end") ∷ []) ≡ Ok ([], Word (codes "end") ∷ [])
unfolding read_parts read_some is_end
body_ends s locals more labels = body_is s locals more labels (Word (codes "end") ∷ []) ∙ refl

abbrev type_words : BlockType → List Lexeme
type_words Empty = []
type_words (One t) = Open ∷ Word (codes "result") ∷ Word (type_word t) ∷ Close ∷ []
type_words (Index n) = use_words n []

-- the use of a type and `end`, after the word of an instruction that has bodies
use_tokens :
    (w : List ℕ) (n : ℕ) → is_empty w ≡ false → is_wordlike w ≡ true → n < 2 ^ 32
    → tokens_of ((w ++ use_of n) ++ codes " end") ≡ Ok (Word w ∷ use_words n (Word (codes "end") ∷ []))
unfolding is_apart
use_tokens w n some wordlike fits =
    let whole :
    (w ++ use_of n) ++ codes " end" ≡ w ++ (codes " (type " ++ (decimal n ++ codes ") end")) =
    append_assoc w (use_of n) (codes " end")
    ∙ ap (λ (xs : List ℕ). w ++ (codes " (type " ++ xs)) (append_assoc (decimal n) (codes ")") (codes " end")) in
    rw whole
    (scans_all (w ++ (codes " (type " ++ (decimal n ++ codes ") end")))
    (Word w ∷ use_words n (Word (codes "end") ∷ []))
    (after_word_of w (codes " (type " ++ (decimal n ++ codes ") end"))
    (use_words n (Word (codes "end") ∷ [])) some wordlike refl
    (use_scans n (codes " end") (Word (codes "end") ∷ []) fits (last_word (codes "end") refl refl))))

block_tokens :
    (t : BlockType) (body : Ops) → RangedBlockType t
    → tokens_of (line_of (block t body) ++ codes " end")
    ≡ Ok (Word (codes "block") ∷ type_words t ++ Word (codes "end") ∷ [])
unfolding tokens_of read_parts read_some read_token read_word read_open is_apart
block_tokens Empty body small = refl
block_tokens (One type.I32) body small = refl
block_tokens (One type.I64) body small = refl
block_tokens (Index n) body small = use_tokens (codes "block") n refl refl small

block_reads :
    (t : BlockType) (s : Scopes) (locals labels : Ids) (more : ℕ) → RangedBlockType t → IsWrittenType s t
    → read_op s locals (Ok (read_body s locals more)) labels
    (Word (codes "block") ∷ type_words t ++ Word (codes "end") ∷ []) ≡ Ok (block t stop, [])
unfolding read_op take_word read_nested read_enclosed read_if read_else id_of after_id begins_id is_id read_block_type
    begins_group begins_word skip_group skip_open skip_word read_val_type val_type_of skip_close skip_end skip_label
block_reads Empty s locals labels more small lt = rw (body_ends s locals more) refl
block_reads (One type.I32) s locals labels more small lt = rw (body_ends s locals more) refl
block_reads (One type.I64) s locals labels more small lt = rw (body_ends s locals more) refl
block_reads (Index n) s locals labels more small lt =
    rw (use_read s n (codes "end") small lt, body_ends s locals more) refl

pub block_opens :
    (t : BlockType) (body : Ops) (s : Scopes) (locals labels : Ids) (more : ℕ) → RangedBlockType t
    → IsWritten s (block t body)
    → read_instr_line s locals (Ok (read_body s locals more)) labels (line_of (block t body) ++ codes " end")
    ≡ Ok (block t stop, [])
block_opens t body s locals labels more small lt =
    rw (block_tokens t body small) (block_reads t s locals labels more small lt)

loop_tokens :
    (t : BlockType) (body : Ops) → RangedBlockType t
    → tokens_of (line_of (loop t body) ++ codes " end")
    ≡ Ok (Word (codes "loop") ∷ type_words t ++ Word (codes "end") ∷ [])
unfolding tokens_of read_parts read_some read_token read_word read_open is_apart
loop_tokens Empty body small = refl
loop_tokens (One type.I32) body small = refl
loop_tokens (One type.I64) body small = refl
loop_tokens (Index n) body small = use_tokens (codes "loop") n refl refl small

loop_reads :
    (t : BlockType) (s : Scopes) (locals labels : Ids) (more : ℕ) → RangedBlockType t → IsWrittenType s t
    → read_op s locals (Ok (read_body s locals more)) labels
    (Word (codes "loop") ∷ type_words t ++ Word (codes "end") ∷ []) ≡ Ok (loop t stop, [])
unfolding read_op take_word read_nested read_enclosed read_if read_else id_of after_id begins_id is_id read_block_type
    begins_group begins_word skip_group skip_open skip_word read_val_type val_type_of skip_close skip_end skip_label
loop_reads Empty s locals labels more small lt = rw (body_ends s locals more) refl
loop_reads (One type.I32) s locals labels more small lt = rw (body_ends s locals more) refl
loop_reads (One type.I64) s locals labels more small lt = rw (body_ends s locals more) refl
loop_reads (Index n) s locals labels more small lt =
    rw (use_read s n (codes "end") small lt, body_ends s locals more) refl

pub loop_opens :
    (t : BlockType) (body : Ops) (s : Scopes) (locals labels : Ids) (more : ℕ) → RangedBlockType t
    → IsWritten s (loop t body)
    → read_instr_line s locals (Ok (read_body s locals more)) labels (line_of (loop t body) ++ codes " end")
    ≡ Ok (loop t stop, [])
loop_opens t body s locals labels more small lt =
    rw (loop_tokens t body small) (loop_reads t s locals labels more small lt)

if_tokens :
    (t : BlockType) (first second : Ops) → RangedBlockType t
    → tokens_of (line_of (if' t first second) ++ codes " end")
    ≡ Ok (Word (codes "if") ∷ type_words t ++ Word (codes "end") ∷ [])
unfolding tokens_of read_parts read_some read_token read_word read_open is_apart
if_tokens Empty first second small = refl
if_tokens (One type.I32) first second small = refl
if_tokens (One type.I64) first second small = refl
if_tokens (Index n) first second small = use_tokens (codes "if") n refl refl small

if_reads :
    (t : BlockType) (s : Scopes) (locals labels : Ids) (more : ℕ) → RangedBlockType t → IsWrittenType s t
    → read_op s locals (Ok (read_body s locals more)) labels
    (Word (codes "if") ∷ type_words t ++ Word (codes "end") ∷ []) ≡ Ok (if' t stop stop, [])
unfolding read_op take_word read_nested read_enclosed read_if read_else id_of after_id begins_id is_id read_block_type
    begins_group begins_word skip_group skip_open skip_word read_val_type val_type_of skip_close skip_end skip_label
if_reads Empty s locals labels more small lt = rw (body_ends s locals more) refl
if_reads (One type.I32) s locals labels more small lt = rw (body_ends s locals more) refl
if_reads (One type.I64) s locals labels more small lt = rw (body_ends s locals more) refl
if_reads (Index n) s locals labels more small lt =
    rw (use_read s n (codes "end") small lt, body_ends s locals more) refl

pub if_opens :
    (t : BlockType) (first second : Ops) (s : Scopes) (locals labels : Ids) (more : ℕ) → RangedBlockType t
    → IsWritten s (if' t first second)
    → read_instr_line s locals (Ok (read_body s locals more)) labels (line_of (if' t first second) ++ codes " end")
    ≡ Ok (if' t stop stop, [])
if_opens t first second s locals labels more small lt =
    rw (if_tokens t first second small) (if_reads t s locals labels more small lt)
