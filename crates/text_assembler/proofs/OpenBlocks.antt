-- Where blocks are opened, and how bodies inside are read.
use Rattle.std.proofs.Common.{◌≡◌, ℕ, zero, suc, ◌-◌, ◌<◌, List, Ok, Err, true, refl, sym, ap, arith}
use Rattle.text_assembler.specs.declared.fault.Fault.TheVariants.{TooDeep}
use Rattle.text_assembler.specs.declared.scopes.Scopes.{Scopes}
use Rattle.text_assembler.specs.Reading.{read_parts}
use Rattle.text_assembler.specs.Names.{Ids}
use Rattle.text_assembler.specs.Phrases.{Tokens, take_word}
use Rattle.text_assembler.specs.Instructions.{opens_block, read_nested, read_op, one_op, is_end, read_body}
use Rattle.text_assembler.specs.Inside.Bodies.{inner_of}

-- a body is read with what may be inside
pub body_is :
    (s : Scopes) (locals : Ids) (more : ℕ) (labels : Ids) (ts : Tokens)
    → read_body s locals more labels ts ≡ read_parts is_end (one_op s locals (inner_of s locals more) labels) ts
unfolding read_body inner_of
body_is s locals zero labels ts = refl
body_is s locals (suc more) labels ts = refl

inner_some :
    (s : Scopes) (locals : Ids) (more : ℕ) → 0 < more → inner_of s locals more ≡ Ok (read_body s locals (more - 1))
unfolding inner_of
inner_some s locals zero lt = absurd (omega arith)
inner_some s locals (suc more) lt =
    let e : suc more - 1 ≡ more = omega arith in ap (λ (m : ℕ). Ok (read_body s locals m)) (sym e)

inner_none : (s : Scopes) (locals : Ids) (more : ℕ) → more ≡ 0 → inner_of s locals more ≡ Err TooDeep
unfolding inner_of
inner_none s locals zero e = refl
inner_none s locals (suc more) e = absurd (omega arith)

pub block_deep :
    (s : Scopes) (locals : Ids) (more : ℕ) (labels : Ids) (ts : Tokens) (word : List ℕ) (rest : Tokens)
    → take_word ts ≡ Ok (word, rest) → opens_block word ≡ true → more ≡ 0
    → read_op s locals (inner_of s locals more) labels ts ≡ Err TooDeep
unfolding read_op
block_deep s locals more labels ts word rest h o e = rw (h, o, inner_none s locals more e) refl

pub block_read :
    (s : Scopes) (locals : Ids) (more : ℕ) (labels : Ids) (ts : Tokens) (word : List ℕ) (rest : Tokens)
    → take_word ts ≡ Ok (word, rest) → opens_block word ≡ true → 0 < more
    → read_op s locals (inner_of s locals more) labels ts
    ≡ read_nested s (read_body s locals (more - 1)) word labels rest
unfolding read_op
block_read s locals more labels ts word rest h o lt = rw (h, o, inner_some s locals more lt) refl
