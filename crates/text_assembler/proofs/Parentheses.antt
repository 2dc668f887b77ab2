-- What is read opens as many parentheses as it closes, so that the scan of the declarations passes over it.
use Rattle.std.proofs.Common.{◌≡◌, ℕ, zero, suc, ◌+◌, ◌-◌, ◌==◌, List, [], ◌∷◌, ◌++◌, length, drop, Result, Ok, Err, Option, Some, None, Bool, true, false, if◌then◌else◌, refl, sym, subst, ◌∙◌, codes, bytes_eq, arith}
use Rattle.std.proofs.lemmas.Bool.{ne_eqb}
use Rattle.std.specs.Prelude.{slice_get}
use Rattle.wasm_ast.specs.declared.values.ValType.{ValType}
use Rattle.wasm_ast.specs.declared.values.ValType.TheVariants as type
use Rattle.wasm_ast.specs.declared.instr.Simple.{Simple}
use Rattle.text_assembler.specs.declared.fault.Fault.{Fault}
use Rattle.text_assembler.specs.declared.fault.Fault.TheVariants.{Malformed}
use Rattle.text_assembler.specs.declared.field.Field.{Field}
use Rattle.text_assembler.specs.declared.keyword.Keyword.{Keyword}
use Rattle.text_assembler.specs.declared.keyword.Keyword.TheVariants as keyword
use Rattle.text_assembler.specs.declared.scopes.Scopes.{Scopes}
use Rattle.text_assembler.specs.declared.token.Lexeme.{Lexeme}
use Rattle.text_assembler.specs.declared.token.Lexeme.TheVariants.{Open, Close, Word, Text}
use Rattle.text_assembler.specs.Reading.{Read, ◌>>=◌, need, read_some, read_parts}
use Rattle.text_assembler.specs.Numbers.{given}
use Rattle.text_assembler.specs.Words.{keyword_of}
use Rattle.text_assembler.specs.Names.{Name, Ids, is_id, is_named}
use Rattle.text_assembler.specs.Phrases.{Tokens, skip_close, skip_open, take_word, take_text, begins_word, skip_word, begins_group, skip_group, read_name, begins_id, after_id, read_number, begins_index, read_index, one_index, read_indices, read_val_type, one_type, read_result, read_results, one_nameless, read_bound, read_group, read_bindings, names_of, read_limits}
use Rattle.text_assembler.specs.Instructions.{declare_all, params_of_use, read_type_index, read_use, read_nameless_use, read_call_indirect, read_br_table, digits_after, with_digits, read_option, read_mem_arg, read_const, with_index, read_immediates, read_block_type, skip_label, skip_end, Bodies, read_enclosed, read_else, read_if, opens_block, read_nested, read_simple, read_op, one_op, read_body}
use Rattle.text_assembler.specs.Modules.{read_type, read_imported, read_import, read_func, read_table, read_memory, read_global_type, read_expression, read_global, kind_of, space_of, read_exported, read_export, read_offset, read_element, read_segment, read_defined, read_contents, declare_fields}
use Rattle.text_assembler.proofs.Nesting.{no_ok, ok_inj}
use Rattle.text_assembler.proofs.OpenBlocks.{body_is}
use Rattle.text_assembler.specs.Inside.Bodies.{inner_of}

-- how many parentheses are open where d are open inside a field, and where it is d and one more
abbrev pub opened_at : (inside : Bool) → (d : ℕ) → ℕ
opened_at false d = suc (suc d)
opened_at true d = suc (suc (suc d))

-- the scan goes on from the first tokens to the others
pub record Moves (a b : Bool) (from to : Tokens) : Type 0 where
  pub on : (d : ℕ) (s : Scopes) → declare_fields (opened_at a d) s from ≡ declare_fields (opened_at b d) s to

-- it goes on to what follows what is read
pub record Keeps {X : Type 0} (a b : Bool) (ts : Tokens) (r : Read Lexeme X) : Type 0 where
  pub rest : (y : X × Tokens) → r ≡ Ok y → Moves a b ts y.1

pub record Skips (a b : Bool) (ts : Tokens) (r : Result Tokens Fault) : Type 0 where
  pub rest : (y : Tokens) → r ≡ Ok y → Moves a b ts y

-- ---- how readings are joined

stays : (ts : Tokens) → Moves false false ts ts
stays ts = record { on = λ d s. refl }

trans : {a b c : Bool} {from mid to : Tokens} → Moves a b from mid → Moves b c mid to → Moves a c from to
trans h k = record { on = λ d s. h.on d s ∙ k.on d s }

gives : {X : Type 0} (ts : Tokens) (x : X) → Keeps false false ts (Ok (x, ts))
gives {X} ts x =
    record { rest = λ y e. subst (λ (y : X × Tokens). Moves false false ts y.1) (ok_inj (x, ts) y e) (stays ts) }

moved :
    {X : Type 0} {a b c : Bool} {from mid : Tokens} {r : Read Lexeme X} → Moves a b from mid → Keeps b c mid r
    → Keeps a c from r
moved m k = record { rest = λ y e. trans m (k.rest y e) }

seq :
    {X Y : Type 0} {a b c : Bool} {ts : Tokens} {r : Read Lexeme X} {f : X × Tokens → Read Lexeme Y} → Keeps a b ts r
    → ((x : X × Tokens) → Keeps b c x.1 (f x)) → Keeps a c ts (r >>= f)
seq {r = Ok x} h k = record { rest = λ y e. trans (h.rest x refl) ((k x).rest y e) }
seq {r = Err q} h k = record { rest = λ y e. absurd (no_ok q y e) }

skipped :
    {Y : Type 0} {a b c : Bool} {ts : Tokens} {r : Result Tokens Fault} {f : Tokens → Read Lexeme Y} → Skips a b ts r
    → ((rest : Tokens) → Keeps b c rest (f rest)) → Keeps a c ts (r >>= f)
skipped {r = Ok x} h k = record { rest = λ y e. trans (h.rest x refl) ((k x).rest y e) }
skipped {r = Err q} h k = record { rest = λ y e. absurd (no_ok q y e) }

-- a test or a number in between takes no tokens
plain :
    {X Y : Type 0} {a b : Bool} {ts : Tokens} (r : Result X Fault) {f : X → Read Lexeme Y}
    → ((x : X) → Keeps a b ts (f x)) → Keeps a b ts (r >>= f)
plain (Ok x) k = k x
plain (Err q) k = record { rest = λ y e. absurd (no_ok q y e) }

refused : {X : Type 0} {a b : Bool} {ts : Tokens} (q : Fault) → Keeps {X = X} a b ts (Err q)
refused q = record { rest = λ y e. absurd (no_ok q y e) }

needed :
    {X : Type 0} {a b : Bool} {ts : Tokens} {r : Read Lexeme X} (test : Bool) → Keeps a b ts r
    → Keeps a b ts (need test r)
needed true h = h
needed false h = refused Malformed

branch :
    {X : Type 0} {a b : Bool} {ts : Tokens} {p q : Read Lexeme X} (test : Bool) → Keeps a b ts p → Keeps a b ts q
    → Keeps a b ts (if test then p else q)
branch true h k = h
branch false h k = k

-- inside one parenthesis more
inside : {X : Type 0} {ts : Tokens} {r : Read Lexeme X} → Keeps false false ts r → Keeps true true ts r
inside h = record { rest = λ y e. record { on = λ d s. (h.rest y e).on (suc d) s } }

then_skip :
    {a b c : Bool} {ts : Tokens} {r : Result Tokens Fault} {f : Tokens → Result Tokens Fault} → Skips a b ts r
    → ((rest : Tokens) → Skips b c rest (f rest)) → Skips a c ts (r >>= f)
then_skip {r = Ok x} h k = record { rest = λ y e. trans (h.rest x refl) ((k x).rest y e) }
then_skip {r = Err q} h k = record { rest = λ y e. absurd (no_ok q y e) }

inside_skip : {ts : Tokens} {r : Result Tokens Fault} → Skips false false ts r → Skips true true ts r
inside_skip h = record { rest = λ y e. record { on = λ d s. (h.rest y e).on (suc d) s } }

rests : {a b : Bool} {ts us : Tokens} → Moves a b ts us → Skips a b ts (Ok us)
rests {a} {b} {ts} {us} m = record { rest = λ y e. subst (λ (y : Tokens). Moves a b ts y) (ok_inj us y e) m }

no_rest : {a b : Bool} {ts : Tokens} → Skips a b ts (Err Malformed)
no_rest = record { rest = λ y e. absurd (no_ok Malformed y e) }

skips_if :
    {ts : Tokens} {r : Result Tokens Fault} (test : Bool) → Skips false false ts r → Skips false false ts (need test r)
skips_if true h = h
skips_if false h = no_rest

-- ---- single tokens

after_open : (ts : Tokens) → Moves false true (Open ∷ ts) ts
unfolding declare_fields
after_open ts = record {
  on = λ d s.
      let e : suc (suc d) + 1 ≡ suc (suc (suc d)) = omega arith in
      let f : (suc (suc d) == 1) ≡ false = ne_eqb (suc (suc d)) 1 (λ h. omega (arith, h)) in
      rw (f, e) refl;
}

after_close : (ts : Tokens) → Moves true false (Close ∷ ts) ts
unfolding declare_fields
after_close ts = record { on = λ d s. let e : suc (suc (suc d)) - 1 ≡ suc (suc d) = omega arith in rw e refl }

after_word : (w : List ℕ) (ts : Tokens) → Moves false false (Word w ∷ ts) ts
unfolding declare_fields
after_word w ts = record { on = λ d s. refl }

after_string : (bytes : List ℕ) (ts : Tokens) → Moves false false (Text bytes ∷ ts) ts
unfolding declare_fields
after_string bytes ts = record { on = λ d s. refl }

opens : (ts : Tokens) → Skips false true ts (skip_open ts)
unfolding skip_open
opens [] = no_rest
opens (Open ∷ ts) = rests (after_open ts)
opens (Close ∷ ts) = no_rest
opens (Word w ∷ ts) = no_rest
opens (Text w ∷ ts) = no_rest

closes : (ts : Tokens) → Skips true false ts (skip_close ts)
unfolding skip_close
closes [] = no_rest
closes (Close ∷ ts) = rests (after_close ts)
closes (Open ∷ ts) = no_rest
closes (Word w ∷ ts) = no_rest
closes (Text w ∷ ts) = no_rest

word : (ts : Tokens) → Keeps false false ts (take_word ts)
unfolding take_word
word [] = refused Malformed
word (Open ∷ ts) = refused Malformed
word (Close ∷ ts) = refused Malformed
word (Word w ∷ ts) = moved (after_word w ts) (gives ts w)
word (Text w ∷ ts) = refused Malformed

text : (ts : Tokens) → Keeps false false ts (take_text ts)
unfolding take_text
text [] = refused Malformed
text (Open ∷ ts) = refused Malformed
text (Close ∷ ts) = refused Malformed
text (Word w ∷ ts) = refused Malformed
text (Text w ∷ ts) = moved (after_string w ts) (gives ts w)

this_word : (w : List ℕ) (ts : Tokens) → Skips false false ts (skip_word w ts)
unfolding skip_word begins_word
this_word w [] = no_rest
this_word w (Open ∷ ts) = no_rest
this_word w (Close ∷ ts) = no_rest
this_word w (Word v ∷ ts) = skips_if (bytes_eq v w) (rests (after_word v ts))
this_word w (Text v ∷ ts) = no_rest

group : (w : List ℕ) (ts : Tokens) → Skips false true ts (skip_group w ts)
unfolding skip_group
group w ts = then_skip (opens ts) (λ rest. inside_skip (this_word w rest))

past_id : (ts : Tokens) → Moves false false ts (after_id ts)
unfolding after_id begins_id
past_id [] = stays []
past_id (Open ∷ ts) = stays (Open ∷ ts)
past_id (Close ∷ ts) = stays (Close ∷ ts)
past_id (Text v ∷ ts) = stays (Text v ∷ ts)
past_id (Word w ∷ ts) = either (is_id w)
  where
    either : (b : Bool) → Moves false false (Word w ∷ ts) (if b then drop 1 (Word w ∷ ts) else Word w ∷ ts)
    either true = after_word w ts
    either false = stays (Word w ∷ ts)

-- `( keyword`, what is inside, and `)`
grouped :
    {X Y : Type 0} (w : List ℕ) (make : X × Tokens → Y) {ts : Tokens} {r : Tokens → Read Lexeme X}
    → ((from : Tokens) → Keeps false false from (r from))
    → Keeps false false ts (skip_group w ts >>= λ from. r from >>= λ x. skip_close x.1 >>= λ rest. Ok (make x, rest))
grouped w make {ts = ts} h =
    skipped (group w ts) (λ from. seq (inside (h from)) (λ x. skipped (closes x.1) (λ rest. gives rest (make x))))

-- ---- parts

some :
    {X : Type 0} (ends : Tokens → Bool) (part : Tokens → Read Lexeme (List X))
    → ((ts : Tokens) → Keeps false false ts (part ts)) → (n : ℕ) (ts : Tokens)
    → Keeps false false ts (read_some ends part n ts)
unfolding read_some
some ends part h zero ts = needed (ends ts) (gives ts [])
some ends part h (suc n) ts =
    branch (ends ts) (gives ts [])
    (seq (h ts) (λ x. seq (some ends part h n x.1) (λ xs. gives xs.1 (x.0 ++ xs.0))))

parts :
    {X : Type 0} (ends : Tokens → Bool) {part : Tokens → Read Lexeme (List X)}
    → ((ts : Tokens) → Keeps false false ts (part ts)) → (ts : Tokens) → Keeps false false ts (read_parts ends part ts)
unfolding read_parts
parts ends {part = part} h ts = some ends part h (length ts) ts

-- ---- phrases

name : (ts : Tokens) → Keeps false false ts (read_name ts)
unfolding read_name
name ts = seq (text ts) (λ n. needed _ (gives n.1 n.0))

number : (ts : Tokens) → Keeps false false ts (read_number ts)
unfolding read_number
number ts = seq (word ts) (λ w. plain _ (λ n. gives w.1 n))

index : (ids : Ids) (ts : Tokens) → Keeps false false ts (read_index ids ts)
unfolding read_index
index ids ts = seq (word ts) (λ w. plain _ (λ n. gives w.1 n))

indices : (ids : Ids) (ts : Tokens) → Keeps false false ts (read_indices ids ts)
unfolding read_indices one_index
indices ids ts = parts _ (λ ts. seq (index ids ts) (λ n. gives n.1 (n.0 ∷ []))) ts

val_type : (ts : Tokens) → Keeps false false ts (read_val_type ts)
unfolding read_val_type
val_type ts = seq (word ts) (λ w. plain _ (λ t. gives w.1 t))

a_result : (ts : Tokens) → Keeps false false ts (read_result ts)
unfolding read_result one_type
a_result ts = grouped _ _ (λ from. parts _ (λ ts. seq (val_type ts) (λ t. gives t.1 (t.0 ∷ []))) from)

results : (ts : Tokens) → Keeps false false ts (read_results ts)
unfolding read_results
results ts = parts _ a_result ts

bound : (ts : Tokens) → Keeps false false ts (read_bound ts)
unfolding read_bound one_nameless
bound ts =
    branch (begins_id ts) (moved (past_id ts) (seq (val_type (after_id ts)) (λ t. gives t.1 _)))
    (parts _ (λ ts. seq (val_type ts) (λ t. gives t.1 _)) ts)

a_binding : (w : List ℕ) (ts : Tokens) → Keeps false false ts (read_group w ts)
unfolding read_group
a_binding w ts = grouped _ _ bound

bindings : (w : List ℕ) (ts : Tokens) → Keeps false false ts (read_bindings w ts)
unfolding read_bindings
bindings w ts = parts _ (a_binding w) ts

limits : (ts : Tokens) → Keeps false false ts (read_limits ts)
unfolding read_limits
limits ts =
    seq (number ts) (λ min. branch (begins_index min.1) (seq (number min.1) (λ max. gives max.1 _)) (gives min.1 _))

-- ---- uses of types

type_index : (s : Scopes) (ts : Tokens) → Keeps false false ts (read_type_index s ts)
unfolding read_type_index
type_index s ts = grouped _ _ (index s.types)

use_of : (s : Scopes) (ts : Tokens) → Keeps false false ts (read_use s ts)
unfolding read_use
use_of s ts =
    seq (type_index s ts) (λ i. seq (bindings (codes "param") i.1) (λ params.
    seq (results params.1) (λ rs. plain (given (slice_get s.signatures i.0)) (λ t.
    plain (params_of_use t params.0 rs.0) (λ names. gives rs.1 (i.0, names))))))

nameless_use : (s : Scopes) (ts : Tokens) → Keeps false false ts (read_nameless_use s ts)
unfolding read_nameless_use
nameless_use s ts = seq (use_of s ts) (λ u. needed _ (gives u.1 u.0.0))

-- ---- instructions without a body

option_by : (b : Bool) (w digits : List ℕ) (other : ℕ) (ts : Tokens)
    → Keeps false false (Word w ∷ ts) (with_digits (if b then Some (digits, ts) else None) other (Word w ∷ ts))
unfolding with_digits
option_by true w digits other ts = moved (after_word w ts) (plain _ (λ n. gives ts n))
option_by false w digits other ts = gives (Word w ∷ ts) other

option : (prefix : List ℕ) (other : ℕ) (ts : Tokens) → Keeps false false ts (read_option prefix other ts)
unfolding read_option digits_after with_digits
option prefix other [] = gives [] other
option prefix other (Open ∷ ts) = gives (Open ∷ ts) other
option prefix other (Close ∷ ts) = gives (Close ∷ ts) other
option prefix other (Text v ∷ ts) = gives (Text v ∷ ts) other
option prefix other (Word w ∷ ts) = option_by _ w _ other ts

mem_arg : (natural : ℕ) (ts : Tokens) → Keeps false false ts (read_mem_arg natural ts)
unfolding read_mem_arg
mem_arg natural ts =
    seq (option (codes "offset=") 0 ts) (λ offset.
    seq (option (codes "align=") natural offset.1) (λ align. plain _ (λ exponent. gives align.1 _)))

a_const : (t : ValType) (ts : Tokens) → Keeps false false ts (read_const t ts)
unfolding read_const
a_const type.I32 ts = seq (word ts) (λ w. plain _ (λ n. gives w.1 _))
a_const type.I64 ts = seq (word ts) (λ w. plain _ (λ n. gives w.1 _))

indexed : (ids : Ids) (make : ℕ → Simple) (ts : Tokens) → Keeps false false ts (with_index ids make ts)
unfolding with_index
indexed ids make ts = seq (index ids ts) (λ n. gives n.1 (make n.0))

immediates :
    (s : Scopes) (locals labels : Ids) (k : Keyword) (ts : Tokens)
    → Keeps false false ts (read_immediates s locals labels k ts)
unfolding read_immediates read_call_indirect read_br_table
immediates s locals labels keyword.Unreachable ts = gives ts _
immediates s locals labels keyword.Nop ts = gives ts _
immediates s locals labels keyword.Br ts = indexed labels _ ts
immediates s locals labels keyword.BrIf ts = indexed labels _ ts
immediates s locals labels keyword.BrTable ts = seq (indices labels ts) (λ all. plain _ (λ l. gives all.1 _))
immediates s locals labels keyword.Return ts = gives ts _
immediates s locals labels keyword.Call ts = indexed s.funcs _ ts
immediates s locals labels keyword.CallIndirect ts = seq (nameless_use s ts) (λ i. gives i.1 _)
immediates s locals labels keyword.Drop ts = gives ts _
immediates s locals labels keyword.Select ts = gives ts _
immediates s locals labels keyword.MemorySize ts = gives ts _
immediates s locals labels keyword.MemoryGrow ts = gives ts _
immediates s locals labels (keyword.Local op) ts = indexed locals _ ts
immediates s locals labels (keyword.Global op) ts = indexed s.globals _ ts
immediates s locals labels (keyword.Load op) ts = seq (mem_arg _ ts) (λ at. gives at.1 _)
immediates s locals labels (keyword.Store op) ts = seq (mem_arg _ ts) (λ at. gives at.1 _)
immediates s locals labels (keyword.Const t) ts = a_const t ts
immediates s locals labels (keyword.Unary t op) ts = gives ts _
immediates s locals labels (keyword.Binary t op) ts = gives ts _
immediates s locals labels (keyword.Test t op) ts = gives ts _
immediates s locals labels (keyword.Compare t op) ts = gives ts _
immediates s locals labels (keyword.Convert op) ts = gives ts _

-- ---- blocks

block_type : (s : Scopes) (ts : Tokens) → Keeps false false ts (read_block_type s ts)
unfolding read_block_type
block_type s ts =
    branch (begins_group (codes "type") ts) (seq (nameless_use s ts) (λ i. gives i.1 _))
    (branch (begins_group (codes "result") ts) (grouped _ _ val_type) (gives ts _))

same_label : (label : Option Name) (ts : Tokens) → Skips false false ts (skip_label label ts)
unfolding skip_label
same_label label [] = rests (stays [])
same_label label (Open ∷ ts) = rests (stays (Open ∷ ts))
same_label label (Close ∷ ts) = rests (stays (Close ∷ ts))
same_label label (Text v ∷ ts) = rests (stays (Text v ∷ ts))
same_label label (Word w ∷ ts) = either (is_id w)
  where
    either :
        (b : Bool)
        → Skips false false (Word w ∷ ts) (if b then need (is_named w label) (Ok ts) else Ok (Word w ∷ ts))
    either true = skips_if (is_named w label) (rests (after_word w ts))
    either false = rests (stays (Word w ∷ ts))

an_end : (label : Option Name) (ts : Tokens) → Skips false false ts (skip_end label ts)
unfolding skip_end
an_end label ts = then_skip (this_word (codes "end") ts) (same_label label)

abbrev pub BodiesKeep : Bodies → Type 0
BodiesKeep bodies = (labels : Ids) (ts : Tokens) → Keeps false false ts (bodies labels ts)

enclosed :
    (s : Scopes) (bodies : Bodies) → BodiesKeep bodies → (labels : Ids) (ts : Tokens)
    → Keeps false false ts (read_enclosed s bodies labels ts)
unfolding read_enclosed
enclosed s bodies h labels ts =
    moved (past_id ts) (seq (block_type s (after_id ts)) (λ t. seq (h _ t.1) (λ body.
    skipped (an_end _ body.1) (λ rest. gives rest _))))

else_arm :
    (bodies : Bodies) → BodiesKeep bodies → (label : Option Name) (labels : Ids) (ts : Tokens)
    → Keeps false false ts (read_else bodies label labels ts)
unfolding read_else
else_arm bodies h label labels ts =
    branch (begins_word (codes "else") ts)
    (skipped (this_word (codes "else") ts) (λ from. skipped (same_label label from) (h labels))) (gives ts [])

an_if :
    (s : Scopes) (bodies : Bodies) → BodiesKeep bodies → (labels : Ids) (ts : Tokens)
    → Keeps false false ts (read_if s bodies labels ts)
unfolding read_if
an_if s bodies h labels ts =
    moved (past_id ts) (seq (block_type s (after_id ts)) (λ t. seq (h _ t.1) (λ p.
    seq (else_arm bodies h _ _ p.1) (λ q. skipped (an_end _ q.1) (λ rest. gives rest _)))))

nested :
    (s : Scopes) (bodies : Bodies) → BodiesKeep bodies → (w : List ℕ) (labels : Ids) (ts : Tokens)
    → Keeps false false ts (read_nested s bodies w labels ts)
unfolding read_nested
nested s bodies h w labels ts =
    branch (bytes_eq w (codes "if")) (an_if s bodies h labels ts)
    (seq (enclosed s bodies h labels ts) (λ x. gives x.1 _))

abbrev pub InnerKeeps : Result Bodies Fault → Type 0
InnerKeeps (Ok bodies) = BodiesKeep bodies
InnerKeeps (Err q) = Unit {0}

opened :
    (s : Scopes) (inner : Result Bodies Fault) → InnerKeeps inner → (w : List ℕ) (labels : Ids) (ts : Tokens)
    → Keeps false false ts (inner >>= λ bodies. read_nested s bodies w labels ts)
opened s (Ok bodies) h w labels ts = nested s bodies h w labels ts
opened s (Err q) h w labels ts = refused q

an_op :
    (s : Scopes) (locals : Ids) (inner : Result Bodies Fault) → InnerKeeps inner → (labels : Ids) (ts : Tokens)
    → Keeps false false ts (one_op s locals inner labels ts)
unfolding one_op read_op read_simple
an_op s locals inner h labels ts =
    seq (seq (word ts) (λ w. branch (opens_block w.0) (opened s inner h w.0 labels w.1)
    (plain (given (keyword_of w.0)) (λ k. seq (immediates s locals labels k w.1) (λ i. gives i.1 _)))))
    (λ o. gives o.1 (o.0 ∷ []))

body_by : (s : Scopes) (locals : Ids) (more : ℕ) → InnerKeeps (inner_of s locals more)
    → BodiesKeep (read_body s locals more)
body_by s locals more h labels ts =
    subst (Keeps false false ts) (sym (body_is s locals more labels ts)) (parts _ (an_op s locals _ h labels) ts)

body : (s : Scopes) (locals : Ids) (more : ℕ) → BodiesKeep (read_body s locals more)
unfolding inner_of
body s locals zero = body_by s locals zero tt
body s locals (suc more) = body_by s locals (suc more) (body s locals more)

-- ---- fields

a_type : (ts : Tokens) → Keeps false false ts (read_type ts)
unfolding read_type
a_type ts =
    moved (past_id ts) (skipped (group (codes "func") (after_id ts)) (λ from.
    seq (inside (bindings (codes "param") from)) (λ params. seq (inside (results params.1)) (λ rs.
    skipped (closes rs.1) (λ rest. gives rest _)))))

imported : (ts : Tokens) → Keeps false true ts (read_imported ts)
unfolding read_imported
imported ts =
    seq (name ts) (λ owner. seq (name owner.1) (λ n. skipped (group (codes "func") n.1) (λ rest.
    inside (gives rest _))))

an_import : (s : Scopes) (ts : Tokens) → Keeps false false ts (read_import s ts)
unfolding read_import
an_import s ts =
    seq (imported ts) (λ names. seq (inside (moved (past_id names.1) (use_of s (after_id names.1)))) (λ used.
    skipped (closes used.1) (λ rest. gives rest _)))

a_func : (nesting : ℕ) (s : Scopes) (ts : Tokens) → Keeps false false ts (read_func nesting s ts)
unfolding read_func
a_func nesting s ts =
    moved (past_id ts) (seq (use_of s (after_id ts)) (λ used. seq (bindings (codes "local") used.1) (λ locals.
    plain (declare_all used.0.1 (names_of locals.0)) (λ ids. seq (body s ids nesting [] locals.1) (λ b. gives b.1 _)))))

a_table : (ts : Tokens) → Keeps false false ts (read_table ts)
unfolding read_table
a_table ts =
    moved (past_id ts) (seq (limits (after_id ts)) (λ l. skipped (this_word (codes "funcref") l.1) (λ rest.
    gives rest l.0)))

a_memory : (ts : Tokens) → Keeps false false ts (read_memory ts)
unfolding read_memory
a_memory ts = moved (past_id ts) (limits (after_id ts))

global_type : (ts : Tokens) → Keeps false false ts (read_global_type ts)
unfolding read_global_type
global_type ts =
    branch (begins_group (codes "mut") ts) (grouped _ _ val_type) (seq (val_type ts) (λ t. gives t.1 _))

expression : (nesting : ℕ) (s : Scopes) (ts : Tokens) → Keeps false false ts (read_expression nesting s ts)
unfolding read_expression
expression nesting s ts = seq (body s [] nesting [] ts) (λ os. gives os.1 _)

a_global : (nesting : ℕ) (s : Scopes) (ts : Tokens) → Keeps false false ts (read_global nesting s ts)
unfolding read_global
a_global nesting s ts =
    moved (past_id ts) (seq (global_type (after_id ts)) (λ t. seq (expression nesting s t.1) (λ init. gives init.1 _)))

exported : (s : Scopes) (ts : Tokens) → Keeps false false ts (read_exported s ts)
unfolding read_exported
exported s ts =
    skipped (opens ts) (λ from. seq (inside (word from)) (λ w. plain (kind_of w.0) (λ kind.
    seq (inside (index (space_of s kind) w.1)) (λ i. skipped (closes i.1) (λ rest. gives rest _)))))

an_export : (s : Scopes) (ts : Tokens) → Keeps false false ts (read_export s ts)
unfolding read_export
an_export s ts = seq (name ts) (λ n. seq (exported s n.1) (λ item. gives item.1 _))

offset : (nesting : ℕ) (s : Scopes) (ts : Tokens) → Keeps false false ts (read_offset nesting s ts)
unfolding read_offset
offset nesting s ts = grouped _ _ (expression nesting s)

an_element : (nesting : ℕ) (s : Scopes) (ts : Tokens) → Keeps false false ts (read_element nesting s ts)
unfolding read_element
an_element nesting s ts = seq (offset nesting s ts) (λ o. seq (indices s.funcs o.1) (λ fs. gives fs.1 _))

a_segment : (nesting : ℕ) (s : Scopes) (ts : Tokens) → Keeps false false ts (read_segment nesting s ts)
unfolding read_segment
a_segment nesting s ts = seq (offset nesting s ts) (λ o. seq (parts _ text o.1) (λ bytes. gives bytes.1 _))

defined :
    (nesting : ℕ) (s : Scopes) (w : List ℕ) (ts : Tokens) → Keeps false false ts (read_defined nesting s w ts)
unfolding read_defined
defined nesting s w ts =
    branch (bytes_eq w (codes "func")) (seq (a_func nesting s ts) (λ f. gives f.1 _))
    (branch (bytes_eq w (codes "table")) (seq (a_table ts) (λ t. gives t.1 _))
    (branch (bytes_eq w (codes "memory")) (seq (a_memory ts) (λ m. gives m.1 _))
    (needed (bytes_eq w (codes "global")) (seq (a_global nesting s ts) (λ g. gives g.1 _)))))

contents :
    (nesting : ℕ) (s : Scopes) (w : List ℕ) (ts : Tokens) → Keeps false false ts (read_contents nesting s w ts)
unfolding read_contents
contents nesting s w ts =
    branch (bytes_eq w (codes "type")) (seq (a_type ts) (λ t. gives t.1 _))
    (branch (bytes_eq w (codes "import")) (seq (an_import s ts) (λ i. gives i.1 _))
    (branch (bytes_eq w (codes "export")) (seq (an_export s ts) (λ e. gives e.1 _))
    (branch (bytes_eq w (codes "start")) (seq (index s.funcs ts) (λ f. gives f.1 _))
    (branch (bytes_eq w (codes "elem")) (seq (an_element nesting s ts) (λ e. gives e.1 _))
    (branch (bytes_eq w (codes "data")) (seq (a_segment nesting s ts) (λ d. gives d.1 _))
    (defined nesting s w ts))))))

-- in a field the scan passes over what the field's keyword is followed by
pub passes :
    (nesting : ℕ) (s : Scopes) (w : List ℕ) (ts : Tokens) (x : Field × Tokens)
    → read_contents nesting s w ts ≡ Ok x → (more : Scopes) → declare_fields 2 more ts ≡ declare_fields 2 more x.1
passes nesting s w ts x e more = ((contents nesting s w ts).rest x e).on 0 more
