-- What is read where more blocks may be open is the same, unless fewer are not enough; and then what is read has more
-- open blocks than those.
use Rattle.std.proofs.Common.{◌≡◌, ℕ, zero, suc, ◌≤◌, ◌<◌, List, [], ◌∷◌, ◌++◌, length, Result, Ok, Err, Bool, true, false, ◌⊎◌, inl, inr, if◌then◌else◌, bytes_eq, refl, ap, subst, codes, Option, arith}
use Rattle.wasm_ast.specs.declared.instr.BlockType.{BlockType}
use Rattle.wasm_ast.specs.Syntax.{Op, block, loop, if', Ops, ops_of}
use Rattle.wasm_ast.specs.Limits.{depth, ops_depth}
use Rattle.text_assembler.specs.declared.fault.Fault.{Fault}
use Rattle.text_assembler.specs.declared.fault.Fault.TheVariants.{TooDeep}
use Rattle.text_assembler.specs.declared.scopes.Scopes.{Scopes}
use Rattle.text_assembler.specs.declared.token.Lexeme.{Lexeme}
use Rattle.text_assembler.specs.Reading.{Read, ◌>>=◌, read_some, read_parts}
use Rattle.text_assembler.specs.Names.{Ids, Name}
use Rattle.text_assembler.specs.Phrases.{Tokens, take_word, id_of, after_id, begins_word, skip_word}
use Rattle.text_assembler.specs.Instructions.{Bodies, read_block_type, skip_label, skip_end, read_enclosed, read_else, read_if, opens_block, read_nested, read_op, one_op, is_end, read_body}
use Rattle.text_assembler.specs.Inside.Bodies.{inner_of}
use Rattle.text_assembler.proofs.OpenBlocks.{body_is}

-- ---- two readings that agree, unless the first is too deep

abbrev pub Agrees : {A : Type 0} → (A → Type 0) → Result A Fault → Result A Fault → Type 0
Agrees {A} D less more = (less ≡ more) ⊎ ((less ≡ Err TooDeep) × ((x : A) → more ≡ Ok x → D x))

IsErr : {A : Type 0} → Result A Fault → Type 0
IsErr (Ok x) = ⊥
IsErr (Err f) = Unit {0}

value_or : {A : Type 0} → A → Result A Fault → A
value_or d (Ok x) = x
value_or d (Err f) = d

pub ok_inj : {A : Type 0} (x y : A) → ◌≡◌ {A = Result A Fault} (Ok x) (Ok y) → x ≡ y
unfolding value_or
ok_inj {A} x y e = ap (λ (r : Result A Fault). value_or y r) e

pub no_ok : {A : Type 0} (f : Fault) (x : A) → Err f ≡ Ok x → ⊥
unfolding IsErr
no_ok {A} f x e = subst (λ (r : Result A Fault). IsErr r) e tt

pub agrees_after :
    {A B : Type 0} (E : B → Type 0) (r : Result A Fault) (f g : A → Result B Fault) → ((x : A) → Agrees E (f x) (g x))
    → Agrees E (r >>= f) (r >>= g)
agrees_after E (Ok x) f g h = h x
agrees_after E (Err q) f g h = inl refl

pub agrees_bind :
    {A B : Type 0} (D : A → Type 0) (E : B → Type 0) (less more : Result A Fault) (f g : A → Result B Fault)
    → Agrees D less more → ((x : A) → Agrees E (f x) (g x))
    → ((x : A) (y : B) → D x → g x ≡ Ok y → E y) → Agrees E (less >>= f) (more >>= g)
agrees_bind D E less (Ok x) f g (inl e) h d = rw e (h x)
agrees_bind D E less (Ok x) f g (inr p) h d = inr (rw p.0 refl, λ y e. d x y (p.1 x refl) e)
agrees_bind D E less (Err q) f g (inl e) h d = inl (rw e refl)
agrees_bind D E less (Err q) f g (inr p) h d = inr (rw p.0 refl, λ y e. absurd (no_ok q y e))

pub after :
    {A B : Type 0} (E : B → Type 0) (r : Result A Fault) (g : A → B) → ((a : A) → E (g a)) → (y : B)
    → (r >>= λ a. Ok (g a)) ≡ Ok y → E y
after E (Ok a) g h y e = subst E (ok_inj (g a) y e) (h a)
after E (Err q) g h y e = absurd (no_ok q y e)

pub choose :
    {A : Type 0} (D : A → Type 0) (b : Bool) (first less more : Result A Fault) → Agrees D less more
    → Agrees D (if b then first else less) (if b then first else more)
choose D true first less more h = inl refl
choose D false first less more h = h

pub branch :
    {A : Type 0} (D : A → Type 0) (b : Bool) (p q less more : Result A Fault) → Agrees D p q → Agrees D less more
    → Agrees D (if b then p else less) (if b then q else more)
branch D true p q less more h k = h
branch D false p q less more h k = k

-- ---- how deep

depth_left : (xs ys : List Op) → ops_depth (ops_of xs) ≤ ops_depth (ops_of (xs ++ ys))
depth_left [] ys = omega arith
depth_left (x ∷ xs) ys = omega (arith, depth_left xs ys)

depth_right : (xs ys : List Op) → ops_depth (ops_of ys) ≤ ops_depth (ops_of (xs ++ ys))
depth_right [] ys = omega arith
depth_right (x ∷ xs) ys = omega (arith, depth_right xs ys)

abbrev pub Deep : ℕ → List Op × Tokens → Type 0
Deep k x = k < ops_depth (ops_of x.0)

abbrev pub DeepOp : ℕ → Op × Tokens → Type 0
DeepOp k x = k < depth x.0

-- ---- parts

pub agrees_some :
    (k : ℕ) (ends : Tokens → Bool) (p q : Tokens → Read Lexeme (List Op))
    → ((ts : Tokens) → Agrees (Deep k) (p ts) (q ts))
    → (n : ℕ) (ts : Tokens) → Agrees (Deep k) (read_some ends p n ts) (read_some ends q n ts)
unfolding read_some
agrees_some k ends p q h zero ts = inl refl
agrees_some k ends p q h (suc n) ts =
    choose (Deep k) (ends ts) _ _ _ (agrees_bind (Deep k) (Deep k) (p ts) (q ts) _ _ (h ts)
    (λ x. agrees_bind (Deep k) (Deep k) (read_some ends p n x.1) (read_some ends q n x.1) _ _
    (agrees_some k ends p q h n x.1) (λ xs. inl refl)
    (λ xs y d e. subst (Deep k) (ok_inj (x.0 ++ xs.0, xs.1) y e) (omega (arith, d, depth_right x.0 xs.0))))
    (λ x y d e. after (Deep k) (read_some ends q n x.1) (λ xs. (x.0 ++ xs.0, xs.1))
    (λ xs. omega (arith, d, depth_left x.0 xs.0)) y e))

-- ---- blocks

abbrev pub BodiesAgree : ℕ → Bodies → Bodies → Type 0
BodiesAgree k b c = (labels : Ids) (ts : Tokens) → Agrees (Deep k) (b labels ts) (c labels ts)

agrees_enclosed :
    (s : Scopes) (k : ℕ) (b c : Bodies) → BodiesAgree k b c → (labels : Ids) (ts : Tokens)
    → Agrees (λ x. k < ops_depth x.0.1) (read_enclosed s b labels ts) (read_enclosed s c labels ts)
unfolding read_enclosed
agrees_enclosed s k b c h labels ts =
    agrees_after (λ x. k < ops_depth x.0.1) (read_block_type s (after_id ts)) _ _
    (λ t. agrees_bind (Deep k) (λ x. k < ops_depth x.0.1) (b (id_of ts ∷ labels) t.1) (c (id_of ts ∷ labels) t.1) _ _
    (h (id_of ts ∷ labels) t.1) (λ body. inl refl)
    (λ body y d e. after (λ x. k < ops_depth x.0.1) (skip_end (id_of ts) body.1) (λ rest. ((t.0, ops_of body.0), rest))
    (λ rest. d) y e))

agrees_else :
    (k : ℕ) (b c : Bodies) → BodiesAgree k b c → (label : Option Name) (labels : Ids) (ts : Tokens)
    → Agrees (Deep k) (read_else b label labels ts) (read_else c label labels ts)
unfolding read_else
agrees_else k b c h label labels ts =
    branch (Deep k) (begins_word (codes "else") ts) _ _ _ _
    (agrees_after (Deep k) (skip_word (codes "else") ts) _ _
    (λ from. agrees_after (Deep k) (skip_label label from) _ _ (λ start. h labels start)))
    (inl refl)

agrees_if :
    (s : Scopes) (k : ℕ) (b c : Bodies) → BodiesAgree k b c → (labels : Ids) (ts : Tokens)
    → Agrees (DeepOp (suc k)) (read_if s b labels ts) (read_if s c labels ts)
unfolding read_if
agrees_if s k b c h labels ts =
    agrees_after (DeepOp (suc k)) (read_block_type s (after_id ts)) _ _
    (λ t. agrees_bind (Deep k) (DeepOp (suc k)) (b (id_of ts ∷ labels) t.1) (c (id_of ts ∷ labels) t.1) _ _
    (h (id_of ts ∷ labels) t.1)
    (λ p. agrees_bind (Deep k) (DeepOp (suc k)) (read_else b (id_of ts) (id_of ts ∷ labels) p.1)
    (read_else c (id_of ts) (id_of ts ∷ labels) p.1) _ _
    (agrees_else k b c h (id_of ts) (id_of ts ∷ labels) p.1) (λ q. inl refl)
    (λ q y d e. after (DeepOp (suc k)) (skip_end (id_of ts) q.1) (λ rest. (if' t.0 (ops_of p.0) (ops_of q.0), rest))
    (λ rest. omega (arith, d)) y e))
    (λ p y d e. into_else k c p (id_of ts) labels t.0 y d (read_else c (id_of ts) (id_of ts ∷ labels) p.1) e))
  where
    into_else :
        (k : ℕ) (c : Bodies) (p : List Op × Tokens) (label : Option Name) (labels : Ids) (t : BlockType)
        (y : Op × Tokens) → Deep k p → (r : Read Lexeme (List Op))
        → (r >>= λ q. skip_end label q.1 >>= λ rest. Ok (if' t (ops_of p.0) (ops_of q.0), rest)) ≡ Ok y
        → DeepOp (suc k) y
    into_else k c p label labels t y d (Ok q) e =
        after (DeepOp (suc k)) (skip_end label q.1) (λ rest. (if' t (ops_of p.0) (ops_of q.0), rest))
        (λ rest. omega (arith, d)) y e
    into_else k c p label labels t y d (Err f) e = absurd (no_ok f y e)

block_or_loop :
    (b : Bool) (k : ℕ) (t : BlockType) (body : Ops) → k < ops_depth body
    → suc k < depth (if b then block t body else loop t body)
block_or_loop true k t body d = omega (arith, d)
block_or_loop false k t body d = omega (arith, d)

agrees_nested :
    (s : Scopes) (k : ℕ) (b c : Bodies) → BodiesAgree k b c → (word : List ℕ) (labels : Ids) (ts : Tokens)
    → Agrees (DeepOp (suc k)) (read_nested s b word labels ts) (read_nested s c word labels ts)
unfolding read_nested
agrees_nested s k b c h word labels ts =
    branch (DeepOp (suc k)) (bytes_eq word (codes "if")) _ _ _ _ (agrees_if s k b c h labels ts)
    (agrees_bind (λ x. k < ops_depth x.0.1) (DeepOp (suc k)) (read_enclosed s b labels ts)
    (read_enclosed s c labels ts) _ _
    (agrees_enclosed s k b c h labels ts) (λ x. inl refl)
    (λ x y d e. subst (DeepOp (suc k)) (ok_inj _ y e) (block_or_loop (bytes_eq word (codes "block")) k x.0.0 x.0.1 d)))

-- ---- what holds of all that is read

abbrev pub Always : {A : Type 0} → (A → Type 0) → Result A Fault → Type 0
Always {A} E r = (y : A) → r ≡ Ok y → E y

always_after :
    {A B : Type 0} (E : B → Type 0) (r : Result A Fault) (f : A → Result B Fault) → ((x : A) → Always E (f x))
    → Always E (r >>= f)
always_after E (Ok x) f h y e = h x y e
always_after E (Err q) f h y e = absurd (no_ok q y e)

always_ok : {A : Type 0} (E : A → Type 0) (x : A) → E x → Always E (Ok x)
always_ok E x h y e = subst E (ok_inj x y e) h

always_branch :
    {A : Type 0} (E : A → Type 0) (b : Bool) (p q : Result A Fault) → Always E p → Always E q
    → Always E (if b then p else q)
always_branch E true p q h k = h
always_branch E false p q h k = k

block_is_deep : (b : Bool) (t : BlockType) (body : Ops) → 0 < depth (if b then block t body else loop t body)
block_is_deep true t body = omega arith
block_is_deep false t body = omega arith

-- a block opens where none may: what is read there is one
if_is_deep : (s : Scopes) (c : Bodies) (labels : Ids) (ts : Tokens) → Always (DeepOp 0) (read_if s c labels ts)
unfolding read_if
if_is_deep s c labels ts =
    always_after (DeepOp 0) (read_block_type s (after_id ts)) _ (λ t.
    always_after (DeepOp 0) (c (id_of ts ∷ labels) t.1) _ (λ p.
    always_after (DeepOp 0) (read_else c (id_of ts) (id_of ts ∷ labels) p.1) _ (λ q.
    always_after (DeepOp 0) (skip_end (id_of ts) q.1) _ (λ rest.
    always_ok (DeepOp 0) (if' t.0 (ops_of p.0) (ops_of q.0), rest) (omega arith)))))

nested_is_deep :
    (s : Scopes) (c : Bodies) (word : List ℕ) (labels : Ids) (ts : Tokens)
    → Always (DeepOp 0) (read_nested s c word labels ts)
unfolding read_nested
nested_is_deep s c word labels ts =
    always_branch (DeepOp 0) (bytes_eq word (codes "if")) _ _ (if_is_deep s c labels ts)
    (always_after (DeepOp 0) (read_enclosed s c labels ts) _ (λ x.
    always_ok (DeepOp 0) (if bytes_eq word (codes "block") then block x.0.0 x.0.1 else loop x.0.0 x.0.1, x.1)
    (block_is_deep (bytes_eq word (codes "block")) x.0.0 x.0.1)))

-- ---- instructions and bodies

-- bodies that are read where k blocks may be open, and where more may be
abbrev pub InnersAgree : ℕ → Result Bodies Fault → Result Bodies Fault → Type 0
InnersAgree zero less more = less ≡ Err TooDeep
InnersAgree (suc k) (Ok b) (Ok c) = BodiesAgree k b c
InnersAgree (suc k) less more = ⊥

agrees_opened :
    (s : Scopes) (k : ℕ) (less more : Result Bodies Fault) → InnersAgree k less more
    → (word : List ℕ) (labels : Ids) (ts : Tokens)
    → Agrees (DeepOp k) (less >>= λ bodies. read_nested s bodies word labels ts)
    (more >>= λ bodies. read_nested s bodies word labels ts)
agrees_opened s zero less more h word labels ts =
    inr (rw h refl, always_after (DeepOp 0) more _ (λ c. nested_is_deep s c word labels ts))
agrees_opened s (suc k) (Ok b) (Ok c) h word labels ts = agrees_nested s k b c h word labels ts
agrees_opened s (suc k) (Ok b) (Err f) h word labels ts = absurd h
agrees_opened s (suc k) (Err f) (Ok c) h word labels ts = absurd h
agrees_opened s (suc k) (Err f) (Err g) h word labels ts = absurd h

agrees_op :
    (s : Scopes) (locals : Ids) (k : ℕ) (less more : Result Bodies Fault) → InnersAgree k less more
    → (labels : Ids) (ts : Tokens)
    → Agrees (DeepOp k) (read_op s locals less labels ts) (read_op s locals more labels ts)
unfolding read_op
agrees_op s locals k less more h labels ts =
    agrees_after (DeepOp k) (take_word ts) _ _ (λ w.
    branch (DeepOp k) (opens_block w.0) _ _ _ _ (agrees_opened s k less more h w.0 labels w.1) (inl refl))

agrees_one :
    (s : Scopes) (locals : Ids) (k : ℕ) (less more : Result Bodies Fault) → InnersAgree k less more
    → (labels : Ids) (ts : Tokens)
    → Agrees (Deep k) (one_op s locals less labels ts) (one_op s locals more labels ts)
unfolding one_op
agrees_one s locals k less more h labels ts =
    agrees_bind (DeepOp k) (Deep k) (read_op s locals less labels ts) (read_op s locals more labels ts) _ _
    (agrees_op s locals k less more h labels ts) (λ o. inl refl)
    (λ o y d e. subst (Deep k) (ok_inj (o.0 ∷ [], o.1) y e) (omega (arith, d)))

body_by :
    (s : Scopes) (locals : Ids) (k n : ℕ) → InnersAgree k (inner_of s locals k) (inner_of s locals n)
    → BodiesAgree k (read_body s locals k) (read_body s locals n)
unfolding read_parts
body_by s locals k n h labels ts =
    rw (body_is s locals k labels ts, body_is s locals n labels ts)
    (agrees_some k is_end (one_op s locals (inner_of s locals k) labels) (one_op s locals (inner_of s locals n) labels)
    (agrees_one s locals k (inner_of s locals k) (inner_of s locals n) h labels) (length ts) ts)

pub bodies_agree :
    (s : Scopes) (locals : Ids) (k n : ℕ) → k ≤ n → BodiesAgree k (read_body s locals k) (read_body s locals n)
unfolding inner_of
bodies_agree s locals zero n le = body_by s locals zero n refl
bodies_agree s locals (suc k) zero le = absurd (omega arith)
bodies_agree s locals (suc k) (suc n) le = body_by s locals (suc k) (suc n) (bodies_agree s locals k n (omega arith))
