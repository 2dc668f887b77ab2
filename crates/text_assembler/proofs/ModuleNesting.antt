-- Modules that are read where more blocks may be open are the same, unless fewer are not enough.
use Rattle.std.proofs.Common.{ℕ, zero, suc, ◌≤◌, ◌<◌, max, List, [], ◌∷◌, ◌++◌, length, Result, Ok, Err, Bool, true, false, inl, if◌then◌else◌, codes, is_none, bytes_eq, refl, subst, arith, ◌==◌}
use Rattle.wasm_ast.specs.declared.module.Global as declared_global
use Rattle.wasm_ast.specs.declared.module.Element.{Element}
use Rattle.wasm_ast.specs.declared.module.Segment.{Segment}
use Rattle.wasm_ast.specs.declared.module.Func.{Func}
use Rattle.wasm_ast.specs.declared.module.Module.{Module}
use Rattle.wasm_ast.specs.Syntax.{Ops, ops_of}
use Rattle.wasm_ast.specs.Limits.{ops_depth}
use Rattle.text_assembler.specs.declared.fault.Fault.{Fault}
use Rattle.text_assembler.specs.declared.fault.Fault.TheVariants.{Malformed}
use Rattle.text_assembler.specs.declared.field.Field.{Field}
use Rattle.text_assembler.specs.declared.field.Field.TheVariants as field
use Rattle.text_assembler.specs.declared.scopes.Scopes.{Scopes}
use Rattle.text_assembler.specs.declared.token.Lexeme.{Lexeme}
use Rattle.text_assembler.specs.Reading.{Read, ◌>>=◌, need, read_parts}
use Rattle.text_assembler.specs.Tokens.{tokens_of}
use Rattle.text_assembler.specs.Phrases.{Tokens, is_close, skip_close, skip_open, take_word, take_text, skip_group, after_id, read_indices, read_bindings, names_of, types_of}
use Rattle.text_assembler.specs.Instructions.{declare_all, read_use, read_body}
use Rattle.text_assembler.specs.Modules.{read_func, read_global_type, read_expression, read_global, read_offset, read_element, read_segment, read_defined, read_contents, read_field, declare_fields, no_scopes, is_undefined, no_fields, add_field, one_field, read_fields, read_module, read_tokens, read_text}
use Rattle.text_assembler.proofs.Nesting.{Agrees, Always, ok_inj, no_ok, agrees_after, agrees_bind, after, choose, branch, Deep, bodies_agree}

-- ---- how deep the bodies of fields and modules are

abbrev pub field_depth : Field → ℕ
field_depth (field.Func f) = ops_depth f.body
field_depth (field.Global g) = ops_depth g.init
field_depth (field.Element e) = ops_depth e.offset
field_depth (field.Segment d) = ops_depth d.offset
field_depth f = 0

abbrev pub most : {X : Type 0} → (X → ℕ) → List X → ℕ
most f [] = 0
most f (x ∷ xs) = max (f x) (most f xs)

abbrev pub module_depth : Module → ℕ
module_depth m =
    max (most (λ (f : Func). ops_depth f.body) m.funcs)
    (max (most (λ (g : declared_global.Global). ops_depth g.init) m.globals)
    (max (most (λ (e : Element). ops_depth e.offset) m.elements)
    (most (λ (d : Segment). ops_depth d.offset) m.segments)))

most_left : {X : Type 0} (f : X → ℕ) (xs : List X) (x : X) → most f xs ≤ most f (xs ++ x ∷ [])
most_left f [] x = omega arith
most_left f (y ∷ xs) x = omega (arith, most_left f xs x)

most_last : {X : Type 0} (f : X → ℕ) (xs : List X) (x : X) → f x ≤ most f (xs ++ x ∷ [])
most_last f [] x = omega arith
most_last f (y ∷ xs) x = omega (arith, most_last f xs x)

abbrev pub DeepOps : ℕ → Ops × Tokens → Type 0
DeepOps k x = k < ops_depth x.0

abbrev pub DeepField : ℕ → Field × Tokens → Type 0
DeepField k x = k < field_depth x.0

-- ---- fields

agrees_expression :
    (k n : ℕ) → k ≤ n → (s : Scopes) (ts : Tokens)
    → Agrees (DeepOps k) (read_expression k s ts) (read_expression n s ts)
unfolding read_expression
agrees_expression k n le s ts =
    agrees_bind (Deep k) (DeepOps k) (read_body s [] k [] ts) (read_body s [] n [] ts) _ _
    (bodies_agree s [] k n le [] ts) (λ os. inl refl)
    (λ os y d e. subst (DeepOps k) (ok_inj (ops_of os.0, os.1) y e) d)

agrees_func :
    (k n : ℕ) → k ≤ n → (s : Scopes) (ts : Tokens)
    → Agrees (λ x. k < ops_depth x.0.body) (read_func k s ts) (read_func n s ts)
unfolding read_func
agrees_func k n le s ts =
    agrees_after (λ x. k < ops_depth x.0.body) (read_use s (after_id ts)) _ _ (λ used.
    agrees_after (λ x. k < ops_depth x.0.body) (read_bindings (codes "local") used.1) _ _ (λ locals.
    agrees_after (λ x. k < ops_depth x.0.body) (declare_all used.0.1 (names_of locals.0)) _ _ (λ ids.
    agrees_bind (Deep k) (λ x. k < ops_depth x.0.body) (read_body s ids k [] locals.1) (read_body s ids n [] locals.1) _
    _ (bodies_agree s ids k n le [] locals.1) (λ body. inl refl)
    (λ body y d e. subst (λ x. k < ops_depth x.0.body)
    (ok_inj (record { type_index = used.0.0; locals = types_of locals.0; body = ops_of body.0 }, body.1) y e) d))))

agrees_global :
    (k n : ℕ) → k ≤ n → (s : Scopes) (ts : Tokens)
    → Agrees (λ x. k < ops_depth x.0.init) (read_global k s ts) (read_global n s ts)
unfolding read_global
agrees_global k n le s ts =
    agrees_after (λ x. k < ops_depth x.0.init) (read_global_type (after_id ts)) _ _ (λ t.
    agrees_bind (DeepOps k) (λ x. k < ops_depth x.0.init) (read_expression k s t.1) (read_expression n s t.1) _ _
    (agrees_expression k n le s t.1) (λ init. inl refl)
    (λ init y d e. subst (λ x. k < ops_depth x.0.init)
    (ok_inj (record { val_type = t.0.0; mutability = t.0.1; init = init.0 }, init.1) y e) d))

agrees_offset :
    (k n : ℕ) → k ≤ n → (s : Scopes) (ts : Tokens) → Agrees (DeepOps k) (read_offset k s ts) (read_offset n s ts)
unfolding read_offset
agrees_offset k n le s ts =
    agrees_after (DeepOps k) (skip_group (codes "offset") ts) _ _ (λ from.
    agrees_bind (DeepOps k) (DeepOps k) (read_expression k s from) (read_expression n s from) _ _
    (agrees_expression k n le s from) (λ os. inl refl)
    (λ os y d e. after (DeepOps k) (skip_close os.1) (λ rest. (os.0, rest)) (λ rest. d) y e))

agrees_element :
    (k n : ℕ) → k ≤ n → (s : Scopes) (ts : Tokens)
    → Agrees (λ x. k < ops_depth x.0.offset) (read_element k s ts) (read_element n s ts)
unfolding read_element
agrees_element k n le s ts =
    agrees_bind (DeepOps k) (λ x. k < ops_depth x.0.offset) (read_offset k s ts) (read_offset n s ts) _ _
    (agrees_offset k n le s ts) (λ os. inl refl)
    (λ os y d e. after (λ x. k < ops_depth x.0.offset) (read_indices s.funcs os.1)
    (λ funcs. (record { table = 0; offset = os.0; funcs = funcs.0 }, funcs.1)) (λ funcs. d) y e)

agrees_segment :
    (k n : ℕ) → k ≤ n → (s : Scopes) (ts : Tokens)
    → Agrees (λ x. k < ops_depth x.0.offset) (read_segment k s ts) (read_segment n s ts)
unfolding read_segment
agrees_segment k n le s ts =
    agrees_bind (DeepOps k) (λ x. k < ops_depth x.0.offset) (read_offset k s ts) (read_offset n s ts) _ _
    (agrees_offset k n le s ts) (λ os. inl refl)
    (λ os y d e. after (λ x. k < ops_depth x.0.offset) (read_parts is_close take_text os.1)
    (λ bytes. (record { memory = 0; offset = os.0; bytes = bytes.0 }, bytes.1)) (λ bytes. d) y e)

-- what is read, as a field
as_field :
    {X : Type 0} (k : ℕ) (D : X × Tokens → Type 0) (make : X → Field)
    → ((x : X × Tokens) → D x → k < field_depth (make x.0)) → (less more : Read Lexeme X) → Agrees D less more
    → Agrees (DeepField k) (less >>= λ x. Ok (make x.0, x.1)) (more >>= λ x. Ok (make x.0, x.1))
as_field k D make h less more a =
    agrees_bind D (DeepField k) less more _ _ a (λ x. inl refl)
    (λ x y d e. subst (DeepField k) (ok_inj (make x.0, x.1) y e) (h x d))

needed :
    {A : Type 0} (D : A → Type 0) (b : Bool) (less more : Result A Fault) → Agrees D less more
    → Agrees D (need b less) (need b more)
needed D true less more h = h
needed D false less more h = inl refl

agrees_defined :
    (k n : ℕ) → k ≤ n → (s : Scopes) (word : List ℕ) (ts : Tokens)
    → Agrees (DeepField k) (read_defined k s word ts) (read_defined n s word ts)
unfolding read_defined
agrees_defined k n le s word ts =
    branch (DeepField k) (bytes_eq word (codes "func")) _ _ _ _
    (as_field k (λ x. k < ops_depth x.0.body) field.Func (λ x d. d) (read_func k s ts) (read_func n s ts)
    (agrees_func k n le s ts))
    (choose (DeepField k) (bytes_eq word (codes "table")) _ _ _
    (choose (DeepField k) (bytes_eq word (codes "memory")) _ _ _
    (needed (DeepField k) (bytes_eq word (codes "global")) _ _
    (as_field k (λ x. k < ops_depth x.0.init) field.Global (λ x d. d) (read_global k s ts) (read_global n s ts)
    (agrees_global k n le s ts)))))

agrees_contents :
    (k n : ℕ) → k ≤ n → (s : Scopes) (word : List ℕ) (ts : Tokens)
    → Agrees (DeepField k) (read_contents k s word ts) (read_contents n s word ts)
unfolding read_contents
agrees_contents k n le s word ts =
    choose (DeepField k) (bytes_eq word (codes "type")) _ _ _
    (choose (DeepField k) (bytes_eq word (codes "import")) _ _ _
    (choose (DeepField k) (bytes_eq word (codes "export")) _ _ _
    (choose (DeepField k) (bytes_eq word (codes "start")) _ _ _
    (branch (DeepField k) (bytes_eq word (codes "elem")) _ _ _ _
    (as_field k (λ x. k < ops_depth x.0.offset) field.Element (λ x d. d) (read_element k s ts) (read_element n s ts)
    (agrees_element k n le s ts))
    (branch (DeepField k) (bytes_eq word (codes "data")) _ _ _ _
    (as_field k (λ x. k < ops_depth x.0.offset) field.Segment (λ x d. d) (read_segment k s ts) (read_segment n s ts)
    (agrees_segment k n le s ts))
    (agrees_defined k n le s word ts))))))

agrees_field :
    (k n : ℕ) → k ≤ n → (s : Scopes) (ts : Tokens) → Agrees (DeepField k) (read_field k s ts) (read_field n s ts)
unfolding read_field
agrees_field k n le s ts =
    agrees_after (DeepField k) (skip_open ts) _ _ (λ from.
    agrees_after (DeepField k) (take_word from) _ _ (λ word.
    agrees_bind (DeepField k) (DeepField k) (read_contents k s word.0 word.1) (read_contents n s word.0 word.1) _ _
    (agrees_contents k n le s word.0 word.1) (λ f. inl refl)
    (λ f y d e. after (DeepField k) (skip_close f.1) (λ rest. (f.0, rest)) (λ rest. d) y e)))

-- ---- fields added to a module

pub always_ok : {A : Type 0} (E : A → Type 0) (x : A) → E x → Always E (Ok x)
always_ok E x h y e = subst E (ok_inj x y e) h

pub always_need : {A : Type 0} (E : A → Type 0) (b : Bool) (r : Result A Fault) → Always E r → Always E (need b r)
always_need E true r h y e = h y e
always_need E false r h y e = absurd (no_ok Malformed y e)

pub always_after :
    {A B : Type 0} (E : B → Type 0) (r : Result A Fault) (f : A → Result B Fault) → ((x : A) → Always E (f x))
    → Always E (r >>= f)
always_after E (Ok x) f h y e = h x y e
always_after E (Err q) f h y e = absurd (no_ok q y e)

pub always_then :
    {A B : Type 0} (D : A → Type 0) (E : B → Type 0) (r : Result A Fault) (f : A → Result B Fault) → Always D r
    → ((x : A) → D x → Always E (f x)) → Always E (r >>= f)
always_then D E (Ok x) f d h y e = h x (d x refl) y e
always_then D E (Err q) f d h y e = absurd (no_ok q y e)

-- the module is as deep as before, and as its new field
abbrev pub IsDeeper : Module → Field → Module → Type 0
IsDeeper m f after = (module_depth m ≤ module_depth after) × (field_depth f ≤ module_depth after)

deeper : (m : Module) (f : Field) → Always (IsDeeper m f) (add_field m f)
unfolding add_field
deeper m (field.Type t) = always_ok (IsDeeper m (field.Type t)) _ (omega arith, omega arith)
deeper m (field.Import i) =
    always_need (IsDeeper m (field.Import i)) (is_undefined m) _
    (always_ok (IsDeeper m (field.Import i)) _ (omega arith, omega arith))
deeper m (field.Func f) = always_ok (IsDeeper m (field.Func f)) _ (
  omega (arith, most_left (λ (f : Func). ops_depth f.body) m.funcs f),
  omega (arith, most_last (λ (f : Func). ops_depth f.body) m.funcs f),
)
deeper m (field.Table t) = always_ok (IsDeeper m (field.Table t)) _ (omega arith, omega arith)
deeper m (field.Memory l) = always_ok (IsDeeper m (field.Memory l)) _ (omega arith, omega arith)
deeper m (field.Global g) = always_ok (IsDeeper m (field.Global g)) _ (
  omega (arith, most_left (λ (g : declared_global.Global). ops_depth g.init) m.globals g),
  omega (arith, most_last (λ (g : declared_global.Global). ops_depth g.init) m.globals g),
)
deeper m (field.Export e) = always_ok (IsDeeper m (field.Export e)) _ (omega arith, omega arith)
deeper m (field.Start f) =
    always_need (IsDeeper m (field.Start f)) (is_none m.start) _
    (always_ok (IsDeeper m (field.Start f)) _ (omega arith, omega arith))
deeper m (field.Element e) = always_ok (IsDeeper m (field.Element e)) _ (
  omega (arith, most_left (λ (e : Element). ops_depth e.offset) m.elements e),
  omega (arith, most_last (λ (e : Element). ops_depth e.offset) m.elements e),
)
deeper m (field.Segment d) = always_ok (IsDeeper m (field.Segment d)) _ (
  omega (arith, most_left (λ (d : Segment). ops_depth d.offset) m.segments d),
  omega (arith, most_last (λ (d : Segment). ops_depth d.offset) m.segments d),
)

abbrev pub DeepRead : ℕ → Module × Tokens → Type 0
DeepRead k x = k < module_depth x.0

agrees_one_field :
    (k n : ℕ) → k ≤ n → (s : Scopes) (m : Module) (ts : Tokens)
    → Agrees (DeepRead k) (one_field k s m ts) (one_field n s m ts)
unfolding one_field
agrees_one_field k n le s m ts =
    agrees_bind (DeepField k) (DeepRead k) (read_field k s ts) (read_field n s ts) _ _
    (agrees_field k n le s ts) (λ f. inl refl)
    (λ f y d e. always_then (IsDeeper m f.0) (DeepRead k) (add_field m f.0) (λ more. Ok (more, f.1)) (deeper m f.0)
    (λ more h. always_ok (DeepRead k) (more, f.1) (omega (arith, h.1, d))) y e)

one_field_keeps :
    (k n : ℕ) (s : Scopes) (m : Module) (ts : Tokens) → k < module_depth m → Always (DeepRead k) (one_field n s m ts)
unfolding one_field
one_field_keeps k n s m ts d =
    always_after (DeepRead k) (read_field n s ts) _ (λ f.
    always_then (IsDeeper m f.0) (DeepRead k) (add_field m f.0) (λ more. Ok (more, f.1)) (deeper m f.0)
    (λ more h. always_ok (DeepRead k) (more, f.1) (omega (arith, h.0, d))))

pub always_if :
    {A : Type 0} (E : A → Type 0) (b : Bool) (p q : Result A Fault) → Always E p → Always E q
    → Always E (if b then p else q)
always_if E true p q h k = h
always_if E false p q h k = k

fields_keep :
    (k n : ℕ) (s : Scopes) (count : ℕ) (m : Module) (ts : Tokens) → k < module_depth m
    → Always (DeepRead k) (read_fields n s count m ts)
unfolding read_fields
fields_keep k n s zero m ts d = always_need (DeepRead k) (is_close ts) (Ok (m, ts)) (always_ok (DeepRead k) (m, ts) d)
fields_keep k n s (suc count) m ts d =
    always_if (DeepRead k) (is_close ts) _ _ (always_ok (DeepRead k) (m, ts) d)
    (always_then (DeepRead k) (DeepRead k) (one_field n s m ts) _ (one_field_keeps k n s m ts d)
    (λ more h. fields_keep k n s count more.0 more.1 h))

agrees_fields :
    (k n : ℕ) → k ≤ n → (s : Scopes) (count : ℕ) (m : Module) (ts : Tokens)
    → Agrees (DeepRead k) (read_fields k s count m ts) (read_fields n s count m ts)
unfolding read_fields
agrees_fields k n le s zero m ts = inl refl
agrees_fields k n le s (suc count) m ts =
    choose (DeepRead k) (is_close ts) _ _ _
    (agrees_bind (DeepRead k) (DeepRead k) (one_field k s m ts) (one_field n s m ts) _ _
    (agrees_one_field k n le s m ts)
    (λ more. agrees_fields k n le s count more.0 more.1)
    (λ more y d e. fields_keep k n s count more.0 more.1 d y e))

abbrev pub DeepModule : ℕ → Module → Type 0
DeepModule k m = k < module_depth m

agrees_module :
    (k n : ℕ) → k ≤ n → (s : Scopes) (ts : Tokens) → Agrees (DeepModule k) (read_module k s ts) (read_module n s ts)
unfolding read_module
agrees_module k n le s ts =
    agrees_after (DeepModule k) (skip_group (codes "module") ts) _ _ (λ from.
    agrees_bind (DeepRead k) (DeepModule k) (read_fields k s (length ts) no_fields (after_id from))
    (read_fields n s (length ts) no_fields (after_id from)) _ _
    (agrees_fields k n le s (length ts) no_fields (after_id from)) (λ m. inl refl)
    (λ m y d e. always_after (DeepModule k) (skip_close m.1) (λ rest. need (length rest == 0) (Ok m.0))
    (λ rest. always_need (DeepModule k) (length rest == 0) (Ok m.0) (always_ok (DeepModule k) m.0 d)) y e))

pub agrees_text : (k n : ℕ) → k ≤ n → (text : List ℕ) → Agrees (DeepModule k) (read_text k text) (read_text n text)
unfolding read_text read_tokens
agrees_text k n le text =
    agrees_after (DeepModule k) (tokens_of text) _ _ (λ ts.
    agrees_after (DeepModule k) (declare_fields 0 no_scopes ts) _ _ (λ s. agrees_module k n le s ts))
