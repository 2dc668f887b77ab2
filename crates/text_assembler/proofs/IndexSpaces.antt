-- What the scan of the declarations finds are the index spaces of the module that is read.
use Rattle.std.proofs.Common.{◌≡◌, ℕ, zero, suc, ◌+◌, List, [], ◌∷◌, ◌++◌, length, drop, Result, Ok, Err, Option, Some, None, is_none, Bool, true, false, if◌then◌else◌, ◌==◌, refl, sym, ap, subst, ◌∙◌, codes, bytes_eq, arith}
use Rattle.std.proofs.Math.Dec.{eqb-suc-zero}
use Rattle.std.specs.Cmp.Lexicographic.{bytes_decides}
use Rattle.wasm_ast.specs.declared.values.FuncType.{FuncType}
use Rattle.wasm_ast.specs.declared.module.Limits.{Limits}
use Rattle.wasm_ast.specs.declared.module.Global as declared_global
use Rattle.wasm_ast.specs.declared.module.Import.{Import}
use Rattle.wasm_ast.specs.declared.module.Func.{Func}
use Rattle.wasm_ast.specs.declared.module.Module.{Module}
use Rattle.text_assembler.specs.declared.fault.Fault.{Fault}
use Rattle.text_assembler.specs.declared.fault.Fault.TheVariants.{Malformed}
use Rattle.text_assembler.specs.declared.field.Field.{Field}
use Rattle.text_assembler.specs.declared.field.Field.TheVariants as field
use Rattle.text_assembler.specs.declared.scopes.Scopes.{Scopes}
use Rattle.text_assembler.specs.declared.token.Lexeme.{Lexeme}
use Rattle.text_assembler.specs.declared.token.Lexeme.TheVariants.{Open, Close, Word, Text}
use Rattle.text_assembler.specs.Reading.{Read, ◌>>=◌, need}
use Rattle.text_assembler.specs.Names.{Name, Ids, is_id, is_declared, with_id}
use Rattle.text_assembler.specs.Phrases.{Tokens, is_close, skip_close, skip_open, take_word, begins_word, skip_word, skip_group, begins_id, id_of, after_id, read_index}
use Rattle.text_assembler.specs.Modules.{read_type, read_imported, read_import, read_func, read_table, read_memory, read_global, read_export, read_element, read_segment, read_defined, read_contents, read_field, declare_as, declare_field, declare_fields, no_scopes, is_undefined, no_fields, add_field, one_field, read_fields, read_module, read_tokens}
use Rattle.text_assembler.proofs.Nesting.{Always, no_ok, ok_inj}
use Rattle.text_assembler.proofs.ModuleNesting.{always_ok, always_need, always_after, always_then, always_if}
use Rattle.text_assembler.proofs.Parentheses.{passes}

-- the types, and how many entries each index space has: types, functions, tables, memories and globals
abbrev pub Spaces : Type 0
Spaces = List FuncType × (ℕ × (ℕ × (ℕ × (ℕ × ℕ))))

abbrev pub declared : Scopes → Spaces
declared s =
    (s.signatures, (length s.types, (length s.funcs, (length s.tables, (length s.memories, length s.globals)))))

abbrev pub defined : Module → Spaces
defined m = (
  m.types,
  (
    length m.types,
    (
      length m.imports + length m.funcs,
      (length m.tables, (length m.memories, length m.globals)),
    ),
  ),
)

-- with one more field
abbrev pub with_field : Field → Spaces → Spaces
with_field (field.Type t) n = (n.0 ++ t ∷ [], (suc n.1.0, n.1.1))
with_field (field.Import i) n = (n.0, (n.1.0, (suc n.1.1.0, n.1.1.1)))
with_field (field.Func f) n = (n.0, (n.1.0, (suc n.1.1.0, n.1.1.1)))
with_field (field.Table t) n = (n.0, (n.1.0, (n.1.1.0, (suc n.1.1.1.0, n.1.1.1.1))))
with_field (field.Memory l) n = (n.0, (n.1.0, (n.1.1.0, (n.1.1.1.0, (suc n.1.1.1.1.0, n.1.1.1.1.1)))))
with_field (field.Global g) n = (n.0, (n.1.0, (n.1.1.0, (n.1.1.1.0, (n.1.1.1.1.0, suc n.1.1.1.1.1)))))
with_field f n = n

longer : {X : Type 0} (xs : List X) (x : X) → length (xs ++ x ∷ []) ≡ suc (length xs)
longer [] x = refl
longer (y ∷ xs) x = ap suc (longer xs x)

-- ---- a field that is added to a module

abbrev pub Adds : Module → Field → Module → Type 0
Adds m f after = defined after ≡ with_field f (defined m)

adds : (m : Module) (f : Field) → Always (Adds m f) (add_field m f)
unfolding add_field
adds m (field.Type t) =
    always_ok (Adds m (field.Type t)) (record m { types = m.types ++ t ∷ [] })
    (ap (λ n. (m.types ++ t ∷ [], (n, (defined m).1.1))) (longer m.types t))
adds m (field.Import i) =
    let e :
    length (m.imports ++ i ∷ []) + length m.funcs ≡ suc (length m.imports + length m.funcs) =
    omega (arith, longer m.imports i) in
    always_need (Adds m (field.Import i)) (is_undefined m) _
    (always_ok (Adds m (field.Import i)) (record m { imports = m.imports ++ i ∷ [] })
    (ap (λ n. (m.types, (length m.types, (n, (defined m).1.1.1)))) e))
adds m (field.Func f) =
    let e :
    length m.imports + length (m.funcs ++ f ∷ []) ≡ suc (length m.imports + length m.funcs) =
    omega (arith, longer m.funcs f) in
    always_ok (Adds m (field.Func f)) (record m { funcs = m.funcs ++ f ∷ [] })
    (ap (λ n. (m.types, (length m.types, (n, (defined m).1.1.1)))) e)
adds m (field.Table t) =
    always_ok (Adds m (field.Table t)) (record m { tables = m.tables ++ t ∷ [] })
    (ap (λ n. (m.types, (length m.types, ((defined m).1.1.0, (n, (defined m).1.1.1.1))))) (longer m.tables t))
adds m (field.Memory l) =
    always_ok (Adds m (field.Memory l)) (record m { memories = m.memories ++ l ∷ [] })
    (ap (λ n. (m.types, (length m.types, ((defined m).1.1.0, (length m.tables, (n, length m.globals))))))
    (longer m.memories l))
adds m (field.Global g) =
    always_ok (Adds m (field.Global g)) (record m { globals = m.globals ++ g ∷ [] })
    (ap (λ n. (m.types, (length m.types, ((defined m).1.1.0, (length m.tables, (length m.memories, n))))))
    (longer m.globals g))
adds m (field.Export e) = always_ok (Adds m (field.Export e)) (record m { exports = m.exports ++ e ∷ [] }) refl
adds m (field.Start f) =
    always_need (Adds m (field.Start f)) (is_none m.start) _
    (always_ok (Adds m (field.Start f)) (record m { start = Some f }) refl)
adds m (field.Element e) = always_ok (Adds m (field.Element e)) (record m { elements = m.elements ++ e ∷ [] }) refl
adds m (field.Segment d) = always_ok (Adds m (field.Segment d)) (record m { segments = m.segments ++ d ∷ [] }) refl

-- ---- what a field declares

abbrev pub Declares : Scopes → Field → Scopes → Type 0
Declares s f after = declared after ≡ with_field f (declared s)

one_more : (ids : Ids) (o : Option Name) → Always (λ more. length more ≡ suc (length ids)) (with_id ids o)
unfolding with_id
one_more ids None = always_ok (λ more. length more ≡ suc (length ids)) _ (longer ids None)
one_more ids (Some name) =
    always_if (λ more. length more ≡ suc (length ids)) (is_declared name ids) _ _ (λ y e. absurd (no_ok Malformed y e))
    (always_ok (λ more. length more ≡ suc (length ids)) _ (longer ids (Some name)))

-- a space with one more entry
entered :
    (s : Scopes) (f : Field) (ids : Ids) (o : Option Name) (set : Ids → Scopes)
    → ((more : Ids) → length more ≡ suc (length ids) → Declares s f (set more))
    → Always (Declares s f) (with_id ids o >>= λ more. Ok (set more))
entered s f ids o set h =
    always_then (λ more. length more ≡ suc (length ids)) (Declares s f) (with_id ids o) _ (one_more ids o)
    (λ more e. always_ok (Declares s f) (set more) (h more e))

declares_type :
    (s : Scopes) (ts : Tokens) (t : FuncType × Tokens) → read_type ts ≡ Ok t
    → Always (Declares s (field.Type t.0)) (declare_as s (codes "type") ts)
unfolding declare_as
declares_type s ts t h =
    rw h (entered s (field.Type t.0) s.types (id_of ts)
    (λ ids. record s { types = ids; signatures = s.signatures ++ t.0 ∷ [] })
    (λ ids e. ap (λ n. (s.signatures ++ t.0 ∷ [], (n, (declared s).1.1))) e))

declares_import :
    (s : Scopes) (ts : Tokens) (i : Import)
    → Always (Declares s (field.Import i)) (declare_as s (codes "import") ts)
unfolding declare_as
declares_import s ts i =
    always_after (Declares s (field.Import i)) (read_imported ts) _ (λ names.
    entered s (field.Import i) s.funcs (id_of names.1) (λ ids. record s { funcs = ids })
    (λ ids e. ap (λ n. (s.signatures, (length s.types, (n, (declared s).1.1.1)))) e))

declares_func :
    (s : Scopes) (ts : Tokens) (f : Func) → Always (Declares s (field.Func f)) (declare_as s (codes "func") ts)
unfolding declare_as
declares_func s ts f =
    entered s (field.Func f) s.funcs (id_of ts) (λ ids. record s { funcs = ids })
    (λ ids e. ap (λ n. (s.signatures, (length s.types, (n, (declared s).1.1.1)))) e)

declares_table :
    (s : Scopes) (ts : Tokens) (t : Limits) → Always (Declares s (field.Table t)) (declare_as s (codes "table") ts)
unfolding declare_as
declares_table s ts t =
    entered s (field.Table t) s.tables (id_of ts) (λ ids. record s { tables = ids })
    (λ ids e. ap (λ n. (s.signatures, (length s.types, (length s.funcs, (n, (declared s).1.1.1.1))))) e)

declares_memory :
    (s : Scopes) (ts : Tokens) (l : Limits) → Always (Declares s (field.Memory l)) (declare_as s (codes "memory") ts)
unfolding declare_as
declares_memory s ts l =
    entered s (field.Memory l) s.memories (id_of ts) (λ ids. record s { memories = ids })
    (λ ids e. ap (λ n. (s.signatures, (length s.types, (length s.funcs, (length s.tables, (n, length s.globals)))))) e)

declares_global :
    (s : Scopes) (ts : Tokens) (g : declared_global.Global)
    → Always (Declares s (field.Global g)) (declare_as s (codes "global") ts)
unfolding declare_as
declares_global s ts g =
    entered s (field.Global g) s.globals (id_of ts) (λ ids. record s { globals = ids })
    (λ ids e. ap (λ n. (s.signatures, (length s.types, (length s.funcs, (length s.tables, (length s.memories, n)))))) e)

-- nothing is declared by the other fields
undeclared :
    (s : Scopes) (ts : Tokens)
    → (declare_as s (codes "export") ts ≡ Ok s)
    × ((declare_as s (codes "start") ts ≡ Ok s)
    × ((declare_as s (codes "elem") ts ≡ Ok s) × (declare_as s (codes "data") ts ≡ Ok s)))
unfolding declare_as
undeclared s ts = (refl, (refl, (refl, refl)))

unchanged :
    (s : Scopes) (ts : Tokens) (f : Field) (key : List ℕ) → declare_as s key ts ≡ Ok s → Declares s f s
    → Always (Declares s f) (declare_as s key ts)
unchanged s ts f key e h = rw e (always_ok (Declares s f) s h)

-- the keyword is this one, or the next is tried
chain :
    {A G : Type 0} (w key : List ℕ) (b : Bool) → bytes_eq w key ≡ b → {p q : Result A Fault} {y : A}
    → (if b then p else q) ≡ Ok y → (w ≡ key → p ≡ Ok y → G) → (q ≡ Ok y → G) → G
chain w key true d e h next = h ((bytes_decides w key).0 d) e
chain w key false d e h next = next e

-- a field of one kind
of_kind :
    {X : Type 0} (s : Scopes) (ts : Tokens) (x : Field × Tokens) (make : X → Field) (r : Read Lexeme X)
    (w key : List ℕ)
    → ((f : X × Tokens) → r ≡ Ok f → Always (Declares s (make f.0)) (declare_as s key ts))
    → w ≡ key → (r >>= λ f. Ok (make f.0, f.1)) ≡ Ok x → Always (Declares s x.0) (declare_as s w ts)
of_kind s ts x make (Ok f) w key h k e =
    subst (λ w. Always (Declares s x.0) (declare_as s w ts)) (sym k)
    (subst (λ g. Always (Declares s g) (declare_as s key ts))
    (ap (λ (y : Field × Tokens). y.0) (ok_inj (make f.0, f.1) x e)) (h f refl))
of_kind s ts x make (Err q) w key h k e = absurd (no_ok q x e)

declares :
    (nesting : ℕ) (scopes s : Scopes) (w : List ℕ) (ts : Tokens) (x : Field × Tokens)
    → read_contents nesting scopes w ts ≡ Ok x → Always (Declares s x.0) (declare_as s w ts)
unfolding read_contents read_defined
declares nesting scopes s w ts x e =
    chain w (codes "type") _ refl e
    (of_kind s ts x field.Type (read_type ts) w (codes "type") (declares_type s ts)) (λ e.
    chain w (codes "import") _ refl e
    (of_kind s ts x field.Import (read_import scopes ts) w (codes "import") (λ i h. declares_import s ts i.0)) (λ e.
    chain w (codes "export") _ refl e
    (of_kind s ts x field.Export (read_export scopes ts) w (codes "export")
    (λ f h. unchanged s ts (field.Export f.0) (codes "export") (undeclared s ts).0 refl)) (λ e.
    chain w (codes "start") _ refl e
    (of_kind s ts x field.Start (read_index scopes.funcs ts) w (codes "start")
    (λ f h. unchanged s ts (field.Start f.0) (codes "start") (undeclared s ts).1.0 refl)) (λ e.
    chain w (codes "elem") _ refl e
    (of_kind s ts x field.Element (read_element nesting scopes ts) w (codes "elem")
    (λ f h. unchanged s ts (field.Element f.0) (codes "elem") (undeclared s ts).1.1.0 refl)) (λ e.
    chain w (codes "data") _ refl e
    (of_kind s ts x field.Segment (read_segment nesting scopes ts) w (codes "data")
    (λ f h. unchanged s ts (field.Segment f.0) (codes "data") (undeclared s ts).1.1.1 refl)) (λ e.
    chain w (codes "func") _ refl e
    (of_kind s ts x field.Func (read_func nesting scopes ts) w (codes "func") (λ f h. declares_func s ts f.0)) (λ e.
    chain w (codes "table") _ refl e
    (of_kind s ts x field.Table (read_table ts) w (codes "table") (λ t h. declares_table s ts t.0)) (λ e.
    chain w (codes "memory") _ refl e
    (of_kind s ts x field.Memory (read_memory ts) w (codes "memory") (λ l h. declares_memory s ts l.0)) (λ e.
    chain w (codes "global") _ refl e
    (of_kind s ts x field.Global (read_global nesting scopes ts) w (codes "global") (λ g h. declares_global s ts g.0))
    (λ e. absurd (no_ok Malformed x e)))))))))))

-- ---- a field after the other

bind_ok :
    {A B : Type 0} (r : Result A Fault) (f : A → Result B Fault) (y : B) → (r >>= f) ≡ Ok y
    → (x : A) × ((r ≡ Ok x) × (f x ≡ Ok y))
bind_ok (Ok x) f y e = (x, (refl, e))
bind_ok (Err q) f y e = absurd (no_ok q y e)

open_is : (ts : Tokens) → Always (λ rest. ts ≡ Open ∷ rest) (skip_open ts)
unfolding skip_open
open_is [] y e = absurd (no_ok Malformed y e)
open_is (Open ∷ ts) y e = ap (λ ts. Open ∷ ts) (ok_inj ts y e)
open_is (Close ∷ ts) y e = absurd (no_ok Malformed y e)
open_is (Word w ∷ ts) y e = absurd (no_ok Malformed y e)
open_is (Text w ∷ ts) y e = absurd (no_ok Malformed y e)

close_is : (ts : Tokens) → Always (λ rest. ts ≡ Close ∷ rest) (skip_close ts)
unfolding skip_close
close_is [] y e = absurd (no_ok Malformed y e)
close_is (Open ∷ ts) y e = absurd (no_ok Malformed y e)
close_is (Close ∷ ts) y e = ap (λ ts. Close ∷ ts) (ok_inj ts y e)
close_is (Word w ∷ ts) y e = absurd (no_ok Malformed y e)
close_is (Text w ∷ ts) y e = absurd (no_ok Malformed y e)

word_is : (ts : Tokens) → Always (λ w. ts ≡ Word w.0 ∷ w.1) (take_word ts)
unfolding take_word
word_is [] y e = absurd (no_ok Malformed y e)
word_is (Open ∷ ts) y e = absurd (no_ok Malformed y e)
word_is (Close ∷ ts) y e = absurd (no_ok Malformed y e)
word_is (Word w ∷ ts) y e = ap (λ (x : List ℕ × Tokens). Word x.0 ∷ x.1) (ok_inj (w, ts) y e)
word_is (Text w ∷ ts) y e = absurd (no_ok Malformed y e)

this_word_is : (w : List ℕ) (ts : Tokens) → Always (λ rest. (v : List ℕ) × (ts ≡ Word v ∷ rest)) (skip_word w ts)
unfolding skip_word begins_word
this_word_is w [] = λ y e. absurd (no_ok Malformed y e)
this_word_is w (Open ∷ ts) = λ y e. absurd (no_ok Malformed y e)
this_word_is w (Close ∷ ts) = λ y e. absurd (no_ok Malformed y e)
this_word_is w (Text v ∷ ts) = λ y e. absurd (no_ok Malformed y e)
this_word_is w (Word v ∷ ts) =
    always_need (λ rest. (u : List ℕ) × (Word v ∷ ts ≡ Word u ∷ rest)) (bytes_eq v w) (Ok ts)
    (always_ok (λ rest. (u : List ℕ) × (Word v ∷ ts ≡ Word u ∷ rest)) ts (v, refl))

-- where the scan is after a field has been read
abbrev pub Next : Tokens → Field × Tokens → Type 0
Next ts f =
    (final before : Scopes) → declare_fields 1 before ts ≡ Ok final
    → (after : Scopes) × (Declares before f.0 after × (declare_fields 1 after f.1 ≡ Ok final))

scan_field :
    (before : Scopes) (w : List ℕ) (ts : Tokens)
    → declare_fields 1 before (Open ∷ Word w ∷ ts) ≡ (declare_as before w ts >>= λ more. declare_fields 2 more ts)
unfolding declare_fields declare_field take_word
scan_field before w ts = refl

scan_close : (s : Scopes) (ts : Tokens) → declare_fields 2 s (Close ∷ ts) ≡ declare_fields 1 s ts
unfolding declare_fields
scan_close s ts = refl

next_by :
    (nesting : ℕ) (s : Scopes) (w : List ℕ) (ts : Tokens) (f : Field × Tokens) (rest : Tokens)
    → read_contents nesting s w ts ≡ Ok f → f.1 ≡ Close ∷ rest → Next (Open ∷ Word w ∷ ts) (f.0, rest)
next_by nesting s w ts f rest h c final before e =
    let p =
    bind_ok (declare_as before w ts) (λ more. declare_fields 2 more ts) final (sym (scan_field before w ts) ∙ e) in (
      p.0,
      (
        declares nesting s before w ts f h p.0 p.1.0,
        sym (passes nesting s w ts f h p.0 ∙ ap (declare_fields 2 p.0) c ∙ scan_close p.0 rest) ∙ p.1.1,
      ),
    )

next_of :
    (nesting : ℕ) (s : Scopes) (ts : Tokens) → Always (Next ts) (read_field nesting s ts)
unfolding read_field
next_of nesting s ts =
    always_then (λ from. ts ≡ Open ∷ from) (Next ts) (skip_open ts) _ (open_is ts) (λ from o.
    always_then (λ w. from ≡ Word w.0 ∷ w.1) (Next ts) (take_word from) _ (word_is from) (λ w v.
    always_then (λ f. read_contents nesting s w.0 w.1 ≡ Ok f) (Next ts) (read_contents nesting s w.0 w.1) _ (λ f h. h)
    (λ f h. always_then (λ rest. f.1 ≡ Close ∷ rest) (Next ts) (skip_close f.1) _ (close_is f.1) (λ rest c.
    always_ok (Next ts) (f.0, rest)
    (subst (λ ts. Next ts (f.0, rest)) (sym (o ∙ ap (λ ts. Open ∷ ts) v)) (next_by nesting s w.0 w.1 f rest h c))))))

-- what was declared so far is what was read so far, and the rest of the scan gives these scopes
abbrev pub Reached : Scopes → Module × Tokens → Type 0
Reached final x = (s : Scopes) × ((declared s ≡ defined x.0) × (declare_fields 1 s x.1 ≡ Ok final))

one_step :
    (nesting : ℕ) (s final : Scopes) (m : Module) (ts : Tokens) → Reached final (m, ts)
    → Always (Reached final) (one_field nesting s m ts)
unfolding one_field
one_step nesting s final m ts r =
    always_then (Next ts) (Reached final) (read_field nesting s ts) _ (next_of nesting s ts) (λ f next.
    always_then (Adds m f.0) (Reached final) (add_field m f.0) _ (adds m f.0) (λ more a.
    let n = next final r.0 r.1.1 in
    always_ok (Reached final) (more, f.1) (n.0, (n.1.0 ∙ ap (with_field f.0) r.1.0 ∙ sym a, n.1.1))))

all_steps :
    (nesting : ℕ) (s final : Scopes) (most : ℕ) (m : Module) (ts : Tokens) → Reached final (m, ts)
    → Always (Reached final) (read_fields nesting s most m ts)
unfolding read_fields
all_steps nesting s final zero m ts r =
    always_need (Reached final) (is_close ts) (Ok (m, ts)) (always_ok (Reached final) (m, ts) r)
all_steps nesting s final (suc most) m ts r =
    always_if (Reached final) (is_close ts) _ _ (always_ok (Reached final) (m, ts) r)
    (always_then (Reached final) (Reached final) (one_field nesting s m ts) _ (one_step nesting s final m ts r)
    (λ more h. all_steps nesting s final most more.0 more.1 h))

-- ---- modules

begins :
    (w : List ℕ) (from : Tokens)
    → declare_fields 0 no_scopes (Open ∷ Word w ∷ from) ≡ declare_fields 1 no_scopes (after_id from)
unfolding declare_fields after_id begins_id
begins w [] = refl
begins w (Open ∷ ts) = refl
begins w (Close ∷ ts) = refl
begins w (Text v ∷ ts) = refl
begins w (Word v ∷ ts) = either (is_id v)
  where
    either :
        (b : Bool)
        → declare_fields 1 no_scopes ts
        ≡ declare_fields 1 no_scopes (if b then drop 1 (Word v ∷ ts) else Word v ∷ ts)
    either true = refl
    either false = refl

abbrev pub Same : Scopes → Module → Type 0
Same final m = declared final ≡ defined m

at_end : (final : Scopes) (m : Module) (ts rest : Tokens) → Reached final (m, ts) → ts ≡ Close ∷ rest
    → Always (Same final) (need (length rest == 0) (Ok m))
unfolding declare_fields
at_end final m ts [] r c =
    let e = subst (λ ts. declare_fields 1 r.0 ts ≡ Ok final) c r.1.1 in
    always_ok (Same final) m (ap declared (sym (ok_inj r.0 final e)) ∙ r.1.0)
at_end final m ts (t ∷ rest) r c = rw (eqb-suc-zero (length rest)) (λ y e. absurd (no_ok Malformed y e))

module_same :
    (nesting : ℕ) (s final : Scopes) (ts : Tokens) → declare_fields 0 no_scopes ts ≡ Ok final
    → Always (Same final) (read_module nesting s ts)
unfolding read_module skip_group
module_same nesting s final ts d =
    always_then (λ from. (w : List ℕ) × (ts ≡ Open ∷ Word w ∷ from)) (Same final) (skip_group (codes "module") ts) _
    (always_then (λ from. ts ≡ Open ∷ from) (λ from. (w : List ℕ) × (ts ≡ Open ∷ Word w ∷ from)) (skip_open ts) _
    (open_is ts)
    (λ from o y e. let w = this_word_is (codes "module") from y e in (w.0, o ∙ ap (λ ts. Open ∷ ts) w.1))) (λ from g.
    let start = sym (begins g.0 from) ∙ ap (declare_fields 0 no_scopes) (sym g.1) ∙ d in
    always_then (Reached final) (Same final) (read_fields nesting s (length ts) no_fields (after_id from)) _
    (all_steps nesting s final (length ts) no_fields (after_id from) (no_scopes, (refl, start))) (λ m r.
    always_then (λ rest. m.1 ≡ Close ∷ rest) (Same final) (skip_close m.1) _ (close_is m.1)
    (λ rest c. at_end final m.0 m.1 rest r c)))

pub spaces_are :
    (nesting : ℕ) (ts : Tokens) (s : Scopes) (m : Module) → declare_fields 0 no_scopes ts ≡ Ok s
    → read_tokens nesting ts ≡ Ok m → declared s ≡ defined m
unfolding read_tokens
spaces_are nesting ts s m d e =
    let p = bind_ok (declare_fields 0 no_scopes ts) (λ s. read_module nesting s ts) m e in
    module_same nesting p.0 s ts d m p.1.1
