-- Where the types of functions are found.
use Rattle.std.proofs.Common.{◌≡◌, ℕ, zero, suc, ◌-◌, ◌<◌, ◌≤◌, List, [], ◌∷◌, ◌++◌, map, length, get_or, Option, None, subst, refl, sym, ap, ◌∙◌, arith}
use Rattle.std.specs.Prelude.{slice_get, option_and_then}
use Rattle.std.proofs.lemmas.Option.{slice_get_read, slice_get_past}
use Rattle.wasm_ast.specs.declared.values.FuncType.{FuncType}
use Rattle.wasm_ast.specs.declared.module.Import.{Import}
use Rattle.wasm_ast.specs.declared.module.Func.{Func}
use Rattle.wasm_ast.specs.declared.module.Module.{Module}
use Rattle.wasm_ast.specs.Types.{func_types, type_at}

front : (xs ys : List (Option FuncType)) (k : ℕ) → k < length xs → type_at (xs ++ ys) k ≡ type_at xs k
front [] ys k h = absurd (omega arith)
front (x ∷ xs) ys zero h = refl
front (x ∷ xs) ys (suc k) h = front xs ys k (omega arith)

back : (xs ys : List (Option FuncType)) (k : ℕ) → length xs ≤ k → type_at (xs ++ ys) k ≡ type_at ys (k - length xs)
back [] ys k h = let e : k - 0 ≡ k = omega arith in rw e
back (x ∷ xs) ys zero h = absurd (omega arith)
back (x ∷ xs) ys (suc k) h =
    let e : suc k - suc (length xs) ≡ k - length xs = omega arith in rw e (back xs ys k (omega arith))

mapped :
    {A : Type 0} (f : A → Option FuncType) (xs : List A) (k : ℕ)
    → type_at (map f xs) k ≡ option_and_then f (slice_get xs k)
mapped f [] k = refl
mapped f (x ∷ xs) zero = refl
mapped f (x ∷ xs) (suc k) = mapped f xs k

long : {A B : Type 0} (f : A → B) (xs : List A) → length (map f xs) ≡ length xs
long f [] = refl
long f (x ∷ xs) = ap suc (long f xs)

-- the type of an import
pub import_type :
    (m : Module) (k : ℕ) (i : Import) → k < length m.imports → i ≡ get_or m.imports k i
    → type_at (func_types m) k ≡ slice_get m.types i.type_index
import_type m k i h e =
    let imports = map (λ (i : Import). slice_get m.types i.type_index) m.imports in
    let n : k < length imports = omega (arith, long (λ (i : Import). slice_get m.types i.type_index) m.imports) in
    front imports (map (λ (f : Func). slice_get m.types f.type_index) m.funcs) k n
    ∙ (mapped (λ (i : Import). slice_get m.types i.type_index) m.imports k
    ∙ ap (option_and_then (λ (i : Import). slice_get m.types i.type_index))
    (slice_get_read m.imports (length m.imports) k i refl h e))

-- the type of a function of the module's own
pub own_type :
    (m : Module) (k : ℕ) → length m.imports ≤ k
    → type_at (func_types m) k
    ≡ option_and_then (λ (f : Func). slice_get m.types f.type_index) (slice_get m.funcs (k - length m.imports))
own_type m k h =
    let imports = map (λ (i : Import). slice_get m.types i.type_index) m.imports in
    let l : length imports ≡ length m.imports = long (λ (i : Import). slice_get m.types i.type_index) m.imports in
    let n : length imports ≤ k = omega arith in
    back imports (map (λ (f : Func). slice_get m.types f.type_index) m.funcs) k n
    ∙ (ap (λ j. type_at (map (λ (f : Func). slice_get m.types f.type_index) m.funcs) (k - j)) l
    ∙ mapped (λ (f : Func). slice_get m.types f.type_index) m.funcs (k - length m.imports))

-- what is read at an index tells the type of the function there
pub read_import :
    (m : Module) (imports : List Import) (k : ℕ) (i : Import) → imports ≡ m.imports → k < length imports
    → i ≡ get_or imports k i → type_at (func_types m) k ≡ slice_get m.types (get_or imports k i).type_index
read_import m imports k i e h r =
    import_type m k i (subst (λ (is : List Import). k < length is) e h) (r ∙ ap (λ (is : List Import). get_or is k i) e)
    ∙ ap (λ (x : Import). slice_get m.types x.type_index) r

pub read_own :
    (m : Module) (imports : List Import) (funcs : List Func) (k : ℕ) (f : Func) → imports ≡ m.imports → funcs ≡ m.funcs
    → length imports ≤ k → k - length imports < length funcs → f ≡ get_or funcs (k - length imports) f
    → type_at (func_types m) k ≡ slice_get m.types (get_or funcs (k - length imports) f).type_index
read_own m imports funcs k f e g past within r =
    own_type m k (subst (λ (is : List Import). length is ≤ k) e past)
    ∙ (ap (option_and_then (λ (x : Func). slice_get m.types x.type_index))
    (ap (λ (is : List Import). slice_get m.funcs (k - length is)) (sym e)
    ∙ (ap (λ (fs : List Func). slice_get fs (k - length imports)) (sym g)
    ∙ slice_get_read funcs (length funcs) (k - length imports) f refl within r))
    ∙ ap (λ (x : Func). slice_get m.types x.type_index) r)

pub read_none :
    (m : Module) (imports : List Import) (funcs : List Func) (k : ℕ) → imports ≡ m.imports → funcs ≡ m.funcs
    → length imports ≤ k → length funcs ≤ k - length imports → type_at (func_types m) k ≡ None
read_none m imports funcs k e g past beyond =
    own_type m k (subst (λ (is : List Import). length is ≤ k) e past)
    ∙ ap (option_and_then (λ (x : Func). slice_get m.types x.type_index))
    (ap (λ (is : List Import). slice_get m.funcs (k - length is)) (sym e)
    ∙ (ap (λ (fs : List Func). slice_get fs (k - length imports)) (sym g)
    ∙ slice_get_past funcs (k - length imports) beyond))
