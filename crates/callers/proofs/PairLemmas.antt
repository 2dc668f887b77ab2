-- Lists of pairs that are related.
use Rattle.std.proofs.Common.{◌≡◌, sym, subst, List, [], ◌∷◌, ◌++◌, append-nil, ◌∙◌, length, Result, Ok, Err, IfOk, Option, Some, None, IfSome, option_map, ap}
use Rattle.std.specs.Result.{result_ok}
use native.Mathlib.Omega.{arith}
use Rattle.std.specs.List.{AllZip}

each-snoc : {A B : Type 0} (P : A → B → Type 0) (xs : List A) (ys : List B) (x : A) (y : B) → AllZip P xs ys → P x y
    → AllZip P (xs ++ x ∷ []) (ys ++ y ∷ [])
each-snoc P [] [] x y e p = (p, tt)
each-snoc P [] (z ∷ zs) x y e p = absurd e
each-snoc P (w ∷ ws) [] x y e p = absurd e
each-snoc P (w ∷ ws) (z ∷ zs) x y e p = (e.0, each-snoc P ws zs x y e.1 p)

-- one more pair
pub each-more :
    {A B : Type 0} (P : A → B → Type 0) (xs : List A) (ys more : List B) (x : A) (y : B) → more ≡ ys ++ y ∷ []
    → AllZip P xs ys → P x y → AllZip P (xs ++ x ∷ []) more
each-more P xs ys more x y is e p = subst (AllZip P (xs ++ x ∷ [])) (sym is) (each-snoc P xs ys x y e p)

-- related by what lies between
pub each-through : {A B C : Type 0} (P : A → B → Type 0) (Q : B → C → Type 0) (R : A → C → Type 0)
    → ((x : A) (y : B) (z : C) → P x y → Q y z → R x z)
    → (xs : List A) (ys : List B) (zs : List C) → AllZip P xs ys → AllZip Q ys zs → AllZip R xs zs
each-through P Q R f [] [] [] e d = tt
each-through P Q R f [] [] (z ∷ zs) e d = absurd d
each-through P Q R f [] (y ∷ ys) zs e d = absurd e
each-through P Q R f (x ∷ xs) [] zs e d = absurd e
each-through P Q R f (x ∷ xs) (y ∷ ys) [] e d = absurd d
each-through P Q R f (x ∷ xs) (y ∷ ys) (z ∷ zs) e d = (f x y z e.0 d.0, each-through P Q R f xs ys zs e.1 d.1)

-- what holds of the value of a result holds of it as an option
pub some_of_ok :
    {T E : Type 0} (P : T → Type 0) (r : Result T E) (o : Option T) → o ≡ result_ok r → IfOk r P → IfSome o P
some_of_ok P (Ok x) o e h = subst (λ s. IfSome s P) (sym e) h
some_of_ok P (Err x) o e h = subst (λ s. IfSome s P) (sym e) h

pub ok_map : {T E : Type 0} (P Q : T → Type 0) (r : Result T E) → ((x : T) → P x → Q x) → IfOk r P → IfOk r Q
ok_map P Q (Ok x) f h = f x h
ok_map P Q (Err e) f h = h

-- all of a list that has been passed to its end
pub passed-all : {A : Type 0} (passed rest all : List A) → length rest ≡ 0 → passed ++ rest ≡ all → passed ≡ all
passed-all passed [] all n e = sym (append-nil passed) ∙ e
passed-all passed (x ∷ xs) all n e = absurd (omega arith)

none_is_not : {A : Type 0} (x : A) → None ≡ Some x → ⊥
none_is_not {A} x e = cc

some_is : {A : Type 0} {x y : A} → Some x ≡ Some y → x ≡ y
some_is {A} {x} {y} e = cc

-- what holds of a caller, its thread and its answer
pub joined_is : {C H P A : Type 0} (promise : H → P) (caller : P → C) (Good : C → A → Type 0)
    (c : C) (t : Option H) (a : Option A) → IfSome t (λ h. caller (promise h) ≡ c)
    → IfSome a (λ a'. (p : P) × (option_map promise t ≡ Some p) × Good (caller p) a') → IfSome a (Good c)
joined_is promise caller Good c t None h k = tt
joined_is promise caller Good c (Some h) (Some a) is k = subst (λ x. Good x a) (ap caller (sym (some_is k.1)) ∙ is) k.2
joined_is promise caller Good c None (Some a) is k = absurd (none_is_not k.0 k.1)
