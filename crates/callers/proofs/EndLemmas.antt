-- The ends and the replies of several callers, and then of others.
use Rattle.std.proofs.Common.{◌≡◌, refl, sym, subst, ap, ◌∙◌, ℕ, List, [], ◌∷◌, ◌++◌, append_assoc, Option, None, Some}
use Rattle.std.proofs.KnownBytes.{Appends-trans}
use Rattle.std.specs.Io.KnownBytes.{Appends}
use Rattle.callers.specs.declared.caller.Driven.{Driven}
use Rattle.callers.specs.Ends.{AllEnded, all_replies}

pub ended_more : {A : Type 0} (how : A → Driven) (xs ys : List (Option A)) → AllEnded how xs → AllEnded how ys
    → AllEnded how (xs ++ ys)
ended_more how [] ys a b = b
ended_more how (None ∷ xs) ys a b = absurd a.0
ended_more how (Some x ∷ xs) ys a b = (a.0, ended_more how xs ys a.1 b)

replies_more : {A : Type 0} (text : A → List ℕ) (xs ys : List (Option A))
    → all_replies text (xs ++ ys) ≡ all_replies text xs ++ all_replies text ys
replies_more text [] ys = refl
replies_more text (None ∷ xs) ys = replies_more text xs ys
replies_more text (Some x ∷ xs) ys =
    ap (λ r. text x ++ r) (replies_more text xs ys)
    ∙ sym (append_assoc (text x) (all_replies text xs) (all_replies text ys))

pub written_more : {A : Type 0} (text : A → List ℕ) (xs ys : List (Option A)) (old now next : Option (List ℕ))
    → Appends old now (all_replies text xs) → Appends now next (all_replies text ys)
    → Appends old next (all_replies text (xs ++ ys))
written_more text xs ys old now next h g =
    subst (Appends old next) (sym (replies_more text xs ys))
    (Appends-trans old now next (all_replies text xs) (all_replies text ys) h g)
