-- What `?` hands on when the error's type stays the same.
use Rattle.std.proofs.Common.{◌≡◌, true≢false, Ok, Err, sym, ap}
use Rattle.std.specs.Prelude.{Result}
use Rattle.std.specs.Result.{IsErr, IsErrAnd}

pub residual : {T E : Type 0} (r : Result T E) (e : E) → IsErr r → IsErrAnd r (λ x. x ≡ e) → r ≡ Err e
residual (Ok t) e is same = absurd (true≢false (sym is))
residual (Err x) e is same = ap Err same
