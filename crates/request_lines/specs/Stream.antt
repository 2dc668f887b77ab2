-- How a stream of std fails.
use Rattle.std.specs.Prelude.{◌≡◌, ◌≢◌, ◌⊎◌, ℕ, Option, IsSomeAnd}
use Rattle.std.specs.IoError.{error_kind}
use Rattle.std.specs.declared.io.Error.{Error}
use Rattle.std.specs.declared.io.ErrorKind.TheVariants.{Interrupted}

-- by an error that is no interruption, or because it may be called no more
abbrev pub HasFailed : Option Error → (calls_left : ℕ) → Type 0
HasFailed error calls_left = IsSomeAnd error (λ e. (error_kind e ≢ Interrupted) ⊎ (calls_left ≡ 0))
