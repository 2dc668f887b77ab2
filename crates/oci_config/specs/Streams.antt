-- The output streams of a process, by their numbers (POSIX).
use Rattle.std.specs.Prelude.{ℕ, nat_eq, if◌then◌else◌, Option, Some, None}
use Rattle.oci_config.specs.declared.stream.Stream.{Stream}
use Rattle.oci_config.specs.declared.stream.Stream.TheVariants as stream

-- the stream with a number, if there is one: standard output is 1, standard error 2
abbrev pub stream_of : (number : ℕ) → Option Stream
stream_of number =
    if nat_eq number 1 then Some stream.Out else (if nat_eq number 2 then Some stream.Err else None)
