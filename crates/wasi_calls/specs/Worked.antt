-- A process and states that worked instances are computed on.
use Rattle.std.specs.Prelude.{ℕ, List, [], ◌∷◌, replicate, codes}
use Rattle.linear_memory.specs.Memory.{Memory}
use Rattle.oci_config.specs.declared.process.ProcessConfig.{ProcessConfig}
use Rattle.wasi_calls.specs.declared.host_end.HostEnd.TheVariants as end
use Rattle.wasi_calls.specs.SystemCalls.{HostState, HostDone}

-- arguments `a` and `bc`, and the environment variable k
abbrev pub two_args : ProcessConfig
two_args = record {
  «module» = [];
  args = codes "a" ∷ codes "bc" ∷ [];
  env =
      codes "k=v" ∷ [];
  cap = 1;
}

abbrev pub nothing_given : ProcessConfig
nothing_given = record { «module» = []; args = []; env = []; cap = 1 }

abbrev pub memory_of : List ℕ → Memory
memory_of bytes = record { bytes = bytes; cap = 1 }

-- nothing is written to the streams yet
abbrev pub fresh : List ℕ → HostState
fresh bytes = record { memory = memory_of bytes; out = []; err = [] }

-- the answer is an error number, and the state has this memory and these streams
abbrev pub answers : (number : ℕ) → (bytes out err : List ℕ) → HostDone
answers number bytes out err =
    record {
      answer = end.Value number;
      state = record {
        memory = memory_of bytes;
        out =
            out;
        err = err;
      };
    }

-- nothing changes but for the memory
abbrev pub puts : (number : ℕ) → (bytes : List ℕ) → HostDone
puts number bytes = answers number bytes [] []

-- a memory that tells of the buffers `hi` and `!`, at 0, which are at 16
abbrev pub told : List ℕ
told = 16 ∷ 0 ∷ 0 ∷ 0 ∷ 2 ∷ 0 ∷ 0 ∷ 0 ∷ 18 ∷ 0 ∷ 0 ∷ 0 ∷ 1 ∷ 0 ∷ 0 ∷ 0 ∷ codes "hi!"

-- a stream that takes one byte more, and one that takes none
abbrev pub nearly_full : List ℕ
nearly_full = replicate 65535 46

abbrev pub full : List ℕ
full = replicate 65536 46
