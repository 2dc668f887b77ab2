-- A process that no config describes, but a command line: with the same demands on its arguments, its
-- environment and the limit on its memory (OCI Runtime Specification 1.0: config.md, section Process;
-- config-linux.md, section Memory).
use Rattle.std.specs.Prelude.{ℕ, ◌+◌, ◌/◌, min, List, [], Bool, ◌&&◌, nat_le, Option, Some, None}
use Rattle.linear_memory.specs.Memory.{page_bytes, max_pages}
use Rattle.oci_config.specs.declared.process.ProcessConfig.{ProcessConfig}
use Rattle.oci_config.specs.Limits.{max_text_bytes, default_pages}
use Rattle.oci_config.specs.Config.{bytes_of, are_arguments, are_entries}

-- a process may have these arguments with this environment
abbrev pub are_taken : (args env : List (List ℕ)) → Bool
are_taken args env =
    are_arguments args && are_entries env && nat_le (bytes_of args + bytes_of env) max_text_bytes

-- the most pages of a memory under a limit in bytes, if there is one
abbrev pub pages_under : (limit : Option ℕ) → ℕ
pages_under None = default_pages
pages_under (Some bytes) = min (bytes / page_bytes) max_pages

-- what the process is configured with: no config names its module, so its digest is empty
abbrev pub process_under : (args env : List (List ℕ)) → (limit : Option ℕ) → ProcessConfig
process_under args env limit =
    record { «module» = []; args = args; env = env; cap = pages_under limit }
