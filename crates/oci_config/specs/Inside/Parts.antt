-- Parts of a config, as the reader goes through them.
use Rattle.std.specs.Prelude.{ℕ, ◌+◌, List, Option, Some, None, not, nat_le, codes}
use Rattle.serde_json.specs.Data.{Data, object, no_members}
use Rattle.serde_json.specs.Find.{get}
use Rattle.serde_json.specs.Written.{has_float}
use Rattle.oci_config.specs.Limits.{max_text_bytes, default_pages}
use Rattle.oci_config.specs.Config.{◌>>=◌, demand, object_at, optional, bytes_of, version_at, directory_at, args_at, env_at, pages_in}

-- a part that may be missing: an object without members then
abbrev pub part_of : Option Data → Data
part_of None = object no_members
part_of (Some d) = d

-- the most pages of a memory, by the part that tells of it
abbrev pub pages_at : (memory : Data) → Option ℕ
pages_at memory = optional (get (codes "limit") memory) default_pages pages_in

-- arguments and environment, of at most 65,536 bytes in all, one more counted for each text
abbrev pub texts_at : (process : Data) → Option (List (List ℕ) × List (List ℕ))
texts_at process = do
  args ← args_at process
  env ← env_at process
  size ← demand (λ bytes. nat_le bytes max_text_bytes) (bytes_of args + bytes_of env)
  Some (args, env)

-- the part that tells of the process, of a config that meets the demands on its outline
abbrev pub outline : (config : Data) → Option Data
outline config = do
  integers ← demand (λ value. not (has_float value)) config
  version ← version_at config
  process ← object_at (codes "process") config
  cwd ← directory_at process
  Some process
