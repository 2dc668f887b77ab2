-- Values for computed instances of the demands on a config.
use Rattle.std.specs.Prelude.{ℕ, List, [], ◌∷◌, ◌++◌, codes, replicate}
use Rattle.serde_json.specs.Data.{Data, object, no_members, member}
use Rattle.oci_config.specs.declared.process.ProcessConfig.{ProcessConfig}

-- the part for a process, with this environment
abbrev pub with_env : Data → Data
with_env env = object (member (codes "env") env no_members)

-- a config with this part for Linux
abbrev pub with_linux : Data → Data
with_linux linux = object (member (codes "linux") linux no_members)

-- a config with this part for the memory
abbrev pub with_memory : Data → Data
with_memory memory =
    with_linux
    (object
    (member (codes "resources")
    (object (member (codes "memory") memory no_members)) no_members))

-- ---- whole configs

-- the digest of 64 zeros
abbrev pub zeros : List ℕ
zeros = codes "sha256:" ++ replicate 64 48

-- a text of a config, with these further members of its process and of itself
abbrev pub config_with : (in_process beside : List ℕ) → List ℕ
config_with in_process beside =
    codes "{\"ociVersion\":\"1.0.2\",\"annotations\":{\"dev.shim.module\":\"" ++ zeros
    ++ codes "\"},\"process\":{\"args\":[\"a\"],\"cwd\":\"/\"" ++ in_process ++ codes "}"
    ++ beside ++ codes "}"

-- its process, with this environment and cap
abbrev pub asked_with : List (List ℕ) → ℕ → ProcessConfig
asked_with env cap = record { «module» = zeros; args = codes "a" ∷ []; env = env; cap = cap }
