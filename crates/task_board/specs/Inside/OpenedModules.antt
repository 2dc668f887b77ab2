-- The modules of contents that were decoded and validated.
use Rattle.std.specs.Prelude.{◌≡◌, ◌+◌, ℕ, List, [], ◌∷◌, length, map, bytes_eq, if◌then◌else◌, Option, Some, None, unwrap_or, String, string_bytes}
use Rattle.std.specs.Global.{Global}
use Rattle.wasm_ast.specs.declared.module.Module.{Module}
use Rattle.validator.specs.Typing.{ValidModule}
use Rattle.content_leases.specs.StoreState.{Content, content_in, is_among}
use Rattle.wasm_binary.specs.Spelled.{IsSpelled}

pub record OpenedModule : Type 0 where
  pub digest : List ℕ
  pub «module» : Module

abbrev pub opened_module : String Global × Module → OpenedModule
opened_module e = record { digest = string_bytes e.0; «module» = e.1 }

abbrev pub opened_of : List (String Global × Module) → List OpenedModule
opened_of es = map opened_module es

-- the module of the content under a digest
abbrev pub module_in : List OpenedModule → (digest : List ℕ) → Option Module
module_in [] digest = None
module_in (o ∷ os) digest = if bytes_eq o.digest digest then Some o.module else module_in os digest

-- the bytes spell this valid module
abbrev pub IsOpen : (bytes : List ℕ) → Module → Type 0
IsOpen bytes m = IsSpelled bytes m × ValidModule m

-- it is the valid module of the content under its digest, which is stored
abbrev pub IsOpened : List Content → OpenedModule → Type 0
IsOpened cs o = (bytes : List ℕ) × (content_in cs o.digest ≡ Some bytes) × IsOpen bytes o.module

-- ---- modules that no task uses

-- this number of modules stays open, whatever the bytes of their contents
abbrev pub always_kept : ℕ
always_kept = 4

-- and so do all, if the contents of those that no task uses have at most this number of bytes together
abbrev pub most_idle_bytes : ℕ
most_idle_bytes = 1048576

-- the bytes of a content, unless a task uses it
abbrev pub idle_size : List Content → (used : List (List ℕ)) → (digest : List ℕ) → ℕ
idle_size cs used digest =
    if is_among digest used then 0 else length (unwrap_or (content_in cs digest) [])

abbrev pub idle_bytes : List Content → (used : List (List ℕ)) → List OpenedModule → ℕ
idle_bytes cs used [] = 0
idle_bytes cs used (o ∷ os) = idle_size cs used o.digest + idle_bytes cs used os
