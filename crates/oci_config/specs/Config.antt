-- Which process a config asks for, as a function of its JSON value (OCI Runtime Specification 1.0: config.md,
-- sections Specification version, Process and Annotations; config-linux.md, section Memory). Properties that
-- are not named here mean nothing. Demands beyond OCI's are the profile's own: the counts and
-- sizes, the ban on U+0000, the range of numbers, and the key of the module's digest.
use Rattle.std.specs.Prelude.{ℕ, zero, ◌+◌, ◌/◌, min, negsuc, List, [], ◌∷◌, Bool, true, not, ◌&&◌, ◌==◌, nat_le, bytes_eq, codes, length, take, drop, Option, Some, None, is_some, if◌then◌else◌}
use Rattle.std.specs.List.{list_all, list_any}
use Rattle.std.specs.Str.{is_utf8}
use Rattle.serde_json.specs.Data.{Num, unsigned, negative, Data, object, Items, no_items, item, Members, no_members, member}
use Rattle.serde_json.specs.Find.{get, as_str, as_array, as_object, as_number}
use Rattle.serde_json.specs.Read.{read}
use Rattle.serde_json.specs.Written.{has_float}
use Rattle.wasm_ast.specs.Identifiers.{is_digest}
use Rattle.linear_memory.specs.Memory.{page_bytes, max_pages}
use Rattle.oci_config.specs.declared.process.ProcessConfig.{ProcessConfig}
use Rattle.oci_config.specs.Limits.{max_args, max_entries, max_text_bytes, default_pages}

-- the second step, if the first gave a value
infixl 10 ◌>>=◌
abbrev pub ◌>>=◌ : {A B : Type 0} → Option A → (A → Option B) → Option B
None >>= f = None
Some x >>= f = f x

-- the value, if the test holds of it
abbrev pub demand : {A : Type 0} → (A → Bool) → A → Option A
demand test x = if test x then Some x else None

-- ---- properties

-- the text at that key, if there is one
abbrev pub text_at : (key : List ℕ) → Data → Option (List ℕ)
text_at key d = get key d >>= as_str

-- a value that is an object
abbrev pub object_of : Data → Option Data
object_of d = demand (λ value. is_some (as_object value)) d

-- the object at that key, if there is one
abbrev pub object_at : (key : List ℕ) → Data → Option Data
object_at key d = get key d >>= object_of

-- an optional property: what it says where it is present, else what goes for a missing one
abbrev pub optional :
    {A : Type 0} → Option Data → (missing : A) → (present : Data → Option A) → Option A
optional None missing present = Some missing
optional (Some d) missing present = present d

-- an optional object: where it is missing, all that it could say is missing
abbrev pub part_at : (key : List ℕ) → Data → Option Data
part_at key d = optional (get key d) (object no_members) object_of

-- ---- texts

abbrev pub begins : (front text : List ℕ) → Bool
begins front text = bytes_eq (take (length front) text) front

-- a text without U+0000
abbrev pub is_plain : List ℕ → Bool
is_plain text = not (list_any (λ byte. byte == 0) text)

-- a text with = after at least one character
abbrev pub is_entry : List ℕ → Bool
is_entry text = list_any (λ byte. byte == 61) (drop 1 text)

-- the texts of a list, if all its items are texts
abbrev pub texts_in : Items → Option (List (List ℕ))
texts_in no_items = Some []
texts_in (item d ds) = do
  text ← as_str d
  texts ← texts_in ds
  Some (text ∷ texts)

-- all members are texts
abbrev pub are_texts : Members → Bool
are_texts no_members = true
are_texts (member key d ms) = is_some (as_str d) && are_texts ms

-- the bytes of texts, one more counted for each
abbrev pub bytes_of : List (List ℕ) → ℕ
bytes_of [] = 0
bytes_of (text ∷ texts) = length text + 1 + bytes_of texts

-- ---- the demands, each with what it gives

-- the version of the specification, 1.something
abbrev pub version_at : (config : Data) → Option (List ℕ)
version_at config = text_at (codes "ociVersion") config >>= demand (begins (codes "1."))

-- the working directory: an absolute path without U+0000
abbrev pub directory_at : (process : Data) → Option (List ℕ)
directory_at process =
    text_at (codes "cwd") process >>= demand (λ cwd. begins (codes "/") cwd && is_plain cwd)

-- 1 to 64 texts without U+0000
abbrev pub are_arguments : List (List ℕ) → Bool
are_arguments texts =
    nat_le 1 (length texts) && nat_le (length texts) max_args && list_all is_plain texts

abbrev pub args_at : (process : Data) → Option (List (List ℕ))
args_at process = get (codes "args") process >>= as_array >>= texts_in >>= demand are_arguments

-- at most 64 texts without U+0000, each with = after at least one character
abbrev pub are_entries : List (List ℕ) → Bool
are_entries texts =
    nat_le (length texts) max_entries && list_all is_plain texts && list_all is_entry texts

abbrev pub entries_in : (list : Data) → Option (List (List ℕ))
entries_in list = as_array list >>= texts_in >>= demand are_entries

-- the environment, which is optional
abbrev pub env_at : (process : Data) → Option (List (List ℕ))
env_at process = optional (get (codes "env") process) [] entries_in

-- the digest of the module: all annotations are texts, and one of them names it
abbrev pub module_at : (config : Data) → Option (List ℕ)
module_at config = do
  annotations ← get (codes "annotations") config
  members ← as_object annotations >>= demand are_texts
  text_at (codes "dev.shim.module") annotations >>= demand is_digest

-- the pages of a memory under a limit in bytes: the whole ones in it, at most 256; -1 means no limit
abbrev pub pages_of : Num → Option ℕ
pages_of (unsigned bytes) = Some (min (bytes / page_bytes) max_pages)
pages_of (negative (negsuc zero)) = Some default_pages
pages_of other = None

abbrev pub pages_in : (limit : Data) → Option ℕ
pages_in limit = as_number limit >>= pages_of

-- the most pages of a memory: by the limit of linux.resources.memory, each of which is optional
abbrev pub cap_at : (config : Data) → Option ℕ
cap_at config = do
  linux ← part_at (codes "linux") config
  resources ← part_at (codes "resources") linux
  memory ← part_at (codes "memory") resources
  optional (get (codes "limit") memory) default_pages pages_in

-- the process that a config asks for, if it meets all demands: each number anywhere in it is an integer of
-- 64 bits; arguments and environment have at most 65,536 bytes in all, one more counted for each text
abbrev pub process_of : (config : Data) → Option ProcessConfig
process_of config = do
  integers ← demand (λ value. not (has_float value)) config
  version ← version_at config
  process ← object_at (codes "process") config
  cwd ← directory_at process
  args ← args_at process
  env ← env_at process
  size ← demand (λ bytes. nat_le bytes max_text_bytes) (bytes_of args + bytes_of env)
  digest ← module_at config
  cap ← cap_at config
  Some (record { «module» = digest; args = args; env = env; cap = cap })

-- the process that the bytes of a config ask for: they are UTF-8, and one JSON value (RFC 8259)
abbrev pub process_read : (bytes : List ℕ) → Option ProcessConfig
process_read bytes = demand is_utf8 bytes >>= read >>= process_of
