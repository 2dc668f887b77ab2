-- The refusals of each request to the store, in the order in which they are tried.
use Rattle.std.specs.Prelude.{ℕ, List, [], ◌∷◌, length, bytes_eq, nat_le, nat_lt, Bool, not, false, ◌||◌, if◌then◌else◌, Option, Some, None, is_some, is_none}
use Rattle.wasm_ast.specs.declared.refusal.Refusal.{Refusal}
use Rattle.wasm_ast.specs.declared.refusal.Refusal.TheVariants as refusal
use Rattle.wasm_ast.specs.Limits.{max_module_bytes}
use Rattle.content_leases.specs.Limits.{max_contents, max_leases, max_members}
use Rattle.wasm_ast.specs.Identifiers.{is_id, is_digest}
use Rattle.content_leases.specs.Digests.{digest_of}
use Rattle.content_leases.specs.StoreState.{StoreState, content_in, lease_in, is_among, is_held}

-- refusals, each with the condition under which it is answered
abbrev pub Refusals : Type 0
Refusals = List (Bool × Refusal)

-- the first whose condition holds
abbrev pub first_refusal : Refusals → Option Refusal
first_refusal [] = None
first_refusal (c ∷ cs) = if c.0 then Some c.1 else first_refusal cs

abbrev pub is_bytes : List ℕ → Option (List ℕ) → Bool
is_bytes bytes None = false
is_bytes bytes (Some stored) = bytes_eq stored bytes

abbrev pub put_refusals : StoreState → (bytes : List ℕ) → Refusals
put_refusals s bytes =
    (nat_lt max_module_bytes (length bytes), refusal.Limit)
    ∷ (is_bytes bytes (content_in s.contents (digest_of bytes)), refusal.Exists)
    ∷ (is_some (content_in s.contents (digest_of bytes)), refusal.DigestConflict)
    ∷ (nat_le max_contents (length s.contents), refusal.TooMany) ∷ []

abbrev pub remove_refusals : (used : List (List ℕ)) → StoreState → (digest : List ℕ) → Refusals
remove_refusals used s digest =
    (not (is_digest digest), refusal.BadId)
    ∷ (is_none (content_in s.contents digest), refusal.NoContent)
    ∷ (is_held used s.leases digest, refusal.InUse) ∷ []

abbrev pub lease_create_refusals : StoreState → (name : List ℕ) → Refusals
lease_create_refusals s name =
    (not (is_id name), refusal.BadId)
    ∷ (is_some (lease_in s.leases name), refusal.Exists)
    ∷ (nat_le max_leases (length s.leases), refusal.TooMany) ∷ []

-- the lease's members have the digest
abbrev pub is_member : (digest : List ℕ) → Option (List (List ℕ)) → Bool
is_member digest None = false
is_member digest (Some members) = is_among digest members

-- no other digest fits in the lease
abbrev pub is_full : Option (List (List ℕ)) → Bool
is_full None = false
is_full (Some members) = nat_le max_members (length members)

abbrev pub lease_add_refusals : StoreState → (digest name : List ℕ) → Refusals
lease_add_refusals s digest name =
    (not (is_digest digest) || not (is_id name), refusal.BadId)
    ∷ (is_none (lease_in s.leases name), refusal.NotFound)
    ∷ (is_none (content_in s.contents digest), refusal.NoContent)
    ∷ (is_member digest (lease_in s.leases name), refusal.Exists)
    ∷ (is_full (lease_in s.leases name), refusal.TooMany) ∷ []

abbrev pub lease_delete_refusals : StoreState → (name : List ℕ) → Refusals
lease_delete_refusals s name =
    (not (is_id name), refusal.BadId) ∷ (is_none (lease_in s.leases name), refusal.NotFound) ∷ []
