-- Contents, leases, and what is held.
use Rattle.std.specs.Prelude.{ℕ, List, [], ◌∷◌, ◌++◌, bytes_eq, if◌then◌else◌, Bool, not, ◌||◌, filter, map, Option, Some, None}
use Rattle.std.specs.List.{list_any}
use Rattle.content_leases.specs.Digests.{digest_of}

-- bytes that are stored under their digest
pub record Content : Type 0 where
  pub digest : List ℕ
  pub bytes : List ℕ

-- a lease, and the digests of its members
pub record Lease : Type 0 where
  pub name : List ℕ
  pub members : List (List ℕ)

-- both in order of arrival
pub record StoreState : Type 0 where
  pub contents : List Content
  pub leases : List Lease

abbrev pub empty : StoreState
empty = record { contents = []; leases = [] }

-- ---- contents

-- the bytes that are stored under a digest
abbrev pub content_in : List Content → (digest : List ℕ) → Option (List ℕ)
content_in [] digest = None
content_in (c ∷ cs) digest = if bytes_eq c.digest digest then Some c.bytes else content_in cs digest

-- the store with these bytes, after all others
abbrev pub with_content : StoreState → (bytes : List ℕ) → StoreState
with_content s bytes =
    record s { contents = s.contents ++ record { digest = digest_of bytes; bytes = bytes } ∷ [] }

-- the contents without the one under a digest
abbrev pub remove_content : (digest : List ℕ) → List Content → List Content
remove_content digest [] = []
remove_content digest (c ∷ cs) =
    if bytes_eq c.digest digest then cs else c ∷ remove_content digest cs

abbrev pub without_content : StoreState → (digest : List ℕ) → StoreState
without_content s digest = record s { contents = remove_content digest s.contents }

-- ---- leases

-- the members of the lease with a name
abbrev pub lease_in : List Lease → (name : List ℕ) → Option (List (List ℕ))
lease_in [] name = None
lease_in (l ∷ ls) name = if bytes_eq l.name name then Some l.members else lease_in ls name

-- the store with a lease that has no members, after all others
abbrev pub with_lease : StoreState → (name : List ℕ) → StoreState
with_lease s name = record s { leases = s.leases ++ record { name = name; members = [] } ∷ [] }

-- the leases with a digest added to the one with a name
abbrev pub add_member : (digest name : List ℕ) → List Lease → List Lease
add_member digest name [] = []
add_member digest name (l ∷ ls) =
    if bytes_eq l.name name then record l { members = l.members ++ digest ∷ [] } ∷ ls
    else l ∷ add_member digest name ls

abbrev pub with_member : StoreState → (digest name : List ℕ) → StoreState
with_member s digest name = record s { leases = add_member digest name s.leases }

-- the leases without the one with a name
abbrev pub remove_lease : (name : List ℕ) → List Lease → List Lease
remove_lease name [] = []
remove_lease name (l ∷ ls) = if bytes_eq l.name name then ls else l ∷ remove_lease name ls

abbrev pub without_lease : StoreState → (name : List ℕ) → StoreState
without_lease s name = record s { leases = remove_lease name s.leases }

-- ---- what is held

abbrev pub is_among : (digest : List ℕ) → List (List ℕ) → Bool
is_among digest digests = list_any (λ (d : List ℕ). bytes_eq d digest) digests

-- some lease names it
abbrev pub is_leased : List Lease → (digest : List ℕ) → Bool
is_leased ls digest = list_any (λ (l : Lease). is_among digest l.members) ls

-- some lease or one of these, which tasks have, names it
abbrev pub is_held : (used : List (List ℕ)) → List Lease → (digest : List ℕ) → Bool
is_held used ls digest = is_leased ls digest || is_among digest used

-- the digests of the contents that are not held
abbrev pub unheld : (used : List (List ℕ)) → StoreState → List (List ℕ)
unheld used s =
    map (λ (c : Content). c.digest)
    (filter (λ (c : Content). not (is_held used s.leases c.digest)) s.contents)

-- the store with the contents that are held
abbrev pub collected : (used : List (List ℕ)) → StoreState → StoreState
collected used s =
    record s { contents = filter (λ (c : Content). is_held used s.leases c.digest) s.contents }
