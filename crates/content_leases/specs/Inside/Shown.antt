-- What contracts see of contents and leases.
use Rattle.std.specs.Prelude.{ℕ, List, String, string_bytes, map}
use Rattle.std.specs.Global.{Global}
use Rattle.std.specs.Arc.{arc_value}
use Rattle.std.specs.declared.sync.Arc.{Arc}
use Rattle.content_leases.specs.StoreState.{Content, Lease}

-- contents, and how many more fit with no memory taken
pub record ContentsValue : Type 0 where
  pub contents : List Content
  pub room : ℕ

abbrev pub content_of : String Global × Arc (List ℕ) Global → Content
content_of e = record { digest = string_bytes e.0; bytes = arc_value e.1 }

abbrev pub contents_of : List (String Global × Arc (List ℕ) Global) → List Content
contents_of es = map content_of es

-- leases, and how many more fit with no memory taken
pub record LeasesValue : Type 0 where
  pub leases : List Lease
  pub room : ℕ

abbrev pub lease_of : String Global × List (List ℕ) → Lease
lease_of e = record { name = string_bytes e.0; members = e.1 }

abbrev pub leases_of : List (String Global × List (List ℕ)) → List Lease
leases_of es = map lease_of es

abbrev pub members_of : List (String Global) → List (List ℕ)
members_of ks = map string_bytes ks
