-- What contracts see of a store.
use Rattle.std.specs.Prelude.{ℕ}
use Rattle.content_leases.specs.StoreState.{StoreState}

-- the store, and how many more contents and leases fit with no memory taken
pub record StoreValue : Type 0 where
  pub state : StoreState
  pub content_room : ℕ
  pub lease_room : ℕ
