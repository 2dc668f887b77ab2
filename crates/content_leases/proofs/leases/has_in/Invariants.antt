use Rattle.std.proofs.Common.{◌≡◌}
use Rattle.content_leases.specs.StoreState.{is_leased}
use Rattle.content_leases.specs.Inside.Shown.{leases_of}
use Rattle.content_leases.proofs.leases.has_in.Given as goal

-- none of those before has the digest
abbrev pub invariant-loop-name : goal.invariant-loop-name
invariant-loop-name l = is_leased (leases_of l.map.entries) l.digest ≡ is_leased (leases_of l._name-iterator) l.digest
