use Rattle.std.proofs.Common.{◌≡◌, ◌++◌}
use Rattle.content_leases.specs.StoreState.{StoreState, unheld}
use Rattle.content_leases.specs.Inside.Shown.{contents_of}
use Rattle.content_leases.proofs.contents.unheld_in.Given as goal

-- those before are the digests so far
abbrev pub invariant-loop-digest : goal.invariant-loop-digest
invariant-loop-digest l =
    let store : (_ → StoreState) = λ es. record { contents = contents_of es; leases = l.leases.leases } in
    unheld l.used (store l.map.entries) ≡ l.digests.items ++ unheld l.used (store l.digest-iterator)
