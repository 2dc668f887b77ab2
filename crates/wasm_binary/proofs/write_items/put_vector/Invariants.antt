use Rattle.std.proofs.Common.{◌≡◌, ◌++◌, length, take}
use Rattle.std.specs.List.{flat_map}
use Rattle.wasm_binary.specs.Canonical.{canon_number}
use Rattle.wasm_binary.proofs.write_items.put_vector.Given as goal

abbrev pub invariant-loop-item : goal.invariant-loop-item
invariant-loop-item g l =
    l.out.items
    ≡ l.fn.out.items ++ (canon_number (length l.items) ++ flat_map g.T.Encode.encoding (take l.item-index l.items))
