use Rattle.std.proofs.Common.{◌≡◌, drop, length, true}
use Rattle.std.specs.Prelude.{fold}
use Rattle.step_machine.specs.Instantiation.{with_element, are_elements_inside}
use Rattle.step_machine.proofs.store.write_elements.Given as goal

-- the elements that are left lead to the same table, and are inside
abbrev pub invariant-loop-element : goal.invariant-loop-element
invariant-loop-element l = record {
  leads : fold with_element l.table (drop l.element-index l.elements) ≡ fold with_element l.fn.table l.elements;
  inside : are_elements_inside (length l.table) (drop l.element-index l.elements) ≡ true;
}
