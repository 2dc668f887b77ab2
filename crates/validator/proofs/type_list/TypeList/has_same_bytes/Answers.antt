use Rattle.std.proofs.Common.{◌≡◌, ◌≤◌, ◌*◌, ◌/◌, ◌-◌, length, drop, refl, ap, sym, subst, ◌∙◌, arith}
use Rattle.std.proofs.lemmas.List.{length-drop}
use Rattle.validator.specs.Inside.Packed.{IsRow}
use Rattle.wasm_ast.proofs.SameTypes.{same_types}
use Rattle.validator.proofs.PackedLemmas.{same_rows, same_rest}
use Rattle.validator.proofs.type_list.TypeList.has_same_bytes.Goals as goal

pub returns-then-is_known_same : goal.returns-then-is_known_same
returns-then-is_known_same c = λ same.
    let types = c.args.self.now in
    let others = c.args.other.now in
    let bytes = c.in-Some.bytes in
    let equal : bytes ≡ c.in-Some-bytes.others = c.if-is_known_same.ensures refl in
    let row = c.in-Some.ensures.row in
    let count = c.in-Some.ensures.count in
    let n = (length c.self.inside.types.now - c.args.at) / 8 in
    let fits :
    8 * length bytes ≤ length (drop c.args.at types) =
    omega (arith, count, length-drop c.args.at types, c.requires.at, ap length c.self.view_is) in
    let lengths : length (drop c.args.at types) ≡ length (drop c.args.from others) =
    omega (arith, length-drop c.args.at types, length-drop c.args.from others, c.requires.count) in
    let rest : drop (8 * length bytes) (drop c.args.at types) ≡ drop (8 * length bytes) (drop c.args.from others) =
    ap (λ ts. drop (8 * length bytes) (drop c.args.at ts)) (sym c.self.view_is)
    ∙ (same_rest c.self.inside.types.now c.other.inside.types.now c.args.at c.args.from (8 * length bytes) (8 * n)
    (ap (λ m. 8 * m) count) (same_types _ _ (sym c.are_same_types.ensures ∙ same))
    ∙ ap (λ us. drop (8 * length bytes) (drop c.args.from us)) c.other.view_is) in
    same_rows bytes (drop c.args.at types) (drop c.args.from others) row
    (subst (λ bs. IsRow bs (drop c.args.from others)) (sym equal) c.in-Some-bytes.ensures.row) lengths fits rest
