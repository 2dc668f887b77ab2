use Rattle.std.proofs.Common.{◌≡◌, ◌+◌, ◌-◌, ◌≤◌, ℕ, List, drop, take, length, sym, ap, ◌∙◌, arith, length-drop}
use Rattle.std.proofs.lemmas.List.{drop-take, drop-drop, length-take}
use Rattle.request_lines.proofs.line_reader.Chunk.skip.Goals as goal

skipped : (xs : List ℕ) (start end n : ℕ) → start + n ≤ end
    → take (end - (start + n)) (drop (start + n) xs) ≡ drop n (take (end - start) (drop start xs))
skipped xs start end n h =
    let whole : end - start ≡ n + (end - (start + n)) = omega arith in
    let twice : drop n (drop start xs) ≡ drop (start + n) xs = drop-drop n start xs in
    rw whole (sym (drop-take n (end - (start + n)) (drop start xs) ∙ ap (take (end - (start + n))) twice))

fits : (xs : List ℕ) (start end n : ℕ) → start ≤ end → n ≤ length (take (end - start) (drop start xs)) → start + n ≤ end
fits xs start end n h l =
    let known = simp (length-take, length-drop) at l in
    omega arith

pub returns : goal.returns
returns c =
    let b = c.self.inside.buffer.items in
    skipped b c.self.inside.start c.self.inside.end c.args.n
    (fits b c.self.inside.start c.self.inside.end c.args.n c.self.invariant.0 (rw c.self.view_is c.requires))
    ∙ ap (drop c.args.n) c.self.view_is
