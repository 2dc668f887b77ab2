-- The newest items of a list whose oldest item comes first.
use Rattle.std.proofs.Common.{◌≡◌, ℕ, ◌-◌, ◌≤◌, List, ◌++◌, take, drop, reverse, length, Bool, true, false, nat_le, refl, sym, ap, ◌∙◌, arith}
use Rattle.std.proofs.lemmas.Bool.Decides.{nat_tests}
use Rattle.std.proofs.lemmas.List.{reverse-append, take-append-drop, length-drop, length-reverse, take_all, drop_all}
use Rattle.std.proofs.Math.Seq.{take-append_seam, drop-append_seam}

module _ {X : Type 0} (xs : List X) (n : ℕ) (few : n ≤ length xs) where
  abbrev older : List X
  older = take (length xs - n) xs

  abbrev newer : List X
  newer = drop (length xs - n) xs

  parts : reverse xs ≡ reverse newer ++ reverse older
  parts = ap (reverse {A = X}) (sym (take-append-drop (length xs - n) xs)) ∙ reverse-append older newer

  pub newer_count : length (reverse newer) ≡ n
  newer_count =
      let a = length-reverse newer in
      let b = length-drop (length xs - n) xs in
      omega (arith, a, b)

  pub newest : reverse newer ≡ take n (reverse xs)
  newest =
      sym (take-append_seam (reverse newer) (reverse older))
      ∙ (ap (λ k. take k (reverse newer ++ reverse older)) newer_count ∙ ap (take n) (sym parts))

  pub all_but_newest : reverse older ≡ drop n (reverse xs)
  all_but_newest =
      sym (drop-append_seam (reverse newer) (reverse older))
      ∙ (ap (λ k. drop k (reverse newer ++ reverse older)) newer_count ∙ ap (drop n) (sym parts))

-- all of them, if there are not as many
module _ {X : Type 0} (xs : List X) (n : ℕ) (more : length xs ≤ n) where
  none_left : length xs - n ≡ 0
  none_left = omega arith

  all_newest : reverse (drop (length xs - n) xs) ≡ take n (reverse xs)
  all_newest =
      ap (λ k. reverse (drop k xs)) none_left
      ∙ sym (take_all n (reverse xs) (let a = length-reverse xs in omega (arith, a, more)))

  none_older : reverse (take (length xs - n) xs) ≡ drop n (reverse xs)
  none_older =
      ap (λ k. reverse (take k xs)) none_left
      ∙ sym (drop_all n (reverse xs) (let a = length-reverse xs in omega (arith, a, more)))

module _ {X : Type 0} (xs : List X) (n : ℕ) where
  pub newest_of : reverse (drop (length xs - n) xs) ≡ take n (reverse xs)
  newest_of = by_count (nat_le n (length xs)) refl
    where
      by_count :
          (b : Bool) → nat_le n (length xs) ≡ b → reverse (drop (length xs - n) xs) ≡ take n (reverse xs)
      by_count true e = let few : n ≤ length xs = grind (arith, nat_tests) in newest xs n few
      by_count false e = let more : length xs ≤ n = grind (arith, nat_tests) in all_newest xs n more

  pub older_than : reverse (take (length xs - n) xs) ≡ drop n (reverse xs)
  older_than = by_count (nat_le n (length xs)) refl
    where
      by_count :
          (b : Bool) → nat_le n (length xs) ≡ b → reverse (take (length xs - n) xs) ≡ drop n (reverse xs)
      by_count true e = let few : n ≤ length xs = grind (arith, nat_tests) in all_but_newest xs n few
      by_count false e = let more : length xs ≤ n = grind (arith, nat_tests) in none_older xs n more
