-- Words that are looked up in one list after the other.
use Rattle.std.proofs.Common.{◌≡◌, ℕ, List, [], ◌∷◌, ◌++◌, map, Option, Some, None, Bool, true, false, bytes_eq, if◌then◌else◌, refl, ap, ◌∙◌}
use Rattle.wasm_binary.specs.Tables.{all_conversions}
use Rattle.text_assembler.specs.declared.keyword.Keyword.{Keyword}
use Rattle.text_assembler.specs.declared.keyword.Keyword.TheVariants as keyword
use Rattle.wasm_ast.specs.declared.values.ValType.TheVariants as type
use Rattle.text_assembler.specs.Words.{keyword_word, find_word, keyword_of, controls, accesses, numerics}

abbrev pub conversions : List Keyword
conversions = map keyword.Convert all_conversions

abbrev pub or_else : Option Keyword → Option Keyword → Option Keyword
or_else None other = other
or_else (Some k) other = Some k

found_by :
    (b : Bool) (k : Keyword) (first second whole : Option Keyword) → whole ≡ or_else first second
    → (if b then Some k else whole) ≡ or_else (if b then Some k else first) second
found_by true k first second whole h = refl
found_by false k first second whole h = h

pub found_among :
    (ks ls : List Keyword) (word : List ℕ) → find_word (ks ++ ls) word ≡ or_else (find_word ks word) (find_word ls word)
unfolding find_word
found_among [] ls word = refl
found_among (k ∷ ks) ls word =
    found_by (bytes_eq (keyword_word k) word) k (find_word ks word) (find_word ls word) (find_word (ks ++ ls) word)
    (found_among ks ls word)

pub keyword_is :
    (word : List ℕ)
    → keyword_of word
    ≡ or_else (find_word controls word)
    (or_else (find_word accesses word)
    (or_else (find_word (numerics type.I32) word)
    (or_else (find_word (numerics type.I64) word) (find_word conversions word))))
unfolding keyword_of
keyword_is word =
    found_among controls (accesses ++ numerics type.I32 ++ numerics type.I64 ++ conversions) word
    ∙ ap (or_else (find_word controls word))
    (found_among accesses (numerics type.I32 ++ numerics type.I64 ++ conversions) word
    ∙ ap (or_else (find_word accesses word)) (found_among (numerics type.I32) (numerics type.I64 ++ conversions) word
    ∙ ap (or_else (find_word (numerics type.I32) word)) (found_among (numerics type.I64) conversions word)))
