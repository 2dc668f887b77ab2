-- What a command writes with `--explain`: what it writes without, and after a refusal a line that says why.
use Rattle.std.specs.Prelude.{◌≡◌, ◌≢◌, ◌⊎◌, ℕ, List, ◌++◌, All, Bool, MatchBool, codes}
use Rattle.wasm_ast.specs.declared.refusal.Refusal.{Refusal}
use Rattle.file_commands.specs.declared.ran.Ran.{Ran}
use Rattle.file_commands.specs.Ran.{line}

-- a text has no line feed
abbrev pub IsOneLine : List ℕ → Type 0
IsOneLine = All (λ b. b ≢ 10)

-- the line of a reason, after what is on standard error; standard output and status stay
abbrev pub because : Ran → (reason : List ℕ) → Ran
because ran reason = record ran { err = ran.err ++ line (codes "why: " ++ reason) }

-- the same, or with the line of some reason
abbrev pub IsToldWhy : (plain ran : Ran) → Type 0
IsToldWhy plain ran =
    (ran ≡ plain) ⊎ ((reason : List ℕ) × IsOneLine reason × (ran ≡ because plain reason))

-- one of these, or what is written for a refusal, which is one of these, with the line of some reason
abbrev pub IsExplained : (refuse : Refusal → Ran) → (Ran → Type 0) → Ran → Type 0
IsExplained refuse Is ran = Is ran ⊎ ((e : Refusal) × Is (refuse e) × IsToldWhy (refuse e) ran)

-- with an explanation, or without
abbrev pub IsToldBy : (explain : Bool) → (refuse : Refusal → Ran) → (Ran → Type 0) → Ran → Type 0
IsToldBy explain refuse Is ran = MatchBool explain (IsExplained refuse Is ran) (Is ran)

-- the output and the status of one of these, and on standard error what is there and then perhaps more
abbrev pub AnswersAs : (Ran → Type 0) → Ran → Type 0
AnswersAs Is ran = (plain : Ran) × Is plain × (ran.out ≡ plain.out) × (ran.status ≡ plain.status)
    × ((later : List ℕ) × (ran.err ≡ plain.err ++ later))
