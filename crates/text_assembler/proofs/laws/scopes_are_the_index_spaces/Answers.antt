use Rattle.std.proofs.Common.{ap}
use Rattle.text_assembler.proofs.IndexSpaces.{Spaces, spaces_are}
use Rattle.text_assembler.proofs.laws.scopes_are_the_index_spaces.Goals as goal

pub returns-clause-signatures : goal.returns-clause-signatures
returns-clause-signatures c = λ ts s m h. ap (λ (n : Spaces). n.0) (spaces_are h.1.0 ts s m h.0 h.1.1)

pub returns-clause-types : goal.returns-clause-types
returns-clause-types c = λ ts s m h. ap (λ (n : Spaces). n.1.0) (spaces_are h.1.0 ts s m h.0 h.1.1)

pub returns-clause-funcs : goal.returns-clause-funcs
returns-clause-funcs c = λ ts s m h. ap (λ (n : Spaces). n.1.1.0) (spaces_are h.1.0 ts s m h.0 h.1.1)

pub returns-clause-tables : goal.returns-clause-tables
returns-clause-tables c = λ ts s m h. ap (λ (n : Spaces). n.1.1.1.0) (spaces_are h.1.0 ts s m h.0 h.1.1)

pub returns-clause-memories : goal.returns-clause-memories
returns-clause-memories c = λ ts s m h. ap (λ (n : Spaces). n.1.1.1.1.0) (spaces_are h.1.0 ts s m h.0 h.1.1)

pub returns-clause-globals : goal.returns-clause-globals
returns-clause-globals c = λ ts s m h. ap (λ (n : Spaces). n.1.1.1.1.1) (spaces_are h.1.0 ts s m h.0 h.1.1)
