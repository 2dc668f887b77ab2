-- Known bytes, as they are read piece by piece.
use Rattle.std.proofs.Common.{◌≡◌, ◌≢◌, ◌<◌, length, ℕ, List, [], ◌∷◌, ◌++◌, ◌==◌, Option, None, Some, true, false, subst, arith, append_assoc, sym, ap, ◌∙◌, refl}
use Rattle.std.specs.Io.KnownBytes.{Consumes, Keeps, IsAtEnd, prepend_known}
use Rattle.request_lines.specs.Input.{IsKept, TakesLine, HasNoFeed}
use Rattle.request_lines.specs.Inside.Pieces.{TakesPiece, ReadsPiece, IsProgress}
use Rattle.request_lines.specs.declared.line_reader.Progress.{Progress}
use Rattle.request_lines.specs.declared.line_reader.Progress.TheVariants.{Found, More, End}
use Rattle.std.proofs.lemmas.List.{append-nil}
use Rattle.std.proofs.lemmas.Bool.Decides.{nat_tests}
use Rattle.request_lines.specs.Lines.{lines_of}
use Rattle.request_lines.specs.Shape.{max_line_bytes}

pub consumes_to_feed : (left old : Option (List ℕ)) (bytes rest piece : List ℕ) → Keeps old (prepend_known bytes left)
    → TakesPiece true bytes rest piece → Consumes old (prepend_known rest left) (piece ++ 10 ∷ [])
consumes_to_feed None None bytes rest piece keeps takes = tt
consumes_to_feed None (Some xs) bytes rest piece keeps takes = absurd keeps
consumes_to_feed (Some r) None bytes rest piece keeps takes = tt
consumes_to_feed (Some r) (Some xs) bytes rest piece keeps takes =
    sym keeps ∙ (ap (λ b. b ++ r) takes.split
    ∙ (append_assoc piece (10 ∷ rest) r ∙ sym (append_assoc piece (10 ∷ []) (rest ++ r))))

no_feed_append : (a b : List ℕ) → HasNoFeed a → HasNoFeed b → HasNoFeed (a ++ b)
no_feed_append [] b h g = g
no_feed_append (x ∷ a) b h g = (h.0, no_feed_append a b h.1 g)

pub consumes_more : (old new next : Option (List ℕ)) (a b : List ℕ) → Consumes old new a → Consumes new next b
    → Consumes old next (a ++ b)
consumes_more None new next a b h g = tt
consumes_more (Some xs) None next a b h g = absurd h
consumes_more (Some xs) (Some ys) None a b h g = absurd g
consumes_more (Some xs) (Some ys) (Some zs) a b h g = h ∙ (ap (λ r. a ++ r) g ∙ sym (append_assoc a b zs))

differs : (b : ℕ) → b ≢ 10 → (b == 10) ≡ false
differs b h = grind (arith, nat_tests)

lines_of_more : (line rest : List ℕ) → HasNoFeed line → lines_of (line ++ 10 ∷ rest) ≡ line ∷ lines_of rest
lines_of_more [] rest h = refl
lines_of_more (x ∷ line) rest h = rw (differs x h.0, lines_of_more line rest h.1) refl

lines_of_last : (x : ℕ) (line : List ℕ) → HasNoFeed (x ∷ line) → lines_of (x ∷ line) ≡ (x ∷ line) ∷ []
lines_of_last x [] h = rw (differs x h.0) refl
lines_of_last x (y ∷ line) h = rw (differs x h.0, lines_of_last y line h.1) refl

-- what a loop over the pieces of a line has found so far
pub record Gathers (old now : Option (List ℕ)) (kept : Option (List ℕ)) : Type 0 where
  pub got : List ℕ
  pub plain : HasNoFeed got
  pub held : IsKept kept got
  pub bytes : Consumes old now got

pub gathers_more : (old now next : Option (List ℕ)) (was : Option (List ℕ)) (kept : Option (List ℕ))
    → Gathers old now was → (step : Progress) → ReadsPiece step now next was kept → step ≡ More → Gathers old next kept
gathers_more old now next was kept g step s is = record {
  got = g.got ++ s.piece;
  plain = no_feed_append g.got s.piece g.plain s.plain;
  held = s.adds g.got g.held;
  bytes = consumes_more old now next g.got s.piece g.bytes (subst (λ x. IsProgress x now next s.piece) is s.bytes);
}

takes_line : (old new : Option (List ℕ)) (line : List ℕ) → HasNoFeed line → Consumes old new (line ++ 10 ∷ [])
    → TakesLine old new line
takes_line None new line h g = tt
takes_line (Some xs) None line h g = g
takes_line (Some xs) (Some ys) line h g = ap lines_of (g ∙ append_assoc line (10 ∷ []) ys) ∙ lines_of_more line ys h

pub takes_found : (old now next : Option (List ℕ)) (was : Option (List ℕ)) (kept : Option (List ℕ))
    → Gathers old now was → (step : Progress) → ReadsPiece step now next was kept → step ≡ Found
    → (text : List ℕ) × IsKept kept text × TakesLine old next text × Consumes old next (text ++ 10 ∷ [])
takes_found old now next was kept g step s is =
    let all =
    consumes_more old now next g.got (s.piece ++ 10 ∷ []) g.bytes
    (subst (λ x. IsProgress x now next s.piece) is s.bytes) in
    let whole : Consumes old next ((g.got ++ s.piece) ++ 10 ∷ []) =
    subst (Consumes old next) (sym (append_assoc g.got s.piece (10 ∷ []))) all in (
      g.got ++ s.piece,
      s.adds g.got g.held,
      takes_line old next (g.got ++ s.piece) (no_feed_append g.got s.piece g.plain s.plain) whole,
      whole,
    )

takes_last :
    (old new : Option (List ℕ)) (line : List ℕ) → HasNoFeed line → (line ≡ [] → ⊥) → Consumes old new line → IsAtEnd new
    → TakesLine old new line
takes_last None new line h some g end = tt
takes_last (Some xs) None line h some g end = g
takes_last (Some xs) (Some ys) [] h some g end = absurd (some refl)
takes_last (Some xs) (Some ys) (x ∷ line) h some g end =
    ap lines_of (g ∙ (ap (λ r. (x ∷ line) ++ r) end ∙ append-nil (x ∷ line)))
    ∙ (lines_of_last x line h ∙ ap (λ r. (x ∷ line) ∷ lines_of r) (sym end))

pub ends_with_line : (old now next : Option (List ℕ)) (was : Option (List ℕ)) (kept : Option (List ℕ))
    → Gathers old now was → (step : Progress) → ReadsPiece step now next was kept → step ≡ End
    → ((text : List ℕ) → IsKept kept text → text ≡ [] → ⊥)
    → (text : List ℕ) × IsKept kept text × TakesLine old next text
ends_with_line old now next was kept g step s is some =
    let held = s.adds g.got g.held in
    let last = subst (λ x. IsProgress x now next s.piece) is s.bytes in (
      g.got ++ s.piece,
      held,
      takes_last old next (g.got ++ s.piece) (no_feed_append g.got s.piece g.plain s.plain)
          (some (g.got ++ s.piece) held) (consumes_more old now next g.got s.piece g.bytes last.0) last.1,
    )

-- of an empty line nothing is missing
pub kept_nothing : (kept : Option (List ℕ)) (text : List ℕ) → IsKept kept text → text ≡ [] → kept ≡ Some []
kept_nothing None text k e = let long = subst (λ t. max_line_bytes < length t) e k in absurd (omega (arith, long))
kept_nothing (Some bytes) text k e = ap Some (k ∙ e)

-- at the end none of the known bytes are left
pub end_of : (old now next : Option (List ℕ)) (was : Option (List ℕ)) (kept : Option (List ℕ))
    → Gathers old now was → (step : Progress) → ReadsPiece step now next was kept → step ≡ End → IsAtEnd next
end_of old now next was kept g step s is = (subst (λ x. IsProgress x now next s.piece) is s.bytes).1
