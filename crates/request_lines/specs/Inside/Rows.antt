-- The members of a reply, as they are put one after another.
use Rattle.std.specs.Prelude.{ℕ, List, [], ◌∷◌}
use Rattle.std.specs.Borrow.{Bor}
use Rattle.serde_json.specs.Data.{Data, string, boolean, Members, put}
use Rattle.request_lines.specs.declared.shown.Shown.{Shown}
use Rattle.request_lines.specs.declared.shown.Shown.TheVariants.{Text, Count, Flag}
use Rattle.request_lines.specs.Shape.{count}

abbrev pub shown_data : Shown → Data
shown_data (Text text) = string text.now
shown_data (Count n) = count n
shown_data (Flag flag) = boolean flag

abbrev pub with_rows : List (Bor (List ℕ) × Shown) → Members → Members
with_rows [] ms = ms
with_rows (row ∷ rows) ms = with_rows rows (put row.0.now (shown_data row.1) ms)
