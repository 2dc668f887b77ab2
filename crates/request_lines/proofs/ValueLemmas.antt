-- Members that are taken by their keys, in the order of these.
use Rattle.std.proofs.lemmas.Cmp.{nat_list_cmp_total}
use Rattle.std.proofs.lemmas.Bool.{false≢true, not-true}
use Rattle.std.proofs.Common.{◌≡◌, ◌&&◌, ℕ, List, [], ◌∷◌, Bool, true, false, true≢false, Ordering, Less, Equal, Greater, nat_cmp, refl, sym, ap, ◌∙◌}
use Rattle.std.specs.Cmp.Lexicographic.{slice_cmp}
use Rattle.std.specs.Ordering.{is_lt, ordering_reverse}
use Rattle.serde_json.specs.Data.{Data, string, number, unsigned, Members, member, put}
use Rattle.request_lines.specs.declared.table.Key.{Key}
use Rattle.request_lines.specs.declared.table.Slot.{Slot}
use Rattle.request_lines.specs.declared.table.Slot.TheVariants.{Id, Text, First, Second}
use Rattle.request_lines.specs.declared.values.Values.{Values}
use Rattle.request_lines.specs.Table.{key_name, key_slot}
use Rattle.request_lines.specs.Inside.Parse.{without}
use Rattle.request_lines.specs.Inside.Values.{value_in, keyed, is_slot, is_below, IsKeptBut, Taking}

-- ---- names in their order

own_reverse : (o : Ordering) → o ≡ ordering_reverse o → o ≡ Equal
own_reverse Less e = cc
own_reverse Equal e = refl
own_reverse Greater e = cc

same_name : (name : List ℕ) → slice_cmp nat_cmp name name ≡ Equal
same_name name = own_reverse _ (nat_list_cmp_total.antisymm name name)

less : (o : Ordering) → is_lt o ≡ true → o ≡ Less
less Less e = refl
less Equal e = absurd (false≢true e)
less Greater e = absurd (false≢true e)

put_first : (name : List ℕ) (d : Data) (ks : List Key) (v : Values) → is_below name ks ≡ true
    → put name d (keyed ks v) ≡ member name d (keyed ks v)
put_first name d [] v h = refl
put_first name d (k ∷ ks) v h =
    let below : slice_cmp nat_cmp name (key_name k) ≡ Less = less _ h in
    rw below refl

-- ---- slots

and_parts : (a b : Bool) → (a && b) ≡ true → (a ≡ true) × (b ≡ true)
and_parts true b h = (refl, h)
and_parts false b h = absurd (false≢true h)

-- what is kept in the other slots
kept : (t s : Slot) (v w : Values) → IsKeptBut t v w → is_slot s t ≡ false → value_in s w ≡ value_in s v
kept Id Id v w h other = absurd (true≢false other)
kept Id Text v w h other = ap string h.0
kept Id First v w h other = ap (λ n. number (unsigned n)) h.1
kept Id Second v w h other = ap (λ n. number (unsigned n)) h.2
kept Text Id v w h other = ap string h.0
kept Text Text v w h other = absurd (true≢false other)
kept Text First v w h other = ap (λ n. number (unsigned n)) h.1
kept Text Second v w h other = ap (λ n. number (unsigned n)) h.2
kept First Id v w h other = ap string h.0
kept First Text v w h other = ap string h.1
kept First First v w h other = absurd (true≢false other)
kept First Second v w h other = ap (λ n. number (unsigned n)) h.2
kept Second Id v w h other = ap string h.0
kept Second Text v w h other = ap string h.1
kept Second First v w h other = ap (λ n. number (unsigned n)) h.2
kept Second Second v w h other = absurd (true≢false other)

-- ---- key by key

without_first : (name : List ℕ) (d : Data) (ms : Members) → without name (member name d ms) ≡ ms
without_first name d ms = rw (same_name name) refl

pub taking_more :
    (all rest : List Key) (k : Key) (whole left after : Members) (v w : Values) → Taking all (k ∷ rest) whole left v
    → left ≡ put (key_name k) (value_in (key_slot k) w) after → IsKeptBut (key_slot k) v w
    → after ≡ without (key_name k) left → Taking all rest whole after w
taking_more all rest k whole left after v w t taken others rest_is =
    let parts = and_parts _ _ t.row in
    let first = and_parts _ _ parts.0 in
    record {
      row = parts.1;
      onward = λ u d e.
          let same : value_in (key_slot k) u ≡ value_in (key_slot k) w = d.elsewhere (key_slot k) first.0 in
          t.onward u
          (record {
            elsewhere = λ s h.
                let both = and_parts _ _ h in
                d.elsewhere s both.1 ∙ kept (key_slot k) s v w others (not-true _ both.0);
          })
          (taken ∙ (ap (λ x. put (key_name k) x after) (sym same)
          ∙ (ap (put (key_name k) (value_in (key_slot k) u)) e ∙ put_first (key_name k) _ rest u first.1)));
      back = λ u e. rest_is ∙ (ap (without (key_name k)) (t.back u e) ∙ without_first (key_name k) _ _);
    }
