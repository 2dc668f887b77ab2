-- How names are found in index spaces.
use Rattle.std.proofs.Common.{◌≡◌, ℕ, zero, suc, ◌+◌, List, [], ◌∷◌, ◌++◌, reverse, replicate, length, Bool, true, false, ◌||◌, Option, Some, None, is_some, Result, Ok, Err, is_ok, if◌then◌else◌, refl, sym, ap, ◌∙◌, bytes_eq, nat_lt, ◌^◌, append_assoc, arith}
use Rattle.std.proofs.lemmas.List.{reverse-append}
use Rattle.std.proofs.lemmas.Map.Text.{is_eq-slice_cmp}
use Rattle.std.specs.Ordering.{is_eq, nat_cmp}
use Rattle.std.specs.Cmp.{eq_by_cmp_equiv}
use Rattle.std.specs.Cmp.Lexicographic.{slice_cmp, bytes_decides, nat_list_cmp_total, nat_list_eq_equiv}
use Rattle.std.specs.Map.{IsKeyTest, AreApart, KeepsOthers, lookup}
use Rattle.std.specs.BTreeMap.{BTreeMap, get_by, UpdatesBy}
use Rattle.text_assembler.specs.declared.fault.Fault.{Fault}
use Rattle.text_assembler.specs.declared.fault.Fault.TheVariants.{Malformed}
use Rattle.text_assembler.specs.declared.places.Places.{Places}
use Rattle.text_assembler.specs.Reading.{◌>>=◌, need}
use Rattle.text_assembler.specs.Numbers.{given}
use Rattle.text_assembler.specs.Names.{Name, Ids, is_id, is_named, is_declared, with_id, position, index_of}
use Rattle.text_assembler.specs.Instructions.{are_nameless}
use Rattle.text_assembler.specs.Inside.Spaces.{place_of, IsIndex}

-- the last is the first of the reversed list
pub innermost : {A : Type 0} (xs : List A) (x : A) → reverse (xs ++ x ∷ []) ≡ x ∷ reverse xs
innermost xs x = reverse-append xs (x ∷ [])

-- ---- maps from names

apart :
    (bs cs ks : List ℕ) → bytes_eq bs cs ≡ false → is_eq (slice_cmp nat_cmp bs ks) ≡ true
    → is_eq (slice_cmp nat_cmp cs ks) ≡ false
apart bs cs ks n y =
    is_eq-slice_cmp cs ks ∙ nat_list_eq_equiv.symm cs ks
    ∙ sym (nat_list_eq_equiv.congr bs ks cs (sym (is_eq-slice_cmp bs ks) ∙ y)) ∙ n

others : {K X : Type 0} (eq : K → K → Bool) (test : K → Bool) (old new : List (K × X)) → KeepsOthers eq test old new
    → (other : K → Bool) → IsKeyTest eq other → AreApart test other → lookup other new ≡ lookup other old
unfolding KeepsOthers
others eq test old new h = h

chosen : {W : Type 0} (f g : List ℕ → W) (bs cs : List ℕ) (w : W) → g bs ≡ w → (bytes_eq bs cs ≡ false → g cs ≡ f cs)
    → (b : Bool) → bytes_eq bs cs ≡ b → g cs ≡ (if b then w else f cs)
chosen f g bs cs w here other true e = ap g (sym ((bytes_decides bs cs).0 e)) ∙ here
chosen f g bs cs w here other false e = other e

-- what is found after a name is put in
pub updated : {K X : Type 0} (items : K → List ℕ) (m n : BTreeMap K X) (bs : List ℕ) (w : Option X)
    → UpdatesBy (λ x y. slice_cmp nat_cmp (items x) (items y)) (λ k. slice_cmp nat_cmp bs (items k)) m n w
    → (cs : List ℕ)
    → get_by (λ k. slice_cmp nat_cmp cs (items k)) n
    ≡ (if bytes_eq bs cs then w else get_by (λ k. slice_cmp nat_cmp cs (items k)) m)
updated items m n bs w h cs =
    chosen (λ ds. get_by (λ k. slice_cmp nat_cmp ds (items k)) m)
    (λ ds. get_by (λ k. slice_cmp nat_cmp ds (items k)) n) bs cs w h.1
    (λ e. others _ _ _ _ h.3 _ (λ x y. (eq_by_cmp_equiv nat_list_cmp_total).congr cs (items x) (items y))
    (λ k. apart bs cs (items k) e))
    (bytes_eq bs cs) refl

-- ---- names in lists

-- entries without identifiers at the front
declared_after : (k : ℕ) (name : Name) (ids : Ids) → is_declared name (replicate k None ++ ids) ≡ is_declared name ids
unfolding is_declared
declared_after zero name ids = refl
declared_after (suc k) name ids = declared_after k name ids

pub nameless_after : (k : ℕ) (ids : Ids) → are_nameless (replicate k None ++ ids) ≡ are_nameless ids
unfolding are_nameless
nameless_after zero ids = refl
nameless_after (suc k) ids = nameless_after k ids

position_after :
    (k before : ℕ) (name : Name) (ids : Ids)
    → position before name (replicate k None ++ ids) ≡ position (before + k) name ids
unfolding position
position_after zero before name ids = let e : before + 0 ≡ before = omega arith in rw e refl
position_after (suc k) before name ids =
    let e :
    before + 1 + k ≡ before + suc k =
    omega arith in position_after k (before + 1) name ids ∙ ap (λ (b : ℕ). position b name ids) e

counted : (before : ℕ) → Result ℕ Fault → Result ℕ Fault
counted before (Ok n) = Ok (before + n)
counted before (Err f) = Err f

next : (before : ℕ) (r : Result ℕ Fault) → counted (before + 1) r ≡ counted before (counted 1 r)
unfolding counted
next before (Ok n) = let e : before + 1 + n ≡ before + (1 + n) = omega arith in ap Ok e
next before (Err f) = refl

position_by :
    (before : ℕ) (b : Bool) (name : Name) (ids : Ids)
    → position (before + 1) name ids ≡ counted (before + 1) (position 0 name ids)
    → position 1 name ids ≡ counted 1 (position 0 name ids)
    → (if b then Ok before else position (before + 1) name ids)
    ≡ counted before (if b then Ok 0 else position 1 name ids)
unfolding counted
position_by before true name ids h one = let e : before ≡ before + 0 = omega arith in ap Ok e
position_by before false name ids h one = h ∙ next before (position 0 name ids) ∙ ap (counted before) (sym one)

-- the place from the front of all is that from the front of these, and those before
position_from : (before : ℕ) (name : Name) (ids : Ids) → position before name ids ≡ counted before (position 0 name ids)
unfolding position counted
position_from before name [] = refl
position_from before name (id ∷ ids) =
    position_by before (is_named name id) name ids (position_from (before + 1) name ids) (position_from 1 name ids)

either : Result ℕ Fault → Bool → ℕ → Result ℕ Fault
either (Ok n) b k = Ok n
either (Err f) b k = if b then Ok k else Err f

last_by : (b : Bool) (before : ℕ) (name : Name) (ids : Ids) (id : Option Name)
    → position (before + 1) name (ids ++ id ∷ [])
    ≡ either (position (before + 1) name ids) (is_named name id) (before + 1 + length ids)
    → (if b then Ok before else position (before + 1) name (ids ++ id ∷ []))
    ≡ either (if b then Ok before else position (before + 1) name ids) (is_named name id) (before + suc (length ids))
unfolding either
last_by true before name ids id h = refl
last_by false before name ids id h =
    let e : before + 1 + length ids ≡ before + suc (length ids) = omega arith in rw (sym e) h

-- an entry at the end is found if none before it has the name
position_last : (before : ℕ) (name : Name) (ids : Ids) (id : Option Name)
    → position before name (ids ++ id ∷ []) ≡ either (position before name ids) (is_named name id) (before + length ids)
unfolding position either
position_last before name [] id = let e : before + 0 ≡ before = omega arith in rw e refl
position_last before name (x ∷ ids) id =
    last_by (is_named name x) before name ids id (position_last (before + 1) name ids id)

found_by :
    (b : Bool) (before : ℕ) (name : Name) (ids : Ids) → is_ok (position (before + 1) name ids) ≡ is_declared name ids
    → is_ok (if b then Ok before else position (before + 1) name ids) ≡ (b || is_declared name ids)
found_by true before name ids h = refl
found_by false before name ids h = h

declared_is : (before : ℕ) (name : Name) (ids : Ids) → is_ok (position before name ids) ≡ is_declared name ids
unfolding position is_declared
declared_is before name [] = refl
declared_is before name (id ∷ ids) = found_by (is_named name id) before name ids (declared_is (before + 1) name ids)

given_ok : (o : Option ℕ) → is_ok (given o) ≡ is_some o
given_ok None = refl
given_ok (Some n) = refl

-- ---- lists with their maps

has_name :
    (p : Places) (ids : Ids) (k : ℕ) (name : Name) → IsIndex p ids
    → is_declared name (replicate k None ++ ids) ≡ is_some (place_of p name)
has_name p ids k name index =
    declared_after k name ids ∙ sym (declared_is 0 name ids) ∙ ap is_ok (sym (index name)) ∙ given_ok (place_of p name)

pub is_there :
    (p : Places) (ids : Ids) (k : ℕ) (name : Name) → IsIndex p ids → is_some (place_of p name) ≡ true
    → with_id (replicate k None ++ ids) (Some name) ≡ Err Malformed
unfolding with_id
is_there p ids k name index e = rw (has_name p ids k name index, e) refl

pub is_added : (p : Places) (ids : Ids) (k : ℕ) (name : Name) → IsIndex p ids → is_some (place_of p name) ≡ false
    → with_id (replicate k None ++ ids) (Some name) ≡ Ok (replicate k None ++ (ids ++ Some name ∷ []))
unfolding with_id
is_added p ids k name index e =
    rw (has_name p ids k name index, e, append_assoc (replicate k None) ids (Some name ∷ [])) refl

unless_named : (r : Result ℕ Fault) (k : ℕ) → either r false k ≡ r
unfolding either
unless_named (Ok n) k = refl
unless_named (Err f) k = refl

position_end :
    (name : Name) (ids : Ids) (id : Option Name)
    → position 0 name (ids ++ id ∷ []) ≡ either (position 0 name ids) (is_named name id) (length ids)
position_end name ids id =
    let k :
    0 + length ids ≡ length ids =
    omega arith in position_last 0 name ids id ∙ ap (either (position 0 name ids) (is_named name id)) k

pub index_nameless : (p : Places) (ids : Ids) → IsIndex p ids → IsIndex p (ids ++ None ∷ [])
index_nameless p ids index name =
    index name ∙ sym (unless_named (position 0 name ids) (length ids)) ∙ sym (position_end name ids None)

found_last : (o : Option ℕ) (k : ℕ) → is_some o ≡ false → given (Some k) ≡ either (given o) true k
unfolding either
found_last None k e = refl
found_last (Some n) k e = cc

index_by :
    (b : Bool) (o : Option ℕ) (r : Result ℕ Fault) (k : ℕ) → given o ≡ r → (b ≡ true → is_some o ≡ false)
    → given (if b then Some k else o) ≡ either r b k
index_by true o r k e new = found_last o k (new refl) ∙ ap (λ (x : Result ℕ Fault). either x true k) e
index_by false o r k e new = e ∙ sym (unless_named r k)

pub index_added : (p q : Places) (ids : Ids) (name : Name) → IsIndex p ids → is_some (place_of p name) ≡ false
    → ((other : Name) → place_of q other ≡ (if bytes_eq name other then Some (length ids) else place_of p other))
    → IsIndex q (ids ++ Some name ∷ [])
index_added p q ids name index new sets other =
    ap given (sets other)
    ∙ index_by (bytes_eq name other) (place_of p other) (position 0 other ids) (length ids) (index other)
    (λ e. ap (λ (x : Name). is_some (place_of p x)) (sym ((bytes_decides name other).0 e)) ∙ new)
    ∙ sym (position_end other ids (Some name))

place_by : (k : ℕ) (o : Option ℕ) (r : Result ℕ Fault) → given o ≡ r → counted k r ≡ (given o >>= λ n. Ok (k + n))
unfolding counted
place_by k None r e = rw (sym e) refl
place_by k (Some n) r e = rw (sym e) refl

-- the index of a name is its place and that many entries before it
pub place_is :
    (p : Places) (ids : Ids) (k : ℕ) (name : Name) → IsIndex p ids
    → position 0 name (replicate k None ++ ids) ≡ (given (place_of p name) >>= λ n. Ok (k + n))
place_is p ids k name index =
    let e : 0 + k ≡ k = omega arith in
    position_after k 0 name ids ∙ ap (λ (b : ℕ). position b name ids) e ∙ position_from k name ids
    ∙ place_by k (place_of p name) (position 0 name ids) (index name)

in_space : (p : Places) (ids : Ids) (k : ℕ) (name : Name) → IsIndex p ids → is_id name ≡ true
    → index_of (replicate k None ++ ids) name
    ≡ ((given (place_of p name) >>= λ n. Ok (k + n)) >>= λ n. need (nat_lt n (2 ^ 32)) (Ok n))
unfolding index_of
in_space p ids k name index e = rw (e, place_is p ids k name index) refl

pub not_in_space :
    (p : Places) (ids : Ids) (k : ℕ) (name : Name) → IsIndex p ids → is_id name ≡ true → place_of p name ≡ None
    → index_of (replicate k None ++ ids) name ≡ Err Malformed
not_in_space p ids k name index e none = in_space p ids k name index e ∙ rw none refl

pub at_place :
    (p : Places) (ids : Ids) (k n : ℕ) (name : Name) → IsIndex p ids → is_id name ≡ true → place_of p name ≡ Some n
    → index_of (replicate k None ++ ids) name ≡ need (nat_lt (k + n) (2 ^ 32)) (Ok (k + n))
at_place p ids k n name index e some = in_space p ids k name index e ∙ rw some refl
