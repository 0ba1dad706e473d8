-- Ids are positions.
use Rattle.std.proofs.Common.{◌≡◌, ◌==◌, ◌<◌, ℕ, suc, ◌+◌, max, Bool, true, false, cond, ◌&&◌, ◌||◌, Option, Some, None, List, [], ◌∷◌, ◌++◌, refl, sym, ◌∙◌, ap, subst, arith}
use Rattle.std.proofs.lemmas.Bool.{eq-eqb, ne_eqb}
use Rattle.std.specs.Prelude.{find}
use Rattle.std.specs.Option.{option_map}
use Rattle.command_tables.specs.declared.types.ObjectType.{ObjectType}
use Rattle.object_model.specs.declared.Object.{Object}
use Rattle.command_tables.specs.Tests.{same_type}
use Rattle.object_model.specs.Objects.{same}
use Rattle.object_model.specs.History.{Birth, born_in}
use Rattle.layer_model.specs.Ids.{is_wrapped, is_bare, next_id}
use Rattle.handle_map.specs.Pairs.{MapEntry, is_pair, values_of, greatest_id, with_values}
use Rattle.chain_model.specs.Tokens.{issued_with, births_before, token_in}
use Rattle.chain_model.specs.Mirrored.{entries_from}
use Rattle.chain_model.proofs.OneByOne.{with_value, AreOnce}
use Rattle.layer_model.proofs.Same.{same_is, same_self, same_sym, type_self}

-- ---- counting

-- one more step past a birth that counts
step : (issues : ObjectType → Bool) (b : Birth) (bs : List Birth) (o : Object) → same b.object o ≡ false → births_before issues (b ∷ bs) o ≡ cond (issues b.object.ty) (suc (births_before issues bs o)) (births_before issues bs o)
step issues b bs o e = rw e refl

here : (issues : ObjectType → Bool) (b : Birth) (bs : List Birth) (o : Object) → same b.object o ≡ true → births_before issues (b ∷ bs) o ≡ 0
here issues b bs o e = rw e refl

-- born in a longer list, by the first
born_rest : (b : Birth) (bs : List Birth) (o : Object) → same b.object o ≡ false → born_in (b ∷ bs) o ≡ born_in bs o
born_rest b bs o e = rw e refl

-- births behind don't matter to what was born
pub before_grown : (issues : ObjectType → Bool) (bs cs : List Birth) (o : Object) → born_in bs o ≡ true → births_before issues (bs ++ cs) o ≡ births_before issues bs o
before_grown issues [] cs o born = cc
before_grown issues (b ∷ bs) cs o born = go (before_grown issues bs cs o) (same b.object o) refl
  where
    go : (born_in bs o ≡ true → births_before issues (bs ++ cs) o ≡ births_before issues bs o) → (t : Bool) → same b.object o ≡ t
        → cond (same b.object o) 0 (cond (issues b.object.ty) (suc (births_before issues (bs ++ cs) o)) (births_before issues (bs ++ cs) o))
        ≡ cond (same b.object o) 0 (cond (issues b.object.ty) (suc (births_before issues bs o)) (births_before issues bs o))
    go ih true e = rw e refl
    go ih false e = ap (λ n. cond (same b.object o) 0 (cond (issues b.object.ty) (suc n) n)) (ih (sym (born_rest b bs o e) ∙ born))

pub token_grown : (bs cs : List Birth) (o : Object) → born_in bs o ≡ true → token_in (bs ++ cs) o ≡ token_in bs o
token_grown bs cs o born = ap (λ n. record { ty = o.ty; number = suc n }) (before_grown (issued_with o.ty) bs cs o born)

-- ---- the entries

-- values of objects that aren't there don't matter
flip_same : (a b : Object) → same b a ≡ false → same a b ≡ false
flip_same a b e = sym (same_sym b a) ∙ e

pub entries_other : {V : Type 0} (issues : ObjectType → Bool) (f : Object → V) (o : Object) (v : V) (n : ℕ) (bs : List Birth) → born_in bs o ≡ false → entries_from issues (with_value f o v) n bs ≡ entries_from issues f n bs
entries_other issues f o v n [] fresh = refl
entries_other {V = V} issues f o v n (b ∷ bs) fresh = go (λ m. entries_other issues f o v m bs) (same b.object o) refl
  where
    go : ((m : ℕ) → born_in bs o ≡ false → entries_from issues (with_value f o v) m bs ≡ entries_from issues f m bs) → (t : Bool) → same b.object o ≡ t → entries_from issues (with_value f o v) n (b ∷ bs) ≡ entries_from issues f n (b ∷ bs)
    go ih true e = let bad : born_in (b ∷ bs) o ≡ true = ap (λ t. t || born_in bs o) e in cc
    go ih false e =
        let rest : born_in bs o ≡ false = sym (born_rest b bs o e) ∙ fresh in
        rw (ih (suc n) rest, ih n rest, flip_same o b.object e) refl

-- the numbers differ
less_ne : (n m : ℕ) → n < m → (n == m) ≡ false
less_ne n m l = ne_eqb n m (λ e. omega (arith, e))

no_match : (a : Bool) (n m : ℕ) → n < m → (a && n == m) ≡ false
no_match true n m l = less_ne n m l
no_match false n m l = refl

-- what is below an id, where a birth may or may not count
abbrev looked : {V : Type 0} → (Object → V) → ℕ → ObjectType → ℕ → Bool → Object → List (MapEntry V) → List (MapEntry V) → Option V
looked f n t m counts x more same = option_map (λ e. e.values) (find (is_pair t m) (cond counts (record { ty = x.ty; id = n; values = f x } ∷ more) same))

-- the entry of a born object stands in its place
pub entry_found : {V : Type 0} (issues : ObjectType → Bool) (f : Object → V) (o : Object) → issues o.ty ≡ true → (bs : List Birth) → born_in bs o ≡ true → (n m : ℕ) → m ≡ n + births_before issues bs o
    → values_of (entries_from issues f n bs) o.ty m ≡ Some (f o)
entry_found issues f o is [] born n m at = cc
entry_found {V = V} issues f o is (b ∷ bs) born n m at = go (λ r k. entry_found issues f o is bs r k m) (same b.object o) refl
  where
    more : List (MapEntry V)
    more = entries_from issues f (suc n) bs

    less : List (MapEntry V)
    less = entries_from issues f n bs

    first : (x : Object) → x ≡ o → m ≡ n → looked f n o.ty m (issues x.ty) x more less ≡ Some (f o)
    first x e k = subst (λ y. looked f n o.ty m (issues y.ty) y more less ≡ Some (f o)) (sym e) (rw (is, type_self o.ty, eq-eqb n m (sym k)) refl)

    other : (born_in bs o ≡ true → (k : ℕ) → m ≡ k + births_before issues bs o → values_of (entries_from issues f k bs) o.ty m ≡ Some (f o))
        → (t : Bool) → issues b.object.ty ≡ t → same b.object o ≡ false → looked f n o.ty m t b.object more less ≡ Some (f o)
    other ih true j e =
        let count : births_before issues (b ∷ bs) o ≡ suc (births_before issues bs o) = step issues b bs o e ∙ ap (λ t. cond t (suc (births_before issues bs o)) (births_before issues bs o)) j in
        rw (no_match (same_type b.object.ty o.ty) n m (omega (arith, at, count))) (ih (sym (born_rest b bs o e) ∙ born) (suc n) (omega (arith, at, count)))
    other ih false j e =
        let count : births_before issues (b ∷ bs) o ≡ births_before issues bs o = step issues b bs o e ∙ ap (λ t. cond t (suc (births_before issues bs o)) (births_before issues bs o)) j in
        ih (sym (born_rest b bs o e) ∙ born) n (omega (arith, at, count))

    go : (born_in bs o ≡ true → (k : ℕ) → m ≡ k + births_before issues bs o → values_of (entries_from issues f k bs) o.ty m ≡ Some (f o))
        → (t : Bool) → same b.object o ≡ t → looked f n o.ty m (issues b.object.ty) b.object more less ≡ Some (f o)
    go ih true e = first b.object (same_is b.object o e) (omega (arith, at, here issues b bs o e))
    go ih false e = other ih (issues b.object.ty) refl e

-- there is no entry of an id below the first
pub entry_absent : {V : Type 0} (issues : ObjectType → Bool) (f : Object → V) (t : ObjectType) (m n : ℕ) → m < n → (bs : List Birth) → values_of (entries_from issues f n bs) t m ≡ None
entry_absent issues f t m n less [] = refl
entry_absent {V = V} issues f t m n less (b ∷ bs) = go (entry_absent issues f t m (suc n) (omega (arith, less)) bs) (entry_absent issues f t m n less bs) (issues b.object.ty)
  where
    above : (a : Bool) → (a && n == m) ≡ false
    above true = ne_eqb n m (λ e. omega (arith, e, less))
    above false = refl

    go : values_of (entries_from issues f (suc n) bs) t m ≡ None → values_of (entries_from issues f n bs) t m ≡ None → (u : Bool) → looked f n t m u b.object (entries_from issues f (suc n) bs) (entries_from issues f n bs) ≡ None
    go ih jh true = rw (above (same_type b.object.ty t)) ih
    go ih jh false = jh

-- the next id is that of the next object
greatest_is : {V : Type 0} (issues : ObjectType → Bool) (f : Object → V) (o : Object) (n : ℕ) (bs : List Birth) → born_in bs o ≡ false → max n (greatest_id (entries_from issues f (suc n) bs)) ≡ n + births_before issues bs o
greatest_is issues f o n [] fresh = omega arith
greatest_is {V = V} issues f o n (b ∷ bs) fresh = go (λ k. greatest_is issues f o k bs) (same b.object o) refl
  where
    counted : ((k : ℕ) → born_in bs o ≡ false → max k (greatest_id (entries_from issues f (suc k) bs)) ≡ k + births_before issues bs o) → (t : Bool) → issues b.object.ty ≡ t → same b.object o ≡ false → born_in bs o ≡ false
        → max n (greatest_id (cond t (record { ty = b.object.ty; id = suc n; values = f b.object } ∷ entries_from issues f (suc (suc n)) bs) (entries_from issues f (suc n) bs))) ≡ n + births_before issues (b ∷ bs) o
    counted ih true j e rest =
        let count : births_before issues (b ∷ bs) o ≡ suc (births_before issues bs o) = step issues b bs o e ∙ ap (λ t. cond t (suc (births_before issues bs o)) (births_before issues bs o)) j in
        let there = ih (suc n) rest in omega (arith, count, there)
    counted ih false j e rest =
        let count : births_before issues (b ∷ bs) o ≡ births_before issues bs o = step issues b bs o e ∙ ap (λ t. cond t (suc (births_before issues bs o)) (births_before issues bs o)) j in
        let there = ih n rest in omega (arith, count, there)

    go : ((k : ℕ) → born_in bs o ≡ false → max k (greatest_id (entries_from issues f (suc k) bs)) ≡ k + births_before issues bs o) → (t : Bool) → same b.object o ≡ t
        → max n (greatest_id (entries_from issues f (suc n) (b ∷ bs))) ≡ n + births_before issues (b ∷ bs) o
    go ih true e = let bad : born_in (b ∷ bs) o ≡ true = ap (λ t. t || born_in bs o) e in cc
    go ih false e = counted ih (issues b.object.ty) refl e (sym (born_rest b bs o e) ∙ fresh)

pub next_is : {V : Type 0} (issues : ObjectType → Bool) (f : Object → V) (o : Object) (bs : List Birth) → born_in bs o ≡ false → next_id (entries_from issues f 1 bs) ≡ suc (births_before issues bs o)
next_is issues f o bs fresh = let g = greatest_is issues f o 0 bs fresh in omega (arith, g)

-- ---- putting

-- an entry put, where a birth may or may not count
abbrev placed : {V : Type 0} → (Object → V) → ℕ → Bool → Object → List (MapEntry V) → List (MapEntry V) → List (MapEntry V)
placed f n counts x more same = cond counts (record { ty = x.ty; id = n; values = f x } ∷ more) same

-- a born object's entry gets the new value
pub put_born : {V : Type 0} (issues : ObjectType → Bool) (f : Object → V) (o : Object) (v : V) → issues o.ty ≡ true → (bs : List Birth) → AreOnce bs → born_in bs o ≡ true → (n m : ℕ) → m ≡ n + births_before issues bs o
    → with_values (entries_from issues f n bs) o.ty m v ≡ entries_from issues (with_value f o v) n bs
put_born issues f o v is [] once born n m at = cc
put_born {V = V} issues f o v is (b ∷ bs) once born n m at = go (λ r k. put_born issues f o v is bs once.1 r k m) (same b.object o) refl
  where
    first : (x : Object) → x ≡ o → born_in bs x ≡ false → m ≡ n
        → with_values (placed f n (issues x.ty) x (entries_from issues f (suc n) bs) (entries_from issues f n bs)) o.ty m v
        ≡ placed (with_value f o v) n (issues x.ty) x (entries_from issues (with_value f o v) (suc n) bs) (entries_from issues (with_value f o v) n bs)
    first x e once_x k =
        let gone : born_in bs o ≡ false = ap (born_in bs) (sym e) ∙ once_x in
        subst (λ y. with_values (placed f n (issues y.ty) y (entries_from issues f (suc n) bs) (entries_from issues f n bs)) o.ty m v
        ≡ placed (with_value f o v) n (issues y.ty) y (entries_from issues (with_value f o v) (suc n) bs) (entries_from issues (with_value f o v) n bs)) (sym e)
        (rw (is, type_self o.ty, eq-eqb n m (sym k), eq-eqb o.number o.number refl, entries_other issues f o v (suc n) bs gone) refl)

    other : (born_in bs o ≡ true → (k : ℕ) → m ≡ k + births_before issues bs o → with_values (entries_from issues f k bs) o.ty m v ≡ entries_from issues (with_value f o v) k bs)
        → (t : Bool) → issues b.object.ty ≡ t → same b.object o ≡ false
        → with_values (placed f n t b.object (entries_from issues f (suc n) bs) (entries_from issues f n bs)) o.ty m v
        ≡ placed (with_value f o v) n t b.object (entries_from issues (with_value f o v) (suc n) bs) (entries_from issues (with_value f o v) n bs)
    other ih true j e =
        let count : births_before issues (b ∷ bs) o ≡ suc (births_before issues bs o) = step issues b bs o e ∙ ap (λ t. cond t (suc (births_before issues bs o)) (births_before issues bs o)) j in
        rw (no_match (same_type b.object.ty o.ty) n m (omega (arith, at, count)), flip_same o b.object e)
        (ap (λ es. record { ty = b.object.ty; id = n; values = f b.object } ∷ es) (ih (sym (born_rest b bs o e) ∙ born) (suc n) (omega (arith, at, count))))
    other ih false j e =
        let count : births_before issues (b ∷ bs) o ≡ births_before issues bs o = step issues b bs o e ∙ ap (λ t. cond t (suc (births_before issues bs o)) (births_before issues bs o)) j in
        ih (sym (born_rest b bs o e) ∙ born) n (omega (arith, at, count))

    go : (born_in bs o ≡ true → (k : ℕ) → m ≡ k + births_before issues bs o → with_values (entries_from issues f k bs) o.ty m v ≡ entries_from issues (with_value f o v) k bs)
        → (t : Bool) → same b.object o ≡ t
        → with_values (placed f n (issues b.object.ty) b.object (entries_from issues f (suc n) bs) (entries_from issues f n bs)) o.ty m v
        ≡ placed (with_value f o v) n (issues b.object.ty) b.object (entries_from issues (with_value f o v) (suc n) bs) (entries_from issues (with_value f o v) n bs)
    go ih true e = first b.object (same_is b.object o e) once.0 (omega (arith, at, here issues b bs o e))
    go ih false e = other ih (issues b.object.ty) refl e

-- a new object's entry goes last
pub put_new : {V : Type 0} (issues : ObjectType → Bool) (f : Object → V) (b0 : Birth) (v : V) → issues b0.object.ty ≡ true → (bs : List Birth) → born_in bs b0.object ≡ false → (n m : ℕ) → m ≡ n + births_before issues bs b0.object
    → with_values (entries_from issues f n bs) b0.object.ty m v ≡ entries_from issues (with_value f b0.object v) n (bs ++ b0 ∷ [])
put_new issues f b0 v is [] fresh n m at = let k : m ≡ n = omega (arith, at) in rw (is, same_self b0.object, k) refl
put_new {V = V} issues f b0 v is (b ∷ bs) fresh n m at = go (λ r k. put_new issues f b0 v is bs r k m) (same b.object b0.object) refl
  where
    f2 : Object → V
    f2 = with_value f b0.object v

    other : (born_in bs b0.object ≡ false → (k : ℕ) → m ≡ k + births_before issues bs b0.object → with_values (entries_from issues f k bs) b0.object.ty m v ≡ entries_from issues (with_value f b0.object v) k (bs ++ b0 ∷ []))
        → (t : Bool) → issues b.object.ty ≡ t → same b.object b0.object ≡ false
        → with_values (placed f n t b.object (entries_from issues f (suc n) bs) (entries_from issues f n bs)) b0.object.ty m v
        ≡ placed (with_value f b0.object v) n t b.object (entries_from issues (with_value f b0.object v) (suc n) (bs ++ b0 ∷ [])) (entries_from issues (with_value f b0.object v) n (bs ++ b0 ∷ []))
    other ih true j e =
        let count : births_before issues (b ∷ bs) b0.object ≡ suc (births_before issues bs b0.object) = step issues b bs b0.object e ∙ ap (λ t. cond t (suc (births_before issues bs b0.object)) (births_before issues bs b0.object)) j in
        rw (no_match (same_type b.object.ty b0.object.ty) n m (omega (arith, at, count)), flip_same b0.object b.object e)
        (ap (λ es. record { ty = b.object.ty; id = n; values = f b.object } ∷ es) (ih (sym (born_rest b bs b0.object e) ∙ fresh) (suc n) (omega (arith, at, count))))
    other ih false j e =
        let count : births_before issues (b ∷ bs) b0.object ≡ births_before issues bs b0.object = step issues b bs b0.object e ∙ ap (λ t. cond t (suc (births_before issues bs b0.object)) (births_before issues bs b0.object)) j in
        ih (sym (born_rest b bs b0.object e) ∙ fresh) n (omega (arith, at, count))

    go : (born_in bs b0.object ≡ false → (k : ℕ) → m ≡ k + births_before issues bs b0.object → with_values (entries_from issues f k bs) b0.object.ty m v ≡ entries_from issues (with_value f b0.object v) k (bs ++ b0 ∷ []))
        → (t : Bool) → same b.object b0.object ≡ t
        → with_values (placed f n (issues b.object.ty) b.object (entries_from issues f (suc n) bs) (entries_from issues f n bs)) b0.object.ty m v
        ≡ placed (with_value f b0.object v) n (issues b.object.ty) b.object (entries_from issues (with_value f b0.object v) (suc n) (bs ++ b0 ∷ [])) (entries_from issues (with_value f b0.object v) n (bs ++ b0 ∷ []))
    go ih true e = let bad : born_in (b ∷ bs) b0.object ≡ true = ap (λ t. t || born_in bs b0.object) e in cc
    go ih false e = other ih (issues b.object.ty) refl e

-- ---- one number for one object

-- two born objects of these types in one place are one
pub one_place : (issues : ObjectType → Bool) (bs : List Birth) (x y : Object) → issues x.ty ≡ true → issues y.ty ≡ true → born_in bs x ≡ true → born_in bs y ≡ true → births_before issues bs x ≡ births_before issues bs y → x ≡ y
one_place issues [] x y i j p q e = cc
one_place issues (b ∷ bs) x y i j p q e = go (one_place issues bs x y i j) (same b.object x) refl (same b.object y) refl
  where
    counts : (o : Object) → issues o.ty ≡ true → (w : Object) → same b.object w ≡ false → b.object ≡ o → births_before issues (b ∷ bs) w ≡ suc (births_before issues bs w)
    counts o k w f is = step issues b bs w f ∙ ap (λ t. cond t (suc (births_before issues bs w)) (births_before issues bs w)) (ap (λ z. issues z.ty) is ∙ k)

    both : (t : Bool) → cond t (suc (births_before issues bs x)) (births_before issues bs x) ≡ cond t (suc (births_before issues bs y)) (births_before issues bs y) → births_before issues bs x ≡ births_before issues bs y
    both true h = omega (arith, h)
    both false h = h

    go : (born_in bs x ≡ true → born_in bs y ≡ true → births_before issues bs x ≡ births_before issues bs y → x ≡ y) → (t : Bool) → same b.object x ≡ t → (u : Bool) → same b.object y ≡ u → x ≡ y
    go ih true h true k = sym (same_is b.object x h) ∙ same_is b.object y k
    go ih true h false k = let n = here issues b bs x h in let m = counts x i y k (same_is b.object x h) in absurd (omega (arith, n, m, e))
    go ih false h true k = let n = here issues b bs y k in let m = counts y j x h (same_is b.object y k) in absurd (omega (arith, n, m, e))
    go ih false h false k = ih (sym (born_rest b bs x h) ∙ p) (sym (born_rest b bs y k) ∙ q) (both (issues b.object.ty) (sym (step issues b bs x h) ∙ (e ∙ step issues b bs y k)))

-- the types that are numbered with a type are its own
pub issued_own : (t : ObjectType) → issued_with t t ≡ true
issued_own t = go (is_wrapped t) refl
  where
    go : (u : Bool) → is_wrapped t ≡ u → cond u is_wrapped is_bare t ≡ true
    go true e = e
    go false e = rw e refl
