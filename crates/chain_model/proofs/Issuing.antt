-- What a part that issues ids answers at a return is the tokens of the results, and what it keeps mirrors the births, values and retrievals then.
use Rattle.std.proofs.Common.{◌≡◌, ◌==◌, ◌<◌, ℕ, suc, ◌+◌, Bool, true, false, cond, ◌&&◌, Option, Some, None, List, [], ◌∷◌, ◌++◌, map, refl, sym, ◌∙◌, ap, subst, arith}
use Rattle.std.proofs.lemmas.Bool.{ne_eqb}
use Rattle.std.specs.Prelude.{find, filter}
use Rattle.std.specs.Option.{option_map}
use Rattle.std.specs.Str.{bytes_eq}
use Rattle.command_tables.specs.declared.types.ObjectType.{ObjectType}
use Rattle.object_model.specs.declared.Object.{Object}
use Rattle.replay_model.specs.declared.Born.{Born}
use Rattle.command_tables.specs.Tests.{same_type}
use Rattle.object_model.specs.Objects.{same, are_same}
use Rattle.object_model.specs.History.{Birth, born_in}
use Rattle.replay_model.specs.Past.{Retrieval}
use Rattle.replay_model.specs.Births.{is_kept}
use Rattle.chain_model.specs.Tokens.{issued_with, births_before, number_in}
use Rattle.layer_model.specs.Ids.{Key, KeptId, IdMap, next_id, has_key, kept_id, at_key, Issued, known, keep_new, new_id, issue_where, kept_for, issue, IssuedAll, result_first, issue_all}
use Rattle.handle_map.specs.Pairs.{MapEntry, with_values}
use Rattle.chain_model.specs.Mirrored.{entries_from, key_in, kept_in, kept_from, Mirrors}
use Rattle.chain_model.proofs.OneByOne.{with_value, bear, Asking, kept_object, key_of, keep_one, births_after, retrievals_after, values_after, only, AreDecided, AreOther, AreApart, ArePlaced, AreOnce, IsBorn, AreRetrieved, AsksBorn, offered, numbered}
use Rattle.layer_model.proofs.Same.{type_is}
use Rattle.chain_model.proofs.Positions.{before_grown, next_is, put_born, put_new, issued_own}
use Rattle.chain_model.proofs.OneToOne.{born_grown, born_last, born_but, before_last, owners_apart, is_born_grown, owner_grown, born_itself, number_after, once_borne}

-- ---- what is kept of retrieved objects

-- the key of a retrieved object's id is met where the object's own is
key_met : (bs : List Birth) (t : ObjectType) (owner : Option Object) (place : ℕ) (payload : List ℕ) (r : Retrieval) → IsBorn bs r.owner → IsBorn bs owner
    → has_key (key_in bs owner t place payload) (kept_in bs r) ≡ is_kept t owner place payload r
key_met bs t owner place payload r p q = ap (λ b. same_type r.object.ty t && (b && (r.place == place && bytes_eq r.payload payload))) (owners_apart bs r.owner owner p q)

-- the kept id is that of the object that was retrieved before
pub kept_found : (bs : List Birth) (t : ObjectType) (issues : ObjectType → Bool) → issues t ≡ true → (owner : Option Object) (place : ℕ) (payload : List ℕ) → IsBorn bs owner → (rs : List Retrieval) → AreRetrieved bs rs
    → kept_id (kept_from issues bs rs) (key_in bs owner t place payload) ≡ option_map (number_in bs) (kept_object (Some (record { owner = owner; payload = payload })) t rs place)
kept_found bs t issues is owner place payload q [] all = refl
kept_found bs t issues is owner place payload q (r ∷ rs) all = go (kept_found bs t issues is owner place payload q rs all.2) (issues r.object.ty) refl
  where
    there : kept_id (kept_from issues bs rs) (key_in bs owner t place payload) ≡ option_map (number_in bs) (kept_object (Some (record { owner = owner; payload = payload })) t rs place)
        → (w : Bool) → has_key (key_in bs owner t place payload) (kept_in bs r) ≡ w
        → option_map (λ (x : KeptId). x.id) (cond w (Some (kept_in bs r)) (find (has_key (key_in bs owner t place payload)) (kept_from issues bs rs)))
        ≡ option_map (number_in bs) (option_map (λ (x : Retrieval). x.object) (cond w (Some r) (find (is_kept t owner place payload) rs)))
    there ih true e = refl
    there ih false e = ih

    other_type : (u : Bool) → issues r.object.ty ≡ false → same_type r.object.ty t ≡ u → u ≡ false
    other_type false i e = refl
    other_type true i e = let k : issues r.object.ty ≡ true = ap issues (type_is r.object.ty t e) ∙ is in cc

    go : kept_id (kept_from issues bs rs) (key_in bs owner t place payload) ≡ option_map (number_in bs) (kept_object (Some (record { owner = owner; payload = payload })) t rs place)
        → (u : Bool) → issues r.object.ty ≡ u
        → option_map (λ (x : KeptId). x.id) (find (has_key (key_in bs owner t place payload)) (map (kept_in bs) (cond u (r ∷ filter (λ x. issues x.object.ty) rs) (filter (λ x. issues x.object.ty) rs))))
        ≡ option_map (number_in bs) (option_map (λ (x : Retrieval). x.object) (cond (is_kept t owner place payload r) (Some r) (find (is_kept t owner place payload) rs)))
    go ih true i =
        subst (λ w. option_map (λ (x : KeptId). x.id) (cond (has_key (key_in bs owner t place payload) (kept_in bs r)) (Some (kept_in bs r)) (find (has_key (key_in bs owner t place payload)) (kept_from issues bs rs)))
        ≡ option_map (number_in bs) (option_map (λ (x : Retrieval). x.object) (cond w (Some r) (find (is_kept t owner place payload) rs)))) (key_met bs t owner place payload r all.0 q)
        (there ih (has_key (key_in bs owner t place payload) (kept_in bs r)) refl)
    go ih false i =
        let none : is_kept t owner place payload r ≡ false = ap (λ b. b && (are_same r.owner owner && (r.place == place && bytes_eq r.payload payload))) (other_type (same_type r.object.ty t) i refl) in
        rw none ih

-- what is kept stays as it is when more is born
pub kept_grown : (issues : ObjectType → Bool) (bs cs : List Birth) (rs : List Retrieval) → AreRetrieved bs rs → kept_from issues (bs ++ cs) rs ≡ kept_from issues bs rs
kept_grown issues bs cs [] all = refl
kept_grown issues bs cs (r ∷ rs) all = go (kept_grown issues bs cs rs all.2) (issues r.object.ty)
  where
    one : kept_in (bs ++ cs) r ≡ kept_in bs r
    one = let a = owner_grown bs cs r.owner all.0 in
        let b : number_in (bs ++ cs) r.object ≡ number_in bs r.object = ap suc (before_grown (issued_with r.object.ty) bs cs r.object all.1) in
        ap (λ (o : Option Object). record { key = record { owner = o; ty = r.object.ty; place = r.place; payload = r.payload }; id = number_in (bs ++ cs) r.object }) a
        ∙ ap (λ (n : ℕ). record { key = key_in bs r.owner r.object.ty r.place r.payload; id = n }) b

    go : kept_from issues (bs ++ cs) rs ≡ kept_from issues bs rs → (u : Bool)
        → map (kept_in (bs ++ cs)) (cond u (r ∷ filter (λ x. issues x.object.ty) rs) (filter (λ x. issues x.object.ty) rs)) ≡ map (kept_in bs) (cond u (r ∷ filter (λ x. issues x.object.ty) rs) (filter (λ x. issues x.object.ty) rs))
    go ih true = ap (λ x. x ∷ map (kept_in (bs ++ cs)) (filter (λ x. issues x.object.ty) rs)) one ∙ ap (λ xs. kept_in bs r ∷ xs) ih
    go ih false = ih

-- one more is kept behind
pub kept_more : (issues : ObjectType → Bool) (bs : List Birth) (rs : List Retrieval) (r : Retrieval) → issues r.object.ty ≡ true → kept_from issues bs (rs ++ r ∷ []) ≡ kept_from issues bs rs ++ kept_in bs r ∷ []
kept_more issues bs [] r is = rw is refl
kept_more issues bs (x ∷ rs) r is = go (kept_more issues bs rs r is) (issues x.object.ty)
  where
    go : kept_from issues bs (rs ++ r ∷ []) ≡ kept_from issues bs rs ++ kept_in bs r ∷ [] → (u : Bool)
        → map (kept_in bs) (cond u (x ∷ filter (λ y. issues y.object.ty) (rs ++ r ∷ [])) (filter (λ y. issues y.object.ty) (rs ++ r ∷ [])))
        ≡ map (kept_in bs) (cond u (x ∷ filter (λ y. issues y.object.ty) rs) (filter (λ y. issues y.object.ty) rs)) ++ kept_in bs r ∷ []
    go ih true = ap (λ xs. kept_in bs x ∷ xs) ih
    go ih false = ih

-- retrieved objects stay born
pub retrieved_grown : (bs cs : List Birth) (rs : List Retrieval) → AreRetrieved bs rs → AreRetrieved (bs ++ cs) rs
retrieved_grown bs cs [] all = tt
retrieved_grown bs cs (r ∷ rs) all = (is_born_grown bs cs r.owner all.0, born_grown bs cs r.object all.1, retrieved_grown bs cs rs all.2)

pub retrieved_more : (bs : List Birth) (rs : List Retrieval) (r : Retrieval) → AreRetrieved bs rs → IsBorn bs r.owner → born_in bs r.object ≡ true → AreRetrieved bs (rs ++ r ∷ [])
retrieved_more bs [] r all p q = (p, q, tt)
retrieved_more bs (x ∷ rs) r all p q = (all.0, all.1, retrieved_more bs rs r all.2 p q)

-- ---- lost results

-- lost results are 0 and change nothing
pub issue_lost : {V X : Type 0} (m : IdMap V) (k : Option Key) (t : ObjectType) (place : ℕ) (lost : List X) → issue_all m k t place (map (λ _. None) lost) ≡ record { results = map (λ _. 0) lost; ids = m }
issue_lost m k t place [] = refl
issue_lost m k t place (x ∷ lost) = ap (result_first 0) (issue_lost m k t (place + 1) lost)

-- ---- one result

-- what one result comes to: its object's number, and what is kept then
record Stepped (V : Type 0) (t : ObjectType) (f : Object → V) (bs : List Birth) (rs : List Retrieval) (o : Object) (one : Issued V) : Type 0 where
  pub id : one.id ≡ number_in bs o
  pub mirrors : Mirrors V (issued_with t) f bs rs one.ids

-- what is kept for a result's key
kept_for_is : (t : ObjectType) (q : Option Asking) (bs : List Birth) (rs : List Retrieval) (kept : List KeptId) (place : ℕ) → kept ≡ kept_from (issued_with t) bs rs → AreRetrieved bs rs → AsksBorn bs q
    → kept_for kept (at_key (key_of bs q t) place) ≡ option_map (number_in bs) (kept_object q t rs place)
kept_for_is t None bs rs kept place is all asks = refl
kept_for_is t (Some q) bs rs kept place is all asks =
    ap (λ ks. kept_id ks (key_in bs q.owner t place q.payload)) is ∙ kept_found bs t (issued_with t) (issued_own t) q.owner place q.payload asks rs all

-- the objects that are numbered with a type
own_type : (t : ObjectType) (o : Object) → o.ty ≡ t → issued_with t o.ty ≡ true
own_type t o is = ap (issued_with t) is ∙ issued_own t

own_place : (t : ObjectType) (bs : List Birth) (o : Object) → o.ty ≡ t → number_in bs o ≡ suc (births_before (issued_with t) bs o)
own_place t bs o is = ap (λ u. suc (births_before (issued_with u) bs o)) is

-- a known object
step_known : {V : Type 0} (t : ObjectType) (f : Object → V) (bs : List Birth) (rs : List Retrieval) (m : IdMap V) (o : Object) (v : V) → o.ty ≡ t → Mirrors V (issued_with t) f bs rs m → AreOnce bs → born_in bs o ≡ true
    → Stepped V t (with_value f o v) bs rs o (known m t (number_in bs o) v)
step_known {V = V} t f bs rs m o v is s once born =
    let at : number_in bs o ≡ suc (births_before (issued_with t) bs o) = own_place t bs o is in
    record {
      id = refl;
      mirrors = record {
        entries = ap (λ (es : List (MapEntry V)). with_values es t (number_in bs o) v) s.entries
            ∙ (ap (λ u. with_values (entries_from (issued_with t) f 1 bs) u (number_in bs o) v) (sym is)
            ∙ put_born (issued_with t) f o v (own_type t o is) bs once born 1 (number_in bs o) (omega (arith, at)));
        kept = s.kept;
      };
    }

-- what is kept of a new object
new_kept : (t : ObjectType) (q : Option Asking) (bs : List Birth) (rs : List Retrieval) (kept : List KeptId) (b : Born) (w : Birth) (id : ℕ) → b.object.ty ≡ t → w.object ≡ b.object → kept ≡ kept_from (issued_with t) bs rs → AreRetrieved bs rs → AsksBorn bs q
    → born_in bs b.object ≡ false → id ≡ number_in (bs ++ w ∷ []) b.object
    → keep_new (at_key (key_of bs q t) b.place) id kept ≡ kept_from (issued_with t) (bs ++ w ∷ []) (keep_one q bs rs b)
new_kept t None bs rs kept b w id is same_w keeps all asks fresh at = keeps ∙ sym (kept_grown (issued_with t) bs (w ∷ []) rs all)
new_kept t (Some q) bs rs kept b w id is same_w keeps all asks fresh at =
    rw fresh (
    ap (λ ks. ks ++ record { key = key_in bs q.owner t b.place q.payload; id = id } ∷ []) (keeps ∙ sym (kept_grown (issued_with t) bs (w ∷ []) rs all))
    ∙ (ap (λ (x : KeptId). kept_from (issued_with t) (bs ++ w ∷ []) rs ++ x ∷ [])
    (ap (λ (o : Option Object). record { key = record { owner = o; ty = t; place = b.place; payload = q.payload }; id = id }) (sym (owner_grown bs (w ∷ []) q.owner asks))
    ∙ (ap (λ (n : ℕ). record { key = key_in (bs ++ w ∷ []) q.owner t b.place q.payload; id = n }) at
    ∙ ap (λ (u : ObjectType). record { key = key_in (bs ++ w ∷ []) q.owner u b.place q.payload; id = number_in (bs ++ w ∷ []) b.object }) (sym is)))
    ∙ sym (kept_more (issued_with t) (bs ++ w ∷ []) rs (record { owner = q.owner; place = b.place; payload = q.payload; object = b.object }) (own_type t b.object is)))
    )

-- a new object
step_new : {V : Type 0} (t : ObjectType) (created : Bool) (owners : List Object) (q : Option Asking) (f : Object → V) (bs : List Birth) (rs : List Retrieval) (m : IdMap V) (b : Born) (v : V) → b.object.ty ≡ t → Mirrors V (issued_with t) f bs rs m
    → AreRetrieved bs rs → AsksBorn bs q → born_in bs b.object ≡ false
    → Stepped V t (with_value f b.object v) (bs ++ record { object = b.object; created = created; owners = owners } ∷ []) (keep_one q bs rs b) b.object (new_id m (at_key (key_of bs q t) b.place) t v)
step_new {V = V} t created owners q f bs rs m b v is s all asks fresh =
    let w : Birth = record { object = b.object; created = created; owners = owners } in
    let next : next_id m.entries ≡ suc (births_before (issued_with t) bs b.object) = ap (λ (es : List (MapEntry V)). next_id es) s.entries ∙ next_is (issued_with t) f b.object bs fresh in
    let last : births_before (issued_with t) (bs ++ w ∷ []) b.object ≡ births_before (issued_with t) bs b.object = before_last (issued_with t) bs w fresh in
    let own : number_in (bs ++ w ∷ []) b.object ≡ suc (births_before (issued_with t) (bs ++ w ∷ []) b.object) = own_place t (bs ++ w ∷ []) b.object is in
    let id_is : next_id m.entries ≡ number_in (bs ++ w ∷ []) b.object = omega (arith, next, last, own) in
    record {
      id = id_is;
      mirrors = record {
        entries = ap (λ (es : List (MapEntry V)). with_values es t (next_id m.entries) v) s.entries
            ∙ (ap (λ u. with_values (entries_from (issued_with t) f 1 bs) u (next_id m.entries) v) (sym is)
            ∙ put_new (issued_with t) f w v (own_type t b.object is) bs fresh 1 (next_id m.entries) (omega (arith, next)));
        kept = new_kept t q bs rs m.kept b w (next_id m.entries) is refl s.kept all asks fresh id_is;
      };
    }

-- one result, known or new
step_one : {V : Type 0} (t : ObjectType) (created : Bool) (owners : List Object) (q : Option Asking) (f : Object → V) (bs : List Birth) (rs : List Retrieval) (m : IdMap V) (b : Born) (v : V) → b.object.ty ≡ t → Mirrors V (issued_with t) f bs rs m
    → AreOnce bs → AreRetrieved bs rs → AsksBorn bs q → kept_object q t rs b.place ≡ only (born_in bs b.object) b.object
    → Stepped V t (with_value f b.object v) (bear created owners bs b.object) (keep_one q bs rs b) b.object (issue m (at_key (key_of bs q t) b.place) t v)
step_one {V = V} t created owners q f bs rs m b v is s once all asks decided = go (born_in bs b.object) refl
  where
    key : Option Key
    key = at_key (key_of bs q t) b.place

    kept_is : (u : Bool) → born_in bs b.object ≡ u → kept_for m.kept (at_key (key_of bs q t) b.place) ≡ option_map (number_in bs) (only u b.object)
    kept_is u e = kept_for_is t q bs rs m.kept b.place s.kept all asks ∙ (ap (option_map (number_in bs)) decided ∙ ap (λ w. option_map (number_in bs) (only w b.object)) e)

    same_kept : (p : Option Asking) → born_in bs b.object ≡ true → keep_one p bs rs b ≡ rs
    same_kept None e = refl
    same_kept (Some p) e = rw e refl

    go : (u : Bool) → born_in bs b.object ≡ u → Stepped V t (with_value f b.object v) (bear created owners bs b.object) (keep_one q bs rs b) b.object (issue m (at_key (key_of bs q t) b.place) t v)
    go true e =
        subst (λ (x : Option ℕ). Stepped V t (with_value f b.object v) (bear created owners bs b.object) (keep_one q bs rs b) b.object (issue_where x m (at_key (key_of bs q t) b.place) t v)) (sym (kept_is true e))
        (subst (λ (x : Bool). Stepped V t (with_value f b.object v) (cond x bs (bs ++ record { object = b.object; created = created; owners = owners } ∷ [])) (keep_one q bs rs b) b.object (known m t (number_in bs b.object) v)) (sym e)
        (subst (λ (x : List Retrieval). Stepped V t (with_value f b.object v) bs x b.object (known m t (number_in bs b.object) v)) (sym (same_kept q e)) (step_known t f bs rs m b.object v is s once e)))
    go false e =
        subst (λ (x : Option ℕ). Stepped V t (with_value f b.object v) (bear created owners bs b.object) (keep_one q bs rs b) b.object (issue_where x m (at_key (key_of bs q t) b.place) t v)) (sym (kept_is false e))
        (subst (λ (x : Bool). Stepped V t (with_value f b.object v) (cond x bs (bs ++ record { object = b.object; created = created; owners = owners } ∷ [])) (keep_one q bs rs b) b.object (new_id m (at_key (key_of bs q t) b.place) t v)) (sym e)
        (step_new t created owners q f bs rs m b v is s all asks e))

-- ---- all results

find_more : {X : Type 0} (p : X → Bool) (xs : List X) (x : X) → p x ≡ false → find p (xs ++ x ∷ []) ≡ find p xs
find_more p [] x e = rw e refl
find_more p (y ∷ xs) x e = ap (λ r. cond (p y) (Some y) r) (find_more p xs x e)

-- another place has another key
other_place : (t : ObjectType) (owner : Option Object) (place : ℕ) (payload : List ℕ) (r : Retrieval) → (r.place == place) ≡ false → is_kept t owner place payload r ≡ false
other_place t owner place payload r e = rw e (none (same_type r.object.ty t) (are_same r.owner owner))
  where
    none : (a b : Bool) → (a && (b && false)) ≡ false
    none true true = refl
    none true false = refl
    none false b = refl

kept_rest : (q : Option Asking) (t : ObjectType) (bs : List Birth) (rs : List Retrieval) (b : Born) (place : ℕ) → (b.place == place) ≡ false → kept_object q t (keep_one q bs rs b) place ≡ kept_object q t rs place
kept_rest None t bs rs b place e = refl
kept_rest (Some q) t bs rs b place e = go (born_in bs b.object)
  where
    go : (u : Bool) → kept_object (Some q) t (cond u rs (rs ++ record { owner = q.owner; place = b.place; payload = q.payload; object = b.object } ∷ [])) place ≡ kept_object (Some q) t rs place
    go true = refl
    go false = ap (option_map (λ (r : Retrieval). r.object)) (find_more (is_kept t q.owner place q.payload) rs (record { owner = q.owner; place = b.place; payload = q.payload; object = b.object }) (other_place t q.owner place q.payload (record { owner = q.owner; place = b.place; payload = q.payload; object = b.object }) e))

born_rest : (created : Bool) (owners : List Object) (bs : List Birth) (x o : Object) → same x o ≡ false → born_in (bear created owners bs x) o ≡ born_in bs o
born_rest created owners bs x o e = go (born_in bs x)
  where
    go : (u : Bool) → born_in (cond u bs (bs ++ record { object = x; created = created; owners = owners } ∷ [])) o ≡ born_in bs o
    go true = refl
    go false = born_but bs (record { object = x; created = created; owners = owners }) o e

-- what is left is decided after one result more
decided_rest : (created : Bool) (owners : List Object) (q : Option Asking) (t : ObjectType) (bs : List Birth) (rs : List Retrieval) (b : Born) (n : ℕ) → b.place < n → (made : List Born) → ArePlaced n made → AreOther b.object made → AreDecided q t bs rs made
    → AreDecided q t (bear created owners bs b.object) (keep_one q bs rs b) made
decided_rest created owners q t bs rs b n less [] placed other decided = tt
decided_rest created owners q t bs rs b n less (c ∷ made) placed other decided = (
  kept_rest q t bs rs b c.place (ne_eqb b.place c.place (λ e. omega (arith, e, less, placed.0)))
      ∙ (decided.0 ∙ ap (λ u. only u c.object) (sym (born_rest created owners bs b.object c.object other.0))),
  decided.1,
  decided_rest created owners q t bs rs b (n + 1) (omega (arith, less)) made placed.1 other.1 decided.2,
)

pub retrieved_one : (created : Bool) (owners : List Object) (q : Option Asking) (bs : List Birth) (rs : List Retrieval) (b : Born) → AreRetrieved bs rs → AsksBorn bs q → AreRetrieved (bear created owners bs b.object) (keep_one q bs rs b)
retrieved_one created owners q bs rs b all asks = go (born_in bs b.object) refl q asks
  where
    w : Birth
    w = record { object = b.object; created = created; owners = owners }

    go : (u : Bool) → born_in bs b.object ≡ u → (p : Option Asking) → AsksBorn bs p → AreRetrieved (cond u bs (bs ++ record { object = b.object; created = created; owners = owners } ∷ [])) (keep_one p bs rs b)
    go true e None a = all
    go true e (Some p) a = rw e all
    go false e None a = retrieved_grown bs (w ∷ []) rs all
    go false e (Some p) a =
        rw e (retrieved_more (bs ++ w ∷ []) rs (record { owner = p.owner; place = b.place; payload = p.payload; object = b.object }) (retrieved_grown bs (w ∷ []) rs all) (is_born_grown bs (w ∷ []) p.owner a) (born_last bs w))

pub asks_one : (created : Bool) (owners : List Object) (bs : List Birth) (x : Object) (q : Option Asking) → AsksBorn bs q → AsksBorn (bear created owners bs x) q
asks_one created owners bs x None a = tt
asks_one created owners bs x (Some q) a = go (born_in bs x)
  where
    go : (u : Bool) → IsBorn (cond u bs (bs ++ record { object = x; created = created; owners = owners } ∷ [])) q.owner
    go true = a
    go false = is_born_grown bs (record { object = x; created = created; owners = owners } ∷ []) q.owner a

pub key_one : (created : Bool) (owners : List Object) (bs : List Birth) (x : Object) (t : ObjectType) (q : Option Asking) → AsksBorn bs q → key_of (bear created owners bs x) q t ≡ key_of bs q t
key_one created owners bs x t None a = refl
key_one created owners bs x t (Some q) a = go (born_in bs x)
  where
    go : (u : Bool) → key_of (cond u bs (bs ++ record { object = x; created = created; owners = owners } ∷ [])) (Some q) t ≡ key_of bs (Some q) t
    go true = refl
    go false = ap (λ (o : Option Object). Some (record { owner = o; ty = t; place = 0; payload = q.payload })) (owner_grown bs (record { object = x; created = created; owners = owners } ∷ []) q.owner a)

-- what all results come to
pub record AllStepped (V X : Type 0) (t : ObjectType) (f : Object → V) (bs : List Birth) (rs : List Retrieval) (made : List Born) (lost : List X) (all : IssuedAll V) : Type 0 where
  pub results : all.results ≡ numbered bs made lost
  pub mirrors : Mirrors V (issued_with t) f bs rs all.ids

-- the results are the tokens of what was made, and what is kept mirrors what is born, retrieved and valued then
pub issue_mirrors : {V X : Type 0} (t : ObjectType) (created : Bool) (owners : List Object) (q : Option Asking) (val : Born → V) (lost : List X) (made : List Born) (n : ℕ) (f : Object → V) (bs : List Birth) (rs : List Retrieval) (m : IdMap V)
    → Mirrors V (issued_with t) f bs rs m → AreOnce bs → AreRetrieved bs rs → AsksBorn bs q → ArePlaced n made → AreApart made → AreDecided q t bs rs made
    → AllStepped V X t (values_after val f made) (births_after created owners bs made) (retrievals_after created owners q bs rs made) made lost (issue_all m (key_of bs q t) t n (offered val made lost))
issue_mirrors {V = V} {X = X} t created owners q val lost [] n f bs rs m s once all asks placed apart decided =
    subst (λ x. AllStepped V X t f bs rs [] lost x) (sym (issue_lost m (key_of bs q t) t n lost)) (record { results = refl; mirrors = s })
issue_mirrors {V = V} {X = X} t created owners q val lost (b ∷ made) n f bs rs m s once all asks placed apart decided =
    let bs2 : List Birth = bear created owners bs b.object in
    let rs2 : List Retrieval = keep_one q bs rs b in
    let one : Issued V = issue m (at_key (key_of bs q t) b.place) t (val b) in
    let stepped : Stepped V t (with_value f b.object (val b)) bs2 rs2 b.object one = step_one t created owners q f bs rs m b (val b) decided.1 s once all asks decided.0 in
    let rest : AllStepped V X t (values_after val (with_value f b.object (val b)) made) (births_after created owners bs2 made) (retrievals_after created owners q bs2 rs2 made) made lost (issue_all one.ids (key_of bs2 q t) t (n + 1) (offered val made lost)) =
    issue_mirrors t created owners q val lost made (n + 1) (with_value f b.object (val b)) bs2 rs2 one.ids stepped.mirrors (once_borne created owners bs b.object once) (retrieved_one created owners q bs rs b all asks) (asks_one created owners bs b.object q asks) placed.1 apart.1
    (decided_rest created owners q t bs rs b (n + 1) (omega (arith, placed.0)) made placed.1 apart.0 decided.2) in
    let number : number_in (births_after created owners bs2 made) b.object ≡ number_in bs2 b.object = number_after created owners bs2 made b.object (born_itself created owners bs b.object) in
    subst (λ (k : ℕ). AllStepped V X t (values_after val (with_value f b.object (val b)) made) (births_after created owners bs2 made) (retrievals_after created owners q bs2 rs2 made) (b ∷ made) lost
    (result_first (issue m (at_key (key_of bs q t) k) t (val b)).id (issue_all (issue m (at_key (key_of bs q t) k) t (val b)).ids (key_of bs q t) t (n + 1) (offered val made lost)))) placed.0
    (subst (λ (k : Option Key). AllStepped V X t (values_after val (with_value f b.object (val b)) made) (births_after created owners bs2 made) (retrievals_after created owners q bs2 rs2 made) (b ∷ made) lost
    (result_first one.id (issue_all one.ids k t (n + 1) (offered val made lost)))) (key_one created owners bs b.object t q asks)
    (record {
      results = ap (λ (k : ℕ). k ∷ (issue_all one.ids (key_of bs2 q t) t (n + 1) (offered val made lost)).results) (stepped.id ∙ sym number) ∙ ap (λ ks. number_in (births_after created owners bs2 made) b.object ∷ ks) rest.results;
      mirrors = rest.mirrors;
    }))
