-- Ways through chains, and chains with one entry more.
use Rattle.std.proofs.Common.{◌≡◌, ◌==◌, ◌<◌, ◌≤◌, ◌⊎◌, ◌-◌, ◌&&◌, ℕ, zero, suc, ◌+◌, Bool, true, false, cond, Option, Some, None, List, [], ◌∷◌, ◌++◌, map, length, take, drop, get_or, refl, ap, sym, ◌∙◌, subst, arith, unwrap_or, inl, inr, length-append}
use Rattle.std.proofs.lemmas.List.{map-append}
use Rattle.std.proofs.Math.Bool.{and-false}
use Rattle.std.proofs.Math.Nat.{eq-or-lt_of_le}
use Rattle.std.proofs.Math.ListN.{get_or-append, drop_of_length-le}
use Rattle.std.proofs.Math.Seq.{drop-cons, get_or-append_seam}
use Rattle.std.proofs.lemmas.Bool.{eqb-true, eq-eqb}
use Rattle.std.specs.List.{find}
use Rattle.std.specs.Option.{option_map}
use Rattle.std.specs.Str.{bytes_eq}
use Rattle.command_tables.specs.declared.types.ObjectType.{ObjectType}
use Rattle.command_tables.specs.Tests.{same_type}
use Rattle.object_model.specs.declared.Object.{Object}
use Rattle.object_model.specs.Objects.{are_same, same}
use Rattle.handle_map.specs.Pairs.{MapEntry, is_pair, with_values}
use Rattle.layer_model.specs.Ids.{Key, KeptId, has_key, kept_id}
use Rattle.layer_model.proofs.Same.{and_true, type_is, type_self}
use Rattle.terminator.specs.declared.key.RetrievedKey.{RetrievedKey}
use Rattle.terminator.specs.declared.entry.KeptEntry.{KeptEntry}
use Rattle.terminator.specs.Chains.{AreChained, AreLatest, AreLinked, HavePayloads, IsLink, first_link, is_owner, latest_in, link_of, with_link}
use Rattle.terminator.specs.Shown.{key_of, kept_of}

-- ---- looking

-- by a key without an owner nothing is kept
pub kept_by_nobody : (es : List KeptEntry) (bytes : List ℕ) (k : RetrievedKey) → k.owner ≡ None → kept_id (map (kept_of bytes) es) (key_of k) ≡ None
kept_by_nobody [] bytes k nobody = refl
kept_by_nobody (e ∷ es) bytes k nobody = ap (λ (u : Bool). option_map (λ (r : KeptId). r.id) (cond u (Some (kept_of bytes e)) (find (has_key (key_of k)) (map (kept_of bytes) es)))) (none e) ∙ kept_by_nobody es bytes k nobody
  where
    no_owner : (o : Option Object) → are_same o None ≡ false
    no_owner None = refl
    no_owner (Some o) = refl

    none : (x : KeptEntry) → has_key (key_of k) (kept_of bytes x) ≡ false
    none x =
        ap (λ (o : Option Object). same_type x.ty k.ty && (are_same x.owner o && (x.place == k.place && bytes_eq (take x.len (drop x.start bytes)) k.payload.now))) nobody
        ∙ (ap (λ (u : Bool). same_type x.ty k.ty && (u && (x.place == k.place && bytes_eq (take x.len (drop x.start bytes)) k.payload.now))) (no_owner x.owner) ∙ and-false (same_type x.ty k.ty))

-- an entry with a key is of the key's owner
has_chain : (e : KeptEntry) (bytes : List ℕ) (k : RetrievedKey) (o : Object) → k.owner ≡ Some o → has_key (key_of k) (kept_of bytes e) ≡ true → is_owner o.ty o.number e.owner ≡ true
has_chain e bytes k o owner has =
    let parts = and_true (same_type e.ty k.ty) (are_same e.owner k.owner && (e.place == k.place && bytes_eq (take e.len (drop e.start bytes)) k.payload.now)) has in
    let more = and_true (are_same e.owner k.owner) (e.place == k.place && bytes_eq (take e.len (drop e.start bytes)) k.payload.now) parts.1 in
    go e.owner (sym (ap (λ (x : Option Object). are_same e.owner x) owner) ∙ more.0)
  where
    go : (x : Option Object) → are_same x (Some o) ≡ true → is_owner o.ty o.number x ≡ true
    go None same = cc same
    go (Some p) same = same

-- one of another owner has another key
has_not : (e : KeptEntry) (bytes : List ℕ) (k : RetrievedKey) (o : Object) → k.owner ≡ Some o → is_owner o.ty o.number e.owner ≡ false → has_key (key_of k) (kept_of bytes e) ≡ false
has_not e bytes k o owner other = go (has_key (key_of k) (kept_of bytes e)) refl
  where
    go : (u : Bool) → has_key (key_of k) (kept_of bytes e) ≡ u → u ≡ false
    go true has = sym (has_chain e bytes k o owner has) ∙ other
    go false has = refl

-- entries without the key may be left out
skip : (es : List KeptEntry) (bytes : List ℕ) (k : Key) (a b : ℕ) → a ≤ b → b ≤ length es → ((p : ℕ) (d : KeptEntry) → a ≤ p → p < b → has_key k (kept_of bytes (get_or es p d)) ≡ false) → kept_id (map (kept_of bytes) (drop a es)) k ≡ kept_id (map (kept_of bytes) (drop b es)) k
skip [] bytes k zero zero low high none = refl
skip [] bytes k zero (suc b) low high none = refl
skip [] bytes k (suc a) zero low high none = refl
skip [] bytes k (suc a) (suc b) low high none = refl
skip (e ∷ es) bytes k zero zero low high none = refl
skip (e ∷ es) bytes k zero (suc b) low high none =
    ap (λ (u : Bool). option_map (λ (r : KeptId). r.id) (cond u (Some (kept_of bytes e)) (find (has_key k) (map (kept_of bytes) es)))) (none 0 e (omega arith) (omega arith))
    ∙ skip es bytes k 0 b (omega arith) (omega (arith, high)) (λ (p : ℕ) (d : KeptEntry) (from : 0 ≤ p) (below : p < b). none (suc p) d (omega arith) (omega (arith, below)))
skip (e ∷ es) bytes k (suc a) zero low high none = absurd (omega (arith, low))
skip (e ∷ es) bytes k (suc a) (suc b) low high none = skip es bytes k a b (omega (arith, low)) (omega (arith, high)) (λ (p : ℕ) (d : KeptEntry) (from : a ≤ p) (below : p < b). none (suc p) d (omega (arith, from)) (omega (arith, below)))

-- the walk came to a link, and found what is kept from there on
pub record IsWay (es : List KeptEntry) (bytes : List ℕ) (k : RetrievedKey) (o : Object) (link : ℕ) (found : Option ℕ) : Type 0 where
  pub within : link ≤ length es
  pub here : (p : ℕ) (d : KeptEntry) → link ≡ suc p → is_owner o.ty o.number (get_or es p d).owner ≡ true
  pub rest : found ≡ kept_id (map (kept_of bytes) (drop link es)) (key_of k)

pub way_in : (es : List KeptEntry) (bytes : List ℕ) (k : RetrievedKey) (o : Object) (link : ℕ) → k.owner ≡ Some o → IsLink es o.ty o.number (length es) link → IsWay es bytes k o link None
way_in es bytes k o link owner is = record {
  within = is.within;
  here = is.here;
  rest = sym (skip es bytes (key_of k) link (length es) is.within (omega arith) (λ (p : ℕ) (d : KeptEntry) (from : link ≤ p) (below : p < length es). has_not (get_or es p d) bytes k o owner (is.none p d from below))
      ∙ ap (λ (xs : List KeptEntry). kept_id (map (kept_of bytes) xs) (key_of k)) (drop_of_length-le es (omega arith)));
}

way_on : (es : List KeptEntry) (bytes : List ℕ) (k : RetrievedKey) (o : Object) (p : ℕ) (d : KeptEntry) (found : Option ℕ) → k.owner ≡ Some o → AreLinked es → IsWay es bytes k o (suc p) found
    → IsWay es bytes k o (get_or es p d).next (cond (has_key (key_of k) (kept_of bytes (get_or es p d))) (Some (get_or es p d).id) found)
way_on es bytes k o p d found owner linked way =
    let less : p < length es = omega (arith, way.within) in
    let link : IsLink es o.ty o.number p (get_or es p d).next = linked p d less o.ty o.number (way.here p d refl) in
    record {
      within = omega (arith, link.within, less);
      here = link.here;
      rest = ap (λ (x : Option ℕ). cond (has_key (key_of k) (kept_of bytes (get_or es p d))) (Some (get_or es p d).id) x) way.rest
          ∙ (at (has_key (key_of k) (kept_of bytes (get_or es p d)))
          ∙ (sym (ap (λ (xs : List KeptEntry). kept_id (map (kept_of bytes) xs) (key_of k)) (drop-cons es p d less))
          ∙ sym (skip es bytes (key_of k) (get_or es p d).next p link.within (omega (arith, less)) (λ (q : ℕ) (x : KeptEntry) (from : (get_or es p d).next ≤ q) (below : q < p). has_not (get_or es q x) bytes k o owner (link.none q x from below)))));
    }
  where
    at : (u : Bool) → cond u (Some (get_or es p d).id) (kept_id (map (kept_of bytes) (drop (suc p) es)) (key_of k)) ≡ option_map (λ (r : KeptId). r.id) (cond u (Some (kept_of bytes (get_or es p d))) (find (has_key (key_of k)) (map (kept_of bytes) (drop (suc p) es))))
    at true = refl
    at false = refl

pub way_next : (es : List KeptEntry) (bytes : List ℕ) (k : RetrievedKey) (o : Object) (link : ℕ) (d : KeptEntry) (found more : Option ℕ) → k.owner ≡ Some o → AreLinked es → IsWay es bytes k o link found → (link ≡ 0 → ⊥)
    → more ≡ cond (has_key (key_of k) (kept_of bytes (get_or es (link - 1) d))) (Some (get_or es (link - 1) d).id) found → IsWay es bytes k o (get_or es (link - 1) d).next more
way_next es bytes k o zero d found more owner linked way some is = absurd (some refl)
way_next es bytes k o (suc p) d found more owner linked way some is =
    let here : suc p - 1 ≡ p = omega arith in
    subst (λ (x : Option ℕ). IsWay es bytes k o (get_or es (suc p - 1) d).next x) (sym is)
    (subst (λ (n : ℕ). IsWay es bytes k o (get_or es n d).next (cond (has_key (key_of k) (kept_of bytes (get_or es n d))) (Some (get_or es n d).id) found)) (sym here) (way_on es bytes k o p d found owner linked way))

-- ---- one entry more

-- a link into a chain stays one
grown : (es : List KeptEntry) (e : KeptEntry) (t : ObjectType) (n count link : ℕ) → count ≤ length es → IsLink es t n count link → IsLink (es ++ e ∷ []) t n count link
grown es e t n count link low is = record {
  within = is.within;
  here = λ (p : ℕ) (d : KeptEntry) (at : link ≡ suc p). ap (λ (x : KeptEntry). is_owner t n x.owner) (get_or-append es (e ∷ []) d p (omega (arith, at, low, is.within))) ∙ is.here p d at;
  none = λ (p : ℕ) (d : KeptEntry) (from : link ≤ p) (below : p < count). ap (λ (x : KeptEntry). is_owner t n x.owner) (get_or-append es (e ∷ []) d p (omega (arith, below, low))) ∙ is.none p d from below;
}

-- a link past an entry of another chain
passed : (es : List KeptEntry) (e : KeptEntry) (t : ObjectType) (n link : ℕ) → is_owner t n e.owner ≡ false → IsLink es t n (length es) link → IsLink (es ++ e ∷ []) t n (length (es ++ e ∷ [])) link
passed es e t n link other is =
    let count : length (es ++ e ∷ []) ≡ suc (length es) = length-append es (e ∷ []) ∙ omega arith in
    record {
      within = omega (arith, count, is.within);
      here = (grown es e t n (length es) link (omega arith) is).here;
      none = λ (p : ℕ) (d : KeptEntry) (from : link ≤ p) (below : p < length (es ++ e ∷ [])). at p d from (eq-or-lt_of_le (omega (arith, below, count)));
    }
  where
    at : (p : ℕ) (d : KeptEntry) → link ≤ p → (p ≡ length es) ⊎ (p < length es) → is_owner t n (get_or (es ++ e ∷ []) p d).owner ≡ false
    at p d from (inr l) = (grown es e t n (length es) link (omega arith) is).none p d from l
    at p d from (inl l) = ap (λ (q : ℕ). is_owner t n (get_or (es ++ e ∷ []) q d).owner) l ∙ (ap (λ (x : KeptEntry). is_owner t n x.owner) (get_or-append_seam es e [] d) ∙ other)

-- the link to a new entry
newest : (es : List KeptEntry) (e : KeptEntry) (t : ObjectType) (n : ℕ) → is_owner t n e.owner ≡ true → IsLink (es ++ e ∷ []) t n (length (es ++ e ∷ [])) (suc (length es))
newest es e t n this =
    let count : length (es ++ e ∷ []) ≡ suc (length es) = length-append es (e ∷ []) ∙ omega arith in
    record {
      within = omega (arith, count);
      here = λ (p : ℕ) (d : KeptEntry) (at : suc (length es) ≡ suc p). at_place p d (omega (arith, at));
      none = λ (p : ℕ) (d : KeptEntry) (from : suc (length es) ≤ p) (below : p < length (es ++ e ∷ [])). absurd (omega (arith, from, below, count));
    }
  where
    at_place : (p : ℕ) (d : KeptEntry) → p ≡ length es → is_owner t n (get_or (es ++ e ∷ []) p d).owner ≡ true
    at_place p d at = ap (λ (q : ℕ). is_owner t n (get_or (es ++ e ∷ []) q d).owner) at ∙ (ap (λ (x : KeptEntry). is_owner t n x.owner) (get_or-append_seam es e [] d) ∙ this)

-- what a map has for a pair that was put, and for another
put_there : (m : List (MapEntry (List ℕ))) (t : ObjectType) (n link : ℕ) → latest_in (with_values m t n (link ∷ [])) t n ≡ link
put_there [] t n link = ap (λ (u : Bool). unwrap_or (option_map first_link (option_map (λ (x : MapEntry (List ℕ)). x.values) (cond u (Some (record { ty = t; id = n; values = link ∷ [] })) None))) 0) (ap (λ (u : Bool). u && n == n) (type_self t) ∙ eq-eqb n n refl)
put_there (e ∷ m) t n link = go (is_pair t n e) refl (put_there m t n link)
  where
    at : (u : Bool) (x : MapEntry (List ℕ)) (xs : List (MapEntry (List ℕ))) → Option (List ℕ)
    at u x xs = option_map (λ (y : MapEntry (List ℕ)). y.values) (cond u (Some x) (find (is_pair t n) xs))

    go : (u : Bool) → is_pair t n e ≡ u → latest_in (with_values m t n (link ∷ [])) t n ≡ link → latest_in (cond u (record e { values = link ∷ [] } ∷ m) (e ∷ with_values m t n (link ∷ []))) t n ≡ link
    go true is ih = ap (λ (v : Bool). unwrap_or (option_map first_link (option_map (λ (y : MapEntry (List ℕ)). y.values) (cond v (Some (record e { values = link ∷ [] })) (find (is_pair t n) m)))) 0) is
    go false is ih = ap (λ (v : Bool). unwrap_or (option_map first_link (option_map (λ (y : MapEntry (List ℕ)). y.values) (cond v (Some e) (find (is_pair t n) (with_values m t n (link ∷ [])))))) 0) is ∙ ih

put_else : (m : List (MapEntry (List ℕ))) (t u : ObjectType) (n k link : ℕ) → (same_type t u && n == k) ≡ false → latest_in (with_values m t n (link ∷ [])) u k ≡ latest_in m u k
put_else [] t u n k link other = ap (λ (v : Bool). unwrap_or (option_map first_link (option_map (λ (x : MapEntry (List ℕ)). x.values) (cond v (Some (record { ty = t; id = n; values = link ∷ [] })) None))) 0) other
put_else (e ∷ m) t u n k link other = go (is_pair t n e) refl (put_else m t u n k link other)
  where
    same_front : (x : MapEntry (List ℕ)) (xs ys : List (MapEntry (List ℕ))) → latest_in xs u k ≡ latest_in ys u k → (v : Bool)
        → unwrap_or (option_map first_link (option_map (λ (y : MapEntry (List ℕ)). y.values) (cond v (Some x) (find (is_pair u k) xs)))) 0 ≡ unwrap_or (option_map first_link (option_map (λ (y : MapEntry (List ℕ)). y.values) (cond v (Some x) (find (is_pair u k) ys)))) 0
    same_front x xs ys is true = refl
    same_front x xs ys is false = is

    go : (v : Bool) → is_pair t n e ≡ v → latest_in (with_values m t n (link ∷ [])) u k ≡ latest_in m u k → latest_in (cond v (record e { values = link ∷ [] } ∷ m) (e ∷ with_values m t n (link ∷ []))) u k ≡ latest_in (e ∷ m) u k
    go true is ih =
        let parts = and_true (same_type e.ty t) (e.id == n) is in
        let apart : is_pair u k e ≡ false = ap (λ (x : ObjectType). same_type x u && e.id == k) (type_is e.ty t parts.0) ∙ (ap (λ (x : ℕ). same_type t u && x == k) (eqb-true e.id n parts.1) ∙ other) in
        ap (λ (w : Bool). unwrap_or (option_map first_link (option_map (λ (y : MapEntry (List ℕ)). y.values) (cond w (Some (record e { values = link ∷ [] })) (find (is_pair u k) m)))) 0) apart
        ∙ sym (ap (λ (w : Bool). unwrap_or (option_map first_link (option_map (λ (y : MapEntry (List ℕ)). y.values) (cond w (Some e) (find (is_pair u k) m)))) 0) apart)
    go false is ih = same_front e (with_values m t n (link ∷ [])) m ih (is_pair u k e)

-- the link before a new entry of a chain
link_is : (m : List (MapEntry (List ℕ))) (owner : Option Object) (t : ObjectType) (n : ℕ) → is_owner t n owner ≡ true → link_of m owner ≡ latest_in m t n
link_is m None t n this = cc this
link_is m (Some o) t n this =
    let parts = and_true (same_type o.ty t) (o.number == n) this in
    ap (λ (u : ObjectType). latest_in m u (o.number)) (type_is o.ty t parts.0) ∙ ap (λ (x : ℕ). latest_in m t x) (eqb-true (o.number) n parts.1)

-- the link of its chain then
link_put : (m : List (MapEntry (List ℕ))) (owner : Option Object) (link : ℕ) (t : ObjectType) (n : ℕ) → is_owner t n owner ≡ true → latest_in (with_link m owner link) t n ≡ link
link_put m None link t n this = cc this
link_put m (Some o) link t n this =
    let parts = and_true (same_type o.ty t) (o.number == n) this in
    sym (ap (λ (u : ObjectType). latest_in (with_link m (Some o) link) u (o.number)) (type_is o.ty t parts.0) ∙ ap (λ (x : ℕ). latest_in (with_link m (Some o) link) t x) (eqb-true (o.number) n parts.1))
    ∙ put_there m o.ty (o.number) link

-- and those of others
link_else : (m : List (MapEntry (List ℕ))) (owner : Option Object) (link : ℕ) (t : ObjectType) (n : ℕ) → is_owner t n owner ≡ false → latest_in (with_link m owner link) t n ≡ latest_in m t n
link_else m None link t n other = refl
link_else m (Some o) link t n other = put_else m o.ty t (o.number) n link other

-- each entry links to those before it, with a new one behind them
linked_more : (es : List KeptEntry) (m : List (MapEntry (List ℕ))) (e : KeptEntry) → AreLinked es → AreLatest es m → e.next ≡ link_of m e.owner → AreLinked (es ++ e ∷ [])
linked_more es m e linked ends next p d less t n inside = go (eq-or-lt_of_le (omega (arith, less, length-append es (e ∷ []))))
  where
    go : (p ≡ length es) ⊎ (p < length es) → IsLink (es ++ e ∷ []) t n p (get_or (es ++ e ∷ []) p d).next
    go (inr l) =
        let same : get_or (es ++ e ∷ []) p d ≡ get_or es p d = get_or-append es (e ∷ []) d p l in
        subst (λ (x : KeptEntry). IsLink (es ++ e ∷ []) t n p x.next) (sym same) (grown es e t n p (get_or es p d).next (omega (arith, l)) (linked p d l t n (sym (ap (λ (x : KeptEntry). is_owner t n x.owner) same) ∙ inside)))
    go (inl l) =
        let same : get_or (es ++ e ∷ []) p d ≡ e = ap (λ (q : ℕ). get_or (es ++ e ∷ []) q d) l ∙ get_or-append_seam es e [] d in
        let this : is_owner t n e.owner ≡ true = sym (ap (λ (x : KeptEntry). is_owner t n x.owner) same) ∙ inside in
        subst (λ (x : KeptEntry). IsLink (es ++ e ∷ []) t n p x.next) (sym same)
        (subst (λ (x : ℕ). IsLink (es ++ e ∷ []) t n x e.next) (sym l)
        (subst (λ (x : ℕ). IsLink (es ++ e ∷ []) t n (length es) x) (sym (next ∙ link_is m e.owner t n this)) (grown es e t n (length es) (latest_in m t n) (omega arith) (ends t n))))

-- the map has the link to the new entry
latest_more : (es : List KeptEntry) (m : List (MapEntry (List ℕ))) (e : KeptEntry) → AreLatest es m → AreLatest (es ++ e ∷ []) (with_link m e.owner (suc (length es)))
latest_more es m e ends t n = go (is_owner t n e.owner) refl
  where
    go : (u : Bool) → is_owner t n e.owner ≡ u → IsLink (es ++ e ∷ []) t n (length (es ++ e ∷ [])) (latest_in (with_link m e.owner (suc (length es))) t n)
    go true this = subst (λ (x : ℕ). IsLink (es ++ e ∷ []) t n (length (es ++ e ∷ [])) x) (sym (link_put m e.owner (suc (length es)) t n this)) (newest es e t n this)
    go false other = subst (λ (x : ℕ). IsLink (es ++ e ∷ []) t n (length (es ++ e ∷ [])) x) (sym (link_else m e.owner (suc (length es)) t n other)) (passed es e t n (latest_in m t n) other (ends t n))

-- a payload stands as it did where more stand behind it
payload_stays : (bytes more : List ℕ) (start len : ℕ) → start + len ≤ length bytes → take len (drop start (bytes ++ more)) ≡ take len (drop start bytes)
payload_stays [] more zero zero within = refl
payload_stays [] more zero (suc len) within = absurd (omega (arith, within))
payload_stays [] more (suc start) len within = absurd (omega (arith, within))
payload_stays (x ∷ bytes) more zero zero within = refl
payload_stays (x ∷ bytes) more zero (suc len) within = ap (λ ys. x ∷ ys) (payload_stays bytes more zero len (omega (arith, within)))
payload_stays (x ∷ bytes) more (suc start) len within = payload_stays bytes more start len (omega (arith, within))

-- the last payload
payload_own : (bytes more : List ℕ) → take (length more) (drop (length bytes) (bytes ++ more)) ≡ more
payload_own [] [] = refl
payload_own [] (v ∷ more) = ap (λ xs. v ∷ xs) (payload_own [] more)
payload_own (x ∷ bytes) more = payload_own bytes more

-- what is kept is as before, with a payload more
kept_stay : (es : List KeptEntry) (bytes more : List ℕ) → HavePayloads es bytes → map (kept_of (bytes ++ more)) es ≡ map (kept_of bytes) es
kept_stay [] bytes more have = refl
kept_stay (e ∷ es) bytes more have =
    ap (λ (xs : List ℕ). (let r : KeptId = record { key = record { owner = e.owner; ty = e.ty; place = e.place; payload = xs }; id = e.id } in r) ∷ map (kept_of (bytes ++ more)) es) (payload_stays bytes more e.start e.len (have 0 e (omega arith)))
    ∙ ap (λ (xs : List KeptId). kept_of bytes e ∷ xs) (kept_stay es bytes more (λ (p : ℕ) (d : KeptEntry) (less : p < length es). have (suc p) d (omega (arith, less))))

-- and what is kept then
kept_then : (es : List KeptEntry) (bytes : List ℕ) (e : KeptEntry) (k : RetrievedKey) (id : ℕ) → HavePayloads es bytes → e.owner ≡ k.owner → e.ty ≡ k.ty → e.place ≡ k.place → e.start ≡ length bytes → e.len ≡ length k.payload.now → e.id ≡ id
    → map (kept_of (bytes ++ k.payload.now)) (es ++ e ∷ []) ≡ map (kept_of bytes) es ++ record { key = key_of k; id = id } ∷ []
kept_then es bytes e k id have owner type place start len is =
    map-append (kept_of (bytes ++ k.payload.now)) es (e ∷ [])
    ∙ (ap (λ (xs : List KeptId). xs ++ kept_of (bytes ++ k.payload.now) e ∷ []) (kept_stay es bytes k.payload.now have)
    ∙ ap (λ (x : KeptId). map (kept_of bytes) es ++ x ∷ []) own)
  where
    payload : take e.len (drop e.start (bytes ++ k.payload.now)) ≡ k.payload.now
    payload = ap (λ (n : ℕ). take n (drop e.start (bytes ++ k.payload.now))) len ∙ (ap (λ (n : ℕ). take (length k.payload.now) (drop n (bytes ++ k.payload.now))) start ∙ payload_own bytes k.payload.now)

    own : kept_of (bytes ++ k.payload.now) e ≡ record { key = key_of k; id = id }
    own = cc (payload, owner, type, place, is)

-- the payloads then
payloads_then : (es : List KeptEntry) (bytes more : List ℕ) (e : KeptEntry) → HavePayloads es bytes → e.start ≡ length bytes → e.len ≡ length more → HavePayloads (es ++ e ∷ []) (bytes ++ more)
payloads_then es bytes more e have start len p d less = go (eq-or-lt_of_le (omega (arith, less, length-append es (e ∷ []))))
  where
    long : length (bytes ++ more) ≡ length bytes + length more
    long = length-append bytes more

    go : (p ≡ length es) ⊎ (p < length es) → (get_or (es ++ e ∷ []) p d).start + (get_or (es ++ e ∷ []) p d).len ≤ length (bytes ++ more)
    go (inr l) = let old : (get_or es p d).start + (get_or es p d).len ≤ length bytes = have p d l in
        subst (λ (x : KeptEntry). x.start + x.len ≤ length (bytes ++ more)) (sym (get_or-append es (e ∷ []) d p l)) (omega (arith, old, long))
    go (inl l) = subst (λ (x : KeptEntry). x.start + x.len ≤ length (bytes ++ more)) (sym (ap (λ (q : ℕ). get_or (es ++ e ∷ []) q d) l ∙ get_or-append_seam es e [] d)) (omega (arith, start, len, long))

-- one entry more, with its link
pub added : (es : List KeptEntry) (bytes more : List ℕ) (m m2 : List (MapEntry (List ℕ))) (e : KeptEntry) (link : ℕ) → AreChained es bytes m → e.next ≡ link_of m e.owner → link ≡ length es + 1 → m2 ≡ with_link m e.owner link
    → e.start ≡ length bytes → e.len ≡ length more → AreChained (es ++ e ∷ []) (bytes ++ more) m2
added es bytes more m m2 e link are next is put start len =
    let count : link ≡ suc (length es) = omega (arith, is) in
    record {
      linked = linked_more es m e are.linked are.ends next;
      ends = subst (λ (x : List (MapEntry (List ℕ))). AreLatest (es ++ e ∷ []) x) (sym (put ∙ ap (with_link m e.owner) count)) (latest_more es m e are.ends);
      payloads = payloads_then es bytes more e are.payloads start len;
    }

-- without entries there are no links
pub none_chained : (m : List (MapEntry (List ℕ))) → m ≡ [] → AreChained [] [] m
none_chained m none = record {
  linked = λ (p : ℕ) (d : KeptEntry) (less : p < length (let no : List KeptEntry = [] in no)) (t : ObjectType) (n : ℕ) _. absurd (omega (arith, less));
  ends = λ (t : ObjectType) (n : ℕ). subst (λ (x : List (MapEntry (List ℕ))). IsLink [] t n 0 (latest_in x t n)) (sym none) (record {
    within = omega arith;
    here = λ (p : ℕ) (d : KeptEntry) (at : 0 ≡ suc p). absurd (omega (arith, at));
    none = λ (p : ℕ) (d : KeptEntry) (from : 0 ≤ p) (below : p < 0). absurd (omega (arith, below));
  });
  payloads = λ (p : ℕ) (d : KeptEntry) (less : p < length (let no : List KeptEntry = [] in no)). absurd (omega (arith, less));
}

-- what is kept then, as the code has it
pub kept_as : (es es2 : List KeptEntry) (bytes bytes2 : List ℕ) (e : KeptEntry) (k : RetrievedKey) (id : ℕ) → HavePayloads es bytes → e.owner ≡ k.owner → e.ty ≡ k.ty → e.place ≡ k.place → e.start ≡ length bytes → e.len ≡ length k.payload.now → e.id ≡ id
    → es2 ≡ es ++ e ∷ [] → bytes2 ≡ bytes ++ k.payload.now → map (kept_of bytes2) es2 ≡ map (kept_of bytes) es ++ record { key = key_of k; id = id } ∷ []
kept_as es es2 bytes bytes2 e k id have owner type place start len is entries payloads =
    ap (λ (xs : List KeptEntry). map (kept_of bytes2) xs) entries
    ∙ (ap (λ (bs : List ℕ). map (kept_of bs) (es ++ e ∷ [])) payloads ∙ kept_then es bytes e k id have owner type place start len is)
