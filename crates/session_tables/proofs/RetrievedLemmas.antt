-- Ways through the chains of retrieved objects, and chains with one entry more.
use Rattle.std.proofs.Common.{◌≡◌, ◌==◌, ◌<◌, ◌≤◌, ◌⊎◌, ◌-◌, ◌&&◌, ℕ, zero, suc, ◌+◌, Bool, true, false, cond, Option, Some, None, List, [], ◌∷◌, ◌++◌, map, length, take, drop, get_or, refl, ap, sym, ◌∙◌, subst, arith, unwrap_or, inl, inr, length-append}
use Rattle.std.proofs.lemmas.List.{map-append}
use Rattle.std.proofs.Math.Nat.{eq-or-lt_of_le}
use Rattle.std.proofs.Math.ListN.{get_or-append, drop_of_length-le}
use Rattle.std.proofs.Math.Seq.{drop-cons, get_or-append_seam}
use Rattle.std.proofs.lemmas.Bool.{eqb-true, eq-eqb}
use Rattle.std.specs.List.{find}
use Rattle.std.specs.Option.{option_map}
use Rattle.std.specs.Str.{bytes_eq}
use denote.Enum.Bare.{true_same}
use Rattle.command_tables.specs.contracts.types.ObjectType as type
use Rattle.command_tables.specs.declared.types.ObjectType.{ObjectType}
use Rattle.command_tables.specs.Tests.{same_type}
use Rattle.object_model.specs.declared.Object.{Object}
use Rattle.object_model.specs.Objects.{are_same}
use Rattle.handle_map.specs.Pairs.{MapEntry, is_pair, with_values}
use Rattle.replay_model.specs.Past.{Retrieval}
use Rattle.replay_model.specs.Births.{is_kept}
use Rattle.session_tables.specs.declared.retrieved_map.RetrievedKey.{RetrievedKey}
use Rattle.session_tables.specs.declared.retrieved_table.RetrievedEntry.{RetrievedEntry}
use Rattle.session_tables.specs.Retrieved.{AreChained, AreLatest, AreLinked, HavePayloads, IsLink, chain_number, first_kept, first_link, has_key, is_in_chain, is_owned_in, latest_in, link_of, retrieval_of, with_link}
use Rattle.session_tables.proofs.Objects.{same-true, type_is}

and_true : (a b : Bool) → (a && b) ≡ true → (a ≡ true) × (b ≡ true)
and_true true b e = (refl, e)
and_true false b e = cc e

type_self : (t : ObjectType) → same_type t t ≡ true
unfolding same_type
type_self t = true_same type.the_type t t refl

-- ---- looking

-- an entry with a key is of the key's chain
has_chain : (e : RetrievedEntry) (bytes : List ℕ) (k : RetrievedKey) → has_key k (retrieval_of bytes e) ≡ true → is_in_chain k.owner.ty (chain_number k.owner k.place) e ≡ true
has_chain e bytes k has =
    let parts = and_true (same_type e.object.ty k.ty) (are_same e.owner (Some k.owner) && (e.place == k.place && bytes_eq (take e.len (drop e.start bytes)) k.payload.now)) has in
    let more = and_true (are_same e.owner (Some k.owner)) (e.place == k.place && bytes_eq (take e.len (drop e.start bytes)) k.payload.now) parts.1 in
    let last = and_true (e.place == k.place) (bytes_eq (take e.len (drop e.start bytes)) k.payload.now) more.1 in
    go e.owner more.0 (eqb-true e.place k.place last.0)
  where
    go : (x : Option Object) → are_same x (Some k.owner) ≡ true → e.place ≡ k.place → is_owned_in k.owner.ty (chain_number k.owner k.place) x e.place ≡ true
    go None owned place = cc owned
    go (Some p) owned place =
        ap (λ (q : Object). same_type q.ty k.owner.ty && chain_number q e.place == chain_number k.owner k.place) (same-true p k.owner owned)
        ∙ (ap (λ (n : ℕ). same_type k.owner.ty k.owner.ty && chain_number k.owner n == chain_number k.owner k.place) place
        ∙ (ap (λ (u : Bool). u && chain_number k.owner k.place == chain_number k.owner k.place) (type_self k.owner.ty) ∙ eq-eqb (chain_number k.owner k.place) (chain_number k.owner k.place) refl))

-- one of another chain has another key
has_not : (e : RetrievedEntry) (bytes : List ℕ) (k : RetrievedKey) → is_in_chain k.owner.ty (chain_number k.owner k.place) e ≡ false → has_key k (retrieval_of bytes e) ≡ false
has_not e bytes k other = go (has_key k (retrieval_of bytes e)) refl
  where
    go : (u : Bool) → has_key k (retrieval_of bytes e) ≡ u → u ≡ false
    go true has = sym (has_chain e bytes k has) ∙ other
    go false has = refl

-- entries without the key may be left out
skip : (es : List RetrievedEntry) (bytes : List ℕ) (k : RetrievedKey) (a b : ℕ) → a ≤ b → b ≤ length es → ((p : ℕ) (d : RetrievedEntry) → a ≤ p → p < b → has_key k (retrieval_of bytes (get_or es p d)) ≡ false) → first_kept (map (retrieval_of bytes) (drop a es)) k ≡ first_kept (map (retrieval_of bytes) (drop b es)) k
skip [] bytes k zero zero low high none = refl
skip [] bytes k zero (suc b) low high none = refl
skip [] bytes k (suc a) zero low high none = refl
skip [] bytes k (suc a) (suc b) low high none = refl
skip (e ∷ es) bytes k zero zero low high none = refl
skip (e ∷ es) bytes k zero (suc b) low high none =
    ap (λ (u : Bool). option_map (λ (r : Retrieval). r.object) (cond u (Some (retrieval_of bytes e)) (find (is_kept k.ty (Some k.owner) k.place k.payload.now) (map (retrieval_of bytes) es)))) (none 0 e (omega arith) (omega arith))
    ∙ skip es bytes k 0 b (omega arith) (omega (arith, high)) (λ (p : ℕ) (d : RetrievedEntry) (from : 0 ≤ p) (below : p < b). none (suc p) d (omega arith) (omega (arith, below)))
skip (e ∷ es) bytes k (suc a) zero low high none = absurd (omega (arith, low))
skip (e ∷ es) bytes k (suc a) (suc b) low high none = skip es bytes k a b (omega (arith, low)) (omega (arith, high)) (λ (p : ℕ) (d : RetrievedEntry) (from : a ≤ p) (below : p < b). none (suc p) d (omega (arith, from)) (omega (arith, below)))

-- the walk came to a link, and found what is kept from there on
pub record IsWay (es : List RetrievedEntry) (bytes : List ℕ) (k : RetrievedKey) (link : ℕ) (found : Option Object) : Type 0 where
  pub within : link ≤ length es
  pub here : (p : ℕ) (d : RetrievedEntry) → link ≡ suc p → is_in_chain k.owner.ty (chain_number k.owner k.place) (get_or es p d) ≡ true
  pub rest : found ≡ first_kept (map (retrieval_of bytes) (drop link es)) k

pub way_in : (es : List RetrievedEntry) (bytes : List ℕ) (k : RetrievedKey) (link : ℕ) → IsLink es k.owner.ty (chain_number k.owner k.place) (length es) link → IsWay es bytes k link None
way_in es bytes k link is = record {
  within = is.within;
  here = is.here;
  rest = sym (skip es bytes k link (length es) is.within (omega arith) (λ (p : ℕ) (d : RetrievedEntry) (from : link ≤ p) (below : p < length es). has_not (get_or es p d) bytes k (is.none p d from below))
      ∙ ap (λ (xs : List RetrievedEntry). first_kept (map (retrieval_of bytes) xs) k) (drop_of_length-le es (omega arith)));
}

way_on : (es : List RetrievedEntry) (bytes : List ℕ) (k : RetrievedKey) (p : ℕ) (d : RetrievedEntry) (found : Option Object) → AreLinked es → IsWay es bytes k (suc p) found
    → IsWay es bytes k (get_or es p d).before (cond (has_key k (retrieval_of bytes (get_or es p d))) (Some (get_or es p d).object) found)
way_on es bytes k p d found linked way =
    let less : p < length es = omega (arith, way.within) in
    let link : IsLink es k.owner.ty (chain_number k.owner k.place) p (get_or es p d).before = linked p d less k.owner.ty (chain_number k.owner k.place) (way.here p d refl) in
    record {
      within = omega (arith, link.within, less);
      here = link.here;
      rest = ap (λ (x : Option Object). cond (has_key k (retrieval_of bytes (get_or es p d))) (Some (get_or es p d).object) x) way.rest
          ∙ (at (has_key k (retrieval_of bytes (get_or es p d)))
          ∙ (sym (ap (λ (xs : List RetrievedEntry). first_kept (map (retrieval_of bytes) xs) k) (drop-cons es p d less))
          ∙ sym (skip es bytes k (get_or es p d).before p link.within (omega (arith, less)) (λ (q : ℕ) (x : RetrievedEntry) (from : (get_or es p d).before ≤ q) (below : q < p). has_not (get_or es q x) bytes k (link.none q x from below)))));
    }
  where
    at : (u : Bool) → cond u (Some (get_or es p d).object) (first_kept (map (retrieval_of bytes) (drop (suc p) es)) k) ≡ option_map (λ (r : Retrieval). r.object) (cond u (Some (retrieval_of bytes (get_or es p d))) (find (is_kept k.ty (Some k.owner) k.place k.payload.now) (map (retrieval_of bytes) (drop (suc p) es))))
    at true = refl
    at false = refl

pub way_next : (es : List RetrievedEntry) (bytes : List ℕ) (k : RetrievedKey) (link : ℕ) (d : RetrievedEntry) (found more : Option Object) → AreLinked es → IsWay es bytes k link found → (link ≡ 0 → ⊥)
    → more ≡ cond (has_key k (retrieval_of bytes (get_or es (link - 1) d))) (Some (get_or es (link - 1) d).object) found → IsWay es bytes k (get_or es (link - 1) d).before more
way_next es bytes k zero d found more linked way some is = absurd (some refl)
way_next es bytes k (suc p) d found more linked way some is =
    let here : suc p - 1 ≡ p = omega arith in
    subst (λ (x : Option Object). IsWay es bytes k (get_or es (suc p - 1) d).before x) (sym is)
    (subst (λ (n : ℕ). IsWay es bytes k (get_or es n d).before (cond (has_key k (retrieval_of bytes (get_or es n d))) (Some (get_or es n d).object) found)) (sym here) (way_on es bytes k p d found linked way))

-- ---- one entry more

-- a link into a chain stays one
grown : (es : List RetrievedEntry) (e : RetrievedEntry) (t : ObjectType) (n count link : ℕ) → count ≤ length es → IsLink es t n count link → IsLink (es ++ e ∷ []) t n count link
grown es e t n count link low is = record {
  within = is.within;
  here = λ (p : ℕ) (d : RetrievedEntry) (at : link ≡ suc p). ap (is_in_chain t n) (get_or-append es (e ∷ []) d p (omega (arith, at, low, is.within))) ∙ is.here p d at;
  none = λ (p : ℕ) (d : RetrievedEntry) (from : link ≤ p) (below : p < count). ap (is_in_chain t n) (get_or-append es (e ∷ []) d p (omega (arith, below, low))) ∙ is.none p d from below;
}

-- a link past an entry of another chain
passed : (es : List RetrievedEntry) (e : RetrievedEntry) (t : ObjectType) (n link : ℕ) → is_in_chain t n e ≡ false → IsLink es t n (length es) link → IsLink (es ++ e ∷ []) t n (length (es ++ e ∷ [])) link
passed es e t n link other is =
    let count : length (es ++ e ∷ []) ≡ suc (length es) = length-append es (e ∷ []) ∙ omega arith in
    record {
      within = omega (arith, count, is.within);
      here = (grown es e t n (length es) link (omega arith) is).here;
      none = λ (p : ℕ) (d : RetrievedEntry) (from : link ≤ p) (below : p < length (es ++ e ∷ [])). at p d from (eq-or-lt_of_le (omega (arith, below, count)));
    }
  where
    at : (p : ℕ) (d : RetrievedEntry) → link ≤ p → (p ≡ length es) ⊎ (p < length es) → is_in_chain t n (get_or (es ++ e ∷ []) p d) ≡ false
    at p d from (inr l) = (grown es e t n (length es) link (omega arith) is).none p d from l
    at p d from (inl l) = ap (λ (q : ℕ). is_in_chain t n (get_or (es ++ e ∷ []) q d)) l ∙ (ap (is_in_chain t n) (get_or-append_seam es e [] d) ∙ other)

-- the link to a new entry
newest : (es : List RetrievedEntry) (e : RetrievedEntry) (t : ObjectType) (n : ℕ) → is_in_chain t n e ≡ true → IsLink (es ++ e ∷ []) t n (length (es ++ e ∷ [])) (suc (length es))
newest es e t n this =
    let count : length (es ++ e ∷ []) ≡ suc (length es) = length-append es (e ∷ []) ∙ omega arith in
    record {
      within = omega (arith, count);
      here = λ (p : ℕ) (d : RetrievedEntry) (at : suc (length es) ≡ suc p). at_place p d (omega (arith, at));
      none = λ (p : ℕ) (d : RetrievedEntry) (from : suc (length es) ≤ p) (below : p < length (es ++ e ∷ [])). absurd (omega (arith, from, below, count));
    }
  where
    at_place : (p : ℕ) (d : RetrievedEntry) → p ≡ length es → is_in_chain t n (get_or (es ++ e ∷ []) p d) ≡ true
    at_place p d at = ap (λ (q : ℕ). is_in_chain t n (get_or (es ++ e ∷ []) q d)) at ∙ (ap (is_in_chain t n) (get_or-append_seam es e [] d) ∙ this)

-- what a map has for a pair that was put, and for another
put_there : (m : List (MapEntry (List ℕ))) (t : ObjectType) (n link : ℕ) → latest_in (with_values m t n (link ∷ [])) t n ≡ link
put_there [] t n link = ap (λ (u : Bool). unwrap_or (option_map first_link (option_map (λ (x : MapEntry (List ℕ)). x.values) (cond u (Some (record { ty = t; id = n; values = link ∷ [] })) None))) 0) (ap (λ (u : Bool). u && n == n) (type_self t) ∙ eq-eqb n n refl)
put_there (e ∷ m) t n link = go (is_pair t n e) refl (put_there m t n link)
  where
    go : (u : Bool) → is_pair t n e ≡ u → latest_in (with_values m t n (link ∷ [])) t n ≡ link → latest_in (cond u (record e { values = link ∷ [] } ∷ m) (e ∷ with_values m t n (link ∷ []))) t n ≡ link
    go true is ih = ap (λ (v : Bool). unwrap_or (option_map first_link (option_map (λ (y : MapEntry (List ℕ)). y.values) (cond v (Some (record e { values = link ∷ [] })) (find (is_pair t n) m)))) 0) is
    go false is ih = ap (λ (v : Bool). unwrap_or (option_map first_link (option_map (λ (y : MapEntry (List ℕ)). y.values) (cond v (Some e) (find (is_pair t n) (with_values m t n (link ∷ [])))))) 0) is ∙ ih

put_else : (m : List (MapEntry (List ℕ))) (t u : ObjectType) (n k link : ℕ) → (same_type t u && n == k) ≡ false → latest_in (with_values m t n (link ∷ [])) u k ≡ latest_in m u k
put_else [] t u n k link other = ap (λ (v : Bool). unwrap_or (option_map first_link (option_map (λ (x : MapEntry (List ℕ)). x.values) (cond v (Some (record { ty = t; id = n; values = link ∷ [] })) None))) 0) other
put_else (e ∷ m) t u n k link other = go (is_pair t n e) refl (put_else m t u n k link other)
  where
    same_front : (x : MapEntry (List ℕ)) (xs ys : List (MapEntry (List ℕ))) → latest_in xs u k ≡ latest_in ys u k → (v : Bool)
        → unwrap_or (option_map first_link (option_map (λ (y : MapEntry (List ℕ)). y.values) (cond v (Some x) (find (is_pair u k) xs)))) 0 ≡ unwrap_or (option_map first_link (option_map (λ (y : MapEntry (List ℕ)). y.values) (cond v (Some x) (find (is_pair u k) ys)))) 0
    same_front x xs ys is true = refl
    same_front x xs ys is false = is

    go : (v : Bool) → is_pair t n e ≡ v → latest_in (with_values m t n (link ∷ [])) u k ≡ latest_in m u k → latest_in (cond v (record e { values = link ∷ [] } ∷ m) (e ∷ with_values m t n (link ∷ []))) u k ≡ latest_in (e ∷ m) u k
    go true is ih =
        let parts = and_true (same_type e.ty t) (e.id == n) is in
        let apart : is_pair u k e ≡ false = ap (λ (x : ObjectType). same_type x u && e.id == k) (type_is e.ty t parts.0) ∙ (ap (λ (x : ℕ). same_type t u && x == k) (eqb-true e.id n parts.1) ∙ other) in
        ap (λ (w : Bool). unwrap_or (option_map first_link (option_map (λ (y : MapEntry (List ℕ)). y.values) (cond w (Some (record e { values = link ∷ [] })) (find (is_pair u k) m)))) 0) apart
        ∙ sym (ap (λ (w : Bool). unwrap_or (option_map first_link (option_map (λ (y : MapEntry (List ℕ)). y.values) (cond w (Some e) (find (is_pair u k) m)))) 0) apart)
    go false is ih = same_front e (with_values m t n (link ∷ [])) m ih (is_pair u k e)

-- the link before a new entry of a chain
link_is : (m : List (MapEntry (List ℕ))) (owner : Option Object) (place : ℕ) (t : ObjectType) (n : ℕ) → is_owned_in t n owner place ≡ true → link_of m owner place ≡ latest_in m t n
link_is m None place t n this = cc this
link_is m (Some o) place t n this =
    let parts = and_true (same_type o.ty t) (chain_number o place == n) this in
    ap (λ (u : ObjectType). latest_in m u (chain_number o place)) (type_is o.ty t parts.0) ∙ ap (λ (x : ℕ). latest_in m t x) (eqb-true (chain_number o place) n parts.1)

-- the link of its chain then
link_put : (m : List (MapEntry (List ℕ))) (owner : Option Object) (place link : ℕ) (t : ObjectType) (n : ℕ) → is_owned_in t n owner place ≡ true → latest_in (with_link m owner place link) t n ≡ link
link_put m None place link t n this = cc this
link_put m (Some o) place link t n this =
    let parts = and_true (same_type o.ty t) (chain_number o place == n) this in
    sym (ap (λ (u : ObjectType). latest_in (with_link m (Some o) place link) u (chain_number o place)) (type_is o.ty t parts.0) ∙ ap (λ (x : ℕ). latest_in (with_link m (Some o) place link) t x) (eqb-true (chain_number o place) n parts.1))
    ∙ put_there m o.ty (chain_number o place) link

-- and those of others
link_else : (m : List (MapEntry (List ℕ))) (owner : Option Object) (place link : ℕ) (t : ObjectType) (n : ℕ) → is_owned_in t n owner place ≡ false → latest_in (with_link m owner place link) t n ≡ latest_in m t n
link_else m None place link t n other = refl
link_else m (Some o) place link t n other = put_else m o.ty t (chain_number o place) n link other

-- each entry links to those before it, with a new one behind them
linked_more : (es : List RetrievedEntry) (m : List (MapEntry (List ℕ))) (e : RetrievedEntry) → AreLinked es → AreLatest es m → e.before ≡ link_of m e.owner e.place → AreLinked (es ++ e ∷ [])
linked_more es m e linked ends before p d less t n inside = go (eq-or-lt_of_le (omega (arith, less, length-append es (e ∷ []))))
  where
    go : (p ≡ length es) ⊎ (p < length es) → IsLink (es ++ e ∷ []) t n p (get_or (es ++ e ∷ []) p d).before
    go (inr l) =
        let same : get_or (es ++ e ∷ []) p d ≡ get_or es p d = get_or-append es (e ∷ []) d p l in
        subst (λ (x : RetrievedEntry). IsLink (es ++ e ∷ []) t n p x.before) (sym same) (grown es e t n p (get_or es p d).before (omega (arith, l)) (linked p d l t n (sym (ap (is_in_chain t n) same) ∙ inside)))
    go (inl l) =
        let same : get_or (es ++ e ∷ []) p d ≡ e = ap (λ (q : ℕ). get_or (es ++ e ∷ []) q d) l ∙ get_or-append_seam es e [] d in
        let this : is_in_chain t n e ≡ true = sym (ap (is_in_chain t n) same) ∙ inside in
        subst (λ (x : RetrievedEntry). IsLink (es ++ e ∷ []) t n p x.before) (sym same)
        (subst (λ (x : ℕ). IsLink (es ++ e ∷ []) t n x e.before) (sym l)
        (subst (λ (x : ℕ). IsLink (es ++ e ∷ []) t n (length es) x) (sym (before ∙ link_is m e.owner e.place t n this)) (grown es e t n (length es) (latest_in m t n) (omega arith) (ends t n))))

-- the map has the link to the new entry
latest_more : (es : List RetrievedEntry) (m : List (MapEntry (List ℕ))) (e : RetrievedEntry) → AreLatest es m → AreLatest (es ++ e ∷ []) (with_link m e.owner e.place (suc (length es)))
latest_more es m e ends t n = go (is_in_chain t n e) refl
  where
    go : (u : Bool) → is_in_chain t n e ≡ u → IsLink (es ++ e ∷ []) t n (length (es ++ e ∷ [])) (latest_in (with_link m e.owner e.place (suc (length es))) t n)
    go true this = subst (λ (x : ℕ). IsLink (es ++ e ∷ []) t n (length (es ++ e ∷ [])) x) (sym (link_put m e.owner e.place (suc (length es)) t n this)) (newest es e t n this)
    go false other = subst (λ (x : ℕ). IsLink (es ++ e ∷ []) t n (length (es ++ e ∷ [])) x) (sym (link_else m e.owner e.place (suc (length es)) t n other)) (passed es e t n (latest_in m t n) other (ends t n))

-- a payload stands as it did where more stand behind it
payload_stays : (bytes more : List ℕ) (start len : ℕ) → start + len ≤ length bytes → take len (drop start (bytes ++ more)) ≡ take len (drop start bytes)
payload_stays [] more zero zero within = refl
payload_stays [] more zero (suc len) within = absurd (omega (arith, within))
payload_stays [] more (suc start) len within = absurd (omega (arith, within))
payload_stays (x ∷ bytes) more zero zero within = refl
payload_stays (x ∷ bytes) more zero (suc len) within = ap (λ ys. x ∷ ys) (payload_stays bytes more zero len (omega (arith, within)))
payload_stays (x ∷ bytes) more (suc start) len within = payload_stays bytes more start len (omega (arith, within))

-- the last payload
payload_own : (bytes more : List ℕ) → take (length more) (drop (length bytes) (bytes ++ more)) ≡ more
payload_own [] [] = refl
payload_own [] (v ∷ more) = ap (λ xs. v ∷ xs) (payload_own [] more)
payload_own (x ∷ bytes) more = payload_own bytes more

-- what is kept is as before, with a payload more
kept_stay : (es : List RetrievedEntry) (bytes more : List ℕ) → HavePayloads es bytes → map (retrieval_of (bytes ++ more)) es ≡ map (retrieval_of bytes) es
kept_stay [] bytes more have = refl
kept_stay (e ∷ es) bytes more have =
    ap (λ (xs : List ℕ). (let r : Retrieval = record { owner = e.owner; place = e.place; payload = xs; object = e.object } in r) ∷ map (retrieval_of (bytes ++ more)) es) (payload_stays bytes more e.start e.len (have 0 e (omega arith)))
    ∙ ap (λ (xs : List Retrieval). retrieval_of bytes e ∷ xs) (kept_stay es bytes more (λ (p : ℕ) (d : RetrievedEntry) (less : p < length es). have (suc p) d (omega (arith, less))))

-- and what is kept then
kept_then : (es : List RetrievedEntry) (bytes more : List ℕ) (e : RetrievedEntry) → HavePayloads es bytes → e.start ≡ length bytes → e.len ≡ length more
    → map (retrieval_of (bytes ++ more)) (es ++ e ∷ []) ≡ map (retrieval_of bytes) es ++ record { owner = e.owner; place = e.place; payload = more; object = e.object } ∷ []
kept_then es bytes more e have start len =
    map-append (retrieval_of (bytes ++ more)) es (e ∷ [])
    ∙ (ap (λ (xs : List Retrieval). xs ++ retrieval_of (bytes ++ more) e ∷ []) (kept_stay es bytes more have)
    ∙ ap (λ (xs : List ℕ). map (retrieval_of bytes) es ++ (let r : Retrieval = record { owner = e.owner; place = e.place; payload = xs; object = e.object } in r) ∷ []) payload)
  where
    payload : take e.len (drop e.start (bytes ++ more)) ≡ more
    payload = ap (λ (n : ℕ). take n (drop e.start (bytes ++ more))) len ∙ (ap (λ (n : ℕ). take (length more) (drop n (bytes ++ more))) start ∙ payload_own bytes more)

-- the payloads then
payloads_then : (es : List RetrievedEntry) (bytes more : List ℕ) (e : RetrievedEntry) → HavePayloads es bytes → e.start ≡ length bytes → e.len ≡ length more → HavePayloads (es ++ e ∷ []) (bytes ++ more)
payloads_then es bytes more e have start len p d less = go (eq-or-lt_of_le (omega (arith, less, length-append es (e ∷ []))))
  where
    long : length (bytes ++ more) ≡ length bytes + length more
    long = length-append bytes more

    go : (p ≡ length es) ⊎ (p < length es) → (get_or (es ++ e ∷ []) p d).start + (get_or (es ++ e ∷ []) p d).len ≤ length (bytes ++ more)
    go (inr l) = let old : (get_or es p d).start + (get_or es p d).len ≤ length bytes = have p d l in
        subst (λ (x : RetrievedEntry). x.start + x.len ≤ length (bytes ++ more)) (sym (get_or-append es (e ∷ []) d p l)) (omega (arith, old, long))
    go (inl l) = subst (λ (x : RetrievedEntry). x.start + x.len ≤ length (bytes ++ more)) (sym (ap (λ (q : ℕ). get_or (es ++ e ∷ []) q d) l ∙ get_or-append_seam es e [] d)) (omega (arith, start, len, long))

-- one entry more, with its link
pub added : (es : List RetrievedEntry) (bytes more : List ℕ) (m m2 : List (MapEntry (List ℕ))) (e : RetrievedEntry) (link : ℕ) → AreChained es bytes m → e.before ≡ link_of m e.owner e.place → link ≡ length es + 1 → m2 ≡ with_link m e.owner e.place link
    → e.start ≡ length bytes → e.len ≡ length more → AreChained (es ++ e ∷ []) (bytes ++ more) m2
added es bytes more m m2 e link are before is put start len =
    let count : link ≡ suc (length es) = omega (arith, is) in
    record {
      linked = linked_more es m e are.linked are.ends before;
      ends = subst (λ (x : List (MapEntry (List ℕ))). AreLatest (es ++ e ∷ []) x) (sym (put ∙ ap (with_link m e.owner e.place) count)) (latest_more es m e are.ends);
      payloads = payloads_then es bytes more e are.payloads start len;
    }

-- what is kept then, as the code has it
pub kept_as : (es es2 : List RetrievedEntry) (bytes bytes2 more : List ℕ) (e : RetrievedEntry) → HavePayloads es bytes → e.start ≡ length bytes → e.len ≡ length more → es2 ≡ es ++ e ∷ [] → bytes2 ≡ bytes ++ more
    → map (retrieval_of bytes2) es2 ≡ map (retrieval_of bytes) es ++ record { owner = e.owner; place = e.place; payload = more; object = e.object } ∷ []
kept_as es es2 bytes bytes2 more e have start len entries payloads =
    ap (λ (xs : List RetrievedEntry). map (retrieval_of bytes2) xs) entries
    ∙ (ap (λ (bs : List ℕ). map (retrieval_of bs) (es ++ e ∷ [])) payloads ∙ kept_then es bytes more e have start len)
