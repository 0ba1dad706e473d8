-- The handles that are kept of objects.
use Rattle.std.proofs.Common.{◌≡◌, ◌<◌, ◌∙◌, ◌||◌, ℕ, zero, suc, cond, Bool, true, false, Option, Some, None, List, [], ◌∷◌, length, map, refl, sym, ap, arith, drop, get_or, min, ◌-◌, length-drop}
use Rattle.std.specs.Option.{option_map_or}
use Rattle.std.specs.Prelude.{find, is_some, unwrap_or}
use Rattle.object_model.specs.declared.Object.{Object}
use Rattle.replay_model.specs.declared.Born.{Born}
use Rattle.object_model.specs.Objects.{is_in, same}
use Rattle.layer_model.proofs.Same.{same_is}
use Rattle.session_tables.specs.declared.object_places.ObjectPlaces.{ObjectPlaces}
use Rattle.session_tables.specs.Filing.{kept, objects_with_values}
use Rattle.session_tables.proofs.FiledObjects.{kept_among}
use Rattle.chain_model.specs.Handed.{Handed, hand_all, hand_one, handle_in}
use Rattle.chain_model.proofs.Handing.{handle_in_one}
use Rattle.session_parts.specs.Handed.{handed_shown, handle_kept}

-- ---- a look-up

abbrev handed_as : (Object → ℕ) → Object → Handed
handed_as g o = record { object = o; handle = g o }

-- the handle of one of these objects
listed : (g : Object → ℕ) (os : List Object) (o : Object) → handle_in (map (handed_as g) os) o ≡ cond (is_in os o) (g o) 0
listed g [] o = refl
listed g (x ∷ os) o = go (same x o) refl (listed g os o)
  where
    go : (t : Bool) → same x o ≡ t → handle_in (map (handed_as g) os) o ≡ cond (is_in os o) (g o) 0
        → option_map_or (λ (h : Handed). h.handle) (cond t (Some (handed_as g x)) (find (λ (h : Handed). same h.object o) (map (handed_as g) os))) 0 ≡ cond (t || is_in os o) (g o) 0
    go true e ih = ap g (same_is x o e)
    go false e ih = ih

-- what is shown of an object is what is kept of it
pub handle_shown : (m : ObjectPlaces ℕ) (o : Object) → handle_in (handed_shown m) o ≡ handle_kept m o
handle_shown m o = listed (handle_kept m) (objects_with_values m) o ∙ go (is_in (objects_with_values m) o) refl (is_some (kept m o)) refl
  where
    none : (x : Option ℕ) → is_some x ≡ false → 0 ≡ unwrap_or x 0
    none None e = refl
    none (Some h) e = cc e

    go : (t : Bool) → is_in (objects_with_values m) o ≡ t → (u : Bool) → is_some (kept m o) ≡ u → cond t (handle_kept m o) 0 ≡ handle_kept m o
    go true e u f = refl
    go false e true f = let wrong : false ≡ true = sym e ∙ kept_among m o f in cc wrong
    go false e false f = none (kept m o) f

-- another handle of an object
pub handed_one : (m n : ObjectPlaces ℕ) (o : Object) (h : ℕ) → ((q : Object) → kept n q ≡ cond (same o q) (Some h) (kept m q)) → (q : Object) → handle_in (handed_shown n) q ≡ handle_in (hand_one o h (handed_shown m)) q
handed_one m n o h put q = handle_shown n q ∙ (ap (λ (x : Option ℕ). unwrap_or x 0) (put q) ∙ (go (same o q) ∙ sym (handle_in_one o h (handed_shown m) q)))
  where
    go : (t : Bool) → unwrap_or (cond t (Some h) (kept m q)) 0 ≡ cond t h (handle_in (handed_shown m) q)
    go true = refl
    go false = sym (handle_shown m q)

-- the handle stays
pub handed_still : (m n : ObjectPlaces ℕ) → ((q : Object) → kept n q ≡ kept m q) → (q : Object) → handle_in (handed_shown n) q ≡ handle_in (handed_shown m) q
handed_still m n still q = handle_shown n q ∙ (ap (λ (x : Option ℕ). unwrap_or x 0) (still q) ∙ sym (handle_shown m q))

-- where the same is kept of the same objects, the same is shown
pub shown_same : (m n : ObjectPlaces ℕ) → objects_with_values n ≡ objects_with_values m → ((q : Object) → kept n q ≡ kept m q) → handed_shown n ≡ handed_shown m
shown_same m n objects handles = λ i. map (λ (o : Object). record { object = o; handle = unwrap_or (handles o i) 0 }) (objects i)

-- ---- results in turn

-- one result is handed, and the rest is left
pub hand_turn : (a : List Handed) (made : List Born) (hs : List ℕ) (n : ℕ) (b : Born) (h : ℕ) → n < length made → n < length hs → b ≡ get_or made n b → h ≡ get_or hs n h
    → hand_all (hand_one b.object h a) (drop (suc n) made) (drop (suc n) hs) ≡ hand_all a (drop n made) (drop n hs)
hand_turn a [] hs n b h l m e f = absurd (omega (arith, l))
hand_turn a (x ∷ made) [] n b h l m e f = absurd (omega (arith, m))
hand_turn a (x ∷ made) (y ∷ hs) zero b h l m e f = λ i. hand_all (hand_one (e i).object (f i) a) made hs
hand_turn a (x ∷ made) (y ∷ hs) (suc n) b h l m e f = hand_turn a made hs n b h (omega (arith, l)) (omega (arith, m)) e f

-- nothing is left beyond the shorter of the lists
pub none_left : (handed : List Handed) (made : List Born) (hs : List ℕ) (n : ℕ) → n ≡ min (length made) (length hs) → handed ≡ hand_all handed (drop n made) (drop n hs)
none_left handed made hs n is = go (drop n made) (drop n hs) (length-drop n made) (length-drop n hs)
  where
    go : (bs : List Born) (ks : List ℕ) → length bs ≡ length made - n → length ks ≡ length hs - n → handed ≡ hand_all handed bs ks
    go [] ks e f = refl
    go (b ∷ bs) [] e f = refl
    go (b ∷ bs) (k ∷ ks) e f = absurd (omega (arith, is))
