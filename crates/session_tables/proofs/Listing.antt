-- What is listed at owners, as objects are born and end.
use Rattle.std.proofs.Common.{◌≡◌, ◌≢◌, ◌<◌, ◌≤◌, ◌+◌, ◌-◌, ◌*◌, ℕ, zero, suc, min, Bool, true, false, not, cond, ◌&&◌, ◌||◌, Option, Some, None, List, [], ◌∷◌, ◌++◌, filter, map, length, get_or, set, ◌⊎◌, inl, inr, refl, sym, ◌∙◌, ap, subst, arith, slice_get, unwrap_or, append-nil, append_assoc, length-append}
use Rattle.std.specs.Prelude.{filter_map}
use Rattle.std.specs.List.{list_any, cons_option}
use Rattle.std.specs.Option.{option_map, option_map_or}
use Rattle.std.proofs.lemmas.List.{map-append}
use Rattle.std.proofs.lemmas.List.Elements.{filter-append}
use Rattle.std.proofs.lemmas.Option.{slice_get-get_or, slice_get_read}
use Rattle.object_model.specs.declared.Object.{Object}
use Rattle.object_model.specs.declared.Argument.{Argument}
use Rattle.object_model.specs.Objects.{same, is_in, object_of}
use Rattle.object_model.specs.History.{Birth, births_of, born_in, created_in, ends_with, owners_in}
use Rattle.session_tables.specs.declared.owned_lists.OwnedNode.{OwnedNode}
use Rattle.session_tables.specs.declared.placed_table.Placed.{Placed}
use Rattle.session_tables.specs.declared.placed_table.PlacedTable.{PlacedTable}
use Rattle.session_tables.specs.Lined.{AreAdded, AreLeft, AreLined, IsBornAlike}
use Rattle.session_tables.specs.Owned.{LeadToNodes, AreListed, GoDown, objects_from, objects_within, head_in}
use Rattle.session_tables.specs.Placed.{ArePlaced, AreTheirPlaces, entry_of}
use Rattle.session_tables.proofs.Ends.{GoWithOwners, below_goes, below_left, both_true, either_goes, left_lined, left_more, left_none, none_goes, not_true, or_left, or_right, unborn_owners, unborn_uncreated, with_goes, with_left}
use Rattle.session_tables.proofs.Objects.{list_any-append, owners_joined, same-true, same_self}
use Rattle.session_tables.proofs.PlacedLemmas.{entry_at, found_some, no_entry, some_is}

-- the test looks both ways alike
pub same_swapped : (a b : Object) → same a b ≡ same b a
same_swapped a b = go (same a b) refl (same b a) refl
  where
    go : (s : Bool) → same a b ≡ s → (t : Bool) → same b a ≡ t → same a b ≡ same b a
    go true e t f = e ∙ sym (ap (λ x. same b x) (same-true a b e) ∙ same_self b)
    go false e true f = let k : b ≡ a = same-true b a f in let l : same a b ≡ true = ap (λ x. same x b) (sym k) ∙ same_self b in cc
    go false e false f = e ∙ sym f

-- an object is born that has owners
pub owned_born : (bs : List Birth) (o w : Object) → is_in (owners_in bs o) w ≡ true → born_in bs o ≡ true
owned_born bs o w owned = go (born_in bs o) refl
  where
    go : (b : Bool) → born_in bs o ≡ b → b ≡ true
    go true h = refl
    go false h = let none : is_in [] w ≡ true = ap (λ os. is_in os w) (sym (unborn_owners bs o h)) ∙ owned in cc

-- ---- the head of an owner

abbrev head_at : Option (Placed ℕ) → ℕ
head_at e = unwrap_or (option_map (λ (p : Placed ℕ). p.value) e) 0

-- an entry that is put in the place of one of the same object
module _ {X : Type 0} (places : Object → Option ℕ) (xs : List (Placed X)) (placed : AreTheirPlaces places xs) (i : ℕ) (p : Placed X) (less : i < length xs) (here : (q : Placed X) → slice_get xs i ≡ Some q → q.object ≡ p.object) where
  got_set : (ys : List (Placed X)) (n j : ℕ) (q : Placed X) → slice_get (set ys n p) j ≡ Some q → (slice_get ys j ≡ Some q) ⊎ ((j ≡ n) × (q ≡ p) × ((r : Placed X) × (slice_get ys n ≡ Some r)))
  got_set [] n j q at = inl at
  got_set (y ∷ ys) zero zero q at = inr (refl, sym (some_is p q at), (y, refl))
  got_set (y ∷ ys) zero (suc j) q at = inl at
  got_set (y ∷ ys) (suc n) zero q at = inl at
  got_set (y ∷ ys) (suc n) (suc j) q at = go (got_set ys n j q at)
    where
      go : (slice_get ys j ≡ Some q) ⊎ ((j ≡ n) × (q ≡ p) × ((r : Placed X) × (slice_get ys n ≡ Some r))) → (slice_get ys j ≡ Some q) ⊎ ((suc j ≡ suc n) × (q ≡ p) × ((r : Placed X) × (slice_get ys n ≡ Some r)))
      go (inl h) = inl h
      go (inr h) = inr (ap (λ (m : ℕ). suc m) h.0, h.1, h.2)

  pub set_placed : AreTheirPlaces places (set xs i p)
  set_placed j q at = go (got_set xs i j q at)
    where
      go : (slice_get xs j ≡ Some q) ⊎ ((j ≡ i) × (q ≡ p) × ((r : Placed X) × (slice_get xs i ≡ Some r))) → places q.object ≡ Some j
      go (inl h) = placed j q h
      go (inr h) = ap (λ (x : Placed X). places x.object) h.1 ∙ (ap places (sym (here h.2.0 h.2.1)) ∙ (placed i h.2.0 h.2.1 ∙ ap (λ (m : ℕ). Some m) (sym h.0)))

  got_other : (ys : List (Placed X)) (n j : ℕ) → j ≢ n → slice_get (set ys n p) j ≡ slice_get ys j
  got_other [] n j apart = refl
  got_other (y ∷ ys) zero zero apart = absurd (apart refl)
  got_other (y ∷ ys) zero (suc j) apart = refl
  got_other (y ∷ ys) (suc n) zero apart = refl
  got_other (y ∷ ys) (suc n) (suc j) apart = got_other ys n j (λ e. apart (ap (λ (m : ℕ). suc m) e))

  got_here : (ys : List (Placed X)) (n : ℕ) → n < length ys → slice_get (set ys n p) n ≡ Some p
  got_here [] n less = absurd (not_below n less)
    where
      not_below : (m : ℕ) → m < 0 → ⊥
      not_below m less = omega (arith, less)
  got_here (y ∷ ys) zero less = refl
  got_here (y ∷ ys) (suc n) less = got_here ys n (omega (arith, less))

  pub set_entry : (w : Object) → entry_of (set xs i p) w ≡ cond (same p.object w) (Some p) (entry_of xs w)
  set_entry w = go (same p.object w) refl (entry_of xs w) refl
    where
      go : (t : Bool) → same p.object w ≡ t → (e : Option (Placed X)) → entry_of xs w ≡ e → entry_of (set xs i p) w ≡ cond t (Some p) e
      go true h e at = entry_at places (set xs i p) set_placed w i p (got_here xs i less) h
      go false h None at = no_entry places (set xs i p) set_placed w (λ j q there mine. by q mine (got_set xs i j q there))
        where
          by : {j : ℕ} (q : Placed X) → same q.object w ≡ true → (slice_get xs j ≡ Some q) ⊎ ((j ≡ i) × (q ≡ p) × ((r : Placed X) × (slice_get xs i ≡ Some r))) → ⊥
          by {j} q mine (inl was) = let so : entry_of xs w ≡ Some q = entry_at places xs placed w j q was mine in cc
          by {j} q mine (inr was) = let so : same p.object w ≡ true = ap (λ (x : Placed X). same x.object w) (sym was.1) ∙ mine in cc
      go false h (Some q) at =
          let f = found_some (λ (r : Placed X). same r.object w) xs q at in
          let apart : f.0 ≢ i = (λ e. let so : same p.object w ≡ true = ap (λ x. same x w) (sym (here q (ap (slice_get xs) (sym e) ∙ f.1))) ∙ f.2 in cc) in
          entry_at places (set xs i p) set_placed w f.0 q (got_other xs i f.0 apart ∙ f.1) f.2

-- another head in place of an owner's
pub head_put : (places : Object → Option ℕ) (xs : List (Placed ℕ)) (owner : Object) (i : ℕ) (d : Placed ℕ) (v : ℕ) → AreTheirPlaces places xs → i < length xs → d ≡ get_or xs i d → slice_get xs i ≡ entry_of xs owner
    → AreTheirPlaces places (set xs i (record { object = d.object; value = v })) × ((w : Object) → head_at (entry_of (set xs i (record { object = d.object; value = v })) w) ≡ cond (same owner w) v (head_at (entry_of xs w)))
head_put places xs owner i d v placed less read at =
    let there : slice_get xs i ≡ Some d = slice_get_read xs (length xs) i d refl less read in
    let is : d.object ≡ owner = same-true d.object owner (found_some (λ (q : Placed ℕ). same q.object owner) xs d (sym at ∙ there)).2 in
    let p : Placed ℕ = record { object = d.object; value = v } in
    let here = λ (q : Placed ℕ) (h : slice_get xs i ≡ Some q). ap (λ (x : Placed ℕ). x.object) (some_is q d (sym h ∙ there)) in (
      set_placed places xs placed i p less here,
      (λ w. ap head_at (set_entry places xs placed i p less here w) ∙ (ap (λ o. head_at (cond (same o w) (Some p) (entry_of xs w))) is ∙ go (same owner w) (entry_of xs w) p v refl)),
    )
  where
    go : (t : Bool) (e : Option (Placed ℕ)) (p : Placed ℕ) (u : ℕ) → p.value ≡ u → head_at (cond t (Some p) e) ≡ cond t u (head_at e)
    go true e p u h = h
    go false e p u h = refl

-- and one for an owner that has none
abbrev or_other : Option (Placed ℕ) → Option (Placed ℕ) → Option (Placed ℕ)
or_other None other = other
or_other (Some p) other = Some p

entry_behind : (xs : List (Placed ℕ)) (e : Placed ℕ) (w : Object) → entry_of (xs ++ e ∷ []) w ≡ or_other (entry_of xs w) (cond (same e.object w) (Some e) None)
entry_behind [] e w = refl
entry_behind (x ∷ xs) e w = go (same x.object w) (entry_behind xs e w)
  where
    go : (t : Bool) → entry_of (xs ++ e ∷ []) w ≡ or_other (entry_of xs w) (cond (same e.object w) (Some e) None)
        → cond t (Some x) (entry_of (xs ++ e ∷ []) w) ≡ or_other (cond t (Some x) (entry_of xs w)) (cond (same e.object w) (Some e) None)
    go true ih = refl
    go false ih = ih

pub head_opened : (xs ys : List (Placed ℕ)) (e : Placed ℕ) (w : Object) → entry_of xs e.object ≡ None → ys ≡ xs ++ e ∷ [] → head_at (entry_of ys w) ≡ cond (same e.object w) e.value (head_at (entry_of xs w))
head_opened xs ys e w none is = ap (λ (es : List (Placed ℕ)). head_at (entry_of es w)) is ∙ (ap head_at (entry_behind xs e w) ∙ go (entry_of xs w) refl (same e.object w) refl)
  where
    go : (o : Option (Placed ℕ)) → entry_of xs w ≡ o → (t : Bool) → same e.object w ≡ t → head_at (or_other o (cond t (Some e) None)) ≡ cond t e.value (head_at o)
    go None at true h = refl
    go None at false h = refl
    go (Some p) at false h = refl
    go (Some p) at true h = let gone : entry_of xs w ≡ None = ap (entry_of xs) (sym (same-true e.object w h)) ∙ none in cc

-- one owner more at which an object is listed
pub listed_more : (f g : Object → List Object) (before : Bool) (owner object w : Object) → (before ≡ true → is_in (f w) object ≡ true) → (is_in (f w) object ≡ true → is_in (g w) object ≡ true) → is_in (g owner) object ≡ true
    → (before || same owner w) ≡ true → is_in (g w) object ≡ true
listed_more f g before owner object w was stays there is = go before refl (same owner w) refl is
  where
    go : (b : Bool) → before ≡ b → (t : Bool) → same owner w ≡ t → (b || t) ≡ true → is_in (g w) object ≡ true
    go true k t h e = stays (was k)
    go false k true h e = ap (λ y. is_in (g y) object) (sym (same-true owner w h)) ∙ there
    go false k false h e = cc e

-- ---- chains of nodes

got_before : {X : Type 0} (xs : List X) (e : X) (i : ℕ) → i < length xs → slice_get (xs ++ e ∷ []) i ≡ slice_get xs i
got_before [] e i less = absurd (omega (arith, less))
got_before (x ∷ xs) e zero less = refl
got_before (x ∷ xs) e (suc i) less = got_before xs e i (omega (arith, less))

got_last : {X : Type 0} (xs : List X) (e : X) → slice_get (xs ++ e ∷ []) (length xs) ≡ Some e
got_last [] e = refl
got_last (x ∷ xs) e = got_last xs e

got_more : (xs : List OwnedNode) (e : OwnedNode) (j : ℕ) (q : OwnedNode) → slice_get (xs ++ e ∷ []) j ≡ Some q → (slice_get xs j ≡ Some q) ⊎ ((j ≡ length xs) × (q ≡ e))
got_more [] e zero q at = inr (refl, sym (some_is e q at))
got_more [] e (suc j) q at = cc at
got_more (x ∷ xs) e zero q at = inl at
got_more (x ∷ xs) e (suc j) q at = go (got_more xs e j q at)
  where
    go : (slice_get xs j ≡ Some q) ⊎ ((j ≡ length xs) × (q ≡ e)) → (slice_get xs j ≡ Some q) ⊎ ((suc j ≡ length (x ∷ xs)) × (q ≡ e))
    go (inl h) = inl h
    go (inr h) = inr (omega (arith, h.0), h.1)

-- what a chain holds from a node on
abbrev from_node : (ℕ → List Object) → Option OwnedNode → List Object
from_node rest n = option_map_or (λ (x : OwnedNode). x.object ∷ rest x.before) n []

-- a chain is no longer than its link says
chain_enough : (nodes : List OwnedNode) → GoDown nodes → (m n link : ℕ) → link ≤ m → link ≤ n → objects_within nodes m link ≡ objects_within nodes n link
chain_enough nodes down zero zero link a b = refl
chain_enough nodes down zero (suc n) zero a b = refl
chain_enough nodes down zero (suc n) (suc place) a b = absurd (omega (arith, a))
chain_enough nodes down (suc m) zero zero a b = refl
chain_enough nodes down (suc m) zero (suc place) a b = absurd (omega (arith, b))
chain_enough nodes down (suc m) (suc n) zero a b = refl
chain_enough nodes down (suc m) (suc n) (suc place) a b = go (λ l c d. chain_enough nodes down m n l c d) (slice_get nodes place) refl
  where
    go : ((l : ℕ) → l ≤ m → l ≤ n → objects_within nodes m l ≡ objects_within nodes n l) → (e : Option OwnedNode) → slice_get nodes place ≡ e → from_node (objects_within nodes m) e ≡ from_node (objects_within nodes n) e
    go ih None is = refl
    go ih (Some x) is = let low : x.before ≤ place = down place x is in ap (λ (xs : List Object). x.object ∷ xs) (ih x.before (omega (arith, a, low)) (omega (arith, b, low)))

-- a node behind leaves chains as they are
chain_behind : (nodes : List OwnedNode) (e : OwnedNode) → GoDown nodes → (m link : ℕ) → link ≤ length nodes → objects_within (nodes ++ e ∷ []) m link ≡ objects_within nodes m link
chain_behind nodes e down zero link a = refl
chain_behind nodes e down (suc m) zero a = refl
chain_behind nodes e down (suc m) (suc place) a =
    ap (from_node (objects_within (nodes ++ e ∷ []) m)) (got_before nodes e place (omega (arith, a))) ∙ go (λ l c. chain_behind nodes e down m l c) (slice_get nodes place) refl
  where
    go : ((l : ℕ) → l ≤ length nodes → objects_within (nodes ++ e ∷ []) m l ≡ objects_within nodes m l) → (o : Option OwnedNode) → slice_get nodes place ≡ o → from_node (objects_within (nodes ++ e ∷ []) m) o ≡ from_node (objects_within nodes m) o
    go ih None is = refl
    go ih (Some x) is = let low : x.before ≤ place = down place x is in ap (λ (xs : List Object). x.object ∷ xs) (ih x.before (omega (arith, a, low)))

-- a chain from it begins with it
chain_new : (nodes : List OwnedNode) (e : OwnedNode) → GoDown nodes → e.before ≤ length nodes → objects_from (nodes ++ e ∷ []) (suc (length nodes)) ≡ e.object ∷ objects_from nodes e.before
chain_new nodes e down within =
    ap (from_node (objects_within (nodes ++ e ∷ []) (length nodes))) (got_last nodes e)
    ∙ ap (λ (xs : List Object). e.object ∷ xs) (chain_behind nodes e down (length nodes) e.before within ∙ chain_enough nodes down (length nodes) e.before e.before within (omega arith))

-- links go down still
down_more : (nodes : List OwnedNode) (e : OwnedNode) → GoDown nodes → e.before ≤ length nodes → GoDown (nodes ++ e ∷ [])
down_more nodes e down within i n at = go (got_more nodes e i n at)
  where
    go : (slice_get nodes i ≡ Some n) ⊎ ((i ≡ length nodes) × (n ≡ e)) → n.before ≤ i
    go (inl here) = down i n here
    go (inr here) = subst (λ (k : ℕ). n.before ≤ k) (sym here.0) (subst (λ (x : OwnedNode). x.before ≤ length nodes) (sym here.1) within)

-- the chain from a link: its node's object, and the chain from the link before
pub chain_next : (nodes : List OwnedNode) (link : ℕ) (d : OwnedNode) → GoDown nodes → 0 < link → link ≤ length nodes
    → (objects_from nodes link ≡ (get_or nodes (link - 1) d).object ∷ objects_from nodes (get_or nodes (link - 1) d).before) × ((get_or nodes (link - 1) d).before < link)
chain_next nodes zero d down some within = absurd (omega (arith, some))
chain_next nodes (suc place) d down some within =
    let here : suc place - 1 ≡ place = omega arith in
    let x : OwnedNode = get_or nodes (suc place - 1) d in
    let there : slice_get nodes place ≡ Some x = ap (slice_get nodes) (sym here) ∙ slice_get-get_or nodes (suc place - 1) d (omega (arith, within)) in
    let low : x.before ≤ place = down place x there in
    (ap (from_node (objects_within nodes place)) there ∙ ap (λ (xs : List Object). x.object ∷ xs) (chain_enough nodes down place x.before x.before low (omega arith)), omega (arith, low))

-- a node behind that is no owner's
pub chained_stray : (heads after : PlacedTable ℕ) (nodes news : List OwnedNode) (e : OwnedNode) → LeadToNodes heads nodes → ArePlaced after → news ≡ nodes ++ e ∷ [] → e.before ≤ length nodes → ((w : Object) → head_in after w ≡ head_in heads w)
    → LeadToNodes after news × ((w : Object) → objects_from news (head_in after w) ≡ objects_from nodes (head_in heads w))
chained_stray heads after nodes news e chained placed is within heads_stay = (
  subst (LeadToNodes after) (sym is) (record {
    placed = placed;
    down = down_more nodes e chained.down within;
    within = λ w. let few : head_in heads w ≤ length nodes = chained.within w in let stays : head_in after w ≡ head_in heads w = heads_stay w in omega (arith, few, stays, length-append nodes (e ∷ []));
  }),
  (λ w. ap (λ (ns : List OwnedNode). objects_from ns (head_in after w)) is ∙ (ap (objects_from (nodes ++ e ∷ [])) (heads_stay w) ∙ chain_behind nodes e chained.down (head_in heads w) (head_in heads w) (chained.within w))),
)

-- and one that is an owner's latest
pub chained_more : (heads after : PlacedTable ℕ) (nodes news : List OwnedNode) (e : OwnedNode) (owner : Object) (link : ℕ) → LeadToNodes heads nodes → ArePlaced after → news ≡ nodes ++ e ∷ [] → e.before ≡ head_in heads owner → link ≡ length nodes + 1
    → ((w : Object) → head_in after w ≡ cond (same owner w) link (head_in heads w))
    → LeadToNodes after news × ((w : Object) → objects_from news (head_in after w) ≡ cond (same owner w) (e.object ∷ objects_from nodes (head_in heads owner)) (objects_from nodes (head_in heads w)))
chained_more heads after nodes news e owner link chained placed is before at put = (
  subst (LeadToNodes after) (sym is) (record { placed = placed; down = down_more nodes e chained.down low; within = λ w. subst (λ (k : ℕ). k ≤ length (nodes ++ e ∷ [])) (sym (put w)) (few w (same owner w)) }),
  (λ w. ap (λ (ns : List OwnedNode). objects_from ns (head_in after w)) is ∙ (ap (objects_from (nodes ++ e ∷ [])) (put w) ∙ go w (same owner w))),
)
  where
    low : e.before ≤ length nodes
    low = subst (λ (k : ℕ). k ≤ length nodes) (sym before) (chained.within owner)

    few : (w : Object) (t : Bool) → cond t link (head_in heads w) ≤ length (nodes ++ e ∷ [])
    few w true = omega (arith, at, length-append nodes (e ∷ []))
    few w false = let one : head_in heads w ≤ length nodes = chained.within w in omega (arith, one, length-append nodes (e ∷ []))

    first : objects_from (nodes ++ e ∷ []) link ≡ e.object ∷ objects_from nodes (head_in heads owner)
    first =
        let one : link ≡ suc (length nodes) = omega (arith, at) in
        ap (objects_from (nodes ++ e ∷ [])) one ∙ (chain_new nodes e chained.down low ∙ ap (λ (k : ℕ). e.object ∷ objects_from nodes k) before)

    go : (w : Object) (t : Bool) → objects_from (nodes ++ e ∷ []) (cond t link (head_in heads w)) ≡ cond t (e.object ∷ objects_from nodes (head_in heads owner)) (objects_from nodes (head_in heads w))
    go w true = first
    go w false = chain_behind nodes e chained.down (head_in heads w) (head_in heads w) (chained.within w)

-- fewer heads
pub chained_fewer : (heads after : PlacedTable ℕ) (nodes : List OwnedNode) → LeadToNodes heads nodes → ArePlaced after → ((w : Object) → head_in after w ≤ head_in heads w) → LeadToNodes after nodes
chained_fewer heads after nodes chained placed fewer = record {
  placed = placed;
  down = chained.down;
  within = λ w. let few : head_in heads w ≤ length nodes = chained.within w in let less : head_in after w ≤ head_in heads w = fewer w in omega (arith, few, less);
}

-- so what is listed stays, and the object is listed at the owner
pub put_stays : (f g : Object → List Object) (owner x : Object) → ((w : Object) → g w ≡ cond (same owner w) (x ∷ f owner) (f w)) → ((w o : Object) → is_in (f w) o ≡ true → is_in (g w) o ≡ true) × (is_in (g owner) x ≡ true)
put_stays f g owner x put = (
  (λ w o is. ap (λ xs. is_in xs o) (put w) ∙ go w o (same owner w) refl is),
  ap (λ xs. is_in xs x) (put owner ∙ ap (λ t. cond t (x ∷ f owner) (f owner)) (same_self owner)) ∙ or_left (same x x) (is_in (f owner) x) (same_self x),
)
  where
    go : (w o : Object) (t : Bool) → same owner w ≡ t → is_in (f w) o ≡ true → is_in (cond t (x ∷ f owner) (f w)) o ≡ true
    go w o true h is = or_right (same x o) (is_in (f owner) o) (ap (λ y. is_in (f y) o) (same-true owner w h) ∙ is)
    go w o false h is = is

-- ---- a walk through a chain: of what was passed, all has ended that the named object owns
pub record AreWalked (before after : List Birth) (chain rest : List Object) (named : Object) : Type 0 where
  pub done : List Object
  pub all : done ++ rest ≡ chain
  pub left : AreLeft before (λ o. is_in done o && is_in (owners_in before o) named) after

-- ---- ends

-- tests that tell the same
pub left_test : (before after : List Birth) (p q : Object → Bool) → ((x : Object) → p x ≡ q x) → AreLeft before p after → AreLeft before q after
left_test before after p q is left = record { lives = λ x. left.lives x ∙ ap (λ t. born_in before x && not t) (is x); alike = left.alike }

-- nothing ends by a test that nothing passes
pub left_all : (before : List Birth) (q : Object → Bool) → ((x : Object) → q x ≡ false) → AreLeft before q before
left_all before q none = left_test before before (λ x. false) q (λ x. sym (none x)) (left_none before)

-- what is left has no other owners
pub left_owners : (before after : List Birth) (p : Object → Bool) (o w : Object) → AreLeft before p after → is_in (owners_in before o) w ≡ false → is_in (owners_in after o) w ≡ false
left_owners before after p o w left apart = go (born_in after o) refl
  where
    go : (b : Bool) → born_in after o ≡ b → is_in (owners_in after o) w ≡ false
    go true h = ap (λ os. is_in os w) (left.alike o h).owners ∙ apart
    go false h = ap (λ os. is_in os w) (unborn_owners after o h)

-- one object ends, which the named one owns
pub left_owned : (before after : List Birth) (x named : Object) → is_in (owners_in before x) named ≡ true → AreLeft before (same x) after → AreLeft before (λ o. same x o && is_in (owners_in before o) named) after
left_owned before after x named owned left = left_test before after (same x) (λ o. same x o && is_in (owners_in before o) named) (λ o. go o (same x o) refl) left
  where
    go : (o : Object) (t : Bool) → same x o ≡ t → t ≡ (t && is_in (owners_in before o) named)
    go o true h = sym (ap (λ y. is_in (owners_in before y) named) (sym (same-true x o h)) ∙ owned)
    go o false h = refl

-- or it isn't
pub left_unowned : (before : List Birth) (x named : Object) → is_in (owners_in before x) named ≡ false → AreLeft before (λ o. same x o && is_in (owners_in before o) named) before
left_unowned before x named apart = left_all before (λ o. same x o && is_in (owners_in before o) named) (λ o. go o (same x o) refl)
  where
    go : (o : Object) (t : Bool) → same x o ≡ t → (t && is_in (owners_in before o) named) ≡ false
    go o true h = ap (λ y. is_in (owners_in before y) named) (sym (same-true x o h)) ∙ apart
    go o false h = refl

-- the heads of others stay, and no head is greater
pub others_stay : (heads after : PlacedTable ℕ) (x : Object) → ((w : Object) → entry_of after.entries.items w ≡ cond (same x w) None (entry_of heads.entries.items w)) → (w : Object) → same x w ≡ false → head_in after w ≡ head_in heads w
others_stay heads after x left w apart = ap head_at (left w ∙ ap (λ t. cond t None (entry_of heads.entries.items w)) apart)

pub heads_fewer : (heads after : PlacedTable ℕ) (x : Object) → ((w : Object) → entry_of after.entries.items w ≡ cond (same x w) None (entry_of heads.entries.items w)) → (w : Object) → head_in after w ≤ head_in heads w
heads_fewer heads after x left w = subst (λ (k : ℕ). k ≤ head_in heads w) (sym (ap head_at (left w))) (go (same x w))
  where
    go : (t : Bool) → head_at (cond t None (entry_of heads.entries.items w)) ≤ head_in heads w
    go true = omega arith
    go false = omega arith

pub owned_apart : (bs : List Birth) (x named w : Object) → is_in (owners_in bs x) named ≡ true → (same x w && is_in (owners_in bs w) named) ≡ false → same x w ≡ false
owned_apart bs x named w owned apart = go (same x w) refl
  where
    go : (t : Bool) → same x w ≡ t → t ≡ false
    go true h = let so : (same x w && is_in (owners_in bs w) named) ≡ true = ap (λ t. t && is_in (owners_in bs w) named) h ∙ (ap (λ y. is_in (owners_in bs y) named) (sym (same-true x w h)) ∙ owned) in cc
    go false h = refl

pub none_owned : (s o : Bool) → o ≡ false → (s && o) ≡ false
none_owned true o h = h
none_owned false o h = refl

-- one more of those that are gone through
pub each_more : (before mid after : List Birth) (a : Object → Bool) (x named : Object) → AreLeft before (λ o. a o && is_in (owners_in before o) named) mid → AreLeft mid (λ o. same x o && is_in (owners_in mid o) named) after
    → AreLeft before (λ o. (a o || same x o) && is_in (owners_in before o) named) after
each_more before mid after a x named first then =
    left_test before after (λ o. (a o && is_in (owners_in before o) named) || (same x o && is_in (owners_in before o) named)) (λ o. (a o || same x o) && is_in (owners_in before o) named)
    (λ o. go (a o) (same x o) (is_in (owners_in before o) named))
    (left_more before mid after (λ o. a o && is_in (owners_in before o) named) (λ o. same x o && is_in (owners_in mid o) named) (λ o. same x o && is_in (owners_in before o) named) first then
    (λ o there. ap (λ os. same x o && is_in os named) (first.alike o there).owners))
  where
    go : (a s o : Bool) → ((a && o) || (s && o)) ≡ ((a || s) && o)
    go true s true = refl
    go true true false = refl
    go true false false = refl
    go false s o = refl

pub walk_begun : (bs : List Birth) (chain : List Object) (named : Object) → AreWalked bs bs chain chain named
walk_begun bs chain named = record { done = []; all = refl; left = left_all bs (λ o. is_in [] o && is_in (owners_in bs o) named) (λ o. refl) }

pub walk_more : (before mid after : List Birth) (chain from rest : List Object) (x named : Object) → AreWalked before mid chain from named → from ≡ x ∷ rest → AreLeft mid (λ o. same x o && is_in (owners_in mid o) named) after
    → AreWalked before after chain rest named
walk_more before mid after chain from rest x named walked is then =
    let done = walked.done in
    record {
      done = done ++ x ∷ [];
      all = append_assoc done (x ∷ []) rest ∙ (ap (λ (xs : List Object). done ++ xs) (sym is) ∙ walked.all);
      left = left_test before after (λ o. (is_in done o || same x o) && is_in (owners_in before o) named) (λ o. is_in (done ++ x ∷ []) o && is_in (owners_in before o) named)
          (λ o. ap (λ t. t && is_in (owners_in before o) named) (ap (λ t. is_in done o || t) (or_none (same x o)) ∙ sym (list_any-append (λ y. same y o) done (x ∷ [])))) (each_more before mid after (is_in done) x named walked.left then);
    }
  where
    or_none : (t : Bool) → t ≡ (t || false)
    or_none true = refl
    or_none false = refl

pub walk_ended : (before after : List Birth) (chain rest : List Object) (named : Object) → AreWalked before after chain rest named → rest ≡ [] → AreLeft before (λ o. is_in chain o && is_in (owners_in before o) named) after
walk_ended before after chain rest named walked none =
    left_test before after (λ o. is_in walked.done o && is_in (owners_in before o) named) (λ o. is_in chain o && is_in (owners_in before o) named)
    (λ o. ap (λ xs. is_in xs o && is_in (owners_in before o) named) (sym (append-nil walked.done) ∙ (ap (λ (xs : List Object). walked.done ++ xs) (sym none) ∙ walked.all))) walked.left

-- all ends that the named object owns, where its list was gone through
pub left_below : (bs after : List Birth) (listed : Object → List Object) (objects : List Object) (named : Object) → AreListed bs listed → listed named ≡ objects
    → AreLeft bs (λ o. is_in objects o && is_in (owners_in bs o) named) after → AreLeft bs (λ o. is_in (owners_in bs o) named) after
left_below bs after listed objects named all there left =
    left_test bs after (λ o. is_in objects o && is_in (owners_in bs o) named) (λ o. is_in (owners_in bs o) named) (λ o. go o (is_in (owners_in bs o) named) refl) left
  where
    none : (t : Bool) → (t && false) ≡ false
    none true = refl
    none false = refl

    go : (o : Object) (t : Bool) → is_in (owners_in bs o) named ≡ t → (is_in objects o && t) ≡ t
    go o true h = ap (λ t. t && true) (ap (λ xs. is_in xs o) (sym there) ∙ all named o h)
    go o false h = none (is_in objects o)

-- nothing is owned where nothing is listed
pub left_unlisted : (bs : List Birth) (listed : Object → List Object) (named : Object) → AreListed bs listed → listed named ≡ [] → AreLeft bs (λ o. is_in (owners_in bs o) named) bs
left_unlisted bs listed named all there = left_all bs (λ o. is_in (owners_in bs o) named) (λ o. go o (is_in (owners_in bs o) named) refl)
  where
    go : (o : Object) (t : Bool) → is_in (owners_in bs o) named ≡ t → t ≡ false
    go o true h = let so : is_in [] o ≡ true = ap (λ xs. is_in xs o) (sym there) ∙ all named o h in cc
    go o false h = refl

-- what is left is listed, where the lists stay of what the named object doesn't own
pub listed_left : (bs after : List Birth) (f g : Object → List Object) (named : Object) → AreLined bs → AreListed bs f → AreLeft bs (λ o. is_in (owners_in bs o) named) after
    → ((w : Object) → same named w ≡ false → is_in (owners_in bs w) named ≡ false → g w ≡ f w) → AreListed after g
listed_left bs after f g named lined all left stays w o owned =
    let born : born_in after o ≡ true = owned_born after o w owned in
    let was : is_in (owners_in bs o) w ≡ true = ap (λ os. is_in os w) (sym (left.alike o born).owners) ∙ owned in
    let apart : is_in (owners_in bs o) named ≡ false = not_true (is_in (owners_in bs o) named) (both_true (born_in bs o) (not (is_in (owners_in bs o) named)) (sym (left.lives o) ∙ born)).1 in
    ap (λ xs. is_in xs o) (stays w (other w was apart (same named w) refl) (below w was apart (is_in (owners_in bs w) named) refl)) ∙ all w o was
  where
    other : (v : Object) → is_in (owners_in bs o) v ≡ true → is_in (owners_in bs o) named ≡ false → (t : Bool) → same named v ≡ t → t ≡ false
    other v was apart true h = let so : is_in (owners_in bs o) named ≡ true = ap (is_in (owners_in bs o)) (same-true named v h) ∙ was in cc
    other v was apart false h = refl

    below : (v : Object) → is_in (owners_in bs o) v ≡ true → is_in (owners_in bs o) named ≡ false → (t : Bool) → is_in (owners_in bs v) named ≡ t → t ≡ false
    below v was apart true h = let so : is_in (owners_in bs o) named ≡ true = below_goes bs named lined o v was h in cc
    below v was apart false h = refl

-- what is left of what was listed is
pub listed_fewer : (bs after : List Birth) (p : Object → Bool) (f : Object → List Object) → AreListed bs f → AreLeft bs p after → AreListed after f
listed_fewer bs after p f all left w o owned = all w o (ap (λ os. is_in os w) (sym (left.alike o (owned_born after o w owned)).owners) ∙ owned)

-- an object ends with what it owns
pub ended_with : (before mid after : List Birth) (named : Object) → created_in before named ≡ true → AreLeft before (λ o. is_in (owners_in before o) named) mid → AreLeft mid (same named) after → AreLeft before (λ o. ends_with before o named) after
ended_with before mid after named created first then =
    left_test before after (λ o. is_in (owners_in before o) named || same named o) (λ o. ends_with before o named)
    (λ o. go (is_in (owners_in before o) named) (same named o) ∙ (ap (λ t. t || is_in (owners_in before o) named) (same_swapped named o) ∙ ap (λ t. t && (same o named || is_in (owners_in before o) named)) (sym created)))
    (left_more before mid after (λ o. is_in (owners_in before o) named) (same named) (same named) first then (λ o there. refl))
  where
    go : (a b : Bool) → (a || b) ≡ (b || a)
    go true true = refl
    go true false = refl
    go false true = refl
    go false false = refl

pub ended_none : (before : List Birth) (named : Object) → created_in before named ≡ false → AreLeft before (λ o. ends_with before o named) before
ended_none before named uncreated = left_all before (λ o. ends_with before o named) (λ o. ap (λ t. t && (same o named || is_in (owners_in before o) named)) uncreated)

-- ---- what arguments name

-- a test of what is named
pub any_mapped : {X Y : Type 0} (p : Y → Bool) (f : X → Option Y) (xs : List X) → list_any (λ x. option_map_or p (f x) false) xs ≡ list_any p (filter_map f xs)
any_mapped p f [] = refl
any_mapped {X = X} {Y = Y} p f (x ∷ xs) = go (f x) (any_mapped p f xs)
  where
    go : (o : Option Y) → list_any (λ (y : X). option_map_or p (f y) false) xs ≡ list_any p (filter_map f xs)
        → (option_map_or p o false || list_any (λ (y : X). option_map_or p (f y) false) xs) ≡ list_any p (cons_option o (filter_map f xs))
    go None ih = ih
    go (Some y) ih = ap (λ t. p y || t) ih

-- what goes with one of these goes with its owners
any_goes : (bs : List Birth) (t : Argument → Object → Bool) → ((a : Argument) → GoWithOwners bs (t a)) → (xs : List Argument) → GoWithOwners bs (λ o. list_any (λ a. t a o) xs)
any_goes bs t goes [] = none_goes bs
any_goes bs t goes (a ∷ xs) = either_goes bs (t a) (λ o. list_any (λ b. t b o) xs) (goes a) (any_goes bs t goes xs)

-- what goes with an argument, by births
abbrev pub goes_with : List Birth → Argument → Object → Bool
goes_with bs a o = option_map_or (ends_with bs o) (object_of a) false

abbrev pub goes_below : List Birth → Argument → Object → Bool
goes_below bs a o = option_map_or (is_in (owners_in bs o)) (object_of a) false

named_goes : (bs : List Birth) → AreLined bs → (a : Argument) → GoWithOwners bs (goes_with bs a)
named_goes bs lined a = go (object_of a)
  where
    go : (n : Option Object) → GoWithOwners bs (λ o. option_map_or (ends_with bs o) n false)
    go None = none_goes bs
    go (Some n) = with_goes bs n lined

named_goes_below : (bs : List Birth) → AreLined bs → (a : Argument) → GoWithOwners bs (goes_below bs a)
named_goes_below bs lined a = go (object_of a)
  where
    go : (n : Option Object) → GoWithOwners bs (λ o. option_map_or (is_in (owners_in bs o)) n false)
    go None = none_goes bs
    go (Some n) = below_goes bs n lined

-- after these arguments owners stand in a line still
pub lined_after : (before mid : List Birth) (xs : List Argument) → AreLined before → AreLeft before (λ o. list_any (λ a. goes_with before a o) xs) mid → AreLined mid
lined_after before mid xs lined left = left_lined before (λ o. list_any (λ a. goes_with before a o) xs) mid lined (any_goes before (goes_with before) (named_goes before lined) xs) left

pub lined_below : (before mid : List Birth) (xs : List Argument) → AreLined before → AreLeft before (λ o. list_any (λ a. goes_below before a o) xs) mid → AreLined mid
lined_below before mid xs lined left = left_lined before (λ o. list_any (λ a. goes_below before a o) xs) mid lined (any_goes before (goes_below before) (named_goes_below before lined) xs) left

-- one argument more: what it names may have ended already
pub ended_more : (before mid after : List Birth) (xs : List Argument) (a : Argument) → AreLined before → AreLeft before (λ o. list_any (λ x. goes_with before x o) xs) mid → AreLeft mid (goes_with mid a) after
    → AreLeft before (λ o. list_any (λ x. goes_with before x o) xs || goes_with before a o) after
ended_more before mid after xs a lined left then =
    left_more before mid after (λ o. list_any (λ x. goes_with before x o) xs) (goes_with mid a) (goes_with before a) left then (λ o there. go (object_of a) o there)
  where
    go : (n : Option Object) (o : Object) → born_in mid o ≡ true → option_map_or (ends_with mid o) n false ≡ option_map_or (ends_with before o) n false
    go None o there = refl
    go (Some n) o there = with_left before (λ x. list_any (λ y. goes_with before y x) xs) mid lined (any_goes before (goes_with before) (named_goes before lined) xs) left o n there

pub below_more : (before mid after : List Birth) (xs : List Argument) (a : Argument) → AreLined before → AreLeft before (λ o. list_any (λ x. goes_below before x o) xs) mid → AreLeft mid (goes_below mid a) after
    → AreLeft before (λ o. list_any (λ x. goes_below before x o) xs || goes_below before a o) after
below_more before mid after xs a lined left then =
    left_more before mid after (λ o. list_any (λ x. goes_below before x o) xs) (goes_below mid a) (goes_below before a) left then (λ o there. go (object_of a) o there)
  where
    go : (n : Option Object) (o : Object) → born_in mid o ≡ true → option_map_or (is_in (owners_in mid o)) n false ≡ option_map_or (is_in (owners_in before o)) n false
    go None o there = refl
    go (Some n) o there = below_left before (λ x. list_any (λ y. goes_below before y x) xs) mid lined (any_goes before (goes_below before) (named_goes_below before lined) xs) left o n there

-- ---- births

-- what an owner owns stays listed
pub listed_still : (bs : List Birth) (f g : Object → List Object) → AreListed bs f → ((w o : Object) → is_in (owners_in bs o) w ≡ true → is_in (f w) o ≡ true → is_in (g w) o ≡ true) → AreListed bs g
listed_still bs f g all stays w o owned = stays w o owned (all w o owned)

-- an object that is born is listed at an owner
pub newly_listed : (bs : List Birth) (g : List Object) (b : Birth) (w : Object) → ((o : Object) → is_in (owners_in bs o) w ≡ true → is_in g o ≡ true) → (is_in b.owners w ≡ true → is_in g b.object ≡ true) → (o : Object)
    → is_in (owners_in (bs ++ b ∷ []) o) w ≡ true → is_in g o ≡ true
newly_listed bs g b w all own o owned = go (born_in bs o) refl (ap (λ os. is_in os w) (sym (owners_joined bs (b ∷ []) o)) ∙ owned)
  where
    go : (t : Bool) → born_in bs o ≡ t → is_in (cond t (owners_in bs o) (owners_in (b ∷ []) o)) w ≡ true → is_in g o ≡ true
    go true h k = all o k
    go false h k = by (same b.object o) refl k
      where
        by : (s : Bool) → same b.object o ≡ s → is_in (option_map_or (λ (x : Birth). x.owners) (cond s (Some b) None) []) w ≡ true → is_in g o ≡ true
        by true e j = ap (is_in g) (sym (same-true b.object o e)) ∙ own j
        by false e j = cc j

-- and so at all its owners
pub listed_new : (bs : List Birth) (f g : Object → List Object) (b : Birth) → AreListed bs f → ((w o : Object) → is_in (owners_in bs o) w ≡ true → is_in (f w) o ≡ true → is_in (g w) o ≡ true)
    → ((w : Object) → is_in b.owners w ≡ true → is_in (g w) b.object ≡ true) → AreListed (bs ++ b ∷ []) g
listed_new bs f g b all stays own w o owned = newly_listed bs (g w) b w (λ x there. stays w x there (all w x there)) (own w) o owned

-- ---- births of one call

-- what was added says of each object what the two lists do
added_alike : (before given mid : List Birth) → AreAdded before given mid → (x : Object) → (born_in mid x ≡ born_in (before ++ given) x) × IsBornAlike mid (before ++ given) x
added_alike before given mid added x = (born, go (born_in mid x) refl)
  where
    born : born_in mid x ≡ born_in (before ++ given) x
    born = added.lives x ∙ sym (list_any-append (λ b. same b.object x) before given)

    go : (t : Bool) → born_in mid x ≡ t → IsBornAlike mid (before ++ given) x
    go true h = added.alike x h
    go false h =
        let other : born_in (before ++ given) x ≡ false = sym born ∙ h in
        record {
          created = unborn_uncreated mid x h ∙ sym (unborn_uncreated (before ++ given) x other);
          owners = unborn_owners mid x h ∙ sym (unborn_owners (before ++ given) x other);
        }

-- and what says so was added
alike_added : (before given after : List Birth) → ((x : Object) → (born_in after x ≡ born_in (before ++ given) x) × IsBornAlike after (before ++ given) x) → AreAdded before given after
alike_added before given after alike = record { lives = λ x. (alike x).0 ∙ list_any-append (λ b. same b.object x) before given; alike = λ x there. (alike x).1 }

pub added_none : (before : List Birth) → AreAdded before [] before
added_none before = alike_added before [] before (λ x. (
  ap (λ (bs : List Birth). born_in bs x) (sym (append-nil before)),
  record { created = ap (λ (bs : List Birth). created_in bs x) (sym (append-nil before)); owners = ap (λ (bs : List Birth). owners_in bs x) (sym (append-nil before)) },
))

-- one more at the end of each
alike_more : (xs ys : List Birth) (b : Birth) (x : Object) → (born_in xs x ≡ born_in ys x) × IsBornAlike xs ys x → (born_in (xs ++ b ∷ []) x ≡ born_in (ys ++ b ∷ []) x) × IsBornAlike (xs ++ b ∷ []) (ys ++ b ∷ []) x
alike_more xs ys b x same_told = (
  list_any-append (λ c. same c.object x) xs (b ∷ []) ∙ (ap (λ t. t || born_in (b ∷ []) x) same_told.0 ∙ sym (list_any-append (λ c. same c.object x) ys (b ∷ []))),
  record {
    created = list_any-append (λ c. same c.object x && c.created) xs (b ∷ []) ∙ (ap (λ t. t || created_in (b ∷ []) x) same_told.1.created ∙ sym (list_any-append (λ c. same c.object x && c.created) ys (b ∷ [])));
    owners =
        owners_joined xs (b ∷ []) x
        ∙ (ap (λ t. cond t (owners_in xs x) (owners_in (b ∷ []) x)) same_told.0 ∙ (ap (λ os. cond (born_in ys x) os (owners_in (b ∷ []) x)) same_told.1.owners ∙ sym (owners_joined ys (b ∷ []) x)));
  },
)

-- a birth with these owners
abbrev birth_with : Bool → List Object → Object → Birth
birth_with created owners o = record { object = o; created = created; owners = owners }

-- births of one call are all creations, or none
given_created : (created : Bool) (owners xs : List Object) (x : Object) → created_in (map (birth_with created owners) xs) x ≡ (born_in (map (birth_with created owners) xs) x && created)
given_created created owners [] x = refl
given_created created owners (y ∷ ys) x = go (same y x) (given_created created owners ys x)
  where
    or_and : (c b : Bool) → (c || (b && c)) ≡ c
    or_and true b = refl
    or_and false true = refl
    or_and false false = refl

    go : (t : Bool) → created_in (map (birth_with created owners) ys) x ≡ (born_in (map (birth_with created owners) ys) x && created)
        → ((t && created) || created_in (map (birth_with created owners) ys) x) ≡ ((t || born_in (map (birth_with created owners) ys) x) && created)
    go true ih = ap (λ t. created || t) ih ∙ or_and created (born_in (map (birth_with created owners) ys) x)
    go false ih = ih

-- a birth once more of what the call bore changes nothing
known_alike : (before : List Birth) (created : Bool) (owners xs : List Object) (o x : Object) → born_in (map (birth_with created owners) xs) o ≡ true
    → (born_in (before ++ map (birth_with created owners) xs) x ≡ born_in ((before ++ map (birth_with created owners) xs) ++ birth_with created owners o ∷ []) x)
    × IsBornAlike (before ++ map (birth_with created owners) xs) ((before ++ map (birth_with created owners) xs) ++ birth_with created owners o ∷ []) x
known_alike before created owners xs o x known =
    let bs = before ++ map (birth_with created owners) xs in
    let given = map (birth_with created owners) xs in
    let joined = list_any-append (λ c. same c.object x) before given in
    let joined2 = list_any-append (λ c. same c.object x && c.created) before given in (
      sym (list_any-append (λ c. same c.object x) bs (birth_with created owners o ∷ []) ∙ born (same o x) refl),
      record {
        created =
            sym (list_any-append (λ c. same c.object x && c.created) bs (birth_with created owners o ∷ [])
            ∙ (ap (λ t. t || ((same o x && created) || false)) (joined2 ∙ ap (λ t. created_in before x || t) (given_created created owners xs x))
            ∙ (made (same o x) refl created (created_in before x) ∙ sym (joined2 ∙ ap (λ t. created_in before x || t) (given_created created owners xs x)))));
        owners = sym (owners_joined bs (birth_with created owners o ∷ []) x ∙ own (same o x) refl (born_in bs x) refl);
      },
    )
  where
    here : same o x ≡ true → born_in (map (birth_with created owners) xs) x ≡ true
    here h = ap (born_in (map (birth_with created owners) xs)) (sym (same-true o x h)) ∙ known

    there : same o x ≡ true → born_in (before ++ map (birth_with created owners) xs) x ≡ true
    there h = list_any-append (λ c. same c.object x) before (map (birth_with created owners) xs) ∙ or_right (born_in before x) (born_in (map (birth_with created owners) xs) x) (here h)

    or_none : (t : Bool) → (t || false) ≡ t
    or_none true = refl
    or_none false = refl

    born : (s : Bool) → same o x ≡ s → (born_in (before ++ map (birth_with created owners) xs) x || (s || false)) ≡ born_in (before ++ map (birth_with created owners) xs) x
    born true h = ap (λ t. t || true) (there h) ∙ sym (there h)
    born false h = or_none (born_in (before ++ map (birth_with created owners) xs) x)

    made : (s : Bool) → same o x ≡ s → (c d : Bool) → ((d || (born_in (map (birth_with created owners) xs) x && c)) || ((s && c) || false)) ≡ (d || (born_in (map (birth_with created owners) xs) x && c))
    made true h c d = ap (λ t. (d || (t && c)) || (c || false)) (here h) ∙ (all c d ∙ ap (λ t. d || (t && c)) (sym (here h)))
      where
        all : (c d : Bool) → ((d || c) || (c || false)) ≡ (d || c)
        all true true = refl
        all true false = refl
        all false true = refl
        all false false = refl
    made false h c d = or_none (d || (born_in (map (birth_with created owners) xs) x && c))

    own : (s : Bool) → same o x ≡ s → (t : Bool) → born_in (before ++ map (birth_with created owners) xs) x ≡ t
        → cond t (owners_in (before ++ map (birth_with created owners) xs) x) (owners_in (birth_with created owners o ∷ []) x) ≡ owners_in (before ++ map (birth_with created owners) xs) x
    own s h true k = refl
    own true h false k = let so = there h in cc
    own false h false k = ap (λ t. option_map_or (λ (b : Birth). b.owners) (cond t (Some (birth_with created owners o)) None) []) h ∙ sym (unborn_owners (before ++ map (birth_with created owners) xs) x k)

-- one object more of a call
pub added_one : (before mid after : List Birth) (created : Bool) (owners objects : List Object) (o : Object) → AreAdded before (births_of before created owners objects) mid → after ≡ cond (born_in mid o) mid (mid ++ birth_with created owners o ∷ [])
    → AreAdded before (births_of before created owners (objects ++ o ∷ [])) after
added_one before mid after created owners objects o added is = subst (λ (bs : List Birth). AreAdded before bs after) (sym grown) (subst (AreAdded before (given ++ map mk (filter fresh (o ∷ [])))) (sym is) (go (born_in mid o) refl (born_in before o) refl))
  where
    mk : Object → Birth
    mk = birth_with created owners

    fresh : Object → Bool
    fresh x = not (born_in before x)

    given : List Birth
    given = births_of before created owners objects

    grown : births_of before created owners (objects ++ o ∷ []) ≡ given ++ map mk (filter fresh (o ∷ []))
    grown = ap (map mk) (filter-append fresh objects (o ∷ [])) ∙ map-append mk (filter fresh objects) (filter fresh (o ∷ []))

    go : (t : Bool) → born_in mid o ≡ t → (u : Bool) → born_in before o ≡ u → AreAdded before (given ++ map mk (cond (not u) (o ∷ []) [])) (cond t mid (mid ++ mk o ∷ []))
    go true h true k = subst (λ (bs : List Birth). AreAdded before bs mid) (sym (append-nil given)) added
    go true h false k =
        let known : born_in given o ≡ true = ap (λ t. t || born_in given o) (sym k) ∙ (sym (added.lives o) ∙ h) in
        alike_added before (given ++ mk o ∷ []) mid (λ x.
        let first = added_alike before given mid added x in
        let then = known_alike before created owners (filter fresh objects) o x known in
        subst (λ (bs : List Birth). (born_in mid x ≡ born_in bs x) × IsBornAlike mid bs x) (append_assoc before given (mk o ∷ []))
        (first.0 ∙ then.0, record { created = first.1.created ∙ then.1.created; owners = first.1.owners ∙ then.1.owners }))
    go false h true k = let so : born_in mid o ≡ true = added.lives o ∙ ap (λ t. t || born_in given o) k in cc
    go false h false k =
        alike_added before (given ++ mk o ∷ []) (mid ++ mk o ∷ []) (λ x.
        subst (λ (bs : List Birth). (born_in (mid ++ mk o ∷ []) x ≡ born_in bs x) × IsBornAlike (mid ++ mk o ∷ []) bs x) (append_assoc before given (mk o ∷ []))
        (alike_more mid (before ++ given) (mk o) x (added_alike before given mid added x)))

-- ---- room for further nodes, by the capacity, the length and the room for heads

pub same_room : (room : ℕ) → room ≤ room
same_room room = omega arith

pub one_more : (room : ℕ) → room ≤ room + 1
one_more room = omega arith

-- a node more, and one that could not be added
pub room_more : (cap more len now heads after : ℕ) → cap ≤ more → now ≡ len + 1 → heads ≤ after + 1 → min (min cap 4294967295 - len) heads ≤ min (min more 4294967295 - now) after + 1
room_more cap more len now heads after grown longer fewer = omega arith

pub room_still : (cap more len now heads : ℕ) → cap ≤ more → now ≡ len → min (min cap 4294967295 - len) heads ≤ min (min more 4294967295 - now) heads + 1
room_still cap more len now heads grown as_long = omega arith

-- where there is room, a node and a head can be added
pub room_there : (cap len heads : ℕ) → 1 ≤ min (min cap 4294967295 - len) heads → (len < 4294967295) × (len < cap) × (1 ≤ heads)
room_there cap len heads some = (omega (arith, some), omega (arith, some), omega (arith, some))

-- where there is too little for nodes, there is too little
pub room_short : (nodes heads room n : ℕ) → room ≡ nodes → room < n → min nodes heads < n
room_short nodes heads room n is short = omega arith

pub room_heads : (nodes heads after : ℕ) → heads ≤ after → min nodes heads ≤ min nodes after
room_heads nodes heads after fewer = omega arith

-- an entry with another link takes none
pub set_room : (cap len now places : ℕ) → now ≡ len → min (min cap 4294967296 - len) places ≤ min (min cap 4294967296 - now) places + 1
set_room cap len now places as_long = omega arith

-- room that is made
pub room_made : (cap more len now heads after : ℕ) → now ≡ len → cap ≤ more → heads ≤ after → min (min cap 4294967295 - len) heads ≤ min (min more 4294967295 - now) after
room_made cap more len now heads after as_long grown fewer = omega arith

pub room_new : (n more now after : ℕ) → now + n ≤ more → n ≤ 4294967295 - now → n ≤ after → n ≤ min (min more 4294967295 - now) after
room_new n more now after there few heads = omega arith

-- it leaves lists as they are
pub listed_same : (heads after : PlacedTable ℕ) (nodes news : List OwnedNode) → after.entries.items ≡ heads.entries.items → news ≡ nodes → (w : Object) → objects_from news (head_in after w) ≡ objects_from nodes (head_in heads w)
listed_same heads after nodes news kept is w = ap (λ (ns : List OwnedNode). objects_from ns (head_in after w)) is ∙ ap (λ (es : List (Placed ℕ)). objects_from nodes (head_at (entry_of es w))) kept

pub chained_same : (heads after : PlacedTable ℕ) (nodes news : List OwnedNode) → LeadToNodes heads nodes → ArePlaced after → after.entries.items ≡ heads.entries.items → news ≡ nodes → LeadToNodes after news
chained_same heads after nodes news chained placed kept is = subst (LeadToNodes after) (sym is) (record {
  placed = placed;
  down = chained.down;
  within = λ w. subst (λ (k : ℕ). k ≤ length nodes) (ap (λ (es : List (Placed ℕ)). head_at (entry_of es w)) (sym kept)) (chained.within w);
})

-- ---- room that one owner after another takes

pub none_listed : (all : ℕ) → all ≤ all + 0
none_listed all = omega arith

pub left_more_room : (all left now i : ℕ) → all ≤ left + i → left ≤ now + 1 → all ≤ now + (i + 1)
left_more_room all left now i before step = omega arith

pub all_listed : (all left i count : ℕ) → i ≤ count → all ≤ left + i → all ≤ left + count
all_listed all left i count few before = omega arith

-- ---- room that the births of one call take: so many links for each

pub three_more : (all left now owners i : ℕ) → owners ≤ 3 → all ≤ left + 3 * i → left ≤ now + owners → all ≤ now + 3 * (i + 1)
three_more all left now owners i few before step = omega arith

pub enough_left : (all left i count : ℕ) → i < count → count ≤ all → all ≤ left + i → 1 ≤ left
enough_left all left i count less enough before = omega arith

pub no_more_links : (all left owners i count : ℕ) → owners ≤ 3 → i < count → 3 * count ≤ all → all ≤ left + 3 * i → owners ≤ left
no_more_links all left owners i count few less enough before = omega arith

-- what has an error hasn't succeeded
pub never : {P : Type 0} → false ≡ true → P
never e = absurd (none e)
  where
    none : false ≡ true → ⊥
    none f = cc f
