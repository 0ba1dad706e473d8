-- Names are given once, so what a call makes is new, or was retrieved before by its place.
use Rattle.std.proofs.Common.{◌≡◌, ◌==◌, ◌<◌, ◌⊎◌, inl, inr, ℕ, zero, suc, ◌+◌, Bool, true, false, cond, ◌&&◌, ◌||◌, Option, Some, None, List, [], ◌∷◌, ◌++◌, map, take, refl, sym, ◌∙◌, ap, subst, arith}
use Rattle.std.proofs.lemmas.Bool.{eq-eqb, eqb-true}
use Rattle.std.proofs.lemmas.List.Folds.{list_any-append}
use Rattle.std.specs.Prelude.{find, slice_get}
use Rattle.std.specs.List.{list_any, AllByRecursion, enumerate_from}
use Rattle.std.specs.Option.{option_map, option_map_or}
use Rattle.std.specs.Str.{bytes_eq}
use Rattle.command_tables.specs.declared.types.CommandId.TheVariants as cmd
use Rattle.command_tables.specs.declared.types.ObjectType.{ObjectType}
use Rattle.command_tables.specs.declared.types.Effect.{Effect}
use Rattle.command_tables.specs.declared.types.Effect.TheVariants as eff
use Rattle.trace_format.specs.declared.event.Name.{Name}
use Rattle.object_model.specs.declared.Object.{Object}
use Rattle.replay_model.specs.declared.Born.{Born}
use Rattle.command_tables.specs.Table.{row_of}
use Rattle.command_tables.specs.Tests.{same_type, same_command}
use Rattle.command_tables.specs.Effects.{type_made}
use Rattle.object_model.specs.Objects.{same, are_same}
use Rattle.object_model.specs.History.{Birth, born_in, owners_given}
use Rattle.replay_model.specs.Past.{Opened, Retrieval}
use Rattle.object_model.specs.Keys.{key_payload}
use Rattle.replay_model.specs.Births.{bears, own_number, own_object, is_kept, result_object, made_by}
use Rattle.chain_model.proofs.OneByOne.{Asking, keep_one, only, AreDecided, AreOther, AreApart, ArePlaced, AreRetrieved}
use Rattle.chain_model.proofs.Passing.{asking_by, HaveMade}
use Rattle.layer_model.proofs.Same.{same_is, same_self, same_sym, type_is, and_true, apart}

-- ---- what is found

-- what is found passes the test, and is in the list
pub found_passes : {X : Type 0} (p : X → Bool) (xs : List X) (x : X) → find p xs ≡ Some x → p x ≡ true
found_passes p [] x is = cc is
found_passes p (y ∷ xs) x is = go (p y) refl (found_passes p xs x) is
  where
    go : (u : Bool) → p y ≡ u → (find p xs ≡ Some x → p x ≡ true) → cond u (Some y) (find p xs) ≡ Some x → p x ≡ true
    go true e ih h = let one : y ≡ x = cc in ap p (sym one) ∙ e
    go false e ih h = ih h

found_born : (bs : List Birth) (p : Retrieval → Bool) (rs : List Retrieval) (r : Retrieval) → AreRetrieved bs rs → find p rs ≡ Some r → born_in bs r.object ≡ true
found_born bs p [] r all is = cc is
found_born bs p (x ∷ rs) r all is = go (p x) (found_born bs p rs r all.2) is
  where
    go : (u : Bool) → (find p rs ≡ Some r → born_in bs r.object ≡ true) → cond u (Some x) (find p rs) ≡ Some r → born_in bs r.object ≡ true
    go true ih h = let one : x ≡ r = cc in ap (λ (y : Retrieval). born_in bs y.object) (sym one) ∙ all.1
    go false ih h = ih h

-- ---- retrieved objects are kept once

abbrev pub KeptOnce : List Retrieval → Type 0
KeptOnce [] = Unit {0}
KeptOnce (r ∷ rs) = (list_any (λ (x : Retrieval). same x.object r.object) rs ≡ false) × KeptOnce rs

found_there : (p : Retrieval → Bool) (rs : List Retrieval) (r : Retrieval) → find p rs ≡ Some r → list_any (λ (x : Retrieval). same x.object r.object) rs ≡ true
found_there p [] r is = cc is
found_there p (x ∷ rs) r is = go (p x) (found_there p rs r) is
  where
    or_true : (t : Bool) → (t || true) ≡ true
    or_true true = refl
    or_true false = refl

    go : (u : Bool) → (find p rs ≡ Some r → list_any (λ (y : Retrieval). same y.object r.object) rs ≡ true) → cond u (Some x) (find p rs) ≡ Some r → (same x.object r.object || list_any (λ (y : Retrieval). same y.object r.object) rs) ≡ true
    go true ih h = let one : x ≡ r = cc in ap (λ t. t || list_any (λ (y : Retrieval). same y.object r.object) rs) (ap (λ (y : Retrieval). same y.object r.object) one ∙ same_self r.object)
    go false ih h = ap (λ t. same x.object r.object || t) (ih h) ∙ or_true (same x.object r.object)

-- two that are found and are of one object are one
pub found_once : (p q : Retrieval → Bool) (rs : List Retrieval) (a b : Retrieval) → KeptOnce rs → find p rs ≡ Some a → find q rs ≡ Some b → a.object ≡ b.object → a ≡ b
found_once p q [] a b once fa fb is = cc fa
found_once p q (x ∷ rs) a b once fa fb is = go (p x) (q x) (found_once p q rs a b once.1) (found_there p rs a) (found_there q rs b) fa fb
  where
    go : (u v : Bool) → (find p rs ≡ Some a → find q rs ≡ Some b → a.object ≡ b.object → a ≡ b) → (find p rs ≡ Some a → list_any (λ (y : Retrieval). same y.object a.object) rs ≡ true)
        → (find q rs ≡ Some b → list_any (λ (y : Retrieval). same y.object b.object) rs ≡ true) → cond u (Some x) (find p rs) ≡ Some a → cond v (Some x) (find q rs) ≡ Some b → a ≡ b
    go true true ih ta tb h k = cc
    go true false ih ta tb h k =
        let one : x ≡ a = cc in
        let there : list_any (λ (y : Retrieval). same y.object x.object) rs ≡ true = ap (λ (z : Object). list_any (λ (y : Retrieval). same y.object z) rs) (ap (λ (y : Retrieval). y.object) one ∙ is) ∙ tb k in
        let gone : list_any (λ (y : Retrieval). same y.object x.object) rs ≡ false = once.0 in cc
    go false true ih ta tb h k =
        let one : x ≡ b = cc in
        let there : list_any (λ (y : Retrieval). same y.object x.object) rs ≡ true = ap (λ (z : Object). list_any (λ (y : Retrieval). same y.object z) rs) (ap (λ (y : Retrieval). y.object) one ∙ sym is) ∙ ta h in
        let gone : list_any (λ (y : Retrieval). same y.object x.object) rs ≡ false = once.0 in cc
    go false false ih ta tb h k = ih h k is

once_more : (rs : List Retrieval) (r : Retrieval) → KeptOnce rs → list_any (λ (x : Retrieval). same x.object r.object) rs ≡ false → KeptOnce (rs ++ r ∷ [])
once_more [] r once fresh = (refl, tt)
once_more (x ∷ rs) r once fresh = (list_any-append (λ (y : Retrieval). same y.object x.object) rs (r ∷ []) ∙ both, once_more rs r once.1 (right (same x.object r.object) (list_any (λ (y : Retrieval). same y.object r.object) rs) fresh))
  where
    left : (p q : Bool) → (p || q) ≡ false → p ≡ false
    left false q e = refl
    left true q e = cc e

    right : (p q : Bool) → (p || q) ≡ false → q ≡ false
    right false q e = e
    right true q e = cc e

    both : (list_any (λ (y : Retrieval). same y.object x.object) rs || (same r.object x.object || false)) ≡ false
    both = rw (once.0, sym (same_sym x.object r.object) ∙ left (same x.object r.object) (list_any (λ (y : Retrieval). same y.object r.object) rs) fresh) refl

-- what isn't born isn't kept
not_kept : (bs : List Birth) (o : Object) → born_in bs o ≡ false → (rs : List Retrieval) → AreRetrieved bs rs → list_any (λ (x : Retrieval). same x.object o) rs ≡ false
not_kept bs o fresh [] all = refl
not_kept bs o fresh (r ∷ rs) all = go (same r.object o) refl (not_kept bs o fresh rs all.2)
  where
    go : (u : Bool) → same r.object o ≡ u → list_any (λ (x : Retrieval). same x.object o) rs ≡ false → (u || list_any (λ (x : Retrieval). same x.object o) rs) ≡ false
    go true e ih = let bad : born_in bs o ≡ true = ap (born_in bs) (sym (same_is r.object o e)) ∙ all.1 in cc
    go false e ih = ih

pub kept_once_one : (q : Option Asking) (bs : List Birth) (rs : List Retrieval) (b : Born) → AreRetrieved bs rs → KeptOnce rs → KeptOnce (keep_one q bs rs b)
kept_once_one None bs rs b all once = once
kept_once_one (Some q) bs rs b all once = go (born_in bs b.object) refl
  where
    go : (u : Bool) → born_in bs b.object ≡ u → KeptOnce (cond u rs (rs ++ record { owner = q.owner; place = b.place; payload = q.payload; object = b.object } ∷ []))
    go true e = once
    go false e = once_more rs (record { owner = q.owner; place = b.place; payload = q.payload; object = b.object }) once (not_kept bs b.object e rs all)

-- ---- the results of one call

-- the objects that names would stand for aren't born
abbrev pub AreFresh : List Birth → List Name → Type 0
AreFresh bs names = AllByRecursion (λ n. (t : ObjectType) → born_in bs (own_object t n) ≡ false) names

-- the name's number is none of these
abbrev pub IsOtherName : Name → List Name → Type 0
IsOtherName n names = AllByRecursion (λ m. (own_number n == own_number m) ≡ false) names

-- the names' numbers differ
abbrev pub NamesApart : List Name → Type 0
NamesApart [] = Unit {0}
NamesApart (n ∷ names) = IsOtherName n names × NamesApart names

-- each result with its place and its object
abbrev placed_from : (ℕ → Name → Object) → ℕ → List Name → List Born
placed_from f k [] = []
placed_from f k (n ∷ names) = record { place = k; name = n; object = f k n } ∷ placed_from f (k + 1) names

placed_is : (f : ℕ → Name → Object) (k : ℕ) (names : List Name) → map (λ (x : ℕ × Name). record { place = x.0; name = x.1; object = f x.0 x.1 }) (enumerate_from k names) ≡ placed_from f k names
placed_is f k [] = refl
placed_is f k (n ∷ names) = ap (λ xs. record { place = k; name = n; object = f k n } ∷ xs) (placed_is f (k + 1) names)

are_placed : (f : ℕ → Name → Object) (k : ℕ) (names : List Name) → ArePlaced k (placed_from f k names)
are_placed f k [] = tt
are_placed f k (n ∷ names) = (refl, are_placed f (k + 1) names)

other_own : (t : ObjectType) (n m : Name) → (own_number n == own_number m) ≡ false → same (own_object t n) (own_object t m) ≡ false
other_own t n m e = rw e (none (same_type t t))
  where
    none : (b : Bool) → (b && false) ≡ false
    none true = refl
    none false = refl

-- ---- a call that creates

created_other : (t : ObjectType) (n : Name) (k : ℕ) (names : List Name) → IsOtherName n names → AreOther (own_object t n) (placed_from (λ j m. own_object t m) k names)
created_other t n k [] e = tt
created_other t n k (m ∷ names) e = (other_own t n m e.0, created_other t n (k + 1) names e.1)

created_apart : (t : ObjectType) (k : ℕ) (names : List Name) → NamesApart names → AreApart (placed_from (λ j m. own_object t m) k names)
created_apart t k [] e = tt
created_apart t k (n ∷ names) e = (created_other t n (k + 1) names e.0, created_apart t (k + 1) names e.1)

created_decided : (bs : List Birth) (rs : List Retrieval) (t : ObjectType) (k : ℕ) (names : List Name) → AreFresh bs names → AreDecided None t bs rs (placed_from (λ j m. own_object t m) k names)
created_decided bs rs t k [] e = tt
created_decided bs rs t k (n ∷ names) e = (ap (λ u. only u (own_object t n)) (sym (e.0 t)), refl, created_decided bs rs t (k + 1) names e.1)

-- ---- a call that retrieves

module _ (bs : List Birth) (rs : List Retrieval) (q : Asking) (t : ObjectType) (all : AreRetrieved bs rs) (once : KeptOnce rs) where
  abbrev got : ℕ → Name → Object
  got k n = option_map_or (λ (r : Retrieval). r.object) (find (is_kept t q.owner k q.payload) rs) (own_object t n)

  retrieved_decided : (k : ℕ) (names : List Name) → AreFresh bs names → AreDecided (Some q) t bs rs (placed_from got k names)
  retrieved_decided k [] e = tt
  retrieved_decided k (n ∷ names) e = at (find (is_kept t q.owner k q.payload) rs) refl (retrieved_decided (k + 1) names e.1)
    where
      at : (f : Option Retrieval) → find (is_kept t q.owner k q.payload) rs ≡ f → AreDecided (Some q) t bs rs (placed_from got (k + 1) names)
          → (option_map (λ (r : Retrieval). r.object) (find (is_kept t q.owner k q.payload) rs) ≡ only (born_in bs (got k n)) (got k n)) × ((got k n).ty ≡ t) × AreDecided (Some q) t bs rs (placed_from got (k + 1) names)
      at None is ih = (rw (is, e.0 t) refl, ap (λ (f : Option Retrieval). (option_map_or (λ (r : Retrieval). r.object) f (own_object t n)).ty) is, ih)
      at (Some r) is ih =
          let born : born_in bs r.object ≡ true = found_born bs (is_kept t q.owner k q.payload) rs r all is in
          let passes : is_kept t q.owner k q.payload r ≡ true = found_passes (is_kept t q.owner k q.payload) rs r is in
          let ty : r.object.ty ≡ t = type_is r.object.ty t (and_true (same_type r.object.ty t) (are_same r.owner q.owner && (r.place == k && bytes_eq r.payload q.payload)) passes).0 in (
            ap (option_map (λ (x : Retrieval). x.object)) is
                ∙ (ap (λ u. only u r.object) (sym born) ∙ ap (λ (f : Option Retrieval). only (born_in bs (option_map_or (λ (x : Retrieval). x.object) f (own_object t n))) (option_map_or (λ (x : Retrieval). x.object) f (own_object t n))) (sym is)),
            ap (λ (f : Option Retrieval). (option_map_or (λ (x : Retrieval). x.object) f (own_object t n)).ty) is ∙ ty,
            ih,
          )

  -- two places have two objects
  two_places : (k j : ℕ) (n m : Name) → k < j → (own_number n == own_number m) ≡ false → born_in bs (own_object t n) ≡ false → born_in bs (own_object t m) ≡ false → same (got k n) (got j m) ≡ false
  two_places k j n m less differ fn fm = apart (got k n) (got j m) (λ e. at (find (is_kept t q.owner k q.payload) rs) refl (find (is_kept t q.owner j q.payload) rs) refl e)
    where
      place_of : (i : ℕ) (r : Retrieval) → find (is_kept t q.owner i q.payload) rs ≡ Some r → r.place ≡ i
      place_of i r is =
          let passes : is_kept t q.owner i q.payload r ≡ true = found_passes (is_kept t q.owner i q.payload) rs r is in
          let a = and_true (same_type r.object.ty t) (are_same r.owner q.owner && (r.place == i && bytes_eq r.payload q.payload)) passes in
          let b = and_true (are_same r.owner q.owner) (r.place == i && bytes_eq r.payload q.payload) a.1 in
          eqb-true r.place i (and_true (r.place == i) (bytes_eq r.payload q.payload) b.1).0

      at : (f : Option Retrieval) → find (is_kept t q.owner k q.payload) rs ≡ f → (g : Option Retrieval) → find (is_kept t q.owner j q.payload) rs ≡ g → got k n ≡ got j m → ⊥
      at (Some a) p (Some b) r e =
          let objects : a.object ≡ b.object = ap (λ (f : Option Retrieval). option_map_or (λ (x : Retrieval). x.object) f (own_object t n)) (sym p) ∙ (e ∙ ap (λ (f : Option Retrieval). option_map_or (λ (x : Retrieval). x.object) f (own_object t m)) r) in
          let one : a ≡ b = found_once (is_kept t q.owner k q.payload) (is_kept t q.owner j q.payload) rs a b once p r objects in
          let x : a.place ≡ k = place_of k a p in let y : b.place ≡ j = place_of j b r in let z : a.place ≡ b.place = ap (λ (w : Retrieval). w.place) one in omega (arith, x, y, z, less)
      at (Some a) p None r e =
          let objects : a.object ≡ own_object t m = ap (λ (f : Option Retrieval). option_map_or (λ (x : Retrieval). x.object) f (own_object t n)) (sym p) ∙ (e ∙ ap (λ (f : Option Retrieval). option_map_or (λ (x : Retrieval). x.object) f (own_object t m)) r) in
          let bad : born_in bs (own_object t m) ≡ true = ap (born_in bs) (sym objects) ∙ found_born bs (is_kept t q.owner k q.payload) rs a all p in cc
      at None p (Some b) r e =
          let objects : own_object t n ≡ b.object = ap (λ (f : Option Retrieval). option_map_or (λ (x : Retrieval). x.object) f (own_object t n)) (sym p) ∙ (e ∙ ap (λ (f : Option Retrieval). option_map_or (λ (x : Retrieval). x.object) f (own_object t m)) r) in
          let bad : born_in bs (own_object t n) ≡ true = ap (born_in bs) objects ∙ found_born bs (is_kept t q.owner j q.payload) rs b all r in cc
      at None p None r e =
          let objects : own_object t n ≡ own_object t m = ap (λ (f : Option Retrieval). option_map_or (λ (x : Retrieval). x.object) f (own_object t n)) (sym p) ∙ (e ∙ ap (λ (f : Option Retrieval). option_map_or (λ (x : Retrieval). x.object) f (own_object t m)) r) in
          let bad : (own_number n == own_number m) ≡ true = eq-eqb (own_number n) (own_number m) (ap (λ (o : Object). o.number) objects) in cc

  retrieved_other : (k j : ℕ) (n : Name) (names : List Name) → k < j → IsOtherName n names → born_in bs (own_object t n) ≡ false → AreFresh bs names → AreOther (got k n) (placed_from got j names)
  retrieved_other k j n [] less e fn fs = tt
  retrieved_other k j n (m ∷ names) less e fn fs = (two_places k j n m less e.0 fn (fs.0 t), retrieved_other k (j + 1) n names (omega (arith, less)) e.1 fn fs.1)

  retrieved_apart : (k : ℕ) (names : List Name) → NamesApart names → AreFresh bs names → AreApart (placed_from got k names)
  retrieved_apart k [] e fs = tt
  retrieved_apart k (n ∷ names) e fs = (retrieved_other k (k + 1) n names (omega arith) e.0 (fs.0 t) fs.1, retrieved_apart (k + 1) names e.1 fs.1)

-- ---- what a call has made

take_all : (P : Name → Type 0) (k : ℕ) (names : List Name) → AllByRecursion P names → AllByRecursion P (take k names)
take_all P zero names e = tt
take_all P (suc k) [] e = tt
take_all P (suc k) (n ∷ names) e = (e.0, take_all P k names e.1)

take_apart : (k : ℕ) (names : List Name) → NamesApart names → NamesApart (take k names)
take_apart zero names e = tt
take_apart (suc k) [] e = tt
take_apart (suc k) (n ∷ names) e = (take_all (λ m. (own_number n == own_number m) ≡ false) k names e.0, take_apart k names e.1)

-- the results of a call whose names are fresh
pub record MadeOf (bs : List Birth) (rs : List Retrieval) (o : Opened) (made : List Born) : Type 0 where
  pub placed : ArePlaced 0 made
  pub apart : AreApart made
  pub have : HaveMade bs rs o.cmd o.payload o.args (type_made (row_of o.cmd).effect) made

module _ (bs : List Birth) (rs : List Retrieval) (o : Opened) (all : AreRetrieved bs rs) (once : KeptOnce rs) where
  none_of : (mt : Option ObjectType) → HaveMade bs rs o.cmd o.payload o.args mt []
  none_of None = refl
  none_of (Some t) = tt

  with_names : (names : List Name) → AreFresh bs names → NamesApart names → (e : Effect) → (row_of o.cmd).effect ≡ e
      → MadeOf bs rs o (option_map_or (λ t. map (λ (x : ℕ × Name). record { place = x.0; name = x.1; object = result_object bs rs o e t x.0 x.1 }) (enumerate_from 0 names)) (type_made e) [])
  with_names names fs ns (eff.Create t owner many) is =
      subst (MadeOf bs rs o) (sym (placed_is (λ k n. own_object t n) 0 names))
      (record {
        placed = are_placed (λ k n. own_object t n) 0 names;
        apart = created_apart t 0 names ns;
        have = subst (λ (e : Effect). HaveMade bs rs o.cmd o.payload o.args (type_made e) (placed_from (λ k n. own_object t n) 0 names)) (sym is)
            (subst (λ (e : Effect). AreDecided (asking_by bs o.cmd o.payload o.args e) t bs rs (placed_from (λ k n. own_object t n) 0 names)) (sym is) (created_decided bs rs t 0 names fs));
      })
  with_names names fs ns (eff.Retrieve t owner many) is =
      let q : Asking = record { owner = slice_get (owners_given bs o.args owner) 0; payload = key_payload o.cmd o.payload } in
      subst (MadeOf bs rs o) (sym (placed_is (got bs rs q t all once) 0 names))
      (record {
        placed = are_placed (got bs rs q t all once) 0 names;
        apart = retrieved_apart bs rs q t all once 0 names ns fs;
        have = subst (λ (e : Effect). HaveMade bs rs o.cmd o.payload o.args (type_made e) (placed_from (got bs rs q t all once) 0 names)) (sym is)
            (subst (λ (e : Effect). AreDecided (asking_by bs o.cmd o.payload o.args e) t bs rs (placed_from (got bs rs q t all once) 0 names)) (sym is) (retrieved_decided bs rs q t all once 0 names fs));
      })
  with_names names fs ns eff.None is = record { placed = tt; apart = tt; have = none_of (type_made (row_of o.cmd).effect) }
  with_names names fs ns (eff.Destroy p) is = record { placed = tt; apart = tt; have = none_of (type_made (row_of o.cmd).effect) }
  with_names names fs ns (eff.Free p) is = record { placed = tt; apart = tt; have = none_of (type_made (row_of o.cmd).effect) }
  with_names names fs ns (eff.Reset p) is = record { placed = tt; apart = tt; have = none_of (type_made (row_of o.cmd).effect) }

  -- what is made at the return of a call
  pub made_well : (drivers : ℕ) (living : Object → Bool) → AreFresh bs o.results → NamesApart o.results → MadeOf bs rs o (made_by drivers bs living rs o)
  made_well drivers living fs ns = go (bears bs living o) (same_command o.cmd cmd.EnumeratePhysicalDevices)
    where
      go : (u v : Bool) → MadeOf bs rs o (cond u (option_map_or (λ t. map (λ (x : ℕ × Name). record { place = x.0; name = x.1; object = result_object bs rs o (row_of o.cmd).effect t x.0 x.1 }) (enumerate_from 0 (cond v (take drivers o.results) o.results))) (type_made (row_of o.cmd).effect) []) [])
      go false v = record { placed = tt; apart = tt; have = none_of (type_made (row_of o.cmd).effect) }
      go true true = with_names (take drivers o.results) (take_all (λ n. (t : ObjectType) → born_in bs (own_object t n) ≡ false) drivers o.results fs) (take_apart drivers o.results ns) (row_of o.cmd).effect refl
      go true false = with_names o.results fs ns (row_of o.cmd).effect refl

-- ---- whose numbers and names results have

-- a name has this number
abbrev pub is_given : List Name → ℕ → Bool
is_given names m = list_any (λ n. own_number n == m) names

-- a result's object was born, or has the number of one of these names
abbrev pub OwnOrBorn : List Birth → List Name → Born → Type 0
OwnOrBorn bs names b = (born_in bs b.object ≡ true) ⊎ (is_given names b.object.number ≡ true)

-- each result's name is one of which this holds, and its object was born or has its number
abbrev pub IsOwn : (Name → Type 0) → List Birth → List Name → Born → Type 0
IsOwn P bs full b = P b.name × OwnOrBorn bs full b

own_placed : (P : Name → Type 0) (bs : List Birth) (full : List Name) (f : ℕ → Name → Object) → ((k : ℕ) (n : Name) → is_given full (own_number n) ≡ true → (born_in bs (f k n) ≡ true) ⊎ (is_given full (f k n).number ≡ true)) → (k : ℕ) (names : List Name)
    → AllByRecursion P names → AllByRecursion (λ n. is_given full (own_number n) ≡ true) names → AllByRecursion (IsOwn P bs full) (placed_from f k names)
own_placed P bs full f ok k [] ps gs = tt
own_placed P bs full f ok k (n ∷ names) ps gs = ((ps.0, ok k n gs.0), own_placed P bs full f ok (k + 1) names ps.1 gs.1)

module _ (P : Name → Type 0) (bs : List Birth) (rs : List Retrieval) (o : Opened) (all : AreRetrieved bs rs) (ps : AllByRecursion P o.results) (gs : AllByRecursion (λ n. is_given o.results (own_number n) ≡ true) o.results) where
  own_names : (names : List Name) → AllByRecursion P names → AllByRecursion (λ n. is_given o.results (own_number n) ≡ true) names → (e : Effect)
      → AllByRecursion (IsOwn P bs o.results) (option_map_or (λ t. map (λ (x : ℕ × Name). record { place = x.0; name = x.1; object = result_object bs rs o e t x.0 x.1 }) (enumerate_from 0 names)) (type_made e) [])
  own_names names p g (eff.Create t owner many) =
      subst (AllByRecursion (IsOwn P bs o.results)) (sym (placed_is (λ k n. own_object t n) 0 names)) (own_placed P bs o.results (λ k n. own_object t n) (λ k n h. inr h) 0 names p g)
  own_names names p g (eff.Retrieve t owner many) =
      let f : ℕ → Name → Object = λ (k : ℕ) (n : Name). result_object bs rs o (eff.Retrieve t owner many) t k n in
      subst (AllByRecursion (IsOwn P bs o.results)) (sym (placed_is f 0 names))
      (own_placed P bs o.results f (λ k n h. found (find (is_kept t (slice_get (owners_given bs o.args owner) 0) k (key_payload o.cmd o.payload)) rs) k refl n h) 0 names p g)
    where
      found : (x : Option Retrieval) (k : ℕ) → find (is_kept t (slice_get (owners_given bs o.args owner) 0) k (key_payload o.cmd o.payload)) rs ≡ x → (n : Name) → is_given o.results (own_number n) ≡ true
          → (born_in bs (option_map_or (λ (r : Retrieval). r.object) x (own_object t n)) ≡ true) ⊎ (is_given o.results (option_map_or (λ (r : Retrieval). r.object) x (own_object t n)).number ≡ true)
      found None k is n h = inr h
      found (Some r) k is n h = inl (found_born bs (is_kept t (slice_get (owners_given bs o.args owner) 0) k (key_payload o.cmd o.payload)) rs r all is)
  own_names names p g eff.None = tt
  own_names names p g (eff.Destroy x) = tt
  own_names names p g (eff.Free x) = tt
  own_names names p g (eff.Reset x) = tt

  pub made_own : (drivers : ℕ) (living : Object → Bool) → AllByRecursion (IsOwn P bs o.results) (made_by drivers bs living rs o)
  made_own drivers living = go (bears bs living o) (same_command o.cmd cmd.EnumeratePhysicalDevices)
    where
      go : (u v : Bool) → AllByRecursion (IsOwn P bs o.results) (cond u (option_map_or (λ t. map (λ (x : ℕ × Name). record { place = x.0; name = x.1; object = result_object bs rs o (row_of o.cmd).effect t x.0 x.1 }) (enumerate_from 0 (cond v (take drivers o.results) o.results))) (type_made (row_of o.cmd).effect) []) [])
      go false v = tt
      go true true = own_names (take drivers o.results) (take_all P drivers o.results ps) (take_all (λ n. is_given o.results (own_number n) ≡ true) drivers o.results gs) (row_of o.cmd).effect
      go true false = own_names o.results ps gs (row_of o.cmd).effect
