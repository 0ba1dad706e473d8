-- Ways through chains.
use Rattle.std.proofs.Common.{◌≡◌, ◌≢◌, ◌≤◌, ◌<◌, ◌⊎◌, ◌-◌, ◌∙◌, ◌&&◌, ◌==◌, ℕ, zero, suc, Bool, true, false, List, [], ◌∷◌, length, get_or, refl, ap, sym, subst, arith, inl, inr}
use Rattle.std.specs.Prelude.{nat_eq, nat_lt}
use Rattle.std.proofs.lemmas.Bool.{eqb-true, ltb-true}
use denote.Enum.Bare.{same_true}
use Rattle.command_tables.specs.declared.types.ObjectType.{ObjectType}
use Rattle.command_tables.specs.contracts.types.ObjectType as type
use Rattle.command_tables.specs.Tests.{same_type}
use Rattle.handle_map.specs.declared.entry.Entry.{Entry}
use Rattle.handle_map.specs.Chains.{AreFirst, AreLinked, HasNoPlace, IsLink, IsPlace, chain_of, is_at}

and_true : (a b : Bool) → (a && b) ≡ true → (a ≡ true) × (b ≡ true)
and_true true b e = (refl, e)
and_true false b e = cc e

-- types that are the same are one
pub type_is : (a b : ObjectType) → same_type a b ≡ true → a ≡ b
unfolding same_type
type_is a b e = same_true type.the_type tt a b e

-- an entry of a pair is of the pair's chain
pub chain_at : (chains : ℕ) (t : ObjectType) (id : ℕ) (e : Entry) → is_at t id e ≡ true → chain_of chains e.ty e.id ≡ chain_of chains t id
chain_at chains t id e is =
    let parts = and_true (same_type e.ty t) (e.id == id) is in
    ap (λ u. chain_of chains u e.id) (type_is e.ty t parts.0) ∙ ap (chain_of chains t) (eqb-true e.id id parts.1)

-- an entry of another chain isn't of the pair
pub not_at : (chains : ℕ) (t : ObjectType) (id : ℕ) (e : Entry) → chain_of chains e.ty e.id ≢ chain_of chains t id → is_at t id e ≡ false
not_at chains t id e other = go (is_at t id e) refl
  where
    go : (b : Bool) → is_at t id e ≡ b → is_at t id e ≡ false
    go true is = absurd (other (chain_at chains t id e is))
    go false is = is

-- no entry from a link on is of the pair, and the link is of the pair's chain
pub record IsWay (chains : ℕ) (entries : List Entry) (t : ObjectType) (id link : ℕ) : Type 0 where
  pub within : link ≤ length entries
  pub here : (place : ℕ) (other : Entry) → link ≡ suc place → chain_of chains (get_or entries place other).ty (get_or entries place other).id ≡ chain_of chains t id
  pub none : (place : ℕ) (other : Entry) → link ≤ place → place < length entries → is_at t id (get_or entries place other) ≡ false

pub way_in : (chains : ℕ) (entries : List Entry) (t : ObjectType) (id link : ℕ) → IsLink chains entries (chain_of chains t id) (length entries) link → IsWay chains entries t id link
way_in chains entries t id link is = record {
  within = is.within;
  here = is.here;
  none = λ place other from below. not_at chains t id (get_or entries place other) (is.none place other from below);
}

-- at a place there is, whatever is asked for else
pub default_free : (xs : List Entry) (n : ℕ) (a b : Entry) → n < length xs → get_or xs n a ≡ get_or xs n b
default_free [] n a b within = absurd (omega (arith, within))
default_free (x ∷ xs) zero a b within = refl
default_free (x ∷ xs) (suc n) a b within = default_free xs n a b (omega (arith, within))

-- the next link, behind an entry that isn't of the pair
way_on : (chains : ℕ) (entries : List Entry) (t : ObjectType) (id place : ℕ) (e : Entry) → AreLinked chains entries → IsWay chains entries t id (suc place) → e ≡ get_or entries place e → is_at t id e ≡ false → IsWay chains entries t id e.next
way_on chains entries t id place e linked way at not = record {
  within = omega (arith, link.within, way.within);
  here = λ p other is. link.here p other is ∙ same;
  none = λ p other from below. before p other from below;
}
  where
    same : chain_of chains e.ty e.id ≡ chain_of chains t id
    same = ap (λ u. chain_of chains u.ty u.id) at ∙ way.here place e refl

    link : IsLink chains entries (chain_of chains e.ty e.id) place e.next
    link = subst (λ u. IsLink chains entries (chain_of chains u.ty u.id) place u.next) (sym at) (linked place e (omega (arith, way.within)))

    before : (p : ℕ) (other : Entry) → e.next ≤ p → p < length entries → is_at t id (get_or entries p other) ≡ false
    before p other from below = go (nat_lt p place) (nat_eq p place) refl refl
      where
        go : (a b : Bool) → nat_lt p place ≡ a → nat_eq p place ≡ b → is_at t id (get_or entries p other) ≡ false
        go true b lt eq = not_at chains t id (get_or entries p other) (λ (is : chain_of chains (get_or entries p other).ty (get_or entries p other).id ≡ chain_of chains t id). link.none p other from (ltb-true p place lt) (is ∙ sym same))
        go false true lt eq =
            let here_is : p ≡ place = eqb-true p place eq in
            ap (λ n. is_at t id (get_or entries n other)) here_is ∙ (ap (is_at t id) (default_free entries place other e (omega (arith, way.within)) ∙ sym at) ∙ not)
        go false false lt eq = way.none p other (grind (arith, lt, eq)) below

pub way_next : (chains : ℕ) (entries : List Entry) (t : ObjectType) (id link : ℕ) (d : Entry) → AreLinked chains entries → IsWay chains entries t id link → (link ≡ 0 → ⊥) → is_at t id (get_or entries (link - 1) d) ≡ false
    → IsWay chains entries t id (get_or entries (link - 1) d).next
way_next chains entries t id zero d linked way some not = absurd (some refl)
way_next chains entries t id (suc place) d linked way some not =
    let here : suc place - 1 ≡ place = omega arith in
    subst (λ n. IsWay chains entries t id (get_or entries n d).next) (sym here)
    (way_on chains entries t id place (get_or entries place d) linked way (default_free entries place d (get_or entries place d) (omega (arith, way.within))) (ap (λ n. is_at t id (get_or entries n d)) (sym here) ∙ not))

-- the pair's entry at a place that was looked at
pub place_at : (entries : List Entry) (t : ObjectType) (id place : ℕ) (d : Entry) → place < length entries → is_at t id (get_or entries place d) ≡ true → IsPlace entries t id place
place_at entries t id place d within is = record { within = within; pair = λ other. ap (is_at t id) (default_free entries place other d within) ∙ is }

-- without chains there is no entry
pub no_place : (chains : ℕ) (entries : List Entry) (firsts : List ℕ) (t : ObjectType) (id chain : ℕ) → AreFirst chains entries firsts → chain < chains → length firsts ≤ chain → HasNoPlace entries t id
no_place chains entries firsts t id chain first within past = go first.all
  where
    go : (length firsts ≡ chains) ⊎ ((firsts ≡ []) × (entries ≡ [])) → HasNoPlace entries t id
    go (inl all) = absurd (omega (arith, all, within, past))
    go (inr none) = λ place other below. absurd (omega (arith, below, ap length none.1))
