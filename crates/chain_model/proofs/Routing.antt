-- The terminator's routes are those of the past, in tokens.
use Rattle.std.proofs.Common.{◌≡◌, ℕ, ◌+◌, Bool, true, false, not, cond, ◌&&◌, ◌||◌, Option, Some, None, List, [], ◌∷◌, ◌++◌, map, refl, sym, ◌∙◌, ap, subst}
use Rattle.std.proofs.lemmas.List.{append-nil, append_assoc, map-append}
use Rattle.std.proofs.lemmas.List.Folds.{list_any-append}
use Rattle.std.specs.Prelude.{find, filter}
use Rattle.std.specs.List.{range_with_len, AllByRecursion}
use Rattle.std.specs.Option.{option_map, option_map_or}
use Rattle.command_tables.specs.declared.types.CommandId.{CommandId}
use Rattle.command_tables.specs.declared.types.ObjectType.{ObjectType}
use Rattle.command_tables.specs.declared.types.ObjectType.TheVariants as ty
use Rattle.object_model.specs.declared.Object.{Object}
use Rattle.replay_model.specs.declared.Born.{Born}
use Rattle.object_model.specs.declared.Routed.{Routed}
use Rattle.command_tables.specs.Table.{row_of}
use Rattle.command_tables.specs.Tests.{same_type}
use Rattle.command_tables.specs.Effects.{type_made}
use Rattle.object_model.specs.Objects.{same}
use Rattle.object_model.specs.History.{Birth, born_in, births}
use Rattle.replay_model.specs.Past.{Opened, Past, Returned, is_new, routed, routed_of, routed_by, history}
use Rattle.object_model.specs.Routes.{is_routed, driver_in, receivers, driver_behind}
use Rattle.chain_model.specs.Tokens.{issued_with, births_before, number_in, token_in}
use Rattle.chain_model.proofs.OneByOne.{bear, births_after, AreOther, AreApart, ArePlaced, IsBorn, numbered}
use Rattle.chain_model.proofs.Passing.{creates, owners_by, births_then}
use Rattle.layer_model.specs.Routes.{has_route, add_route, route_all}
use Rattle.chain_model.specs.Routes.{route_in, routes_in}
use Rattle.chain_model.proofs.OneRoute.{route_one, routes_after, AreRouted, RoutesGrow}
use Rattle.layer_model.proofs.Same.{same_is}
use Rattle.chain_model.proofs.Positions.{token_grown}
use Rattle.chain_model.proofs.OneToOne.{one_to_one, born_but, born_itself, born_borne, number_after}
use Rattle.chain_model.proofs.Reading.{not_zero}
use Rattle.chain_model.proofs.Borne.{births_then_is}

-- ---- looking up

-- a token has a route where its object has one
has_token : (bs : List Birth) (o : Object) → born_in bs o ≡ true → (rs : List Routed) → AllByRecursion (λ r. born_in bs r.object ≡ true) rs → has_route (routes_in bs rs) (token_in bs o) ≡ has_route rs o
has_token bs o born [] ks = refl
has_token bs o born (r ∷ rs) ks = rw ((one_to_one bs).same_kept r.object o ks.0 born) (ap (λ t. same r.object o || t) (has_token bs o born rs ks.1))

-- the driver behind a token is the one behind its object
driver_token : (bs : List Birth) (o : Object) → born_in bs o ≡ true → (rs : List Routed) → AllByRecursion (λ r. born_in bs r.object ≡ true) rs → driver_in (routes_in bs rs) (token_in bs o) ≡ driver_in rs o
driver_token bs o born [] ks = refl
driver_token bs o born (r ∷ rs) ks = rw ((one_to_one bs).same_kept r.object o ks.0 born) (go (same r.object o) (driver_token bs o born rs ks.1))
  where
    go : (u : Bool) → driver_in (routes_in bs rs) (token_in bs o) ≡ driver_in rs o
        → option_map_or (λ (x : Routed). x.driver) (cond u (Some (route_in bs r)) (find (λ x. same x.object (token_in bs o)) (routes_in bs rs))) 0 ≡ option_map_or (λ (x : Routed). x.driver) (cond u (Some r) (find (λ x. same x.object o) rs)) 0
    go true ih = refl
    go false ih = ih

-- a call goes to the same drivers
pub receivers_are : (drivers : ℕ) (bs : List Birth) (rs : List Routed) (first : Option Object) → IsBorn bs first → AreRouted bs rs → receivers drivers (routes_in bs rs) (option_map (token_in bs) first) ≡ receivers drivers rs first
receivers_are drivers bs rs None born a = refl
receivers_are drivers bs rs (Some o) born a = ap (λ d. cond (same_type o.ty ty.Instance) (range_with_len 0 drivers) (d ∷ [])) (driver_token bs o born rs a.born)

-- ---- one result

routes_grown : (bs cs : List Birth) (rs : List Routed) → AllByRecursion (λ r. born_in bs r.object ≡ true) rs → routes_in (bs ++ cs) rs ≡ routes_in bs rs
routes_grown bs cs [] ks = refl
routes_grown bs cs (r ∷ rs) ks =
    ap (λ (o : Object). record { object = o; driver = r.driver } ∷ routes_in (bs ++ cs) rs) (token_grown bs cs r.object ks.0) ∙ ap (λ xs. route_in bs r ∷ xs) (routes_grown bs cs rs ks.1)

routes_borne : (created : Bool) (owners : List Object) (bs : List Birth) (x : Object) (rs : List Routed) → AllByRecursion (λ r. born_in bs r.object ≡ true) rs → routes_in (bear created owners bs x) rs ≡ routes_in bs rs
routes_borne created owners bs x rs ks = go (born_in bs x)
  where
    go : (u : Bool) → routes_in (cond u bs (bs ++ record { object = x; created = created; owners = owners } ∷ [])) rs ≡ routes_in bs rs
    go true = refl
    go false = routes_grown bs (record { object = x; created = created; owners = owners } ∷ []) rs ks

all_borne : (created : Bool) (owners : List Object) (bs : List Birth) (x : Object) (rs : List Routed) → AllByRecursion (λ r. born_in bs r.object ≡ true) rs → AllByRecursion (λ r. born_in (bear created owners bs x) r.object ≡ true) rs
all_borne created owners bs x [] ks = tt
all_borne created owners bs x (r ∷ rs) ks = (born_borne created owners bs x r.object ks.0, all_borne created owners bs x rs ks.1)

all_last : (P : Routed → Type 0) (rs : List Routed) (r : Routed) → AllByRecursion P rs → P r → AllByRecursion P (rs ++ r ∷ [])
all_last P [] r ks k = (k, tt)
all_last P (x ∷ rs) r ks k = (ks.0, all_last P rs r ks.1 k)

-- what is routed stays just what is born of routed types
pub routed_one : (created : Bool) (owners : List Object) (c : CommandId) (drivers : List ℕ) (bs : List Birth) (rs : List Routed) (b : Born) → AreRouted bs rs → AreRouted (bear created owners bs b.object) (route_one bs rs c drivers b)
routed_one created owners c drivers bs rs b a = record {
  routes = λ o is. at o is (born_in bs b.object) refl (is_routed b.object.ty) refl;
  born = kept (is_routed b.object.ty && not (born_in bs b.object));
}
  where
    new : Routed
    new = record { object = b.object; driver = driver_behind c drivers b.place }

    kept : (u : Bool) → AllByRecursion (λ r. born_in (bear created owners bs b.object) r.object ≡ true) (cond u (rs ++ record { object = b.object; driver = driver_behind c drivers b.place } ∷ []) rs)
    kept true = all_last (λ r. born_in (bear created owners bs b.object) r.object ≡ true) rs (record { object = b.object; driver = driver_behind c drivers b.place }) (all_borne created owners bs b.object rs a.born) (born_itself created owners bs b.object)
    kept false = all_borne created owners bs b.object rs a.born

    or_false : (t : Bool) → (t || false) ≡ t
    or_false true = refl
    or_false false = refl

    at : (o : Object) → is_routed o.ty ≡ true → (u : Bool) → born_in bs b.object ≡ u → (w : Bool) → is_routed b.object.ty ≡ w → has_route (route_one bs rs c drivers b) o ≡ born_in (bear created owners bs b.object) o
    at o is true e w f = rw e (rw f (none w ∙ a.routes o is))
      where
        none : (v : Bool) → has_route (cond (v && false) (rs ++ record { object = b.object; driver = driver_behind c drivers b.place } ∷ []) rs) o ≡ has_route rs o
        none true = refl
        none false = refl
    at o is false e true f =
        rw (e, f) (list_any-append (λ (r : Routed). same r.object o) rs (record { object = b.object; driver = driver_behind c drivers b.place } ∷ [])
        ∙ (ap (λ t. t || (same b.object o || false)) (a.routes o is) ∙ sym (list_any-append (λ (x : Birth). same x.object o) bs (record { object = b.object; created = created; owners = owners } ∷ []))))
    at o is false e false f =
        rw (e, f) (a.routes o is ∙ (sym (or_false (born_in bs o)) ∙ (ap (λ t. born_in bs o || t) (sym (ap (λ t. t || false) other)) ∙ sym (list_any-append (λ (x : Birth). same x.object o) bs (record { object = b.object; created = created; owners = owners } ∷ [])))))
      where
        other : same b.object o ≡ false
        other = which (same b.object o) refl
          where
            which : (v : Bool) → same b.object o ≡ v → v ≡ false
            which true h = let bad : is_routed b.object.ty ≡ true = ap (λ (x : Object). is_routed x.ty) (same_is b.object o h) ∙ is in cc
            which false h = refl

-- the machine adds the same route
add_one : (created : Bool) (owners : List Object) (c : CommandId) (drivers : List ℕ) (bs : List Birth) (rs : List Routed) (b : Born) → AreRouted bs rs
    → add_route (routes_in bs rs) (token_in (bear created owners bs b.object) b.object) (driver_behind c drivers b.place) ≡ routes_in (bear created owners bs b.object) (route_one bs rs c drivers b)
add_one created owners c drivers bs rs b a =
    let bs2 : List Birth = bear created owners bs b.object in
    let same_rs : routes_in bs rs ≡ routes_in bs2 rs = sym (routes_borne created owners bs b.object rs a.born) in
    let known : has_route (routes_in bs2 rs) (token_in bs2 b.object) ≡ has_route rs b.object = has_token bs2 b.object (born_itself created owners bs b.object) rs (all_borne created owners bs b.object rs a.born) in
    ap (λ (xs : List Routed). add_route xs (token_in bs2 b.object) (driver_behind c drivers b.place)) same_rs
    ∙ (ap (λ t. cond (is_routed b.object.ty && not t) (routes_in bs2 rs ++ record { object = token_in bs2 b.object; driver = driver_behind c drivers b.place } ∷ []) (routes_in bs2 rs)) known ∙ go (is_routed b.object.ty) refl)
  where
    both : (u : Bool) → cond u (routes_in (bear created owners bs b.object) rs ++ record { object = token_in (bear created owners bs b.object) b.object; driver = driver_behind c drivers b.place } ∷ []) (routes_in (bear created owners bs b.object) rs)
        ≡ routes_in (bear created owners bs b.object) (cond u (rs ++ record { object = b.object; driver = driver_behind c drivers b.place } ∷ []) rs)
    both true = sym (map-append (route_in (bear created owners bs b.object)) rs (record { object = b.object; driver = driver_behind c drivers b.place } ∷ []))
    both false = refl

    go : (w : Bool) → is_routed b.object.ty ≡ w
        → cond (w && not (has_route rs b.object)) (routes_in (bear created owners bs b.object) rs ++ record { object = token_in (bear created owners bs b.object) b.object; driver = driver_behind c drivers b.place } ∷ []) (routes_in (bear created owners bs b.object) rs)
        ≡ routes_in (bear created owners bs b.object) (cond (w && not (born_in bs b.object)) (rs ++ record { object = b.object; driver = driver_behind c drivers b.place } ∷ []) rs)
    go true e = ap (λ t. cond (not t) (routes_in (bear created owners bs b.object) rs ++ record { object = token_in (bear created owners bs b.object) b.object; driver = driver_behind c drivers b.place } ∷ []) (routes_in (bear created owners bs b.object) rs)) (a.routes b.object e) ∙ both (not (born_in bs b.object))
    go false e = both false

-- ---- all results

lost_routes : {X : Type 0} (routes : List Routed) (c : CommandId) (drivers : List ℕ) (t : ObjectType) (place : ℕ) (lost : List X) → route_all routes c drivers t place (map (λ _. 0) lost) ≡ routes
lost_routes routes c drivers t place [] = refl
lost_routes routes c drivers t place (x ∷ lost) = lost_routes routes c drivers t (place + 1) lost

-- the results' numbers give the routes of what was made
pub routes_mirror : {X : Type 0} (created : Bool) (owners : List Object) (c : CommandId) (drivers : List ℕ) (t : ObjectType) (lost : List X) (made : List Born) (n : ℕ) (bs : List Birth) (rs : List Routed) → AreRouted bs rs → ArePlaced n made → AllByRecursion (λ b. b.object.ty ≡ t) made
    → route_all (routes_in bs rs) c drivers t n (numbered (births_after created owners bs made) made lost) ≡ routes_in (births_after created owners bs made) (routes_after created owners c drivers bs rs made)
routes_mirror created owners c drivers t lost [] n bs rs a placed typed = lost_routes (routes_in bs rs) c drivers t n lost
routes_mirror created owners c drivers t lost (b ∷ made) n bs rs a placed typed =
    let bs2 : List Birth = bear created owners bs b.object in
    let all : List Birth = births_after created owners bs2 made in
    let number : number_in all b.object ≡ number_in bs2 b.object = number_after created owners bs2 made b.object (born_itself created owners bs b.object) in
    let token : record { ty = t; number = number_in all b.object } ≡ token_in bs2 b.object = ap (λ (u : ObjectType). record { ty = u; number = number_in all b.object }) (sym typed.0) ∙ ap (λ (m : ℕ). record { ty = b.object.ty; number = m }) number in
    ap (λ u. route_all (cond u (routes_in bs rs) (add_route (routes_in bs rs) (record { ty = t; number = number_in all b.object }) (driver_behind c drivers n))) c drivers t (n + 1) (numbered all made lost)) (not_zero (births_before (issued_with b.object.ty) all b.object))
    ∙ (ap (λ (o : Object). route_all (add_route (routes_in bs rs) o (driver_behind c drivers n)) c drivers t (n + 1) (numbered all made lost)) token
    ∙ (ap (λ (m : ℕ). route_all (add_route (routes_in bs rs) (token_in bs2 b.object) (driver_behind c drivers m)) c drivers t (n + 1) (numbered all made lost)) (sym placed.0)
    ∙ (ap (λ (xs : List Routed). route_all xs c drivers t (n + 1) (numbered all made lost)) (add_one created owners c drivers bs rs b a)
    ∙ routes_mirror created owners c drivers t lost made (n + 1) bs2 (route_one bs rs c drivers b) (routed_one created owners c drivers bs rs b a) placed.1 typed.1)))

-- one by one they are those of the whole return
routes_rest : (created : Bool) (owners : List Object) (bs : List Birth) (o : Opened) (x : Object) (made : List Born) → AreOther x made
    → map (routed_of o) (filter (λ b. is_routed b.object.ty && is_new (bear created owners bs x) b) made) ≡ map (routed_of o) (filter (λ b. is_routed b.object.ty && is_new bs b) made)
routes_rest created owners bs o x [] other = refl
routes_rest created owners bs o x (b ∷ made) other =
    rw (born_same (born_in bs x)) (go (is_routed b.object.ty && not (born_in bs b.object)) (routes_rest created owners bs o x made other.1))
  where
    born_same : (u : Bool) → born_in (cond u bs (bs ++ record { object = x; created = created; owners = owners } ∷ [])) b.object ≡ born_in bs b.object
    born_same true = refl
    born_same false = born_but bs (record { object = x; created = created; owners = owners }) b.object other.0

    go : (u : Bool) → map (routed_of o) (filter (λ c. is_routed c.object.ty && is_new (bear created owners bs x) c) made) ≡ map (routed_of o) (filter (λ c. is_routed c.object.ty && is_new bs c) made)
        → map (routed_of o) (cond u (b ∷ filter (λ c. is_routed c.object.ty && is_new (bear created owners bs x) c) made) (filter (λ c. is_routed c.object.ty && is_new (bear created owners bs x) c) made))
        ≡ map (routed_of o) (cond u (b ∷ filter (λ c. is_routed c.object.ty && is_new bs c) made) (filter (λ c. is_routed c.object.ty && is_new bs c) made))
    go true ih = ap (λ xs. routed_of o b ∷ xs) ih
    go false ih = ih

pub routes_one_by_one : (created : Bool) (owners : List Object) (bs : List Birth) (rs : List Routed) (o : Opened) (made : List Born) → AreApart made → routes_after created owners o.cmd o.drivers bs rs made ≡ rs ++ routed_by bs o made
routes_one_by_one created owners bs rs o [] apart = sym (append-nil rs)
routes_one_by_one created owners bs rs o (b ∷ made) apart =
    routes_one_by_one created owners (bear created owners bs b.object) (route_one bs rs o.cmd o.drivers b) o made apart.1
    ∙ (ap (λ xs. route_one bs rs o.cmd o.drivers b ++ xs) (routes_rest created owners bs o b.object made apart.0) ∙ go (is_routed b.object.ty && not (born_in bs b.object)))
  where
    go : (u : Bool) → cond u (rs ++ routed_of o b ∷ []) rs ++ routed_by bs o made ≡ rs ++ map (routed_of o) (cond u (b ∷ filter (λ c. is_routed c.object.ty && is_new bs c) made) (filter (λ c. is_routed c.object.ty && is_new bs c) made))
    go true = append_assoc rs (routed_of o b ∷ []) (routed_by bs o made)
    go false = refl

routed_all : (created : Bool) (owners : List Object) (c : CommandId) (drivers : List ℕ) (made : List Born) (bs : List Birth) (rs : List Routed) → AreRouted bs rs → AreRouted (births_after created owners bs made) (routes_after created owners c drivers bs rs made)
routed_all created owners c drivers [] bs rs a = a
routed_all created owners c drivers (b ∷ made) bs rs a = routed_all created owners c drivers made (bear created owners bs b.object) (route_one bs rs c drivers b) (routed_one created owners c drivers bs rs b a)

-- a return
pub routes_returned : {X : Type 0} (past : Past) (o : Opened) (t : ObjectType) (made : List Born) (lost : List X) → AreRouted (births (history past)) (routed past) → ArePlaced 0 made → AreApart made → AllByRecursion (λ b. b.object.ty ≡ t) made → type_made (row_of o.cmd).effect ≡ Some t
    → RoutesGrow X past o t made lost
routes_returned {X = X} past o t made lost a placed apart typed is =
    let bs : List Birth = births (history past) in
    let tb_is : births_then bs o.cmd o.args made ≡ births (history (Returned o made ∷ past)) = births_then_is bs o.cmd o.args made apart (λ e. no_type (sym is ∙ e)) in
    let rt_is : routes_after (creates (row_of o.cmd).effect) (owners_by bs o.args (row_of o.cmd).effect) o.cmd o.drivers bs (routed past) made ≡ routed (Returned o made ∷ past) = routes_one_by_one (creates (row_of o.cmd).effect) (owners_by bs o.args (row_of o.cmd).effect) bs (routed past) o made apart in
    record {
      routed_then = subst (λ b. AreRouted b (routed (Returned o made ∷ past))) tb_is (subst (λ r. AreRouted (births_then bs o.cmd o.args made) r) rt_is (routed_all (creates (row_of o.cmd).effect) (owners_by bs o.args (row_of o.cmd).effect) o.cmd o.drivers made bs (routed past) a));
      routes = subst (λ b. route_all (routes_in bs (routed past)) o.cmd o.drivers t 0 (numbered b made lost) ≡ routes_in b (routed (Returned o made ∷ past))) tb_is
          (routes_mirror (creates (row_of o.cmd).effect) (owners_by bs o.args (row_of o.cmd).effect) o.cmd o.drivers t lost made 0 bs (routed past) a placed typed
          ∙ ap (routes_in (births_then bs o.cmd o.args made)) rt_is);
    }
  where
    no_type : Some t ≡ None → made ≡ []
    no_type e = cc
