-- Results get ids one by one.
use Rattle.std.proofs.Common.{◌≡◌, ◌==◌, ◌<◌, ◌≤◌, ℕ, suc, ◌+◌, Bool, true, false, not, cond, Option, List, [], ◌∷◌, ◌++◌, length, take, drop, set, get_or, refl, ap, sym, ◌∙◌, arith, add-one, append_assoc}
use Rattle.std.proofs.Math.ListN.{drop_of_length-le}
use Rattle.std.proofs.Math.Seq.{drop-cons, take-suc-set}
use Rattle.std.proofs.lemmas.Bool.{eqb-true}
use Rattle.std.proofs.lemmas.List.{append-nil, drop-set-lt, take_all, take_more}
use Rattle.command_tables.specs.declared.types.CommandId.{CommandId}
use Rattle.command_tables.specs.declared.types.ObjectType.{ObjectType}
use Rattle.object_model.specs.declared.Routed.{Routed}
use Rattle.object_model.specs.Routes.{driver_behind}
use Rattle.object_model.specs.Values.{Answered, Value, values_answered}
use Rattle.layer_model.specs.Ids.{Key, IdMap, Issued, IssuedAll, at_key, issue, issue_all, result_first}
use Rattle.layer_model.specs.Routes.{add_route, route_all}
use Rattle.layer_model.specs.Terminator.{values_from}
use Rattle.terminator.specs.Calls.{born_where}
use Rattle.terminator.specs.Shown.{issued_behind}

-- by what a call's results get their ids
pub record Issuing : Type 0 where
  pub key : Option Key
  pub ty : ObjectType
  pub cmd : CommandId
  pub answers : List Answered
  pub drivers : List ℕ

-- what is issued of the results from a place on
abbrev pub issued_on : Issuing → IdMap (List Value) → ℕ → List ℕ → IssuedAll (List Value)
issued_on i m k flags = issue_all m i.key i.ty k (values_from i.cmd i.answers k (born_where flags))

-- the same, behind the results so far
abbrev pub from_place : Issuing → IdMap (List Value) → ℕ → List ℕ → IssuedAll (List Value)
from_place i m k results = issued_behind (take k results) (issued_on i m k (drop k results))

-- the routes after these
abbrev pub routed_from : Issuing → List Routed → IdMap (List Value) → ℕ → List ℕ → List Routed
routed_from i routes m k results = route_all routes i.cmd i.drivers i.ty k (issued_on i m k (drop k results)).results

onto_first : (front : List ℕ) (id : ℕ) (rest : IssuedAll (List Value)) → issued_behind front (result_first id rest) ≡ issued_behind (front ++ id ∷ []) rest
onto_first front id rest = ap (λ (xs : List ℕ). record { results = xs; ids = rest.ids }) (sym (append_assoc front (id ∷ []) rest.results))

lost_issued : (i : Issuing) (m : IdMap (List Value)) (results : List ℕ) (k : ℕ) → k < length results → get_or results k 0 ≡ 0 → from_place i m k results ≡ from_place i m (k + 1) results
lost_issued i m results k less none =
    let cut : drop k results ≡ 0 ∷ drop (suc k) results = drop-cons results k 0 less ∙ ap (λ (v : ℕ). v ∷ drop (suc k) results) none in
    let on : drop (suc k) results ≡ drop (k + 1) results = ap (λ n. drop n results) (sym (add-one k)) in
    let rest : IssuedAll (List Value) = issued_on i m (k + 1) (drop (suc k) results) in
    ap (λ (xs : List ℕ). issued_behind (take k results) (issued_on i m k xs)) cut
    ∙ (onto_first (take k results) 0 rest
    ∙ (ap (λ (v : ℕ). issued_behind (take k results ++ v ∷ []) rest) (sym none)
    ∙ (ap (λ (xs : List ℕ). issued_behind xs rest) (sym (take_more results k 0 less)) ∙ ap (λ (xs : List ℕ). issued_behind (take (k + 1) results) (issued_on i m (k + 1) xs)) on)))

lost_routed : (i : Issuing) (routes : List Routed) (m : IdMap (List Value)) (results : List ℕ) (k : ℕ) → k < length results → get_or results k 0 ≡ 0 → routed_from i routes m k results ≡ routed_from i routes m (k + 1) results
lost_routed i routes m results k less none =
    let cut : drop k results ≡ 0 ∷ drop (suc k) results = drop-cons results k 0 less ∙ ap (λ (v : ℕ). v ∷ drop (suc k) results) none in
    let on : drop (suc k) results ≡ drop (k + 1) results = ap (λ n. drop n results) (sym (add-one k)) in
    ap (λ (xs : List ℕ). route_all routes i.cmd i.drivers i.ty k (issued_on i m k xs).results) cut ∙ ap (λ (xs : List ℕ). route_all routes i.cmd i.drivers i.ty (k + 1) (issued_on i m (k + 1) xs).results) on

-- the first result, and the others
first_issued : (i : Issuing) (m m2 : IdMap (List Value)) (results : List ℕ) (k id : ℕ) → k < length results → (get_or results k 0 == 0) ≡ false → record { id = id; ids = m2 } ≡ issue m (at_key i.key k) i.ty (values_answered i.cmd i.answers k)
    → issued_on i m k (drop k results) ≡ result_first id (issued_on i m2 (k + 1) (drop (suc k) results))
first_issued i m m2 results k id less some is =
    ap (λ (xs : List ℕ). issued_on i m k xs) (drop-cons results k 0 less)
    ∙ (ap (λ (u : Bool). issue_all m i.key i.ty k (values_from i.cmd i.answers k (not u ∷ born_where (drop (suc k) results)))) some
    ∙ ap (λ (one : Issued (List Value)). result_first one.id (issue_all one.ids i.key i.ty (k + 1) (values_from i.cmd i.answers (k + 1) (born_where (drop (suc k) results))))) (sym is))

rest_stays : (results : List ℕ) (k id : ℕ) → drop (k + 1) (set results k id) ≡ drop (suc k) results
rest_stays results k id = ap (λ n. drop n (set results k id)) (add-one k) ∙ drop-set-lt (suc k) results k id (omega arith)

some_id : (id : ℕ) → 1 ≤ id → (id == 0) ≡ false
some_id id positive = go (id == 0) refl positive
  where
    go : (u : Bool) → (id == 0) ≡ u → 1 ≤ id → u ≡ false
    go true at positive = let zero : id ≡ 0 = eqb-true id 0 at in absurd (omega (arith, zero, positive))
    go false at positive = refl

issued_issued : (i : Issuing) (m m2 : IdMap (List Value)) (results : List ℕ) (k id : ℕ) → k < length results → (get_or results k 0 == 0) ≡ false → record { id = id; ids = m2 } ≡ issue m (at_key i.key k) i.ty (values_answered i.cmd i.answers k)
    → from_place i m k results ≡ from_place i m2 (k + 1) (set results k id)
issued_issued i m m2 results k id less some is =
    let tail : IssuedAll (List Value) = issued_on i m2 (k + 1) (drop (suc k) results) in
    ap (λ (all : IssuedAll (List Value)). issued_behind (take k results) all) (first_issued i m m2 results k id less some is)
    ∙ (onto_first (take k results) id tail
    ∙ (ap (λ (xs : List ℕ). issued_behind xs tail) (sym (ap (λ n. take n (set results k id)) (add-one k) ∙ take-suc-set results k id less))
    ∙ ap (λ (xs : List ℕ). issued_behind (take (k + 1) (set results k id)) (issued_on i m2 (k + 1) xs)) (sym (rest_stays results k id))))

issued_routed : (i : Issuing) (routes routes2 : List Routed) (m m2 : IdMap (List Value)) (results : List ℕ) (k id : ℕ) → k < length results → (get_or results k 0 == 0) ≡ false → 1 ≤ id → record { id = id; ids = m2 } ≡ issue m (at_key i.key k) i.ty (values_answered i.cmd i.answers k)
    → routes2 ≡ add_route routes (record { ty = i.ty; number = id }) (driver_behind i.cmd i.drivers k) → routed_from i routes m k results ≡ routed_from i routes2 m2 (k + 1) (set results k id)
issued_routed i routes routes2 m m2 results k id less some positive is route =
    let tail : IssuedAll (List Value) = issued_on i m2 (k + 1) (drop (suc k) results) in
    ap (λ (all : IssuedAll (List Value)). route_all routes i.cmd i.drivers i.ty k all.results) (first_issued i m m2 results k id less some is)
    ∙ (ap (λ (u : Bool). route_all (cond u routes (add_route routes (record { ty = i.ty; number = id }) (driver_behind i.cmd i.drivers k))) i.cmd i.drivers i.ty (k + 1) tail.results) (some_id id positive)
    ∙ (ap (λ (rs : List Routed). route_all rs i.cmd i.drivers i.ty (k + 1) tail.results) (sym route) ∙ ap (λ (xs : List ℕ). route_all routes2 i.cmd i.drivers i.ty (k + 1) (issued_on i m2 (k + 1) xs).results) (sym (rest_stays results k id))))

-- ---- both together, as the loop keeps them

pub record Left : Type 0 where
  pub all : IssuedAll (List Value)
  pub routes : List Routed

-- what results come to from a place on
abbrev pub left_from : Issuing → IdMap (List Value) → List Routed → ℕ → List ℕ → Left
left_from i m routes k results = record { all = from_place i m k results; routes = routed_from i routes m k results }

both : (a b : IssuedAll (List Value)) (x y : List Routed) → a ≡ b → x ≡ y → (let l : Left = record { all = a; routes = x } in l) ≡ record { all = b; routes = y }
both a b x y p q = ap (λ (u : IssuedAll (List Value)). let l : Left = record { all = u; routes = x } in l) p ∙ ap (λ (v : List Routed). let l : Left = record { all = b; routes = v } in l) q

pub lost_left : (i : Issuing) (m : IdMap (List Value)) (routes : List Routed) (results : List ℕ) (k : ℕ) → k < length results → get_or results k 0 ≡ 0 → left_from i m routes k results ≡ left_from i m routes (k + 1) results
lost_left i m routes results k less none = both (from_place i m k results) (from_place i m (k + 1) results) (routed_from i routes m k results) (routed_from i routes m (k + 1) results) (lost_issued i m results k less none) (lost_routed i routes m results k less none)

pub issued_left : (i : Issuing) (m m2 : IdMap (List Value)) (routes routes2 : List Routed) (results : List ℕ) (k id : ℕ) → k < length results → (get_or results k 0 == 0) ≡ false → 1 ≤ id → record { id = id; ids = m2 } ≡ issue m (at_key i.key k) i.ty (values_answered i.cmd i.answers k)
    → routes2 ≡ add_route routes (record { ty = i.ty; number = id }) (driver_behind i.cmd i.drivers k) → left_from i m routes k results ≡ left_from i m2 routes2 (k + 1) (set results k id)
issued_left i m m2 routes routes2 results k id less some positive is route =
    both (from_place i m k results) (from_place i m2 (k + 1) (set results k id)) (routed_from i routes m k results) (routed_from i routes2 m2 (k + 1) (set results k id)) (issued_issued i m m2 results k id less some is) (issued_routed i routes routes2 m m2 results k id less some positive is route)

-- behind all results nothing is issued
pub all_issued : (i : Issuing) (m m0 : IdMap (List Value)) (routes routes0 : List Routed) (k : ℕ) (flags results : List ℕ) → length results ≤ k → left_from i m routes k results ≡ left_from i m0 routes0 0 flags → record { results = results; ids = m } ≡ issued_on i m0 0 flags
all_issued i m m0 routes routes0 k flags results low so =
    sym (ap (λ (xs : List ℕ). issued_behind (take k results) (issued_on i m k xs)) (drop_of_length-le results low) ∙ ap (λ (xs : List ℕ). record { results = xs; ids = m }) (append-nil (take k results) ∙ take_all k results low))
    ∙ ap (λ (l : Left). l.all) so

pub all_routed : (i : Issuing) (m m0 : IdMap (List Value)) (routes routes0 : List Routed) (k : ℕ) (flags results : List ℕ) → length results ≤ k → left_from i m routes k results ≡ left_from i m0 routes0 0 flags → routes ≡ route_all routes0 i.cmd i.drivers i.ty 0 results
all_routed i m m0 routes routes0 k flags results low so =
    sym (ap (λ (xs : List ℕ). route_all routes i.cmd i.drivers i.ty k (issued_on i m k xs).results) (drop_of_length-le results low))
    ∙ (ap (λ (l : Left). l.routes) so ∙ ap (λ (all : IssuedAll (List Value)). route_all routes0 i.cmd i.drivers i.ty 0 all.results) (sym (all_issued i m m0 routes routes0 k flags results low so)))
