-- What was issued stays.
use Rattle.std.proofs.Common.{◌≡◌, ◌==◌, ◌&&◌, ◌||◌, ◌+◌, ◌≤◌, ℕ, Bool, true, false, not, cond, Option, Some, None, List, [], ◌∷◌, ◌++◌, map, length, refl, ap, sym, ◌∙◌, subst, arith, unwrap_or}
use Rattle.std.specs.List.{find, list_any, range_with_len}
use Rattle.std.specs.Option.{option_map, option_map_or}
use Rattle.std.proofs.lemmas.List.{length-map}
use denote.Enum.Bare.{same_true}
use Rattle.command_tables.specs.declared.types.CommandId.{CommandId}
use Rattle.command_tables.specs.declared.types.CommandId.TheVariants as cmd
use Rattle.command_tables.specs.declared.types.ObjectType.{ObjectType}
use Rattle.command_tables.specs.declared.types.ObjectType.TheVariants as ty
use Rattle.command_tables.specs.contracts.types.CommandId as command
use Rattle.command_tables.specs.Calls.{CallContent, ReplyContent}
use Rattle.command_tables.specs.Effects.{type_made}
use Rattle.command_tables.specs.Table.{ParamSpec, row_of}
use Rattle.command_tables.specs.Tests.{same_command, same_type}
use Rattle.handle_map.specs.Pairs.{has_pair, values_of}
use Rattle.layer_model.specs.Ids.{IdMap, IssuedAll, Key, KeptId, at_key, has_key, is_wrapped, issue, issue_all, issue_where, keep_new, kept_for, kept_id, next_id}
use Rattle.layer_model.proofs.Issued.{put_stays}
use Rattle.layer_model.specs.Parts.{key_read}
use Rattle.layer_model.specs.Reading.{read_call}
use Rattle.layer_model.specs.Routes.{add_route, drivers_at, has_route, route_all, routes_then}
use Rattle.layer_model.specs.Terminator.{plain_handle, terminator_results, told_call, told_handles, told_params, values_from}
use Rattle.model_driver.specs.Driver.{FitsAsked, FitsRow, HasShape}
use Rattle.object_model.specs.declared.Object.{Object}
use Rattle.object_model.specs.declared.Routed.{Routed}
use Rattle.object_model.specs.Objects.{first_in, same}
use Rattle.object_model.specs.Routes.{driver_behind, driver_in, is_routed, receivers}
use Rattle.object_model.specs.Values.{Value, asked_of_each, value_for}
use Rattle.terminator.specs.Calls.{FitsCall, TerminatorState, answered, born_where, drivers_for, is_settled, left_by, routes_left}

-- ---- in general

or_left : (a b : Bool) → a ≡ true → (a || b) ≡ true
or_left a b is = ap (λ (u : Bool). u || b) is

any_more : {A : Type 0} (p : A → Bool) (xs ys : List A) → list_any p xs ≡ true → list_any p (xs ++ ys) ≡ true
any_more p [] ys is = cc is
any_more p (x ∷ xs) ys is = go (p x) is (any_more p xs ys)
  where
    go : (u : Bool) → (u || list_any p xs) ≡ true → (list_any p xs ≡ true → list_any p (xs ++ ys) ≡ true) → (u || list_any p (xs ++ ys)) ≡ true
    go true is ih = refl
    go false is ih = ih is

find_more : {A : Type 0} (p : A → Bool) (xs ys : List A) → list_any p xs ≡ true → find p (xs ++ ys) ≡ find p xs
find_more p [] ys is = cc is
find_more p (x ∷ xs) ys is = go (p x) is (find_more p xs ys)
  where
    go : (u : Bool) → (u || list_any p xs) ≡ true → (list_any p xs ≡ true → find p (xs ++ ys) ≡ find p xs) → cond u (Some x) (find p (xs ++ ys)) ≡ cond u (Some x) (find p xs)
    go true is ih = refl
    go false is ih = ih is

-- ---- routes

-- with more routes an object's own is as it was
record AreMore (before then : List Routed) (o : Object) : Type 0 where
  pub there : has_route then o ≡ true
  pub driver : driver_in then o ≡ driver_in before o

more_one : (routes : List Routed) (o x : Object) (driver : ℕ) → has_route routes o ≡ true → AreMore routes (add_route routes x driver) o
more_one routes o x driver has = go (is_routed x.ty && not (has_route routes x))
  where
    go : (u : Bool) → AreMore routes (cond u (routes ++ (let r : Routed = record { object = x; driver = driver } in r) ∷ []) routes) o
    go true = record {
      there = any_more (λ (r : Routed). same r.object o) routes ((let r : Routed = record { object = x; driver = driver } in r) ∷ []) has;
      driver = ap (λ (f : Option Routed). option_map_or (λ (r : Routed). r.driver) f 0) (find_more (λ (r : Routed). same r.object o) routes ((let r : Routed = record { object = x; driver = driver } in r) ∷ []) has);
    }
    go false = record { there = has; driver = refl }

more_all : (routes : List Routed) (c : CommandId) (ds : List ℕ) (t : ObjectType) (k : ℕ) (hs : List ℕ) (o : Object) → has_route routes o ≡ true → AreMore routes (route_all routes c ds t k hs) o
more_all routes c ds t k [] o has = record { there = has; driver = refl }
more_all routes c ds t k (h ∷ hs) o has =
    let first : AreMore routes (cond (h == 0) routes (add_route routes (record { ty = t; number = h }) (driver_behind c ds k))) o = go (h == 0) in
    let rest : AreMore (cond (h == 0) routes (add_route routes (record { ty = t; number = h }) (driver_behind c ds k))) (route_all routes c ds t k (h ∷ hs)) o = more_all (cond (h == 0) routes (add_route routes (record { ty = t; number = h }) (driver_behind c ds k))) c ds t (k + 1) hs o first.there in
    record { there = rest.there; driver = rest.driver ∙ first.driver }
  where
    go : (u : Bool) → AreMore routes (cond u routes (add_route routes (record { ty = t; number = h }) (driver_behind c ds k))) o
    go true = record { there = has; driver = refl }
    go false = more_one routes o (record { ty = t; number = h }) (driver_behind c ds k) has

more_then : (routes : List Routed) (c : CommandId) (ds : List ℕ) (made : Option ObjectType) (hs : List ℕ) (o : Object) → has_route routes o ≡ true → AreMore routes (routes_then routes c ds made hs) o
more_then routes c ds None hs o has = record { there = has; driver = refl }
more_then routes c ds (Some t) hs o has = more_all routes c ds t 0 hs o has

pub settled_stays : (s : TerminatorState) (o : Option Object) (later : CallContent) (results : List ℕ) → is_settled s.routes o ≡ true → is_settled (routes_left s later results) o ≡ true
settled_stays s None later results is = refl
settled_stays s (Some o) later results is = go (same_type o.ty ty.Instance) is
  where
    go : (u : Bool) → (u || has_route s.routes o) ≡ true → (u || has_route (routes_left s later results) o) ≡ true
    go true is = refl
    go false is = (more_then s.routes later.cmd (drivers_for s later) (type_made (row_of later.cmd).effect) results o is).there

drivers_same : (s : TerminatorState) (o : Option Object) (later : CallContent) (results : List ℕ) → is_settled s.routes o ≡ true → receivers s.drivers (routes_left s later results) o ≡ receivers s.drivers s.routes o
drivers_same s None later results is = refl
drivers_same s (Some o) later results is = go (same_type o.ty ty.Instance) is
  where
    go : (u : Bool) → (u || has_route s.routes o) ≡ true → cond u (range_with_len 0 s.drivers) (driver_in (routes_left s later results) o ∷ []) ≡ cond u (range_with_len 0 s.drivers) (driver_in s.routes o ∷ [])
    go true is = refl
    go false is = ap (λ (d : ℕ). d ∷ []) (more_then s.routes later.cmd (drivers_for s later) (type_made (row_of later.cmd).effect) results o is).driver

pub drivers_stay : (s : TerminatorState) (c later : CallContent) (results : List ℕ) → is_settled s.routes (first_in (read_call c) 0) ≡ true → drivers_at s.drivers (routes_left s later results) c ≡ drivers_for s c
drivers_stay s c later results is = drivers_same s (first_in (read_call c) 0) later results is

-- ---- ids

-- what is known in a map is known in another
record KnowsAll (before then : IdMap (List Value)) : Type 0 where
  pub ids : (t : ObjectType) (id : ℕ) → has_pair before.entries t id ≡ true → has_pair then.entries t id ≡ true
  pub kept : (k : Key) (id : ℕ) → kept_id before.kept k ≡ Some id → kept_id then.kept k ≡ Some id

same_all : (m : IdMap (List Value)) → KnowsAll m m
same_all m = record { ids = λ (t : ObjectType) (id : ℕ) (has : has_pair m.entries t id ≡ true). has; kept = λ (k : Key) (id : ℕ) (is : kept_id m.kept k ≡ Some id). is }

keep_stays : (kept : List KeptId) (new : Option Key) (n : ℕ) (k : Key) (id : ℕ) → kept_id kept k ≡ Some id → kept_id (keep_new new n kept) k ≡ Some id
keep_stays kept None n k id is = is
keep_stays [] (Some x) n k id is = cc is
keep_stays (r ∷ kept) (Some x) n k id is = go (has_key k r) is (keep_stays kept (Some x) n k id)
  where
    go : (u : Bool) → option_map (λ (y : KeptId). y.id) (cond u (Some r) (find (has_key k) kept)) ≡ Some id → (kept_id kept k ≡ Some id → kept_id (kept ++ (let y : KeptId = record { key = x; id = n } in y) ∷ []) k ≡ Some id)
        → option_map (λ (y : KeptId). y.id) (cond u (Some r) (find (has_key k) (kept ++ (let y : KeptId = record { key = x; id = n } in y) ∷ []))) ≡ Some id
    go true is ih = is
    go false is ih = ih is

issue_stays : (m : IdMap (List Value)) (k : Option Key) (t : ObjectType) (v : List Value) → KnowsAll m (issue m k t v).ids
issue_stays m k t v = go (kept_for m.kept k)
  where
    go : (o : Option ℕ) → KnowsAll m (issue_where o m k t v).ids
    go None = record {
      ids = λ (u : ObjectType) (id : ℕ) (has : has_pair m.entries u id ≡ true). put_stays m.entries u t id (next_id m.entries) v has;
      kept = λ (x : Key) (id : ℕ) (is : kept_id m.kept x ≡ Some id). keep_stays m.kept k (next_id m.entries) x id is;
    }
    go (Some n) = record {
      ids = λ (u : ObjectType) (id : ℕ) (has : has_pair m.entries u id ≡ true). put_stays m.entries u t id n v has;
      kept = λ (x : Key) (id : ℕ) (is : kept_id m.kept x ≡ Some id). is;
    }

all_stay : (m : IdMap (List Value)) (k : Option Key) (t : ObjectType) (place : ℕ) (vs : List (Option (List Value))) → KnowsAll m (issue_all m k t place vs).ids
all_stay m k t place [] = same_all m
all_stay m k t place (None ∷ vs) = all_stay m k t (place + 1) vs
all_stay m k t place (Some v ∷ vs) =
    let first : KnowsAll m (issue m (at_key k place) t v).ids = issue_stays m (at_key k place) t v in
    let rest : KnowsAll (issue m (at_key k place) t v).ids (issue_all (issue m (at_key k place) t v).ids k t (place + 1) vs).ids = all_stay (issue m (at_key k place) t v).ids k t (place + 1) vs in
    record {
      ids = λ (u : ObjectType) (id : ℕ) (has : has_pair m.entries u id ≡ true). rest.ids u id (first.ids u id has);
      kept = λ (x : Key) (id : ℕ) (is : kept_id m.kept x ≡ Some id). rest.kept x id (first.kept x id is);
    }

results_stay : (m : IdMap (List Value)) (k : Option Key) (made : Option ObjectType) (vs : List (Option (List Value))) → KnowsAll m (terminator_results m k made vs).ids
results_stay m k None vs = same_all m
results_stay m k (Some t) vs = go (is_wrapped t)
  where
    go : (u : Bool) → KnowsAll m (cond u (let plain : IssuedAll (List Value) = record { results = map plain_handle vs; ids = m } in plain) (issue_all m k t 0 vs)).ids
    go true = same_all m
    go false = all_stay m k t 0 vs

left_stays : (s : TerminatorState) (later : CallContent) (replies : List ReplyContent) (flags : List ℕ) → KnowsAll s.ids (left_by s later replies flags).ids
left_stays s later replies flags = results_stay s.ids (key_read later.cmd later.payload (read_call later) (row_of later.cmd).effect) (type_made (row_of later.cmd).effect) (values_from later.cmd (answered (drivers_for s later) replies) 0 (born_where flags))

pub ids_stay : (s : TerminatorState) (later : CallContent) (replies : List ReplyContent) (flags : List ℕ) (t : ObjectType) (id : ℕ) → has_pair s.ids.entries t id ≡ true → has_pair (left_by s later replies flags).ids.entries t id ≡ true
ids_stay s later replies flags t id has = (left_stays s later replies flags).ids t id has

pub kept_stays : (s : TerminatorState) (later : CallContent) (replies : List ReplyContent) (flags : List ℕ) (k : Key) (id : ℕ) → kept_id s.ids.kept k ≡ Some id → kept_id (left_by s later replies flags).ids.kept k ≡ Some id
kept_stays s later replies flags k id is = (left_stays s later replies flags).kept k id is

-- ---- shapes

command_is : (a b : CommandId) → same_command a b ≡ true → a ≡ b
unfolding same_command
command_is a b e = same_true command.the_type tt a b e

told_count : (m : IdMap (List Value)) (driver : ℕ) (t : ObjectType) (hs : List ℕ) → length (told_handles m driver t hs) ≡ length hs
told_count m driver t hs = go (is_wrapped t)
  where
    go : (u : Bool) → length (cond u hs (map (λ (h : ℕ). value_for driver (unwrap_or (values_of m.entries t h) [])) hs)) ≡ length hs
    go true = refl
    go false = length-map hs (λ (h : ℕ). value_for driver (unwrap_or (values_of m.entries t h) []))

told_fits : (m : IdMap (List Value)) (driver : ℕ) (ps : List ParamSpec) (lists : List (List ℕ)) → FitsRow ps lists → FitsRow ps (told_params m driver ps lists)
told_fits m driver [] lists fits = fits
told_fits m driver (p ∷ ps) [] fits = fits
told_fits m driver (p ∷ ps) (hs ∷ lists) fits =
    let count : length (told_handles m driver p.ty hs) ≡ length hs = told_count m driver p.ty hs in
    (record { single = λ (one : p.many ≡ false). count ∙ fits.0.single one; most = subst (λ (n : ℕ). n ≤ 1024) (sym count) fits.0.most }, told_fits m driver ps lists fits.1)

asked_fits : (c : CommandId) (n : ℕ) → FitsAsked (row_of c).effect n → FitsAsked (row_of c).effect (asked_of_each c n)
unfolding row_of
asked_fits c n fits = go (same_command c cmd.EnumeratePhysicalDevices) refl
  where
    go : (u : Bool) → same_command c cmd.EnumeratePhysicalDevices ≡ u → FitsAsked (row_of c).effect (cond u 1 n)
    go true is = let few : 1 ≤ 1024 = omega arith in subst (λ (x : CommandId). FitsAsked (row_of x).effect 1) (sym (command_is c cmd.EnumeratePhysicalDevices is)) few
    go false is = fits

pub told_shape : (m : IdMap (List Value)) (c : CallContent) (driver : ℕ) → FitsCall c → HasShape (told_call m c driver)
told_shape m c driver fits = record { params = told_fits m driver (row_of c.cmd).params c.args fits.params; asked = asked_fits c.cmd c.asked fits.asked }
