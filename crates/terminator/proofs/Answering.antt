-- What the drivers of a call answered, driver by driver.
use Rattle.std.proofs.Common.{◌≡◌, ◌==◌, ◌<◌, ◌≤◌, ℕ, zero, suc, ◌+◌, Bool, true, false, cond, List, [], ◌∷◌, ◌++◌, map, length, take, drop, get_or, refl, ap, sym, ◌∙◌, arith, unwrap_or, filter, not, set, add-one, append_assoc}
use Rattle.std.specs.Prelude.{slice_get}
use Rattle.std.proofs.Math.ListN.{drop_of_length-le}
use Rattle.std.proofs.Math.Seq.{drop-cons, take-suc-set}
use Rattle.std.proofs.lemmas.Bool.{eqb-true, eq-eqb}
use Rattle.std.proofs.lemmas.List.{append-nil, drop-set-lt, map-append, take_all, take_more}
use Rattle.command_tables.specs.declared.types.CommandId.{CommandId}
use Rattle.command_tables.specs.declared.types.CommandId.TheVariants as cmd
use Rattle.command_tables.specs.Tests.{same_command}
use Rattle.object_model.specs.Values.{Answered, Value, first_value, handle_at, values_answered}
use Rattle.model_driver.specs.declared.driver.DriverReply.{DriverReply}
use Rattle.model_driver.specs.Driver.{reply_shown}
use Rattle.layer_model.specs.Terminator.{plain_handle, values_from}
use Rattle.terminator.specs.Calls.{answered, born_where}

-- ---- values of one place

filtered : (place : ℕ) (xs ys : List Answered) → filter (λ (a : Answered). a.driver == place) (xs ++ ys) ≡ filter (λ (a : Answered). a.driver == place) xs ++ filter (λ (a : Answered). a.driver == place) ys
filtered place [] ys = refl
filtered place (x ∷ xs) ys = go (x.driver == place) (filtered place xs ys)
  where
    go : (u : Bool) → filter (λ (a : Answered). a.driver == place) (xs ++ ys) ≡ filter (λ (a : Answered). a.driver == place) xs ++ filter (λ (a : Answered). a.driver == place) ys
        → cond u (x ∷ filter (λ (a : Answered). a.driver == place) (xs ++ ys)) (filter (λ (a : Answered). a.driver == place) (xs ++ ys)) ≡ cond u (x ∷ filter (λ (a : Answered). a.driver == place) xs) (filter (λ (a : Answered). a.driver == place) xs) ++ filter (λ (a : Answered). a.driver == place) ys
    go true ih = ap (λ (zs : List Answered). x ∷ zs) ih
    go false ih = ih

-- the values of some drivers, and of others behind them
pub values_on : (c : CommandId) (place : ℕ) (xs ys : List Answered) → values_answered c (xs ++ ys) place ≡ values_answered c xs place ++ values_answered c ys place
values_on c place xs ys = go (same_command c cmd.EnumeratePhysicalDevices)
  where
    go : (u : Bool) → cond u (map (handle_at 0) (filter (λ (a : Answered). a.driver == place) (xs ++ ys))) (map (handle_at place) (xs ++ ys))
        ≡ cond u (map (handle_at 0) (filter (λ (a : Answered). a.driver == place) xs)) (map (handle_at place) xs) ++ cond u (map (handle_at 0) (filter (λ (a : Answered). a.driver == place) ys)) (map (handle_at place) ys)
    go true = ap (map (handle_at 0)) (filtered place xs ys) ∙ map-append (handle_at 0) (filter (λ (a : Answered). a.driver == place) xs) (filter (λ (a : Answered). a.driver == place) ys)
    go false = map-append (handle_at place) xs ys

-- ---- driver by driver

-- one driver more
pub answered_more : (ds : List ℕ) (rs : List DriverReply) (k : ℕ) (d : DriverReply) → k < length rs → k < length ds
    → answered ds (map reply_shown (take (suc k) rs)) ≡ answered ds (map reply_shown (take k rs)) ++ (let a : Answered = record { driver = get_or ds k 0; handles = (get_or rs k d).handles.items } in a) ∷ []
answered_more ds [] k d less there = absurd (omega (arith, less))
answered_more [] (r ∷ rs) k d less there = absurd (omega (arith, there))
answered_more (x ∷ ds) (r ∷ rs) zero d less there = none ds
  where
    none : (ys : List ℕ) → (let a : Answered = record { driver = x; handles = r.handles.items } in a) ∷ answered ys [] ≡ (let a : Answered = record { driver = x; handles = r.handles.items } in a) ∷ []
    none [] = refl
    none (y ∷ ys) = refl
answered_more (x ∷ ds) (r ∷ rs) (suc k) d less there = ap (λ (zs : List Answered). (let a : Answered = record { driver = x; handles = r.handles.items } in a) ∷ zs) (answered_more ds rs k d (omega (arith, less)) (omega (arith, there)))

-- no reply, no answer
pub answered_none : (ds : List ℕ) → answered ds [] ≡ []
answered_none [] = refl
answered_none (x ∷ ds) = refl

-- one driver's answer more, as the code has it
pub gathered_more : (c : CommandId) (ds : List ℕ) (rs : List DriverReply) (k place : ℕ) (d : DriverReply) (now then : List Value) → k < length rs → length rs ≡ length ds → now ≡ values_answered c (answered ds (map reply_shown (take k rs))) place
    → then ≡ now ++ values_answered c ((let a : Answered = record { driver = get_or ds k 0; handles = (get_or rs k d).handles.items } in a) ∷ []) place → then ≡ values_answered c (answered ds (map reply_shown (take (k + 1) rs))) place
gathered_more c ds rs k place d now then less same is step =
    step
    ∙ (ap (λ (vs : List Value). vs ++ values_answered c ((let a : Answered = record { driver = get_or ds k 0; handles = (get_or rs k d).handles.items } in a) ∷ []) place) is
    ∙ (sym (values_on c place (answered ds (map reply_shown (take k rs))) ((let a : Answered = record { driver = get_or ds k 0; handles = (get_or rs k d).handles.items } in a) ∷ []))
    ∙ (ap (λ (ans : List Answered). values_answered c ans place) (sym (answered_more ds rs k d less (omega (arith, less, same)))) ∙ ap (λ (n : ℕ). values_answered c (answered ds (map reply_shown (take n rs))) place) (sym (add-one k)))))

pub gathered_all : (c : CommandId) (ds : List ℕ) (rs : List DriverReply) (k place : ℕ) (now : List Value) → length rs ≤ k → now ≡ values_answered c (answered ds (map reply_shown (take k rs))) place → now ≡ values_answered c (answered ds (map reply_shown rs)) place
gathered_all c ds rs k place now low is = is ∙ ap (λ (xs : List DriverReply). values_answered c (answered ds (map reply_shown xs)) place) (take_all k rs low)

-- no driver answered anything
pub gathered_none : (c : CommandId) (ds : List ℕ) (place : ℕ) → [] ≡ values_answered c (answered ds []) place
gathered_none c ds place = sym (ap (λ (ans : List Answered). values_answered c ans place) (answered_none ds) ∙ go (same_command c cmd.EnumeratePhysicalDevices))
  where
    go : (u : Bool) → cond u (map (handle_at 0) (filter (λ (a : Answered). a.driver == place) (let no : List Answered = [] in no))) (map (handle_at place) (let no : List Answered = [] in no)) ≡ []
    go true = refl
    go false = refl

-- ---- the first driver's handles

pub first_none : (c : CommandId) (ds : List ℕ) (rs : List DriverReply) (place : ℕ) → length rs ≡ 0 → first_value (values_answered c (answered ds (map reply_shown rs)) place) ≡ 0
first_none c ds [] place none = ap first_value (sym (gathered_none c ds place))
first_none c ds (r ∷ rs) place none = absurd (omega (arith, none))

pub first_answered : (c : CommandId) (ds : List ℕ) (rs : List DriverReply) (place : ℕ) (d : DriverReply) → same_command c cmd.EnumeratePhysicalDevices ≡ false → 0 < length rs → length rs ≡ length ds
    → first_value (values_answered c (answered ds (map reply_shown rs)) place) ≡ unwrap_or (slice_get (get_or rs 0 d).handles.items place) 0
first_answered c ds [] place d plain some same = absurd (omega (arith, some))
first_answered c [] (r ∷ rs) place d plain some same = absurd (omega (arith, same))
first_answered c (x ∷ ds) (r ∷ rs) place d plain some same =
    ap (λ (u : Bool). first_value (cond u (map (handle_at 0) (filter (λ (a : Answered). a.driver == place) (answered (x ∷ ds) (map reply_shown (r ∷ rs))))) (map (handle_at place) (answered (x ∷ ds) (map reply_shown (r ∷ rs)))))) plain

-- ---- results of other types

-- the results so far, and what the others become
abbrev pub handed_from : CommandId → List Answered → ℕ → List ℕ → List ℕ
handed_from c ans k results = take k results ++ map plain_handle (values_from c ans k (born_where (drop k results)))

pub handed_all : (c : CommandId) (ans : List Answered) (k : ℕ) (results : List ℕ) → length results ≤ k → handed_from c ans k results ≡ results
handed_all c ans k results low = ap (λ (xs : List ℕ). take k results ++ map plain_handle (values_from c ans k (born_where xs))) (drop_of_length-le results low) ∙ (append-nil (take k results) ∙ take_all k results low)

pub handed_lost : (c : CommandId) (ans : List Answered) (k : ℕ) (results : List ℕ) → k < length results → get_or results k 0 ≡ 0 → handed_from c ans (k + 1) results ≡ handed_from c ans k results
handed_lost c ans k results less none = sym (
    ap (λ (xs : List ℕ). take k results ++ map plain_handle (values_from c ans k (born_where xs))) (drop-cons results k 0 less ∙ ap (λ (v : ℕ). v ∷ drop (suc k) results) none)
    ∙ (sym (append_assoc (take k results) (0 ∷ []) (map plain_handle (values_from c ans (k + 1) (born_where (drop (suc k) results)))))
    ∙ (ap (λ (v : ℕ). (take k results ++ v ∷ []) ++ map plain_handle (values_from c ans (k + 1) (born_where (drop (suc k) results)))) (sym none)
    ∙ (ap (λ (xs : List ℕ). xs ++ map plain_handle (values_from c ans (k + 1) (born_where (drop (suc k) results)))) (sym (take_more results k 0 less))
    ∙ ap (λ (n : ℕ). take (k + 1) results ++ map plain_handle (values_from c ans (k + 1) (born_where (drop n results)))) (sym (add-one k))))))

pub handed_more : (c : CommandId) (ans : List Answered) (k v : ℕ) (results : List ℕ) → k < length results → (get_or results k 0 == 0) ≡ false → v ≡ first_value (values_answered c ans k) → handed_from c ans (k + 1) (set results k v) ≡ handed_from c ans k results
handed_more c ans k v results less some is = sym (
    ap (λ (xs : List ℕ). take k results ++ map plain_handle (values_from c ans k (born_where xs))) (drop-cons results k 0 less)
    ∙ (ap (λ (u : Bool). take k results ++ map plain_handle (values_from c ans k (not u ∷ born_where (drop (suc k) results)))) some
    ∙ (ap (λ (w : ℕ). take k results ++ w ∷ map plain_handle (values_from c ans (k + 1) (born_where (drop (suc k) results)))) (sym is)
    ∙ (sym (append_assoc (take k results) (v ∷ []) (map plain_handle (values_from c ans (k + 1) (born_where (drop (suc k) results)))))
    ∙ (ap (λ (xs : List ℕ). xs ++ map plain_handle (values_from c ans (k + 1) (born_where (drop (suc k) results)))) (sym (ap (λ n. take n (set results k v)) (add-one k) ∙ take-suc-set results k v less))
    ∙ ap (λ (xs : List ℕ). take (k + 1) (set results k v) ++ map plain_handle (values_from c ans (k + 1) (born_where xs))) (sym (ap (λ n. drop n (set results k v)) (add-one k) ∙ drop-set-lt (suc k) results k v (omega arith))))))))

-- ---- one driver's values

pub one_value : (c : CommandId) (driver place : ℕ) (handles : List ℕ) → same_command c cmd.EnumeratePhysicalDevices ≡ false
    → values_answered c ((let a : Answered = record { driver = driver; handles = handles } in a) ∷ []) place ≡ (let v : Value = record { driver = driver; value = unwrap_or (slice_get handles place) 0 } in v) ∷ []
one_value c driver place handles plain =
    ap (λ (u : Bool). cond u (map (handle_at 0) (filter (λ (a : Answered). a.driver == place) ((let a : Answered = record { driver = driver; handles = handles } in a) ∷ []))) (map (handle_at place) ((let a : Answered = record { driver = driver; handles = handles } in a) ∷ []))) plain

pub one_device : (c : CommandId) (driver place : ℕ) (handles : List ℕ) → same_command c cmd.EnumeratePhysicalDevices ≡ true → driver ≡ place
    → values_answered c ((let a : Answered = record { driver = driver; handles = handles } in a) ∷ []) place ≡ (let v : Value = record { driver = driver; value = unwrap_or (slice_get handles 0) 0 } in v) ∷ []
one_device c driver place handles devices own =
    ap (λ (u : Bool). cond u (map (handle_at 0) (filter (λ (a : Answered). a.driver == place) ((let a : Answered = record { driver = driver; handles = handles } in a) ∷ []))) (map (handle_at place) ((let a : Answered = record { driver = driver; handles = handles } in a) ∷ []))) devices
    ∙ ap (λ (u : Bool). map (handle_at 0) (cond u ((let a : Answered = record { driver = driver; handles = handles } in a) ∷ []) [])) (eq-eqb driver place own)

pub no_device : (c : CommandId) (driver place : ℕ) (handles : List ℕ) → same_command c cmd.EnumeratePhysicalDevices ≡ true → (driver ≡ place → ⊥)
    → values_answered c ((let a : Answered = record { driver = driver; handles = handles } in a) ∷ []) place ≡ []
no_device c driver place handles devices other =
    ap (λ (u : Bool). cond u (map (handle_at 0) (filter (λ (a : Answered). a.driver == place) ((let a : Answered = record { driver = driver; handles = handles } in a) ∷ []))) (map (handle_at place) ((let a : Answered = record { driver = driver; handles = handles } in a) ∷ []))) devices
    ∙ ap (λ (u : Bool). map (handle_at 0) (cond u ((let a : Answered = record { driver = driver; handles = handles } in a) ∷ []) [])) (go (driver == place) refl)
  where
    go : (u : Bool) → (driver == place) ≡ u → u ≡ false
    go true at = absurd (other (eqb-true driver place at))
    go false at = refl

-- one driver's answer more, with what was read of it
pub gathered_step : (c : CommandId) (ds : List ℕ) (rs : List DriverReply) (k place driver : ℕ) (hs : List ℕ) (d : DriverReply) (now then : List Value) → k < length ds → length rs ≡ length ds → driver ≡ get_or ds k 0 → hs ≡ (get_or rs k d).handles.items
    → now ≡ values_answered c (answered ds (map reply_shown (take k rs))) place → then ≡ now ++ values_answered c ((let a : Answered = record { driver = driver; handles = hs } in a) ∷ []) place → then ≡ values_answered c (answered ds (map reply_shown (take (k + 1) rs))) place
gathered_step c ds rs k place driver hs d now then less same driver_is handles_are is step =
    gathered_more c ds rs k place d now then (omega (arith, less, same)) same is
    (step
    ∙ (ap (λ (x : ℕ). now ++ values_answered c ((let a : Answered = record { driver = x; handles = hs } in a) ∷ []) place) driver_is
    ∙ ap (λ (xs : List ℕ). now ++ values_answered c ((let a : Answered = record { driver = get_or ds k 0; handles = xs } in a) ∷ []) place) handles_are))
