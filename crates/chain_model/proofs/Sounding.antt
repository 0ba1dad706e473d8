-- What holds of the past of an accepted trace.
use Rattle.std.proofs.Common.{◌≡◌, ◌==◌, ◌≤◌, inl, inr, ℕ, ◌+◌, Bool, true, false, not, cond, ◌&&◌, ◌||◌, Option, Some, None, List, [], ◌∷◌, ◌++◌, map, refl, sym, ◌∙◌, ap, subst, arith}
use Rattle.std.proofs.lemmas.Bool.{eq-eqb, eqb-true, le-leb, leb-true}
use Rattle.std.proofs.lemmas.List.{append-nil}
use Rattle.std.specs.Prelude.{find, is_some, nat_le}
use Rattle.std.specs.List.{filter_map, AllByRecursion}
use Rattle.std.specs.Option.{option_map, option_map_or}
use Rattle.command_tables.specs.declared.types.Effect.{Effect}
use Rattle.command_tables.specs.declared.types.Effect.TheVariants as eff
use Rattle.trace_format.specs.declared.event.Name.{Name}
use Rattle.object_model.specs.declared.Object.{Object}
use Rattle.object_model.specs.declared.Argument.{Argument}
use Rattle.object_model.specs.declared.Argument.TheVariants.{Null, Unborn, The}
use Rattle.replay_model.specs.declared.Born.{Born}
use Rattle.replay_model.specs.declared.Named.{Named}
use Rattle.object_model.specs.declared.PartKind.{PartKind}
use Rattle.object_model.specs.declared.PartKind.TheVariants as part
use Rattle.command_tables.specs.Table.{row_of}
use Rattle.trace_format.specs.Accepting.{same_name}
use Rattle.trace_format.specs.Content.{Arg}
use Rattle.object_model.specs.Objects.{object_of}
use Rattle.object_model.specs.History.{Call, Begins, Returns, History, Birth, born_in, births_given, births, alive, ends_by, is_born, ends}
use Rattle.object_model.specs.Rules.{failures}
use Rattle.object_model.specs.Renaming.{AreKnown, KnowsAll, KnowsArgs}
use Rattle.replay_model.specs.Past.{Past, Began, Returned, is_skipped, call_of, objects_of, history, argument_in, arguments_in}
use Rattle.replay_model.specs.ChainPlaces.{seen_past, reaches, stops_at, parts_checked, findings}
use Rattle.object_model.specs.Findings.{is_failing, at_place, above}
use Rattle.layer_model.specs.Walks.{PartState, Threads, Lifetimes, Unique, kind_of}
use Rattle.chain_model.specs.Stops.{StopOk, StopsOk, IsLifeAt}
use Rattle.chain_model.proofs.Passing.{LivesSeen}

-- ---- more births know more

list_known : (known more : Object → Bool) → ((o : Object) → known o ≡ true → more o ≡ true) → (os : List Object) → AreKnown known os → AreKnown more os
list_known known more grows [] ks = tt
list_known known more grows (o ∷ os) ks = (grows o ks.0, list_known known more grows os ks.1)

pub args_known : (known more : Object → Bool) → ((o : Object) → known o ≡ true → more o ≡ true) → (args : List (List Argument)) → KnowsArgs known args → KnowsArgs more args
args_known known more grows [] ks = tt
args_known known more grows (a ∷ args) ks = (list_known known more grows (filter_map object_of a) ks.0, args_known known more grows args ks.1)

pub history_known : (known more : Object → Bool) → ((o : Object) → known o ≡ true → more o ≡ true) → (h : History) → KnowsAll known h → KnowsAll more h
history_known known more grows [] ks = tt
history_known known more grows (Begins c skipped ∷ h) ks = (args_known known more grows c.args ks.0, history_known known more grows h ks.1)
history_known known more grows (Returns c made ∷ h) ks = (args_known known more grows c.args ks.0, list_known known more grows made ks.1, history_known known more grows h ks.2)

-- ---- arguments stand for born objects

-- every name stands for a known object
abbrev pub NamesKnown : (Object → Bool) → List Named → Type 0
NamesKnown known names = AllByRecursion (λ n. known n.object ≡ true) names

argument_known : (known : Object → Bool) (names : List Named) → NamesKnown known names → (n : Option Name) → AreKnown known (filter_map object_of (argument_in names n ∷ []))
argument_known known names ks None = tt
argument_known known names ks (Some name) = go names ks
  where
    go : (ns : List Named) → NamesKnown known ns → AreKnown known (filter_map object_of (option_map_or The (option_map (λ (x : Named). x.object) (find (λ x. same_name x.name name) ns)) Unborn ∷ []))
    go [] k = tt
    go (x ∷ ns) k = at (same_name x.name name) (go ns k.1)
      where
        at : (u : Bool) → AreKnown known (filter_map object_of (option_map_or The (option_map (λ (y : Named). y.object) (find (λ y. same_name y.name name) ns)) Unborn ∷ []))
            → AreKnown known (filter_map object_of (option_map_or The (option_map (λ (y : Named). y.object) (cond u (Some x) (find (λ y. same_name y.name name) ns))) Unborn ∷ []))
        at true ih = (k.0, tt)
        at false ih = ih

two_known : (known : Object → Bool) (a : Argument) (xs : List Argument) → AreKnown known (filter_map object_of (a ∷ [])) → AreKnown known (filter_map object_of xs) → AreKnown known (filter_map object_of (a ∷ xs))
two_known known Null xs k ks = ks
two_known known Unborn xs k ks = ks
two_known known (The o) xs k ks = (k.0, ks)

names_known : (known : Object → Bool) (names : List Named) → NamesKnown known names → (ns : List (Option Name)) → AreKnown known (filter_map object_of (map (argument_in names) ns))
names_known known names ks [] = tt
names_known known names ks (n ∷ ns) = two_known known (argument_in names n) (map (argument_in names) ns) (argument_known known names ks n) (names_known known names ks ns)

pub arguments_known : (known : Object → Bool) (names : List Named) → NamesKnown known names → (args : List Arg) → KnowsArgs known (arguments_in names args)
arguments_known known names ks [] = tt
arguments_known known names ks (a ∷ args) = (names_known known names ks a.names, arguments_known known names ks args)

-- ---- what each place has seen

-- a call that didn't reach the place has made nothing
abbrev pub NoneUnreached : ℕ → Past → Type 0
NoneUnreached k [] = Unit {0}
NoneUnreached k (Began e o reports ∷ past) = NoneUnreached k past
NoneUnreached k (Returned o made ∷ past) = (reaches o k ≡ false → made ≡ []) × NoneUnreached k past

pub none_given : (bs : List Birth) (args : List (List Argument)) (e : Effect) → births_given bs args e [] ≡ []
none_given bs args (eff.Create t owner many) = refl
none_given bs args (eff.Retrieve t owner many) = refl
none_given bs args eff.None = refl
none_given bs args (eff.Destroy p) = refl
none_given bs args (eff.Free p) = refl
none_given bs args (eff.Reset p) = refl

-- each place has seen every birth
pub seen_births : (k : ℕ) (past : Past) → NoneUnreached k past → births (seen_past past k) ≡ births (history past)
seen_births k [] n = refl
seen_births k (Began e o reports ∷ past) n = go (reaches o k) (seen_births k past n)
  where
    go : (u : Bool) → births (seen_past past k) ≡ births (history past) → births (cond u (Begins (call_of o) (stops_at o k) ∷ seen_past past k) (seen_past past k)) ≡ births (history past)
    go true ih = ih
    go false ih = ih
seen_births k (Returned o made ∷ past) n = go (reaches o k) refl (seen_births k past n.1)
  where
    go : (u : Bool) → reaches o k ≡ u → births (seen_past past k) ≡ births (history past)
        → births (cond u (Returns (call_of o) (objects_of made) ∷ seen_past past k) (seen_past past k)) ≡ births (history past) ++ births_given (births (history past)) o.args (row_of o.cmd).effect (objects_of made)
    go true e ih = ap (λ bs. bs ++ births_given bs o.args (row_of o.cmd).effect (objects_of made)) ih
    go false e ih =
        ih ∙ (sym (append-nil (births (history past))) ∙ (ap (λ xs. births (history past) ++ xs) (sym (none_given (births (history past)) o.args (row_of o.cmd).effect))
        ∙ ap (λ (ms : List Born). births (history past) ++ births_given (births (history past)) o.args (row_of o.cmd).effect (objects_of ms)) (sym (n.0 e))))

-- at a place below which no call was stopped, what was seen lives as in the whole history
pub seen_alive : (k : ℕ) (past : Past) → NoneUnreached k past → StopsOk k past → (x : Object) → alive (seen_past past k) x ≡ alive (history past) x
seen_alive k [] n s x = refl
seen_alive k (Began e o reports ∷ past) n s x = go o.refused refl o.stop refl (seen_alive k past n s.1 x)
  where
    goes : Bool → Option ℕ → Bool
    goes r st = not r && option_map_or (nat_le k) st true

    passes : (h : Bool) (t : Bool) → h ≡ (h && (true || t))
    passes true t = refl
    passes false t = refl

    with_skip : (r : Bool) (st : Option ℕ) → o.refused ≡ r → o.stop ≡ st → (r || is_some st) ≡ true → (not r && option_map_or (nat_le k) st true) ≡ false → alive (seen_past past k) x ≡ alive (history past) x
        → alive (seen_past (Began e o reports ∷ past) k) x ≡ alive (history (Began e o reports ∷ past)) x
    with_skip r st p q skip not_reached ih =
        let reach : reaches o k ≡ false = ap (λ t. not t && option_map_or (nat_le k) o.stop true) p ∙ (ap (λ (t : Option ℕ). not r && option_map_or (nat_le k) t true) q ∙ not_reached) in
        let skipped : is_skipped o ≡ true = ap (λ t. t || is_some o.stop) p ∙ (ap (λ (t : Option ℕ). r || is_some t) q ∙ skip) in
        ap (λ t. alive (cond t (Begins (call_of o) (stops_at o k) ∷ seen_past past k) (seen_past past k)) x) reach
        ∙ (ih ∙ (passes (alive (history past) x) (not (ends (history past) (call_of o) x)) ∙ ap (λ t. alive (history past) x && (t || not (ends (history past) (call_of o) x))) (sym skipped)))

    seen_it : (stops : Bool) (skips : Bool) → reaches o k ≡ true → stops_at o k ≡ skips → is_skipped o ≡ skips → alive (seen_past past k) x ≡ alive (history past) x
        → alive (seen_past (Began e o reports ∷ past) k) x ≡ alive (history (Began e o reports ∷ past)) x
    seen_it stops skips reach stop skip ih =
        ap (λ t. alive (cond t (Begins (call_of o) (stops_at o k) ∷ seen_past past k) (seen_past past k)) x) reach
        ∙ (ap (λ t. alive (seen_past past k) x && (t || not (ends (seen_past past k) (call_of o) x))) stop
        ∙ (ap (λ t. t && (skips || not (ends (seen_past past k) (call_of o) x))) ih
        ∙ (ap (λ bs. alive (history past) x && (skips || not (ends_by bs o.args (row_of o.cmd).effect x))) (seen_births k past n)
        ∙ ap (λ t. alive (history past) x && (t || not (ends (history past) (call_of o) x))) (sym skip))))

    go : (r : Bool) → o.refused ≡ r → (st : Option ℕ) → o.stop ≡ st → alive (seen_past past k) x ≡ alive (history past) x → alive (seen_past (Began e o reports ∷ past) k) x ≡ alive (history (Began e o reports ∷ past)) x
    go true p st q ih = with_skip true st p q refl refl ih
    go false p None q ih =
        seen_it false false (ap (λ t. not t && option_map_or (nat_le k) o.stop true) p ∙ ap (λ (t : Option ℕ). option_map_or (nat_le k) t true) q) (ap (λ (t : Option ℕ). option_map_or (λ m. m == k) t false) q)
        (ap (λ t. t || is_some o.stop) p ∙ ap (λ (t : Option ℕ). is_some t) q) ih
    go false p (Some j) q ih = at (j == k) refl
      where
        low : j ≤ k
        low = subst (StopOk k) q s.0

        at : (u : Bool) → (j == k) ≡ u → alive (seen_past (Began e o reports ∷ past) k) x ≡ alive (history (Began e o reports ∷ past)) x
        at true h =
            let one : j ≡ k = eqb-true j k h in
            seen_it true true (ap (λ t. not t && option_map_or (nat_le k) o.stop true) p ∙ (ap (λ (t : Option ℕ). option_map_or (nat_le k) t true) q ∙ le-leb k j (omega (arith, one)))) (ap (λ (t : Option ℕ). option_map_or (λ m. m == k) t false) q ∙ h)
            (ap (λ t. t || is_some o.stop) p ∙ ap (λ (t : Option ℕ). is_some t) q) ih
        at false h = with_skip false (Some j) p q refl (below (nat_le k j) refl) ih
          where
            below : (t : Bool) → nat_le k j ≡ t → t ≡ false
            below true b = let m : k ≤ j = leb-true k j b in let one : j ≡ k = omega (arith, m, low) in let bad : (j == k) ≡ true = eq-eqb j k one in cc
            below false b = refl
seen_alive k (Returned o made ∷ past) n s x = go (reaches o k) refl (seen_alive k past n.1 s x)
  where
    keep : (a b : Bool) → a ≡ (a || (not b && b))
    keep true b = refl
    keep false true = refl
    keep false false = refl

    go : (u : Bool) → reaches o k ≡ u → alive (seen_past past k) x ≡ alive (history past) x
        → alive (cond u (Returns (call_of o) (objects_of made) ∷ seen_past past k) (seen_past past k)) x ≡ alive (history (Returned o made ∷ past)) x
    go true e ih =
        ap (λ t. t || (not (is_born (seen_past past k) x) && is_born (Returns (call_of o) (objects_of made) ∷ seen_past past k) x)) ih
        ∙ ap (λ bs. alive (history past) x || (not (born_in bs x) && born_in (bs ++ births_given bs o.args (row_of o.cmd).effect (objects_of made)) x)) (seen_births k past n.1)
    go false e ih =
        ih ∙ (keep (alive (history past) x) (born_in (births (history past)) x)
        ∙ (ap (λ bs. alive (history past) x || (not (born_in (births (history past)) x) && born_in bs x)) (sym (append-nil (births (history past))))
        ∙ (ap (λ xs. alive (history past) x || (not (born_in (births (history past)) x) && born_in (births (history past) ++ xs) x)) (sym (none_given (births (history past)) o.args (row_of o.cmd).effect))
        ∙ ap (λ (ms : List Born). alive (history past) x || (not (born_in (births (history past)) x) && born_in (births (history past) ++ births_given (births (history past)) o.args (row_of o.cmd).effect (objects_of ms)) x)) (sym (n.0 e)))))

-- ---- where a lifetimes part stands

-- a lifetimes part has seen everything live and end, where no call was stopped below it
pub all_lives : (past : Past) → ((k : ℕ) → NoneUnreached k past) → (states : List PartState) (j : ℕ) → ((k : ℕ) → IsLifeAt j (map kind_of states) k → StopsOk k past) → LivesSeen (seen_past past) (history past) j states
all_lives past n [] j ok = tt
all_lives past n (Threads m ∷ states) j ok = all_lives past n states (j + 1) ok
all_lives past n (Lifetimes m ∷ states) j ok = (seen_alive j past (n j) (ok j (inl refl)), all_lives past n states (j + 1) (λ k l. ok k (inr l)))
all_lives past n (Unique m ∷ states) j ok = all_lives past n states (j + 1) ok

-- ---- where a call may be stopped

not_above : (j : ℕ) (ps : List PartKind) (k : ℕ) → IsLifeAt j ps k → j ≤ k
not_above j [] k l = absurd l
not_above j (part.Threads ∷ ps) k l = let m = not_above (j + 1) ps k l in omega (arith, m)
not_above j (part.Lifetimes ∷ ps) k (inl e) = omega (arith, e)
not_above j (part.Lifetimes ∷ ps) k (inr l) = let m = not_above (j + 1) ps k l in omega (arith, m)
not_above j (part.Unique ∷ ps) k l = let m = not_above (j + 1) ps k l in omega (arith, m)

-- where the first lifetimes part finds nothing, none does
never_stopped : (past : Past) (call : Call) → is_failing (failures (history past) call) ≡ false → (ps : List PartKind) (j : ℕ) → (findings (parts_checked past call j ps)).stop ≡ None
never_stopped past call none [] j = refl
never_stopped past call none (part.Threads ∷ ps) j = never_stopped past call none ps (j + 1)
never_stopped past call none (part.Lifetimes ∷ ps) j = go (is_failing (failures (history past) call)) none (never_stopped past call none ps (j + 1))
  where
    go : (u : Bool) → u ≡ false → (findings (parts_checked past call (j + 1) ps)).stop ≡ None
        → (cond (true && u) (record { reports = at_place j (failures (history past) call); stop = Some j }) (above (at_place j (failures (history past) call)) (findings (parts_checked past call (j + 1) ps)))).stop ≡ None
    go true e ih = cc e
    go false e ih = ih
never_stopped past call none (part.Unique ∷ ps) j = never_stopped past call none ps (j + 1)

-- a call is never stopped below a lifetimes part
pub stop_ok : (past : Past) (call : Call) (ps : List PartKind) (j k : ℕ) → IsLifeAt j ps k → StopOk k (findings (parts_checked past call j ps)).stop
stop_ok past call [] j k l = absurd l
stop_ok past call (part.Threads ∷ ps) j k l = stop_ok past call ps (j + 1) k l
stop_ok past call (part.Lifetimes ∷ ps) j k l = go (is_failing (failures (history past) call)) refl
  where
    go : (u : Bool) → is_failing (failures (history past) call) ≡ u
        → StopOk k (cond (true && u) (record { reports = at_place j (failures (history past) call); stop = Some j }) (above (at_place j (failures (history past) call)) (findings (parts_checked past call (j + 1) ps)))).stop
    go true e = not_above j (part.Lifetimes ∷ ps) k l
    go false e = subst (StopOk k) (sym (never_stopped past call e ps (j + 1))) tt
stop_ok past call (part.Unique ∷ ps) j k l = stop_ok past call ps (j + 1) k l
