-- One event more.
use Rattle.std.proofs.Common.{◌≡◌, ◌==◌, ◌≤◌, ℕ, ◌+◌, Bool, true, false, not, cond, ◌&&◌, ◌||◌, Option, Some, None, List, [], ◌∷◌, ◌++◌, map, refl, sym, ◌∙◌, ap, subst, arith}
use Rattle.std.proofs.lemmas.Bool.{leb-true}
use Rattle.std.proofs.lemmas.List.{append-nil}
use Rattle.std.specs.Prelude.{filter, nat_le}
use Rattle.std.specs.List.{filter_map, AllByRecursion}
use Rattle.std.specs.Option.{option_map_or}
use Rattle.object_model.specs.declared.Object.{Object}
use Rattle.object_model.specs.declared.Argument.{Argument}
use Rattle.object_model.specs.declared.Argument.TheVariants.{Null, Unborn, The}
use Rattle.command_tables.specs.declared.types.ObjectType.{ObjectType}
use Rattle.object_model.specs.declared.PartKind.{PartKind}
use Rattle.object_model.specs.declared.PartKind.TheVariants as part
use Rattle.replay_model.specs.declared.Born.{Born}
use Rattle.command_tables.specs.Calls.{CallContent, ReplyContent}
use Rattle.command_tables.specs.Table.{row_of}
use Rattle.command_tables.specs.Effects.{type_made}
use Rattle.trace_format.specs.Content.{BeginEvent}
use Rattle.object_model.specs.Objects.{same, object_of}
use Rattle.object_model.specs.History.{Call, Begins, History, Birth, born_in, births, alive, is_ended}
use Rattle.object_model.specs.Rules.{Failure, loader_failures}
use Rattle.object_model.proofs.Renaming.{renamed_birth, births-renamed}
use Rattle.object_model.proofs.Ended.{alive-born}
use Rattle.object_model.specs.Renaming.{renamed, AreKnown, KnowsAll, KnowsArgs}
use Rattle.replay_model.specs.Setup.{Setup}
use Rattle.replay_model.specs.Past.{Opened, Past, Began, Returned, Retrieval, is_of, call_of, history, retrievals, open_calls}
use Rattle.object_model.specs.Findings.{Report, Findings, is_failing, at_place}
use Rattle.replay_model.specs.ChainPlaces.{Checked, loader_checked, checked, seen_past, reaches, stops_at, parts_in_force, parts_checked, findings}
use Rattle.object_model.specs.Values.{Answered, Value, first_value, value_for, values_answered}
use Rattle.replay_model.specs.Direct.{Valued, valued, valued_of, last_values, driver_call, before_call, answers_of, sent}
use Rattle.layer_model.specs.Ids.{is_wrapped, is_bare, IssuedAll, no_ids}
use Rattle.chain_model.specs.Tokens.{number_in, token_in}
use Rattle.chain_model.specs.Mirrored.{entries_from, kept_from, Mirrors}
use Rattle.chain_model.proofs.OneByOne.{with_value, AsksBorn, ArePlaced, AreApart, values_after}
use Rattle.layer_model.specs.Walks.{PartState, Threads, Lifetimes, Unique, kind_of, has_unique, is_guarded, Walked, enter_parts, Left, leave_parts}
use Rattle.chain_model.specs.Chained.{handle_by, is_unborn, form_by, handle_above, StatesMirror, AreForms}
use Rattle.chain_model.proofs.Passing.{AreTyped, WalksWell, reaches_to, seen_begun, asking_by, births_then, retrievals_then, HaveMade, is_made, creates, owners_by, LeavesWell}
use Rattle.layer_model.specs.Terminator.{told_call, terminator_leave}
use Rattle.chain_model.specs.Handed.{Handed, hand_all, handle_in}
use Rattle.chain_model.specs.Simulated.{Held, ChainKept, base_of, walk_of, held_of, after_walk, after_none, born_flags, other_held, after_reply, after_skipped, first_of, IsBottom, HeldStand, AreSole, ChainStands, found_by, after_begin, fresh_of, with_forms, with_parts}
use Rattle.chain_model.proofs.Handing.{handle_in_all}
use Rattle.chain_model.proofs.Sound.{Sound, IsBeside, IsFirst}
use Rattle.layer_model.proofs.Same.{same_is}
use Rattle.chain_model.proofs.OneToOne.{one_to_one, number_after}
use Rattle.chain_model.proofs.Walking.{walks, mirror_alike, above_kinds}
use Rattle.chain_model.proofs.Borne.{births_then_is, retrievals_then_is, values_final, values_one_by_one, born_not_made}
use Rattle.chain_model.proofs.Leaving.{leaves}
use Rattle.chain_model.proofs.Ending.{told_is, values_other, values_own}
use Rattle.chain_model.proofs.Terminating.{Answered_by, answers_well}

-- ---- forms

-- forms speak of known objects alone
handles_alike : (known : Object → Bool) (g h : Object → ℕ) → ((o : Object) → known o ≡ true → g o ≡ h o) → (xs : List Argument) → AreKnown known (filter_map object_of xs) → map (handle_by g) xs ≡ map (handle_by h) xs
handles_alike known g h alike [] ks = refl
handles_alike known g h alike (Null ∷ xs) ks = ap (λ ys. 0 ∷ ys) (handles_alike known g h alike xs ks)
handles_alike known g h alike (Unborn ∷ xs) ks = ap (λ ys. 0 ∷ ys) (handles_alike known g h alike xs ks)
handles_alike known g h alike (The o ∷ xs) ks = ap (λ y. y ∷ map (handle_by g) xs) (alike o ks.0) ∙ ap (λ ys. h o ∷ ys) (handles_alike known g h alike xs ks.1)

lists_alike : (known : Object → Bool) (g h : Object → ℕ) → ((o : Object) → known o ≡ true → g o ≡ h o) → (args : List (List Argument)) → KnowsArgs known args → map (map (handle_by g)) args ≡ map (map (handle_by h)) args
lists_alike known g h alike [] ks = refl
lists_alike known g h alike (a ∷ args) ks = ap (λ y. y ∷ map (map (handle_by g)) args) (handles_alike known g h alike a ks.0) ∙ ap (λ ys. map (handle_by h) a ∷ ys) (lists_alike known g h alike args ks.1)

pub forms_alike : (known : Object → Bool) (g h : Object → ℕ) (c : CallContent) (args : List (List Argument)) → ((o : Object) → known o ≡ true → g o ≡ h o) → KnowsArgs known args → form_by g c args ≡ form_by h c args
forms_alike known g h c args alike ks = ap (λ xs. record c { args = xs; unborn = map (map is_unborn) args }) (lists_alike known g h alike args ks)

-- the parts' kinds alone tell which forms are theirs
pub forms_kinds : (reach : ℕ → Bool) (form : CallContent) (k : ℕ) (xs ys : List PartState) (forms : List CallContent) → map kind_of xs ≡ map kind_of ys → AreForms reach form k xs forms → AreForms reach form k ys forms
forms_kinds reach form k [] [] forms e a = a
forms_kinds reach form k [] (y ∷ ys) forms e a = cc e
forms_kinds reach form k (x ∷ xs) [] forms e a = cc e
forms_kinds reach form k (x ∷ xs) (y ∷ ys) [] e a = (a.0, forms_kinds reach form (k + 1) xs ys [] (cc e) a.1)
forms_kinds reach form k (x ∷ xs) (y ∷ ys) (c ∷ forms) e a = (a.0, a.1, forms_kinds reach form (k + 1) xs ys forms (cc e) a.2)

guard_kinds : (xs ys : List PartState) → map kind_of xs ≡ map kind_of ys → (is_guarded xs ≡ is_guarded ys) × (has_unique xs ≡ has_unique ys)
guard_kinds [] [] e = (refl, refl)
guard_kinds [] (y ∷ ys) e = cc e
guard_kinds (x ∷ xs) [] e = cc e
guard_kinds (Threads m ∷ xs) (Threads n ∷ ys) e = let r = guard_kinds xs ys (cc e) in (rw (r.0, r.1) refl, r.1)
guard_kinds (Lifetimes m ∷ xs) (Threads n ∷ ys) e = cc e
guard_kinds (Unique m ∷ xs) (Threads n ∷ ys) e = cc e
guard_kinds (Threads m ∷ xs) (Lifetimes n ∷ ys) e = cc e
guard_kinds (Lifetimes m ∷ xs) (Lifetimes n ∷ ys) e = let r = guard_kinds xs ys (cc e) in (rw (r.0, r.1) refl, r.1)
guard_kinds (Unique m ∷ xs) (Lifetimes n ∷ ys) e = cc e
guard_kinds (Threads m ∷ xs) (Unique n ∷ ys) e = cc e
guard_kinds (Lifetimes m ∷ xs) (Unique n ∷ ys) e = cc e
guard_kinds (Unique m ∷ xs) (Unique n ∷ ys) e = ((guard_kinds xs ys (cc e)).0, refl)

-- ---- open calls

held_kinds : (xs ys : List PartState) (bs : List Birth) (held : List Held) (opens : List Opened) → map kind_of xs ≡ map kind_of ys → HeldStand xs bs held opens → HeldStand ys bs held opens
held_kinds xs ys bs [] [] e s = tt
held_kinds xs ys bs [] (o ∷ opens) e s = s
held_kinds xs ys bs (h ∷ held) [] e s = s
held_kinds xs ys bs (h ∷ held) (o ∷ opens) e s = (s.0, forms_kinds (reaches o) (form_by (number_in bs) (base_of o) o.args) 1 xs ys h.forms e s.1, s.2, held_kinds xs ys bs held opens e s.3)

held_more : (states : List PartState) (bs : List Birth) (h : Held) (o : Opened) → (h.thread ≡ o.thread) → AreForms (reaches o) (form_by (number_in bs) (base_of o) o.args) 1 states h.forms → (o.refused ≡ false → o.stop ≡ None → IsBottom bs o h.bottom) → (held : List Held) (opens : List Opened)
    → HeldStand states bs held opens → HeldStand states bs (held ++ h ∷ []) (opens ++ o ∷ [])
held_more states bs h o t forms bottom [] [] s = (t, forms, bottom, tt)
held_more states bs h o t forms bottom [] (x ∷ opens) s = absurd s
held_more states bs h o t forms bottom (x ∷ held) [] s = absurd s
held_more states bs h o t forms bottom (x ∷ held) (y ∷ opens) s = (s.0, s.1, s.2, held_more states bs h o t forms bottom held opens s.3)

-- a call that came to no part
no_forms : (reach : ℕ → Bool) (form : CallContent) (k : ℕ) (states : List PartState) → ((j : ℕ) → k ≤ j → reach j ≡ false) → AreForms reach form k states []
no_forms reach form k [] none = tt
no_forms reach form k (s ∷ states) none = (none k (omega arith), no_forms reach form (k + 1) states (λ j l. none j (omega (arith, l))))

-- ---- a begin

-- the session's handles are those above the first part
top_form : (states : List PartState) (bs : List Birth) (f : Object → ℕ) (handed : List Handed) (c : CallContent) (args : List (List Argument)) → ((o : Object) → born_in bs o ≡ true → handle_in handed o ≡ handle_above states bs f o) → KnowsArgs (born_in bs) args
    → form_by (handle_in handed) c args ≡ form_by (handle_above states bs f) c args
top_form states bs f handed c args is ks = forms_alike (born_in bs) (handle_in handed) (handle_above states bs f) c args is ks

-- the walk of a call finds what the past says, and goes well
pub walk_well : (k : ChainKept) (past : Past) (replies : List ReplyContent) (o : Opened) → ChainStands k past replies → Sound past k.states → AreTyped (row_of o.cmd).params o.args → KnowsArgs (born_in (births (history past))) o.args
    → WalksWell past (first_of (valued past replies)) (base_of o) (call_of o) 1 k.states (walk_of k o)
walk_well k past replies o st so typed ks =
    subst (λ c. WalksWell past (first_of (valued past replies)) (base_of o) (call_of o) 1 k.states (enter_parts o.thread o.number 1 k.states c))
    (sym (top_form k.states (births (history past)) (first_of (valued past replies)) k.handed (base_of o) o.args st.handed ks))
    (walks past (first_of (valued past replies)) (base_of o) o.thread o.number o.args typed ks so.known so.born 1 k.states st.guard st.mirror so.lives)

-- values stay where a begin takes its own replies off
valued_stays : (past : Past) (e : BeginEvent) (o : Opened) (reports : List Report) (replies replies2 : List ReplyContent) → before_call o replies2 ≡ replies → valued past replies ≡ valued (Began e o reports ∷ past) replies2
valued_stays past e o reports replies replies2 back = ap (valued past) (sym back)

-- a begin that comes to the parts
pub begins_walked : (k : ChainKept) (past : Past) (replies replies2 : List ReplyContent) (e : BeginEvent) (o : Opened) (reports : List Report) → ChainStands k past replies → Sound past k.states → AreTyped (row_of o.cmd).params o.args
    → KnowsArgs (born_in (births (history past))) o.args → o.refused ≡ false → o.stop ≡ (walk_of k o).found.stop → before_call o replies2 ≡ replies → ChainStands (after_walk k o (walk_of k o)) (Began e o reports ∷ past) replies2
begins_walked k past replies replies2 e o reports st so typed ks goes stop_is back =
    let bs : List Birth = births (history past) in
    let rs : List Retrieval = retrievals past in
    let w : Walked = walk_of k o in
    let well : WalksWell past (first_of (valued past replies)) (base_of o) (call_of o) 1 k.states w = walk_well k past replies o st so typed ks in
    let v : valued past replies ≡ valued (Began e o reports ∷ past) replies2 = valued_stays past e o reports replies replies2 back in
    let reach_is : (j : ℕ) → reaches o j ≡ reaches_to w.found.stop j = λ (j : ℕ). ap (λ t. not t && option_map_or (nat_le j) o.stop true) goes ∙ ap (λ (x : Option ℕ). option_map_or (nat_le j) x true) stop_is in
    let seen_is : (j : ℕ) → seen_past (Began e o reports ∷ past) j ≡ seen_begun (seen_past past) (call_of o) w.found.stop j = λ (j : ℕ).
    ap (λ t. cond t (Begins (call_of o) (stops_at o j) ∷ seen_past past j) (seen_past past j)) (reach_is j) ∙ ap (λ (x : Option ℕ). cond (reaches_to w.found.stop j) (Begins (call_of o) (option_map_or (λ n. n == j) x false) ∷ seen_past past j) (seen_past past j)) stop_is in
    record {
      guard = (guard_kinds w.states k.states well.kinds).0 ∙ st.guard;
      mirror = mirror_alike bs rs (first_of (valued (Began e o reports ∷ past) replies2)) (seen_begun (seen_past past) (call_of o) w.found.stop) (seen_past (Began e o reports ∷ past)) 1 w.states (λ j l. seen_is j)
          (subst (λ vs. StatesMirror bs rs (first_of vs) (seen_begun (seen_past past) (call_of o) w.found.stop) 1 w.states) v well.mirror);
      ids = subst (λ vs. Mirrors (List Value) is_bare (last_values vs) bs rs k.terminator) v st.ids;
      handed = λ x born.
          st.handed x born
          ∙ (ap (λ vs. handle_above k.states bs (first_of vs) x) v ∙ ap (λ (g : Object → ℕ). g x) (sym (above_kinds w.states k.states bs (first_of (valued (Began e o reports ∷ past) replies2)) well.kinds)));
      held = held_more w.states bs (held_of o w.forms w.bottom) o refl
          (forms_kinds (reaches o) (form_by (number_in bs) (base_of o) o.args) 1 k.states w.states w.forms (sym well.kinds)
          (subst (λ (r : ℕ → Bool). AreForms r (form_by (number_in bs) (base_of o) o.args) 1 k.states w.forms) (λ i j. sym (reach_is j) i) well.forms))
          (λ r n. record { values = first_of (valued past replies); form = well.bottom (sym stop_is ∙ n) }) k.held (open_calls past) (held_kinds k.states w.states bs k.held (open_calls past) (sym well.kinds) st.held);
      sole = subst AreSole v st.sole;
    }

-- a begin that comes to no part
pub begins_none : (k : ChainKept) (past : Past) (replies replies2 : List ReplyContent) (e : BeginEvent) (o : Opened) (reports : List Report) → ChainStands k past replies → ((j : ℕ) → 1 ≤ j → reaches o j ≡ false) → (o.refused ≡ false → o.stop ≡ None → ⊥)
    → before_call o replies2 ≡ replies → ChainStands (after_none k o) (Began e o reports ∷ past) replies2
begins_none k past replies replies2 e o reports st none stopped back =
    let bs : List Birth = births (history past) in
    let rs : List Retrieval = retrievals past in
    let v : valued past replies ≡ valued (Began e o reports ∷ past) replies2 = valued_stays past e o reports replies replies2 back in
    record {
      guard = st.guard;
      mirror = mirror_alike bs rs (first_of (valued (Began e o reports ∷ past) replies2)) (seen_past past) (seen_past (Began e o reports ∷ past)) 1 k.states
          (λ j l. ap (λ t. cond t (Begins (call_of o) (stops_at o j) ∷ seen_past past j) (seen_past past j)) (none j l)) (subst (λ vs. StatesMirror bs rs (first_of vs) (seen_past past) 1 k.states) v st.mirror);
      ids = subst (λ vs. Mirrors (List Value) is_bare (last_values vs) bs rs k.terminator) v st.ids;
      handed = λ x born. st.handed x born ∙ ap (λ vs. handle_above k.states bs (first_of vs) x) v;
      held = held_more k.states bs (held_of o [] (base_of o)) o refl (no_forms (reaches o) (form_by (number_in bs) (base_of o) o.args) 1 k.states none) (λ r n. absurd (stopped r n)) k.held (open_calls past) st.held;
      sole = subst AreSole v st.sole;
    }

-- what a driver is told of a call that passed
pub told_well : (k : ChainKept) (past : Past) (replies : List ReplyContent) (o : Opened) → ChainStands k past replies → AreTyped (row_of o.cmd).params o.args → KnowsArgs (born_in (births (history past))) o.args
    → (bottom : CallContent) → bottom ≡ form_by (handle_above [] (births (history past)) (first_of (valued past replies))) (base_of o) o.args → (driver : ℕ) → told_call k.terminator bottom driver ≡ driver_call (valued past replies) o driver
told_well k past replies o st typed ks bottom is driver =
    ap (λ c. told_call k.terminator c driver) is
    ∙ ap (λ (xs : List (List ℕ)). record (told_call k.terminator (form_by (handle_above [] (births (history past)) (first_of (valued past replies))) (base_of o) o.args) driver) { args = xs })
    (told_is (valued past replies) (first_of (valued past replies)) (births (history past)) (retrievals past) k.terminator (λ x. refl) (λ x w. record { one = st.sole x w }) st.ids driver (row_of o.cmd).params o.args typed ks)

-- ---- a return

-- the other open calls stay open, in the tokens then
held_left : (states states2 : List PartState) (bs bs2 : List Birth) (thread : ℕ) → map kind_of states ≡ map kind_of states2 → ((x : Object) → born_in bs x ≡ true → number_in bs2 x ≡ number_in bs x) → (held : List Held) (opens : List Opened)
    → AllByRecursion (λ o. KnowsArgs (born_in bs) o.args) opens → HeldStand states bs held opens → HeldStand states2 bs2 (other_held thread held) (filter (λ o. not (is_of thread o)) opens)
held_left states states2 bs bs2 thread kinds stays [] [] ks s = tt
held_left states states2 bs bs2 thread kinds stays [] (o ∷ opens) ks s = absurd s
held_left states states2 bs bs2 thread kinds stays (h ∷ held) [] ks s = absurd s
held_left states states2 bs bs2 thread kinds stays (h ∷ held) (o ∷ opens) ks s =
    subst (λ (n : ℕ). HeldStand states2 bs2 (cond (not (n == thread)) (h ∷ other_held thread held) (other_held thread held)) (cond (not (o.thread == thread)) (o ∷ filter (λ x. not (is_of thread x)) opens) (filter (λ x. not (is_of thread x)) opens))) (sym s.0)
    (go (not (o.thread == thread)) (held_left states states2 bs bs2 thread kinds stays held opens ks.1 s.3))
  where
    form_stays : form_by (number_in bs) (base_of o) o.args ≡ form_by (number_in bs2) (base_of o) o.args
    form_stays = forms_alike (born_in bs) (number_in bs) (number_in bs2) (base_of o) o.args (λ x b. sym (stays x b)) ks.0

    low_stays : (f : Object → ℕ) → form_by (handle_above [] bs f) (base_of o) o.args ≡ form_by (handle_above [] bs2 f) (base_of o) o.args
    low_stays f = forms_alike (born_in bs) (handle_above [] bs f) (handle_above [] bs2 f) (base_of o) o.args (λ x b. ap (λ n. cond (is_wrapped x.ty) (f x) n) (sym (stays x b))) ks.0

    bottom : (o.refused ≡ false → o.stop ≡ None → IsBottom bs o h.bottom) → o.refused ≡ false → o.stop ≡ None → IsBottom bs2 o h.bottom
    bottom f r n = let was : IsBottom bs o h.bottom = f r n in record { values = was.values; form = was.form ∙ low_stays was.values }

    go : (u : Bool) → HeldStand states2 bs2 (other_held thread held) (filter (λ x. not (is_of thread x)) opens)
        → HeldStand states2 bs2 (cond u (h ∷ other_held thread held) (other_held thread held)) (cond u (o ∷ filter (λ x. not (is_of thread x)) opens) (filter (λ x. not (is_of thread x)) opens))
    go true rest = (
      s.0,
      forms_kinds (reaches o) (form_by (number_in bs2) (base_of o) o.args) 1 states states2 h.forms kinds (subst (λ c. AreForms (reaches o) c 1 states h.forms) form_stays s.1),
      bottom s.2,
      rest,
    )
    go false rest = rest

-- one value for each wrapped object, also of what was made
sole_after : (val : Born → List Value) (made : List Born) → AllByRecursion (λ b. is_wrapped b.object.ty ≡ true → (driver : ℕ) → value_for driver (val b) ≡ first_value (val b)) made → (g : Object → List Value) (o : Object) → is_wrapped o.ty ≡ true
    → ((driver : ℕ) → value_for driver (g o) ≡ first_value (g o)) → (driver : ℕ) → value_for driver (values_after val g made o) ≡ first_value (values_after val g made o)
sole_after val [] all g o w is driver = is driver
sole_after val (b ∷ made) all g o w is driver = sole_after val made all.1 (with_value g b.object (val b)) o w (λ d. go (same b.object o) refl d) driver
  where
    go : (u : Bool) → same b.object o ≡ u → (d : ℕ) → value_for d (cond u (val b) (g o)) ≡ first_value (cond u (val b) (g o))
    go true e d = all.0 (ap (λ (x : Object). is_wrapped x.ty) (same_is b.object o e) ∙ w) d
    go false e d = is d

-- the values that a call gives its results
abbrev given_by : Opened → List Answered → Born → List Value
given_by o answers b = values_answered o.cmd answers b.place

-- what must hold of what was made: its results stand in their places, are of objects apart, each new or retrieved before; the drivers gave no 0, and one value for each wrapped object
pub record MadeWell (past : Past) (o : Opened) (made : List Born) (answers : List Answered) : Type 0 where
  pub asks : AsksBorn (births (history past)) (asking_by (births (history past)) o.cmd o.payload o.args (row_of o.cmd).effect)
  pub placed : ArePlaced 0 made
  pub apart : AreApart made
  pub have : HaveMade (births (history past)) (retrievals past) o.cmd o.payload o.args (type_made (row_of o.cmd).effect) made
  pub live : AllByRecursion (λ b. is_wrapped b.object.ty ≡ true → (first_value (values_answered o.cmd answers b.place) == 0) ≡ false) made
  pub sole : AllByRecursion (λ b. is_wrapped b.object.ty ≡ true → (driver : ℕ) → value_for driver (values_answered o.cmd answers b.place) ≡ first_value (values_answered o.cmd answers b.place)) made

-- a command that makes nothing has made nothing
none_made : (past : Past) (o : Opened) (made : List Born) → HaveMade (births (history past)) (retrievals past) o.cmd o.payload o.args (type_made (row_of o.cmd).effect) made → type_made (row_of o.cmd).effect ≡ None → made ≡ []
none_made past o made have none = subst (λ mt. HaveMade (births (history past)) (retrievals past) o.cmd o.payload o.args mt made) none have

-- own values, of any made results
first_live : (vs : List Valued) (val : Born → List Value) (ms : List Born) → AllByRecursion (λ b. last_values vs b.object ≡ val b) ms → AllByRecursion (λ b. is_wrapped b.object.ty ≡ true → (first_value (val b) == 0) ≡ false) ms
    → AllByRecursion (λ b. is_wrapped b.object.ty ≡ true → (first_of vs b.object == 0) ≡ false) ms
first_live vs val [] own live = tt
first_live vs val (b ∷ ms) own live = (λ w. ap (λ (x : List Value). first_value x == 0) own.0 ∙ live.0 w, first_live vs val ms own.1 live.1)

-- the return of a call that was sent
pub returns_sent : {X : Type 0} (k : ChainKept) (past : Past) (replies : List ReplyContent) (o : Opened) (h : Held) (made : List Born) (lost : List X) → ChainStands k past replies → Sound past k.states → AreTyped (row_of o.cmd).params o.args
    → KnowsArgs (born_in (births (history past))) o.args → AreForms (reaches o) (form_by (number_in (births (history past))) (base_of o) o.args) 1 k.states h.forms → IsBottom (births (history past)) o h.bottom → ((j : ℕ) → reaches o j ≡ true)
    → MadeWell past o made (answers_of (sent past replies) o.thread)
    → ChainStands (after_reply k o h (answers_of (sent past replies) o.thread) made lost) (Returned o made ∷ past) replies
returns_sent {X = X} k past replies o h made lost st so typed ks forms bottom reached well =
    let bs : List Birth = births (history past) in
    let rs : List Retrieval = retrievals past in
    let vs : List Valued = valued past replies in
    let answers : List Answered = answers_of (sent past replies) o.thread in
    let val : Born → List Value = given_by o answers in
    let vs2 : List Valued = vs ++ map (valued_of o answers) made in
    let tb : List Birth = births_then bs o.cmd o.args made in
    let tk : List Retrieval = retrievals_then bs rs o.cmd o.payload o.args made in
    let tb_is : tb ≡ births (history (Returned o made ∷ past)) = births_then_is bs o.cmd o.args made well.apart (none_made past o made well.have) in
    let tk_is : tk ≡ retrievals (Returned o made ∷ past) = retrievals_then_is bs rs o made well.apart in
    let all : IssuedAll (List Value) = terminator_leave k.terminator h.bottom answers (born_flags made lost) in
    let ended : Answered_by X vs2 tb tk made lost all =
    subst (λ c. Answered_by X vs2 tb tk made lost (terminator_leave k.terminator c answers (born_flags made lost))) (sym bottom.form)
    (answers_well bs rs vs bottom.values (base_of o) o.args typed made lost so.once so.retrieved well.asks well.placed well.apart well.have answers k.terminator st.ids) in
    let own : AllByRecursion (λ b. last_values vs2 b.object ≡ val b) made =
    subst (λ (g : Object → List Value). AllByRecursion (λ b. g b.object ≡ val b) made) (values_one_by_one val vs made) (values_own val (last_values vs) made well.apart) in
    let keeps : (x : Object) → is_made made x ≡ false → first_of vs2 x ≡ first_of vs x = λ (x : Object) (e : is_made made x ≡ false).
    ap first_value (ap (λ (g : Object → List Value). g x) (sym (values_one_by_one val vs made)) ∙ values_other val made (last_values vs) x e) in
    let stays : (x : Object) → born_in bs x ≡ true → number_in tb x ≡ number_in bs x = λ (x : Object) (b : born_in bs x ≡ true). number_after (creates (row_of o.cmd).effect) (owners_by bs o.args (row_of o.cmd).effect) bs made x b in
    let left : LeavesWell X past (first_of vs2) tb tk (reaches o) (call_of o) made lost 1 k.states (leave_parts o.thread k.states h.forms all.results) =
    subst (λ hs. LeavesWell X past (first_of vs2) tb tk (reaches o) (call_of o) made lost 1 k.states (leave_parts o.thread k.states h.forms hs)) (sym ended.results)
    (leaves past (first_of vs) (first_of vs2) (base_of o) o.thread o.number o.args typed ks so.known made lost so.once so.retrieved well.asks well.placed well.apart well.have keeps (first_live vs2 val made own well.live) (reaches o)
    (λ j e. absurd (no_both (reaches o j) (reached j) e)) 1 k.states h.forms st.guard st.mirror forms) in
    let up : Left = leave_parts o.thread k.states h.forms all.results in
    let val_up : Born → ℕ = λ (b : Born). handle_above k.states tb (first_of vs2) b.object in
    record {
      guard = (guard_kinds up.states k.states left.kinds).0 ∙ st.guard;
      mirror = subst (λ b. StatesMirror b (retrievals (Returned o made ∷ past)) (first_of vs2) (seen_past (Returned o made ∷ past)) 1 up.states) tb_is
          (subst (λ r. StatesMirror tb r (first_of vs2) (seen_past (Returned o made ∷ past)) 1 up.states) tk_is left.mirror);
      ids = subst (λ b. Mirrors (List Value) is_bare (last_values vs2) b (retrievals (Returned o made ∷ past)) all.ids) tb_is (subst (λ r. Mirrors (List Value) is_bare (last_values vs2) tb r all.ids) tk_is ended.mirrors);
      handed = subst (λ bs2. (x : Object) → born_in bs2 x ≡ true → handle_in (hand_all k.handed made up.results) x ≡ handle_above up.states bs2 (first_of vs2) x) tb_is
          (λ x b. ap (λ hs. handle_in (hand_all k.handed made hs) x) left.results
          ∙ (handle_in_all val_up (map (λ _. 0) lost) made k.handed x
          ∙ (values_final val_up (handle_above k.states tb (first_of vs2)) made (all_refl val_up made) (handle_in k.handed) x
          (λ e. let was : born_in bs x ≡ true = sym (born_not_made (creates (row_of o.cmd).effect) (owners_by bs o.args (row_of o.cmd).effect) bs made x e) ∙ b in st.handed x was ∙ stays_above x (stays x was) (keeps x e))
          ∙ ap (λ (g : Object → ℕ). g x) (sym (above_kinds up.states k.states tb (first_of vs2) left.kinds)))));
      held = subst (λ b. HeldStand up.states b (other_held o.thread k.held) (filter (λ x. not (is_of o.thread x)) (open_calls past))) tb_is
          (held_left k.states up.states bs tb o.thread (sym left.kinds) stays k.held (open_calls past) so.open_known st.held);
      sole = λ x w d. subst (λ (g : Object → List Value). value_for d (g x) ≡ first_value (g x)) (values_one_by_one val vs made) (sole_after val made well.sole (last_values vs) x w (st.sole x w) d);
    }
  where
    no_both : (u : Bool) → u ≡ true → u ≡ false → ⊥
    no_both u a b = cc

    all_refl : (v : Born → ℕ) (ms : List Born) → AllByRecursion (λ b. v b ≡ v b) ms
    all_refl v [] = tt
    all_refl v (b ∷ ms) = (refl, all_refl v ms)

    stays_above : (x : Object) → number_in (births_then (births (history past)) o.cmd o.args made) x ≡ number_in (births (history past)) x
        → first_of (valued past replies ++ map (valued_of o (answers_of (sent past replies) o.thread)) made) x ≡ first_of (valued past replies) x
        → handle_above k.states (births (history past)) (first_of (valued past replies)) x
        ≡ handle_above k.states (births_then (births (history past)) o.cmd o.args made) (first_of (valued past replies ++ map (valued_of o (answers_of (sent past replies) o.thread)) made)) x
    stays_above x n f =
        ap (λ m. cond (has_unique k.states) m (cond (is_wrapped x.ty) (first_of (valued past replies) x) m)) (sym n)
        ∙ ap (λ m. cond (has_unique k.states) (number_in (births_then (births (history past)) o.cmd o.args made) x) (cond (is_wrapped x.ty) m (number_in (births_then (births (history past)) o.cmd o.args made) x))) (sym f)

-- ---- kinds stay

pub left_kinds : (thread : ℕ) (states : List PartState) (forms : List CallContent) (hs : List ℕ) → map kind_of (leave_parts thread states forms hs).states ≡ map kind_of states
left_kinds thread [] forms hs = refl
left_kinds thread (s ∷ states) [] hs = refl
left_kinds thread (Threads m ∷ states) (c ∷ forms) hs = ap (λ ks. part.Threads ∷ ks) (left_kinds thread states forms hs)
left_kinds thread (Lifetimes m ∷ states) (c ∷ forms) hs = ap (λ ks. part.Lifetimes ∷ ks) (left_kinds thread states forms hs)
left_kinds thread (Unique m ∷ states) (c ∷ forms) hs = ap (λ ks. part.Unique ∷ ks) (left_kinds thread states forms hs)

-- ---- the return of a skipped call

pub returns_skipped : {X : Type 0} (k : ChainKept) (past : Past) (replies : List ReplyContent) (o : Opened) (h : Held) (lost : List X) → ChainStands k past replies → Sound past k.states → AreTyped (row_of o.cmd).params o.args
    → KnowsArgs (born_in (births (history past))) o.args → AsksBorn (births (history past)) (asking_by (births (history past)) o.cmd o.payload o.args (row_of o.cmd).effect)
    → AreForms (reaches o) (form_by (number_in (births (history past))) (base_of o) o.args) 1 k.states h.forms → ChainStands (after_skipped k o h lost) (Returned o [] ∷ past) replies
returns_skipped {X = X} k past replies o h lost st so typed ks asks forms =
    let bs : List Birth = births (history past) in
    let rs : List Retrieval = retrievals past in
    let vs : List Valued = valued past replies in
    let vs_is : vs ≡ vs ++ [] = sym (append-nil vs) in
    let bs_is : bs ≡ births (history (Returned o [] ∷ past)) = births_then_is bs o.cmd o.args [] tt (λ e. refl) in
    let rs_is : rs ≡ retrievals (Returned o [] ∷ past) = retrievals_then_is bs rs o [] tt ∙ refl in
    let left : LeavesWell X past (first_of vs) bs (retrievals_then bs rs o.cmd o.payload o.args []) (reaches o) (call_of o) [] lost 1 k.states (leave_parts o.thread k.states h.forms (map (λ _. 0) lost)) =
    leaves past (first_of vs) (first_of vs) (base_of o) o.thread o.number o.args typed ks so.known [] lost so.once so.retrieved asks tt tt (none_have (type_made (row_of o.cmd).effect)) (λ x e. refl) tt (reaches o) (λ j e. refl) 1 k.states h.forms st.guard st.mirror forms in
    let up : Left = leave_parts o.thread k.states h.forms (map (λ _. 0) lost) in
    record {
      guard = (guard_kinds up.states k.states left.kinds).0 ∙ st.guard;
      mirror = subst (λ v. StatesMirror (births (history (Returned o [] ∷ past))) (retrievals (Returned o [] ∷ past)) (first_of v) (seen_past (Returned o [] ∷ past)) 1 up.states) vs_is
          (subst (λ b. StatesMirror b (retrievals (Returned o [] ∷ past)) (first_of vs) (seen_past (Returned o [] ∷ past)) 1 up.states) bs_is
          (subst (λ r. StatesMirror bs r (first_of vs) (seen_past (Returned o [] ∷ past)) 1 up.states) rs_is left.mirror));
      ids = subst (λ v. Mirrors (List Value) is_bare (last_values v) (births (history (Returned o [] ∷ past))) (retrievals (Returned o [] ∷ past)) k.terminator) vs_is
          (subst (λ b. Mirrors (List Value) is_bare (last_values vs) b (retrievals (Returned o [] ∷ past)) k.terminator) bs_is (subst (λ r. Mirrors (List Value) is_bare (last_values vs) bs r k.terminator) rs_is st.ids));
      handed = subst (λ v. (x : Object) → born_in (births (history (Returned o [] ∷ past))) x ≡ true → handle_in k.handed x ≡ handle_above up.states (births (history (Returned o [] ∷ past))) (first_of v) x) vs_is
          (subst (λ b. (x : Object) → born_in b x ≡ true → handle_in k.handed x ≡ handle_above up.states b (first_of vs) x) bs_is
          (λ x born. st.handed x born ∙ ap (λ (g : Object → ℕ). g x) (sym (above_kinds up.states k.states bs (first_of vs) left.kinds))));
      held = subst (λ b. HeldStand up.states b (other_held o.thread k.held) (filter (λ x. not (is_of o.thread x)) (open_calls past))) bs_is
          (held_left k.states up.states bs bs o.thread (sym left.kinds) (λ x b. refl) k.held (open_calls past) so.open_known st.held);
      sole = subst AreSole vs_is st.sole;
    }
  where
    none_have : (mt : Option ObjectType) → HaveMade (births (history past)) (retrievals past) o.cmd o.payload o.args mt []
    none_have None = refl
    none_have (Some t) = tt

-- ---- what is found in all

-- the loader comes first
pub found_all : (past : Past) (call : Call) (rest : List Checked) → findings (loader_checked past call ∷ rest) ≡ found_by (loader_failures (alive (history past)) (row_of call.cmd).params call.args) (findings rest)
found_all past call rest = go (loader_failures (alive (history past)) (row_of call.cmd).params call.args)
  where
    go : (fs : List Failure) → findings (record { place = 0; skips = true; failures = fs } ∷ rest) ≡ found_by fs (findings rest)
    go [] = refl
    go (f ∷ fs) = refl

-- a begin finds what the past says
pub begin_finds : (s : Setup) (k : ChainKept) (past : Past) (replies : List ReplyContent) (o : Opened) → ChainStands k past replies → Sound past k.states → map kind_of k.states ≡ parts_in_force s past → AreTyped (row_of o.cmd).params o.args
    → KnowsArgs (born_in (births (history past))) o.args → findings (checked s past (call_of o)) ≡ found_by (loader_failures (alive (history past)) (row_of o.cmd).params o.args) (walk_of k o).found
begin_finds s k past replies o st so parts typed ks =
    found_all past (call_of o) (parts_checked past (call_of o) 1 (parts_in_force s past))
    ∙ ap (λ x. found_by (loader_failures (alive (history past)) (row_of o.cmd).params o.args) x)
    (ap (λ ps. findings (parts_checked past (call_of o) 1 ps)) (sym parts) ∙ sym (walk_well k past replies o st so typed ks).found)

-- and what is kept then says the same as the past with it
pub begin_stands : (s : Setup) (k : ChainKept) (past : Past) (replies replies2 : List ReplyContent) (e : BeginEvent) (o : Opened) (reports : List Report) → ChainStands k past replies → Sound past k.states → map kind_of k.states ≡ parts_in_force s past
    → AreTyped (row_of o.cmd).params o.args → KnowsArgs (born_in (births (history past))) o.args → o.stop ≡ (findings (checked s past (call_of o))).stop → before_call o replies2 ≡ replies
    → ChainStands (after_begin k (loader_failures (alive (history past)) (row_of o.cmd).params o.args) o) (Began e o reports ∷ past) replies2
begin_stands s k past replies replies2 e o reports st so parts typed ks stop_is back = go o.refused refl (is_failing (loader_failures (alive (history past)) (row_of o.cmd).params o.args)) refl
  where
    stop_by : (u : Bool) → is_failing (loader_failures (alive (history past)) (row_of o.cmd).params o.args) ≡ u
        → o.stop ≡ (cond u (record { reports = at_place 0 (loader_failures (alive (history past)) (row_of o.cmd).params o.args); stop = Some 0 }) (walk_of k o).found).stop
    stop_by u e2 =
        stop_is ∙ (ap (λ (x : Findings). x.stop) (begin_finds s k past replies o st so parts typed ks)
        ∙ ap (λ (b : Bool). (cond b (record { reports = at_place 0 (loader_failures (alive (history past)) (row_of o.cmd).params o.args); stop = Some 0 }) (walk_of k o).found).stop) e2)

    below_loader : (j : ℕ) → 1 ≤ j → nat_le j 0 ≡ false
    below_loader j l = at (nat_le j 0) refl
      where
        at : (t : Bool) → nat_le j 0 ≡ t → t ≡ false
        at true e2 = let m : j ≤ 0 = leb-true j 0 e2 in absurd (omega (arith, m, l))
        at false e2 = refl

    go : (r : Bool) → o.refused ≡ r → (u : Bool) → is_failing (loader_failures (alive (history past)) (row_of o.cmd).params o.args) ≡ u
        → ChainStands (cond (o.refused || is_failing (loader_failures (alive (history past)) (row_of o.cmd).params o.args)) (after_none k o) (after_walk k o (walk_of k o))) (Began e o reports ∷ past) replies2
    go true p u q =
        subst (λ (r : Bool). ChainStands (cond (r || is_failing (loader_failures (alive (history past)) (row_of o.cmd).params o.args)) (after_none k o) (after_walk k o (walk_of k o))) (Began e o reports ∷ past) replies2) (sym p)
        (begins_none k past replies replies2 e o reports st (λ j l. ap (λ t. not t && option_map_or (nat_le j) o.stop true) p) (λ r n. let bad : true ≡ false = sym p ∙ r in cc) back)
    go false p true q =
        subst (λ (r : Bool). ChainStands (cond (r || is_failing (loader_failures (alive (history past)) (row_of o.cmd).params o.args)) (after_none k o) (after_walk k o (walk_of k o))) (Began e o reports ∷ past) replies2) (sym p)
        (subst (λ (u : Bool). ChainStands (cond u (after_none k o) (after_walk k o (walk_of k o))) (Began e o reports ∷ past) replies2) (sym q)
        (begins_none k past replies replies2 e o reports st
        (λ j l. ap (λ t. not t && option_map_or (nat_le j) o.stop true) p ∙ (ap (λ (x : Option ℕ). option_map_or (nat_le j) x true) (stop_by true q) ∙ below_loader j l))
        (λ r n. let bad : Some 0 ≡ None = sym (stop_by true q) ∙ n in cc) back))
    go false p false q =
        subst (λ (r : Bool). ChainStands (cond (r || is_failing (loader_failures (alive (history past)) (row_of o.cmd).params o.args)) (after_none k o) (after_walk k o (walk_of k o))) (Began e o reports ∷ past) replies2) (sym p)
        (subst (λ (u : Bool). ChainStands (cond u (after_none k o) (after_walk k o (walk_of k o))) (Began e o reports ∷ past) replies2) (sym q) (begins_walked k past replies replies2 e o reports st so typed ks p (stop_by false q) back))

-- ---- the chain comes in force

pub fresh_kinds : (o : Opened) (ps : List PartKind) → map kind_of (map (fresh_of o) ps) ≡ ps
fresh_kinds o [] = refl
fresh_kinds o (part.Threads ∷ ps) = ap (λ ks. part.Threads ∷ ks) (fresh_kinds o ps)
fresh_kinds o (part.Lifetimes ∷ ps) = ap (λ ks. part.Lifetimes ∷ ks) (fresh_kinds o ps)
fresh_kinds o (part.Unique ∷ ps) = ap (λ ks. part.Unique ∷ ks) (fresh_kinds o ps)

-- nothing lives where nothing was born
none_alive : (h : History) → births h ≡ [] → (x : Object) → alive h x ≡ false
none_alive h none x = alive-born h x ∙ ap (λ bs. born_in bs x && not (is_ended h x)) none

-- the fresh parts have seen the call that makes the instance, and nothing else that counts
pub fresh_mirror : (past : Past) (o : Opened) (f : Object → ℕ) → IsFirst past o → ((k : ℕ) → KnowsAll (born_in (births (history past))) (seen_past past k)) → ((k : ℕ) → births (seen_past past k) ≡ births (history past)) → (ps : List PartKind) (k : ℕ) → 1 ≤ k
    → StatesMirror (births (history past)) (retrievals past) f (seen_past past) k (map (fresh_of o) ps)
fresh_mirror past o f first known born ps k from = go ps k from
  where
    bs0 : (j : ℕ) → births (renamed (token_in (births (history past))) (seen_past past j)) ≡ []
    bs0 j = births-renamed (born_in (births (history past))) (token_in (births (history past))) (one_to_one (births (history past))) (seen_past past j) (known j)
        ∙ (ap (map (renamed_birth (token_in (births (history past))))) (born j ∙ first.born))

    lives0 : (j : ℕ) (x : Object) → false ≡ alive (renamed (token_in (births (history past))) (seen_past past j)) x
    lives0 j x = sym (none_alive (renamed (token_in (births (history past))) (seen_past past j)) (bs0 j) x)

    ids0 : (g : Object → ℕ) → Mirrors ℕ is_wrapped g (births (history past)) (retrievals past) no_ids
    ids0 g = record { entries = sym (ap (λ bs. entries_from is_wrapped g 1 bs) first.born); kept = sym (ap (λ rs. kept_from is_wrapped (births (history past)) rs) first.retrieved) }

    go : (xs : List PartKind) (j : ℕ) → 1 ≤ j → StatesMirror (births (history past)) (retrievals past) f (seen_past past) j (map (fresh_of o) xs)
    go [] j l = tt
    go (part.Threads ∷ xs) j l = (record { born = sym (bs0 j); living = lives0 j; opens = sym (first.opens j l) }, go xs (j + 1) (omega (arith, l)))
    go (part.Lifetimes ∷ xs) j l = (record { born = sym (bs0 j); living = lives0 j }, go xs (j + 1) (omega (arith, l)))
    go (part.Unique ∷ xs) j l = (ids0 (handle_above (map (fresh_of o) xs) (births (history past)) f), go xs (j + 1) (omega (arith, l)))

-- the call stood above each part as it was told, without arguments
fresh_forms : (o : Opened) (bs : List Birth) (ps : List PartKind) (k : ℕ) → o.args ≡ [] → ((j : ℕ) → reaches o j ≡ true) → AreForms (reaches o) (form_by (number_in bs) (base_of o) o.args) k (map (fresh_of o) ps) (map (λ _. base_of o) ps)
fresh_forms o bs [] k none all = tt
fresh_forms o bs (p ∷ ps) k none all = (all k, sym (ap (λ as0. form_by (number_in bs) (base_of o) as0) none), fresh_forms o bs ps (k + 1) none all)

-- with no parts there are no forms
forms_nil : (reach : ℕ → Bool) (form : CallContent) (k : ℕ) (forms : List CallContent) → AreForms reach form k [] forms → forms ≡ []
forms_nil reach form k [] a = refl
forms_nil reach form k (c ∷ forms) a = absurd a

-- the open calls stand with the fresh parts
fresh_held : (o : Opened) (bs : List Birth) (ps : List PartKind) (held : List Held) (opens : List Opened) → AllByRecursion (IsBeside o) opens → HeldStand [] bs held opens → HeldStand (map (fresh_of o) ps) bs (map (with_forms o ps) held) opens
fresh_held o bs ps [] [] beside s = tt
fresh_held o bs ps [] (x ∷ opens) beside s = absurd s
fresh_held o bs ps (h ∷ held) [] beside s = absurd s
fresh_held o bs ps (h ∷ held) (x ∷ opens) beside s = go (x.thread == o.thread) refl (fresh_held o bs ps held opens beside.1 s.3)
  where
    same_test : (u : Bool) → (x.thread == o.thread) ≡ u → (h.thread == o.thread) ≡ u
    same_test u e = ap (λ (n : ℕ). n == o.thread) s.0 ∙ e

    go : (u : Bool) → (x.thread == o.thread) ≡ u → HeldStand (map (fresh_of o) ps) bs (map (with_forms o ps) held) opens → HeldStand (map (fresh_of o) ps) bs (with_forms o ps h ∷ map (with_forms o ps) held) (x ∷ opens)
    go true e rest =
        let mine = beside.0.own e in
        subst (λ (u : Bool). HeldStand (map (fresh_of o) ps) bs (cond u (record { thread = h.thread; forms = map (λ _. base_of o) ps; bottom = h.bottom }) h ∷ map (with_forms o ps) held) (x ∷ opens)) (sym (same_test true e)) (
          s.0,
          subst (λ (y : Opened). AreForms (reaches y) (form_by (number_in bs) (base_of y) y.args) 1 (map (fresh_of o) ps) (map (λ _. base_of o) ps)) (sym mine.0) (fresh_forms o bs ps 1 (ap (λ (y : Opened). y.args) (sym mine.0) ∙ mine.1) (λ j. ap (λ (y : Opened). reaches y j) (sym mine.0) ∙ mine.2 j)),
          s.2,
          rest,
        )
    go false e rest =
        subst (λ (u : Bool). HeldStand (map (fresh_of o) ps) bs (cond u (record { thread = h.thread; forms = map (λ _. base_of o) ps; bottom = h.bottom }) h ∷ map (with_forms o ps) held) (x ∷ opens)) (sym (same_test false e)) (
          s.0,
          subst (λ fs. AreForms (reaches x) (form_by (number_in bs) (base_of x) x.args) 1 (map (fresh_of o) ps) fs) (sym (forms_nil (reaches x) (form_by (number_in bs) (base_of x) x.args) 1 h.forms s.1))
              (no_forms (reaches x) (form_by (number_in bs) (base_of x) x.args) 1 (map (fresh_of o) ps) (beside.0.other e)),
          s.2,
          rest,
        )

-- so the chain that comes in force stands
pub start_stands : (k : ChainKept) (past : Past) (replies : List ReplyContent) (o : Opened) (ps : List PartKind) → ChainStands k past replies → k.states ≡ [] → IsFirst past o → AllByRecursion (IsBeside o) (open_calls past) → ((j : ℕ) → KnowsAll (born_in (births (history past))) (seen_past past j))
    → ((j : ℕ) → births (seen_past past j) ≡ births (history past)) → is_guarded (map (fresh_of o) ps) ≡ true → ChainStands (with_parts k o ps) past replies
start_stands k past replies o ps st none first beside known born guard = record {
  guard = guard;
  mirror = fresh_mirror past o (first_of (valued past replies)) first known born ps 1 (omega arith);
  ids = st.ids;
  handed = λ x b. let none_born : false ≡ true = ap (λ bs. born_in bs x) (sym first.born) ∙ b in cc none_born;
  held = fresh_held o (births (history past)) ps k.held (open_calls past) beside (subst (λ states. HeldStand states (births (history past)) k.held (open_calls past)) none st.held);
  sole = st.sole;
}
