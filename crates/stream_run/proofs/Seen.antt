-- The tokens of workers that are done, at the logs of their devices.
use Rattle.std.proofs.Common.{◌≡◌, ◌∙◌, ◌+◌, ℕ, zero, suc, Bool, true, false, cond, Option, Some, None, Global, Vec, List, [], ◌∷◌, ◌++◌, length, map, refl, sym, ap, subst, arith}
use Rattle.std.specs.Prelude.{option_and_then, position, slice_get}
use Rattle.std.specs.List.{AllByRecursion, IsDistinct, flat_map, position_from, slice_index_or}
use Rattle.std.specs.Option.{option_map, option_map_or}
use Rattle.std.proofs.lemmas.Bool.{eq-eqb}
use Rattle.std.proofs.lemmas.Iterator.Adapters.{position_from-zero}
use Rattle.std.proofs.lemmas.List.{length-map}
use Rattle.std.proofs.lemmas.Map.Keys.{IsDistinct-head, IsDistinct-tail}
use Rattle.std.proofs.lemmas.Option.{slice_get-map}
use Rattle.chain_model.proofs.Eventing.{all_append}
use Rattle.stream_log.specs.declared.entry.Entry.{Entry}
use Rattle.stream_log.specs.declared.line.Line.{Line}
use Rattle.stream_log.specs.Log.{SeenView, seen_view}
use Rattle.trace_format.specs.declared.event.Name.{Name}
use Rattle.trace_format.specs.Accepting.{same_name}
use Rattle.model_driver.specs.Logs.{Log}
use Rattle.model_driver.specs.Seats.{SeatRoom}
use Rattle.merge_model.specs.Planned.{PlannedCall}
use Rattle.merge_facts.specs.Logged.{lines_of_thread}
use Rattle.device_shard.specs.Closing.{IsSeenIn, closed_in, closed_list}
use Rattle.device_shard.specs.Sets.{devices_of, log_of, logs_of}
use Rattle.device_shard.specs.Shards.{ShardName}
use Rattle.device_shard.proofs.Lists.{all_at, one}
use Rattle.device_shard.proofs.Taken.{to_place}
use Rattle.stream_workers.specs.declared.worker.Worker.{Worker}
use Rattle.stream_workers.specs.Held.{GoesOn, Holds, list_at, token_at}
use Rattle.stream_workers.specs.Work.{Course}
use Rattle.stream_workers.proofs.Holding.{goes_same, lines_past}
use Rattle.stream_run.specs.Spending.{tokens_held}
use Rattle.stream_run.specs.Working.{AllDone}
use Rattle.stream_run.proofs.Done.{Sees}

-- ---- the tokens in slots

-- what holds of the token in each slot holds of all
pub held_by_slots : (P : Name × SeenView → Type 0) (devices : List Name) (slots : List (Option SeenView)) → ((k : ℕ) (d : Name) (t : SeenView) → slice_get devices k ≡ Some d → token_at slots k ≡ Some t → P (d, t)) → AllByRecursion P (tokens_held devices slots)
held_by_slots P [] slots each = tt
held_by_slots P (d ∷ devices) [] each = tt
held_by_slots P (d ∷ devices) (None ∷ slots) each = held_by_slots P devices slots (λ k e t at there. each (suc k) e t at there)
held_by_slots P (d ∷ devices) (Some t ∷ slots) each = (each zero d t refl refl, held_by_slots P devices slots (λ k e u at there. each (suc k) e u at there))

-- and what holds of all holds of each
pub held_in_slot : (P : Name × SeenView → Type 0) (devices : List Name) (slots : List (Option SeenView)) (k : ℕ) (d : Name) (t : SeenView) → AllByRecursion P (tokens_held devices slots) → slice_get devices k ≡ Some d → token_at slots k ≡ Some t → P (d, t)
held_in_slot P [] slots k d t all at there = cc at
held_in_slot P (e ∷ devices) [] zero d t all at there = cc there
held_in_slot P (e ∷ devices) [] (suc k) d t all at there = cc there
held_in_slot P (e ∷ devices) (None ∷ slots) zero d t all at there = cc there
held_in_slot P (e ∷ devices) (None ∷ slots) (suc k) d t all at there = held_in_slot P devices slots k d t all at there
held_in_slot P (e ∷ devices) (Some u ∷ slots) zero d t all at there =
    subst (λ (x : Name). P (x, t)) (one e d at) (subst (λ (s : SeenView). P (e, s)) (one u t there) all.0)
held_in_slot P (e ∷ devices) (Some u ∷ slots) (suc k) d t all at there = held_in_slot P devices slots k d t all.1 at there

-- ---- places

name_self : (n : Name) → same_name n n ≡ true
name_self n = rw (eq-eqb n.thread n.thread refl, eq-eqb n.number n.number refl) refl

placed_from : (devices : List Name) (i k : ℕ) (d : Name) → IsDistinct same_name devices → slice_get devices k ≡ Some d → position_from (λ (x : Name). same_name x d) i devices ≡ Some (i + k)
placed_from [] i k d apart at = cc at
placed_from (x ∷ devices) i zero d apart at =
    let same : same_name x d ≡ true = subst (λ (y : Name). same_name x y ≡ true) (one x d at) (name_self x) in
    let here : i ≡ i + 0 = omega arith in
    ap (λ (b : Bool). cond b (Some i) (position_from (λ (y : Name). same_name y d) (i + 1) devices)) same ∙ ap (λ (n : ℕ). Some n) here
placed_from (x ∷ devices) i (suc k) d apart at =
    let other : same_name x d ≡ false = all_at (λ (y : Name). same_name x y ≡ false) devices k d (IsDistinct-head same_name x devices apart) at in
    let there : i + 1 + k ≡ i + suc k = omega arith in
    ap (λ (b : Bool). cond b (Some i) (position_from (λ (y : Name). same_name y d) (i + 1) devices)) other
    ∙ (placed_from devices (i + 1) k d (IsDistinct-tail same_name x devices apart) at ∙ ap (λ (n : ℕ). Some n) there)

none_more : (k : ℕ) → 0 + k ≡ k
none_more k = omega arith

pub placed : (devices : List Name) (k : ℕ) (d : Name) → IsDistinct same_name devices → slice_get devices k ≡ Some d → position (λ (x : Name). same_name x d) devices ≡ Some k
placed devices k d apart at = position_from-zero (λ (x : Name). same_name x d) devices ∙ (placed_from devices 0 k d apart at ∙ ap (λ (n : ℕ). Some n) (none_more k))

-- the name of a plan at the place of its device
name_there : (names : List ShardName) (k : ℕ) (d : Name) → slice_get (devices_of names) k ≡ Some d → (n : ShardName) × (slice_get names k ≡ Some n) × (d ≡ n.plan.device)
name_there [] k d at = cc at
name_there (n ∷ names) zero d at = (n, refl, cc at)
name_there (n ∷ names) (suc k) d at = name_there names k d at

none_beside : {X Y : Type 0} (xs : List X) (ys : List Y) (k : ℕ) → length xs ≡ length ys → slice_get xs k ≡ None → slice_get ys k ≡ None
none_beside [] [] k count none = refl
none_beside [] (y ∷ ys) k count none = absurd (omega (arith, count))
none_beside (x ∷ xs) [] k count none = absurd (omega (arith, count))
none_beside (x ∷ xs) (y ∷ ys) zero count none = cc none
none_beside (x ∷ xs) (y ∷ ys) (suc k) count none = none_beside xs ys k (omega (arith, count)) none

-- what stands at a place
read_some : {X : Type 0} (xs : List X) (k : ℕ) (x d : X) → slice_get xs k ≡ Some x → slice_index_or xs k d ≡ x
read_some [] k x d at = cc at
read_some (y ∷ xs) zero x d at = one y x at
read_some (y ∷ xs) (suc k) x d at = read_some xs k x d at

read_none : {X : Type 0} (xs : List X) (k : ℕ) (d : X) → slice_get xs k ≡ None → slice_index_or xs k d ≡ d
read_none [] k d at = refl
read_none (y ∷ xs) zero d at = cc at
read_none (y ∷ xs) (suc k) d at = read_none xs k d at

-- ---- each token is of its device's log

own_log : (names : List ShardName) (thread : ℕ) (slots : List (Option SeenView)) (made : List ℕ) → IsDistinct same_name (devices_of names) → Holds names thread [] slots made → AllByRecursion (λ (t : Name × SeenView). log_of names t.0 ≡ Some t.1.log) (tokens_held (devices_of names) slots)
own_log names thread slots made apart holds =
    held_by_slots (λ (t : Name × SeenView). log_of names t.0 ≡ Some t.1.log) (devices_of names) slots (
    λ k d t at there.
    let n = name_there names k d at in
    let held = holds.each k n.0 n.1 in
    let token : seen_view n.0.log thread held.0 ≡ t = one (seen_view n.0.log thread held.0) t (sym held.1 ∙ there) in
    let log : slice_get (logs_of names) k ≡ Some t.log = slice_get-map (λ (m : ShardName). m.log) names k ∙ (ap (option_map (λ (m : ShardName). m.log)) n.1 ∙ ap (λ (s : SeenView). Some s.log) token) in
    to_place (logs_of names) (position (λ (x : Name). same_name x d) (devices_of names)) k t.log (placed (devices_of names) k d apart at) log
    )

pub own_logs : {S : Type 0} (room : S → SeatRoom) (log : S → Log) (c : Course) (devices : List Name) (calls : List (List PlannedCall)) (old new : List (Worker S)) → AllDone room log c calls old new → IsDistinct same_name devices → devices ≡ devices_of c.names
    → AllByRecursion (λ (t : Name × SeenView). log_of c.names t.0 ≡ Some t.1.log) (flat_map (λ (w : Worker S). tokens_held devices w.tokens.items) new)
own_logs room log c devices [] [] [] done apart are = tt
own_logs room log c devices [] [] (v ∷ new) done apart are = absurd done
own_logs room log c devices [] (w ∷ old) new done apart are = absurd done
own_logs room log c devices (cs ∷ calls) [] new done apart are = absurd done
own_logs room log c devices (cs ∷ calls) (w ∷ old) [] done apart are = absurd done
own_logs {S} room log c devices (cs ∷ calls) (w ∷ old) (v ∷ new) done apart are =
    let P : Name × SeenView → Type 0 = λ (t : Name × SeenView). log_of c.names t.0 ≡ Some t.1.log in
    let there : IsDistinct same_name (devices_of c.names) = subst (λ (ds : List Name). IsDistinct same_name ds) are apart in
    let here : AllByRecursion P (tokens_held devices v.tokens.items) = subst (λ (ds : List Name). AllByRecursion P (tokens_held ds v.tokens.items)) (sym are) (own_log c.names v.thread v.tokens.items v.made.items there done.0.ready.holds) in
    all_append P (tokens_held devices v.tokens.items) (flat_map (λ (u : Worker S). tokens_held devices u.tokens.items) new) here (own_logs room log c devices calls old new done.1 apart are)

-- ---- what a token has seen is what its log has of the thread, and the log goes on from it

sees : (names : List ShardName) (thread : ℕ) (slots : List (Option SeenView)) (made : List ℕ) (closed : List (Name × Vec Entry Global)) → IsDistinct same_name (devices_of names) → Holds names thread [] slots made
    → map (λ (x : Name × Vec Entry Global). x.0) closed ≡ devices_of names → AllByRecursion (λ (t : Name × SeenView). IsSeenIn (closed_in closed t.0) t.1) (tokens_held (devices_of names) slots)
    → (k : ℕ) → (lines_of_thread thread (slice_index_or (map (closed_list {A = Global}) closed) k []) ≡ lines_of_thread thread (list_at slots k)) × GoesOn (list_at slots k) (slice_index_or (map (closed_list {A = Global}) closed) k [])
sees names thread slots made closed apart holds devices past k = go (slice_get names k) refl
  where
    lists : List (List Line)
    lists = map (closed_list {A = Global}) closed

    many : length lists ≡ length names
    many =
        let seen = length-map closed (closed_list {A = Global}) in
        let first = length-map closed (λ (x : Name × Vec Entry Global). x.0) in
        let same = ap (λ (ds : List Name). length ds) devices in
        let own = length-map names (λ (n : ShardName). n.plan.device) in
        omega (arith, seen, first, same, own)

    go : (o : Option ShardName) → slice_get names k ≡ o → (lines_of_thread thread (slice_index_or lists k []) ≡ lines_of_thread thread (list_at slots k)) × GoesOn (list_at slots k) (slice_index_or lists k [])
    go None at =
        let log : slice_index_or lists k [] ≡ [] = read_none lists k [] (none_beside names lists k (sym many) at) in
        let slot : slice_get slots k ≡ None = none_beside names slots k (sym holds.slots_are) at in
        let list : list_at slots k ≡ [] = ap (λ (o : Option (Option SeenView)). option_map_or (λ (s : SeenView). s.list) (option_and_then (λ (x : Option SeenView). x) o) []) slot in
        (ap (lines_of_thread thread) (log ∙ sym list), goes_same (list_at slots k) (slice_index_or lists k []) (log ∙ sym list))
    go (Some n) at =
        let held = holds.each k n at in
        let device : slice_get (devices_of names) k ≡ Some n.plan.device = slice_get-map (λ (m : ShardName). m.plan.device) names k ∙ ap (option_map (λ (m : ShardName). m.plan.device)) at in
        let seen : IsSeenIn (closed_in closed n.plan.device) (seen_view n.log thread held.0) =
        held_in_slot (λ (t : Name × SeenView). IsSeenIn (closed_in closed t.0) t.1) (devices_of names) slots k n.plan.device (seen_view n.log thread held.0) past device held.1 in
        let place : position (λ (x : Name). same_name x n.plan.device) (map (λ (x : Name × Vec Entry Global). x.0) closed) ≡ Some k =
        ap (position (λ (x : Name). same_name x n.plan.device)) devices ∙ placed (devices_of names) k n.plan.device apart device in
        let whole : slice_get lists k ≡ Some seen.whole = sym (ap (option_and_then (slice_get lists)) place) ∙ seen.is in
        let list : list_at slots k ≡ held.0 = ap (λ (o : Option SeenView). option_map_or (λ (s : SeenView). s.list) o []) held.1 in
        let behind = seen.past in (
          ap (lines_of_thread thread) (read_some lists k seen.whole [] whole) ∙ (lines_past thread held.0 seen.whole behind ∙ ap (lines_of_thread thread) (sym list)),
          (behind.0, read_some lists k seen.whole [] whole ∙ (behind.1 ∙ ap (λ (es : List Line). es ++ behind.0) (sym list))),
        )

first_of : {X : Type 0} (P : X → Type 0) (xs ys : List X) → AllByRecursion P (xs ++ ys) → AllByRecursion P xs
first_of P [] ys all = tt
first_of P (x ∷ xs) ys all = (all.0, first_of P xs ys all.1)

rest_of : {X : Type 0} (P : X → Type 0) (xs ys : List X) → AllByRecursion P (xs ++ ys) → AllByRecursion P ys
rest_of P [] ys all = all
rest_of P (x ∷ xs) ys all = rest_of P xs ys all.1

pub all_see : {S : Type 0} (room : S → SeatRoom) (log : S → Log) (c : Course) (devices : List Name) (closed : List (Name × Vec Entry Global)) (calls : List (List PlannedCall)) (old new : List (Worker S)) → AllDone room log c calls old new → IsDistinct same_name devices
    → devices ≡ devices_of c.names → map (λ (x : Name × Vec Entry Global). x.0) closed ≡ devices_of c.names
    → AllByRecursion (λ (t : Name × SeenView). IsSeenIn (closed_in closed t.0) t.1) (flat_map (λ (w : Worker S). tokens_held devices w.tokens.items) new) → AllByRecursion (Sees (map (closed_list {A = Global}) closed)) new
all_see room log c devices closed [] [] [] done apart are named past = tt
all_see room log c devices closed [] [] (v ∷ new) done apart are named past = absurd done
all_see room log c devices closed [] (w ∷ old) new done apart are named past = absurd done
all_see room log c devices closed (cs ∷ calls) [] new done apart are named past = absurd done
all_see room log c devices closed (cs ∷ calls) (w ∷ old) [] done apart are named past = absurd done
all_see {S} room log c devices closed (cs ∷ calls) (w ∷ old) (v ∷ new) done apart are named past =
    let P : Name × SeenView → Type 0 = λ (t : Name × SeenView). IsSeenIn (closed_in closed t.0) t.1 in
    let there : IsDistinct same_name (devices_of c.names) = subst (λ (ds : List Name). IsDistinct same_name ds) are apart in
    let own = first_of P (tokens_held devices v.tokens.items) (flat_map (λ (u : Worker S). tokens_held devices u.tokens.items) new) past in
    let rest = rest_of P (tokens_held devices v.tokens.items) (flat_map (λ (u : Worker S). tokens_held devices u.tokens.items) new) past in
    let here = subst (λ (ds : List Name). AllByRecursion P (tokens_held ds v.tokens.items)) are own in
    (sees c.names v.thread v.tokens.items v.made.items closed there done.0.ready.holds named here, all_see room log c devices closed calls old new done.1 apart are named rest)
