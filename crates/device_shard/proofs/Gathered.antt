-- What a set is made of, by one plan more, and its locks one by one.
use Rattle.std.proofs.Common.{◌≡◌, ◌≤◌, ◌<◌, ◌+◌, ℕ, zero, suc, Bool, true, false, cond, not, nat_eq, Option, Some, None, List, [], ◌∷◌, ◌++◌, length, map, take, drop, get_or, reverse, refl, sym, ◌∙◌, ap, subst, arith, add-one, append_assoc, length-drop, ne_eqb}
use Rattle.std.specs.Prelude.{Contains, Vec, nat_lt, slice_get}
use Rattle.std.specs.List.{AllByRecursion, IsDistinct}
use Rattle.std.proofs.lemmas.Bool.{eq-eqb, eqb-false, le-ltb, lt-ltb}
use Rattle.std.proofs.lemmas.Grind.{flat_map-append}
use Rattle.std.proofs.lemmas.List.{append-nil, drop_all, drop_more, length-reverse, map-append, nil_from_length, reverse-append, take_more}
use Rattle.std.proofs.lemmas.Map.Keys.{IsDistinct-head, IsDistinct-tail}
use Rattle.std.proofs.lemmas.Option.{get_or_from_slice_get, slice_get_within}
use Rattle.atomic_table.specs.Seated.{TableId}
use Rattle.stream_log.specs.Log.{OwnerView, SeenView, given, owner_view, seen_view, without}
use Rattle.trace_format.specs.declared.event.Event.{Event}
use Rattle.trace_format.specs.declared.event.Name.{Name}
use Rattle.layer_model.specs.Walks.{PartState, Threads, Lifetimes, Unique}
use Rattle.replay_model.specs.Setup.{Setup}
use Rattle.command_tables.specs.Calls.{ReplyContent}
use Rattle.trace_format.specs.Content.{TraceEvent}
use Rattle.stream_model.specs.FileParts.{StreamPart, parts}
use Rattle.stream_model.specs.Plans.{DevicePlan}
use Rattle.chain_session.specs.declared.kept.Kept.{Kept}
use Rattle.chain_session.specs.Standing.{Holds, StandsFor}
use Rattle.shard_model.specs.Replays.{Start}
use Rattle.shard_start.specs.Cutting.{AreCutFrom, start_of}
use Rattle.shard_start.specs.Starting.{CanStart}
use Rattle.walk_bounds.specs.Bounds.{AllLight, HaveBorn}
use Rattle.device_shard.specs.declared.gathering.SetParts.{SetParts}
use Rattle.device_shard.specs.declared.fresh.Fresh.{Fresh}
use Rattle.device_shard.specs.Gathering.{AreFresh, IsGathered, IsFresh, fresh_kept}
use Rattle.device_shard.specs.Making.{AreLogs, AreNamedBy, IsLogFor, IsOwnerFor, IsStartOf, tokens_given, tokens_of}
use Rattle.device_shard.specs.Plans.{stream_planned}
use Rattle.device_shard.specs.Rooms.{IsIdle}
use Rattle.device_shard.specs.Sets.{devices_of, logs_of}
use Rattle.device_shard.specs.Shards.{IsShard, ShardName, threads_of}
use Rattle.device_shard.proofs.Lists.{drop_here, one}
use Rattle.device_shard.proofs.Measured.{mapped}

-- ---- a session from which plans can start

born_more : (n m : ℕ) (states : List PartState) → n ≤ m → HaveBorn n states → HaveBorn m states
born_more n m [] le born = tt
born_more n m (Threads s ∷ states) le born = let here : length s.births ≤ n = born.0 in (omega (arith, here, le), born_more n m states le born.1)
born_more n m (Lifetimes s ∷ states) le born = born_more n m states le born
born_more n m (Unique s ∷ states) le born = born_more n m states le born

pub is_idle : (k : Option Kept) (plans : List DevicePlan) (held : ℕ) → AreCutFrom k plans → Holds k held → ((kept : Kept) (plans : List DevicePlan) (n : ℕ) (threads : List ℕ) → AreCutFrom (Some kept) plans → AllLight n threads kept.parts.states.kept)
    → ((s : Setup) (kept : Kept) (events : List TraceEvent) (replies : List ReplyContent) → StandsFor s (Some kept) events replies → HaveBorn kept.parts.names.kept.count kept.parts.states.kept) → IsIdle k held
is_idle None plans held cut holds light born = record {
  setup = cut.setup;
  kept = cut.stands.kept;
  shows = cut.stands.shows;
  light = λ x n threads split. subst (AllLight n threads) (sym split.states) tt;
  born = λ x split. subst (HaveBorn held) (sym split.states) tt;
}
is_idle (Some kept) plans held cut holds light born =
    let all = (holds cut.setup cut.stands.kept cut.stands.shows).0 in
    let names = cut.stands.shows.parts.count in
    record {
      setup = cut.setup;
      kept = cut.stands.kept;
      shows = cut.stands.shows;
      light = λ x n threads split. subst (AllLight n threads) (sym split.states) (light kept plans n threads cut);
      born = λ x split. subst (HaveBorn held) (sym split.states)
          (born_more kept.parts.names.kept.count held kept.parts.states.kept (omega (arith, all, names)) (born cut.setup kept (reverse (parts cut.lines).setup) cut.replies cut.stands));
    }

-- ---- names

all_start : (kept : Kept) (plans : List DevicePlan) (names : List ShardName) → AreNamedBy (Some kept) plans names → AllByRecursion (λ (p : DevicePlan). CanStart (start_of kept) p.streams) plans → AllByRecursion (λ (n : ShardName). CanStart n.start n.plan.streams) names
all_start kept [] [] are all = tt
all_start kept [] (n ∷ names) are all = absurd are
all_start kept (p ∷ plans) [] are all = absurd are
all_start kept (p ∷ plans) (n ∷ names) are all =
    (subst (λ (s : Start). CanStart s n.plan.streams) (sym are.0.1) (subst (λ (q : DevicePlan). CanStart (start_of kept) q.streams) (sym are.0.0) all.0), all_start kept plans names are.1 all.1)

-- each plan can be followed from its start
pub can_all : (k : Option Kept) (plans : List DevicePlan) (names : List ShardName) → AreCutFrom k plans → AreNamedBy k plans names
    → ((kept : Kept) (plans : List DevicePlan) → AreCutFrom (Some kept) plans → AllByRecursion (λ (p : DevicePlan). CanStart (start_of kept) p.streams) plans) → AllByRecursion (λ (n : ShardName). CanStart n.start n.plan.streams) names
can_all None [] [] cut are starts = tt
can_all None [] (n ∷ names) cut are starts = absurd are
can_all None (p ∷ plans) [] cut are starts = absurd are
can_all None (p ∷ plans) (n ∷ names) cut are starts = absurd are.0.1
can_all (Some kept) plans names cut are starts = all_start kept plans names are (starts kept plans cut)

many : (k : Option Kept) (plans : List DevicePlan) (names : List ShardName) → AreNamedBy k plans names → length names ≡ length plans
many k [] [] are = refl
many k [] (n ∷ names) are = absurd are
many k (p ∷ plans) [] are = absurd are
many k (p ∷ plans) (n ∷ names) are = ap (λ m. suc m) (many k plans names are.1)

pub as_many : (k : Option Kept) (held : ℕ) (plans : List DevicePlan) (names : List ShardName) → IsIdle k held → AreNamedBy k plans names → length names ≡ length plans
as_many k held plans names idle are = many k plans names are

pub as_many_cut : (k : Option Kept) (plans : List DevicePlan) (names : List ShardName) → AreCutFrom k plans → AreNamedBy k plans names → length names ≡ length plans
as_many_cut k plans names cut are = many k plans names are

-- the name of the plan at a place
pub record NamedAt (k : Option Kept) (names : List ShardName) (i : ℕ) (p : DevicePlan) : Type 0 where
  pub name : ShardName
  pub at : slice_get names i ≡ Some name
  pub plan : name.plan ≡ p
  pub start : IsStartOf k name.start
  pub can : CanStart name.start name.plan.streams

name_at : (k : Option Kept) (plans : List DevicePlan) (names : List ShardName) (i : ℕ) (p : DevicePlan) → AreNamedBy k plans names → AllByRecursion (λ (n : ShardName). CanStart n.start n.plan.streams) names → slice_get plans i ≡ Some p → NamedAt k names i p
name_at k [] names i p are all here = cc here
name_at k (q ∷ plans) [] i p are all here = absurd are
name_at k (q ∷ plans) (n ∷ names) zero p are all here = record { name = n; at = refl; plan = are.0.0 ∙ one q p here; start = are.0.1; can = all.0 }
name_at k (q ∷ plans) (n ∷ names) (suc i) p are all here = let rest = name_at k plans names i p are.1 all.1 here in record { name = rest.name; at = rest.at; plan = rest.plan; start = rest.start; can = rest.can }

pub named_at : (k : Option Kept) (held : ℕ) (plans : List DevicePlan) (names : List ShardName) (i : ℕ) (p : DevicePlan) → IsIdle k held → AreNamedBy k plans names → AllByRecursion (λ (n : ShardName). CanStart n.start n.plan.streams) names → slice_get plans i ≡ Some p
    → NamedAt k names i p
named_at k held plans names i p idle are all here = name_at k plans names i p are all here

pub names_more : (names : List ShardName) (i : ℕ) (n : ShardName) → slice_get names i ≡ Some n → take (i + 1) names ≡ take i names ++ n ∷ []
names_more names i n at = take_more names i n (slice_get_within names i n at) ∙ ap (λ m. take i names ++ m ∷ []) (get_or_from_slice_get names i n n at)

pub names_left : (names : List ShardName) (i : ℕ) (n : ShardName) → slice_get names i ≡ Some n → drop i names ≡ n ∷ drop (i + 1) names
names_left names i n at = drop_here names i n at ∙ ap (λ m. n ∷ drop m names) (sym (add-one i))

-- ---- logs, the last of which comes next

last_first : {X : Type 0} (old new : List X) (x : X) → old ≡ new ++ x ∷ [] → reverse old ≡ x ∷ reverse new
last_first old new x is = ap reverse is ∙ reverse-append new (x ∷ [])

log_there : (n : ShardName) (names : List ShardName) (logs : List (TableId × OwnerView)) → AreLogs (n ∷ names) logs → 0 < length logs
log_there n names [] are = absurd are
log_there n names (l ∷ logs) are = omega arith

pub has_log : (names : List ShardName) (i : ℕ) (n : ShardName) (logs : List (TableId × OwnerView)) → slice_get names i ≡ Some n → AreLogs (drop i names) (reverse logs) → 0 < length logs
has_log names i n logs at are =
    let some : 0 < length (reverse logs) = log_there n (drop (i + 1) names) (reverse logs) (subst (λ ns. AreLogs ns (reverse logs)) (names_left names i n at) are) in
    omega (arith, some, length-reverse logs)

pub next_log : (names : List ShardName) (i : ℕ) (n : ShardName) (old new : List (TableId × OwnerView)) (l : TableId × OwnerView) → slice_get names i ≡ Some n → old ≡ new ++ l ∷ [] → AreLogs (drop i names) (reverse old) → IsLogFor n l × AreLogs (drop (i + 1) names) (reverse new)
next_log names i n old new l at is are = subst (λ ls. AreLogs (n ∷ drop (i + 1) names) ls) (last_first old new l is) (subst (λ ns. AreLogs ns (reverse old)) (names_left names i n at) are)

-- ---- tokens

-- none is taken from threads that are others
without_none : (t : ℕ) (threads : List ℕ) → AllByRecursion (λ y. nat_eq t y ≡ false) threads → without t threads ≡ threads
without_none t [] apart = refl
without_none t (y ∷ threads) apart =
    let off : nat_eq y t ≡ false = ne_eqb y t (λ same. eqb-false t y apart.0 (sym same)) in
    ap (λ (b : Bool). cond (not b) (y ∷ without t threads) (without t threads)) off ∙ ap (λ ts. y ∷ ts) (without_none t threads apart.1)

-- the first of distinct ones is taken
without_first : (t : ℕ) (threads : List ℕ) → IsDistinct nat_eq (t ∷ threads) → without t (t ∷ threads) ≡ threads
without_first t threads apart = ap (λ (b : Bool). cond (not b) (t ∷ without t threads) (without t threads)) (eq-eqb t t refl) ∙ without_none t threads (IsDistinct-head nat_eq t threads apart)

-- the threads of the streams from a place on
abbrev pub threads_from : {A : Type 0} → List (ℕ × Vec Event A) → ℕ → List ℕ
threads_from xs i = threads_of (map stream_planned (drop i xs))

threads_left : {A : Type 0} (xs : List (ℕ × Vec Event A)) (i : ℕ) (x : ℕ × Vec Event A) → i < length xs → x ≡ get_or xs i x → threads_from xs i ≡ x.0 ∷ threads_from xs (i + 1)
threads_left xs i x less is = ap (λ ys. threads_of (map stream_planned ys)) (drop_more xs i x less ∙ ap (λ z. z ∷ drop (i + 1) xs) (sym is))

-- the token of the next thread is held, and when it is given those of the later threads are held
pub record GivesNext {A : Type 0} (xs : List (ℕ × Vec Event A)) (i thread : ℕ) (held : List ℕ) : Type 0 where
  pub has : Contains held thread
  pub rest : without thread held ≡ threads_from xs (i + 1)
  pub distinct : IsDistinct nat_eq (threads_from xs (i + 1))

pub gives_next : {A : Type 0} (xs : List (ℕ × Vec Event A)) (i : ℕ) (x : ℕ × Vec Event A) (held : List ℕ) → i < length xs → x ≡ get_or xs i x → held ≡ threads_from xs i → IsDistinct nat_eq (threads_from xs i) → GivesNext xs i x.0 held
gives_next xs i x held less is all apart =
    let left : threads_from xs i ≡ x.0 ∷ threads_from xs (i + 1) = threads_left xs i x less is in
    let now : IsDistinct nat_eq (x.0 ∷ threads_from xs (i + 1)) = subst (IsDistinct nat_eq) left apart in
    let first : Contains (x.0 ∷ threads_from xs (i + 1)) x.0 = (0, omega arith, refl) in
    record {
      has = subst (λ hs. Contains hs x.0) (sym (all ∙ left)) first;
      rest = ap (without x.0) (all ∙ left) ∙ without_first x.0 (threads_from xs (i + 1)) now;
      distinct = IsDistinct-tail nat_eq x.0 (threads_from xs (i + 1)) now;
    }

-- the tokens that were given so far, with one more
pub tokens_more : {A : Type 0} (device : Name) (log : TableId) (xs : List (ℕ × Vec Event A)) (i : ℕ) (x : ℕ × Vec Event A) (first old new : List (Name × SeenView)) (token : SeenView) → i < length xs → x ≡ get_or xs i x
    → old ≡ first ++ map (λ (s : StreamPart). (device, seen_view log s.thread [])) (map stream_planned (take i xs)) → token ≡ seen_view log x.0 [] → new ≡ old ++ (device, token) ∷ []
    → new ≡ first ++ map (λ (s : StreamPart). (device, seen_view log s.thread [])) (map stream_planned (take (i + 1) xs))
tokens_more device log xs i x first old new token less is so_far here more =
    let seen : StreamPart → Name × SeenView = λ (s : StreamPart). (device, seen_view log s.thread []) in
    let before : List (Name × SeenView) = map seen (map stream_planned (take i xs)) in
    let step : map seen (map stream_planned (take (i + 1) xs)) ≡ before ++ seen (stream_planned x) ∷ [] = ap (map seen) (mapped stream_planned xs i x less is) ∙ map-append seen (map stream_planned (take i xs)) (stream_planned x ∷ []) in
    let one_more : before ++ (device, token) ∷ [] ≡ map seen (map stream_planned (take (i + 1) xs)) = ap (λ (t : SeenView). before ++ (device, t) ∷ []) here ∙ sym step in
    more ∙ (ap (λ ts. ts ++ (device, token) ∷ []) so_far ∙ (append_assoc first before ((device, token) ∷ []) ∙ ap (λ ts. first ++ ts) one_more))

-- an owner that gave a token keeps all but the token
pub given_still : (o p new : OwnerView) (t : ℕ) → o ≡ owner_view p.log p.list o.held p.entries p.results → new ≡ given o t → new ≡ owner_view p.log p.list new.held p.entries p.results
given_still o p new t so_far now =
    let held : new.held ≡ without t o.held = ap (λ (v : OwnerView). v.held) now in
    now ∙ (ap (λ (v : OwnerView). owner_view v.log v.list (without t o.held) v.entries v.results) so_far ∙ ap (λ (hs : List ℕ). owner_view p.log p.list hs p.entries p.results) (sym held))

pub owner_still : (n : ShardName) (o p : OwnerView) → p ≡ owner_view o.log o.list p.held o.entries o.results → IsOwnerFor n o → IsOwnerFor n p
owner_still n o p same owner = record {
  log = ap (λ (v : OwnerView). v.log) same ∙ owner.log;
  list = ap (λ (v : OwnerView). v.list) same ∙ owner.list;
  entries = omega (arith, ap (λ (v : OwnerView). v.entries) same, owner.entries);
  results = omega (arith, ap (λ (v : OwnerView). v.results) same, owner.results);
}

-- ---- one plan more

fresh_push : (counts : TableId) (names : List ShardName) (fresh : List Fresh) (n : ShardName) (f : Fresh) → AreFresh counts names fresh → IsFresh counts n f → AreFresh counts (names ++ n ∷ []) (fresh ++ f ∷ [])
fresh_push counts [] [] n f all here = (here, tt)
fresh_push counts [] (g ∷ fresh) n f all here = absurd all
fresh_push counts (m ∷ names) [] n f all here = absurd all
fresh_push counts (m ∷ names) (g ∷ fresh) n f all here = (all.0, fresh_push counts names fresh n f all.1 here)

tokens_push : (names : List ShardName) (n : ShardName) → tokens_given (names ++ n ∷ []) ≡ tokens_given names ++ tokens_of n
tokens_push names n = flat_map-append tokens_of names (n ∷ []) ∙ ap (λ ts. tokens_given names ++ ts) (append-nil (tokens_of n))

pub gathered_more : (counts : TableId) (names : List ShardName) (n : ShardName) (plan : DevicePlan) (log : TableId) (old new : SetParts) (f : Fresh) → n.plan ≡ plan → log ≡ n.log → IsGathered counts names old → IsFresh counts n f
    → new.devices.items ≡ old.devices.items ++ plan.device ∷ [] → new.logs.items ≡ old.logs.items ++ log ∷ [] → new.tokens.items ≡ old.tokens.items ++ map (λ (s : StreamPart). (plan.device, seen_view log s.thread [])) plan.streams
    → new.shards.items ≡ old.shards.items ++ f ∷ [] → IsGathered counts (names ++ n ∷ []) new
gathered_more counts names n plan log old new f same own gathered fresh devices logs tokens shards =
    let more : List (Name × SeenView) → List (Name × SeenView) = λ ts. ts ++ map (λ (s : StreamPart). (plan.device, seen_view log s.thread [])) plan.streams in
    let alike : map (λ (s : StreamPart). (plan.device, seen_view log s.thread [])) plan.streams ≡ tokens_of n =
    ap (λ (l : TableId). map (λ (s : StreamPart). (plan.device, seen_view l s.thread [])) plan.streams) own ∙ ap (λ (p : DevicePlan). map (λ (s : StreamPart). (p.device, seen_view n.log s.thread [])) p.streams) (sym same) in
    record {
      devices = devices ∙ (ap (λ ds. ds ++ plan.device ∷ []) gathered.devices ∙ (ap (λ (p : DevicePlan). devices_of names ++ p.device ∷ []) (sym same) ∙ sym (map-append (λ (m : ShardName). m.plan.device) names (n ∷ []))));
      logs = logs ∙ (ap (λ ls. ls ++ log ∷ []) gathered.logs ∙ (ap (λ (l : TableId). logs_of names ++ l ∷ []) own ∙ sym (map-append (λ (m : ShardName). m.log) names (n ∷ []))));
      tokens = tokens ∙ (ap more gathered.tokens ∙ (ap (λ ts. tokens_given names ++ ts) alike ∙ sym (tokens_push names n)));
      shards = subst (AreFresh counts (names ++ n ∷ [])) (sym shards) (fresh_push counts names old.shards.items n f gathered.shards fresh);
    }

-- ---- locks

-- what lies behind the lock with a number is that of the name with the number
pub record IsNext (counts : TableId) (names : List ShardName) (k : ℕ) (new : List Fresh) (f : Fresh) : Type 0 where
  pub name : ShardName
  pub at : slice_get names k ≡ Some name
  pub shard : IsShard name counts (fresh_kept name f)
  pub rest : AreFresh counts (drop (k + 1) names) (reverse new)
  pub there : true ≡ nat_lt k (length names)

first_at : (names : List ShardName) (k : ℕ) (n : ShardName) (rest : List ShardName) → drop k names ≡ n ∷ rest → slice_get names k ≡ Some n
first_at [] zero n rest is = cc is
first_at [] (suc k) n rest is = cc is
first_at (m ∷ names) zero n rest is = cc is
first_at (m ∷ names) (suc k) n rest is = first_at names k n rest is

pub is_next : (counts : TableId) (names : List ShardName) (k : ℕ) (old new : List Fresh) (f : Fresh) → old ≡ new ++ f ∷ [] → AreFresh counts (drop k names) (reverse old) → IsNext counts names k new f
is_next counts names k old new f is all = go (drop k names) refl (subst (AreFresh counts (drop k names)) (last_first old new f is) all)
  where
    go : (left : List ShardName) → drop k names ≡ left → AreFresh counts left (f ∷ reverse new) → IsNext counts names k new f
    go [] same all = absurd all
    go (n ∷ rest) same all =
        let at : slice_get names k ≡ Some n = first_at names k n rest same in
        let left : drop (k + 1) names ≡ rest = let both : n ∷ drop (k + 1) names ≡ n ∷ rest = sym (names_left names k n at) ∙ same in cc both in
        record { name = n; at = at; shard = all.0; rest = subst (λ ns. AreFresh counts ns (reverse new)) (sym left) all.1; there = sym (lt-ltb k (length names) (slice_get_within names k n at)) }

-- past the last lock there is none
pub record IsPastAll (counts : TableId) (names : List ShardName) (k : ℕ) (new : List Fresh) : Type 0 where
  pub rest : AreFresh counts (drop (k + 1) names) (reverse new)
  pub there : false ≡ nat_lt k (length names)

pub is_past : (counts : TableId) (names : List ShardName) (k : ℕ) (old new : List Fresh) → length old ≡ 0 → length new ≡ 0 → AreFresh counts (drop k names) (reverse old) → IsPastAll counts names k new
is_past counts names k old new none left all = go (drop k names) refl (subst (AreFresh counts (drop k names)) (ap reverse (nil_from_length old none)) all)
  where
    go : (rest : List ShardName) → drop k names ≡ rest → AreFresh counts rest [] → IsPastAll counts names k new
    go [] same all =
        let far : length names ≤ k = omega (arith, length-drop k names, ap (λ (ns : List ShardName). length ns) same) in
        let past : drop (k + 1) names ≡ [] = drop_all (k + 1) names (omega (arith, far)) in
        let empty : reverse new ≡ [] = ap reverse (nil_from_length new left) in
        record { rest = subst (λ ns. AreFresh counts ns (reverse new)) (sym past) (subst (AreFresh counts []) (sym empty) tt); there = sym (le-ltb k (length names) far) }
    go (n ∷ rest) same all = absurd all

pub both_same : {X : Type 0} {x y : X} {xs ys : List X} → x ≡ y → xs ≡ ys → x ∷ xs ≡ y ∷ ys
both_same {X} {x} {y} {xs} {ys} first rest = ap (λ z. z ∷ xs) first ∙ ap (λ zs. y ∷ zs) rest
