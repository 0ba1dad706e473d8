-- Where an entry stands among those of its thread's calls.
use Rattle.std.proofs.Common.{◌≡◌, ◌∙◌, ◌==◌, ℕ, suc, Bool, true, false, cond, ◌&&◌, Some, List, [], ◌∷◌, ◌++◌, length, map, refl, sym, ap}
use Rattle.std.specs.Prelude.{filter, reverse, slice_get}
use Rattle.std.specs.List.{AllByRecursion}
use Rattle.std.proofs.lemmas.List.{length-reverse, map-append, reverse-append, reverse-reverse}
use Rattle.stream_log.specs.declared.line.Line.{Line}
use Rattle.trace_format.specs.Content.{Begin, Return}
use Rattle.merge_model.specs.Planned.{events_of_calls}
use Rattle.merge_model.proofs.Parting.{filter_reverse}
use Rattle.log_merge.specs.Halves.{in_log}
use Rattle.log_merge.specs.Merged.{NumberedLine}
use Rattle.merge_facts.specs.Logged.{lines_between, numbered_entries}
use Rattle.device_shard.specs.Shards.{ShardName}
use Rattle.stream_merge.specs.Gathered.{begun_by_thread}
use Rattle.stream_workers.specs.Calls.{IsMade, MadeCall, planned_of}
use Rattle.stream_run.specs.Gathering.{lines_of}
use Rattle.stream_run.specs.Running.{logged_of}

-- the entries of calls
abbrev pub entries_made_of : List MadeCall → List NumberedLine
entries_made_of calls = numbered_entries (map logged_of calls)

-- how many of these begin a call
abbrev pub begins_among : List NumberedLine → ℕ
begins_among xs = length (filter (λ (y : NumberedLine). y.line.begins) xs)

-- ---- a thread's entries, turned

pub map_turned : {X Y : Type 0} (f : X → Y) (xs : List X) → reverse (map f xs) ≡ map f (reverse xs)
map_turned f [] = refl
map_turned f (x ∷ xs) =
    reverse-append (f x ∷ []) (map f xs) ∙ (ap (λ ys. ys ++ f x ∷ []) (map_turned f xs) ∙ (sym (map-append f (reverse xs) (x ∷ [])) ∙ sym (ap (map f) (reverse-append (x ∷ []) xs))))

count_there : (t : ℕ) (back : List NumberedLine) → begun_by_thread t (lines_of back) ≡ begins_among (lines_between t back)
count_there t [] = refl
count_there t (x ∷ back) = go (x.line.thread == t) (count_there t back)
  where
    begun : List Line
    begun = filter (λ (e : Line). e.thread == t && e.begins) (lines_of back)

    own : List NumberedLine
    own = lines_between t back

    both : (v : Bool) → length begun ≡ begins_among own
        → length (cond v (x.line ∷ begun) begun) ≡ length (cond v (x ∷ filter (λ (y : NumberedLine). y.line.begins) own) (filter (λ (y : NumberedLine). y.line.begins) own))
    both true rest = ap suc rest
    both false rest = rest

    go : (u : Bool) → length begun ≡ begins_among own → length (cond (u && x.line.begins) (x.line ∷ begun) begun) ≡ begins_among (cond u (x ∷ own) own)
    go true rest = both x.line.begins rest
    go false rest = rest

-- how many calls a thread has begun is counted from either end
pub count_turned : (t : ℕ) (back : List NumberedLine) → begun_by_thread t (lines_of back) ≡ begins_among (lines_between t (reverse back))
count_turned t back =
    count_there t back
    ∙ sym (ap begins_among (filter_reverse (λ (x : NumberedLine). x.line.thread == t) back)
    ∙ (ap length (filter_reverse (λ (y : NumberedLine). y.line.begins) (lines_between t back)) ∙ length-reverse (filter (λ (y : NumberedLine). y.line.begins) (lines_between t back))))

pub last_turned : (t : ℕ) (back earlier : List NumberedLine) (first : NumberedLine) → lines_between t (reverse back) ≡ earlier ++ first ∷ [] → lines_between t back ≡ first ∷ reverse earlier
last_turned t back earlier first is =
    sym (reverse-reverse (lines_between t back))
    ∙ (ap reverse (sym (filter_reverse (λ (x : NumberedLine). x.line.thread == t) back) ∙ is) ∙ reverse-append earlier (first ∷ []))

-- ---- where an entry stands

-- the entry begins this call
pub record BeginsAt (t : ℕ) (calls : List MadeCall) (pre : List NumberedLine) (x : NumberedLine) (post : List NumberedLine) (m : MadeCall) : Type 0 where
  pub place : slice_get calls (begins_among pre) ≡ Some m
  pub event : slice_get (events_of_calls t (map planned_of calls)) (length pre) ≡ Some (Begin m.begun.begin)
  pub is : x ≡ in_log m.begun.place m.begun.entry
  pub later : List NumberedLine
  pub after : post ≡ in_log m.begun.place m.entry ∷ later

-- the entry is the return of the call that the one before it began
pub record ReturnsAt (t : ℕ) (calls : List MadeCall) (pre : List NumberedLine) (x : NumberedLine) : Type 0 where
  pub event : slice_get (events_of_calls t (map planned_of calls)) (length pre) ≡ Some (Return t)
  pub ends : x.line.begins ≡ false
  pub earlier : List NumberedLine
  pub first : NumberedLine
  pub behind : pre ≡ earlier ++ first ∷ []
  pub same_log : first.log ≡ x.log
  pub begun : first.line.begins ≡ true

pub data Spot (t : ℕ) (calls : List MadeCall) (pre : List NumberedLine) (x : NumberedLine) (post : List NumberedLine) : Type 0 where
  begins : (m : MadeCall) → BeginsAt t calls pre x post m → Spot t calls pre x post
  returns : ReturnsAt t calls pre x → Spot t calls pre x post

begins_more : (a b : NumberedLine) (pre : List NumberedLine) → a.line.begins ≡ true → b.line.begins ≡ false → begins_among (a ∷ b ∷ pre) ≡ suc (begins_among pre)
begins_more a b pre first second =
    let own : List NumberedLine = filter (λ (y : NumberedLine). y.line.begins) pre in
    ap (λ (u : Bool). length (cond u (a ∷ cond b.line.begins (b ∷ own) own) (cond b.line.begins (b ∷ own) own))) first ∙ ap (λ (u : Bool). suc (length (cond u (b ∷ own) own))) second

spot_more : (t : ℕ) (m : MadeCall) (calls : List MadeCall) (a b x : NumberedLine) (pre post : List NumberedLine) → a.line.begins ≡ true → b.line.begins ≡ false → Spot t calls pre x post → Spot t (m ∷ calls) (a ∷ b ∷ pre) x post
spot_more t m calls a b x pre post first second (begins n at) = begins n (record {
  place = ap (slice_get (m ∷ calls)) (begins_more a b pre first second) ∙ at.place;
  event = at.event;
  is = at.is;
  later = at.later;
  after = at.after;
})
spot_more t m calls a b x pre post first second (returns at) = returns (record {
  event = at.event;
  ends = at.ends;
  earlier = a ∷ b ∷ at.earlier;
  first = at.first;
  behind = ap (λ (ys : List NumberedLine). a ∷ b ∷ ys) at.behind;
  same_log = at.same_log;
  begun = at.begun;
})

pub spot : (names : List ShardName) (t : ℕ) (calls : List MadeCall) (pre post : List NumberedLine) (x : NumberedLine) → AllByRecursion (IsMade names t) calls → entries_made_of calls ≡ pre ++ x ∷ post → Spot t calls pre x post
spot names t [] [] post x made is = cc is
spot names t [] (a ∷ pre) post x made is = cc is
spot names t (m ∷ calls) [] post x made is =
    let one : in_log m.begun.place m.begun.entry ≡ x = cc in
    let rest : in_log m.begun.place m.entry ∷ entries_made_of calls ≡ post = cc in
    begins m (record { place = refl; event = refl; is = sym one; later = entries_made_of calls; after = sym rest })
spot names t (m ∷ calls) (a ∷ []) post x made is =
    let one : in_log m.begun.place m.begun.entry ≡ a = cc in
    let here : in_log m.begun.place m.entry ≡ x = cc in
    let own : IsMade names t m = made.0 in
    returns (record {
      event = refl;
      ends = ap (λ (y : NumberedLine). y.line.begins) (sym here) ∙ ap (λ (e : Line). e.begins) own.own;
      earlier = [];
      first = a;
      behind = refl;
      same_log = ap (λ (y : NumberedLine). y.log) (sym one) ∙ ap (λ (y : NumberedLine). y.log) here;
      begun = ap (λ (y : NumberedLine). y.line.begins) (sym one) ∙ ap (λ (e : Line). e.begins) own.begun.own;
    })
spot names t (m ∷ calls) (a ∷ b ∷ pre) post x made is =
    let one : in_log m.begun.place m.begun.entry ≡ a = cc in
    let two : in_log m.begun.place m.entry ≡ b = cc in
    let rest : entries_made_of calls ≡ pre ++ x ∷ post = cc in
    let own : IsMade names t m = made.0 in
    spot_more t m calls a b x pre post
    (ap (λ (y : NumberedLine). y.line.begins) (sym one) ∙ ap (λ (e : Line). e.begins) own.begun.own)
    (ap (λ (y : NumberedLine). y.line.begins) (sym two) ∙ ap (λ (e : Line). e.begins) own.own)
    (spot names t calls pre post x made.1 rest)

-- each call begins once
pub begins_all : (names : List ShardName) (t : ℕ) (calls : List MadeCall) → AllByRecursion (IsMade names t) calls → begins_among (entries_made_of calls) ≡ length calls
begins_all names t [] made = refl
begins_all names t (m ∷ calls) made =
    let own : IsMade names t m = made.0 in
    begins_more (in_log m.begun.place m.begun.entry) (in_log m.begun.place m.entry) (entries_made_of calls) (ap (λ (e : Line). e.begins) own.begun.own) (ap (λ (e : Line). e.begins) own.own)
    ∙ ap suc (begins_all names t calls made.1)
