-- The table of written devices, one event after another.
use Rattle.std.proofs.Common.{◌≡◌, ◌∙◌, ◌==◌, ◌+◌, ◌<◌, ℕ, suc, Bool, true, false, cond, ◌&&◌, Option, Some, None, List, [], ◌∷◌, ◌++◌, take, drop, length, map, get_or, refl, sym, ap, subst, eqb-true, append_assoc, append-nil, add-one}
use Rattle.std.specs.Prelude.{Vec, option_and_then, reverse}
use Rattle.std.specs.List.{flat_map}
use Rattle.std.proofs.Math.Seq.{drop-cons}
use Rattle.std.proofs.lemmas.Grind.{flat_map-append}
use Rattle.std.proofs.lemmas.List.{map-append, reverse-append, take_more}
use Rattle.trace_format.specs.declared.event.Event.{Event}
use Rattle.trace_format.specs.declared.event.Name.{Name}
use Rattle.trace_format.specs.Accepting.{same_name}
use Rattle.trace_format.specs.Content.{Arg, BeginEvent, TraceEvent, Begin, Return, content}
use Rattle.command_tables.specs.Table.{row_of}
use Rattle.stream_model.specs.Devices.{has_result, makes_devices, owner_written, written_device}
use Rattle.stream_plans.specs.Contents.{stream_part}
use Rattle.stream_plans.specs.Tables.{Knows, Learns, PutResults, device_in, device_of_result}

-- the elements so far, with one more
pub one_more : {X : Type 0} (xs : List X) (i : ℕ) (x : X) → i < length xs → x ≡ get_or xs i x → take (i + 1) xs ≡ take i xs ++ x ∷ []
one_more xs i x l at = take_more xs i x l ∙ ap (λ y. take i xs ++ y ∷ []) (sym at)

-- the elements that are left
pub left_over : {X : Type 0} (xs : List X) (i : ℕ) (x : X) → i < length xs → x ≡ get_or xs i x → drop i xs ≡ x ∷ drop (i + 1) xs
left_over xs i x l at = rw add-one (drop-cons xs i x l ∙ ap (λ y. y ∷ drop (suc i) xs) (sym at))

-- two tests in a row
both : (a b : Bool) → a && b ≡ true → (a ≡ true) × (b ≡ true)
both true b h = (refl, h)
both false b h = cc

-- two names that are one
pub one_name : (a b : Name) → same_name a b ≡ true → a ≡ b
one_name a b h =
    let is = both (a.thread == b.thread) (a.number == b.number) h in
    ap (λ t. record { thread = t; number = a.number }) (eqb-true a.thread b.thread is.0) ∙ ap (λ k. record { thread = b.thread; number = k }) (eqb-true a.number b.number is.1)

-- ---- one event more

-- a return gives no name
pub learned_return : {A : Type 0} (rows : List (Vec (Option Name) A)) (thread : ℕ) → Learns rows rows (Return thread ∷ [])
learned_return rows thread = record { learns = λ before k. record { devices = k.devices } }

-- a begin gives its results
pub learned_begin : {A : Type 0} (old new : List (Vec (Option Name) A)) (b : BeginEvent)
    → PutResults old new b.results (device_of_result (makes_devices b.cmd) (option_and_then (device_in old) (owner_written b.args (row_of b.cmd).effect))) → Learns old new (Begin b ∷ [])
learned_begin old new b put = record { learns = λ before k. record { devices = λ n. put n ∙ device_at before k n (has_result b n) (makes_devices b.cmd) } }
  where
    owner : Option Name
    owner = owner_written b.args (row_of b.cmd).effect

    owner_same : (before : List TraceEvent) → Knows old before → (o : Option Name) → option_and_then (device_in old) o ≡ option_and_then (written_device before) o
    owner_same before k None = refl
    owner_same before k (Some q) = k.devices q

    device_at : (before : List TraceEvent) → Knows old before → (n : Name) (given makes : Bool)
        → cond given (cond makes (Some n) (option_and_then (device_in old) owner)) (device_in old n) ≡ cond (given && makes) (Some n) (option_and_then (written_device before) (cond given owner (Some n)))
    device_at before k n true true = refl
    device_at before k n true false = owner_same before k owner
    device_at before k n false makes = k.devices n

-- a begin, by its arguments and results
pub learned_call : {A : Type 0} (old new : List (Vec (Option Name) A)) (e : TraceEvent) (b : BeginEvent) (args : List Arg) (results : List Name) → e ≡ Begin b → args ≡ b.args → results ≡ b.results
    → PutResults old new results (device_of_result (makes_devices b.cmd) (option_and_then (device_in old) (owner_written args (row_of b.cmd).effect))) → Learns old new (e ∷ [])
learned_call old new e b args results is same_args same_results put =
    subst (λ x. Learns old new (x ∷ [])) (sym is)
    (learned_begin old new b
    (subst (λ ys. PutResults old new b.results (device_of_result (makes_devices b.cmd) (option_and_then (device_in old) (owner_written ys (row_of b.cmd).effect)))) same_args
    (subst (λ rs. PutResults old new rs (device_of_result (makes_devices b.cmd) (option_and_then (device_in old) (owner_written args (row_of b.cmd).effect)))) same_results put)))

-- ---- events after events

-- no event changes nothing
pub learned_none : {A : Type 0} (rows : List (Vec (Option Name) A)) → Learns rows rows []
learned_none rows = record { learns = λ before k. k }

joined : (xs ys before : List TraceEvent) → reverse (xs ++ ys) ++ before ≡ reverse ys ++ (reverse xs ++ before)
joined xs ys before = ap (λ zs. zs ++ before) (reverse-append xs ys) ∙ append_assoc (reverse ys) (reverse xs) before

pub learned_both : {A : Type 0} (a b c : List (Vec (Option Name) A)) (xs ys : List TraceEvent) → Learns a b xs → Learns b c ys → Learns a c (xs ++ ys)
learned_both a b c xs ys p q = record { learns = λ before k. subst (Knows c) (sym (joined xs ys before)) (q.learns (reverse xs ++ before) (p.learns before k)) }

-- one event more of several
pub learned_next : {A : Type 0} (a b c : List (Vec (Option Name) A)) (xs : List Event) (k : ℕ) (x : Event) → k < length xs → x ≡ get_or xs k x → Learns a b (map content (take k xs)) → Learns b c (content x ∷ [])
    → Learns a c (map content (take (k + 1) xs))
learned_next a b c xs k x less at p q =
    subst (Learns a c) (sym (ap (map content) (one_more xs k x less at) ∙ map-append content (take k xs) (x ∷ []))) (learned_both a b c (map content (take k xs)) (content x ∷ []) p q)

-- the events of streams with one stream more
pub streams_next : {A : Type 0} (xs : List (ℕ × Vec Event A)) (k : ℕ) (x : ℕ × Vec Event A) → k < length xs → x ≡ get_or xs k x
    → flat_map (λ s. s.events) (map (stream_part {A = A}) (take (k + 1) xs)) ≡ flat_map (λ s. s.events) (map (stream_part {A = A}) (take k xs)) ++ map content x.1.items
streams_next {A = A} xs k x less at =
    ap (λ ys. flat_map (λ s. s.events) (map (stream_part {A = A}) ys)) (one_more xs k x less at)
    ∙ (ap (flat_map (λ s. s.events)) (map-append (stream_part {A = A}) (take k xs) (x ∷ []))
    ∙ (flat_map-append (λ s. s.events) (map (stream_part {A = A}) (take k xs)) (stream_part x ∷ [])
    ∙ ap (λ ys. flat_map (λ s. s.events) (map (stream_part {A = A}) (take k xs)) ++ ys) (append-nil (map content x.1.items))))

pub learned_stream : {A B : Type 0} (a b c : List (Vec (Option Name) B)) (xs : List (ℕ × Vec Event A)) (k : ℕ) (x : ℕ × Vec Event A) → k < length xs → x ≡ get_or xs k x
    → Learns a b (flat_map (λ s. s.events) (map (stream_part {A = A}) (take k xs))) → Learns b c (map content x.1.items) → Learns a c (flat_map (λ s. s.events) (map (stream_part {A = A}) (take (k + 1) xs)))
learned_stream {A = A} a b c xs k x less at p q =
    subst (Learns a c) (sym (streams_next xs k x less at)) (learned_both a b c (flat_map (λ s. s.events) (map (stream_part {A = A}) (take k xs))) (map content x.1.items) p q)

-- ---- the whole file

-- before any event no name has a device
pub knows_nothing : {A : Type 0} (rows : List (Vec (Option Name) A)) → rows ≡ [] → Knows rows []
knows_nothing {A = A} rows none = subst (λ rs. Knows rs []) (sym none) (record { devices = λ n. refl })

pub knows_all : {A : Type 0} (none a b c : List (Vec (Option Name) A)) (xs ys zs : List TraceEvent) → none ≡ [] → Learns none a xs → Learns a b ys → Learns b c zs → Knows c (reverse (xs ++ (ys ++ zs)))
knows_all none a b c xs ys zs empty p q r =
    subst (Knows c) (append-nil (reverse (xs ++ (ys ++ zs)))) ((learned_both none a c xs (ys ++ zs) p (learned_both a b c ys zs q r)).learns [] (knows_nothing none empty))
