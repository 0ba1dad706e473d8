-- Where names come from, one result after another.
use Rattle.std.proofs.Common.{◌≡◌, ◌∙◌, ◌==◌, ℕ, zero, suc, Bool, true, false, cond, ◌&&◌, ◌||◌, Option, Some, None, List, [], ◌∷◌, ◌++◌, take, refl, sym, ap, eqb-true}
use Rattle.std.specs.Prelude.{Vec, option_and_then, slice_get}
use Rattle.std.specs.List.{list_any}
use Rattle.std.proofs.lemmas.List.Folds.{list_any-append}
use Rattle.trace_format.specs.declared.event.Name.{Name}
use Rattle.trace_format.specs.Accepting.{same_name}
use Rattle.trace_format.specs.Content.{BeginEvent, Begin, Return}
use Rattle.command_tables.specs.Table.{row_of}
use Rattle.stream_model.specs.declared.heading.Heading.{Heading}
use Rattle.stream_model.specs.Devices.{has_result, makes_devices, owner_written, written_device}
use Rattle.stream_model.specs.FileLines.{FileLine, EventLine, HeadingLine}
use Rattle.stream_model.specs.Order.{events, stream, stream_of_name}
use Rattle.threaded_replay.specs.declared.origin.Origin.{Origin}
use Rattle.threaded_replay.specs.Origins.{OriginsOf, PutResults, device_in, origin_in, origin_of}

-- two tests in a row
both : (a b : Bool) → a && b ≡ true → (a ≡ true) × (b ≡ true)
both true b h = (refl, h)
both false b h = cc

-- two names that are one
pub one_name : (a b : Name) → same_name a b ≡ true → a ≡ b
one_name a b h =
    let is = both (a.thread == b.thread) (a.number == b.number) h in
    ap (λ t. record { thread = t; number = a.number }) (eqb-true a.thread b.thread is.0) ∙ ap (λ k. record { thread = b.thread; number = k }) (eqb-true a.number b.number is.1)

-- the results so far and one more
take_next : {X : Type 0} (xs : List X) (k : ℕ) (x : X) → slice_get xs k ≡ Some x → take (suc k) xs ≡ take k xs ++ x ∷ []
take_next [] k x is = cc
take_next (y ∷ xs) zero x is = let same : y ≡ x = cc in ap (λ z. z ∷ []) same
take_next (y ∷ xs) (suc k) x is = ap (λ zs. y ∷ zs) (take_next xs k x is)

-- one result more
pub put_next : {A : Type 0} (old mid new : List (Vec (Option Origin) A)) (results : List Name) (k : ℕ) (r : Name) (is_device : Bool) (owner : Option Name) (stream : Option ℕ) → PutResults old mid (take k results) (origin_of is_device owner stream)
    → ((n : Name) → origin_in new n ≡ cond (same_name r n) (Some (origin_of is_device owner stream r)) (origin_in mid n)) → slice_get results k ≡ Some r → PutResults old new (take (suc k) results) (origin_of is_device owner stream)
put_next old mid new results k r is_device owner stream so_far put at n =
    put n ∙ (go (same_name r n) refl ∙ ap (λ b. cond b (Some (origin_of is_device owner stream n)) (origin_in old n)) (sym any))
  where
    before : Bool
    before = list_any (λ q. same_name q n) (take k results)

    any : list_any (λ q. same_name q n) (take (suc k) results) ≡ (before || (same_name r n || false))
    any = ap (list_any (λ q. same_name q n)) (take_next results k r at) ∙ list_any-append (λ q. same_name q n) (take k results) (r ∷ [])

    either : (x : Bool) → Some (origin_of is_device owner stream n) ≡ cond (x || true) (Some (origin_of is_device owner stream n)) (origin_in old n)
    either true = refl
    either false = refl

    neither : (x : Bool) → cond x (Some (origin_of is_device owner stream n)) (origin_in old n) ≡ cond (x || false) (Some (origin_of is_device owner stream n)) (origin_in old n)
    neither true = refl
    neither false = refl

    go : (x : Bool) → same_name r n ≡ x → cond x (Some (origin_of is_device owner stream r)) (origin_in mid n) ≡ cond (before || (x || false)) (Some (origin_of is_device owner stream n)) (origin_in old n)
    go true is = ap (λ m. Some (origin_of is_device owner stream m)) (one_name r n is) ∙ either before
    go false is = so_far n ∙ neither before

-- ---- one line more

-- behind a heading names come from where they did
pub origins_headed : {A : Type 0} (rows : List (Vec (Option Origin) A)) (lines : List FileLine) (h : Heading) → OriginsOf rows lines → OriginsOf rows (HeadingLine h ∷ lines)
origins_headed rows lines h is = record { devices = is.devices; streams = is.streams }

-- so they do behind a return
pub origins_ended : {A : Type 0} (rows : List (Vec (Option Origin) A)) (lines : List FileLine) (thread : ℕ) → OriginsOf rows lines → OriginsOf rows (EventLine (Return thread) ∷ lines)
origins_ended rows lines thread is = record { devices = is.devices; streams = is.streams }

-- behind a begin its results come from the call
pub origins_begun : {A : Type 0} (old new : List (Vec (Option Origin) A)) (lines : List FileLine) (b : BeginEvent) → OriginsOf old lines
    → PutResults old new b.results (origin_of (makes_devices b.cmd) (option_and_then (device_in old) (owner_written b.args (row_of b.cmd).effect)) (stream lines)) → OriginsOf new (EventLine (Begin b) ∷ lines)
origins_begun old new lines b is put = record {
  devices = λ n. ap (λ c. option_and_then (λ o. o.device) c) (put n) ∙ device_at (origin_in old n) n (has_result b n) (makes_devices b.cmd) (is.devices n);
  streams = λ n. ap (λ c. option_and_then (λ o. o.stream) c) (put n) ∙ stream_at (origin_in old n) n (has_result b n) (is.streams n);
}
  where
    owner : Option Name
    owner = owner_written b.args (row_of b.cmd).effect

    origin : Name → Origin
    origin = origin_of (makes_devices b.cmd) (option_and_then (device_in old) owner) (stream lines)

    owner_same : (o : Option Name) → option_and_then (device_in old) o ≡ option_and_then (written_device (events lines)) o
    owner_same None = refl
    owner_same (Some q) = is.devices q

    device_at : (c : Option Origin) (n : Name) (given makes : Bool) → option_and_then (λ o. o.device) c ≡ written_device (events lines) n
        → option_and_then (λ o. o.device) (cond given (Some (origin_of makes (option_and_then (device_in old) owner) (stream lines) n)) c)
        ≡ cond (given && makes) (Some n) (option_and_then (written_device (events lines)) (cond given owner (Some n)))
    device_at c n true true same = refl
    device_at c n true false same = owner_same owner
    device_at c n false makes same = same

    stream_at : (c : Option Origin) (n : Name) (given : Bool) → option_and_then (λ o. o.stream) c ≡ stream_of_name lines n
        → option_and_then (λ o. o.stream) (cond given (Some (origin n)) c) ≡ cond given (stream lines) (stream_of_name lines n)
    stream_at c n true same = refl
    stream_at c n false same = same
