-- The number of a call tells whether it is on a device.
use Rattle.std.proofs.Common.{◌≡◌, ◌==◌, ℕ, Option, Some, None, List, [], ◌∷◌, refl}
use Rattle.std.specs.Prelude.{option_map, slice_get}
use Rattle.std.specs.List.{AllByRecursion, IsDistinct, cons_option}
use Rattle.trace_format.specs.declared.event.Name.{Name}
use Rattle.trace_format.specs.Accepting.{same_name}
use Rattle.trace_format.specs.Content.{TraceEvent, Begin, Return}
use Rattle.stream_model.specs.Order.{device_named, same_device}
use Rattle.merge_model.specs.Planned.{PlannedCall, calls_planned, number_among}
use Rattle.merge_model.proofs.Numbered.{number_same}

-- whether a call's number is this one tells whether it is on the device
abbrev pub Tells : (Name → Option Name) → ℕ → Name → PlannedCall → Type 0
Tells device_of k device c = (c.place == k) ≡ same_device (device_named device_of c.begin.cmd c.begin.args) (Some device)

pub all_tell : (device_of : Name → Option Name) (devices : List Name) (k : ℕ) (device : Name) → IsDistinct same_name devices → slice_get devices k ≡ Some device
    → (es : List TraceEvent) → AllByRecursion (Tells device_of k device) (calls_planned device_of devices es)
all_tell device_of devices k device apart there [] = tt
all_tell device_of devices k device apart there (Return t ∷ es) = all_tell device_of devices k device apart there es
all_tell device_of devices k device apart there (Begin b ∷ es) =
    put (number_among devices on) (number_same devices k device apart there on) (all_tell device_of devices k device apart there es)
  where
    on : Option Name
    on = device_named device_of b.cmd b.args

    put : (o : Option ℕ) → ((n : ℕ) → o ≡ Some n → (n == k) ≡ same_device on (Some device)) → AllByRecursion (Tells device_of k device) (calls_planned device_of devices es)
        → AllByRecursion (Tells device_of k device) (cons_option (option_map (λ (n : ℕ). record { place = n; begin = b }) o) (calls_planned device_of devices es))
    put None tells rest = rest
    put (Some n) tells rest = (tells n refl, rest)
