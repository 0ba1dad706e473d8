use Rattle.std.proofs.Common.{◌≡◌, ◌∙◌, sym, ap, map, not, Bool, true, false, cond, ◌||◌, Option, Some, None, is_some, List, refl}
use Rattle.std.specs.Option.{is_none}
use Rattle.trace_format.specs.declared.event.Name.{Name}
use Rattle.trace_format.specs.Content.{Arg, arg_content}
use Rattle.stream_model.specs.declared.refusal.Refusal.TheVariants as refusal
use Rattle.stream_model.specs.Order.{any_name, is_of_another_device}
use Rattle.threaded_replay.specs.Origins.{device_in}
use Rattle.threaded_replay.proofs.stream_rules.call_refusal.Goals as goal

-- a call that may stand in its stream but for its devices
by_devices : (none kept other crosses last : Bool) → none ≡ false → kept ≡ false → other ≡ false → crosses ≡ last
    → cond last (Some refusal.CrossDevice) None ≡ cond none (Some refusal.NoDevice) (cond (kept || other) (Some refusal.NotInStream) (cond crosses (Some refusal.CrossDevice) None))
by_devices true kept other crosses last a b c d = cc
by_devices false true other crosses last a b c d = cc
by_devices false false true crosses last a b c d = cc
by_devices false false false true true a b c d = refl
by_devices false false false false false a b c d = refl
by_devices false false false true false a b c d = cc
by_devices false false false false true a b c d = cc

-- a device that is there
there : (named device : Option Name) (none : Bool) → device ≡ named → is_some device ≡ not none → none ≡ false → is_none named ≡ false
there named device none same is found = ap is_none (sym same) ∙ (ap not is ∙ ap (λ b. not (not b)) found)

-- whether an argument is of another device than a call names
crossing : (of : Name → Option Name) (named device : Option Name) (args : List Arg) (crosses : Bool) → device ≡ named → crosses ≡ any_name (is_of_another_device of device) args → any_name (is_of_another_device of named) args ≡ crosses
crossing of named device args crosses same is = ap (λ d. any_name (is_of_another_device of d) args) (sym same) ∙ sym is

pub returns-then-take_from_another_device : goal.returns-then-take_from_another_device
returns-then-take_from_another_device c =
    by_devices _ _ _ _ true (there _ c.device_named-device.result c.is_none.result c.device_named-device.ensures c.is_none.ensures c.if-is_none.false) (sym c.if-is_kept_out.ensures) (sym c.if-take_from_another_stream.ensures)
    (crossing (device_in c.args.origins.now.rows.items) _ c.device_named-device.result (map arg_content c.args.args.now) true c.device_named-device.ensures c.if-take_from_another_device.ensures)

pub returns : goal.returns
returns c =
    by_devices _ _ _ _ false (there _ c.device_named-device.result c.is_none.result c.device_named-device.ensures c.is_none.ensures c.if-is_none.false) (sym c.if-is_kept_out.ensures) (sym c.if-take_from_another_stream.ensures)
    (crossing (device_in c.args.origins.now.rows.items) _ c.device_named-device.result (map arg_content c.args.args.now) false c.device_named-device.ensures c.if-take_from_another_device.ensures)
