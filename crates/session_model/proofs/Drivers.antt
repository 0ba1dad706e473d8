-- The drivers of an open call stay those behind its first argument.
use Rattle.std.proofs.Common.{◌≡◌, ℕ, Bool, true, false, not, cond, ◌&&◌, Option, Some, None, List, [], ◌∷◌, ◌++◌, map, refl, sym, ◌∙◌, ap}
use Rattle.std.specs.Prelude.{find}
use Rattle.std.specs.List.{filter, range_with_len, AllByRecursion}
use Rattle.std.specs.Option.{option_map_or}
use Rattle.command_tables.specs.declared.types.ObjectType.TheVariants as ty
use Rattle.command_tables.specs.Tests.{same_type}
use Rattle.trace_format.specs.Content.{TraceEvent, Begin, Return}
use Rattle.object_model.specs.declared.Object.{Object}
use Rattle.object_model.specs.declared.Routed.{Routed}
use Rattle.object_model.specs.History.{Birth, born_in, births}
use Rattle.object_model.specs.Objects.{first_in, same}
use Rattle.object_model.specs.Renaming.{KnowsArgs}
use Rattle.object_model.specs.Routes.{driver_in, is_routed, receivers}
use Rattle.object_model.proofs.Renaming.{IsKnown, first_in-known}
use Rattle.replay_model.specs.declared.Born.{Born}
use Rattle.replay_model.specs.Setup.{Setup}
use Rattle.replay_model.specs.Past.{Opened, Returned, history, is_new, is_of, is_skipped, open_calls, routed, routed_by, routed_of}
use Rattle.replay_model.specs.Judged.{begun_of, judged, made_of, returned_by}
use Rattle.layer_model.proofs.Same.{and_true, same_is}
use Rattle.chain_model.specs.Gaps.{may_all_come, may_come}
use Rattle.chain_model.specs.Tokens.{token_in}
use Rattle.chain_model.proofs.Accepted.{IsAccepted, accepted_judged}
use Rattle.chain_model.proofs.Eventing.{all_append, all_filter}
use Rattle.chain_model.proofs.OneToOne.{one_to_one}
use Rattle.chain_model.proofs.Shapes.{AreShaped}

-- the drivers of a call that isn't skipped are those behind its first argument
abbrev pub HasReceivers : ℕ → List Routed → Opened → Type 0
HasReceivers drivers routes o = is_skipped o ≡ false → o.drivers ≡ receivers drivers routes (first_in o.args 0)

-- further routes of other objects change no driver
driver_other : (more : List Routed) (x : Object) → AllByRecursion (λ r. same r.object x ≡ false) more → driver_in more x ≡ 0
driver_other [] x others = refl
driver_other (r ∷ more) x others = ap (λ t. option_map_or (λ (y : Routed). y.driver) (cond t (Some r) (find (λ (y : Routed). same y.object x) more)) 0) others.0 ∙ driver_other more x others.1

driver_more : (rs more : List Routed) (x : Object) → AllByRecursion (λ r. same r.object x ≡ false) more → driver_in (rs ++ more) x ≡ driver_in rs x
driver_more [] more x others = driver_other more x others
driver_more (r ∷ rs) more x others = go (same r.object x) (driver_more rs more x others)
  where
    go : (t : Bool) → driver_in (rs ++ more) x ≡ driver_in rs x
        → option_map_or (λ (y : Routed). y.driver) (cond t (Some r) (find (λ (y : Routed). same y.object x) (rs ++ more))) 0 ≡ option_map_or (λ (y : Routed). y.driver) (cond t (Some r) (find (λ (y : Routed). same y.object x) rs)) 0
    go true ih = refl
    go false ih = ih

-- what is new is another object than what was born
new_other : (bs : List Birth) (o : Opened) (made : List Born) (x : Object) → born_in bs x ≡ true → AllByRecursion (λ r. same r.object x ≡ false) (routed_by bs o made)
new_other bs o [] x born = tt
new_other bs o (b ∷ made) x born = go (is_routed b.object.ty) (born_in bs b.object) refl (new_other bs o made x born)
  where
    apart : born_in bs b.object ≡ false → same b.object x ≡ false
    apart none = at (same b.object x) refl
      where
        at : (t : Bool) → same b.object x ≡ t → t ≡ false
        at true e = let one : b.object ≡ x = same_is b.object x e in let no : true ≡ false = sym born ∙ (ap (born_in bs) (sym one) ∙ none) in cc
        at false e = refl

    go : (u t : Bool) → born_in bs b.object ≡ t → AllByRecursion (λ r. same r.object x ≡ false) (routed_by bs o made)
        → AllByRecursion (λ r. same r.object x ≡ false) (map (routed_of o) (cond (u && not t) (b ∷ filter (λ (y : Born). is_routed y.object.ty && is_new bs y) made) (filter (λ (y : Born). is_routed y.object.ty && is_new bs y) made)))
    go true true e rest = rest
    go true false e rest = (apart e, rest)
    go false t e rest = rest

receivers_more : (drivers : ℕ) (bs : List Birth) (rs : List Routed) (o : Opened) (made : List Born) (first : Option Object) → IsKnown (born_in bs) first → receivers drivers (rs ++ routed_by bs o made) first ≡ receivers drivers rs first
receivers_more drivers bs rs o made None known = refl
receivers_more drivers bs rs o made (Some x) known =
    ap (λ (d : ℕ). cond (same_type x.ty ty.Instance) (range_with_len 0 drivers) (d ∷ [])) (driver_more rs (routed_by bs o made) x (new_other bs o made x known))

-- so it is for all open calls
all_receive : (drivers : ℕ) (bs : List Birth) (rs : List Routed) (o : Opened) (made : List Born) (opens : List Opened) → AllByRecursion (λ x. KnowsArgs (born_in bs) x.args) opens → AllByRecursion (HasReceivers drivers rs) opens
    → AllByRecursion (HasReceivers drivers (rs ++ routed_by bs o made)) opens
all_receive drivers bs rs o made [] known all = tt
all_receive drivers bs rs o made (x ∷ opens) known all = (
  λ goes. all.0 goes ∙ sym (receivers_more drivers bs rs o made (first_in x.args 0) (first_in-known (born_in bs) (token_in bs) (one_to_one bs) x.args known.0 0)),
  all_receive drivers bs rs o made opens known.1 all.1,
)

pub open_receive : (s : Setup) (events : List TraceEvent) → may_all_come events ≡ true → AreShaped events → AllByRecursion (HasReceivers s.drivers (routed (judged s events))) (open_calls (judged s events))
open_receive s [] ok shaped = tt
open_receive s (Begin b ∷ before) ok shaped =
    let o : Opened = (begun_of s (judged s before) b).opened in
    all_append (HasReceivers s.drivers (routed (judged s before))) (open_calls (judged s before)) (o ∷ []) (open_receive s before (and_true (may_all_come before) (may_come before (Begin b)) ok).0 shaped.1)
    (λ goes. ap (λ t. cond t [] (receivers s.drivers (routed (judged s before)) (first_in o.args 0))) goes, tt)
open_receive s (Return t ∷ before) ok shaped =
    let earlier : may_all_come before ≡ true = (and_true (may_all_come before) (may_come before (Return t)) ok).0 in
    go (accepted_judged s before earlier shaped.1) (open_receive s before earlier shaped.1) (find (is_of t) (open_calls (judged s before)))
  where
    go : IsAccepted before (judged s before) → AllByRecursion (HasReceivers s.drivers (routed (judged s before))) (open_calls (judged s before)) → (f : Option Opened)
        → AllByRecursion (HasReceivers s.drivers (routed (returned_by s (judged s before) f))) (open_calls (returned_by s (judged s before) f))
    go a all None = all
    go a all (Some o) =
        all_filter (HasReceivers s.drivers (routed (Returned o (made_of s (judged s before) o) ∷ judged s before))) (λ c. not (is_of o.thread c)) (open_calls (judged s before))
        (all_receive s.drivers (births (history (judged s before))) (routed (judged s before)) o (made_of s (judged s before) o) (open_calls (judged s before)) a.knowing.opens all)
