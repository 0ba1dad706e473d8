-- In the past of an accepted trace an object has at most three owners, one above the other.
use Rattle.std.proofs.Common.{◌≡◌, ◌≤◌, ℕ, ◌+◌, Bool, true, false, Option, Some, None, List, [], ◌∷◌, ◌++◌, length, refl, sym, ◌∙◌, ap, subst, arith, rules}
use Rattle.std.proofs.lemmas.Bool.{leb-true}
use Rattle.std.specs.Prelude.{find, nat_le}
use Rattle.std.specs.Option.{option_map_or}
use Rattle.command_tables.specs.declared.types.CommandId.{CommandId}
use Rattle.command_tables.specs.declared.types.ObjectType.{ObjectType}
use Rattle.command_tables.specs.declared.types.ObjectType.TheVariants as ty
use Rattle.command_tables.specs.declared.types.OwnerOf.{OwnerOf}
use Rattle.command_tables.specs.declared.types.OwnerOf.TheVariants as of
use Rattle.command_tables.specs.declared.types.Effect.{Effect}
use Rattle.command_tables.specs.declared.types.Effect.TheVariants as eff
use Rattle.command_tables.specs.Effects.{type_made}
use Rattle.command_tables.specs.Table.{ParamSpec, row_of}
use Rattle.trace_format.specs.Content.{TraceEvent, Begin, Return}
use Rattle.object_model.specs.declared.Object.{Object}
use Rattle.object_model.specs.declared.Argument.{Argument}
use Rattle.object_model.specs.Objects.{first_in}
use Rattle.object_model.specs.History.{Birth, History, alive, births, births_given, born_in, line_of, owners_given, owners_in}
use Rattle.replay_model.specs.Setup.{Setup}
use Rattle.replay_model.specs.Past.{Opened, history, is_of, objects_of, open_calls}
use Rattle.replay_model.specs.Judged.{judged, made_of, returned_by}
use Rattle.layer_model.proofs.Same.{and_true}
use Rattle.chain_model.specs.Gaps.{IsGapped, may_all_come, may_come}
use Rattle.chain_model.proofs.Accepted.{IsAccepted, accepted_judged}
use Rattle.chain_model.proofs.Eventing.{all_found}
use Rattle.chain_model.proofs.Grammar.{shaped}
use Rattle.chain_model.proofs.Owners.{type_at}
use Rattle.chain_model.proofs.Passing.{AreTyped, owners_by}
use Rattle.chain_model.proofs.Shapes.{AreShaped}
use Rattle.session_tables.specs.Lined.{owners_made}
use Rattle.session_model.specs.Living.{AreOfLiving}
use Rattle.session_model.proofs.Lines.{first_typed, given_as, given_made, owners_fresh, owners_old, unborn_owners}
use Rattle.session_model.proofs.Owning.{AreOfType, MakesWell, makes_well}

-- how many owners an object of a type has at most
abbrev pub limit_of : ObjectType → ℕ
limit_of ty.Instance = 0
limit_of ty.PhysicalDevice = 1
limit_of ty.Device = 1
limit_of ty.Surface = 1
limit_of ty.CommandBuffer = 3
limit_of ty.DescriptorSet = 3
limit_of ty.Image = 3
limit_of _ = 2

-- the owners by a parameter are so few
abbrev is_below : List ParamSpec → OwnerOf → ℕ → Bool
is_below ps of.Nobody n = true
is_below ps (of.Param p) n = option_map_or (λ u. nat_le (limit_of u + 1) n) (type_at ps p) false
is_below ps (of.OwnerOfParam p) n = option_map_or (λ u. nat_le (limit_of u) n) (type_at ps p) false

abbrev are_below : List ParamSpec → Effect → Bool
are_below ps (eff.Create t owner many) = is_below ps owner (limit_of t)
are_below ps (eff.Retrieve t owner many) = is_below ps owner (limit_of t)
are_below ps _ = true

are_below_all : (c : CommandId) → are_below (row_of c).params (row_of c).effect ≡ true
unfolding row_of
are_below_all c = search rules

limit_three : (t : ObjectType) → nat_le (limit_of t) 3 ≡ true
limit_three t = search rules

-- every object has as few owners as its type allows
abbrev pub AreShort : List Birth → Type 0
AreShort bs = (x : Object) → length (owners_in bs x) ≤ limit_of x.ty

owners_short : (bs : List Birth) → AreShort bs → (ps : List ParamSpec) (args : List (List Argument)) → AreTyped ps args → (owner : OwnerOf) (n : ℕ) → is_below ps owner n ≡ true → length (owners_given bs args owner) ≤ n
owners_short bs short ps args typed of.Nobody n fits = omega arith
owners_short bs short ps args typed (of.Param p) n fits = go (first_in args p) refl
  where
    go : (f : Option Object) → first_in args p ≡ f → length (line_of bs f) ≤ n
    go None is = omega arith
    go (Some w) is =
        let has : type_at ps p ≡ Some w.ty = first_typed ps args typed p w is in
        let low : limit_of w.ty + 1 ≤ n = leb-true (limit_of w.ty + 1) n (ap (λ (u : Option ObjectType). option_map_or (λ t. nat_le (limit_of t + 1) n) u false) (sym has) ∙ fits) in
        let few : length (owners_in bs w) ≤ limit_of w.ty = short w in
        omega (arith, low, few)
owners_short bs short ps args typed (of.OwnerOfParam p) n fits = go (first_in args p) refl
  where
    go : (f : Option Object) → first_in args p ≡ f → length (option_map_or (owners_in bs) f []) ≤ n
    go None is = omega arith
    go (Some w) is =
        let has : type_at ps p ≡ Some w.ty = first_typed ps args typed p w is in
        let low : limit_of w.ty ≤ n = leb-true (limit_of w.ty) n (ap (λ (u : Option ObjectType). option_map_or (λ t. nat_le (limit_of t) n) u false) (sym has) ∙ fits) in
        let few : length (owners_in bs w) ≤ limit_of w.ty = short w in
        omega (arith, low, few)

short_by : (bs : List Birth) → AreShort bs → (ps : List ParamSpec) (args : List (List Argument)) → AreTyped ps args → (e : Effect) → are_below ps e ≡ true → (t : ObjectType) → type_made e ≡ Some t → length (owners_by bs args e) ≤ limit_of t
short_by bs short ps args typed (eff.Create u owner many) fits t is =
    let same_t : u ≡ t = cc in subst (λ v. length (owners_given bs args owner) ≤ limit_of v) same_t (owners_short bs short ps args typed owner (limit_of u) fits)
short_by bs short ps args typed (eff.Retrieve u owner many) fits t is =
    let same_t : u ≡ t = cc in subst (λ v. length (owners_given bs args owner) ≤ limit_of v) same_t (owners_short bs short ps args typed owner (limit_of u) fits)
short_by bs short ps args typed eff.None fits t is = cc is
short_by bs short ps args typed (eff.Destroy p) fits t is = cc is
short_by bs short ps args typed (eff.Free p) fits t is = cc is
short_by bs short ps args typed (eff.Reset p) fits t is = cc is

short_returned : (bs : List Birth) (o : Opened) (made : List Object) → AreShort bs → AreTyped (row_of o.cmd).params o.args → AreOfType (row_of o.cmd).effect made → AreShort (bs ++ births_given bs o.args (row_of o.cmd).effect made)
short_returned bs o made short typed types x = go (born_in bs x) refl (born_in given x) refl
  where
    given : List Birth
    given = births_given bs o.args (row_of o.cmd).effect made

    few : (os : List Object) → owners_in (bs ++ births_given bs o.args (row_of o.cmd).effect made) x ≡ os → length os ≤ limit_of x.ty → length (owners_in (bs ++ births_given bs o.args (row_of o.cmd).effect made) x) ≤ limit_of x.ty
    few os is h = subst (λ (ys : List Object). length ys ≤ limit_of x.ty) (sym is) h

    go : (t : Bool) → born_in bs x ≡ t → (u : Bool) → born_in (births_given bs o.args (row_of o.cmd).effect made) x ≡ u → length (owners_in (bs ++ births_given bs o.args (row_of o.cmd).effect made) x) ≤ limit_of x.ty
    go true born u e = few (owners_in bs x) (owners_old bs (births_given bs o.args (row_of o.cmd).effect made) x born) (short x)
    go false fresh true there =
        few (owners_by bs o.args (row_of o.cmd).effect) (owners_fresh bs (births_given bs o.args (row_of o.cmd).effect made) x fresh ∙ (given_as bs o.args (row_of o.cmd).effect made x there).0)
        (short_by bs short (row_of o.cmd).params o.args typed (row_of o.cmd).effect (are_below_all o.cmd) x.ty
        (given_made (λ (y : Object). type_made (row_of o.cmd).effect ≡ Some y.ty) bs o.args (row_of o.cmd).effect made types x there))
    go false fresh false none =
        few [] (owners_fresh bs (births_given bs o.args (row_of o.cmd).effect made) x fresh ∙ unborn_owners (births_given bs o.args (row_of o.cmd).effect made) x none) (omega arith)

-- so it is after every accepted trace
pub short_judged : (s : Setup) (events : List TraceEvent) → may_all_come events ≡ true → AreShaped events → AreShort (births (history (judged s events)))
short_judged s [] ok shaped x = omega arith
short_judged s (Begin b ∷ before) ok shaped x = short_judged s before (and_true (may_all_come before) (may_come before (Begin b)) ok).0 shaped.1 x
short_judged s (Return thread ∷ before) ok shaped x =
    let parts = and_true (may_all_come before) (may_come before (Return thread)) ok in
    go (find (is_of thread) (open_calls (judged s before))) refl (accepted_judged s before parts.0 shaped.1) (short_judged s before parts.0 shaped.1) x
  where
    go : (f : Option Opened) → find (is_of thread) (open_calls (judged s before)) ≡ f → IsAccepted before (judged s before) → AreShort (births (history (judged s before))) → AreShort (births (history (returned_by s (judged s before) f)))
    go None is a short = short
    go (Some o) is a short =
        let m : MakesWell (judged s before) o (made_of s (judged s before) o) = makes_well s before (judged s before) thread o a is in
        short_returned (births (history (judged s before))) o (objects_of (made_of s (judged s before) o)) short m.typed m.types

-- an object has at most three owners
pub three_owners : (s : Setup) (events : List TraceEvent) → IsGapped events → (x : Object) → length (owners_in (births (history (judged s events))) x) ≤ 3
three_owners s events trace x =
    let few : length (owners_in (births (history (judged s events))) x) ≤ limit_of x.ty = short_judged s events trace.each (shaped events trace.grammar) x in
    let low : limit_of x.ty ≤ 3 = leb-true (limit_of x.ty) 3 (limit_three x.ty) in
    omega (arith, few, low)

-- the births of what lives say so too
short_living : (h : History) (ls : List Birth) → AreOfLiving ls h → AreShort (births h) → AreShort ls
short_living h ls living short x = go (alive h x) refl
  where
    go : (t : Bool) → alive h x ≡ t → length (owners_in ls x) ≤ limit_of x.ty
    go true lives = subst (λ (os : List Object). length os ≤ limit_of x.ty) (sym (living.owners x lives)) (short x)
    go false dead = subst (λ (os : List Object). length os ≤ limit_of x.ty) (sym (unborn_owners ls x (living.lives x ∙ dead))) (omega arith)

made_short : (bs : List Birth) → AreShort bs → (ps : List ParamSpec) (args : List (List Argument)) → AreTyped ps args → (e : Effect) → are_below ps e ≡ true → length (owners_made bs args e) ≤ 3
made_short bs short ps args typed (eff.Create t owner many) fits =
    let few = owners_short bs short ps args typed owner (limit_of t) fits in
    let low : limit_of t ≤ 3 = leb-true (limit_of t) 3 (limit_three t) in
    omega (arith, few, low)
made_short bs short ps args typed (eff.Retrieve t owner many) fits =
    let few = owners_short bs short ps args typed owner (limit_of t) fits in
    let low : limit_of t ≤ 3 = leb-true (limit_of t) 3 (limit_three t) in
    omega (arith, few, low)
made_short bs short ps args typed eff.None fits = omega arith
made_short bs short ps args typed (eff.Destroy p) fits = omega arith
made_short bs short ps args typed (eff.Free p) fits = omega arith
made_short bs short ps args typed (eff.Reset p) fits = omega arith

-- what an open call makes has three owners at most
pub three_made : (s : Setup) (events : List TraceEvent) (thread : ℕ) (o : Opened) (ls : List Birth) → IsGapped events → find (is_of thread) (open_calls (judged s events)) ≡ Some o → AreOfLiving ls (history (judged s events))
    → length (owners_made ls o.args (row_of o.cmd).effect) ≤ 3
three_made s events thread o ls trace is living =
    let a = accepted_judged s events trace.each (shaped events trace.grammar) in
    let typed : AreTyped (row_of o.cmd).params o.args = all_found (λ x. AreTyped (row_of x.cmd).params x.args) (is_of thread) (open_calls (judged s events)) o a.args is in
    made_short ls (short_living (history (judged s events)) ls living (short_judged s events trace.each (shaped events trace.grammar))) (row_of o.cmd).params o.args typed (row_of o.cmd).effect (are_below_all o.cmd)
