-- Two pasts that say the same of what is on one device, and what a call there finds and whom it is sent to by either.
use Rattle.std.proofs.Common.{◌≡◌, ◌∙◌, ◌+◌, ◌==◌, ℕ, zero, suc, Bool, true, false, not, cond, ◌&&◌, ◌||◌, Option, Some, None, List, [], ◌∷◌, ◌++◌, map, refl, sym, ap}
use Rattle.std.specs.Prelude.{⊤, filter, find, is_some, slice_get}
use Rattle.std.specs.List.{AllByRecursion, filter_map, list_any, range_with_len}
use Rattle.std.specs.Option.{option_map, option_map_or}
use Rattle.command_tables.specs.declared.types.CommandId.{CommandId}
use Rattle.command_tables.specs.declared.types.ObjectType.TheVariants as ty
use Rattle.command_tables.specs.declared.types.OwnerMark.{OwnerMark}
use Rattle.command_tables.specs.declared.types.OwnerMark.TheVariants as own
use Rattle.command_tables.specs.declared.types.Rule.TheVariants as rule
use Rattle.command_tables.specs.Table.{ParamSpec, row_of}
use Rattle.command_tables.specs.Tests.{same_type}
use Rattle.trace_format.specs.declared.event.Name.{Name}
use Rattle.trace_format.specs.Accepting.{same_name}
use Rattle.trace_format.specs.Content.{Arg, BeginEvent}
use Rattle.object_model.specs.declared.Object.{Object}
use Rattle.object_model.specs.declared.Argument.{Argument}
use Rattle.object_model.specs.declared.Argument.TheVariants.{Null, Unborn, The}
use Rattle.object_model.specs.declared.PartKind.{PartKind}
use Rattle.object_model.specs.declared.PartKind.TheVariants as part
use Rattle.object_model.specs.declared.Routed.{Routed}
use Rattle.object_model.specs.Findings.{at_place, above, is_failing}
use Rattle.object_model.specs.Objects.{are_same, first_in, object_of, objects_in, same}
use Rattle.object_model.specs.History.{Birth, Call, alive, births, born_in, created_in, device_in, owners_in}
use Rattle.object_model.specs.Routes.{driver_in, receivers}
use Rattle.object_model.specs.Rules.{Failure, children_at, ends_parent, failure, failures_at, failures_in, loader_failures, owner_holds, params_from, places_from, unless}
use Rattle.replay_model.specs.declared.Named.{Named}
use Rattle.replay_model.specs.Setup.{Setup}
use Rattle.replay_model.specs.ChainPlaces.{Checked, checked, findings, parts_checked, parts_in_force}
use Rattle.replay_model.specs.Past.{Opened, Past, Retrieval, argument_in, arguments_in, calls_in, history, named, object_in, retrievals, routed}
use Rattle.replay_model.specs.Judged.{begun_of, is_refused}
use Rattle.replay_model.proofs.Alike.{numbered}
use Rattle.layer_model.proofs.Same.{and_true}
use Rattle.device_facts.proofs.Homes.{Held, Homes, OfOwner}
use Rattle.device_facts.proofs.Looks.{any_part, at_found, find_part, name_is}

-- ---- what is said of one object

abbrev pub births_at : Object → List Birth → List Birth
births_at o bs = filter (λ (b : Birth). same b.object o) bs

abbrev pub retrieved_from : Object → List Retrieval → List Retrieval
retrieved_from x rs = filter (λ (r : Retrieval). are_same r.owner (Some x)) rs

abbrev pub routes_at : Object → List Routed → List Routed
routes_at o rs = filter (λ (r : Routed). same r.object o) rs

pub born_alike : (o : Object) (bs cs : List Birth) → births_at o bs ≡ births_at o cs → born_in bs o ≡ born_in cs o
born_alike o bs cs is =
    let p : Birth → Bool = λ (b : Birth). same b.object o in
    sym (any_part p p (λ b e. e) bs) ∙ (ap (list_any p) is ∙ any_part p p (λ b e. e) cs)

pub created_alike : (o : Object) (bs cs : List Birth) → births_at o bs ≡ births_at o cs → created_in bs o ≡ created_in cs o
created_alike o bs cs is =
    let q : Birth → Bool = λ (b : Birth). same b.object o in
    let p : Birth → Bool = λ (b : Birth). same b.object o && b.created in
    sym (any_part p q (λ b e. (and_true (same b.object o) b.created e).0) bs) ∙ (ap (list_any p) is ∙ any_part p q (λ b e. (and_true (same b.object o) b.created e).0) cs)

pub owners_alike : (o : Object) (bs cs : List Birth) → births_at o bs ≡ births_at o cs → owners_in bs o ≡ owners_in cs o
owners_alike o bs cs is =
    let p : Birth → Bool = λ (b : Birth). same b.object o in
    ap (λ (f : Option Birth). option_map_or (λ (b : Birth). b.owners) f []) (sym (find_part p p (λ b e. e) bs) ∙ (ap (find p) is ∙ find_part p p (λ b e. e) cs))

driver_alike : (o : Object) (rs qs : List Routed) → routes_at o rs ≡ routes_at o qs → driver_in rs o ≡ driver_in qs o
driver_alike o rs qs is =
    let p : Routed → Bool = λ (r : Routed). same r.object o in
    ap (λ (f : Option Routed). option_map_or (λ (r : Routed). r.driver) f 0) (sym (find_part p p (λ r e. e) rs) ∙ (ap (find p) is ∙ find_part p p (λ r e. e) qs))

-- ---- names and arguments

-- of each name in these places, and of each in these arguments
abbrev pub Places : (Name → Type 0) → List (Option Name) → Type 0
Places P [] = ⊤
Places P (None ∷ ns) = Places P ns
Places P (Some n ∷ ns) = P n × Places P ns

abbrev pub NamesAre : (Name → Type 0) → List Arg → Type 0
NamesAre P args = AllByRecursion (λ (a : Arg). Places P a.names) args

-- an argument for an object stands for one on the device
abbrev pub At : Homes → Name → Argument → Type 0
At h device Null = ⊤
At h device Unborn = ⊤
At h device (The o) = h.object o ≡ Some device

abbrev pub ArgsAt : Homes → Name → List (List Argument) → Type 0
ArgsAt h device args = AllByRecursion (λ xs. AllByRecursion (At h device) xs) args

-- the second past says of what is on the device what the first does
pub record Beside (h : Homes) (s : Setup) (device : Name) (past alone : Past) : Type 0 where
  pub names : (n : Name) → h.name n ≡ Some device → object_in (named alone) n ≡ object_in (named past) n
  pub born : (o : Object) → h.object o ≡ Some device → births_at o (births (history alone)) ≡ births_at o (births (history past))
  pub living : (o : Object) → h.object o ≡ Some device → alive (history alone) o ≡ alive (history past) o
  pub kept : (x : Object) → h.object x ≡ Some device → retrieved_from x (retrievals alone) ≡ retrieved_from x (retrievals past)
  pub routes : (o : Object) → h.object o ≡ Some device → routes_at o (routed alone) ≡ routes_at o (routed past)
  pub parts : parts_in_force s alone ≡ parts_in_force s past

module _ (h : Homes) (device : Name) where
  pub first_at : (args : List (List Argument)) (p : ℕ) → ArgsAt h device args → OfOwner h (first_in args p) (Some device)
  first_at [] p all = tt
  first_at ([] ∷ args) zero all = tt
  first_at ((Null ∷ xs) ∷ args) zero all = tt
  first_at ((Unborn ∷ xs) ∷ args) zero all = tt
  first_at ((The o ∷ xs) ∷ args) zero all = all.0.0
  first_at (xs ∷ args) (suc p) all = first_at args p all.1

  those_at : (xs : List Argument) → AllByRecursion (At h device) xs → AllByRecursion (λ o. h.object o ≡ Some device) (filter_map object_of xs)
  those_at [] all = tt
  those_at (Null ∷ xs) all = those_at xs all.1
  those_at (Unborn ∷ xs) all = those_at xs all.1
  those_at (The o ∷ xs) all = (all.0, those_at xs all.1)

  pub objects_at : (args : List (List Argument)) (p : ℕ) → ArgsAt h device args → AllByRecursion (λ o. h.object o ≡ Some device) (objects_in args p)
  objects_at [] p all = tt
  objects_at (xs ∷ args) zero all = those_at xs all.0
  objects_at (xs ∷ args) (suc p) all = objects_at args p all.1

  -- ---- failures

  module _ (bs cs : List Birth) (living here : Object → Bool) (born : (o : Object) → h.object o ≡ Some device → births_at o bs ≡ births_at o cs)
      (lives : (o : Object) → h.object o ≡ Some device → living o ≡ here o) where
    device_alike : (o : Object) → h.object o ≡ Some device → device_in bs o ≡ device_in cs o
    device_alike o at = ap (λ os. find (λ (d : Object). same_type d.ty ty.Device) (o ∷ os)) (owners_alike o bs cs (born o at))

    owner_alike : (args : List (List Argument)) (mark : OwnerMark) (o : Object) → ArgsAt h device args → h.object o ≡ Some device → owner_holds bs args mark o ≡ owner_holds cs args mark o
    owner_alike args own.None o all at = refl
    owner_alike args own.Device o all at = go (first_in args 0) (first_at args 0 all)
      where
        go : (x : Option Object) → OfOwner h x (Some device)
            → option_map_or (λ first. are_same (device_in bs o) (device_in bs first)) x false ≡ option_map_or (λ first. are_same (device_in cs o) (device_in cs first)) x false
        go None k = refl
        go (Some x) k = ap (λ d. are_same d (device_in bs x)) (device_alike o at) ∙ ap (are_same (device_in cs o)) (device_alike x k)
    owner_alike args (own.Param p) o all at = ap (λ os. are_same (slice_get os 0) (first_in args p)) (owners_alike o bs cs (born o at))

    at_alike : (c : CommandId) (args : List (List Argument)) → ends_parent c ≡ false → ArgsAt h device args → (i : ℕ) (p : ParamSpec) (k : ℕ) (a : Argument) → At h device a
        → failures_at bs living c args i p k a ≡ failures_at cs here c args i p k a
    at_alike c args ends all i p k Null at = refl
    at_alike c args ends all i p k Unborn at = refl
    at_alike c args ends all i p k (The o) at =
        ap (λ u. (unless u (failure i k rule.Parameter 0) ++ unless (not (living o) || owner_holds bs args p.owner o) (failure i k rule.Parent 0))
        ++ unless (not (ends_parent c && i == 0) || children_at bs living (The o) == 0) (failure i k rule.Children (children_at bs living (The o)))) (lives o at)
        ∙ (ap (λ u. (unless (here o) (failure i k rule.Parameter 0) ++ unless u (failure i k rule.Parent 0))
        ++ unless (not (ends_parent c && i == 0) || children_at bs living (The o) == 0) (failure i k rule.Children (children_at bs living (The o)))) parents
        ∙ ap (λ zs. (unless (here o) (failure i k rule.Parameter 0) ++ unless (not (here o) || owner_holds cs args p.owner o) (failure i k rule.Parent 0)) ++ zs) (no_child (children_at bs living (The o)) ∙ sym (no_child (children_at cs here (The o)))))
      where
        parents : (not (living o) || owner_holds bs args p.owner o) ≡ (not (here o) || owner_holds cs args p.owner o)
        parents = ap (λ u. not u || owner_holds bs args p.owner o) (lives o at) ∙ ap (λ u. not (here o) || u) (owner_alike args p.owner o all at)

        no_child : (n : ℕ) → unless (not (ends_parent c && i == 0) || n == 0) (failure i k rule.Children n) ≡ []
        no_child n = ap (λ u. unless (not (u && i == 0) || n == 0) (failure i k rule.Children n)) ends

    places_alike : (f g : ℕ → Argument → List Failure) → ((k : ℕ) (a : Argument) → At h device a → f k a ≡ g k a) → (k : ℕ) (xs : List Argument) → AllByRecursion (At h device) xs → places_from f k xs ≡ places_from g k xs
    places_alike f g same k [] all = refl
    places_alike f g same k (x ∷ xs) all = ap (λ ys. ys ++ places_from f (k + 1) xs) (same k x all.0) ∙ ap (λ ys. g k x ++ ys) (places_alike f g same (k + 1) xs all.1)

    params_alike : (f g : ℕ → ParamSpec → ℕ → Argument → List Failure) → ((i : ℕ) (p : ParamSpec) (k : ℕ) (a : Argument) → At h device a → f i p k a ≡ g i p k a) → (i : ℕ) (ps : List ParamSpec) (parts : List (List Argument))
        → ArgsAt h device parts → params_from f i ps parts ≡ params_from g i ps parts
    params_alike f g same i [] parts all = refl
    params_alike f g same i (p ∷ ps) [] all = refl
    params_alike f g same i (p ∷ ps) (xs ∷ parts) all =
        ap (λ ys. ys ++ params_from f (i + 1) ps parts) (places_alike (f i p) (g i p) (same i p) 0 xs all.0) ∙ ap (λ ys. places_from (g i p) 0 xs ++ ys) (params_alike f g same (i + 1) ps parts all.1)

    pub failures_alike : (c : CommandId) (args : List (List Argument)) → ends_parent c ≡ false → ArgsAt h device args → failures_in bs living c args ≡ failures_in cs here c args
    failures_alike c args ends all = params_alike (failures_at bs living c args) (failures_at cs here c args) (at_alike c args ends all) 0 (row_of c).params args all

    pub loader_alike : (ps : List ParamSpec) (args : List (List Argument)) → ArgsAt h device args → loader_failures living ps args ≡ loader_failures here ps args
    loader_alike [] args all = refl
    loader_alike (p ∷ ps) [] all = refl
    loader_alike (p ∷ ps) ([] ∷ args) all = refl
    loader_alike (p ∷ ps) ((Null ∷ xs) ∷ args) all = refl
    loader_alike (p ∷ ps) ((Unborn ∷ xs) ∷ args) all = refl
    loader_alike (p ∷ ps) ((The o ∷ xs) ∷ args) all = ap (λ u. unless u (failure 0 0 rule.Parameter 0)) (lives o all.0.0)

  -- ---- where a call stops

  stops_alike : (k : ℕ) (fs gs : List Failure) (xs ys : List Checked) → fs ≡ gs → (findings xs).stop ≡ (findings ys).stop
      → (findings (record { place = k; skips = true; failures = fs } ∷ xs)).stop ≡ (findings (record { place = k; skips = true; failures = gs } ∷ ys)).stop
  stops_alike k fs gs xs ys same below = ap (λ zs. (findings (record { place = k; skips = true; failures = zs } ∷ xs)).stop) same ∙ go (is_failing gs)
    where
      go : (u : Bool) → (cond u (record { reports = at_place k gs; stop = Some k }) (above (at_place k gs) (findings xs))).stop
          ≡ (cond u (record { reports = at_place k gs; stop = Some k }) (above (at_place k gs) (findings ys))).stop
      go true = refl
      go false = below

  parts_alike : (past alone : Past) (call other : Call) → call.cmd ≡ other.cmd → call.args ≡ other.args → ends_parent other.cmd ≡ false → ArgsAt h device other.args
      → ((o : Object) → h.object o ≡ Some device → births_at o (births (history alone)) ≡ births_at o (births (history past)))
      → ((o : Object) → h.object o ≡ Some device → alive (history alone) o ≡ alive (history past) o) → (k : ℕ) (parts : List PartKind)
      → (findings (parts_checked alone call k parts)).stop ≡ (findings (parts_checked past other k parts)).stop
  parts_alike past alone call other cmds args ends all born lives k [] = refl
  parts_alike past alone call other cmds args ends all born lives k (part.Threads ∷ parts) = parts_alike past alone call other cmds args ends all born lives (k + 1) parts
  parts_alike past alone call other cmds args ends all born lives k (part.Lifetimes ∷ parts) =
      stops_alike k (failures_in (births (history alone)) (alive (history alone)) call.cmd call.args) (failures_in (births (history past)) (alive (history past)) other.cmd other.args) (parts_checked alone call (k + 1) parts) (parts_checked past other (k + 1) parts)
      (ap (λ c. failures_in (births (history alone)) (alive (history alone)) c call.args) cmds ∙ (ap (failures_in (births (history alone)) (alive (history alone)) other.cmd) args
      ∙ failures_alike (births (history alone)) (births (history past)) (alive (history alone)) (alive (history past)) born lives other.cmd other.args ends all))
      (parts_alike past alone call other cmds args ends all born lives (k + 1) parts)
  parts_alike past alone call other cmds args ends all born lives k (part.Unique ∷ parts) = parts_alike past alone call other cmds args ends all born lives (k + 1) parts

  checks_alike : (s : Setup) (past alone : Past) (call other : Call) → call.cmd ≡ other.cmd → call.args ≡ other.args → ends_parent other.cmd ≡ false → ArgsAt h device other.args → Beside h s device past alone
      → (findings (checked s alone call)).stop ≡ (findings (checked s past other)).stop
  checks_alike s past alone call other cmds args ends all w =
      stops_alike 0 (loader_failures (alive (history alone)) (row_of call.cmd).params call.args) (loader_failures (alive (history past)) (row_of other.cmd).params other.args) (parts_checked alone call 1 (parts_in_force s alone)) (parts_checked past other 1 (parts_in_force s past))
      (ap (λ c. loader_failures (alive (history alone)) (row_of c).params call.args) cmds ∙ (ap (loader_failures (alive (history alone)) (row_of other.cmd).params) args
      ∙ loader_alike (births (history alone)) (births (history past)) (alive (history alone)) (alive (history past)) w.born w.living (row_of other.cmd).params other.args all))
      (ap (λ ps. (findings (parts_checked alone call 1 ps)).stop) w.parts ∙ parts_alike past alone call other cmds args ends all w.born w.living 1 (parts_in_force s past))

  -- ---- a begin on the device

  place_alike : (names others : List Named) → ((n : Name) → h.name n ≡ Some device → object_in names n ≡ object_in others n) → (ns : List (Option Name)) → Places (λ n. h.name n ≡ Some device) ns
      → map (argument_in names) ns ≡ map (argument_in others) ns
  place_alike names others same [] all = refl
  place_alike names others same (None ∷ ns) all = ap (λ xs. Null ∷ xs) (place_alike names others same ns all)
  place_alike names others same (Some n ∷ ns) all = ap (λ x. option_map_or The x Unborn ∷ map (argument_in names) ns) (same n all.0) ∙ ap (λ xs. option_map_or The (object_in others n) Unborn ∷ xs) (place_alike names others same ns all.1)

  pub args_alike : (names others : List Named) → ((n : Name) → h.name n ≡ Some device → object_in names n ≡ object_in others n) → (args : List Arg) → NamesAre (λ n. h.name n ≡ Some device) args
      → arguments_in names args ≡ arguments_in others args
  args_alike names others same [] all = refl
  args_alike names others same (a ∷ args) all =
      ap (λ xs. xs ∷ arguments_in names args) (place_alike names others same a.names all.0) ∙ ap (λ xs. map (argument_in others) a.names ∷ xs) (args_alike names others same args all.1)

  -- a name on the device stands for an object there
  pub named_at : (names : List Named) → AllByRecursion (λ (n : Named). h.object n.object ≡ h.name n.name) names → (n : Name) (o : Object) → object_in names n ≡ Some o → h.object o ≡ h.name n
  named_at names all n o is = go (find (λ (m : Named). same_name m.name n) names) refl is
    where
      go : (f : Option Named) → find (λ (m : Named). same_name m.name n) names ≡ f → option_map (λ (m : Named). m.object) f ≡ Some o → h.object o ≡ h.name n
      go None e p = cc p
      go (Some m) e p =
          let one : m.object ≡ o = cc in
          let both = at_found (λ (m : Named). h.object m.object ≡ h.name m.name) (λ (m : Named). same_name m.name n) names m all e in
          ap h.object (sym one) ∙ (both.0 ∙ ap h.name (name_is m.name n both.1))

  places_at : (names : List Named) → AllByRecursion (λ (n : Named). h.object n.object ≡ h.name n.name) names → (ns : List (Option Name)) → Places (λ n. h.name n ≡ Some device) ns → AllByRecursion (At h device) (map (argument_in names) ns)
  places_at names all [] on = tt
  places_at names all (None ∷ ns) on = (tt, places_at names all ns on)
  places_at names all (Some n ∷ ns) on = (go (object_in names n) refl, places_at names all ns on.1)
    where
      go : (x : Option Object) → object_in names n ≡ x → At h device (option_map_or The x Unborn)
      go None e = tt
      go (Some o) e = named_at names all n o e ∙ on.0

  pub args_at : (names : List Named) → AllByRecursion (λ (n : Named). h.object n.object ≡ h.name n.name) names → (args : List Arg) → NamesAre (λ n. h.name n ≡ Some device) args → ArgsAt h device (arguments_in names args)
  args_at names all [] on = tt
  args_at names all (a ∷ args) on = (places_at names all a.names on.0, args_at names all args on.1)

  receivers_alike : (drivers : ℕ) (rs qs : List Routed) → ((o : Object) → h.object o ≡ Some device → routes_at o rs ≡ routes_at o qs) → (x : Option Object) → OfOwner h x (Some device) → receivers drivers rs x ≡ receivers drivers qs x
  receivers_alike drivers rs qs same None at = refl
  receivers_alike drivers rs qs same (Some o) at = ap (λ d. cond (same_type o.ty ty.Instance) (range_with_len 0 drivers) (d ∷ [])) (driver_alike o rs qs (same o at))

  abbrev opened_by : BeginEvent → List (List Argument) → Option ℕ → Bool → List ℕ → Opened
  opened_by e args stop refused drivers = record { number = 0; thread = e.thread; cmd = e.cmd; args = args; results = e.results; code = e.code; payload = e.payload; stop = stop; refused = refused; drivers = drivers }

  -- it is judged alike but for its number
  pub begun_alike : (s : Setup) (past alone : Past) (b : BeginEvent) → Held h past → Beside h s device past alone → NamesAre (λ n. h.name n ≡ Some device) b.args → ends_parent b.cmd ≡ false
      → numbered 0 (begun_of s alone b).opened ≡ numbered 0 (begun_of s past b).opened
  begun_alike s past alone b held w on ends =
      ap (λ a. opened_by b a stop refused (cond (refused || is_some stop) [] (receivers s.drivers (routed alone) (first_in a 0)))) args
      ∙ (ap (λ rs. opened_by b there stop refused (cond (refused || is_some stop) [] rs)) (receivers_alike s.drivers (routed alone) (routed past) w.routes (first_in there 0) (first_at there 0 all))
      ∙ ap (λ k. opened_by b there k refused (cond (refused || is_some k) [] (receivers s.drivers (routed past) (first_in there 0)))) stops)
    where
      there : List (List Argument)
      there = arguments_in (named past) b.args

      args : arguments_in (named alone) b.args ≡ there
      args = args_alike (named alone) (named past) w.names b.args on

      all : ArgsAt h device there
      all = args_at (named past) held.names b.args on

      refused : Bool
      refused = is_refused s b.cmd b.payload

      stop : Option ℕ
      stop = (findings (checked s alone (record { number = calls_in alone + 1; thread = b.thread; cmd = b.cmd; args = arguments_in (named alone) b.args }))).stop

      stops : stop ≡ (findings (checked s past (record { number = calls_in past + 1; thread = b.thread; cmd = b.cmd; args = there }))).stop
      stops =
          checks_alike s past alone (record { number = calls_in alone + 1; thread = b.thread; cmd = b.cmd; args = arguments_in (named alone) b.args }) (record { number = calls_in past + 1; thread = b.thread; cmd = b.cmd; args = there })
          refl args ends all w
