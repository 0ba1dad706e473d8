-- What holds of the past of an accepted trace.
use Rattle.std.proofs.Common.{◌≡◌, ◌==◌, ℕ, Bool, true, false, not, cond, ◌||◌, Option, Some, None, List, [], ◌∷◌, ◌++◌, map, length, refl, sym, ◌∙◌, ap, subst, arith}
use Rattle.std.proofs.lemmas.Bool.{eq-eqb, eqb-true}
use Rattle.std.proofs.lemmas.List.{append-nil}
use Rattle.std.specs.Prelude.{filter, find}
use Rattle.std.specs.List.{list_any, list_all, filter_map, AllByRecursion}
use Rattle.std.specs.Option.{option_map, option_map_or}
use Rattle.command_tables.specs.declared.types.ObjectType.{ObjectType}
use Rattle.trace_format.specs.declared.event.Name.{Name}
use Rattle.object_model.specs.declared.Object.{Object}
use Rattle.object_model.specs.declared.Argument.TheVariants.{Unborn, The}
use Rattle.replay_model.specs.declared.Born.{Born}
use Rattle.replay_model.specs.declared.Named.{Named}
use Rattle.command_tables.specs.Table.{ParamSpec, row_of}
use Rattle.command_tables.specs.Tests.{same_type}
use Rattle.command_tables.specs.Effects.{type_made}
use Rattle.trace_format.specs.Accepting.{type_given, same_name, names_used, is_of_type}
use Rattle.trace_format.specs.Content.{Arg, TraceEvent, BeginEvent, Begin, Return}
use Rattle.object_model.specs.Objects.{same}
use Rattle.object_model.specs.History.{Birth, born_in, births, alive}
use Rattle.object_model.specs.Renaming.{KnowsArgs}
use Rattle.replay_model.specs.Setup.{Setup}
use Rattle.replay_model.specs.Past.{Opened, Past, Began, Returned, Retrieval, is_of, history, retrievals, open_calls, named, named_of, argument_in, arguments_in}
use Rattle.object_model.specs.Findings.{Report}
use Rattle.replay_model.specs.Births.{own_number}
use Rattle.replay_model.specs.Judged.{judged, begun_of, made_of, returned_by}
use Rattle.chain_model.proofs.OneByOne.{AreDecided, AreRetrieved, retrievals_after, bear, keep_one, Asking, AsksBorn}
use Rattle.chain_model.proofs.Shapes.{IsShaped, IsShapedEvent}
use Rattle.chain_model.proofs.Passing.{HasType, AreTyped, HaveMade, asking_by, births_then, retrievals_then, creates, owners_by}
use Rattle.layer_model.proofs.Same.{and_true, type_is}
use Rattle.chain_model.proofs.Issuing.{retrieved_one, asks_one}
use Rattle.chain_model.proofs.Borne.{births_then_is, retrievals_then_is}
use Rattle.chain_model.proofs.Sounding.{arguments_known}
use Rattle.chain_model.proofs.Knowing.{IsKnowing, nothing_known, knows_begun, knows_returned, unreached_made, asks_born}
use Rattle.chain_model.proofs.Naming.{AreFresh, NamesApart, is_given, OwnOrBorn, IsOwn, MadeOf, made_well, made_own, KeptOnce, kept_once_one, found_passes}
use Rattle.chain_model.proofs.Eventing.{all_map, all_append, all_filter, all_found, all_names, given_more, given_self, new_not_given, NamesWell, no_names, names_begun, names_returned, OpensApart}
use Rattle.chain_model.proofs.Coming.{begins_well}
use Rattle.chain_model.specs.Gaps.{may_all_come, may_come}

-- ---- types

-- each name stands for an object of the type that it was given
abbrev pub NamesTyped : List TraceEvent → List Named → Type 0
NamesTyped events names = AllByRecursion (λ x. type_given x.name events ≡ Some x.object.ty) names

-- each name that may be born has the type of what its call makes
abbrev pub OpensTyped : List TraceEvent → List Opened → Type 0
OpensTyped events opens = AllByRecursion (λ o. AllByRecursion (λ n. type_given n events ≡ type_made (row_of o.cmd).effect) o.results) opens

same_names : (a b : Name) → same_name a b ≡ true → own_number a ≡ own_number b
same_names a b e =
    let p = and_true (a.thread == b.thread) (a.number == b.number) e in
    let t : a.thread ≡ b.thread = eqb-true a.thread b.thread p.0 in let n : a.number ≡ b.number = eqb-true a.number b.number p.1 in omega (arith, t, n)

argument_typed : (events : List TraceEvent) (t : ObjectType) (names : List Named) → NamesTyped events names → (n : Name) → is_of_type events (t, n) ≡ true → HasType t (argument_in names (Some n))
argument_typed events t names ks n is = go names ks
  where
    of_type : (x : Named) → type_given x.name events ≡ Some x.object.ty → same_name x.name n ≡ true → x.object.ty ≡ t
    of_type x k e =
        let a = and_true (x.name.thread == n.thread) (x.name.number == n.number) e in
        let one : x.name ≡ n = (let th : x.name.thread ≡ n.thread = eqb-true x.name.thread n.thread a.0 in let nu : x.name.number ≡ n.number = eqb-true x.name.number n.number a.1 in λ i. record { thread = th i; number = nu i }) in
        let given : type_given n events ≡ Some x.object.ty = ap (λ (m : Name). type_given m events) (sym one) ∙ k in
        type_is x.object.ty t (ap (λ (r : Option ObjectType). option_map_or (λ u. same_type u t) r false) (sym given) ∙ is)

    go : (ns : List Named) → NamesTyped events ns → HasType t (option_map_or The (option_map (λ (x : Named). x.object) (find (λ x. same_name x.name n) ns)) Unborn)
    go [] k = tt
    go (x ∷ ns) k = at (same_name x.name n) refl (go ns k.1)
      where
        at : (u : Bool) → same_name x.name n ≡ u → HasType t (option_map_or The (option_map (λ (y : Named). y.object) (find (λ y. same_name y.name n) ns)) Unborn)
            → HasType t (option_map_or The (option_map (λ (y : Named). y.object) (cond u (Some x) (find (λ y. same_name y.name n) ns))) Unborn)
        at true e ih = of_type x k.0 e
        at false e ih = ih

all_parts : {X : Type 0} (p : X → Bool) (xs ys : List X) → list_all p (xs ++ ys) ≡ true → (list_all p xs ≡ true) × (list_all p ys ≡ true)
all_parts p [] ys e = (refl, e)
all_parts p (x ∷ xs) ys e = let a = and_true (p x) (list_all p (xs ++ ys)) e in let b = all_parts p xs ys a.1 in (rw (a.0, b.0) refl, b.1)

list_typed : (events : List TraceEvent) (t : ObjectType) (names : List Named) → NamesTyped events names → (ns : List (Option Name)) → list_all (is_of_type events) (map (λ n. (t, n)) (filter_map (λ n. n) ns)) ≡ true → AllByRecursion (HasType t) (map (argument_in names) ns)
list_typed events t names ks [] e = tt
list_typed events t names ks (None ∷ ns) e = (tt, list_typed events t names ks ns e)
list_typed events t names ks (Some n ∷ ns) e =
    let a = and_true (is_of_type events (t, n)) (list_all (is_of_type events) (map (λ m. (t, m)) (filter_map (λ m. m) ns))) e in
    (argument_typed events t names ks n a.0, list_typed events t names ks ns a.1)

pub args_typed : (events : List TraceEvent) (names : List Named) → NamesTyped events names → (ps : List ParamSpec) (args : List Arg) → length args ≡ length ps → list_all (is_of_type events) (names_used ps args) ≡ true → AreTyped ps (arguments_in names args)
args_typed events names ks [] [] same e = tt
args_typed events names ks [] (a ∷ args) same e = absurd (omega (arith, same))
args_typed events names ks (p ∷ ps) [] same e = absurd (omega (arith, same))
args_typed events names ks (p ∷ ps) (a ∷ args) same e =
    let b = all_parts (is_of_type events) (map (λ n. (p.ty, n)) (filter_map (λ n. n) a.names)) (names_used ps args) e in
    (list_typed events p.ty names ks a.names b.0, args_typed events names ks ps args (omega (arith, same)) b.1)

-- a name that is given isn't among new ones
old_name : (events : List TraceEvent) (n : Name) → is_given (all_names events) (own_number n) ≡ true → (rs : List Name) → AllByRecursion (λ r. is_given (all_names events) (own_number r) ≡ false) rs → list_any (λ r. same_name r n) rs ≡ false
old_name events n g [] ks = refl
old_name events n g (r ∷ rs) ks = go (same_name r n) refl (old_name events n g rs ks.1)
  where
    go : (u : Bool) → same_name r n ≡ u → list_any (λ x. same_name x n) rs ≡ false → (u || list_any (λ x. same_name x n) rs) ≡ false
    go true e ih = let bad : is_given (all_names events) (own_number r) ≡ true = ap (is_given (all_names events)) (same_names r n e) ∙ g in let good : is_given (all_names events) (own_number r) ≡ false = ks.0 in cc
    go false e ih = ih

-- a new name is found among its own
name_self : (n : Name) → same_name n n ≡ true
name_self n = rw (eq-eqb n.thread n.thread refl, eq-eqb n.number n.number refl) refl

new_names : (before xs : List Name) → AllByRecursion (λ n. list_any (λ r. same_name r n) (before ++ xs) ≡ true) xs
new_names before [] = tt
new_names before (x ∷ xs) = (here before, subst (λ (zs : List Name). AllByRecursion (λ n. list_any (λ r. same_name r n) zs ≡ true) xs) (middle before) (new_names (before ++ x ∷ []) xs))
  where
    middle : (as0 : List Name) → (as0 ++ x ∷ []) ++ xs ≡ as0 ++ x ∷ xs
    middle [] = refl
    middle (a ∷ as0) = ap (λ ws. a ∷ ws) (middle as0)

    or_true : (t : Bool) → (t || true) ≡ true
    or_true true = refl
    or_true false = refl

    here : (as0 : List Name) → list_any (λ r. same_name r x) (as0 ++ x ∷ xs) ≡ true
    here [] = ap (λ t. t || list_any (λ r. same_name r x) xs) (name_self x)
    here (a ∷ as0) = ap (λ t. same_name a x || t) (here as0) ∙ or_true (same_name a x)

-- ---- the invariant

-- what holds of a past, by its events
pub record IsAccepted (events : List TraceEvent) (past : Past) : Type 0 where
  pub knowing : IsKnowing past
  pub kept : KeptOnce (retrievals past)
  pub names : NamesWell events (births (history past)) (open_calls past)
  pub named_given : AllByRecursion (λ x. is_given (all_names events) (own_number x.name) ≡ true) (named past)
  pub named_typed : NamesTyped events (named past)
  pub opens_typed : OpensTyped events (open_calls past)
  pub args : AllByRecursion (λ o. AreTyped (row_of o.cmd).params o.args) (open_calls past)

pub accepted_nothing : IsAccepted [] []
accepted_nothing = record { knowing = nothing_known; kept = tt; names = no_names; named_given = tt; named_typed = tt; opens_typed = tt; args = tt }

-- a begin
pub accepted_begun : (events : List TraceEvent) (past : Past) (b : BeginEvent) (o : Opened) (reports : List Report) → IsAccepted events past → may_come events (Begin b) ≡ true → IsShaped b
    → o.cmd ≡ b.cmd → o.results ≡ b.results → o.args ≡ arguments_in (named past) b.args → IsAccepted (Begin b ∷ events) (Began b o reports ∷ past)
accepted_begun events past b o reports s ok shaped is_cmd is_results is_args =
    let w = begins_well events b ok in
    let none : AllByRecursion (λ n. is_given (all_names events) (own_number n) ≡ false) b.results = new_not_given events b.results shaped.names s.names.threads w.1 in
    let stays : (n : Name) → is_given (all_names events) (own_number n) ≡ true → type_given n (Begin b ∷ events) ≡ type_given n events = λ (n : Name) (g : is_given (all_names events) (own_number n) ≡ true).
    ap (λ u. cond u (type_made (row_of b.cmd).effect) (type_given n events)) (old_name events n g b.results none) in
    record {
      knowing = knows_begun past b o reports s.knowing (subst (λ as0. KnowsArgs (born_in (births (history past))) as0) (sym is_args) (arguments_known (born_in (births (history past))) (named past) s.knowing.names b.args));
      kept = s.kept;
      names = names_begun events b o (births (history past)) (open_calls past) s.names is_results shaped.names w.1;
      named_given = all_map (λ (x : Named). is_given (all_names events) (own_number x.name) ≡ true) (λ (x : Named). is_given (b.results ++ all_names events) (own_number x.name) ≡ true) (λ x g. given_more b.results (all_names events) (own_number x.name) g) (named past) s.named_given;
      named_typed = both_named (named past) s.named_given s.named_typed stays;
      opens_typed = all_append (λ x. AllByRecursion (λ n. type_given n (Begin b ∷ events) ≡ type_made (row_of x.cmd).effect) x.results) (open_calls past) (o ∷ []) (both_opens (open_calls past) s.names.given s.opens_typed stays) (
        subst (λ ns. AllByRecursion (λ n. type_given n (Begin b ∷ events) ≡ type_made (row_of o.cmd).effect) ns) (sym is_results)
            (all_map (λ n. list_any (λ r. same_name r n) b.results ≡ true) (λ n. type_given n (Begin b ∷ events) ≡ type_made (row_of o.cmd).effect)
            (λ n e. ap (λ u. cond u (type_made (row_of b.cmd).effect) (type_given n events)) e ∙ ap (λ c. type_made (row_of c).effect) (sym is_cmd)) b.results (new_names [] b.results)),
        tt,
      );
      args = all_append (λ x. AreTyped (row_of x.cmd).params x.args) (open_calls past) (o ∷ []) s.args
          (subst (λ as0. AreTyped (row_of o.cmd).params as0) (sym is_args) (subst (λ c. AreTyped (row_of c).params (arguments_in (named past) b.args)) (sym is_cmd) (args_typed events (named past) s.named_typed (row_of b.cmd).params b.args shaped.args w.0)), tt);
    }
  where
    both_named : (ns : List Named) → AllByRecursion (λ x. is_given (all_names events) (own_number x.name) ≡ true) ns → NamesTyped events ns → ((n : Name) → is_given (all_names events) (own_number n) ≡ true → type_given n (Begin b ∷ events) ≡ type_given n events)
        → NamesTyped (Begin b ∷ events) ns
    both_named [] g t stays = tt
    both_named (x ∷ ns) g t stays = (stays x.name g.0 ∙ t.0, both_named ns g.1 t.1 stays)

    both_names : (x : Opened) (ns : List Name) → AllByRecursion (λ n. is_given (all_names events) (own_number n) ≡ true) ns → AllByRecursion (λ n. type_given n events ≡ type_made (row_of x.cmd).effect) ns
        → ((n : Name) → is_given (all_names events) (own_number n) ≡ true → type_given n (Begin b ∷ events) ≡ type_given n events) → AllByRecursion (λ n. type_given n (Begin b ∷ events) ≡ type_made (row_of x.cmd).effect) ns
    both_names x [] g t stays = tt
    both_names x (n ∷ ns) g t stays = (stays n g.0 ∙ t.0, both_names x ns g.1 t.1 stays)

    both_opens : (os : List Opened) → AllByRecursion (λ x. AllByRecursion (λ n. is_given (all_names events) (own_number n) ≡ true) x.results) os → OpensTyped events os
        → ((n : Name) → is_given (all_names events) (own_number n) ≡ true → type_given n (Begin b ∷ events) ≡ type_given n events) → OpensTyped (Begin b ∷ events) os
    both_opens [] g t stays = tt
    both_opens (x ∷ os) g t stays = (both_names x x.results g.0 t.0 stays, both_opens os g.1 t.1 stays)

-- ---- a return

pub open_apart : (p : Opened → Bool) (os : List Opened) (o : Opened) → OpensApart os → find p os ≡ Some o → NamesApart o.results
open_apart p [] o a is = cc is
open_apart p (x ∷ os) o a is = go (p x) (open_apart p os o a.2) is
  where
    go : (u : Bool) → (find p os ≡ Some o → NamesApart o.results) → cond u (Some x) (find p os) ≡ Some o → NamesApart o.results
    go true ih h = let one : x ≡ o = cc in subst (λ (y : Opened). NamesApart y.results) one a.0
    go false ih h = ih h

kept_after : (created : Bool) (owners : List Object) (q : Option Asking) (bs : List Birth) (rs : List Retrieval) (made : List Born) → AreRetrieved bs rs → AsksBorn bs q → KeptOnce rs → KeptOnce (retrievals_after created owners q bs rs made)
kept_after created owners q bs rs [] all asks once = once
kept_after created owners q bs rs (b ∷ made) all asks once =
    kept_after created owners q (bear created owners bs b.object) (keep_one q bs rs b) made (retrieved_one created owners q bs rs b all asks) (asks_one created owners bs b.object q asks) (kept_once_one q bs rs b all once)

no_result : (bs : List Birth) (rs : List Retrieval) (o : Opened) (made : List Born) → HaveMade bs rs o.cmd o.payload o.args (type_made (row_of o.cmd).effect) made → type_made (row_of o.cmd).effect ≡ None → made ≡ []
no_result bs rs o made have none = subst (λ mt. HaveMade bs rs o.cmd o.payload o.args mt made) none have

-- the types of what was made
made_types : (events : List TraceEvent) (bs : List Birth) (rs : List Retrieval) (o : Opened) (made : List Born) → HaveMade bs rs o.cmd o.payload o.args (type_made (row_of o.cmd).effect) made
    → AllByRecursion (λ b. type_given b.name events ≡ type_made (row_of o.cmd).effect) made → AllByRecursion (λ b. type_given b.name events ≡ Some b.object.ty) made
made_types events bs rs o made have given = go (type_made (row_of o.cmd).effect) have given
  where
    typed : (t : ObjectType) (ms : List Born) → AreDecided (asking_by bs o.cmd o.payload o.args (row_of o.cmd).effect) t bs rs ms → AllByRecursion (λ b. type_given b.name events ≡ Some t) ms → AllByRecursion (λ b. type_given b.name events ≡ Some b.object.ty) ms
    typed t [] d g = tt
    typed t (b ∷ ms) d g = (g.0 ∙ ap (λ u. Some u) (sym d.1), typed t ms d.2 g.1)

    go : (mt : Option ObjectType) → HaveMade bs rs o.cmd o.payload o.args mt made → AllByRecursion (λ b. type_given b.name events ≡ mt) made → AllByRecursion (λ b. type_given b.name events ≡ Some b.object.ty) made
    go None d g = subst (λ (ms : List Born). AllByRecursion (λ b. type_given b.name events ≡ Some b.object.ty) ms) (sym d) tt
    go (Some t) d g = typed t made d g

named_made : (P : Named → Type 0) (made : List Born) → AllByRecursion (λ b. P (named_of b)) made → AllByRecursion P (map named_of made)
named_made P [] ks = tt
named_made P (b ∷ made) ks = (ks.0, named_made P made ks.1)

pub accepted_returned : (s : Setup) (events : List TraceEvent) (past : Past) (thread : ℕ) (o : Opened) → IsAccepted events past → find (is_of thread) (open_calls past) ≡ Some o → IsAccepted (Return thread ∷ events) (Returned o (made_of s past o) ∷ past)
accepted_returned s events past thread o a is =
    let bs : List Birth = births (history past) in
    let rs : List Retrieval = retrievals past in
    let made : List Born = made_of s past o in
    let t : o.thread ≡ thread = eqb-true o.thread thread (found_passes (is_of thread) (open_calls past) o is) in
    let fresh : AreFresh bs o.results = all_found (λ x. AreFresh bs x.results) (is_of thread) (open_calls past) o a.names.fresh is in
    let well : MadeOf bs rs o made = made_well bs rs o a.knowing.retrieved a.kept s.drivers (alive (history past)) fresh (open_apart (is_of thread) (open_calls past) o a.names.apart is) in
    let typed : AllByRecursion (λ n. type_given n events ≡ type_made (row_of o.cmd).effect) o.results =
    all_found (λ x. AllByRecursion (λ n. type_given n events ≡ type_made (row_of x.cmd).effect) x.results) (is_of thread) (open_calls past) o a.opens_typed is in
    let given : AllByRecursion (λ n. is_given (all_names events) (own_number n) ≡ true) o.results =
    all_found (λ x. AllByRecursion (λ n. is_given (all_names events) (own_number n) ≡ true) x.results) (is_of thread) (open_calls past) o a.names.given is in
    let selves : AllByRecursion (λ n. is_given o.results (own_number n) ≡ true) o.results = subst (λ ns. AllByRecursion (λ n. is_given ns (own_number n) ≡ true) o.results) (append-nil o.results) (given_self [] o.results []) in
    let own_typed : AllByRecursion (IsOwn (λ n. type_given n events ≡ type_made (row_of o.cmd).effect) bs o.results) made =
    made_own (λ n. type_given n events ≡ type_made (row_of o.cmd).effect) bs rs o a.knowing.retrieved typed selves s.drivers (alive (history past)) in
    let own_given : AllByRecursion (IsOwn (λ n. is_given (all_names events) (own_number n) ≡ true) bs o.results) made =
    made_own (λ n. is_given (all_names events) (own_number n) ≡ true) bs rs o a.knowing.retrieved given selves s.drivers (alive (history past)) in
    let owns : AllByRecursion (OwnOrBorn bs o.results) made = all_map (IsOwn (λ n. is_given (all_names events) (own_number n) ≡ true) bs o.results) (OwnOrBorn bs o.results) (λ b h. h.1) made own_given in
    let known : KnowsArgs (born_in bs) o.args = all_found (λ x. KnowsArgs (born_in bs) x.args) (is_of thread) (open_calls past) o a.knowing.opens is in
    let none : type_made (row_of o.cmd).effect ≡ None → made ≡ [] = no_result bs rs o made well.have in
    let tb_is : births_then bs o.cmd o.args made ≡ births (history (Returned o made ∷ past)) = births_then_is bs o.cmd o.args made well.apart none in
    let tk_is : retrievals_then bs rs o.cmd o.payload o.args made ≡ retrievals (Returned o made ∷ past) = retrievals_then_is bs rs o made well.apart in
    record {
      knowing = knows_returned past o made a.knowing known well.apart none (λ k e. unreached_made s past o k e);
      kept = subst KeptOnce tk_is (kept_after (creates (row_of o.cmd).effect) (owners_by bs o.args (row_of o.cmd).effect) (asking_by bs o.cmd o.payload o.args (row_of o.cmd).effect) bs rs made a.knowing.retrieved (asks_born bs o.cmd o.payload o.args known) a.kept);
      names = subst (λ b. NamesWell (Return thread ∷ events) b (filter (λ x. not (is_of o.thread x)) (open_calls past))) tb_is
          (names_returned events thread (creates (row_of o.cmd).effect) (owners_by bs o.args (row_of o.cmd).effect) bs (open_calls past) o made a.names is t owns);
      named_given = all_append (λ (x : Named). is_given (all_names events) (own_number x.name) ≡ true) (named past) (map named_of made) a.named_given
          (named_made (λ x. is_given (all_names events) (own_number x.name) ≡ true) made (all_map (IsOwn (λ n. is_given (all_names events) (own_number n) ≡ true) bs o.results) (λ b. is_given (all_names events) (own_number b.name) ≡ true) (λ b h. h.0) made own_given));
      named_typed = all_append (λ (x : Named). type_given x.name events ≡ Some x.object.ty) (named past) (map named_of made) a.named_typed
          (named_made (λ x. type_given x.name events ≡ Some x.object.ty) made (made_types events bs rs o made well.have
          (all_map (IsOwn (λ n. type_given n events ≡ type_made (row_of o.cmd).effect) bs o.results) (λ b. type_given b.name events ≡ type_made (row_of o.cmd).effect) (λ b h. h.0) made own_typed)));
      opens_typed = all_filter (λ x. AllByRecursion (λ n. type_given n events ≡ type_made (row_of x.cmd).effect) x.results) (λ x. not (is_of o.thread x)) (open_calls past) a.opens_typed;
      args = all_filter (λ x. AreTyped (row_of x.cmd).params x.args) (λ x. not (is_of o.thread x)) (open_calls past) a.args;
    }

-- a return where nothing is open
accepted_idle : (events : List TraceEvent) (past : Past) (thread : ℕ) → IsAccepted events past → IsAccepted (Return thread ∷ events) past
accepted_idle events past thread a = record {
  knowing = a.knowing;
  kept = a.kept;
  names = record { threads = a.names.threads; births = a.names.births; given = a.names.given; fresh = a.names.fresh; apart = a.names.apart };
  named_given = a.named_given;
  named_typed = a.named_typed;
  opens_typed = a.opens_typed;
  args = a.args;
}

-- ---- all events

-- what holds of the past of each accepted trace
pub accepted_judged : (s : Setup) (events : List TraceEvent) → may_all_come events ≡ true → AllByRecursion IsShapedEvent events → IsAccepted events (judged s events)
accepted_judged s [] ok shaped = accepted_nothing
accepted_judged s (Begin b ∷ before) ok shaped =
    let parts = and_true (may_all_come before) (may_come before (Begin b)) ok in
    accepted_begun before (judged s before) b (begun_of s (judged s before) b).opened (begun_of s (judged s before) b).reports (accepted_judged s before parts.0 shaped.1) parts.1 shaped.0 refl refl refl
accepted_judged s (Return thread ∷ before) ok shaped =
    let parts = and_true (may_all_come before) (may_come before (Return thread)) ok in go (find (is_of thread) (open_calls (judged s before))) refl (accepted_judged s before parts.0 shaped.1)
  where
    go : (f : Option Opened) → find (is_of thread) (open_calls (judged s before)) ≡ f → IsAccepted before (judged s before) → IsAccepted (Return thread ∷ before) (returned_by s (judged s before) f)
    go None is a = accepted_idle before (judged s before) thread a
    go (Some o) is a = accepted_returned s before (judged s before) thread o a is
