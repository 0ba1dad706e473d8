-- A call that has left, by what the definitions say.
use Rattle.std.proofs.Common.{◌≡◌, ◌∙◌, ◌+◌, ◌++◌, ◌&&◌, ◌||◌, ℕ, Bool, true, false, not, cond, None, List, [], arith, drop, length, map, refl, ap, sym, subst}
use Rattle.std.proofs.lemmas.List.{append-nil}
use Rattle.std.specs.List.{enumerate_from}
use Rattle.std.specs.Option.{option_map_or}
use Rattle.command_tables.specs.Calls.{CallContent, ReplyContent}
use Rattle.command_tables.specs.Effects.{succeeds, type_made}
use Rattle.command_tables.specs.Table.{row_of}
use Rattle.command_tables.specs.declared.types.Effect.{Effect}
use Rattle.command_tables.specs.declared.types.Effect.TheVariants as eff
use Rattle.command_tables.specs.declared.types.ObjectType.{ObjectType}
use Rattle.trace_format.specs.Content.{BeginEvent}
use Rattle.trace_format.specs.declared.event.Name.{Name}
use Rattle.object_model.specs.declared.Argument.{Argument}
use Rattle.object_model.specs.declared.Object.{Object}
use Rattle.object_model.specs.History.{Birth, births_given, born_in}
use Rattle.object_model.specs.Values.{Value}
use Rattle.replay_model.specs.declared.Born.{Born}
use Rattle.replay_model.specs.declared.Named.{Named}
use Rattle.replay_model.specs.Births.{bearable, bears, born_with, made_by, owner_lives, result_object}
use Rattle.replay_model.specs.Direct.{Sent}
use Rattle.replay_model.specs.Past.{Opened, Retrieval, arguments_in, is_skipped, named_of, object_in, objects_of, owner_by, retrieval, retrieved_by, retrieves}
use Rattle.replay_model.specs.Setup.{Setup, parts_of}
use Rattle.layer_model.specs.Ids.{IssuedAll}
use Rattle.layer_model.specs.Routes.{drivers_at, routes_then}
use Rattle.layer_model.specs.Terminator.{terminator_leave}
use Rattle.layer_model.specs.Walks.{PartState, is_guarded, leave_parts}
use Rattle.chain_model.specs.Handed.{Handed, hand_all, handle_in}
use Rattle.chain_model.specs.Simulated.{ChainKept, Held, after_reply, after_skipped, born_flags, with_forms, with_parts}
use Rattle.chain_model.specs.Traces.{held_in_force, in_force, starts_chain}
use Rattle.terminator.specs.Calls.{answered, drivers_for}
use Rattle.dispatch_chain.specs.Holding.{HeldCalls, IsHeldOf}
use Rattle.dispatch_chain.specs.Seats.{kinds_of}
use Rattle.dispatch_chain.specs.Room.{ChainState}
use Rattle.session_model.specs.Session.{SessionKept}
use Rattle.session_model.specs.Returning.{chain_after_return, lost_kept, made_kept}
use Rattle.session_model.specs.Steps.{ComeUpApart}
use Rattle.session_tables.specs.Lined.{AreAdded, IsBornAlike}
use Rattle.session_parts.specs.declared.parts.SessionParts.{SessionParts}
use Rattle.session_parts.specs.Leaving.{Returns, CanLeave, ComesUp, Departed, IsOpen, KeepsChain, Leaves, MayComeUp, chain_up, left_of, made_again, opened_again, recalled, rising_again}
use Rattle.session_parts.specs.Parts.{PartsShow}
use Rattle.session_parts.proofs.Recalled.{marked_all}

-- ---- what a return doesn't ask for

-- the open call without its number, its place and its drivers
abbrev pub plain : Opened → Opened
plain o = record o { number = 0; stop = None; refused = false; drivers = [] }

object_plain : (bs : List Birth) (kept : List Retrieval) (o : Opened) (effect : Effect) (t : ObjectType) (place : ℕ) (name : Name) → result_object bs kept (plain o) effect t place name ≡ result_object bs kept o effect t place name
object_plain bs kept o eff.None t place name = refl
object_plain bs kept o (eff.Create r owner many) t place name = refl
object_plain bs kept o (eff.Retrieve r owner many) t place name = refl
object_plain bs kept o (eff.Destroy p) t place name = refl
object_plain bs kept o (eff.Free p) t place name = refl
object_plain bs kept o (eff.Reset p) t place name = refl

born_plain : (bs : List Birth) (kept : List Retrieval) (o : Opened) (names : List Name) → born_with bs kept (plain o) names ≡ born_with bs kept o names
born_plain bs kept o names = λ i.
    option_map_or (λ t. map (λ (x : ℕ × Name). record { place = x.0; name = x.1; object = object_plain bs kept o (row_of o.cmd).effect t x.0 x.1 i }) (enumerate_from 0 names)) (type_made (row_of o.cmd).effect) []

-- a call that isn't skipped makes the same
made_plain : (n : ℕ) (bs : List Birth) (living : Object → Bool) (kept : List Retrieval) (o : Opened) → is_skipped o ≡ false → made_by n bs living kept (plain o) ≡ made_by n bs living kept o
made_plain n bs living kept o goes =
    ap (λ born. cond (bears bs living (plain o)) born []) (born_plain bs kept o (bearable n o))
    ∙ ap (λ u. cond (not u && (succeeds o.cmd o.code && owner_lives living o.cmd (owner_by bs o.args (row_of o.cmd).effect))) (born_with bs kept o (bearable n o)) []) (sym goes)

-- a skipped one makes nothing
made_skipped : (n : ℕ) (bs : List Birth) (living : Object → Bool) (kept : List Retrieval) (o : Opened) → is_skipped o ≡ true → made_by n bs living kept o ≡ []
made_skipped n bs living kept o skipped =
    ap (λ u. cond (not u && (succeeds o.cmd o.code && owner_lives living o.cmd (owner_by bs o.args (row_of o.cmd).effect))) (born_with bs kept o (bearable n o)) []) skipped

-- of nothing nothing is born
none_given : (bs : List Birth) (args : List (List Argument)) (effect : Effect) → births_given bs args effect [] ≡ []
none_given bs args eff.None = refl
none_given bs args (eff.Create t owner many) = refl
none_given bs args (eff.Retrieve t owner many) = refl
none_given bs args (eff.Destroy p) = refl
none_given bs args (eff.Free p) = refl
none_given bs args (eff.Reset p) = refl

none_retrieved : (bs : List Birth) (o : Opened) → retrieved_by bs o [] ≡ []
none_retrieved bs o = go (retrieves (row_of o.cmd).effect)
  where
    go : (u : Bool) → cond u (map (retrieval o (owner_by bs o.args (row_of o.cmd).effect)) []) [] ≡ []
    go true = refl
    go false = refl

none_added : (bs : List Birth) → AreAdded bs [] bs
none_added bs = record {
  lives = λ x. sym (or_false (born_in bs x));
  alike = λ x there. subst (λ (all : List Birth). IsBornAlike bs all x) (sym (append-nil bs)) (record { created = refl; owners = refl });
}
  where
    or_false : (u : Bool) → (u || false) ≡ u
    or_false true = refl
    or_false false = refl

-- ---- a call that leaves

module _ (s : Setup) (x : SessionParts) (k : SessionKept) (e : BeginEvent) (call : CallContent) (held : HeldCalls) (skip : Bool) (replies : List ReplyContent) (c : Sent) (h : Held) (shows : PartsShow s x k) (opens : IsOpen k e call held skip replies c h)
    (stays : is_skipped c.opened ≡ false → starts_chain c.opened ≡ false) (returns : Returns s k c h) where
  abbrev o : Opened
  o = c.opened

  abbrev made : List Born
  made = made_kept s k c.opened

  holds_so : IsHeldOf held (kinds_of x.states.kept) h.forms
  holds_so = subst (λ ss. IsHeldOf held (kinds_of ss) h.forms) (sym shows.states) opens.left.forms

  -- ---- one that was sent

  module _ (goes : is_skipped c.opened ≡ false) where
    bottom_is : call ≡ h.bottom
    bottom_is = opens.left.bottom goes

    args_are : recalled call.unborn (arguments_in x.names.kept.names e.args) ≡ o.args
    args_are = (λ i. recalled (opens.left.marks goes i) (arguments_in (shows.names i) e.args)) ∙ marked_all k.names e.args o.args opens.left.args

    again_is : opened_again x e call ≡ plain o
    again_is = λ i. record {
      number = 0;
      thread = sym opens.left.thread i;
      cmd = sym opens.left.cmd i;
      args = args_are i;
      results = sym opens.left.results i;
      code = sym opens.left.code i;
      payload = sym opens.left.payload i;
      stop = None;
      refused = false;
      drivers = [];
    }

    made_is : made_again x e call ≡ made
    made_is =
        (λ i. made_by (shows.drivers i) (shows.births i) (born_in (shows.births i)) (shows.retrieved i) (again_is i))
        ∙ made_plain s.drivers k.births (born_in k.births) k.retrieved o goes

    lost_is : drop (length (made_again x e call)) e.results ≡ lost_kept s k o
    lost_is = λ i. drop (length (made_is i)) (sym opens.left.results i)

    -- the chain in force is that before
    same_chain : (in_force s k.chain o).states ≡ k.chain.states
    same_chain = ap (λ u. (cond u (with_parts k.chain o (parts_of (s.outcome o.payload))) k.chain).states) (stays goes)

    drivers_are : drivers_for x.terminator call ≡ o.drivers
    drivers_are = (λ i. drivers_at (shows.drivers i) (shows.routes i) (bottom_is i)) ∙ returns.steps.drivers goes

    answers_are : answered (drivers_for x.terminator call) replies ≡ c.answers
    answers_are = ap (λ ds. answered ds replies) drivers_are ∙ sym opens.answers

    left_is : left_of x.terminator (rising_again x e call replies) ≡ terminator_leave k.chain.terminator h.bottom c.answers (born_flags made (lost_kept s k o))
    left_is = λ i. terminator_leave (shows.ids i) (bottom_is i) (answers_are i) (born_flags (made_is i) (lost_is i))

    cmd_is : call.cmd ≡ o.cmd
    cmd_is = ap (λ (b : CallContent). b.cmd) bottom_is ∙ returns.cmd goes

    up_is : chain_up x (rising_again x e call replies) h.forms ≡ record (after_reply k.chain o h c.answers made (lost_kept s k o)) { held = [] }
    up_is = λ i. record {
      states = (leave_parts (sym opens.left.thread i) (shows.states i) h.forms (left_is i).results).states;
      terminator = (left_is i).ids;
      routes = routes_then (shows.routes i) (cmd_is i) (drivers_are i) (type_made (row_of (cmd_is i)).effect) (left_is i).results;
      handed = hand_all (shows.handed i) (made_is i) (leave_parts (sym opens.left.thread i) (shows.states i) h.forms (left_is i).results).results;
      held = [];
    }

    chain_is : chain_up x (rising_again x e call replies) h.forms ≡ record (chain_after_return s k c h) { held = [] }
    chain_is =
        up_is
        ∙ (ap (λ u. record (after_reply (cond u (with_parts k.chain o (parts_of (s.outcome o.payload))) k.chain) o (cond u (with_forms o (parts_of (s.outcome o.payload)) h) h) c.answers made (lost_kept s k o)) { held = [] }) (sym (stays goes))
        ∙ ap (λ u. record (cond u (after_skipped k.chain o h (lost_kept s k o)) (after_reply (in_force s k.chain o) o (held_in_force s o h) c.answers made (lost_kept s k o))) { held = [] }) (sym goes))

    whole_is : length h.forms ≡ length x.states.kept
    whole_is =
        ap (λ u. length (cond u (with_forms o (parts_of (s.outcome o.payload)) h) h).forms) (sym (stays goes))
        ∙ (returns.whole goes ∙ ap (λ (ss : List PartState). length ss) (same_chain ∙ sym shows.states))

    apart_is : ComeUpApart e.thread x.states.kept h.forms (left_of x.terminator (rising_again x e call replies)).results
    apart_is =
        subst (λ (all : IssuedAll (List Value)). ComeUpApart e.thread x.states.kept h.forms all.results) (sym left_is)
        (subst (λ ss. ComeUpApart e.thread ss h.forms (terminator_leave k.chain.terminator h.bottom c.answers (born_flags made (lost_kept s k o))).results) (sym shows.states)
        (subst (λ n. ComeUpApart n k.chain.states h.forms (terminator_leave k.chain.terminator h.bottom c.answers (born_flags made (lost_kept s k o))).results) opens.left.thread
        (subst (λ u. ComeUpApart o.thread (cond u (with_parts k.chain o (parts_of (s.outcome o.payload))) k.chain).states (cond u (with_forms o (parts_of (s.outcome o.payload)) h) h).forms
        (terminator_leave (cond u (with_parts k.chain o (parts_of (s.outcome o.payload))) k.chain).terminator (cond u (with_forms o (parts_of (s.outcome o.payload)) h) h).bottom c.answers (born_flags made (lost_kept s k o))).results) (stays goes)
        (returns.steps.sent goes))))

    pub may_come_up : MayComeUp x (rising_again x e call replies) held
    may_come_up = record {
      guarded = ap is_guarded shows.states ∙ returns.guarded;
      count = opens.count ∙ ap (λ (ds : List ℕ). length ds) (sym drivers_are);
      rise = record { forms = h.forms; holds = holds_so; whole = whole_is; apart = apart_is };
    }

    pub departed_sent : (y : SessionParts) (count : ℕ) → ComesUp x e call held replies y count → Departed s k c h y count
    departed_sent y count up =
        let keeps : KeepsChain y.states.kept y.terminator y.names.kept.handed (record (chain_after_return s k c h) { held = [] })
        = subst (KeepsChain y.states.kept y.terminator y.names.kept.handed) chain_is (up.chain h.forms holds_so) in
        record {
          births = y.names.kept.births;
          since = subst (λ (given : List Birth). AreAdded k.births given y.names.kept.births) (λ i. births_given k.births (args_are i) (row_of (sym opens.left.cmd i)).effect (objects_of (made_is i)))
              (subst (λ (bs : List Birth). AreAdded bs (births_given bs (opened_again x e call).args (row_of e.cmd).effect (objects_of (made_again x e call))) y.names.kept.births) shows.births up.births);
          same = record {
            names = λ q. up.names q ∙ (λ i. object_in (shows.names i ++ map named_of (made_is i)) q);
            handed = keeps.handed;
          };
          shows = record {
            names = refl;
            count = up.names_count ∙ (λ i. shows.count i + length (made_is i));
            births = refl;
            retrieved = up.retrieved ∙ (λ i. shows.retrieved i ++ retrieved_by (shows.births i) (again_is i) (made_is i));
            states = ap (λ (ck : ChainKept). ck.states) keeps.chain;
            ids = ap (λ (ck : ChainKept). ck.terminator) keeps.chain;
            routes = ap (λ (ck : ChainKept). ck.routes) keeps.chain;
            handed = refl;
            drivers = up.drivers ∙ shows.drivers;
          };
          counted = up.counted ∙ ap (λ (ms : List Born). length ms) made_is;
        }

  -- ---- a skipped one

  pub departed_skipped : (states : ChainState) → is_skipped c.opened ≡ true
      → ((forms : List CallContent) → IsHeldOf held (kinds_of x.states.kept) forms → states.kept ≡ (leave_parts e.thread x.states.kept forms (map (λ _. 0) e.results)).states) → Departed s k c h (record x { states = states }) 0
  departed_skipped states skipped left =
      let none : made ≡ [] = made_skipped s.drivers k.births (born_in k.births) k.retrieved o skipped in
      let lost : lost_kept s k o ≡ e.results = ap (λ (ms : List Born). drop (length ms) o.results) none ∙ opens.left.results in
      let chain : record (after_skipped k.chain o h (lost_kept s k o)) { held = [] } ≡ record (chain_after_return s k c h) { held = [] }
      = ap (λ u. record (cond u (after_skipped k.chain o h (lost_kept s k o)) (after_reply (in_force s k.chain o) o (held_in_force s o h) c.answers made (lost_kept s k o))) { held = [] }) (sym skipped) in
      record {
        births = k.births;
        since = subst (λ (given : List Birth). AreAdded k.births given k.births) (sym (ap (λ (ms : List Born). births_given k.births o.args (row_of o.cmd).effect (objects_of ms)) none ∙ none_given k.births o.args (row_of o.cmd).effect)) (none_added k.births);
        same = record {
          names = λ q. ap (λ (ns : List Named). object_in ns q) (shows.names ∙ (sym (append-nil k.names) ∙ ap (λ (ms : List Born). k.names ++ map named_of ms) (sym none)));
          handed = λ q. ap (λ (hs : List Handed). handle_in hs q) (shows.handed ∙ ap (λ (ck : ChainKept). ck.handed) chain);
        };
        shows = record {
          names = refl;
          count = let more : k.count ≡ k.count + 0 = omega arith in shows.count ∙ (more ∙ ap (λ (ms : List Born). k.count + length ms) (sym none));
          births = shows.births;
          retrieved = shows.retrieved ∙ (sym (append-nil k.retrieved) ∙ ap (λ (rs : List Retrieval). k.retrieved ++ rs) (sym (ap (retrieved_by k.births o) none ∙ none_retrieved k.births o)));
          states = left h.forms holds_so
              ∙ ((λ i. (leave_parts (sym opens.left.thread i) (shows.states i) h.forms (map (λ (n : Name). 0) (sym lost i))).states) ∙ ap (λ (ck : ChainKept). ck.states) chain);
          ids = shows.ids ∙ ap (λ (ck : ChainKept). ck.terminator) chain;
          routes = shows.routes ∙ ap (λ (ck : ChainKept). ck.routes) chain;
          handed = refl;
          drivers = shows.drivers;
        };
        counted = ap (λ (ms : List Born). length ms) (sym none);
      }

-- ---- whatever the parts keep

-- a call that may leave may come up, unless it is skipped
pub can_come_up : (x : SessionParts) (e : BeginEvent) (call : CallContent) (held : HeldCalls) (skip : Bool) (replies : List ReplyContent) → CanLeave x e call held skip replies → skip ≡ false → MayComeUp x (rising_again x e call replies) held
can_come_up x e call held skip replies can goes =
    may_come_up can.setup x can.kept e call held skip replies can.sent can.form can.shows can.opens can.stays can.returns (sym can.opens.left.skips ∙ goes)

pub leaves_sent : (x y : SessionParts) (e : BeginEvent) (call : CallContent) (held : HeldCalls) (skip : Bool) (replies : List ReplyContent) (count : ℕ) → skip ≡ false → ComesUp x e call held replies y count
    → Leaves x e call held skip replies y count
leaves_sent x y e call held skip replies count goes up = λ s k c h shows opens stays returns. departed_sent s x k e call held skip replies c h shows opens stays returns (sym opens.left.skips ∙ goes) y count up

pub leaves_skipped : (x : SessionParts) (states : ChainState) (e : BeginEvent) (call : CallContent) (held : HeldCalls) (skip : Bool) (replies : List ReplyContent) → skip ≡ true
    → ((forms : List CallContent) → IsHeldOf held (kinds_of x.states.kept) forms → states.kept ≡ (leave_parts e.thread x.states.kept forms (map (λ _. 0) e.results)).states) → Leaves x e call held skip replies (record x { states = states }) 0
leaves_skipped x states e call held skip replies skipped left = λ s k c h shows opens stays returns. departed_skipped s x k e call held skip replies c h shows opens stays returns states (sym opens.left.skips ∙ skipped) left

-- its parts are guarded
pub can_guarded : (x : SessionParts) (e : BeginEvent) (call : CallContent) (held : HeldCalls) (skip : Bool) (replies : List ReplyContent) → CanLeave x e call held skip replies → is_guarded x.states.kept ≡ true
can_guarded x e call held skip replies can = ap is_guarded can.shows.states ∙ can.returns.guarded
