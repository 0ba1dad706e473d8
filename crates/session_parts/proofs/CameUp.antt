-- The steps of a call that comes up, put together.
use Rattle.std.proofs.Common.{◌≡◌, ◌∙◌, ◌≤◌, ◌+◌, ◌-◌, ◌*◌, ◌++◌, ℕ, List, [], drop, length, length-drop, map, ap, arith, subst, sym}
use Rattle.command_tables.specs.Calls.{CallContent, ReplyContent}
use Rattle.command_tables.specs.Table.{row_of}
use Rattle.trace_format.specs.Content.{BeginEvent}
use Rattle.trace_format.specs.declared.event.Name.{Name}
use Rattle.object_model.specs.declared.Object.{Object}
use Rattle.object_model.specs.History.{Birth, births_given, born_in}
use Rattle.object_model.specs.Values.{Value}
use Rattle.replay_model.specs.declared.Born.{Born}
use Rattle.replay_model.specs.Births.{made_by}
use Rattle.replay_model.specs.Past.{Opened, Retrieval, named_of, object_in, objects_of, retrieved_by}
use Rattle.layer_model.specs.Ids.{IssuedAll}
use Rattle.layer_model.specs.Walks.{leave_parts}
use Rattle.chain_model.specs.Handed.{Handed, hand_all, handle_in}
use Rattle.terminator.specs.Calls.{TerminatorState, routes_left}
use Rattle.dispatch_chain.specs.Holding.{HeldCalls, IsHeldOf}
use Rattle.dispatch_chain.specs.Seats.{kinds_of}
use Rattle.dispatch_chain.specs.Room.{ChainState}
use Rattle.session_tables.specs.Lined.{AreAdded}
use Rattle.session_parts.specs.declared.parts.SessionParts.{SessionParts}
use Rattle.session_parts.specs.Leaving.{ComesUp, HasComeUp, KeepsChain, MayComeUp, Rising, chain_up, left_of, made_of, opened_again, rising_again, rising_of}
use Rattle.session_parts.specs.Names.{CanKeep, CanSettle, NameTableState, NamesKept, NamesRoom, TakesRoom}
use Rattle.session_parts.specs.Room.{HasRoomToComeUp, TakesResults, key_bytes}
use Rattle.session_parts.specs.Scratch.{KeepsScratch}
use Rattle.session_parts.proofs.Fewer.{made_few}
use Rattle.session_parts.proofs.Passing.{times_within}

-- ---- through the chain

-- the terminator, the parts and the handles
pub risen : (x : SessionParts) (r : Rising) (forms : List CallContent) (all : IssuedAll (List Value)) (states : ChainState) (t : TerminatorState) (above : List ℕ) (names : NameTableState) → all ≡ left_of x.terminator r → t.ids ≡ all.ids
    → t.routes ≡ routes_left x.terminator r.call all.results → states.kept ≡ (leave_parts r.thread x.states.kept forms all.results).states → above ≡ (leave_parts r.thread x.states.kept forms all.results).results
    → ((q : Object) → handle_in names.kept.handed q ≡ handle_in (hand_all x.names.kept.handed r.made above) q) → KeepsChain states.kept t names.kept.handed (chain_up x r forms)
risen x r forms all states t above names is ids routes stand up hands = record {
  chain = (λ i. record {
    states = stand i;
    terminator = ids i;
    routes = routes i;
    handed = names.kept.handed;
    held = [];
  })
      ∙ (λ i. record {
        states = (leave_parts r.thread x.states.kept forms (is i).results).states;
        terminator = (is i).ids;
        routes = routes_left x.terminator r.call (is i).results;
        handed = names.kept.handed;
        held = [];
      });
  handed = λ q. hands q ∙ (ap (λ hs. handle_in (hand_all x.names.kept.handed r.made hs) q) up ∙ (λ i. handle_in (hand_all x.names.kept.handed r.made (leave_parts r.thread x.states.kept forms (is i).results).results) q));
}

-- ---- all steps

-- what is born, by what the tables show
pub born_so : (x : SessionParts) (o : Opened) (drivers : ℕ) (births : List Birth) (kept : List Retrieval) (born : List Born) → births ≡ x.names.kept.births → kept ≡ x.names.kept.retrieved → drivers ≡ x.terminator.drivers
    → born ≡ made_by drivers births (born_in births) kept o → born ≡ made_of x o
born_so x o drivers births kept born is_births is_kept is_drivers is = is ∙ (λ i. made_by (is_drivers i) (is_births i) (born_in (is_births i)) (is_kept i) o)

module _ (x : SessionParts) (o : Opened) (call : CallContent) (held : HeldCalls) (replies : List ReplyContent) where
  -- what comes up
  pub rising_so : (born lost_by : List Born) (lost : List Name) → born ≡ made_of x o → lost_by ≡ born → lost ≡ drop (length lost_by) o.results → record { thread = o.thread; call = call; replies = replies; made = born; lost = lost } ≡ rising_of x o call replies
  rising_so born lost_by lost is same there =
      let lost_is : lost ≡ drop (length (made_of x o)) o.results = there ∙ ap (λ (ms : List Born). drop (length ms) o.results) (same ∙ is) in
      λ i. record { thread = o.thread; call = call; replies = replies; made = is i; lost = lost_is i }

  pub may_rise : (r : Rising) → r ≡ rising_of x o call replies → MayComeUp x (rising_of x o call replies) held → MayComeUp x r held
  may_rise r is may = subst (λ (q : Rising). MayComeUp x q held) (sym is) may

  pub came_up : (y : SessionParts) (settled : NameTableState) (r : Rising) (count : ℕ) (born : List Born) → born ≡ made_of x o → count ≡ length born → r ≡ rising_of x o call replies
      → ((forms : List CallContent) → IsHeldOf held (kinds_of x.states.kept) forms → KeepsChain y.states.kept y.terminator y.names.kept.handed (chain_up x r forms)) → y.terminator.drivers ≡ x.terminator.drivers → y.names.kept ≡ record x.names.kept { handed = y.names.kept.handed }
      → ((q : Name) → object_in settled.kept.names q ≡ object_in (y.names.kept.names ++ map named_of born) q) → settled.kept.count ≡ y.names.kept.count + length born → AreAdded y.names.kept.births (births_given y.names.kept.births o.args (row_of o.cmd).effect (objects_of born)) settled.kept.births
      → settled.kept.retrieved ≡ y.names.kept.retrieved ++ retrieved_by y.names.kept.births o born → settled.kept.handed ≡ y.names.kept.handed → HasComeUp x o call held replies (record y { names = settled }) count
  came_up y settled r count born is counted rises chain drivers old kept many births retrieved handed = record {
    counted = counted ∙ ap (λ (ms : List Born). length ms) is;
    names = λ q. kept q ∙ (λ i. object_in ((old i).names ++ map named_of (is i)) q);
    names_count = many ∙ (λ i. (old i).count + length (is i));
    births = subst (λ (bs : List Birth). AreAdded bs (births_given bs o.args (row_of o.cmd).effect (objects_of (made_of x o))) settled.kept.births) (ap (λ (n : NamesKept). n.births) old)
        (subst (λ (ms : List Born). AreAdded y.names.kept.births (births_given y.names.kept.births o.args (row_of o.cmd).effect (objects_of ms)) settled.kept.births) is births);
    retrieved = retrieved ∙ (λ i. (old i).retrieved ++ retrieved_by (old i).births o (is i));
    chain = λ forms h. subst (λ (hs : List Handed). KeepsChain y.states.kept y.terminator hs (chain_up x (rising_of x o call replies) forms)) (sym handed)
        (subst (λ (q : Rising). KeepsChain y.states.kept y.terminator y.names.kept.handed (chain_up x q forms)) rises (chain forms h));
    drivers = drivers;
  }

-- ---- room

-- no more results are born than there are, and the others are lost
pub all_counted : (x : SessionParts) (o : Opened) (born lost_by : List Born) (lost : List Name) → born ≡ made_of x o → lost_by ≡ born → lost ≡ drop (length lost_by) o.results → (length born ≤ length o.results) × (length born + length lost ≡ length o.results)
all_counted x o born lost_by lost is same there =
    let few : length (made_of x o) ≤ length o.results = made_few x.terminator.drivers x.names.kept.births (born_in x.names.kept.births) x.names.kept.retrieved o in
    let n : length born ≡ length (made_of x o) = ap (λ (ms : List Born). length ms) is in
    let m : length lost_by ≡ length born = ap (λ (ms : List Born). length ms) same in
    let d : length lost ≡ length o.results - length lost_by = ap (λ (ns : List Name). length ns) there ∙ length-drop (length lost_by) o.results in
    (omega (arith, few, n), omega (arith, few, n, m, d))

-- where so many fit, fewer do, also when their handles have come
pub settles : (c n d : ℕ) (a y : NamesRoom) → c ≤ n → y ≡ record a { handed = y.handed } → CanKeep n (n * d) a → CanSettle c (c * d) y
settles c n d a y few is h = subst (λ (r : NamesRoom). CanSettle c (c * d) r) (sym is) (record {
  names = omega (arith, few, h.settle.names);
  births = omega (arith, few, h.settle.births);
  links = omega (arith, few, h.settle.links);
  owners = h.settle.owners;
  retrieved = omega (arith, few, h.settle.retrieved);
  bytes = omega (arith, times_within c n d few, h.settle.bytes);
})

-- results that were handed and settled take no more room than all
pub took_up : (c n d : ℕ) (a y s : NamesRoom) → c ≤ n → y ≡ record a { handed = y.handed } → a.handed ≤ y.handed + c → s.handed ≡ y.handed → TakesRoom c (c * d) y s → TakesRoom n (n * d) a s
took_up c n d a y s few is given same took =
    let h : TakesRoom c (c * d) (record a { handed = y.handed }) s = subst (λ (r : NamesRoom). TakesRoom c (c * d) r s) is took in
    record {
      names = omega (arith, few, h.names);
      births = omega (arith, few, h.births);
      links = omega (arith, few, h.links);
      owners = h.owners;
      handed = omega (arith, few, given, same);
      retrieved = omega (arith, few, h.retrieved);
      bytes = omega (arith, times_within c n d few, h.bytes);
      scratch = h.scratch;
    }

-- while the lists that a call fills were taken and given back
pub took_with : (c k : ℕ) (a b n y : NamesRoom) → n ≡ record a { scratch = n.scratch } → b ≡ record y { scratch = b.scratch } → KeepsScratch a.scratch b.scratch → TakesRoom c k n y → TakesRoom c k a b
took_with c k a b n y is there keeps took =
    let h : TakesRoom c k (record a { scratch = n.scratch }) y = subst (λ (r : NamesRoom). TakesRoom c k r y) is took in
    subst (λ (r : NamesRoom). TakesRoom c k a r) (sym there) (record {
      names = h.names;
      births = h.births;
      links = h.links;
      owners = h.owners;
      handed = h.handed;
      retrieved = h.retrieved;
      bytes = h.bytes;
      scratch = keeps;
    })

-- ---- by an event

-- while the names lend their lists
module _ (x : SessionParts) (e : BeginEvent) (call : CallContent) (held : HeldCalls) (replies : List ReplyContent) (n : NameTableState) (o : Opened) (same : n.kept ≡ x.names.kept) (is : o ≡ opened_again x e call) where
  abbrev lent : NamesKept → SessionParts
  lent k = record x { names = record { kept = k; room = n.room } }

  pub again_may : MayComeUp x (rising_again x e call replies) held → MayComeUp (record x { names = n }) (rising_of (record x { names = n }) o call replies) held
  again_may may =
      let may_so : MayComeUp x (rising_of x o call replies) held = subst (λ (p : Opened). MayComeUp x (rising_of x p call replies) held) (sym is) may in
      subst (λ (k : NamesKept). MayComeUp (lent k) (rising_of (lent k) o call replies) held) (sym same) (record { guarded = may_so.guarded; count = may_so.count; rise = may_so.rise })

  pub again_up : (y : SessionParts) (last : NameTableState) (count : ℕ) → last.kept ≡ y.names.kept → HasComeUp (record x { names = n }) o call held replies y count → ComesUp x e call held replies (record y { names = last }) count
  again_up y last count stay up =
      let h : HasComeUp (lent x.names.kept) o call held replies y count = subst (λ (k : NamesKept). HasComeUp (lent k) o call held replies y count) same up in
      let g : HasComeUp (lent x.names.kept) o call held replies (record y { names = record { kept = last.kept; room = y.names.room } }) count
      = subst (λ (k : NamesKept). HasComeUp (lent x.names.kept) o call held replies (record y { names = record { kept = k; room = y.names.room } }) count) (sym stay) h in
      subst (λ (p : Opened). HasComeUp x p call held replies (record y { names = last }) count) is (record {
        counted = g.counted;
        names = g.names;
        names_count = g.names_count;
        births = g.births;
        retrieved = g.retrieved;
        chain = g.chain;
        drivers = g.drivers;
      })

  pub again_room : (many : ℕ) → n.room ≡ record x.names.room { scratch = n.room.scratch } → HasRoomToComeUp x (opened_again x e call) call many → HasRoomToComeUp (record x { names = n }) o call many
  again_room many rooms room =
      let h : HasRoomToComeUp x o call many = subst (λ (p : Opened). HasRoomToComeUp x p call many) (sym is) room in
      let keep : CanKeep (length o.results) (key_bytes o (length o.results)) n.room = subst (λ (r : NamesRoom). CanKeep (length o.results) (key_bytes o (length o.results)) r) (sym rooms) (record {
        settle = record {
          names = h.names.settle.names;
          births = h.names.settle.births;
          links = h.names.settle.links;
          owners = h.names.settle.owners;
          retrieved = h.names.settle.retrieved;
          bytes = h.names.settle.bytes;
        };
        handed = h.names.handed;
      }) in
      subst (λ (k : NamesKept). HasRoomToComeUp (lent k) o call many) (sym same) (record { owners = h.owners; names = keep; parts = h.parts; ends = h.ends; results = h.results })

  pub again_took : (y : SessionParts) (last : NameTableState) → n.room ≡ record x.names.room { scratch = n.room.scratch } → last.room ≡ record y.names.room { scratch = last.room.scratch } → KeepsScratch x.names.room.scratch last.room.scratch
      → TakesResults (record x { names = n }) o call y → TakesResults x (opened_again x e call) call (record y { names = last })
  again_took y last rooms there keeps took =
      let h : TakesResults (lent x.names.kept) o call y = subst (λ (k : NamesKept). TakesResults (lent k) o call y) same took in
      subst (λ (p : Opened). TakesResults x p call (record y { names = last })) is (record {
        names = λ few. took_with (length o.results) (key_bytes o (length o.results)) x.names.room last.room n.room y.names.room rooms there keeps (h.names few);
        births = h.births;
        uses = h.uses;
        spare = h.spare;
        values = h.values;
        bytes = h.bytes;
      })
