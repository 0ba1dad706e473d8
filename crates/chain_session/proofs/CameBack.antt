-- The steps of a call that comes back, put together.
use Rattle.std.proofs.Common.{◌≡◌, ◌∙◌, ◌+◌, ◌++◌, ℕ, List, length, map, ap, subst, sym}
use Rattle.command_tables.specs.Calls.{CallContent}
use Rattle.command_tables.specs.Table.{row_of}
use Rattle.trace_format.specs.declared.event.Name.{Name}
use Rattle.object_model.specs.History.{Birth, births_given, born_in}
use Rattle.replay_model.specs.declared.Born.{Born}
use Rattle.replay_model.specs.Births.{made_by}
use Rattle.replay_model.specs.Past.{Retrieval, named_of, object_in, objects_of, retrieved_by}
use Rattle.terminator.specs.Calls.{TerminatorState}
use Rattle.dispatch_chain.specs.Holding.{IsHeldOf}
use Rattle.dispatch_chain.specs.Seats.{kinds_of}
use Rattle.dispatch_chain.specs.Room.{ChainState}
use Rattle.session_tables.specs.Lined.{AreAdded}
use Rattle.session_tables.specs.Shown.{args_shown}
use Rattle.session_parts.specs.declared.parts.SessionParts.{SessionParts}
use Rattle.session_parts.specs.Names.{NameTableState, NamesKept}
use Rattle.session_parts.specs.Leaving.{KeepsChain, chain_at}
use Rattle.chain_session.specs.declared.call.OpenCall.{OpenCall}
use Rattle.chain_session.specs.Opened.{opened_of}
use Rattle.chain_session.specs.Raising.{ComesBack, chain_raised, made_at}

-- what is born, by what the tables show
pub made_so : (x : SessionParts) (p : OpenCall) (drivers : ℕ) (births : List Birth) (retrieved : List Retrieval) (born : List Born) → drivers ≡ x.terminator.drivers → births ≡ x.names.kept.births → retrieved ≡ x.names.kept.retrieved
    → born ≡ made_by drivers births (born_in births) retrieved (opened_of p) → born ≡ made_at x p
made_so x p drivers births retrieved born is_drivers is_births is_retrieved is =
    is
    ∙ (ap (λ n. made_by n births (born_in births) retrieved (opened_of p)) is_drivers
    ∙ (ap (λ (bs : List Birth). made_by x.terminator.drivers bs (born_in bs) retrieved (opened_of p)) is_births
    ∙ ap (λ rs. made_by x.terminator.drivers x.names.kept.births (born_in x.names.kept.births) rs (opened_of p)) is_retrieved))

module _ (x : SessionParts) (p : OpenCall) (states : ChainState) (t : TerminatorState) (raised : NamesKept) (settled : NameTableState) (count : ℕ) where
  -- by what was made
  came_back_with : count ≡ length (made_at x p) → raised ≡ record x.names.kept { handed = raised.handed }
      → ((forms : List CallContent) → IsHeldOf p.held (kinds_of x.states.kept) forms → KeepsChain states.kept t raised.handed (chain_raised (chain_at x.states.kept x.terminator x.names.kept.handed) p forms (made_at x p)))
      → t.drivers ≡ x.terminator.drivers → ((q : Name) → object_in settled.kept.names q ≡ object_in (raised.names ++ map named_of (made_at x p)) q) → settled.kept.count ≡ raised.count + length (made_at x p)
      → AreAdded raised.births (births_given raised.births (args_shown p.args.items) (row_of p.cmd).effect (objects_of (made_at x p))) settled.kept.births
      → settled.kept.retrieved ≡ raised.retrieved ++ retrieved_by raised.births (opened_of p) (made_at x p) → settled.kept.handed ≡ raised.handed
      → ComesBack x p (record { states = states; terminator = t; names = settled }) count
  came_back_with counted rest chain drivers names names_count births retrieved handed = record {
    counted = counted;
    names = λ q. names q ∙ ap (λ (n : NamesKept). object_in (n.names ++ map named_of (made_at x p)) q) rest;
    names_count = names_count ∙ ap (λ (n : NamesKept). n.count + length (made_at x p)) rest;
    births = subst (λ (n : NamesKept). AreAdded n.births (births_given n.births (args_shown p.args.items) (row_of p.cmd).effect (objects_of (made_at x p))) settled.kept.births) rest births;
    retrieved = retrieved ∙ ap (λ (n : NamesKept). n.retrieved ++ retrieved_by n.births (opened_of p) (made_at x p)) rest;
    chain = λ forms h. subst (λ hs. KeepsChain states.kept t hs (chain_raised (chain_at x.states.kept x.terminator x.names.kept.handed) p forms (made_at x p))) (sym handed) (chain forms h);
    drivers = drivers;
  }

  -- by what was handed on
  pub came_back : (born first second : List Born) → born ≡ made_at x p → first ≡ born → second ≡ born → count ≡ length born → raised ≡ record x.names.kept { handed = raised.handed }
      → ((forms : List CallContent) → IsHeldOf p.held (kinds_of x.states.kept) forms → KeepsChain states.kept t raised.handed (chain_raised (chain_at x.states.kept x.terminator x.names.kept.handed) p forms first))
      → t.drivers ≡ x.terminator.drivers → ((q : Name) → object_in settled.kept.names q ≡ object_in (raised.names ++ map named_of second) q) → settled.kept.count ≡ raised.count + length second
      → AreAdded raised.births (births_given raised.births (args_shown p.args.items) (row_of p.cmd).effect (objects_of second)) settled.kept.births
      → settled.kept.retrieved ≡ raised.retrieved ++ retrieved_by raised.births (opened_of p) second → settled.kept.handed ≡ raised.handed
      → ComesBack x p (record { states = states; terminator = t; names = settled }) count
  came_back born first second is one two counted rest chain drivers names names_count births retrieved handed =
      came_back_with
      (counted ∙ ap (λ (ms : List Born). length ms) is)
      rest
      (λ forms h. subst (λ ms. KeepsChain states.kept t raised.handed (chain_raised (chain_at x.states.kept x.terminator x.names.kept.handed) p forms ms)) (one ∙ is) (chain forms h))
      drivers
      (λ q. names q ∙ ap (λ ms. object_in (raised.names ++ map named_of ms) q) (two ∙ is))
      (names_count ∙ ap (λ (ms : List Born). raised.count + length ms) (two ∙ is))
      (subst (λ (ms : List Born). AreAdded raised.births (births_given raised.births (args_shown p.args.items) (row_of p.cmd).effect (objects_of ms)) settled.kept.births) (two ∙ is) births)
      (retrieved ∙ ap (λ ms. raised.retrieved ++ retrieved_by raised.births (opened_of p) ms) (two ∙ is))
      handed
