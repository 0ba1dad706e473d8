-- Parts whose names lend the lists that a call fills.
use Rattle.std.proofs.Common.{◌≡◌, ◌+◌, ℕ, arith, length, subst, sym}
use Rattle.command_tables.specs.Calls.{CallContent}
use Rattle.command_tables.specs.declared.call.LayerCall.{LayerCall}
use Rattle.lifetime_layer.specs.declared.verdict.Verdict.{Verdict}
use Rattle.replay_model.specs.Past.{Opened}
use Rattle.dispatch_chain.specs.Holding.{HeldCalls}
use Rattle.dispatch_chain.specs.Room.{AllHaveBirths, ChainState, KeepUses}
use Rattle.session_model.specs.Living.{ArePast}
use Rattle.session_parts.specs.declared.parts.SessionParts.{SessionParts}
use Rattle.session_parts.specs.Judging.{ComesDown, found_at}
use Rattle.session_parts.specs.Names.{NameTableState, NamesKept, NamesRoom, TakesRoom}
use Rattle.session_parts.specs.Room.{HasRoomToComeDown, LosesNoRoom, TakesResults}
use Rattle.session_parts.specs.Scratch.{KeepsScratch}
use Rattle.session_parts.proofs.CameUp.{took_with}
use Rattle.session_parts.proofs.Capacities.{keeps_all}

-- where nothing is kept, no room is taken
pub takes_none : (n k : ℕ) (r : NamesRoom) → TakesRoom n k r r
takes_none n k r = record {
  names = omega arith;
  births = omega arith;
  links = omega arith;
  owners = omega arith;
  handed = omega arith;
  retrieved = omega arith;
  bytes = omega arith;
  scratch = keeps_all r.scratch;
}

-- results that are lost take none of the room of names, nor at the chain's end
pub lost_takes : (x : SessionParts) (o : Opened) (call : CallContent) (states : ChainState) → ((n : ℕ) → AllHaveBirths (n + length o.results) x.states.rooms → AllHaveBirths n states.rooms) → KeepUses x.states.rooms states.rooms
    → TakesResults x o call (record x { states = states })
lost_takes x o call states births uses = record {
  names = λ few. takes_none _ _ x.names.room;
  births = births;
  uses = uses;
  spare = omega arith;
  values = omega arith;
  bytes = omega arith;
}

module _ (x y : SessionParts) (n last : NameTableState) (o : Opened) (same : n.kept ≡ x.names.kept) where
  abbrev lent : NamesKept → SessionParts
  lent k = record x { names = record { kept = k; room = n.room } }

  -- there is room for a call still
  pub room_lent : (p : Opened) (wide many : ℕ) (form : LayerCall) (held : HeldCalls) (findings : ℕ) → o ≡ p → many ≡ wide → HasRoomToComeDown x p wide form held findings → HasRoomToComeDown (record x { names = n }) o many form held findings
  room_lent p wide many form held findings is as_wide room =
      let h : HasRoomToComeDown x o wide form held findings = subst (λ (q : Opened). HasRoomToComeDown x q wide form held findings) (sym is) room in
      let g : HasRoomToComeDown x o many form held findings = subst (λ w. HasRoomToComeDown x o w form held findings) (sym as_wide) h in
      subst (λ (k : NamesKept). HasRoomToComeDown (lent k) o many form held findings) (sym same) (record { handles = g.handles; form = g.form; roomy = g.roomy; first = g.first; found = g.found; held = g.held })

  -- it came down
  pub down_lent : (form : CallContent) (held : HeldCalls) (verdict : Verdict) → last.kept ≡ y.names.kept → ComesDown (record x { names = n }) o form held verdict y → ComesDown x o form held verdict (record y { names = last })
  down_lent form held verdict stay down =
      let h : ComesDown (lent x.names.kept) o form held verdict y = subst (λ (k : NamesKept). ComesDown (lent k) o form held verdict y) same down in
      let p : Opened = record o { stop = (found_at x.names.kept.births x.states.kept x.names.kept.handed o).stop } in
      record {
        found = h.found;
        passes = record {
          past = subst (λ (k : NamesKept). ArePast x.names.kept.births p k.births) (sym stay) h.passes.past;
          names = subst (λ (k : NamesKept). k ≡ record x.names.kept { births = k.births }) (sym stay) h.passes.names;
          terminator = h.passes.terminator;
        };
      }

  -- and lost no room
  pub none_lost : (form0 form1 : LayerCall) (held0 held1 : HeldCalls) (verdict0 verdict1 : Verdict) → n.room ≡ record x.names.room { scratch = n.room.scratch } → last.room ≡ record y.names.room { scratch = last.room.scratch } → KeepsScratch x.names.room.scratch last.room.scratch
      → LosesNoRoom (record x { names = n }) form0 held0 verdict0 y form1 held1 verdict1 → LosesNoRoom x form0 held0 verdict0 (record y { names = last }) form1 held1 verdict1
  none_lost form0 form1 held0 held1 verdict0 verdict1 rooms there keeps h = record {
    names = took_with 0 0 x.names.room last.room n.room y.names.room rooms there keeps h.names;
    states = h.states;
    terminator = h.terminator;
    form = h.form;
    held = h.held;
    findings = h.findings;
  }
