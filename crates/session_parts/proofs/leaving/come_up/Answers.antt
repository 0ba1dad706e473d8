use Rattle.std.proofs.Common.{◌≡◌, ◌∙◌, ◌≤◌, ◌+◌, ◌*◌, List, ap, arith, length, subst, sym}
use Rattle.command_tables.specs.Calls.{call_content}
use Rattle.command_tables.specs.Table.{row_of}
use Rattle.object_model.specs.Keys.{key_payload}
use Rattle.replay_model.specs.declared.Born.{Born}
use Rattle.terminator.specs.Calls.{drivers_for}
use Rattle.terminator.specs.Room.{bytes_with}
use Rattle.dispatch_chain.specs.Room.{AllHaveBirths}
use Rattle.session_tables.specs.Lined.{owners_made}
use Rattle.session_parts.specs.Leaving.{made_of}
use Rattle.session_parts.specs.Names.{NamesKept}
use Rattle.session_parts.specs.Opened.{returning_shown}
use Rattle.session_parts.proofs.CameUp.{all_counted, born_so, settles, took_up}
use Rattle.session_parts.proofs.leaving.come_up.Goals as goal

pub returns-in_err-rise-clause-succeeds : goal.returns-in_err-rise-clause-succeeds
returns-in_err-rise-clause-succeeds g c = λ fits room.
    let x = c.args.parts.now in
    let o = returning_shown c.args.returning in
    let is : c.put_made.new.all.items ≡ made_of x o
    = born_so x o c.drivers.result c.objects.result.now.births c.retrieved.result.now.kept c.put_made.new.all.items c.objects.ensures c.retrieved.ensures c.drivers.ensures c.in_ok-put_made.ensures.made in
    let all = all_counted x o c.deref-2.result.now c.deref.result.now c.lost_results-lost.result.now (c.deref-2.ensures.value ∙ is) (c.deref.ensures.value ∙ sym c.deref-2.ensures.value) c.lost_results-lost.ensures in
    let wrong = c.in_err-rise.ensures.succeeds (omega (arith, all.1, room.results)) (λ hs n. room.ends hs (n ∙ all.1)) (subst (λ m. AllHaveBirths m x.states.rooms) (sym all.1) room.parts) (omega (arith, all.0, room.names.handed)) in
    cc wrong

pub returns-in_err-settle-clause-succeeds : goal.returns-in_err-settle-clause-succeeds
returns-in_err-settle-clause-succeeds g c = λ fits room.
    let x = c.args.parts.now in
    let y = c.rise.new.parts in
    let o = returning_shown c.args.returning in
    let is : c.put_made.new.all.items ≡ made_of x o
    = born_so x o c.drivers.result c.objects.result.now.births c.retrieved.result.now.kept c.put_made.new.all.items c.objects.ensures c.retrieved.ensures c.drivers.ensures c.in_ok-put_made.ensures.made in
    let all = all_counted x o c.deref-3.result.now c.deref.result.now c.lost_results-lost.result.now (c.deref-3.ensures.value ∙ is) (c.deref.ensures.value ∙ sym c.deref-3.ensures.value) c.lost_results-lost.ensures in
    let owners : length (owners_made y.names.kept.births o.args (row_of o.cmd).effect) ≤ 3
    = subst (λ (n : NamesKept). length (owners_made n.births o.args (row_of o.cmd).effect) ≤ 3) (sym c.in_ok-rise.ensures.rest) room.owners in
    let wrong = c.in_err-settle.ensures.succeeds owners (settles (length c.deref-3.result.now) (length o.results) (length (key_payload o.cmd o.payload)) x.names.room y.names.room all.0 c.in_ok-rise.ensures.names_room room.names) in
    cc wrong

pub returns-clause-room : goal.returns-clause-room
returns-clause-room g c =
    let x = c.args.parts.now in
    let y = c.rise.new.parts in
    let o = returning_shown c.args.returning in
    let call = call_content c.args.call.now in
    let size = λ (bs : List Born). length bs in
    let is : c.put_made.new.all.items ≡ made_of x o
    = born_so x o c.drivers.result c.objects.result.now.births c.retrieved.result.now.kept c.put_made.new.all.items c.objects.ensures c.retrieved.ensures c.drivers.ensures c.in_ok-put_made.ensures.made in
    let up = all_counted x o c.deref-2.result.now c.deref.result.now c.lost_results-lost.result.now (c.deref-2.ensures.value ∙ is) (c.deref.ensures.value ∙ sym c.deref-2.ensures.value) c.lost_results-lost.ensures in
    let same : length c.deref-2.result.now ≡ length c.deref-3.result.now = ap size (c.deref-2.ensures.value ∙ sym c.deref-3.ensures.value) in
    let few : length c.deref-3.result.now ≤ length o.results = omega (arith, up.0, same) in
    let drivers = length (drivers_for x.terminator call) in
    let lost = length c.lost_results-lost.result.now in
    let values : (length c.deref-2.result.now + lost) * drivers ≡ length o.results * drivers = ap (λ m. m * drivers) up.1 in
    let bytes : (length c.deref-2.result.now + lost) * bytes_with call ≡ length o.results * bytes_with call = ap (λ m. m * bytes_with call) up.1 in
    record {
      names = λ owned. took_up (length c.deref-3.result.now) (length o.results) (length (key_payload o.cmd o.payload)) x.names.room y.names.room c.settle.new.self.room few c.in_ok-rise.ensures.names_room (omega (arith, c.in_ok-rise.ensures.handed_room, same))
          c.in_ok-settle.ensures.handed_room
          (c.in_ok-settle.ensures.room (subst (λ (n : NamesKept). length (owners_made n.births o.args (row_of o.cmd).effect) ≤ 3) (sym c.in_ok-rise.ensures.rest) owned));
      births = λ n h. c.in_ok-rise.ensures.births n (subst (λ m. AllHaveBirths (n + m) x.states.rooms) (sym up.1) h);
      uses = c.in_ok-rise.ensures.uses;
      spare = omega (arith, c.in_ok-rise.ensures.spare, up.1);
      values = omega (arith, c.in_ok-rise.ensures.values, values);
      bytes = omega (arith, c.in_ok-rise.ensures.bytes, bytes);
    }
