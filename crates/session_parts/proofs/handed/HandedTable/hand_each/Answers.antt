use Rattle.std.proofs.Common.{◌≡◌, ◌∙◌, ◌++◌, ◌∷◌, [], List, ap, arith, drop, length, length-append, suc}
use Rattle.std.proofs.lemmas.Slice.Zip.{zip_end, zip_turn}
use Rattle.chain_model.specs.Handed.{Handed, hand_all, hand_one, handle_in}
use Rattle.chain_model.proofs.Handing.{hand_all_alike}
use Rattle.session_parts.proofs.Places.{hand_turn, none_left}
use Rattle.session_parts.proofs.handed.HandedTable.hand_each.Goals as goal

pub returns-clause-ok : goal.returns-clause-ok
returns-clause-ok c = λ q.
    let n = zip_end c.args.made.now c.args.handles.now c.loop-born.yielded c.into_iter-born-iterator.result c.loop-born.born-iterator c.next.new.self c.next.result (cc) (cc) c.loop-born.yielded_by c.in-None.is c.next.ensures.steps in
    ap (λ (hs : List Handed). handle_in hs q) (none_left c.loop-born.self.handed c.args.made.now c.args.handles.now (length c.loop-born.yielded) n) ∙ c.loop-born.invariant.handed q

pub loop-born-preserved : goal.loop-born-preserved
loop-born-preserved c =
    let k = length c.loop-born.yielded in
    let n = length (c.loop-born.yielded ++ (c.in-Some.born, c.in-Some.handle) ∷ []) in
    let long : n ≡ suc k = omega (arith, length-append c.loop-born.yielded ((c.in-Some.born, c.in-Some.handle) ∷ [])) in
    let now = zip_turn c.args.made.now c.args.handles.now c.loop-born.yielded c.into_iter-born-iterator.result c.loop-born.born-iterator c.next.new.self c.next.result (cc) (cc) c.loop-born.yielded_by (c.in-Some.born, c.in-Some.handle) c.in-Some.is c.next.ensures.steps in
    let first : List Handed = hand_one c.in-Some.born.now.object c.in-Some.handle.now c.loop-born.self.handed in
    let turn : hand_all first (drop n c.args.made.now) (drop n c.args.handles.now) ≡ hand_all c.loop-born.self.handed (drop k c.args.made.now) (drop k c.args.handles.now) =
    ap (λ m. hand_all first (drop m c.args.made.now) (drop m c.args.handles.now)) long
    ∙ hand_turn c.loop-born.self.handed c.args.made.now c.args.handles.now k c.in-Some.born.now c.in-Some.handle.now now.0 now.1 (now.2 c.in-Some.born.now) (now.3 c.in-Some.handle.now) in
    record {
      handed = λ q. hand_all_alike c.hand.new.self.handed first c.in_ok-hand.ensures.ok (drop n c.args.made.now) (drop n c.args.handles.now) q ∙ (ap (λ (hs : List Handed). handle_in hs q) turn ∙ c.loop-born.invariant.handed q);
      spare = omega (arith, c.loop-born.invariant.spare, c.in_ok-hand.ensures.spare, long);
    }
