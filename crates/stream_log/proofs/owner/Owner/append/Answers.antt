use Rattle.std.proofs.Common.{◌≡◌, ◌<◌, ◌^◌, List, ℕ, [], ◌∷◌, ◌++◌, None, arith, refl, sym, ap, ◌∙◌, subst, length-append}
use Rattle.std.specs.Prelude.{Contains}
use Rattle.stream_log.specs.Log.{line, last_time}
use Rattle.stream_log.specs.LogRule.{Line, desk, codes, line_from}
use Rattle.stream_log.specs.LogOwner.{list_of, held_of}
use Rattle.stream_log.proofs.LogMoves.{grows_as, all_written, all_grown, line_back, length-codes-push}
use Rattle.std.proofs.lemmas.List.Elements.{All-push}
use Rattle.stream_log.proofs.Laws.{last_from-push}
use Rattle.stream_log.proofs.Rest.{at_rest}
use Rattle.stream_log.proofs.owner.Owner.append.Goals as goal

pub overflow_add-at : goal.overflow_add-at
overflow_add-at c = let a = c.self.invariant.room in let b = c.self.invariant.wide in record { fits = omega arith }

pub overflow_add-end : goal.overflow_add-end
overflow_add-end c = let a = c.self.invariant.room in let b = c.self.invariant.wide in record { fits = omega arith }

pub overflow_add-end-2 : goal.overflow_add-end-2
overflow_add-end-2 c =
    let a = c.self.invariant.room in
    let b = c.self.invariant.wide in
    let d = ap (λ o. o.results) c.self.view_is in
    let r = c.requires.room.1 in
    record { fits = omega arith }

pub store-requires : goal.store-requires
store-requires c =
    let own = c.self.invariant in
    let list = list_of c.self.inside.seat.me.0 in
    let held = held_of c.self.inside.seat.me.0 in
    let me = all_written list held c.args.time c.args.results.now _ _ _ own.idle c.write.ensures.written c.write-2.ensures.written in
    let id = c.write-2.ensures.same.0 ∙ c.write.ensures.same.0 ∙ ap (λ o. o.log) c.self.view_is ∙ c.requires.log ∙ sym c.log.view_is in
    let a = own.room in
    let d = ap (λ o. o.results) c.self.view_is in
    let e = ap (λ o. o.entries) c.self.view_is in
    let r = c.requires.room in
    let u = own.used in
    let k = c.log.invariant.0 in
    let z : c.self.inside.seat.table_id.words ≡ c.log.inside.table.shared.table_id.words = ap (λ t. t.words) (ap (λ o. o.log) c.self.view_is ∙ c.requires.log ∙ sym c.log.view_is) in
    let n = length-append (codes list) (c.args.time ∷ c.args.results.now) in (
      id,
      omega arith,
      grows_as _ _ _ _ _ (desk list (c.args.time ∷ c.args.results.now) held None) (line c.args.thread c.args.time c.args.begins c.args.results.now) [] _ me
          (omega arith)
          (omega arith)
          refl
          (ap (λ (w : ℕ). line_from (c.args.time ∷ c.args.results.now) w) c.mark-word.ensures ∙ line_back c.args.thread c.args.time c.args.begins c.args.results.now c.ranges.thread.fits)
          (ap (λ (w : ℕ). c.args.time ∷ c.args.results.now ++ w ∷ []) (sym c.mark-word.ensures))
          (subst (λ (l : List Line). last_time l < c.args.time) (sym (ap (λ o. o.list) c.self.view_is)) c.requires.time)
          (subst (λ (l : List ℕ). Contains l c.args.thread) (sym (ap (λ o. o.held) c.self.view_is)) c.requires.held),
    )

pub overflow_add-self : goal.overflow_add-self
overflow_add-self c =
    let a = c.self.invariant.room in
    let b = c.self.invariant.wide in
    let d = ap (λ o. o.results) c.self.view_is in
    let e = ap (λ o. o.entries) c.self.view_is in
    let r = c.requires.room in
    record { fits = omega arith }

pub invariant_of-self : goal.invariant_of-self
invariant_of-self c =
    let own = c.self.invariant in
    let list = list_of c.self.inside.seat.me.0 in
    let held = held_of c.self.inside.seat.me.0 in
    let before = all_written list held c.args.time c.args.results.now _ _ _ own.idle c.write.ensures.written c.write-2.ensures.written in
    let after = all_grown list held c.args.thread c.args.time c.args.begins c.args.results.now _ _ _ before c.store.ensures.2 c.mark-word.ensures c.ranges.thread.fits in
    let a = own.room in
    let b = own.wide in
    let f = own.few in
    let d = ap (λ o. o.results) c.self.view_is in
    let e = ap (λ o. o.entries) c.self.view_is in
    let r = c.requires.room in
    let u = own.used in
    let id = c.store.ensures.0 ∙ c.write-2.ensures.same.0 ∙ c.write.ensures.same.0 in
    let words : c.store.new.seat.table_id.words ≡ c.self.inside.seat.table_id.words = ap (λ t. t.words) id in
    let n = length-codes-push list c.args.thread c.args.time c.args.begins c.args.results.now in
    at_rest _ (list ++ line c.args.thread c.args.time c.args.begins c.args.results.now ∷ []) held after
    (omega arith)
    (omega arith)
    (omega arith)
    (omega arith)
    (All-push (λ (x : Line). x.thread < 2 ^ 32) list (line c.args.thread c.args.time c.args.begins c.args.results.now) own.plain c.ranges.thread.fits)
    (sym (last_from-push 0 list (line c.args.thread c.args.time c.args.begins c.args.results.now)))
