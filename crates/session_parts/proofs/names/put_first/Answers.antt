use Rattle.std.proofs.Common.{◌≡◌, ◌∙◌, ◌≤◌, ◌<◌, List, Vec, Global, Option, ap, arith, length, map, refl, vec_capacity}
use Rattle.std.proofs.lemmas.List.{length-map}
use Rattle.trace_format.specs.Content.{Arg, arg_content}
use Rattle.trace_format.specs.declared.event.Name.{Name}
use Rattle.object_model.specs.declared.Argument.{Argument}
use Rattle.replay_model.specs.Past.{argument_in}
use Rattle.session_parts.proofs.Capacities.{fits_at, fits_long, fits_then, keeps_put, keeps_same, keeps_then, put_long, read_more}
use Rattle.session_parts.proofs.names.put_first.Goals as goal

pub returns-in_err-add_lists-clause-succeeds : goal.returns-in_err-add_lists-clause-succeeds
returns-in_err-add_lists-clause-succeeds c = λ fits.
    let old = map (λ (v : Vec Argument Global). vec_capacity v) c.args.all.now.items in
    let all = map (λ (a : Arg). a.names) (map arg_content c.args.args.now) in
    let long : length all ≤ length old = fits_long old all fits in
    let n : length all ≡ length (map arg_content c.args.args.now) = length-map (map arg_content c.args.args.now) (λ (a : Arg). a.names) in
    let m : length (map arg_content c.args.args.now) ≡ length c.args.args.now = length-map c.args.args.now arg_content in
    let k : length old ≡ length c.args.all.now.items = length-map c.args.all.now.items (λ (v : Vec Argument Global). vec_capacity v) in
    let wrong = c.in_err-add_lists.ensures.succeeds (omega (arith, long, n, m, k)) in
    cc wrong

pub loop-k-init : goal.loop-k-init
loop-k-init c = record { count = c.in_ok-add_lists.ensures.count; args = refl; room = keeps_same (map (λ v. vec_capacity v) c.add_lists.new.all.items) }

pub returns-in_err-put_places-clause-room : goal.returns-in_err-put_places-clause-room
returns-in_err-put_places-clause-room c =
    let cap = λ (v : Vec Argument Global). vec_capacity v in
    let old = map cap c.args.all.now.items in
    let mid = map cap c.add_lists.new.all.items in
    let within : c.loop-k.k < length c.loop-k.all.items = omega (arith, c.loop-k-test.true, c.loop-k.invariant.count) in
    keeps_put cap old c.loop-k.all.items c.loop-k.k c.index_mut.result.now c.put_places.new.places
    (keeps_then old mid (map cap c.loop-k.all.items) c.in_ok-add_lists.ensures.room c.loop-k.invariant.room) within c.index_mut.ensures.value c.in_err-put_places.ensures.room

pub returns-in_err-put_places-clause-succeeds : goal.returns-in_err-put_places-clause-succeeds
returns-in_err-put_places-clause-succeeds c = λ fits.
    let cap = λ (v : Vec Argument Global). vec_capacity v in
    let old = map cap c.args.all.now.items in
    let mid = map cap c.add_lists.new.all.items in
    let now = map cap c.loop-k.all.items in
    let all = map (λ (a : Arg). a.names) (map arg_content c.args.args.now) in
    let one : length c.index-args-k.result.names.items ≤ vec_capacity c.index_mut.result.now
    = fits_at cap c.loop-k.all.items c.args.args.now c.loop-k.k c.index_mut.result.now c.index-args-k.result (fits_then old now all (keeps_then old mid now c.in_ok-add_lists.ensures.room c.loop-k.invariant.room) fits) c.loop-k-test.true c.index_mut.ensures.value c.index-args-k.is in
    let wrong = c.in_err-put_places.ensures.succeeds (omega (arith, one, ap (λ (at : List (Option Name)). length at) c.deref.ensures.value)) in
    cc wrong

pub loop-k-preserved : goal.loop-k-preserved
loop-k-preserved c =
    let cap = λ (v : Vec Argument Global). vec_capacity v in
    let within : c.loop-k.k < length c.loop-k.all.items = omega (arith, c.loop-k-test.true, c.loop-k.invariant.count) in
    let long = put_long c.loop-k.all.items c.loop-k.k c.put_places.new.places in
    record {
      count = omega (arith, long, c.loop-k.invariant.count);
      args = read_more (λ (v : Vec Argument Global). v.items) arg_content (λ a. map (argument_in c.args.names.now.names) a.names) c.loop-k.all.items c.args.args.now c.loop-k.k c.put_places.new.places c.index-args-k.result within c.loop-k-test.true c.index-args-k.is
          c.loop-k.invariant.args (c.in_ok-put_places.ensures.places ∙ ap (map (argument_in c.args.names.now.names)) c.deref.ensures.value);
      room = keeps_put cap (map cap c.add_lists.new.all.items) c.loop-k.all.items c.loop-k.k c.index_mut.result.now c.put_places.new.places c.loop-k.invariant.room within c.index_mut.ensures.value c.in_ok-put_places.ensures.room;
    }

pub returns-clause-room : goal.returns-clause-room
returns-clause-room c =
    let cap = λ (v : Vec Argument Global). vec_capacity v in
    keeps_then (map cap c.args.all.now.items) (map cap c.add_lists.new.all.items) (map cap c.loop-k.all.items) c.in_ok-add_lists.ensures.room c.loop-k.invariant.room
