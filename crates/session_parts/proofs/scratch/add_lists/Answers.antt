use Rattle.std.proofs.Common.{◌≡◌, ◌++◌, ◌∷◌, [], List, Vec, Global, ap, arith, length, map, subst, sym, vec_capacity}
use Rattle.object_model.specs.declared.Argument.{Argument}
use Rattle.session_parts.specs.Scratch.{KeepLists}
use Rattle.session_parts.proofs.Capacities.{keeps_behind, keeps_same, length_behind}
use Rattle.session_parts.proofs.scratch.add_lists.Goals as goal

pub loop-alloc-init : goal.loop-alloc-init
loop-alloc-init c = record { longer = omega arith; room = keeps_same (map (λ v. vec_capacity v) c.args.all.now.items) }

pub loop-alloc-preserved : goal.loop-alloc-preserved
loop-alloc-preserved c =
    let old = map (λ (v : Vec Argument Global). vec_capacity v) c.args.all.now.items in
    let is : c.push.new.self.items ≡ c.loop-alloc.all.items ++ c.new.result ∷ [] = c.in_ok-push.ensures.items in
    let long = length_behind c.loop-alloc.all.items c.new.result in
    record {
      longer = omega (arith, ap (λ (vs : List (Vec Argument Global)). length vs) is, long, c.loop-alloc.invariant.longer);
      room = subst (λ (vs : List (Vec Argument Global)). KeepLists old (map (λ v. vec_capacity v) vs)) (sym is) (keeps_behind (λ v. vec_capacity v) old c.loop-alloc.all.items c.new.result c.loop-alloc.invariant.room);
    }
