use Rattle.std.proofs.Common.{◌≡◌, ◌++◌, [], ◌∷◌, false, length, ap, sym, subst, ◌∙◌}
use Rattle.handle_map.specs.Index.{IsNoted}
use Rattle.handle_map.specs.Pairs.{SetState, has_pair, pair}
use Rattle.handle_map.proofs.Indexed.{added_index}
use Rattle.handle_map.proofs.pair_index.PairIndex.add.Goals as goal

pub invariant_of-self-2 : goal.invariant_of-self-2
invariant_of-self-2 c =
    let new : has_pair c.self.inside.list.pairs c.args.ty c.args.id ≡ false = subst (λ (s : SetState). has_pair s.pairs c.args.ty c.args.id ≡ false) (sym c.self.view_is) c.requires in
    let behind : c.push.new.self.pairs ≡ c.self.inside.list.pairs ++ pair c.args.ty c.args.id ∷ [] = c.push.ensures.pairs ∙ ap (λ ps. ps ++ pair c.args.ty c.args.id ∷ []) c.reserve.ensures.pairs in
    let place : c.len-place.result ≡ length c.self.inside.list.pairs = c.len-place.ensures ∙ ap length c.reserve.ensures.pairs in
    added_index c.self.inside.rows c.note_place.new.rows c.self.inside.sparse.entries c.note_place.new.sparse.entries c.self.inside.list.pairs c.push.new.self.pairs c.args.ty c.args.id c.self.invariant new behind c.note_place.ensures.kept
    (subst (λ n. IsNoted c.note_place.new.rows c.self.inside.sparse.entries c.note_place.new.sparse.entries (pair c.args.ty c.args.id) n) place c.in_ok-note_place.ensures.noted)
