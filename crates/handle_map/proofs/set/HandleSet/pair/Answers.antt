use Rattle.std.proofs.Common.{◌<◌, length, sym, subst, arith}
use Rattle.std.proofs.lemmas.List.{length-map}
use Rattle.handle_map.specs.Chains.{pair_of}
use Rattle.handle_map.specs.Pairs.{SetState}
use Rattle.handle_map.proofs.Adding.{pair_read}
use Rattle.handle_map.proofs.set.HandleSet.pair.Goals as goal

pub index-entry-requires : goal.index-entry-requires
index-entry-requires g c = omega (arith, subst (λ (s : SetState). c.args.place < length s.pairs) (sym c.self.view_is) c.requires, length-map c.self.inside.entries.items pair_of)

pub returns-clause-pair : goal.returns-clause-pair
returns-clause-pair g c =
    rw (← c.self.view_is)
    (pair_read c.self.inside.entries.items c.args.place c.index-entry.result.now (omega (arith, subst (λ (s : SetState). c.args.place < length s.pairs) (sym c.self.view_is) c.requires, length-map c.self.inside.entries.items pair_of)) c.index-entry.ensures)
