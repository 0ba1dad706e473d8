-- The calls that are held.
use Rattle.std.proofs.Common.{◌≡◌, ◌<◌, ◌+◌, ℕ, zero, suc, List, [], ◌∷◌, ◌++◌, length, map, get_or, take, slice_set, ap, sym, subst, ◌∙◌, arith}
use Rattle.command_tables.specs.declared.types.CommandId.{CommandId}
use Rattle.command_tables.specs.declared.call.LayerCall.{LayerCall}
use Rattle.command_tables.specs.Calls.{CallContent, call_content}
use Rattle.command_tables.specs.Table.{row_of}
use Rattle.object_records.specs.Shape.{HasParams}
use Rattle.dispatch_chain.specs.Holding.{AllShaped}

-- one more that is of the command and has its shape
pub shaped_more : (cmd : CommandId) (cs ds : List CallContent) (c : CallContent) → ds ≡ cs ++ c ∷ [] → AllShaped cmd cs → c.cmd ≡ cmd → length c.args ≡ length (row_of c.cmd).params → AllShaped cmd ds
shaped_more cmd cs ds c e h k l = subst (AllShaped cmd) (sym e) (more cs h)
  where
    more : (xs : List CallContent) → AllShaped cmd xs → AllShaped cmd (xs ++ c ∷ [])
    more [] h = ((k, l), tt)
    more (x ∷ xs) h = (h.0, more xs h.1)

-- what is held has its row's shape
pub shaped_at : (cmd : CommandId) (cs : List LayerCall) (i : ℕ) (d : LayerCall) → AllShaped cmd (map call_content cs) → i < length cs → HasParams (get_or cs i d)
shaped_at cmd [] i d h k = absurd (omega arith)
shaped_at cmd (c ∷ cs) zero d h k = h.0.1
shaped_at cmd (c ∷ cs) (suc i) d h k = shaped_at cmd cs i d h.1 (omega arith)

behind_next : (xs : List LayerCall) (n : ℕ) (x : LayerCall) (c : CallContent) → n < length xs → call_content x ≡ c → map call_content (take (suc n) (slice_set xs n x)) ≡ map call_content (take n xs) ++ c ∷ []
behind_next [] n x c h e = absurd (omega arith)
behind_next (y ∷ ys) zero x c h e = ap (λ d. d ∷ []) e
behind_next (y ∷ ys) (suc n) x c h e = ap (λ ds. call_content y ∷ ds) (behind_next ys n x c (omega arith) e)

-- the first so many and one that is put behind them
pub put_behind : (xs : List LayerCall) (n : ℕ) (x : LayerCall) (c : CallContent) → n < length xs → call_content x ≡ c → map call_content (take (n + 1) (slice_set xs n x)) ≡ map call_content (take n xs) ++ c ∷ []
put_behind xs n x c h e = let next : n + 1 ≡ suc n = omega arith in ap (λ m. map call_content (take m (slice_set xs n x))) next ∙ behind_next xs n x c h e
