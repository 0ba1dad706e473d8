-- A kept id that is found was issued.
use Rattle.std.proofs.Common.{◌≡◌, ℕ, true, Option, Some, None, List, ap, sym, ◌∙◌}
use Rattle.std.specs.Prelude.{IfSome}
use Rattle.command_tables.specs.declared.types.ObjectType.{ObjectType}
use Rattle.handle_map.specs.Pairs.{MapEntry, has_pair}
use Rattle.layer_model.specs.Ids.{AreIssued, Key, KeptId, kept_id}
use Rattle.layer_model.proofs.Issued.{kept_issued}
use Rattle.object_model.specs.Values.{Value}

pub known_where : (es : List (MapEntry (List Value))) (kept : List KeptId) (k : Key) (found : Option ℕ) → AreIssued es kept → found ≡ kept_id kept k → IfSome found (λ (id : ℕ). (t : ObjectType) → k.ty ≡ t → has_pair es t id ≡ true)
known_where es kept k None known is = tt
known_where es kept k (Some id) known is = λ (t : ObjectType) (type : k.ty ≡ t). ap (λ (u : ObjectType). has_pair es u id) (sym type) ∙ kept_issued es kept k id known (sym is)
