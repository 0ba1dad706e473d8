-- What is left of the births of what lives at a begin.
use Rattle.std.proofs.Common.{◌≡◌, ◌||◌, ◌&&◌, ℕ, Bool, true, false, not, List, refl, sym, subst, ap, ◌∙◌}
use Rattle.command_tables.specs.Table.{row_of}
use Rattle.command_tables.specs.declared.types.CommandId.{CommandId}
use Rattle.object_model.specs.declared.Argument.{Argument}
use Rattle.object_model.specs.History.{Birth, born_in, ends_by}
use Rattle.replay_model.specs.Past.{Opened, is_skipped}
use Rattle.session_model.specs.Living.{ArePast}
use Rattle.session_tables.specs.Lined.{AreLeft}

-- a call that isn't skipped ends what it ends
pub past_ended : (bs after : List Birth) (o : Opened) → is_skipped o ≡ false → AreLeft bs (ends_by bs o.args (row_of o.cmd).effect) after → ArePast bs o after
past_ended bs after o goes left = record {
  lives = λ x. left.lives x ∙ ap (λ t. born_in bs x && (t || not (ends_by bs o.args (row_of o.cmd).effect x))) (sym goes);
  alike = left.alike;
}

-- a skipped one ends nothing
pub past_skipped : (bs : List Birth) (o : Opened) → is_skipped o ≡ true → ArePast bs o bs
past_skipped bs o skipped = record {
  lives = λ x. keep (born_in bs x) ∙ ap (λ t. born_in bs x && (t || not (ends_by bs o.args (row_of o.cmd).effect x))) (sym skipped);
  alike = λ x there. record { created = refl; owners = refl };
}
  where
    keep : (t : Bool) → t ≡ (t && true)
    keep true = refl
    keep false = refl

-- what was ended by a command's effect on such arguments
pub ends_so : (bs after : List Birth) (cmd : CommandId) (args : List (List Argument)) (skipped : Bool) → skipped ≡ false → AreLeft bs (ends_by bs args (row_of cmd).effect) after
    → (o : Opened) → o.cmd ≡ cmd → o.args ≡ args → is_skipped o ≡ skipped → ArePast bs o after
ends_so bs after cmd args skipped goes left o same_cmd same_args is =
    past_ended bs after o (is ∙ goes)
    (subst (λ (c : CommandId). AreLeft bs (ends_by bs o.args (row_of c).effect) after) (sym same_cmd) (subst (λ (read : List (List Argument)). AreLeft bs (ends_by bs read (row_of cmd).effect) after) (sym same_args) left))

-- nothing was
pub stays_so : (bs : List Birth) (cmd : CommandId) (args : List (List Argument)) (skipped : Bool) → skipped ≡ true → (o : Opened) → o.cmd ≡ cmd → o.args ≡ args → is_skipped o ≡ skipped → ArePast bs o bs
stays_so bs cmd args skipped stays o same_cmd same_args is = past_skipped bs o (is ∙ stays)

-- to which drivers a call goes doesn't matter
pub past_sent : (bs after : List Birth) (o : Opened) (drivers : List ℕ) → ArePast bs o after → ArePast bs (record o { drivers = drivers }) after
past_sent bs after o drivers h = record { lives = h.lives; alike = h.alike }
