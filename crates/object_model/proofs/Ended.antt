-- Alive is born, and not ended since.
use Rattle.std.proofs.Common.{◌≡◌, Bool, true, false, not, ◌&&◌, ◌||◌, List, [], ◌∷◌, refl}
use Rattle.std.specs.List.{list_any}
use Rattle.std.proofs.lemmas.List.Folds.{list_any-append}
use Rattle.command_tables.specs.Table.{row_of}
use Rattle.object_model.specs.declared.Object.{Object}
use Rattle.object_model.specs.Objects.{same}
use Rattle.object_model.specs.History.{Call, Begins, Returns, History, births, births_given, is_born, ends, alive, is_ended}

-- a begin: alive and not ended by it is born and not ended, whatever is skipped
at_begin : (b e s x : Bool) → ((b && not e) && (s || not x)) ≡ (b && not (e || (b && not s && x)))
at_begin true true s x = refl
at_begin true false true x = refl
at_begin true false false true = refl
at_begin true false false false = refl
at_begin false e s x = refl

-- a return: alive before or newly born is born and not ended, since what is ended was born
at_return : (b c e : Bool) → (e ≡ true → b ≡ true) → ((b && not e) || (not b && (b || c))) ≡ ((b || c) && not e)
at_return true c true h = refl
at_return true c false h = refl
at_return false c true h = cc (h refl)
at_return false true false h = refl
at_return false false false h = refl

-- what holds on the left holds of both
or_left : (a b : Bool) → a ≡ true → a || b ≡ true
or_left true b h = refl
or_left false b h = cc

-- born after a return is born before it or by it
born_later : (h : History) (call : Call) (made : List Object) (o : Object)
    → is_born (Returns call made ∷ h) o ≡ (is_born h o || list_any (λ b. same b.object o) (births_given (births h) call.args (row_of call.cmd).effect made))
born_later h call made o = list_any-append (λ b. same b.object o) (births h) (births_given (births h) call.args (row_of call.cmd).effect made)

-- what is ended was born
ended_was_born : (h : History) (o : Object) → is_ended h o ≡ true → is_born h o ≡ true
ended_was_born [] o e = cc
ended_was_born (Begins call skipped ∷ past) o e = go (is_ended past o) (is_born past o) (ended_was_born past o) e
  where
    go : (x b : Bool) → (x ≡ true → b ≡ true) → x || (b && not skipped && ends past call o) ≡ true → b ≡ true
    go true b h e = h refl
    go false true h e = refl
    go false false h e = e
ended_was_born (Returns call made ∷ past) o e = rw (born_later past call made o) (or_left (is_born past o) _ (ended_was_born past o e))

-- alive is born and not ended
pub alive-born : (h : History) (o : Object) → alive h o ≡ is_born h o && not (is_ended h o)
alive-born [] o = refl
alive-born (Begins call skipped ∷ past) o = rw (alive-born past o) (at_begin (is_born past o) (is_ended past o) skipped (ends past call o))
alive-born (Returns call made ∷ past) o = rw (alive-born past o, born_later past call made o) (at_return (is_born past o) _ (is_ended past o) (ended_was_born past o))
