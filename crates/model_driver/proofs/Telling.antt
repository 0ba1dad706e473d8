-- What is told of calls, and then of more.
use Rattle.std.proofs.Common.{◌≡◌, List, [], ◌∷◌, ◌++◌, map, refl, ap, sym, ◌∙◌, append_assoc, append-nil}
use Rattle.std.proofs.lemmas.List.{map-append}
use Rattle.command_tables.specs.Calls.{DriverCallContent, ReplyContent}
use Rattle.model_driver.specs.Logs.{Log, Untold, Replies, Calls, logged, replies_in}

-- no more is as it was
pub logged_nothing : (log : Log) → log ≡ logged log []
logged_nothing Untold = refl
logged_nothing (Replies replies) = ap Replies (sym (append-nil replies))
logged_nothing (Calls calls) = ap Calls (sym (append-nil calls))

-- some, and then others
pub logged_twice : (log : Log) (xs ys : List (DriverCallContent × ReplyContent)) → logged (logged log xs) ys ≡ logged log (xs ++ ys)
logged_twice Untold xs ys = refl
logged_twice (Replies replies) xs ys =
    ap Replies (append_assoc replies (replies_in xs) (replies_in ys) ∙ ap (λ rs. replies ++ rs) (sym (map-append (λ (x : DriverCallContent × ReplyContent). x.1) xs ys)))
logged_twice (Calls calls) xs ys = ap Calls (append_assoc calls xs ys)
