-- Lost results, a single one, and those that get ids are new once to each checking part.
use Rattle.std.proofs.Common.{[], ◌∷◌}
use Rattle.command_tables.specs.Effects.{type_made}
use Rattle.command_tables.specs.Table.{row_of}
use Rattle.layer_model.specs.Walks.{Threads, Lifetimes, Unique}
use Rattle.object_records.proofs.Once.{one_once}
use Rattle.dispatch_chain.specs.Kept.{LostAreOnce, OneIsOnce, WrappedAreOnce}
use Rattle.dispatch_chain.proofs.Lasting.{apart_once, lost_apart}

pub lost_once : LostAreOnce
lost_once cmd hs [] l = tt
lost_once cmd hs (Threads m ∷ states) l = ((λ w. apart_once m.births (type_made (row_of cmd).effect) hs (lost_apart hs l)), lost_once cmd hs states l)
lost_once cmd hs (Lifetimes m ∷ states) l = ((λ w. apart_once m.births (type_made (row_of cmd).effect) hs (lost_apart hs l)), lost_once cmd hs states l)
lost_once cmd hs (Unique m ∷ states) l = (tt, lost_once cmd hs states l)

pub one_is_once : OneIsOnce
one_is_once cmd h [] = tt
one_is_once cmd h (Threads m ∷ states) = ((λ w. one_once m.births (type_made (row_of cmd).effect) h), one_is_once cmd h states)
one_is_once cmd h (Lifetimes m ∷ states) = ((λ w. one_once m.births (type_made (row_of cmd).effect) h), one_is_once cmd h states)
one_is_once cmd h (Unique m ∷ states) = (tt, one_is_once cmd h states)

pub wrapped_are_once : WrappedAreOnce
wrapped_are_once cmd hs [] h = tt
wrapped_are_once cmd hs (Threads m ∷ states) h = ((λ w. cc (h, w)), wrapped_are_once cmd hs states h)
wrapped_are_once cmd hs (Lifetimes m ∷ states) h = ((λ w. cc (h, w)), wrapped_are_once cmd hs states h)
wrapped_are_once cmd hs (Unique m ∷ states) h = (tt, wrapped_are_once cmd hs states h)
