use Rattle.std.proofs.Common.{refl}
use Rattle.program_words.specs.Content.{words_of}
use Rattle.program_words.specs.Meant.{meant}
use Rattle.replay_tool.proofs.Ending.{keeps_flushed, keeps_words}
use Rattle.replay_tool.proofs.Refused.{left_refused, prepared_refused}
use Rattle.replay_tool.proofs.top.replay_main.Goals as goal

pub returns-in-Ok-clause-promises : goal.returns-in-Ok-clause-promises
returns-in-Ok-clause-promises g c =
    keeps_flushed (words_of c.args.words.now) c.args.env.now _ _ _ _ (meant c.in-Ok.asked) c.in-Ok.ensures.words _ _ _ _ _ _ _ _ _ _ _
    (λ st errs. c.perform-ended.ensures.ends (words_of c.args.words.now) st errs) c.flushed.ensures.flushes c.finish.ensures.status c.finish.ensures.session c.finish.ensures.says

pub returns-in-Err-clause-promises : goal.returns-in-Err-clause-promises
returns-in-Err-clause-promises g c =
    keeps_words _ c.in-Err.error c.refuse_words.result c.in-Err.ensures.words refl c.refuse_words.ensures.status
    (record { unread = refl; stood = refl; untouched = record { driver = refl; sink = refl; stood = refl } }) c.refuse_words.ensures.line

pub returns-in-Err-clause-prepared : goal.returns-in-Err-clause-prepared
returns-in-Err-clause-prepared g c = prepared_refused _ c.in-Err.error c.refuse_words.result _ c.in-Err.ensures.words c.refuse_words.ensures.status

pub returns-in-Err-clause-tree : goal.returns-in-Err-clause-tree
returns-in-Err-clause-tree g c = left_refused _ c.args.tree.now
