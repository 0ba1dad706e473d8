use Rattle.std.proofs.Common.{◌++◌, inl, inr}
use Rattle.std.specs.Prelude.{codes}
use Rattle.replay_tool.specs.Said.{limit_front, most_text}
use Rattle.replay_tool.proofs.SaidLemmas.{said_cut, said_behind}
use Rattle.replay_tool.proofs.saying.put_limit.Goals as goal

pub returns-in_err-put_name : goal.returns-in_err-put_name
returns-in_err-put_name g c =
    said_cut (limit_front c.args.which) (most_text c.args.most ++ codes "\n") _ _ _ _ c.in_err-put_name.ensures.cause.failed c.in_err-put_name.ensures.front

pub returns-in_err-put_number : goal.returns-in_err-put_number
returns-in_err-put_number g c =
    said_behind (limit_front c.args.which) (most_text c.args.most ++ codes "\n") _ _ _ _ _ _ c.in_ok-put_name.ensures.all c.in_ok-put_name.ensures.cause.stood
    (said_cut (most_text c.args.most) (codes "\n") _ _ _ _ c.in_err-put_number.ensures.cause.failed c.in_err-put_number.ensures.front)

pub returns-in_err-put_all : goal.returns-in_err-put_all
returns-in_err-put_all g c =
    said_behind (limit_front c.args.which) (most_text c.args.most ++ codes "\n") _ _ _ _ _ _ c.in_ok-put_name.ensures.all c.in_ok-put_name.ensures.cause.stood
    (said_behind (most_text c.args.most) (codes "\n") _ _ _ _ _ _ c.in_ok-put_number.ensures.all c.in_ok-put_number.ensures.cause.stood
    (inr (record { failed = c.in_err-put_all.ensures.cause.failed; front = c.in_err-put_all.ensures.front })))

pub returns : goal.returns
returns g c =
    said_behind (limit_front c.args.which) (most_text c.args.most ++ codes "\n") _ _ _ _ _ _ c.in_ok-put_name.ensures.all c.in_ok-put_name.ensures.cause.stood
    (said_behind (most_text c.args.most) (codes "\n") _ _ _ _ _ _ c.in_ok-put_number.ensures.all c.in_ok-put_number.ensures.cause.stood
    (inl (record { stood = c.in_ok-put_all.ensures.cause.stood; gained = c.in_ok-put_all.ensures.all })))
