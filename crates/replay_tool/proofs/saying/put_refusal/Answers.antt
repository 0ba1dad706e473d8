use Rattle.std.proofs.Common.{◌++◌, inl, inr}
use Rattle.std.specs.Prelude.{codes}
use Rattle.replay_tool.specs.Said.{number_text, kind_text}
use Rattle.replay_tool.proofs.SaidLemmas.{said_cut, said_behind}
use Rattle.replay_tool.proofs.saying.put_refusal.Goals as goal

pub returns-in_err-put_number : goal.returns-in_err-put_number
returns-in_err-put_number g c =
    said_cut (number_text c.args.line) (kind_text c.args.kind.now ++ codes "\n") _ _ _ _ c.in_err-put_number.ensures.cause.failed c.in_err-put_number.ensures.front

pub returns-in_err-put_kind : goal.returns-in_err-put_kind
returns-in_err-put_kind g c =
    said_behind (number_text c.args.line) (kind_text c.args.kind.now ++ codes "\n") _ _ _ _ _ _ c.in_ok-put_number.ensures.all c.in_ok-put_number.ensures.cause.stood
    (said_cut (kind_text c.args.kind.now) (codes "\n") _ _ _ _ c.in_err-put_kind.ensures.cause.failed c.in_err-put_kind.ensures.front)

pub returns-in_err-put_all : goal.returns-in_err-put_all
returns-in_err-put_all g c =
    said_behind (number_text c.args.line) (kind_text c.args.kind.now ++ codes "\n") _ _ _ _ _ _ c.in_ok-put_number.ensures.all c.in_ok-put_number.ensures.cause.stood
    (said_behind (kind_text c.args.kind.now) (codes "\n") _ _ _ _ _ _ c.in_ok-put_kind.ensures.all c.in_ok-put_kind.ensures.cause.stood
    (inr (record { failed = c.in_err-put_all.ensures.cause.failed; front = c.in_err-put_all.ensures.front })))

pub returns : goal.returns
returns g c =
    said_behind (number_text c.args.line) (kind_text c.args.kind.now ++ codes "\n") _ _ _ _ _ _ c.in_ok-put_number.ensures.all c.in_ok-put_number.ensures.cause.stood
    (said_behind (kind_text c.args.kind.now) (codes "\n") _ _ _ _ _ _ c.in_ok-put_kind.ensures.all c.in_ok-put_kind.ensures.cause.stood
    (inl (record { stood = c.in_ok-put_all.ensures.cause.stood; gained = c.in_ok-put_all.ensures.all })))
