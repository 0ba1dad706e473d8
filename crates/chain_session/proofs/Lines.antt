-- The lines of a call, by what is kept of it.
use Rattle.std.proofs.Common.{◌≡◌, ◌∙◌, ℕ, Bool, true, false, ◌&&◌, Option, Some, None, is_some, if◌then◌else◌, List, ◌++◌, codes, decimal, length, refl, sym, subst}
use Rattle.std.specs.List.{flat_map}
use Rattle.command_tables.specs.Effects.{succeeds}
use Rattle.command_tables.specs.Tests.{same_command}
use Rattle.command_tables.specs.declared.types.CommandId.{CommandId}
use Rattle.command_tables.specs.declared.types.CommandId.TheVariants as cmd
use Rattle.command_tables.specs.declared.types.Code.{Code}
use Rattle.command_tables.specs.declared.types.Code.TheVariants as code
use Rattle.trace_format.specs.Content.{Arg, BeginEvent}
use Rattle.trace_format.specs.Grammar.{code_text}
use Rattle.command_tables.specs.Table.{row_of}
use Rattle.object_model.specs.Findings.{Report}
use Rattle.replay_model.specs.Past.{Opened, is_skipped}
use Rattle.replay_model.specs.Setup.{Setup, refusal_of}
use Rattle.replay_model.specs.Text.{answer_of, born_text, enumerated, report_text, return_text}
use Rattle.chain_session.specs.Reporting.{IsOf, answer_by, line_at}
use Rattle.chain_session.specs.declared.reporting.Returning.{Returning}

-- the lines of reports are those of a begin with this command and these arguments
pub reports_of_begin : (e : BeginEvent) (number : ℕ) (c : CommandId) (args : List Arg) (rs : List Report) → e.cmd ≡ c → e.args ≡ args
    → flat_map (line_at number c args) rs ≡ flat_map (report_text e number) rs
reports_of_begin e number c args rs same_cmd same_args =
    subst (λ (d : CommandId). flat_map (line_at number d args) rs ≡ flat_map (report_text e number) rs) same_cmd
    (subst (λ (written : List Arg). flat_map (line_at number e.cmd written) rs ≡ flat_map (report_text e number) rs) same_args refl)

-- ---- the answer of a call

-- the answer by its parts
answered : ℕ → CommandId → Option Code → Option Code → Bool → Bool → ℕ → Option Code
answered drivers c coded refusal refused skipped results =
    if skipped then (if refused then refusal else (if (row_of c).returns then Some code.ErrorValidationFailedExt else None))
    else (if same_command c cmd.EnumeratePhysicalDevices && succeeds c coded then Some (enumerated drivers results) else coded)

of_kept : (call : Returning) → answer_by call ≡ answered call.drivers call.cmd call.code call.refusal (is_some call.refusal) call.skipped call.results
unfolding answered
of_kept call = refl

-- the code of a refusal is asked for only where the chain is refused
of_opened : (s : Setup) (o : Opened) → answer_of s o ≡ answered s.drivers o.cmd o.code (if o.refused then refusal_of (s.outcome o.payload) else None) o.refused (is_skipped o) (length o.results)
unfolding answered
of_opened s o = go (refusal_of (s.outcome o.payload)) (if (row_of o.cmd).returns then Some code.ErrorValidationFailedExt else None)
    (if same_command o.cmd cmd.EnumeratePhysicalDevices && succeeds o.cmd o.code then Some (enumerated s.drivers (length o.results)) else o.code) o.refused (is_skipped o)
  where
    go : (x y z : Option Code) (refused skipped : Bool) → (if skipped then (if refused then x else y) else z) ≡ (if skipped then (if refused then (if refused then x else None) else y) else z)
    go x y z true skipped = refl
    go x y z false skipped = refl

answer_so : (s : Setup) (o : Opened) (call : Returning) → IsOf s o call → answer_by call ≡ answer_of s o
answer_so s o call h =
    let kept = of_kept call in
    let opened = of_opened s o in
    let p1 = h.cmd in
    let p2 = h.code in
    let p3 = h.refusal in
    let p4 = h.refused in
    let p5 = h.skipped in
    let p6 = h.results in
    let p7 = h.drivers in
    cc

-- ---- the line of a return

-- the line by its parts
returned : ℕ → CommandId → Option Code → ℕ → List ℕ
returned number c answer born = codes "ret " ++ decimal number ++ codes " " ++ (row_of c).name ++ codes " " ++ code_text answer ++ born_text c born ++ codes "\n"

line_of_opened : (s : Setup) (o : Opened) (born : ℕ) → return_text s o born ≡ returned o.number o.cmd (answer_of s o) born
unfolding returned
line_of_opened s o born = refl

line_of_kept : (number : ℕ) (c : CommandId) (answer : Option Code) (born : ℕ)
    → codes "ret " ++ decimal number ++ codes " " ++ (row_of c).name ++ codes " " ++ code_text answer ++ born_text c born ++ codes "\n" ≡ returned number c answer born
unfolding returned
line_of_kept number c answer born = refl

-- the line of a return is that of the open call
pub return_of_opened : (s : Setup) (o : Opened) (call : Returning) (c : CommandId) (answer : Option Code) (born : ℕ) → IsOf s o call → c ≡ call.cmd → answer ≡ answer_by call
    → codes "ret " ++ decimal call.number ++ codes " " ++ (row_of c).name ++ codes " " ++ code_text answer ++ born_text c born ++ codes "\n" ≡ return_text s o born
return_of_opened s o call c answer born h same_cmd is =
    let number : o.number ≡ call.number = h.number in
    let at : o.cmd ≡ c = h.cmd ∙ sym same_cmd in
    let answers : answer ≡ answer_of s o = is ∙ answer_so s o call h in
    let same : returned call.number c answer born ≡ returned o.number o.cmd (answer_of s o) born = cc in
    line_of_kept call.number c answer born ∙ (same ∙ sym (line_of_opened s o born))
