use Rattle.std.proofs.Common.{◌∙◌, refl, sym, inr}
use Rattle.std.proofs.lemmas.Bool.{false≢true}
use Rattle.serde_json.specs.View.{view}
use Rattle.manifest_reader.proofs.JsonFiles.{file_of_json, file_of_refused}
use Rattle.manifest_reader.proofs.files.read_file.Goals as goal

pub returns-in-Ok-clause-ok : goal.returns-in-Ok-clause-ok
returns-in-Ok-clause-ok c = file_of_json c.args.bytes.now (view c.in-Ok.value) c.in-Ok.ensures.ok ∙ rw (← c.is_object.ensures, c.if-is_object.true)

pub returns-in-Err-2-clause-err : goal.returns-in-Err-2-clause-err
returns-in-Err-2-clause-err c = inr (refl, file_of_refused c.args.bytes.now (c.in-Err.ensures.err (λ memory. false≢true (sym c.if-is_memory.false ∙ c.is_memory.ensures.1 memory))))
