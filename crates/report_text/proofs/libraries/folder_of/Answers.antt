use Rattle.report_text.proofs.Folders.{folder_none, folder_before}
use Rattle.report_text.proofs.libraries.folder_of.Goals as goal

pub returns-in-Some : goal.returns-in-Some
returns-in-Some c = folder_before _ _ _ c.in-Some.ensures.cases

pub returns-in-None : goal.returns-in-None
returns-in-None c = folder_none _ c.in-None.ensures.cases
