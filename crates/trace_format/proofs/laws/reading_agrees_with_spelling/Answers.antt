use Rattle.trace_format.proofs.Lines.{faults_agree, read_spelled, spelled_read}
use Rattle.trace_format.proofs.laws.reading_agrees_with_spelling.Goals as goal

pub returns : goal.returns
returns c = record { spelled = read_spelled; read = spelled_read; faults = faults_agree }
