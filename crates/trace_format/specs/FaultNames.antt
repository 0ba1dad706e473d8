-- The names of the faults, as they are printed. Source: this project.
use Rattle.std.specs.Prelude.{ℕ, List, codes}
use Rattle.trace_format.specs.declared.fault.TraceFault.{TraceFault}
use Rattle.trace_format.specs.declared.fault.TraceFault.TheVariants as fault

-- the name of a fault
abbrev pub fault_name : TraceFault → List ℕ
fault_name fault.Header = codes "Header"
fault_name fault.NotAscii = codes "NotAscii"
fault_name fault.Letter = codes "Letter"
fault_name fault.Thread = codes "Thread"
fault_name fault.Command = codes "Command"
fault_name fault.Parameter = codes "Parameter"
fault_name fault.Argument = codes "Argument"
fault_name fault.Results = codes "Results"
fault_name fault.Code = codes "Code"
fault_name fault.Busy = codes "Busy"
fault_name fault.Idle = codes "Idle"
fault_name fault.Unknown = codes "Unknown"
fault_name fault.WrongType = codes "WrongType"
fault_name fault.Sequence = codes "Sequence"
fault_name fault.Instance = codes "Instance"
fault_name fault.OpenAtEnd = codes "OpenAtEnd"
