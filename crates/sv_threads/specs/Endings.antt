-- How a call of the program ends whose run on threads failed.
use Rattle.sv_ending.specs.declared.ending.Ending.{Ending}
use Rattle.sv_ending.specs.declared.ending.Ending.TheVariants as endings
use Rattle.sv_threads.specs.declared.outcome.PlayFault.{PlayFault}
use Rattle.sv_threads.specs.declared.outcome.PlayFault.TheVariants as faults

abbrev pub ending_of_fault : PlayFault → Ending
ending_of_fault faults.Start = endings.Start
ending_of_fault faults.Link = endings.Link
ending_of_fault faults.Memory = endings.Memory
