-- Why a folder of the system is not opened, as the server of a living world is told it.
use Rattle.sv_disk.specs.declared.folder.DiskFault.{DiskFault}
use Rattle.sv_disk.specs.declared.folder.DiskFault.TheVariants as opens
use Rattle.sv_host.specs.declared.hall.FolderFault.{FolderFault}
use Rattle.sv_host.specs.declared.hall.FolderFault.TheVariants as folders

abbrev pub fault_of : DiskFault → FolderFault
fault_of opens.Busy = folders.Busy
fault_of opens.Failed = folders.Failed
fault_of opens.Memory = folders.Memory
