-- What a folder in memory shows.
use Rattle.sv_log.specs.Pictures.{Disk}
use Rattle.sv_log.specs.Memory.{disk_of}
use Rattle.sv_log.specs.declared.memory.MemFolder.{MemFolder}

abbrev pub disk_in_memory : MemFolder → Disk
disk_in_memory folder = disk_of folder.start.items folder.calls.items
