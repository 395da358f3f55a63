-- What is so of a world before anybody has asked anything.
use Rattle.std.specs.Prelude.{◌≡◌, true}
use Rattle.sv_worldfile.specs.declared.world_file.WorldFile.{WorldFile}
use Rattle.sv_office.specs.Trusting.{IsAuthority, IsSerialWorld}
use Rattle.sv_host.specs.Causes.{is_authority, start_in}

-- Where the file says so, the steward's reports alone count.
abbrev pub FilesGiveAuthority : Type 0
FilesGiveAuthority = (file : WorldFile) → is_authority file.results ≡ true → IsAuthority (start_in file).stewardship

-- The world of a file is serial.
abbrev pub FilesAreSerial : Type 0
FilesAreSerial = (file : WorldFile) → IsSerialWorld (start_in file)
