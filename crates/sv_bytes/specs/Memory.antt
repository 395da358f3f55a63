-- What the files and the sink in memory show.
use Rattle.std.specs.Prelude.{◌≡◌, ℕ, ◌-◌, min, List, length, drop, Option, Some, None}
use Rattle.sv_bytes.specs.declared.memory.MemFiles.{MemFiles}
use Rattle.sv_bytes.specs.declared.memory.MemSink.{MemSink}
use Rattle.sv_bytes.specs.declared.reading.Read.{Read}
use Rattle.sv_bytes.specs.declared.reading.Read.TheVariants as read
use Rattle.sv_bytes.specs.declared.writing.Wrote.{Wrote}
use Rattle.sv_bytes.specs.declared.writing.Wrote.TheVariants as wrote

-- the names with their bytes, in the order in which they were added
abbrev pub files_of : MemFiles → List (List ℕ × List ℕ)
files_of files = files.stored.items

-- the numbers of the calls that fail
abbrev pub failing_reads : MemFiles → List ℕ
failing_reads files = files.plan.failing.items

-- the most bytes that one read gives
abbrev pub read_step : MemFiles → ℕ
read_step files = files.plan.step

-- how many calls of `begin` and `read` were made
abbrev pub reads_made : MemFiles → ℕ
reads_made files = files.plan.made

-- what is to come of the file last begun, if that answered Ready
abbrev pub file_left : MemFiles → Option (List ℕ)
file_left files = files.current

abbrev pub files_faults : MemFiles → ℕ
files_faults files = files.faults.value

-- neither a call nor a fault was counted, and the file last begun is where it was
pub record SameReads (old new : MemFiles) : Type 0 where
  pub made : reads_made new ≡ reads_made old
  pub left : file_left new ≡ file_left old
  pub faults : files_faults new ≡ files_faults old

-- how many bytes a read into so many gives of what is left, where it does not fail
abbrev pub can_give : Option (List ℕ) → ℕ → ℕ → ℕ
can_give (Some left) size step = min (min (length left) size) step
can_give None size step = 0

-- a read that did not fail gave just so many bytes
abbrev pub GaveJust : ℕ → Read → Type 0
GaveJust count (read.Got n) = n ≡ count
GaveJust count read.Ended = count ≡ 0
GaveJust count read.Failed = Unit {0}

-- no byte of `into` changed but those that the read gave
abbrev pub KeepsRest : List ℕ → List ℕ → Read → Type 0
KeepsRest old new (read.Got n) = drop n new ≡ drop n old
KeepsRest old new read.Ended = new ≡ old
KeepsRest old new read.Failed = new ≡ old

-- the bytes that the sink took
abbrev pub sink_bytes : MemSink → List ℕ
sink_bytes sink = sink.bytes.items

-- the numbers of the calls that fail
abbrev pub failing_writes : MemSink → List ℕ
failing_writes sink = sink.plan.failing.items

-- the most bytes that one write takes
abbrev pub write_step : MemSink → ℕ
write_step sink = sink.plan.step

-- how many bytes the sink takes in all
abbrev pub sink_room : MemSink → ℕ
sink_room sink = sink.room

-- how many calls of `write` were made
abbrev pub writes_made : MemSink → ℕ
writes_made sink = sink.plan.made

abbrev pub sink_faults : MemSink → ℕ
sink_faults sink = sink.faults.value

-- neither a call nor a fault was counted, and the room stays
pub record SameWrites (old new : MemSink) : Type 0 where
  pub made : writes_made new ≡ writes_made old
  pub room : sink_room new ≡ sink_room old
  pub faults : sink_faults new ≡ sink_faults old

-- how many bytes of a piece of so many a write takes, where it does not fail
abbrev pub can_take : MemSink → ℕ → ℕ
can_take sink size = min (min size (sink_room sink - length (sink_bytes sink))) (write_step sink)

-- a write that did not fail took just so many bytes
abbrev pub TookJust : ℕ → Wrote → Type 0
TookJust count (wrote.Took n) = n ≡ count
TookJust count wrote.Failed = Unit {0}
