-- What an end tells of itself whose client wrote all of its bytes before.
use Rattle.std.specs.Prelude.{ℕ}
use Rattle.sv_link.specs.Ends.{Told}
use Rattle.sv_link.specs.declared.side.Side.TheVariants.{Server}
use Rattle.test_calls.specs.declared.ends.ScriptEnd.{ScriptEnd}

abbrev pub told_of_script : ScriptEnd → Told
told_of_script end =
    record {
      sent = end.sent.items;
      received = end.received.items;
      ended = end.ended;
      closed = end.closed;
      pair = end.number;
      side = Server;
    }

-- the count of its faults
abbrev pub faults_of_script : ScriptEnd → ℕ
faults_of_script end = end.faults.value
