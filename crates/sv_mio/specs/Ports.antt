-- What connections over TCP tell.
use Rattle.sv_ports.specs.Traffic.{Traffic, bytes_of}
use Rattle.sv_mio.specs.declared.ports.MioPorts.{MioPorts}

module _ {I : Type 0} where
  abbrev pub told_of : MioPorts I → Traffic
  told_of ports =
      record {
        next = ports.next;
        written = ports.written.items;
        heard = ports.heard.items;
        input = bytes_of 0 ports.input_heard.items;
        input_ended = ports.input_ended;
      }
