-- What connections in memory tell.
use Rattle.sv_ports.specs.Traffic.{Traffic, bytes_of}
use Rattle.sv_ports.specs.declared.memory.MemPorts.{MemPorts}

abbrev pub traffic_of : MemPorts → Traffic
traffic_of ports =
    record {
      next = ports.accepted;
      written = ports.written.items;
      heard = ports.heard.items;
      input = bytes_of 0 ports.input.items;
      input_ended = ports.input_ended;
    }
