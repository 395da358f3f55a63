-- The loop invariant and the measure of `fill`.
use Rattle.std.proofs.Common.{◌≡◌, ◌++◌, length}
use Rattle.sv_link.specs.Sides.{other, side_of, unread}
use Rattle.sv_exchange.specs.Streams.{SideReadOn}
use Rattle.sv_exchange.proofs.filling.fill.Given as goal

abbrev pub invariant-loop-reader : goal.invariant-loop-reader
invariant-loop-reader l =
    record {
      link : SideReadOn l.fn.link l.link l.side;
      same : l.reader ++ unread (side_of l.link (other l.side)) ≡ l.fn.reader ++ unread (side_of l.fn.link (other l.side));
    }

abbrev pub decreases-loop-reader : goal.decreases-loop-reader
decreases-loop-reader l = length (unread (side_of l.link (other l.side)))
