-- The pairs that are left give what all give.
use Rattle.std.proofs.Common.{◌≡◌, ◌≤◌, true, false, length, ◌++◌}
use Rattle.std.specs.List.{AllZip}
use Rattle.std.specs.Vec.Iter.{into_iter_items}
use Rattle.sv_threads.specs.RunRemains.{transcripts_of, EndsAgree}
use Rattle.sv_threads.specs.Pairs.{pairing}
use Rattle.sv_threads.proofs.Settled.{SettledSoFar}
use Rattle.sv_threads.specs.Settling.{SettledCause, ArePair, AreCalm, AnyZip, Differ}
use Rattle.sv_threads.proofs.settling.settle_all.Given as goal

abbrev pub invariant-loop-server : goal.invariant-loop-server
invariant-loop-server g l =
    let told = g.N.E.End.told in
    let faults = g.N.E.End.faults in
    let servers = l.server-iterator.rest.items in
    let clients = into_iter_items l.clients in
    record {
      pairs : AllZip (ArePair told (g.N.Net.made l.fn.net)) servers clients;
      owed : length servers ≤ g.N.Net.owed l.net;
      made : g.N.Net.made l.net ≡ g.N.Net.made l.fn.net;
      so_far : SettledSoFar told g.N.E.End.calm (g.N.Net.calm l.fn.net) l.fn.servers.items l.fn.clients.items servers clients l.matched (pairing (g.N.Net.settled l.fn.net) (g.N.Net.unmatched l.fn.net) (g.N.Net.made l.fn.net) (g.N.Net.owed l.fn.net)) (pairing (g.N.Net.settled l.net) (g.N.Net.unmatched l.net) (g.N.Net.made l.net) (g.N.Net.owed l.net));
      settled : l.matched ≡ true → g.N.Net.settled l.net ++ transcripts_of told faults servers clients ≡ g.N.Net.settled l.fn.net ++ transcripts_of told faults l.fn.servers.items l.fn.clients.items;
      agree : l.matched ≡ true → AllZip (EndsAgree told faults) servers clients → AllZip (EndsAgree told faults) l.fn.servers.items l.fn.clients.items;
      cause : SettledCause (g.N.Net.faults l.fn.net) (g.N.Net.faults l.net) l.matched;
      calm : g.N.Net.calm l.fn.net → g.N.Net.calm l.net;
      calms : AllZip (AreCalm g.N.E.End.calm) l.fn.servers.items l.fn.clients.items → AllZip (AreCalm g.N.E.End.calm) servers clients;
      others : AnyZip (Differ told) servers clients → AnyZip (Differ told) l.fn.servers.items l.fn.clients.items;
      found : l.matched ≡ false → g.N.Net.calm l.fn.net → AllZip (AreCalm g.N.E.End.calm) l.fn.servers.items l.fn.clients.items → AnyZip (Differ told) l.fn.servers.items l.fn.clients.items;
    }
