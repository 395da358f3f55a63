-- What is proved by hand of `Socket::close`.
use Rattle.std.proofs.Common.{[], Some}
use Rattle.sv_peer.proofs.Controls.{close_gains}
use Rattle.sv_peer.proofs.socket.Socket.close.Goals as goal

pub returns : goal.returns
returns c = close_gains c.self.inside.context c.close.new.self (Some (c.in-Some.code, [])) c.close.result c.args.output.now.items c.close.new.output.items c.self.invariant c.close.ensures.ok c.close.ensures.err_output
