-- A text is one address at most.
use Rattle.std.proofs.Common.{◌∙◌, subst, ap, sym}
use Rattle.std.proofs.NetLemmas.Theorems.{IsSocketText_unique}
use Rattle.std.specs.Net.Addr.{MatchIp, IsLoopbackV4, IsLoopbackV6}
use Rattle.std.specs.Net.Socket.{socket_ip}
use Rattle.sv_host.proofs.options.is_local.Goals as goal

pub returns-in-Ok : goal.returns-in-Ok
returns-in-Ok c = (
  λ loops. record { address = c.in-Ok.address; spelled = c.in-Ok.ensures.value; loops = rw c.ip.ensures at (c.is_loopback.ensures.0 loops) },
  λ local. c.is_loopback.ensures.1 (subst (λ a. MatchIp a IsLoopbackV4 IsLoopbackV6) (ap socket_ip (IsSocketText_unique c.args.text.now local.address c.in-Ok.address local.spelled c.in-Ok.ensures.value) ∙ sym c.ip.ensures) local.loops),
)
