-- What stays true while steps are made.
use Rattle.sv_peer.specs.Webs.{HandsOut}
use Rattle.sv_peer.proofs.web.Web.go_on.Given as goal

-- bytes were handed out, and the desk kept what it keeps
abbrev pub invariant-steps : goal.invariant-steps
invariant-steps g l = HandsOut l.fn.self l.self l.fn.output.items l.output.items × g.D.WebDesk.keeps l.fn.desk l.desk
