-- What is proved by hand of `Keys::look`.
use Rattle.sv_keys.proofs.Held.{renewed_held}
use Rattle.sv_keys.proofs.keys.Keys.look.Goals as goal

pub returns-clause-held : goal.returns-clause-held
returns-clause-held g c = λ name held. renewed_held (g.L.Files.contents c.args.files.now) name c.args.self.now c.renew.new.self _ c.renew.ensures.renewed held
