-- What the check leaves to prove of `Core::orphan`.
use Rattle.std.proofs.Common.{◌≡◌, ℕ, List, [], ◌∷◌, MatchOption, ◌∙◌, ap, subst}
use Rattle.sv_core.specs.Cores.{core_rules}
use Rattle.sv_core.specs.Orphans.{orphans_in}
use Rattle.sv_core.proofs.Abandoned.{orphans-are}
use Rattle.sv_core.proofs.server_core.Core.orphan.Goals as goal

pub returns : goal.returns
returns g c =
    let a = c.args.self.now in
    let same = ap (orphans_in a.queue) c.deref.ensures.value ∙ orphans-are (core_rules a) g.h a.queue a.sessions.items a.clients a.owed c.requires in
    subst (λ (os : List ℕ). MatchOption c.first_orphan.result (os ≡ []) (λ p. (rest : List ℕ) × (os ≡ p ∷ rest))) same c.first_orphan.ensures
