-- What holds of the record of a scenario's traffic.
use Rattle.std.proofs.Common.{◌≡◌, ℕ, suc, ◌+◌, ◌≤◌, List, [], ◌∷◌, length, reverse, refl, ap, subst}
use Rattle.std.specs.Prelude.{All}
use Rattle.std.proofs.lemmas.List.{reverse-reverse}
use Rattle.sv_world.specs.declared.world.Shape.{Shape}
use Rattle.sv_journal.specs.declared.entry.Entry.{Entry}
use Rattle.sv_journal.specs.Answer.{Rules, Legal}
use Rattle.sv_journal.specs.Laws.{LegalRelaysNameAccepted}
use Rattle.sv_journal.specs.Text.{RelaysNameAccepted}
use Rattle.sv_client.specs.declared.trace.Trace.{Trace}
use Rattle.sv_client.specs.Traces.{makes}
use Rattle.sv_client.specs.Proper.{Proper}
use Rattle.sv_client.proofs.Sessions.{few_makes}
use Rattle.sv_scenario.specs.declared.scenario.Plan.{Plan}
use Rattle.sv_scenario.specs.Sessions.{sessions_of_plan}
use Rattle.law_system.specs.Records.{AreTracesOf}

-- There are as many traces as clients.
pub traces_long : (k s : ℕ) (plans : List Plan) (Ls : List Trace) → AreTracesOf k s plans Ls → length Ls ≡ length plans
traces_long k s [] [] h = refl
traces_long k s [] (L ∷ Ls) h = absurd h
traces_long k s (plan ∷ plans) [] h = absurd h
traces_long k s (plan ∷ plans) (L ∷ Ls) h = ap suc (traces_long (suc k) (s + sessions_of_plan plan) plans Ls h.3)

-- Each of them makes at most 65,536 actions.
pub few_made : (shape : Shape) (Ls : List Trace) → All (Proper shape) Ls → All (λ (L : Trace). makes (reverse L.events) ≤ 65536) Ls
few_made shape Ls proper = λ k d l. few_makes _ _ _ (proper k d l).events

-- The relays of the journal name accepted actions.
pub named : (r : Rules) (entries : List Entry) → LegalRelaysNameAccepted → Legal r (reverse entries) → RelaysNameAccepted entries
named r entries law legal = subst RelaysNameAccepted (reverse-reverse entries) (law r (reverse entries) legal)
