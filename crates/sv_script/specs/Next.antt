-- What a client that follows its script does next, in a session that has its Welcome.
-- Events stand with the latest first: `e ∷ t` is t, and then e.
use Rattle.std.specs.Prelude.{◌≡◌, ◌≢◌, Bool, true, false, ◌&&◌, nat_lt, List, [], ◌∷◌, length}
use Rattle.sv_world.specs.Limits.{most_outstanding, most_pending}
use Rattle.sv_client.specs.declared.trace.Event.{Event}
use Rattle.sv_client.specs.Traces.{pending_of}
use Rattle.sv_client.specs.Taking.{Identity, outstanding}
use Rattle.sv_scenario.specs.declared.scenario.Step.{Step}
use Rattle.sv_scenario.specs.declared.scenario.Step.TheVariants as steps
use Rattle.sv_script.specs.declared.going.Next.{Next}
use Rattle.sv_script.specs.declared.going.Next.TheVariants as nexts
use Rattle.sv_script.specs.Following.{is_welcomed, unsynced}

-- one more request may be outstanding
abbrev pub may_ask : Identity → List Event → Bool
may_ask who t = nat_lt (length (outstanding who t)) most_outstanding

-- A step can be done now: an action, where one more may be pending and one more request outstanding; a Poll or an Observe, where one more
-- request may be; a show, a cut or a quit always. A sync that was not passed can't.
abbrev pub can_do : Identity → List Event → Step → Bool
can_do who t (steps.Act action) = nat_lt (length (pending_of t)) most_pending && may_ask who t
can_do who t steps.Poll = may_ask who t
can_do who t (steps.Observe objects) = may_ask who t
can_do who t steps.Sync = false
can_do who t (steps.Show objects) = true
can_do who t steps.Cut = true
can_do who t steps.Quit = true

-- the first of the steps can be done now. At the script's end there is none
abbrev pub can_do_first : Identity → List Event → List Step → Bool
can_do_first who t [] = false
can_do_first who t (step ∷ ss) = can_do who t step

-- The session has its Welcome, and the next of the steps that are left can be done now.
abbrev pub can_go_on : Identity → List Event → List Step → Bool
can_go_on who t left = is_welcomed t && can_do_first who t (unsynced who t left)

-- It does the next step as soon as it can, and leaves once none is left and nothing is outstanding; else it waits for a reply.
abbrev pub IsNext : Next → Identity → List Event → List Step → Type 0
IsNext nexts.Wait who t left = (can_do_first who t (unsynced who t left) ≡ false) × (unsynced who t left ≡ [] → outstanding who t ≢ [])
IsNext nexts.Leave who t left = (unsynced who t left ≡ []) × (outstanding who t ≡ [])
IsNext (nexts.Do step rest) who t left = (unsynced who t left ≡ step.now ∷ rest.now) × (can_do who t step.now ≡ true)
