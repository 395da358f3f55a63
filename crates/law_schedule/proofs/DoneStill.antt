-- Once all is done, a round changes nothing, over any server.
use Rattle.std.proofs.Common.{◌≡◌, ℕ, suc, true, List, [], ◌∷◌, map, length, refl, ap, ap₂, ◌∙◌}
use Rattle.std.specs.List.{AllByRecursion}
use Rattle.std.proofs.lemmas.List.Elements.{recursion_from_All}
use Rattle.sv_world.specs.Control.{is_in, below}
use Rattle.sv_world.proofs.Bases.{below-is_in}
use Rattle.sv_world.proofs.Members.{is_in-head, is_in-tail}
use Rattle.sv_journal.specs.declared.entry.Entry.{Entry}
use Rattle.sv_journal.specs.Sessions.{is_ended}
use Rattle.sv_scenario.specs.declared.scenario.Scenario.{Scenario}
use Rattle.sv_scenario.specs.Sessions.{session_count}
use Rattle.law_schedule.specs.Players.{Player, player_turn, take_turns, asked_in_run}
use Rattle.law_schedule.specs.Serving.{Run, Server, session_served, all_served, sessions_served, after_clients, after_served, after_takes, round_served}
use Rattle.law_schedule.specs.Done.{IsRunDone}
use Rattle.law_schedule.proofs.DoneLists.{repeated-still}
use Rattle.law_schedule.proofs.DoneTakes.{takes-none}
use Rattle.law_schedule.proofs.DoneShut.{open-closed, turn-closed}

map-still : (f : Player → Player) (ps : List Player) → AllByRecursion (λ (p : Player). f p ≡ p) ps → map f ps ≡ ps
map-still f [] a = refl
map-still f (p ∷ ps) a = ap₂ (λ q qs. q ∷ qs) a.0 (map-still f ps a.1)

still-each : (f : Player → Player) → ((p : Player) → p.closed ≡ true → f p ≡ p) → (ps : List Player) → AllByRecursion (λ (p : Player). p.closed ≡ true) ps →
    AllByRecursion (λ (p : Player). f p ≡ p) ps
still-each f keep [] a = tt
still-each f keep (p ∷ ps) a = (keep p a.0, still-each f keep ps a.1)

-- A session that had its End does nothing at its turn.
pub ended-still : (server : Server) (ps : List Player) (s : ℕ) (h : List Entry) → is_ended h s ≡ true → session_served server ps h s ≡ h
ended-still server ps s h e = rw e refl

sessions-still : (server : Server) (ps : List Player) (h : List Entry) (ss : List ℕ) → ((s : ℕ) → is_in s ss ≡ true → is_ended h s ≡ true) → sessions_served server ps h ss ≡ h
sessions-still server ps h [] ended = refl
sessions-still server ps h (s ∷ ss) ended =
    let now : all_served server ps h s ≡ h =
    repeated-still (suc (length (asked_in_run ps s))) (λ (g : List Entry). session_served server ps g s) h (ended-still server ps s h (ended s (is_in-head s ss))) in
    ap (λ (g : List Entry). sessions_served server ps g ss) now ∙ sessions-still server ps h ss (λ t m. ended t (is_in-tail t s ss m))

pub round-still : (server : Server) (scenario : Scenario) (run : Run) → IsRunDone scenario run → round_served server (session_count scenario) run ≡ run
round-still server scenario run d =
    let n = session_count scenario in
    let closed = recursion_from_All (λ (p : Player). p.closed ≡ true) run.players d.closed in
    let clients : after_clients run ≡ run =
    ap (λ (ps : List Player). record run { players = ps }) (map-still player_turn run.players (still-each player_turn turn-closed run.players closed)) in
    let sessions : after_served server n run ≡ run =
    ap (λ (h : List Entry). record run { history = h })
    (sessions-still server run.players run.history (below n) (λ s m. d.ended s (below-is_in n s m))) in
    let takes : after_takes run ≡ run =
    ap (λ (ps : List Player). record run { players = ps })
    (map-still (take_turns run.history) run.players (still-each (take_turns run.history) (λ p c. takes-none run.history p (open-closed p c)) run.players closed)) in
    ap (λ (x : Run). after_takes (after_served server n x)) clients ∙ ap after_takes sessions ∙ takes
