-- What the laws of whole runs say of each client of a scenario.
use Rattle.std.proofs.Common.{◌≡◌, ℕ, zero, suc, true, List, [], ◌∷◌, reverse, Some, All, slice_get, subst}
use Rattle.std.specs.List.{AllByRecursion}
use Rattle.std.proofs.lemmas.List.Elements.{All-from_recursion}
use Rattle.std.proofs.lemmas.Option.{none-some, same_Some}
use Rattle.sv_world.specs.declared.world.Shape.{Shape}
use Rattle.sv_journal.specs.declared.entry.Entry.{Entry}
use Rattle.sv_client.specs.declared.trace.Trace.{Trace}
use Rattle.sv_client.specs.Proper.{Proper}
use Rattle.sv_scenario.specs.declared.scenario.Plan.{Plan}
use Rattle.sv_scenario.specs.Limits.{IsGoodPlan}
use Rattle.sv_script.specs.Following.{is_finished}
use Rattle.sv_script.specs.Laws.{EndsDoAllSteps}
use Rattle.law_system.specs.Outcomes.{HasOutcomes}
use Rattle.law_system.specs.Records.{ScriptsAreFollowed, ScriptsAreDone}
use Rattle.law_system.proofs.Every.{each-place}

finished-at : (shape : Shape) (plans : List Plan) (Ls : List Trace) → ScriptsAreFollowed shape plans Ls → (i : ℕ) (L : Trace) → slice_get Ls i ≡ Some L →
    is_finished (reverse L.events) ≡ true
finished-at shape [] [] d i L e = absurd (none-some L e)
finished-at shape [] (M ∷ Ms) d i L e = absurd d
finished-at shape (plan ∷ plans) [] d i L e = absurd d
finished-at shape (plan ∷ plans) (M ∷ Ms) d zero L e = subst (λ (N : Trace). is_finished (reverse N.events) ≡ true) (same_Some M L e) d.0.finished
finished-at shape (plan ∷ plans) (M ∷ Ms) d (suc i) L e = finished-at shape plans Ms d.1 i L e

-- Each client has its outcomes, where those have them that finished.
pub outcomes-each : (shape : Shape) (h : List Entry) (plans : List Plan) (Ls : List Trace) →
    ((i : ℕ) (L : Trace) → slice_get Ls i ≡ Some L → is_finished (reverse L.events) ≡ true → HasOutcomes h L) → ScriptsAreFollowed shape plans Ls → All (HasOutcomes h) Ls
outcomes-each shape h plans Ls law d =
    All-from_recursion (HasOutcomes h) Ls (each-place (HasOutcomes h) Ls (λ i L e. law i L e (finished-at shape plans Ls d i L e)))

-- Each client did all of its script.
pub scripts-done : EndsDoAllSteps → (shape : Shape) (plans : List Plan) (Ls : List Trace) → AllByRecursion (IsGoodPlan shape) plans →
    AllByRecursion (Proper shape) Ls → ScriptsAreFollowed shape plans Ls → ScriptsAreDone shape plans Ls
scripts-done law shape [] [] good proper d = tt
scripts-done law shape [] (M ∷ Ms) good proper d = absurd d
scripts-done law shape (plan ∷ plans) [] good proper d = absurd d
scripts-done law shape (plan ∷ plans) (M ∷ Ms) good proper d =
    (law shape plan.steps M proper.0 good.0.quit d.0, scripts-done law shape plans Ms good.1 proper.1 d.1)
