-- The action that a text is, and whether it may be made.
use Rattle.std.proofs.Common.{◌≡◌, ◌<◌, ◌≤◌, ◌⊎◌, inl, inr, ℕ, List, [], length, Result, Ok, Err, refl, subst}
use Rattle.std.specs.Prelude.{OnOk, IfErr}
use Rattle.sv_world.specs.declared.action.Action.{Action}
use Rattle.sv_text.specs.declared.fault.ParseFault.{ParseFault}
use Rattle.sv_text.specs.declared.fault.ParseFault.TheVariants as parse_faults
use Rattle.sv_text.specs.Reading.{Gives}
use Rattle.sv_text.specs.Grammar.{IsActionText}
use Rattle.sv_text.specs.Tokens.{tokens_of}
use Rattle.sv_client.specs.declared.trace.Event.TheVariants as events
use Rattle.sv_client.specs.Traces.{makes}
use Rattle.sv_client.specs.Proper.{IsReadyToMake, most_numbers}
use Rattle.sv_pilot.specs.declared.trouble.Trouble.{Trouble}
use Rattle.sv_pilot.specs.declared.trouble.Trouble.TheVariants as troubles
use Rattle.sv_pilot.specs.Troubles.{trouble_of_text}
use Rattle.sv_pilot.specs.Lines.{IsCalm}
use Rattle.sv_pilot.specs.Doings.{PilotView, Did, IsSettled, MadeAction, NoneMayBeMade, StoppedMake, StoppedAction, text_limit}

pub same_read : (a b : Action) → Gives (λ (x : Action). x) (Ok a) (Ok b) → b ≡ a
same_read a b e = cc

pub none_read : (fault : ParseFault) (a : Action) → trouble_of_text fault ≡ troubles.Game → Gives (λ (x : Action). x) (Err fault) (Ok a) → ⊥
none_read parse_faults.Memory a game e = cc
none_read (parse_faults.Text f) a game e = cc

pub none_made : (text : List ℕ) (p : PilotView) (action : Action) → ((other : Action) → IsActionText other (tokens_of text) → other ≡ action) →
    (IsReadyToMake p.client.who p.client.events action → ⊥) → NoneMayBeMade text p
none_made text p action only not other is may = not (subst (λ (a : Action). IsReadyToMake p.client.who p.client.events a) (only other is) may)

pub none_made_or : {B : Type 0} (text : List ℕ) (p : PilotView) (action : Action) → ((other : Action) → IsActionText other (tokens_of text) → other ≡ action) →
    ((IsReadyToMake p.client.who p.client.events action → ⊥) ⊎ B) → NoneMayBeMade text p ⊎ B
none_made_or text p action only (inl not) = inl (none_made text p action only not)
none_made_or text p action only (inr b) = inr b

pub stopped_text : (text : List ℕ) (old new : PilotView) (action : Action) (trouble : Trouble) → length text < text_limit → IsActionText action (tokens_of text) →
    ((trouble ≡ troubles.Game) ⊎ StoppedMake action old new trouble) → (trouble ≡ troubles.Game) ⊎ StoppedAction text old new trouble
stopped_text text old new action trouble short is (inl game) = inl game
stopped_text text old new action trouble short is (inr (inl nothing)) = inr (inl nothing)
stopped_text text old new action trouble short is (inr (inr made)) = inr (inr (made.1.0, record { short = short; action = action; is_text = is; may = made.0; did = made.1.1 }, made.1.2))

pub weaken_err : {X : Type 0} (P Q : Trouble → Type 0) (r : Result X Trouble) → ((t : Trouble) → P t → Q t) → IfErr r P → IfErr r Q
weaken_err P Q (Ok x) f p = tt
weaken_err P Q (Err t) f p = f t p

pub made_text : (text : List ℕ) (old new : PilotView) (action : Action) (r : Result Unit Trouble) → IsActionText action (tokens_of text) → length text < text_limit
    → OnOk r (IsReadyToMake old.client.who old.client.events action × Did (events.Make action) old new [] × IsSettled new × IsCalm old.line new.line)
    → OnOk r (MadeAction text old new [] × IsSettled new × IsCalm old.line new.line)
made_text text old new action (Ok x) is short s = (record { short = short; action = action; is_text = is; may = s.0; did = s.1 }, s.2, s.3)
made_text text old new action (Err t) is short s = tt

-- Nothing was done for the text.
pub text_nothing : (text : List ℕ) (p : PilotView) (trouble : Trouble) → (trouble ≡ troubles.Game) ⊎ (trouble ≡ troubles.Memory) → (trouble ≡ troubles.Game) ⊎ StoppedAction text p p trouble
text_nothing text p trouble (inl game) = inl game
text_nothing text p trouble (inr memory) = inr (inl (refl, memory))

pub text_refused : (text : List ℕ) (p : PilotView) → (text_limit ≤ length text) ⊎ NoneMayBeMade text p → (p ≡ p) × ((text_limit ≤ length text) ⊎ (NoneMayBeMade text p ⊎ (most_numbers ≤ makes p.client.events)))
text_refused text p (inl long) = (refl, inl long)
text_refused text p (inr none) = (refl, inr (inl none))

pub text_or_memory : (fault : ParseFault) → (trouble_of_text fault ≡ troubles.Game) ⊎ (trouble_of_text fault ≡ troubles.Memory)
text_or_memory parse_faults.Memory = inr refl
text_or_memory (parse_faults.Text f) = inl refl
