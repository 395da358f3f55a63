-- What an event of one session leaves of the others.
use Rattle.std.proofs.Common.{◌≡◌, ◌≢◌, ℕ, false, eqb, List, [], ◌∷◌, ◌++◌, Option, Some, refl, sym, ap, ◌∙◌, append-nil}
use Rattle.std.specs.Prelude.{unwrap_or, if◌then◌else◌}
use Rattle.std.proofs.lemmas.Bool.{ne_eqb, cond-false}
use Rattle.sv_world.specs.declared.world.ClientId.{ClientId}
use Rattle.sv_world.specs.declared.world.ObjectId.{ObjectId}
use Rattle.sv_wire.specs.declared.message.Request.{Request}
use Rattle.sv_client.specs.declared.trace.Event.{Event}
use Rattle.sv_client.specs.declared.trace.Event.TheVariants as events
use Rattle.sv_client.specs.Traces.{current_session, is_session, asked, asked_by_event, got}
use Rattle.sv_client.specs.Taking.{Identity}
use Rattle.sv_client.specs.Seen.{newly_asked}
use Rattle.sv_script.proofs.Shifted.{or_none}
use Rattle.sv_player.specs.Stops.{is_cut}

-- An event that comes after the events t is one of session s.
abbrev pub IsOf : ℕ → List Event → Event → Type 0
IsOf s t (events.Join n) = n ≡ s
IsOf s t (events.Got n reply) = n ≡ s
IsOf s t e = current_session t ≡ Some s

if_none : {X : Type 0} (n s : ℕ) (xs : List X) → n ≢ s → (if eqb n s then xs else []) ≡ []
if_none n s xs ne = cond-false (eqb n s) xs [] (ne_eqb n s ne)

current_not : (t : List Event) (s n : ℕ) → current_session t ≡ Some s → n ≢ s → is_session (current_session t) n ≡ false
current_not t s n c ne = ap (λ o. is_session o n) c ∙ ne_eqb s n (λ e. ne (sym e))

pub asks_other : (client : ClientId) (interest : List ObjectId) (s : ℕ) (t : List Event) (e : Event) → IsOf s t e → (n : ℕ) → n ≢ s → asked client interest (e ∷ t) n ≡ asked client interest t n
asks_other client interest s t e of n ne = ap (λ (rs : List Request). asked client interest t n ++ rs) (none e of) ∙ append-nil (asked client interest t n)
  where
    none : (e : Event) → IsOf s t e → asked_by_event client interest t e n ≡ []
    none (events.Join m) of = if_none m n _ (λ e. ne (sym e ∙ of))
    none (events.Got m reply) of = if_none m n _ (λ e. ne (sym e ∙ of))
    none (events.Make a) of = cond-false (is_session (current_session t) n) _ [] (current_not t s n of ne)
    none events.Poll of = cond-false (is_session (current_session t) n) _ [] (current_not t s n of ne)
    none (events.Observe os wait) of = cond-false (is_session (current_session t) n) _ [] (current_not t s n of ne)
    none events.Leave of = cond-false (is_session (current_session t) n) _ [] (current_not t s n of ne)
    none events.Cut of = refl
    none events.Quit of = refl
    none (events.Show objects) of = refl

pub gets_other : (s : ℕ) (t : List Event) (e : Event) → IsOf s t e → (n : ℕ) → n ≢ s → got (e ∷ t) n ≡ got t n
gets_other s t (events.Join m) of n ne = refl
gets_other s t (events.Got m reply) of n ne = cond-false (eqb m n) _ (got t n) (ne_eqb m n (λ e. ne (sym e ∙ of)))
gets_other s t (events.Make a) of n ne = refl
gets_other s t events.Poll of n ne = refl
gets_other s t (events.Observe os wait) of n ne = refl
gets_other s t events.Leave of n ne = refl
gets_other s t events.Cut of n ne = refl
gets_other s t events.Quit of n ne = refl
gets_other s t (events.Show objects) of n ne = refl

pub cuts_other : (s : ℕ) (t : List Event) (e : Event) → IsOf s t e → (n : ℕ) → n ≢ s → is_cut (e ∷ t) n ≡ is_cut t n
cuts_other s t events.Cut of n ne = or_none (is_session (current_session t) n) (is_cut t n) (current_not t s n of ne)
cuts_other s t events.Quit of n ne = or_none (is_session (current_session t) n) (is_cut t n) (current_not t s n of ne)
cuts_other s t (events.Join m) of n ne = refl
cuts_other s t (events.Got m reply) of n ne = refl
cuts_other s t (events.Make a) of n ne = refl
cuts_other s t events.Poll of n ne = refl
cuts_other s t (events.Observe os wait) of n ne = refl
cuts_other s t events.Leave of n ne = refl
cuts_other s t (events.Show objects) of n ne = refl

-- What an event asks is asked in the session that then is the last one.
pub asks_here : (who : Identity) (s : ℕ) (t : List Event) (e : Event) → current_session (e ∷ t) ≡ Some s →
    asked who.client who.interest (e ∷ t) s ≡ asked who.client who.interest t s ++ newly_asked who t e
asks_here who s t e c =
    ap (λ (n : ℕ). asked who.client who.interest t s ++ asked_by_event who.client who.interest t e n) (sym (ap (λ (o : Option ℕ). unwrap_or o 0) c))
