-- How many requests a trace that follows a script asks in any of its sessions.
use Rattle.std.proofs.Common.{◌≡◌, ℕ, ◌+◌, ◌*◌, ◌≤◌, true, false, ◌==◌, inl, inr, List, [], ◌∷◌, ◌++◌, length, Some, refl, sym, ap, ◌∙◌, arith, eqb-true, eq-eqb, Option, None, append-nil}
use Rattle.std.proofs.lemmas.Bool.{cond-true, cond-false, cases_Bool}
use Rattle.std.proofs.lemmas.List.{length-append, length-drop}
use Rattle.std.proofs.lemmas.Option.{none-some, same_Some}
use Rattle.sv_wire.specs.declared.message.Request.{Request}
use Rattle.sv_wire.specs.declared.message.Reply.{Reply}
use Rattle.sv_client.specs.declared.trace.Event.{Event}
use Rattle.sv_client.specs.declared.trace.Event.TheVariants as events
use Rattle.sv_client.specs.Traces.{joins, current_session, asked, got, is_session, asked_by_event}
use Rattle.sv_client.specs.Taking.{Identity, outstanding}
use Rattle.sv_client.specs.Proper.{AreProper, in_session, MayFollow}
use Rattle.sv_client.proofs.Sessions.{no_got}
use Rattle.sv_client.proofs.Outstanding.{outstanding_in, got_within}
use Rattle.sv_scenario.specs.declared.scenario.Step.{Step}
use Rattle.sv_script.specs.Following.{FollowsTo}
use Rattle.sv_script.proofs.Beginnings.{step-less, event-less}
use Rattle.sv_script.proofs.Due.{due, due-joined, due-made, due-polled, due-observed, due-left, due-got, due-cut, due-quit, due-shown, due-some}
use Rattle.sv_script.proofs.Counts.{one_if}

pub left-less : (who : Identity) (script : List Step) (t : List Event) (left : List Step) → FollowsTo who script t left → length left ≤ length script
left-less who script [] left f = let same = ap (λ (ss : List Step). length ss) f in omega (arith, same)
left-less who script (e ∷ t) left f =
    let a = left-less who script t f.0 f.1.0 in let b = event-less who t f.0 e left f.1.1 in omega (arith, a, b)

got-more : (m s : ℕ) (reply : Reply) (t : List Event) → m ≡ s → length (got (events.Got m reply ∷ t) s) ≡ length (got t s) + 1
got-more m s reply t e = ap length (cond-true (m == s) (got t s ++ reply ∷ []) (got t s) (eq-eqb m s e)) ∙ length-append (got t s) (reply ∷ [])

module _ (who : Identity) (first : ℕ) (script : List Step) where
  -- So many replies were got in a session, and so many may come still.
  abbrev IsBounded : List Event → List Step → ℕ → Type 0
  IsBounded t left s = length (got t s) + due (outstanding who t) + 2 * length left + one_if (in_session t) ≤ 2 * length script + 18

  bounded : (t : List Event) (left : List Step) (s : ℕ) → AreProper who first t → FollowsTo who script t left → current_session t ≡ Some s → IsBounded t left s
  bounded [] left s p f c = absurd (none-some s c)
  bounded (events.Join m ∷ t) left s p f c =
      let is : m ≡ s = same_Some m s c in
      let number : m ≡ first + joins t = p.0.next in
      let none = ap length (no_got who first t p.1 s (omega (arith, is, number))) in
      let ends = due-joined who first t m p.1 p.0 in
      let less = left-less who script (events.Join m ∷ t) left f in
      omega (arith, none, ends, less)
  bounded (events.Got m reply ∷ t) left s p f c =
      let before = bounded t f.0 s p.1 f.1.0 c in
      let is : m ≡ s = same_Some m s (sym p.0.current ∙ c) in
      let more = got-more m s reply t is in
      let ends = due-got who first t m reply p.1 p.0 in
      let same = ap (λ (ss : List Step). length ss) f.1.1.same in
      omega (arith, before, more, ends, same)
  bounded (events.Make action ∷ t) left s p f c =
      let before = bounded t f.0 s p.1 f.1.0 c in
      let ends = due-made who first t action p.1 p.0.joined in
      let fewer = step-less who t f.0 (events.Make action) left f.1.1 in
      omega (arith, before, ends, fewer)
  bounded (events.Poll ∷ t) left s p f c =
      let before = bounded t f.0 s p.1 f.1.0 c in
      let ends = due-polled who first t p.1 p.0.joined in
      let fewer = step-less who t f.0 events.Poll left f.1.1 in
      omega (arith, before, ends, fewer)
  bounded (events.Observe objects wait ∷ t) left s p f c =
      let before = bounded t f.0 s p.1 f.1.0 c in
      let ends = due-observed who first t objects wait p.1 p.0.joined in
      let fewer = step-less who t f.0 (events.Observe objects wait) left f.1.1 in
      omega (arith, before, ends, fewer)
  bounded (events.Leave ∷ t) left s p f c =
      let before = bounded t f.0 s p.1 f.1.0 c in
      let ends = due-left who first t p.1 p.0.joined in
      let none = ap (λ (ss : List Step). length ss) f.1.1.same in
      let once = ap one_if p.0.joined in
      omega (arith, before, ends, none, once)
  bounded (events.Cut ∷ t) left s p f c =
      let before = bounded t f.0 s p.1 f.1.0 c in
      let ends = due-cut who t in
      let fewer = step-less who t f.0 events.Cut left f.1.1 in
      omega (arith, before, ends, fewer)
  bounded (events.Quit ∷ t) left s p f c =
      let before = bounded t f.0 s p.1 f.1.0 c in
      let ends = due-quit who t in
      let fewer = step-less who t f.0 events.Quit left f.1.1 in
      omega (arith, before, ends, fewer)
  bounded (events.Show objects ∷ t) left s p f c =
      let before = bounded t f.0 s p.1 f.1.0 c in
      let ends = due-shown who t objects in
      let fewer = step-less who t f.0 (events.Show objects) left f.1.1 in
      omega (arith, before, ends, fewer)

due-each : (qs : List Request) → length qs ≤ due qs
due-each [] = omega arith
due-each (q ∷ qs) = let a = due-some q in let b = due-each qs in omega (arith, a, b)

-- At most 530 requests are asked in a session.
pub asked-few : (who : Identity) (first : ℕ) (script : List Step) (t : List Event) (left : List Step) (s : ℕ) → length script ≤ 256 → AreProper who first t →
    FollowsTo who script t left → current_session t ≡ Some s → length (asked who.client who.interest t s) ≤ 530
asked-few who first script t left s few p f c =
    let most = bounded who first script t left s p f c in
    let waits = due-each (outstanding who t) in
    let rest = ap length (outstanding_in who t s c) ∙ length-drop (length (got t s)) (asked who.client who.interest t s) in
    let within = got_within who first t p s in
    omega (arith, few, most, waits, rest, within)

-- An event asks nothing but in the session that is the last one after it.
elsewhere : (who : Identity) (first : ℕ) (t : List Event) (e : Event) (s : ℕ) → MayFollow who first t e → is_session (current_session (e ∷ t)) s ≡ false → asked_by_event who.client who.interest t e s ≡ []
elsewhere who first t (events.Join n) s may f = cond-false (n == s) _ [] f
elsewhere who first t (events.Make a) s may f = cond-false (is_session (current_session t) s) _ [] f
elsewhere who first t events.Poll s may f = cond-false (is_session (current_session t) s) _ [] f
elsewhere who first t (events.Observe objects wait) s may f = cond-false (is_session (current_session t) s) _ [] f
elsewhere who first t events.Leave s may f = cond-false (is_session (current_session t) s) _ [] f
elsewhere who first t (events.Got n reply) s may f = cond-false (n == s) _ [] (sym (ap (λ (o : Option ℕ). is_session o s) may.current) ∙ f)
elsewhere who first t events.Cut s may f = refl
elsewhere who first t events.Quit s may f = refl
elsewhere who first t (events.Show objects) s may f = refl

session-here : (o : Option ℕ) (s : ℕ) → is_session o s ≡ true → o ≡ Some s
session-here None s t = cc
session-here (Some n) s t = ap (λ (k : ℕ). Some k) (eqb-true n s t)

-- At most 530 requests are asked in a session.
pub few-asked : (who : Identity) (first : ℕ) (script : List Step) (t : List Event) (left : List Step) (s : ℕ) → length script ≤ 256 → AreProper who first t →
    FollowsTo who script t left → length (asked who.client who.interest t s) ≤ 530
few-asked who first script [] left s few p f = omega arith
few-asked who first script (e ∷ t) left s few p f =
    let before = few-asked who first script t f.0 s few p.1 f.1.0 in
    elim (cases_Bool (is_session (current_session (e ∷ t)) s)) [
      | inl y ↦ asked-few who first script (e ∷ t) left s few p f (session-here (current_session (e ∷ t)) s y)
      | inr n ↦ (let none = ap (λ (rs : List Request). asked who.client who.interest t s ++ rs) (elsewhere who first t e s p.0 n) ∙ append-nil (asked who.client who.interest t s) in
          let same = ap (λ (rs : List Request). length rs) none in omega (arith, before, same))
    ]
