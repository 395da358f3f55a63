-- The sessions that a trace that follows a script began, and those that it has still to begin.
use Rattle.std.proofs.Common.{◌≡◌, ℕ, ◌+◌, ◌≤◌, ◌<◌, true, false, List, [], ◌∷◌, length, Some, refl, sym, ap, ◌∙◌, arith}
use Rattle.std.proofs.lemmas.Option.{none-some, same_Some}
use Rattle.sv_client.specs.declared.trace.Event.{Event}
use Rattle.sv_client.specs.declared.trace.Event.TheVariants as events
use Rattle.sv_client.specs.Traces.{joins, current_session, got}
use Rattle.sv_client.specs.Taking.{Identity}
use Rattle.sv_client.specs.Proper.{AreProper}
use Rattle.sv_client.proofs.Sessions.{no_got, some_current}
use Rattle.sv_scenario.specs.declared.scenario.Step.{Step}
use Rattle.sv_scenario.specs.Sessions.{cuts_in}
use Rattle.sv_script.specs.Following.{FollowsTo, must_join, is_welcomed}
use Rattle.sv_script.proofs.Cuts.{cuts-synced, cuts-done}
use Rattle.sv_script.proofs.Counts.{one_if}

-- The sessions begun, and those to come: one for each cut that is left, and one where a Join is next.
pub joins-counted : (who : Identity) (script : List Step) (t : List Event) (left : List Step) → FollowsTo who script t left →
    joins t + cuts_in left + one_if (must_join t) ≡ cuts_in script + 1
joins-counted who script [] left f = let same = ap cuts_in f in omega (arith, same)
joins-counted who script (events.Join s ∷ t) left f =
    let before = joins-counted who script t f.0 f.1.0 in
    let same = ap cuts_in f.1.1.same in
    let one = ap one_if f.1.1.needed in
    omega (arith, before, same, one)
joins-counted who script (events.Got s reply ∷ t) left f =
    let before = joins-counted who script t f.0 f.1.0 in
    let same = ap cuts_in f.1.1.same in
    let none = ap one_if f.1.1.joined in
    omega (arith, before, same, none)
joins-counted who script (events.Leave ∷ t) left f =
    let before = joins-counted who script t f.0 f.1.0 in
    let same = ap cuts_in f.1.1.same in
    let done = sym (cuts-synced f.0) ∙ ap cuts_in f.1.1.done in
    let none = ap one_if f.1.1.joined in
    omega (arith, before, same, done, none)
joins-counted who script (events.Make action ∷ t) left f =
    let before = joins-counted who script t f.0 f.1.0 in
    let same = cuts-done who t f.0 (events.Make action) left f.1.1 in
    let none = ap one_if f.1.1.joined in
    omega (arith, before, same, none)
joins-counted who script (events.Poll ∷ t) left f =
    let before = joins-counted who script t f.0 f.1.0 in
    let same = cuts-done who t f.0 events.Poll left f.1.1 in
    let none = ap one_if f.1.1.joined in
    omega (arith, before, same, none)
joins-counted who script (events.Observe objects wait ∷ t) left f =
    let before = joins-counted who script t f.0 f.1.0 in
    let same = cuts-done who t f.0 (events.Observe objects wait) left f.1.1 in
    let none = ap one_if f.1.1.joined in
    omega (arith, before, same, none)
joins-counted who script (events.Cut ∷ t) left f =
    let before = joins-counted who script t f.0 f.1.0 in
    let same = cuts-done who t f.0 events.Cut left f.1.1 in
    let none = ap one_if f.1.1.joined in
    omega (arith, before, same, none)
joins-counted who script (events.Quit ∷ t) left f =
    let before = joins-counted who script t f.0 f.1.0 in
    let same = cuts-done who t f.0 events.Quit left f.1.1 in
    let none = ap one_if f.1.1.joined in
    omega (arith, before, same, none)
joins-counted who script (events.Show objects ∷ t) left f =
    let before = joins-counted who script t f.0 f.1.0 in
    let same = cuts-done who t f.0 (events.Show objects) left f.1.1 in
    let none = ap one_if f.1.1.joined in
    omega (arith, before, same, none)

pub joins-few : (who : Identity) (script : List Step) (t : List Event) (left : List Step) → FollowsTo who script t left → joins t ≤ cuts_in script + 1
joins-few who script t left f = let all = joins-counted who script t left f in omega (arith, all)

pub cuts-less : (who : Identity) (script : List Step) (t : List Event) (left : List Step) → FollowsTo who script t left → cuts_in left ≤ cuts_in script + 1
cuts-less who script t left f = let all = joins-counted who script t left f in omega (arith, all)

-- A client whose next event is no Join has a session.
pub current-there : (who : Identity) (first : ℕ) (script : List Step) (t : List Event) (left : List Step) → AreProper who first t → FollowsTo who script t left →
    must_join t ≡ false → (s : ℕ) × (current_session t ≡ Some s)
current-there who first script [] left p f m = cc
current-there who first script (events.Join s ∷ t) left p f m = (s, refl)
current-there who first script (events.Got s reply ∷ t) left p f m = (s, p.0.current)
current-there who first script (events.Make action ∷ t) left p f m = some_current t p.0.joined
current-there who first script (events.Poll ∷ t) left p f m = some_current t p.0.joined
current-there who first script (events.Observe objects wait ∷ t) left p f m = some_current t p.0.joined
current-there who first script (events.Leave ∷ t) left p f m = some_current t p.0.joined
current-there who first script (events.Cut ∷ t) left p f m = cc
current-there who first script (events.Quit ∷ t) left p f m = current-there who first script t f.0 p.1 f.1.0 f.1.1.joined
current-there who first script (events.Show objects ∷ t) left p f m = current-there who first script t f.0 p.1 f.1.0 f.1.1.joined

-- A session in which a reply was got has its Welcome.
pub got-welcomed : (who : Identity) (first : ℕ) (t : List Event) (s : ℕ) → AreProper who first t → current_session t ≡ Some s → 0 < length (got t s) → is_welcomed t ≡ true
got-welcomed who first [] s p c l = absurd (none-some s c)
got-welcomed who first (events.Join m ∷ t) s p c l =
    let is : m ≡ s = same_Some m s c in
    let number : m ≡ first + joins t = p.0.next in
    let none = ap length (no_got who first t p.1 s (omega (arith, is, number))) in
    absurd (omega (arith, none, l))
got-welcomed who first (events.Got m reply ∷ t) s p c l = refl
got-welcomed who first (events.Make action ∷ t) s p c l = got-welcomed who first t s p.1 c l
got-welcomed who first (events.Poll ∷ t) s p c l = got-welcomed who first t s p.1 c l
got-welcomed who first (events.Observe objects wait ∷ t) s p c l = got-welcomed who first t s p.1 c l
got-welcomed who first (events.Leave ∷ t) s p c l = got-welcomed who first t s p.1 c l
got-welcomed who first (events.Cut ∷ t) s p c l = got-welcomed who first t s p.1 c l
got-welcomed who first (events.Quit ∷ t) s p c l = got-welcomed who first t s p.1 c l
got-welcomed who first (events.Show objects ∷ t) s p c l = got-welcomed who first t s p.1 c l

-- A client whose steps are all done began all of its sessions.
pub all-joined : (who : Identity) (script : List Step) (t : List Event) (left : List Step) → FollowsTo who script t left → must_join t ≡ false → left ≡ [] →
    joins t ≡ 1 + cuts_in script
all-joined who script t left f m e =
    let all = joins-counted who script t left f in
    let none = ap cuts_in e in
    let no = ap one_if m in
    omega (arith, all, none, no)
