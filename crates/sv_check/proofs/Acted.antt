-- From what an actor did to its client's part: where the one stops, the other stops. Events stand with the latest first.
use Rattle.std.proofs.Common.{◌≡◌, ◌≢◌, inl, ℕ, suc, ◌+◌, ◌<◌, ◌≤◌, true, false, List, [], ◌∷◌, ◌++◌, map, length, length-append, reverse, refl, sym, ap, subst, ◌∙◌, arith, true≢false, append_assoc, append-nil}
use Rattle.std.specs.Prelude.{Result, Err, IsErrAnd}
use Rattle.std.proofs.lemmas.Result.{err_from_is_err_and}
use Rattle.std.proofs.lemmas.List.{reverse-reverse}
use Rattle.std.proofs.lemmas.List.Elements.{All-from_recursion}
use Rattle.sv_world.specs.declared.world.ClientId.{ClientId}
use Rattle.sv_world.specs.declared.world.ObjectId.{ObjectId}
use Rattle.sv_world.specs.declared.world.Shape.{Shape}
use Rattle.sv_journal.specs.declared.entry.Entry.{Entry}
use Rattle.sv_client.specs.declared.trace.Event.{Event}
use Rattle.sv_client.specs.declared.trace.Trace.{Trace}
use Rattle.sv_client.specs.Traces.{got}
use Rattle.sv_client.specs.Taking.{Identity}
use Rattle.sv_client.specs.Proper.{Proper, AreProper, IsGoodIdentity, identity_of}
use Rattle.sv_client.specs.Seen.{raised, trace_from}
use Rattle.sv_client.proofs.Shifts.{up_proper}
use Rattle.sv_scenario.specs.declared.scenario.Plan.{Plan}
use Rattle.sv_scenario.specs.declared.scenario.Step.{Step}
use Rattle.sv_scenario.specs.Limits.{IsGoodPlan}
use Rattle.sv_script.specs.Following.{FollowsTo, Follows, is_finished}
use Rattle.sv_script.proofs.Shifted.{up_follows, up_finished}
use Rattle.law_system.specs.Fronts.{IsFront}
use Rattle.sv_lines.specs.declared.stop.LineStop.{LineStop}
use Rattle.sv_lines.specs.declared.stop.LineStop.TheVariants as stop
use Rattle.sv_report.specs.Report.{event_text, event_lines, trace_text}
use Rattle.sv_check.specs.declared.actor.Actor.{Actor}
use Rattle.sv_check.specs.Acting.{IsActing, WentOn, identity, journal_events}
use Rattle.sv_check.specs.Next.{IsLineOf, NoEvent, journal_replies}
use Rattle.sv_check.specs.Parts.{IsWholeTrace}
use Rattle.sv_check.specs.Stopping.{IfWrong}
use Rattle.sv_check.specs.Clients.{EventsStop, IsPartSoFar, PartStops, NoClient, IsClientStop}
use Rattle.sv_check.proofs.Events.{here_at}
use Rattle.sv_check.proofs.GoingOn.{client_line, some_head}

-- ---- Lines of events

-- One more line is taken.
pub taken_more : (entries : List Entry) (old now : List Event) (start whole text rest : List ℕ) → start ++ whole ≡ event_lines entries old ++ text → IsLineOf entries old now text rest →
    start ++ whole ≡ event_lines entries now ++ rest
taken_more entries old now start whole text rest e l =
    let line = event_text entries old l.event in
    let lines = event_lines entries old in
    e ∙ ap (λ (x : List ℕ). lines ++ x) l.text_is
    ∙ sym (append_assoc lines line (10 ∷ rest))
    ∙ sym (append_assoc (lines ++ line) (10 ∷ []) rest)
    ∙ ap (λ (t : List Event). event_lines entries t ++ rest) (sym l.now_is)

-- No event has a line in a text that is all taken.
pub none_left : (who : Identity) (first : ℕ) (entries : List Entry) (t : List Event) (before : List Step) (rest : List ℕ) → rest ≡ [] → NoEvent who first entries t before rest
none_left who first entries t before rest none e left more n line = some_head (event_text entries t e) more [] 10 (append-nil (event_text entries t e ++ 10 ∷ more) ∙ sym line ∙ none)

-- ---- A client's part

module _ (entries : List Entry) (a : Actor) (number first : ℕ) (shape : Shape) (plan : Plan) (g : IsActing entries a) (who : a.client.who ≡ identity number shape plan)
    (from : a.first ≡ first) (script : a.script.now ≡ plan.steps) where
  -- What it did so far.
  abbrev pub L : Trace
  L = trace_from a.first a.client

  back : reverse L.events ≡ journal_events a
  back = reverse-reverse (journal_events a)

  who_is : a.client.who ≡ identity_of shape L
  who_is = ap (λ (x : Shape). record { client = a.client.who.client; interest = a.client.who.interest; shape = x }) (ap (λ (w : Identity). w.shape) who)

  client_is : L.client ≡ record { 0 = number }
  client_is = ap (λ (w : Identity). w.client) who

  proper_so_far : number < 32 → IsGoodPlan shape plan → Proper shape L
  proper_so_far few good = record {
    who = subst IsGoodIdentity (sym who ∙ who_is) (record {
      client = few;
      few = good.few_objects;
      ascending = good.ascending;
      objects = All-from_recursion (λ (o : ObjectId). o.0 < shape.objects) plan.interest good.known;
    });
    events = subst (λ (u : List Event). AreProper (identity_of shape L) a.first u) (sym back)
        (subst (λ (w : Identity). AreProper w a.first (journal_events a)) who_is (up_proper a.first a.client.who a.client.events g.proper));
  }

  abbrev follows_so_far : Follows shape plan.steps L
  follows_so_far = record {
    left = a.left.now;
    follows = subst (λ (u : List Event). FollowsTo (identity_of shape L) plan.steps u a.left.now) (sym back)
        (subst (λ (ss : List Step). FollowsTo (identity_of shape L) ss (journal_events a) a.left.now) script
        (subst (λ (w : Identity). FollowsTo w a.script.now (journal_events a) a.left.now) who_is (up_follows a.first a.client.who a.script.now a.client.events a.left.now g.follows)));
  }

  abbrev acted : number < 32 → IsGoodPlan shape plan → IsPartSoFar shape entries number first plan L
  acted few good = record {
    of = record { client = client_is; interest = ap (λ (w : Identity). w.interest) who; first_is = from };
    proper = proper_so_far few good;
    follows = follows_so_far;
    gets = λ s j. subst (λ (u : List Event). IsFront (got u s) (journal_replies entries s)) (sym back) (g.gets.fronts s);
  }

  -- The text of what it did.
  pub taken : (y text rest : List ℕ) → y ≡ (client_line number ++ 10 ∷ []) ++ text → text ≡ event_lines entries (journal_events a) ++ rest → y ≡ trace_text entries L ++ rest
  taken y text rest e f =
      e ∙ ap (λ (l : List ℕ). (client_line number ++ 10 ∷ []) ++ l) f
      ∙ append_assoc (client_line number) (10 ∷ []) (event_lines entries (journal_events a) ++ rest)
      ∙ ap (λ (u : List Event). client_line number ++ (10 ∷ (event_lines entries u ++ rest))) (sym back)
      ∙ ap (λ (i : ClientId). client_line i.0 ++ (10 ∷ (event_lines entries (reverse L.events) ++ rest))) (sym client_is)
      ∙ sym (append_assoc (client_line L.client.0) (10 ∷ event_lines entries (reverse L.events)) rest)

  none_so_far : (rest : List ℕ) → NoEvent a.client.who a.first entries (journal_events a) a.left.now rest → NoEvent (identity_of shape L) a.first entries (reverse L.events) a.left.now rest
  none_so_far rest n = subst (λ (u : List Event). NoEvent (identity_of shape L) a.first entries u a.left.now rest) (sym back)
      (subst (λ (w : Identity). NoEvent w a.first entries (journal_events a) a.left.now rest) who_is n)

  -- It is finished as its trace is.
  finished_is : is_finished (reverse L.events) ≡ a.finished
  finished_is = ap is_finished back ∙ up_finished a.first a.client.events ∙ sym g.flags.finished

  stopped : (y text rest : List ℕ) (left : ℕ) → number < 32 → IsGoodPlan shape plan → y ≡ (client_line number ++ 10 ∷ []) ++ text → text ≡ event_lines entries (journal_events a) ++ rest →
      left ≡ length rest → NoEvent a.client.who a.first entries (journal_events a) a.left.now rest → (IsWholeTrace shape (reverse entries) plan L → ⊥) → PartStops shape entries number first plan y left
  stopped y text rest left few good e f is n not_whole =
      record { L = L; so_far = acted few good; rest = rest; text_is = taken y text rest e f; left_is = is; none = none_so_far rest n; not_whole = not_whole }

  stopped_here : (y text rest : List ℕ) (left : ℕ) → number < 32 → IsGoodPlan shape plan → y ≡ (client_line number ++ 10 ∷ []) ++ text → text ≡ event_lines entries (journal_events a) ++ rest →
      left ≡ length rest → NoEvent a.client.who a.first entries (journal_events a) a.left.now rest → a.finished ≡ false → PartStops shape entries number first plan y left
  stopped_here y text rest left few good e f is n here =
      stopped y text rest left few good e f is n (λ w. absurd (true≢false (sym w.follows.finished ∙ finished_is ∙ here)))

  none_finished : (rest : List ℕ) → a.finished ≡ true → NoEvent a.client.who a.first entries (journal_events a) a.left.now rest
  none_finished rest done e left more n line =
      true≢false (sym (up_finished a.first a.client.events ∙ sym g.flags.finished ∙ done) ∙ here_at a.client.who a.first (journal_replies entries) (journal_events a) a.left.now e left n.comes)

  -- It came to its end, and its trace is not whole.
  pub stopped_whole : (y text rest : List ℕ) (left : ℕ) → number < 32 → IsGoodPlan shape plan → y ≡ (client_line number ++ 10 ∷ []) ++ text → text ≡ event_lines entries (journal_events a) ++ rest →
      left ≡ length rest → a.finished ≡ true → (IsWholeTrace shape (reverse entries) plan L → ⊥) → PartStops shape entries number first plan y left
  stopped_whole y text rest left few good e f is done not_whole = stopped y text rest left few good e f is (none_finished rest done) not_whole

-- Its first lines are all that it did, where it did nothing before.
pub start_lines : (entries : List Entry) (old : Actor) (text whole : List ℕ) → old.client.events ≡ [] → event_lines entries (journal_events old) ++ text ≡ whole → text ≡ whole
start_lines entries old text whole new e = ap (λ (t : List Event). event_lines entries (map (raised old.first) t) ++ text) (sym new) ∙ e

-- The client's events stop being right.
pub events_stopped : (entries : List Entry) (old : Actor) (number first : ℕ) (shape : Shape) (plan : Plan) (y text : List ℕ) (left : ℕ) → number < 32 → IsGoodPlan shape plan →
    old.client.who ≡ identity number shape plan → old.first ≡ first → old.script.now ≡ plan.steps → old.client.events ≡ [] → y ≡ (client_line number ++ 10 ∷ []) ++ text →
    EventsStop entries old text left → PartStops shape entries number first plan y left
events_stopped entries old number first shape plan y text left few good who from script new e s =
    let lines = start_lines entries old text (event_lines entries (journal_events s.now) ++ s.rest) new s.text_is in
    stopped_here entries s.now number first shape plan s.on.acting (s.on.who ∙ who) (s.on.first ∙ from) (s.on.script ∙ script) y text s.rest left few good e lines s.left_is s.none s.here

-- ---- The loop over the events

-- The actor went on from the old one, by the events whose lines were taken, each of at least one byte.
pub record TookEvents (entries : List Entry) (old now : Actor) (text rest : List ℕ) (count : ℕ) : Type 0 where
  pub on : WentOn entries old now
  pub taken : event_lines entries (journal_events old) ++ text ≡ event_lines entries (journal_events now) ++ rest
  pub less : count + length rest ≤ length text

pub takes_none : (entries : List Entry) (a : Actor) (text : List ℕ) → IsActing entries a → TookEvents entries a a text text 0
takes_none entries a text g = record { on = record { acting = g; who = refl; first = refl; script = refl }; taken = refl; less = omega arith }

line_shorter : (entries : List Entry) (old now : List Event) (text rest : List ℕ) → IsLineOf entries old now text rest → suc (length rest) ≤ length text
line_shorter entries old now text rest l =
    let whole = ap length l.text_is in
    let sum = length-append (event_text entries old l.event) (10 ∷ rest) in
    omega (arith, whole, sum)

pub takes_more : (entries : List Entry) (old a b : Actor) (text rest more : List ℕ) (count : ℕ) → TookEvents entries old a text rest count → WentOn entries a b →
    IsLineOf entries (journal_events a) (journal_events b) rest more → TookEvents entries old b text more (count + 1)
takes_more entries old a b text rest more count t w l =
    let shorter = line_shorter entries (journal_events a) (journal_events b) rest more l in
    let less = t.less in
    record {
      on = record { acting = w.acting; who = w.who ∙ t.on.who; first = w.first ∙ t.on.first; script = w.script ∙ t.on.script };
      taken = taken_more entries (journal_events a) (journal_events b) (event_lines entries (journal_events old)) text rest more t.taken l;
      less = omega (arith, shorter, less);
    }

-- What is said of a place goes with the same stop.
pub wrong_as : (A B : Type 0) (P Q : ℕ → Type 0) (e f : LineStop) → f ≡ e → ((left : ℕ) → P left → Q left) → IfWrong {A = A} (Err e) P → IfWrong {A = B} (Err f) Q
wrong_as A B P Q (stop.Wrong left) f is g h = subst (λ (x : LineStop). IfWrong {A = B} (Err x) Q) (sym is) (g left h)
wrong_as A B P Q stop.Memory f is g h = subst (λ (x : LineStop). IfWrong {A = B} (Err x) Q) (sym is) tt

-- Why the next event's line was not taken.
abbrev pub NoLine : List Entry → Actor → List ℕ → ℕ → Type 0
NoLine entries a rest left = (left ≡ length rest) × NoEvent a.client.who a.first entries (journal_events a) a.left.now rest

pub line_stopped : (entries : List Entry) (old a : Actor) (text rest : List ℕ) (count left : ℕ) → TookEvents entries old a text rest count → a.finished ≡ false → NoLine entries a rest left →
    EventsStop entries old text left
line_stopped entries old a text rest count left t here n =
    record { now = a; on = t.on; here = here; rest = rest; text_is = t.taken; left_is = n.0; none = n.1 }

no_length : (xs : List ℕ) → length xs ≡ 0 → xs ≡ []
no_length [] e = refl
no_length (x ∷ xs) e = absurd (omega (arith, e))

-- All of the text was taken.
pub text_stopped : (entries : List Entry) (old a : Actor) (text rest : List ℕ) (count left : ℕ) → TookEvents entries old a text rest count → length text ≤ count → a.finished ≡ false → left ≡ length rest →
    EventsStop entries old text left
text_stopped entries old a text rest count left t all here is =
    let less = t.less in
    let none = no_length rest (omega (arith, less, all)) in
    line_stopped entries old a text rest count left t here (is, none_left a.client.who a.first entries (journal_events a) a.left.now rest none)

-- The client's first line is not taken.
pub line_missing : (number : ℕ) (text line : List ℕ) (left : ℕ) → line ≡ client_line number ++ 10 ∷ [] → ((rest : List ℕ) → text ≢ line ++ rest) → left ≡ length text → NoClient number text left
line_missing number text line left is differs e = record {
  differs = λ rest same. differs rest (same ∙ sym (append_assoc (client_line number) (10 ∷ []) rest) ∙ ap (λ (l : List ℕ). l ++ rest) (sym is));
  left_is = e;
}

-- The same at the exit of a `?`.
pub wrong_from : (A B : Type 0) (P Q : ℕ → Type 0) (e : LineStop) (r : Result B LineStop) → IsErrAnd r (λ (y : LineStop). y ≡ e) → ((left : ℕ) → P left → Q left) → IfWrong {A = A} (Err e) P → IfWrong {A = B} r Q
wrong_from A B P Q e r s g h =
    let p = err_from_is_err_and r s in
    subst (λ (x : Result B LineStop). IfWrong {A = B} x Q) (sym p.1) (wrong_as A B P Q e p.0 p.2 g h)

-- The client's first line was not taken.
pub missing_from : (B : Type 0) (shape : Shape) (entries : List Entry) (number first : ℕ) (plan : Plan) (text line : List ℕ) (e : LineStop) (r : Result B LineStop) → IsErrAnd r (λ (y : LineStop). y ≡ e) →
    e ≡ stop.Wrong (length text) → line ≡ client_line number ++ 10 ∷ [] → ((rest : List ℕ) → text ≢ line ++ rest) → IfWrong {A = B} r (IsClientStop shape entries number first plan text)
missing_from B shape entries number first plan text line e r s w l differs =
    let p = err_from_is_err_and r s in
    subst (λ (x : Result B LineStop). IfWrong {A = B} x (IsClientStop shape entries number first plan text)) (sym p.1)
    (subst (λ (y : LineStop). IfWrong {A = B} (Err y) (IsClientStop shape entries number first plan text)) (sym (p.2 ∙ w)) (inl (line_missing number text line (length text) l differs refl)))
