-- The clients' parts of a report tell the traces.
use Rattle.std.proofs.Common.{◌≡◌, ℕ, suc, ◌+◌, true, List, [], ◌∷◌, ◌++◌, reverse, refl, sym, ap, subst, ◌∙◌, decimal, append_assoc}
use Rattle.std.specs.Prelude.{codes}
use Rattle.std.specs.List.{list_any, AllByRecursion, flat_map}
use Rattle.std.proofs.lemmas.List.{append_cancel_left, reverse-reverse}
use Rattle.sv_world.specs.declared.world.ClientId.{ClientId}
use Rattle.sv_world.specs.declared.world.ObjectId.{ObjectId}
use Rattle.sv_world.specs.declared.world.Shape.{Shape}
use Rattle.sv_wire.specs.declared.message.Reply.{Reply}
use Rattle.sv_journal.specs.declared.entry.Entry.{Entry}
use Rattle.sv_journal.specs.History.{accepted}
use Rattle.sv_client.specs.declared.trace.Event.{Event}
use Rattle.sv_client.specs.declared.trace.Trace.{Trace}
use Rattle.sv_client.specs.Traces.{got}
use Rattle.sv_client.specs.Taking.{Identity}
use Rattle.sv_client.specs.Proper.{Proper, identity_of}
use Rattle.sv_scenario.specs.declared.scenario.Plan.{Plan}
use Rattle.sv_scenario.specs.Sessions.{sessions_of_plan}
use Rattle.sv_script.specs.Following.{FollowsToEnd}
use Rattle.law_system.specs.Fits.{is_join_of, replies_in, has_session, FitsIn, FitsOne}
use Rattle.law_system.specs.Records.{AreTracesOf, EachTrace}
use Rattle.law_system.proofs.Asked.{any-turned}
use Rattle.sv_report.specs.Report.{event_lines, trace_text}
use Rattle.sv_report.specs.Again.{lines_after}
use Rattle.sv_report.proofs.Lines.{lines_are}
use Rattle.sv_check.specs.Next.{GotFronts}
use Rattle.sv_check.proofs.Told.{AreNext, events_tell, turned}

pub same_trace : (L M : Trace) → L.client ≡ M.client → L.interest ≡ M.interest → L.first ≡ M.first → L.events ≡ M.events → L ≡ M
same_trace L M e f g h =
    ap (λ (x : ClientId). record { client = x; interest = L.interest; first = L.first; events = L.events }) e
    ∙ ap (λ (x : List ObjectId). record { client = M.client; interest = x; first = L.first; events = L.events }) f
    ∙ ap (λ (x : ℕ). record { client = M.client; interest = M.interest; first = x; events = L.events }) g
    ∙ ap (λ (x : List Event). record { client = M.client; interest = M.interest; first = M.first; events = x }) h

pub trace_parts : (entries : List Entry) (L : Trace) (x : List ℕ) →
    trace_text entries L ++ x ≡ (codes "client " ++ decimal L.client.0) ++ (10 ∷ (lines_after entries [] L.events ++ x))
trace_parts entries L x =
    append_assoc (codes "client " ++ decimal L.client.0) (10 ∷ event_lines entries (reverse L.events)) x
    ∙ ap (λ (l : List ℕ). (codes "client " ++ decimal L.client.0) ++ (10 ∷ (l ++ x))) (lines_are entries L.events)

pub line_behind : (a b : List ℕ) → 10 ∷ a ≡ 10 ∷ b → a ≡ b
line_behind a b e = append_cancel_left (10 ∷ []) a b e

-- A trace of a scenario's client that fits a journal, and follows its client's script to the end.
pub record IsFine (shape : Shape) (h : List Entry) (plan : Plan) (L : Trace) : Type 0 where
  pub proper : Proper shape L
  pub sessions : (s : ℕ) → has_session L s ≡ true → FitsIn h L s
  pub follows : FollowsToEnd shape plan.steps L

module _ (shape : Shape) (h : List Entry) where
  abbrev R : ℕ → List Reply
  R s = replies_in (accepted h) h s

  got_fronts : (plan : Plan) (L : Trace) → IsFine shape h plan L → GotFronts R (reverse L.events)
  got_fronts plan L f s j =
      let has : has_session L s ≡ true =
      subst (λ (es : List Event). list_any (is_join_of s) es ≡ true) (reverse-reverse L.events) (any-turned (is_join_of s) (reverse L.events) j) in
      (f.sessions s has).got

  next_of : (plan : Plan) (L : Trace) → IsFine shape h plan L → AreNext (identity_of shape L) L.first R [] plan.steps L.events
  next_of plan L f = turned (identity_of shape L) L.first R plan.steps L.events f.follows.follows.left
      (record { proper = f.proper.events; follows = f.follows.follows.follows; gets = got_fronts plan L f }) f.follows.finished

  -- The part of a client tells its trace.
  pub trace_tells : (entries : List Entry) (plan : Plan) (L M : Trace) (x y : List ℕ) → L.client ≡ M.client → L.interest ≡ M.interest → L.first ≡ M.first →
      IsFine shape h plan L → IsFine shape h plan M → trace_text entries L ++ x ≡ trace_text entries M ++ y → (L ≡ M) × (x ≡ y)
  trace_tells entries plan L M x y c i n f g same =
      let who : identity_of shape L ≡ identity_of shape M =
      ap (λ (k : ClientId). record { client = k; interest = L.interest; shape = shape }) c ∙ ap (λ (os : List ObjectId). record { client = M.client; interest = os; shape = shape }) i in
      let mine : AreNext (identity_of shape M) M.first R [] plan.steps L.events =
      subst (λ (w : Identity). AreNext w M.first R [] plan.steps L.events) who
      (subst (λ (m : ℕ). AreNext (identity_of shape L) m R [] plan.steps L.events) n (next_of plan L f)) in
      let head = codes "client " ++ decimal M.client.0 in
      let xs = 10 ∷ (lines_after entries [] L.events ++ x) in
      let ys = 10 ∷ (lines_after entries [] M.events ++ y) in
      let heads : head ++ xs ≡ head ++ ys =
      ap (λ (k : ClientId). (codes "client " ++ decimal k.0) ++ xs) (sym c) ∙ sym (trace_parts entries L x) ∙ same ∙ trace_parts entries M y in
      let rest = line_behind (lines_after entries [] L.events ++ x) (lines_after entries [] M.events ++ y) (append_cancel_left head xs ys heads) in
      let all = events_tell (identity_of shape M) M.first R entries L.events M.events [] plan.steps x y mine (next_of plan M g) rest in
      (same_trace L M c i n all.0, all.1)

  -- The parts of all clients tell their traces.
  pub traces_tell : (entries : List Entry) (k s : ℕ) (plans : List Plan) (Ls Ms : List Trace) (x y : List ℕ) → AreTracesOf k s plans Ls → AreTracesOf k s plans Ms →
      EachTrace (IsFine shape h) plans Ls → EachTrace (IsFine shape h) plans Ms → flat_map (trace_text entries) Ls ++ x ≡ flat_map (trace_text entries) Ms ++ y → (Ls ≡ Ms) × (x ≡ y)
  traces_tell entries k s [] [] [] x y a b f g same = (refl, same)
  traces_tell entries k s [] [] (M ∷ Ms) x y a b f g same = absurd b
  traces_tell entries k s [] (L ∷ Ls) Ms x y a b f g same = absurd a
  traces_tell entries k s (plan ∷ plans) [] Ms x y a b f g same = absurd a
  traces_tell entries k s (plan ∷ plans) (L ∷ Ls) [] x y a b f g same = absurd b
  traces_tell entries k s (plan ∷ plans) (L ∷ Ls) (M ∷ Ms) x y a b f g same =
      let xs = flat_map (trace_text entries) Ls in
      let ys = flat_map (trace_text entries) Ms in
      let apart = sym (append_assoc (trace_text entries L) xs x) ∙ same ∙ append_assoc (trace_text entries M) ys y in
      let one = trace_tells entries plan L M (xs ++ x) (ys ++ y) (a.0 ∙ sym b.0) (a.1 ∙ sym b.1) (a.2 ∙ sym b.2) f.0 g.0 apart in
      let more = traces_tell entries (suc k) (s + sessions_of_plan plan) plans Ls Ms x y a.3 b.3 f.1 g.1 one.1 in
      (ap (λ (T : Trace). T ∷ Ls) one.0 ∙ ap (λ (Ts : List Trace). M ∷ Ts) more.0, more.1)

  -- All traces of a record are such.
  pub all_fine : (plans : List Plan) (Ls : List Trace) → AllByRecursion (Proper shape) Ls → AllByRecursion (FitsOne shape h) Ls → EachTrace (λ (plan : Plan) (L : Trace). FollowsToEnd shape plan.steps L) plans Ls →
      EachTrace (IsFine shape h) plans Ls
  all_fine [] [] p a w = tt
  all_fine [] (L ∷ Ls) p a w = absurd w
  all_fine (plan ∷ plans) [] p a w = absurd w
  all_fine (plan ∷ plans) (L ∷ Ls) p a w = (record { proper = p.0; sessions = a.0.sessions; follows = w.0 }, all_fine plans Ls p.1 a.1 w.1)
