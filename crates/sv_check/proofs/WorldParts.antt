-- How a part of a report goes on behind the whole journal and all traces: with nothing, or with the world's lines.
-- A history is the list of a journal's entries with the latest first.
use Rattle.std.proofs.Common.{◌≡◌, ◌⊎◌, inl, inr, ℕ, suc, ◌+◌, ◌^◌, ◌<◌, ◌≤◌, true, List, [], ◌∷◌, ◌++◌, length, reverse, take, refl, sym, ap, subst, ◌∙◌, arith, decimal, append_assoc, append-nil}
use Rattle.std.specs.Prelude.{codes}
use Rattle.std.specs.List.{list_any, flat_map}
use Rattle.std.proofs.lemmas.List.{append_cancel_left, reverse-reverse, length-reverse}
use Rattle.sv_world.specs.declared.world.ClientId.{ClientId}
use Rattle.sv_world.specs.declared.world.ObjectId.{ObjectId}
use Rattle.sv_world.specs.declared.world.Shape.{Shape}
use Rattle.sv_wire.specs.declared.message.Reply.{Reply}
use Rattle.sv_journal.specs.declared.entry.Entry.{Entry}
use Rattle.sv_journal.specs.History.{accepted, commit_of, committed_of}
use Rattle.sv_journal.specs.Laws.{FullRepliesStay, LegalRelaysNameAccepted}
use Rattle.sv_journal.specs.Text.{entry_lines, journal_text}
use Rattle.sv_client.specs.declared.trace.Trace.{Trace}
use Rattle.sv_client.specs.Taking.{Identity}
use Rattle.sv_client.specs.Proper.{identity_of}
use Rattle.sv_scenario.specs.declared.scenario.Plan.{Plan}
use Rattle.sv_scenario.specs.declared.scenario.Scenario.{Scenario}
use Rattle.sv_scenario.specs.Sessions.{sessions_of_plan, sessions_in, session_count}
use Rattle.sv_script.specs.Following.{is_finished}
use Rattle.law_system.specs.Fits.{is_join_of, replies_in}
use Rattle.law_system.specs.Records.{AreTracesOf, EachTrace}
use Rattle.law_system.proofs.Asked.{any-turned}
use Rattle.sv_report.specs.Report.{trace_text, value_lines}
use Rattle.sv_report.specs.Again.{lines_after}
use Rattle.sv_lines.proofs.Splitting.{others_are, number_split}
use Rattle.sv_check.specs.Parts.{AreEntries, IsJournalPart, IsWholeJournal, IsTraceSoFar, IsWholeTrace, AreFirstTraces, IsOf, IsClientPart, IsWorldPart, IsReportPart}
use Rattle.sv_check.proofs.Entries.{entries_tell}
use Rattle.sv_check.proofs.Journals.{journal_parts, after_none, plain_lines, journals_tell}
use Rattle.sv_check.proofs.Further.{after, after_start, ComeTo, come, none_more, events_part, some_line}
use Rattle.sv_check.proofs.Traces.{IsFine, trace_parts, line_behind, trace_tells, traces_tell}
use Rattle.sv_check.proofs.Pairs.{text_long}
use Rattle.sv_check.proofs.Reports.{traffic_text, front_apart}
use Rattle.sv_check.proofs.WorldLines.{world_front}
use Rattle.sv_check.proofs.Told.{none_behind}

-- ---- Traces

module _ (scenario : Scenario) (h : List Entry) where
  abbrev shape : Shape
  shape = scenario.world.shape

  abbrev R : ℕ → List Reply
  R s = replies_in (accepted h) h s

  fine : (plan : Plan) (L : Trace) → IsWholeTrace shape h plan L → IsFine shape h plan L
  fine plan L w = record { proper = w.proper; sessions = w.fits; follows = w.follows }

  all_fine : (plans : List Plan) (Ls : List Trace) → EachTrace (IsWholeTrace shape h) plans Ls → EachTrace (IsFine shape h) plans Ls
  all_fine [] [] w = tt
  all_fine [] (L ∷ Ls) w = absurd w
  all_fine (plan ∷ plans) [] w = absurd w
  all_fine (plan ∷ plans) (L ∷ Ls) w = (fine plan L w.0, all_fine plans Ls w.1)

  pub so_far : (plan : Plan) (L : Trace) → IsWholeTrace shape h plan L → IsTraceSoFar scenario h plan L
  so_far plan L w = record { proper = w.proper; follows = w.follows.follows; got_is = λ s j. (w.fits s j).got }

  come_of : (plan : Plan) (L : Trace) (g : IsTraceSoFar scenario h plan L) → ComeTo (identity_of shape L) L.first R [] plan.steps L.events g.follows.left
  come_of plan L g = come (identity_of shape L) L.first R plan.steps L.events g.follows.left (record {
    proper = g.proper.events;
    follows = g.follows.follows;
    gets = λ s j. g.got_is s (subst (λ es. list_any (is_join_of s) es ≡ true) (reverse-reverse L.events) (any-turned (is_join_of s) (reverse L.events) j));
  })

  -- Behind a whole trace comes nothing, where the text is that of the same client's trace so far.
  ended : (plan : Plan) (L M : Trace) (x : List ℕ) → L.client ≡ M.client → L.interest ≡ M.interest → L.first ≡ M.first → IsWholeTrace shape h plan L → (g : IsTraceSoFar scenario h plan M) →
      trace_text (reverse h) L ++ x ≡ trace_text (reverse h) M → x ≡ []
  unfolding so_far
  ended plan L M x c i n w g same =
      let entries = reverse h in
      let who = identity_of shape L in
      let same_who : identity_of shape M ≡ who =
      ap (λ (k : ClientId). record { client = k; interest = M.interest; shape = shape }) (sym c)
      ∙ ap (λ (os : List ObjectId). record { client = L.client; interest = os; shape = shape }) (sym i) in
      let other : ComeTo who L.first R [] plan.steps M.events g.follows.left =
      subst (λ (v : Identity). ComeTo v L.first R [] plan.steps M.events g.follows.left) same_who
      (subst (λ (m : ℕ). ComeTo (identity_of shape M) m R [] plan.steps M.events g.follows.left) (sym n) (come_of plan M g)) in
      let xs = 10 ∷ (lines_after entries [] L.events ++ x) in
      let ys = 10 ∷ (lines_after entries [] M.events ++ []) in
      let head = codes "client " ++ decimal M.client.0 in
      let heads : head ++ xs ≡ head ++ ys =
      ap (λ (k : ClientId). (codes "client " ++ decimal k.0) ++ xs) (sym c) ∙ sym (trace_parts entries L x) ∙ same ∙ sym (append-nil (trace_text entries M)) ∙ trace_parts entries M [] in
      let rest = line_behind (lines_after entries [] L.events ++ x) (lines_after entries [] M.events ++ []) (append_cancel_left head xs ys heads) in
      let done : is_finished (after [] L.events) ≡ true = ap is_finished (after_start L.events) ∙ w.follows.finished in
      elim (events_part who L.first R entries L.events M.events [] plan.steps w.follows.follows.left g.follows.left x [] (come_of plan L (so_far plan L w)) other rest) [
        | inl m ↦ m.text ∙ ap (λ es. lines_after entries (after [] L.events) es ++ []) (none_more who L.first R (after [] L.events) w.follows.follows.left m.more g.follows.left done m.come)
        | inr m ↦ absurd (some_line who L.first R entries (after [] M.events) m.event m.more x m.text)
      ]

  -- Behind all traces comes nothing, where the text is that of whole traces of some clients, and of the next one's so far.
  front_traces : (k s : ℕ) (before : List Plan) (plan : Plan) (plans : List Plan) (Ls Ms : List Trace) (M : Trace) (z : List ℕ) →
      AreTracesOf k s (before ++ plan ∷ plans) Ls → EachTrace (IsWholeTrace shape h) (before ++ plan ∷ plans) Ls → AreTracesOf k s before Ms → EachTrace (IsWholeTrace shape h) before Ms →
      IsOf (k + length before) (s + sessions_in before) plan M → IsTraceSoFar scenario h plan M →
      flat_map (trace_text (reverse h)) Ls ++ z ≡ flat_map (trace_text (reverse h)) Ms ++ trace_text (reverse h) M → z ≡ []
  front_traces k s [] plan plans [] Ms M z a f b g o far same = absurd a
  front_traces k s [] plan plans (L ∷ Ls) (N ∷ Ms) M z a f b g o far same = absurd b
  front_traces k s [] plan plans (L ∷ Ls) [] M z a f b g o far same =
      let xs = flat_map (trace_text (reverse h)) Ls in
      let number : k ≡ k + 0 = omega arith in
      let start : s ≡ s + 0 = omega arith in
      let none = ended plan L M (xs ++ z) (a.0 ∙ ap (λ (m : ℕ). record { 0 = m }) number ∙ sym o.client) (a.1 ∙ sym o.interest) (a.2 ∙ start ∙ sym o.first_is) f.0 far
      (sym (append_assoc (trace_text (reverse h) L) xs z) ∙ same) in
      none_behind xs z none
  front_traces k s (p ∷ before) plan plans [] Ms M z a f b g o far same = absurd a
  front_traces k s (p ∷ before) plan plans (L ∷ Ls) [] M z a f b g o far same = absurd b
  front_traces k s (p ∷ before) plan plans (L ∷ Ls) (N ∷ Ms) M z a f b g o far same =
      let xs = flat_map (trace_text (reverse h)) Ls in
      let ys = flat_map (trace_text (reverse h)) Ms in
      let U = trace_text (reverse h) M in
      let one = trace_tells shape h (reverse h) p L N (xs ++ z) (ys ++ U) (a.0 ∙ sym b.0) (a.1 ∙ sym b.1) (a.2 ∙ sym b.2) (fine p L f.0) (fine p N g.0)
      (sym (append_assoc (trace_text (reverse h) L) xs z) ∙ same ∙ append_assoc (trace_text (reverse h) N) ys U) in
      let number : k + suc (length before) ≡ suc k + length before = omega arith in
      let start : s + (sessions_of_plan p + sessions_in before) ≡ s + sessions_of_plan p + sessions_in before = omega arith in
      front_traces (suc k) (s + sessions_of_plan p) before plan plans Ls Ms M z a.3 f.1 b.3 g.1
      (record { client = o.client ∙ ap (λ (m : ℕ). record { 0 = m }) number; interest = o.interest; first_is = o.first_is ∙ start }) far one.1

-- ---- Parts

-- The text is `world C` of the history, and the values of some first objects.
pub record IsWorldOf (scenario : Scenario) (h : List Entry) (z : List ℕ) : Type 0 where
  pub count : ℕ
  pub within : count ≤ scenario.world.shape.objects
  pub text_is : z ≡ world_front (commit_of h) (committed_of scenario.world.values h) count

module _ (stay : FullRepliesStay) (names : LegalRelaysNameAccepted) (scenario : Scenario) (few : session_count scenario ≤ 64) (h : List Entry) (journal : IsWholeJournal scenario h)
    (Ls : List Trace) (traces : AreFirstTraces scenario.world.shape h scenario.clients Ls) where
  abbrev X : List ℕ
  X = traffic_text scenario.world.shape h Ls

  abbrev T : List ℕ
  T = flat_map (trace_text (reverse h)) Ls

  in_order : (g : List Entry) → AreEntries scenario g → AreEntries scenario (reverse (reverse g))
  in_order g a = subst (AreEntries scenario) (sym (reverse-reverse g)) a

  entries_few : (z : List ℕ) → length (X ++ z) < 2 ^ 64 → length (reverse h) < 2 ^ 64
  entries_few z short = let long = text_long scenario.world.shape (reverse h) T z in omega (arith, long, short)

  -- The journal's part ends with the journal.
  journal_part : (z : List ℕ) → length (X ++ z) < 2 ^ 64 → IsJournalPart scenario (X ++ z) → z ≡ []
  journal_part z short p =
      let es = reverse h in
      let gs = reverse p.h in
      let lines = entry_lines scenario.world.shape (accepted (reverse es)) 1 es in
      let others = entry_lines scenario.world.shape (accepted p.h) 1 gs in
      let w = T ++ z in
      let inner = append_cancel_left (codes "journal ") (decimal (length es) ++ (10 ∷ (lines ++ w))) (decimal p.count ++ (10 ∷ others))
      (sym (journal_parts scenario.world.shape es w) ∙ sym (append_assoc (journal_text scenario.world.shape es) T z) ∙ p.text_is ∙ append_assoc (codes "journal ") (decimal p.count) (10 ∷ others)) in
      let least = p.small in
      let counts = number_split (length es) p.count (10 ∷ (lines ++ w)) (10 ∷ others) (entries_few z short) (omega (arith, least)) refl refl inner in
      let rest = others_are 10 10 (lines ++ w) others counts.1 in
      let count = counts.0 in
      let within = p.within in
      let size = length-reverse p.h in
      let same = plain_lines scenario.world.shape gs [] ∙ append-nil (entry_lines scenario.world.shape (accepted (reverse gs)) 1 gs)
      ∙ ap (λ (g : List Entry). entry_lines scenario.world.shape (accepted g) 1 gs) (reverse-reverse p.h) ∙ sym rest ∙ sym (plain_lines scenario.world.shape es w) in
      let goes = entries_tell stay names scenario few gs es [] 1 [] w tt (after_none scenario gs (in_order p.h p.entries)) (after_none scenario es (in_order h journal.entries))
      (omega (arith, size, within, count)) same in
      none_behind T z (none_behind (entry_lines scenario.world.shape (accepted (reverse es ++ [])) (1 + length gs) goes.more) w (sym goes.text))

  -- A text with another whole journal has the same one.
  same_journal : (g : List Entry) (U v z : List ℕ) → AreEntries scenario g → length (X ++ z) < 2 ^ 64 → X ++ z ≡ (journal_text scenario.world.shape (reverse g) ++ U) ++ v → (g ≡ h) × (U ++ v ≡ T ++ z)
  same_journal g U v z a short same =
      let J = journal_text scenario.world.shape (reverse h) in
      let K = journal_text scenario.world.shape (reverse g) in
      let long = text_long scenario.world.shape (reverse g) U v in
      let size = ap length same in
      let both = journals_tell stay names scenario few (reverse g) (reverse h) (U ++ v) (T ++ z) (in_order g a) (in_order h journal.entries) (omega (arith, long, size, short)) (entries_few z short)
      (sym (append_assoc K U v) ∙ sym same ∙ append_assoc J T z) in
      (sym (reverse-reverse g) ∙ ap reverse both.0 ∙ reverse-reverse h, both.1)

  -- The clients' parts end with the last client's.
  client_part : (z : List ℕ) → length (X ++ z) < 2 ^ 64 → IsClientPart scenario (X ++ z) → z ≡ []
  client_part z short p =
      let both = same_journal p.h (flat_map (trace_text (reverse p.h)) p.Ls) (trace_text (reverse p.h) p.L) z p.journal.entries short p.text_is in
      let is = both.0 in
      let done : AreFirstTraces scenario.world.shape h p.before p.Ls = subst (λ (g : List Entry). AreFirstTraces scenario.world.shape g p.before p.Ls) is p.done in
      let far : IsTraceSoFar scenario h p.plan p.L = subst (λ (g : List Entry). IsTraceSoFar scenario g p.plan p.L) is p.so_far in
      let texts = ap (λ (g : List Entry). flat_map (trace_text (reverse g)) p.Ls ++ trace_text (reverse g) p.L) is in
      let all : AreFirstTraces scenario.world.shape h (p.before ++ p.plan ∷ p.after) Ls = subst (λ (ps : List Plan). AreFirstTraces scenario.world.shape h ps Ls) p.plans traces in
      let number : length p.before ≡ 0 + length p.before = omega arith in
      let start : sessions_in p.before ≡ 0 + sessions_in p.before = omega arith in
      front_traces scenario h 0 0 p.before p.plan p.after Ls p.Ls p.L z all.clients all.whole done.clients done.whole
      (record { client = p.next.client ∙ ap (λ (m : ℕ). record { 0 = m }) number; interest = p.next.interest; first_is = p.next.first_is ∙ start }) far
      (sym both.1 ∙ texts)

  -- Another world part has the same journal, the same traces and the same world.
  pub world_part : (z : List ℕ) → length (X ++ z) < 2 ^ 64 → (p : IsWorldPart scenario (X ++ z)) → z ≡ world_front (commit_of h) (committed_of scenario.world.values h) p.count
  world_part z short p =
      let W = world_front (commit_of p.h) (committed_of scenario.world.values p.h) p.count in
      let lines = value_lines 0 (take p.count (committed_of scenario.world.values p.h)) in
      let both = same_journal p.h (flat_map (trace_text (reverse p.h)) p.Ls) W z p.journal.entries short (p.text_is ∙ front_apart (traffic_text scenario.world.shape p.h p.Ls) (commit_of p.h) lines) in
      let is = both.0 in
      let done : AreFirstTraces scenario.world.shape h scenario.clients p.Ls = subst (λ (g : List Entry). AreFirstTraces scenario.world.shape g scenario.clients p.Ls) is p.traces in
      let texts = ap (λ (g : List Entry). flat_map (trace_text (reverse g)) p.Ls ++ W) is in
      let worlds = ap (λ (g : List Entry). world_front (commit_of g) (committed_of scenario.world.values g) p.count) is in
      let tells = traces_tell scenario.world.shape h (reverse h) 0 0 scenario.clients Ls p.Ls z W traces.clients done.clients
      (all_fine scenario h scenario.clients Ls traces.whole) (all_fine scenario h scenario.clients p.Ls done.whole) (sym both.1 ∙ texts) in
      tells.1 ∙ worlds

  -- Behind the journal and all traces a part has nothing, or the world's first lines.
  pub part_goes : (z : List ℕ) → length (X ++ z) < 2 ^ 64 → IsReportPart scenario (X ++ z) → (z ≡ []) ⊎ IsWorldOf scenario h z
  part_goes z short (inl none) = inl (none_behind X z none)
  part_goes z short (inr (inl p)) = inl (journal_part z short p)
  part_goes z short (inr (inr (inl p))) = inl (client_part z short p)
  part_goes z short (inr (inr (inr p))) = inr (record { count = p.count; within = p.within; text_is = world_part z short p })
