-- How a report can go on behind the first lines of the clients' parts. `entries` are those of the journal, in order, and h are the same with
-- the latest first.
use Rattle.std.proofs.Common.{◌≡◌, ◌⊎◌, inl, inr, ℕ, suc, ◌+◌, true, List, [], ◌∷◌, ◌++◌, length, reverse, refl, sym, ap, subst, ◌∙◌, arith, decimal, append_assoc, append-nil}
use Rattle.std.specs.Prelude.{codes}
use Rattle.std.specs.List.{list_any, flat_map}
use Rattle.std.proofs.lemmas.List.{append_cancel_left, reverse-reverse}
use Rattle.sv_world.specs.declared.world.ClientId.{ClientId}
use Rattle.sv_world.specs.declared.world.ObjectId.{ObjectId}
use Rattle.sv_world.specs.declared.world.Shape.{Shape}
use Rattle.sv_journal.specs.declared.entry.Entry.{Entry}
use Rattle.sv_journal.specs.History.{commit_of}
use Rattle.sv_client.specs.declared.trace.Event.{Event}
use Rattle.sv_client.specs.declared.trace.Trace.{Trace}
use Rattle.sv_client.specs.Taking.{Identity}
use Rattle.sv_client.specs.Proper.{identity_of}
use Rattle.sv_scenario.specs.declared.scenario.Plan.{Plan}
use Rattle.sv_scenario.specs.declared.scenario.Scenario.{Scenario}
use Rattle.sv_scenario.specs.declared.scenario.Step.{Step}
use Rattle.sv_scenario.specs.Sessions.{sessions_of_plan, sessions_in}
use Rattle.sv_script.specs.Following.{is_finished}
use Rattle.law_system.specs.Fits.{is_join_of}
use Rattle.law_system.specs.Records.{AreTracesOf, EachTrace}
use Rattle.law_system.proofs.Asked.{any-turned}
use Rattle.sv_report.specs.Report.{event_text, event_lines, trace_text}
use Rattle.sv_report.specs.Again.{lines_after}
use Rattle.sv_check.specs.Next.{ComesNext, journal_replies}
use Rattle.sv_check.specs.Parts.{IsWholeTrace, IsTraceSoFar, IsOf}
use Rattle.sv_check.proofs.Told.{line_first, none_behind}
use Rattle.sv_check.proofs.Traces.{IsFine, same_trace, trace_parts, line_behind, trace_tells}
use Rattle.sv_check.proofs.Further.{after, after_start, ComeTo, IsFurther, IsShorter, come, none_after, none_more, events_part, some_line}
use Rattle.sv_check.proofs.Splits.{is_of}

-- ---- Texts

-- A text begins with a line, whose end is behind it.
pub record Begins (line z : List ℕ) : Type 0 where
  pub rest : List ℕ
  pub text : z ≡ line ++ 10 ∷ rest

pub some_head : (a b w : List ℕ) (c : ℕ) → (a ++ (c ∷ b)) ++ w ≡ [] → ⊥
some_head [] b w c e = cc
some_head (d ∷ a) b w c e = cc

-- The line with which a client's part begins.
abbrev pub client_line : ℕ → List ℕ
client_line k = codes "client " ++ decimal k

-- ---- Two traces of one client

module _ (scenario : Scenario) (entries : List Entry) where
  abbrev shape : Shape
  shape = scenario.world.shape

  abbrev h : List Entry
  h = reverse entries

  abbrev pub IsSoFarOf : Plan → Trace → Type 0
  IsSoFarOf plan L = IsTraceSoFar scenario h plan L

  abbrev pub IsWholeOf : Plan → Trace → Type 0
  IsWholeOf plan L = IsWholeTrace shape h plan L

  abbrev pub so_far : (plan : Plan) (L : Trace) → IsWholeOf plan L → IsSoFarOf plan L
  so_far plan L w = record { proper = w.proper; follows = w.follows.follows; got_is = λ s j. (w.fits s j).got }

  fine : (plan : Plan) (L : Trace) → IsWholeOf plan L → IsFine shape h plan L
  fine plan L w = record { proper = w.proper; sessions = w.fits; follows = w.follows }

  come_of : (plan : Plan) (L : Trace) (g : IsSoFarOf plan L) → ComeTo (identity_of shape L) L.first (journal_replies entries) [] plan.steps L.events g.follows.left
  come_of plan L g = come (identity_of shape L) L.first (journal_replies entries) plan.steps L.events g.follows.left (record {
    proper = g.proper.events;
    follows = g.follows.follows;
    gets = λ s j. g.got_is s (subst (λ (es : List Event). list_any (is_join_of s) es ≡ true) (reverse-reverse L.events) (any-turned (is_join_of s) (reverse L.events) j));
  })

  abbrev Further : (plan : Plan) (L M : Trace) → List Step → List Step → List ℕ → List ℕ → Type 0
  Further plan L M left last x y = IsFurther (identity_of shape L) L.first (journal_replies entries) entries [] left L.events M.events last x y

  abbrev Shorter : (L M : Trace) → List ℕ → List ℕ → Type 0
  Shorter L M x y = IsShorter (identity_of shape L) L.first (journal_replies entries) entries [] L.events M.events x y

  same_who : (L M : Trace) → L.client ≡ M.client → L.interest ≡ M.interest → identity_of shape M ≡ identity_of shape L
  same_who L M c i =
      ap (λ (k : ClientId). record { client = k; interest = M.interest; shape = shape }) (sym c)
      ∙ ap (λ (os : List ObjectId). record { client = L.client; interest = os; shape = shape }) (sym i)

  -- Of two traces of one client whose lines begin alike, one is a front of the other.
  two_traces : (plan : Plan) (k s : ℕ) (L M : Trace) (x y : List ℕ) → IsOf k s plan L → IsOf k s plan M → (f : IsSoFarOf plan L) → (g : IsSoFarOf plan M) →
      trace_text entries L ++ x ≡ trace_text entries M ++ y → Further plan L M f.follows.left g.follows.left x y ⊎ Shorter L M x y
  two_traces plan k s L M x y a b f g same =
      let R = journal_replies entries in
      let last = g.follows.left in
      let c : L.client ≡ M.client = a.client ∙ sym b.client in
      let who : identity_of shape M ≡ identity_of shape L = same_who L M c (a.interest ∙ sym b.interest) in
      let first : M.first ≡ L.first = b.first_is ∙ sym a.first_is in
      let other : ComeTo (identity_of shape L) L.first R [] plan.steps M.events last =
      subst (λ (w : Identity). ComeTo w L.first R [] plan.steps M.events last) who
      (subst (λ (m : ℕ). ComeTo (identity_of shape M) m R [] plan.steps M.events last) first (come_of plan M g)) in
      let xs = 10 ∷ (lines_after entries [] L.events ++ x) in
      let ys = 10 ∷ (lines_after entries [] M.events ++ y) in
      let heads : client_line M.client.0 ++ xs ≡ client_line M.client.0 ++ ys =
      ap (λ (i : ClientId). client_line i.0 ++ xs) (sym c) ∙ sym (trace_parts entries L x) ∙ same ∙ trace_parts entries M y in
      let rest = line_behind (lines_after entries [] L.events ++ x) (lines_after entries [] M.events ++ y) (append_cancel_left (client_line M.client.0) xs ys heads) in
      events_part (identity_of shape L) L.first R entries L.events M.events [] plan.steps f.follows.left last x y (come_of plan L f) other rest

  done_after : (plan : Plan) (L : Trace) → IsWholeOf plan L → is_finished (after [] L.events) ≡ true
  done_after plan L w = ap is_finished (after_start L.events) ∙ w.follows.finished

  -- Behind a whole trace comes nothing, where the text ends with the same client's first lines.
  ended : (plan : Plan) (k s : ℕ) (L M : Trace) (x : List ℕ) → IsOf k s plan L → IsOf k s plan M → IsWholeOf plan L → IsSoFarOf plan M →
      trace_text entries L ++ x ≡ trace_text entries M → x ≡ []
  ended plan k s L M x a b w g same = elim (two_traces plan k s L M x [] a b (so_far plan L w) g (same ∙ sym (append-nil (trace_text entries M)))) [
    | inl m ↦ m.text ∙ ap (λ (es : List Event). lines_after entries (after [] L.events) es ++ [])
        (none_more (identity_of shape L) L.first (journal_replies entries) (after [] L.events) w.follows.follows.left m.more g.follows.left (done_after plan L w) m.come)
    | inr m ↦ absurd (some_line (identity_of shape L) L.first (journal_replies entries) entries (after [] M.events) m.event m.more x m.text)
  ]

  -- ---- What a text has from a client on

  -- The line with which the rest of a report begins, from the client k on, whose plans these are.
  abbrev pub head_text : ℕ → List Plan → List ℕ
  head_text k [] = codes "world " ++ decimal (commit_of h)
  head_text k (plan ∷ plans) = client_line k

  -- The text is a client's first lines, to its end.
  pub record IsOpen (k s : ℕ) (plan : Plan) (z : List ℕ) : Type 0 where
    pub L : Trace
    pub of : IsOf k s plan L
    pub so_far : IsSoFarOf plan L
    pub text : z ≡ trace_text entries L

  -- The text begins with a client's whole part.
  pub record IsDone (k s : ℕ) (plan : Plan) (Behind : List ℕ → Type 0) (z : List ℕ) : Type 0 where
    pub L : Trace
    pub of : IsOf k s plan L
    pub whole : IsWholeOf plan L
    pub y : List ℕ
    pub text : z ≡ trace_text entries L ++ y
    pub behind : Behind y

  -- The text is the rest of a report's part from the client k on: whole parts of clients, and the world's lines; or, where P holds, it may end
  -- with the first lines of a client.
  abbrev pub Rest : Type 0 → ℕ → ℕ → List Plan → List ℕ → Type 0
  Rest P k s [] z = Begins (codes "world " ++ decimal (commit_of h)) z
  Rest P k s (plan ∷ plans) z = (P × IsOpen k s plan z) ⊎ IsDone k s plan (λ (y : List ℕ). Rest P (suc k) (s + sessions_of_plan plan) plans y) z

  begins_of : (k s : ℕ) (plan : Plan) (L : Trace) (y z : List ℕ) → IsOf k s plan L → z ≡ trace_text entries L ++ y → Begins (client_line k) z
  begins_of k s plan L y z o e = record {
    rest = event_lines entries (reverse L.events) ++ y;
    text = e
        ∙ append_assoc (client_line L.client.0) (10 ∷ event_lines entries (reverse L.events)) y
        ∙ ap (λ (i : ClientId). client_line i.0 ++ (10 ∷ (event_lines entries (reverse L.events) ++ y))) o.client;
  }

  pub rest_begins : (P : Type 0) (k s : ℕ) (plans : List Plan) (z : List ℕ) → Rest P k s plans z → Begins (head_text k plans) z
  rest_begins P k s [] z r = r
  rest_begins P k s (plan ∷ plans) z (inl o) = begins_of k s plan o.1.L [] z o.1.of (o.1.text ∙ sym (append-nil (trace_text entries o.1.L)))
  rest_begins P k s (plan ∷ plans) z (inr d) = begins_of k s plan d.L d.y z d.of d.text

  -- ---- Behind whole traces

  -- What stands behind the whole traces of the first clients: the rest from the next one on, or nothing.
  pub peel : (P : Type 0) (k s n m : ℕ) (before plans : List Plan) (Ls : List Trace) (w : List ℕ) → n ≡ k + length before → m ≡ s + sessions_in before →
      AreTracesOf k s before Ls → EachTrace IsWholeOf before Ls → Rest P k s (before ++ plans) (flat_map (trace_text entries) Ls ++ w) → (P × (w ≡ [])) ⊎ Rest P n m plans w
  peel P k s n m [] plans [] w c d a t r =
      inr (subst (λ (i : ℕ). Rest P i m plans w) (let is : k ≡ n = omega (arith, c) in is)
      (subst (λ (i : ℕ). Rest P k i plans w) (let is : s ≡ m = omega (arith, d) in is) r))
  peel P k s n m [] plans (L ∷ Ls) w c d a t r = absurd a
  peel P k s n m (plan ∷ before) plans [] w c d a t r = absurd a
  peel P k s n m (plan ∷ before) plans (L ∷ Ls) w c d a t (inl o) =
      let xs = flat_map (trace_text entries) Ls in
      let mine : IsOf k s plan L = record { client = a.0; interest = a.1; first_is = a.2 } in
      let none = ended plan k s L o.1.L (xs ++ w) mine o.1.of t.0 o.1.so_far (sym (append_assoc (trace_text entries L) xs w) ∙ o.1.text) in
      inl (o.0, none_behind xs w none)
  peel P k s n m (plan ∷ before) plans (L ∷ Ls) w c d a t (inr r) =
      let xs = flat_map (trace_text entries) Ls in
      let one = trace_tells shape h entries plan L r.L (xs ++ w) r.y (a.0 ∙ sym r.of.client) (a.1 ∙ sym r.of.interest) (a.2 ∙ sym r.of.first_is) (fine plan L t.0) (fine plan r.L r.whole)
      (sym (append_assoc (trace_text entries L) xs w) ∙ r.text) in
      peel P (suc k) (s + sessions_of_plan plan) n m before plans Ls w (omega (arith, c)) (omega (arith, d)) a.3 t.1
      (subst (λ (y : List ℕ). Rest P (suc k) (s + sessions_of_plan plan) (before ++ plans) y) (sym one.1) r.behind)

  -- ---- Behind the first lines of a client

  -- The text begins with the line of an event that may come next.
  pub record IsNextLine (plan : Plan) (L : Trace) (t : List Event) (before : List Step) (z : List ℕ) : Type 0 where
    pub event : Event
    pub left : List Step
    pub next : ComesNext (identity_of shape L) L.first (journal_replies entries) t before event left
    pub line : Begins (event_text entries t event) z

  -- The trace is whole, and the text begins with the line that comes behind it.
  pub record IsNextHead (k : ℕ) (plan : Plan) (plans : List Plan) (L : Trace) (z : List ℕ) : Type 0 where
    pub whole : IsWholeOf plan L
    pub line : Begins (head_text (suc k) plans) z

  abbrev pub GoesOn : (k : ℕ) (plan : Plan) → List Plan → (L : Trace) → List Step → List ℕ → Type 0
  GoesOn k plan plans L left z = IsNextLine plan L (reverse L.events) left z ⊎ IsNextHead k plan plans L z

  line_next : (plan : Plan) (L : Trace) (t : List Event) (left : List Step) (more : List Event) (last : List Step) (y z : List ℕ) →
      ComeTo (identity_of shape L) L.first (journal_replies entries) t left more last → y ≡ lines_after entries t more ++ z → ((more ≡ []) × (y ≡ z)) ⊎ IsNextLine plan L t left y
  line_next plan L t left [] last y z c e = inl (refl, e)
  line_next plan L t left (event ∷ more) last y z c e = inr (record {
    event = event;
    left = c.0;
    next = c.1.0;
    line = record { rest = lines_after entries (event ∷ t) more ++ z; text = e ∙ line_first (event_text entries t event) (lines_after entries (event ∷ t) more) z };
  })

  same_after : (plan : Plan) (L : Trace) (left : List Step) (z : List ℕ) → IsNextLine plan L (after [] L.events) left z → IsNextLine plan L (reverse L.events) left z
  same_after plan L left z n = subst (λ (t : List Event). IsNextLine plan L t left z) (after_start L.events) n

  going_open : (P : Type 0) (k s : ℕ) (plan : Plan) (plans : List Plan) (L : Trace) (y : List ℕ) → IsOf k s plan L → (f : IsSoFarOf plan L) → P → IsOpen k s plan (trace_text entries L ++ y) →
      (P × (y ≡ [])) ⊎ GoesOn k plan plans L f.follows.left y
  going_open P k s plan plans L y o f p r = elim (two_traces plan k s L r.L y [] o r.of f r.so_far (r.text ∙ sym (append-nil (trace_text entries r.L)))) [
    | inl m ↦ elim (line_next plan L (after [] L.events) f.follows.left m.more r.so_far.follows.left y [] m.come m.text) [
      | inl none ↦ inl (p, none.1)
      | inr line ↦ inr (inl (same_after plan L f.follows.left y line))
    ]
    | inr m ↦ absurd (some_line (identity_of shape L) L.first (journal_replies entries) entries (after [] r.L.events) m.event m.more y m.text)
  ]

  whole_head : (P : Type 0) (k s : ℕ) (plan : Plan) (plans : List Plan) (L M : Trace) (y z : List ℕ) → IsOf k s plan L → IsOf k s plan M → IsWholeOf plan M → M.events ≡ L.events → y ≡ z →
      Rest P (suc k) (s + sessions_of_plan plan) plans z → IsNextHead k plan plans L y
  whole_head P k s plan plans L M y z a b w e is r =
      let same : M ≡ L = same_trace M L (b.client ∙ sym a.client) (b.interest ∙ sym a.interest) (b.first_is ∙ sym a.first_is) e in
      record {
        whole = subst (IsWholeOf plan) same w;
        line = subst (Begins (head_text (suc k) plans)) (sym is) (rest_begins P (suc k) (s + sessions_of_plan plan) plans z r);
      }

  going_done : (P : Type 0) (k s : ℕ) (plan : Plan) (plans : List Plan) (L : Trace) (y : List ℕ) → IsOf k s plan L → (f : IsSoFarOf plan L) →
      IsDone k s plan (λ (z : List ℕ). Rest P (suc k) (s + sessions_of_plan plan) plans z) (trace_text entries L ++ y) → GoesOn k plan plans L f.follows.left y
  going_done P k s plan plans L y o f r =
      let g = so_far plan r.L r.whole in
      elim (two_traces plan k s L r.L y r.y o r.of f g r.text) [
        | inl m ↦ elim (line_next plan L (after [] L.events) f.follows.left m.more g.follows.left y r.y m.come m.text) [
          | inl none ↦ inr (whole_head P k s plan plans L r.L y r.y o r.of r.whole (m.events ∙ ap (λ (es : List Event). L.events ++ es) none.0 ∙ append-nil L.events) none.1 r.behind)
          | inr line ↦ inl (same_after plan L f.follows.left y line)
        ]
        | inr m ↦ absurd (none_after (identity_of shape L) L.first (journal_replies entries) (after [] r.L.events) m.before m.event m.left (done_after plan r.L r.whole) m.next)
      ]

  -- What stands behind the first lines of a client: nothing, where P holds; the line of an event that may come next; or, behind its whole trace, the
  -- next line.
  pub going : (P : Type 0) (k s : ℕ) (plan : Plan) (plans : List Plan) (L : Trace) (y : List ℕ) → IsOf k s plan L → (f : IsSoFarOf plan L) →
      Rest P k s (plan ∷ plans) (trace_text entries L ++ y) → (P × (y ≡ [])) ⊎ GoesOn k plan plans L f.follows.left y
  going P k s plan plans L y o f (inl r) = going_open P k s plan plans L y o f r.0 r.1
  going P k s plan plans L y o f (inr r) = inr (going_done P k s plan plans L y o f r)

  -- ---- Parts of reports

  -- The traces of a client part.
  pub client_rest : (k s i n : ℕ) (before : List Plan) (plan : Plan) (plans : List Plan) (Ls : List Trace) (L : Trace) (z : List ℕ) → i ≡ k + length before → n ≡ s + sessions_in before →
      AreTracesOf k s before Ls → EachTrace IsWholeOf before Ls → IsOf i n plan L → IsSoFarOf plan L → z ≡ flat_map (trace_text entries) Ls ++ trace_text entries L →
      Rest (Unit {0}) k s (before ++ plan ∷ plans) z
  client_rest k s i n [] plan plans [] L z c d a t o g e =
      inl (tt, record { L = L; of = is_of i n k s plan L (omega (arith, c)) (omega (arith, d)) o; so_far = g; text = e })
  client_rest k s i n [] plan plans (M ∷ Ls) L z c d a t o g e = absurd a
  client_rest k s i n (q ∷ before) plan plans [] L z c d a t o g e = absurd a
  client_rest k s i n (q ∷ before) plan plans (M ∷ Ls) L z c d a t o g e =
      let y = flat_map (trace_text entries) Ls ++ trace_text entries L in
      inr (record {
        L = M;
        of = record { client = a.0; interest = a.1; first_is = a.2 };
        whole = t.0;
        y = y;
        text = e ∙ append_assoc (trace_text entries M) (flat_map (trace_text entries) Ls) (trace_text entries L);
        behind = client_rest (suc k) (s + sessions_of_plan q) i n before plan plans Ls L y (omega (arith, c)) (omega (arith, d)) a.3 t.1 o g refl;
      })

  -- The traces of a world part.
  pub world_rest : (P : Type 0) (k s : ℕ) (plans : List Plan) (Ls : List Trace) (w z : List ℕ) → AreTracesOf k s plans Ls → EachTrace IsWholeOf plans Ls →
      Begins (codes "world " ++ decimal (commit_of h)) w → z ≡ flat_map (trace_text entries) Ls ++ w → Rest P k s plans z
  world_rest P k s [] [] w z a t b e = subst (Begins (codes "world " ++ decimal (commit_of h))) (sym e) b
  world_rest P k s [] (L ∷ Ls) w z a t b e = absurd a
  world_rest P k s (plan ∷ plans) [] w z a t b e = absurd a
  world_rest P k s (plan ∷ plans) (L ∷ Ls) w z a t b e =
      let y = flat_map (trace_text entries) Ls ++ w in
      inr (record {
        L = L;
        of = record { client = a.0; interest = a.1; first_is = a.2 };
        whole = t.0;
        y = y;
        text = e ∙ append_assoc (trace_text entries L) (flat_map (trace_text entries) Ls) w;
        behind = world_rest P (suc k) (s + sessions_of_plan plan) plans Ls w y a.3 t.1 b refl;
      })
