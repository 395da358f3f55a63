-- The server that a report's journal tells of, with one request more.
use Rattle.std.proofs.Common.{◌≡◌, ℕ, ◌<◌, ◌≤◌, inl, inr, Bool, true, false, ◌&&◌, eqb, List, [], ◌∷◌, ◌++◌, map, length, reverse, refl, sym, ap, ap₂, subst, ◌∙◌, arith, true≢false}
use Rattle.std.specs.Prelude.{All}
use Rattle.std.proofs.lemmas.Bool.{or_cases, cases_Bool, and_parts, eqb-true}
use Rattle.std.proofs.lemmas.List.{reverse-append, reverse-reverse, map-append}
use Rattle.std.specs.List.{AllByRecursion}
use Rattle.std.proofs.lemmas.List.Elements.{All-cons, recursion_from_All}
use Rattle.sv_wire.specs.declared.message.Request.{Request}
use Rattle.sv_wire.specs.declared.message.Reply.{Reply}
use Rattle.sv_journal.specs.declared.entry.Entry.{Entry}
use Rattle.sv_journal.specs.History.{accepted, full_reply}
use Rattle.sv_journal.specs.Sessions.{is_end, is_ended}
use Rattle.sv_journal.specs.Laws.{FullRepliesStay, LegalRelaysNameAccepted}
use Rattle.sv_journal.specs.Text.{NamesAccepted, RelaysNameAccepted}
use Rattle.sv_journal.specs.Answer.{Rules, MayBeSession, Legal, reply_to}
use Rattle.sv_journal.specs.History.{entry_of}
use Rattle.sv_sequencer.specs.Step.{SequencerView, history, StepAnswered}
use Rattle.sv_scenario.specs.declared.scenario.Scenario.{Scenario}
use Rattle.sv_scenario.specs.Limits.{IsGoodScenario}
use Rattle.sv_scenario.specs.Sessions.{session_count}
use Rattle.law_system.specs.Records.{rules_of, ends_in}
use Rattle.law_system.proofs.Ends.{none-ended}
use Rattle.sv_lines.specs.Told.{IsTold}
use Rattle.sv_check.specs.declared.journal.Served.{Served}
use Rattle.sv_check.specs.Parts.{AreEntries, IsWholeJournal}
use Rattle.sv_check.specs.Serving.{full_replies, entries_of, IsServed, AreEnded}

-- A session that had its End has one at least.
pub some_ended : (h : List Entry) (s : ℕ) → is_ended h s ≡ true → 1 ≤ ends_in h s
some_ended [] s e = cc
some_ended (d ∷ h) s e = go (eqb d.session s && is_end d.request) refl (some_ended h s)
  where
    go : (b : Bool) → (eqb d.session s && is_end d.request) ≡ b → (is_ended h s ≡ true → 1 ≤ ends_in h s) → 1 ≤ ends_in (d ∷ h) s
    go true q earlier = rw q (omega arith)
    go false q earlier =
        elim (or_cases (eqb d.session s && is_end d.request) (is_ended h s) e) [
          | inl x ↦ absurd (true≢false (sym x ∙ q))
          | inr x ↦ rw q (earlier x)
        ]

-- No session has two, with one more entry.
pub once_more : (h : List Entry) (e : Entry) → ((s : ℕ) → ends_in h s ≤ 1) → (is_end e.request ≡ true → is_ended h e.session ≡ false) → (s : ℕ) → ends_in (e ∷ h) s ≤ 1
once_more h e once first s = go (eqb e.session s && is_end e.request) refl
  where
    go : (b : Bool) → (eqb e.session s && is_end e.request) ≡ b → ends_in (e ∷ h) s ≤ 1
    go true q =
        (let p = and_parts (eqb e.session s) (is_end e.request) q in
        let none = none-ended h s (subst (λ (n : ℕ). is_ended h n ≡ false) (eqb-true e.session s p.0) (first p.1)) in
        rw q (omega (arith, none)))
    go false q = rw q (once s)

-- The whole replies of earlier entries stay.
all_stay : (g : List Entry) (h : List Entry) → FullRepliesStay → (e : Entry) →
    All (λ (d : Entry). NamesAccepted (length (accepted h)) d.reply) g →
    map (λ (d : Entry). full_reply (accepted (e ∷ h)) d.reply) g ≡ map (λ (d : Entry). full_reply (accepted h) d.reply) g
all_stay g h stay e names = go g (recursion_from_All (λ (d : Entry). NamesAccepted (length (accepted h)) d.reply) g names)
  where
    go : (ds : List Entry) → AllByRecursion (λ (d : Entry). NamesAccepted (length (accepted h)) d.reply) ds →
        map (λ (d : Entry). full_reply (accepted (e ∷ h)) d.reply) ds ≡ map (λ (d : Entry). full_reply (accepted h) d.reply) ds
    go [] n = refl
    go (d ∷ ds) n = ap₂ (λ (r : Reply) (rs : List Reply). r ∷ rs) (stay (e ∷ []) h d.reply n.0) (go ds n.1)

-- The relays of a legal journal name accepted actions, its entries in order.
pub named : LegalRelaysNameAccepted → (r : Rules) (entries : List Entry) → Legal r (reverse entries) → RelaysNameAccepted entries
named names r entries legal = subst RelaysNameAccepted (reverse-reverse entries) (names r (reverse entries) legal)

-- The replies so far, and the new one, are those of the entries.
pub replies_more : FullRepliesStay → LegalRelaysNameAccepted → (r : Rules) (entries : List Entry) (e : Entry) → Legal r (reverse entries) →
    full_replies (entries ++ e ∷ []) ≡ full_replies entries ++ full_reply (accepted (e ∷ reverse entries)) e.reply ∷ []
replies_more stay names r entries e legal =
    let turned : reverse (entries ++ e ∷ []) ≡ e ∷ reverse entries = reverse-append entries (e ∷ []) in
    let in_order : All (λ (d : Entry). NamesAccepted (length (accepted (reverse entries))) d.reply) entries = named names r entries legal in
    ap (λ (h : List Entry). map (λ (d : Entry). full_reply (accepted h) d.reply) (entries ++ e ∷ [])) turned
    ∙ map-append (λ (d : Entry). full_reply (accepted (e ∷ reverse entries)) d.reply) entries (e ∷ [])
    ∙ ap (λ (rs : List Reply). rs ++ full_reply (accepted (e ∷ reverse entries)) e.reply ∷ []) (all_stay entries (reverse entries) stay e in_order)

-- It answered one request more.
pub answered : (scenario : Scenario) (old new : Served) (s : ℕ) (request : Request) (reply : Reply) → FullRepliesStay → LegalRelaysNameAccepted → IsServed scenario old →
    Legal old.sequencer.rules (history old.sequencer) → MayBeSession old.sequencer.rules.sessions s → IsTold scenario.world.shape request → (is_end request ≡ true → is_ended (history old.sequencer) s ≡ false) →
    StepAnswered old.sequencer new.sequencer s request reply → new.replies.items ≡ old.replies.items ++ reply ∷ [] → IsServed scenario new
answered scenario old new s request reply stay names g legal l told first a pushed =
    let e = entry_of s request (reply_to old.sequencer.rules (history old.sequencer) s request) in
    let turned : history new.sequencer ≡ e ∷ history old.sequencer = ap reverse a.grew.entries ∙ reverse-append old.sequencer.journal.entries (e ∷ []) in
    record {
      rules = a.grew.rules ∙ g.rules;
      sessions = subst (All (λ (d : Entry). d.session < session_count scenario)) (sym turned)
          (All-cons (λ (d : Entry). d.session < session_count scenario) e (history old.sequencer) (subst (λ (r : Rules). MayBeSession r.sessions s) g.rules l) g.sessions);
      once = subst (λ (h : List Entry). (n : ℕ) → ends_in h n ≤ 1) (sym turned) (once_more (history old.sequencer) e g.once first);
      entries = subst (AreEntries scenario) (sym turned) (
        record {
          session = subst (λ (r : Rules). MayBeSession r.sessions s) g.rules l;
          told = told;
          once = first;
          reply = ap (λ (r : Rules). reply_to r (history old.sequencer) s request) g.rules;
        },
        g.entries,
      );
      replies = pushed
          ∙ ap (λ (rs : List Reply). rs ++ reply ∷ []) g.replies
          ∙ ap (λ (x : Reply). full_replies old.sequencer.journal.entries ++ x ∷ []) (a.whole ∙ ap (λ (h : List Entry). full_reply (accepted h) e.reply) turned)
          ∙ sym (replies_more stay names old.sequencer.rules old.sequencer.journal.entries e legal)
          ∙ ap full_replies (sym a.grew.entries);
    }

-- The entry that it has more.
pub one_more : (scenario : Scenario) (old : Served) (new : SequencerView) (s : ℕ) (request : Request) (reply : Reply) → IsServed scenario old → StepAnswered old.sequencer new s request reply →
    new.journal.entries ≡ entries_of old ++ entry_of s request (reply_to (rules_of scenario) (history old.sequencer) s request) ∷ []
one_more scenario old new s request reply g a =
    a.grew.entries ∙ ap (λ (r : Rules). entries_of old ++ entry_of s request (reply_to r (history old.sequencer) s request) ∷ []) g.rules

pub ended_all : (scenario : Scenario) (served : Served) → IsServed scenario served → ((s : ℕ) → MayBeSession served.sequencer.rules.sessions s → is_ended (history served.sequencer) s ≡ true) →
    AreEnded scenario (history served.sequencer)
ended_all scenario served g f s l = f s (subst (λ (r : Rules). MayBeSession r.sessions s) (sym g.rules) l)

pub shape_is : (scenario : Scenario) (served : Served) → IsServed scenario served → scenario.world.shape ≡ served.sequencer.rules.world.shape
shape_is scenario served g = ap (λ (r : Rules). r.world.shape) (sym g.rules)

pub values_are : (scenario : Scenario) (served : Served) → IsGoodScenario scenario → IsServed scenario served → length served.sequencer.rules.world.values ≡ scenario.world.shape.objects
values_are scenario served good g = ap (λ (r : Rules). length r.world.values) g.rules ∙ good.world.objects

-- Its journal is whole where each session had its End, and only there.
pub whole_journal : (scenario : Scenario) (served : Served) → IsServed scenario served → AreEnded scenario (history served.sequencer) → IsWholeJournal scenario (history served.sequencer)
whole_journal scenario served g ended = record {
  entries = g.entries;
  ended = λ s l. (let most = g.once s in let some = some_ended (history served.sequencer) s (ended s l) in omega (arith, most, some));
}

pub whole_ended : (scenario : Scenario) (h : List Entry) → IsWholeJournal scenario h → AreEnded scenario h
whole_ended scenario h whole s l =
    elim (cases_Bool (is_ended h s)) [
      | inl x ↦ x
      | inr x ↦ (let one = whole.ended s l in let none = none-ended h s x in absurd (omega (arith, one, none)))
    ]
