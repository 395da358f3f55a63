-- The line that comes next in a client's part: what was taken is that of one event more, and what was refused is that of none.
use Rattle.std.proofs.Common.{◌≡◌, ℕ, ◌+◌, ◌<◌, ◌≤◌, true, false, List, [], ◌∷◌, ◌++◌, map, length, reverse, slice_get, Option, Some, None, refl, sym, ap, subst, ◌∙◌, arith, true≢false}
use Rattle.std.specs.Prelude.{codes, MatchOption}
use Rattle.std.proofs.lemmas.List.{length-map}
use Rattle.std.specs.Fmt.{decimal}
use denote.Ref.{Bor as Ref}
use Rattle.std.proofs.lemmas.Option.{same_Some}
use Rattle.sv_wire.specs.declared.message.Reply.{Reply}
use Rattle.sv_journal.specs.declared.entry.Entry.{Entry}
use Rattle.sv_journal.specs.History.{accepted, full_reply}
use Rattle.sv_client.specs.declared.trace.Event.{Event}
use Rattle.sv_client.specs.declared.trace.Event.TheVariants as events
use Rattle.sv_client.specs.Traces.{joins, current_session, got}
use Rattle.sv_client.specs.Taking.{Identity, first_fault_of_reply}
use Rattle.sv_client.specs.Proper.{MayFollow}
use Rattle.sv_client.specs.Seen.{ClientView, raised, latest_session}
use Rattle.sv_client.proofs.Shifts.{up_fault, up_proper}
use Rattle.sv_scenario.specs.declared.scenario.Step.{Step}
use Rattle.sv_script.specs.Following.{must_join, is_welcomed}
use Rattle.law_system.proofs.Fronts.{get-last}
use Rattle.sv_report.specs.Report.{entry_number, event_text}
use Rattle.sv_report.specs.Again.{MayDo, again, text_of, text_before, text_after, number_from}
use Rattle.sv_report.proofs.Doing.{same_text}
use Rattle.sv_report.proofs.Telling.{told_whole}
use Rattle.sv_check.specs.declared.actor.Actor.{Actor}
use Rattle.sv_check.specs.Parts.{AreSomeEntries}
use Rattle.sv_check.specs.Next.{IsLineOf, journal_replies}
use Rattle.sv_check.specs.Serving.{full_replies}
use Rattle.sv_check.specs.Acting.{IsActing, IsNextEvent, NoNextEvent, IsNextPlace, NoNextPlace, NoneComes, LookedAt, Joined, GotReply, journal_events, replies_before, begins_got, is_other}
use Rattle.sv_check.proofs.Refusing.{never_taken, none_left}
use Rattle.sv_check.proofs.Acting.{may_follow, latest_is, one_before, front_before}
use Rattle.sv_check.proofs.Wrong.{line_of, no_line, none_moves, not_welcomed, other_move, other_join, none_got}

pub no_next : (who : Identity) (t : List Event) (before : List Step) (o : Option (Event × Ref (List Step))) → o ≡ None →
    MatchOption o (NoNextEvent who t before) (λ x. IsNextEvent who t before x.0 x.1.now) → NoNextEvent who t before
no_next who t before None e m = m
no_next who t before (Some x) e m = let clash : Some x ≡ None = e in absurd cc

-- ---- A Join

pub join_many : (entries : List Entry) (a : Actor) (text : List ℕ) (left : ℕ) → left ≡ length text → must_join a.client.events ≡ true → 64 ≤ joins a.client.events → NoneComes entries a text left
join_many entries a text left l m many = (l, other_join a.client.who a.first entries a.client.events a.left.now text m (λ few rest e. absurd (omega (arith, many, few))))

pub join_other : (entries : List Entry) (a : Actor) (text line : List ℕ) (left : ℕ) → left ≡ length text → must_join a.client.events ≡ true →
    line ≡ (codes "join s" ++ decimal (a.first + joins a.client.events)) ++ 10 ∷ [] → ((rest : List ℕ) → text ≡ line ++ rest → ⊥) → NoneComes entries a text left
join_other entries a text line left l m is none =
    (l, other_join a.client.who a.first entries a.client.events a.left.now text m (λ few. no_line (codes "join s" ++ decimal (a.first + joins a.client.events)) text line is none))

pub join_told : (entries : List Entry) (a m b : Actor) (text line rest : List ℕ) → LookedAt entries a m → Joined m b → line ≡ (codes "join s" ++ decimal (a.first + joins a.client.events)) ++ 10 ∷ [] →
    text ≡ line ++ rest → IsLineOf entries (journal_events a) (journal_events b) text rest
join_told entries a m b text line rest d j is whole =
    let from : Joined (record a { fits = m.fits }) b = subst (λ (x : Actor). Joined x b) d.same j in
    let t = a.client.events in
    let sum : joins t + a.first ≡ a.first + joins t = omega arith in
    record {
      event = events.Join (joins t + a.first);
      now_is = ap (λ (x : Actor). map (raised x.first) b.client.events) from.same ∙ ap (λ (c : ClientView). map (raised a.first) c.events) from.client;
      text_is = line_of (codes "join s" ++ decimal (a.first + joins t)) text line rest is whole ∙ ap (λ (n : ℕ). (codes "join s" ++ decimal n) ++ 10 ∷ rest) (sym sum);
    }

-- ---- A reply

-- The place of an entry is one of its reply.
pub place_within : (entries es : List Entry) (items : List Reply) (p : ℕ) → es ≡ entries → items ≡ full_replies entries → p < length es → p < length items
place_within entries es items p same replies l =
    let long : length items ≡ length entries = ap length replies ∙ length-map entries (λ (e : Entry). full_reply (accepted (reverse entries)) e.reply) in
    let here = ap length same in
    omega (arith, long, here, l)

module _ (entries : List Entry) (a : Actor) (text : List ℕ) (left : ℕ) (g : IsActing entries a) (l : left ≡ length text) (b : begins_got text ≡ true) where
  pub got_nowhere : a.session ≡ None → NoneComes entries a text left
  got_nowhere none = (
    l,
    none_got a.client.who a.first entries a.client.events a.left.now text b
        (λ s reply rest c n f e. let clash : None ≡ Some s = sym none ∙ g.flags.session ∙ c in absurd cc),
  )

  -- The session that a reply is got in is the latest one.
  this_session : (s n : ℕ) → a.session ≡ Some s → current_session (journal_events a) ≡ Some n → n ≡ s
  this_session s n is c = same_Some n s (sym c ∙ sym g.flags.session ∙ is)

  current_is : (s : ℕ) → a.session ≡ Some s → current_session (journal_events a) ≡ Some s
  current_is s is = sym g.flags.session ∙ is

  pub got_ended : (s : ℕ) → AreSomeEntries (reverse entries) → a.session ≡ Some s → NoNextPlace entries a.place s → NoneComes entries a text left
  got_ended s right is none = (
    l,
    none_got a.client.who a.first entries a.client.events a.left.now text b
        (λ n reply rest c next fine e.
        let same : n ≡ s = this_session s n is c in
        let there = subst (λ (k : ℕ). slice_get (journal_replies entries k) (length (got (journal_events a) k)) ≡ Some reply) same next in
        never_taken a.client.who (journal_events a) reply (none_left entries a.place s reply (got (journal_events a) s) right none (g.gets.latest s (current_is s is)) there) fine),
  )

  module _ (s p : ℕ) (is : a.session ≡ Some s) (next_is : IsNextPlace entries a.place s p) where
    -- The number of the entry of the next reply.
    number_is : entry_number entries s (length (got (journal_events a) s)) 1 ≡ p + 1
    number_is =
        let n = length (got (journal_events a) s) in
        let plain : n ≡ n + 0 = omega arith in
        ap (λ (k : ℕ). entry_number entries s k 1) plain ∙ g.stands.numbers s 0 (current_is s is) ∙ next_is.number

    pub got_other : (line : List ℕ) → line ≡ (codes "got s" ++ decimal s ++ codes " #" ++ decimal (p + 1)) ++ 10 ∷ [] → ((rest : List ℕ) → text ≡ line ++ rest → ⊥) → NoneComes entries a text left
    got_other line line_is none = (
      l,
      none_got a.client.who a.first entries a.client.events a.left.now text b
          (λ n reply rest c next fine e.
          let same : n ≡ s = this_session s n is c in
          no_line (codes "got s" ++ decimal s ++ codes " #" ++ decimal (p + 1)) text line line_is none rest
          (e
          ∙ ap (λ (k : ℕ). (codes "got s" ++ decimal k ++ codes " #" ++ decimal (entry_number entries k (length (got (journal_events a) k)) 1)) ++ 10 ∷ rest) same
          ∙ ap (λ (k : ℕ). (codes "got s" ++ decimal s ++ codes " #" ++ decimal k) ++ 10 ∷ rest) number_is)),
    )

    -- The next reply of the session is that of the entry.
    next_reply : (r : Reply) → slice_get (full_replies entries) p ≡ Some r → slice_get (journal_replies entries s) (length (got (journal_events a) s)) ≡ Some r
    next_reply r there =
        let more : got (journal_events a) s ++ r ∷ [] ≡ replies_before entries (p + 1) s =
        ap (λ (rs : List Reply). rs ++ r ∷ []) (g.gets.latest s (current_is s is)) ∙ sym (one_before entries a.place s p r next_is there) in
        front_before entries (p + 1) s (length (got (journal_events a) s)) r
        (subst (λ (rs : List Reply). slice_get rs (length (got (journal_events a) s)) ≡ Some r) more (get-last (got (journal_events a) s) r))

    pub got_refused : (r : Reply) → slice_get (full_replies entries) p ≡ Some r → (first_fault_of_reply a.client.who a.client.events r ≡ None → ⊥) → NoneComes entries a text left
    got_refused r there bad = (
      l,
      none_got a.client.who a.first entries a.client.events a.left.now text b
          (λ n reply rest c next fine e.
          let same : n ≡ s = this_session s n is c in
          let here = subst (λ (k : ℕ). slice_get (journal_replies entries k) (length (got (journal_events a) k)) ≡ Some reply) same next in
          let one : reply ≡ r = same_Some reply r (sym here ∙ next_reply r there) in
          bad (sym (up_fault a.first a.client.who a.client.events r) ∙ subst (λ (x : Reply). first_fault_of_reply a.client.who (journal_events a) x ≡ None) one fine)),
    )

    pub got_told : (now : Actor) (r : Reply) (line rest : List ℕ) → GotReply r p a now → line ≡ (codes "got s" ++ decimal s ++ codes " #" ++ decimal (p + 1)) ++ 10 ∷ [] → text ≡ line ++ rest →
        IsLineOf entries (journal_events a) (journal_events now) text rest
    got_told now r line rest d line_is whole =
        let number : latest_session a.client.events + a.first ≡ s = latest_is a.first a.client.events s (current_is s is) in
        let e = events.Got s r in
        record {
          event = e;
          now_is = ap (λ (x : Actor). map (raised x.first) now.client.events) d.same
              ∙ ap (λ (u : List Event). map (raised a.first) u) d.done
              ∙ ap (λ (k : ℕ). events.Got k r ∷ journal_events a) number;
          text_is = line_of (codes "got s" ++ decimal s ++ codes " #" ++ decimal (p + 1)) text line rest line_is whole
              ∙ ap (λ (k : ℕ). (codes "got s" ++ decimal s ++ codes " #" ++ decimal k) ++ 10 ∷ rest) (sym number_is);
        }

-- ---- A step, or the Leave

pub step_none : (entries : List Entry) (a : Actor) (text : List ℕ) (left : ℕ) → left ≡ length text → begins_got text ≡ false → must_join a.client.events ≡ false →
    NoNextEvent a.client.who a.client.events a.left.now → NoneComes entries a text left
step_none entries a text left l b j none = (l, none_moves a.client.who a.first entries a.client.events a.left.now text b j none)

pub step_early : (entries : List Entry) (a : Actor) (text : List ℕ) (left : ℕ) → left ≡ length text → begins_got text ≡ false → must_join a.client.events ≡ false →
    is_welcomed a.client.events ≡ false → NoneComes entries a text left
step_early entries a text left l b j w = (l, not_welcomed a.client.who a.first entries a.client.events a.left.now text b j w)

pub step_other : (entries : List Entry) (a : Actor) (text line : List ℕ) (left : ℕ) (e : Event) (more : List Step) → left ≡ length text → begins_got text ≡ false → must_join a.client.events ≡ false →
    IsNextEvent a.client.who a.client.events a.left.now e more → line ≡ event_text entries (journal_events a) e ++ 10 ∷ [] → ((rest : List ℕ) → text ≡ line ++ rest → ⊥) → NoneComes entries a text left
step_other entries a text line left e more l b j next is none =
    (l, other_move a.client.who a.first entries a.client.events a.left.now text b j e more next (no_line (event_text entries (journal_events a) e) text line is none))

pub step_told : (entries : List Entry) (a b : Actor) (text line rest : List ℕ) (e : Event) → journal_events b ≡ e ∷ journal_events a → line ≡ event_text entries (journal_events a) e ++ 10 ∷ [] → text ≡ line ++ rest →
    IsLineOf entries (journal_events a) (journal_events b) text rest
step_told entries a b text line rest e now is whole = record { event = e; now_is = now; text_is = line_of (event_text entries (journal_events a) e) text line rest is whole }

-- Such an event names no session, and gets no reply.
record IsPlain (entries : List Entry) (first : ℕ) (place : ℕ) (t : List Event) (e : Event) : Type 0 where
  same : raised first e ≡ e
  again_is : again t e ≡ e
  number : number_from entries place e ≡ 0

plain_is : (entries : List Entry) (first place : ℕ) (t : List Event) (e : Event) → is_other e ≡ true → IsPlain entries first place t e
plain_is entries first place t (events.Join s) o = absurd (true≢false (sym o))
plain_is entries first place t (events.Got s reply) o = absurd (true≢false (sym o))
plain_is entries first place t (events.Make action) o = record { same = refl; again_is = refl; number = refl }
plain_is entries first place t events.Poll o = record { same = refl; again_is = refl; number = refl }
plain_is entries first place t (events.Observe objects wait) o = record { same = refl; again_is = refl; number = refl }
plain_is entries first place t events.Leave o = record { same = refl; again_is = refl; number = refl }
plain_is entries first place t events.Cut o = record { same = refl; again_is = refl; number = refl }
plain_is entries first place t events.Quit o = record { same = refl; again_is = refl; number = refl }
plain_is entries first place t (events.Show objects) o = record { same = refl; again_is = refl; number = refl }

pub step_done : (entries : List Entry) (a b : Actor) (e : Event) → is_other e ≡ true → b.first ≡ a.first → b.client.events ≡ e ∷ a.client.events → journal_events b ≡ e ∷ journal_events a
step_done entries a b e o same done =
    ap (λ (n : ℕ). map (raised n) b.client.events) same ∙ ap (λ (u : List Event). map (raised a.first) u) done
    ∙ ap (λ (d : Event). d ∷ journal_events a) (plain_is entries a.first a.place a.client.events e o).same

-- The line of a step as it is told, before it and after it.
pub step_line : (entries : List Entry) (a b : Actor) (e : Event) (out before after : List ℕ) → IsActing entries a → is_other e ≡ true → MayDo a.client.who a.client.events e →
    b.client.events ≡ e ∷ a.client.events → out ≡ [] → before ≡ out ++ text_before 0 a.client.events e → after ≡ before ++ text_after b.client.events e →
    after ≡ event_text entries (journal_events a) e
step_line entries a b e out before after g o may done none is_before is_after =
    let t = a.client.events in
    let plain = plain_is entries a.first a.place t e o in
    let proper = up_proper a.first a.client.who (e ∷ t) (may_follow a.client.who t e o may, g.proper) in
    let follows : MayFollow a.client.who a.first (journal_events a) e = subst (λ (d : Event). MayFollow a.client.who a.first (journal_events a) d) plain.same proper.0 in
    told_whole 0 t b.client.events e out before after (done ∙ ap (λ (d : Event). d ∷ t) (sym plain.again_is)) is_before is_after
    ∙ ap (λ (xs : List ℕ). xs ++ text_of 0 t e) none
    ∙ ap (λ (n : ℕ). text_of n t e) (sym plain.number)
    ∙ same_text a.first entries a.place a.client.who t e follows g.stands
